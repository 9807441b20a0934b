-- R1's tails: a law for each way out of what examines them, and the sector in which a tail stands.
use Rattle.std.specs.Prelude.{Some, None}
use mathlib.Core.Path.{◌≡◌, refl, ap}
use mathlib.Core.Logic.{inl, inr}
use mathlib.Core.Bool.{Bool, true, false, not}
use Prim.Native.Nat.{ℕ, ◌+◌, ◌-◌, ◌*◌, ◌/◌, ◌≤◌, ◌<◌}
use native.Mathlib.Decide.{dec_lt}
use native.Mathlib.Omega.{arith}
use mathlib.Core.List.{List}
use lib.ListN.{get_or, length}
use Rattle.field.specs.Says.{Says}
use Rattle.field.specs.Parts.{AllBytes}
use Rattle.field.proofs.Tests.{passed, refused}
use Rattle.tables.specs.declared.places.Places.{Places}
use Rattle.tables.specs.Each.{Each}
use Rattle.tables.specs.Rules.R1.{zone_bytes, sector_bytes, Tails}
use Rattle.tables.specs.Sector0.{zone_start_of, sector_start_of}
use Rattle.examination.specs.Examined.{PlacedAt}
use Rattle.examination.specs.Findings.{Finds}
use Rattle.examination.specs.Rulings.{TailByte, TailLaw}

-- the tail of the zone table, and of the sector table
abbrev pub ZoneTail : Places → List ℕ → Type 0
ZoneTail p b = AllBytes b (p.zonetable + 6 * p.zones) (zone_bytes p.zones - 6 * p.zones) 0

abbrev pub SectorTail : Places → List ℕ → Type 0
SectorTail p b = AllBytes b (p.sectortable + 128 * p.zones) (sector_bytes p.zones - 128 * p.zones) 0

-- ---- sectors of the books

-- an offset within a run of bytes
within : (b : List ℕ) (from n o : ℕ) → AllBytes b from n 0 → from ≤ o → o < from + n → get_or b o 0 ≡ 0
within b from n o all lo hi = let e : from + (o - from) ≡ o = omega arith in rw e at (all (o - from) (omega arith))

-- a tail that is not null has a byte
some : (b : List ℕ) (from start len : ℕ) (r : Bool) → Says r (AllBytes b (from + start) (len - start) 0) → not r ≡ true → from + start < from + len
some b from start len r s e = elim (dec_lt start len) [ yes l ↦ omega arith | no h ↦ absurd (refused r s e (λ k l. absurd (omega arith))) ]

module _ (p : Places) (b : List ℕ) (at : PlacedAt b p) where
  zones : p.zonetable ≡ 1024 * zone_start_of b
  zones = ap (λ (x : Places). x.zonetable) at.places

  sectors : p.sectortable ≡ 1024 * sector_start_of b
  sectors = ap (λ (x : Places). x.sectortable) at.places

  -- a tail stands in one sector
  module _ (o : ℕ) where
    sector_one : p.sectortable + 128 * p.zones ≤ o → o < p.sectortable + sector_bytes p.zones → o / 1024 ≡ (p.sectortable + 128 * p.zones) / 1024
    sector_one lo hi = omega (arith, sectors)

    -- and both stand within the books
    zone_within : o < p.zonetable + zone_bytes p.zones → o / 1024 < length b / 1024
    zone_within hi = omega (arith, at.stand.sector, at.stand.index, at.stand.end, at.sized.whole)

    sector_within : o < p.sectortable + sector_bytes p.zones → o / 1024 < length b / 1024
    sector_within hi = omega (arith, at.stand.index, at.stand.end, at.sized.whole)

  tail_null : Tails p b → (o : ℕ) → TailByte p o → get_or b o 0 ≡ 0
  tail_null t o (inl h) = within b _ _ o t.zone h.0 (omega (arith, h.1))
  tail_null t o (inr h) = within b _ _ o t.sector h.0 (omega (arith, h.1))

  -- R1's tails are null exactly if they are in each sector of the books
  pub tails_each : Tails p b → Each (TailLaw p b) 0 (length b / 1024)
  tails_each t s l lo o byte e = tail_null t o byte

  pub each_tails : Each (TailLaw p b) 0 (length b / 1024) → Tails p b
  each_tails each = record { zone = λ k l. zone (p.zonetable + 6 * p.zones + k) (omega arith) (omega arith); sector = λ k l. sector (p.sectortable + 128 * p.zones + k) (omega arith) (omega arith) }
    where
      zone : (o : ℕ) → p.zonetable + 6 * p.zones ≤ o → o < p.zonetable + zone_bytes p.zones → get_or b o 0 ≡ 0
      zone o lo hi = each (o / 1024) (zone_within o hi) (omega arith) o (inl (lo, hi)) refl

      sector : (o : ℕ) → p.sectortable + 128 * p.zones ≤ o → o < p.sectortable + sector_bytes p.zones → get_or b o 0 ≡ 0
      sector o lo hi = each (o / 1024) (sector_within o hi) (omega arith) o (inr (lo, hi)) refl

  module _ (q r : Bool) (s : Says q (ZoneTail p b)) (e : not q ≡ false) (t : Says r (SectorTail p b)) where
    -- the sector table's is not
    pub sector_fails : (n : ℕ) → not r ≡ true → n ≡ (p.sectortable + 128 * p.zones) / 1024 → Finds (TailLaw p b) 0 (length b / 1024) (Some n)
    sector_fails n f is = rw is (record { low = omega arith; high = high; fails = fails; below = below })
      where
        fails : TailLaw p b ((p.sectortable + 128 * p.zones) / 1024) → ⊥
        fails law = refused r t f (λ k l. law (p.sectortable + 128 * p.zones + k) (inr (omega arith, omega arith)) (sector_one (p.sectortable + 128 * p.zones + k) (omega arith) (omega arith)))

        high : (p.sectortable + 128 * p.zones) / 1024 < length b / 1024
        high = sector_within (p.sectortable + 128 * p.zones) (some b p.sectortable (128 * p.zones) (sector_bytes p.zones) r t f)

        below : Each (TailLaw p b) 0 ((p.sectortable + 128 * p.zones) / 1024)
        below k l lo o (inl h) e' = within b _ _ o (passed q s e) h.0 (omega (arith, h.1))
        below k l lo o (inr h) e' = absurd (omega (arith, sector_one o h.0 h.1))

    -- both are
    pub tails_hold : not r ≡ false → Finds (TailLaw p b) 0 (length b / 1024) None
    tails_hold f = tails_each (record { zone = passed q s e; sector = passed r t f })
