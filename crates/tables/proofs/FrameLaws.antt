-- What a write leaves of the books: an index table apart from it; and all that stands outside sector 1, if it is a write into sector 1.
--
use mathlib.Core.Path.{◌≡◌, refl, sym, ◌∙◌}
use mathlib.Core.Logic.{inl, inr, ⊎_elim}
use mathlib.Core.List.{List}
use Prim.Native.Nat.{ℕ, ◌+◌, ◌-◌, ◌*◌, ◌<◌}
use native.Mathlib.Omega.{arith}
use lib.ListN.{get_or, length, take, drop, length-take, length-drop}
use lib.Seq.{ext_get_or}
use Rattle.field.specs.Kept.{Kept, Apart}
use Rattle.field.proofs.NumberLaws.{u16_kept, u32_kept, get_d_part}
use Rattle.field.proofs.BitLaws.{bit_kept}
use Rattle.tables.specs.declared.places.Places.{Places}
use Rattle.tables.specs.Sector1.{indexes_of, first_free_of}
use Rattle.tables.specs.Places.{places_of, Layout}
use Rattle.tables.specs.Zones.{zone_at}
use Rattle.tables.specs.Sectors.{sector_at}
use Rattle.tables.specs.Indexes.{table_at, word_of, header_start, header_count}
use Rattle.tables.specs.Views.{View, view_of, header_over}
use Rattle.tables.specs.Same.{Same}
use Rattle.tables.specs.Rules.R1.{Tails}
use Rattle.tables.specs.Rules.R6.{HeaderLaw}
use Rattle.tables.specs.Rules.R9.{R9}
use Rattle.tables.specs.Lawful.{LawfulWith}
use Rattle.tables.specs.Books.{Sized, Marked, Placed, GoodWith}
use Rattle.tables.proofs.ZoneEntryLaws.{zone_kept}
use Rattle.tables.proofs.SameLaws.{same_ground, ground_R2, ground_R3, same_R4, same_R5, same_R6, same_owned, same_R8}

-- a write outside an index table leaves it
pub table_kept : {b b' : List ℕ} {o n : ℕ} (p : Places) (i : ℕ) → Kept b b' o n → Apart (p.indextable + 128 * (i - 1)) 128 o n → table_at p b' i ≡ table_at p b i
unfolding table_at
table_kept {b} {b'} {o} {n} p i k a =
    let at = p.indextable + 128 * (i - 1) in
    ext_get_or 0 (take 128 (drop at b')) (take 128 (drop at b)) (simp (length-take, length-drop, k.len))
    (λ j l. byte j (omega (arith, length-take 128 (drop (p.indextable + 128 * (i - 1)) b'))))
  where
    byte : (j : ℕ) → j < 128 → get_or (take 128 (drop (p.indextable + 128 * (i - 1)) b')) j 0 ≡ get_or (take 128 (drop (p.indextable + 128 * (i - 1)) b)) j 0
    byte j l =
        get_d_part b' (p.indextable + 128 * (i - 1)) 128 j l
        ∙ k.out (p.indextable + 128 * (i - 1) + j) (⊎_elim (λ h. inl (omega arith)) (λ h. inr (omega arith)) a)
        ∙ sym (get_d_part b (p.indextable + 128 * (i - 1)) 128 j l)

-- what is written apart from the header pointer leaves its law
pub header_start_kept : {t t' : List ℕ} {o n : ℕ} → Kept t t' o n → Apart 58 6 o n → header_start t' ≡ header_start t
header_start_kept k a = u32_kept 58 k (⊎_elim (λ q. inl (omega arith)) (λ q. inr (omega arith)) a)

pub header_count_kept : {t t' : List ℕ} {o n : ℕ} → Kept t t' o n → Apart 58 6 o n → header_count t' ≡ header_count t
header_count_kept k a = u16_kept 62 k (⊎_elim (λ q. inl (omega arith)) (λ q. inr (omega arith)) a)

pub header_kept : {v : View} {t t' : List ℕ} {o n : ℕ} → Kept t t' o n → Apart 58 6 o n → HeaderLaw v t → HeaderLaw v t'
header_kept k a h = record { run = λ u. rw (header_start_kept k a, header_count_kept k a) (h.run (rw (header_start_kept k a, header_count_kept k a) at u)) }

-- nor what it is over
pub header_over_kept : {t t' : List ℕ} {o n : ℕ} (i s : ℕ) → Kept t t' o n → Apart 58 6 o n → word_of t' ≡ word_of t → header_over i t' s ≡ header_over i t s
unfolding header_over
header_over_kept i s k a e = rw (header_start_kept k a, header_count_kept k a, e)

-- ---- writes into sector 1

module _ (b b' : List ℕ) (k : Kept b b' 1024 1024) where
  pub sector1_sized : Sized b → Sized b'
  sector1_sized h = record { whole = rw k.len h.whole; least = rw k.len h.least; most = rw k.len h.most }

  pub sector1_marked : Marked b → Marked b'
  sector1_marked h = record { mark = u32_kept 0 k (inl (omega arith)) ∙ h.mark; version = u32_kept 4 k (inl (omega arith)) ∙ h.version }

  pub sector1_places : indexes_of b' ≡ indexes_of b → places_of b' ≡ places_of b
  sector1_places n = rw (u32_kept 130 k (inl (omega arith)), n, u32_kept 138 k (inl (omega arith)), u32_kept 142 k (inl (omega arith)), u32_kept 146 k (inl (omega arith)))

  pub sector1_placed : indexes_of b' ≡ indexes_of b → Placed b → Placed b'
  sector1_placed n h = record {
    limits = record {
      least = rw (u32_kept 130 k (inl (omega arith))) h.limits.least;
      most = rw (u32_kept 130 k (inl (omega arith))) h.limits.most;
      some = rw n h.limits.some;
      few = rw n h.limits.few;
      zone = u16_kept 134 k (inl (omega arith)) ∙ h.limits.zone;
      sector = u16_kept 136 k (inl (omega arith)) ∙ h.limits.sector;
      index = u16_kept 150 k (inl (omega arith)) ∙ h.limits.index;
    };
    stand = rw (sector1_places n, k.len) h.stand;
  }

  module _ (p : Places) (lay : Layout p (length b)) where
    pub sector1_zone : (z : ℕ) → zone_at p b' z ≡ zone_at p b z
    sector1_zone z = zone_kept p z k (inr (omega arith))

    pub sector1_bit : (s : ℕ) → sector_at p b' s ≡ sector_at p b s
    sector1_bit s = bit_kept p.sectortable s k (inr (omega arith))

    pub sector1_table : (i : ℕ) → table_at p b' i ≡ table_at p b i
    sector1_table i = table_kept p i k (inr (omega arith))

    pub sector1_same : first_free_of b' ≡ first_free_of b → Same (view_of p b) (view_of p b')
    sector1_same head = record {
      zones = refl;
      indexes = refl;
      zone = λ z lo hi. sector1_zone z;
      bit = λ s l. sector1_bit s;
      table = λ i lo hi. sector1_table i;
      head = head;
    }

    pub sector1_tails : Tails p b → Tails p b'
    sector1_tails h = record {
      zone = λ j l. k.out _ (inr (omega arith)) ∙ h.zone j l;
      sector = λ j l. k.out _ (inr (omega arith)) ∙ h.sector j l;
    }

    -- with the first free index as it was, what is left to show is R9
    pub sector1_lawful : {extra : ℕ → ℕ} → first_free_of b' ≡ first_free_of b → R9 (view_of p b') → LawfulWith extra p b → LawfulWith extra p b'
    sector1_lawful head r9 h =
        let s = sector1_same head in
        let v = view_of p b in
        let v' = view_of p b' in
        record {
          r1 = record { stand = rw k.len h.r1.stand; tails = sector1_tails h.r1.tails };
          r2 = ground_R2 v v' (same_ground s) h.r2;
          r3 = ground_R3 v v' (same_ground s) h.r3;
          r4 = same_R4 v v' s h.r4;
          r5 = same_R5 v v' s h.r5;
          r6 = same_R6 v v' s h.r6;
          r7 = same_owned v v' s h.r7;
          r8 = same_R8 v v' s h.r6 h.r8;
          r9 = r9;
        }

  -- and with N too, all of the books' numbers
  pub sector1_good : (p : Places) {extra : ℕ → ℕ} → indexes_of b' ≡ indexes_of b → first_free_of b' ≡ first_free_of b → R9 (view_of p b') → GoodWith extra b p → GoodWith extra b' p
  sector1_good p n head r9 g = record {
    places = g.places ∙ sym (sector1_places n);
    sized = sector1_sized g.sized;
    marked = sector1_marked g.marked;
    placed = sector1_placed n g.placed;
    layout = rw k.len g.layout;
    lawful = sector1_lawful p g.layout head r9 g.lawful;
  }
