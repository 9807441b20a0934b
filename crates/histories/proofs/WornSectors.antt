-- Withheld sectors over histories, sentence by sentence of W7: "a zone with a withheld block is never open and keeps its type"; "free, withheld, or
-- one place of one file"; "the total of free, owned, withheld and system sectors, each counted by its own rule, is 1024Z"; and no request takes
-- or frees a withheld sector. The list is the same throughout, since every step of a history leaves it.
use mathlib.Core.Path.{◌≡◌}
use mathlib.Core.Logic.{inl, inr}
use mathlib.Core.Bool.{false}
use Prim.Native.Nat.{ℕ, ◌+◌, ◌-◌, ◌*◌, ◌≤◌, ◌<◌}
use native.Mathlib.Omega.{arith}
use Rattle.field.proofs.BitLaws.{bit_at_lt}
use Rattle.tables.specs.Books.{Good}
use Rattle.tables.specs.Kinds.{zone_of}
use Rattle.tables.specs.Open.{is_open}
use Rattle.tables.specs.Places.{places_of}
use Rattle.tables.specs.Rules.R7.{Owner}
use Rattle.tables.specs.Totals.{free_sectors, owned_sectors, withheld_sectors, system_sectors}
use Rattle.tables.specs.Withheld.{withheld_over, Withheld}
use Rattle.tables.proofs.GateLaws.{zero_good}
use Rattle.tables.proofs.PointerLaws.{extra_set}
use Rattle.tables.proofs.TotalLaws.{sectors_total}
use Rattle.tables.proofs.WithheldLaws.{withheld_inside, withheld_begun, withheld_counts, counts_withheld}
use Rattle.files.proofs.SectorPlaceLaws.{kth_under}
use Rattle.histories.specs.History.{Volume, seen, LawfulVolume, RequestStep, History, Belongs, HeaderAt}
use Rattle.histories.proofs.HistoryLaws.{withheld_after}
use Rattle.histories.proofs.StepFrame.{step_lawful, step_types, step_over}

-- ---- a lawful volume

module _ (w : Volume) (lawful : LawfulVolume w) where
  good : Good w.books w.withheld (places_of w.books)
  good = zero_good w.books w.withheld lawful.lawful

  bits : (s : ℕ) → (seen w).bit s < 2
  bits s = bit_at_lt w.books (places_of w.books).sectortable s

  -- a withheld sector lies outside the system zones
  pub worn_inside : (s : ℕ) → Withheld (seen w) w.withheld s → (1024 ≤ s) × (s < 1024 * ((seen w).zones - 1))
  worn_inside s here = withheld_inside (seen w) w.withheld good.list good.books.lawful.r2 s here

  -- its bit is set, and it is nobody's
  worn_set : (s : ℕ) → Withheld (seen w) w.withheld s → ((seen w).bit s ≡ 1) × (Owner (seen w) s → ⊥)
  worn_set s here =
      let i = worn_inside s here in
      extra_set (seen w) good.books.lawful.r6 good.books.lawful.r7 bits s i.1 i.0 (withheld_counts (seen w) w.withheld s here)

  pub worn_in_use : (s : ℕ) → Withheld (seen w) w.withheld s → (seen w).bit s ≡ 1
  worn_in_use s here = (worn_set s here).0

  pub worn_no_data : (f k s : ℕ) → Withheld (seen w) w.withheld s → Belongs w f k s → ⊥
  worn_no_data f k s here own =
      let g = good.books in
      let u = kth_under (places_of w.books) w.books g.layout g.lawful f k own.file own.place in
      (worn_set s here).1 (inl (u.0, u.1, rw own.here at u.2))

  pub worn_no_header : (f k s : ℕ) → Withheld (seen w) w.withheld s → HeaderAt w f k s → ⊥
  worn_no_header f k s here own =
      (worn_set s here).1 (inr (f, record { parent = own.file; from = omega (arith, own.here); to = omega (arith, own.here, own.place) }))

  -- "a zone with a withheld block is never open"
  pub worn_not_open : (s : ℕ) → Withheld (seen w) w.withheld s → is_open ((seen w).zone (zone_of s)) ≡ false
  worn_not_open s here = let l = good.books.lawful in withheld_begun (seen w) w.withheld good.list l.r2 l.r3 l.r7 s here

  -- "the total of free, owned, withheld and system sectors, each counted by its own rule, is 1024Z"
  pub worn_total : free_sectors (seen w) + owned_sectors (seen w) + withheld_sectors (seen w) w.withheld + system_sectors ≡ 1024 * (seen w).zones
  worn_total =
      let l = good.books.lawful in
      sectors_total (seen w) w.withheld (omega (arith, good.books.layout.least)) bits l.r2 l.r6 good.list l.r7

-- ---- a request

module _ (w x : Volume) (lawful : LawfulVolume w) (st : RequestStep w x) where
  same : (s : ℕ) → withheld_over (seen x) x.withheld s ≡ withheld_over (seen w) w.withheld s
  same = step_over w x lawful st.request st.does

  -- "and keeps its type"
  pub worn_type : (s : ℕ) → Withheld (seen w) w.withheld s → ((seen x).zone (zone_of s)).ztype ≡ ((seen w).zone (zone_of s)).ztype
  worn_type s here = let i = worn_inside w lawful s here in step_types w x lawful st.request st.does s i.1 i.0 (withheld_counts (seen w) w.withheld s here)

  -- the request frees no withheld sector: it is withheld afterwards
  pub worn_stays : (s : ℕ) → Withheld (seen w) w.withheld s → Withheld (seen x) x.withheld s
  worn_stays s here = counts_withheld (seen x) x.withheld s (omega (arith, same s, withheld_counts (seen w) w.withheld s here))

  -- and no other sector comes to be withheld
  pub worn_before : (s : ℕ) → Withheld (seen x) x.withheld s → Withheld (seen w) w.withheld s
  worn_before s here = counts_withheld (seen w) w.withheld s (omega (arith, same s, withheld_counts (seen x) x.withheld s here))

  -- nor does the request take one: no file has it afterwards, as data or as header
  pub worn_not_taken : (f k s : ℕ) → Withheld (seen w) w.withheld s → Belongs x f k s → ⊥
  worn_not_taken f k s here = worn_no_data x (step_lawful w x lawful st.request st.does) f k s (worn_stays s here)

  pub worn_not_headed : (f k s : ℕ) → Withheld (seen w) w.withheld s → HeaderAt x f k s → ⊥
  worn_not_headed f k s here = worn_no_header x (step_lawful w x lawful st.request st.does) f k s (worn_stays s here)

-- ---- any number of requests: with `still-lawful` what is said of a lawful volume holds after them, and the same sectors are withheld

module _ (v w : Volume) (start : LawfulVolume v) (h : History v w) (s : ℕ) where
  pub worn_throughout : Withheld (seen v) v.withheld s → Withheld (seen w) w.withheld s
  worn_throughout here = counts_withheld (seen w) w.withheld s (omega (arith, withheld_after v w start h s, withheld_counts (seen v) v.withheld s here))

  pub worn_from_start : Withheld (seen w) w.withheld s → Withheld (seen v) v.withheld s
  worn_from_start here = counts_withheld (seen v) v.withheld s (omega (arith, withheld_after v w start h s, withheld_counts (seen w) w.withheld s here))
