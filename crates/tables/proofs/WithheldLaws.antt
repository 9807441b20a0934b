-- Withheld blocks: they lie apart, outside zones 1 and Z, in zones that are not open; what R7 says of them, in the paper's words too; and that
-- they are the same in books whose zones keep their types.
use mathlib.Core.Path.{◌≡◌, refl, sym, ap, ◌∙◌}
use mathlib.Core.Logic.{inl, inr, ⊎_elim}
use mathlib.Core.Bool.{Bool, true, false}
use mathlib.Core.List.{List, [], ◌∷◌, ◌++◌}
use Prim.Native.Nat.{ℕ, zero, suc, ◌+◌, ◌-◌, ◌*◌, ◌/◌, ◌%◌, ◌≤◌, ◌<◌}
use native.Mathlib.Nat.{div-add-mod', div-lt_iff_lt-mul, mul-le-mul_right}
use native.Mathlib.Decide.{ℕ_discrete, dec_lt, dec_le}
use native.Mathlib.Omega.{arith}
use lib.ListN.{get_or, length}
use Rattle.field.proofs.Sums.{sum_some, sum_part, sum_once, sum_same}
use Rattle.tables.specs.declared.places.Places.{Places}
use Rattle.tables.specs.declared.zone.ZoneEntry.{ZoneEntry}
use Rattle.tables.specs.Kinds.{zone_of, first_of}
use Rattle.tables.specs.Blocks.{block_of, Block}
use Rattle.tables.specs.Books.{GoodWith, Good, place_tests, book_tests}
use Rattle.tables.specs.Gates.{asks, Gate}
use Rattle.field.specs.Sum.{sum_to}
use Rattle.tables.specs.Lawful.{LawfulWith, Lawful}
use Rattle.tables.specs.Open.{is_open}
use Rattle.tables.specs.Places.{places_of}
use Rattle.tables.specs.Views.{View, view_of, cov, pointers_over, headers_over, claims_over}
use Rattle.tables.specs.Withheld.{block_at, StartsBlock, Withholds, withheld_over, Withheld, KeepsTypes}
use Rattle.tables.specs.Rules.R2.{R2}
use Rattle.tables.specs.Rules.R3.{R3}
use Rattle.tables.specs.Rules.R7.{Owned, nothing, R7, Owner, SectorWords}
use Rattle.tables.proofs.BlockLaws.{data_block, block_end}
use Rattle.tables.proofs.GateLaws.{gate_swap, gate_slip, slip_gate}
use Rattle.tables.proofs.PointerLaws.{cov_in, cov_cases, claims_are, claimed_owner, under_one, header_one, over_once, headers_once, under_counts, header_counts, under_claims, header_claims, under_some, header_some}
use Rattle.tables.proofs.RoomLaws.{open_clear}

-- ---- a block that begins at sector s

module _ (v : View) (s : ℕ) (h : StartsBlock v s) where
  start_block : Block (block_at v s)
  start_block = data_block (v.zone (zone_of s)).ztype h.typed

  -- so many blocks of its zone come before it
  pub start_at : s % 1024 / block_at v s * block_at v s ≡ s % 1024
  start_at = omega (arith, div-add-mod' (s % 1024) (block_at v s), h.start)

  pub start_few : s % 1024 / block_at v s < 1024 / block_at v s
  start_few = (div-lt_iff_lt-mul start_block.some).1 (omega (arith, start_block.whole))

  -- it ends within the zone
  pub start_within : s % 1024 + block_at v s ≤ 1024
  start_within = omega (arith, start_at, block_end (s % 1024 / block_at v s) (1024 / block_at v s) (block_at v s) start_few, start_block.whole)

  pub start_zone : (n : ℕ) → s ≤ n → n < s + block_at v s → zone_of n ≡ zone_of s
  start_zone n lo hi = omega (arith, start_within)

-- of two the lower one ends before the other begins: in one zone they are some blocks of one size apart
pub starts_apart : (v : View) (s t : ℕ) → StartsBlock v s → StartsBlock v t → s < t → s + block_at v s ≤ t
starts_apart v s t h k l = elim (ℕ_discrete (s / 1024) (t / 1024)) [
  | no ne ↦ omega (arith, start_within v s h)
  | yes e ↦ (let same : block_at v t ≡ block_at v s = ap (λ (z : ℕ). block_of (v.zone (z + 1)).ztype) (sym e) in in_zone e (rw same at (start_at v t k)))
]
  where
    in_zone : s / 1024 ≡ t / 1024 → t % 1024 / block_at v s * block_at v s ≡ t % 1024 → s + block_at v s ≤ t
    in_zone e at = elim (dec_lt (s % 1024 / block_at v s) (t % 1024 / block_at v s)) [
      | yes lt ↦ omega (arith, start_at v s h, block_end (s % 1024 / block_at v s) (t % 1024 / block_at v s) (block_at v s) lt)
      | no nl ↦ absurd (omega (arith, start_at v s h, mul-le-mul_right {m = t % 1024 / block_at v s} {n = s % 1024 / block_at v s} (block_at v s) (omega arith)))
    ]

-- ---- the list

module _ (v : View) (withheld : List ℕ) (h : Withholds v withheld) where
  ascends : (j k : ℕ) → j < k → k < length withheld → get_or withheld j 0 < get_or withheld k 0
  ascends j zero l m = absurd (omega arith)
  ascends j (suc k) l m = elim (ℕ_discrete j k) [ yes e ↦ rw e (h.ascending k m) | no ne ↦ omega (arith, ascends j k (omega arith) (omega arith), h.ascending k m) ]

  -- the blocks lie apart
  pub withheld_apart : (j k : ℕ) → j < k → k < length withheld → get_or withheld j 0 + block_at v (get_or withheld j 0) ≤ get_or withheld k 0
  withheld_apart j k l m =
      starts_apart v (get_or withheld j 0) (get_or withheld k 0) (h.starts j (omega arith)) (h.starts k m) (ascends j k l m)

  pub withheld_once : (s : ℕ) → withheld_over v withheld s ≤ 1
  unfolding withheld_over
  withheld_once s = sum_once (length withheld) (λ k. cov (get_or withheld k 0) (block_at v (get_or withheld k 0)) s)
      (λ k l. ⊎_elim (λ c. omega (arith, c.one)) (λ z. omega arith) (cov_cases (get_or withheld k 0) (block_at v (get_or withheld k 0)) s)) (λ k l j m hk hj. one k l j m hk hj)
    where
      one : (k : ℕ) → k < length withheld → (j : ℕ) → j < length withheld → 0 < cov (get_or withheld k 0) (block_at v (get_or withheld k 0)) s
          → 0 < cov (get_or withheld j 0) (block_at v (get_or withheld j 0)) s → k ≡ j
      one k l j m hk hj = ⊎_elim (λ c. ⊎_elim (λ d. elim (dec_lt k j) [
        | yes lt ↦ absurd (omega (arith, withheld_apart k j lt m, c.high, d.low))
        | no nl ↦ elim (dec_lt j k) [ yes lt ↦ absurd (omega (arith, withheld_apart j k lt l, d.high, c.low)) | no ml ↦ omega arith ]
      ]) (λ z. absurd (omega arith)) (cov_cases (get_or withheld j 0) (block_at v (get_or withheld j 0)) s)) (λ z. absurd (omega arith)) (cov_cases (get_or withheld k 0) (block_at v (get_or withheld k 0)) s)

  -- outside zones 1 and Z, which have other types
  module _ (r2 : R2 v) where
    start_inside : (k : ℕ) → k < length withheld → (2 ≤ zone_of (get_or withheld k 0)) × (zone_of (get_or withheld k 0) < v.zones)
    start_inside k l =
        let s = get_or withheld k 0 in
        let at = h.starts k l in
        let law = r2 (zone_of s) (omega (arith, at.inside)) (omega arith) in (
          elim (dec_le 2 (zone_of s)) [ yes lo ↦ lo | no nl ↦ absurd (omega (arith, (law.first (omega arith)).0.ztype, at.typed.low)) ],
          elim (dec_lt (zone_of s) v.zones) [ yes hi ↦ hi | no nh ↦ absurd (omega (arith, (law.last (omega (arith, at.inside))).0.ztype, at.typed.high)) ],
        )

    pub withheld_inside : (s : ℕ) → Withheld v withheld s → (1024 ≤ s) × (s < 1024 * (v.zones - 1))
    withheld_inside s (k, w) =
        let i = start_inside k w.one in
        let z = start_zone v (get_or withheld k 0) (h.starts k w.one) s w.from w.to in
        (omega (arith, i.0), omega (arith, i.1))

-- as a count
module _ (v : View) (withheld : List ℕ) (s : ℕ) where
  pub withheld_counts : Withheld v withheld s → 0 < withheld_over v withheld s
  unfolding withheld_over
  withheld_counts (k, w) =
      omega (arith, cov_in _ _ s w.from w.to, sum_part (length withheld) k (λ k. cov (get_or withheld k 0) (block_at v (get_or withheld k 0)) s) w.one)

  pub counts_withheld : 0 < withheld_over v withheld s → Withheld v withheld s
  unfolding withheld_over
  counts_withheld h =
      let o = sum_some (length withheld) _ h in
      (o.0, ⊎_elim (λ c. record { one = o.1; from = c.low; to = c.high }) (λ z. absurd (omega (arith, o.2))) (cov_cases _ _ s))

-- ---- R7 in the paper's words

module _ (v : View) (withheld : List ℕ) (s : ℕ) (bit : v.bit s < 2) where
  -- the words at a sector are the count, and nothing else
  pub words_count : Withholds v withheld → SectorWords v withheld s → claims_over v s + withheld_over v withheld s ≡ v.bit s
  words_count h w =
      let claims : claims_over v s ≤ 1 = claimed_once in
      let once = withheld_once v withheld h s in
      elim (dec_lt 0 (claims_over v s)) [
        | yes c ↦ (let o = claimed_owner v s c in elim (dec_lt 0 (withheld_over v withheld s)) [
          | yes d ↦ absurd (w.never o (counts_withheld v withheld s d))
          | no d ↦ omega (arith, w.owned o)
        ])
        | no c ↦ elim (dec_lt 0 (withheld_over v withheld s)) [
          | yes d ↦ omega (arith, w.kept (counts_withheld v withheld s d))
          | no d ↦ elim (ℕ_discrete (v.bit s) 1) [
            | yes e ↦ absurd (⊎_elim (λ o. c (⊎_elim (λ u. under_claims v s u.0 u.1 u.2) (λ u. header_claims v s u.0 u.1) o)) (λ k. d (withheld_counts v withheld s k)) (w.set e))
            | no ne ↦ omega arith
          ]
        ]
      ]
    where
      claimed_once : claims_over v s ≤ 1
      claimed_once =
          let pointers = over_once v s w.one in
          let headers = headers_once v s w.header in
          elim (dec_lt 0 (pointers_over v s)) [
            | no p ↦ omega (arith, claims_are v s)
            | yes p ↦ (let u = under_some v s p in elim (dec_lt 0 (headers_over v s)) [
              | yes q ↦ (let h = header_some v s q in absurd (w.apart u.0 u.1 h.0 u.2 h.1))
              | no q ↦ omega (arith, claims_are v s)
            ])
          ]

  pub count_words : claims_over v s + withheld_over v withheld s ≡ v.bit s → SectorWords v withheld s
  count_words e = record {
    one = λ i j k l u w. under_one v s (omega (arith, claims_are v s)) i j u k l w;
    header = λ i k u w. header_one v s (omega (arith, claims_are v s)) i k u w;
    apart = λ i j k u w. omega (arith, claims_are v s, under_counts v s i j u, header_counts v s k w);
    set = λ h. elim (dec_lt 0 (claims_over v s)) [ yes c ↦ inl (claimed_owner v s c) | no c ↦ inr (counts_withheld v withheld s (omega arith)) ];
    owned = λ o. omega (arith, owner_claims o);
    kept = λ k. omega (arith, withheld_counts v withheld s k);
    never = λ o k. omega (arith, owner_claims o, withheld_counts v withheld s k);
  }
    where
      owner_claims : Owner v s → 0 < claims_over v s
      owner_claims = ⊎_elim (λ u. under_claims v s u.0 u.1 u.2) (λ u. header_claims v s u.0 u.1)

-- R7 follows from the words at each sector outside zones 1 and Z
pub words_R7 : (v : View) (withheld : List ℕ) → ((s : ℕ) → v.bit s < 2) → Withholds v withheld
    → ((s : ℕ) → s < 1024 * (v.zones - 1) → 1024 ≤ s → SectorWords v withheld s) → R7 v withheld
words_R7 v withheld bits list h = record { count = λ s l lo. words_count v withheld s (bits s) list (h s l lo) }

-- ---- "a zone with a withheld block is never open and keeps its type"

-- whatever is set besides: where R2, R3 and R7 hold, its zone is not open
pub extra_begun : (v : View) {extra : ℕ → ℕ} → R2 v → R3 v → Owned v extra → (s : ℕ) → s < 1024 * (v.zones - 1) → 1024 ≤ s → 0 < extra s → is_open (v.zone (zone_of s)) ≡ false
extra_begun v r2 r3 r7 s l lo some = go (is_open (v.zone (zone_of s))) refl
  where
    go : (r : Bool) → is_open (v.zone (zone_of s)) ≡ r → r ≡ false
    go false e = refl
    go true e =
        let at : first_of (zone_of s) + s % 1024 ≡ s = omega arith in
        let clear = open_clear v r2 (zone_of s) (omega arith) (omega arith) r3 e (s % 1024) (omega arith) in
        absurd (omega (arith, r7.count s l lo, ap v.bit at, clear))

-- the theorem's first half; the other is `KeepsTypes`, which each request that changes zone entries is shown to have
pub withheld_begun : (v : View) (withheld : List ℕ) → Withholds v withheld → R2 v → R3 v → R7 v withheld → (s : ℕ) → Withheld v withheld s → is_open (v.zone (zone_of s)) ≡ false
withheld_begun v withheld h r2 r3 r7 s w =
    let i = withheld_inside v withheld h r2 s w in
    extra_begun v r2 r3 r7 s i.1 i.0 (withheld_counts v withheld s w)

-- ---- the same list in books whose zones keep their types

pub keeps_same : (extra : ℕ → ℕ) (v v' : View) → ((z : ℕ) → 1 ≤ z → z ≤ v.zones → v'.zone z ≡ v.zone z) → KeepsTypes extra v v'
keeps_same extra v v' same s l lo some = ap (λ (e : ZoneEntry). e.ztype) (same (zone_of s) (omega arith) (omega arith))

pub keeps_trans : (extra : ℕ → ℕ) (u v w : View) → v.zones ≡ u.zones → KeepsTypes extra u v → KeepsTypes extra v w → KeepsTypes extra u w
keeps_trans extra u v w e f g s l lo some = g s (rw e l) lo some ∙ f s l lo some

module _ (v v' : View) (withheld : List ℕ) (zones : v'.zones ≡ v.zones) (h : Withholds v withheld) (r2 : R2 v) (keeps : KeepsTypes (withheld_over v withheld) v v') where
  kept_type : (k : ℕ) → k < length withheld → (v'.zone (zone_of (get_or withheld k 0))).ztype ≡ (v.zone (zone_of (get_or withheld k 0))).ztype
  kept_type k l =
      let s = get_or withheld k 0 in
      let here : Withheld v withheld s = (k, record { one = l; from = omega arith; to = omega (arith, (start_block v s (h.starts k l)).some) }) in
      let i = withheld_inside v withheld h r2 s here in
      keeps s i.1 i.0 (withheld_counts v withheld s here)

  pub kept_over : (s : ℕ) → withheld_over v' withheld s ≡ withheld_over v withheld s
  unfolding withheld_over
  kept_over s = sum_same (length withheld) _ _ (λ k l. ap (λ (t : ℕ). cov (get_or withheld k 0) (block_of t) s) (kept_type k l))

  pub kept_list : Withholds v' withheld
  kept_list = record {
    few = h.few;
    ascending = h.ascending;
    starts = λ k l. (let at = h.starts k l in record { inside = rw zones at.inside; typed = rw (kept_type k l) at.typed; start = rw (kept_type k l) at.start });
  }

-- books in which as much is set besides
pub lawful_same : {extra extra' : ℕ → ℕ} (p : Places) (b : List ℕ) → ((s : ℕ) → extra' s ≡ extra s) → LawfulWith extra p b → LawfulWith extra' p b
lawful_same p b same l = record {
  r1 = l.r1;
  r2 = l.r2;
  r3 = l.r3;
  r4 = l.r4;
  r5 = l.r5;
  r6 = l.r6;
  r7 = record { count = λ s h lo. omega (arith, same s, l.r7.count s h lo) };
  r8 = l.r8;
  r9 = l.r9;
}

pub good_same : {extra extra' : ℕ → ℕ} (b : List ℕ) (p : Places) → ((s : ℕ) → extra' s ≡ extra s) → GoodWith extra b p → GoodWith extra' b p
good_same b p same g = record {
  places = g.places;
  sized = g.sized;
  marked = g.marked;
  placed = g.placed;
  layout = g.layout;
  lawful = lawful_same p b same g.lawful;
}

-- a request that keeps the rules with the same sectors set besides, and the types of their zones, keeps books and list good
pub good_kept : (b b' withheld : List ℕ) (p : Places) → Good b withheld p → GoodWith (withheld_over (view_of p b) withheld) b' p
    → KeepsTypes (withheld_over (view_of p b) withheld) (view_of p b) (view_of p b') → Good b' withheld p
good_kept b b' withheld p g g' keeps =
    let r2 = g.books.lawful.r2 in
    record {
      list = kept_list (view_of p b) (view_of p b') withheld refl g.list r2 keeps;
      books = good_same b' p (kept_over (view_of p b) (view_of p b') withheld refl g.list r2 keeps) g';
    }

-- ---- an empty list

pub none_withheld : (v : View) (s : ℕ) → withheld_over v [] s ≡ 0
unfolding withheld_over sum_to
none_withheld v s = refl

pub none_list : (v : View) → Withholds v []
none_list v = record { few = omega arith; ascending = λ k l. absurd (omega arith); starts = λ k l. absurd (omega arith) }

-- it gives the rules as they were without one
pub empty_lawful : (p : Places) (b : List ℕ) → LawfulWith nothing p b → Lawful p b []
empty_lawful p b = lawful_same p b (none_withheld (view_of p b))

pub lawful_empty : (p : Places) (b : List ℕ) → Lawful p b [] → LawfulWith nothing p b
lawful_empty p b = lawful_same p b (λ s. sym (none_withheld (view_of p b) s))

-- and the numbers: the list enters every promise through these tests alone
pub empty_gate : (b : List ℕ) (n : ℕ) → Gate (place_tests b ++ (asks 4 (LawfulWith nothing (places_of b) b) ∷ [])) n → Gate (book_tests b []) n
empty_gate b n g = gate_slip (place_tests b) _ n 7 (Withholds (view_of (places_of b) b) []) (none_list (view_of (places_of b) b))
    (gate_swap (place_tests b) [] 4 (LawfulWith nothing (places_of b) b) (Lawful (places_of b) b []) n (empty_lawful (places_of b) b) (lawful_empty (places_of b) b) g)

pub gate_empty : (b : List ℕ) (n : ℕ) → Gate (book_tests b []) n → Gate (place_tests b ++ (asks 4 (LawfulWith nothing (places_of b) b) ∷ [])) n
gate_empty b n g = gate_swap (place_tests b) [] 4 (Lawful (places_of b) b []) (LawfulWith nothing (places_of b) b) n (lawful_empty (places_of b) b) (empty_lawful (places_of b) b)
    (slip_gate (place_tests b) _ n 7 (Withholds (view_of (places_of b) b) []) (none_list (view_of (places_of b) b)) g)
