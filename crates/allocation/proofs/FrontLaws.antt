-- A file's parent of which bytes 8 to 63, what stands before its pointers, may be others: the file's pointers stay, and the rules but R9 and what
-- R6 and R7 say of its header pointer, which are asked for.
use mathlib.Core.Path.{◌≡◌, refl, sym, ap, ap₂, ◌∙◌}
use mathlib.Core.Logic.{◌≢◌, inl, inr}
use mathlib.Core.List.{List}
use Prim.Native.Nat.{ℕ, suc, ◌+◌, ◌-◌, ◌*◌, ◌≤◌, ◌<◌}
use native.Mathlib.Decide.{ℕ_discrete}
use native.Mathlib.Omega.{arith}
use Rattle.field.specs.Kept.{Kept}
use Rattle.field.proofs.Frames.{kept_refl}
use Rattle.field.proofs.NumberLaws.{u32_kept}
use Rattle.field.proofs.Sums.{sum_same}
use Rattle.tables.specs.Kinds.{zone_of}
use Rattle.tables.specs.Same.{Ground}
use Rattle.tables.specs.Indexes.{word_of, parent_of, minus, slots_of, base_of, start_of, count_of, Used, sectors_of, file_of}
use Rattle.tables.specs.Views.{View, Parent, Child, walk, next, cov, header_over, claims_of, over_of, Under}
use Rattle.tables.specs.Rules.R5.{Stands}
use Rattle.tables.specs.Rules.R6.{HeaderLaw}
use Rattle.tables.specs.Rules.R8.{file_sectors, InType}
use Rattle.tables.specs.Rules.R9.{R9}
use Rattle.tables.proofs.Sector1CountLaws.{only_eq}
use Rattle.tables.proofs.SameLaws.{ground_R2, ground_R3}
use Rattle.tables.proofs.IndexLaws.{base_parent}
use Rattle.allocation.specs.Held.{ShapeBut, Held}
use Rattle.allocation.proofs.PointerBytes.{word_kept, parent_kept, slots_kept, file_kept, start_kept, count_kept}
use Rattle.allocation.proofs.ChangeLaws.{Changed, Stays, stays_same, member_begins, parent_file, ground_run, walk_stays, chain_stays, parent_there, begins_was, stay_R4, changed_R5, changed_R6, pointers_at, sectors_at, under_zone, changed_types, changed_R8}

-- of file f's parent only bytes 8 to 63 are others, of sector 1 what R9 alone sees
pub record Fronted (v v' : View) (f : ℕ) : Type 0 where
  pub ground : Ground v v'
  pub indexes : v'.indexes ≡ v.indexes
  pub head : v'.head ≡ v.head
  pub here : Kept (v.table f) (v'.table f) 8 56
  pub there : (j : ℕ) → 1 ≤ j → j ≤ v.indexes → j ≢ f → v'.table j ≡ v.table j

pub fronted_parent : (v v' : View) (f : ℕ) → Fronted v v' f → Parent v f → Parent v' f
fronted_parent v v' f w parent = record { low = parent.low; high = rw w.indexes parent.high; word = word_kept f w.here (omega arith) ∙ parent.word }

module _ (v v' : View) (f : ℕ) (w : Fronted v v' f) (few : v.indexes ≤ 4096) (parent : Parent v f) where
  abbrev t : List ℕ
  t = v.table f

  abbrev t' : List ℕ
  t' = v'.table f

  base : base_of f t ≡ 64
  base = base_parent f t parent.word

  same_slots : slots_of f t' ≡ slots_of f t
  same_slots = slots_kept f w.here (omega arith)

  pub fronted_start : (j : ℕ) → start_of f t' j ≡ start_of f t j
  fronted_start j = start_kept f w.here (omega arith) j (inr (omega (arith, base)))

  pub fronted_count : (j : ℕ) → count_of f t' j ≡ count_of f t j
  fronted_count j = count_kept f w.here (omega arith) j (inr (omega (arith, base)))

  -- the pointers claim what they claimed
  same_over : (s : ℕ) → claims_of f t' s + header_over f t s ≡ claims_of f t s + header_over f t' s
  unfolding claims_of over_of
  same_over s =
      let pointers = sum_same (slots_of f t) (λ j. cov (start_of f t' j) (count_of f t' j) s) (λ j. cov (start_of f t j) (count_of f t j) s)
      (λ j l. ap₂ (λ (a c : ℕ). cov a c s) (fronted_start j) (fronted_count j)) in
      rw same_slots (omega (arith, pointers))

  same_own : sectors_of f t' ≡ sectors_of f t
  unfolding sectors_of
  same_own = rw same_slots (sum_same (slots_of f t) _ _ (λ j l. fronted_count j))

  pub fronted_change : Changed v v' f f
  fronted_change = record {
    ground = w.ground;
    indexes = w.indexes;
    few = few;
    file = parent.low;
    low = parent.low;
    high = parent.high;
    kept = λ j lo hi ne. rw (w.there j lo hi ne) (kept_refl (v.table j) 124 4);
    there = λ j lo hi ne nf. w.there j lo hi ne;
    was = inl (parent_file v f parent);
    now = file_kept f w.here (omega arith) ∙ parent_file v f parent;
    word = inl (word_kept f w.here (omega arith) ∙ parent.word);
  }

  pub fronted_used : Used f t 0 → Used f t' 0
  fronted_used u = rw (fronted_start 0, fronted_count 0) u

  pub fronted_sectors : file_sectors v' f ≡ file_sectors v f
  fronted_sectors = omega (arith, sectors_at v v' f f fronted_change, only_eq (file_of f t) f (sectors_of f t) (parent_file v f parent), same_own)

  stays_own : Stays v v' f
  stays_own = record {
    link = u32_kept 124 w.here (inr (omega arith));
    word = word_kept f w.here (omega arith);
    parent = parent_kept f w.here (omega arith);
    full = λ full j l. (let l' : j < slots_of f t = rw same_slots at l in rw (fronted_start j, fronted_count j) (full j l'));
  }

  module _ {d : ℕ → ℕ} (h : Held v f d) where
    stays : (k : ℕ) → k < suc (h.r5.long f) → Stays v v' (walk (next v) f k)
    stays k l =
        let b = (member_begins v few f (h.r5.long f) parent (h.r5.chain f parent) k l).1 in
        elim (ℕ_discrete (walk (next v) f k) f) [ yes e ↦ rw e stays_own | no ne ↦ stays_same v v' _ (w.there _ b.low b.high ne) ]

    own_stands : (c : ℕ) → Child v' c → parent_of (v'.table c) ≡ f → Stands v' f (h.r5.long f) c
    own_stands c b e =
        let hi : c ≤ v.indexes = rw w.indexes at b.high in
        let ne : c ≢ f = λ q. (let z : minus c ≡ c = sym b.word ∙ ap (λ (i : ℕ). word_of (v'.table i)) q ∙ (fronted_parent v v' f w parent).word ∙ sym q in omega arith) in
        let q : parent_of (v.table c) ≡ f = sym (parent_there v v' f f fronted_change c b.low hi ne) ∙ e in
        let o = rw q at (h.r5.stands c (begins_was v v' f f fronted_change c b.low hi ne (minus c) b)) in
        record {
          parent = fronted_parent v v' f w parent;
          place = o.place;
          below = o.below;
          here = walk_stays v v' w.indexes f (h.r5.long f) (h.r5.chain f parent) stays (suc o.place) (omega (arith, o.below)) ∙ o.here;
        }

    own_shape : HeaderLaw v' t' → ShapeBut v' f f t'
    own_shape header =
        let s = h.r6 f (omega (arith, parent.high)) parent.low in
        record {
          first = λ j l u. (let l' : suc j < slots_of f t = rw same_slots at l in rw (fronted_start j, fronted_count j) (s.first j l' (rw (fronted_start (suc j), fronted_count (suc j)) at u)));
          used = λ j l u. (let l' : j < slots_of f t = rw same_slots at l in
              rw (fronted_start j, fronted_count j) (ground_run v v' w.ground _ _ (s.used j l' (rw (fronted_start j, fronted_count j) at u))));
          one = λ e ne. absurd (ne refl);
          header = λ e. header;
        }

    -- what the header pointer claims no more is set besides, and what it claims now is not
    pub fronted_held : (d' : ℕ → ℕ) → HeaderLaw v' t' → ((s : ℕ) → header_over f t' s + d' s ≡ header_over f t s + d s) → R9 v' → Held v' f d'
    fronted_held d' header besides r9 = record {
      r2 = ground_R2 v v' w.ground h.r2;
      r3 = ground_R3 v v' w.ground h.r3;
      r4 = stay_R4 v v' f f fronted_change w.head (λ z. omega (arith, parent.low, parent.word)) h.r4;
      r5 = changed_R5 v v' f f fronted_change h.r5 (h.r5.long f) (chain_stays v v' w.indexes f (h.r5.long f) (h.r5.chain f parent) stays) own_stands
          (λ b. absurd (omega (arith, b.word, (fronted_parent v v' f w parent).word, b.high, w.indexes)));
      r6 = changed_R6 v v' f f fronted_change (own_shape header) h.r6;
      r7 = record {
        count = λ s l lo. (let l' : s < 1024 * (v.zones - 1) = rw w.ground.zones at l in
            omega (arith, pointers_at v v' f f fronted_change s, same_over s, besides s, h.r7.count s l' lo, w.ground.bit s (omega arith)));
      };
      r8 = changed_R8 v v' f f fronted_change h.r6 h.r8;
      r9 = r9;
    }

    pub fronted_types : (y : ℕ) → InType v f y → InType v' f y
    fronted_types y all = changed_types v v' f f fronted_change h.r6 y all new
      where
        new : (j s : ℕ) → Under v' f j s → (v'.zone (zone_of s)).ztype ≡ y
        new j s u =
            let o : Under v f j s
            = record { low = parent.low; high = parent.high; slot = rw same_slots at u.slot; from = rw (fronted_start j) at u.from; to = rw (fronted_start j, fronted_count j) at u.to } in
            rw (under_zone v v' f f fronted_change h.r6 f j s o) (all f j s (parent_file v f parent) o)
