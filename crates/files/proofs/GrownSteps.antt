-- One step of a growing file, as the view shows it: the tables of other files stay, and the file's own sectors stay at their places.
use mathlib.Core.Path.{◌≡◌, sym, ◌∙◌}
use mathlib.Core.Logic.{◌≢◌, inl, inr}
use mathlib.Core.List.{List}
use Prim.Native.Nat.{ℕ, ◌+◌, ◌-◌, ◌*◌, ◌≤◌, ◌<◌}
use native.Mathlib.Decide.{ℕ_discrete, dec_lt}
use native.Mathlib.Omega.{arith}
use lib.ListN.{length}
use Rattle.field.specs.Kept.{Kept}
use Rattle.field.proofs.NumberLaws.{kept_put_u32}
use Rattle.tables.specs.declared.index.Pointer.{Pointer}
use Rattle.tables.specs.Indexes.{link_of, slots_of, base_of, start_of, count_of, Used, file_of, pointer_place}
use Rattle.tables.specs.Views.{View, Free}
use Rattle.tables.proofs.IndexLaws.{slots_in, file_parent, base_low}
use Rattle.allocation.specs.declared.growth.Cursor.{Cursor}
use Rattle.allocation.specs.NewTables.{New}
use Rattle.allocation.specs.Steps.{SameFiles, Written, Extended, Made, with_pointer}
use Rattle.allocation.specs.NextPointer.{place_of}
use Rattle.allocation.specs.Held.{Ends}
use Rattle.allocation.proofs.PointerBytes.{slots_kept, file_kept, start_kept, count_kept, kept_pointer, parent_word, start_others, count_others, start_slot, count_slot}
use Rattle.allocation.proofs.ChangeLaws.{free_file}
use Rattle.allocation.proofs.EndsLaws.{end_begins, end_link, end_more, last_place, last_start, last_count, next_place}
use Rattle.allocation.proofs.ExtendedHeld.{new_file}
use Rattle.files.specs.Unchanged.{Untouched}
use Rattle.files.proofs.UntouchedLaws.{step_untouched}
use Rattle.files.proofs.FollowLaws.{Follows, FileFollows, follows_alike, follows_same}

-- ---- other files

module _ (v v' : View) (f : ℕ) where
  pub files_untouched : SameFiles v v' → Untouched v v' f
  files_untouched h = step_untouched v v' f h.indexes (λ j lo hi. inl (h.table j lo hi))

  -- a pointer in a table of the file
  module _ (i at : ℕ) (q : Pointer) (w : Written v v' i at q) (past : 8 ≤ at) (own : file_of i (v.table i) ≡ f) where
    pub written_own : file_of i (v'.table i) ≡ f
    written_own = rw w.here (file_kept i (kept_pointer (v.table i) at q) past ∙ own)

    pub written_untouched : Untouched v v' f
    written_untouched = step_untouched v v' f w.indexes
        (λ j lo hi. elim (ℕ_discrete j i) [ yes e ↦ rw e (inr (inr own, written_own)) | no ne ↦ inl (w.there j lo hi ne) ])

  -- a further child after a table of the file
  module _ (i : ℕ) (q : Pointer) (w : Extended v v' f i q) (few : v.indexes ≤ 4096) (free : Free v v.head) (own : file_of i (v.table i) ≡ f) where
    pub extended_own : file_of v.head (v'.table v.head) ≡ f
    extended_own = rw w.new (new_file v.head f q free.low (omega (arith, free.high)))

    pub extended_untouched : Untouched v v' f
    extended_untouched = step_untouched v v' f w.indexes (λ j lo hi.
        elim (ℕ_discrete j v.head) [
          | yes e ↦ rw e (inr (inl (free_file v v.head free), extended_own))
          | no nh ↦ elim (ℕ_discrete j i) [
            | yes e ↦ rw e (inr (inr own, rw w.last' (file_kept i (kept_put_u32 (v.table i) 124 v.head) (omega arith) ∙ own)))
            | no ne ↦ inl (w.there j lo hi nh ne)
          ]
        ])

-- a new file's parent
module _ (v v' : View) (n : New) (s d : ℕ) (w : Made v v' n s d) (free : Free v v.head) (name : length n.name ≤ 24) (six : length n.date ≡ 6) where
  pub made_own : file_of v.head (v'.table v.head) ≡ v.head
  made_own = let word = parent_word v.head n name six in rw w.new (file_parent v.head _ (λ z. omega (arith, free.low)) word)

  pub made_untouched : Untouched v v' v.head
  made_untouched = step_untouched v v' v.head w.indexes
      (λ j lo hi. elim (ℕ_discrete j v.head) [ yes e ↦ rw e (inr (inl (free_file v v.head free), made_own)) | no ne ↦ inl (w.there j lo hi ne) ])

-- ---- the file's own tables

-- pointer j of table i, after which none is used and no table follows, becomes q: if it was used it has its start, and no fewer sectors
module _ (i at j : ℕ) (t t' : List ℕ) (q : Pointer) (is : t' ≡ with_pointer t at q) (place : at ≡ base_of i t + 6 * j) (size : length t ≡ 128) (slot : j < slots_of i t)
    (last : link_of t ≡ 0) (after : j + 1 < slots_of i t → Used i t (j + 1) → ⊥) (old : Used i t j → (start_of i t j ≡ q.start.0) × (count_of i t j ≤ q.count)) where
  kept : Kept t t' at 6
  kept = rw is (kept_pointer t at q)

  past : 8 ≤ at
  past = omega (arith, base_low i t)

  others : (n : ℕ) → n ≢ j → count_of i t' n ≡ count_of i t n
  others = count_others i at j t t' q is place

  here : count_of i t j ≤ count_of i t' j
  here =
      let new = count_slot i at j t t' q is place size slot in
      elim (dec_lt 0 (start_of i t j + count_of i t j)) [ yes u ↦ omega (arith, (old u).1) | no h ↦ omega arith ]

  pointer_follows : Follows i t t'
  pointer_follows = record {
    file = file_kept i kept past;
    slots = slots_kept i kept past;
    link = λ nz. absurd (nz last);
    start = λ n l u. elim (ℕ_discrete n j) [ yes e ↦ rw e (start_slot i at j t t' q is place size slot ∙ sym (old (rw e at u)).0) | no ne ↦ start_others i at j t t' q is place n ne ];
    count = λ n l. elim (ℕ_discrete n j) [ yes e ↦ rw e here | no ne ↦ omega (arith, others n ne) ];
    before = λ n l u. elim (ℕ_discrete n j) [ yes e ↦ absurd (after (rw e at l) (rw e at u)) | no ne ↦ others n ne ];
    inner = λ nz. absurd (nz last);
  }

-- where the file's pointers end
module _ (v v' : View) (f : ℕ) (c : Cursor) (few : v.indexes ≤ 4096) (sized : (j : ℕ) → 1 ≤ j → j ≤ v.indexes → length (v.table j) ≡ 128) (e : Ends v f c) where
  abbrev i : ℕ
  i = c.table.0

  abbrev t : List ℕ
  t = v.table c.table.0

  written_follows : (at j : ℕ) (q : Pointer) → Written v v' i at q → j < slots_of i t → at ≡ base_of i t + 6 * j → (j + 1 < slots_of i t → Used i t (j + 1) → ⊥)
      → (Used i t j → (start_of i t j ≡ q.start.0) × (count_of i t j ≤ q.count)) → FileFollows v v' f
  written_follows at j q w slot place after old =
      let b = (end_begins v few f c e).1 in
      record {
        each = λ n lo hi own. elim (ℕ_discrete n i) [
          | yes g ↦ rw g (pointer_follows i at j t (v'.table i) q w.here place (sized i b.low b.high) slot (end_link v few f c e) after old)
          | no ne ↦ follows_same n (v.table n) (v'.table n) (w.there n lo hi ne)
        ];
      }

  -- the last pointer has n sectors more
  pub joined_follows : (n : ℕ) → 1 ≤ c.tail.slot → Written v v' i (place_of c.tail) (record { start = c.tail.last.start; count = c.tail.last.count + n }) → FileFollows v v' f
  joined_follows n some w =
      written_follows (place_of c.tail) (c.tail.slot - 1) _ w (omega (arith, e.within, e.capacity)) (last_place v f c e some) (λ l u. e.unused (c.tail.slot - 1 + 1) l (omega arith) u)
      (λ u. (last_start v f c e some, omega (arith, last_count v f c e some)))

  -- a pointer of its own stands after it
  pub beside_follows : (q : Pointer) → Written v v' i (pointer_place c.tail.capacity (c.tail.slot + 1)) q → c.tail.slot < c.tail.capacity → FileFollows v v' f
  beside_follows q w room =
      let slot = end_more v f c e room in
      written_follows (pointer_place c.tail.capacity (c.tail.slot + 1)) c.tail.slot q w slot (next_place v f c e room) (λ l u. e.unused (c.tail.slot + 1) l (omega arith) u)
      (λ u. absurd (e.unused c.tail.slot slot (omega arith) u))

  -- a further child has it
  pub extended_follows : (q : Pointer) → Extended v v' f i q → Free v v.head → FileFollows v v' f
  extended_follows q w free = record {
    each = λ n lo hi own. elim (ℕ_discrete n v.head) [
      | yes g ↦ absurd (omega (arith, free_file v n (rw g free), e.parent.low))
      | no nh ↦ elim (ℕ_discrete n i) [ yes g ↦ rw g linked | no ne ↦ follows_same n (v.table n) (v'.table n) (w.there n lo hi nh ne) ]
    ];
  }
    where
      kept : Kept t (v'.table i) 124 4
      kept = rw w.last' (kept_put_u32 t 124 v.head)

      linked : Follows i t (v'.table i)
      linked =
          follows_alike i t (v'.table i) (file_kept i kept (omega arith)) (slots_kept i kept (omega arith)) (λ nz. absurd (nz (end_link v few f c e)))
          (λ j l. start_kept i kept (omega arith) j (inl (omega (arith, slots_in i t)))) (λ j l. count_kept i kept (omega arith) j (inl (omega (arith, slots_in i t))))
