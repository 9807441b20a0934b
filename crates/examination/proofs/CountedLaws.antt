-- Sector 1's counts made anew: how the pass goes on and ends.
use mathlib.Core.Path.{◌≡◌, sym, ◌∙◌}
use mathlib.Core.Bool.{Bool, true, false}
use Prim.Native.Nat.{ℕ, ◌+◌, ◌/◌, ◌%◌, ◌≤◌}
use native.Mathlib.Omega.{arith}
use mathlib.Core.List.{List}
use Rattle.field.specs.Sum.{sum_to}
use Rattle.field.proofs.Sums.{sum_more, sum_le}
use Rattle.examination.specs.declared.counts.Counts.{Counts}
use Rattle.examination.specs.Counted.{Few, CountsAdded, Counted, Tallied}
use Rattle.tables.specs.Indexes.{word_of}
use Rattle.tables.specs.declared.entry.Entry.{Entry}
use Rattle.tables.specs.Entries.{entry_of, is_free, is_parent}
use Rattle.tables.specs.Views.{View, tally}
use Rattle.tables.specs.Rules.R9.{active_one, deleted_one, free_one, system_one, directory_one}
use Rattle.tables.proofs.KindLaws.{entry_attribute, free_word, not_free, parent_word, not_parent}
use Rattle.tables.proofs.Sector1CountLaws.{active_le, deleted_le, free_le, system_le, directory_le, ones_other, ones_deleted, ones_active, free_yes, free_no}

-- ---- what a table adds, by its entry

module _ (c : Counts) (i : ℕ) (t : List ℕ) (e : Entry) (f : Bool) (is : e ≡ entry_of i t) (free : f ≡ is_free e.kind) where
  pub added_free : f ≡ true → 1 ≤ i → CountsAdded c i t (record { active = c.active; deleted = c.deleted; free = c.free + 1; system = c.system; directory = c.directory })
  added_free y lo =
      let z = free_word i t e is (sym free ∙ y) in
      let o = ones_other i t (λ q. omega arith) in
      let f = free_yes i t z in
      record { active = omega arith; deleted = omega arith; free = omega arith; system = omega arith; directory = omega arith }

  module _ (p : Bool) (n : f ≡ false) (parent : p ≡ is_parent e.kind) where
    pub added_none : p ≡ false → 1 ≤ i → CountsAdded c i t c
    added_none y lo =
        let o = ones_other i t (not_parent i t e is lo (sym parent ∙ y)) in
        let f = free_no i t (not_free i t e is (sym free ∙ n)) in
        record { active = omega arith; deleted = omega arith; free = omega arith; system = omega arith; directory = omega arith }

    module _ (y : p ≡ true) where
      own : word_of t ≡ i
      own = parent_word i t e is (sym parent ∙ y)

      pub added_deleted : e.attribute % 2 ≡ 1 → CountsAdded c i t (record { active = c.active; deleted = c.deleted + 1; free = c.free; system = c.system; directory = c.directory })
      added_deleted d =
          let o = ones_deleted i t (not_free i t e is (sym free ∙ n)) own (rw (entry_attribute i t e is) at d) in
          record { active = omega arith; deleted = omega arith; free = omega arith; system = omega arith; directory = omega arith }

      pub added_active : (e.attribute % 2 ≡ 1 → ⊥)
          → CountsAdded c i t (record { active = c.active + 1; deleted = c.deleted; free = c.free; system = c.system + e.attribute / 64 % 2; directory = c.directory + e.attribute / 32 % 2 })
      added_active d =
          let h = entry_attribute i t e is in
          let o = ones_active i t (not_free i t e is (sym free ∙ n)) own (rw h at d) in record {
            active = omega arith;
            deleted = omega arith;
            free = omega arith;
            system = rw h (omega arith);
            directory = rw h (omega arith);
          }

-- ---- the pass over the tables

module _ (v : View) (k : ℕ) (c : Counts) where
  pub counted_none : c.active ≡ 0 → c.deleted ≡ 0 → c.free ≡ 0 → c.system ≡ 0 → c.directory ≡ 0 → Counted v 0 c
  unfolding sum_to
  counted_none active deleted free system directory = record { active = active; deleted = deleted; free = free; system = system; directory = directory }

  pub counted_more : (r : Counts) → Counted v k c → CountsAdded c (k + 1) (v.table (k + 1)) r → Counted v (k + 1) r
  counted_more r h a =
      record {
        active = omega (arith, sum_more k (λ n. active_one (n + 1) (v.table (n + 1))));
        deleted = omega (arith, sum_more k (λ n. deleted_one (n + 1) (v.table (n + 1))));
        free = omega (arith, sum_more k (λ n. free_one (n + 1) (v.table (n + 1))));
        system = omega (arith, sum_more k (λ n. system_one (n + 1) (v.table (n + 1))));
        directory = omega (arith, sum_more k (λ n. directory_one (n + 1) (v.table (n + 1))));
      }

  pub counted_few : Counted v k c → k ≤ 4095 → Few c 4095
  counted_few h l = record {
    active = omega (arith, sum_le k (λ n. active_one (n + 1) (v.table (n + 1))) (λ n l. active_le (n + 1) (v.table (n + 1))));
    deleted = omega (arith, sum_le k (λ n. deleted_one (n + 1) (v.table (n + 1))) (λ n l. deleted_le (n + 1) (v.table (n + 1))));
    free = omega (arith, sum_le k (λ n. free_one (n + 1) (v.table (n + 1))) (λ n l. free_le (n + 1) (v.table (n + 1))));
    system = omega (arith, sum_le k (λ n. system_one (n + 1) (v.table (n + 1))) (λ n l. system_le (n + 1) (v.table (n + 1))));
    directory = omega (arith, sum_le k (λ n. directory_one (n + 1) (v.table (n + 1))) (λ n l. directory_le (n + 1) (v.table (n + 1))));
  }

  pub counted_all : Counted v k c → k ≤ v.indexes → v.indexes ≤ k → Tallied v c
  unfolding tally
  counted_all h le ge =
      let e : v.indexes ≡ k = omega arith in
      record { active = rw e h.active; deleted = rw e h.deleted; free = rw e h.free; system = rw e h.system; directory = rw e h.directory }
