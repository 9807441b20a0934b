-- A file given back: other files and sector 1's counts. R8 and R9.
use mathlib.Core.Path.{◌≡◌, sym, ap, ◌∙◌}
use mathlib.Core.Logic.{◌≢◌}
use mathlib.Core.List.{List}
use Prim.Native.Nat.{ℕ, zero, suc, ◌+◌, ◌≤◌, ◌<◌}
use native.Mathlib.Decide.{ℕ_discrete}
use native.Mathlib.Omega.{arith}
use lib.Dec.{eqb}
use Rattle.field.proofs.Sums.{sum_same, sum_add}
use Rattle.tables.specs.declared.zone.ZoneEntry.{ZoneEntry}
use Rattle.tables.specs.Kinds.{zone_of}
use Rattle.tables.specs.Indexes.{word_of, attribute_of, sectors_of, file_of, deleted_bit}
use Rattle.tables.specs.Views.{View, Parent, walk, next, only_if, tally, Under}
use Rattle.tables.specs.Rules.R4.{R4}
use Rattle.tables.specs.Rules.R5.{R5}
use Rattle.tables.specs.Rules.R6.{R6}
use Rattle.tables.specs.Rules.R8.{file_sectors, R8}
use Rattle.tables.specs.Rules.R9.{free_one, active_one, deleted_one, system_one, directory_one, R9}
use Rattle.tables.proofs.ChainLaws.{walk_none}
use Rattle.tables.proofs.Sector1CountLaws.{Ones, only_eq, only_ne, ones_other, ones_deleted, free_yes, free_no}
use Rattle.tables.proofs.IndexLaws.{file_free}
use Rattle.allocation.proofs.FileSame.{file_same}
use Rattle.allocation.proofs.ChangeLaws.{parent_file, parent_under, sum_first}
use Rattle.files.specs.Release.{file_tables}
use Rattle.files.specs.Freed.{Freed}
use Rattle.files.proofs.FileTables.{file_tally, tables_tally}
use Rattle.files.proofs.FreedTables.{freed_word, tally_gone}

module _ (v v' : View) (f : ℕ) (h : Freed v v' f) where
  -- ---- R8: other files have the same sectors, in the same zones

  sectors_left : (p : ℕ) → 1 ≤ p → p ≢ f → file_sectors v' p ≡ file_sectors v p
  unfolding file_sectors tally
  sectors_left p lo ne = rw h.indexes (sum_same v.indexes _ _ (λ k l. here (k + 1) (omega arith) (omega arith)))
    where
      here : (j : ℕ) → 1 ≤ j → j ≤ v.indexes
          → only_if (eqb (file_of j (v'.table j)) p) (sectors_of j (v'.table j)) ≡ only_if (eqb (file_of j (v.table j)) p) (sectors_of j (v.table j))
      here j low high =
          elim (ℕ_discrete (file_of j (v.table j)) f) [
            | yes e ↦ only_ne (file_of j (v'.table j)) p _ (λ q. omega (arith, file_free j (v'.table j) (freed_word v v' f h j low high e)))
                ∙ sym (only_ne (file_of j (v.table j)) p _ (λ q. ne (sym q ∙ e)))
            | no out ↦ ap (λ (t : List ℕ). only_if (eqb (file_of j t) p) (sectors_of j t)) (h.there j low high out)
          ]

  -- what lies under a file's pointers lay there, in a zone of the same type
  under_left : (p : ℕ) → 1 ≤ p → (i j s : ℕ) → file_of i (v'.table i) ≡ p → Under v' i j s → (file_of i (v.table i) ≡ p) × Under v i j s
  under_left p lo i j s of u =
      let hi : i ≤ v.indexes = rw h.indexes at u.high in
      let e = h.there i u.low hi (λ e. omega (arith, file_free i (v'.table i) (freed_word v v' f h i u.low hi e))) in
      (rw e at of, record { low = u.low; high = hi; slot = rw e at u.slot; from = rw e at u.from; to = rw e at u.to })

  type_left : R6 v → (i j s : ℕ) → Under v i j s → (v'.zone (zone_of s)).ztype ≡ (v.zone (zone_of s)).ztype
  type_left r6 i j s u =
      let run = (r6 i (omega (arith, u.high)) u.low).used j u.slot (omega (arith, u.from, u.to)) in
      ap (λ (e : ZoneEntry). e.ztype) (h.zone (zone_of s) (omega arith) (omega (arith, run.high, u.to)))

  pub freed_R8 : R6 v → R8 v → R8 v'
  freed_R8 r6 r p l lo word =
      let hi : p ≤ v.indexes = omega (arith, h.indexes) in
      let out : file_of p (v.table p) ≢ f = λ e. omega (arith, freed_word v v' f h p lo hi e) in
      let e = h.there p lo hi out in
      let par : Parent v p = record { low = lo; high = hi; word = rw e at word } in
      let ne : p ≢ f = λ q. out (parent_file v p par ∙ q) in
      file_same v v' (type_left r6) p (parent_under v r6 p par) e (under_left p lo) (sectors_left p lo ne) (r p (omega arith) lo par.word)

  -- ---- R9

  module _ (few : v.indexes ≤ 4096) (r4 : R4 v) (r5 : R5 v) (parent : Parent v f) where
    free_more : tally v' free_one ≡ tally v free_one + file_tables v f
    unfolding tally
    free_more = rw (h.indexes, tables_tally v r4 r5 few f parent) (sum_same v.indexes _ _ (λ k l. here (k + 1) (omega arith) (omega arith)) ∙ sum_add v.indexes _ _)
      where
        here : (j : ℕ) → 1 ≤ j → j ≤ v.indexes → free_one j (v'.table j) ≡ free_one j (v.table j) + only_if (eqb (file_of j (v.table j)) f) 1
        here j lo hi =
            elim (ℕ_discrete (file_of j (v.table j)) f) [
              | yes e ↦ omega (
                arith,
                free_yes j (v'.table j) (freed_word v v' f h j lo hi e),
                only_eq (file_of j (v.table j)) f 1 e,
                free_no j (v.table j) (λ z. omega (arith, parent.low, file_free j (v.table j) z)),
              )
              | no ne ↦ omega (arith, ap (free_one j) (h.there j lo hi ne), only_ne (file_of j (v.table j)) f 1 ne)
            ]

    child_ones : (k : ℕ) → k < r5.long f
        → Ones (walk (next v) f (suc k)) (v.table (walk (next v) f (suc k))) 0 0 (free_one (walk (next v) f (suc k)) (v.table (walk (next v) f (suc k)))) 0 0
    child_ones k l = let c = (r5.chain f parent).each k l in ones_other _ _ (λ e. omega (arith, c.word, c.high))

    -- a sum to which the file's children add nothing has only its parent's part
    file_first : (g : ℕ → List ℕ → ℕ) → ((k : ℕ) → k < r5.long f → g (walk (next v) f (suc k)) (v.table (walk (next v) f (suc k))) ≡ 0)
        → tally v (λ i t. only_if (eqb (file_of i t) f) (g i t)) ≡ g f (v.table f)
    file_first g none =
        file_tally v r4 r5 few f parent g ∙ sum_first (suc (r5.long f)) _ (omega arith) later ∙ ap (λ (i : ℕ). g i (v.table i)) (walk_none (next v) f)
      where
        later : (k : ℕ) → k < suc (r5.long f) → 0 < k → g (walk (next v) f k) (v.table (walk (next v) f k)) ≡ 0
        later zero l some = absurd (omega arith)
        later (suc k) l some = none k (omega arith)

    pub freed_R9 : deleted_bit (attribute_of (v.table f)) ≡ 1 → R9 v → R9 v'
    freed_R9 gone r =
        let one = ones_deleted f (v.table f) (λ z. omega (arith, parent.low, parent.word)) parent.word gone in record {
          active = omega (arith, h.active, r.active, tally_gone v v' f h active_one (λ j t lo e. (other j t lo e).active), file_first active_one (λ k l. (child_ones k l).active));
          deleted = omega (arith, h.deleted, r.deleted, tally_gone v v' f h deleted_one (λ j t lo e. (other j t lo e).deleted), file_first deleted_one (λ k l. (child_ones k l).deleted));
          free = omega (arith, h.free, r.free, free_more);
          system = omega (arith, h.system, r.system, tally_gone v v' f h system_one (λ j t lo e. (other j t lo e).system), file_first system_one (λ k l. (child_ones k l).system));
          directory = omega (arith, h.directory, r.directory, tally_gone v v' f h directory_one (λ j t lo e. (other j t lo e).directory), file_first directory_one (λ k l. (child_ones k l).directory));
          flag = rw h.flag r.flag;
        }
      where
        other : (j : ℕ) (t : List ℕ) → 1 ≤ j → word_of t ≡ 0 → Ones j t 0 0 (free_one j t) 0 0
        other j t lo e = ones_other j t (λ q. omega arith)
