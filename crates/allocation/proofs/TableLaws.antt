-- An index table after a write in it, and what a write after sector 1 leaves of the books.
use mathlib.Core.Path.{◌≡◌, refl, sym, ap, ◌∙◌}
use mathlib.Core.Logic.{inl, inr, ⊎_elim, ◌≢◌}
use mathlib.Core.List.{List, [], ◌∷◌, append_assoc}
use Prim.Native.Nat.{ℕ, suc, ◌+◌, ◌/◌, ◌%◌, ◌≤◌, ◌<◌}
use native.Mathlib.Nat.{add_assoc, add-suc}
use native.Mathlib.Omega.{arith}
use lib.ListN.{length, take, drop, set}
use lib.Seq.{take-set-lt, drop-set-add, sets, sets-eq}
use Rattle.field.specs.Numbers.{put_u16, put_u32}
use Rattle.field.specs.Parts.{over}
use Rattle.field.specs.Kept.{Kept}
use Rattle.field.proofs.NumberLaws.{u16_kept, u32_kept}
use Rattle.field.proofs.BitLaws.{differ}
use Rattle.tables.specs.declared.places.Places.{Places}
use Rattle.tables.specs.Places.{Layout}
use Rattle.tables.specs.Indexes.{table_place, table_at}
use Rattle.tables.specs.Views.{view_of}
use Rattle.tables.proofs.IndexLaws.{length_table}
use Rattle.tables.proofs.FrameLaws.{table_kept}
use Rattle.allocation.specs.Steps.{SameCounts, SameFiles}

-- ---- a part of a list, after a write within it

part_set : (n a : ℕ) (b : List ℕ) (o v : ℕ) → o < n → take n (drop a (set b (a + o) v)) ≡ set (take n (drop a b)) o v
part_set n a b o v l = ap (take n) (drop-set-add a b o v) ∙ take-set-lt n (drop a b) o v l

part_sets : (n a : ℕ) (b : List ℕ) (o : ℕ) (xs : List ℕ) → o + length xs ≤ n → take n (drop a (sets b (a + o) xs)) ≡ sets (take n (drop a b)) o xs
part_sets n a b o [] l = refl
part_sets n a b o (x ∷ xs) l =
    ap (λ (k : ℕ). take n (drop a (sets (set b (a + o) x) k xs))) (sym (add-suc a o))
    ∙ part_sets n a (set b (a + o) x) (suc o) xs (omega arith)
    ∙ ap (λ (t : List ℕ). sets t (suc o) xs) (part_set n a b o x (omega arith))

sets_over : (b : List ℕ) (a : ℕ) (xs : List ℕ) → a + length xs ≤ length b → sets b a xs ≡ over b a xs
unfolding over
sets_over b a xs h = sets-eq xs b a h ∙ append_assoc (take a b) xs (drop (a + length xs) b)

-- ---- a table, after a write within it

module _ (p : Places) (b : List ℕ) (i o : ℕ) where
  pub table_put16 : (v : ℕ) → o + 2 ≤ 128 → table_at p (put_u16 b (table_place p i + o) v) i ≡ put_u16 (table_at p b i) o v
  unfolding table_at put_u16
  table_put16 v h =
      let at : ℕ = table_place p i in
      rw (add_assoc (table_place p i) o 1)
      (part_set 128 at (set b (at + o) (v / 256)) (o + 1) (v % 256) (omega arith)
      ∙ ap (λ (t : List ℕ). set t (o + 1) (v % 256)) (part_set 128 at b o (v / 256) (omega arith)))

  pub table_put32 : (v : ℕ) → o + 4 ≤ 128 → table_at p (put_u32 b (table_place p i + o) v) i ≡ put_u32 (table_at p b i) o v
  unfolding table_at put_u32
  table_put32 v h =
      let at : ℕ = table_place p i in
      let b₁ : List ℕ = set b (at + o) (v / 16777216) in
      let b₂ : List ℕ = set b₁ (at + (o + 1)) (v / 65536 % 256) in
      let b₃ : List ℕ = set b₂ (at + (o + 2)) (v / 256 % 256) in
      rw (add_assoc (table_place p i) o 1, add_assoc (table_place p i) o 2, add_assoc (table_place p i) o 3)
      (part_set 128 at b₃ (o + 3) (v % 256) (omega arith)
      ∙ ap (λ (t : List ℕ). set t (o + 3) (v % 256)) (part_set 128 at b₂ (o + 2) (v / 256 % 256) (omega arith)
      ∙ ap (λ (t : List ℕ). set t (o + 2) (v / 256 % 256)) (part_set 128 at b₁ (o + 1) (v / 65536 % 256) (omega arith)
      ∙ ap (λ (t : List ℕ). set t (o + 1) (v / 65536 % 256)) (part_set 128 at b o (v / 16777216) (omega arith)))))

  pub table_over : (xs : List ℕ) → Layout p (length b) → 1 ≤ i → i ≤ p.indexes → o + length xs ≤ 128 → table_at p (over b (table_place p i + o) xs) i ≡ over (table_at p b i) o xs
  unfolding table_at
  table_over xs lay lo hi h =
      ap (λ (x : List ℕ). take 128 (drop (table_place p i) x)) (sym (sets_over b (table_place p i + o) xs (omega arith)))
      ∙ part_sets 128 (table_place p i) b o xs h
      ∙ sets_over (take 128 (drop (table_place p i) b)) o xs (omega (arith, length_table p b i lay lo hi))

-- ---- what a write within table i leaves: the other tables

pub table_other : {b b' : List ℕ} (p : Places) (i j : ℕ) → Kept b b' (table_place p i) 128 → 1 ≤ i → 1 ≤ j → j ≢ i → table_at p b' j ≡ table_at p b j
table_other p i j k lo low ne = table_kept p j k (⊎_elim (λ l. inl (omega arith)) (λ l. inr (omega arith)) (differ j i ne))

-- ---- what a write after sector 1 leaves: its counts, and in front of the index tables all that is known of files

module _ {b b' : List ℕ} {o n : ℕ} (p : Places) (k : Kept b b' o n) (past : 2048 ≤ o) where
  pub counts_past : SameCounts (view_of p b) (view_of p b')
  counts_past = record {
    active = u32_kept 1028 k (inl (omega arith));
    deleted = u32_kept 1032 k (inl (omega arith));
    system = u16_kept 1040 k (inl (omega arith));
    directory = u16_kept 1042 k (inl (omega arith));
    flag = u16_kept 1054 k (inl (omega arith));
  }

  pub files_between : o + n ≤ p.indextable → SameFiles (view_of p b) (view_of p b')
  files_between before = record {
    indexes = refl;
    head = u32_kept 1050 k (inl (omega arith));
    free = u32_kept 1036 k (inl (omega arith));
    counts = counts_past;
    table = λ i lo hi. table_kept p i k (inr (omega arith));
  }
