-- The examination of R8: a file's sectors and zone types gathered table by table, and a parent judged by them.
use mathlib.Core.Path.{◌≡◌, refl, sym, ap, ◌∙◌}
use mathlib.Core.Bool.{Bool, true, false, not}
use Prim.Native.Nat.{ℕ, zero, suc, ◌+◌, ◌-◌, ◌*◌, ◌≤◌, ◌<◌}
use native.Mathlib.Nat.{add-mul, one-mul}
use native.Mathlib.Numerals.{add-one}
use native.Mathlib.Decide.{ℕ_discrete, dec_lt}
use native.Mathlib.Omega.{arith}
use borrow.Author.Tests.{eq-eqb, ne_eqb, not-true, not-false}
use borrow.Author.Count.{below_more}
use mathlib.Core.List.{List}
use lib.Dec.{eqb}
use lib.ListN.{get_or, set, replicate, length-set, length-replicate}
use lib.Seq.{get_or-set_same, get_or-set_other}
use Rattle.field.specs.Says.{Says}
use Rattle.field.specs.Sum.{sum_to}
use Rattle.field.specs.Numbers.{u16_at, u32_at}
use Rattle.field.proofs.Sums.{sum_more}
use Rattle.field.proofs.Tests.{says_map, passed, refused}
use Rattle.field.proofs.NumberLaws.{get_d_zeros}
use Rattle.tables.specs.declared.places.Places.{Places}
use Rattle.tables.specs.declared.index.Pointer.{Pointer}
use Rattle.tables.specs.declared.entry.Entry.{Entry}
use Rattle.tables.specs.Kinds.{zone_of}
use Rattle.tables.specs.Zones.{zone_at}
use Rattle.tables.specs.Indexes.{variable_bit, table_at, word_of, attribute_of, pointer_at, slots_of, base_of, start_of, count_of, sectors_of, file_of}
use Rattle.tables.specs.Views.{View, view_of, only_if, tally}
use Rattle.tables.specs.Each.{Each}
use Rattle.tables.specs.Entries.{entry_of, is_parent, is_variable}
use Rattle.tables.specs.Rules.R6.{R6, Shape}
use Rattle.tables.specs.Rules.R8.{file_sectors, file_type, InType, File, FileLaw}
use Rattle.examination.specs.Surveys.{RunType, TableType, VariableFile, sectors_to, InTypeTo, Summed, TypesMarked, ParentLaw}
use Rattle.tables.proofs.KindLaws.{parent_word, not_parent, variable_word, variable_bit_lem, not_variable}
use Rattle.tables.proofs.IndexLaws.{base_low, slots_in}
use Rattle.tables.proofs.Sector1CountLaws.{only_eq, only_ne, only_le}

-- a sum of parts none of which is more than m
sum_most : (n m : ℕ) (f : ℕ → ℕ) → ((k : ℕ) → k < n → f k ≤ m) → sum_to n f ≤ n * m
unfolding sum_to
sum_most zero m f h = omega arith
sum_most (suc n) m f h =
    let e : (n + 1) * m ≡ n * m + m = add-mul n 1 m ∙ ap (λ (x : ℕ). n * m + x) (one-mul m) in
    rw (← add-one n) (rw e (omega (arith, sum_most n m f (λ k l. h k (omega arith)), h n (omega arith))))

-- by R6 a table has few sectors: at most seventeen counts of at most 32,767
pub sectors_few : (v : View) (i : ℕ) (t : List ℕ) → Shape v i t → sectors_of i t ≤ 557039
unfolding sectors_of
sectors_few v i t h = omega (arith, sum_most (slots_of i t) 32767 (λ j. count_of i t j) (λ j l. one j l), slots_in i t, base_low i t)
  where
    one : (j : ℕ) → j < slots_of i t → count_of i t j ≤ 32767
    one j l = elim (dec_lt 0 (start_of i t j + count_of i t j)) [ yes u ↦ (h.used j l u).few | no u ↦ omega arith ]

-- ---- the pass that sums up

pub summed_none : (v : View) → Summed v 0 (replicate 4097 0)
unfolding sum_to
summed_none v = record { long = length-replicate {A = ℕ} 4097 0; sum = λ f hi lo. get_d_zeros 4097 f }

-- one table more: it is of file g, or it is not
module _ (v : View) (k g : ℕ) where
  abbrev more : sectors_to v (k + 1) g ≡ sectors_to v k g + only_if (eqb (file_of (k + 1) (v.table (k + 1))) g) (sectors_of (k + 1) (v.table (k + 1)))
  more = sum_more k (λ n. only_if (eqb (file_of (n + 1) (v.table (n + 1))) g) (sectors_of (n + 1) (v.table (n + 1))))

  to_add : file_of (k + 1) (v.table (k + 1)) ≡ g → sectors_to v (k + 1) g ≡ sectors_to v k g + sectors_of (k + 1) (v.table (k + 1))
  to_add e = omega (arith, more, only_eq (file_of (k + 1) (v.table (k + 1))) g (sectors_of (k + 1) (v.table (k + 1))) e)

  to_same : (file_of (k + 1) (v.table (k + 1)) ≡ g → ⊥) → sectors_to v (k + 1) g ≡ sectors_to v k g
  to_same ne = omega (arith, more, only_ne (file_of (k + 1) (v.table (k + 1))) g (sectors_of (k + 1) (v.table (k + 1))) ne)

module _ (v : View) (k : ℕ) (s : List ℕ) (t : List ℕ) (f : ℕ) where
  pub summed_free : Summed v k s → t ≡ v.table (k + 1) → f ≡ file_of (k + 1) t → f < 1 → Summed v (k + 1) s
  summed_free h e q l = record { long = h.long; sum = λ g hi lo. h.sum g hi lo ∙ sym (to_same v k g (λ x. omega (arith, rw e at q))) }

  pub summed_beyond : Summed v k s → t ≡ v.table (k + 1) → f ≡ file_of (k + 1) t → v.indexes < f → Summed v (k + 1) s
  summed_beyond h e q l = record { long = h.long; sum = λ g hi lo. h.sum g hi lo ∙ sym (to_same v k g (λ x. omega (arith, rw e at q))) }

  -- 4,096 tables of so many sectors are a number of 32 bits
  pub summed_fits : Summed v k s → R6 v → v.indexes ≤ 4096 → k < v.indexes → 1 ≤ f → f ≤ v.indexes → t ≡ v.table (k + 1) → get_or s f 0 + sectors_of (k + 1) t ≤ 4294967295
  summed_fits h r n l lo hi e =
      let a : sectors_to v k f ≤ k * 557039 = sum_most k 557039 _ (λ n m. few n (omega arith)) in
      rw e (omega (arith, h.sum f hi lo, sectors_few v (k + 1) (v.table (k + 1)) (r (k + 1) (omega arith) (omega arith))))
    where
      few : (n : ℕ) → n < v.indexes → only_if (eqb (file_of (n + 1) (v.table (n + 1))) f) (sectors_of (n + 1) (v.table (n + 1))) ≤ 557039
      few n m = omega (arith, only_le (eqb (file_of (n + 1) (v.table (n + 1))) f) (sectors_of (n + 1) (v.table (n + 1))), sectors_few v (n + 1) (v.table (n + 1)) (r (n + 1) (omega arith) (omega arith)))

  pub summed_add : (r : ℕ) → Summed v k s → v.indexes ≤ 4096 → t ≡ v.table (k + 1) → f ≡ file_of (k + 1) t → r ≡ sectors_of (k + 1) t → 1 ≤ f → f ≤ v.indexes
      → Summed v (k + 1) (set s f (get_or s f 0 + r))
  summed_add r h n e q a lo hi = record {
    long = length-set s f (get_or s f 0 + r) ∙ h.long;
    sum = λ g hig log. elim (ℕ_discrete g f) [ yes d ↦ here g hig log d | no d ↦ there g hig log d ];
  }
    where
      q' : f ≡ file_of (k + 1) (v.table (k + 1))
      q' = rw e at q

      here : (g : ℕ) → g ≤ v.indexes → 1 ≤ g → g ≡ f → get_or (set s f (get_or s f 0 + r)) g 0 ≡ sectors_to v (k + 1) g
      here g hig log d =
          let x : get_or (set s f (get_or s f 0 + r)) f 0 ≡ get_or s f 0 + r = get_or-set_same s f (get_or s f 0 + r) 0 (omega (arith, h.long)) in
          let y : sectors_to v (k + 1) f ≡ sectors_to v k f + r = to_add v k f (sym q') ∙ ap (λ (z : ℕ). sectors_to v k f + z) (sym (rw e at a)) in
          rw d (omega (arith, h.sum f hi lo))

      there : (g : ℕ) → g ≤ v.indexes → 1 ≤ g → (g ≡ f → ⊥) → get_or (set s f (get_or s f 0 + r)) g 0 ≡ sectors_to v (k + 1) g
      there g hig log d =
          get_or-set_other s f g (get_or s f 0 + r) 0 (λ x. d (omega arith)) ∙ h.sum g hig log ∙ sym (to_same v k g (λ x. d (omega (arith, q'))))

-- ---- zone types

module _ (p : Places) (b : List ℕ) (a c ty : ℕ) where
  -- zone by zone
  pub run_each : (from end : ℕ) (r : Bool) → (c ≡ 0 → ⊥) → from ≡ zone_of a → end ≡ zone_of (a + (c - 1)) + 1 → Says r (Each (λ z. (zone_at p b z).ztype ≡ ty) from end) → Says r (RunType (view_of p b) a c ty)
  run_each from end r some f e = says_map r (λ each s l h. each (zone_of s) (omega arith) (omega arith)) each
    where
      each : RunType (view_of p b) a c ty → Each (λ z. (zone_at p b z).ztype ≡ ty) from end
      each all z l lo =
          elim (dec_lt a (1024 * (z - 1))) [
            | yes m ↦ at (1024 * (z - 1)) (omega arith) (omega arith) (omega arith)
            | no m ↦ at a (omega arith) (omega arith) (omega arith)
          ]
        where
          at : (s : ℕ) → s < a + c → a ≤ s → zone_of s ≡ z → (zone_at p b z).ztype ≡ ty
          at s l h d = rw d at (all s l h)

-- a run of a lawful table ends within the zones
pub run_within : (v : View) (i : ℕ) (t : List ℕ) (j base : ℕ) (q : Pointer) → Shape v i t → j < slots_of i t → base ≡ base_of i t → q ≡ pointer_at t (base + 6 * j) → q.start.0 + q.count ≤ 1024 * v.zones
run_within v i t j base q h l e r =
    let a : q.start.0 ≡ start_of i t j = ap (λ (x : Pointer). x.start.0) r ∙ ap (λ (x : ℕ). u32_at t (x + 6 * j)) e in
    let d : q.count ≡ count_of i t j = ap (λ (x : Pointer). x.count) r ∙ ap (λ (x : ℕ). u16_at t (x + 6 * j + 4)) e in
    elim (dec_lt 0 (start_of i t j + count_of i t j)) [ yes u ↦ omega (arith, (h.used j l u).high) | no u ↦ omega arith ]

-- pointer by pointer
pub table_each : (p : Places) (b : List ℕ) (i : ℕ) (t : List ℕ) (ty base slots : ℕ) (r : Bool) → base ≡ base_of i t → slots ≡ slots_of i t
    → Says r (Each (λ j. RunType (view_of p b) (u32_at t (base + 6 * j)) (u16_at t (base + 6 * j + 4)) ty) 0 slots) → Says r (TableType (view_of p b) i t ty)
table_each p b i t ty base slots r e d = rw (e, d) (says_map r (λ h j l. h j l (omega arith)) (λ h j l lo. h j l))

-- the ways out of a table's examination
module _ (p : Places) (b : List ℕ) (i f : ℕ) (e : Entry) (q : Bool) (is : e ≡ entry_of f (table_at p b f)) (ask : q ≡ is_variable e.kind) where
  pub fits_other : 1 ≤ f → not q ≡ true → VariableFile (view_of p b) f → TableType (view_of p b) i (table_at p b i) (file_type (view_of p b) f)
  fits_other lo n x = absurd (not_variable f (table_at p b f) e is lo (sym ask ∙ not-true q n) x.word x.bit)

  pub fits_word : not q ≡ false → word_of (table_at p b f) ≡ f
  fits_word n = variable_word f (table_at p b f) e is (sym ask ∙ not-false q n)

  pub fits_says : (ty : ℕ) (t : List ℕ) (r : Bool) → not q ≡ false → 1 ≤ f → f ≤ p.indexes → ty ≡ file_type (view_of p b) f → t ≡ table_at p b i
      → Says r (TableType (view_of p b) i t ty) → Says r (VariableFile (view_of p b) f → TableType (view_of p b) i (table_at p b i) (file_type (view_of p b) f))
  fits_says ty t r n lo hi y z s =
      let x : VariableFile (view_of p b) f = record { low = lo; high = hi; word = fits_word n; bit = variable_bit_lem f (table_at p b f) e is lo (sym ask ∙ not-false q n) } in
      says_map r (λ k v. k) (λ k. k x) (rw (z, y) at s)

-- ---- the pass that marks

pub mark_zero : {P : Type 0} (x : ℕ) → Says (eqb x 0) P → P → x ≡ 0
mark_zero x s p = elim (ℕ_discrete x 0) [ yes e ↦ e | no ne ↦ absurd ((rw (ne_eqb x 0 ne) at s) p) ]

pub zero_mark : {P : Type 0} (x : ℕ) → Says (eqb x 0) P → x ≡ 0 → P
zero_mark x s e = rw (eq-eqb x 0 e) at s

pub marked_none : (v : View) → TypesMarked v 0 (replicate 4097 0)
marked_none v = record { long = length-replicate {A = ℕ} 4097 0; mark = λ f h. rw (get_d_zeros 4097 f) (λ n l. absurd (omega arith)) }

-- one table more: it is of another file, or it lies in the file's type too
module _ (v : View) (k g : ℕ) (r : Bool) where
  type_other : (file_of (k + 1) (v.table (k + 1)) ≡ g → ⊥) → Says r (InTypeTo v k g) → Says r (InTypeTo v (k + 1) g)
  type_other ne s = says_map r (λ h. below_more _ _ h (λ e. absurd (ne e))) (λ h n l. h n (omega arith)) s

  type_same : TableType v (k + 1) (v.table (k + 1)) (file_type v g) → Says r (InTypeTo v k g) → Says r (InTypeTo v (k + 1) g)
  type_same ty s = says_map r (λ h. below_more _ _ h (λ e. ty)) (λ h n l. h n (omega arith)) s

module _ (v : View) (k : ℕ) (m : List ℕ) (t : List ℕ) (f : ℕ) where
  pub marked_fits : (r : Bool) → TypesMarked v k m → t ≡ v.table (k + 1) → f ≡ file_of (k + 1) t → Says r (VariableFile v f → TableType v (k + 1) (v.table (k + 1)) (file_type v f)) → not r ≡ false → TypesMarked v (k + 1) m
  marked_fits r h e q s n = record { long = h.long; mark = λ g x. elim (ℕ_discrete g f) [ yes d ↦ here g x d | no d ↦ type_other v k g (eqb (get_or m g 0) 0) (λ y. d (omega (arith, rw e at q))) (h.mark g x) ] }
    where
      here : (g : ℕ) → VariableFile v g → g ≡ f → Says (eqb (get_or m g 0) 0) (InTypeTo v (k + 1) g)
      here g x d = type_same v k g (eqb (get_or m g 0) 0) ((rw (← d) at (passed r s n)) x) (h.mark g x)

  pub marked_mixed : (r : Bool) → TypesMarked v k m → v.indexes ≤ 4096 → f ≤ v.indexes → t ≡ v.table (k + 1) → f ≡ file_of (k + 1) t → Says r (VariableFile v f → TableType v (k + 1) (v.table (k + 1)) (file_type v f)) → not r ≡ true
      → TypesMarked v (k + 1) (set m f 1)
  marked_mixed r h few hi e q s n = record {
    long = length-set m f 1 ∙ h.long;
    mark = λ g x. elim (ℕ_discrete g f) [ yes d ↦ here g x d | no d ↦ there g x d ];
  }
    where
      here : (g : ℕ) → VariableFile v g → g ≡ f → Says (eqb (get_or (set m f 1) g 0) 0) (InTypeTo v (k + 1) g)
      here g x d = rw (d, get_or-set_same m f 1 0 (omega (arith, h.long))) (λ all. refused r s n (λ y. all k (omega arith) (sym (rw e at q))))

      there : (g : ℕ) → VariableFile v g → (g ≡ f → ⊥) → Says (eqb (get_or (set m f 1) g 0) 0) (InTypeTo v (k + 1) g)
      there g x d = rw (get_or-set_other m f g 1 0 d) (type_other v k g (eqb (get_or m g 0) 0) (λ y. d (omega (arith, rw e at q))) (h.mark g x))

-- ---- a parent

module _ (v : View) (f : ℕ) where
  one_to : InType v f (file_type v f) → InTypeTo v v.indexes f
  one_to one n l e j lj s ls hs = one (n + 1) j s e (record { low = omega arith; high = omega arith; slot = lj; from = hs; to = ls })

  to_one : InTypeTo v v.indexes f → InType v f (file_type v f)
  to_one to i j s e u =
      let a : i - 1 + 1 ≡ i = omega (arith, u.low) in
      let b : file_of i (v.table i) ≡ f → TableType v i (v.table i) (file_type v f) = rw a at (to (i - 1) (omega (arith, u.low, u.high))) in
      b e j u.slot s u.to u.from

  pub sectors_all : file_sectors v f ≡ sectors_to v v.indexes f
  unfolding file_sectors tally
  sectors_all = refl

is_true : (x : Bool) → (x ≡ false → ⊥) → x ≡ true
is_true true n = refl
is_true false n = absurd (n refl)

is_false : (x : Bool) → (x ≡ true → ⊥) → x ≡ false
is_false true n = absurd (n refl)
is_false false n = refl

module _ (v : View) (f : ℕ) (s m : List ℕ) (a : Summed v v.indexes s) (k : TypesMarked v v.indexes m) (lo : 1 ≤ f) (hi : f ≤ v.indexes) (w : word_of (v.table f) ≡ f)
    (size : Bool) (one : size ≡ true → variable_bit (attribute_of (v.table f)) ≡ 1) (none : size ≡ false → variable_bit (attribute_of (v.table f)) ≡ 1 → ⊥) where
  sound_file : ParentLaw (v.table f) size (get_or s f 0) (get_or m f 0) → File v f (v.table f)
  sound_file h = record {
    name = h.name;
    least = h.lengths.least;
    most = omega (arith, h.lengths.most, a.sum f hi lo, sectors_all v f);
    fixed = λ e. h.lengths.fixed (is_false size (λ t. omega (arith, one t)));
    variable = λ e. to_one v f (zero_mark (get_or m f 0) (k.mark f (record { low = lo; high = hi; word = w; bit = e })) (h.lengths.variable (is_true size (λ t. none t e))));
    weights = h.weights.weights;
    both = h.weights.both;
    created = h.created;
    changed = h.changed;
  }

  file_sound : File v f (v.table f) → ParentLaw (v.table f) size (get_or s f 0) (get_or m f 0)
  file_sound h = record {
    name = h.name;
    lengths = record {
      least = h.least;
      most = omega (arith, h.most, a.sum f hi lo, sectors_all v f);
      fixed = λ e. elim (ℕ_discrete (variable_bit (attribute_of (v.table f))) 1) [ yes o ↦ absurd (none e o) | no n ↦ h.fixed (omega arith) ];
      variable = λ e. mark_zero (get_or m f 0) (k.mark f (record { low = lo; high = hi; word = w; bit = one e })) (one_to v f (h.variable (one e)));
    };
    weights = record { weights = h.weights; both = h.both };
    created = h.created;
    changed = h.changed;
  }

-- the ways out of an index's examination
module _ (p : Places) (b : List ℕ) (f : ℕ) (e : Entry) (q : Bool) (is : e ≡ entry_of f (table_at p b f)) (ask : q ≡ is_parent e.kind) where
  pub file_other : 1 ≤ f → not q ≡ true → FileLaw (view_of p b) f
  file_other lo n w = absurd (not_parent f (table_at p b f) e is lo (sym ask ∙ not-true q n) w)

  pub file_says : (t s m : List ℕ) (size r : Bool) → not q ≡ false → size ≡ is_variable e.kind → Summed (view_of p b) p.indexes s → TypesMarked (view_of p b) p.indexes m → 1 ≤ f → f ≤ p.indexes → t ≡ table_at p b f
      → Says r (ParentLaw t size (get_or s f 0) (get_or m f 0)) → Says r (FileLaw (view_of p b) f)
  file_says t s m size r n x a k lo hi d h =
      let w' : word_of (table_at p b f) ≡ f = parent_word f (table_at p b f) e is (sym ask ∙ not-false q n) in
      let one : size ≡ true → variable_bit (attribute_of (table_at p b f)) ≡ 1 = λ y. variable_bit_lem f (table_at p b f) e is lo (sym x ∙ y) in
      let none : size ≡ false → variable_bit (attribute_of (table_at p b f)) ≡ 1 → ⊥ = λ y. not_variable f (table_at p b f) e is lo (sym x ∙ y) w' in
      says_map r (λ y z. sound_file (view_of p b) f s m a k lo hi w' size one none y) (λ y. file_sound (view_of p b) f s m a k lo hi w' size one none (y w')) (rw d at h)
