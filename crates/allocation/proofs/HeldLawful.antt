-- From the rules as a growing file keeps them to the nine rules: what is asked besides of the file's own parent, and what the bytes of a
-- parent say.
use mathlib.Core.Path.{◌≡◌, refl, sym, ap, ◌∙◌}
use mathlib.Core.Logic.{◌≢◌, ⊎_elim}
use mathlib.Core.List.{List, [], ◌∷◌, ◌++◌}
use Prim.Native.Nat.{ℕ, zero, suc, ◌+◌, ◌-◌, ◌*◌, ◌≤◌, ◌<◌}
use native.Mathlib.Nat.{zero-mul, suc-mul, mul_left_comm}
use native.Mathlib.Decide.{ℕ_discrete}
use native.Mathlib.Omega.{arith}
use lib.Dec.{eqb}
use lib.ListN.{get_or, length, take, drop, replicate}
use Rattle.field.specs.Numbers.{u16_at, u32_at}
use Rattle.field.proofs.NumberLaws.{get_d_part}
use Rattle.field.proofs.PartLaws.{same_all}
use Rattle.field.proofs.Sums.{sum_zero, sum_part}
use Rattle.tables.specs.declared.places.Places.{Places}
use Rattle.tables.specs.Blocks.{DataType, block_of}
use Rattle.tables.specs.Counts.{block_bytes, supplied_by}
use Rattle.tables.specs.Each.{Each}
use Rattle.tables.specs.Dates.{Date}
use Rattle.tables.specs.Names.{Name}
use Rattle.tables.specs.Places.{places_of}
use Rattle.tables.specs.Indexes.{parent_of, name_of, created_of, changed_of, length_of, attribute_of, slots_of, start_of, count_of, Used, sectors_of, file_of, variable_bit, directory_bit, system_bit}
use Rattle.tables.specs.Views.{View, view_of, Parent, Child, walk, next, only_if, tally}
use Rattle.tables.specs.Rules.R1.{R1}
use Rattle.tables.specs.Rules.R4.{Own}
use Rattle.tables.specs.Rules.R5.{R5}
use Rattle.tables.specs.Rules.R6.{R6, Run}
use Rattle.tables.specs.Rules.R8.{file_sectors, file_type, InType, File, FileLaw, R8}
use Rattle.tables.specs.Lawful.{LawfulWith}
use Rattle.tables.specs.Books.{GoodWith}
use Rattle.tables.proofs.ChainLaws.{walk_none, chain_one}
use Rattle.tables.proofs.Sector1CountLaws.{only_eq, only_ne}
use Rattle.allocation.specs.declared.growth.Cursor.{Cursor}
use Rattle.allocation.specs.Choice.{in_order}
use Rattle.allocation.specs.MadeFiles.{only_counts}
use Rattle.allocation.specs.Held.{Held, Ends}
use Rattle.allocation.specs.Lengthened.{sectors_in, AllOf, Quiet}
use Rattle.allocation.proofs.FileLaws.{order_only}
use Rattle.allocation.proofs.SizeLaws.{run_typed}
use Rattle.allocation.proofs.StepLaws.{Calm}
use Rattle.allocation.proofs.ChangeLaws.{parent_file, free_file, child_file, parent_slots, first_under}

-- ---- the nine rules

module _ (v : View) (f : ℕ) {extra : ℕ → ℕ} (h : Held v f extra) where
  pub held_R6 : (Parent v f → Used f (v.table f) 0) → R6 v
  held_R6 used i l lo =
      let o = h.r6 i l lo in
      record {
        first = o.first;
        used = o.used;
        one = λ w. elim (ℕ_discrete i f) [
          | yes e ↦ rw e (used (rw e at (let b : Parent v i = record { low = lo; high = omega arith; word = w } in b)))
          | no ne ↦ o.one w ne
        ];
        header = o.header;
      }

  pub held_R8 : FileLaw v f → R8 v
  held_R8 law i l lo = elim (ℕ_discrete i f) [ yes e ↦ rw e law | no ne ↦ h.r8 i l lo ne ]

pub held_rules : (p : Places) (b : List ℕ) (f : ℕ) {extra : ℕ → ℕ} → R1 p b → Held (view_of p b) f extra → (Parent (view_of p b) f → Used f ((view_of p b).table f) 0) → FileLaw (view_of p b) f
    → LawfulWith extra p b
held_rules p b f r1 h used law =
    let v = view_of p b in
    record {
      r1 = r1;
      r2 = h.r2;
      r3 = h.r3;
      r4 = h.r4;
      r5 = h.r5;
      r6 = held_R6 v f h used;
      r7 = h.r7;
      r8 = held_R8 v f h law;
      r9 = h.r9;
    }

-- where no file is left out, nothing is asked besides
module _ (v : View) {extra : ℕ → ℕ} (h : Held v 0 extra) where
  pub all_R6 : R6 v
  all_R6 = held_R6 v 0 h (λ b. absurd (omega (arith, b.low)))

  pub all_R8 : R8 v
  all_R8 i l lo = h.r8 i l lo (λ z. omega arith)

-- ---- the books' other numbers, from sector 0 and N

module _ (p : Places) (b b' : List ℕ) (q : Quiet p b b') where
  low16 : (o : ℕ) → o + 2 ≤ 1028 → u16_at b' o ≡ u16_at b o
  unfolding u16_at
  low16 o l = rw (q.low o (omega arith), q.low (o + 1) (omega arith))

  low32 : (o : ℕ) → o + 4 ≤ 1028 → u32_at b' o ≡ u32_at b o
  unfolding u32_at
  low32 o l = rw (q.low o (omega arith), q.low (o + 1) (omega arith), q.low (o + 2) (omega arith), q.low (o + 3) (omega arith))

  pub quiet_places : places_of b' ≡ places_of b
  quiet_places = rw (low32 130 (omega arith), low32 1024 (omega arith), low32 138 (omega arith), low32 142 (omega arith), low32 146 (omega arith))

  pub quiet_R1 : R1 p b → R1 p b'
  quiet_R1 r = record { stand = rw q.len r.stand; tails = q.tails r.stand r.tails }

pub quiet_good : (b b' : List ℕ) (p : Places) {extra : ℕ → ℕ} → GoodWith extra b p → Quiet p b b' → LawfulWith extra p b' → GoodWith extra b' p
quiet_good b b' p g q lawful = record {
  places = g.places ∙ sym (quiet_places p b b' q);
  sized = record { whole = rw q.len g.sized.whole; least = rw q.len g.sized.least; most = rw q.len g.sized.most };
  marked = record { mark = low32 p b b' q 0 (omega arith) ∙ g.marked.mark; version = low32 p b b' q 4 (omega arith) ∙ g.marked.version };
  placed = record {
    limits = (let l = g.placed.limits in record {
      least = rw (low32 p b b' q 130 (omega arith)) l.least;
      most = rw (low32 p b b' q 130 (omega arith)) l.most;
      some = rw (low32 p b b' q 1024 (omega arith)) l.some;
      few = rw (low32 p b b' q 1024 (omega arith)) l.few;
      zone = low16 p b b' q 134 (omega arith) ∙ l.zone;
      sector = low16 p b b' q 136 (omega arith) ∙ l.sector;
      index = low16 p b b' q 150 (omega arith) ∙ l.index;
    });
    stand = rw (quiet_places p b b' q, q.len) g.placed.stand;
  };
  layout = rw q.len g.layout;
  lawful = lawful;
}

pub calm_quiet : {p : Places} {b b' : List ℕ} → Calm p b b' → Quiet p b b'
calm_quiet c = record { len = c.len; low = c.low; tails = c.tails }

pub quiet_trans : {p : Places} {a b c : List ℕ} → Quiet p a b → Quiet p b c → Quiet p a c
quiet_trans f g = record {
  len = g.len ∙ f.len;
  low = λ j l. g.low j l ∙ f.low j l;
  tails = λ s t. g.tails (rw f.len s) (f.tails s t);
}

-- ---- a file that has sectors has a first pointer, and one type if they are all of it

sectors_blank : (i : ℕ) (t : List ℕ) → ((j : ℕ) → j < slots_of i t → count_of i t j ≡ 0) → sectors_of i t ≡ 0
unfolding sectors_of
sectors_blank i t h = sum_zero (slots_of i t) _ h

sectors_part : (i : ℕ) (t : List ℕ) (j : ℕ) → j < slots_of i t → count_of i t j ≤ sectors_of i t
unfolding sectors_of
sectors_part i t j l = sum_part (slots_of i t) j (λ j. count_of i t j) l

module _ (v : View) (f : ℕ) (few : v.indexes ≤ 4096) (r5 : R5 v) (c : Cursor) (e : Ends v f c) where
  abbrev t : List ℕ
  t = v.table f

  -- where its chain is the parent alone, no child names it
  no_child : e.long ≡ 0 → (i : ℕ) → Child v i → parent_of (v.table i) ≢ f
  no_child z i b q =
      let o = rw q at (r5.stands i b) in
      let m = chain_one v f (r5.long f) e.long (r5.chain f e.parent) e.chain in
      omega (arith, o.below)

  -- where its last table has no pointer, it has no sector
  no_sectors : (own : Each (Own v) 1 (v.indexes + 1)) → c.tail.slot ≡ 0 → file_sectors v f ≡ 0
  unfolding file_sectors tally
  no_sectors own z = sum_zero v.indexes _ (λ k l. part (k + 1) (omega arith) (omega arith))
    where
      alone : e.long ≡ 0
      alone = (e.none z).1

      here : f ≡ c.table.0
      here = sym (walk_none (next v) f) ∙ ap (λ (n : ℕ). walk (next v) f n) (sym alone) ∙ e.table

      blank : (j : ℕ) → j < slots_of f t → count_of f t j ≡ 0
      blank j l = elim (ℕ_discrete (count_of f t j) 0) [
        | yes q ↦ q
        | no ne ↦ absurd (rw (sym here) at e.unused j l (omega arith) (omega arith))
      ]

      none : sectors_of f t ≡ 0
      none = sectors_blank f t blank

      of : (i : ℕ) → 1 ≤ i → i ≤ v.indexes → file_of i (v.table i) ≡ f → i ≡ f
      of i lo hi q =
          ⊎_elim (λ w. absurd (omega (arith, free_file v i (record { low = lo; high = hi; word = w }), e.parent.low)))
          (λ o. ⊎_elim (λ w. sym (parent_file v i (record { low = lo; high = hi; word = w })) ∙ q)
          (λ w. (let b : Child v i = record { low = lo; high = hi; word = w } in absurd (no_child alone i b (sym (child_file v i few b) ∙ q)))) o)
          (own i (omega arith) lo).word

      part : (i : ℕ) → 1 ≤ i → i ≤ v.indexes → only_if (eqb (file_of i (v.table i)) f) (sectors_of i (v.table i)) ≡ 0
      part i lo hi = elim (ℕ_discrete (file_of i (v.table i)) f) [
        | yes q ↦ only_eq (file_of i (v.table i)) f _ q ∙ ap (λ (n : ℕ). sectors_of n (v.table n)) (of i lo hi q) ∙ none
        | no ne ↦ only_ne (file_of i (v.table i)) f _ ne
      ]

  pub ends_used : Each (Own v) 1 (v.indexes + 1) → 1 ≤ file_sectors v f → Used f t 0
  ends_used own some = elim (ℕ_discrete c.tail.slot 0) [
    | yes z ↦ absurd (omega (arith, no_sectors own z))
    | no ne ↦ elim (ℕ_discrete e.long 0) [
      | yes q ↦ (let here : c.table.0 ≡ f = sym e.table ∙ ap (λ (n : ℕ). walk (next v) f n) q ∙ walk_none (next v) f in
          rw here at (e.used 0 (omega arith)))
      | no nq ↦ rw (walk_none (next v) f) at (e.chain.full 0 (omega arith)) 0 (omega (arith, parent_slots v f e.parent))
    ]
  ]

module _ (v : View) (f : ℕ) {extra : ℕ → ℕ} (h : Held v f extra) (parent : Parent v f) (used : Used f (v.table f) 0) where
  first_slot : 0 < slots_of f (v.table f)
  first_slot = omega (arith, parent_slots v f parent)

  first_run : Run v (start_of f (v.table f) 0) (count_of f (v.table f) 0)
  first_run = (h.r6 f (omega (arith, parent.high)) parent.low).used 0 first_slot used

  -- the type of all its sectors is the file's type
  pub in_file : (t : ℕ) → InType v f t → file_type v f ≡ t
  unfolding file_type
  in_file t all = all f 0 (start_of f (v.table f) 0) (parent_file v f parent) (first_under v f parent first_run)

  pub in_one : (t : ℕ) → InType v f t → InType v f (file_type v f)
  in_one t all i j s e u = all i j s e u ∙ sym (in_file t all)

  pub file_typed : DataType (file_type v f)
  file_typed = run_typed v f first_run

  pub some_sectors : 1 ≤ file_sectors v f
  unfolding file_sectors tally
  some_sectors =
      let q : f - 1 + 1 ≡ f = omega (arith, parent.low) in
      let a = sum_part v.indexes (f - 1) (λ k. only_if (eqb (file_of (k + 1) (v.table (k + 1))) f) (sectors_of (k + 1) (v.table (k + 1)))) (omega (arith, parent.low, parent.high)) in
      let o = only_eq (file_of f (v.table f)) f (sectors_of f (v.table f)) (parent_file v f parent) in
      let s = sectors_part f (v.table f) 0 first_slot in
      omega (arith, rw q at a, o, s, first_run.some)

-- ---- the fields of a parent's bytes

pub record Fields (t name created changed : List ℕ) (long attribute : ℕ) : Type 0 where
  pub size : length t ≡ 128
  pub name' : (k : ℕ) → k < 24 → get_or t (4 + k) 0 ≡ get_or name k 0
  pub created' : (k : ℕ) → k < 6 → get_or t (28 + k) 0 ≡ get_or created k 0
  pub changed' : (k : ℕ) → k < 6 → get_or t (34 + k) 0 ≡ get_or changed k 0
  pub long' : length_of t ≡ long
  pub attribute' : attribute_of t ≡ attribute

pub table_fields : (t : List ℕ) → length t ≡ 128 → Fields t (name_of t) (created_of t) (changed_of t) (length_of t) (attribute_of t)
table_fields t size = record {
  size = size;
  name' = λ k l. sym (get_d_part t 4 24 k l);
  created' = λ k l. sym (get_d_part t 28 6 k l);
  changed' = λ k l. sym (get_d_part t 34 6 k l);
  long' = refl;
  attribute' = refl;
}

-- they lie in its first 58 bytes
pub fields_front : {t t' name created changed : List ℕ} {long attribute : ℕ} → length t' ≡ 128 → ((o : ℕ) → o < 58 → get_or t' o 0 ≡ get_or t o 0)
    → Fields t name created changed long attribute → Fields t' name created changed long attribute
unfolding u32_at u16_at
fields_front {t} {t'} {name} {created} {changed} {long} {attribute} size front f = record {
  size = size;
  name' = λ k l. front (4 + k) (omega arith) ∙ f.name' k l;
  created' = λ k l. front (28 + k) (omega arith) ∙ f.created' k l;
  changed' = λ k l. front (34 + k) (omega arith) ∙ f.changed' k l;
  long' = rw (front 40 (omega arith), front 41 (omega arith), front 42 (omega arith), front 43 (omega arith)) f.long';
  attribute' = rw (front 44 (omega arith), front 45 (omega arith)) f.attribute';
}

same_name : (f g : List ℕ) → ((k : ℕ) → k < 24 → get_or g k 0 ≡ get_or f k 0) → Name f → Name g
same_name f g e n = record {
  long = n.long;
  some = n.some;
  most = n.most;
  text = λ k l z. n.text k l (sym (e k (omega (arith, n.most))) ∙ z);
  nulls = λ k l h. e k l ∙ n.nulls k l h;
}

same_date : (t d : List ℕ) (at : ℕ) → length t ≡ 128 → at + 6 ≤ 128 → ((k : ℕ) → k < 6 → get_or t (at + k) 0 ≡ get_or d k 0) → Date d → Date (take 6 (drop at t))
same_date t d at size fits e date =
    let q : take 6 (drop at t) ≡ d = rw date.long at (same_all t d at (omega (arith, date.long)) (λ k l. e k (omega (arith, date.long)))) in
    rw q date

-- what R8 asks of them
pub fields_file : (v : View) (f : ℕ) (t name created changed : List ℕ) (long attribute : ℕ) → Fields t name created changed long attribute → Name name → Date created → Date changed
    → long < 2147483648 → long ≤ 1024 * file_sectors v f → (variable_bit attribute ≡ 0 → 1 ≤ long) → (variable_bit attribute ≡ 1 → InType v f (file_type v f))
    → attribute < 128 → directory_bit attribute + system_bit attribute ≤ 1 → File v f t
fields_file v f t name created changed long attribute h n c d least most fixed variable weights both = record {
  name = same_name name (name_of t) (λ k l. get_d_part t 4 24 k l ∙ h.name' k l) n;
  least = rw h.long' least;
  most = rw h.long' most;
  fixed = rw (h.long', h.attribute') fixed;
  variable = rw h.attribute' variable;
  weights = rw h.attribute' weights;
  both = rw h.attribute' both;
  created = same_date t created 28 h.size (omega arith) h.created' c;
  changed = same_date t changed 34 h.size (omega arith) h.changed' d;
}

-- ---- the sectors of counted blocks

sectors_append : (xs ys : List ℕ) → sectors_in (xs ++ ys) ≡ sectors_in xs + sectors_in ys
unfolding sectors_in
sectors_append [] ys = omega arith
sectors_append (t ∷ xs) ys = omega (arith, sectors_append xs ys)

pub many_sectors : (n t : ℕ) → sectors_in (replicate n t) ≡ n * block_of t
unfolding sectors_in
many_sectors zero t = sym (zero-mul (block_of t))
many_sectors (suc n) t = omega (arith, many_sectors n t, suc-mul n (block_of t))

pub supplied_sectors : (counts : List ℕ) → 1024 * sectors_in (in_order counts) ≡ supplied_by counts
unfolding sectors_in in_order supplied_by block_bytes
supplied_sectors [] = refl
supplied_sectors (n ∷ ns) =
    omega (arith, sectors_append (replicate n (length ns + 3)) (in_order ns), many_sectors n (length ns + 3), supplied_sectors ns, mul_left_comm n 1024 (block_of (length ns + 3)))

pub all_many : (n t : ℕ) → AllOf (replicate n t) t
unfolding AllOf
all_many zero t = tt
all_many (suc n) t = (refl, all_many n t)

-- blocks of one type only
pub all_only : (n t : ℕ) → DataType t → AllOf (in_order (only_counts t n)) t
all_only n t typed = rw (order_only t n typed) (all_many n t)
