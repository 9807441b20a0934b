-- A file that grows: where its pointers end, how many blocks it lacks, and that the books meet the nine rules again.
use mathlib.Core.Path.{◌≡◌, refl, ap, ◌∙◌}
use mathlib.Core.Logic.{inl, inr}
use mathlib.Core.List.{List}
use Prim.Native.Nat.{ℕ, ◌+◌, ◌-◌, ◌*◌, ◌≤◌, ◌<◌}
use native.Mathlib.Nat.{mul_comm, mul_assoc}
use native.Mathlib.Omega.{arith}
use lib.ListN.{length}
use Rattle.field.specs.Numbers.{u16_at, u32_at, put_u32}
use Rattle.field.specs.Kept.{Kept}
use Rattle.field.specs.Parts.{over}
use Rattle.field.proofs.Frames.{kept_trans, kept_wider}
use Rattle.field.proofs.NumberLaws.{u16_kept, kept_put_u32, u32_put_same}
use Rattle.field.proofs.PartLaws.{over_part, same_at}
use Rattle.tables.specs.declared.places.Places.{Places}
use Rattle.tables.specs.Blocks.{DataType, block_of}
use Rattle.tables.specs.Counts.{block_bytes}
use Rattle.tables.specs.Dates.{Date}
use Rattle.tables.specs.Places.{Layout}
use Rattle.tables.specs.Indexes.{table_place, table_at, put_changed, name_of, created_of, changed_of, length_of, attribute_of, Used, variable_bit, header_start, header_count}
use Rattle.tables.proofs.FrameLaws.{header_start_kept, header_count_kept}
use Rattle.tables.specs.Views.{View, view_of, Parent}
use Rattle.tables.specs.Rules.R8.{file_sectors, file_type, InType, File}
use Rattle.tables.specs.Lawful.{LawfulWith}
use Rattle.tables.specs.Withheld.{KeepsTypes}
use Rattle.tables.proofs.BlockLaws.{data_block}
use Rattle.tables.proofs.ChoiceLaws.{ceil_enough}
use Rattle.tables.proofs.IndexLaws.{length_table}
use Rattle.tables.proofs.WithheldLaws.{keeps_same, keeps_trans}
use Rattle.allocation.specs.Last.{last_table, cursor_of}
use Rattle.allocation.specs.Held.{Held, Ends}
use Rattle.allocation.specs.Steps.{SameCounts}
use Rattle.allocation.specs.Choice.{in_order, in_turn}
use Rattle.allocation.specs.Growth.{Growth, add_block}
use Rattle.allocation.specs.Ready.{Ready}
use Rattle.allocation.specs.Lengthened.{sectors_in, AllOf, Quiet, Lengthened}
use Rattle.allocation.specs.MadeFiles.{ProvidedWith, blocks_for, put_change, grown}
use Rattle.allocation.proofs.LastLaws.{last_table_lem, used_le, used_before, used_not, last_shape, last_some}
use Rattle.allocation.proofs.FileLaws.{ready_grow}
use Rattle.allocation.proofs.MadeHeld.{lawful_held}
use Rattle.allocation.proofs.HeldLawful.{held_rules, quiet_R1, quiet_trans, ends_used, in_one, file_typed, some_sectors, Fields, table_fields, fields_front, fields_file}
use Rattle.allocation.proofs.AddHeld.{adds_held}
use Rattle.allocation.proofs.TableLaws.{table_put32, table_over}
use Rattle.allocation.proofs.StampedLaws.{Stamped, stamped, stamped_own, table_dated}
use Rattle.allocation.proofs.PointerBytes.{word_kept}
use Rattle.allocation.proofs.ChangeLaws.{stay_R9}
use Rattle.allocation.proofs.RestatedLaws.{Restated, restated_parent, restated_change, restated_used, restated_sectors, restated_held, restated_types}

-- ---- where file f goes on

module _ (p : Places) (b : List ℕ) (f : ℕ) {extra : ℕ → ℕ} (h : LawfulWith extra p b) (parent : Parent (view_of p b) f) where
  abbrev v : View
  v = view_of p b

  abbrev i : ℕ
  i = last_table v f

  pub cursor_ends : Ends v f (cursor_of p b f)
  unfolding cursor_of
  cursor_ends = record {
    parent = parent;
    long = h.r5.long f;
    chain = h.r5.chain f parent;
    table = last_table_lem v f (h.r5.long f) parent (h.r5.chain f parent);
    capacity = refl;
    within = used_le i (v.table i);
    used = used_before i (v.table i);
    unused = used_not i (v.table i) (last_shape v f h.r5 h.r6 parent).first;
    pointer = λ l. refl;
    none = λ z. absurd (omega (arith, last_some v f h.r5 h.r6 parent));
  }

-- ---- a file of lawful books

module _ (p : Places) (b : List ℕ) (f : ℕ) {extra : ℕ → ℕ} (l : LawfulWith extra p b) where
  pub rules_held : Held (view_of p b) f extra
  rules_held = lawful_held (view_of p b) f l.r2 l.r3 l.r4 l.r5 l.r6 l.r7 l.r8 l.r9

  was_used : Parent (view_of p b) f → Used f (table_at p b f) 0
  was_used parent = (l.r6 f (omega (arith, parent.high)) parent.low).one parent.word

-- ---- its type, and how many blocks it lacks

pub lawful_typed : (p : Places) (b : List ℕ) (f : ℕ) {extra : ℕ → ℕ} → LawfulWith extra p b → Parent (view_of p b) f → DataType (file_type (view_of p b) f)
lawful_typed p b f l parent = file_typed (view_of p b) f (rules_held p b f l) parent (was_used p b f l parent)

pub blocks_enough : (v : View) (f long : ℕ) → DataType (file_type v f) → long ≤ 1024 * (file_sectors v f + blocks_for v f long * block_of (file_type v f))
unfolding blocks_for block_bytes
blocks_enough v f long typed =
    omega (
      arith,
      ceil_enough (long - 1024 * file_sectors v f) (1024 * block_of (file_type v f)) (omega (arith, (data_block (file_type v f) typed).some)),
      mul_assoc 1024 (block_of (file_type v f)) (blocks_for v f long),
      mul_comm (block_of (file_type v f)) (blocks_for v f long),
    )

-- ---- the length and the dates

-- of file f's parent only bytes 34 to 43, the change date and the byte length, are others
pub record Resized (v v' : View) (f : ℕ) : Type 0 where
  pub restated : Restated v v' f
  pub attribute : attribute_of (v'.table f) ≡ attribute_of (v.table f)
  pub free : v'.free ≡ v.free
  pub counts : SameCounts v v'

resized_held : (v v' : View) (f : ℕ) {extra : ℕ → ℕ} → Resized v v' f → v.indexes ≤ 4096 → Parent v f → Held v f extra → Held v' f extra
resized_held v v' f w few parent h =
    restated_held v v' f w.restated few parent h
    (stay_R9 v v' f f (restated_change v v' f w.restated few parent) (word_kept f w.restated.here (omega arith)) (λ e. w.attribute) w.counts w.free h.r9)

-- ---- as bytes

module _ (p : Places) (b : List ℕ) (f long : ℕ) (date : List ℕ) (lay : Layout p (length b)) (lo : 1 ≤ f) (hi : f ≤ p.indexes) (six : length date ≡ 6) where
  abbrev new : List ℕ
  new = put_u32 (over (table_at p b f) 34 date) 40 long

  sized : length (table_at p b f) ≡ 128
  sized = length_table p b f lay lo hi

  new_kept : Kept (table_at p b f) new 34 10
  new_kept =
      kept_trans (kept_wider (table_dated p b f date lay lo hi six) (omega arith) (omega arith))
      (kept_wider (kept_put_u32 (over (table_at p b f) 34 date) 40 long) (omega arith) (omega arith))

  new_fields : {name created changed : List ℕ} {old attribute : ℕ} → Fields (table_at p b f) name created changed old attribute → Fields new name created date long attribute
  new_fields h = record {
    size = new_kept.len ∙ sized;
    name' = λ k l. new_kept.out (4 + k) (inl (omega arith)) ∙ h.name' k l;
    created' = λ k l. new_kept.out (28 + k) (inl (omega arith)) ∙ h.created' k l;
    changed' = λ k l. (kept_put_u32 (over (table_at p b f) 34 date) 40 long).out (34 + k) (inl (omega arith))
        ∙ same_at (over (table_at p b f) 34 date) date 34 (over_part (table_at p b f) 34 date (omega (arith, sized))) k (omega arith);
    long' = u32_put_same (over (table_at p b f) 34 date) 40 long (omega (arith, (table_dated p b f date lay lo hi six).len, sized));
    attribute' = u16_kept 44 new_kept (inr (omega arith)) ∙ h.attribute';
  }

  pub length_new : table_at p (put_change p b f long date) f ≡ new
  unfolding put_change
  length_new =
      let x = put_changed p b f date in
      stamped_own p b f date lay lo hi six _ 40 4 (omega arith) (kept_put_u32 x (table_place p f + 40) long) ∙ table_put32 p x f 40 long (omega arith)
      ∙ ap (λ (t : List ℕ). put_u32 t 40 long) (table_over p b f 34 date lay lo hi (omega arith))

  length_stamped : Stamped p b (put_change p b f long date) f
  unfolding put_change
  length_stamped = stamped p b f date lay lo hi six _ 40 4 (omega arith) (kept_put_u32 (put_changed p b f date) (table_place p f + 40) long)

  pub length_resized : Resized (view_of p b) (view_of p (put_change p b f long date)) f
  length_resized = record {
    restated = record {
      ground = length_stamped.ground;
      indexes = refl;
      head = length_stamped.head;
      here = rw length_new (kept_wider new_kept (omega arith) (omega arith));
      there = λ j low high ne. length_stamped.other j low ne;
    };
    attribute = rw length_new (u16_kept 44 new_kept (inr (omega arith)));
    free = length_stamped.free;
    counts = length_stamped.counts;
  }

-- ---- a file that has grown

module _ (p : Places) (b : List ℕ) (f : ℕ) (counts : List ℕ) (long : ℕ) (date : List ℕ) (lay : Layout p (length b)) {extra : ℕ → ℕ} (old : LawfulWith extra p b) (parent : Parent (view_of p b) f)
    (six : length date ≡ 6) (g : Growth) (h : Lengthened extra p f (record { books = b; cursor = cursor_of p b f }) g (in_order counts)) where
  abbrev a : List ℕ
  a = g.books

  abbrev c : List ℕ
  c = put_change p g.books f long date

  lay_a : Layout p (length a)
  lay_a = rw h.quiet.len lay

  resized : Resized (view_of p a) (view_of p c) f
  resized = length_resized p a f long date lay_a parent.low parent.high six

  quiet : Quiet p b c
  quiet = quiet_trans h.quiet (length_stamped p a f long date lay_a parent.low parent.high six).quiet

  types : KeepsTypes extra (view_of p b) (view_of p c)
  types = keeps_trans extra (view_of p b) (view_of p a) (view_of p c) refl h.keeps (keeps_same extra (view_of p a) (view_of p c) resized.restated.ground.zone)

  now_parent : Parent (view_of p c) f
  now_parent = restated_parent (view_of p a) (view_of p c) f resized.restated h.ends.parent

  fields : Fields (table_at p c f) (name_of (table_at p b f)) (created_of (table_at p b f)) date long (attribute_of (table_at p b f))
  fields =
      let t = table_at p b f in
      let old = table_fields t (length_table p b f lay parent.low parent.high) in
      rw (length_new p a f long date lay_a parent.low parent.high six) (new_fields p a f long date lay_a parent.low parent.high six
      (fields_front {t = t} {changed = changed_of t} {long = length_of t} (length_table p a f lay_a parent.low parent.high) (λ o l. h.front o (omega arith)) old))

  -- the header pointer, which stands before the pointers, stays
  header_start_lem : header_start (table_at p c f) ≡ header_start (table_at p b f)
  unfolding u32_at
  header_start_lem =
      header_start_kept resized.restated.here (inr (omega arith))
      ∙ rw (h.front 58 (omega arith), h.front 59 (omega arith), h.front 60 (omega arith), h.front 61 (omega arith)) refl

  header_count_lem : header_count (table_at p c f) ≡ header_count (table_at p b f)
  unfolding u16_at
  header_count_lem = header_count_kept resized.restated.here (inr (omega arith)) ∙ rw (h.front 62 (omega arith), h.front 63 (omega arith)) refl

  held : Held (view_of p c) f extra
  held = resized_held (view_of p a) (view_of p c) f resized lay.few h.ends.parent h.held

  sectors : file_sectors (view_of p c) f ≡ file_sectors (view_of p b) f + sectors_in (in_order counts)
  sectors = restated_sectors (view_of p a) (view_of p c) f resized.restated lay.few h.ends.parent ∙ h.sectors

  used : Used f (table_at p c f) 0
  used =
      let some = some_sectors (view_of p b) f (rules_held p b f old) parent (was_used p b f old parent) in
      restated_used (view_of p a) (view_of p c) f resized.restated lay.few h.ends.parent
      (ends_used (view_of p a) f lay.few h.held.r5 g.cursor h.ends h.held.r4.own (omega (arith, h.sectors, some)))

  module _ (valid : Date date) (variable : variable_bit (attribute_of (table_at p b f)) ≡ 1) (all : AllOf (in_order counts) (file_type (view_of p b) f)) (least : long < 2147483648)
      (most : long ≤ 1024 * (file_sectors (view_of p b) f + sectors_in (in_order counts))) where
    was_file : File (view_of p b) f (table_at p b f)
    was_file = old.r8 f (omega (arith, parent.high)) parent.low parent.word

    one : InType (view_of p c) f (file_type (view_of p c) f)
    one =
        let t = file_type (view_of p b) f in
        in_one (view_of p c) f held now_parent used t (restated_types (view_of p a) (view_of p c) f resized.restated lay.few h.ends.parent h.held t
        (h.types t all (was_file.variable variable)))

    lawful : LawfulWith extra p c
    lawful = held_rules p c f (quiet_R1 p b c quiet old.r1) held (λ q. used) (λ w.
        fields_file (view_of p c) f (table_at p c f) (name_of (table_at p b f)) (created_of (table_at p b f)) date long (attribute_of (table_at p b f)) fields
        was_file.name was_file.created valid least (rw sectors most) (λ e. omega arith) (λ e. one) was_file.weights was_file.both)

module _ (p : Places) (b : List ℕ) (f : ℕ) (counts : List ℕ) {extra : ℕ → ℕ} (has : ProvidedWith extra p b (cursor_of p b f).tail counts) (parent : Parent (view_of p b) f) where
  abbrev begun : Growth
  begun = record { books = b; cursor = cursor_of p b f }

  pub grown_lengthened : Lengthened extra p f (record { books = b; cursor = cursor_of p b f }) (in_turn (add_block p f) (in_order counts) (record { books = b; cursor = cursor_of p b f })) (in_order counts)
  grown_lengthened = adds_held p f (in_order counts) begun (ready_grow p b f counts has parent) (rules_held p b f has.lawful) (cursor_ends p b f has.lawful parent)

  -- whatever the date's bytes are
  module _ (long : ℕ) (date : List ℕ) (six : length date ≡ 6) where
    pub grown_calm : Quiet p b (grown p b f counts long date)
    unfolding grown
    grown_calm = quiet p b f counts long date has.layout has.lawful parent six _ grown_lengthened

    pub grown_parent : Parent (view_of p (grown p b f counts long date)) f
    unfolding grown
    grown_parent = now_parent p b f counts long date has.layout has.lawful parent six _ grown_lengthened

    pub grown_long : length_of (table_at p (grown p b f counts long date) f) ≡ long
    unfolding grown
    grown_long = (fields p b f counts long date has.layout has.lawful parent six _ grown_lengthened).long'

    pub grown_attribute : attribute_of (table_at p (grown p b f counts long date) f) ≡ attribute_of (table_at p b f)
    unfolding grown
    grown_attribute = (fields p b f counts long date has.layout has.lawful parent six _ grown_lengthened).attribute'

    pub grown_header_start : header_start (table_at p (grown p b f counts long date) f) ≡ header_start (table_at p b f)
    unfolding grown
    grown_header_start = header_start_lem p b f counts long date has.layout has.lawful parent six _ grown_lengthened

    pub grown_header_count : header_count (table_at p (grown p b f counts long date) f) ≡ header_count (table_at p b f)
    unfolding grown
    grown_header_count = header_count_lem p b f counts long date has.layout has.lawful parent six _ grown_lengthened

pub grown_lawful : (p : Places) (b : List ℕ) (f : ℕ) (counts : List ℕ) (long : ℕ) (date : List ℕ) {extra : ℕ → ℕ} → ProvidedWith extra p b (cursor_of p b f).tail counts → Parent (view_of p b) f
    → variable_bit (attribute_of (table_at p b f)) ≡ 1 → AllOf (in_order counts) (file_type (view_of p b) f) → Date date → long < 2147483648
    → long ≤ 1024 * (file_sectors (view_of p b) f + sectors_in (in_order counts)) → Ready p f (record { books = b; cursor = cursor_of p b f }) (in_order counts)
    → LawfulWith extra p (grown p b f counts long date)
unfolding grown
grown_lawful p b f counts long date has parent variable all valid least most ready =
    lawful p b f counts long date has.layout has.lawful parent valid.long _ (grown_lengthened p b f counts has parent) valid variable all least most

pub grown_quiet : (p : Places) (b : List ℕ) (f : ℕ) (counts : List ℕ) (long : ℕ) (date : List ℕ) {extra : ℕ → ℕ} → ProvidedWith extra p b (cursor_of p b f).tail counts → Parent (view_of p b) f → Date date
    → Ready p f (record { books = b; cursor = cursor_of p b f }) (in_order counts) → Quiet p b (grown p b f counts long date)
grown_quiet p b f counts long date has parent valid ready = grown_calm p b f counts has parent long date valid.long

-- zones with sectors that are set besides keep their types
pub grown_types : (p : Places) (b : List ℕ) (f : ℕ) (counts : List ℕ) (long : ℕ) (date : List ℕ) {extra : ℕ → ℕ} → ProvidedWith extra p b (cursor_of p b f).tail counts → Parent (view_of p b) f
    → length date ≡ 6 → KeepsTypes extra (view_of p b) (view_of p (grown p b f counts long date))
unfolding grown
grown_types p b f counts long date has parent six =
    types p b f counts long date has.layout has.lawful parent six _ (grown_lengthened p b f counts has parent)
