-- A new file with its blocks: the books meet the nine rules again.
use mathlib.Core.Path.{◌≡◌, refl}
use mathlib.Core.List.{List, [], ◌∷◌}
use Prim.Native.Nat.{ℕ, ◌≤◌}
use native.Mathlib.Omega.{arith}
use lib.ListN.{length, get_or-eq_default}
use Rattle.tables.specs.declared.places.Places.{Places}
use Rattle.tables.specs.Names.{Name, NewName}
use Rattle.tables.specs.Places.{Layout}
use Rattle.tables.specs.Indexes.{table_at, Used, system_bit, directory_bit}
use Rattle.tables.specs.Sector1.{first_free_of}
use Rattle.tables.specs.Views.{View, view_of}
use Rattle.tables.specs.Rules.R8.{file_sectors, FileLaw}
use Rattle.tables.specs.Lawful.{LawfulWith}
use Rattle.tables.specs.Withheld.{KeepsTypes}
use Rattle.tables.proofs.BlockLaws.{data_block}
use Rattle.tables.proofs.IndexLaws.{length_table}
use Rattle.tables.proofs.WithheldLaws.{keeps_same, keeps_trans}
use Rattle.allocation.specs.Choice.{in_order, in_turn}
use Rattle.allocation.specs.NextPointer.{no_pointer}
use Rattle.allocation.specs.NewTables.{New, put_new_parent}
use Rattle.allocation.specs.Growth.{Growth, add_block}
use Rattle.allocation.specs.Stock.{AllTyped}
use Rattle.allocation.specs.Ready.{Head, Ready}
use Rattle.allocation.specs.Steps.{parent_bytes, Made}
use Rattle.allocation.specs.Held.{Ends}
use Rattle.allocation.specs.Lengthened.{sectors_in, Quiet, Lengthened}
use Rattle.allocation.specs.NewLawful.{NewLawful}
use Rattle.allocation.specs.MadeFiles.{ProvidedWith, started, created}
use Rattle.allocation.proofs.OrderLaws.{order_typed}
use Rattle.allocation.proofs.FileLaws.{provided_head, started_made}
use Rattle.allocation.proofs.PointerBytes.{parent_length, parent_name, parent_created, parent_changed, parent_long, parent_attribute}
use Rattle.allocation.proofs.StepLaws.{parent_popped, file_counted}
use Rattle.allocation.proofs.MadeHeld.{Begun, made_held}
use Rattle.allocation.proofs.HeldLawful.{held_rules, quiet_R1, quiet_trans, calm_quiet, ends_used, in_one, Fields, fields_front, fields_file}
use Rattle.allocation.proofs.AddHeld.{adds_held}

-- ---- the bytes of a new parent

new_name : (n : List ℕ) → NewName n → Name n
new_name n h = record {
  long = length n;
  some = h.some;
  most = h.most;
  text = λ k l. (h.text k l).some;
  nulls = λ k l le. get_or-eq_default n 0 le;
}

module _ (x : ℕ) (n : New) (name : length n.name ≤ 24) (date : length n.date ≡ 6) where
  parent_fields : Fields (parent_bytes x n) n.name n.date n.date n.length n.attribute
  parent_fields = record {
    size = parent_length x n name date;
    name' = parent_name x n name date;
    created' = parent_created x n name date;
    changed' = parent_changed x n name date;
    long' = parent_long x n name date;
    attribute' = parent_attribute x n name date;
  }

-- ---- the books with the parent and no block yet

-- blocks have sectors
some_sectors : (ts : List ℕ) → AllTyped ts → 1 ≤ length ts → 1 ≤ sectors_in ts
unfolding sectors_in AllTyped
some_sectors [] a l = absurd (omega arith)
some_sectors (t ∷ ts) a l = omega (arith, (data_block t a.0).some)

module _ (p : Places) (b : List ℕ) (n : New) (counts : List ℕ) {extra : ℕ → ℕ} (provided : ProvidedWith extra p b no_pointer counts) (new : NewLawful n counts) where
  abbrev f : ℕ
  f = first_free_of b

  abbrev some_head : Head p b
  some_head = provided_head p b counts provided

  abbrev start_made : Made (view_of p b) (view_of p (started p b n).books) n (system_bit n.attribute) (directory_bit n.attribute)
  start_made = started_made p b n provided.layout some_head new.name.most new.date.long

  start_begun : Begun extra (view_of p (started p b n).books) f
  start_begun =
      let l = provided.lawful in
      made_held (view_of p b) (view_of p (started p b n).books) n (system_bit n.attribute) (directory_bit n.attribute) provided.layout.few start_made
      (λ z. omega (arith, some_head.low)) l.r2 l.r3 l.r4 l.r5 l.r6 l.r7 l.r8 l.r9 new.active refl refl new.name.most new.date.long

  start_ends : Ends (view_of p (started p b n).books) f (started p b n).cursor
  unfolding started
  start_ends = start_begun.ends

  start_quiet : Quiet p b (started p b n).books
  unfolding started
  start_quiet =
      let k = (parent_popped p b n provided.layout some_head new.name.most new.date.long).calm in
      quiet_trans (calm_quiet k) (calm_quiet (file_counted p (put_new_parent p b n) (system_bit n.attribute) (directory_bit n.attribute) n.date
      (rw k.len provided.layout) new.date.long).calm)

  -- ---- with its blocks

  module _ (g : Growth) (h : Lengthened extra p f (started p b n) g (in_order counts)) where
    abbrev v : View
    v = view_of p g.books

    quiet : Quiet p b g.books
    quiet = quiet_trans start_quiet h.quiet

    layout : Layout p (length g.books)
    layout = rw quiet.len provided.layout

    sectors : file_sectors v f ≡ sectors_in (in_order counts)
    sectors = omega (arith, h.sectors, start_begun.sectors)

    used : Used f (v.table f) 0
    used =
        ends_used v f layout.few h.held.r5 g.cursor h.ends h.held.r4.own
        (omega (arith, sectors, some_sectors (in_order counts) (order_typed counts provided.six) new.some))

    fields : Fields (v.table f) n.name n.date n.date n.length n.attribute
    fields =
        fields_front {t = table_at p (started p b n).books f} (length_table p g.books f layout h.ends.parent.low h.ends.parent.high) (λ o l. h.front o (omega arith))
        (rw start_made.new (parent_fields f n new.name.most new.date.long))

    law : FileLaw v f
    law w =
        fields_file v f (v.table f) n.name n.date n.date n.length n.attribute fields (new_name n.name new.name) new.date new.date new.least
        (rw sectors new.most) new.fixed
        (λ e. (let t = new.variable e in in_one v f h.held h.ends.parent used t.0 (h.types t.0 t.1 (start_begun.types t.0))))
        new.weights new.both

    lawful : LawfulWith extra p g.books
    lawful = held_rules p g.books f (quiet_R1 p b g.books quiet provided.lawful.r1) h.held (λ b. used) law

    types : KeepsTypes extra (view_of p b) v
    types = keeps_trans extra (view_of p b) (view_of p (started p b n).books) v refl (keeps_same extra (view_of p b) (view_of p (started p b n).books) start_made.ground.zone) h.keeps

  module _ (ready : Ready p f (started p b n) (in_order counts)) where
    lengthened : Lengthened extra p f (started p b n) (in_turn (add_block p f) (in_order counts) (started p b n)) (in_order counts)
    lengthened = adds_held p f (in_order counts) (started p b n) ready start_begun.held start_ends

pub created_lawful : (p : Places) (b : List ℕ) (n : New) (counts : List ℕ) {extra : ℕ → ℕ} → ProvidedWith extra p b no_pointer counts → NewLawful n counts
    → Ready p (first_free_of b) (started p b n) (in_order counts) → LawfulWith extra p (created p b n counts)
unfolding created
created_lawful p b n counts provided new ready = lawful p b n counts provided new _ (lengthened p b n counts provided new ready)

pub created_quiet : (p : Places) (b : List ℕ) (n : New) (counts : List ℕ) {extra : ℕ → ℕ} → ProvidedWith extra p b no_pointer counts → NewLawful n counts
    → Ready p (first_free_of b) (started p b n) (in_order counts) → Quiet p b (created p b n counts)
unfolding created
created_quiet p b n counts provided new ready = quiet p b n counts provided new _ (lengthened p b n counts provided new ready)

-- zones with sectors that are set besides keep their types
pub created_types : (p : Places) (b : List ℕ) (n : New) (counts : List ℕ) {extra : ℕ → ℕ} → ProvidedWith extra p b no_pointer counts → NewLawful n counts
    → Ready p (first_free_of b) (started p b n) (in_order counts) → KeepsTypes extra (view_of p b) (view_of p (created p b n counts))
unfolding created
created_types p b n counts provided new ready = types p b n counts provided new _ (lengthened p b n counts provided new ready)
