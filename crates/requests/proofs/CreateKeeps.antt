-- Create fixed, create variable and grow keep the books good: the rules hold of the books afterwards, at the same places.
use Rattle.tables.specs.declared.kinds.Index.{Index}
use Rattle.std.specs.Prelude.{Option, Some, None, Result}
use mathlib.Core.Path.{◌≡◌, refl}
use mathlib.Core.List.{List, [], ◌∷◌}
use Prim.Native.Nat.{ℕ, ◌+◌, ◌*◌, ◌≤◌, ◌<◌}
use native.Mathlib.Decide.{dec_lt}
use native.Mathlib.Omega.{arith}
use lib.ListN.{length}
use borrow.Author.Tests.{lt-ltb, le-ltb}
use Rattle.tables.specs.declared.places.Places.{Places}
use Rattle.tables.specs.Books.{GoodWith}
use Rattle.tables.specs.Counts.{counts_of, Countable}
use Rattle.tables.specs.Dates.{Date}
use Rattle.tables.specs.Gates.{Gate}
use Rattle.tables.specs.Indexes.{length_of, attribute_of, variable_bit}
use Rattle.tables.specs.Places.{places_of}
use Rattle.tables.specs.Views.{View, view_of, Parent}
use Rattle.tables.specs.Rules.R8.{file_type, file_sectors}
use Rattle.tables.proofs.CountsLaws.{counts_six, counts_enough}
use Rattle.tables.proofs.GateLaws.{gate_rest, gate_front}
use Rattle.allocation.specs.Choice.{in_order}
use Rattle.allocation.specs.NextPointer.{no_pointer}
use Rattle.allocation.specs.NewTables.{New}
use Rattle.allocation.specs.Lengthened.{sectors_in, AllOf}
use Rattle.allocation.specs.NewLawful.{NewLawful}
use Rattle.allocation.specs.MadeFiles.{only_counts, blocks_for, created, grown, ProvidedWith}
use Rattle.allocation.proofs.FileLaws.{length_only, order_only, ready_start, ready_grow}
use Rattle.allocation.proofs.HeldLawful.{quiet_good, many_sectors, supplied_sectors, all_only}
use Rattle.allocation.proofs.CreatedLawful.{created_lawful, created_quiet}
use Rattle.allocation.proofs.GrownLawful.{grown_lawful, grown_quiet, blocks_enough, lawful_typed}
use Rattle.requests.specs.Amounts.{amount_value}
use Rattle.requests.specs.Create.{NewFile, Creates, attribute_for, FixedAllowed, counts_for, CreatedFixed, cell_type, VariableAllowed, CreatedVariable}
use Rattle.requests.specs.Answers.{argument_tests}
use Rattle.requests.specs.Named.{file_bytes}
use Rattle.requests.specs.Grow.{grow_counts, lack_tests, grow_tests, grown_to, Grew}
use Rattle.requests.proofs.RequestLaws.{done_keeps}
use Rattle.requests.proofs.RoomNumberLaws.{room_provides}
use Rattle.requests.proofs.ArgumentLaws.{argument_allowed}
use Rattle.requests.proofs.GrowLaws.{grow_allows, grow_parent, grow_variable, grow_room}
use Rattle.requests.proofs.AmountLaws.{signed_most}
use Rattle.requests.proofs.LongerLaws.{lack_provided}
use Rattle.tables.specs.Refusals.{number_of}
use Rattle.tables.specs.declared.refusal.Refusal.{Refusal}

-- ---- a new file

pub made_keeps : (b : List ℕ) (p : Places) (n : New) (counts : List ℕ) {extra : ℕ → ℕ} → GoodWith extra b p → ProvidedWith extra p b no_pointer counts → NewLawful n counts → GoodWith extra (created p b n counts) p
made_keeps b p n counts g h new =
    let ready = ready_start p b counts n h new.name.most new.date.long in
    quiet_good b (created p b n counts) p g (created_quiet p b n counts h new ready) (created_lawful p b n counts h new ready)

-- both creates, done: where the arguments are allowed the file is lawful, and there is all that it takes
pub creates_asks : (b withheld : List ℕ) (P : Type 0) (counts : List ℕ) (n : New) (r : Result Index Refusal) (b' : List ℕ) {extra : ℕ → ℕ} → GoodWith extra b (places_of b) → (P → NewLawful n counts × (length counts ≡ 6))
    → Creates (argument_tests b withheld P) b counts n r b' → number_of r ≡ 0 → NewLawful n counts × ProvidedWith extra (places_of b) b no_pointer counts
creates_asks b withheld P counts n r b' g new h z =
    let q = rw z at h.number in
    let a = new (argument_allowed b withheld P 0 (gate_front (argument_tests b withheld P) _ q) refl) in
    (a.0, room_provides b (places_of b) no_pointer counts 0 g a.1 (gate_rest (argument_tests b withheld P) _ q) refl)

creates_keeps : (b withheld : List ℕ) (P : Type 0) (counts : List ℕ) (n : New) (r : Result Index Refusal) (b' : List ℕ) (p : Places) {extra : ℕ → ℕ}
    → (P → NewLawful n counts × (length counts ≡ 6)) → Creates (argument_tests b withheld P) b counts n r b' → GoodWith extra b p → GoodWith extra b' p
creates_keeps b withheld P counts n r b' p new h g =
    done_keeps (number_of r) (created (places_of b) b n counts) b b' p h.books (λ z.
    (let here = rw g.places at g in
    let a = creates_asks b withheld P counts n r b' here new h z in
    rw g.places (made_keeps b (places_of b) n counts here a.1 a.0))) g

-- the weights of its attribute: not deleted, variable size as is said, one kind at most
new_lawful : (name : List ℕ) (kind : ℕ) (date : List ℕ) (variable long : ℕ) (counts : List ℕ) → NewFile name kind date → variable ≤ 1 → long < 2147483648
    → long ≤ 1024 * sectors_in (in_order counts) → (variable ≡ 0 → 1 ≤ long) → (variable ≡ 1 → (t : ℕ) × AllOf (in_order counts) t) → 1 ≤ length (in_order counts)
    → NewLawful (record { name = name; date = date; length = long; attribute = attribute_for variable kind }) counts
new_lawful name kind date variable long counts f few least most fixed one some = record {
  name = f.name';
  date = f.date';
  weights = omega (arith, f.kind');
  active = omega (arith, f.kind');
  both = omega (arith, f.kind');
  least = least;
  most = most;
  fixed = λ z. fixed (omega (arith, f.kind'));
  variable = λ z. one (omega (arith, f.kind'));
  some = some;
}

-- ---- create fixed

-- sectors are of blocks
sectors_some : (ts : List ℕ) → 1 ≤ sectors_in ts → 1 ≤ length ts
unfolding sectors_in
sectors_some [] h = absurd (omega arith)
sectors_some (t ∷ ts) h = omega arith

pub fixed_lawful : (name : List ℕ) (size : Option ℕ) (types : Option ℕ) (kind : ℕ) (date : List ℕ) → FixedAllowed name size types kind date
    → NewLawful (record { name = name; date = date; length = amount_value size; attribute = attribute_for 0 kind }) (counts_for types size) × (length (counts_for types size) ≡ 6)
fixed_lawful name None (Some w) kind date a = absurd a.counted
fixed_lawful name None None kind date a = absurd a.counted
fixed_lawful name (Some n) None kind date a = absurd a.counted
fixed_lawful name (Some n) (Some w) kind date a =
    let c : Countable w n = a.counted in
    let most : n ≤ 1024 * sectors_in (in_order (counts_of w n)) = omega (arith, counts_enough w n c, supplied_sectors (counts_of w n)) in (
      new_lawful name kind date 0 n (counts_of w n) a.file (omega arith) (omega (arith, c.high)) most (λ z. c.low) (λ z. absurd (omega arith))
          (sectors_some (in_order (counts_of w n)) (omega arith)),
      counts_six w n,
    )

-- "the rules still hold" (demand 3): after create fixed
pub fixed_keeps : (b withheld name : List ℕ) (size : Option ℕ) (types : Option ℕ) (kind : ℕ) (date : List ℕ) (r : Result Index Refusal) (b' : List ℕ) (p : Places) {extra : ℕ → ℕ}
    → CreatedFixed b withheld name size types kind date r b' → GoodWith extra b p → GoodWith extra b' p
fixed_keeps b withheld name size types kind date r b' p = creates_keeps b withheld _ _ _ r b' p (fixed_lawful name size types kind date)

-- ---- create variable

pub variable_lawful : (name : List ℕ) (cell : Option ℕ) (kind : ℕ) (date : List ℕ) → VariableAllowed name cell kind date
    → NewLawful (record { name = name; date = date; length = 0; attribute = attribute_for 1 kind }) (only_counts (cell_type cell) 1) × (length (only_counts (cell_type cell) 1) ≡ 6)
variable_lawful name cell kind date a =
    let t = cell_type cell in
    let typed = a.cell' in (
      new_lawful name kind date 1 0 (only_counts t 1) a.file (omega arith) (omega arith) (omega arith) (λ z. absurd (omega arith)) (λ z. (t, all_only 1 t typed))
          (rw (order_only t 1 typed) (omega arith)),
      length_only t 1,
    )

-- "the rules still hold" (demand 3): after create variable
pub variable_keeps : (b withheld name : List ℕ) (cell : Option ℕ) (kind : ℕ) (date : List ℕ) (r : Result Index Refusal) (b' : List ℕ) (p : Places) {extra : ℕ → ℕ}
    → CreatedVariable b withheld name cell kind date r b' → GoodWith extra b p → GoodWith extra b' p
variable_keeps b withheld name cell kind date r b' p = creates_keeps b withheld _ _ _ r b' p (variable_lawful name cell kind date)

-- ---- grow

-- a file that becomes longer is variable, and of fewer than 2,147,483,648 bytes
module _ (b : List ℕ) (id long : ℕ) (date : List ℕ) {extra : ℕ → ℕ} (g : GoodWith extra b (places_of b)) (parent : Parent (view_of (places_of b) b) id) (h : Gate (lack_tests b id long) 0) (valid : Date date)
    (grows : length_of (file_bytes b id) < long → (variable_bit (attribute_of (file_bytes b id)) ≡ 1) × (long < 2147483648)) where
  -- the blocks added are of the file's type, and enough
  longer_keeps : length_of (file_bytes b id) < long → GoodWith extra (grown (places_of b) b id (grow_counts b id long) long date) (places_of b)
  longer_keeps l =
      let p = places_of b in
      let v : View = view_of p b in
      let t : ℕ = file_type v id in
      let n : ℕ = blocks_for v id long in
      let counts = grow_counts b id long in
      let typed = lawful_typed p b id g.lawful parent in
      let provided = lack_provided b id long g h l in
      let ready = ready_grow p b id counts provided parent in
      let most : long ≤ 1024 * (file_sectors v id + sectors_in (in_order counts)) = rw (order_only t n typed, many_sectors n t) (blocks_enough v id long typed) in
      quiet_good b (grown p b id counts long date) p g (grown_quiet p b id counts long date provided parent valid ready)
      (grown_lawful p b id counts long date provided parent (grows l).0 (all_only n t typed) valid (grows l).1 most ready)

  pub grown_keeps : GoodWith extra (grown_to b id long date) (places_of b)
  unfolding grown_to
  grown_keeps = elim (dec_lt (length_of (file_bytes b id)) long) [
    | yes l ↦ rw (lt-ltb (length_of (file_bytes b id)) long l) (longer_keeps l)
    | no nl ↦ rw (le-ltb (length_of (file_bytes b id)) long (omega arith)) g
  ]

-- "the rules still hold" (demand 3): after grow
pub grew_keeps : (b withheld : List ℕ) (id : ℕ) (long : Option ℕ) (date : List ℕ) (r : ℕ) (b' : List ℕ) (p : Places) {extra : ℕ → ℕ} → Grew b withheld id long date r b' → GoodWith extra b p → GoodWith extra b' p
grew_keeps b withheld id long date r b' p h g =
    done_keeps r (grown_to b id (amount_value long) date) b b' p h.books (λ z.
    (let q : Gate (grow_tests b withheld id long date) 0 = rw z at h.number in
    let a = grow_allows b withheld id long date 0 q refl in
    rw g.places (grown_keeps b id (amount_value long) date (rw g.places at g) (grow_parent b withheld id long date 0 q refl) (grow_room b withheld id long date 0 q refl (amount_value long) refl) a.date'
    (λ l. (grow_variable b withheld id long date 0 q refl, omega (arith, signed_most long a.long')))))) g
