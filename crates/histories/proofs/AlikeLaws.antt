-- A file that two volumes have alike: show, show header and read answer the same of it.
use Rattle.std.specs.Prelude.{Option, Result, Ok, Err, IfOk}
use mathlib.Core.Path.{◌≡◌, refl, sym, ap, ap₂, ◌∙◌}
use mathlib.Core.Logic.{inl, inr, ◌≢◌}
use mathlib.Core.Bool.{Bool}
use mathlib.Core.List.{List, [], ◌∷◌, ◌++◌}
use Prim.Native.Nat.{ℕ, zero, suc, ◌+◌, ◌*◌, ◌/◌, ◌%◌, ◌≤◌, ◌<◌}
use native.Mathlib.Omega.{arith}
use lib.ListN.{length}
use Rattle.field.specs.Parts.{over}
use Rattle.tables.specs.declared.places.Places.{Places}
use Rattle.tables.specs.Gates.{Test, asks, Gate}
use Rattle.tables.specs.Indexes.{word_of, length_of, attribute_of, deleted_bit, header_start, header_count}
use Rattle.tables.specs.Places.{places_of}
use Rattle.tables.specs.Rules.R1.{ceil}
use Rattle.tables.specs.Rules.R8.{file_sectors}
use Rattle.tables.specs.Sector1.{flag_of}
use Rattle.tables.specs.Views.{view_of, Parent}
use Rattle.allocation.proofs.ChangeLaws.{parent_file}
use Rattle.files.specs.Moves.{moved, fetched}
use Rattle.files.specs.Unchanged.{Untouched}
use Rattle.files.proofs.UntouchedLaws.{other_table, other_parent, other_sectors}
use Rattle.requests.specs.Answers.{after, use_tests, argument_tests}
use Rattle.requests.specs.Body.{BodySized, body_test}
use Rattle.requests.specs.Amounts.{amount_value}
use Rattle.requests.specs.Header.{show_header_tests, HeaderShown}
use Rattle.requests.specs.Locate.{kth_of}
use Rattle.requests.specs.Named.{file_bytes, state_tests, usable_tests}
use Rattle.requests.specs.Read.{read_tests, read_amount, read_out, ReadOut}
use Rattle.requests.specs.Moving.{end_of}
use Rattle.requests.specs.Show.{show_tests, bytes_of, Shown}
use Rattle.tables.proofs.GateLaws.{zero_good, gate_rest, gate_head, gate_front}
use Rattle.histories.specs.History.{Volume, seen, LawfulVolume, write, Does, bytes_at, header_of}
use Rattle.histories.proofs.StepFrame.{step_places, step_lawful, step_other}
use Rattle.histories.proofs.StepWrite.{wrote_steady}
use Rattle.histories.proofs.HistoryLaws.{other_bytes}
use Rattle.requests.proofs.LocateLaws.{show_asks}
use Rattle.requests.proofs.NamedLaws.{usable_active}
use Rattle.requests.proofs.ReadLaws.{read_parent, read_moves}
use Rattle.tables.specs.Refusals.{number_of}
use Rattle.tables.proofs.RefusalLaws.{answers_one}
use Rattle.tables.specs.declared.refusal.Refusal.{Refusal}

-- ---- tests that say the same

-- each says the same in both lists, where those before it pass
Same : List Test → List Test → Type 0
Same [] [] = Unit {0}
Same [] (u ∷ us) = ⊥
Same (t ∷ ts) [] = ⊥
Same (t ∷ ts) (u ∷ us) = (t.number ≡ u.number) × (t.passes → u.passes) × (u.passes → t.passes) × (t.passes → Same ts us)

same_more : (n : ℕ) (P Q : Type 0) (ts us : List Test) → (P → Q) → (Q → P) → (P → Same ts us) → Same (asks n P ∷ ts) (asks n Q ∷ us)
unfolding Same
same_more n P Q ts us f g h = (refl, f, g, h)

same_last : (n : ℕ) (P Q : Type 0) → (P → Q) → (Q → P) → Same (asks n P ∷ []) (asks n Q ∷ [])
unfolding Same
same_last n P Q f g = (refl, f, g, λ h. tt)

-- they give one number
same_number : (ts us : List Test) (r s : ℕ) → Same ts us → Gate ts r → Gate us s → r ≡ s
unfolding Same Gate
same_number [] [] r s e h k = h ∙ sym k
same_number [] (u ∷ us) r s e h k = absurd e
same_number (t ∷ ts) [] r s e h k = absurd e
same_number (t ∷ ts) (u ∷ us) r s e (inl h) (inl k) = same_number ts us r s (e.3 h.0) h.1 k.1
same_number (t ∷ ts) (u ∷ us) r s e (inl h) (inr k) = absurd (k.0 (e.1 h.0))
same_number (t ∷ ts) (u ∷ us) r s e (inr h) (inl k) = absurd (h.0 (e.2 k.0))
same_number (t ∷ ts) (u ∷ us) r s e (inr h) (inr k) = h.1 ∙ e.0 ∙ sym k.1

-- ---- the file

-- file g of volume v, if there is one, is also in w, with the same bytes everywhere; and requests may be made of both or of neither
pub record SameFile (v w : Volume) (g : ℕ) : Type 0 where
  pub was : LawfulVolume v
  pub now : LawfulVolume w
  pub flag : flag_of w.books ≡ flag_of v.books
  pub stood : Parent (seen w) g → Parent (seen v) g
  pub stands : Parent (seen v) g → Parent (seen w) g
  pub table : Parent (seen v) g → file_bytes w.books g ≡ file_bytes v.books g
  pub sectors : Parent (seen v) g → file_sectors (seen w) g ≡ file_sectors (seen v) g
  pub data' : Parent (seen v) g → (k : ℕ) → k < file_sectors (seen v) g → bytes_at w g k ≡ bytes_at v g k
  pub header : Parent (seen v) g → header_of w g ≡ header_of v g

module _ (v w : Volume) (g : ℕ) (a : SameFile v w g) where
  -- 1 to 5, and 7 for the withheld list
  same_use : (ts us : List Test) → Same ts us → Same (use_tests v.books v.withheld ++ ts) (use_tests w.books w.withheld ++ us)
  unfolding use_tests
  same_use ts us h =
      let old = zero_good v.books v.withheld a.was.lawful in
      let new = zero_good w.books w.withheld a.now.lawful in
      same_more 1 _ _ _ _ (λ s. new.books.sized) (λ s. old.books.sized) (λ s.
      same_more 2 _ _ _ _ (λ s. new.books.marked) (λ s. old.books.marked) (λ s.
      same_more 3 _ _ _ _ (λ s. new.books.placed) (λ s. old.books.placed) (λ s.
      same_more 7 _ _ _ _ (λ s. new.list) (λ s. old.list) (λ s.
      same_more 4 _ _ _ _ (λ s. new.books.lawful) (λ s. old.books.lawful) (λ s.
      same_more 5 _ _ ts us (λ ne e. ne (sym a.flag ∙ e)) (λ ne e. ne (a.flag ∙ e)) (λ s. h))))))

  -- 15, 8, 9, 10
  same_body : (n : ℕ) (ts us : List Test) → (Parent (seen v) g → Same ts us) → Same (body_test v.books v.body ∷ (usable_tests n v.books g ++ ts)) (body_test w.books w.body ∷ (usable_tests n w.books g ++ us))
  unfolding usable_tests state_tests
  same_body n ts us h =
      same_more 15 _ _ _ _ (λ s. a.now.sized) (λ s. a.was.sized) (λ s.
      same_more 8 _ _ _ _ a.stands a.stood (λ parent.
      let t = a.table parent in
      let deleted : deleted_bit (attribute_of (file_bytes w.books g)) ≡ deleted_bit (attribute_of (file_bytes v.books g)) = ap (λ (t : List ℕ). deleted_bit (attribute_of t)) t in
      let weight : attribute_of (file_bytes w.books g) / n % 2 ≡ attribute_of (file_bytes v.books g) / n % 2 = ap (λ (t : List ℕ). attribute_of t / n % 2) t in
      same_more 9 _ _ _ _ (λ e. deleted ∙ e) (λ e. sym deleted ∙ e) (λ s.
      same_more 10 _ _ ts us (λ e. weight ∙ e) (λ e. sym weight ∙ e) (λ s. h parent))))

  -- ---- show

  show_number_lem : (k r s : ℕ) → Gate (show_tests v.books v.withheld v.body g k) r → Gate (show_tests w.books w.withheld w.body g k) s → r ≡ s
  unfolding show_tests
  show_number_lem k r s = same_number _ _ r s (same_use _ _ (same_body 8 _ _ (λ parent. same_last 14 _ _ (λ l. omega (arith, a.sectors parent)) (λ l. omega (arith, a.sectors parent)))))

  show_bytes : (k n : ℕ) → Gate (show_tests v.books v.withheld v.body g k) n → bytes_of n v.body (kth_of v.books g k) 1 ≡ bytes_of n w.body (kth_of w.books g k) 1
  show_bytes k zero gate =
      let q = (show_asks v.books v.withheld v.body g k 0 gate refl (places_of v.books) refl).1 in
      sym (a.data' q.0 k q.1)
  show_bytes k (suc n) gate = refl

  pub shows_same : (k : ℕ) (y z : List ℕ) → Shown v.books v.withheld v.body g k y → Shown w.books w.withheld w.body g k z → y ≡ z
  shows_same k y z old new =
      old.bytes ∙ show_bytes k old.number old.gate ∙ ap (λ (n : ℕ). bytes_of n w.body (kth_of w.books g k) 1) (show_number_lem k _ _ old.gate new.gate) ∙ sym new.bytes

  -- ---- show header

  header_number_lem : (r s : ℕ) → Gate (show_header_tests v.books v.withheld v.body g) r → Gate (show_header_tests w.books w.withheld w.body g) s → r ≡ s
  unfolding show_header_tests
  header_number_lem r s =
      same_number _ _ r s (same_use _ _ (same_body 8 _ _ (λ parent. same_last 14 _ _
      (λ l. omega (arith, ap header_count (a.table parent))) (λ l. omega (arith, ap header_count (a.table parent))))))

  header_parent : Gate (show_header_tests v.books v.withheld v.body g) 0 → Parent (seen v) g
  unfolding show_header_tests
  header_parent gate =
      let rest = (gate_head 15 (BodySized v.books v.body) _ (gate_rest (use_tests v.books v.withheld) _ gate)).1 in
      (usable_active 8 v.books g (gate_front (usable_tests 8 v.books g) _ rest)).0

  header_bytes_lem : (n : ℕ) → Gate (show_header_tests v.books v.withheld v.body g) n
      → bytes_of n v.body (header_start (file_bytes v.books g)) (header_count (file_bytes v.books g)) ≡ bytes_of n w.body (header_start (file_bytes w.books g)) (header_count (file_bytes w.books g))
  header_bytes_lem zero gate = sym (a.header (header_parent gate))
  header_bytes_lem (suc n) gate = refl

  pub headers_same : (y z : List ℕ) → HeaderShown v.books v.withheld v.body g y → HeaderShown w.books w.withheld w.body g z → y ≡ z
  headers_same y z old new =
      old.bytes ∙ header_bytes_lem old.number old.gate
      ∙ ap (λ (n : ℕ). bytes_of n w.body (header_start (file_bytes w.books g)) (header_count (file_bytes w.books g))) (header_number_lem _ _ old.gate new.gate) ∙ sym new.bytes

  -- ---- read

  module _ (parent : Parent (seen v) g) where
    end_same : end_of w.books g ≡ end_of v.books g
    end_same = ap (λ (t : List ℕ). 1024 * ceil (length_of t) 1024) (a.table parent)

    amount_same : (at long : ℕ) → read_amount v.books g at long ≡ read_amount w.books g at long
    unfolding read_amount
    amount_same at long = rw end_same

  read_number : (position long : Option ℕ) (room r s : ℕ) → Gate (read_tests v.books v.withheld v.body g position long room) r
      → Gate (read_tests w.books w.withheld w.body g position long room) s → r ≡ s
  unfolding read_tests argument_tests use_tests
  read_number position long room r s = same_number _ _ r s (same_use _ _ (same_more 7 _ _ _ _ (λ m. m) (λ m. m) (λ m. same_body 8 _ _ (λ parent. same_last 14 _ _ (λ l. rw (end_same parent) l) (λ l. rw (end_same parent) at l)))))

  -- the sectors moved are the same
  fetched_same : (k : ℕ) (x : Bool) (out : List ℕ) (n : ℕ) → Parent (seen v) g → k + n ≤ file_sectors (seen v) g → fetched (seen v) g k x v.body out n ≡ fetched (seen w) g k x w.body out n
  unfolding fetched
  fetched_same k x out zero parent l = refl
  fetched_same k x out (suc n) parent l =
      ap₂ (λ (y z : List ℕ). over y (1024 * n) (moved x z)) (fetched_same k x out n parent (omega arith)) (sym (a.data' parent (k + n) (omega arith)))

  module _ (position long : Option ℕ) (x : Bool) (out : List ℕ) where
    abbrev at : ℕ
    at = amount_value position

    abbrev asked : ℕ
    asked = amount_value long

    read_answer : (r : Result ℕ Refusal) → Gate (read_tests v.books v.withheld v.body g position long (length out)) (number_of r)
        → IfOk r (λ (n : ℕ). n ≡ read_amount v.books g at asked) → IfOk r (λ (n : ℕ). n ≡ read_amount w.books g at asked)
    read_answer (Ok n) gate e = e ∙ amount_same (read_parent v.books v.withheld v.body g position long (length out) 0 gate refl (places_of v.books) refl) at asked
    read_answer (Err why) gate e = tt

    read_bytes : (n : ℕ) → Gate (read_tests v.books v.withheld v.body g position long (length out)) n
        → after n (read_out v.books v.body g at (read_amount v.books g at asked) x out) out
        ≡ after n (read_out w.books w.body g at (read_amount w.books g at asked) x out) out
    read_bytes zero gate =
        let m = read_moves v.books v.withheld v.body g position long (length out) 0 gate refl (places_of v.books) refl at refl asked _ refl refl in
        fetched_same (at / 1024) x out _ m.parent m.within ∙ ap (λ (n : ℕ). read_out w.books w.body g at n x out) (amount_same m.parent at asked)
    read_bytes (suc n) gate = refl

    pub reads_same : (r s : Result ℕ Refusal) (y z : List ℕ) → ReadOut v.books v.withheld v.body g position long x out r y → ReadOut w.books w.withheld w.body g position long x out s z → (r ≡ s) × (y ≡ z)
    reads_same r s y z old new =
        let e = read_number position long (length out) (number_of r) (number_of s) old.number new.number in (
          answers_one r s _ _ (read_answer r old.number old.answer) new.answer (λ a c p q. p ∙ sym q) e,
          old.output ∙ read_bytes (number_of r) old.number
              ∙ ap (λ (n : ℕ). after n (read_out w.books w.body g at (read_amount w.books g at asked) x out) out) e ∙ sym new.output,
        )

-- ---- a file that a write does not name

module _ (v w : Volume) (lawful : LawfulVolume v) (f : ℕ) (position long : Option ℕ) (x : Bool) (input date : List ℕ) (d : Does (write f position long x input date) v w) (g : ℕ) (other : g ≢ f) where
  untouched : (q : Places) → q ≡ places_of v.books → Untouched (seen v) (view_of q w.books) f
  untouched q e = rw e (wrote_steady v w f position long x input date d.0 d.1.promise (zero_good v.books v.withheld lawful.lawful).books).0

  -- a file afterwards was one before
  stood : Untouched (seen v) (seen w) f → Parent (seen w) g → Parent (seen v) g
  stood u h =
      let high : g ≤ (seen v).indexes = rw u.indexes at h.high in
      let is = parent_file (seen w) g h in
      record { low = h.low; high = high; word = sym (ap word_of (u.now g h.low high (λ z. omega (arith, is, h.low)) (λ z. other (sym is ∙ z)))) ∙ h.word }

  pub wrote_same : SameFile v w g
  wrote_same =
      let q = write f position long x input date in
      let u = untouched (places_of w.books) (step_places v w lawful q d) in
      let old = (zero_good v.books v.withheld lawful.lawful).books in
      record {
        was = lawful;
        now = step_lawful v w lawful q d;
        flag = (wrote_steady v w f position long x input date d.0 d.1.promise old).1;
        stood = stood u;
        stands = λ h. other_parent (places_of v.books) v.books old.layout old.lawful (seen w) f u g h other;
        table = λ h. other_table (places_of v.books) v.books old.layout old.lawful (seen w) f u g h other;
        sectors = λ h. other_sectors (places_of v.books) v.books old.layout old.lawful (seen w) f u g h other;
        data' = λ h. other_bytes v w lawful q d g h other;
        header = λ h. step_other v w lawful q d g h (λ e. other (sym e));
      }
