-- The C border: what a request answered, handed back by number, pointer and buffer.
use Rattle.std.specs.Prelude.{Option, Result}
use mathlib.Core.Path.{◌≡◌, refl, sym, ap, ◌∙◌}
use mathlib.Core.Bool.{Bool}
use mathlib.Core.List.{List}
use Prim.Native.Nat.{ℕ, ◌≤◌}
use native.Mathlib.Decide.{dec_lt}
use native.Mathlib.Omega.{arith}
use lib.ListN.{length}
use Rattle.field.specs.Parts.{over}
use Rattle.tables.specs.Gates.{Test}
use Rattle.tables.specs.Books.{book_tests}
use Rattle.tables.proofs.GateLaws.{gate_one}
use Rattle.requests.specs.Space.{sectors_value, used_value}
use Rattle.tables.specs.Refusals.{number_of}
use Rattle.tables.specs.declared.refusal.Refusal.{Refusal}
use Rattle.requests.proofs.SpaceLaws.{spaced_one}
use Rattle.requests.specs.Report.{report_of, Reported}
use Rattle.requests.specs.Diagnosis.{rule_value, kind_value, place_value, diagnosis_lines, DiagnosisText}
use Rattle.requests.proofs.DiagnosisLaws.{diagnosed_one}
use Rattle.allocation.specs.NewTables.{New}
use Rattle.requests.specs.Create.{id_value, Creates}
use Rattle.requests.proofs.CreateLaws.{creates_one}
use Rattle.requests.specs.Answers.{value_of}
use Rattle.requests.specs.Search.{Searched}
use Rattle.requests.proofs.SearchRequestLaws.{searched_one}
use Rattle.requests.specs.Listing.{Listed}
use Rattle.requests.proofs.ListLaws.{listed_one}
use Rattle.requests.specs.Locate.{sector_value}
use Rattle.requests.proofs.LocateLaws.{located_one}
use Rattle.requests.specs.Read.{ReadOut}
use Rattle.requests.proofs.ReadLaws.{read_one as read_out_one}
use Rattle.requests.specs.Write.{Wrote}
use Rattle.requests.proofs.WriteLaws.{wrote_one}
use Rattle.isc.specs.Border.{AnswerOut, CreateOut, LocateOut, SpaceOut, BrokenOut, Lines, TextOut, ReportLines, BrokenLines}

-- ---- texts

module _ (least : ℕ) (P : List ℕ → Type 0) (text : List ℕ) where
  text_written : (text' xs t : List ℕ) (r len : ℕ) → least ≤ length text → P xs → t ≡ xs → (r ≡ 0) × (text' ≡ over text 0 t) × (len ≡ length t) → TextOut least P text r text' len
  text_written text' xs t r len l h is e = record {
    refused = λ s. absurd (omega arith);
    written = λ s. record { lines = xs; holds = h; zero = e.0; bytes = e.1 ∙ ap (over text 0) is; count = e.2 ∙ ap length is };
  }

  -- one result, where the lines are one
  pub text_one : ((xs ys : List ℕ) → P xs → P ys → xs ≡ ys) → (r r' : ℕ) (t t' : List ℕ) (l l' : ℕ) → TextOut least P text r t l → TextOut least P text r' t' l' → (r ≡ r') × (t ≡ t') × (l ≡ l')
  text_one one r r' t t' l l' h k =
      elim (dec_lt (length text) least) [
        | yes s ↦ (let x = h.refused s in let y = k.refused s in (x.0 ∙ sym y.0, x.1 ∙ sym y.1, x.2 ∙ sym y.2))
        | no n ↦ lines_one (h.written (omega arith)) (k.written (omega arith))
      ]
    where
      lines_one : Lines P text r t l → Lines P text r' t' l' → (r ≡ r') × (t ≡ t') × (l ≡ l')
      lines_one x y =
          let e = one x.lines y.lines x.holds y.holds in
          (x.zero ∙ sym y.zero, x.bytes ∙ ap (over text 0) e ∙ sym y.bytes, x.count ∙ ap length e ∙ sym y.count)

module _ (b withheld t : List ℕ) where
  pub report_room : (room : ℕ) → 192 ≤ room → Reported b withheld t → length t ≤ room
  report_room room l h = omega (arith, ap length h.text, h.short)

  pub broken_room : (room : ℕ) → 64 ≤ room → DiagnosisText b withheld t → length t ≤ room
  broken_room room l h = omega (arith, ap length h.lines.text, h.lines.short)

  module _ (text text' : List ℕ) (r len : ℕ) (e : (r ≡ 0) × (text' ≡ over text 0 t) × (len ≡ length t)) where
    pub report_written : 192 ≤ length text → Reported b withheld t → TextOut 192 (ReportLines b withheld) text r text' len
    report_written l h = text_written 192 (ReportLines b withheld) text text' (report_of h.number b) t r len l (record { number = h.number; gate = h.gate; is = refl }) h.text e

    pub broken_written : 64 ≤ length text → DiagnosisText b withheld t → TextOut 64 (BrokenLines b withheld) text r text' len
    broken_written l h = text_written 64 (BrokenLines b withheld) text text' (diagnosis_lines h.diagnosis) t r len l (record { diagnosis = h.diagnosis; diagnosed = h.diagnosed; is = refl }) h.lines.text e

-- ---- the values handed back, zeros beside a refusal

-- ---- one result

pub create_one : (tests : List Test) (b counts : List ℕ) (new : New) (x y : List ℕ) (r r' id id' : ℕ)
    → CreateOut (λ answer. Creates tests b counts new answer x) r id → CreateOut (λ answer. Creates tests b counts new answer y) r' id' → (r ≡ r') × (id ≡ id') × (x ≡ y)
create_one tests b counts new x y r r' id id' h k =
    let e = creates_one tests b counts new h.answer k.answer x y h.holds k.holds in
    (h.number ∙ ap number_of e.0 ∙ sym k.number, h.value ∙ ap id_value e.0 ∙ sym k.value, e.1)

-- promises P and Q that allow one answer, and S of what else they leave
pub answer_one : (P Q : Result ℕ Refusal → Type 0) (S : Type 0) (r r' v v' : ℕ) → ((x y : Result ℕ Refusal) → P x → Q y → (x ≡ y) × S) → AnswerOut P r v → AnswerOut Q r' v' → (r ≡ r') × (v ≡ v') × S
answer_one P Q S r r' v v' one h k =
    let e = one h.answer k.answer h.holds k.holds in
    (h.number ∙ ap number_of e.0 ∙ sym k.number, h.one ∙ ap value_of e.0 ∙ sym k.one, e.1)

pub search_one : (b withheld pattern ids x y : List ℕ) (r r' n n' : ℕ)
    → AnswerOut (λ answer. Searched b withheld pattern ids answer x) r n → AnswerOut (λ answer. Searched b withheld pattern ids answer y) r' n' → (r ≡ r') × (n ≡ n') × (x ≡ y)
search_one b withheld pattern ids x y r r' n n' = answer_one _ _ _ r r' n n' (λ a c. searched_one b withheld pattern ids a c x y)

pub list_one : (b withheld : List ℕ) (from : ℕ) (entries x y : List ℕ) (r r' n n' : ℕ)
    → AnswerOut (λ answer. Listed b withheld from entries answer x) r n → AnswerOut (λ answer. Listed b withheld from entries answer y) r' n' → (r ≡ r') × (n ≡ n') × (x ≡ y)
list_one b withheld from entries x y r r' n n' = answer_one _ _ _ r r' n n' (λ a c. listed_one b withheld from entries a c x y)

pub read_one : (b withheld body : List ℕ) (id : ℕ) (at long : Option ℕ) (exchange : Bool) (out x y : List ℕ) (r r' n n' : ℕ)
    → AnswerOut (λ answer. ReadOut b withheld body id at long exchange out answer x) r n → AnswerOut (λ answer. ReadOut b withheld body id at long exchange out answer y) r' n' → (r ≡ r') × (n ≡ n') × (x ≡ y)
read_one b withheld body id at long exchange out x y r r' n n' = answer_one _ _ _ r r' n n' (λ a c. read_out_one b withheld body id at long exchange out a c x y)

pub write_one : (b withheld body : List ℕ) (id : ℕ) (at long : Option ℕ) (exchange : Bool) (input date x y u w : List ℕ) (r r' n n' : ℕ)
    → AnswerOut (λ answer. Wrote b withheld body id at long exchange input date answer x u) r n → AnswerOut (λ answer. Wrote b withheld body id at long exchange input date answer y w) r' n' → (r ≡ r') × (n ≡ n') × (x ≡ y) × (u ≡ w)
write_one b withheld body id at long exchange input date x y u w r r' n n' h k =
    let e = answer_one _ _ ((x ≡ y) × (u ≡ w)) r r' n n' (λ a c p q. let i = wrote_one b withheld body id at long exchange input date a c x y u w p q in (i.0, (i.1, i.2))) h k in
    (e.0, e.1, e.2.0, e.2.1)

pub locate_one : (b withheld : List ℕ) (id k r r' s s' : ℕ) → LocateOut b withheld id k r s → LocateOut b withheld id k r' s' → (r ≡ r') × (s ≡ s')
locate_one b withheld id k r r' s s' h l =
    let e : h.answer ≡ l.answer = located_one b withheld id k h.answer l.answer h.locates l.locates in
    (h.number ∙ ap number_of e ∙ sym l.number, h.value ∙ ap sector_value e ∙ sym l.value)

pub space_one : (b withheld : List ℕ) (r r' s s' u u' : ℕ) → SpaceOut b withheld r s u → SpaceOut b withheld r' s' u' → (r ≡ r') × (s ≡ s') × (u ≡ u')
space_one b withheld r r' s s' u u' h k =
    let e : h.answer ≡ k.answer = spaced_one b withheld h.answer k.answer h.spaced k.spaced in
    (h.number ∙ ap number_of e ∙ sym k.number, h.all ∙ ap sectors_value e ∙ sym k.all, h.taken ∙ ap used_value e ∙ sym k.taken)

-- the report's, and which rule is broken
pub report_one : (b withheld xs ys : List ℕ) → ReportLines b withheld xs → ReportLines b withheld ys → xs ≡ ys
report_one b withheld xs ys h k = h.is ∙ ap (λ (n : ℕ). report_of n b) (gate_one (book_tests b withheld) h.number k.number h.gate k.gate) ∙ sym k.is

pub broken_text_one : (b withheld xs ys : List ℕ) → BrokenLines b withheld xs → BrokenLines b withheld ys → xs ≡ ys
broken_text_one b withheld xs ys h k = h.is ∙ ap diagnosis_lines (diagnosed_one b withheld h.diagnosis k.diagnosis h.diagnosed k.diagnosed) ∙ sym k.is

pub broken_one : (b withheld : List ℕ) (r r' u u' v v' w w' : ℕ) → BrokenOut b withheld r u v w → BrokenOut b withheld r' u' v' w' → (r ≡ r') × (u ≡ u') × (v ≡ v') × (w ≡ w')
broken_one b withheld r r' u u' v v' w w' h k =
    let e = diagnosed_one b withheld h.answer k.answer h.diagnosed k.diagnosed in (
      h.number ∙ ap number_of e ∙ sym k.number,
      h.broken ∙ ap rule_value e ∙ sym k.broken,
      h.sort ∙ ap kind_value e ∙ sym k.sort,
      h.place' ∙ ap place_value e ∙ sym k.place',
    )
