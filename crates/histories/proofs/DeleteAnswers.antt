-- The one result of temporary delete and of actual delete in good, mounted books, of a file that has no header: done, and the body as it was.
use mathlib.Core.Path.{◌≡◌, refl, ap₂}
use mathlib.Core.Logic.{◌≢◌}
use mathlib.Core.Bool.{true}
use mathlib.Core.List.{List, []}
use Prim.Native.Nat.{ℕ}
use Rattle.tables.specs.declared.places.Places.{Places}
use Rattle.tables.specs.Books.{GoodWith}
use Rattle.tables.specs.Dates.{Date}
use Rattle.tables.specs.Gates.{Gate}
use Rattle.tables.specs.Indexes.{table_at, attribute_of, header_count, weight, deleted_bit, minus}
use Rattle.tables.specs.Rules.R7.{nothing}
use Rattle.tables.specs.Sector1.{flag_of}
use Rattle.tables.specs.Views.{view_of, Parent}
use Rattle.files.specs.HeaderBytes.{header_marked}
use Rattle.files.specs.Release.{released}
use Rattle.requests.specs.Body.{BodySized, lent_tests}
use Rattle.requests.specs.State.{removed, Removed}
use Rattle.requests.specs.Delete.{Deleted}
use Rattle.requests.proofs.ArgumentLaws.{argument_fine}
use Rattle.requests.proofs.BodyLaws.{lent_fine}
use Rattle.requests.proofs.DeleteLaws.{delete_done, deleted_one_lem}
use Rattle.requests.proofs.JudgedLaws.{use_fine}
use Rattle.requests.proofs.NamedLaws.{state_fine, usable_fine}
use Rattle.requests.proofs.StateLaws.{remove_goes, remove_done, recover_goes, removed_one}
use Rattle.histories.specs.Cards.{OneResult}
use Rattle.histories.proofs.CreateAnswers.{bare_good}

module _ (b : List ℕ) (p : Places) (id : ℕ) (date : List ℕ) (good : GoodWith nothing b p) (mounted : flag_of b ≢ 0) (valid : Date date) (parent : Parent (view_of p b) id)
    (bare : header_count (table_at p b id) ≡ 0) (body : List ℕ) (sized : BodySized b body) where
  abbrev attribute : ℕ
  attribute = attribute_of (table_at p b id)

  lent : Gate (lent_tests b [] body (true ≡ true)) 0
  lent = lent_fine b [] body (true ≡ true) 0 (argument_fine b [] true 0 (use_fine b [] p (flag_of b) (bare_good b p good) refl mounted) refl refl) refl true sized refl

  same_body : (w : ℕ) → body ≡ header_marked (view_of p b) id w body
  unfolding header_marked
  same_body w = rw bare refl

  pub remove_only : deleted_bit attribute ≡ 0 → weight attribute 4 ≡ 0 → OneResult (λ (r : ℕ × List ℕ). Removed b [] body id date r.0 r.1) (0, removed p b id date) body
  remove_only active free =
      let named = usable_fine 4 b id 0 (state_fine b p id good 0 parent active) refl (rw good.places at free) in
      let h = remove_done b [] body id date 0 p (minus id) (removed p b id date) body (remove_goes b [] body id date true 0 valid lent 0 refl named) refl good.places refl (same_body (minus id)) refl in
      record { met = h; only = λ s y k. (let e = removed_one b [] body id date s.0 0 s.1 _ y body k h in (ap₂ (λ (n : ℕ) (x : List ℕ). (n, x)) e.0 e.1.0, e.1.1)) }

  pub delete_only : deleted_bit attribute ≡ 1 → OneResult (λ (r : ℕ × List ℕ). Deleted b [] body id date r.0 r.1) (0, released p b id date) body
  delete_only gone =
      let h = delete_done b [] body id date 0 (recover_goes b [] body id date true 0 valid lent 0 refl (state_fine b p id good 1 parent gone)) refl p good.places (released p b id date) body (same_body 0) refl in
      record { met = h; only = λ s y k. (let e = deleted_one_lem b [] body id date s.0 0 s.1 _ y body k h in (ap₂ (λ (n : ℕ) (x : List ℕ). (n, x)) e.0 e.1.0, e.1.1)) }
