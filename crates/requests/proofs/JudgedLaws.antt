-- Numbers 1 to 5, and those that begin a mount: each way out, and what no number says.
use Rattle.std.specs.Prelude.{Ok, Err}
use mathlib.Core.Path.{◌≡◌, refl, sym, ◌∙◌}
use mathlib.Core.Logic.{◌≢◌}
use mathlib.Core.List.{List, [], ◌++◌}
use Prim.Native.Nat.{ℕ, ◌≤◌}
use lib.ListN.{length}
use Rattle.tables.specs.declared.places.Places.{Places}
use Rattle.tables.specs.Sector1.{flag_of}
use Rattle.tables.specs.Gates.{Test, Gate}
use Rattle.tables.specs.Books.{Good, GoodSome, book_tests}
use Rattle.tables.specs.Places.{places_of, Layout}
use Rattle.tables.proofs.GateLaws.{gate_fails, gate_passes, gate_end, gate_stop, gate_skip, gate_front, zero_some, good_gate, bad_gate}
use Rattle.requests.specs.Answers.{flag_tests, use_tests}
use Rattle.requests.proofs.RequestLaws.{good_room}
use Rattle.requests.specs.Judged.{Judged}
use Rattle.tables.specs.declared.refusal.Refusal.{Refusal}
use Rattle.tables.specs.Refusals.{number}
use Rattle.tables.proofs.RefusalLaws.{refused}
use Rattle.tables.specs.declared.refusal.Refusal.TheVariants.{NotMounted}

module _ (b withheld : List ℕ) (f : ℕ) (refusal : Refusal) where
  pub judge_refused : (e : Refusal) → Gate (book_tests b withheld) (number e) → Judged (flag_tests f (number refusal) b withheld) b (Err e)
  judge_refused e h = bad_gate b withheld _ (number e) (h, refused e)

  module _ (p : Places) (x : ℕ) (g : Good b withheld p) (h : x ≡ flag_of b) where
    pub judge_flag : x ≡ f → Judged (flag_tests f (number refusal) b withheld) b (Err refusal)
    judge_flag e = good_gate b withheld p _ (number refusal) g (gate_fails (number refusal) (flag_of b ≢ f) [] (refused refusal) (λ k. k (sym h ∙ e)))

    pub judge_fine : x ≢ f → Judged (flag_tests f (number refusal) b withheld) b (Ok p)
    judge_fine ne = ((_, g.books), good_gate b withheld p _ 0 g (gate_passes (number refusal) (flag_of b ≢ f) [] 0 (λ e. ne (h ∙ e)) gate_end))

module _ (b withheld : List ℕ) where
  -- ---- numbers 1 to 5

  pub use_judged : (n : ℕ) → Gate (flag_tests 0 5 b withheld) n → Gate (use_tests b withheld) n
  unfolding use_tests
  use_judged n h = h

  pub use_fine : (p : Places) (f : ℕ) → Good b withheld p → f ≡ flag_of b → f ≢ 0 → Gate (use_tests b withheld) 0
  unfolding use_tests
  use_fine p f g h ne = (judge_fine b withheld 0 NotMounted p f g h ne).1

  -- what a number 0 says
  module _ (n : ℕ) (h : Gate (use_tests b withheld) n) (e : n ≡ 0) where
    pub use_good : (p : Places) → p ≡ places_of b → GoodSome b p
    unfolding use_tests
    use_good p is = rw is (zero_some b withheld (gate_front (book_tests b withheld) _ (rw e at h)))

    pub use_room : 2048 ≤ length b
    use_room = good_room b (places_of b) (use_good (places_of b) refl).1

    pub use_layout : (p : Places) → p ≡ places_of b → Layout p (length b)
    use_layout p is = (use_good p is).1.layout

  -- tests after these
  module _ (ts : List Test) where
    pub use_stops : (n : ℕ) → Gate (use_tests b withheld) n → n ≢ 0 → Gate (use_tests b withheld ++ ts) n
    use_stops n h ne = gate_stop (use_tests b withheld) ts n h ne

    pub use_goes : (n r : ℕ) → Gate (use_tests b withheld) n → n ≡ 0 → Gate ts r → Gate (use_tests b withheld ++ ts) r
    use_goes n r h e q = gate_skip (use_tests b withheld) ts n r h e q

    pub used_good : Gate (use_tests b withheld ++ ts) 0 → GoodSome b (places_of b)
    used_good h = use_good 0 (gate_front (use_tests b withheld) ts h) refl (places_of b) refl
