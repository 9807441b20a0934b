-- Grow: each way out, and that grow's promise allows one result.
use Rattle.std.specs.Prelude.{Option}
use mathlib.Core.Path.{◌≡◌, refl, ap, ◌∙◌}
use mathlib.Core.Logic.{◌≢◌}
use mathlib.Core.Bool.{Bool, not, true, false}
use mathlib.Core.List.{List, [], ◌++◌}
use Prim.Native.Nat.{ℕ}
use native.Mathlib.Omega.{arith}
use lib.ListN.{length}
use Rattle.field.specs.Says.{Says}
use Rattle.field.proofs.Tests.{passed, refused}
use Rattle.tables.specs.Places.{places_of}
use Rattle.tables.specs.Gates.{Gate}
use Rattle.tables.specs.Books.{GoodSome}
use Rattle.tables.specs.Views.{view_of, Parent}
use Rattle.tables.proofs.GateLaws.{gate_one, gate_fails, gate_passes, gate_end, gate_stop, gate_skip, gate_rest, gate_head, gate_front}
use Rattle.requests.specs.Answers.{argument_tests}
use Rattle.requests.specs.Amounts.{amount_value}
use Rattle.requests.specs.Named.{named_tests, Unprotected, VariableSize}
use Rattle.requests.specs.Grow.{GrowAllowed, kind_tests, lack_tests, file_tests, grow_tests, grown_to, Grew}
use Rattle.requests.proofs.RequestLaws.{after_one}
use Rattle.requests.proofs.ArgumentLaws.{argument_says, argument_allowed, argument_good}
use Rattle.requests.proofs.NamedLaws.{named_parent}

-- ---- 10 and 11

module _ (b : List ℕ) (id : ℕ) (r : Bool) (s : Says r (Unprotected 4 b id)) where
  pub kind_protected : not r ≡ true → Gate (kind_tests b id) 10
  unfolding kind_tests
  kind_protected h = gate_fails 10 _ _ (omega arith) (refused r s h)

  module _ (free : not r ≡ false) (q : Bool) (t : Says q (VariableSize b id)) where
    pub kind_fixed : not q ≡ true → Gate (kind_tests b id) 11
    unfolding kind_tests
    kind_fixed h = gate_passes 10 _ _ 11 (passed r s free) (gate_fails 11 _ [] (omega arith) (refused q t h))

    pub kind_fine : not q ≡ false → Gate (kind_tests b id) 0
    unfolding kind_tests
    kind_fine h = gate_passes 10 _ _ 0 (passed r s free) (gate_passes 11 _ [] 0 (passed q t h) gate_end)

-- ---- 8 to 13

module _ (b : List ℕ) (id long : ℕ) where
  pub file_unnamed : (n : ℕ) → Gate (named_tests b id) n → n ≢ 0 → Gate (file_tests b id long) n
  unfolding file_tests
  file_unnamed n h ne = gate_stop (named_tests b id) _ n h ne

  module _ (n : ℕ) (h : Gate (named_tests b id) n) (e : n ≡ 0) (k : ℕ) (q : Gate (kind_tests b id) k) where
    pub file_kind : k ≢ 0 → Gate (file_tests b id long) k
    unfolding file_tests
    file_kind ne = gate_skip (named_tests b id) _ n k h e (gate_stop (kind_tests b id) _ k q ne)

    pub file_lack : (r : ℕ) → k ≡ 0 → Gate (lack_tests b id long) r → Gate (file_tests b id long) r
    unfolding file_tests
    file_lack r z l = gate_skip (named_tests b id) _ n r h e (gate_skip (kind_tests b id) _ k r q z l)

-- ---- arguments

-- ---- the request

module _ (b withheld : List ℕ) (id : ℕ) (long : Option ℕ) (date : List ℕ) where
  module _ (a : Bool) (n : ℕ) (s : Says a (GrowAllowed long date)) (g : Gate (argument_tests b withheld (a ≡ true)) n) where
    pub grow_stops : n ≢ 0 → Gate (grow_tests b withheld id long date) n
    unfolding grow_tests
    grow_stops ne = gate_stop (argument_tests b withheld (GrowAllowed long date)) _ n (argument_says b withheld a _ n s g) ne

    pub grow_goes : (r x : ℕ) → n ≡ 0 → x ≡ amount_value long → Gate (file_tests b id x) r → Gate (grow_tests b withheld id long date) r
    unfolding grow_tests
    grow_goes r x e is h = gate_skip (argument_tests b withheld (GrowAllowed long date)) _ n r (argument_says b withheld a _ n s g) e (rw is at h)

  module _ (n : ℕ) (g : Gate (grow_tests b withheld id long date) n) (e : n ≡ 0) where
    front : Gate (argument_tests b withheld (GrowAllowed long date)) 0
    unfolding grow_tests
    front = gate_front (argument_tests b withheld (GrowAllowed long date)) _ (rw e at g)

    pub grow_books : GoodSome b (places_of b)
    grow_books = argument_good b withheld (GrowAllowed long date) 0 front refl

    pub grow_allows : GrowAllowed long date
    grow_allows = argument_allowed b withheld (GrowAllowed long date) 0 front refl

    tests : Gate (file_tests b id (amount_value long)) 0
    unfolding grow_tests
    tests = gate_rest (argument_tests b withheld (GrowAllowed long date)) _ (rw e at g)

    pub grow_parent : Parent (view_of (places_of b) b) id
    unfolding file_tests
    grow_parent = named_parent b id (places_of b) 0 grow_books.1 (gate_front (named_tests b id) _ tests) refl

    behind : Gate (kind_tests b id ++ lack_tests b id (amount_value long)) 0
    unfolding file_tests
    behind = gate_rest (named_tests b id) _ tests

    pub grow_variable : VariableSize b id
    unfolding kind_tests
    grow_variable = (gate_head 11 _ [] (gate_head 10 (Unprotected 4 b id) _ (gate_front (kind_tests b id) _ behind)).1).0

    pub grow_room : (x : ℕ) → x ≡ amount_value long → Gate (lack_tests b id x) 0
    grow_room x is = rw is (gate_rest (kind_tests b id) _ behind)

    pub grow_date : length date ≡ 6
    grow_date = grow_allows.date'.long

  pub grow_done : (n x : ℕ) (b' : List ℕ) → Gate (grow_tests b withheld id long date) n → n ≡ 0 → x ≡ amount_value long → b' ≡ grown_to b id x date → Grew b withheld id long date 0 b'
  grow_done n x b' g e is h = record { number = rw e at g; books = h ∙ ap (λ (m : ℕ). grown_to b id m date) is }

-- ---- one result

pub grew_one : (b withheld : List ℕ) (id : ℕ) (long : Option ℕ) (date : List ℕ) (r s : ℕ) (x y : List ℕ) → Grew b withheld id long date r x → Grew b withheld id long date s y → (r ≡ s) × (x ≡ y)
grew_one b withheld id long date r s x y h k =
    let e = gate_one (grow_tests b withheld id long date) r s h.number k.number in
    (e, after_one r s x y _ b e h.books k.books)
