-- "The body: zones 2 to Z-1, which is 1,048,576 × (Z-2) bytes." Requests that take it: show, read, write; header placing and its question,
-- temporary delete, recover and actual delete ("these three now take the body and can answer 15", W1).
use Rattle.std.specs.Prelude.{◌≡◌, List, [], ◌∷◌, ◌++◌, ℕ, ◌-◌, ◌*◌, length}
use Rattle.tables.specs.Sector0.{zones_of}
use Rattle.tables.specs.Gates.{Test, asks}
use Rattle.requests.specs.Answers.{argument_tests}

-- the body has that many bytes
abbrev pub BodySized : List ℕ → List ℕ → Type 0
BodySized b body = length body ≡ 1048576 * (zones_of b - 2)

-- 15 "body length wrong"
abbrev pub body_test : List ℕ → List ℕ → Test
body_test b body = asks 15 (BodySized b body)

-- 1 to 5, 7, then 15
unfoldable pub lent_tests : List ℕ → List ℕ → List ℕ → Type 0 → List Test
lent_tests b withheld body allowed = argument_tests b withheld allowed ++ (body_test b body ∷ [])
