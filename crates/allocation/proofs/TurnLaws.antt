-- Steps in turn: a list's first step, a run of equal types, the types of the counts.
use mathlib.Core.Path.{◌≡◌, refl, sym, ap, ◌∙◌}
use mathlib.Core.List.{List, [], ◌∷◌, ◌++◌}
use Prim.Native.Nat.{ℕ, zero, suc, ◌+◌, ◌-◌, ◌≤◌, ◌<◌}
use native.Mathlib.Numerals.{add-one}
use native.Mathlib.Omega.{arith}
use lib.ListN.{length, get_or, drop, replicate}
use Rattle.allocation.specs.Choice.{in_order, in_turn}

pub turn_none : {A : Type 0} (step : ℕ → A → A) (x : A) → in_turn step [] x ≡ x
unfolding in_turn
turn_none step x = refl

pub turn_step : {A : Type 0} (step : ℕ → A → A) (t : ℕ) (ts : List ℕ) (x : A) → in_turn step (t ∷ ts) x ≡ in_turn step ts (step t x)
unfolding in_turn
turn_step step t ts x = refl

pub in_turn_append : {A : Type 0} (step : ℕ → A → A) (xs ys : List ℕ) (x : A) → in_turn step (xs ++ ys) x ≡ in_turn step ys (in_turn step xs x)
unfolding in_turn
in_turn_append step [] ys x = refl
in_turn_append step (t ∷ xs) ys x = in_turn_append step xs ys (step t x)

-- ---- n steps of one type, i of which are done

pub turns_left : (n i t : ℕ) → i < n → replicate (n - i) t ≡ t ∷ replicate (n - (i + 1)) t
turns_left n i t l = ap (λ (m : ℕ). replicate m t) (let e : n - i ≡ suc (n - (i + 1)) = omega arith in e)

turns_all : (n i t : ℕ) → n ≤ i → replicate (n - i) t ≡ []
turns_all n i t l = ap (λ (m : ℕ). replicate m t) (let e : n - i ≡ 0 = omega arith in e)

module _ {A : Type 0} (step : ℕ → A → A) (n i t : ℕ) (x y : A) (same : in_turn step (replicate (n - i) t) x ≡ y) where
  pub turns_more : i < n → in_turn step (replicate (n - (i + 1)) t) (step t x) ≡ y
  turns_more l = sym (turn_step step t (replicate (n - (i + 1)) t) x) ∙ ap (λ (ts : List ℕ). in_turn step ts x) (sym (turns_left n i t l)) ∙ same

  pub turns_end : n ≤ i → x ≡ y
  turns_end l = sym (ap (λ (ts : List ℕ). in_turn step ts x) (turns_all n i t l) ∙ turn_none step x) ∙ same

-- ---- the six counts, i of which are done

order_drop : (cs : List ℕ) (i : ℕ) → i < length cs → in_order (drop i cs) ≡ replicate (get_or cs i 0) (length cs - i + 2) ++ in_order (drop (suc i) cs)
unfolding in_order
order_drop [] i l = absurd (omega arith)
order_drop (n ∷ ns) zero l = ap (λ (t : ℕ). replicate n t ++ in_order ns) (let e : length ns + 3 ≡ suc (length ns) - 0 + 2 = omega arith in e)
order_drop (n ∷ ns) (suc i) l =
    order_drop ns i (omega arith) ∙ ap (λ (t : ℕ). replicate (get_or ns i 0) t ++ in_order (drop (suc i) ns)) (let e : length ns - i + 2 ≡ suc (length ns) - suc i + 2 = omega arith in e)

pub order_left : (counts : List ℕ) (i : ℕ) → length counts ≡ 6 → i < 6 → in_order (drop i counts) ≡ replicate (get_or counts i 0) (8 - i) ++ in_order (drop (i + 1) counts)
order_left counts i l h =
    let e : length counts - i + 2 ≡ 8 - i = omega arith in
    rw (add-one i) (order_drop counts i (omega arith) ∙ ap (λ (t : ℕ). replicate (get_or counts i 0) t ++ in_order (drop (suc i) counts)) e)

order_end : (cs : List ℕ) (i : ℕ) → length cs ≤ i → in_order (drop i cs) ≡ []
unfolding in_order
order_end [] zero l = refl
order_end [] (suc i) l = refl
order_end (n ∷ ns) zero l = absurd (omega arith)
order_end (n ∷ ns) (suc i) l = order_end ns i (omega arith)

order_all : (counts : List ℕ) (i : ℕ) → length counts ≡ 6 → 6 ≤ i → in_order (drop i counts) ≡ []
order_all counts i l h = order_end counts i (omega arith)

module _ {A : Type 0} (step : ℕ → A → A) (counts : List ℕ) (six : length counts ≡ 6) (i : ℕ) (x y : A) (same : in_turn step (in_order (drop i counts)) x ≡ y) where
  pub orders_more : i < 6 → in_turn step (in_order (drop (i + 1) counts)) (in_turn step (replicate (get_or counts i 0) (8 - i)) x) ≡ y
  orders_more l = sym (in_turn_append step (replicate (get_or counts i 0) (8 - i)) _ x) ∙ ap (λ (ts : List ℕ). in_turn step ts x) (sym (order_left counts i six l)) ∙ same

  pub orders_end : 6 ≤ i → x ≡ y
  orders_end l = sym (ap (λ (ts : List ℕ). in_turn step ts x) (order_all counts i six l) ∙ turn_none step x) ∙ same
