-- Blocks added in turn, laid for a file or only planned: each leaves what the next one asks, so that the code's loops come to their end.
use mathlib.Core.Path.{◌≡◌, refl, sym, ap, ◌∙◌}
use mathlib.Core.List.{List, [], ◌∷◌, ◌++◌}
use Prim.Native.Nat.{ℕ, ◌+◌, ◌-◌, ◌≤◌, ◌<◌}
use native.Mathlib.Omega.{arith}
use lib.ListN.{length, get_or, drop, replicate}
use Rattle.tables.specs.declared.places.Places.{Places}
use Rattle.tables.specs.Blocks.{DataType}
use Rattle.tables.specs.Places.{Layout}
use Rattle.tables.specs.Views.{view_of}
use Rattle.tables.specs.Rules.R3.{R3}
use Rattle.allocation.specs.declared.choice.Choice.{Choice}
use Rattle.allocation.specs.declared.choice.Found.{Found}
use Rattle.allocation.specs.Choice.{in_order, in_turn}
use Rattle.allocation.specs.Growth.{Growth, laid, add_block}
use Rattle.allocation.specs.Plans.{planned, plan_block}
use Rattle.allocation.specs.Candidates.{Behind, Chooses}
use Rattle.allocation.specs.Ready.{Laying, Planning, Ready}
use Rattle.allocation.specs.Stock.{Plannable}
use Rattle.allocation.specs.Ways.{WayLaws}
use Rattle.allocation.proofs.TurnLaws.{turn_none, turn_step, turns_left, turns_more, turns_end, order_left, orders_more, orders_end}
use Rattle.allocation.proofs.NextLaws.{behind_start}
use Rattle.allocation.proofs.PlanLaws.{plan_is, plan_proper, plan_planning, plan_step, plan_behind, plan_prefix}
use Rattle.allocation.proofs.ReadyLaws.{add_is, ready_proper, ready_laying, ready_step, ready_behind, ready_prefix}

-- ---- the two ways

pub lay_laws : WayLaws Ready Laying laid add_block
lay_laws = record {
  is = add_is;
  layout = λ p f g ts h. h.layout;
  r3 = λ p f g ts h. h.stocked.r3;
  typed = λ p f g t ts h. (ready_proper p f g t ts h).typed;
  can = ready_laying;
  onward = ready_step;
  behind = ready_behind;
  front = ready_prefix;
}

pub plan_laws : WayLaws (λ p f g ts. Plannable p g.books g.cursor.tail ts) Planning (λ p f t k g. planned p t k g) (λ p f t g. plan_block p t g)
plan_laws = record {
  is = λ p f t g. plan_is p t g;
  layout = λ p f g ts h. h.layout;
  r3 = λ p f g ts h. h.stocked.r3;
  typed = λ p f g t ts h. (plan_proper p g t ts h).typed;
  can = λ p f g t ts h. plan_planning p g t ts h;
  onward = λ p f g t ts h. plan_step p g t ts h;
  behind = λ p f g t ts h. plan_behind p g t ts h;
  front = λ p f g xs ys h. plan_prefix p g.books g.cursor.tail xs ys h;
}

-- ---- n blocks of one type, i of which are added

pub record Adding (ready : Places → ℕ → Growth → List ℕ → Type 0) (step : Places → ℕ → ℕ → Growth → Growth) (p : Places) (f t n : ℕ) (g m : Growth) (from : Found) (i : ℕ) : Type 0 where
  pub long : length m.books ≡ length g.books
  pub same : in_turn (step p f) (replicate (n - i) t) m ≡ in_turn (step p f) (replicate n t) g
  pub ready' : ready p f m (replicate (n - i) t)
  pub behind : Behind (view_of p m.books) t from

-- ---- the six counts, i of which are added

pub record AddingAll (ready : Places → ℕ → Growth → List ℕ → Type 0) (step : Places → ℕ → ℕ → Growth → Growth) (p : Places) (f : ℕ) (counts : List ℕ) (g m : Growth) (i : ℕ) : Type 0 where
  pub long : length m.books ≡ length g.books
  pub same : in_turn (step p f) (in_order (drop i counts)) m ≡ in_turn (step p f) (in_order counts) g
  pub ready' : ready p f m (in_order (drop i counts))

-- ---- whatever the way

module _ {ready : Places → ℕ → Growth → List ℕ → Type 0} {able : Places → ℕ → Found → Growth → Type 0} {added : Places → ℕ → ℕ → Found → Growth → Growth}
    {step : Places → ℕ → ℕ → Growth → Growth} (laws : WayLaws ready able added step) where
  turn_ready : (p : Places) (f : ℕ) (g : Growth) (xs ys : List ℕ) → ready p f g (xs ++ ys) → ready p f (in_turn (step p f) xs g) ys
  turn_ready p f g [] ys h = rw (turn_none (step p f) g) h
  turn_ready p f g (x ∷ xs) ys h = rw (turn_step (step p f) x xs g) (turn_ready p f (step p f x g) xs ys (laws.onward p f g x (xs ++ ys) h))

  pub adding_none : (p : Places) (f t n : ℕ) (g : Growth) → ready p f g (replicate n t) → Adding ready step p f t n g g (record { zone = record { 0 = 2 }; number = 0; free = 0 }) 0
  adding_none p f t n g h =
      let e : n - 0 ≡ n = omega arith in
      record {
        long = refl;
        same = rw e refl;
        ready' = rw e h;
        behind = behind_start (view_of p g.books) t (omega (arith, (laws.layout p f g _ h).least));
      }

  module _ (p : Places) (f t n : ℕ) (g m : Growth) (from : Found) (i : ℕ) (h : Adding ready step p f t n g m from i) where
    pub adding_layout : Layout p (length m.books)
    adding_layout = laws.layout p f m _ h.ready'

    pub adding_r3 : R3 (view_of p m.books)
    adding_r3 = laws.r3 p f m _ h.ready'

    module _ (l : i < n) where
      adding_left : ready p f m (t ∷ replicate (n - (i + 1)) t)
      adding_left = rw (turns_left n i t l) at h.ready'

      pub adding_typed : DataType t
      adding_typed = laws.typed p f m t _ adding_left

      module _ (r : Choice) (q : Chooses (view_of p m.books) m.cursor.tail t r) where
        pub adding_can : able p t r.block m
        adding_can = rw q.block (laws.can p f m t _ adding_left)

        pub adding_more : (m' : Growth) → m' ≡ added p f t r.block m → length m'.books ≡ length m.books → Adding ready step p f t n g m' r.from (i + 1)
        adding_more m' is len =
            let e : m' ≡ step p f t m = is ∙ ap (λ (x : Found). added p f t x m) q.block ∙ sym (laws.is p f t m) in
            record {
              long = len ∙ h.long;
              same = rw e (turns_more (step p f) n i t m _ h.same l);
              ready' = rw e (laws.onward p f m t _ adding_left);
              behind = rw e (laws.behind p f m t _ adding_left r q);
            }

    pub adding_end : n ≤ i → m ≡ in_turn (step p f) (replicate n t) g
    adding_end l = turns_end (step p f) n i t m _ h.same l

  pub all_added_none : (p : Places) (f : ℕ) (counts : List ℕ) (g : Growth) → ready p f g (in_order counts) → AddingAll ready step p f counts g g 0
  all_added_none p f counts g h = record { long = refl; same = refl; ready' = h }

  module _ (p : Places) (f : ℕ) (counts : List ℕ) (g m : Growth) (i : ℕ) (h : AddingAll ready step p f counts g m i) (six : length counts ≡ 6) where
    module _ (l : i < 6) where
      all_added_left : ready p f m (replicate (get_or counts i 0) (8 - i) ++ in_order (drop (i + 1) counts))
      all_added_left = rw (order_left counts i six l) at h.ready'

      pub all_added_some : ready p f m (replicate (get_or counts i 0) (8 - i))
      all_added_some = laws.front p f m _ _ all_added_left

      pub all_added_more : (m' : Growth) → m' ≡ in_turn (step p f) (replicate (get_or counts i 0) (8 - i)) m → length m'.books ≡ length m.books → AddingAll ready step p f counts g m' (i + 1)
      all_added_more m' is len = record {
        long = len ∙ h.long;
        same = rw is (orders_more (step p f) counts six i m _ h.same l);
        ready' = rw is (turn_ready p f m _ _ all_added_left);
      }

    pub all_added_end : 6 ≤ i → m ≡ in_turn (step p f) (in_order counts) g
    all_added_end l = orders_end (step p f) counts six i m _ h.same l
