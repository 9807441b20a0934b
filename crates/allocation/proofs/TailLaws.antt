-- A tail with a block after it, by what the tests of the code find.
use mathlib.Core.Path.{◌≡◌, sym, ◌∙◌}
use mathlib.Core.Bool.{Bool, true, false}
use Prim.Native.Nat.{ℕ, ◌+◌, ◌≤◌, ◌<◌}
use lib.Dec.{eqb, leb}
use borrow.Author.Tests.{eq-eqb, ne_eqb, lt-ltb, le-ltb}
use Rattle.allocation.specs.declared.tail.Tail.{Tail}
use Rattle.allocation.specs.declared.tail.Pushed.TheVariants.{Joined, Beside, Further}
use Rattle.allocation.specs.NextPointer.{end_sector, joins, longer, beside, further, push}

module _ (l : Tail) (s size : ℕ) where
  module _ (end : ℕ) (at : end ≡ end_sector l) where
    pub joins_apart : (end ≡ s → ⊥) → eqb end s ≡ joins l s size
    unfolding joins
    joins_apart ne = rw (at, ne_eqb (end_sector l) s (λ e. ne (at ∙ e)))

    pub joins_next : end ≡ s → leb (l.last.count + size) 32767 ≡ joins l s size
    unfolding joins
    joins_next e = rw (eq-eqb (end_sector l) s (sym at ∙ e))

  module _ (r : Bool) (is : r ≡ joins l s size) where
    pub push_joined : r ≡ true → Joined (longer l size) ≡ push l s size
    unfolding push
    push_joined h = rw (sym is ∙ h)

    pub push_beside : r ≡ false → l.slot < l.capacity → Beside (beside l s size) ≡ push l s size
    unfolding push
    push_beside h room = rw (sym is ∙ h, lt-ltb l.slot l.capacity room)

    pub push_further : r ≡ false → l.capacity ≤ l.slot → Further (further l s size) ≡ push l s size
    unfolding push
    push_further h full = rw (sym is ∙ h, le-ltb l.slot l.capacity full)
