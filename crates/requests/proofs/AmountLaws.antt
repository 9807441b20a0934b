-- A signed argument: what its conversion to u32 tells of it.
use Rattle.std.specs.Prelude.{Option, Some, None}
use Prim.Native.Nat.{ℕ, ◌≤◌}
use Rattle.requests.specs.Amounts.{amount_value, SignedAmount}

pub signed_most : (a : Option ℕ) → SignedAmount a → amount_value a ≤ 2147483647
signed_most None h = absurd h
signed_most (Some n) h = h
