-- "Date: year 2 bytes, month, day, hour, minute 1 byte each. Valid: year 1-9999, month 1-12, day 1-31, hour 0-23, minute 0-59."
use Rattle.std.specs.Prelude.{◌≡◌, ℕ, ◌≤◌, List, get_or, length}
use Rattle.field.specs.Numbers.{u16_at}

-- six bytes that are a valid date
pub record Date (d : List ℕ) : Type 0 where
  pub long : length d ≡ 6
  pub year₁ : 1 ≤ u16_at d 0
  pub year₂ : u16_at d 0 ≤ 9999
  pub month₁ : 1 ≤ get_or d 2 0
  pub month₂ : get_or d 2 0 ≤ 12
  pub day₁ : 1 ≤ get_or d 3 0
  pub day₂ : get_or d 3 0 ≤ 31
  pub hour : get_or d 4 0 ≤ 23
  pub minute : get_or d 5 0 ≤ 59
