-- "Mount and dismount change the flag only."
use Rattle.std.specs.Prelude.{◌≡◌, ℕ, List}
use Rattle.tables.specs.Sector1.{put_flag}
use Rattle.tables.specs.Gates.{Test, Gate}
use Rattle.requests.specs.Answers.{after, flag_tests, use_tests}

-- 1 to 4 with 7 for the withheld list, then 6 "mount while the flag is 1"
unfoldable pub mount_tests : List ℕ → List ℕ → List Test
mount_tests b withheld = flag_tests 1 6 b withheld

-- mount's promise: its number, and every byte of the books afterwards
pub record Mounted (b withheld : List ℕ) (r : ℕ) (b' : List ℕ) : Type 0 where
  pub number : Gate (mount_tests b withheld) r
  pub books : b' ≡ after r (put_flag b 1) b

-- dismount's
pub record Dismounted (b withheld : List ℕ) (r : ℕ) (b' : List ℕ) : Type 0 where
  pub number : Gate (use_tests b withheld) r
  pub books : b' ≡ after r (put_flag b 0) b
