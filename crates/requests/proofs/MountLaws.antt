-- Mount and dismount: each way out, and that their promises allow one result.
use mathlib.Core.Path.{◌≡◌}
use mathlib.Core.Logic.{◌≢◌}
use mathlib.Core.List.{List}
use Prim.Native.Nat.{ℕ}
use Rattle.tables.specs.Sector1.{put_flag}
use Rattle.tables.specs.Gates.{Gate}
use Rattle.tables.proofs.GateLaws.{gate_one}
use Rattle.requests.specs.Answers.{flag_tests, use_tests}
use Rattle.requests.specs.Mount.{mount_tests, Mounted, Dismounted}
use Rattle.requests.proofs.RequestLaws.{after_one, after_refused}

module _ (b withheld : List ℕ) where
  -- ---- the judge of mount

  pub mount_judged : (n : ℕ) → Gate (flag_tests 1 6 b withheld) n → Gate (mount_tests b withheld) n
  unfolding mount_tests
  mount_judged n h = h

  -- ---- mount and dismount

  pub mount_stops : (n : ℕ) → Gate (mount_tests b withheld) n → n ≢ 0 → Mounted b withheld n b
  mount_stops n g h = record { number = g; books = after_refused n (put_flag b 1) b h }

  pub mount_ends : (n : ℕ) (b' : List ℕ) → Gate (mount_tests b withheld) n → n ≡ 0 → b' ≡ put_flag b 1 → Mounted b withheld 0 b'
  mount_ends n b' g e h = record { number = rw e at g; books = h }

-- ---- one result

pub mounted_one : (b withheld : List ℕ) (r s : ℕ) (x y : List ℕ) → Mounted b withheld r x → Mounted b withheld s y → (r ≡ s) × (x ≡ y)
mounted_one b withheld r s x y h k =
    let e = gate_one (mount_tests b withheld) r s h.number k.number in
    (e, after_one r s x y (put_flag b 1) b e h.books k.books)

pub dismounted_one : (b withheld : List ℕ) (r s : ℕ) (x y : List ℕ) → Dismounted b withheld r x → Dismounted b withheld s y → (r ≡ s) × (x ≡ y)
dismounted_one b withheld r s x y h k =
    let e = gate_one (use_tests b withheld) r s h.number k.number in
    (e, after_one r s x y (put_flag b 0) b e h.books k.books)
