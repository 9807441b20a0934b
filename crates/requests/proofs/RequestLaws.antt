-- What every request uses: the books' own numbers, a refusal that alters nothing, and small counts.
use mathlib.Core.Path.{◌≡◌, refl, sym, ap, ◌∙◌}
use mathlib.Core.Logic.{◌≢◌}
use mathlib.Core.List.{List}
use Prim.Native.Nat.{ℕ, zero, suc, ◌≤◌}
use native.Mathlib.Omega.{arith}
use lib.ListN.{length}
use Rattle.tables.specs.declared.places.Places.{Places}
use Rattle.tables.specs.Books.{GoodWith}
use Rattle.tables.specs.Rules.R9.{free_one, active_one, deleted_one, system_one, directory_one}
use Rattle.tables.specs.Sector1.{active_of, deleted_of, free_of, system_of, directory_of}
use Rattle.tables.specs.Views.{View, view_of}
use Rattle.tables.proofs.Sector1CountLaws.{tally_few, free_le, active_le, deleted_le, system_le, directory_le}
use Rattle.requests.specs.Answers.{after}

-- books that are good have their two first sectors
pub good_room : (b : List ℕ) (p : Places) {extra : ℕ → ℕ} → GoodWith extra b p → 2048 ≤ length b
good_room b p g = omega (arith, g.sized.least)

-- refused: the books are as they were
pub after_refused : (r : ℕ) (new old : List ℕ) → r ≢ 0 → old ≡ after r new old
after_refused zero new old h = absurd (h refl)
after_refused (suc k) new old h = refl

-- a request keeps the books good if it does where it is done, for a refusal leaves them as they were
pub done_keeps : (r : ℕ) (new old b' : List ℕ) (p : Places) {extra : ℕ → ℕ} → b' ≡ after r new old → (r ≡ 0 → GoodWith extra new p) → GoodWith extra old p → GoodWith extra b' p
done_keeps zero new old b' p e h g = rw e (h refl)
done_keeps (suc k) new old b' p e h g = rw e g

-- one number, one content
pub after_one : (r s : ℕ) (x y new old : List ℕ) → r ≡ s → x ≡ after r new old → y ≡ after s new old → x ≡ y
after_one r s x y new old e h k = h ∙ ap (λ (n : ℕ). after n new old) e ∙ sym k

-- ---- R9's counts are no more than the tables

pub record Few (b : List ℕ) : Type 0 where
  pub free : free_of b ≤ 4096
  pub active : active_of b ≤ 4096
  pub deleted : deleted_of b ≤ 4096
  pub system : system_of b ≤ 4096
  pub directory : directory_of b ≤ 4096

pub good_few : (b : List ℕ) (p : Places) {extra : ℕ → ℕ} → GoodWith extra b p → Few b
good_few b p g =
    let v : View = view_of p b in
    let r = g.lawful.r9 in
    let few = g.layout.few in
    record {
      free = omega (arith, few, r.free, tally_few v free_one free_le);
      active = omega (arith, few, r.active, tally_few v active_one active_le);
      deleted = omega (arith, few, r.deleted, tally_few v deleted_one deleted_le);
      system = omega (arith, few, r.system, tally_few v system_one system_le);
      directory = omega (arith, few, r.directory, tally_few v directory_one directory_le);
    }
