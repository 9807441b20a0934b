-- R7 holds exactly when it fails at no sector, and at a sector it says what the paper says.
use mathlib.Core.List.{List}
use Prim.Native.Nat.{ℕ, ◌-◌, ◌*◌, ◌<◌}
use Rattle.tables.specs.Each.{Each}
use Rattle.tables.specs.Views.{View}
use Rattle.tables.specs.Withheld.{Withholds}
use Rattle.tables.specs.Rules.R7.{R7, SectorWords}
use Rattle.tables.proofs.WithheldLaws.{words_count, count_words}
use Rattle.examination.specs.Rulings.{SectorLaw}

module _ (v : View) (withheld : List ℕ) where
  pub R7_each : R7 v withheld → Each (SectorLaw v withheld) 1024 (1024 * (v.zones - 1))
  R7_each r = r.count

  pub each_R7 : Each (SectorLaw v withheld) 1024 (1024 * (v.zones - 1)) → R7 v withheld
  each_R7 all = record { count = all }

-- ---- a sector

pub sector_words : (v : View) (withheld : List ℕ) (s : ℕ) → v.bit s < 2 → SectorLaw v withheld s → SectorWords v withheld s
sector_words v withheld s bit law = count_words v withheld s bit law

pub words_sector : (v : View) (withheld : List ℕ) (s : ℕ) → v.bit s < 2 → Withholds v withheld → SectorWords v withheld s → SectorLaw v withheld s
words_sector v withheld s bit list w = words_count v withheld s bit list w
