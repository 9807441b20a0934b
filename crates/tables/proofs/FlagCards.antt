-- The types that flag bytes choose, by computation.
use Rattle.std.specs.Prelude.{Some, None}
use mathlib.Core.Path.{◌≡◌, refl}
use lib.IntN.{pos, negsuc}
use Rattle.tables.specs.Counts.{chosen_types}

-- the default is all six types; those of the bench cards choose what they say; 2, 256 and -2 are not allowed
pub flag_cards : (chosen_types (negsuc 0) ≡ Some 252) × (chosen_types (pos 0) ≡ Some 252) × (chosen_types (pos 176) ≡ Some 176) × (chosen_types (pos 4) ≡ Some 4) × (chosen_types (pos 252) ≡ Some 252)
    × (chosen_types (pos 2) ≡ None) × (chosen_types (pos 256) ≡ None) × (chosen_types (negsuc 1) ≡ None)
unfolding chosen_types
flag_cards = (refl, refl, refl, refl, refl, refl, refl, refl)
