-- Room in worked instances, by computation: bench cards P7 to P9 as far as their zones go, and a zone that is wholly free.
use mathlib.Core.Path.{◌≡◌, refl}
use mathlib.Core.Bool.{cond}
use mathlib.Core.List.{List, [], ◌∷◌}
use Prim.Native.Nat.{ℕ, ◌+◌}
use lib.Dec.{eqb}
use Rattle.field.specs.Sum.{sum_to}
use Rattle.tables.specs.Blocks.{block_of}
use Rattle.tables.specs.Open.{is_open, open_zones}
use Rattle.tables.specs.Room.{count_at, spare_in, spare_of, lack_of}
use Rattle.tables.specs.Views.{View, only_if}

-- zones 1 to Z, of which zone 2 reads (t, f, 0) and the next (u, g, 0)
volume : ℕ → ℕ → ℕ → ℕ → ℕ → View
volume zones t f u g = record {
  zones = zones;
  indexes = 1;
  zone = λ z. cond (eqb z 2) (record { ztype = t; free = f; third = 0 }) (record { ztype = u; free = g; third = 0 });
  bit = λ _. 0;
  table = λ _. [];
  active = 0;
  deleted = 0;
  free = 1;
  system = 0;
  directory = 0;
  head = 1;
  flag = 1;
}

-- the open zones that the six counts take
lacks : View → List ℕ → ℕ
lacks v counts = sum_to 6 (λ i. lack_of v (i + 3) (count_at counts (i + 3)))

-- Z = 3, fresh: D1 C1 takes two open zones (P9), C5 one
fresh : (open_zones (volume 3 0 0 0 0) ≡ 1) × (lacks (volume 3 0 0 0 0) (0 ∷ 0 ∷ 0 ∷ 0 ∷ 1 ∷ 1 ∷ []) ≡ 2) × (lacks (volume 3 0 0 0 0) (0 ∷ 0 ∷ 0 ∷ 0 ∷ 0 ∷ 5 ∷ []) ≡ 1)
unfolding volume lacks open_zones lack_of spare_of spare_in only_if sum_to is_open block_of
fresh = (refl, refl, refl)

-- Z = 4, a D zone with 255 free blocks and a C zone with 1,022: E1 D1 takes an open zone and there is none (P7), C20 takes none (P8)
after : (open_zones (volume 4 4 255 3 1022) ≡ 0) × (lacks (volume 4 4 255 3 1022) (0 ∷ 0 ∷ 0 ∷ 1 ∷ 1 ∷ 0 ∷ []) ≡ 1) × (lacks (volume 4 4 255 3 1022) (0 ∷ 0 ∷ 0 ∷ 0 ∷ 0 ∷ 20 ∷ []) ≡ 0)
unfolding volume lacks open_zones lack_of spare_of spare_in only_if sum_to is_open block_of
after = (refl, refl, refl)

-- a wholly free D zone can be given to type H
given : (open_zones (volume 3 4 256 0 0) ≡ 1) × (lacks (volume 3 4 256 0 0) (1 ∷ 0 ∷ 0 ∷ 0 ∷ 0 ∷ 0 ∷ []) ≡ 1) × (spare_of (volume 3 4 256 0 0) 4 ≡ 0)
unfolding volume lacks open_zones lack_of spare_of spare_in only_if sum_to is_open block_of
given = (refl, refl, refl)
