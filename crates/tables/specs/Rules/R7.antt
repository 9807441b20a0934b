-- R7 "No sector is under two pointers. Outside zones 1 and Z the set bits are exactly the sectors under pointers." "Header runs are owned
-- sectors of the file" (W1): a sector is owned if it is under a pointer or under a header pointer, and none is owned twice. "Set bits are the
-- owned sectors and the withheld ones, never both" (W7).
-- By counting: the claims over a sector and the withheld blocks over it are as many as its bit. The words follow, and give it (WithheldLaws:
-- words-count, count-words).
use Rattle.std.specs.Prelude.{◌≡◌, ◌⊎◌, List, ℕ, ◌+◌, ◌-◌, ◌*◌, ◌≤◌, ◌<◌}
use Rattle.tables.specs.Views.{View, claims_over, Under, UnderHeader}
use Rattle.tables.specs.Withheld.{withheld_over, Withheld}

-- outside zones 1 and Z a sector is owned, or one of those that are set besides, never both, exactly if its bit is set
pub record Owned (v : View) (extra : ℕ → ℕ) : Type 0 where
  pub count : (s : ℕ) → s < 1024 * (v.zones - 1) → 1024 ≤ s → claims_over v s + extra s ≡ v.bit s

-- the withheld sectors are set besides
abbrev pub R7 : View → List ℕ → Type 0
R7 v withheld = Owned v (withheld_over v withheld)

-- no sector: what is set besides where no block is withheld
abbrev pub nothing : ℕ → ℕ
nothing s = 0

-- sector s is under a pointer, or under a header pointer
abbrev pub Owner : View → ℕ → Type 0
Owner v s = ((i : ℕ) × (j : ℕ) × Under v i j s) ⊎ ((i : ℕ) × UnderHeader v i s)

-- the words at sector s: it is owned once at most, its bit is set exactly if it is owned or withheld, and it is never both
pub record SectorWords (v : View) (withheld : List ℕ) (s : ℕ) : Type 0 where
  pub one : (i j k l : ℕ) → Under v i j s → Under v k l s → (i ≡ k) × (j ≡ l)
  pub header : (i k : ℕ) → UnderHeader v i s → UnderHeader v k s → i ≡ k
  pub apart : (i j k : ℕ) → Under v i j s → UnderHeader v k s → ⊥
  pub set : v.bit s ≡ 1 → Owner v s ⊎ Withheld v withheld s
  pub owned : Owner v s → v.bit s ≡ 1
  pub kept : Withheld v withheld s → v.bit s ≡ 1
  pub never : Owner v s → Withheld v withheld s → ⊥
