-- "Pointers. A block next after the last pointer's end joins it unless the count would pass 32,767. The parent holds ten, each child 17.
-- Index tables come off the free chain's head, parent first."
-- Where a file's pointers end: the last of them, how many its table has used and for how many it has room, and how many tables have been
-- taken.
use Rattle.std.specs.Prelude.{Bool, cond, ◌&&◌, ℕ, ◌+◌, eqb, ltb, leb}
use Rattle.tables.specs.Indexes.{pointer_place}
use Rattle.allocation.specs.declared.tail.Tail.{Tail}
use Rattle.allocation.specs.declared.tail.Pushed.{Pushed}
use Rattle.allocation.specs.declared.tail.Pushed.TheVariants.{Joined, Beside, Further}

-- where the last pointer stands in its table
abbrev pub place_of : Tail → ℕ
place_of l = pointer_place l.capacity l.slot

-- "the sector behind the last pointer's last"
abbrev pub end_sector : Tail → ℕ
end_sector l = l.last.start.0 + l.last.count

-- "A block next after the last pointer's end joins it unless the count would pass 32,767": `size` sectors from s on
unfoldable pub joins : Tail → ℕ → ℕ → Bool
joins l s size = eqb (end_sector l) s && leb (l.last.count + size) 32767

-- the last pointer with so many sectors more
abbrev pub longer : Tail → ℕ → Tail
longer l size =
    record { last = record { start = l.last.start; count = l.last.count + size }; slot = l.slot; capacity = l.capacity; tables = l.tables }

-- a pointer of its own at the next place of the table
abbrev pub beside : Tail → ℕ → ℕ → Tail
beside l s size = record { last = record { start = record { 0 = s }; count = size }; slot = l.slot + 1; capacity = l.capacity; tables = l.tables }

-- a pointer of its own at the first place of a further child
abbrev pub further : Tail → ℕ → ℕ → Tail
further l s size = record { last = record { start = record { 0 = s }; count = size }; slot = 1; capacity = 17; tables = l.tables + 1 }

unfoldable pub push : Tail → ℕ → ℕ → Pushed
unfolding joins
push l s size = cond (joins l s size) (Joined (longer l size)) (cond (ltb l.slot l.capacity) (Beside (beside l s size)) (Further (further l s size)))

abbrev pub tail_of : Pushed → Tail
tail_of (Joined l) = l
tail_of (Beside l) = l
tail_of (Further l) = l

-- a new file's, whose parent is the first table taken
abbrev pub no_pointer : Tail
no_pointer = record { last = record { start = record { 0 = 0 }; count = 0 }; slot = 0; capacity = 10; tables = 1 }
