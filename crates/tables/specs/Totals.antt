-- "The total of free, owned, withheld and system sectors, each counted by its own rule, is 1024Z." (W7) The four counts: "clear bits of zones
-- 2 to Z-1, sectors under pointers and headers, sectors of withheld blocks, and 2 x 1,024"; that they add up is a theorem (TotalLaws:
-- sectors-total).
-- Each reads other parts of the books: the bits, the index tables, the zone table with the list, and nothing.
use Rattle.std.specs.Prelude.{List, ℕ, ◌+◌, ◌-◌, ◌*◌, eqb, get_or, length}
use Rattle.field.specs.Sum.{sum_to}
use Rattle.tables.specs.Indexes.{word_of, sectors_of, header_count}
use Rattle.tables.specs.Views.{View, only_if, tally}
use Rattle.tables.specs.Withheld.{block_at}

-- "clear bits of zones 2 to Z-1": zone 2 begins with sector 1024
unfoldable pub free_sectors : View → ℕ
free_sectors v = sum_to (1024 * (v.zones - 2)) (λ k. 1 - v.bit (1024 + k))

-- "sectors under pointers and headers": the counts of all pointers of a table, and of its header pointer if it is a parent
unfoldable pub owned_sectors : View → ℕ
owned_sectors v = tally v (λ i t. sectors_of i t + only_if (eqb (word_of t) i) (header_count t))

-- "sectors of withheld blocks"
unfoldable pub withheld_sectors : View → List ℕ → ℕ
withheld_sectors v withheld = sum_to (length withheld) (λ k. block_at v (get_or withheld k 0))

-- "2 x 1,024": zones 1 and Z
unfoldable pub system_sectors : ℕ
system_sectors = 2 * 1024
