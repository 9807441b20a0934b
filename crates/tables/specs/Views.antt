-- What the rules see of the books: zone entries by zone, bits by sector, index tables by number, sector 1's fields.
-- Rules are stated over this view, so that what a request changes is a change of functions at a few places.
-- Zones are numbered 1 to Z, sectors 0 to 1024 Z - 1, index tables 1 to N; what the functions say of other numbers means nothing.
use Rattle.std.specs.Prelude.{◌≡◌, Bool, cond, ℕ, zero, suc, ◌+◌, ◌≤◌, ◌<◌, List, eqb, leb, ltb}
use Rattle.field.specs.Sum.{sum_to}
use Rattle.tables.specs.declared.books.Books.{Books}
use Rattle.tables.specs.declared.places.Places.{Places}
use Rattle.tables.specs.declared.zone.ZoneEntry.{ZoneEntry}
use Rattle.tables.specs.Sector1.{active_of, deleted_of, free_of, system_of, directory_of, first_free_of, flag_of}
use Rattle.tables.specs.Zones.{zone_at}
use Rattle.tables.specs.Sectors.{sector_at}
use Rattle.tables.specs.Indexes.{table_at, word_of, link_of, minus, slots_of, start_of, count_of, header_start, header_count}

pub record View : Type 0 where
  pub zones : ℕ
  pub indexes : ℕ
  pub zone : ℕ → ZoneEntry
  pub bit : ℕ → ℕ
  pub table : ℕ → List ℕ
  pub active : ℕ
  pub deleted : ℕ
  pub free : ℕ
  pub system : ℕ
  pub directory : ℕ
  pub head : ℕ
  pub flag : ℕ

-- the view of the books b whose tables stand at p; `head` is the first free index
abbrev pub view_of : Places → List ℕ → View
view_of p b = record {
  zones = p.zones;
  indexes = p.indexes;
  zone = zone_at p b;
  bit = sector_at p b;
  table = table_at p b;
  active = active_of b;
  deleted = deleted_of b;
  free = free_of b;
  system = system_of b;
  directory = directory_of b;
  head = first_free_of b;
  flag = flag_of b;
}

-- of books that are lent with the places of their tables
abbrev pub books_view : Books → View
books_view b = view_of b.places b.raw.now

-- ---- index tables by what they begin with

-- index i is one of the N and begins with w
pub record Begins (v : View) (i w : ℕ) : Type 0 where
  pub low : 1 ≤ i
  pub high : i ≤ v.indexes
  pub word : word_of (v.table i) ≡ w

abbrev pub Free : View → ℕ → Type 0
Free v i = Begins v i 0

abbrev pub Parent : View → ℕ → Type 0
Parent v i = Begins v i i

abbrev pub Child : View → ℕ → Type 0
Child v i = Begins v i (minus i)

-- ---- chains

-- where k links lead from h
unfoldable pub walk : (ℕ → ℕ) → ℕ → ℕ → ℕ
walk f h zero = h
walk f h (suc k) = f (walk f h k)

-- the link of index i: its first child, next child, or next free one
abbrev pub next : View → ℕ → ℕ
next v i = link_of (v.table i)

-- ---- sums over the index tables

-- the value where the test holds, else 0
unfoldable pub only_if : Bool → ℕ → ℕ
only_if t n = cond t n 0

-- what f counts of each index table, together
unfoldable pub tally : View → (ℕ → List ℕ → ℕ) → ℕ
tally v f = sum_to v.indexes (λ k. f (k + 1) (v.table (k + 1)))

-- ---- sectors under pointers and header pointers

-- 1 if s is one of the c sectors from a on, else 0
unfoldable pub cov : ℕ → ℕ → ℕ → ℕ
cov a c s = cond (leb a s) (cond (ltb s (a + c)) 1 0) 0

-- how many pointers of a table lie over sector s, and how many of all tables
unfoldable pub over_of : ℕ → List ℕ → ℕ → ℕ
over_of i t s = sum_to (slots_of i t) (λ j. cov (start_of i t j) (count_of i t j) s)

unfoldable pub pointers_over : View → ℕ → ℕ
pointers_over v s = tally v (λ i t. over_of i t s)

-- 1 if sector s lies under the header pointer of table i, which is a parent, else 0
unfoldable pub header_over : ℕ → List ℕ → ℕ → ℕ
header_over i t s = only_if (eqb (word_of t) i) (cov (header_start t) (header_count t) s)

-- how many header pointers lie over it
unfoldable pub headers_over : View → ℕ → ℕ
headers_over v s = tally v (λ i t. header_over i t s)

-- what a table owns, as a count: how many of its claims lie over sector s, and how many of all tables. Its pointers are its claims, and
-- "header runs are owned sectors of the file" (W1)
unfoldable pub claims_of : ℕ → List ℕ → ℕ → ℕ
claims_of i t s = over_of i t s + header_over i t s

unfoldable pub claims_over : View → ℕ → ℕ
claims_over v s = tally v (λ i t. claims_of i t s)

-- sector s lies under the j-th pointer of index i
pub record Under (v : View) (i j s : ℕ) : Type 0 where
  pub low : 1 ≤ i
  pub high : i ≤ v.indexes
  pub slot : j < slots_of i (v.table i)
  pub from : start_of i (v.table i) j ≤ s
  pub to : s < start_of i (v.table i) j + count_of i (v.table i) j

-- it lies under the header pointer of parent i
pub record UnderHeader (v : View) (i s : ℕ) : Type 0 where
  pub parent : Parent v i
  pub from : header_start (v.table i) ≤ s
  pub to : s < header_start (v.table i) + header_count (v.table i)
