-- Index tables (001, 4.4), 128 bytes each; readers over a table's bytes t.
-- "Parent index: id 0-3, name 4-27 padded with nulls, created 28-33, changed 34-39, byte length 40-43, attribute 44-45, zeros 46-57,
-- header pointer 58-63, ten pointers 64-123, first child 124-127. Child: minus its own number 0-3, parent 4-7, zeros 8-21,
-- seventeen pointers 22-123, next child 124-127. A pointer is start sector (4 bytes) and count (2).
-- A free index is all zeros but 124-127, the next free one."
use Rattle.std.specs.Prelude.{cond, ℕ, ◌+◌, ◌-◌, ◌*◌, ◌/◌, ◌%◌, ◌<◌, List, take, drop, replicate, eqb}
use Rattle.field.specs.Numbers.{u16_at, u32_at, put_u16, put_u32}
use Rattle.field.specs.Parts.{over}
use Rattle.field.specs.Sum.{sum_to}
use Rattle.tables.specs.declared.places.Places.{Places}
use Rattle.tables.specs.declared.index.Pointer.{Pointer}

-- the byte at which index table i begins
abbrev pub table_place : Places → ℕ → ℕ
table_place p i = p.indextable + 128 * (i - 1)

-- the bytes of index table i
unfoldable pub table_at : Places → List ℕ → ℕ → List ℕ
table_at p b i = take 128 (drop (table_place p i) b)

-- the books with the first n bytes of index table i null
abbrev pub erased : Places → List ℕ → ℕ → ℕ → List ℕ
erased p b i n = over b (table_place p i) (replicate n 0)

-- ---- fields: of the bytes of a table its reader, and the books with another value in it

abbrev pub word_of : List ℕ → ℕ
word_of t = u32_at t 0

abbrev pub put_word : Places → List ℕ → ℕ → ℕ → List ℕ
put_word p b i n = put_u32 b (table_place p i) n

abbrev pub parent_of : List ℕ → ℕ
parent_of t = u32_at t 4

abbrev pub put_parent : Places → List ℕ → ℕ → ℕ → List ℕ
put_parent p b i n = put_u32 b (table_place p i + 4) n

abbrev pub name_of : List ℕ → List ℕ
name_of t = take 24 (drop 4 t)

abbrev pub put_name : Places → List ℕ → ℕ → List ℕ → List ℕ
put_name p b i name = over b (table_place p i + 4) name

abbrev pub created_of : List ℕ → List ℕ
created_of t = take 6 (drop 28 t)

abbrev pub put_created : Places → List ℕ → ℕ → List ℕ → List ℕ
put_created p b i date = over b (table_place p i + 28) date

abbrev pub changed_of : List ℕ → List ℕ
changed_of t = take 6 (drop 34 t)

abbrev pub put_changed : Places → List ℕ → ℕ → List ℕ → List ℕ
put_changed p b i date = over b (table_place p i + 34) date

abbrev pub length_of : List ℕ → ℕ
length_of t = u32_at t 40

abbrev pub put_length : Places → List ℕ → ℕ → ℕ → List ℕ
put_length p b i n = put_u32 b (table_place p i + 40) n

abbrev pub attribute_of : List ℕ → ℕ
attribute_of t = u16_at t 44

abbrev pub put_attribute : Places → List ℕ → ℕ → ℕ → List ℕ
put_attribute p b i n = put_u16 b (table_place p i + 44) n

abbrev pub link_of : List ℕ → ℕ
link_of t = u32_at t 124

abbrev pub put_link : Places → List ℕ → ℕ → ℕ → List ℕ
put_link p b i n = put_u32 b (table_place p i + 124) n

-- "Attribute: weight 1 temporarily deleted, 2 writing, 4 write-protected, 8 read-protected, 16 variable size, 32 directory file, 64 system
-- file": 1 if the weight w, a power of two, is in the attribute a, else 0; weight 1 is what is left of a division by 2
abbrev pub weight : ℕ → ℕ → ℕ
weight a w = a / w % 2

abbrev pub deleted_bit : ℕ → ℕ
deleted_bit a = a % 2

abbrev pub variable_bit : ℕ → ℕ
variable_bit a = weight a 16

abbrev pub directory_bit : ℕ → ℕ
directory_bit a = weight a 32

abbrev pub system_bit : ℕ → ℕ
system_bit a = weight a 64

-- the pointer whose six bytes begin at o
abbrev pub pointer_at : List ℕ → ℕ → Pointer
pointer_at t o = record { start = record { 0 = u32_at t o }; count = u16_at t (o + 4) }

unfoldable pub put_pointer : Places → List ℕ → ℕ → ℕ → Pointer → List ℕ
put_pointer p b i at q = put_u16 (put_u32 b (table_place p i + at) q.start.0) (table_place p i + at + 4) q.count

-- ---- tables by number: "Index i begins with 0, i or -i"

-- minus i, as it is read
abbrev pub minus : ℕ → ℕ
minus i = 4294967296 - i

-- the places for pointers: none in a free table, "ten in the parent, seventeen in each child"
unfoldable pub slots_of : ℕ → List ℕ → ℕ
slots_of i t = cond (eqb (word_of t) 0) 0 (cond (eqb (word_of t) i) 10 17)

-- where the first of them begins
unfoldable pub base_of : ℕ → List ℕ → ℕ
base_of i t = cond (eqb (word_of t) i) 64 22

-- a parent's ten pointers, bytes 64 to 123, and a child's seventeen, bytes 22 to 123, end at the same byte: where the slot-th of so many
-- begins
abbrev pub pointer_place : ℕ → ℕ → ℕ
pointer_place capacity slot = 118 - 6 * (capacity - slot)

-- the j-th pointer's start sector and count
abbrev pub start_of : ℕ → List ℕ → ℕ → ℕ
start_of i t j = u32_at t (base_of i t + 6 * j)

abbrev pub count_of : ℕ → List ℕ → ℕ → ℕ
count_of i t j = u16_at t (base_of i t + 6 * j + 4)

-- a pointer is used if its six bytes are not all zero: the one that begins at byte o, and the j-th of table i
abbrev pub UsedAt : List ℕ → ℕ → Type 0
UsedAt t o = 0 < u32_at t o + u16_at t (o + 4)

abbrev pub Used : ℕ → List ℕ → ℕ → Type 0
Used i t j = UsedAt t (base_of i t + 6 * j)

-- of a parent whose bytes are t, "header pointer 58-63": its start sector and count, and that the file has a header
abbrev pub header_start : List ℕ → ℕ
header_start t = u32_at t 58

abbrev pub header_count : List ℕ → ℕ
header_count t = u16_at t 62

abbrev pub HasHeader : List ℕ → Type 0
HasHeader t = UsedAt t 58

-- the sectors under the table's pointers
unfoldable pub sectors_of : ℕ → List ℕ → ℕ
sectors_of i t = sum_to (slots_of i t) (λ j. count_of i t j)

-- the file that the table is of: itself for a parent, the parent that a child names, 0 for a free table
unfoldable pub file_of : ℕ → List ℕ → ℕ
file_of i t = cond (eqb (word_of t) 0) 0 (cond (eqb (word_of t) i) i (parent_of t))
