-- The bench cards, one table: counts per zone type, and what the promises of format, mount, both creates, grow, both deletes and read allow;
-- no block is withheld. Proved by `cards` of proofs/BenchCards.antt.
use Rattle.std.specs.Prelude.{◌≡◌, List, [], ◌∷◌, Bool, ℕ, zero, suc, ◌+◌, ◌*◌, ◌≤◌, length, replicate, Some, Result, Ok, Err}
use Rattle.tables.specs.Sector1.{put_flag}
use Rattle.field.specs.Parts.{over}
use Rattle.tables.specs.declared.index.Pointer.{Pointer}
use Rattle.tables.specs.Places.{places_of}
use Rattle.tables.specs.Zones.{zone_at}
use Rattle.tables.specs.Indexes.{base_of, pointer_at}
use Rattle.tables.specs.Counts.{counts_of}
use Rattle.tables.specs.Format.{Label, fresh_places, formatted}
use Rattle.allocation.specs.Last.{used_pointers}
use Rattle.allocation.specs.NewTables.{New}
use Rattle.allocation.specs.MadeFiles.{only_counts, created, grown}
use Rattle.files.specs.Moves.{moved, sector_content}
use Rattle.files.specs.Release.{released}
use Rattle.requests.specs.Body.{BodySized}
use Rattle.requests.specs.Format.{Formatted}
use Rattle.requests.specs.Mount.{Mounted}
use Rattle.requests.specs.Named.{file_bytes}
use Rattle.requests.specs.Moving.{whole_sectors}
use Rattle.requests.specs.Read.{ReadOut}
use Rattle.requests.specs.Create.{attribute_for, CreatedFixed, CreatedVariable}
use Rattle.requests.specs.Grow.{Grew}
use Rattle.requests.specs.State.{removed, Removed}
use Rattle.requests.specs.Delete.{Deleted}
use Rattle.tables.specs.declared.refusal.Refusal.{Refusal}
use Rattle.tables.specs.declared.refusal.Refusal.TheVariants.{NoRoom, PastEnd, BadArgument}
use Rattle.tables.specs.declared.kinds.Index.{Index}

-- what a promise allows: the answer r with x in the lent buffer afterwards, and nothing else
pub record OneResult {R : Type 0} (P : R → List ℕ → Type 0) (r : R) (x : List ℕ) : Type 0 where
  pub met : P r x
  pub only : (s : R) (y : List ℕ) → P s y → (s ≡ r) × (y ≡ x)

-- the answers of a create
abbrev pub done : ℕ → Result Index Refusal
done id = Ok (record { 0 = id })

abbrev pub refused : Refusal → Result Index Refusal
refused why = Err why

-- ---- what the cards read

-- the date of all of them
unfoldable pub card_date : List ℕ
card_date = 7 ∷ 208 ∷ 1 ∷ 2 ∷ 3 ∷ 4 ∷ []

-- the n pointers of a table's bytes t from byte o on
unfoldable pub pointers_from : List ℕ → ℕ → ℕ → List Pointer
pointers_from t o zero = []
pointers_from t o (suc n) = pointer_at t o ∷ pointers_from t (o + 6) n

-- the used pointers of table i, whose bytes are t
unfoldable pub pointers_in : ℕ → List ℕ → List Pointer
unfolding pointers_from used_pointers
pointers_in i t = pointers_from t (base_of i t) (used_pointers i t)

-- those of file f's parent
abbrev pub pointers_of : List ℕ → ℕ → List Pointer
pointers_of b f = pointers_in f (file_bytes b f)

-- the free count of zone z
abbrev pub free_in : List ℕ → ℕ → ℕ
free_in b z = (zone_at (places_of b) b z).free

-- a pointer to c sectors from s on
abbrev pub run : ℕ → ℕ → Pointer
run s c = record { start = record { 0 = s }; count = c }

-- create fixed of a plain file, its blocks of the types of the flag: 252 is all six, the default, 128 is H, 4 is C
abbrev pub CreateNamed : List ℕ → List ℕ → ℕ → ℕ → Result Index Refusal → List ℕ → Type 0
CreateNamed name b flag size = CreatedFixed b [] name (Some size) (Some flag) 0 card_date

-- named A
abbrev pub Create : List ℕ → ℕ → ℕ → Result Index Refusal → List ℕ → Type 0
Create = CreateNamed (65 ∷ [])

-- create variable of a plain file named A, its cell of so many bytes
abbrev pub CreateCell : List ℕ → ℕ → Result Index Refusal → List ℕ → Type 0
CreateCell b cell = CreatedVariable b [] (65 ∷ []) (Some cell) 0 card_date

-- grow of file id to so many bytes
abbrev pub GrowTo : List ℕ → ℕ → ℕ → ℕ → List ℕ → Type 0
GrowTo b id long = Grew b [] id (Some long) card_date

-- read of file 1 at a position, of a wanted length: the one result, whatever body and buffer of enough bytes are lent
abbrev pub ReadGives : List ℕ → ℕ → ℕ → Result ℕ Refusal → (Bool → List ℕ → List ℕ → List ℕ) → Type 0
ReadGives b at long r output = (exchange : Bool) (body out : List ℕ) → BodySized b body → whole_sectors long ≤ length out
    → OneResult (ReadOut b [] body 1 (Some at) (Some long) exchange out) r (output exchange body out)

-- temporary delete of file id: whatever body of the right length is lent, the one result is 0 with these books, and the body as it was
abbrev pub RemoveGives : List ℕ → ℕ → List ℕ → Type 0
RemoveGives b id b' = (body : List ℕ) → BodySized b body → OneResult (λ (r : ℕ × List ℕ). Removed b [] body id card_date r.0 r.1) (0, b') body

-- the same of actual delete
abbrev pub DeleteGives : List ℕ → ℕ → List ℕ → Type 0
DeleteGives b id b' = (body : List ℕ) → BodySized b body → OneResult (λ (r : ℕ × List ℕ). Deleted b [] body id card_date r.0 r.1) (0, b') body

-- ---- the books of the cards

unfoldable pub label : Label
unfolding card_date
label = record { application = []; volume = []; id = 0; owner = []; code = []; date = card_date }

-- len bytes formatted for Z zones and 8 index tables
unfoldable pub blank : ℕ → ℕ → List ℕ
unfolding label
blank len z = formatted len z 8 label

-- and mounted
unfoldable pub fresh : ℕ → ℕ → List ℕ
unfolding blank
fresh len z = put_flag (blank len z) 1

-- these are the one result of format, whatever the books held, and then of mount
abbrev pub FreshBooks : ℕ → ℕ → Type 0
FreshBooks len z = (b : List ℕ) → length b ≡ len → OneResult (Formatted b (Some z) (Some 8) label) 0 (blank len z) × OneResult (Mounted (blank len z) []) 0 (fresh len z)

-- a plain file of n bytes, of variable size where `variable` is 1 and not 0
unfoldable pub plain_file : ℕ → ℕ → New
unfolding card_date
plain_file variable n = record { name = 65 ∷ []; date = card_date; length = n; attribute = attribute_for variable 0 }

-- books for Z zones with a file more, with blocks of these counts
unfoldable pub with_file : ℕ → List ℕ → New → List ℕ → List ℕ
with_file z b n counts = created (fresh_places z 8) b n counts

-- one of fixed size, its blocks of the types of the flag
unfoldable pub with_fixed : ℕ → List ℕ → ℕ → ℕ → List ℕ
unfolding with_file plain_file
with_fixed z b flag size = with_file z b (plain_file 0 size) (counts_of flag size)

-- one block of type D, 4,096 bytes, and no other
unfoldable pub one_d : List ℕ
unfolding only_counts
one_d = only_counts 4 1

-- one of variable size, its cell of type D
unfoldable pub with_cell : ℕ → List ℕ → List ℕ
unfolding with_file plain_file one_d
with_cell z b = with_file z b (plain_file 1 0) one_d

-- books for Z zones with file id longer by a block of type D, and of so many bytes
unfoldable pub with_longer : ℕ → List ℕ → ℕ → ℕ → List ℕ
unfolding one_d card_date
with_longer z b id long = grown (fresh_places z 8) b id one_d long card_date

-- the books after each card; that the requests leave these, and these alone, is in the table

unfoldable pub after5 : List ℕ
after5 = with_fixed 4 (fresh 5120 4) 252 5000

unfoldable pub after6 : List ℕ
after6 = with_fixed 4 after5 252 1

unfoldable pub after8 : List ℕ
after8 = with_fixed 4 after6 4 20480

unfoldable pub after9 : List ℕ
after9 = with_fixed 3 (fresh 5120 3) 4 5000

unfoldable pub after10 : List ℕ
after10 = with_fixed 36 (fresh 9216 36) 128 33554432

-- of P12 and P13: two files begun, then grown in turn
unfoldable pub begun1 : List ℕ
begun1 = with_cell 4 (fresh 5120 4)

unfoldable pub begun2 : List ℕ
begun2 = with_cell 4 begun1

unfoldable pub grown1 : List ℕ
grown1 = with_longer 4 begun2 1 8192

unfoldable pub grown2 : List ℕ
grown2 = with_longer 4 grown1 2 8192

-- file 1 deleted for a time, then for good, and file 2 grown again
unfoldable pub removed1 : List ℕ
removed1 = removed (fresh_places 4 8) grown2 1 card_date

unfoldable pub deleted1 : List ℕ
deleted1 = released (fresh_places 4 8) removed1 1 card_date

unfoldable pub joined2 : List ℕ
joined2 = with_longer 4 deleted1 2 12288

-- ---- the table

pub record Cards : Type 0 where
  -- "fresh", for Z=4, 3 and 36
  pub fresh' : FreshBooks 5120 4 × FreshBooks 5120 3 × FreshBooks 9216 36
  -- "P1 M = 1,773 sectors, default: H1 G2 F3 E2 D3 C1."
  pub p1 : counts_of 252 (1773 * 1024) ≡ 1 ∷ 2 ∷ 3 ∷ 2 ∷ 3 ∷ 1 ∷ []
  -- "P2 1,240 KiB, H, F, E: 1, 3, 2."
  pub p2 : counts_of (128 + 32 + 16) (1240 * 1024) ≡ 1 ∷ 0 ∷ 3 ∷ 2 ∷ 0 ∷ 0 ∷ []
  -- "P3 size 1, H and E: 0, 1."
  pub p3 : counts_of (128 + 16) 1 ≡ 0 ∷ 0 ∷ 0 ∷ 1 ∷ 0 ∷ 0 ∷ []
  -- "P4 1,048,577 bytes, H: 2."
  pub p4 : counts_of 128 1048577 ≡ 2 ∷ 0 ∷ 0 ∷ 0 ∷ 0 ∷ 0 ∷ []
  -- "P5 Z=4, fresh: 5,000 bytes default gives pointers (1024,4), (2048,1); free counts 255, 1023."
  pub p5 : OneResult (Create (fresh 5120 4) 252 5000) (done 1) after5
      × (pointers_of after5 1 ≡ run 1024 4 ∷ run 2048 1 ∷ [])
      × (free_in after5 2 ≡ 255)
      × (free_in after5 3 ≡ 1023)
  -- "P6 then 1 byte: (2049,1)."
  pub p6 : OneResult (Create after5 252 1) (done 2) after6 × (pointers_of after6 2 ≡ run 2049 1 ∷ [])
  -- "P7 then 20,480 bytes default: 12."
  pub p7 : OneResult (Create after6 252 20480) (refused NoRoom) after6
  -- "P8 with C alone: (2050,20)."
  pub p8 : OneResult (Create after6 4 20480) (done 3) after8 × (pointers_of after8 3 ≡ run 2050 20 ∷ [])
  -- "P9 Z=3, fresh: 5,000 bytes default: 12; with C: (1024,5)."
  pub p9 : OneResult (Create (fresh 5120 3) 252 5000) (refused NoRoom) (fresh 5120 3)
      × OneResult (Create (fresh 5120 3) 4 5000) (done 1) after9
      × (pointers_of after9 1 ≡ run 1024 5 ∷ [])
  -- "P10 Z=36, 33,554,432 bytes, H: (1024,31744), (32768,1024)."
  pub p10 : OneResult (Create (fresh 9216 36) 128 33554432) (done 1) after10 × (pointers_of after10 1 ≡ run 1024 31744 ∷ run 32768 1024 ∷ [])
  -- "P11 After P5, read at 4,096 of 2,048: 1,024 bytes from sector 2048; at 5,120: 14; 1,023 wanted at 0: done, 0 bytes."
  pub p11 : ReadGives after5 4096 2048 (Ok 1024) (λ exchange body out. over out 0 (moved exchange (sector_content body 2048)))
      × ReadGives after5 5120 2048 (Err PastEnd) (λ exchange body out. out)
      × ReadGives after5 0 1023 (Ok 0) (λ exchange body out. out)
  -- "two interleaved growing files are to be added as a case" (W4). Z=4, fresh, cells of 4,096 bytes, both grown to 8,192 in turn: each finds
  -- the other's block behind its end, and gets the lowest free one
  pub p12 : OneResult (CreateCell (fresh 5120 4) 4096) (done 1) begun1
      × OneResult (CreateCell begun1 4096) (done 2) begun2
      × OneResult (GrowTo begun2 1 8192) 0 grown1
      × OneResult (GrowTo grown1 2 8192) 0 grown2
      × (pointers_of grown2 1 ≡ run 1024 4 ∷ run 1032 4 ∷ [])
      × (pointers_of grown2 2 ≡ run 1028 4 ∷ run 1036 4 ∷ [])
      × (free_in grown2 2 ≡ 252)
  -- Then file 1 is deleted for good, and file 2 grown to 12,288: it gets the block behind its end, though 1024 starts the lowest free one, and
  -- the block joins its last pointer
  pub p13 : RemoveGives grown2 1 removed1
      × DeleteGives removed1 1 deleted1
      × (free_in deleted1 2 ≡ 254)
      × OneResult (GrowTo deleted1 2 12288) 0 joined2
      × (pointers_of joined2 2 ≡ run 1028 4 ∷ run 1036 8 ∷ [])
      × (free_in joined2 2 ≡ 253)
  -- "Name of 24: taken; of 25: 7."
  pub names : ((b : List ℕ) × OneResult (CreateNamed (replicate 24 65) (fresh 5120 4) 252 5000) (done 1) b)
      × OneResult (CreateNamed (replicate 25 65) (fresh 5120 4) 252 5000) (refused BadArgument) (fresh 5120 4)
