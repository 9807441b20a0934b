-- A volume and what requests make of it: the terms of demand 3. A step is what the public promise of its request says, refusals and reading
-- requests included; format is no step.
use Rattle.std.specs.Prelude.{◌≡◌, Bool, List, ℕ, ◌+◌, ◌-◌, ◌/◌, ◌≤◌, ◌<◌, drop, Option, Result}
use Rattle.tables.specs.Books.{book_tests}
use Rattle.tables.specs.Gates.{Gate}
use Rattle.tables.specs.Indexes.{header_start, header_count}
use Rattle.tables.specs.Places.{places_of}
use Rattle.tables.specs.Rules.R8.{file_sectors}
use Rattle.tables.specs.Views.{View, view_of, Parent}
use Rattle.files.specs.HeaderBytes.{header_bytes}
use Rattle.files.specs.Moves.{moved, sector_content, sectors_content, buffer_sector}
use Rattle.files.specs.Spots.{kth_sector}
use Rattle.files.specs.Unchanged.{HeaderKept}
use Rattle.requests.specs.declared.text.Text.{Text}
use Rattle.requests.specs.declared.space.Space.{Space}
use Rattle.requests.specs.Body.{BodySized}
use Rattle.requests.specs.Create.{CreatedFixed, CreatedVariable}
use Rattle.requests.specs.Delete.{Deleted}
use Rattle.requests.specs.Diagnosis.{Diagnosed, DiagnosisText}
use Rattle.requests.specs.Amounts.{amount_value}
use Rattle.requests.specs.Grow.{Grew}
use Rattle.requests.specs.Header.{HeaderPlaced, show_header_tests, HeaderShown}
use Rattle.requests.specs.Listing.{Listed}
use Rattle.requests.specs.Locate.{Locates}
use Rattle.requests.specs.Mount.{Mounted, Dismounted}
use Rattle.requests.specs.Read.{ReadOut}
use Rattle.requests.specs.Report.{Reported}
use Rattle.requests.specs.Search.{Searched}
use Rattle.requests.specs.Show.{show_tests, Shown}
use Rattle.requests.specs.Space.{Spaced}
use Rattle.requests.specs.State.{Removed, Recovered, Protected}
use Rattle.requests.specs.Write.{Wrote}
use Rattle.tables.specs.Refusals.{number_of}
use Rattle.tables.specs.declared.refusal.Refusal.{Refusal}
use Rattle.tables.specs.declared.kinds.Index.{Index}
use Rattle.tables.specs.declared.kinds.Sector.{Sector}
use Rattle.examination.specs.declared.fault.Fault.{Fault}

-- ---- a volume

-- books and body, and the list of blocks withheld on it, by their first sectors: "the same throughout" (W7)
pub record Volume : Type 0 where
  pub books : List ℕ
  pub withheld : List ℕ
  pub body : List ℕ

-- what the rules see of it
abbrev pub seen : Volume → View
seen v = view_of (places_of v.books) v.books

-- "lawful books and a body of the right length": none of the numbers 1 to 4 applies to the books, nor 7 to the list
pub record LawfulVolume (v : Volume) : Type 0 where
  pub lawful : Gate (book_tests v.books v.withheld) 0
  pub sized : BodySized v.books v.body

-- ---- requests with their arguments; of lent buffers, what they hold before. Each promise has its answer, and what lent buffers hold then

-- those that change nothing of the volume
pub data Question : Type 0 where
  search : (pattern ids : List ℕ) → Question
  list : (from : ℕ) (entries : List ℕ) → Question
  locate : (id k : ℕ) → Question
  show : (id k : ℕ) → Question
  show_number : (id k : ℕ) → Question
  show_header : (id : ℕ) → Question
  header_number : (id : ℕ) → Question
  read : (id : ℕ) (position long : Option ℕ) (exchange : Bool) (out : List ℕ) → Question
  space : Question
  report : Question
  broken_rule : Question
  broken_text : Question

abbrev pub Answers : Question → Volume → Type 0
Answers (search pattern ids) v = (r : Result ℕ Refusal) × (ids' : List ℕ) × Searched v.books v.withheld pattern ids r ids'
Answers (list from entries) v = (r : Result ℕ Refusal) × (entries' : List ℕ) × Listed v.books v.withheld from entries r entries'
Answers (locate id k) v = (r : Result Sector Refusal) × Locates v.books v.withheld id k r
Answers (show id k) v = (part : List ℕ) × Shown v.books v.withheld v.body id k part
Answers (show_number id k) v = (r : ℕ) × Gate (show_tests v.books v.withheld v.body id k) r
Answers (show_header id) v = (part : List ℕ) × HeaderShown v.books v.withheld v.body id part
Answers (header_number id) v = (r : ℕ) × Gate (show_header_tests v.books v.withheld v.body id) r
Answers (read id position long exchange out) v = (r : Result ℕ Refusal) × (out' : List ℕ) × ReadOut v.books v.withheld v.body id position long exchange out r out'
Answers space v = (r : Result Space Refusal) × Spaced v.books v.withheld r
Answers report v = (r : Text) × Reported v.books v.withheld r
Answers broken_rule v = (r : Result (Option Fault) Refusal) × Diagnosed v.books v.withheld r
Answers broken_text v = (r : Text) × DiagnosisText v.books v.withheld r

-- these, and those that may change it
pub data Request : Type 0 where
  looks : Question → Request
  mount : Request
  dismount : Request
  create_fixed : (name : List ℕ) (size : Option ℕ) (types : Option ℕ) (kind : ℕ) (date : List ℕ) → Request
  create_variable : (name : List ℕ) (cell : Option ℕ) (kind : ℕ) (date : List ℕ) → Request
  grow : (id : ℕ) (long : Option ℕ) (date : List ℕ) → Request
  temporary_delete : (id : ℕ) (date : List ℕ) → Request
  recover : (id : ℕ) (date : List ℕ) → Request
  actual_delete : (id : ℕ) (date : List ℕ) → Request
  set_protection : (id w : ℕ) (date : List ℕ) → Request
  place_header : (id : ℕ) (content date : List ℕ) → Request
  write : (id : ℕ) (position long : Option ℕ) (exchange : Bool) (input date : List ℕ) → Request

-- a request that is lent the books alone: its promise P is about them, and the body stays; so does the list, with every request
pub record BooksOnly (P : List ℕ → List ℕ → Type 0) (v v' : Volume) : Type 0 where
  pub promise : P v.books v'.books
  pub same : v'.body ≡ v.body
  pub list : v'.withheld ≡ v.withheld

-- one that is lent the body too
pub record BodyToo (P : List ℕ → List ℕ → List ℕ → List ℕ → Type 0) (v v' : Volume) : Type 0 where
  pub promise : P v.books v.body v'.books v'.body
  pub list : v'.withheld ≡ v.withheld

-- what the promise of the request says of the volume before and after
abbrev pub Does : Request → Volume → Volume → Type 0
Does (looks q) v v' = Answers q v × (v' ≡ v)
Does mount v v' = (r : ℕ) × BooksOnly (λ b b'. Mounted b v.withheld r b') v v'
Does dismount v v' = (r : ℕ) × BooksOnly (λ b b'. Dismounted b v.withheld r b') v v'
Does (create_fixed name size types kind date) v v' = (r : Result Index Refusal) × BooksOnly (λ b b'. CreatedFixed b v.withheld name size types kind date r b') v v'
Does (create_variable name cell kind date) v v' = (r : Result Index Refusal) × BooksOnly (λ b b'. CreatedVariable b v.withheld name cell kind date r b') v v'
Does (grow id long date) v v' = (r : ℕ) × BooksOnly (λ b b'. Grew b v.withheld id long date r b') v v'
Does (temporary_delete id date) v v' = (r : ℕ) × BodyToo (λ b body b' body'. Removed b v.withheld body id date r b' body') v v'
Does (recover id date) v v' = (r : ℕ) × BodyToo (λ b body b' body'. Recovered b v.withheld body id date r b' body') v v'
Does (actual_delete id date) v v' = (r : ℕ) × BodyToo (λ b body b' body'. Deleted b v.withheld body id date r b' body') v v'
Does (set_protection id w date) v v' = (r : ℕ) × BooksOnly (λ b b'. Protected b v.withheld id w date r b') v v'
Does (place_header id content date) v v' = (r : ℕ) × BodyToo (λ b body b' body'. HeaderPlaced b v.withheld body id content date r b' body') v v'
Does (write id position long exchange input date) v v' = (r : Result ℕ Refusal) × BodyToo (λ b body b' body'. Wrote b v.withheld body id position long exchange input date r b' body') v v'

-- ---- histories

pub record RequestStep (v v' : Volume) : Type 0 where
  pub request : Request
  pub does : Does request v v'

-- steps one after the other
pub data History : Volume → Volume → Type 0 where
  none : {v v' : Volume} → v' ≡ v → History v v'
  then : {u v w : Volume} → History u v → RequestStep v w → History u w

-- ---- what a request may change

-- the file that a request which changes a file names; 0 for the others
abbrev pub named_by : Request → ℕ
named_by (looks q) = 0
named_by mount = 0
named_by dismount = 0
named_by (create_fixed name size types kind date) = 0
named_by (create_variable name cell kind date) = 0
named_by (grow id long date) = id
named_by (temporary_delete id date) = id
named_by (recover id date) = id
named_by (actual_delete id date) = id
named_by (set_protection id w date) = id
named_by (place_header id content date) = id
named_by (write id position long exchange input date) = id

-- sector s of the volume belongs to place k of file f, active or temporarily deleted
pub record Belongs (v : Volume) (f k s : ℕ) : Type 0 where
  pub file : Parent (seen v) f
  pub place : k < file_sectors (seen v) f
  pub here : kth_sector (seen v) f k ≡ s

-- it is the k-th sector of the header of file f
pub record HeaderAt (v : Volume) (f k s : ℕ) : Type 0 where
  pub file : Parent (seen v) f
  pub place : k < header_count ((seen v).table f)
  pub here : header_start ((seen v).table f) + k ≡ s

-- the bytes of place k of file f
abbrev pub bytes_at : Volume → ℕ → ℕ → List ℕ
bytes_at v f k = sector_content v.body (kth_sector (seen v) f k)

-- the bytes of the header of file f, none where it has no header
abbrev pub header_of : Volume → ℕ → List ℕ
header_of v f = sectors_content v.body (header_start ((seen v).table f)) (header_count ((seen v).table f))

-- a write that is done puts these bytes at place k of file f
pub record Puts (id : ℕ) (position long : Option ℕ) (exchange : Bool) (input : List ℕ) (r : Result ℕ Refusal) (f k : ℕ) (bytes : List ℕ) : Type 0 where
  pub file : id ≡ f
  pub done : number_of r ≡ 0
  pub from : amount_value position / 1024 ≤ k
  pub to : k < amount_value position / 1024 + amount_value long / 1024
  pub bytes' : bytes ≡ moved exchange (buffer_sector input (k - amount_value position / 1024))

-- the step is such a write
abbrev pub PutsIn : (v v' : Volume) (q : Request) → Does q v v' → ℕ → ℕ → List ℕ → Type 0
PutsIn v v' (looks q) d f k bytes = ⊥
PutsIn v v' mount d f k bytes = ⊥
PutsIn v v' dismount d f k bytes = ⊥
PutsIn v v' (create_fixed name size types kind date) d f k bytes = ⊥
PutsIn v v' (create_variable name cell kind date) d f k bytes = ⊥
PutsIn v v' (grow id long date) d f k bytes = ⊥
PutsIn v v' (temporary_delete id date) d f k bytes = ⊥
PutsIn v v' (recover id date) d f k bytes = ⊥
PutsIn v v' (actual_delete id date) d f k bytes = ⊥
PutsIn v v' (set_protection id w date) d f k bytes = ⊥
PutsIn v v' (place_header id content date) d f k bytes = ⊥
PutsIn v v' (write id position long exchange input date) d f k bytes = Puts id position long exchange input d.0 f k bytes

-- the step is a done actual delete of file f
abbrev pub Deletes : (v v' : Volume) (q : Request) → Does q v v' → ℕ → Type 0
Deletes v v' (looks q) d f = ⊥
Deletes v v' mount d f = ⊥
Deletes v v' dismount d f = ⊥
Deletes v v' (create_fixed name size types kind date) d f = ⊥
Deletes v v' (create_variable name cell kind date) d f = ⊥
Deletes v v' (grow id long date) d f = ⊥
Deletes v v' (temporary_delete id date) d f = ⊥
Deletes v v' (recover id date) d f = ⊥
Deletes v v' (actual_delete id date) d f = (id ≡ f) × (d.0 ≡ 0)
Deletes v v' (set_protection id w date) d f = ⊥
Deletes v v' (place_header id content date) d f = ⊥
Deletes v v' (write id position long exchange input date) d f = ⊥

-- the step neither writes place k of file f nor deletes the file
pub record Spares (v v' : Volume) (s : RequestStep v v') (f k : ℕ) : Type 0 where
  pub unwritten : (bytes : List ℕ) → PutsIn v v' s.request s.does f k bytes → ⊥
  pub kept : Deletes v v' s.request s.does f → ⊥

-- no step of the history does
abbrev pub SparedIn : {u v : Volume} → History u v → ℕ → ℕ → Type 0
SparedIn (none e) f k = Unit {0}
SparedIn (then {u} {v} {w} h s) f k = SparedIn h f k × Spares v w s f k

-- ---- headers

-- a placing that is done makes these bytes the header of file f
pub record PutsHeader (id : ℕ) (content : List ℕ) (r f : ℕ) (bytes : List ℕ) : Type 0 where
  pub file : id ≡ f
  pub done : r ≡ 0
  pub bytes' : bytes ≡ header_bytes id content

-- the step is such a placing
abbrev pub PutsHeaderIn : (v v' : Volume) (q : Request) → Does q v v' → ℕ → List ℕ → Type 0
PutsHeaderIn v v' (looks q) d f bytes = ⊥
PutsHeaderIn v v' mount d f bytes = ⊥
PutsHeaderIn v v' dismount d f bytes = ⊥
PutsHeaderIn v v' (create_fixed name size types kind date) d f bytes = ⊥
PutsHeaderIn v v' (create_variable name cell kind date) d f bytes = ⊥
PutsHeaderIn v v' (grow id long date) d f bytes = ⊥
PutsHeaderIn v v' (temporary_delete id date) d f bytes = ⊥
PutsHeaderIn v v' (recover id date) d f bytes = ⊥
PutsHeaderIn v v' (actual_delete id date) d f bytes = ⊥
PutsHeaderIn v v' (set_protection id w date) d f bytes = ⊥
PutsHeaderIn v v' (place_header id content date) d f bytes = PutsHeader id content d.0 f bytes
PutsHeaderIn v v' (write id position long exchange input date) d f bytes = ⊥

-- the header of file f lies where it lay and holds what it held, "but for the id", its first four bytes
pub record SameHeader (v v' : Volume) (f : ℕ) : Type 0 where
  pub place : HeaderKept (seen v) (seen v') f
  pub bytes : drop 4 (header_of v' f) ≡ drop 4 (header_of v f)

-- the step neither replaces the header of file f nor deletes the file
pub record LeavesHeader (v v' : Volume) (s : RequestStep v v') (f : ℕ) : Type 0 where
  pub unplaced : (bytes : List ℕ) → PutsHeaderIn v v' s.request s.does f bytes → ⊥
  pub kept : Deletes v v' s.request s.does f → ⊥

-- no step of the history does
abbrev pub HeaderLeftIn : {u v : Volume} → History u v → ℕ → Type 0
HeaderLeftIn (none e) f = Unit {0}
HeaderLeftIn (then {u} {v} {w} h s) f = HeaderLeftIn h f × LeavesHeader v w s f
