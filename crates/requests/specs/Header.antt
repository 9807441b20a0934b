-- Headers: "file id (4 bytes), length L (2), L bytes, then nulls; L is 0 to 32,762, else 7. Placing takes the lowest fitting run in the lowest B
-- zone that isn't open, else the lowest open zone. A replaced header gets its new place first, then the old id becomes 0 and its run free; a B
-- zone left empty becomes (0,0,0)." "Write protection gives 10 on placing." "No B zone fitting and no open zone: 12." (W1)
use Rattle.std.specs.Prelude.{◌≡◌, List, [], ◌∷◌, ◌++◌, ℕ, ◌≤◌, length}
use Rattle.tables.specs.Dates.{Date}
use Rattle.tables.specs.Gates.{Test, asks, Gate}
use Rattle.tables.specs.Indexes.{attribute_of, header_start, header_count}
use Rattle.tables.specs.Places.{places_of}
use Rattle.tables.specs.Views.{view_of}
use Rattle.allocation.specs.Headers.{HeaderRoom}
use Rattle.files.specs.HeaderBytes.{header_sectors}
use Rattle.files.specs.Headers.{headed, headed_body}
use Rattle.requests.specs.declared.show.Part.{Part}
use Rattle.requests.specs.Answers.{after, use_tests}
use Rattle.requests.specs.Body.{body_test, lent_tests}
use Rattle.requests.specs.Named.{file_bytes, usable_tests}
use Rattle.requests.specs.Show.{part_of, bytes_of}
use Rattle.requests.specs.State.{put_state}

-- ---- placing

-- "L is 0 to 32,762, else 7", and a date
pub record HeaderAllowed (long : ℕ) (date : List ℕ) : Type 0 where
  pub most : long ≤ 32762
  pub date' : Date date

-- 1 to 5, 7, 15, 8, 9, 10, then 12
unfoldable pub place_header_tests : List ℕ → List ℕ → List ℕ → ℕ → ℕ → List ℕ → List Test
place_header_tests b withheld body id long date =
    lent_tests b withheld body (HeaderAllowed long date) ++ (usable_tests 4 b id ++ (asks 12 (HeaderRoom (view_of (places_of b) b) (header_sectors long)) ∷ []))

-- the books with a header of n sectors for the file, and the date stored; the attribute stays
unfoldable pub header_placed : List ℕ → ℕ → ℕ → List ℕ → List ℕ
header_placed b id n date = put_state (places_of b) (headed (places_of b) b id n) id (attribute_of (file_bytes b id)) date

-- its promise
pub record HeaderPlaced (b withheld body : List ℕ) (id : ℕ) (content date : List ℕ) (r : ℕ) (b' body' : List ℕ) : Type 0 where
  pub number : Gate (place_header_tests b withheld body id (length content) date) r
  pub books : b' ≡ after r (header_placed b id (header_sectors (length content)) date) b
  pub body'' : body' ≡ after r (headed_body (view_of (places_of b) b) id content body) body

-- ---- shown: the whole run as it lies in the body

-- 1 to 5, 15, 8, 9, 10, then 14 where the file has no header
unfoldable pub show_header_tests : List ℕ → List ℕ → List ℕ → ℕ → List Test
show_header_tests b withheld body id = use_tests b withheld ++ (body_test b body ∷ (usable_tests 8 b id ++ (asks 14 (1 ≤ header_count (file_bytes b id)) ∷ [])))

-- the promise of the place
pub record HeaderShownAt (b withheld body : List ℕ) (id : ℕ) (r : Part) : Type 0 where
  pub number : ℕ
  pub gate : Gate (show_header_tests b withheld body id) number
  pub part : r ≡ part_of number (header_start (file_bytes b id)) (header_count (file_bytes b id))

-- and of the part itself
pub record HeaderShown (b withheld body : List ℕ) (id : ℕ) (part : List ℕ) : Type 0 where
  pub number : ℕ
  pub gate : Gate (show_header_tests b withheld body id) number
  pub bytes : part ≡ bytes_of number body (header_start (file_bytes b id)) (header_count (file_bytes b id))
