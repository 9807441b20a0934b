-- Sectors moved between a buffer and the body: "byte pairs exchanged if asked", "Each written sector is filled where it lies in the body".
use Rattle.std.specs.Prelude.{◌≡◌, Bool, cond, List, [], ◌∷◌, ℕ, zero, suc, ◌+◌, ◌-◌, ◌*◌, ◌≤◌, ◌<◌, take, drop}
use Rattle.field.specs.Parts.{over}
use Rattle.tables.specs.Rules.R8.{file_sectors}
use Rattle.tables.specs.Views.{View, Parent}
use Rattle.files.specs.Spots.{kth_sector}

-- byte pairs exchanged
unfoldable pub exchanged : List ℕ → List ℕ
exchanged [] = []
exchanged (x ∷ []) = x ∷ []
exchanged (x ∷ (y ∷ s)) = y ∷ (x ∷ exchanged s)

-- a sector's bytes as they are moved: with pairs exchanged if asked
unfoldable pub moved : Bool → List ℕ → List ℕ
unfolding exchanged
moved x s = cond x (exchanged s) s

-- the body is zones 2 to Z - 1: where sector s of the volume begins in it
abbrev pub body_place : ℕ → ℕ
body_place s = 1024 * (s - 1024)

-- the 1,024 bytes of sector s, as they lie in the body, and those of the n sectors from s on
abbrev pub sector_content : List ℕ → ℕ → List ℕ
sector_content body s = take 1024 (drop (body_place s) body)

abbrev pub sectors_content : List ℕ → ℕ → ℕ → List ℕ
sectors_content body s n = take (1024 * n) (drop (body_place s) body)

-- the n-th 1,024 bytes of a buffer
abbrev pub buffer_sector : List ℕ → ℕ → List ℕ
buffer_sector s n = take 1024 (drop (1024 * n) s)

-- n sectors laid over xs, one after another: the i-th is `part i`, and it is laid from byte 1024 * `at i` on
unfoldable pub sectors_laid : (ℕ → ℕ) → (ℕ → List ℕ) → List ℕ → ℕ → List ℕ
sectors_laid at part xs zero = xs
sectors_laid at part xs (suc n) = over (sectors_laid at part xs n) (1024 * at n) (part n)

-- the body once n sectors of the input are written, from the file's k-th sector on
unfoldable pub filled : View → ℕ → ℕ → Bool → List ℕ → List ℕ → ℕ → List ℕ
unfolding sectors_laid moved kth_sector
filled v f k x input body n = sectors_laid (λ i. kth_sector v f (k + i) - 1024) (λ i. moved x (buffer_sector input i)) body n

-- the output once n sectors are read, from the file's k-th sector on
unfoldable pub fetched : View → ℕ → ℕ → Bool → List ℕ → List ℕ → ℕ → List ℕ
unfolding sectors_laid moved kth_sector
fetched v f k x body out n = sectors_laid (λ i. i) (λ i. moved x (sector_content body (kth_sector v f (k + i)))) out n

-- n sectors of file f from the k-th on can be moved between the body and a buffer of `room` bytes
pub record Movable (v : View) (f k n room body : ℕ) : Type 0 where
  pub parent : Parent v f
  pub some : k < file_sectors v f
  pub within : k + n ≤ file_sectors v f
  pub buffer : 1024 * n ≤ room
  pub body' : body ≡ 1048576 * (v.zones - 2)
