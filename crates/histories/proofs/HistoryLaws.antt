-- Histories: what each step keeps, all of them keep; and the length of the free chain.
use mathlib.Core.Path.{◌≡◌, refl, sym, ap, ◌∙◌}
use mathlib.Core.Logic.{◌≢◌}
use Prim.Native.Nat.{ℕ, ◌-◌, ◌≤◌, ◌<◌}
use native.Mathlib.Omega.{arith}
use Rattle.field.proofs.Sums.{different_le}
use Rattle.tables.specs.Places.{places_of}
use Rattle.tables.specs.Rules.R4.{FreeChain}
use Rattle.tables.specs.Rules.R8.{file_sectors}
use Rattle.tables.specs.Views.{View, Parent, walk, next}
use Rattle.tables.specs.Withheld.{withheld_over}
use Rattle.tables.proofs.ChainLaws.{walk_once}
use Rattle.files.specs.Moves.{sector_content}
use Rattle.files.specs.Spots.{kth_sector}
use Rattle.files.proofs.UntouchedLaws.{other_parent, other_places}
use Rattle.tables.proofs.GateLaws.{zero_good}
use Rattle.histories.specs.History.{Volume, seen, LawfulVolume, Request, Does, RequestStep, History, none, then, named_by, Belongs, bytes_at, Deletes, SparedIn, SameHeader, HeaderLeftIn}
use Rattle.histories.proofs.StepFrame.{step_lawful, step_over, step_untouched, step_stands, step_bytes, step_own, step_header}

-- ---- steps

-- a file that is not named: its data bytes stay
module _ (v w : Volume) (lawful : LawfulVolume v) (q : Request) (d : Does q v w) (g : ℕ) (parent : Parent (seen v) g) (other : g ≢ named_by q) where
  pub other_bytes : (k : ℕ) → k < file_sectors (seen v) g → bytes_at w g k ≡ bytes_at v g k
  other_bytes k l =
      let u = step_untouched v w lawful q d in
      let p = places_of v.books in
      let b = v.books in
      let ne = u.2 g parent other in
      let good = (zero_good v.books v.withheld lawful.lawful).books in
      let stays = other_places p b good.layout good.lawful (seen w) u.0 u.1 g parent ne in
      let stands = other_parent p b good.layout good.lawful (seen w) u.0 u.1 g parent ne in
      step_bytes v w lawful q d g k (kth_sector (seen w) g k) (record { file = stands; place = omega (arith, stays.most); here = refl })
      (λ bytes put. other (sym (step_own v w lawful q d g k bytes put parent))) ∙ ap (sector_content v.body) (stays.place k l)

-- a file's sectors stay at their places until it is deleted
pub step_place : (v w : Volume) → LawfulVolume v → (s : RequestStep v w) (f k n : ℕ) → Belongs v f k n → (Deletes v w s.request s.does f → ⊥) → Belongs w f k n
step_place v w lawful s f k n here kept =
    let q = step_stands v w lawful s.request s.does f here.file kept in
    record { file = q.0; place = omega (arith, here.place, q.1.most); here = q.1.place k here.place ∙ here.here }

-- ---- histories

pub lawful_after : (v w : Volume) → LawfulVolume v → History v w → LawfulVolume w
lawful_after v w start (none e) = rw e start
lawful_after v w start (then {v = x} h s) = step_lawful x w (lawful_after v x start h) s.request s.does

-- the same sectors are withheld throughout
pub withheld_after : (v w : Volume) → LawfulVolume v → History v w → (s : ℕ) → withheld_over (seen w) w.withheld s ≡ withheld_over (seen v) v.withheld s
withheld_after v w start (none e) s = rw e
withheld_after v w start (then {v = x} h st) s = step_over x w (lawful_after v x start h) st.request st.does s ∙ withheld_after v x start h s

-- a place of a file that every step spares keeps its sector and its bytes
pub spared_stays : (v w : Volume) → LawfulVolume v → (f k n : ℕ) → Belongs v f k n → (h : History v w) → SparedIn h f k
    → Belongs w f k n × (sector_content w.body n ≡ sector_content v.body n)
spared_stays v w start f k n here (none e) spared = rw e (here, refl)
spared_stays v w start f k n here (then {v = x} h s) spared =
    let before = spared_stays v x start f k n here h spared.0 in
    let lawful = lawful_after v x start h in
    let there = step_place x w lawful s f k n before.0 spared.1.kept in
    (there, step_bytes x w lawful s.request s.does f k n there spared.1.unwritten ∙ before.1)

-- a header that no step replaces, of a file that none deletes, is what it was but for the id
pub header_left : (v w : Volume) → LawfulVolume v → (f : ℕ) → Parent (seen v) f → (h : History v w) → HeaderLeftIn h f → Parent (seen w) f × SameHeader v w f
header_left v w start f parent (none e) left = rw e (parent, record { place = record { start = refl; count = refl }; bytes = refl })
header_left v w start f parent (then {v = x} h s) left =
    let before = header_left v x start f parent h left.0 in
    let lawful = lawful_after v x start h in
    let old = before.1 in
    let new = step_header x w lawful s.request s.does f before.0 left.1.kept left.1.unplaced in (
      (step_stands x w lawful s.request s.does f before.0 left.1.kept).0,
      record { place = record { start = new.place.start ∙ old.place.start; count = new.place.count ∙ old.place.count }; bytes = new.bytes ∙ old.bytes },
    )

-- ---- the free chain meets different tables

pub free_short : (v : View) (m : ℕ) → FreeChain v m → m ≤ v.indexes
free_short v m chain =
    different_le v.indexes m (λ k. walk (next v) v.head k - 1) (λ k l. omega (arith, (chain.each k l).low, (chain.each k l).high)) (λ k l j lj e.
    walk_once (next v) v.head m chain.ends (λ n ln. (chain.each n ln).low) k l j lj (omega (arith, (chain.each k l).low, (chain.each j (omega arith)).low)))
