-- Sectors moved: what the body and the output hold then, byte by byte.
use mathlib.Core.Path.{◌≡◌, refl, sym, ap, ◌∙◌}
use mathlib.Core.Logic.{◌≢◌, inl, inr, ⊎_elim}
use mathlib.Core.Bool.{Bool, true, false}
use mathlib.Core.List.{List, [], ◌∷◌}
use Prim.Native.Nat.{ℕ, zero, suc, ◌+◌, ◌-◌, ◌*◌, ◌/◌, ◌%◌, ◌≤◌, ◌<◌}
use native.Mathlib.Nat.{not-suc-le-zero}
use native.Mathlib.Decide.{ℕ_discrete, dec_lt}
use native.Mathlib.Omega.{arith}
use lib.ListN.{length, get_or, take, drop, length-take, length-drop}
use lib.Seq.{ext_get_or, get_or-take, length-take-le}
use Rattle.field.specs.Kept.{Kept, Apart}
use Rattle.field.proofs.NumberLaws.{get_d_part}
use Rattle.field.proofs.PartLaws.{length_over, kept_over, over_part}
use Rattle.tables.specs.declared.places.Places.{Places}
use Rattle.tables.specs.Places.{Layout}
use Rattle.tables.specs.Lawful.{LawfulWith}
use Rattle.tables.specs.Views.{view_of}
use Rattle.files.specs.Spots.{kth_sector}
use Rattle.files.specs.Moves.{exchanged, moved, body_place, sector_content, buffer_sector, sectors_laid, filled, fetched, Movable}
use Rattle.files.proofs.SpotLaws.{kth_inside}
use Rattle.files.proofs.SectorPlaceLaws.{place_one}

-- ---- byte pairs exchanged

pub length_exchanged : (s : List ℕ) → length (exchanged s) ≡ length s
unfolding exchanged
length_exchanged [] = refl
length_exchanged (x ∷ []) = refl
length_exchanged (x ∷ (y ∷ s)) = ap (λ (n : ℕ). suc (suc n)) (length_exchanged s)

exchanged_twice : (s : List ℕ) → exchanged (exchanged s) ≡ s
unfolding exchanged
exchanged_twice [] = refl
exchanged_twice (x ∷ []) = refl
exchanged_twice (x ∷ (y ∷ s)) = ap (λ (l : List ℕ). x ∷ (y ∷ l)) (exchanged_twice s)

pub length_moved : (x : Bool) (s : List ℕ) → length (moved x s) ≡ length s
unfolding moved
length_moved true s = length_exchanged s
length_moved false s = refl

-- exchanging twice gives the bytes back
pub moved_twice : (x : Bool) (s : List ℕ) → moved x (moved x s) ≡ s
unfolding moved
moved_twice true s = exchanged_twice s
moved_twice false s = refl

-- ---- sectors laid over a list, one after another

-- a write apart from a part leaves it
pub part_kept : {b b' : List ℕ} {o n : ℕ} (at w : ℕ) → Kept b b' o n → Apart at w o n → take w (drop at b') ≡ take w (drop at b)
part_kept {b} {b'} {o} {n} at w k a =
    ext_get_or 0 (take w (drop at b')) (take w (drop at b)) (simp (length-take, length-drop, k.len)) (λ j l. byte j (omega (arith, length-take w (drop at b'))))
  where
    byte : (j : ℕ) → j < w → get_or (take w (drop at b')) j 0 ≡ get_or (take w (drop at b)) j 0
    byte j l = get_d_part b' at w j l ∙ k.out (at + j) (⊎_elim (λ h. inl (omega arith)) (λ h. inr (omega arith)) a) ∙ sym (get_d_part b at w j l)

-- different sectors are apart
pub sectors_apart : (s t : ℕ) → s ≢ t → Apart (1024 * s) 1024 (1024 * t) 1024
sectors_apart s t ne = elim (dec_lt s t) [ yes l ↦ inl (omega arith) | no g ↦ (let h : t < s = other g in inr (omega arith)) ]
  where
    other : (s < t → ⊥) → t < s
    other g = elim (dec_lt t s) [ yes l ↦ l | no h ↦ absurd (ne (omega arith)) ]

module _ (at : ℕ → ℕ) (part : ℕ → List ℕ) (xs : List ℕ) (n : ℕ) (whole : (i : ℕ) → i < n → length (part i) ≡ 1024)
    (fits : (i : ℕ) → i < n → 1024 * at i + 1024 ≤ length xs) where
  length_laid : (j : ℕ) → j ≤ n → length (sectors_laid at part xs j) ≡ length xs
  unfolding sectors_laid
  length_laid zero h = refl
  length_laid (suc j) h =
      let e = length_laid j (omega arith) in
      length_over (sectors_laid at part xs j) (1024 * at j) (part j) (omega (arith, e, whole j (omega arith), fits j (omega arith))) ∙ e

  kept_laid : (j : ℕ) → j < n → Kept (sectors_laid at part xs j) (sectors_laid at part xs (suc j)) (1024 * at j) 1024
  unfolding sectors_laid
  kept_laid j h =
      rw (whole j h) at (kept_over (sectors_laid at part xs j) (1024 * at j) (part j) (omega (arith, length_laid j (omega arith), whole j h, fits j h)))

  laid_out : (j : ℕ) → j ≤ n → (s : ℕ) → ((i : ℕ) → i < j → at i ≢ s) → take 1024 (drop (1024 * s) (sectors_laid at part xs j)) ≡ take 1024 (drop (1024 * s) xs)
  unfolding sectors_laid
  laid_out zero h s out = refl
  laid_out (suc j) h s out =
      part_kept (1024 * s) 1024 (kept_laid j (omega arith)) (sectors_apart s (at j) (λ e. out j (omega arith) (sym e)))
      ∙ laid_out j (omega arith) s (λ i l. out i (omega arith))

  laid_in : (j : ℕ) → j ≤ n → ((i : ℕ) → i < n → (k : ℕ) → k < n → at i ≡ at k → i ≡ k) → (i : ℕ) → i < j
      → take 1024 (drop (1024 * at i) (sectors_laid at part xs j)) ≡ part i
  unfolding sectors_laid
  laid_in zero h once i l = absurd (not-suc-le-zero l)
  laid_in (suc j) h once i l = elim (ℕ_discrete i j) [
    | yes e ↦ rw e (last (omega arith))
    | no ne ↦ part_kept (1024 * at i) 1024 (kept_laid j (omega arith)) (sectors_apart (at i) (at j) (λ e. ne (once i (omega arith) j (omega arith) e)))
        ∙ laid_in j (omega arith) once i (omega arith)
  ]
    where
      last : j < n → take 1024 (drop (1024 * at j) (sectors_laid at part xs (suc j))) ≡ part j
      last l = rw (whole j l) at (over_part (sectors_laid at part xs j) (1024 * at j) (part j) (omega (arith, length_laid j (omega arith), whole j l, fits j l)))

-- a buffer's n-th 1,024 bytes are as many, if it is long enough
pub length_buffer : (s : List ℕ) (i n : ℕ) → 1024 * n ≤ length s → i < n → length (buffer_sector s i) ≡ 1024
length_buffer s i n h l = length-take-le 1024 (drop (1024 * i) s) (omega (arith, length-drop (1024 * i) s))

-- buffers with the same sectors
sectors_same : (s t : List ℕ) (n : ℕ) → 1024 * n ≤ length s → 1024 * n ≤ length t → ((i : ℕ) → i < n → buffer_sector s i ≡ buffer_sector t i) → take (1024 * n) s ≡ take (1024 * n) t
sectors_same s t n hs ht same =
    ext_get_or 0 (take (1024 * n) s) (take (1024 * n) t) (length-take-le (1024 * n) s hs ∙ sym (length-take-le (1024 * n) t ht))
    (λ j l. byte j (omega (arith, length-take-le (1024 * n) s hs)))
  where
    in_sector : (u : List ℕ) (j : ℕ) → get_or u j 0 ≡ get_or (buffer_sector u (j / 1024)) (j % 1024) 0
    in_sector u j = sym (get_d_part u (1024 * (j / 1024)) 1024 (j % 1024) (omega arith) ∙ ap (λ (o : ℕ). get_or u o 0) (let e : 1024 * (j / 1024) + j % 1024 ≡ j = omega arith in e))

    byte : (j : ℕ) → j < 1024 * n → get_or (take (1024 * n) s) j 0 ≡ get_or (take (1024 * n) t) j 0
    byte j l =
        get_or-take (1024 * n) s j 0 l ∙ in_sector s j ∙ ap (λ (u : List ℕ). get_or u (j % 1024) 0) (same (j / 1024) (omega arith)) ∙ sym (in_sector t j)
        ∙ sym (get_or-take (1024 * n) t j 0 l)

-- ---- the file's sectors in the body

module _ (p : Places) (b : List ℕ) (lay : Layout p (length b)) {extra : ℕ → ℕ} (lawful : LawfulWith extra p b) (f k n room body : ℕ) (m : Movable (view_of p b) f k n room body) where
  pub sector_inside : (i : ℕ) → i < n → (1024 ≤ kth_sector (view_of p b) f (k + i)) × (kth_sector (view_of p b) f (k + i) < 1024 * (p.zones - 1))
  sector_inside i l = kth_inside p b lay lawful f m.parent (k + i) (omega (arith, m.within))

  pub sector_fits : (i : ℕ) → i < n → body_place (kth_sector (view_of p b) f (k + i)) + 1024 ≤ body
  sector_fits i l = omega (arith, (sector_inside i l).0, (sector_inside i l).1, m.body', lay.least)

  sector_once : (i : ℕ) → i < n → (j : ℕ) → j < n → kth_sector (view_of p b) f (k + i) - 1024 ≡ kth_sector (view_of p b) f (k + j) - 1024 → i ≡ j
  sector_once i l j h e =
      let q = place_one p b lay lawful f f (k + i) (k + j) m.parent m.parent (omega (arith, m.within)) (omega (arith, m.within))
      (omega (arith, (sector_inside i l).0, (sector_inside j h).0)) in
      omega (arith, q.1)

module _ (p : Places) (b : List ℕ) (lay : Layout p (length b)) {extra : ℕ → ℕ} (lawful : LawfulWith extra p b) (f k n : ℕ) (x : Bool) (input body : List ℕ)
    (m : Movable (view_of p b) f k n (length input) (length body)) where
  abbrev place : ℕ → ℕ
  place i = kth_sector (view_of p b) f (k + i) - 1024

  whole_in : (i : ℕ) → i < n → length (moved x (buffer_sector input i)) ≡ 1024
  whole_in i l = length_moved x (buffer_sector input i) ∙ length_buffer input i n m.buffer l

  abbrev given : ℕ → List ℕ
  given i = moved x (buffer_sector input i)

  fits_in : (i : ℕ) → i < n → 1024 * place i + 1024 ≤ length body
  fits_in = sector_fits p b lay lawful f k n (length input) (length body) m

  pub length_filled : length (filled (view_of p b) f k x input body n) ≡ length body
  unfolding filled
  length_filled = length_laid place given body n whole_in fits_in n (omega arith)

  -- the i-th written sector holds the i-th 1,024 bytes of the input, exchanged if asked
  pub filled_in : (i : ℕ) → i < n → sector_content (filled (view_of p b) f k x input body n) (kth_sector (view_of p b) f (k + i)) ≡ moved x (buffer_sector input i)
  unfolding filled
  filled_in i l = laid_in place given body n whole_in fits_in n (omega arith) (sector_once p b lay lawful f k n (length input) (length body) m) i l

  -- any other sector's bytes are as they were
  pub filled_out : (s : ℕ) → 1024 ≤ s → s < 1024 * (p.zones - 1) → ((i : ℕ) → i < n → kth_sector (view_of p b) f (k + i) ≢ s)
      → sector_content (filled (view_of p b) f k x input body n) s ≡ sector_content body s
  unfolding filled
  filled_out s low high out =
      laid_out place given body n whole_in fits_in n (omega arith) (s - 1024)
      (λ i l e. out i l (omega (arith, e, (sector_inside p b lay lawful f k n (length input) (length body) m i l).0)))

-- the output holds the sectors' bytes, one after the other, and is as it was past them
module _ (p : Places) (b : List ℕ) (lay : Layout p (length b)) {extra : ℕ → ℕ} (lawful : LawfulWith extra p b) (f k n : ℕ) (x : Bool) (body out : List ℕ)
    (m : Movable (view_of p b) f k n (length out) (length body)) where
  abbrev taken : ℕ → List ℕ
  taken i = moved x (sector_content body (kth_sector (view_of p b) f (k + i)))

  whole_out : (i : ℕ) → i < n → length (taken i) ≡ 1024
  whole_out i l =
      length_moved x (sector_content body (kth_sector (view_of p b) f (k + i)))
      ∙ length-take-le 1024 (drop (body_place (kth_sector (view_of p b) f (k + i))) body)
      (omega (arith, sector_fits p b lay lawful f k n (length out) (length body) m i l, length-drop (body_place (kth_sector (view_of p b) f (k + i))) body))

  fits_out : (i : ℕ) → i < n → 1024 * i + 1024 ≤ length out
  fits_out i l = omega (arith, m.buffer)

  pub length_fetched : length (fetched (view_of p b) f k x body out n) ≡ length out
  unfolding fetched
  length_fetched = length_laid (λ i. i) taken out n whole_out fits_out n (omega arith)

  pub fetched_in : (i : ℕ) → i < n → buffer_sector (fetched (view_of p b) f k x body out n) i ≡ moved x (sector_content body (kth_sector (view_of p b) f (k + i)))
  unfolding fetched
  fetched_in i l = laid_in (λ i. i) taken out n whole_out fits_out n (omega arith) (λ i l j h e. e) i l

  pub fetched_out : (j : ℕ) → 1024 * n ≤ j → get_or (fetched (view_of p b) f k x body out n) j 0 ≡ get_or out j 0
  unfolding fetched sectors_laid
  fetched_out j l = past n (omega arith)
    where
      past : (i : ℕ) → i ≤ n → get_or (sectors_laid (λ i. i) taken out i) j 0 ≡ get_or out j 0
      past zero h = refl
      past (suc i) h = (kept_laid (λ i. i) taken out n whole_out fits_out i (omega arith)).out j (inr (omega arith)) ∙ past i (omega arith)

-- "a read after a write gives the bytes back"
pub read_back : (p : Places) (b : List ℕ) {extra : ℕ → ℕ} → Layout p (length b) → LawfulWith extra p b → (f k n : ℕ) (x : Bool) (input body out : List ℕ)
    → Movable (view_of p b) f k n (length input) (length body) → 1024 * n ≤ length out
    → take (1024 * n) (fetched (view_of p b) f k x (filled (view_of p b) f k x input body n) out n) ≡ take (1024 * n) input
read_back p b lay lawful f k n x input body out m room =
    sectors_same (fetched (view_of p b) f k x (filled (view_of p b) f k x input body n) out n) input n (omega (arith, length_fetched p b lay lawful f k n x (filled (view_of p b) f k x input body n) out m')) m.buffer
    (λ i l. fetched_in p b lay lawful f k n x (filled (view_of p b) f k x input body n) out m' i l ∙ ap (moved x) (filled_in p b lay lawful f k n x input body m i l) ∙ moved_twice x (buffer_sector input i))
  where
    m' : Movable (view_of p b) f k n (length out) (length (filled (view_of p b) f k x input body n))
    m' = record { parent = m.parent; some = m.some; within = m.within; buffer = room; body' = length_filled p b lay lawful f k n x input body m ∙ m.body' }
