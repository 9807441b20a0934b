-- The ways through the functions that move sectors.
use mathlib.Core.Path.{◌≡◌, refl, sym, ap, ap₂, ◌∙◌, subst}
use mathlib.Core.Bool.{Bool, true, false}
use mathlib.Core.List.{List, [], ◌∷◌, ◌++◌, append-nil}
use Prim.Native.Nat.{ℕ, zero, suc, ◌+◌, ◌-◌, ◌*◌, ◌%◌, ◌≤◌, ◌<◌}
use native.Mathlib.Nat.{not-suc-le-zero, le_of_suc-le-suc, add-sub_cancel_left, add-zero, zero-add}
use native.Mathlib.Numerals.{add-one}
use native.Mathlib.Omega.{arith}
use lib.ListN.{length, get_or, set, take, drop, drop_of_length-le}
use lib.Seq.{paste}
use borrow.Rule.Slice.PartMut.{put_mid, Post-is}
use Rattle.field.specs.Parts.{over}
use Rattle.field.proofs.PartLaws.{copy_more, copy_end, length_over}
use Rattle.tables.specs.declared.places.Places.{Places}
use Rattle.tables.specs.Places.{Layout}
use Rattle.tables.specs.Lawful.{LawfulWith}
use Rattle.tables.specs.Views.{View, view_of}
use Rattle.files.specs.declared.spot.Spot.{Spot}
use Rattle.files.specs.Spots.{spot_start, onward, spot_of, kth_sector}
use Rattle.files.specs.Moves.{exchanged, moved, body_place, buffer_sector, sectors_laid, filled, fetched, Movable}
use Rattle.files.specs.Asked.{OnSector}
use Rattle.files.proofs.SpotLaws.{spot_next, kth_at, spot_on}
use Rattle.files.proofs.MoveLaws.{length_exchanged}

-- ---- a sector copied

-- as many bytes laid over all
pub over_all : (d s : List ℕ) → length s ≡ length d → over d 0 s ≡ s
unfolding over
over_all d s e = ap (λ (r : List ℕ). s ++ r) (drop_of_length-le d {i = 0 + length s} (omega arith)) ∙ append-nil s

-- the bytes of a pair are in each other's places
exchanged_pair : (s : List ℕ) (j : ℕ) → j % 2 ≡ 0 → suc j < length s → (get_or (exchanged s) j 0 ≡ get_or s (suc j) 0) × (get_or (exchanged s) (suc j) 0 ≡ get_or s j 0)
unfolding exchanged
exchanged_pair [] j e h = absurd (not-suc-le-zero h)
exchanged_pair (x ∷ []) j e h = absurd (not-suc-le-zero (le_of_suc-le-suc h))
exchanged_pair (x ∷ (y ∷ s)) zero e h = (refl, refl)
exchanged_pair (x ∷ (y ∷ s)) (suc zero) e h = absurd (omega (arith, e))
exchanged_pair (x ∷ (y ∷ s)) (suc (suc j)) e h = exchanged_pair s j (omega (arith, e)) (le_of_suc-le-suc (le_of_suc-le-suc h))

-- a turn that exchanges a pair, and the end
pub exchange_more : (d s x : List ℕ) (k : ℕ) → x ≡ paste d 0 (exchanged s) (2 * k) → 2 * k + 1 < length s → length s ≡ length d
    → set (set x (2 * k) (get_or s (2 * k + 1) 0)) (2 * k + 1) (get_or s (2 * k) 0) ≡ paste d 0 (exchanged s) (2 * (k + 1))
exchange_more d s x k e h l =
    let j : ℕ = 2 * k in
    let even : j % 2 ≡ 0 = omega arith in
    let once : set x j (get_or s (j + 1) 0) ≡ paste d 0 (exchanged s) (j + 1) =
    ap₂ (λ (i v : ℕ). set x i v) (sym (zero-add j)) (ap (λ (i : ℕ). get_or s i 0) (add-one j) ∙ sym (exchanged_pair s j even (omega arith)).0)
    ∙ copy_more d (exchanged s) x 0 j e (omega arith) (omega (arith, length_exchanged s)) in
    ap₂ (λ (i v : ℕ). set (set x j (get_or s (j + 1) 0)) i v) (sym (zero-add (j + 1)))
    (sym (exchanged_pair s j even (omega arith)).1 ∙ ap (λ (i : ℕ). get_or (exchanged s) i 0) (sym (add-one j)))
    ∙ copy_more d (exchanged s) (set x j (get_or s (j + 1) 0)) 0 (j + 1) once (omega arith) (omega (arith, length_exchanged s))
    ∙ ap (paste d 0 (exchanged s)) (let q : j + 1 + 1 ≡ 2 * (k + 1) = omega arith in q)

pub exchange_end : (d s x : List ℕ) (j : ℕ) → x ≡ paste d 0 (exchanged s) j → length s ≡ length d → j ≡ length s → x ≡ exchanged s
exchange_end d s x j e l h =
    copy_end d (exchanged s) x 0 j e (omega (arith, length_exchanged s)) (omega (arith, length_exchanged s))
    ∙ over_all d (exchanged s) (length_exchanged s ∙ l)

pub move_exchanged : (x : Bool) (d s : List ℕ) → x ≡ true → d ≡ exchanged s → d ≡ moved x s
unfolding moved
move_exchanged x d s e h = rw e h

pub move_plain : (x : Bool) (d₀ d s : List ℕ) → x ≡ false → d ≡ over d₀ 0 s → length d₀ ≡ 1024 → length s ≡ 1024 → d ≡ moved x s
unfolding moved
move_plain x d₀ d s e h l m = rw e (h ∙ over_all d₀ s (m ∙ sym l))

-- a lent part that is back
pub put_over : (a e : ℕ) (xs ys : List ℕ) → a ≤ e → length ys ≡ e - a → put_mid a (e - a) xs ys ≡ over xs a ys
unfolding over
put_over a e xs ys h k =
    let q : e ≡ a + length ys = omega arith in
    ap (λ (z : List ℕ). take a xs ++ (ys ++ z)) (Post-is a e xs h ∙ ap (λ (n : ℕ). drop n xs) q)

-- ---- the loops

-- i of n sectors are moved, from the spot c₀ on: c is the next one's, and the bytes are xs. The loop does not know the file any more: the facts
-- hold for each whose k-th sector c₀ is.
pub record Moving (v : View) (k n : ℕ) (done : ℕ → ℕ → List ℕ) (xs₀ : List ℕ) (c₀ : Spot) (xs : List ℕ) (c : Spot) (i : ℕ) : Type 0 where
  pub few : i ≤ n
  pub len : length xs ≡ length xs₀
  pub spot : (f : ℕ) → c₀ ≡ spot_of v f k → c ≡ spot_of v f (k + i)
  pub bytes : (f : ℕ) → c₀ ≡ spot_of v f k → xs ≡ done f i

module _ (v : View) (k n : ℕ) (done : ℕ → ℕ → List ℕ) (xs₀ : List ℕ) (c₀ : Spot) where
  pub moving_none : ((f : ℕ) → xs₀ ≡ done f 0) → Moving v k n done xs₀ c₀ xs₀ c₀ 0
  moving_none none = record { few = omega arith; len = refl; spot = λ f e. rw add-zero e; bytes = λ f e. none f }

  module _ (xs : List ℕ) (c : Spot) (i : ℕ) (m : Moving v k n done xs₀ c₀ xs c i) where
    -- a turn lays the next sector over the bytes, from a on
    pub moving_more : i < n → (d : Spot) → d ≡ onward v c → (a : ℕ) (last : List ℕ) → a + 1024 ≤ length xs → length last ≡ 1024
        → ((f : ℕ) → c ≡ spot_of v f (k + i) → done f (i + 1) ≡ over (done f i) a last) → Moving v k n done xs₀ c₀ (put_mid a (a + 1024 - a) xs last) d (i + 1)
    moving_more l d h a last fits size more =
        let put : put_mid a (a + 1024 - a) xs last ≡ over xs a last = put_over a (a + 1024) xs last (omega arith) (omega (arith, size)) in
        record {
          few = omega arith;
          len = ap length put ∙ length_over xs a last (omega (arith, size)) ∙ m.len;
          spot = λ f e. h ∙ ap (onward v) (m.spot f e) ∙ sym (spot_next v f (k + i)) ∙ ap (spot_of v f) (let q : k + i + 1 ≡ k + (i + 1) = omega arith in q);
          bytes = λ f e. put ∙ ap (λ (ys : List ℕ). over ys a last) (m.bytes f e) ∙ sym (more f (m.spot f e));
        }

    pub moving_end : n ≤ i → (f : ℕ) → c₀ ≡ spot_of v f k → xs ≡ done f n
    moving_end l f e = m.bytes f e ∙ ap (done f) (let q : i ≡ n = omega (arith, m.few) in q)

module _ (p : Places) (b : List ℕ) (lay : Layout p (length b)) {extra : ℕ → ℕ} (lawful : LawfulWith extra p b) (f k n room body : ℕ) (m : Movable (view_of p b) f k n room body)
    (done : ℕ → ℕ → List ℕ) (xs₀ : List ℕ) (c₀ : Spot) (from : c₀ ≡ spot_of (view_of p b) f k) (xs : List ℕ) (c : Spot) (i : ℕ) (h : Moving (view_of p b) k n done xs₀ c₀ xs c i)
    (l : i < n) where
  pub moving_here : OnSector (view_of p b) c
  moving_here = subst (OnSector (view_of p b)) (sym (h.spot f from)) (spot_on p b lay lawful f m.parent (k + i) (omega (arith, m.within)))

-- the spot's sector is the file's
spot_sector : (v : View) (f j : ℕ) (c : Spot) (a : ℕ) → c ≡ spot_of v f j → a ≡ body_place (spot_start v c + c.off) → a ≡ body_place (kth_sector v f j)
spot_sector v f j c a e h = h ∙ ap body_place (ap (λ (d : Spot). spot_start v d + d.off) e ∙ sym (kth_at v f j))

module _ (v : View) (f k : ℕ) (x : Bool) (c : Spot) (i a : ℕ) (at : c ≡ spot_of v f (k + i)) (place : a ≡ body_place (spot_start v c + c.off)) (last : List ℕ) where
  -- a turn that writes: the input's next sector is laid over the body
  pub write_more : (input body : List ℕ) → last ≡ moved x (take (1024 * i + 1024 - 1024 * i) (drop (1024 * i) input))
      → filled v f k x input body (i + 1) ≡ over (filled v f k x input body i) a last
  unfolding filled sectors_laid
  write_more input body h = let w : last ≡ moved x (buffer_sector input i) = rw add-sub_cancel_left at h in rw (add-one i, w, spot_sector v f (k + i) c a at place)

  -- a turn that reads: the file's next sector is laid over the output
  pub read_more : (body out : List ℕ) → last ≡ moved x (take (a + 1024 - a) (drop a body)) → fetched v f k x body out (i + 1) ≡ over (fetched v f k x body out i) (1024 * i) last
  unfolding fetched sectors_laid
  read_more body out h =
      let w : last ≡ moved x (take 1024 (drop a body)) = rw add-sub_cancel_left at h in
      rw (add-one i, w, spot_sector v f (k + i) c a at place)
