-- A file whose tables keep their pointers, the last of which may be longer and have others after it: its sectors stay at their places.
use mathlib.Core.Path.{◌≡◌, refl, sym, ap, ◌∙◌}
use mathlib.Core.Logic.{◌≢◌}
use mathlib.Core.Bool.{Bool, true, false}
use mathlib.Core.List.{List}
use Prim.Native.Nat.{ℕ, zero, suc, ◌+◌, ◌≤◌, ◌<◌}
use native.Mathlib.Decide.{ℕ_discrete, dec_lt}
use native.Mathlib.Omega.{arith}
use lib.Dec.{eqb}
use Rattle.tables.specs.Indexes.{link_of, slots_of, start_of, count_of, Used, sectors_of, file_of}
use Rattle.tables.specs.Views.{View, Parent, next, only_if, tally}
use Rattle.tables.specs.Rules.R4.{R4}
use Rattle.tables.specs.Rules.R5.{R5}
use Rattle.tables.specs.Rules.R6.{R6}
use Rattle.tables.specs.Rules.R8.{file_sectors}
use Rattle.tables.proofs.ChoiceLaws.{sum_mono}
use Rattle.tables.proofs.Sector1CountLaws.{only_eq, only_ne}
use Rattle.allocation.proofs.ChangeLaws.{member_begins, member_file}
use Rattle.files.specs.declared.spot.Spot.{Spot}
use Rattle.files.specs.Spots.{spot_at, spot_start, spot_count, more_at, onward, spot_of, kth_sector}
use Rattle.files.specs.Unchanged.{SamePlaces}
use Rattle.files.proofs.SpotLaws.{Reached, onward_under, onward_run, run_more, run_further, more_is, more_not, spot_reached}

-- table i, whose bytes were t, keeps its file, its link if it has one, and what its used pointers lie over; only the last pointer of the last
-- table may be longer, and what is not used there may be used
pub record Follows (i : ℕ) (t t' : List ℕ) : Type 0 where
  pub file : file_of i t' ≡ file_of i t
  pub slots : slots_of i t' ≡ slots_of i t
  pub link : link_of t ≢ 0 → link_of t' ≡ link_of t
  pub start : (j : ℕ) → j < slots_of i t → Used i t j → start_of i t' j ≡ start_of i t j
  pub count : (j : ℕ) → j < slots_of i t → count_of i t j ≤ count_of i t' j
  pub before : (j : ℕ) → j + 1 < slots_of i t → Used i t (j + 1) → count_of i t' j ≡ count_of i t j
  pub inner : link_of t ≢ 0 → (j : ℕ) → j < slots_of i t → (start_of i t' j ≡ start_of i t j) × (count_of i t' j ≡ count_of i t j)

follows_used : (i : ℕ) (t t' : List ℕ) → Follows i t t' → (j : ℕ) → j < slots_of i t → Used i t j → Used i t' j
follows_used i t t' h j l u = omega (arith, h.start j l u, h.count j l)

-- all pointers are the same
pub follows_alike : (i : ℕ) (t t' : List ℕ) → file_of i t' ≡ file_of i t → slots_of i t' ≡ slots_of i t → (link_of t ≢ 0 → link_of t' ≡ link_of t)
    → ((j : ℕ) → j < slots_of i t → start_of i t' j ≡ start_of i t j) → ((j : ℕ) → j < slots_of i t → count_of i t' j ≡ count_of i t j) → Follows i t t'
follows_alike i t t' file slots link start count = record {
  file = file;
  slots = slots;
  link = link;
  start = λ j l u. start j l;
  count = λ j l. omega (arith, count j l);
  before = λ j l u. count j (omega arith);
  inner = λ nz j l. (start j l, count j l);
}

pub follows_same : (i : ℕ) (t t' : List ℕ) → t' ≡ t → Follows i t t'
follows_same i t t' e = rw e (follows_alike i t t refl refl (λ nz. refl) (λ j l. refl) (λ j l. refl))

follows_trans : (i : ℕ) (t u w : List ℕ) → Follows i t u → Follows i u w → Follows i t w
follows_trans i t u w h k = record {
  file = k.file ∙ h.file;
  slots = k.slots ∙ h.slots;
  link = λ nz. k.link (onward nz) ∙ h.link nz;
  start = λ j l v. k.start j (slot j l) (follows_used i t u h j l v) ∙ h.start j l v;
  count = λ j l. omega (arith, h.count j l, k.count j (slot j l));
  before = λ j l v. k.before j (slot (j + 1) l) (follows_used i t u h (j + 1) l v) ∙ h.before j l v;
  inner = λ nz j l. ((k.inner (onward nz) j (slot j l)).0 ∙ (h.inner nz j l).0, (k.inner (onward nz) j (slot j l)).1 ∙ (h.inner nz j l).1);
}
  where
    slot : (j : ℕ) → j < slots_of i t → j < slots_of i u
    slot j l = rw h.slots l

    onward : link_of t ≢ 0 → link_of u ≢ 0
    onward nz z = nz (sym (h.link nz) ∙ z)

-- so does every table of file f
pub record FileFollows (v v' : View) (f : ℕ) : Type 0 where
  pub each : (i : ℕ) → 1 ≤ i → i ≤ v.indexes → file_of i (v.table i) ≡ f → Follows i (v.table i) (v'.table i)

pub file_stays : (v v' : View) (f : ℕ) → ((i : ℕ) → 1 ≤ i → i ≤ v.indexes → v'.table i ≡ v.table i) → FileFollows v v' f
file_stays v v' f same = record { each = λ i lo hi e. follows_same i (v.table i) (v'.table i) (same i lo hi) }

pub file_trans : (u v w : View) (f : ℕ) → v.indexes ≡ u.indexes → FileFollows u v f → FileFollows v w f → FileFollows u w f
file_trans u v w f same h k = record {
  each = λ i lo hi e. (let one = h.each i lo hi e in follows_trans i (u.table i) (v.table i) (w.table i) one (k.each i lo (rw same hi) (one.file ∙ e)));
}

-- ---- the file's sectors

module _ (v v' : View) (f : ℕ) (same : v'.indexes ≡ v.indexes) (h : FileFollows v v' f) where
  own_most : (i : ℕ) → 1 ≤ i → i ≤ v.indexes → only_if (eqb (file_of i (v.table i)) f) (sectors_of i (v.table i)) ≤ only_if (eqb (file_of i (v'.table i)) f) (sectors_of i (v'.table i))
  unfolding sectors_of
  own_most i lo hi = elim (ℕ_discrete (file_of i (v.table i)) f) [
    | yes e ↦ (let o = h.each i lo hi e in
        rw (only_eq _ f (sectors_of i (v.table i)) e, only_eq _ f (sectors_of i (v'.table i)) (o.file ∙ e), o.slots) (sum_mono (slots_of i (v.table i)) _ _ o.count))
    | no ne ↦ omega (arith, only_ne (file_of i (v.table i)) f (sectors_of i (v.table i)) ne)
  ]

  pub follows_most : file_sectors v f ≤ file_sectors v' f
  unfolding file_sectors tally
  follows_most = rw same (sum_mono v.indexes _ _ (λ k l. own_most (k + 1) (omega arith) (omega arith)))

  module _ (r4 : R4 v) (r5 : R5 v) (r6 : R6 v) (few : v.indexes ≤ 4096) (parent : Parent v f) where
    module _ (k : ℕ) (c : Spot) (r : Reached v f (r5.long f) k c) where
      abbrev i : ℕ
      i = c.table.0

      spot_follows : Follows i (v.table i) (v'.table i)
      spot_follows =
          let b = rw r.here at (member_begins v few f (r5.long f) parent (r5.chain f parent) r.place (omega (arith, r.within))) in
          h.each i b.1.low b.1.high (rw r.here at (member_file v few f (r5.long f) parent (r5.chain f parent) r.place (omega (arith, r.within))))

      start_same : spot_start v' c ≡ spot_start v c
      start_same = spot_follows.start c.slot r.slot' r.used

      -- the spot is the last sector under its pointer, and not the file's last
      module _ (end : spot_count v c ≤ c.off + 1) (more : Reached v f (r5.long f) (suc k) (onward v c)) where
        -- the next pointer is there and is used as before
        to_slot : more_at v c ≡ true → onward v' c ≡ onward v c
        to_slot e =
            let m = more_is v c e in
            let n : spot_count v' c ≡ spot_count v c = spot_follows.before c.slot m.0 m.1 in
            onward_run v' c (omega arith) ∙ run_more v' c (now (more_at v' c) refl) ∙ sym (run_more v c e) ∙ sym (onward_run v c end)
          where
            now : (t : Bool) → more_at v' c ≡ t → more_at v' c ≡ true
            now true q = q
            now false q =
                let m = more_is v c e in
                absurd (more_not v' c q (rw spot_follows.slots m.0) (follows_used i (v.table i) (v'.table i) spot_follows (c.slot + 1) m.0 m.1))

        -- there is none; a table follows, so nothing changes in this one
        to_table : more_at v c ≡ false → onward v' c ≡ onward v c
        to_table e =
            let n : spot_count v' c ≡ spot_count v c = (spot_follows.inner linked c.slot r.slot').1 in
            onward_run v' c (omega arith) ∙ run_further v' c (now (more_at v' c) refl) ∙ ap (λ (x : ℕ). spot_at x 0) (spot_follows.link linked) ∙ sym old
          where
            old : onward v c ≡ spot_at (next v i) 0
            old = onward_run v c end ∙ run_further v c e

            linked : next v i ≢ 0
            linked z =
                let b = member_begins v few f (r5.long f) parent (r5.chain f parent) more.place (omega (arith, more.within)) in
                omega (arith, b.1.low, more.here, ap (λ (s : Spot). s.table.0) old)

            now : (t : Bool) → more_at v' c ≡ t → more_at v' c ≡ false
            now false q = q
            now true q =
                let m = more_is v' c q in
                let l : c.slot + 1 < slots_of i (v.table i) = rw spot_follows.slots at m.0 in
                let g = spot_follows.inner linked (c.slot + 1) l in
                absurd (more_not v c e l (rw (g.0, g.1) at m.1))

        to_run : (t : Bool) → more_at v c ≡ t → onward v' c ≡ onward v c
        to_run true e = to_slot e
        to_run false e = to_table e

      onward_same : Reached v f (r5.long f) (suc k) (onward v c) → onward v' c ≡ onward v c
      onward_same more = elim (dec_lt (c.off + 1) (spot_count v c)) [
        | yes l ↦ onward_under v' c (omega (arith, spot_follows.count c.slot r.slot')) ∙ sym (onward_under v c l)
        | no l ↦ to_run (omega arith) more (more_at v c) refl
      ]

    spot_same : (k : ℕ) → k < file_sectors v f → spot_of v' f k ≡ spot_of v f k
    unfolding spot_of
    spot_same zero l = refl
    spot_same (suc k) l =
        ap (onward v') (spot_same k (omega arith))
        ∙ onward_same k (spot_of v f k) (spot_reached v r4 r5 r6 few f parent k (omega arith)) (spot_reached v r4 r5 r6 few f parent (suc k) l)

    pub follows_places : SamePlaces v v' f
    unfolding kth_sector
    follows_places = record {
      most = follows_most;
      place = λ k l. rw (spot_same k l) (ap (λ (x : ℕ). x + (spot_of v f k).off) (start_same k (spot_of v f k) (spot_reached v r4 r5 r6 few f parent k l)));
    }
