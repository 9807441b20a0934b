-- A header's run taken: that its sectors are free, what the write of its zone's entry and of its sectors' bits changes, and that the rules hold
-- with the run set besides.
use mathlib.Core.Path.{◌≡◌, refl, sym, ap, ◌∙◌}
use mathlib.Core.Logic.{◌≢◌, ◌⊎◌, inl, inr, ⊎_elim}
use mathlib.Core.List.{List}
use Prim.Native.Nat.{ℕ, ◌+◌, ◌-◌, ◌*◌, ◌≤◌, ◌<◌}
use native.Mathlib.Nat.{mul-one}
use native.Mathlib.Decide.{ℕ_discrete, dec_lt}
use native.Mathlib.Omega.{arith}
use lib.ListN.{get_or, length}
use Rattle.field.specs.Sum.{sum_to}
use Rattle.field.proofs.BitLaws.{bit_at_lt}
use Rattle.field.proofs.Sums.{sum_same, sum_one, sum_add, sum_part, sum_le}
use Rattle.tables.specs.declared.places.Places.{Places}
use Rattle.tables.specs.declared.zone.ZoneEntry.{ZoneEntry}
use Rattle.tables.specs.Kinds.{zone_of, first_of}
use Rattle.tables.specs.Blocks.{ZoneType, header_type}
use Rattle.tables.specs.Places.{Layout}
use Rattle.tables.specs.Views.{View, view_of, cov}
use Rattle.tables.specs.Withheld.{KeepsTypes}
use Rattle.tables.specs.Rules.R2.{R2, ZoneBits}
use Rattle.tables.specs.Rules.R3.{R3, Blocks}
use Rattle.tables.specs.Rules.R6.{HeaderRun}
use Rattle.tables.proofs.BlockLaws.{header_block}
use Rattle.tables.proofs.PointerLaws.{cov_in, cov_before, cov_after}
use Rattle.tables.proofs.RoomLaws.{open_clear}
use Rattle.tables.proofs.TotalLaws.{run_sum}
use Rattle.allocation.specs.declared.choice.Found.{Found}
use Rattle.allocation.specs.Headers.{header_place, run_start, put_run, HeaderRoom, BegunPlace, OpenPlace}
use Rattle.allocation.specs.Held.{Held}
use Rattle.allocation.specs.Lengthened.{Quiet}
use Rattle.allocation.specs.Steps.{Filled, SameFiles}
use Rattle.allocation.proofs.FilledLaws.{length_filled, filled_sector0, filled_files, filled_quiet, filled_view}
use Rattle.allocation.proofs.HeaderLaws.{place_cases, room_place}
use Rattle.allocation.proofs.OneZoneLaws.{cov_away, one_R2, one_R3}
use Rattle.allocation.proofs.TakenHeld.{filled_keeps, filled_held}

-- ---- the clear sectors of a zone, which is how a B zone's blocks are counted

-- the n sectors from the k-th of a zone on are n of its sectors
pub cov_sum : (from k n : ℕ) → k + n ≤ 1024 → sum_to 1024 (λ j. cov (from + k) n (from + j)) ≡ n
cov_sum from k n l = run_sum from 1024 (from + k) n (λ s lo hi. (omega arith, omega arith))

-- the clear sectors of a zone, one by one
abbrev pub clear_sectors : (ℕ → ℕ) → ℕ → ℕ
clear_sectors bit from = sum_to 1024 (λ j. 1 - bit (from + j))

-- as many blocks of one sector
pub one_blocks : (bit : ℕ → ℕ) (from free : ℕ) → clear_sectors bit from ≡ free → Blocks bit from 1 free
one_blocks bit from free h = record {
  whole = λ k l j lj. ap bit (let e : from + k * 1 + j ≡ from + k * 1 = omega arith in e);
  number = sum_same 1024 _ _ (λ k l. ap (λ (x : ℕ). 1 - bit (from + x)) (mul-one k)) ∙ h;
}

pub blocks_one : (bit : ℕ → ℕ) (from free : ℕ) → Blocks bit from 1 free → clear_sectors bit from ≡ free
blocks_one bit from free b = sum_same 1024 _ _ (λ k l. ap (λ (x : ℕ). 1 - bit (from + x)) (sym (mul-one k))) ∙ b.number

-- a B zone's free sectors
pub header_clear : (v : View) → R3 v → (z : ℕ) → 2 ≤ z → z < v.zones → (v.zone z).ztype ≡ header_type → clear_sectors v.bit (first_of z) ≡ (v.zone z).free
header_clear v r3 z lo hi e =
    let typed : ZoneType (v.zone z).ztype = record { low = omega arith; high = omega arith } in
    let one = sym (header_block (v.zone z).ztype e).0 in
    blocks_one v.bit (first_of z) (v.zone z).free (rw one at (r3 z hi lo typed))

-- n of them fewer, where n that are clear are set
pub run_fewer : (bit bit' : ℕ → ℕ) (from k n : ℕ) → k + n ≤ 1024 → ((j : ℕ) → j < n → bit (from + k + j) ≡ 0) → ((j : ℕ) → j < 1024 → bit' (from + j) ≡ bit (from + j) + cov (from + k) n (from + j))
    → clear_sectors bit' from + n ≡ clear_sectors bit from
run_fewer bit bit' from k n l clear more =
    omega (arith, cov_sum from k n l, sum_add 1024 (λ j. 1 - bit' (from + j)) (λ j. cov (from + k) n (from + j)), sum_same 1024 (λ j. (1 - bit' (from + j)) + cov (from + k) n (from + j)) (λ j. 1 - bit (from + j)) one)
  where
    one : (j : ℕ) → j < 1024 → (1 - bit' (from + j)) + cov (from + k) n (from + j) ≡ 1 - bit (from + j)
    one j lj = elim (dec_lt j k) [
      | yes h ↦ omega (arith, more j lj, cov_before (from + k) n (from + j) (omega arith))
      | no h ↦ elim (dec_lt j (k + n)) [
        | yes g ↦
            let e : from + k + (j - k) ≡ from + j = omega arith in
            omega (arith, more j lj, cov_in (from + k) n (from + j) (omega arith) (omega arith), rw e at (clear (j - k) (omega arith)))
        | no g ↦ omega (arith, more j lj, cov_after (from + k) n (from + j) (omega arith))
      ]
    ]

-- ---- a place

-- n clear sectors of a B zone, or of a clear one, which then is one; without them it has k.free clear ones
pub record RunFree (v : View) (n : ℕ) (k : Found) : Type 0 where
  pub low : 2 ≤ k.zone.0
  pub high : k.zone.0 < v.zones
  pub within : k.number + n ≤ 1024
  pub clear : (j : ℕ) → j < n → v.bit (run_start k + j) ≡ 0
  pub was : clear_sectors v.bit (first_of k.zone.0) ≡ k.free + n
  pub kept : ((v.zone k.zone.0).ztype ≡ header_type) ⊎ ZoneBits v k.zone.0 0

module _ (v : View) (n : ℕ) (k : Found) (r2 : R2 v) (r3 : R3 v) (few : n ≤ 32) (high : k.zone.0 < v.zones) where
  -- the free field counts the run's sectors
  begun_free : BegunPlace v n k → RunFree v n k
  begun_free q =
      let own = header_clear v r3 k.zone.0 q.low high q.typed in
      let less = run_fewer v.bit (λ s. v.bit s + cov (run_start k) n s) (first_of k.zone.0) k.number n q.within q.clear (λ j lj. refl) in
      record { low = q.low; high = high; within = q.within; clear = q.clear; was = omega (arith, own, less, q.free); kept = inl q.typed }

  open_free : OpenPlace v n k → RunFree v n k
  open_free q =
      let clear = open_clear v r2 k.zone.0 q.low high r3 q.opened in
      record {
        low = q.low;
        high = high;
        within = omega (arith, q.number);
        clear = λ j lj. (let e : run_start k + j ≡ first_of k.zone.0 + (k.number + j) = omega arith in ap v.bit e ∙ clear (k.number + j) (omega (arith, q.number)));
        was = omega (arith, q.free, sum_one 1024 (λ j. 1 - v.bit (first_of k.zone.0 + j)) (λ j lj. omega (arith, clear j lj)));
        kept = inr clear;
      }

  pub place_free : BegunPlace v n k ⊎ OpenPlace v n k → RunFree v n k
  place_free = ⊎_elim begun_free open_free

-- what a header's place is
pub header_free : (v : View) (n : ℕ) → R2 v → R3 v → n ≤ 32 → (header_place v n).zone.0 < v.zones → RunFree v n (header_place v n)
header_free v n r2 r3 few high = place_free v n (header_place v n) r2 r3 few high (place_cases v n high)

-- where there is room, there is a place
pub header_room_place : (v : View) (n : ℕ) → R3 v → 1 ≤ n → HeaderRoom v n → (header_place v n).zone.0 < v.zones
header_room_place v n r3 some = room_place v n some (λ z lo hi typed k l clear.
    omega (arith, header_clear v r3 z lo hi typed, sum_part 1024 k (λ j. 1 - v.bit (first_of z + j)) l))

-- what the code that takes it asks
pub run_proper : (v : View) (n : ℕ) (k : Found) → RunFree v n k → (2 ≤ k.zone.0) × (k.zone.0 < v.zones) × (k.number + n ≤ 1024) × (k.free < 65536)
run_proper v n k c = (c.low, c.high, c.within, omega (arith, c.was, sum_le 1024 (λ j. 1 - v.bit (first_of k.zone.0 + j)) (λ j l. omega arith)))

-- ---- the view

module _ (v v' : View) (n : ℕ) (k : Found) (c : RunFree v n k) (took : Filled v v' k.zone.0 header_type k.free (run_start k) n) where
  bits_there : (z : ℕ) → 1 ≤ z → z ≤ v.zones → z ≢ k.zone.0 → (x : ℕ) → x < 1024 → v'.bit (first_of z + x) ≡ v.bit (first_of z + x)
  bits_there z lo hi ne x l = omega (arith, cov_away k.zone.0 k.number n z x c.low c.within lo ne l, took.bit (first_of z + x) (omega arith))

  pub run_R2 : R2 v → R2 v'
  run_R2 = one_R2 v v' k.zone.0 c.low c.high took.zones took.there bits_there
      (record { typed = rw took.here (record { low = omega arith; high = omega arith }); third = rw took.here refl })

  pub run_R3 : R3 v → R3 v'
  run_R3 =
      let less = run_fewer v.bit v'.bit (first_of k.zone.0) k.number n c.within c.clear (λ j lj. took.bit (first_of k.zone.0 + j) (omega (arith, c.low, c.high))) in
      one_R3 v v' k.zone.0 c.low c.high took.zones took.there bits_there
      (rw (took.here, sym (header_block header_type refl).0) (one_blocks v'.bit (first_of k.zone.0) k.free (omega (arith, less, c.was))))

  pub run_header : 1 ≤ n → n ≤ 32 → HeaderRun v' (run_start k) n
  run_header some few = record {
    some = some;
    few = few;
    low = omega (arith, c.low);
    high = omega (arith, c.low, c.high, c.within, took.zones);
    one = omega (arith, c.low, c.within);
    typed = let e : zone_of (run_start k) ≡ k.zone.0 = omega (arith, c.low, c.within) in rw (e, took.here) refl;
  }

  type_or_clear : (z : ℕ) → 2 ≤ z → z < v.zones → ((v'.zone z).ztype ≡ (v.zone z).ztype) ⊎ ZoneBits v z 0
  type_or_clear z lo hi =
      elim (ℕ_discrete z k.zone.0) [
        | yes e ↦ rw e (⊎_elim (λ h. inl (ap (λ (x : ZoneEntry). x.ztype) took.here ∙ sym h)) (λ h. inr h) c.kept)
        | no ne ↦ inl (ap (λ (x : ZoneEntry). x.ztype) (took.there z (omega arith) (omega arith) ne))
      ]

  pub run_held : SameFiles v v' → ((s : ℕ) → v.bit s < 2) → {f : ℕ} {d : ℕ → ℕ} → Held v f d → Held v' f (λ s. d s + cov (run_start k) n s)
  run_held files bits held = filled_held took.zones type_or_clear files bits held (cov (run_start k) n) took.bit (run_R2 held.r2) (run_R3 held.r3)

  pub run_keeps : SameFiles v v' → ((s : ℕ) → v.bit s < 2) → {f : ℕ} {d : ℕ → ℕ} → Held v f d → KeepsTypes d v v'
  run_keeps files bits held = filled_keeps took.zones type_or_clear files bits held

-- ---- the books

pub length_put_run : (p : Places) (b : List ℕ) (n : ℕ) (k : Found) → length (put_run p b n k) ≡ length b
unfolding put_run
length_put_run p b n k = length_filled p b k.zone.0 header_type k.free (run_start k) n

module _ (p : Places) (b : List ℕ) (n : ℕ) (k : Found) (lay : Layout p (length b)) (c : RunFree (view_of p b) n k) where
  within : run_start k + n ≤ 1024 * p.zones
  within = omega (arith, c.low, c.high, c.within)

  pub run_taken : Filled (view_of p b) (view_of p (put_run p b n k)) k.zone.0 header_type k.free (run_start k) n
  unfolding put_run
  run_taken = filled_view p b k.zone.0 header_type k.free (run_start k) n lay c.low c.high within c.clear

  pub run_sector0 : (j : ℕ) → j < 2048 → get_or (put_run p b n k) j 0 ≡ get_or b j 0
  unfolding put_run
  run_sector0 = filled_sector0 p b k.zone.0 header_type k.free (run_start k) n lay c.low c.high within

  pub run_files : SameFiles (view_of p b) (view_of p (put_run p b n k))
  unfolding put_run
  run_files = filled_files p b k.zone.0 header_type k.free (run_start k) n lay c.low c.high within

  pub run_quiet : Quiet p b (put_run p b n k)
  unfolding put_run
  run_quiet = filled_quiet p b k.zone.0 header_type k.free (run_start k) n lay c.low c.high within

  pub put_run_held : {f : ℕ} {d : ℕ → ℕ} → Held (view_of p b) f d → Held (view_of p (put_run p b n k)) f (λ s. d s + cov (run_start k) n s)
  put_run_held = run_held (view_of p b) (view_of p (put_run p b n k)) n k c run_taken run_files (bit_at_lt b p.sectortable)

  pub put_run_keeps : {f : ℕ} {d : ℕ → ℕ} → Held (view_of p b) f d → KeepsTypes d (view_of p b) (view_of p (put_run p b n k))
  put_run_keeps = run_keeps (view_of p b) (view_of p (put_run p b n k)) n k c run_taken run_files (bit_at_lt b p.sectortable)
