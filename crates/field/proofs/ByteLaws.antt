-- Runs of whole bytes: all bits by all bytes, and the set bits counted.
use mathlib.Core.Path.{◌≡◌, refl}
use mathlib.Core.Bool.{Bool}
use Prim.Native.Nat.{ℕ, zero, suc, ◌+◌, ◌*◌, ◌/◌, ◌%◌, ◌≤◌, ◌<◌}
use native.Mathlib.Omega.{arith}
use mathlib.Core.List.{List}
use lib.Count.{ones}
use lib.ListN.{get_or, length, take, drop, length-drop}
use lib.Seq.{get_or-drop}
use native.Mathlib.Numerals.{add-one}
use Rattle.std.specs.List.{sum_by}
use Rattle.std.proofs.lemmas.List.Sums.{sum_by_more}
use Rattle.field.specs.Says.{Says}
use Rattle.field.specs.Sum.{sum_to}
use Rattle.field.specs.Parts.{AllBytes}
use Rattle.field.specs.Runs.{AllBits, count_bits}
use Rattle.field.proofs.Tests.{says_map}
use Rattle.field.proofs.RunLaws.{all_byte, byte_all, count_byte, count_le, count_next}

-- ---- tested

module _ (b : List ℕ) (base from count v : ℕ) (whole : from % 8 + count % 8 ≡ 0) (hv : v < 2) where
  bytes_to : AllBytes b (base + from / 8) (count / 8) (255 * v) → AllBits b base from count v
  bytes_to all k l =
      let e : base + (from + 8 * (k / 8)) / 8 ≡ base + from / 8 + k / 8 = omega arith in
      let q : from + 8 * (k / 8) + k % 8 ≡ from + k = omega arith in
      rw q at (all_byte b base (from + 8 * (k / 8)) (omega arith) v hv (rw e (all (k / 8) (omega arith))) (k % 8) (omega arith))

  bytes_from : ((j : ℕ) → get_or b j 0 < 256) → AllBits b base from count v → AllBytes b (base + from / 8) (count / 8) (255 * v)
  bytes_from small all k l =
      let e : base + (from + 8 * k) / 8 ≡ base + from / 8 + k = omega arith in
      rw e at (byte_all b base (from + 8 * k) (omega arith) v hv (small _) (λ j lj. (let q : from + (8 * k + j) ≡ from + 8 * k + j = omega arith in rw q at (all (8 * k + j) (omega arith)))))

  pub bytes_says : (r : Bool) → ((j : ℕ) → get_or b j 0 < 256) → Says r (AllBytes b (base + from / 8) (count / 8) (255 * v)) → Says r (AllBits b base from count v)
  bytes_says r small = says_map r bytes_to (bytes_from small)

-- ---- counted

module _ (b : List ℕ) (base from : ℕ) where
  more : (i x : ℕ) → from % 8 ≡ 0 → x ≡ get_or b (base + from / 8 + i) 0 → x < 256 → count_bits b base from (8 * i) + ones x ≡ count_bits b base from (8 * (i + 1))
  more i x whole is small =
      let e : base + (from + 8 * i) / 8 ≡ base + from / 8 + i = omega arith in
      let q : 8 * i + 8 ≡ 8 * (i + 1) = omega arith in
      let m : ones x ≡ count_bits b base (from + 8 * i) 8 = rw (is, ← e) (count_byte b base (from + 8 * i) (omega arith) (rw (is, ← e) at small)) in
      rw q at (count_next b base from (8 * i) 8 _ (ones x) refl m)

  sum_counted : (m : ℕ) → from % 8 ≡ 0 → base + from / 8 + m ≤ length b → ((j : ℕ) → get_or b j 0 < 256) → sum_by ones (take m (drop (base + from / 8) b)) ≡ count_bits b base from (8 * m)
  unfolding count_bits sum_to
  sum_counted zero whole h small = refl
  sum_counted (suc m) whole h small =
      let bytes : List ℕ = drop (base + from / 8) b in
      rw (← add-one m, sum_by_more ones (drop (base + from / 8) b) m 0 (omega (arith, length-drop (base + from / 8) b)), sum_counted m whole (omega arith) small)
      (more m _ whole (get_or-drop (base + from / 8) b m 0) (rw (get_or-drop (base + from / 8) b m 0) (small _)))

  -- the part of m bytes, as a slice of it is written
  pub part_counted : (m n : ℕ) → m ≡ n → from % 8 ≡ 0 → base + from / 8 + n ≤ length b → ((j : ℕ) → get_or b j 0 < 256)
      → (sum_by ones (take m (drop (base + from / 8) b)) ≡ count_bits b base from (8 * n)) × (sum_by ones (take m (drop (base + from / 8) b)) ≤ 8 * n)
  part_counted m n e whole h small =
      let s : sum_by ones (take m (drop (base + from / 8) b)) ≡ count_bits b base from (8 * n) = rw e (sum_counted n whole h small) in
      (s, omega (arith, s, count_le b base from (8 * n)))
