-- A file made longer: each way out of numbers 12 and 13, what adding its blocks asks, and the books afterwards.
use mathlib.Core.Path.{◌≡◌, refl, ap, ◌∙◌}
use mathlib.Core.Logic.{inl, inr}
use mathlib.Core.List.{List, []}
use Prim.Native.Nat.{ℕ, ◌≤◌, ◌<◌}
use native.Mathlib.Omega.{arith}
use borrow.Author.Tests.{lt-ltb, le-ltb}
use Rattle.tables.specs.declared.places.Places.{Places}
use Rattle.tables.specs.Indexes.{table_at, length_of}
use Rattle.tables.specs.Places.{places_of}
use Rattle.tables.specs.Gates.{Gate}
use Rattle.tables.specs.Books.{GoodSome, GoodWith}
use Rattle.tables.specs.Rules.R8.{file_type}
use Rattle.tables.specs.Views.{view_of, Parent}
use Rattle.tables.proofs.GateLaws.{gate_passes, gate_end, gate_head}
use Rattle.tables.specs.Blocks.{DataType}
use Rattle.allocation.proofs.SizeLaws.{type_typed}
use Rattle.allocation.proofs.FileLaws.{cursor_bounds, length_only}
use Rattle.allocation.specs.declared.growth.Cursor.{Cursor}
use Rattle.allocation.specs.Last.{cursor_of}
use Rattle.allocation.specs.MadeFiles.{only_counts, ProvidedSome, blocks_for, grown, ProvidedWith}
use Rattle.requests.specs.Create.{room_tests}
use Rattle.requests.specs.Named.{file_bytes}
use Rattle.requests.specs.Grow.{grow_counts, lack_tests, grown_to}
use Rattle.requests.proofs.RoomNumberLaws.{room_provides}

-- ---- 12 and 13, where the file becomes longer

pub counts_typed : (b : List ℕ) (p : Places) (id t : ℕ) {extra : ℕ → ℕ} → GoodWith extra b p → Parent (view_of p b) id → t ≡ file_type (view_of p b) id → DataType t
counts_typed b p id t g parent e = type_typed (view_of p b) id t g.lawful.r6 parent e

-- where a file goes on, its last pointer is lawful
pub cursor_small : (b : List ℕ) (p : Places) (id : ℕ) (c : Cursor) {extra : ℕ → ℕ} → GoodWith extra b p → Parent (view_of p b) id → c ≡ cursor_of p b id → (c.tail.last.count ≤ 32767) × (c.tail.tables ≤ 1)
cursor_small b p id c g parent e = rw e (cursor_bounds p b id g.layout g.lawful parent)

pub counts_are : (b : List ℕ) (p : Places) (id long t n : ℕ) (c : List ℕ) {extra : ℕ → ℕ} → GoodWith extra b p → t ≡ file_type (view_of p b) id → n ≡ blocks_for (view_of p b) id long → c ≡ only_counts t n → c ≡ grow_counts b id long
counts_are b p id long t n c g e f h = rw (h, e, f, g.places)

module _ (b : List ℕ) (p : Places) (id long n : ℕ) {extra : ℕ → ℕ} (g : GoodWith extra b p) (t : List ℕ) (bytes : t ≡ table_at p b id) (is : n ≡ length_of t) where
  length_is : n ≡ length_of (file_bytes b id)
  length_is = is ∙ ap length_of bytes ∙ ap (λ (q : Places). length_of (table_at q b id)) g.places

  pub lack_none : long ≤ n → Gate (lack_tests b id long) 0
  unfolding lack_tests
  lack_none le = gate_passes 12 _ _ 0 (λ lt. absurd (omega (arith, length_is))) (gate_passes 13 _ [] 0 (λ lt. absurd (omega (arith, length_is))) gate_end)

  pub lack_some : (r : ℕ) (c : Cursor) (counts : List ℕ) → n < long → c ≡ cursor_of p b id → counts ≡ grow_counts b id long → Gate (room_tests p b c.tail counts) r → Gate (lack_tests b id long) r
  unfolding lack_tests room_tests Gate
  lack_some r c counts lt cur are h = go (rw (cur, are, g.places) at h)
    where
      go : Gate (room_tests (places_of b) b (cursor_of (places_of b) b id).tail (grow_counts b id long)) r → Gate (lack_tests b id long) r
      go (inl (s, inl (t, e))) = inl (λ _. s, inl (λ _. t, e))
      go (inl (s, inr (t, e, z))) = inl (λ _. s, inr (λ k. t (k (omega (arith, length_is))), e, z))
      go (inr (s, e, z)) = inr (λ k. s (k (omega (arith, length_is))), e, z)

module _ (b : List ℕ) (id long : ℕ) where
  -- where neither 12 nor 13 applies, and the file becomes longer, there is all that it takes
  pub lack_provided : {extra : ℕ → ℕ} → GoodWith extra b (places_of b) → Gate (lack_tests b id long) 0 → length_of (file_bytes b id) < long → ProvidedWith extra (places_of b) b (cursor_of (places_of b) b id).tail (grow_counts b id long)
  unfolding lack_tests room_tests
  lack_provided g h lt =
      let s = gate_head 12 _ _ h in
      let t = gate_head 13 _ [] s.1 in
      room_provides b (places_of b) (cursor_of (places_of b) b id).tail (grow_counts b id long) 0 g (length_only _ _)
      (gate_passes 12 _ _ 0 (s.0 lt) (gate_passes 13 _ [] 0 (t.0 lt) gate_end)) refl

-- ---- the books afterwards

module _ (b : List ℕ) (p : Places) (id long : ℕ) (is : p ≡ places_of b) (t : List ℕ) (bytes : t ≡ table_at p b id) (n : ℕ) (has : n ≡ length_of t) where
  old : n ≡ length_of (file_bytes b id)
  old = has ∙ ap length_of bytes ∙ ap (λ (q : Places). length_of (table_at q b id)) is

  pub lengthen_not : (date : List ℕ) → long ≤ n → b ≡ grown_to b id long date
  unfolding grown_to
  lengthen_not date le = rw (le-ltb (length_of (file_bytes b id)) long (omega (arith, old)))

  pub lengthen_done : (date c b' : List ℕ) → n < long → c ≡ grow_counts b id long → b' ≡ grown p b id c long date → b' ≡ grown_to b id long date
  unfolding grown_to
  lengthen_done date c b' lt are h = rw (lt-ltb (length_of (file_bytes b id)) long (omega (arith, old))) (rw (are, is) at h)

  -- what adding its blocks asks
  pub lengthen_adds : (c : List ℕ) → GoodSome b (places_of b) → Gate (lack_tests b id long) 0 → n < long → c ≡ grow_counts b id long → ProvidedSome p b (cursor_of p b id).tail c
  lengthen_adds c g h lt are = (g.0, rw (are, is) (lack_provided b id long g.1 h (omega (arith, old))))

-- what reading the file's table and counting its blocks ask
module _ (b : List ℕ) (p : Places) (id : ℕ) (is : p ≡ places_of b) (g : GoodSome b (places_of b)) (parent : Parent (view_of (places_of b) b) id) where
  pub lengthen_parent : Parent (view_of p b) id
  lengthen_parent = rw is parent
