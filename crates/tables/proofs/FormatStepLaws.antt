-- What the writers of format leave, one after the other.
use mathlib.Core.Path.{◌≡◌, refl, sym, ap, ◌∙◌}
use Prim.Native.Nat.{ℕ, ◌+◌, ◌-◌, ◌*◌, ◌≤◌}
use native.Mathlib.Numerals.{add-one}
use native.Mathlib.Omega.{arith}
use mathlib.Core.List.{List, append-nil}
use lib.ListN.{length, replicate, length-replicate}
use lib.Seq.{drop-length}
use Rattle.field.specs.Numbers.{put_u32}
use Rattle.field.specs.Parts.{over}
use Rattle.tables.specs.declared.places.Places.{Places}
use Rattle.tables.specs.Format.{Label, Formattable, fresh_places, put_label, put_sizes, put_starts, put_status, put_system_zones, put_links, formatted}
use Rattle.tables.specs.Places.{Layout}
use Rattle.tables.proofs.PlaceLaws.{stand_layout}

-- zeros laid over all of b are zeros
pub zeros_over : (b : List ℕ) → over b 0 (replicate (length b) 0) ≡ replicate (length b) 0
unfolding over
zeros_over b =
    let e : 0 + length (replicate {A = ℕ} (length b) 0) ≡ length b = omega (arith, length-replicate {A = ℕ} (length b) 0) in
    rw e (rw drop-length (append-nil _))

-- one link more
pub links_more : (p : Places) (b : List ℕ) (k : ℕ) → put_links p b (k + 1) ≡ put_u32 (put_links p b k) (p.indextable + 128 * k + 124) (k + 2)
unfolding put_links
links_more p b k = rw (add-one k)

pub zeros_all : (b x : List ℕ) → x ≡ over b 0 (replicate (length b) 0) → x ≡ replicate (length b) 0
zeros_all b x e = e ∙ zeros_over b

pub links_none : (p : Places) (b : List ℕ) → b ≡ put_links p b 0
unfolding put_links
links_none p b = refl

pub links_turn : (p : Places) (b x y : List ℕ) (k : ℕ) → x ≡ put_links p b k → y ≡ put_u32 x (p.indextable + 128 * k + 124) (k + 2) → y ≡ put_links p b (k + 1)
links_turn p b x y k e f = f ∙ ap (λ (l : List ℕ). put_u32 l (p.indextable + 128 * k + 124) (k + 2)) e ∙ sym (links_more p b k)

pub links_end : (p : Places) (b x : List ℕ) (k last : ℕ) → x ≡ put_links p b k → k ≤ last → last ≤ k → x ≡ put_links p b last
links_end p b x k last e lo hi = e ∙ ap (put_links p b) (omega arith)

-- ---- places

pub fresh_layout : (len z n : ℕ) → len ≤ 1048576 → Formattable len z n → Layout (fresh_places z n) len
fresh_layout len z n small f = stand_layout (fresh_places z n) len f.least f.most f.some f.few small f.stand

pub layout_same : (p q : Places) (m len : ℕ) → p ≡ q → m ≡ len → Layout q len → Layout p m
layout_same p q m len e f l = rw (e, f) l

-- ---- what the writers leave, one after the other

pub tables_end : (z n : ℕ) (p : Places) (b x y : List ℕ) → p ≡ fresh_places z n → x ≡ put_system_zones p b → y ≡ put_links p x (p.indexes - 1) → y ≡ put_links (fresh_places z n) (put_system_zones (fresh_places z n) b) (n - 1)
tables_end z n p b x y e f g = g ∙ rw (f, e)

pub format_end : (z n : ℕ) (l : Label) (b w x y u : List ℕ) → w ≡ replicate (length b) 0 → x ≡ put_starts (put_sizes (put_label w l) z) z → y ≡ put_status x n l.date
    → u ≡ put_links (fresh_places z n) (put_system_zones (fresh_places z n) y) (n - 1) → u ≡ formatted (length b) z n l
unfolding formatted
format_end z n l b w x y u e f g h = h ∙ rw (g, f, e)
