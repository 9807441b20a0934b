-- Format: what its tests know at each way out, that its promise has one outcome, and that fresh books are good.
use Rattle.std.specs.Prelude.{Option, Some, None}
use mathlib.Core.Path.{◌≡◌, refl, sym}
use mathlib.Core.Logic.{inl, inr}
use mathlib.Core.Bool.{Bool, not, true, false}
use mathlib.Core.List.{List, []}
use Prim.Native.Nat.{ℕ, ◌≤◌}
use native.Mathlib.Omega.{arith}
use lib.ListN.{length}
use Rattle.field.specs.Says.{Says}
use Rattle.field.proofs.Tests.{passed, refused}
use Rattle.tables.specs.Gates.{Gate}
use Rattle.tables.specs.Books.{Sized, Good, GoodWith}
use Rattle.tables.specs.Rules.R7.{nothing}
use Rattle.tables.specs.Views.{view_of}
use Rattle.tables.specs.Format.{Label, Formattable, Writable, fresh_places, formatted}
use Rattle.tables.proofs.GateLaws.{gate_one, gate_head}
use Rattle.tables.proofs.PlaceLaws.{stand_layout}
use Rattle.tables.proofs.WithheldLaws.{good_same, none_withheld, none_list}
use Rattle.tables.proofs.FormatLaws.{format_length, format_marked, format_places, format_placed, format_lawful}
use Rattle.requests.specs.Format.{Fits, format_tests, Formatted}
use Rattle.requests.specs.Amounts.{amount_value}
use Rattle.requests.proofs.RequestLaws.{after_one}

-- ---- Z and N

pub fits_sizes : (len : ℕ) (z n : Option ℕ) → Fits len z n → Formattable len (amount_value z) (amount_value n)
fits_sizes len (Some z) (Some n) h = h
fits_sizes len (Some z) None h = absurd h
fits_sizes len None n h = absurd h

-- ---- texts and date

-- ---- the number

module _ (b : List ℕ) (z n : Option ℕ) (label : Label) where
  module _ (r : Bool) (s : Says r (Sized b)) where
    pub number_sized : not r ≡ true → Gate (format_tests b z n label) 1
    unfolding Gate
    number_sized e = inr (refused r s e, refl, λ h. omega arith)

    module _ (pass : not r ≡ false) (q : Bool) (t : Says q (Fits (length b) z n)) where
      pub number_fits : not q ≡ true → Gate (format_tests b z n label) 3
      unfolding Gate
      number_fits e = inl (passed r s pass, inr (refused q t e, refl, λ h. omega arith))

      module _ (pass' : not q ≡ false) (v : Bool) (u : Says v (Writable label)) where
        pub number_texts : not v ≡ true → Gate (format_tests b z n label) 7
        unfolding Gate
        number_texts e = inl (passed r s pass, inl (passed q t pass', inr (refused v u e, refl, λ h. omega arith)))

        pub number_none : not v ≡ false → Gate (format_tests b z n label) 0
        unfolding Gate
        number_none e = inl (passed r s pass, inl (passed q t pass', inl (passed v u e, refl)))

-- ---- the request

-- number 0: all that the writing asks
zero_passes : (b : List ℕ) (z n : Option ℕ) (l : Label) (r : ℕ) → Gate (format_tests b z n l) r → r ≡ 0 → Sized b × (Fits (length b) z n × Writable l)
zero_passes b z n l r g e =
    let s = gate_head 1 (Sized b) _ (rw e at g) in
    let f = gate_head 3 (Fits (length b) z n) _ s.1 in
    (s.0, (f.0, (gate_head 7 (Writable l) _ f.1).0))

pub format_asks : (b : List ℕ) (z n : Option ℕ) (l : Label) (r x y : ℕ) → Gate (format_tests b z n l) r → r ≡ 0 → x ≡ amount_value z → y ≡ amount_value n
    → Formattable (length b) x y × (((5120 ≤ length b) × (length b ≤ 1048576)) × Writable l)
format_asks b z n l r x y g e d f =
    let a = zero_passes b z n l r g e in
    (rw (d, f) (fits_sizes (length b) z n a.1.0), ((a.0.least, a.0.most), a.1.1))

-- ---- what the promise is worth

pub formatted_one : {b : List ℕ} {z n : Option ℕ} {l : Label} {r s : ℕ} {x y : List ℕ} → Formatted b z n l r x → Formatted b z n l s y → (r ≡ s) × (x ≡ y)
formatted_one {b} {z} {n} {l} {r} {s} {x} {y} f g =
    let e = gate_one (format_tests b z n l) r s f.number g.number in
    (e, after_one r s x y _ b e f.books g.books)

-- books of an allowed size, formatted as is allowed
fresh_good : (b : List ℕ) (z n : ℕ) (l : Label) → Sized b → Formattable (length b) z n → Writable l → GoodWith nothing (formatted (length b) z n l) (fresh_places z n)
fresh_good b z n l s f w =
    let len = format_length (length b) z n l s.least f w in
    record {
      places = sym (format_places (length b) z n l s.least f w);
      sized = record { whole = rw len s.whole; least = rw len s.least; most = rw len s.most };
      marked = format_marked (length b) z n l s.least f w;
      placed = format_placed (length b) z n l s.least f w;
      layout = rw len (stand_layout (fresh_places z n) (length b) f.least f.most f.some f.few s.most f.stand);
      lawful = format_lawful (length b) z n l s.least s.most f w;
    }

pub formatted_good : (b : List ℕ) (z n : Option ℕ) (l : Label) (b' : List ℕ) → Formatted b z n l 0 b' → Good b' [] (fresh_places (amount_value z) (amount_value n))
formatted_good b z n l b' f =
    let a = zero_passes b z n l 0 f.number refl in
    let p = fresh_places (amount_value z) (amount_value n) in
    let good = fresh_good b (amount_value z) (amount_value n) l a.0 (fits_sizes (length b) z n a.1.0) a.1.1 in
    rw f.books (record { list = none_list (view_of p _); books = good_same _ p (none_withheld (view_of p _)) good })
