-- The report: how long its lines are, and one result.
use Rattle.tables.specs.declared.refusal.Refusal.{Refusal}
use Rattle.tables.specs.Refusals.{number}
use Rattle.tables.proofs.RefusalLaws.{refused}
use mathlib.Core.Path.{◌≡◌, refl, sym, ap, ◌∙◌}
use mathlib.Core.Logic.{inl, inr, ◌≢◌}
use mathlib.Core.List.{List}
use Prim.Native.Nat.{ℕ, zero, suc, ◌+◌, ◌-◌, ◌*◌, ◌^◌, ◌≤◌, ◌<◌}
use native.Mathlib.Omega.{arith}
use lib.ListN.{length, length-append}
use Rattle.field.proofs.Sums.{sum_le}
use Rattle.field.proofs.RunLaws.{count_le}
use Rattle.tables.specs.declared.places.Places.{Places}
use Rattle.tables.specs.Places.{places_of}
use Rattle.tables.specs.Views.{View, view_of}
use Rattle.tables.specs.Open.{is_open, open_zones}
use Rattle.tables.specs.Gates.{Gate}
use Rattle.tables.specs.Books.{Good, book_tests, GoodWith}
use Rattle.tables.proofs.Sector1CountLaws.{only_le}
use Rattle.tables.proofs.GateLaws.{gate_one, good_zero}
use Rattle.requests.specs.declared.report.Figures.{Figures}
use Rattle.requests.specs.declared.text.Text.{Text}
use Rattle.requests.specs.Space.{used_sectors}
use Rattle.requests.specs.Text.{line_of}
use Rattle.requests.specs.Report.{size_lines, file_lines, state_lines, lines_of, refused_line, Small, figures_of, report_of, Reported}
use Rattle.requests.proofs.TextLaws.{line_length, decimal_few}
use Rattle.requests.proofs.RequestLaws.{good_few}

-- a line of a number below 10 ^ (k + 1)
pub line_short : (name : List ℕ) (k n : ℕ) → n < 10 ^ (k + 1) → length (line_of name n) ≤ length name + k + 2
line_short name k n h = omega (arith, line_length name n, decimal_few k n h)

-- a line of a small figure: of six digits at most, of four, of three
pub line_few : (name : List ℕ) (n : ℕ) → n < 1000000 → length (line_of name n) ≤ length name + 7
line_few name n h = omega (arith, line_short name 5 n h)

line_four : (name : List ℕ) (n : ℕ) → n < 10000 → length (line_of name n) ≤ length name + 5
line_four name n h = omega (arith, line_short name 3 n h)

line_three : (name : List ℕ) (n : ℕ) → n < 1000 → length (line_of name n) ≤ length name + 4
line_three name n h = omega (arith, line_short name 2 n h)

-- no report is longer
pub lines_short : (f : Figures) → Small f → length (lines_of f) ≤ 148
unfolding lines_of size_lines file_lines state_lines
lines_short f s = grind (arith, length-append, line_few, line_four, line_three)

pub refused_short : (n : ℕ) → n < 4294967296 → length (refused_line n) ≤ 19
unfolding refused_line
refused_short n h = line_short _ 9 n (omega arith)

-- ---- the figures of lawful books are small

open_few : (v : View) → open_zones v ≤ v.zones - 2
unfolding open_zones
open_few v = sum_le (v.zones - 2) _ (λ k l. only_le (is_open (v.zone (k + 2))) 1)

pub good_small : (b : List ℕ) (p : Places) (f : Figures) {extra : ℕ → ℕ} → GoodWith extra b p → f ≡ figures_of p b → Small f
unfolding used_sectors
good_small b p f g e =
    let v : View = view_of p b in
    let few = good_few b p g in
    let l = g.layout in
    rw e (record {
      zones = l.most;
      sectors = omega (arith, l.most);
      used = omega (arith, l.most, count_le b p.sectortable 0 (1024 * p.zones));
      indexes = l.few;
      free = few.free;
      active = few.active;
      deleted = few.deleted;
      system = few.system;
      directory = few.directory;
      openzones = omega (arith, l.most, open_few v);
      mounted = g.lawful.r9.flag;
    })

-- ---- the report's two ways out, and one result

-- the books' own numbers
pub books_few : (b withheld : List ℕ) (n : ℕ) → Gate (book_tests b withheld) n → n ≤ 7
unfolding Gate
books_few b withheld n (inr h) = omega (arith, h.1)
books_few b withheld n (inl (_, inr h)) = omega (arith, h.1)
books_few b withheld n (inl (_, inl (_, inr h))) = omega (arith, h.1)
books_few b withheld n (inl (_, inl (_, inl (_, inr h)))) = omega (arith, h.1)
books_few b withheld n (inl (_, inl (_, inl (_, inl (_, inr h))))) = omega (arith, h.1)
books_few b withheld n (inl (_, inl (_, inl (_, inl (_, inl (_, h)))))) = omega arith

pub report_refused : (b withheld : List ℕ) (why : Refusal) (t : Text) → Gate (book_tests b withheld) (number why) → t ≡ refused_line (number why) → Reported b withheld t
report_refused b withheld why t = go (number why) (refused why)
  where
    go : (n : ℕ) → n ≢ 0 → Gate (book_tests b withheld) n → t ≡ refused_line n → Reported b withheld t
    go zero ne h e = absurd (ne refl)
    go (suc k) ne h e = record { number = suc k; gate = h; text = e; short = omega (arith, refused_short (suc k) (omega (arith, books_few b withheld (suc k) h))) }

pub report_fine : (b withheld : List ℕ) (p : Places) (f : Figures) (t : Text) → Good b withheld p → f ≡ figures_of p b → t ≡ lines_of f → Reported b withheld t
report_fine b withheld p f t g q e =
    let same : lines_of f ≡ lines_of (figures_of (places_of b) b) = ap lines_of (q ∙ ap (λ (x : Places). figures_of x b) g.books.places) in
    record { number = 0; gate = good_zero b withheld p g; text = e ∙ same; short = omega (arith, ap length same, lines_short f (good_small b p f g.books q)) }

pub reported_one : (b withheld : List ℕ) (t u : Text) → Reported b withheld t → Reported b withheld u → t ≡ u
reported_one b withheld t u h k = h.text ∙ ap (λ (n : ℕ). report_of n b) (gate_one (book_tests b withheld) h.number k.number h.gate k.gate) ∙ sym k.text
