-- A header placed keeps the rules; of the index tables it changes one pointer, and files stay at their places.
use mathlib.Core.Path.{◌≡◌, refl, sym, ap, ◌∙◌}
use mathlib.Core.Logic.{◌≢◌, inl, inr}
use mathlib.Core.List.{List}
use Prim.Native.Nat.{ℕ, ◌+◌, ◌≤◌, ◌<◌}
use native.Mathlib.Decide.{dec_lt}
use native.Mathlib.Omega.{arith}
use lib.ListN.{get_or, length}
use Rattle.field.specs.Kept.{Kept}
use Rattle.tables.specs.declared.places.Places.{Places}
use Rattle.tables.specs.Books.{GoodWith}
use Rattle.tables.specs.Indexes.{table_at, header_start, header_count}
use Rattle.tables.specs.Lawful.{LawfulWith}
use Rattle.tables.specs.Places.{Layout}
use Rattle.tables.specs.Views.{view_of, Parent, cov}
use Rattle.tables.specs.Withheld.{KeepsTypes}
use Rattle.tables.proofs.IndexLaws.{length_table}
use Rattle.tables.proofs.PointerLaws.{cov_none}
use Rattle.tables.proofs.WithheldLaws.{keeps_trans}
use Rattle.allocation.specs.Headers.{header_place, run_start}
use Rattle.allocation.specs.Held.{Held}
use Rattle.allocation.specs.Lengthened.{Quiet}
use Rattle.allocation.specs.Steps.{with_pointer}
use Rattle.allocation.proofs.HeldLawful.{all_R6, all_R8, quiet_R1, quiet_good, quiet_trans}
use Rattle.allocation.proofs.PointerBytes.{word_kept, kept_pointer, pointer_start, pointer_count}
use Rattle.files.specs.Headers.{pointed_at, headed}
use Rattle.files.specs.Unchanged.{Untouched, SamePlaces}
use Rattle.files.proofs.FreeRunLaws.{run_none, run_rules, run_types, run_table, run_low, run_still}
use Rattle.files.proofs.HeadedLaws.{new_header, pointed_quiet, pointed_low, pointed_layout, pointed_here, pointed_there, pointed_held, pointed_types, old_run}
use Rattle.files.proofs.RecountRules.{Rules}
use Rattle.files.proofs.UntouchedLaws.{restated_untouched, restated_places}

module _ (p : Places) (b : List ℕ) (lay : Layout p (length b)) {extra : ℕ → ℕ} (lawful : LawfulWith extra p b) (f : ℕ) (parent : Parent (view_of p b) f)
    (n : ℕ) (some : 1 ≤ n) (few : n ≤ 32) (high : (header_place (view_of p b) n).zone.0 < p.zones) where
  abbrev pointed : List ℕ
  pointed = pointed_at p b f n (header_place (view_of p b) n)

  -- the old header
  abbrev a : ℕ
  a = header_start (table_at p b f)

  abbrev c : ℕ
  c = header_count (table_at p b f)

  held : Held (view_of p pointed) 0 (λ s. extra s + cov a c s)
  held = pointed_held p b lay lawful f parent n some few high

  pointed_lay : Layout p (length pointed)
  pointed_lay = pointed_layout p b lay lawful f parent n some few high

  -- where there was none, nothing is given back
  headed_none : c ≡ 0 → headed p b f n ≡ pointed
  unfolding headed
  headed_none e = sym (run_none p pointed a c e)

  none_rules : c ≡ 0 → Rules extra (view_of p pointed)
  none_rules e = record {
    r2 = held.r2;
    r3 = held.r3;
    r4 = held.r4;
    r5 = held.r5;
    r6 = all_R6 (view_of p pointed) held;
    r7 = record { count = λ s l lo. (let none : cov a c s ≡ 0 = ap (λ (m : ℕ). cov a m s) e ∙ cov_none a s in omega (arith, held.r7.count s l lo)) };
    r8 = all_R8 (view_of p pointed) held;
    r9 = held.r9;
  }

  some_rules : 0 < c → Rules extra (view_of p (headed p b f n))
  unfolding headed
  some_rules h = run_rules p pointed pointed_lay a c extra held (old_run p b lay lawful f parent n some few high h)

  rules : Rules extra (view_of p (headed p b f n))
  rules = elim (dec_lt 0 c) [ yes h ↦ some_rules h | no h ↦ (let e : c ≡ 0 = omega arith in rw (headed_none e) (none_rules e)) ]

  -- ---- what stays

  some_still : 0 < c → Quiet p pointed (headed p b f n)
  unfolding headed
  some_still h = run_still p pointed pointed_lay a c extra held (old_run p b lay lawful f parent n some few high h)

  pub headed_quiet : Quiet p b (headed p b f n)
  headed_quiet =
      let quiet = pointed_quiet p b lay lawful f parent n some few high in
      elim (dec_lt 0 c) [ yes h ↦ quiet_trans quiet (some_still h) | no h ↦ (let e : c ≡ 0 = omega arith in rw (headed_none e) quiet) ]

  some_low : 0 < c → (j : ℕ) → j < 2048 → get_or (headed p b f n) j 0 ≡ get_or pointed j 0
  unfolding headed
  some_low h = run_low p pointed pointed_lay a c extra held (old_run p b lay lawful f parent n some few high h)

  -- sectors 0 and 1
  pub headed_low : (j : ℕ) → j < 2048 → get_or (headed p b f n) j 0 ≡ get_or b j 0
  headed_low j l =
      elim (dec_lt 0 c) [ yes h ↦ some_low h j l | no h ↦ (let e : c ≡ 0 = omega arith in ap (λ (x : List ℕ). get_or x j 0) (headed_none e)) ]
      ∙ pointed_low p b lay lawful f parent n some few high j l

  some_table : 0 < c → (j : ℕ) → 1 ≤ j → j ≤ p.indexes → table_at p (headed p b f n) j ≡ table_at p pointed j
  unfolding headed
  some_table h = run_table p pointed pointed_lay a c extra held (old_run p b lay lawful f parent n some few high h)

  same_table : (j : ℕ) → 1 ≤ j → j ≤ p.indexes → table_at p (headed p b f n) j ≡ table_at p pointed j
  same_table j lo hi = elim (dec_lt 0 c) [ yes h ↦ some_table h j lo hi | no h ↦ (let e : c ≡ 0 = omega arith in ap (λ (x : List ℕ). table_at p x j) (headed_none e)) ]

  pub headed_table : table_at p (headed p b f n) f ≡ with_pointer (table_at p b f) 58 (new_header p b n)
  headed_table = same_table f parent.low parent.high ∙ pointed_here p b lay lawful f parent n some few high

  pub headed_others : (j : ℕ) → 1 ≤ j → j ≤ p.indexes → j ≢ f → table_at p (headed p b f n) j ≡ table_at p b j
  headed_others j lo hi ne = same_table j lo hi ∙ pointed_there p b lay lawful f parent n some few high j lo hi ne

  -- ---- the rules

  pub headed_lawful : LawfulWith extra p (headed p b f n)
  headed_lawful =
      let r = rules in
      record {
        r1 = quiet_R1 p b (headed p b f n) headed_quiet lawful.r1;
        r2 = r.r2;
        r3 = r.r3;
        r4 = r.r4;
        r5 = r.r5;
        r6 = r.r6;
        r7 = r.r7;
        r8 = r.r8;
        r9 = r.r9;
      }

  some_types : 0 < c → KeepsTypes extra (view_of p pointed) (view_of p (headed p b f n))
  unfolding headed
  some_types h = run_types p pointed pointed_lay a c extra held (old_run p b lay lawful f parent n some few high h)

  -- zones with sectors that are set besides keep their types
  pub headed_types : KeepsTypes extra (view_of p b) (view_of p (headed p b f n))
  headed_types =
      let types = pointed_types p b lay lawful f parent n some few high in
      elim (dec_lt 0 c) [
        | yes h ↦ keeps_trans extra (view_of p b) (view_of p pointed) (view_of p (headed p b f n)) refl types (some_types h)
        | no h ↦ (let e : c ≡ 0 = omega arith in rw (headed_none e) types)
      ]

  -- ---- the file itself

  sized : length (table_at p b f) ≡ 128
  sized = length_table p b f lay parent.low parent.high

  pub headed_start : header_start (table_at p (headed p b f n) f) ≡ run_start (header_place (view_of p b) n)
  headed_start = ap header_start headed_table ∙ pointer_start (table_at p b f) 58 (new_header p b n) sized (omega arith)

  pub headed_count : header_count (table_at p (headed p b f n) f) ≡ n
  headed_count = ap header_count headed_table ∙ pointer_count (table_at p b f) 58 (new_header p b n) sized (omega arith)

  kept : Kept (table_at p b f) (table_at p (headed p b f n) f) 58 6
  kept = rw headed_table (kept_pointer (table_at p b f) 58 (new_header p b n))

  pub headed_parent : Parent (view_of p (headed p b f n)) f
  headed_parent = record { low = parent.low; high = parent.high; word = word_kept f kept (omega arith) ∙ parent.word }

  pub headed_untouched : Untouched (view_of p b) (view_of p (headed p b f n)) f
  headed_untouched =
      restated_untouched p b lay lawful (headed p b f n) f parent headed_others (λ o l. kept.out o (inl (omega arith))) (λ o l. kept.out o (inr (omega arith)))

  pub headed_places : SamePlaces (view_of p b) (view_of p (headed p b f n)) f
  headed_places =
      restated_places p b lay lawful (headed p b f n) f parent headed_others (λ o l. kept.out o (inl (omega arith))) (λ o l. kept.out o (inr (omega arith)))

pub headed_good : (p : Places) (b : List ℕ) {extra : ℕ → ℕ} → GoodWith extra b p → (f : ℕ) → Parent (view_of p b) f → (n : ℕ) → 1 ≤ n → n ≤ 32 → (header_place (view_of p b) n).zone.0 < p.zones
    → GoodWith extra (headed p b f n) p
headed_good p b good f parent n some few high =
    quiet_good b (headed p b f n) p good (headed_quiet p b good.layout good.lawful f parent n some few high) (headed_lawful p b good.layout good.lawful f parent n some few high)
