-- A header placed in the books: the run taken, then pointed at, and what the code asks on the way.
use mathlib.Core.Path.{◌≡◌, refl, ap, ◌∙◌, subst}
use mathlib.Core.Logic.{◌≢◌, inl}
use mathlib.Core.List.{List}
use Prim.Native.Nat.{ℕ, ◌+◌, ◌≤◌, ◌<◌}
use native.Mathlib.Omega.{arith}
use lib.ListN.{get_or, length}
use Rattle.tables.specs.declared.index.Pointer.{Pointer}
use Rattle.tables.specs.declared.kinds.Sector.{Sector}
use Rattle.tables.specs.declared.places.Places.{Places}
use Rattle.tables.specs.Indexes.{table_at, word_of, put_pointer, pointer_at, header_start, header_count}
use Rattle.tables.specs.Lawful.{LawfulWith}
use Rattle.tables.specs.Places.{Layout}
use Rattle.tables.specs.Views.{view_of, Parent, cov}
use Rattle.tables.specs.Withheld.{KeepsTypes}
use Rattle.tables.specs.Rules.R6.{HeaderRun}
use Rattle.tables.proofs.IndexLaws.{length_table}
use Rattle.tables.proofs.WithheldLaws.{keeps_same, keeps_trans}
use Rattle.allocation.specs.declared.choice.Found.{Found}
use Rattle.allocation.specs.Headers.{header_place, run_start, put_run}
use Rattle.allocation.specs.Held.{Held}
use Rattle.allocation.specs.Lengthened.{Quiet}
use Rattle.allocation.specs.Steps.{Written, with_pointer}
use Rattle.allocation.proofs.ChangeLaws.{header_zones}
use Rattle.allocation.proofs.GrownLawful.{rules_held}
use Rattle.allocation.proofs.HeaderHeld.{header_written_held}
use Rattle.allocation.proofs.HeldLawful.{quiet_trans, calm_quiet}
use Rattle.allocation.proofs.RunTakenLaws.{RunFree, header_free, run_proper, length_put_run, run_taken, run_sector0, run_files, run_quiet, run_header, put_run_held, put_run_keeps}
use Rattle.allocation.proofs.StepLaws.{kept_pointer, pointer_still, pointer_written}
use Rattle.files.specs.Asked.{Recountable}
use Rattle.files.specs.Headers.{pointed_at, free_run, headed}
use Rattle.files.proofs.FreeRunLaws.{run_countable}

-- the new header pointer
abbrev pub new_header : Places → List ℕ → ℕ → Pointer
new_header p b n = record { start = record { 0 = run_start (header_place (view_of p b) n) }; count = n }

module _ (p : Places) (b : List ℕ) (lay : Layout p (length b)) {extra : ℕ → ℕ} (lawful : LawfulWith extra p b) (f : ℕ) (parent : Parent (view_of p b) f)
    (n : ℕ) (some : 1 ≤ n) (few : n ≤ 32) (high : (header_place (view_of p b) n).zone.0 < p.zones) where
  abbrev place : Found
  place = header_place (view_of p b) n

  abbrev new : Pointer
  new = new_header p b n

  -- the parent's bytes
  abbrev t : List ℕ
  t = table_at p b f

  -- ---- the run is taken

  new_free : RunFree (view_of p b) n (header_place (view_of p b) n)
  new_free = header_free (view_of p b) n lawful.r2 lawful.r3 few high

  abbrev taken : List ℕ
  taken = put_run p b n (header_place (view_of p b) n)

  taken_layout : Layout p (length taken)
  taken_layout = rw (length_put_run p b n place) lay

  taken_table : (j : ℕ) → 1 ≤ j → j ≤ p.indexes → table_at p taken j ≡ table_at p b j
  taken_table = (run_files p b n place lay new_free).table

  taken_held : Held (view_of p taken) 0 (λ s. extra s + cov (run_start place) n s)
  taken_held = put_run_held p b n place lay new_free (rules_held p b 0 lawful)

  taken_run : HeaderRun (view_of p taken) (run_start place) n
  taken_run = run_header (view_of p b) (view_of p taken) n place new_free (run_taken p b n place lay new_free) some few

  own : table_at p taken f ≡ table_at p b f
  own = taken_table f parent.low parent.high

  taken_parent : Parent (view_of p taken) f
  taken_parent = record { low = parent.low; high = parent.high; word = ap word_of own ∙ parent.word }

  -- ---- the header pointer names it

  abbrev pointed : List ℕ
  pointed = pointed_at p b f n (header_place (view_of p b) n)

  written : Written (view_of p taken) (view_of p pointed) f 58 new
  unfolding pointed_at
  written = pointer_written p taken f 58 new taken_layout parent.low parent.high (omega arith)

  pub pointed_quiet : Quiet p b (pointed_at p b f n (header_place (view_of p b) n))
  unfolding pointed_at
  pointed_quiet = quiet_trans (run_quiet p b n place lay new_free) (calm_quiet (pointer_still p taken f 58 new taken_layout parent.low parent.high (omega arith)).calm)

  pub pointed_low : (j : ℕ) → j < 2048 → get_or (pointed_at p b f n (header_place (view_of p b) n)) j 0 ≡ get_or b j 0
  unfolding pointed_at
  pointed_low j l = (kept_pointer p taken f 58 new (omega arith)).out j (inl (omega arith)) ∙ run_sector0 p b n place lay new_free j l

  pub pointed_layout : Layout p (length (pointed_at p b f n (header_place (view_of p b) n)))
  pointed_layout = rw pointed_quiet.len lay

  pub pointed_here : table_at p (pointed_at p b f n (header_place (view_of p b) n)) f ≡ with_pointer (table_at p b f) 58 (new_header p b n)
  pointed_here = written.here ∙ ap (λ (x : List ℕ). with_pointer x 58 new) own

  pub pointed_there : (j : ℕ) → 1 ≤ j → j ≤ p.indexes → j ≢ f → table_at p (pointed_at p b f n (header_place (view_of p b) n)) j ≡ table_at p b j
  pointed_there j lo hi ne = written.there j lo hi ne ∙ taken_table j lo hi

  -- the rules hold, with the old header's run set besides
  pub pointed_held : Held (view_of p (pointed_at p b f n (header_place (view_of p b) n))) 0 (λ s. extra s + cov (header_start (table_at p b f)) (header_count (table_at p b f)) s)
  pointed_held =
      subst (λ (x : List ℕ). Held (view_of p pointed) 0 (λ s. extra s + cov (header_start x) (header_count x) s)) own
      (header_written_held (view_of p taken) (view_of p pointed) f new written lay.few taken_parent (length_table p taken f taken_layout parent.low parent.high) taken_run extra taken_held)

  pub pointed_types : KeepsTypes extra (view_of p b) (view_of p (pointed_at p b f n (header_place (view_of p b) n)))
  pointed_types =
      keeps_trans extra (view_of p b) (view_of p taken) (view_of p pointed) refl (put_run_keeps p b n place lay new_free (rules_held p b 0 lawful))
      (keeps_same extra (view_of p taken) (view_of p pointed) written.ground.zone)

  -- ---- the old header

  old_taken : 0 < header_count (table_at p taken f) → HeaderRun (view_of p taken) (header_start (table_at p taken f)) (header_count (table_at p taken f))
  old_taken h = ((taken_held.r6 f (omega (arith, parent.high)) parent.low).header taken_parent.word).run (omega arith)

  pub old_run : 0 < header_count (table_at p b f) → HeaderRun (view_of p (pointed_at p b f n (header_place (view_of p b) n))) (header_start (table_at p b f)) (header_count (table_at p b f))
  old_run h = header_zones (view_of p taken) (view_of p pointed) written.ground.zones written.ground.zone _ _ ((rw own at old_taken) h)

  pub old_countable : 0 < header_count (table_at p b f) → Recountable (view_of p (pointed_at p b f n (header_place (view_of p b) n))) (header_start (table_at p b f)) (header_count (table_at p b f))
  old_countable h = run_countable p pointed pointed_layout (header_start t) (header_count t) extra pointed_held (old_run h)

-- ---- the code's ways

module _ (p : Places) (b : List ℕ) (lay : Layout p (length b)) {extra : ℕ → ℕ} (lawful : LawfulWith extra p b) (f : ℕ) (parent : Parent (view_of p b) f)
    (n : ℕ) (some : 1 ≤ n) (few : n ≤ 32) (k : Found) (is : k ≡ header_place (view_of p b) n) (below : k.zone.0 < p.zones) where
  below' : (header_place (view_of p b) n).zone.0 < p.zones
  below' = rw is at below

  pub head_proper : (2 ≤ k.zone.0) × (k.zone.0 < p.zones) × (k.number + n ≤ 1024) × (k.free < 65536)
  head_proper = rw is (run_proper (view_of p b) n (header_place (view_of p b) n) (new_free p b lay lawful f parent n some few below'))

  module _ (x y t : List ℕ) (at : Sector) (old : Pointer) (et : t ≡ table_at p b f) (eo : old ≡ pointer_at t 58) (ex : x ≡ put_run p b n k) (ea : at.0 ≡ run_start k)
      (ey : y ≡ put_pointer p x f 58 (record { start = at; count = n })) where
    pointed_is : y ≡ pointed_at p b f n (header_place (view_of p b) n)
    unfolding pointed_at put_pointer
    pointed_is = ey ∙ rw (ex, ea, is)

    old_is : (old.start.0 ≡ header_start (table_at p b f)) × (old.count ≡ header_count (table_at p b f))
    old_is = rw (eo, et) (refl, refl)

    pub head_countable : 0 < old.count → Recountable (view_of p y) old.start.0 old.count
    head_countable = rw (pointed_is, old_is.0, old_is.1) (old_countable p b lay lawful f parent n some few below')

    pub head_done : (z : List ℕ) → z ≡ free_run p y old.start.0 old.count → z ≡ headed p b f n
    unfolding headed
    head_done z e = e ∙ rw (pointed_is, old_is.0, old_is.1)
