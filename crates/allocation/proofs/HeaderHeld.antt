-- A header pointer is written: the rules hold as before, the new run is under it, and what lay under the old one is set besides.
use mathlib.Core.Path.{◌≡◌, ap₂, ◌∙◌}
use mathlib.Core.Logic.{inl}
use mathlib.Core.List.{List}
use Prim.Native.Nat.{ℕ, ◌+◌, ◌≤◌}
use native.Mathlib.Omega.{arith}
use lib.ListN.{length}
use Rattle.field.specs.Kept.{Kept}
use Rattle.field.proofs.Frames.{kept_wider}
use Rattle.field.proofs.NumberLaws.{u16_kept}
use Rattle.tables.specs.declared.index.Pointer.{Pointer}
use Rattle.tables.specs.Indexes.{Used, header_start, header_count}
use Rattle.tables.specs.Views.{View, Parent, cov, header_over}
use Rattle.tables.specs.Rules.R6.{HeaderRun, HeaderLaw}
use Rattle.tables.specs.Rules.R8.{file_type, File}
use Rattle.tables.specs.Rules.R9.{R9}
use Rattle.tables.proofs.PointerLaws.{header_over_lem}
use Rattle.allocation.specs.Steps.{Written}
use Rattle.allocation.specs.Held.{Held}
use Rattle.allocation.proofs.PointerBytes.{word_kept, kept_pointer, pointer_start, pointer_count}
use Rattle.allocation.proofs.ChangeLaws.{header_zones, stay_R9}
use Rattle.allocation.proofs.MadeHeld.{lawful_held}
use Rattle.allocation.proofs.HeldLawful.{all_R6, all_R8, held_R6, held_R8, in_one, table_fields, fields_front, fields_file}
use Rattle.allocation.proofs.FrontLaws.{Fronted, fronted_parent, fronted_change, fronted_used, fronted_sectors, fronted_held, fronted_types}

-- no file is left out, or file f is
held_but : (v : View) (f : ℕ) {d : ℕ → ℕ} → Held v 0 d → Held v f d
held_but v f h = lawful_held v f h.r2 h.r3 h.r4 h.r5 (all_R6 v h) h.r7 (all_R8 v h) h.r9

module _ (v v' : View) (f : ℕ) (q : Pointer) (w : Written v v' f 58 q) (few : v.indexes ≤ 4096) (parent : Parent v f) (long : length (v.table f) ≡ 128) where
  abbrev t : List ℕ
  t = v.table f

  abbrev t' : List ℕ
  t' = v'.table f

  kept : Kept t t' 58 6
  kept = rw w.here (kept_pointer t 58 q)

  -- what is written stands before the pointers
  pub header_fronted : Fronted v v' f
  header_fronted = record { ground = w.ground; indexes = w.indexes; head = w.head; here = kept_wider kept (omega arith) (omega arith); there = w.there }

  -- ---- the header pointer

  pub written_start : header_start t' ≡ q.start.0
  written_start = rw w.here (pointer_start t 58 q long (omega arith))

  pub written_count : header_count t' ≡ q.count
  written_count = rw w.here (pointer_count t 58 q long (omega arith))

  -- what it claims now, and what it claimed
  new_over : (s : ℕ) → header_over f t' s ≡ cov q.start.0 q.count s
  new_over s = header_over_lem f t' s (word_kept f kept (omega arith) ∙ parent.word) ∙ ap₂ (λ (a c : ℕ). cov a c s) written_start written_count

  old_over : (s : ℕ) → header_over f t s ≡ cov (header_start t) (header_count t) s
  old_over s = header_over_lem f t s parent.word

  module _ (run : HeaderRun v q.start.0 q.count) (d : ℕ → ℕ) (h : Held v 0 (λ s. d s + cov q.start.0 q.count s)) where
    new_header_lem : HeaderLaw v' t'
    new_header_lem = record { run = λ u. rw (written_start, written_count) (header_zones v v' w.ground.zones w.ground.zone _ _ run) }

    -- ---- the rules but those of the file's own parent

    was : Held v f (λ s. d s + cov q.start.0 q.count s)
    was = held_but v f h

    r9 : R9 v'
    r9 = stay_R9 v v' f f (fronted_change v v' f header_fronted few parent) (word_kept f kept (omega arith)) (λ e. u16_kept 44 kept (inl (omega arith))) w.counts w.free h.r9

    now : Held v' f (λ s. d s + cov (header_start t) (header_count t) s)
    now = fronted_held v v' f header_fronted few parent was (λ s. d s + cov (header_start t) (header_count t) s) new_header_lem (λ s. omega (arith, new_over s, old_over s)) r9

    -- ---- its own

    used : Used f t' 0
    used = fronted_used v v' f header_fronted few parent ((all_R6 v h f (omega (arith, parent.high)) parent.low).one parent.word)

    file : File v' f t'
    file =
        let o = all_R8 v h f (omega (arith, parent.high)) parent.low parent.word in
        let fields = fields_front {t = t} {t' = t'} (kept.len ∙ long) (λ o l. kept.out o (inl (omega arith))) (table_fields t long) in
        fields_file v' f t' _ _ _ _ _ fields o.name o.created o.changed o.least (rw (fronted_sectors v v' f header_fronted few parent) o.most) o.fixed
        (λ e. in_one v' f now (fronted_parent v v' f header_fronted parent) used (file_type v f) (fronted_types v v' f header_fronted few parent was (file_type v f) (o.variable e)))
        o.weights o.both

    pub header_written_held : Held v' 0 (λ s. d s + cov (header_start (v.table f)) (header_count (v.table f)) s)
    header_written_held = lawful_held v' 0 now.r2 now.r3 now.r4 now.r5 (held_R6 v' f now (λ b. used)) now.r7 (held_R8 v' f now (λ e. file)) r9
