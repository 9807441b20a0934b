-- An actual delete keeps the rules.
use mathlib.Core.Path.{◌≡◌, refl}
use mathlib.Core.List.{List}
use Prim.Native.Nat.{ℕ}
use lib.ListN.{length}
use Rattle.field.proofs.BitLaws.{bit_at_lt}
use Rattle.tables.specs.declared.places.Places.{Places}
use Rattle.tables.specs.Indexes.{table_at, attribute_of, deleted_bit}
use Rattle.tables.specs.Places.{Layout}
use Rattle.tables.specs.Lawful.{LawfulWith}
use Rattle.tables.specs.Views.{view_of, Parent}
use Rattle.tables.specs.Withheld.{KeepsTypes}
use Rattle.tables.proofs.WithheldLaws.{keeps_same, keeps_trans}
use Rattle.allocation.specs.Lengthened.{Quiet}
use Rattle.allocation.proofs.HeldLawful.{quiet_R1, quiet_trans}
use Rattle.files.specs.Release.{freed_file, freed_blocks, released}
use Rattle.files.specs.Freed.{AllShort, Uncounted}
use Rattle.files.proofs.FreedView.{freed_view, freed_quiet}
use Rattle.files.proofs.FreedRules.{freed_rules}
use Rattle.files.proofs.RecountView.{recount_view, recount_quiet}
use Rattle.files.proofs.RecountRules.{Rules, recounted_rules, recounted_keeps}

module _ (p : Places) (b : List ℕ) (lay : Layout p (length b)) {extra : ℕ → ℕ} (lawful : LawfulWith extra p b) (f : ℕ) (parent : Parent (view_of p b) f)
    (gone : deleted_bit (attribute_of (table_at p b f)) ≡ 1) (date : List ℕ) (six : length date ≡ 6) where
  freed_quietly : Quiet p b (freed_file p b f date)
  freed_quietly = freed_quiet p b lay lawful f parent date six

  freed_layout : Layout p (length (freed_file p b f date))
  freed_layout = rw freed_quietly.len lay

  uncounted : Uncounted extra (view_of p (freed_file p b f date)) (freed_blocks (view_of p b) f)
  uncounted =
      let l = lawful in
      freed_rules (view_of p b) (view_of p (freed_file p b f date)) f lay.few (bit_at_lt b p.sectortable)
      l.r2 l.r3 l.r4 l.r5 l.r6 l.r7 l.r8 l.r9 parent gone (freed_view p b lay lawful f parent date six)

  pub freed_short : AllShort (view_of p (freed_file p b f date)) (freed_blocks (view_of p b) f)
  freed_short = uncounted.short

  pub released_quiet : Quiet p b (released p b f date)
  unfolding released
  released_quiet = quiet_trans freed_quietly (recount_quiet p (freed_file p b f date) freed_layout (freed_blocks (view_of p b) f))

  rules : Rules extra (view_of p (released p b f date))
  unfolding released
  rules =
      let b' = freed_file p b f date in
      recounted_rules (view_of p b') (view_of p (released p b f date)) (freed_blocks (view_of p b) f) (bit_at_lt b' p.sectortable) uncounted (recount_view p b' freed_layout (freed_blocks (view_of p b) f))

  pub released_lawful : LawfulWith extra p (released p b f date)
  released_lawful =
      let r = rules in
      record {
        r1 = quiet_R1 p b (released p b f date) released_quiet lawful.r1;
        r2 = r.r2;
        r3 = r.r3;
        r4 = r.r4;
        r5 = r.r5;
        r6 = r.r6;
        r7 = r.r7;
        r8 = r.r8;
        r9 = r.r9;
      }

  -- zones with sectors that are set besides keep their types
  pub released_types : KeepsTypes extra (view_of p b) (view_of p (released p b f date))
  unfolding released
  released_types =
      let b' = freed_file p b f date in
      keeps_trans extra (view_of p b) (view_of p b') (view_of p (released p b f date)) refl (keeps_same extra (view_of p b) (view_of p b') (freed_view p b lay lawful f parent date six).zone)
      (recounted_keeps (view_of p b') (view_of p (released p b f date)) (freed_blocks (view_of p b) f) (bit_at_lt b' p.sectortable) uncounted
      (recount_view p b' freed_layout (freed_blocks (view_of p b) f)))
