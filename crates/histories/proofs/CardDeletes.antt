-- Books of the bench cards with a file deleted, for a time and for good, and views that compute and show them.
use mathlib.Core.Path.{◌≡◌, refl, sym, ap, ◌∙◌}
use mathlib.Core.Logic.{inr}
use mathlib.Core.List.{List}
use Prim.Native.Nat.{ℕ, ◌+◌, ◌-◌, ◌≤◌}
use native.Mathlib.Omega.{arith}
use Rattle.field.specs.Numbers.{u16_at, put_u16}
use Rattle.field.specs.Parts.{over}
use Rattle.field.proofs.NumberLaws.{u16_kept}
use Rattle.tables.specs.declared.places.Places.{Places}
use Rattle.tables.specs.Format.{fresh_places}
use Rattle.tables.specs.Indexes.{table_at, word_of, attribute_of, header_count, deleted_bit, directory_bit, system_bit}
use Rattle.tables.specs.Sector1.{active_of, deleted_of, free_of, system_of, directory_of, flag_of}
use Rattle.tables.specs.Same.{Same}
use Rattle.tables.specs.Views.{View, view_of, Parent}
use Rattle.allocation.proofs.GrownView.{table_view, same_restated}
use Rattle.allocation.proofs.HeldLawful.{quiet_good}
use Rattle.files.specs.Release.{released}
use Rattle.files.proofs.ReleasedLawful.{released_quiet, released_lawful}
use Rattle.requests.specs.State.{put_counts, removed}
use Rattle.requests.proofs.StampLaws.{Recounted, put_new, put_stamped, put_restated, counts_recounted}
use Rattle.requests.proofs.StateKeeps.{removed_good}
use Rattle.histories.specs.Cards.{card_date, RemoveGives, DeleteGives}
use Rattle.histories.proofs.DeleteAnswers.{remove_only, delete_only}
use Rattle.histories.proofs.ReleasedView.{released_view, Alone, released_same, released_free, released_flag}
use Rattle.histories.proofs.CardBooks.{valid_date, Usable, usable_again, used}

-- file f deleted for a time
unfoldable pub removed_view : View → ℕ → View
unfolding table_view over put_u16 u16_at card_date
removed_view w f = table_view w f (put_u16 (over (w.table f) 34 card_date) 44 (attribute_of (w.table f) + 1))

-- a file that has no header
module _ (z : ℕ) (b : List ℕ) (w : View) (u : Usable z b w) (f : ℕ) (lo : 1 ≤ f) (hi : f ≤ 8) (word : word_of (w.table f) ≡ f) (bare : header_count (w.table f) ≡ 0) where
  abbrev p : Places
  p = fresh_places z 8

  abbrev t : List ℕ
  t = table_at p b f

  table_is : w.table f ≡ t
  table_is = u.staged.same.table f lo hi

  parent : Parent (view_of p b) f
  parent = record { low = lo; high = hi; word = rw table_is at word }

  no_header : header_count t ≡ 0
  no_header = rw table_is at bare

  -- a variable one, deleted for a time
  module _ (attribute : attribute_of (w.table f) ≡ 16) where
    is_16 : attribute_of t ≡ 16
    is_16 = rw table_is at attribute

    abbrev c : List ℕ
    c = put_counts b (active_of b - 1) (deleted_of b + 1) (system_of b - system_bit (attribute_of t)) (directory_of b - directory_bit (attribute_of t))

    kept : Recounted b c
    kept = counts_recounted b _ _ _ _

    removed_same : Same (view_of p (removed p b f card_date)) (removed_view w f)
    unfolding removed removed_view
    removed_same =
        same_restated (view_of p b) w _ f _ u.staged.same (put_restated p b c f (attribute_of t + 1) card_date u.good.layout kept lo hi valid_date.long)
        (put_new p b c f (attribute_of t + 1) card_date u.good.layout kept lo hi valid_date.long ∙ ap (λ (x : List ℕ). put_u16 (over x 34 card_date) 44 (attribute_of x + 1)) (sym table_is))

    removed_free : (removed_view w f).free ≡ free_of (removed p b f card_date)
    unfolding removed removed_view
    removed_free = u.staged.free ∙ sym ((put_stamped p b c f (attribute_of t + 1) card_date u.good.layout kept lo hi valid_date.long).free ∙ kept.free)

    removed_flag : flag_of (removed p b f card_date) ≡ flag_of b
    unfolding removed
    removed_flag = (put_stamped p b c f (attribute_of t + 1) card_date u.good.layout kept lo hi valid_date.long).counts.flag ∙ u16_kept 1054 kept.kept (inr (omega arith))

    pub removes : Usable z (removed p b f card_date) (removed_view w f) × RemoveGives b f (removed p b f card_date)
    removes = (
      usable_again z _ _ (removed_good p b f card_date u.good parent valid_date (rw is_16 refl)) removed_same removed_free (removed_flag ∙ u.mounted),
      λ body sized. remove_only b p f card_date u.good (used z b w u) valid_date parent no_header body sized (rw is_16 refl) (rw is_16 refl),
    )

  -- one that is deleted for a time, deleted for good
  module _ (attribute : attribute_of (w.table f) ≡ 17) (own freed : ℕ → ℕ) (alone : Alone w f own freed) where
    is_17 : attribute_of t ≡ 17
    is_17 = rw table_is at attribute

    pub deletes : Usable z (released p b f card_date) (released_view w f own freed) × DeleteGives b f (released p b f card_date)
    deletes =
        let g = u.good in
        let gone : deleted_bit (attribute_of t) ≡ 1 = rw is_17 refl in
        let six = valid_date.long in
        let good = quiet_good b (released p b f card_date) p g (released_quiet p b g.layout g.lawful f parent gone card_date six) (released_lawful p b g.layout g.lawful f parent gone card_date six) in (
          usable_again z _ _ good (released_same p b w f own freed card_date g.layout g.lawful parent u.staged.same alone six)
              (released_free p b w f own freed card_date g.layout g.lawful parent u.staged.same alone six u.staged.free)
              (released_flag p b w f own freed card_date g.layout g.lawful parent u.staged.same alone six ∙ u.mounted),
          λ body sized. delete_only b p f card_date g (used z b w u) valid_date parent no_header body sized gone,
        )
