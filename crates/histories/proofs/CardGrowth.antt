-- Books of the bench cards with a file grown, and views that compute and show them.
use Rattle.std.specs.Prelude.{Some}
use mathlib.Core.Path.{◌≡◌, refl, sym, ap, ◌∙◌}
use mathlib.Core.Bool.{true}
use mathlib.Core.List.{List, []}
use Prim.Native.Nat.{ℕ, ◌≤◌}
use borrow.Author.Tests.{ltb-true}
use lib.Dec.{leb, ltb}
use lib.ListN.{length}
use Rattle.field.specs.Numbers.{u16_at, u32_at, put_u16, put_u32}
use Rattle.field.specs.Parts.{over}
use Rattle.field.specs.Sum.{sum_to}
use Rattle.tables.specs.declared.places.Places.{Places}
use Rattle.tables.specs.Blocks.{block_of}
use Rattle.tables.specs.Books.{GoodWith}
use Rattle.tables.specs.Counts.{block_bytes}
use Rattle.tables.specs.Format.{fresh_places}
use Rattle.tables.specs.Indexes.{table_at, word_of, attribute_of, length_of, slots_of, base_of, sectors_of, file_of}
use Rattle.tables.specs.Rules.R7.{nothing}
use Rattle.tables.specs.Rules.R8.{file_sectors, file_type}
use Rattle.tables.specs.Same.{Ground}
use Rattle.tables.specs.Sector1.{flag_of}
use Rattle.tables.specs.Views.{View, view_of, Parent, tally, cov}
use Rattle.tables.proofs.SameLaws.{same_sectors, same_type}
use Rattle.allocation.specs.declared.choice.Found.{Found}
use Rattle.allocation.specs.declared.growth.Cursor.{Cursor}
use Rattle.allocation.specs.Choice.{in_order, in_turn, choose}
use Rattle.allocation.specs.Last.{cursor_of}
use Rattle.allocation.specs.MadeFiles.{ProvidedWith, blocks_for}
use Rattle.allocation.proofs.FileLaws.{length_only}
use Rattle.requests.specs.Grow.{GrowAllowed, grow_counts}
use Rattle.requests.proofs.CreateKeeps.{grew_keeps}
use Rattle.requests.proofs.LongerLaws.{counts_are}
use Rattle.histories.specs.Cards.{OneResult, card_date, GrowTo, one_d, with_longer}
use Rattle.histories.proofs.GrowAnswers.{Growing, grow_longer, grow_flag}
use Rattle.allocation.proofs.ViewGrowth.{Sight, add_view, laid_view}
use Rattle.allocation.proofs.GrownView.{sight_of, sight_cursor, changed_view, grown_view, grown_same, grown_free}
use Rattle.histories.proofs.CardBooks.{valid_date, roomy, taken, added_D, Usable, usable_again, Makes, used, provided}

-- file f of so many bytes: its pointers end at c, and its new block is k; these two are given, so that a view of later books computes neither again
unfoldable pub longer_view : View → ℕ → ℕ → Cursor → Found → View
unfolding changed_view laid_view over put_u16 put_u32 u16_at u32_at block_of cov card_date
longer_view w f long c k = changed_view (laid_view f 4 k (record { view = w; cursor = c })).view f long card_date

-- the type of file f's blocks, and how many it lacks for so many bytes
unfoldable pub lacking : View → ℕ → ℕ → ℕ × ℕ
unfolding file_type blocks_for block_bytes file_sectors tally file_of sectors_of sum_to slots_of base_of
lacking w f long = (file_type w f, blocks_for w f long)

-- what the view has of file f, to which one block of type D is added for so many bytes; each equation is computed
pub record Grows (w : View) (f long : ℕ) (c : Cursor) (k : Found) : Type 0 where
  pub word : word_of (w.table f) ≡ f
  pub attribute : attribute_of (w.table f) ≡ 16
  pub length' : ltb (length_of (w.table f)) long ≡ true
  pub lacks : lacking w f long ≡ (4, 1)
  pub room : roomy w one_d ≡ true
  pub cursor : (sight_of w f).cursor ≡ c
  pub block : choose w c.tail 4 ≡ k
  pub tables : leb (taken f one_d (sight_of w f)) w.free ≡ true

module _ (z : ℕ) (b : List ℕ) (w : View) (u : Usable z b w) (f long : ℕ) (lo : 1 ≤ f) (hi : f ≤ 8) (few : long ≤ 2147483647) (c : Cursor) (k : Found) (g : Grows w f long c k) where
  abbrev p : Places
  p = fresh_places z 8

  abbrev v : View
  v = view_of p b

  table_is : w.table f ≡ table_at p b f
  table_is = u.staged.same.table f lo hi

  parent : Parent v f
  parent = record { low = lo; high = hi; word = rw table_is at g.word }

  file : Growing (table_at p b f) long
  file =
      let e : attribute_of (table_at p b f) ≡ 16 = rw table_is at g.attribute in
      record { active = rw e refl; free = rw e refl; variable = rw e refl; longer = ltb-true _ _ (rw table_is at g.length') }

  type_is : file_type w f ≡ 4
  unfolding lacking
  type_is = ap (λ (n : ℕ × ℕ). n.0) g.lacks

  blocks_is : blocks_for w f long ≡ 1
  unfolding lacking
  blocks_is = ap (λ (n : ℕ × ℕ). n.1) g.lacks

  same_type_is : file_type w f ≡ file_type v f
  same_type_is = same_type v w u.staged.same u.good.lawful.r6 f parent

  same_blocks : blocks_for w f long ≡ blocks_for v f long
  unfolding blocks_for
  same_blocks = rw (same_sectors v w u.staged.same f, same_type_is) refl

  are : one_d ≡ grow_counts b f long
  unfolding one_d
  are = counts_are b p f long 4 1 one_d u.good (sym type_is ∙ same_type_is) (sym blocks_is ∙ same_blocks) refl

  six : length one_d ≡ 6
  unfolding one_d
  six = length_only 4 1

  ground : Ground w (sight_of w f).view
  unfolding sight_of
  ground = record { zones = refl; zone = λ z lo hi. refl; bit = λ n l. refl }

  has : ProvidedWith nothing p b (cursor_of p b f).tail one_d
  has = rw (sight_cursor p b w f u.staged.same u.good.lawful.r5 parent) at (provided z b w u f one_d (sight_of w f) ground six g.room g.tables)

  allowed : GrowAllowed (Some long) card_date
  allowed = record { long' = few; date' = valid_date }

  result : OneResult (GrowTo b f long) 0 (with_longer z b f long)
  unfolding with_longer
  result = grow_longer b p f long card_date one_d u.good (used z b w u) allowed parent file are has

  still_good : GoodWith nothing (with_longer z b f long) p
  still_good = grew_keeps b [] f (Some long) card_date 0 _ p result.met u.good

  still_mounted : flag_of (with_longer z b f long) ≡ 1
  unfolding with_longer
  still_mounted = grow_flag b p f long card_date one_d u.good (used z b w u) allowed parent file are has ∙ u.mounted

  sight_is : ◌≡◌ {A = Sight} (sight_of w f) (record { view = w; cursor = c })
  unfolding sight_of
  sight_is = ap (λ (x : Cursor). record { view = w; cursor = x }) g.cursor

  view_is : grown_view w f one_d long card_date ≡ longer_view w f long c k
  unfolding grown_view longer_view
  view_is =
      ap (λ (s : Sight). changed_view s.view f long card_date)
      (ap (λ (s : Sight). in_turn (add_view f) (in_order one_d) s) sight_is ∙ added_D f (record { view = w; cursor = c }) k g.block)

  usable : Usable z (with_longer z b f long) (grown_view w f one_d long card_date)
  unfolding with_longer
  usable = usable_again z _ _ still_good (grown_same p b w f one_d long card_date u.staged.same u.staged.free has parent valid_date.long)
      (grown_free p b w f one_d long card_date u.staged.same u.staged.free has parent valid_date.long) still_mounted

  pub grows : Makes z (GrowTo b f long) 0 (with_longer z b f long) (longer_view w f long c k)
  grows = record { usable = rw view_is at usable; result = result }
