-- The one result of grow in good, mounted books where the file becomes longer: done.
use Rattle.std.specs.Prelude.{Some}
use mathlib.Core.Path.{◌≡◌, refl, ap, ◌∙◌}
use mathlib.Core.Logic.{◌≢◌}
use mathlib.Core.Bool.{true}
use mathlib.Core.List.{List, []}
use Prim.Native.Nat.{ℕ, ◌<◌}
use Rattle.tables.specs.declared.places.Places.{Places}
use Rattle.tables.specs.Books.{GoodWith}
use Rattle.tables.specs.Gates.{Gate}
use Rattle.tables.specs.Indexes.{table_at, length_of, attribute_of, weight, deleted_bit, variable_bit}
use Rattle.tables.specs.Room.{count_at}
use Rattle.tables.specs.Sector1.{flag_of}
use Rattle.tables.specs.Views.{view_of, Parent}
use Rattle.tables.specs.Rules.R7.{nothing}
use Rattle.tables.proofs.GateLaws.{gate_passes, gate_end}
use Rattle.tables.proofs.RoomLaws.{enough_supply}
use Rattle.allocation.specs.Last.{cursor_of}
use Rattle.allocation.specs.MadeFiles.{ProvidedWith, grown}
use Rattle.requests.specs.Create.{room_tests}
use Rattle.requests.specs.Grow.{GrowAllowed, grow_counts, lack_tests, grow_tests, Grew}
use Rattle.requests.proofs.ArgumentLaws.{argument_fine}
use Rattle.requests.proofs.GrowLaws.{kind_fine, file_lack, grow_goes, grow_done, grew_one}
use Rattle.requests.proofs.JudgedLaws.{use_fine}
use Rattle.requests.proofs.LongerLaws.{lack_some, lengthen_done}
use Rattle.requests.proofs.NamedLaws.{state_fine}
use Rattle.requests.proofs.WriteLaws.{grown_is}
use Rattle.histories.specs.Cards.{OneResult}
use Rattle.histories.proofs.CreateAnswers.{bare_good}

-- what grow asks of file id, whose bytes are t, to make it longer
pub record Growing (t : List ℕ) (long : ℕ) : Type 0 where
  pub active : deleted_bit (attribute_of t) ≡ 0
  pub free : weight (attribute_of t) 4 ≡ 0
  pub variable : variable_bit (attribute_of t) ≡ 1
  pub longer : length_of t < long

module _ (b : List ℕ) (p : Places) (id long : ℕ) (date counts : List ℕ) (good : GoodWith nothing b p) (mounted : flag_of b ≢ 0) (allowed : GrowAllowed (Some long) date) (parent : Parent (view_of p b) id)
    (file : Growing (table_at p b id) long) (are : counts ≡ grow_counts b id long) (has : ProvidedWith nothing p b (cursor_of p b id).tail counts) where
  abbrev t : List ℕ
  t = table_at p b id

  -- blocks and tables can be had
  grow_room : Gate (lack_tests b id long) 0
  unfolding room_tests
  grow_room =
      let supply = enough_supply (view_of p b) has.lawful.r2 has.lawful.r3 (count_at counts) has.room in
      lack_some b p id long (length_of t) good t refl refl 0 (cursor_of p b id) counts file.longer refl are (gate_passes 12 _ _ 0 supply (gate_passes 13 _ [] 0 has.tables gate_end))

  tests : Gate (grow_tests b [] id (Some long) date) 0
  tests =
      let kind = kind_fine b id true (rw good.places at file.free) refl true (rw good.places at file.variable) refl in
      let used = use_fine b [] p (flag_of b) (bare_good b p good) refl mounted in
      grow_goes b [] id (Some long) date true 0 allowed (argument_fine b [] true 0 used refl refl) 0 long refl refl
      (file_lack b id long 0 (state_fine b p id good 0 parent file.active) refl 0 kind 0 refl grow_room)

  pub grow_longer : OneResult (Grew b [] id (Some long) date) 0 (grown p b id counts long date)
  grow_longer =
      let h = grow_done b [] id (Some long) date 0 long (grown p b id counts long date) tests refl refl
      (lengthen_done b p id long good.places t refl (length_of t) refl date counts (grown p b id counts long date) file.longer are refl) in
      record { met = h; only = λ s c k. grew_one b [] id (Some long) date s 0 c _ k h }

  pub grow_flag : flag_of (grown p b id counts long date) ≡ flag_of b
  grow_flag = ap flag_of grow_longer.met.books ∙ (grown_is b id long date (rw good.places at good) (rw good.places at parent) grow_room allowed.date'.long).flag
