-- The one result of a create in good, mounted books: done, refused for want of room, refused for an argument.
use Rattle.std.specs.Prelude.{Result}
use mathlib.Core.Path.{refl}
use mathlib.Core.Logic.{◌≢◌}
use mathlib.Core.Bool.{true, false}
use mathlib.Core.List.{List, []}
use Prim.Native.Nat.{ℕ}
use native.Mathlib.Omega.{arith}
use Rattle.tables.specs.declared.places.Places.{Places}
use Rattle.tables.specs.Books.{Good, GoodWith}
use Rattle.tables.specs.Gates.{Gate}
use Rattle.tables.specs.Room.{count_at, Supply}
use Rattle.tables.specs.Sector1.{first_free_of, flag_of}
use Rattle.tables.specs.Views.{view_of}
use Rattle.tables.proofs.GateLaws.{gate_fails, gate_passes, gate_end}
use Rattle.tables.proofs.RoomLaws.{enough_supply}
use Rattle.allocation.specs.MadeFiles.{ProvidedWith, created}
use Rattle.allocation.specs.NewTables.{New}
use Rattle.allocation.specs.NextPointer.{no_pointer}
use Rattle.requests.specs.Answers.{use_tests, argument_tests}
use Rattle.requests.specs.Create.{room_tests, Creates}
use Rattle.histories.specs.Cards.{OneResult, done, refused}
use Rattle.tables.specs.Rules.R7.{nothing}
use Rattle.tables.proofs.WithheldLaws.{good_same, none_withheld, none_list}
use Rattle.requests.proofs.JudgedLaws.{use_fine}
use Rattle.requests.proofs.ArgumentLaws.{argument_refused, argument_fine}
use Rattle.requests.proofs.CreateLaws.{make_refused, make_done, create_stops, create_ends, creates_one}
use Rattle.tables.specs.declared.refusal.Refusal.{Refusal}
use Rattle.tables.specs.declared.refusal.Refusal.TheVariants.{NoRoom, BadArgument}
use Rattle.tables.specs.declared.kinds.Index.{Index}

-- books with nothing set besides are good with no block withheld
pub bare_good : (b : List ℕ) (p : Places) → GoodWith nothing b p → Good b [] p
bare_good b p g = record { list = none_list (view_of p b); books = good_same b p (none_withheld (view_of p b)) g }

-- a file `new` with blocks of these counts, after a test of arguments that asks for Allowed
module _ (b : List ℕ) (p : Places) (Allowed : Type 0) (counts : List ℕ) (new : New) (good : GoodWith nothing b p) (mounted : flag_of b ≢ 0) where
  abbrev Promise : Result Index Refusal → List ℕ → Type 0
  Promise = Creates (argument_tests b [] Allowed) b counts new

  one : (r : Result Index Refusal) (b' : List ℕ) → Promise r b' → OneResult Promise r b'
  one r b' h = record { met = h; only = λ s c k. creates_one (argument_tests b [] Allowed) b counts new s r c b' k h }

  used : Gate (use_tests b []) 0
  used = use_fine b [] p (flag_of b) (bare_good b p good) refl mounted

  -- 7
  pub create_bad : (Allowed → ⊥) → OneResult Promise (refused BadArgument) b
  create_bad h = one (refused BadArgument) b (create_stops b [] counts new Allowed false h BadArgument (argument_refused b [] false 0 used refl refl))

  module _ (allowed : Allowed) where
    made : (r : Result Index Refusal) (b' : List ℕ) → Creates [] b counts new r b' → OneResult Promise r b'
    made r b' m = one r b' (create_ends b [] counts new Allowed true allowed r b' (argument_fine b [] true 0 used refl refl) m)

    -- 0: blocks and tables can be had
    pub create_done : ProvidedWith nothing p b no_pointer counts → OneResult Promise (done (first_free_of b)) (created p b new counts)
    unfolding room_tests
    create_done h =
        let supply = enough_supply (view_of p b) h.lawful.r2 h.lawful.r3 (count_at counts) h.room in
        let room : Gate (room_tests p b no_pointer counts) 0 = gate_passes 12 _ _ 0 supply (gate_passes 13 _ [] 0 h.tables gate_end) in
        made _ _ (make_done b counts new p no_pointer (record { 0 = first_free_of b }) _ good.places refl room refl refl)

    -- 12
    pub create_no_room : (Supply (view_of p b) (count_at counts) → ⊥) → OneResult Promise (refused NoRoom) b
    unfolding room_tests
    create_no_room h = made _ _ (make_refused b counts new p no_pointer NoRoom good.places refl (gate_fails 12 _ _ (omega arith) h))
