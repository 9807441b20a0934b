-- A file's blocks leave the flag.
use mathlib.Core.Path.{◌≡◌, refl, ◌∙◌}
use mathlib.Core.List.{List, [], ◌∷◌}
use Prim.Native.Nat.{ℕ}
use Rattle.tables.specs.declared.places.Places.{Places}
use Rattle.tables.specs.Sector1.{flag_of}
use Rattle.tables.specs.Views.{view_of}
use Rattle.allocation.specs.declared.growth.Cursor.{Cursor}
use Rattle.allocation.specs.declared.tail.Pushed.{Pushed}
use Rattle.allocation.specs.declared.tail.Pushed.TheVariants.{Joined, Beside, Further}
use Rattle.allocation.specs.Choice.{in_turn, choose}
use Rattle.allocation.specs.Growth.{Growth, pointed, add_block}
use Rattle.allocation.specs.Ready.{Ready}
use Rattle.allocation.proofs.ReadyLaws.{Taking, add_is, laid_is, here_is, further_is, pointed_joined, pointed_beside, pointed_further, here_written, further_extended, ready_proper, step_taking, ready_step}
use Rattle.allocation.proofs.TakenLaws.{block_files}
use Rattle.allocation.proofs.TurnLaws.{turn_none, turn_step}

flag_pointed : (p : Places) (f : ℕ) (b : List ℕ) (c : Cursor) (r : Pushed) (ts : List ℕ) → Taking p f b c r ts → flag_of (pointed p f b c r).books ≡ flag_of b
flag_pointed p f b c (Joined l) ts h = rw (pointed_joined p f b c l, here_is p f b c l) (here_written p f b c (Joined l) ts h).counts.flag
flag_pointed p f b c (Beside l) ts h = rw (pointed_beside p f b c l, here_is p f b c l) (here_written p f b c (Beside l) ts h).counts.flag
flag_pointed p f b c (Further l) ts h = rw (pointed_further p f b c l, further_is p f b c l) (further_extended p f b c l ts h).counts.flag

pub flag_turn : (p : Places) (f : ℕ) (g : Growth) (ts : List ℕ) → Ready p f g ts → flag_of (in_turn (add_block p f) ts g).books ≡ flag_of g.books
flag_turn p f g [] h = rw (turn_none (add_block p f) g) refl
flag_turn p f g (t ∷ ts) h =
    let k = choose (view_of p g.books) g.cursor.tail t in
    let add : flag_of (add_block p f t g).books ≡ flag_of g.books = rw (add_is p f t g, laid_is p f t k g)
    (flag_pointed p f _ g.cursor _ ts (step_taking p f g t ts h) ∙ (block_files p g.books t k h.layout (ready_proper p f g t ts h)).counts.flag) in
    rw (turn_step (add_block p f) t ts g) (flag_turn p f (add_block p f t g) ts (ready_step p f g t ts h) ∙ add)
