-- A file's growth followed on views from where its pointers end, and a file's parent with other bytes before its pointers.
use mathlib.Core.Path.{◌≡◌, refl, sym, ap, ◌∙◌}
use mathlib.Core.Bool.{cond}
use mathlib.Core.List.{List, [], ◌∷◌}
use Prim.Native.Nat.{ℕ, ◌≤◌}
use native.Mathlib.Decide.{ℕ_discrete}
use native.Mathlib.Omega.{arith}
use lib.Dec.{eqb}
use lib.ListN.{length}
use Rattle.field.specs.Numbers.{put_u32}
use Rattle.field.specs.Parts.{over}
use Rattle.tables.specs.declared.places.Places.{Places}
use Rattle.tables.specs.Indexes.{link_of}
use Rattle.tables.specs.Places.{Layout}
use Rattle.tables.specs.Same.{Same}
use Rattle.tables.specs.Sector1.{free_of}
use Rattle.tables.specs.Views.{View, view_of, Begins, Parent, next}
use Rattle.tables.specs.Rules.R5.{R5, FileChain}
use Rattle.tables.proofs.ChainLaws.{walk_same}
use Rattle.tables.proofs.SameLaws.{same_begins, same_chain}
use Rattle.allocation.specs.declared.choice.Found.{Found}
use Rattle.allocation.specs.Choice.{in_order, in_turn, choose}
use Rattle.allocation.specs.Growth.{Growth, add_block}
use Rattle.allocation.specs.Last.{last_table, cursor_in, cursor_of}
use Rattle.allocation.specs.MadeFiles.{ProvidedWith, put_change, grown}
use Rattle.allocation.proofs.FileLaws.{ready_grow}
use Rattle.allocation.proofs.GrownLawful.{length_new, length_resized, grown_lengthened}
use Rattle.allocation.proofs.LastLaws.{chain_begins, last_table_lem}
use Rattle.allocation.proofs.RestatedLaws.{Restated}
use Rattle.allocation.proofs.ViewGrowth.{with_tables, Sight, laid_view, add_view, at_here, at_other, same_tables, Shows, shows_turn}

-- ---- a file's parent

-- w with other bytes for table f
unfoldable pub table_view : View → ℕ → List ℕ → View
table_view w f t = with_tables w (λ j. cond (eqb j f) t (w.table j)) w.head w.free

pub same_restated : (v w v' : View) (f : ℕ) (t : List ℕ) → Same v w → Restated v v' f → v'.table f ≡ t → Same v' (table_view w f t)
unfolding table_view
same_restated v w v' f t a r e =
    same_tables v w v' a _ _ _ r.ground r.indexes
    (λ j lo hi. elim (ℕ_discrete j f) [
      | yes q ↦ at_here j f _ _ q ∙ sym (ap v'.table q ∙ e)
      | no ne ↦ at_other j f _ _ ne ∙ a.table j lo hi ∙ sym (r.there j lo hi ne)
    ]) (a.head ∙ sym r.head)

-- ---- where file f's pointers end

module _ (v w : View) (a : Same v w) (f : ℕ) (r5 : R5 v) (parent : Parent v f) where
  abbrev m : ℕ
  m = r5.long f

  abbrev chain : FileChain v f m
  chain = r5.chain f parent

  last_begins : (x : ℕ) × Begins v (last_table v f) x
  last_begins = rw (last_table_lem v f m parent chain) at (chain_begins v f m parent chain m (omega arith))

  last_same : last_table w f ≡ last_table v f
  last_same =
      sym (last_table_lem w f m (same_begins v w a f f parent) (same_chain v w a f m parent chain))
      ∙ walk_same (next v) (next w) f m (λ k l. (let b = (chain_begins v f m parent chain k (omega arith)).1 in ap link_of (a.table _ b.low b.high))) m (omega arith)
      ∙ last_table_lem v f m parent chain

  cursor_same : cursor_in w f ≡ cursor_in v f
  unfolding cursor_in
  cursor_same = let b = last_begins.1 in rw (last_same, a.table (last_table v f) b.low b.high) refl

-- the view, and where file f goes on in it
unfoldable pub sight_of : View → ℕ → Sight
unfolding cursor_in
sight_of w f = record { view = w; cursor = cursor_in w f }

-- it is where file f goes on in the books that w shows
pub sight_cursor : (p : Places) (b : List ℕ) (w : View) (f : ℕ) → Same (view_of p b) w → R5 (view_of p b) → Parent (view_of p b) f → (sight_of w f).cursor ≡ cursor_of p b f
unfolding sight_of cursor_of
sight_cursor p b w f a r5 parent = cursor_same (view_of p b) w a f r5 parent

-- one block, once it is chosen
pub one_added : (f t : ℕ) (s : Sight) (k : Found) → choose s.view s.cursor.tail t ≡ k → in_turn (add_view f) (t ∷ []) s ≡ laid_view f t k s
unfolding in_turn add_view
one_added f t s k e = ap (λ (x : Found). laid_view f t x s) e

-- ---- what `grown` comes to

-- a table's bytes with a change date and a byte length
abbrev changed_bytes : List ℕ → ℕ → List ℕ → List ℕ
changed_bytes t long date = put_u32 (over t 34 date) 40 long

-- file f with these
unfoldable pub changed_view : View → ℕ → ℕ → List ℕ → View
unfolding table_view over put_u32
changed_view w f long date = table_view w f (changed_bytes (w.table f) long date)

unfoldable pub grown_view : View → ℕ → List ℕ → ℕ → List ℕ → View
unfolding in_turn in_order add_view sight_of changed_view
grown_view w f counts long date = changed_view (in_turn (add_view f) (in_order counts) (sight_of w f)).view f long date

module _ (p : Places) (b : List ℕ) (w : View) (f : ℕ) (long : ℕ) (date : List ℕ) (lay : Layout p (length b)) (lo : 1 ≤ f) (hi : f ≤ p.indexes) (six : length date ≡ 6) where
  same_changed : Same (view_of p b) w → Same (view_of p (put_change p b f long date)) (changed_view w f long date)
  unfolding changed_view
  same_changed a =
      same_restated (view_of p b) w _ f _ a (length_resized p b f long date lay lo hi six).restated (length_new p b f long date lay lo hi six ∙ ap (λ (t : List ℕ). changed_bytes t long date) (sym (a.table f lo hi)))

  free_changed : w.free ≡ free_of b → (changed_view w f long date).free ≡ free_of (put_change p b f long date)
  unfolding changed_view
  free_changed e = e ∙ sym (length_resized p b f long date lay lo hi six).free

module _ (p : Places) (b : List ℕ) (w : View) (f : ℕ) (counts : List ℕ) (long : ℕ) (date : List ℕ) (a : Same (view_of p b) w) (free : w.free ≡ free_of b) {extra : ℕ → ℕ}
    (has : ProvidedWith extra p b (cursor_of p b f).tail counts) (parent : Parent (view_of p b) f) (six : length date ≡ 6) where
  abbrev start : Growth
  start = record { books = b; cursor = cursor_of p b f }

  abbrev x : List ℕ
  x = (in_turn (add_block p f) (in_order counts) start).books

  abbrev sight : Sight
  sight = in_turn (add_view f) (in_order counts) (sight_of w f)

  shown : Shows p start (sight_of w f)
  unfolding sight_of
  shown = record { same = a; free = free; cursor = sight_cursor p b w f a has.lawful.r5 parent }

  added : Shows p (in_turn (add_block p f) (in_order counts) start) sight
  added = shows_turn p f start (sight_of w f) (in_order counts) shown (ready_grow p b f counts has parent)

  lay : Layout p (length x)
  lay = rw (grown_lengthened p b f counts has parent).quiet.len has.layout

  pub grown_same : Same (view_of p (grown p b f counts long date)) (grown_view w f counts long date)
  unfolding grown grown_view
  grown_same = same_changed p x sight.view f long date lay parent.low parent.high six added.same

  pub grown_free : (grown_view w f counts long date).free ≡ free_of (grown p b f counts long date)
  unfolding grown grown_view
  grown_free = free_changed p x sight.view f long date lay parent.low parent.high six added.free
