-- What a request leaves of the files: the record, how it is got, and mount, dismount and actual delete; so of header pointers, and which files
-- stood before.
use mathlib.Core.Path.{◌≡◌, refl, sym, ap, ◌∙◌}
use mathlib.Core.Logic.{◌≢◌, inr}
use mathlib.Core.List.{List}
use Prim.Native.Nat.{ℕ, zero, suc}
use native.Mathlib.Decide.{ℕ_discrete}
use native.Mathlib.Omega.{arith}
use lib.ListN.{length}
use Rattle.tables.specs.declared.places.Places.{Places}
use Rattle.tables.specs.Books.{GoodWith}
use Rattle.tables.specs.Indexes.{table_at, word_of, header_start, header_count}
use Rattle.tables.specs.Places.{places_of}
use Rattle.tables.specs.Views.{View, view_of, Parent}
use Rattle.tables.proofs.FrameLaws.{table_kept}
use Rattle.allocation.proofs.ChangeLaws.{parent_file}
use Rattle.files.specs.Release.{released, freed_file, freed_blocks}
use Rattle.files.specs.Unchanged.{Untouched, SamePlaces, HeaderKept}
use Rattle.files.proofs.FreedTables.{freed_word}
use Rattle.files.proofs.FreedView.{freed_view, freed_quiet}
use Rattle.files.proofs.RecountView.{recount_view}
use Rattle.files.proofs.UntouchedLaws.{other_table, other_parent, other_places, places_refl, released_untouched}
use Rattle.requests.specs.Answers.{after}
use Rattle.requests.specs.Delete.{Deleted}
use Rattle.tables.specs.Sector1.{put_flag}
use Rattle.requests.specs.Mount.{Mounted, Dismounted}
use Rattle.requests.proofs.MountKeeps.{kept_flag}
use Rattle.requests.proofs.StateLaws.{recover_asks}

-- between books b and b' the tables of one file change at most: of the named file f, or of a file that is none of b's; files that are not gone stand
pub record Leaves (b b' : List ℕ) (f : ℕ) (gone : ℕ → Type 0) : Type 0 where
  pub changed : ℕ
  pub untouched : Untouched (view_of (places_of b) b) (view_of (places_of b) b') changed
  pub only : (h : ℕ) → Parent (view_of (places_of b) b) h → h ≢ f → h ≢ changed
  pub stands : (h : ℕ) → Parent (view_of (places_of b) b) h → (gone h → ⊥) → Parent (view_of (places_of b) b') h × SamePlaces (view_of (places_of b) b) (view_of (places_of b) b') h

-- ---- header pointers

pub header_refl : (v : View) (f : ℕ) → HeaderKept v v f
header_refl v f = record { start = refl; count = refl }

pub header_trans : (u v w : View) (f : ℕ) → HeaderKept u v f → HeaderKept v w f → HeaderKept u w f
header_trans u v w f h k = record { start = k.start ∙ h.start; count = k.count ∙ h.count }

-- a refusal leaves them
pub header_done : (b : List ℕ) (f r : ℕ) (new b' : List ℕ) → b' ≡ after r new b → (r ≡ 0 → HeaderKept (view_of (places_of b) b) (view_of (places_of b) new) f)
    → HeaderKept (view_of (places_of b) b) (view_of (places_of b) b') f
header_done b f zero new b' e h = rw e (h refl)
header_done b f (suc k) new b' e h = rw e (header_refl (view_of (places_of b) b) f)

-- ---- the record

module _ (b : List ℕ) {extra : ℕ → ℕ} (g : GoodWith extra b (places_of b)) (f : ℕ) (gone : ℕ → Type 0) where
  abbrev p : Places
  p = places_of b

  abbrev v : View
  v = view_of p b

  -- what becomes of the changed file is to be shown
  pub leaves_at : (b' : List ℕ) (x : ℕ) → Untouched v (view_of p b') x → ((h : ℕ) → Parent v h → h ≢ f → h ≢ x)
      → (Parent v x → (gone x → ⊥) → Parent (view_of p b') x × SamePlaces v (view_of p b') x) → Leaves b b' f gone
  leaves_at b' x u only own = record { changed = x; untouched = u; only = only; stands = stands }
    where
      stands : (h : ℕ) → Parent v h → (gone h → ⊥) → Parent (view_of p b') h × SamePlaces v (view_of p b') h
      stands h parent kept = elim (ℕ_discrete h x) [
        | yes e ↦ rw e (own (rw e at parent) (rw e at kept))
        | no ne ↦ (other_parent p b g.layout g.lawful (view_of p b') x u h parent ne, other_places p b g.layout g.lawful (view_of p b') x u h parent ne)
      ]

  -- the changed file is none of b
  pub leaves_new : (b' : List ℕ) (x : ℕ) → Untouched v (view_of p b') x → ((h : ℕ) → Parent v h → x ≡ h → ⊥) → Leaves b b' f gone
  leaves_new b' x u new = leaves_at b' x u (λ h parent ne e. new h parent (sym e)) (λ parent kept. absurd (new x parent refl))

  -- all tables stay
  pub leaves_tables : (b' : List ℕ) → ((j : ℕ) → table_at p b' j ≡ table_at p b j) → Leaves b b' f gone
  leaves_tables b' same =
      leaves_new b' 0 (record { indexes = refl; was = λ j lo hi nz nf. same j; now = λ j lo hi nz nf. same j }) (λ h parent e. omega (arith, parent.low))

  pub leaves_same : (b' : List ℕ) → b' ≡ b → Leaves b b' f gone
  leaves_same b' e = leaves_tables b' (λ j. rw e)

  -- a refusal leaves all
  pub leaves_done : (r : ℕ) (new b' : List ℕ) → b' ≡ after r new b → (r ≡ 0 → Leaves b new f gone) → Leaves b b' f gone
  leaves_done zero new b' e h = rw e (h refl)
  leaves_done (suc k) new b' e h = leaves_same b' e

  -- files that are not named have their header pointers, and so has every file if the named one has
  pub other_pointer : (b' : List ℕ) → Leaves b b' f gone → (h : ℕ) → Parent v h → h ≢ f → HeaderKept v (view_of p b') h
  other_pointer b' l h parent ne =
      let same = other_table p b g.layout g.lawful (view_of p b') l.changed l.untouched h parent (l.only h parent ne) in
      record { start = ap header_start same; count = ap header_count same }

  pub every_pointer : (b' : List ℕ) → Leaves b b' f gone → (Parent v f → (gone f → ⊥) → HeaderKept v (view_of p b') f) → (h : ℕ) → Parent v h → (gone h → ⊥) → HeaderKept v (view_of p b') h
  every_pointer b' l own h parent kept = elim (ℕ_discrete h f) [ yes e ↦ rw e (own (rw e at parent) (rw e at kept)) | no ne ↦ other_pointer b' l h parent ne ]

  flag_leaves : (n : ℕ) → Leaves b (put_flag b n) f gone
  flag_leaves n = leaves_tables (put_flag b n) (λ j. table_kept p j (kept_flag b n) (inr (omega (arith, g.layout))))

module _ (b withheld : List ℕ) {extra : ℕ → ℕ} (g : GoodWith extra b (places_of b)) (f : ℕ) (gone : ℕ → Type 0) where
  pub mounted_leaves : (r : ℕ) (b' : List ℕ) → Mounted b withheld r b' → Leaves b b' f gone
  mounted_leaves r b' h = leaves_done b g f gone r (put_flag b 1) b' h.books (λ e. flag_leaves b g f gone 1)

  pub dismounted_leaves : (r : ℕ) (b' : List ℕ) → Dismounted b withheld r b' → Leaves b b' f gone
  dismounted_leaves r b' h = leaves_done b g f gone r (put_flag b 0) b' h.books (λ e. flag_leaves b g f gone 0)

-- ---- which files stood before

-- a file of b' is one of b, its sectors at their places, if the changed one is
pub stood : (p : Places) (b b' : List ℕ) {extra : ℕ → ℕ} → GoodWith extra b' p → (x : ℕ) → Untouched (view_of p b) (view_of p b') x
    → (Parent (view_of p b') x → Parent (view_of p b) x × SamePlaces (view_of p b') (view_of p b) x)
    → (h : ℕ) → Parent (view_of p b') h → Parent (view_of p b) h × SamePlaces (view_of p b') (view_of p b) h
stood p b b' g x u own h parent = elim (ℕ_discrete h x) [
  | yes e ↦ rw e (own (rw e at parent))
  | no ne ↦ (other_parent p b' g.layout g.lawful (view_of p b) x back h parent ne, other_places p b' g.layout g.lawful (view_of p b) x back h parent ne)
]
  where
    back : Untouched (view_of p b') (view_of p b) x
    back = record { indexes = refl; was = λ j lo hi nz nf. sym (u.now j lo hi nz nf); now = λ j lo hi nz nf. sym (u.was j lo hi nz nf) }

-- a refusal leaves them
pub stood_done : (b : List ℕ) (r : ℕ) (new b' : List ℕ) → b' ≡ after r new b
    → (r ≡ 0 → (h : ℕ) → Parent (view_of (places_of b) b') h → Parent (view_of (places_of b) b) h × SamePlaces (view_of (places_of b) b') (view_of (places_of b) b) h)
    → (h : ℕ) → Parent (view_of (places_of b) b') h → Parent (view_of (places_of b) b) h × SamePlaces (view_of (places_of b) b') (view_of (places_of b) b) h
stood_done b zero new b' e own = own refl
stood_done b (suc k) new b' e own = λ h parent. rw e (rw e at parent, places_refl (view_of (places_of b) b) h)

-- ---- actual delete

-- the file's number is no file's then
released_none : (b : List ℕ) {extra : ℕ → ℕ} (g : GoodWith extra b (places_of b)) (f : ℕ) (date : List ℕ) → Parent (view_of (places_of b) b) f → length date ≡ 6 → Parent (view_of (places_of b) (released (places_of b) b f date)) f → ⊥
unfolding released
released_none b g f date parent six now =
    let p = places_of b in
    let freed = freed_view p b g.layout g.lawful f parent date six in
    let same = (recount_view p (freed_file p b f date) (rw (freed_quiet p b g.layout g.lawful f parent date six).len g.layout) (freed_blocks (view_of p b) f)).files.table f parent.low parent.high in
    let none = freed_word (view_of p b) (view_of p (freed_file p b f date)) f freed f parent.low parent.high (parent_file (view_of p b) f parent) in
    omega (arith, now.word, ap word_of same, none, parent.low)

module _ (b withheld body : List ℕ) {extra : ℕ → ℕ} (g : GoodWith extra b (places_of b)) (id : ℕ) (date : List ℕ) (r : ℕ) (b' body' : List ℕ) (h : Deleted b withheld body id date r b' body') where
  abbrev gone : ℕ → Type 0
  gone f = (id ≡ f) × (r ≡ 0)

  module _ (e : r ≡ 0) where
    pub deleted_parent : Parent (view_of (places_of b) b) id
    deleted_parent = (recover_asks b withheld body id date r h.number e (places_of b) refl).1.0

    six : length date ≡ 6
    six = (recover_asks b withheld body id date r h.number e (places_of b) refl).1.1.1

    frame : Untouched (view_of (places_of b) b) (view_of (places_of b) (released (places_of b) b id date)) id
    frame = released_untouched (places_of b) b g.layout g.lawful id deleted_parent date six

  -- the file that is actually deleted is gone
  pub deleted_leaves : Leaves b b' id (λ f. (id ≡ f) × (r ≡ 0))
  deleted_leaves = leaves_done b g id gone r (released (places_of b) b id date) b' h.books (λ e.
      leaves_at b g id gone (released (places_of b) b id date) id (frame e) (λ h parent ne. ne) (λ parent kept. absurd (kept (refl, e))))

  pub deleted_header : ((id ≡ id) × (r ≡ 0) → ⊥) → HeaderKept (view_of (places_of b) b) (view_of (places_of b) b') id
  deleted_header kept = header_done b id r (released (places_of b) b id date) b' h.books (λ e. absurd (kept (refl, e)))

  -- and no other comes to be
  pub deleted_stood : GoodWith extra b' (places_of b) → (f : ℕ) → Parent (view_of (places_of b) b') f → Parent (view_of (places_of b) b) f × SamePlaces (view_of (places_of b) b') (view_of (places_of b) b) f
  deleted_stood good = stood_done b r (released (places_of b) b id date) b' h.books (λ e.
      (let is : b' ≡ released (places_of b) b id date = rw e at h.books in
      stood (places_of b) b b' good id (rw is (frame e)) (λ now. absurd (released_none b g id date (deleted_parent e) (six e) (rw is at now)))))
