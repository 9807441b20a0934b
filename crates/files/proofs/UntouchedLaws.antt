-- Files that a request does not name: their sectors stay at their places. Which requests leave which tables.
use mathlib.Core.Path.{◌≡◌, refl, sym, ap, ◌∙◌}
use mathlib.Core.Logic.{◌≢◌, ◌⊎◌, inl, inr, ⊎_elim}
use mathlib.Core.List.{List}
use Prim.Native.Nat.{ℕ, ◌+◌, ◌*◌, ◌≤◌, ◌<◌}
use native.Mathlib.Decide.{ℕ_discrete}
use native.Mathlib.Omega.{arith}
use lib.ListN.{length, get_or}
use Rattle.field.specs.Numbers.{u16_at, u32_at}
use Rattle.tables.specs.declared.places.Places.{Places}
use Rattle.tables.specs.Places.{Layout}
use Rattle.tables.specs.Lawful.{LawfulWith}
use Rattle.tables.specs.Indexes.{table_at, word_of, base_of, file_of}
use Rattle.tables.specs.Rules.R8.{file_sectors}
use Rattle.tables.specs.Views.{View, view_of, Parent}
use Rattle.tables.proofs.IndexLaws.{base_parent, file_free}
use Rattle.allocation.proofs.ChangeLaws.{parent_file}
use Rattle.allocation.proofs.PointerBytes.{slots_word, base_word, file_word}
use Rattle.files.specs.Release.{freed_file, freed_blocks, released}
use Rattle.files.specs.Freed.{Freed}
use Rattle.files.specs.Unchanged.{Untouched, SamePlaces}
use Rattle.files.proofs.FollowLaws.{Follows, FileFollows, follows_alike, follows_same, follows_most, follows_places}
use Rattle.files.proofs.FreedView.{freed_view, freed_quiet}
use Rattle.files.proofs.FreedTables.{freed_word}
use Rattle.files.proofs.RecountView.{recount_view}

pub untouched_refl : (v : View) (f : ℕ) → Untouched v v f
untouched_refl v f = record { indexes = refl; was = λ j lo hi nz nf. refl; now = λ j lo hi nz nf. refl }

-- one after the other
pub untouched_trans : (u v w : View) (f : ℕ) → Untouched u v f → Untouched v w f → Untouched u w f
untouched_trans u v w f h k = record { indexes = k.indexes ∙ h.indexes; was = was; now = now }
  where
    was : (j : ℕ) → 1 ≤ j → j ≤ u.indexes → file_of j (u.table j) ≢ 0 → file_of j (u.table j) ≢ f → w.table j ≡ u.table j
    was j lo hi nz nf =
        let e = h.was j lo hi nz nf in
        let same : file_of j (v.table j) ≡ file_of j (u.table j) = ap (file_of j) e in
        k.was j lo (rw h.indexes hi) (λ z. nz (sym same ∙ z)) (λ z. nf (sym same ∙ z)) ∙ e

    now : (j : ℕ) → 1 ≤ j → j ≤ u.indexes → file_of j (w.table j) ≢ 0 → file_of j (w.table j) ≢ f → w.table j ≡ u.table j
    now j lo hi nz nf =
        let e = k.now j lo (rw h.indexes hi) nz nf in
        let same : file_of j (w.table j) ≡ file_of j (v.table j) = ap (file_of j) e in
        e ∙ h.now j lo hi (λ z. nz (same ∙ z)) (λ z. nf (same ∙ z))

-- each table stays, or was free or of file f and is of file f
pub step_untouched : (v v' : View) (f : ℕ) → v'.indexes ≡ v.indexes
    → ((j : ℕ) → 1 ≤ j → j ≤ v.indexes → (v'.table j ≡ v.table j) ⊎ (((file_of j (v.table j) ≡ 0) ⊎ (file_of j (v.table j) ≡ f)) × (file_of j (v'.table j) ≡ f)))
    → Untouched v v' f
step_untouched v v' f same each = record {
  indexes = same;
  was = λ j lo hi nz nf. ⊎_elim (λ e. e) (λ h. absurd (⊎_elim nz nf h.0)) (each j lo hi);
  now = λ j lo hi nz nf. ⊎_elim (λ e. e) (λ h. absurd (nf h.1)) (each j lo hi);
}

pub places_refl : (v : View) (f : ℕ) → SamePlaces v v f
places_refl v f = record { most = omega arith; place = λ k l. refl }

pub places_trans : (u v w : View) (f : ℕ) → SamePlaces u v f → SamePlaces v w f → SamePlaces u w f
places_trans u v w f h k = record { most = omega (arith, h.most, k.most); place = λ n l. k.place n (omega (arith, h.most)) ∙ h.place n l }

-- ---- a file that is not named: it stands, with the same sectors at the same places

module _ (p : Places) (b : List ℕ) (lay : Layout p (length b)) {extra : ℕ → ℕ} (lawful : LawfulWith extra p b) (w : View) (f : ℕ) (h : Untouched (view_of p b) w f) (g : ℕ) (parent : Parent (view_of p b) g) (other : g ≢ f) where
  was : (j : ℕ) → 1 ≤ j → j ≤ p.indexes → file_of j (table_at p b j) ≡ g → w.table j ≡ table_at p b j
  was j lo hi e = h.was j lo hi (λ z. omega (arith, parent.low)) (λ z. other (sym e ∙ z))

  now : (j : ℕ) → 1 ≤ j → j ≤ p.indexes → file_of j (w.table j) ≡ g → w.table j ≡ table_at p b j
  now j lo hi e = h.now j lo hi (λ z. omega (arith, parent.low)) (λ z. other (sym e ∙ z))

  follows : FileFollows (view_of p b) w g
  follows = record { each = λ j lo hi e. follows_same j _ _ (was j lo hi e) }

  followed : FileFollows w (view_of p b) g
  followed = record { each = λ j lo hi e. follows_same j _ _ (sym (now j lo (rw h.indexes at hi) e)) }

  pub other_table : w.table g ≡ table_at p b g
  other_table = was g parent.low parent.high (parent_file (view_of p b) g parent)

  pub other_parent : Parent w g
  other_parent = record { low = parent.low; high = rw h.indexes parent.high; word = ap word_of other_table ∙ parent.word }

  pub other_sectors : file_sectors w g ≡ file_sectors (view_of p b) g
  other_sectors = omega (arith, follows_most (view_of p b) w g h.indexes follows, follows_most w (view_of p b) g (sym h.indexes) followed)

  pub other_places : SamePlaces (view_of p b) w g
  other_places = follows_places (view_of p b) w g h.indexes follows lawful.r4 lawful.r5 lawful.r6 lay.few parent

-- ---- a file's parent changes in its bytes 28 to 63 only, other tables not at all: dates, length, attribute and header pointer

-- numbers in bytes that stay
u16_same : (t t' : List ℕ) (o : ℕ) → ((j : ℕ) → o ≤ j → j < o + 2 → get_or t' j 0 ≡ get_or t j 0) → u16_at t' o ≡ u16_at t o
unfolding u16_at
u16_same t t' o h = rw (h o (omega arith) (omega arith), h (o + 1) (omega arith) (omega arith))

u32_same : (t t' : List ℕ) (o : ℕ) → ((j : ℕ) → o ≤ j → j < o + 4 → get_or t' j 0 ≡ get_or t j 0) → u32_at t' o ≡ u32_at t o
unfolding u32_at
u32_same t t' o h = rw (h o (omega arith) (omega arith), h (o + 1) (omega arith) (omega arith), h (o + 2) (omega arith) (omega arith), h (o + 3) (omega arith) (omega arith))

module _ (v v' : View) (f : ℕ) (same : v'.indexes ≡ v.indexes) (parent : Parent v f) (there : (j : ℕ) → 1 ≤ j → j ≤ v.indexes → j ≢ f → v'.table j ≡ v.table j)
    (low : (o : ℕ) → o < 28 → get_or (v'.table f) o 0 ≡ get_or (v.table f) o 0) (high : (o : ℕ) → 64 ≤ o → get_or (v'.table f) o 0 ≡ get_or (v.table f) o 0) where
  word : word_of (v'.table f) ≡ word_of (v.table f)
  word = u32_same (v.table f) (v'.table f) 0 (λ j lo hi. low j (omega arith))

  stated_parent : Parent v' f
  stated_parent = record { low = parent.low; high = rw same parent.high; word = word ∙ parent.word }

  here : Follows f (v.table f) (v'.table f)
  here =
      let t = v.table f in
      let t' = v'.table f in
      let base = base_parent f t parent.word in
      let base' = base_word f t t' word in
      follows_alike f t t' (file_word f t t' word (u32_same t t' 4 (λ j lo hi. low j (omega arith)))) (slots_word f t t' word)
      (λ nz. u32_same t t' 124 (λ j lo hi. high j (omega arith)))
      (λ j l. rw base' (u32_same t t' (base_of f t + 6 * j) (λ o lo hi. high o (omega (arith, base)))))
      (λ j l. rw base' (u16_same t t' (base_of f t + 6 * j + 4) (λ o lo hi. high o (omega (arith, base)))))

  pub stated_untouched : Untouched v v' f
  stated_untouched =
      let own = parent_file v f parent in
      step_untouched v v' f same (λ j lo hi. elim (ℕ_discrete j f) [ yes e ↦ rw e (inr (inr own, here.file ∙ own)) | no ne ↦ inl (there j lo hi ne) ])

  pub stated_follows : FileFollows v v' f
  stated_follows = record { each = λ j lo hi own. elim (ℕ_discrete j f) [ yes e ↦ rw e here | no ne ↦ follows_same j _ _ (there j lo hi ne) ] }

module _ (p : Places) (b : List ℕ) (lay : Layout p (length b)) {extra : ℕ → ℕ} (lawful : LawfulWith extra p b) (b' : List ℕ) (f : ℕ) (parent : Parent (view_of p b) f)
    (there : (j : ℕ) → 1 ≤ j → j ≤ p.indexes → j ≢ f → table_at p b' j ≡ table_at p b j)
    (here : (o : ℕ) → (o < 28) → get_or (table_at p b' f) o 0 ≡ get_or (table_at p b f) o 0) (here' : (o : ℕ) → 64 ≤ o → get_or (table_at p b' f) o 0 ≡ get_or (table_at p b f) o 0) where
  restated_follows : FileFollows (view_of p b) (view_of p b') f
  restated_follows = stated_follows (view_of p b) (view_of p b') f refl parent there here here'

  restated_followed : FileFollows (view_of p b') (view_of p b) f
  restated_followed =
      stated_follows (view_of p b') (view_of p b) f refl (stated_parent (view_of p b) (view_of p b') f refl parent there here here')
      (λ j lo hi ne. sym (there j lo hi ne)) (λ o l. sym (here o l)) (λ o l. sym (here' o l))

  pub restated_untouched : Untouched (view_of p b) (view_of p b') f
  restated_untouched = stated_untouched (view_of p b) (view_of p b') f refl parent there here here'

  pub restated_sectors : file_sectors (view_of p b') f ≡ file_sectors (view_of p b) f
  restated_sectors = omega (arith, follows_most (view_of p b) (view_of p b') f refl restated_follows, follows_most (view_of p b') (view_of p b) f refl restated_followed)

  pub restated_places : SamePlaces (view_of p b) (view_of p b') f
  restated_places = follows_places (view_of p b) (view_of p b') f refl restated_follows lawful.r4 lawful.r5 lawful.r6 lay.few parent

-- ---- an actual delete

module _ (p : Places) (b : List ℕ) (lay : Layout p (length b)) {extra : ℕ → ℕ} (lawful : LawfulWith extra p b) (f : ℕ) (parent : Parent (view_of p b) f) (date : List ℕ) (six : length date ≡ 6) where
  freed : Freed (view_of p b) (view_of p (freed_file p b f date)) f
  freed = freed_view p b lay lawful f parent date six

  counted_table : (j : ℕ) → 1 ≤ j → j ≤ p.indexes → table_at p (released p b f date) j ≡ table_at p (freed_file p b f date) j
  unfolding released
  counted_table j lo hi = (recount_view p (freed_file p b f date) (rw (freed_quiet p b lay lawful f parent date six).len lay) (freed_blocks (view_of p b) f)).files.table j lo hi

  released_out : (j : ℕ) → 1 ≤ j → j ≤ p.indexes → file_of j (table_at p b j) ≢ f → table_at p (released p b f date) j ≡ table_at p b j
  released_out j lo hi nf = counted_table j lo hi ∙ freed.there j lo hi nf

  -- the file's tables are free
  released_free : (j : ℕ) → 1 ≤ j → j ≤ p.indexes → file_of j (table_at p b j) ≡ f → file_of j (table_at p (released p b f date) j) ≡ 0
  released_free j lo hi e = ap (file_of j) (counted_table j lo hi) ∙ file_free j _ (freed_word (view_of p b) (view_of p (freed_file p b f date)) f freed j lo hi e)

  pub released_untouched : Untouched (view_of p b) (view_of p (released p b f date)) f
  released_untouched = record {
    indexes = refl;
    was = λ j lo hi nz nf. released_out j lo hi nf;
    now = λ j lo hi nz nf. released_out j lo hi (λ e. nz (released_free j lo hi e));
  }
