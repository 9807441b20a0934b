-- Temporary delete, recover and set protection keep the books good: the rules hold of the books afterwards, at the same places; and all
-- pointers stay.
use mathlib.Core.Path.{◌≡◌, refl, sym, ap, ap₂, ◌∙◌}
use mathlib.Core.Logic.{inr}
use mathlib.Core.List.{List}
use Prim.Native.Nat.{ℕ, zero, suc, ◌+◌, ◌-◌, ◌*◌, ◌/◌, ◌%◌, ◌≤◌, ◌<◌}
use native.Mathlib.Decide.{ℕ_discrete}
use native.Mathlib.Omega.{arith}
use lib.ListN.{length}
use Rattle.field.proofs.NumberLaws.{u16_kept}
use Rattle.tables.specs.declared.index.Pointer.{Pointer}
use Rattle.tables.specs.declared.places.Places.{Places}
use Rattle.tables.specs.Books.{GoodWith}
use Rattle.tables.specs.Dates.{Date}
use Rattle.tables.specs.Places.{places_of, Layout}
use Rattle.tables.specs.Sector1.{active_of, deleted_of, system_of, directory_of}
use Rattle.tables.specs.Indexes.{table_at, name_of, created_of, length_of, attribute_of, base_of, pointer_at, Used, variable_bit, directory_bit, system_bit, deleted_bit}
use Rattle.tables.specs.Views.{View, view_of, Parent}
use Rattle.tables.specs.Rules.R8.{file_type, InType, File}
use Rattle.tables.specs.Rules.R9.{R9}
use Rattle.tables.specs.Lawful.{LawfulWith}
use Rattle.tables.proofs.Sector1CountLaws.{Ones, ones_active, ones_deleted}
use Rattle.allocation.specs.Held.{Held}
use Rattle.allocation.specs.Lengthened.{Quiet}
use Rattle.allocation.proofs.HeldLawful.{held_rules, quiet_good, quiet_R1, in_one, Fields, fields_file}
use Rattle.allocation.proofs.RestatedLaws.{Restated, restated_parent, restated_start, restated_count, restated_change, restated_used, restated_sectors, restated_held, restated_types}
use Rattle.allocation.proofs.GrownLawful.{rules_held}
use Rattle.allocation.proofs.ChangeLaws.{changed_R9}
use Rattle.requests.specs.Answers.{after}
use Rattle.requests.specs.State.{put_state, put_counts, removed, recovered, protection_of, protected, Removed, Recovered, Protected}
use Rattle.requests.proofs.RequestLaws.{good_room, done_keeps}
use Rattle.requests.proofs.StateLaws.{weights_few, active_some, system_some, directory_some, deleted_some, remove_valid, remove_asks, recover_valid, recover_asks, protect_valid, protect_asks}
use Rattle.requests.proofs.StampLaws.{Recounted, same_counted, put_stamped, put_quiet, put_restated, put_fields, counts_recounted, counts_read}

-- ---- the change date and the attribute

-- the j-th pointer of index table i
abbrev pointer_in : View → ℕ → ℕ → Pointer
pointer_in v i j = pointer_at (v.table i) (base_of i (v.table i) + 6 * j)

restated_pointer : (v v' : View) (f : ℕ) → Restated v v' f → v.indexes ≤ 4096 → Parent v f → (i j : ℕ) → 1 ≤ i → i ≤ v.indexes → pointer_in v' i j ≡ pointer_in v i j
restated_pointer v v' f w few parent i j low high = elim (ℕ_discrete i f) [
  | yes e ↦ rw e (ap₂ (λ (s n : ℕ). record { start = record { 0 = s }; count = n }) (restated_start v v' f w few parent j) (restated_count v v' f w few parent j))
  | no ne ↦ ap (λ (x : List ℕ). pointer_at x (base_of i x + 6 * j)) (w.there i low high ne)
]

-- all pointers stay, whether the request is done or not
pub after_pointer : (r : ℕ) (new b b' : List ℕ) (f i j : ℕ) {extra : ℕ → ℕ} → 1 ≤ i → i ≤ (places_of b).indexes → GoodWith extra b (places_of b) → GoodWith extra b' (places_of b) → b' ≡ after r new b
    → (r ≡ 0 → Parent (view_of (places_of b) b) f × Restated (view_of (places_of b) b) (view_of (places_of b) new) f)
    → pointer_in (view_of (places_of b') b') i j ≡ pointer_in (view_of (places_of b) b) i j
after_pointer zero new b b' f i j low high old g e h =
    let q = h refl in
    ap₂ (λ (q : Places) (x : List ℕ). pointer_in (view_of q x) i j) (sym g.places) e
    ∙ restated_pointer (view_of (places_of b) b) (view_of (places_of b) new) f q.1 old.layout.few q.0 i j low high
after_pointer (suc r) new b b' f i j low high old g e h = ap₂ (λ (q : Places) (x : List ℕ). pointer_in (view_of q x) i j) (sym g.places) e

-- ---- the rules

module _ (p : Places) (b c : List ℕ) (f a : ℕ) (date : List ℕ) (lay : Layout p (length b)) (k : Recounted b c) {extra : ℕ → ℕ} (old : LawfulWith extra p b) (parent : Parent (view_of p b) f)
    (valid : Date date) where
  abbrev d : List ℕ
  d = put_state p c f a date

  restated : Restated (view_of p b) (view_of p d) f
  restated = put_restated p b c f a date lay k parent.low parent.high valid.long

  quiet : Quiet p b d
  quiet = put_quiet p b c f a date lay k parent.low parent.high valid.long

  now : Parent (view_of p d) f
  now = restated_parent (view_of p b) (view_of p d) f restated parent

  was : Held (view_of p b) f extra
  was = rules_held p b f old

  was_file : File (view_of p b) f (table_at p b f)
  was_file = old.r8 f (omega (arith, parent.high)) parent.low parent.word

  used : Used f (table_at p d f) 0
  used = restated_used (view_of p b) (view_of p d) f restated lay.few parent ((old.r6 f (omega (arith, parent.high)) parent.low).one parent.word)

  fields : Fields (table_at p d f) (name_of (table_at p b f)) (created_of (table_at p b f)) date (length_of (table_at p b f)) a
  fields = put_fields p b c f a date lay k parent.low parent.high valid.long

  module _ (few : a < 128) (variable : variable_bit a ≡ variable_bit (attribute_of (table_at p b f))) (directory : directory_bit a ≡ directory_bit (attribute_of (table_at p b f)))
      (system : system_bit a ≡ system_bit (attribute_of (table_at p b f))) (r9 : R9 (view_of p d)) where
    held : Held (view_of p d) f extra
    held = restated_held (view_of p b) (view_of p d) f restated lay.few parent was r9

    one : variable_bit a ≡ 1 → InType (view_of p d) f (file_type (view_of p d) f)
    one e =
        let t = file_type (view_of p b) f in
        in_one (view_of p d) f held now used t
        (restated_types (view_of p b) (view_of p d) f restated lay.few parent was t (was_file.variable (sym variable ∙ e)))

    -- the nine rules of the books whose file f has the attribute a, if the counts are true
    attributed_lawful : LawfulWith extra p d
    attributed_lawful = held_rules p d f (quiet_R1 p b d quiet old.r1) held (λ q. used) (λ w.
        fields_file (view_of p d) f (table_at p d f) (name_of (table_at p b f)) (created_of (table_at p b f)) date (length_of (table_at p b f)) a fields
        was_file.name was_file.created valid was_file.least (rw (restated_sectors (view_of p b) (view_of p d) f restated lay.few parent) was_file.most)
        (λ e. was_file.fixed (sym variable ∙ e)) one few (rw (directory, system) was_file.both))

  -- ---- R9: the counts change by what file f adds

  attribute : attribute_of (table_at p d f) ≡ a
  attribute = fields.attribute'

  now_active : a % 2 ≡ 0 → Ones f (table_at p d f) 1 0 0 (system_bit a) (directory_bit a)
  now_active e = rw attribute at (ones_active f (table_at p d f) (λ z. omega (arith, now.word, now.low)) now.word (λ z. omega (arith, attribute)))

  now_deleted : a % 2 ≡ 1 → Ones f (table_at p d f) 0 1 0 0 0
  now_deleted e = ones_deleted f (table_at p d f) (λ z. omega (arith, now.word, now.low)) now.word (rw attribute e)

  was_active : deleted_bit (attribute_of (table_at p b f)) ≡ 0 → Ones f (table_at p b f) 1 0 0 (system_bit (attribute_of (table_at p b f))) (directory_bit (attribute_of (table_at p b f)))
  was_active e = ones_active f (table_at p b f) (λ z. omega (arith, parent.word, parent.low)) parent.word (λ z. omega arith)

  was_deleted : deleted_bit (attribute_of (table_at p b f)) ≡ 1 → Ones f (table_at p b f) 0 1 0 0 0
  was_deleted e = ones_deleted f (table_at p b f) (λ z. omega (arith, parent.word, parent.low)) parent.word e

  module _ (m n s r m' n' s' r' : ℕ) (before : Ones f (table_at p b f) m n 0 s r) (after' : Ones f (table_at p d f) m' n' 0 s' r') where
    recounted : active_of c + m ≡ active_of b + m' → deleted_of c + n ≡ deleted_of b + n' → system_of c + s ≡ system_of b + s' → directory_of c + r ≡ directory_of b + r' → R9 (view_of p d)
    recounted active deleted system directory =
        let s₁ = put_stamped p b c f a date lay k parent.low parent.high valid.long in
        let q = s₁.counts in
        changed_R9 (view_of p b) (view_of p d) f f (restated_change (view_of p b) (view_of p d) f restated lay.few parent) m n 0 s r m' n' 0 s' r' before after'
        (omega (arith, q.active)) (omega (arith, q.deleted)) (omega (arith, s₁.free, k.free)) (omega (arith, q.system)) (omega (arith, q.directory))
        (q.flag ∙ u16_kept 1054 k.kept (inr (omega arith))) old.r9

-- ---- the attributes written

-- a' has no other weights than a but those of deletion and protection
record Alike (a a' : ℕ) : Type 0 where
  few : a' < 128
  variable : variable_bit a' ≡ variable_bit a
  directory : directory_bit a' ≡ directory_bit a
  system : system_bit a' ≡ system_bit a

-- weights 16 and above are the same
alike_above : (a a' : ℕ) → a < 128 → a' / 16 ≡ a / 16 → Alike a a'
alike_above a a' few e = record { few = omega arith; variable = omega arith; directory = omega arith; system = omega arith }

removed_alike : (a : ℕ) → a < 128 → a % 2 ≡ 0 → Alike a (a + 1)
removed_alike a few e = alike_above a (a + 1) few (omega arith)

recovered_alike : (a : ℕ) → a < 128 → a % 2 ≡ 1 → Alike a (a - 1)
recovered_alike a few e = alike_above a (a - 1) few (omega arith)

protected_above : (a w : ℕ) → w % 4 ≡ 0 → w ≤ 12 → protection_of a w / 16 ≡ a / 16
unfolding protection_of
protected_above a w fours most = omega arith

protected_active : (a w : ℕ) → w % 4 ≡ 0 → protection_of a w % 2 ≡ a % 2
unfolding protection_of
protected_active a w fours = omega arith

-- ---- the three requests, done

module _ (p : Places) (b : List ℕ) (f : ℕ) (date : List ℕ) {extra : ℕ → ℕ} (g : GoodWith extra b p) (parent : Parent (view_of p b) f) (valid : Date date) where
  abbrev a : ℕ
  a = attribute_of (table_at p b f)

  attributed_good : (c : List ℕ) (a' : ℕ) → Recounted b c → Alike a a' → R9 (view_of p (put_state p c f a' date)) → GoodWith extra (put_state p c f a' date) p
  attributed_good c a' k l r9 =
      quiet_good b (put_state p c f a' date) p g (quiet p b c f a' date g.layout k g.lawful parent valid)
      (attributed_lawful p b c f a' date g.layout k g.lawful parent valid l.few l.variable l.directory l.system r9)

  pub removed_good : deleted_bit a ≡ 0 → GoodWith extra (removed p b f date) p
  unfolding removed
  removed_good e =
      let m = active_of b - 1 in
      let n = deleted_of b + 1 in
      let s = system_of b - system_bit a in
      let d = directory_of b - directory_bit a in
      let c = put_counts b m n s d in
      let k = counts_recounted b m n s d in
      let q = counts_read b m n s d (good_room b p g) in
      let old = was_active p b c f (a + 1) date g.layout k g.lawful parent valid e in
      let new = now_deleted p b c f (a + 1) date g.layout k g.lawful parent valid (omega arith) in
      attributed_good c (a + 1) k (removed_alike a (weights_few b p g f parent) e)
      (recounted p b c f (a + 1) date g.layout k g.lawful parent valid 1 0 (system_bit a) (directory_bit a) 0 1 0 0 old new
      (omega (arith, q.active', active_some b p g f parent e))
      (omega (arith, q.deleted'))
      (omega (arith, q.system', system_some b p g f parent e))
      (omega (arith, q.directory', directory_some b p g f parent e)))

  recovered_good : deleted_bit a ≡ 1 → GoodWith extra (recovered p b f date) p
  unfolding recovered
  recovered_good e =
      let m = active_of b + 1 in
      let n = deleted_of b - 1 in
      let s = system_of b + system_bit a in
      let d = directory_of b + directory_bit a in
      let c = put_counts b m n s d in
      let k = counts_recounted b m n s d in
      let q = counts_read b m n s d (good_room b p g) in
      let l = recovered_alike a (weights_few b p g f parent) e in
      let old = was_deleted p b c f (a - 1) date g.layout k g.lawful parent valid e in
      let new = now_active p b c f (a - 1) date g.layout k g.lawful parent valid (omega arith) in
      attributed_good c (a - 1) k l
      (recounted p b c f (a - 1) date g.layout k g.lawful parent valid 0 1 0 0 1 0 (system_bit (a - 1)) (directory_bit (a - 1)) old new
      (omega (arith, q.active'))
      (omega (arith, q.deleted', deleted_some b p g f parent e))
      (omega (arith, q.system', l.system))
      (omega (arith, q.directory', l.directory)))

  -- where weight 1 and the weights from 16 on stay, no count changes
  module _ (a' : ℕ) (above : a' / 16 ≡ a / 16) (lowest : a' % 2 ≡ a % 2) where
    same : Recounted b b
    same = same_counted b

    pub steady_good : GoodWith extra (put_state p b f a' date) p
    steady_good =
        let l = alike_above a a' (weights_few b p g f parent) above in
        let count = recounted p b b f a' date g.layout same g.lawful parent valid in
        attributed_good b a' same l (elim (ℕ_discrete (deleted_bit a) 0) [
          | yes e ↦ count 1 0 (system_bit a) (directory_bit a) 1 0 (system_bit a') (directory_bit a') (was_active p b b f a' date g.layout same g.lawful parent valid e)
              (now_active p b b f a' date g.layout same g.lawful parent valid (lowest ∙ e)) (omega arith) (omega arith) (omega (arith, l.system)) (omega (arith, l.directory))
          | no ne ↦ count 0 1 0 0 0 1 0 0 (was_deleted p b b f a' date g.layout same g.lawful parent valid (omega arith))
              (now_deleted p b b f a' date g.layout same g.lawful parent valid (omega arith)) (omega arith) (omega arith) (omega arith) (omega arith)
        ])

  protected_good : (w : ℕ) → w % 4 ≡ 0 → w ≤ 12 → GoodWith extra (protected p b f w date) p
  unfolding protected
  protected_good w fours most = steady_good (protection_of a w) (protected_above a w fours most) (protected_active a w fours)

-- ---- the promises

-- "the rules still hold" (demand 3): after temporary delete
pub removed_keeps : (b withheld body : List ℕ) (id : ℕ) (date : List ℕ) (r : ℕ) (b' body' : List ℕ) (p : Places) {extra : ℕ → ℕ} → Removed b withheld body id date r b' body' → GoodWith extra b p → GoodWith extra b' p
removed_keeps b withheld body id date r b' body' p h g =
    done_keeps r (removed (places_of b) b id date) b b' p h.books (λ z.
    (let a = remove_asks b withheld body id date r h.number z (places_of b) refl in
    rw g.places (removed_good (places_of b) b id date (rw g.places at g) a.1.0 (remove_valid b withheld body id date r h.number z) a.1.1.0))) g

-- after recover
pub recovered_keeps : (b withheld body : List ℕ) (id : ℕ) (date : List ℕ) (r : ℕ) (b' body' : List ℕ) (p : Places) {extra : ℕ → ℕ} → Recovered b withheld body id date r b' body' → GoodWith extra b p → GoodWith extra b' p
recovered_keeps b withheld body id date r b' body' p h g =
    done_keeps r (recovered (places_of b) b id date) b b' p h.books (λ z.
    (let a = recover_asks b withheld body id date r h.number z (places_of b) refl in
    rw g.places (recovered_good (places_of b) b id date (rw g.places at g) a.1.0 (recover_valid b withheld body id date r h.number z) a.1.1.0))) g

-- after set protection
pub protected_keeps : (b withheld : List ℕ) (id w : ℕ) (date : List ℕ) (r : ℕ) (b' : List ℕ) (p : Places) {extra : ℕ → ℕ} → Protected b withheld id w date r b' → GoodWith extra b p → GoodWith extra b' p
protected_keeps b withheld id w date r b' p h g =
    done_keeps r (protected (places_of b) b id w date) b b' p h.books (λ z.
    (let a = protect_asks b withheld id w date r h.number z (places_of b) refl in
    let v = protect_valid b withheld id w date r h.number z in
    rw g.places (protected_good (places_of b) b id date (rw g.places at g) a.1.0 v.date' w v.fours v.most))) g
