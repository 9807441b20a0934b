-- A date and a number written in a file's parent, and sector 1's counts of files: what stays of the books, and what is read; so of temporary
-- delete, recover and set protection.
use mathlib.Core.Path.{◌≡◌, refl, ap, ◌∙◌}
use mathlib.Core.Logic.{inl, inr}
use mathlib.Core.List.{List}
use Prim.Native.Nat.{ℕ, ◌+◌, ◌≤◌}
use native.Mathlib.Omega.{arith}
use lib.ListN.{length}
use Rattle.field.specs.Numbers.{put_u16, put_u32}
use Rattle.field.specs.Kept.{Kept}
use Rattle.field.specs.Parts.{over}
use Rattle.field.proofs.Frames.{kept_refl, kept_trans, kept_wider}
use Rattle.field.proofs.NumberLaws.{u16_kept, u32_kept, kept_put_u16, kept_put_u32, u16_put_same, u32_put_same}
use Rattle.field.proofs.PartLaws.{over_part, same_at}
use Rattle.tables.specs.declared.places.Places.{Places}
use Rattle.tables.specs.Books.{GoodSome}
use Rattle.tables.specs.Gates.{Gate}
use Rattle.tables.specs.Indexes.{table_place, table_at, name_of, created_of, length_of}
use Rattle.tables.specs.Places.{places_of, Layout}
use Rattle.tables.specs.Sector1.{active_of, deleted_of, free_of, system_of, directory_of}
use Rattle.tables.specs.Views.{view_of, Parent}
use Rattle.tables.proofs.FrameLaws.{table_kept}
use Rattle.tables.proofs.IndexLaws.{length_table}
use Rattle.allocation.specs.Lengthened.{Quiet}
use Rattle.allocation.proofs.HeldLawful.{quiet_trans, Fields, table_fields}
use Rattle.allocation.proofs.NextGround.{ground_trans}
use Rattle.allocation.proofs.RestatedLaws.{Restated}
use Rattle.allocation.proofs.StampedLaws.{Stamped, status_quiet, status_ground, table_dated, stamped_own, stamped}
use Rattle.allocation.proofs.TableLaws.{table_put16, table_over}
use Rattle.requests.specs.State.{put_state, put_counts, removed, recovered, protected, remove_tests, recover_tests, protect_tests}
use Rattle.requests.proofs.StateLaws.{remove_asks, recover_asks, protect_asks}

-- ---- an attribute written, after other counts of files

-- sector 1's counts, but that of free tables, may be others
pub record Recounted (b c : List ℕ) : Type 0 where
  pub kept : Kept b c 1028 16
  pub free : free_of c ≡ free_of b

pub same_counted : (b : List ℕ) → Recounted b b
same_counted b = record { kept = kept_refl b 1028 16; free = refl }

module _ (p : Places) (b c : List ℕ) (f a : ℕ) (date : List ℕ) (lay : Layout p (length b)) (k : Recounted b c) (lo : 1 ≤ f) (hi : f ≤ p.indexes) (six : length date ≡ 6) where
  abbrev t : List ℕ
  t = table_at p b f

  lay_c : Layout p (length c)
  lay_c = rw k.kept.len lay

  wide : Kept b c 1028 22
  wide = kept_wider k.kept (omega arith) (omega arith)

  c_table : (j : ℕ) → table_at p c j ≡ table_at p b j
  c_table j = table_kept p j k.kept (inr (omega arith))

  sized : length t ≡ 128
  sized = length_table p b f lay lo hi

  date_kept : Kept t (over t 34 date) 34 6
  date_kept = table_dated p b f date lay lo hi six

  put_kept : Kept (over t 34 date) (put_u16 (over t 34 date) 44 a) 44 2
  put_kept = kept_put_u16 (over t 34 date) 44 a

  new_kept : Kept t (put_u16 (over t 34 date) 44 a) 34 12
  new_kept = kept_trans (kept_wider date_kept (omega arith) (omega arith)) (kept_wider put_kept (omega arith) (omega arith))

  pub put_new : table_at p (put_state p c f a date) f ≡ put_u16 (over t 34 date) 44 a
  unfolding put_state
  put_new =
      let x = over c (table_place p f + 34) date in
      stamped_own p c f date lay_c lo hi six _ 44 2 (omega arith) (kept_put_u16 x (table_place p f + 44) a) ∙ table_put16 p x f 44 a (omega arith)
      ∙ ap (λ (u : List ℕ). put_u16 u 44 a) (table_over p c f 34 date lay_c lo hi (omega arith) ∙ ap (λ (u : List ℕ). over u 34 date) (c_table f))

  pub put_stamped : Stamped p c (put_state p c f a date) f
  unfolding put_state
  put_stamped = stamped p c f date lay_c lo hi six _ 44 2 (omega arith) (kept_put_u16 (over c (table_place p f + 34) date) (table_place p f + 44) a)

  pub put_quiet : Quiet p b (put_state p c f a date)
  put_quiet = quiet_trans (status_quiet p b c lay wide) put_stamped.quiet

  pub put_restated : Restated (view_of p b) (view_of p (put_state p c f a date)) f
  put_restated = record {
    ground = ground_trans (status_ground p b c lay wide) put_stamped.ground;
    indexes = refl;
    head = put_stamped.head ∙ u32_kept 1050 k.kept (inr (omega arith));
    here = rw put_new new_kept;
    there = λ j low high ne. put_stamped.other j low ne ∙ c_table j;
  }

  pub put_fields : Fields (table_at p (put_state p c f a date) f) (name_of t) (created_of t) date (length_of t) a
  put_fields = let h = table_fields t sized in rw put_new (record {
    size = new_kept.len ∙ sized;
    name' = λ k l. new_kept.out (4 + k) (inl (omega arith)) ∙ h.name' k l;
    created' = λ k l. new_kept.out (28 + k) (inl (omega arith)) ∙ h.created' k l;
    changed' = λ k l. put_kept.out (34 + k) (inl (omega arith)) ∙ same_at (over t 34 date) date 34 (over_part t 34 date (omega (arith, sized))) k (omega arith);
    long' = u32_kept 40 put_kept (inl (omega arith)) ∙ u32_kept 40 date_kept (inr (omega arith));
    attribute' = u16_put_same (over t 34 date) 44 a (omega (arith, date_kept.len, sized));
  })

-- ---- the counts written

-- they are read so
pub record Reads (b : List ℕ) (active deleted system directory : ℕ) : Type 0 where
  pub active' : active_of b ≡ active
  pub deleted' : deleted_of b ≡ deleted
  pub system' : system_of b ≡ system
  pub directory' : directory_of b ≡ directory

module _ (b : List ℕ) (active deleted system directory : ℕ) where
  module _ (x y z w : List ℕ) (ex : x ≡ put_u32 b 1028 active) (ey : y ≡ put_u32 x 1032 deleted) (ez : z ≡ put_u16 y 1040 system) (ew : w ≡ put_u16 z 1042 directory) where
    x_put : Kept b x 1028 4
    x_put = rw ex (kept_put_u32 b 1028 active)

    y_put : Kept x y 1032 4
    y_put = rw ey (kept_put_u32 x 1032 deleted)

    z_put : Kept y z 1040 2
    z_put = rw ez (kept_put_u16 y 1040 system)

    w_put : Kept z w 1042 2
    w_put = rw ew (kept_put_u16 z 1042 directory)

    w_recounted : Recounted b w
    w_recounted = record {
      kept = kept_trans (kept_wider x_put (omega arith) (omega arith)) (kept_trans (kept_wider y_put (omega arith) (omega arith))
          (kept_trans (kept_wider z_put (omega arith) (omega arith)) (kept_wider w_put (omega arith) (omega arith))));
      free = u32_kept 1036 w_put (inl (omega arith)) ∙ u32_kept 1036 z_put (inl (omega arith)) ∙ u32_kept 1036 y_put (inr (omega arith)) ∙ u32_kept 1036 x_put (inr (omega arith));
    }

    w_reads : 2048 ≤ length b → Reads w active deleted system directory
    w_reads room = record {
      active' = u32_kept 1028 w_put (inl (omega arith)) ∙ u32_kept 1028 z_put (inl (omega arith)) ∙ u32_kept 1028 y_put (inl (omega arith)) ∙ rw ex (u32_put_same b 1028 active (omega arith));
      deleted' = u32_kept 1032 w_put (inl (omega arith)) ∙ u32_kept 1032 z_put (inl (omega arith)) ∙ rw ey (u32_put_same x 1032 deleted (omega (arith, x_put.len)));
      system' = u16_kept 1040 w_put (inl (omega arith)) ∙ rw ez (u16_put_same y 1040 system (omega (arith, x_put.len, y_put.len)));
      directory' = rw ew (u16_put_same z 1042 directory (omega (arith, x_put.len, y_put.len, z_put.len)));
    }

  pub counts_recounted : Recounted b (put_counts b active deleted system directory)
  unfolding put_counts
  counts_recounted = w_recounted _ _ _ _ refl refl refl refl

  pub counts_read : 2048 ≤ length b → Reads (put_counts b active deleted system directory) active deleted system directory
  unfolding put_counts
  counts_read = w_reads _ _ _ _ refl refl refl refl

-- ---- the three requests, done: there is file f, and it is restated

module _ (b withheld : List ℕ) (g : GoodSome b (places_of b)) (f : ℕ) (date : List ℕ) (r : ℕ) where
  abbrev Restates : List ℕ → Type 0
  Restates d = Parent (view_of (places_of b) b) f × Restated (view_of (places_of b) b) (view_of (places_of b) d) f

  attribute_restates : (c : List ℕ) (a : ℕ) → Recounted b c → Parent (view_of (places_of b) b) f → length date ≡ 6 → Restates (put_state (places_of b) c f a date)
  attribute_restates c a k parent six = (parent, put_restated (places_of b) b c f a date g.1.layout k parent.low parent.high six)

  pub removed_restates : (body : List ℕ) → Gate (remove_tests b withheld body f date) r → r ≡ 0 → Restates (removed (places_of b) b f date)
  unfolding removed
  removed_restates body gate e = let h = (remove_asks b withheld body f date r gate e (places_of b) refl).1 in attribute_restates _ _ (counts_recounted b _ _ _ _) h.0 h.1.1

  pub recovered_restates : (body : List ℕ) → Gate (recover_tests b withheld body f date) r → r ≡ 0 → Restates (recovered (places_of b) b f date)
  unfolding recovered
  recovered_restates body gate e = let h = (recover_asks b withheld body f date r gate e (places_of b) refl).1 in attribute_restates _ _ (counts_recounted b _ _ _ _) h.0 h.1.1

  pub protected_restates : (w : ℕ) → Gate (protect_tests b withheld f w date) r → r ≡ 0 → Restates (protected (places_of b) b f w date)
  unfolding protected
  protected_restates w gate e = let h = (protect_asks b withheld f w date r gate e (places_of b) refl).1 in attribute_restates b _ (same_counted b) h.0 h.1.1
