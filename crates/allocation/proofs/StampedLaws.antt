-- A date and another field written in a file's parent, and the date as latest update: what stays of the books.
use mathlib.Core.Path.{◌≡◌, ◌∙◌}
use mathlib.Core.Logic.{◌≢◌, inl, inr}
use mathlib.Core.List.{List}
use Prim.Native.Nat.{ℕ, ◌+◌, ◌≤◌}
use native.Mathlib.Omega.{arith}
use lib.ListN.{length}
use Rattle.field.specs.Kept.{Kept}
use Rattle.field.specs.Parts.{over}
use Rattle.field.proofs.Frames.{kept_trans, kept_wider}
use Rattle.field.proofs.NumberLaws.{u16_kept, u32_kept}
use Rattle.field.proofs.PartLaws.{kept_over}
use Rattle.tables.specs.declared.places.Places.{Places}
use Rattle.tables.specs.Indexes.{table_place, table_at, put_changed}
use Rattle.tables.specs.Places.{Layout}
use Rattle.tables.specs.Same.{Ground}
use Rattle.tables.specs.Sector1.{free_of, put_latest}
use Rattle.tables.specs.Views.{view_of}
use Rattle.tables.proofs.FrameLaws.{table_kept, sector1_same, sector1_tails}
use Rattle.tables.proofs.IndexLaws.{length_table}
use Rattle.tables.proofs.SameLaws.{same_ground}
use Rattle.allocation.specs.Lengthened.{Quiet}
use Rattle.allocation.specs.Steps.{SameCounts}
use Rattle.allocation.proofs.HeldLawful.{calm_quiet, quiet_trans}
use Rattle.allocation.proofs.NextGround.{ground_trans}
use Rattle.allocation.proofs.StepLaws.{Still, still_table}
use Rattle.allocation.proofs.TableLaws.{table_other}

-- sector 1's counts and its date tell neither zones nor sectors, and no tail
pub status_quiet : (p : Places) (b b' : List ℕ) → Layout p (length b) → Kept b b' 1028 22 → Quiet p b b'
status_quiet p b b' lay k = record {
  len = k.len;
  low = λ j l. k.out j (inl (omega arith));
  tails = λ s t. sector1_tails b b' (kept_wider k (omega arith) (omega arith)) p lay t;
}

pub status_ground : (p : Places) (b b' : List ℕ) → Layout p (length b) → Kept b b' 1028 22 → Ground (view_of p b) (view_of p b')
status_ground p b b' lay k = same_ground (sector1_same b b' (kept_wider k (omega arith) (omega arith)) p lay (u32_kept 1050 k (inr (omega arith))))

-- of books b only file f's parent and the latest update are others in z
pub record Stamped (p : Places) (b z : List ℕ) (f : ℕ) : Type 0 where
  pub other : (j : ℕ) → 1 ≤ j → j ≢ f → table_at p z j ≡ table_at p b j
  pub quiet : Quiet p b z
  pub ground : Ground (view_of p b) (view_of p z)
  pub head : (view_of p z).head ≡ (view_of p b).head
  pub free : free_of z ≡ free_of b
  pub counts : SameCounts (view_of p b) (view_of p z)

module _ (p : Places) (b : List ℕ) (f : ℕ) (date : List ℕ) (lay : Layout p (length b)) (lo : 1 ≤ f) (hi : f ≤ p.indexes) (six : length date ≡ 6) where
  dated : Kept b (put_changed p b f date) (table_place p f + 34) 6
  dated = rw six at (kept_over b (table_place p f + 34) date (omega (arith, lay.end)))

  -- the table with the date
  pub table_dated : Kept (table_at p b f) (over (table_at p b f) 34 date) 34 6
  table_dated = rw six at (kept_over (table_at p b f) 34 date (omega (arith, length_table p b f lay lo hi)))

  -- books y: the date, and n bytes more from byte o of the table on
  module _ (y : List ℕ) (o n : ℕ) (within : o + n ≤ 128) (k : Kept (put_changed p b f date) y (table_place p f + o) n) where
    own : Kept b y (table_place p f) 128
    own = kept_trans (kept_wider dated (omega arith) (omega arith)) (kept_wider k (omega arith) (omega arith))

    latest : Kept y (put_latest y date) 1044 6
    latest = rw six at (kept_over y 1044 date (omega (arith, own.len, lay.end, lay.index, lay.sector, lay.zone)))

    status : Kept y (put_latest y date) 1028 22
    status = kept_wider latest (omega arith) (omega arith)

    still : Still p b y
    still = still_table lay f lo own

    lay_y : Layout p (length y)
    lay_y = rw own.len lay

    pub stamped_own : table_at p (put_latest y date) f ≡ table_at p y f
    stamped_own = table_kept p f latest (inr (omega (arith, lay.index, lay.sector, lay.zone)))

    pub stamped : Stamped p b (put_latest y date) f
    stamped = record {
      other = λ j low ne. table_kept p j latest (inr (omega (arith, lay.index, lay.sector, lay.zone))) ∙ table_other p f j own lo low ne;
      quiet = quiet_trans (calm_quiet still.calm) (status_quiet p y (put_latest y date) lay_y status);
      ground = ground_trans still.calm.ground (status_ground p y (put_latest y date) lay_y status);
      head = u32_kept 1050 latest (inr (omega arith)) ∙ still.head;
      free = u32_kept 1036 latest (inl (omega arith)) ∙ still.free;
      counts = record {
        active = u32_kept 1028 latest (inl (omega arith)) ∙ still.counts.active;
        deleted = u32_kept 1032 latest (inl (omega arith)) ∙ still.counts.deleted;
        system = u16_kept 1040 latest (inl (omega arith)) ∙ still.counts.system;
        directory = u16_kept 1042 latest (inl (omega arith)) ∙ still.counts.directory;
        flag = u16_kept 1054 latest (inr (omega arith)) ∙ still.counts.flag;
      };
    }
