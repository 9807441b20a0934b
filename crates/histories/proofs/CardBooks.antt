-- Books of the bench cards, good and mounted, and views that compute and show them: fresh ones, and those with a new file more.
use Rattle.std.specs.Prelude.{Some}
use mathlib.Core.Path.{◌≡◌, refl, sym, ap, ◌∙◌}
use mathlib.Core.Logic.{◌≢◌}
use mathlib.Core.List.{List, [], ◌∷◌}
use mathlib.Core.Bool.{Bool, true, false}
use Prim.Native.Nat.{ℕ, zero, suc, ◌+◌, ◌-◌, ◌%◌, ◌≤◌, ◌<◌}
use native.Mathlib.Omega.{arith}
use borrow.Author.Tests.{ltb-true, leb-true, leb-false}
use lib.Dec.{ltb, leb}
use lib.ListN.{length, replicate, length-replicate, get_or-replicate}
use Rattle.field.specs.Numbers.{u16_at, u32_at, put_u16, put_u32}
use Rattle.field.specs.Parts.{over}
use Rattle.field.specs.Sum.{sum_to}
use Rattle.field.proofs.NumberLaws.{kept_put_u16}
use Rattle.tables.specs.declared.places.Places.{Places}
use Rattle.tables.specs.declared.zone.ZoneEntry.{ZoneEntry}
use Rattle.tables.specs.Blocks.{block_of}
use Rattle.tables.specs.Books.{Sized, GoodWith}
use Rattle.tables.specs.Dates.{Date}
use Rattle.tables.specs.Names.{NewText}
use Rattle.tables.specs.Zones.{zone_at, put_zone}
use Rattle.tables.specs.Indexes.{table_at}
use Rattle.tables.specs.Open.{is_open, open_zones}
use Rattle.tables.specs.Room.{count_at, spare_in, spare_of, lack_of}
use Rattle.tables.specs.Same.{Same, Ground}
use Rattle.tables.specs.Sector1.{first_free_of, free_of, flag_of}
use Rattle.tables.specs.Views.{View, view_of, cov, only_if}
use Rattle.tables.specs.Counts.{block_bytes, counts_of}
use Rattle.tables.specs.Format.{Formattable, Writable, fresh_places, formatted}
use Rattle.tables.specs.Rules.R1.{Stand}
use Rattle.tables.proofs.GateLaws.{gate_passes, gate_end}
use Rattle.tables.specs.Rules.R7.{nothing}
use Rattle.tables.proofs.WithheldLaws.{good_same, none_withheld}
use Rattle.tables.proofs.SameLaws.{same_ground}
use Rattle.tables.proofs.RoomLaws.{supply_enough}
use Rattle.allocation.specs.declared.choice.Found.{Found}
use Rattle.allocation.specs.Find.{find}
use Rattle.allocation.specs.Choice.{in_order, in_turn, choose}
use Rattle.allocation.specs.NextPointer.{no_pointer}
use Rattle.allocation.specs.NewLawful.{NewLawful}
use Rattle.allocation.specs.NewTables.{New}
use Rattle.allocation.specs.Stock.{Stocked}
use Rattle.allocation.specs.MadeFiles.{ProvidedWith, started}
use Rattle.allocation.proofs.OrderLaws.{order_typed, order_enough}
use Rattle.allocation.proofs.NextGround.{ground_sym, ground_trans, enough_ground}
use Rattle.allocation.proofs.FileLaws.{chained_lawful, provided_head, started_made, ready_start}
use Rattle.allocation.proofs.GrownView.{sight_of, one_added}
use Rattle.allocation.proofs.ViewGrowth.{with_tables, Sight, laid_view, add_view, started_view, tables_shown}
use Rattle.allocation.proofs.FreshView.{fresh_view, created_view, created_is, Staged, staged_created, staged_fresh, staged_flag}
use Rattle.files.specs.declared.spot.Spot.{Spot}
use Rattle.files.specs.Spots.{onward, spot_of, kth_sector}
use Rattle.requests.specs.Answers.{argument_tests}
use Rattle.requests.specs.Create.{Creates, FixedAllowed, cell_type, VariableAllowed}
use Rattle.requests.specs.Format.{Formatted}
use Rattle.requests.specs.Mount.{Mounted}
use Rattle.requests.specs.Named.{file_bytes}
use Rattle.requests.proofs.FormatRequestLaws.{formatted_one, formatted_good}
use Rattle.requests.proofs.JudgedLaws.{judge_fine}
use Rattle.requests.proofs.MountLaws.{mount_judged, mounted_one}
use Rattle.requests.proofs.MountKeeps.{flag_put, flag_keeps}
use Rattle.requests.proofs.CreateKeeps.{made_keeps, fixed_lawful, variable_lawful}
use Rattle.requests.proofs.RequestLaws.{good_room}
use Rattle.requests.proofs.FlagLaws.{flag_turn}
use Rattle.histories.specs.Cards.{OneResult, done, refused, card_date, pointers_in, pointers_of, free_in, Create, CreateCell, label, blank, fresh, FreshBooks, plain_file, one_d, with_file, with_fixed, with_cell}
use Rattle.histories.proofs.CreateAnswers.{bare_good, create_done, create_no_room}
use Rattle.tables.specs.declared.refusal.Refusal.TheVariants.{AlreadyMounted, NoRoom}

-- ---- the views

unfoldable pub view : ℕ → ℕ → View
unfolding blank fresh_view
view len z = fresh_view z 8 (table_at (fresh_places z 8) (blank len z))

unfoldable pub with_view : View → New → List ℕ → View
unfolding created_view over put_u16 put_u32 u16_at u32_at block_of cov only_if is_open spare_in choose
with_view w n counts = created_view w.head w n counts

unfoldable pub with_fixed_view : View → ℕ → ℕ → View
unfolding with_view plain_file counts_of
with_fixed_view w flag size = with_view w (plain_file 0 size) (counts_of flag size)

-- the new file's block is k, and the first free table is then h: these two are given, so that a view of later books computes neither again
unfoldable pub with_cell_view : View → Found → ℕ → View
unfolding laid_view started_view plain_file over put_u16 put_u32 u16_at u32_at block_of cov only_if
with_cell_view w k h = let v = (laid_view w.head 4 k (started_view w (plain_file 1 0))).view in with_tables v v.table h v.free

-- there is room for blocks of these counts
unfoldable pub roomy : View → List ℕ → Bool
unfolding sum_to lack_of spare_of spare_in open_zones is_open only_if block_of
roomy w counts = leb (sum_to 6 (λ i. lack_of w (i + 3) (count_at counts (i + 3)))) (open_zones w)

-- the tables that file f has taken once blocks of these counts are added after s
unfoldable pub taken : ℕ → List ℕ → Sight → ℕ
unfolding started_view sight_of add_view in_turn in_order over put_u16 put_u32 u16_at u32_at block_of cov only_if is_open spare_in choose
taken f counts s = (in_turn (add_view f) (in_order counts) s).cursor.tail.tables

pub valid_date : Date card_date
unfolding card_date u16_at
valid_date = record { long = refl; year₁ = omega arith; year₂ = omega arith; month₁ = omega arith; month₂ = omega arith; day₁ = omega arith; day₂ = omega arith; hour = omega arith; minute = omega arith }

label_writable : Writable label
unfolding label
label_writable = record { application = omega arith; volume = omega arith; owner = omega arith; code = omega arith; date = valid_date }

formattable : (len z : ℕ) → 3 ≤ z → z ≤ 256 → (fresh_places z 8).indextable + 1024 ≤ len → Formattable len z 8
formattable len z least most end =
    let stand : Stand (fresh_places z 8) len = record { zone = omega arith; sector = omega arith; index = omega arith; end = omega arith } in
    record { least = least; most = most; some = omega arith; few = omega arith; stand = stand }

-- ---- good, mounted books for Z zones, and a view that shows them

pub record Usable (z : ℕ) (b : List ℕ) (w : View) : Type 0 where
  pub staged : Staged (fresh_places z 8) b w
  pub good : GoodWith nothing b (fresh_places z 8)
  pub mounted : flag_of b ≡ 1

-- books that are good have all but what the view shows
pub usable_again : (z : ℕ) (b : List ℕ) (w : View) → GoodWith nothing b (fresh_places z 8) → Same (view_of (fresh_places z 8) b) w → w.free ≡ free_of b → flag_of b ≡ 1 → Usable z b w
usable_again z b w g same free flag = record {
  staged = record { layout = g.layout; r2 = g.lawful.r2; r3 = g.lawful.r3; chained = chained_lawful (fresh_places z 8) b g.lawful; same = same; free = free };
  good = g;
  mounted = flag;
}

-- fresh ones
pub record Starts (len z : ℕ) : Type 0 where
  pub usable : Usable z (fresh len z) (view len z)
  pub promised : FreshBooks len z

module _ (len z : ℕ) (whole : len % 1024 ≡ 0) (long : 5120 ≤ len) (small : len ≤ 1048576) (least : 3 ≤ z) (most : z ≤ 256) (end : (fresh_places z 8).indextable + 1024 ≤ len) where
  blank_formatted : (b : List ℕ) → length b ≡ len → Formatted b (Some z) (Some 8) label 0 (blank len z)
  unfolding blank
  blank_formatted b e =
      let sized : Sized b = record { whole = rw e whole; least = rw e long; most = rw e small } in
      record {
        number = gate_passes 1 _ _ 0 sized (gate_passes 3 _ _ 0 (rw e (formattable len z least most end)) (gate_passes 7 _ [] 0 label_writable gate_end));
        books = rw e refl;
      }

  blank_good : GoodWith nothing (blank len z) (fresh_places z 8)
  blank_good = good_same (blank len z) (fresh_places z 8) (λ s. sym (none_withheld (view_of (fresh_places z 8) (blank len z)) s))
      (formatted_good (replicate len 0) (Some z) (Some 8) label (blank len z) (blank_formatted (replicate len 0) (length-replicate {A = ℕ} len 0))).books

  -- each equation is computed
  pub start : find (λ y. ltb 0 (zone_at (fresh_places z 8) (blank len z) y).ztype) (z - 2) 2 ≡ z → first_free_of (blank len z) ≡ 1 → free_of (blank len z) ≡ 8 → flag_of (blank len z) ≡ 0
      → Starts len z
  unfolding fresh view blank
  start none head free flag =
      let p = fresh_places z 8 in
      let staged = staged_fresh len z 8 label long small (formattable len z least most end) label_writable none head free in
      let mounted : Mounted (blank len z) [] 0 (fresh len z) = record { number = mount_judged (blank len z) [] 0 (judge_fine (blank len z) [] 1 AlreadyMounted p 0 (bare_good (blank len z) p blank_good) (sym flag) (omega arith)).1; books = refl } in
      record {
        usable = record {
          staged = staged_flag p (blank len z) (fresh len z) (view len z) (kept_put_u16 (blank len z) 1054 1) staged;
          good = flag_keeps (blank len z) p 1 (omega arith) blank_good;
          mounted = flag_put (blank len z) 1 (good_room (blank len z) p blank_good);
        };
        promised = λ b e. (
          record { met = blank_formatted b e; only = λ s c h. formatted_one h (blank_formatted b e) },
          record { met = mounted; only = λ s c h. mounted_one (blank len z) [] s 0 c (fresh len z) h mounted },
        );
      }

-- those of the cards

pub fresh4 : Starts 5120 4
unfolding blank label formatted put_zone put_u16 put_u32 over zone_at u16_at u32_at find
fresh4 = start 5120 4 refl (omega arith) (omega arith) (omega arith) (omega arith) (omega arith) refl refl refl refl

pub fresh3 : Starts 5120 3
unfolding blank label formatted put_zone put_u16 put_u32 over zone_at u16_at u32_at find
fresh3 = start 5120 3 refl (omega arith) (omega arith) (omega arith) (omega arith) (omega arith) refl refl refl refl

pub fresh36 : Starts 9216 36
unfolding blank label formatted put_zone put_u16 put_u32 over zone_at u16_at u32_at find
fresh36 = start 9216 36 refl (omega arith) (omega arith) (omega arith) (omega arith) (omega arith) refl refl refl refl

-- ---- a new file

letters : (n : ℕ) → NewText (replicate n 65)
letters n k l =
    let e = get_or-replicate {A = ℕ} n k 65 0 (rw (length-replicate {A = ℕ} n 65) at l) in
    record { some = λ h. omega (arith, h, e); not_one = λ h. omega (arith, h, e); not_any = λ h. omega (arith, h, e) }

abbrev pub AllowedNamed : List ℕ → ℕ → ℕ → Type 0
AllowedNamed name flag size = FixedAllowed name (Some size) (Some flag) 0 card_date

abbrev pub Allowed : ℕ → ℕ → Type 0
Allowed = AllowedNamed (65 ∷ [])

pub allowed : (n flag size : ℕ) → 1 ≤ n → n ≤ 24 → flag % 4 ≡ 0 → 4 ≤ flag → flag ≤ 252 → 1 ≤ size → size ≤ 2147483647 → AllowedNamed (replicate n 65) flag size
allowed n flag size one many fours some six least most =
    let e = length-replicate {A = ℕ} n 65 in
    record {
      file = record { name' = record { some = rw e one; most = rw e many; text = letters n }; kind' = omega arith; date' = valid_date };
      counted = record { weights = fours; some = some; six = six; low = least; high = most };
    }

-- the one result that a promise allows: the answer r, and books that are usable again
pub record Makes {R : Type 0} (z : ℕ) (P : R → List ℕ → Type 0) (r : R) (b' : List ℕ) (w' : View) : Type 0 where
  pub usable : Usable z b' w'
  pub result : OneResult P r b'

module _ (z : ℕ) (b : List ℕ) (w : View) (u : Usable z b w) where
  abbrev p : Places
  p = fresh_places z 8

  pub used : flag_of b ≢ 0
  used e = omega (arith, e, u.mounted)

  pub no_room : (P : Type 0) (n : New) (counts : List ℕ) → P → roomy w counts ≡ false → OneResult (Creates (argument_tests b [] P) b counts n) (refused NoRoom) b
  unfolding roomy
  no_room P n counts a e = create_no_room b p P counts n u.good used a (λ h.
      (let enough = enough_ground (view_of p b) w (same_ground u.staged.same) (count_at counts) (supply_enough (view_of p b) u.staged.r2 u.staged.r3 (count_at counts) h) in
      omega (arith, leb-false (sum_to 6 (λ i. lack_of w (i + 3) (count_at counts (i + 3)))) (open_zones w) e, enough)))

  -- blocks of these counts after s, and the tables for them, can be had; each equation is computed
  pub provided : (f : ℕ) (counts : List ℕ) (s : Sight) → Ground w s.view → length counts ≡ 6 → roomy w counts ≡ true → leb (taken f counts s) w.free ≡ true
      → ProvidedWith nothing p b s.cursor.tail counts
  unfolding roomy taken
  provided f counts s ground six room tables =
      let v = view_of p b in
      let g = u.staged in
      let enough = enough_ground w v (ground_sym (same_ground g.same)) (count_at counts) (leb-true _ _ room) in
      let stocked : Stocked v (in_order counts) = record { r2 = g.r2; r3 = g.r3; typed = order_typed counts six; enough = order_enough v counts six enough } in
      let e = tables_shown p f b s (in_order counts) g.layout stocked (ground_trans (same_ground g.same) ground) in
      record { layout = g.layout; lawful = u.good.lawful; six = six; room = enough; tables = omega (arith, e, leb-true (taken f counts s) w.free tables, g.free) }

  module _ (P : Type 0) (n : New) (counts : List ℕ) (a : P) (new : NewLawful n counts × (length counts ≡ 6)) (few : ltb (length (in_order counts)) 1099511627776 ≡ true)
      (room : roomy w counts ≡ true) (tables : leb (taken w.head counts (started_view w n)) w.free ≡ true) where
    abbrev has : ProvidedWith nothing p b no_pointer counts
    unfolding started_view
    has = provided w.head counts (started_view w n) (record { zones = refl; zone = λ z lo hi. refl; bit = λ n l. refl }) new.1 room tables

    name : length n.name ≤ 24
    name = new.0.name.most

    date : length n.date ≡ 6
    date = new.0.date.long

    staged : Staged p (with_file z b n counts) (with_view w n counts)
    unfolding with_file with_view roomy taken
    staged = staged_created p b w n counts u.staged (record {
      name = name;
      date = date;
      six = new.1;
      few = ltb-true _ _ few;
      room = leb-true _ _ room;
      tables = leb-true _ _ tables;
    })

    result : OneResult (Creates (argument_tests b [] P) b counts n) (done (first_free_of b)) (with_file z b n counts)
    unfolding with_file
    result = create_done b p P counts n u.good used a has

    still_mounted : flag_of (with_file z b n counts) ≡ 1
    unfolding with_file
    still_mounted =
        rw (created_is p b n counts) (flag_turn p (first_free_of b) (started p b n) (in_order counts) (ready_start p b counts n has name date))
        ∙ (started_made p b n u.staged.layout (provided_head p b counts has) name date).flag
        ∙ u.mounted

    still_good : GoodWith nothing (with_file z b n counts) p
    unfolding with_file
    still_good = made_keeps b p n counts u.good has new.0

    pub makes : (id : ℕ) → w.head ≡ id → Makes z (Creates (argument_tests b [] P) b counts n) (done id) (with_file z b n counts) (with_view w n counts)
    makes id e = record {
      usable = record { staged = staged; good = still_good; mounted = still_mounted };
      result = rw (sym u.staged.same.head ∙ e) at result;
    }

-- one of fixed size
pub makes_fixed : (z : ℕ) (b : List ℕ) (w : View) (flag size : ℕ) → Usable z b w → Allowed flag size → ltb (length (in_order (counts_of flag size))) 1099511627776 ≡ true
    → roomy w (counts_of flag size) ≡ true → leb (taken w.head (counts_of flag size) (started_view w (plain_file 0 size))) w.free ≡ true
    → (id : ℕ) → w.head ≡ id → Makes z (Create b flag size) (done id) (with_fixed z b flag size) (with_fixed_view w flag size)
unfolding with_fixed with_fixed_view
makes_fixed z b w flag size u a = makes z b w u (Allowed flag size) (plain_file 0 size) (counts_of flag size) a (fixed_lawful (65 ∷ []) (Some size) (Some flag) 0 card_date a)

-- one block of type D, once it is chosen
pub added_D : (f : ℕ) (s : Sight) (k : Found) → choose s.view s.cursor.tail 4 ≡ k → in_turn (add_view f) (in_order one_d) s ≡ laid_view f 4 k s
unfolding in_order one_d only_if
added_D f s k e = one_added f 4 s k e

-- one of variable size, its cell of type D
module _ (w : View) (k : Found) (h : ℕ) (block : choose (started_view w (plain_file 1 0)).view no_pointer 4 ≡ k) (head : (laid_view w.head 4 k (started_view w (plain_file 1 0))).view.head ≡ h) where
  cell_view : with_view w (plain_file 1 0) one_d ≡ with_cell_view w k h
  unfolding with_view with_cell_view started_view
  cell_view =
      let s = started_view w (plain_file 1 0) in
      let v = (laid_view w.head 4 k s).view in
      ap (λ (x : Sight). x.view) (added_D w.head s k block) ∙ ap (λ (x : ℕ). with_tables v v.table x v.free) head

  pub makes_cell : (z : ℕ) (b : List ℕ) → Usable z b w → roomy w one_d ≡ true → leb (taken w.head one_d (started_view w (plain_file 1 0))) w.free ≡ true
      → (id : ℕ) → w.head ≡ id → Makes z (CreateCell b 4096) (done id) (with_cell z b) (with_cell_view w k h)
  unfolding with_cell cell_type block_bytes in_order only_if
  makes_cell z b u room tables id e =
      let file = (allowed 1 4 1 (omega arith) (omega arith) refl (omega arith) (omega arith) (omega arith) (omega arith)).file in
      let a : VariableAllowed (65 ∷ []) (Some 4096) 0 card_date = record { file = file; cell' = record { low = omega arith; high = omega arith } } in
      let m = makes z b w u (VariableAllowed (65 ∷ []) (Some 4096) 0 card_date) (plain_file 1 0) one_d a (variable_lawful (65 ∷ []) (Some 4096) 0 card_date a) refl room tables id e in
      record { usable = rw cell_view at m.usable; result = m.result }

-- ---- a table and a zone of the books are the view's

module _ (z : ℕ) (b : List ℕ) (w : View) (u : Usable z b w) where
  pub bytes : (f : ℕ) → 1 ≤ f → f ≤ 8 → file_bytes b f ≡ w.table f
  bytes f lo hi = ap (λ (p : Places). table_at p b f) (sym u.good.places) ∙ sym (u.staged.same.table f lo hi)

  pub pointers : (f : ℕ) → 1 ≤ f → f ≤ 8 → pointers_of b f ≡ pointers_in f (w.table f)
  pointers f lo hi = ap (pointers_in f) (bytes f lo hi)

  pub zone_free : (y : ℕ) → 1 ≤ y → y ≤ z → free_in b y ≡ (w.zone y).free
  zone_free y lo hi = ap (λ (p : Places). (zone_at p b y).free) (sym u.good.places) ∙ ap (λ (e : ZoneEntry). e.free) (sym (u.staged.same.zone y lo hi))

-- where a file's k-th sector is depends on the tables alone in which it and those before it are found
module _ (v w : View) (f : ℕ) where
  onward_same : (c : Spot) → v.table c.table.0 ≡ w.table c.table.0 → onward v c ≡ onward w c
  unfolding onward
  onward_same c e = rw e refl

  spot_same : (k : ℕ) → ((j : ℕ) → j < k → v.table (spot_of w f j).table.0 ≡ w.table (spot_of w f j).table.0) → spot_of v f k ≡ spot_of w f k
  unfolding spot_of
  spot_same zero h = refl
  spot_same (suc k) h = ap (onward v) (spot_same k (λ j l. h j (omega arith))) ∙ onward_same (spot_of w f k) (h k (omega arith))

  pub kth_same : (k : ℕ) → ((j : ℕ) → j < suc k → v.table (spot_of w f j).table.0 ≡ w.table (spot_of w f j).table.0) → kth_sector v f k ≡ kth_sector w f k
  unfolding kth_sector
  kth_same k h = rw (spot_same k (λ j l. h j (omega arith)), h k (omega arith)) refl
