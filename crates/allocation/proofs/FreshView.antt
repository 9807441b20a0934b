-- New files on books that hold none, followed on a view that computes. Of the books only zones, sectors and the free chain are asked for; the
-- view has the books' own index tables.
use mathlib.Core.Path.{◌≡◌, refl, sym, ap, ◌∙◌}
use mathlib.Core.Bool.{cond}
use mathlib.Core.Logic.{inl, ⊎_elim}
use mathlib.Core.List.{List, [], ◌∷◌}
use Prim.Native.Nat.{ℕ, ◌+◌, ◌-◌, ◌*◌, ◌/◌, ◌%◌, ◌≤◌, ◌<◌}
use native.Mathlib.Decide.{ℕ_discrete, dec_lt}
use native.Mathlib.Omega.{arith}
use borrow.Author.Tests.{eq-eqb, ne_eqb, lt-ltb, le-ltb, ltb-false}
use lib.Dec.{eqb, ltb}
use lib.ListN.{length}
use Rattle.field.specs.Kept.{Kept}
use Rattle.field.proofs.Frames.{kept_wider}
use Rattle.field.proofs.NumberLaws.{u32_kept}
use Rattle.tables.specs.declared.places.Places.{Places}
use Rattle.tables.specs.declared.zone.ZoneEntry.{ZoneEntry}
use Rattle.tables.specs.Format.{Label, Formattable, Writable, fresh_places, formatted}
use Rattle.tables.specs.Indexes.{table_at, system_bit, directory_bit}
use Rattle.tables.specs.Places.{Layout}
use Rattle.tables.specs.Room.{count_at, Enough}
use Rattle.tables.specs.Same.{Same, Ground}
use Rattle.tables.specs.Sector1.{free_of, first_free_of}
use Rattle.tables.specs.Views.{View, view_of}
use Rattle.tables.specs.Zones.{zone_at}
use Rattle.tables.specs.Rules.R2.{Reads, Untyped, ZoneLaw, R2}
use Rattle.tables.specs.Rules.R3.{R3}
use Rattle.tables.specs.Rules.R9.{free_one}
use Rattle.tables.proofs.SameLaws.{ground_R2, ground_R3, same_ground, same_R4, same_tally}
use Rattle.tables.proofs.FrameLaws.{sector1_same}
use Rattle.tables.proofs.FormatLaws.{format_length, format_lawful}
use Rattle.tables.proofs.FormatStepLaws.{fresh_layout}
use Rattle.allocation.specs.declared.tail.Tail.{Tail}
use Rattle.allocation.specs.Find.{find}
use Rattle.allocation.specs.Choice.{in_order, in_turn}
use Rattle.allocation.specs.NextPointer.{no_pointer}
use Rattle.allocation.specs.Plans.{tables_for}
use Rattle.allocation.specs.NewTables.{New}
use Rattle.allocation.specs.Growth.{Growth, add_block}
use Rattle.allocation.specs.MadeFiles.{started, created}
use Rattle.allocation.specs.Stock.{Stocked}
use Rattle.allocation.specs.Ready.{Head, Chained, Ready}
use Rattle.allocation.specs.Steps.{Made}
use Rattle.allocation.proofs.FindLaws.{find_none}
use Rattle.allocation.proofs.TurnLaws.{turn_none, turn_step}
use Rattle.allocation.proofs.OrderLaws.{order_typed, order_enough}
use Rattle.allocation.proofs.NextGround.{ground_sym, ground_trans, enough_ground}
use Rattle.allocation.proofs.FileLaws.{chained_lawful, started_cursor, started_made, begun_head, begun_ready}
use Rattle.allocation.proofs.ReadyLaws.{ready_step}
use Rattle.allocation.proofs.ViewGrowth.{Sight, add_view, started_view, same_made, Shows, shows_turn, tables_shown}

-- ---- definitions

-- zone z of zs: two system zones, the others untyped
unfoldable pub fresh_zone : ℕ → ℕ → ZoneEntry
fresh_zone zs z =
    cond (eqb z 1) (record { ztype = 1; free = 65535; third = zs }) (cond (eqb z zs) (record { ztype = 65535; free = 65535; third = 1 }) (record { ztype = 0; free = 0; third = 0 }))

-- sector s of zs zones: set in the system zones
unfoldable pub fresh_bit : ℕ → ℕ → ℕ
fresh_bit zs s = cond (ltb s 1024) 1 (cond (ltb s (1024 * (zs - 1))) 0 1)

-- Z zones, N index tables with the bytes given, the first of them the first free one
unfoldable pub fresh_view : ℕ → ℕ → (ℕ → List ℕ) → View
unfolding fresh_zone fresh_bit
fresh_view zs n table = record {
  zones = zs;
  indexes = n;
  zone = fresh_zone zs;
  bit = fresh_bit zs;
  table = table;
  active = 0;
  deleted = 0;
  free = n;
  system = 0;
  directory = 0;
  head = 1;
  flag = 0;
}

-- what `created` comes to, the new file being f
unfoldable pub created_view : ℕ → View → New → List ℕ → View
unfolding in_turn in_order add_view started_view
created_view f w n counts = (in_turn (add_view f) (in_order counts) (started_view w n)).view

-- ---- books whose zones are untyped show the fresh view

entry_is : (e : ZoneEntry) (t f h : ℕ) → Reads e t f h → e ≡ record { ztype = t; free = f; third = h }
entry_is e t f h r = rw (r.ztype, r.free, r.third) refl

module _ (v : View) (many : 3 ≤ v.zones) (r2 : R2 v) (none : (z : ℕ) → z < v.zones → 2 ≤ z → (v.zone z).ztype ≡ 0) where
  law : (z : ℕ) → 1 ≤ z → z ≤ v.zones → ZoneLaw v z
  law z lo hi = r2 z (omega arith) lo

  untyped : (z : ℕ) → z < v.zones → 2 ≤ z → Untyped v z
  untyped z hi lo = ⊎_elim (λ u. u) (λ u. absurd (omega (arith, u.typed.low, none z hi lo))) ((law z (omega arith) (omega arith)).other lo hi)

  fresh_zone_lem : (z : ℕ) → 1 ≤ z → z ≤ v.zones → fresh_zone v.zones z ≡ v.zone z
  unfolding fresh_zone
  fresh_zone_lem z lo hi = elim (ℕ_discrete z 1) [
    | yes e ↦ rw (eq-eqb z 1 e) (sym (entry_is _ _ _ _ ((law z lo hi).first e).0))
    | no ne ↦ rw (ne_eqb z 1 ne) (elim (ℕ_discrete z v.zones) [
      | yes e ↦ rw (eq-eqb z v.zones e) (sym (entry_is _ _ _ _ ((law z lo hi).last e).0))
      | no nl ↦ rw (ne_eqb z v.zones nl) (sym (entry_is _ _ _ _ (untyped z (omega arith) (omega arith)).reads))
    ])
  ]

  fresh_bit_lem : (s : ℕ) → s < 1024 * v.zones → fresh_bit v.zones s ≡ v.bit s
  unfolding fresh_bit
  fresh_bit_lem s l = elim (dec_lt s 1024) [
    | yes h ↦
        let e : 1024 * (1 - 1) + s ≡ s = omega arith in
        rw (lt-ltb s 1024 h) (sym (ap v.bit (sym e) ∙ ((law 1 (omega arith) (omega arith)).first refl).1 s h))
    | no h ↦ rw (le-ltb s 1024 (omega arith)) (elim (dec_lt s (1024 * (v.zones - 1))) [
      | yes q ↦
          let e : 1024 * (s / 1024 + 1 - 1) + s % 1024 ≡ s = omega arith in
          rw (lt-ltb s (1024 * (v.zones - 1)) q) (sym (rw e at ((untyped (s / 1024 + 1) (omega arith) (omega arith)).clear (s % 1024) (omega arith))))
      | no q ↦
          let e : 1024 * (v.zones - 1) + (s - 1024 * (v.zones - 1)) ≡ s = omega arith in
          rw (le-ltb s (1024 * (v.zones - 1)) (omega arith)) (sym (rw e at (((law v.zones (omega arith) (omega arith)).last refl).1 (s - 1024 * (v.zones - 1)) (omega arith))))
    ])
  ]

  pub fresh_same : v.head ≡ 1 → Same v (fresh_view v.zones v.indexes v.table)
  unfolding fresh_view
  fresh_same head = record { zones = refl; indexes = refl; zone = fresh_zone_lem; bit = fresh_bit_lem; table = λ i lo hi. refl; head = sym head }

-- ---- a new file

pub created_is : (p : Places) (b : List ℕ) (n : New) (counts : List ℕ) → created p b n counts ≡ (in_turn (add_block p (first_free_of b)) (in_order counts) (started p b n)).books
unfolding created
created_is p b n counts = refl

created_view_is : (f : ℕ) (w : View) (n : New) (counts : List ℕ) → created_view f w n counts ≡ (in_turn (add_view f) (in_order counts) (started_view w n)).view
unfolding created_view
created_view_is f w n counts = refl

-- a parent is no matter of zones and sectors, and one free table fewer is left
started_ground : (w : View) (n : New) → Ground w (started_view w n).view
unfolding started_view
started_ground w n = record { zones = refl; zone = λ z lo hi. refl; bit = λ s l. refl }

started_free : (w : View) (n : New) → (started_view w n).view.free ≡ w.free - 1
unfolding started_view
started_free w n = refl

started_tail : (w : View) (n : New) → (started_view w n).cursor.tail ≡ no_pointer
unfolding started_view
started_tail w n = refl

by_head : (p : Places) (g : Growth) (f h : ℕ) (ts : List ℕ) (s : Sight) → f ≡ h → Shows p g (in_turn (add_view f) ts s) → Shows p g (in_turn (add_view h) ts s)
by_head p g f h ts s e x = rw (sym e) x

ready_all : (p : Places) (f : ℕ) (g : Growth) (ts : List ℕ) → Ready p f g ts → Ready p f (in_turn (add_block p f) ts g) []
ready_all p f g [] h = rw (turn_none (add_block p f) g) h
ready_all p f g (t ∷ ts) h = rw (turn_step (add_block p f) t ts g) (ready_all p f (add_block p f t g) ts (ready_step p f g t ts h))

-- books on which files can be made, and a view that shows them
pub record Staged (p : Places) (b : List ℕ) (w : View) : Type 0 where
  pub layout : Layout p (length b)
  pub r2 : R2 (view_of p b)
  pub r3 : R3 (view_of p b)
  pub chained : Chained p b
  pub same : Same (view_of p b) w
  pub free : w.free ≡ free_of b

-- what a new file asks of the view
pub record Asked (w : View) (n : New) (counts : List ℕ) : Type 0 where
  pub name : length n.name ≤ 24
  pub date : length n.date ≡ 6
  pub six : length counts ≡ 6
  pub few : length (in_order counts) < 1099511627776
  pub room : Enough w (count_at counts)
  pub tables : (in_turn (add_view w.head) (in_order counts) (started_view w n)).cursor.tail.tables ≤ w.free

module _ (p : Places) (b : List ℕ) (w : View) (n : New) (counts : List ℕ) (s : Staged p b w) (a : Asked w n counts) where
  abbrev f : ℕ
  f = first_free_of b

  abbrev ts : List ℕ
  ts = in_order counts

  stocked : Stocked (view_of p b) ts
  stocked = record {
    r2 = s.r2;
    r3 = s.r3;
    typed = order_typed counts a.six;
    enough = order_enough (view_of p b) counts a.six (enough_ground w (view_of p b) (ground_sym (same_ground s.same)) (count_at counts) a.room);
  }

  tables : tables_for p b no_pointer ts ≤ free_of b
  tables =
      let e = tables_shown p w.head b (started_view w n) ts s.layout stocked (ground_trans (same_ground s.same) (started_ground w n)) in
      omega (arith, ap (λ (l : Tail). tables_for p b l ts) (started_tail w n), e, a.tables, s.free)

  abbrev head : Head p b
  head = begun_head p b ts n s.layout stocked s.chained a.few tables a.name a.date

  abbrev made : Made (view_of p b) (view_of p (started p b n).books) n (system_bit n.attribute) (directory_bit n.attribute)
  made = started_made p b n s.layout head a.name a.date

  abbrev ready : Ready p f (started p b n) ts
  ready = begun_ready p b ts n s.layout stocked s.chained a.few tables a.name a.date

  shown : Shows p (started p b n) (started_view w n)
  unfolding started_view
  shown = record {
    same = same_made (view_of p b) w (view_of p (started p b n).books) s.same n _ _ head.low head.high made;
    free = started_free w n ∙ ap (λ (k : ℕ). k - 1) s.free ∙ sym made.free;
    cursor = ap (λ (h : ℕ). record { tail = no_pointer; table = record { 0 = h } }) s.same.head ∙ sym (started_cursor p b n);
  }

  pub staged_created : Staged p (created p b n counts) (created_view w.head w n counts)
  staged_created =
      let g = in_turn (add_block p f) ts (started p b n) in
      let e = by_head p g f w.head ts (started_view w n) (sym s.same.head) (shows_turn p f (started p b n) (started_view w n) ts shown ready) in
      let r = ready_all p f (started p b n) ts ready in
      rw (created_is p b n counts, created_view_is w.head w n counts)
      (record { layout = r.layout; r2 = r.stocked.r2; r3 = r.stocked.r3; chained = r.chained; same = e.same; free = e.free })

-- ---- formatted books

-- no zone but the system zones has a type: the first that has one comes after the last of them
pub none_typed : (p : Places) (b : List ℕ) → 3 ≤ p.zones → find (λ z. ltb 0 (zone_at p b z).ztype) (p.zones - 2) 2 ≡ p.zones
    → (z : ℕ) → z < p.zones → 2 ≤ z → (zone_at p b z).ztype ≡ 0
none_typed p b many e z hi lo = omega (arith, ltb-false 0 (zone_at p b z).ztype (find_none (λ z. ltb 0 (zone_at p b z).ztype) (p.zones - 2) 2 z (rw e hi) lo))

pub staged_fresh : (len z n : ℕ) (l : Label) → 5120 ≤ len → len ≤ 1048576 → Formattable len z n → Writable l
    → let p = fresh_places z n in let b = formatted len z n l in
    find (λ y. ltb 0 (zone_at p b y).ztype) (z - 2) 2 ≡ z → first_free_of b ≡ 1 → free_of b ≡ n → Staged p b (fresh_view z n (table_at p b))
unfolding fresh_view
staged_fresh len z n l long small f w none head free =
    let p = fresh_places z n in
    let b = formatted len z n l in
    let h = format_lawful len z n l long small f w in
    record {
      layout = rw (format_length len z n l long f w) (fresh_layout len z n small f);
      r2 = h.r2;
      r3 = h.r3;
      chained = chained_lawful p b h;
      same = fresh_same (view_of p b) f.least h.r2 (none_typed p b f.least none) head;
      free = sym free;
    }

-- the flag plays no part
pub staged_flag : (p : Places) (b b' : List ℕ) (w : View) → Kept b b' 1054 2 → Staged p b w → Staged p b' w
staged_flag p b b' w k s =
    let c = sector1_same b b' (kept_wider k (omega arith) (omega arith)) p s.layout (u32_kept 1050 k (inl (omega arith))) in
    let a = s.same in
    let free = u32_kept 1036 k (inl (omega arith)) in
    record {
      layout = rw k.len s.layout;
      r2 = ground_R2 (view_of p b) (view_of p b') (same_ground c) s.r2;
      r3 = ground_R3 (view_of p b) (view_of p b') (same_ground c) s.r3;
      chained = record { r4 = same_R4 (view_of p b) (view_of p b') c s.chained.r4; free = free ∙ s.chained.free ∙ sym (same_tally (view_of p b) (view_of p b') c free_one) };
      same = record {
        zones = a.zones;
        indexes = a.indexes;
        zone = λ z lo hi. a.zone z lo hi ∙ sym (c.zone z lo hi);
        bit = λ n l. a.bit n l ∙ sym (c.bit n l);
        table = λ i lo hi. a.table i lo hi ∙ sym (c.table i lo hi);
        head = a.head ∙ sym c.head;
      };
      free = s.free ∙ sym free;
    }
