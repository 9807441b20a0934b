-- The bench cards: each line of the table of specs/Cards.antt is computed on the view that shows its books.
use Rattle.std.specs.Prelude.{Some, Result, Ok, Err}
use mathlib.Core.Path.{◌≡◌, refl, sym, ap, ◌∙◌}
use mathlib.Core.Logic.{◌≢◌}
use mathlib.Core.List.{List, [], ◌∷◌}
use mathlib.Core.Bool.{Bool}
use Prim.Native.Nat.{ℕ, zero, suc, ◌%◌, ◌≤◌, ◌<◌}
use native.Mathlib.Omega.{arith}
use lib.ListN.{length, replicate}
use Rattle.field.specs.Numbers.{u16_at, u32_at, put_u32}
use Rattle.field.specs.Parts.{over}
use Rattle.tables.specs.Books.{GoodWith}
use Rattle.tables.specs.Gates.{asks, Gate}
use Rattle.tables.specs.Places.{places_of}
use Rattle.tables.specs.Zones.{put_zone}
use Rattle.tables.specs.Indexes.{table_at, word_of, length_of, attribute_of, slots_of, base_of}
use Rattle.tables.specs.Sector1.{first_free_of, flag_of}
use Rattle.tables.specs.Views.{View, view_of}
use Rattle.tables.specs.Counts.{counts_of}
use Rattle.tables.specs.Format.{fresh_places, formatted}
use Rattle.tables.specs.Rules.R7.{nothing}
use Rattle.tables.proofs.GateLaws.{gate_fails, gate_passes, gate_end, gate_skip, good_gate}
use Rattle.allocation.specs.NextPointer.{no_pointer}
use Rattle.allocation.specs.NewTables.{New}
use Rattle.allocation.specs.MadeFiles.{ProvidedWith}
use Rattle.files.specs.Moves.{moved, sector_content, fetched}
use Rattle.files.specs.Spots.{spot_of, kth_sector}
use Rattle.requests.specs.Answers.{use_tests, argument_tests}
use Rattle.requests.specs.Body.{BodySized}
use Rattle.requests.specs.Named.{file_bytes, state_tests, usable_tests}
use Rattle.requests.specs.Read.{read_tests, read_amount, read_out, ReadOut}
use Rattle.requests.specs.Moving.{whole_sectors, end_of, MoveAllowed}
use Rattle.requests.proofs.CreateKeeps.{creates_asks, fixed_lawful}
use Rattle.requests.proofs.ReadLaws.{read_one}
use Rattle.histories.specs.Cards.{OneResult, done, refused, card_date, pointers_in, run, CreateNamed, Create, ReadGives, label, blank, fresh, after5, after6, after8, after9, after10, grown2, deleted1, joined2, Cards}
use Rattle.histories.proofs.CreateAnswers.{bare_good, create_bad, create_done}
use Rattle.histories.proofs.InterleavedCards.{view_grown2, view_deleted1, view_joined2, making1, making2, growing1, growing2, removing1, deleting1, joining2, tables12, zone12, table13, zones13}
use Rattle.histories.proofs.CardBooks.{view, with_fixed_view, roomy, taken, fresh4, fresh3, fresh36, AllowedNamed, Allowed, allowed, Makes, no_room, makes_fixed, bytes, pointers, zone_free, kth_same}
use Rattle.tables.specs.declared.refusal.Refusal.{Refusal}
use Rattle.tables.specs.declared.refusal.Refusal.TheVariants.{NoRoom, PastEnd, BadArgument}

-- ---- the views in turn

view5 : View
unfolding with_fixed_view view
view5 = with_fixed_view (view 5120 4) 252 5000

view6 : View
unfolding with_fixed_view view5
view6 = with_fixed_view view5 252 1

view8 : View
unfolding with_fixed_view view6
view8 = with_fixed_view view6 4 20480

view9 : View
unfolding with_fixed_view view
view9 = with_fixed_view (view 5120 3) 4 5000

view10 : View
unfolding with_fixed_view view
view10 = with_fixed_view (view 9216 36) 128 33554432

-- ---- what create makes of the books

-- the default
all_types : (size : ℕ) → 1 ≤ size → size ≤ 2147483647 → Allowed 252 size
all_types size = allowed 1 252 size (omega arith) (omega arith) refl (omega arith) (omega arith)

only_C : (size : ℕ) → 1 ≤ size → size ≤ 2147483647 → Allowed 4 size
only_C size = allowed 1 4 size (omega arith) (omega arith) refl (omega arith) (omega arith)

only_H : (size : ℕ) → 1 ≤ size → size ≤ 2147483647 → Allowed 128 size
only_H size = allowed 1 128 size (omega arith) (omega arith) refl (omega arith) (omega arith)

made5 : Makes 4 (Create (fresh 5120 4) 252 5000) (done 1) after5 view5
unfolding after5 view5 view roomy taken
made5 = makes_fixed 4 (fresh 5120 4) (view 5120 4) 252 5000 fresh4.usable (all_types 5000 (omega arith) (omega arith)) refl refl refl 1 refl

made6 : Makes 4 (Create after5 252 1) (done 2) after6 view6
unfolding after6 view6 view5 roomy taken blank formatted label put_zone table_at put_u32 over
made6 = makes_fixed 4 after5 view5 252 1 made5.usable (all_types 1 (omega arith) (omega arith)) refl refl refl 2 refl

refused7 : OneResult (Create after6 252 20480) (refused NoRoom) after6
unfolding view6 roomy counts_of
refused7 = no_room 4 after6 view6 made6.usable _ _ _ (all_types 20480 (omega arith) (omega arith)) refl

made8 : Makes 4 (Create after6 4 20480) (done 3) after8 view8
unfolding after8 view8 view6 roomy taken blank formatted label put_zone table_at put_u32 over
made8 = makes_fixed 4 after6 view6 4 20480 made6.usable (only_C 20480 (omega arith) (omega arith)) refl refl refl 3 refl

refused9 : OneResult (Create (fresh 5120 3) 252 5000) (refused NoRoom) (fresh 5120 3)
unfolding view roomy counts_of
refused9 = no_room 3 (fresh 5120 3) (view 5120 3) fresh3.usable _ _ _ (all_types 5000 (omega arith) (omega arith)) refl

made9 : Makes 3 (Create (fresh 5120 3) 4 5000) (done 1) after9 view9
unfolding after9 view9 view roomy taken
made9 = makes_fixed 3 (fresh 5120 3) (view 5120 3) 4 5000 fresh3.usable (only_C 5000 (omega arith) (omega arith)) refl refl refl 1 refl

made10 : Makes 36 (Create (fresh 9216 36) 128 33554432) (done 1) after10 view10
unfolding after10 view10 view roomy taken
made10 = makes_fixed 36 (fresh 9216 36) (view 9216 36) 128 33554432 fresh36.usable (only_H 33554432 (omega arith) (omega arith)) refl refl refl 1 refl

abbrev good5 : GoodWith nothing after5 (fresh_places 4 8)
good5 = made5.usable.good

-- ---- names

-- what P5's file takes, a file of its size takes under any name
provided5 : ProvidedWith nothing (fresh_places 4 8) (fresh 5120 4) no_pointer (counts_of 252 5000)
provided5 =
    let g = fresh4.usable.good in
    let promise = made5.result.met in
    let asked = creates_asks (fresh 5120 4) [] (Allowed 252 5000) _ _ (done 1) after5 (rw g.places at g) (fixed_lawful (65 ∷ []) (Some 5000) (Some 252) 0 card_date) promise refl in
    rw g.places asked.1

used4 : flag_of (fresh 5120 4) ≢ 0
used4 e = omega (arith, e, fresh4.usable.mounted)

long_name : (b : List ℕ) × OneResult (CreateNamed (replicate 24 65) (fresh 5120 4) 252 5000) (done 1) b
unfolding view
long_name =
    let a = allowed 24 252 5000 (omega arith) (omega arith) refl (omega arith) (omega arith) (omega arith) (omega arith) in
    let e : first_free_of (fresh 5120 4) ≡ 1 = sym fresh4.usable.staged.same.head in
    let n : New = record { name = replicate 24 65; date = card_date; length = 5000; attribute = 0 } in
    (_, rw e at (create_done (fresh 5120 4) (fresh_places 4 8) (AllowedNamed (replicate 24 65) 252 5000) (counts_of 252 5000) n fresh4.usable.good used4 a provided5))

longer_name : OneResult (CreateNamed (replicate 25 65) (fresh 5120 4) 252 5000) (refused BadArgument) (fresh 5120 4)
longer_name = create_bad (fresh 5120 4) (fresh_places 4 8) _ _ _ fresh4.usable.good used4 (λ a. omega (arith, a.file.name'.most))

-- ---- what read finds in the books after P5

bytes5 : file_bytes after5 1 ≡ view5.table 1
bytes5 = bytes 4 after5 view5 made5.usable 1 (omega arith) (omega arith)

fields5 : (word_of (view5.table 1) ≡ 1) × (length_of (view5.table 1) ≡ 5000) × (attribute_of (view5.table 1) ≡ 0)
unfolding view5 u16_at u32_at
fields5 = (refl, refl, refl)

end5 : end_of after5 1 ≡ 5120
end5 = rw (bytes5, fields5.1) refl

spots5 : (j : ℕ) → j < 5 → (spot_of view5 1 j).table.0 ≡ 1
unfolding view5 spot_of slots_of base_of u16_at u32_at
spots5 zero l = refl
spots5 (suc zero) l = refl
spots5 (suc (suc zero)) l = refl
spots5 (suc (suc (suc zero))) l = refl
spots5 (suc (suc (suc (suc zero)))) l = refl
spots5 (suc (suc (suc (suc (suc j))))) l = absurd (omega arith)

fifth5 : kth_sector view5 1 4 ≡ 2048
unfolding view5 kth_sector slots_of base_of u16_at u32_at
fifth5 = refl

kth5 : kth_sector (view_of (places_of after5) after5) 1 4 ≡ 2048
kth5 = kth_same (view_of (places_of after5) after5) view5 1 4 (λ j l. rw (spots5 j l) bytes5) ∙ fifth5

-- no number before 14 applies
read5 : (at long n : ℕ) → at ≤ 2147483647 → at % 1024 ≡ 0 → long ≤ 2147483647 → Gate (asks 14 (at < end_of after5 1) ∷ []) n
    → (body out : List ℕ) → BodySized after5 body → whole_sectors long ≤ length out → Gate (read_tests after5 [] body 1 (Some at) (Some long) (length out)) n
unfolding read_tests argument_tests use_tests usable_tests state_tests
read5 at long n few whole short last body out sized room =
    let fine : MoveAllowed (Some at) (Some long) (length out) = record { position' = few; sector = whole; long' = short; buffer = room } in
    let word = ap word_of bytes5 ∙ fields5.0 in
    let attribute = ap attribute_of bytes5 ∙ fields5.2 in
    gate_skip (argument_tests after5 [] (MoveAllowed (Some at) (Some long) (length out))) _ 0 n
    (gate_skip (use_tests after5 []) _ 0 0 (good_gate after5 [] (fresh_places 4 8) _ 0 (bare_good after5 (fresh_places 4 8) good5) (gate_passes 5 _ [] 0 (λ z. omega (arith, z, made5.usable.mounted)) gate_end)) refl (gate_passes 7 _ [] 0 fine gate_end))
    refl
    (gate_passes 15 _ _ n sized
    (gate_passes 8 _ _ n (record { low = omega arith; high = good5.placed.limits.some; word = word })
    (gate_passes 9 _ _ n (rw attribute refl)
    (gate_passes 10 _ _ n (rw attribute refl) last))))

amount5 : (read_amount after5 1 4096 2048 ≡ 1024) × (read_amount after5 1 0 1023 ≡ 0)
unfolding read_amount
amount5 = (rw end5 refl, rw end5 refl)

output5 : (exchange : Bool) (body out : List ℕ) → read_out after5 body 1 4096 1024 exchange out ≡ over out 0 (moved exchange (sector_content body 2048))
unfolding fetched
output5 exchange body out = ap (λ (s : ℕ). over out 0 (moved exchange (sector_content body s))) kth5

one_read : (b : List ℕ) (at long : ℕ) (exchange : Bool) (body out : List ℕ) (r : Result ℕ Refusal) (out' : List ℕ) → ReadOut b [] body 1 (Some at) (Some long) exchange out r out'
    → OneResult (ReadOut b [] body 1 (Some at) (Some long) exchange out) r out'
one_read b at long exchange body out r out' h = record { met = h; only = λ s o k. read_one b [] body 1 (Some at) (Some long) exchange out s r o out' k h }

last_sector : ReadGives after5 4096 2048 (Ok 1024) (λ exchange body out. over out 0 (moved exchange (sector_content body 2048)))
last_sector exchange body out sized room = one_read after5 4096 2048 exchange body out (Ok 1024) (over out 0 (moved exchange (sector_content body 2048))) (record {
  number = read5 4096 2048 0 (omega arith) refl (omega arith) (gate_passes 14 _ [] 0 (rw end5 (omega arith)) gate_end) body out sized room;
  answer = sym amount5.0;
  output = sym (ap (λ (n : ℕ). read_out after5 body 1 4096 n exchange out) amount5.0 ∙ output5 exchange body out);
})

past_end : ReadGives after5 5120 2048 (Err PastEnd) (λ exchange body out. out)
past_end exchange body out sized room = one_read after5 5120 2048 exchange body out (Err PastEnd) out (record {
  number = read5 5120 2048 14 (omega arith) refl (omega arith) (gate_fails 14 _ [] (omega arith) (λ l. omega (arith, l, end5))) body out sized room;
  answer = tt;
  output = refl;
})

no_bytes : ReadGives after5 0 1023 (Ok 0) (λ exchange body out. out)
unfolding fetched
no_bytes exchange body out sized room = one_read after5 0 1023 exchange body out (Ok 0) out (record {
  number = read5 0 1023 0 (omega arith) refl (omega arith) (gate_passes 14 _ [] 0 (rw end5 (omega arith)) gate_end) body out sized room;
  answer = sym amount5.1;
  output = sym (ap (λ (n : ℕ). read_out after5 body 1 0 n exchange out) amount5.1);
})

-- ---- the cards

table5 : pointers_in 1 (view5.table 1) ≡ run 1024 4 ∷ run 2048 1 ∷ []
unfolding view5 pointers_in base_of slots_of u16_at u32_at
table5 = refl

zones5 : ((view5.zone 2).free ≡ 255) × ((view5.zone 3).free ≡ 1023)
unfolding view5
zones5 = (refl, refl)

table6 : pointers_in 2 (view6.table 2) ≡ run 2049 1 ∷ []
unfolding view6 pointers_in base_of slots_of u16_at u32_at blank formatted label put_zone table_at put_u32 over
table6 = refl

table8 : pointers_in 3 (view8.table 3) ≡ run 2050 20 ∷ []
unfolding view8 pointers_in base_of slots_of u16_at u32_at blank formatted label put_zone table_at put_u32 over
table8 = refl

table9 : pointers_in 1 (view9.table 1) ≡ run 1024 5 ∷ []
unfolding view9 pointers_in base_of slots_of u16_at u32_at
table9 = refl

table10 : pointers_in 1 (view10.table 1) ≡ run 1024 31744 ∷ run 32768 1024 ∷ []
unfolding view10 pointers_in base_of slots_of u16_at u32_at
table10 = refl

pub cards : Cards
unfolding counts_of
cards = record {
  fresh' = (fresh4.promised, fresh3.promised, fresh36.promised);
  p1 = refl;
  p2 = refl;
  p3 = refl;
  p4 = refl;
  p5 = (
    made5.result,
    pointers 4 after5 view5 made5.usable 1 (omega arith) (omega arith) ∙ table5,
    zone_free 4 after5 view5 made5.usable 2 (omega arith) (omega arith) ∙ zones5.0,
    zone_free 4 after5 view5 made5.usable 3 (omega arith) (omega arith) ∙ zones5.1,
  );
  p6 = (made6.result, pointers 4 after6 view6 made6.usable 2 (omega arith) (omega arith) ∙ table6);
  p7 = refused7;
  p8 = (made8.result, pointers 4 after8 view8 made8.usable 3 (omega arith) (omega arith) ∙ table8);
  p9 = (refused9, made9.result, pointers 3 after9 view9 made9.usable 1 (omega arith) (omega arith) ∙ table9);
  p10 = (made10.result, pointers 36 after10 view10 made10.usable 1 (omega arith) (omega arith) ∙ table10);
  p11 = (last_sector, past_end, no_bytes);
  p12 = (
    making1.result,
    making2.result,
    growing1.result,
    growing2.result,
    pointers 4 grown2 view_grown2 growing2.usable 1 (omega arith) (omega arith) ∙ tables12.0,
    pointers 4 grown2 view_grown2 growing2.usable 2 (omega arith) (omega arith) ∙ tables12.1,
    zone_free 4 grown2 view_grown2 growing2.usable 2 (omega arith) (omega arith) ∙ zone12,
  );
  p13 = (
    removing1.1,
    deleting1.1,
    zone_free 4 deleted1 view_deleted1 deleting1.0 2 (omega arith) (omega arith) ∙ zones13.0,
    joining2.result,
    pointers 4 joined2 view_joined2 joining2.usable 2 (omega arith) (omega arith) ∙ table13,
    zone_free 4 joined2 view_joined2 joining2.usable 2 (omega arith) (omega arith) ∙ zones13.1,
  );
  names = (long_name, longer_name);
}
