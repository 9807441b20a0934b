-- Formatted books have the mark, the sizes and the places that were asked for, and break no rule.
use mathlib.Core.Path.{◌≡◌, refl, ap, ◌∙◌}
use mathlib.Core.Logic.{◌⊎◌, inl, inr, ⊎_elim}
use Prim.Native.Nat.{ℕ, ◌+◌, ◌-◌, ◌*◌, ◌/◌, ◌≤◌, ◌<◌}
use native.Mathlib.Decide.{dec_lt}
use native.Mathlib.Omega.{arith}
use mathlib.Core.List.{List}
use lib.ListN.{get_or, length, replicate, length-replicate}
use Rattle.field.specs.Kept.{Kept, Apart}
use Rattle.field.specs.Numbers.{u16_at, u32_at}
use Rattle.field.specs.Bits.{bit_at}
use Rattle.field.specs.Parts.{AllBytes}
use Rattle.field.proofs.Frames.{kept_trans, kept_wider}
use Rattle.field.proofs.NumberLaws.{u16_kept, u32_kept, get_d_part, u32_part, get_d_zeros, u16_zeros, u32_zeros}
use Rattle.field.proofs.BitLaws.{bit_kept}
use Rattle.tables.specs.declared.places.Places.{Places}
use Rattle.tables.specs.declared.zone.ZoneEntry.{ZoneEntry}
use Rattle.tables.specs.Places.{places_of}
use Rattle.tables.specs.Zones.{zone_at}
use Rattle.tables.specs.Indexes.{table_at, word_of, link_of}
use Rattle.tables.specs.Views.{view_of}
use Rattle.tables.specs.Books.{Marked, Placed}
use Rattle.tables.specs.Lawful.{LawfulWith}
use Rattle.tables.specs.Rules.R7.{nothing}
use Rattle.tables.specs.Rules.R1.{Tails}
use Rattle.tables.specs.Rules.R2.{Reads}
use Rattle.tables.specs.Format.{Label, Formattable, Writable, fresh_places, put_label, put_sizes, put_starts, put_status, put_system_zones, put_links, formatted}
use Rattle.tables.proofs.PlaceLaws.{zone_room, sector_room, index_room}
use Rattle.tables.proofs.ZoneEntryLaws.{zone_kept, zone_zeros}
use Rattle.tables.proofs.FreshLaws.{Fresh, fresh_R2, fresh_R3, fresh_R4, fresh_R5, fresh_R6, fresh_R7, fresh_R8, fresh_R9}
use Rattle.tables.proofs.FormatReadLaws.{Tables, Sizes, Starts, Status, kept_label, kept_sizes, sizes_are, kept_starts, starts_are, kept_status, status_is, kept_system, system_tails, system_first, system_last, system_other, system_bits, clear_bits, kept_links, links_out, links_word, links_at}

reads_is : {e : ZoneEntry} {t f h : ℕ} → e ≡ record { ztype = t; free = f; third = h } → Reads e t f h
reads_is q = record { ztype = ap (λ (x : ZoneEntry). x.ztype) q; free = ap (λ (x : ZoneEntry). x.free) q; third = ap (λ (x : ZoneEntry). x.third) q }

places_are : {z z' n n' a a' b b' c c' : ℕ} → z ≡ z' → n ≡ n' → a ≡ a' → b ≡ b' → c ≡ c'
    → ◌≡◌ {A = Places} (record { zones = z; indexes = n; zonetable = a; sectortable = b; indextable = c }) (record { zones = z'; indexes = n'; zonetable = a'; sectortable = b'; indextable = c' })
places_are d e f g h = cc

-- ---- the readings of a free table within the books

-- tables that do not touch: a link of table m + 1 is no byte of table i's other bytes
apart_links : (start i m o k : ℕ) → o + k ≤ 124 → Apart (start + 128 * (i - 1) + o) k (start + 128 * m + 124) 4
apart_links start i m o k h = elim (dec_lt m (i - 1)) [ yes q ↦ inr (omega arith) | no q ↦ inl (omega arith) ]

module _ (len z n : ℕ) (l : Label) (long : 5120 ≤ len) (f : Formattable len z n) (w : Writable l) where
  abbrev p : Places
  p = fresh_places z n

  -- the books after each writer
  abbrev blank : List ℕ
  blank = replicate len 0

  labelled : List ℕ
  labelled = put_label blank l

  sized : List ℕ
  sized = put_sizes labelled z

  started : List ℕ
  started = put_starts sized z

  counted : List ℕ
  counted = put_status started n l.date

  zoned : List ℕ
  zoned = put_system_zones p counted

  chained : List ℕ
  chained = put_links p zoned (n - 1)

  books : List ℕ
  books = formatted len z n l

  len₀ : length blank ≡ len
  len₀ = length-replicate {A = ℕ} len 0

  k₁ : Kept blank labelled 8 122
  unfolding labelled
  k₁ = kept_label blank l (omega (arith, len₀)) w

  k₂ : Kept labelled sized 0 152
  unfolding sized
  k₂ = kept_sizes labelled z (omega (arith, len₀, k₁.len))

  k₃ : Kept sized started 138 12
  unfolding started
  k₃ = kept_starts sized z (omega (arith, len₀, k₁.len, k₂.len))

  len₃ : length started ≡ len
  len₃ = omega (arith, len₀, k₁.len, k₂.len, k₃.len)

  k₄ : Kept started counted 1024 32
  unfolding counted
  k₄ = kept_status started n l.date (omega (arith, len₃)) w.date.long

  len₄ : length counted ≡ len
  len₄ = omega (arith, len₃, k₄.len)

  T : Tables p (length counted)
  T = record {
    least = f.least;
    sector = omega (arith, f.stand.sector, zone_room z);
    end = omega (arith, len₄, f.stand.index, f.stand.end, sector_room z);
  }

  zone_end : 2048 + 6 * z ≤ p.sectortable
  zone_end = omega (arith, zone_room z)

  sector_end : p.sectortable + 128 * z ≤ p.indextable
  sector_end = omega (arith, sector_room z)

  index_end : p.indextable + 128 * n ≤ len
  index_end = omega (arith, f.stand.end, index_room n)

  k₅ : Kept counted zoned 2048 (p.sectortable + 128 * z - 2048)
  unfolding zoned
  k₅ = kept_system p counted T

  len₅ : length zoned ≡ len
  len₅ = omega (arith, len₄, k₅.len)

  k₆ : Kept zoned chained p.indextable (128 * (n - 1))
  unfolding chained
  k₆ = kept_links p zoned (n - 1)

  books_are : books ≡ chained
  unfolding books chained zoned counted started sized labelled formatted
  books_are = refl

  len₆ : length chained ≡ len
  len₆ = omega (arith, len₅, k₆.len)

  -- sectors 0 and 1
  early₁₆ : (o : ℕ) → o + 2 ≤ 2048 → u16_at chained o ≡ u16_at counted o
  early₁₆ o h = u16_kept o k₆ (inl (omega arith)) ∙ u16_kept o k₅ (inl (omega arith))

  early₃₂ : (o : ℕ) → o + 4 ≤ 2048 → u32_at chained o ≡ u32_at counted o
  early₃₂ o h = u32_kept o k₆ (inl (omega arith)) ∙ u32_kept o k₅ (inl (omega arith))

  sizes₂ : Sizes sized z
  unfolding sized
  sizes₂ = sizes_are labelled z (omega (arith, len₀, k₁.len))

  sizes : Sizes started z
  sizes =
      let s = sizes₂ in
      record {
        mark = u32_kept 0 k₃ (inl (omega arith)) ∙ s.mark;
        version = u32_kept 4 k₃ (inl (omega arith)) ∙ s.version;
        zones = u32_kept 130 k₃ (inl (omega arith)) ∙ s.zones;
        zone = u16_kept 134 k₃ (inl (omega arith)) ∙ s.zone;
        sector = u16_kept 136 k₃ (inl (omega arith)) ∙ s.sector;
        index = u16_kept 150 k₃ (inr (omega arith)) ∙ s.index;
      }

  starts : Starts started z
  unfolding started
  starts = starts_are sized z (omega (arith, len₀, k₁.len, k₂.len))

  status : Status started counted n
  unfolding counted
  status = status_is started n l.date (omega (arith, len₃)) w.date.long

  -- bytes after the fields that are written in sectors 0 and 1 are zero, and so are the counts
  k₀₃ : Kept blank started 0 152
  k₀₃ = kept_trans (kept_trans (kept_wider k₁ (omega arith) (omega arith)) k₂) (kept_wider k₃ (omega arith) (omega arith))

  k₀₄ : Kept blank counted 0 1056
  k₀₄ = kept_trans (kept_wider k₀₃ (omega arith) (omega arith)) (kept_wider k₄ (omega arith) (omega arith))

  zero₁₆ : (o : ℕ) → 152 ≤ o → u16_at started o ≡ 0
  zero₁₆ o h = u16_kept o k₀₃ (inr (omega arith)) ∙ u16_zeros len o

  zero₃₂ : (o : ℕ) → 152 ≤ o → u32_at started o ≡ 0
  zero₃₂ o h = u32_kept o k₀₃ (inr (omega arith)) ∙ u32_zeros len o

  null : (j : ℕ) → 1056 ≤ j → get_or counted j 0 ≡ 0
  null j h = k₀₄.out j (inr (omega arith)) ∙ get_d_zeros len j

  null₃₂ : (o : ℕ) → 1056 ≤ o → u32_at counted o ≡ 0
  null₃₂ o h = u32_kept o k₀₄ (inr (omega arith)) ∙ u32_zeros len o

  empty_zone : (y : ℕ) → zone_at p counted y ≡ record { ztype = 0; free = 0; third = 0 }
  empty_zone y = zone_kept p y k₀₄ (inr (omega arith)) ∙ zone_zeros p len y

  pub format_length : length (formatted len z n l) ≡ len
  unfolding books
  format_length = ap length books_are ∙ len₆

  marked : Marked chained
  marked = record {
    mark = early₃₂ 0 (omega arith) ∙ u32_kept 0 k₄ (inl (omega arith)) ∙ sizes.mark;
    version = early₃₂ 4 (omega arith) ∙ u32_kept 4 k₄ (inl (omega arith)) ∙ sizes.version;
  }

  pub format_marked : Marked (formatted len z n l)
  unfolding books
  format_marked = rw books_are marked

  places : places_of chained ≡ fresh_places z n
  places = places_are
      (early₃₂ 130 (omega arith) ∙ u32_kept 130 k₄ (inl (omega arith)) ∙ sizes.zones)
      (early₃₂ 1024 (omega arith) ∙ status.indexes)
      (omega (arith, early₃₂ 138 (omega arith), u32_kept 138 k₄ (inl (omega arith)), starts.zone))
      (omega (arith, early₃₂ 142 (omega arith), u32_kept 142 k₄ (inl (omega arith)), starts.sector))
      (omega (arith, early₃₂ 146 (omega arith), u32_kept 146 k₄ (inl (omega arith)), starts.index))

  pub format_places : places_of (formatted len z n l) ≡ fresh_places z n
  unfolding books
  format_places = rw books_are places

  zones_are : u32_at chained 130 ≡ z
  zones_are = ap (λ (q : Places). q.zones) places

  indexes_are : u32_at chained 1024 ≡ n
  indexes_are = ap (λ (q : Places). q.indexes) places

  placed : Placed chained
  placed = record {
    limits = record {
      least = rw zones_are f.least;
      most = rw zones_are f.most;
      some = rw indexes_are f.some;
      few = rw indexes_are f.few;
      zone = early₁₆ 134 (omega arith) ∙ u16_kept 134 k₄ (inl (omega arith)) ∙ sizes.zone;
      sector = early₁₆ 136 (omega arith) ∙ u16_kept 136 k₄ (inl (omega arith)) ∙ sizes.sector;
      index = early₁₆ 150 (omega arith) ∙ u16_kept 150 k₄ (inl (omega arith)) ∙ sizes.index;
    };
    stand = rw (places, len₆) f.stand;
  }

  pub format_placed : Placed (formatted len z n l)
  unfolding books
  format_placed = rw books_are placed

  -- zone table and sector table
  zone_first : zone_at p zoned 1 ≡ record { ztype = 1; free = 65535; third = z }
  unfolding zoned
  zone_first = system_first p counted T

  zone_last : zone_at p zoned z ≡ record { ztype = 65535; free = 65535; third = 1 }
  unfolding zoned
  zone_last = system_last p counted T

  zone_other : (y : ℕ) → y < z → 2 ≤ y → zone_at p zoned y ≡ record { ztype = 0; free = 0; third = 0 }
  unfolding zoned
  zone_other y h two = system_other p counted T y h two ∙ empty_zone y

  bits_set : (s : ℕ) → (s < 1024) ⊎ ((1024 * (z - 1) ≤ s) × (s < 1024 * z)) → bit_at zoned p.sectortable s ≡ 1
  unfolding zoned
  bits_set s h = system_bits p counted T s h

  bits_clear : (s : ℕ) → s < 1024 * (z - 1) → 1024 ≤ s → bit_at zoned p.sectortable s ≡ 0
  unfolding zoned
  bits_clear s h lo = clear_bits p counted T s h lo (null (p.sectortable + s / 8) (omega arith))

  tails_null : (j : ℕ) → 1056 ≤ j → Apart j 1 2048 (6 * z) → Apart j 1 p.sectortable (128 * z) → get_or zoned j 0 ≡ 0
  unfolding zoned
  tails_null j lo u v = system_tails p counted T j u v ∙ null j lo

  -- index tables
  word_at_lem : (i : ℕ) → word_of (table_at p chained i) ≡ 0
  unfolding table_at chained
  word_at_lem i =
      u32_part chained (p.indextable + 128 * (i - 1)) 128 0 (omega arith)
      ∙ links_word p zoned (n - 1) (p.indextable + 128 * (i - 1) + 0) (λ m h. apart_links p.indextable i m 0 4 (omega arith))
      ∙ u32_kept (p.indextable + 128 * (i - 1) + 0) k₅ (inr (omega (arith, sector_end)))
      ∙ null₃₂ (p.indextable + 128 * (i - 1) + 0) (omega arith)

  blank_at_lem : (i : ℕ) → AllBytes (table_at p chained i) 4 120 0
  unfolding table_at chained
  blank_at_lem i k h =
      get_d_part chained (p.indextable + 128 * (i - 1)) 128 (4 + k) (omega arith)
      ∙ links_out p zoned (n - 1) (p.indextable + 128 * (i - 1) + (4 + k)) (λ m g. apart_links p.indextable i m (4 + k) 1 (omega arith))
      ∙ k₅.out (p.indextable + 128 * (i - 1) + (4 + k)) (inr (omega (arith, sector_end)))
      ∙ null (p.indextable + 128 * (i - 1) + (4 + k)) (omega arith)

  link_at : (i : ℕ) → 1 ≤ i → i < n → link_of (table_at p chained i) ≡ i + 1
  unfolding table_at chained
  link_at i lo hi =
      u32_part chained (p.indextable + 128 * (i - 1)) 128 124 (omega arith)
      ∙ links_at p zoned (n - 1) (i - 1) (omega arith) (omega (arith, index_end, len₅))
      ∙ (let e : i - 1 + 2 ≡ i + 1 = omega arith in e)

  link_end : link_of (table_at p chained n) ≡ 0
  unfolding table_at chained
  link_end =
      u32_part chained (p.indextable + 128 * (n - 1)) 128 124 (omega arith)
      ∙ links_word p zoned (n - 1) (p.indextable + 128 * (n - 1) + 124) (λ m h. inr (omega arith))
      ∙ u32_kept (p.indextable + 128 * (n - 1) + 124) k₅ (inr (omega (arith, sector_end)))
      ∙ null₃₂ (p.indextable + 128 * (n - 1) + 124) (omega arith)

  fresh : Fresh (view_of p chained)
  fresh = record {
    many = f.least;
    some = f.some;
    few = f.few;
    first = reads_is (zone_kept p 1 k₆ (inl (omega (arith, zone_end))) ∙ zone_first);
    last = reads_is (zone_kept p z k₆ (inl (omega (arith, zone_end, f.least))) ∙ zone_last);
    other = λ y h two. reads_is (zone_kept p y k₆ (inl (omega (arith, zone_end))) ∙ zone_other y h two);
    set = λ y c k h. bit_kept p.sectortable (1024 * (y - 1) + k) k₆ (inl (⊎_elim (λ e. omega (arith, sector_end, f.least)) (λ e. omega (arith, sector_end, f.least)) c))
        ∙ bits_set (1024 * (y - 1) + k) (⊎_elim (λ e. inl (omega arith)) (λ e. inr (omega arith, omega (arith, f.least))) c);
    clear = λ s h lo. bit_kept p.sectortable s k₆ (inl (omega (arith, sector_end))) ∙ bits_clear s h lo;
    words = λ i lo hi. word_at_lem i;
    blank = λ i lo hi. blank_at_lem i;
    links = link_at;
    end = link_end;
    head = early₃₂ 1050 (omega arith) ∙ status.head;
    active = early₃₂ 1028 (omega arith) ∙ status.active ∙ zero₃₂ 1028 (omega arith);
    deleted = early₃₂ 1032 (omega arith) ∙ status.deleted ∙ zero₃₂ 1032 (omega arith);
    free = early₃₂ 1036 (omega arith) ∙ status.free;
    system = early₁₆ 1040 (omega arith) ∙ status.system ∙ zero₁₆ 1040 (omega arith);
    directory = early₁₆ 1042 (omega arith) ∙ status.directory ∙ zero₁₆ 1042 (omega arith);
    flag = early₁₆ 1054 (omega arith) ∙ status.flag ∙ zero₁₆ 1054 (omega arith);
  }

  tails : Tails p chained
  tails = record {
    zone = λ k h. k₆.out (2048 + 6 * z + k) (inl (omega arith)) ∙ tails_null (2048 + 6 * z + k) (omega arith) (inr (omega arith)) (inl (omega arith));
    sector = λ k h. k₆.out (p.sectortable + 128 * z + k) (inl (omega arith)) ∙ tails_null (p.sectortable + 128 * z + k) (omega arith) (inr (omega (arith, zone_end))) (inr (omega arith));
  }

  lawful : LawfulWith nothing p chained
  lawful = record {
    r1 = record { stand = rw len₆ f.stand; tails = tails };
    r2 = fresh_R2 (view_of p chained) fresh;
    r3 = fresh_R3 (view_of p chained) fresh;
    r4 = fresh_R4 (view_of p chained) fresh;
    r5 = fresh_R5 (view_of p chained) fresh;
    r6 = fresh_R6 (view_of p chained) fresh;
    r7 = fresh_R7 (view_of p chained) fresh;
    r8 = fresh_R8 (view_of p chained) fresh;
    r9 = fresh_R9 (view_of p chained) fresh;
  }

pub format_lawful : (len z n : ℕ) (l : Label) → 5120 ≤ len → len ≤ 1048576 → Formattable len z n → Writable l → LawfulWith nothing (fresh_places z n) (formatted len z n l)
unfolding books
format_lawful len z n l long small f w = rw (books_are len z n l long f w) (lawful len z n l long f w)
