-- What each part of format reads afterwards, and which bytes it leaves.
use mathlib.Core.Path.{◌≡◌, refl, ◌∙◌}
use mathlib.Core.Logic.{◌⊎◌, inl, inr, ⊎_elim}
use Prim.Native.Nat.{ℕ, zero, suc, ◌+◌, ◌-◌, ◌*◌, ◌/◌, ◌%◌, ◌≤◌, ◌<◌}
use native.Mathlib.Nat.{eq-or-lt_of_le, le_of_suc-le-suc, not-suc-le-zero}
use native.Mathlib.Omega.{arith}
use mathlib.Core.List.{List}
use lib.ListN.{get_or, length, replicate, length-replicate, get_or-replicate}
use Rattle.field.specs.Kept.{Kept, Apart}
use Rattle.field.specs.Numbers.{u16_at, u32_at, put_u16, put_u32}
use Rattle.field.specs.Bits.{bit_at}
use Rattle.field.specs.Parts.{over}
use Rattle.field.proofs.Frames.{kept_refl, kept_trans, kept_wider}
use Rattle.field.proofs.NumberLaws.{u16_kept, u32_kept, kept_put_u16, kept_put_u32, u16_put_same, u32_put_same}
use Rattle.field.proofs.PartLaws.{kept_over, over_part, same_at}
use Rattle.field.proofs.RunLaws.{full_bit}
use Rattle.tables.specs.declared.places.Places.{Places}
use Rattle.tables.specs.Zones.{zone_at, put_zone}
use Rattle.tables.specs.Rules.R1.{ceil}
use Rattle.tables.specs.Format.{Label, Writable, put_titles, put_owned, put_label, put_identity, put_sizes, put_starts, put_status, put_system_zones, put_links}
use Rattle.tables.proofs.ZoneEntryLaws.{zone_kept, kept_put_zone, zone_put}

-- ---- general

-- texts of at most n bytes change at most n bytes
pub kept_text : (b : List ℕ) (a : ℕ) (t : List ℕ) (n : ℕ) → length t ≤ n → a + n ≤ length b → Kept b (over b a t) a n
kept_text b a t n l room = kept_wider (kept_over b a t (omega arith)) (omega arith) (omega arith)

-- the run of equal bytes that was laid
module _ (b : List ℕ) (a n v : ℕ) (room : a + n ≤ length b) where
  pub kept_run : Kept b (over b a (replicate n v)) a n
  kept_run = kept_text b a (replicate n v) n (omega (arith, length-replicate n v)) room

  pub run_at : (k : ℕ) → k < n → get_or (over b a (replicate n v)) (a + k) 0 ≡ v
  run_at k l =
      same_at (over b a (replicate n v)) (replicate n v) a (over_part b a (replicate n v) (omega (arith, length-replicate n v))) k (omega (arith, length-replicate n v))
      ∙ get_or-replicate n k v 0 l

-- the eight bits of a byte that is 0 or 255
pub bit_byte : (b : List ℕ) (base n v : ℕ) → v < 2 → get_or b (base + n / 8) 0 ≡ 255 * v → bit_at b base n ≡ v
unfolding bit_at
bit_byte b base n v l e = rw e (full_bit v (7 - n % 8) l (omega arith))

-- ---- sector 0

pub kept_label : (b : List ℕ) (l : Label) → 2048 ≤ length b → Writable l → Kept b (put_label b l) 8 122
unfolding put_label put_titles put_owned
kept_label b l room w =
    let b₁ = over b 8 l.application in
    let b₂ = over b₁ 24 l.volume in
    let b₃ = put_u32 b₂ 56 l.id in
    let b₄ = over b₃ 60 l.owner in
    let b₅ = over b₄ 92 l.code in
    let k₁ = kept_text b 8 l.application 16 w.application (omega arith) in
    let k₂ = kept_text b₁ 24 l.volume 32 w.volume (omega (arith, k₁.len)) in
    let k₃ = kept_put_u32 b₂ 56 l.id in
    let k₄ = kept_text b₃ 60 l.owner 32 w.owner (omega (arith, k₁.len, k₂.len, k₃.len)) in
    let k₅ = kept_text b₄ 92 l.code 32 w.code (omega (arith, k₁.len, k₂.len, k₃.len, k₄.len)) in
    let k₆ = kept_text b₅ 124 l.date 6 (omega (arith, w.date.long)) (omega (arith, k₁.len, k₂.len, k₃.len, k₄.len, k₅.len)) in
    kept_trans (kept_trans (kept_trans (kept_trans (kept_trans (kept_wider k₁ (omega arith) (omega arith)) (kept_wider k₂ (omega arith) (omega arith)))
    (kept_wider k₃ (omega arith) (omega arith))) (kept_wider k₄ (omega arith) (omega arith))) (kept_wider k₅ (omega arith) (omega arith)))
    (kept_wider k₆ (omega arith) (omega arith))

module _ (b : List ℕ) (room : 2048 ≤ length b) where
  pub kept_mark : Kept b (put_identity b) 0 8
  unfolding put_identity
  kept_mark = kept_trans (kept_wider (kept_put_u32 b 0 0x49532643) (omega arith) (omega arith)) (kept_wider (kept_put_u32 (put_u32 b 0 0x49532643) 4 0x30312e30) (omega arith) (omega arith))

  pub mark_is : u32_at (put_identity b) 0 ≡ 0x49532643
  unfolding put_identity
  mark_is = u32_kept 0 (kept_put_u32 (put_u32 b 0 0x49532643) 4 0x30312e30) (inl (omega arith)) ∙ u32_put_same b 0 0x49532643 (omega arith)

  pub version_is : u32_at (put_identity b) 4 ≡ 0x30312e30
  unfolding put_identity
  version_is = u32_put_same (put_u32 b 0 0x49532643) 4 0x30312e30 (omega (arith, (kept_put_u32 b 0 0x49532643).len))

pub record Sizes (b : List ℕ) (z : ℕ) : Type 0 where
  pub mark : u32_at b 0 ≡ 0x49532643
  pub version : u32_at b 4 ≡ 0x30312e30
  pub zones : u32_at b 130 ≡ z
  pub zone : u16_at b 134 ≡ 1024
  pub sector : u16_at b 136 ≡ 1024
  pub index : u16_at b 150 ≡ 128

module _ (b : List ℕ) (z : ℕ) (room : 2048 ≤ length b) where
  pub kept_sizes : Kept b (put_sizes b z) 0 152
  unfolding put_sizes
  kept_sizes =
      let b₁ = put_identity b in
      let b₂ = put_u32 b₁ 130 z in
      let b₃ = put_u16 b₂ 134 1024 in
      let b₄ = put_u16 b₃ 136 1024 in
      kept_trans (kept_trans (kept_trans (kept_trans (kept_wider (kept_mark b room) (omega arith) (omega arith)) (kept_wider (kept_put_u32 b₁ 130 z) (omega arith) (omega arith)))
      (kept_wider (kept_put_u16 b₂ 134 1024) (omega arith) (omega arith))) (kept_wider (kept_put_u16 b₃ 136 1024) (omega arith) (omega arith)))
      (kept_wider (kept_put_u16 b₄ 150 128) (omega arith) (omega arith))

  pub sizes_are : Sizes (put_sizes b z) z
  unfolding put_sizes
  sizes_are =
      let b₁ = put_identity b in
      let b₂ = put_u32 b₁ 130 z in
      let b₃ = put_u16 b₂ 134 1024 in
      let b₄ = put_u16 b₃ 136 1024 in
      let k₁ = kept_mark b room in
      let k₂ = kept_put_u32 b₁ 130 z in
      let k₃ = kept_put_u16 b₂ 134 1024 in
      let k₄ = kept_put_u16 b₃ 136 1024 in
      let k₅ = kept_put_u16 b₄ 150 128 in
      record {
        mark = u32_kept 0 k₅ (inl (omega arith)) ∙ u32_kept 0 k₄ (inl (omega arith)) ∙ u32_kept 0 k₃ (inl (omega arith)) ∙ u32_kept 0 k₂ (inl (omega arith)) ∙ mark_is b room;
        version = u32_kept 4 k₅ (inl (omega arith)) ∙ u32_kept 4 k₄ (inl (omega arith)) ∙ u32_kept 4 k₃ (inl (omega arith)) ∙ u32_kept 4 k₂ (inl (omega arith)) ∙ version_is b room;
        zones = u32_kept 130 k₅ (inl (omega arith)) ∙ u32_kept 130 k₄ (inl (omega arith)) ∙ u32_kept 130 k₃ (inl (omega arith)) ∙ u32_put_same b₁ 130 z (omega (arith, k₁.len));
        zone = u16_kept 134 k₅ (inl (omega arith)) ∙ u16_kept 134 k₄ (inl (omega arith)) ∙ u16_put_same b₂ 134 1024 (omega (arith, k₁.len, k₂.len));
        sector = u16_kept 136 k₅ (inl (omega arith)) ∙ u16_put_same b₃ 136 1024 (omega (arith, k₁.len, k₂.len, k₃.len));
        index = u16_put_same b₄ 150 128 (omega (arith, k₁.len, k₂.len, k₃.len, k₄.len));
      }

pub record Starts (b : List ℕ) (z : ℕ) : Type 0 where
  pub zone : u32_at b 138 ≡ 2
  pub sector : u32_at b 142 ≡ 2 + ceil (6 * z) 1024
  pub index : u32_at b 146 ≡ 2 + ceil (6 * z) 1024 + ceil z 8

module _ (b : List ℕ) (z : ℕ) (room : 2048 ≤ length b) where
  pub kept_starts : Kept b (put_starts b z) 138 12
  unfolding put_starts
  kept_starts =
      let b₁ = put_u32 b 138 2 in
      let b₂ = put_u32 b₁ 142 (2 + ceil (6 * z) 1024) in
      kept_trans (kept_trans (kept_wider (kept_put_u32 b 138 2) (omega arith) (omega arith)) (kept_wider (kept_put_u32 b₁ 142 (2 + ceil (6 * z) 1024)) (omega arith) (omega arith)))
      (kept_wider (kept_put_u32 b₂ 146 (2 + ceil (6 * z) 1024 + ceil z 8)) (omega arith) (omega arith))

  pub starts_are : Starts (put_starts b z) z
  unfolding put_starts
  starts_are =
      let b₁ = put_u32 b 138 2 in
      let b₂ = put_u32 b₁ 142 (2 + ceil (6 * z) 1024) in
      let k₁ = kept_put_u32 b 138 2 in
      let k₂ = kept_put_u32 b₁ 142 (2 + ceil (6 * z) 1024) in
      let k₃ = kept_put_u32 b₂ 146 (2 + ceil (6 * z) 1024 + ceil z 8) in
      record {
        zone = u32_kept 138 k₃ (inl (omega arith)) ∙ u32_kept 138 k₂ (inl (omega arith)) ∙ u32_put_same b 138 2 (omega arith);
        sector = u32_kept 142 k₃ (inl (omega arith)) ∙ u32_put_same b₁ 142 (2 + ceil (6 * z) 1024) (omega (arith, k₁.len));
        index = u32_put_same b₂ 146 (2 + ceil (6 * z) 1024 + ceil z 8) (omega (arith, k₁.len, k₂.len));
      }

-- ---- sector 1

-- the fields that are written, and the others, which are as they were
pub record Status (b b' : List ℕ) (n : ℕ) : Type 0 where
  pub indexes : u32_at b' 1024 ≡ n
  pub active : u32_at b' 1028 ≡ u32_at b 1028
  pub deleted : u32_at b' 1032 ≡ u32_at b 1032
  pub free : u32_at b' 1036 ≡ n
  pub system : u16_at b' 1040 ≡ u16_at b 1040
  pub directory : u16_at b' 1042 ≡ u16_at b 1042
  pub head : u32_at b' 1050 ≡ 1
  pub flag : u16_at b' 1054 ≡ u16_at b 1054

module _ (b : List ℕ) (n : ℕ) (d : List ℕ) (room : 2048 ≤ length b) (six : length d ≡ 6) where
  pub kept_status : Kept b (put_status b n d) 1024 32
  unfolding put_status
  kept_status =
      let b₁ = put_u32 b 1024 n in
      let b₂ = put_u32 b₁ 1036 n in
      let b₃ = over b₂ 1044 d in
      let k₁ = kept_put_u32 b 1024 n in
      let k₂ = kept_put_u32 b₁ 1036 n in
      let k₃ = kept_text b₂ 1044 d 6 (omega arith) (omega (arith, k₁.len, k₂.len)) in
      kept_trans (kept_trans (kept_trans (kept_wider k₁ (omega arith) (omega arith)) (kept_wider k₂ (omega arith) (omega arith))) (kept_wider k₃ (omega arith) (omega arith)))
      (kept_wider (kept_put_u32 b₃ 1050 1) (omega arith) (omega arith))

  pub status_is : Status b (put_status b n d) n
  unfolding put_status
  status_is =
      let b₁ = put_u32 b 1024 n in
      let b₂ = put_u32 b₁ 1036 n in
      let b₃ = over b₂ 1044 d in
      let k₁ = kept_put_u32 b 1024 n in
      let k₂ = kept_put_u32 b₁ 1036 n in
      let k₃ = kept_text b₂ 1044 d 6 (omega arith) (omega (arith, k₁.len, k₂.len)) in
      let k₄ = kept_put_u32 b₃ 1050 1 in
      record {
        indexes = u32_kept 1024 k₄ (inl (omega arith)) ∙ u32_kept 1024 k₃ (inl (omega arith)) ∙ u32_kept 1024 k₂ (inl (omega arith)) ∙ u32_put_same b 1024 n (omega arith);
        active = u32_kept 1028 k₄ (inl (omega arith)) ∙ u32_kept 1028 k₃ (inl (omega arith)) ∙ u32_kept 1028 k₂ (inl (omega arith)) ∙ u32_kept 1028 k₁ (inr (omega arith));
        deleted = u32_kept 1032 k₄ (inl (omega arith)) ∙ u32_kept 1032 k₃ (inl (omega arith)) ∙ u32_kept 1032 k₂ (inl (omega arith)) ∙ u32_kept 1032 k₁ (inr (omega arith));
        free = u32_kept 1036 k₄ (inl (omega arith)) ∙ u32_kept 1036 k₃ (inl (omega arith)) ∙ u32_put_same b₁ 1036 n (omega (arith, k₁.len));
        system = u16_kept 1040 k₄ (inl (omega arith)) ∙ u16_kept 1040 k₃ (inl (omega arith)) ∙ u16_kept 1040 k₂ (inr (omega arith)) ∙ u16_kept 1040 k₁ (inr (omega arith));
        directory = u16_kept 1042 k₄ (inl (omega arith)) ∙ u16_kept 1042 k₃ (inl (omega arith)) ∙ u16_kept 1042 k₂ (inr (omega arith)) ∙ u16_kept 1042 k₁ (inr (omega arith));
        head = u32_put_same b₃ 1050 1 (omega (arith, k₁.len, k₂.len, k₃.len));
        flag = u16_kept 1054 k₄ (inr (omega arith)) ∙ u16_kept 1054 k₃ (inr (omega arith)) ∙ u16_kept 1054 k₂ (inr (omega arith)) ∙ u16_kept 1054 k₁ (inr (omega arith));
      }

-- ---- zone table and sector table

-- the zone table and the sector table stand one after the other within len bytes
pub record Tables (p : Places) (len : ℕ) : Type 0 where
  pub least : 3 ≤ p.zones
  pub sector : p.zonetable + 6 * p.zones ≤ p.sectortable
  pub end : p.sectortable + 128 * p.zones ≤ len

module _ (p : Places) (b : List ℕ) (L : Tables p (length b)) where
  -- the zone table alone
  zoned : List ℕ
  zoned = put_zone p (put_zone p b 1 1 65535 p.zones) p.zones 65535 65535 1

  kept_zoned : Kept b zoned p.zonetable (6 * p.zones)
  unfolding zoned
  kept_zoned =
      kept_trans (kept_wider (kept_put_zone p b 1 1 65535 p.zones) (omega arith) (omega (arith, L.least)))
      (kept_wider (kept_put_zone p (put_zone p b 1 1 65535 p.zones) p.zones 65535 65535 1) (omega arith) (omega (arith, L.least)))

  first_zone : zone_at p zoned 1 ≡ record { ztype = 1; free = 65535; third = p.zones }
  unfolding zoned
  first_zone =
      zone_kept p 1 (kept_put_zone p (put_zone p b 1 1 65535 p.zones) p.zones 65535 65535 1) (inl (omega (arith, L.least)))
      ∙ zone_put p b 1 1 65535 p.zones (omega (arith, L.least, L.sector, L.end))

  last_zone : zone_at p zoned p.zones ≡ record { ztype = 65535; free = 65535; third = 1 }
  unfolding zoned
  last_zone = zone_put p (put_zone p b 1 1 65535 p.zones) p.zones 65535 65535 1 (omega (arith, L.least, L.sector, L.end, (kept_put_zone p b 1 1 65535 p.zones).len))

  other_zone : (z : ℕ) → z < p.zones → 2 ≤ z → zone_at p zoned z ≡ zone_at p b z
  unfolding zoned
  other_zone z l two =
      zone_kept p z (kept_put_zone p (put_zone p b 1 1 65535 p.zones) p.zones 65535 65535 1) (inl (omega arith))
      ∙ zone_kept p z (kept_put_zone p b 1 1 65535 p.zones) (inr (omega arith))

  -- the first zone's bits too
  begun : List ℕ
  unfolding zoned
  begun = over zoned p.sectortable (replicate 128 255)

  room₁ : p.sectortable + 128 ≤ length zoned
  room₁ = omega (arith, L.least, L.end, kept_zoned.len)

  kept_begun : Kept zoned begun p.sectortable 128
  unfolding begun
  kept_begun = kept_run zoned p.sectortable 128 255 room₁

  room₂ : p.sectortable + 128 * (p.zones - 1) + 128 ≤ length begun
  room₂ = omega (arith, L.least, L.end, kept_zoned.len, kept_begun.len)

  kept_rest : Kept begun (put_system_zones p b) (p.sectortable + 128 * (p.zones - 1)) 128
  unfolding put_system_zones begun zoned
  kept_rest = kept_run begun (p.sectortable + 128 * (p.zones - 1)) 128 255 room₂

  kept_bits : Kept zoned (put_system_zones p b) p.sectortable (128 * p.zones)
  kept_bits = kept_trans (kept_wider kept_begun (omega arith) (omega (arith, L.least))) (kept_wider kept_rest (omega arith) (omega (arith, L.least)))

  -- outside both tables nothing changes
  pub kept_system : Kept b (put_system_zones p b) p.zonetable (p.sectortable + 128 * p.zones - p.zonetable)
  kept_system = kept_trans (kept_wider kept_zoned (omega arith) (omega (arith, L.sector))) (kept_wider kept_bits (omega (arith, L.sector)) (omega (arith, L.sector)))

  pub system_tails : (j : ℕ) → Apart j 1 p.zonetable (6 * p.zones) → Apart j 1 p.sectortable (128 * p.zones) → get_or (put_system_zones p b) j 0 ≡ get_or b j 0
  system_tails j u w = kept_bits.out j w ∙ kept_zoned.out j u

  pub system_first : zone_at p (put_system_zones p b) 1 ≡ record { ztype = 1; free = 65535; third = p.zones }
  system_first = zone_kept p 1 kept_bits (inl (omega (arith, L.least, L.sector))) ∙ first_zone

  pub system_last : zone_at p (put_system_zones p b) p.zones ≡ record { ztype = 65535; free = 65535; third = 1 }
  system_last = zone_kept p p.zones kept_bits (inl (omega (arith, L.least, L.sector))) ∙ last_zone

  pub system_other : (z : ℕ) → z < p.zones → 2 ≤ z → zone_at p (put_system_zones p b) z ≡ zone_at p b z
  system_other z l two = zone_kept p z kept_bits (inl (omega (arith, L.sector))) ∙ other_zone z l two

  first_byte : (k : ℕ) → k < 128 → get_or (put_system_zones p b) (p.sectortable + k) 0 ≡ 255
  unfolding begun
  first_byte k l = kept_rest.out (p.sectortable + k) (inl (omega (arith, L.least))) ∙ run_at zoned p.sectortable 128 255 room₁ k l

  last_byte : (k : ℕ) → k < 128 → get_or (put_system_zones p b) (p.sectortable + 128 * (p.zones - 1) + k) 0 ≡ 255
  unfolding put_system_zones begun zoned
  last_byte k l = run_at begun (p.sectortable + 128 * (p.zones - 1)) 128 255 room₂ k l

  middle_byte : (k : ℕ) → k < 128 * (p.zones - 1) → 128 ≤ k → get_or (put_system_zones p b) (p.sectortable + k) 0 ≡ get_or b (p.sectortable + k) 0
  middle_byte k l lo =
      kept_rest.out (p.sectortable + k) (inl (omega arith)) ∙ kept_begun.out (p.sectortable + k) (inr (omega arith)) ∙ kept_zoned.out (p.sectortable + k) (inr (omega (arith, L.sector)))

  pub system_bits : (s : ℕ) → (s < 1024) ⊎ ((1024 * (p.zones - 1) ≤ s) × (s < 1024 * p.zones)) → bit_at (put_system_zones p b) p.sectortable s ≡ 1
  system_bits s h =
      bit_byte (put_system_zones p b) p.sectortable s 1 (omega arith)
      (⊎_elim (λ w. first_byte (s / 8) (omega arith))
      (λ w. let e : p.sectortable + s / 8 ≡ p.sectortable + 128 * (p.zones - 1) + (s / 8 - 128 * (p.zones - 1)) = omega (arith, w.0) in
      rw e (last_byte (s / 8 - 128 * (p.zones - 1)) (omega (arith, w.0, w.1, L.least)))) h)

  pub clear_bits : (s : ℕ) → s < 1024 * (p.zones - 1) → 1024 ≤ s → get_or b (p.sectortable + s / 8) 0 ≡ 0 → bit_at (put_system_zones p b) p.sectortable s ≡ 0
  clear_bits s l lo e = bit_byte (put_system_zones p b) p.sectortable s 0 (omega arith) (middle_byte (s / 8) (omega arith) (omega arith) ∙ e)

-- ---- index tables

module _ (p : Places) (b : List ℕ) where
  -- where the k-th link stands, counted from 0
  abbrev at : ℕ → ℕ
  at k = p.indextable + 128 * k + 124

  pub kept_links : (k : ℕ) → Kept b (put_links p b k) p.indextable (128 * k)
  unfolding put_links
  kept_links zero = kept_refl b p.indextable 0
  kept_links (suc k) = kept_trans (kept_wider (kept_links k) (omega arith) (omega arith)) (kept_wider (kept_put_u32 (put_links p b k) (at k) (k + 2)) (omega arith) (omega arith))

  -- bytes that are of no link
  pub links_out : (k j : ℕ) → ((m : ℕ) → m < k → Apart j 1 (at m) 4) → get_or (put_links p b k) j 0 ≡ get_or b j 0
  unfolding put_links
  links_out zero j h = refl
  links_out (suc k) j h = (kept_put_u32 (put_links p b k) (at k) (k + 2)).out j (h k (omega arith)) ∙ links_out k j (λ m l. h m (omega arith))

  pub links_word : (k o : ℕ) → ((m : ℕ) → m < k → Apart o 4 (at m) 4) → u32_at (put_links p b k) o ≡ u32_at b o
  unfolding put_links
  links_word zero o h = refl
  links_word (suc k) o h = u32_kept o (kept_put_u32 (put_links p b k) (at k) (k + 2)) (h k (omega arith)) ∙ links_word k o (λ m l. h m (omega arith))

  pub links_at : (k m : ℕ) → m < k → p.indextable + 128 * k ≤ length b → u32_at (put_links p b k) (at m) ≡ m + 2
  unfolding put_links
  links_at zero m l room = absurd (not-suc-le-zero l)
  links_at (suc k) m l room =
      ⊎_elim
      (λ e. rw e (u32_put_same (put_links p b k) (at k) (k + 2) (omega (arith, (kept_links k).len))))
      (λ h. u32_kept (at m) (kept_put_u32 (put_links p b k) (at k) (k + 2)) (inl (omega arith)) ∙ links_at k m h (omega arith))
      (eq-or-lt_of_le (le_of_suc-le-suc l))
