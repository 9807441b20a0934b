-- Mount and dismount keep the books good: the rules hold of the books afterwards, at the same places.
use mathlib.Core.Path.{◌≡◌}
use mathlib.Core.Logic.{inl}
use mathlib.Core.List.{List}
use Prim.Native.Nat.{ℕ, ◌≤◌}
use native.Mathlib.Omega.{arith}
use lib.ListN.{length}
use Rattle.field.specs.Kept.{Kept}
use Rattle.field.proofs.Frames.{kept_wider}
use Rattle.field.proofs.NumberLaws.{u16_kept, u32_kept, kept_put_u16, u16_put_same}
use Rattle.tables.specs.declared.places.Places.{Places}
use Rattle.tables.specs.Sector1.{flag_of, put_flag}
use Rattle.tables.specs.Views.{view_of}
use Rattle.tables.specs.Books.{GoodWith}
use Rattle.tables.proofs.SameLaws.{same_R9}
use Rattle.tables.proofs.FrameLaws.{sector1_same, sector1_good}
use Rattle.requests.specs.Mount.{Mounted, Dismounted}
use Rattle.requests.proofs.RequestLaws.{good_room, done_keeps}

-- only the flag's two bytes change
pub kept_flag : (b : List ℕ) (f : ℕ) → Kept b (put_flag b f) 1054 2
kept_flag b f = kept_put_u16 b 1054 f

pub flag_put : (b : List ℕ) (f : ℕ) → 2048 ≤ length b → flag_of (put_flag b f) ≡ f
flag_put b f room = u16_put_same b 1054 f (omega arith)

pub flag_keeps : (b : List ℕ) (p : Places) (f : ℕ) {extra : ℕ → ℕ} → f ≤ 1 → GoodWith extra b p → GoodWith extra (put_flag b f) p
flag_keeps b p f few g =
    let b' = put_flag b f in
    let k = kept_flag b f in
    let w : Kept b (put_flag b f) 1024 1024 = kept_wider k (omega arith) (omega arith) in
    let head = u32_kept 1050 k (inl (omega arith)) in
    sector1_good b b' w p (u32_kept 1024 k (inl (omega arith))) head (same_R9 (view_of p b) (view_of p b') (sector1_same b b' w p g.layout head)
    (u32_kept 1028 k (inl (omega arith)))
    (u32_kept 1032 k (inl (omega arith)))
    (u32_kept 1036 k (inl (omega arith)))
    (u16_kept 1040 k (inl (omega arith)))
    (u16_kept 1042 k (inl (omega arith)))
    (omega (arith, flag_put b f (good_room b p g)))
    g.lawful.r9) g

pub mounted_keeps : (b withheld : List ℕ) (r : ℕ) (b' : List ℕ) (p : Places) {extra : ℕ → ℕ} → Mounted b withheld r b' → GoodWith extra b p → GoodWith extra b' p
mounted_keeps b withheld r b' p h g = done_keeps r (put_flag b 1) b b' p h.books (λ e. flag_keeps b p 1 (omega arith) g) g

pub dismounted_keeps : (b withheld : List ℕ) (r : ℕ) (b' : List ℕ) (p : Places) {extra : ℕ → ℕ} → Dismounted b withheld r b' → GoodWith extra b p → GoodWith extra b' p
dismounted_keeps b withheld r b' p h g = done_keeps r (put_flag b 0) b b' p h.books (λ e. flag_keeps b p 0 (omega arith) g) g
