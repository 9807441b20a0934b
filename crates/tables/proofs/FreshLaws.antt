-- A view of books that hold no file breaks no rule on zones, blocks, chains, pointers, names and counts.
use mathlib.Core.Path.{◌≡◌, refl, sym, ap, ◌∙◌}
use mathlib.Core.Logic.{◌⊎◌, inl, inr}
use Prim.Native.Nat.{ℕ, zero, suc, ◌+◌, ◌-◌, ◌*◌, ◌≤◌, ◌<◌}
use native.Mathlib.Omega.{arith}
use mathlib.Core.List.{List}
use borrow.Author.Tests.{eq-eqb, ne_eqb}
use Rattle.field.specs.Parts.{AllBytes}
use Rattle.field.proofs.Sums.{sum_zero, sum_one}
use Rattle.tables.specs.Indexes.{word_of, link_of}
use Rattle.tables.specs.Views.{View, Free, walk, next, only_if, tally, claims_of, claims_over}
use Rattle.tables.specs.Rules.R2.{Reads, ZoneBits, R2}
use Rattle.tables.specs.Rules.R3.{R3}
use Rattle.tables.specs.Rules.R4.{R4}
use Rattle.tables.specs.Rules.R5.{R5}
use Rattle.tables.specs.Rules.R6.{R6}
use Rattle.tables.specs.Rules.R7.{Owned, nothing}
use Rattle.tables.specs.Rules.R8.{R8}
use Rattle.tables.specs.Rules.R9.{free_one, active_one, deleted_one, system_one, directory_one, R9}
use Rattle.tables.proofs.IndexLaws.{slots_free}
use Rattle.tables.proofs.PointerLaws.{over_none}

-- no file: two system zones, the others untyped and clear, all index tables free and chained 1, 2, .., N
pub record Fresh (v : View) : Type 0 where
  pub many : 3 ≤ v.zones
  pub some : 1 ≤ v.indexes
  pub few : v.indexes ≤ 4096
  pub first : Reads (v.zone 1) 1 65535 v.zones
  pub last : Reads (v.zone v.zones) 65535 65535 1
  pub other : (z : ℕ) → z < v.zones → 2 ≤ z → Reads (v.zone z) 0 0 0
  pub set : (z : ℕ) → (z ≡ 1) ⊎ (z ≡ v.zones) → ZoneBits v z 1
  pub clear : (s : ℕ) → s < 1024 * (v.zones - 1) → 1024 ≤ s → v.bit s ≡ 0
  pub words : (i : ℕ) → 1 ≤ i → i ≤ v.indexes → word_of (v.table i) ≡ 0
  pub blank : (i : ℕ) → 1 ≤ i → i ≤ v.indexes → AllBytes (v.table i) 4 120 0
  pub links : (i : ℕ) → 1 ≤ i → i < v.indexes → link_of (v.table i) ≡ i + 1
  pub end : link_of (v.table v.indexes) ≡ 0
  pub head : v.head ≡ 1
  pub active : v.active ≡ 0
  pub deleted : v.deleted ≡ 0
  pub free : v.free ≡ v.indexes
  pub system : v.system ≡ 0
  pub directory : v.directory ≡ 0
  pub flag : v.flag ≡ 0

-- a free table counts as free, and as nothing else
free_one_lem : (i : ℕ) (t : List ℕ) → word_of t ≡ 0 → free_one i t ≡ 1
unfolding free_one only_if
free_one_lem i t e = simp (eq-eqb _ _ e)

active_none : (i : ℕ) (t : List ℕ) → 1 ≤ i → word_of t ≡ 0 → active_one i t ≡ 0
unfolding active_one only_if
active_none i t lo e = let n : word_of t ≡ i → ⊥ = λ h. omega arith in simp (ne_eqb _ _ n)

deleted_none : (i : ℕ) (t : List ℕ) → 1 ≤ i → word_of t ≡ 0 → deleted_one i t ≡ 0
unfolding deleted_one only_if
deleted_none i t lo e = let n : word_of t ≡ i → ⊥ = λ h. omega arith in simp (ne_eqb _ _ n)

system_none : (i : ℕ) (t : List ℕ) → 1 ≤ i → word_of t ≡ 0 → system_one i t ≡ 0
unfolding system_one only_if
system_none i t lo e = let n : active_one i t ≡ 1 → ⊥ = λ h. omega (arith, active_none i t lo e) in simp (ne_eqb _ _ n)

directory_none : (i : ℕ) (t : List ℕ) → 1 ≤ i → word_of t ≡ 0 → directory_one i t ≡ 0
unfolding directory_one only_if
directory_none i t lo e = let n : active_one i t ≡ 1 → ⊥ = λ h. omega (arith, active_none i t lo e) in simp (ne_eqb _ _ n)

module _ (v : View) (f : Fresh v) where
  none : (g : ℕ → List ℕ → ℕ) → ((i : ℕ) (t : List ℕ) → 1 ≤ i → word_of t ≡ 0 → g i t ≡ 0) → tally v g ≡ 0
  unfolding tally
  none g h = sum_zero v.indexes _ (λ k l. h (k + 1) (v.table (k + 1)) (omega arith) (f.words (k + 1) (omega arith) (omega arith)))

  every : tally v free_one ≡ v.indexes
  unfolding tally
  every = sum_one v.indexes _ (λ k l. free_one_lem (k + 1) (v.table (k + 1)) (f.words (k + 1) (omega arith) (omega arith)))

  go : (k : ℕ) → k < v.indexes → walk (next v) v.head k ≡ k + 1
  unfolding walk
  go zero l = f.head
  go (suc k) l = ap (next v) (go k (omega arith)) ∙ f.links (k + 1) (omega arith) (omega arith) ∙ (let e : k + 1 + 1 ≡ suc k + 1 = omega arith in e)

  free : (i : ℕ) → 1 ≤ i → i ≤ v.indexes → Free v i
  free i lo hi = record { low = lo; high = hi; word = f.words i lo hi }

  ends : (n : ℕ) → v.indexes ≡ suc n → walk (next v) v.head (suc n) ≡ 0
  unfolding walk
  ends n e = ap (next v) (go n (omega arith)) ∙ ap (next v) (let q : n + 1 ≡ v.indexes = omega arith in q) ∙ f.end

  pub fresh_R2 : R2 v
  fresh_R2 z l lo = record {
    first = λ e. rw e (f.first, f.set 1 (inl refl));
    last = λ e. rw e (f.last, f.set v.zones (inr refl));
    other = λ two h. inl (record { reads = f.other z h two; clear = λ k lk. f.clear _ (omega arith) (omega arith) });
  }

  pub fresh_R3 : R3 v
  fresh_R3 z l lo t = absurd (omega (arith, t.low, (f.other z l lo).ztype))

  pub fresh_R4 : R4 v
  fresh_R4 = record {
    own = λ i l lo. record { word = inl (f.words i lo (omega arith)); blank = λ h. f.blank i lo (omega arith) };
    long = v.indexes;
    chain = record {
      ends = (let e : v.indexes ≡ suc (v.indexes - 1) = omega (arith, f.some) in ap (walk (next v) v.head) e ∙ ends (v.indexes - 1) e);
      each = λ k l. rw (go k l) (free (k + 1) (omega arith) (omega arith));
      every = λ i h. (i - 1, omega (arith, h.low, h.high), go (i - 1) (omega (arith, h.low, h.high)) ∙ (let e : i - 1 + 1 ≡ i = omega (arith, h.low) in e));
    };
  }

  pub fresh_R5 : R5 v
  fresh_R5 = record {
    long = λ p. 0;
    chain = λ p h. absurd (omega (arith, h.low, h.word, f.words p h.low h.high));
    stands = λ c h. absurd (omega (arith, h.high, f.few, h.word, f.words c h.low h.high));
    one = λ c h. absurd (omega (arith, h.high, f.few, h.word, f.words c h.low h.high));
  }

  pub fresh_R6 : R6 v
  fresh_R6 i l lo = (let w = f.words i lo (omega arith) in let s = slots_free i (v.table i) w in record {
    first = λ j h u. absurd (omega arith);
    used = λ j h u. absurd (omega arith);
    one = λ e. absurd (omega arith);
    header = λ e. absurd (omega arith);
  })

  pub fresh_R7 : Owned v nothing
  unfolding claims_over
  fresh_R7 = record { count = λ s l lo. omega (arith, none (λ i t. claims_of i t s) (λ i t h e. over_none i t s h e), f.clear s l lo) }

  pub fresh_R8 : R8 v
  fresh_R8 p l lo e = absurd (omega (arith, f.words p lo (omega arith)))

  pub fresh_R9 : R9 v
  fresh_R9 = record {
    active = f.active ∙ sym (none active_one active_none);
    deleted = f.deleted ∙ sym (none deleted_one deleted_none);
    free = f.free ∙ sym every;
    system = f.system ∙ sym (none system_one system_none);
    directory = f.directory ∙ sym (none directory_one directory_none);
    flag = omega (arith, f.flag);
  }
