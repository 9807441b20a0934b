-- Actual delete: each way out, and that its promise allows one result.
use mathlib.Core.Path.{◌≡◌, ap, ◌∙◌}
use mathlib.Core.List.{List}
use Prim.Native.Nat.{ℕ}
use lib.ListN.{length}
use Rattle.tables.specs.declared.places.Places.{Places}
use Rattle.tables.specs.Gates.{Gate}
use Rattle.tables.specs.Indexes.{table_at, attribute_of, deleted_bit}
use Rattle.tables.specs.Lawful.{LawfulSome}
use Rattle.tables.specs.Places.{places_of, Layout}
use Rattle.tables.specs.Views.{view_of, Parent}
use Rattle.tables.proofs.GateLaws.{gate_one}
use Rattle.files.specs.HeaderBytes.{header_marked}
use Rattle.files.specs.Release.{released}
use Rattle.requests.specs.State.{recover_tests}
use Rattle.requests.specs.Delete.{Deleted}
use Rattle.requests.proofs.RequestLaws.{after_one}
use Rattle.requests.proofs.StateLaws.{recover_asks}

module _ (b withheld body : List ℕ) (id : ℕ) (date : List ℕ) (n : ℕ) (g : Gate (recover_tests b withheld body id date) n) where
  module _ (e : n ≡ 0) (p : Places) (is : p ≡ places_of b) where
    -- what giving the file back asks
    pub delete_asks : Layout p (length b) × (LawfulSome p b × (Parent (view_of p b) id × ((deleted_bit (attribute_of (table_at p b id)) ≡ 1) × (length date ≡ 6))))
    delete_asks = let a = recover_asks b withheld body id date n g e p is in (a.0.1.layout, ((_, a.0.1.lawful), a.1))

    pub delete_done : (b' body' : List ℕ) → body' ≡ header_marked (view_of p b) id 0 body → b' ≡ released p b id date → Deleted b withheld body id date 0 b' body'
    delete_done b' body' k h = record { number = rw e at g; books = h ∙ ap (λ (q : Places). released q b id date) is; body'' = rw (k, is) }

-- ---- one result

pub deleted_one_lem : (b withheld body : List ℕ) (id : ℕ) (date : List ℕ) (r s : ℕ) (x y m n : List ℕ) → Deleted b withheld body id date r x m → Deleted b withheld body id date s y n → (r ≡ s) × ((x ≡ y) × (m ≡ n))
deleted_one_lem b withheld body id date r s x y m n h k =
    let e = gate_one (recover_tests b withheld body id date) r s h.number k.number in
    (e, (after_one r s x y _ b e h.books k.books, after_one r s m n _ body e h.body'' k.body''))
