-- Temporary delete, recover and actual delete write the id of a header: no sector of a file and no other header changes, and of the header
-- itself nothing but the id.
use mathlib.Core.Path.{◌≡◌, refl, ap, ◌∙◌}
use mathlib.Core.Logic.{◌≢◌}
use mathlib.Core.List.{List}
use Prim.Native.Nat.{ℕ, zero, suc, ◌≤◌}
use native.Mathlib.Decide.{dec_lt}
use native.Mathlib.Omega.{arith}
use lib.ListN.{drop}
use Rattle.tables.specs.Books.{GoodWith}
use Rattle.tables.specs.Indexes.{header_start, header_count}
use Rattle.tables.specs.Places.{places_of}
use Rattle.tables.specs.Views.{UnderHeader, Parent}
use Rattle.tables.proofs.PointerLaws.{header_run}
use Rattle.files.specs.HeaderBytes.{header_marked}
use Rattle.files.specs.Moves.{sector_content, sectors_content}
use Rattle.files.proofs.HeaderByteLaws.{marked_none, marked_sector, kept_header_marked}
use Rattle.requests.specs.Answers.{after}
use Rattle.requests.specs.State.{marked_body}
use Rattle.histories.specs.History.{Volume, seen, Belongs}
use Rattle.histories.proofs.HeaderBody.{run_past_id, data_inside, data_apart, head_inside, headers_apart}

module _ (v : Volume) {extra : ℕ → ℕ} (g : GoodWith extra v.books (places_of v.books)) (id w : ℕ) where
  -- a sector that is none of the header's
  pub marked_stays : Parent (seen v) id → (body : List ℕ) (s : ℕ) → 1024 ≤ s → (UnderHeader (seen v) id s → ⊥) → sector_content (header_marked (seen v) id w body) s ≡ sector_content body s
  marked_stays parent body s low out =
      let t = (seen v).table id in
      elim (dec_lt 0 (header_count t)) [
        | yes some ↦ (let first : UnderHeader (seen v) id (header_start t) = record { parent = parent; from = omega arith; to = omega arith } in
            marked_sector (seen v) id w body s low (header_run (seen v) g.lawful.r6 id (header_start t) first).low (λ e. out (rw e first)))
        | no none ↦ ap (λ (y : List ℕ). sector_content y s) (marked_none (seen v) id w body (omega arith))
      ]

  module _ (r : ℕ) (body' : List ℕ) (is : body' ≡ after r (marked_body v.books id w v.body) v.body) (here : r ≡ 0 → Parent (seen v) id) where
    stays : (s : ℕ) → 1024 ≤ s → (UnderHeader (seen v) id s → ⊥) → sector_content body' s ≡ sector_content v.body s
    stays s low out = go r is here
      where
        go : (n : ℕ) → body' ≡ after n (marked_body v.books id w v.body) v.body → (n ≡ 0 → Parent (seen v) id) → sector_content body' s ≡ sector_content v.body s
        go zero e parent = ap (λ (y : List ℕ). sector_content y s) e ∙ marked_stays (parent refl) v.body s low out
        go (suc n) e parent = ap (λ (y : List ℕ). sector_content y s) e

    -- a file's sector
    pub marked_data : (f k s : ℕ) → Belongs v f k s → sector_content body' s ≡ sector_content v.body s
    marked_data f k s b = stays s (data_inside v g f k s b).0 (λ u. data_apart v g f k id s b u)

    -- a sector of another header
    pub marked_others : (f s : ℕ) → UnderHeader (seen v) f s → id ≢ f → sector_content body' s ≡ sector_content v.body s
    marked_others f s u ne = stays s (head_inside v g f s u).0 (λ own. ne (headers_apart v g id f s own u))

    -- the header itself
    pub marked_own : let t = (seen v).table id in drop 4 (sectors_content body' (header_start t) (header_count t)) ≡ drop 4 (sectors_content v.body (header_start t) (header_count t))
    marked_own = go r is
      where
        go : (n : ℕ) → body' ≡ after n (marked_body v.books id w v.body) v.body
            → (let t = (seen v).table id in drop 4 (sectors_content body' (header_start t) (header_count t)) ≡ drop 4 (sectors_content v.body (header_start t) (header_count t)))
        go zero e = let t = (seen v).table id in ap (λ (y : List ℕ). drop 4 (sectors_content y (header_start t) (header_count t))) e ∙ run_past_id v.body _ (header_start t) (header_count t) (kept_header_marked (seen v) id w v.body)
        go (suc n) e = let t = (seen v).table id in ap (λ (y : List ℕ). drop 4 (sectors_content y (header_start t) (header_count t))) e
