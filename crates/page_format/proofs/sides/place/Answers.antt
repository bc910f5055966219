use Rattle.std.proofs.Common.{rules, Result, Ok, Err, IfOk, IfErr, ℕ, length}
use Rattle.std.specs.List.Sorted.{IsBinarySearchResult, IsSearchInRange}
use Rattle.std.specs.Ordering.{nat_cmp}
use Rattle.std.proofs.lemmas.List.Sorted.{answers_always}
use Rattle.page_format.specs.Sides.{SidesFit, IsPlace, IsGap}
use Rattle.page_format.proofs.Places.{Pairs, found_place, found_gap}
use Rattle.page_format.proofs.sides.place.Goals as goal

found : (pairs : Pairs) (page : ℕ) (r : Result ℕ ℕ) → SidesFit pairs → IsSearchInRange r (length pairs) → IsBinarySearchResult (λ (y : ℕ × ℕ). nat_cmp y.0 page) pairs r → IfOk r (λ at. IsPlace pairs page at)
found pairs page (Ok at) fit within position = found_place pairs page at fit within position
found pairs page (Err at) fit within position = tt

absent : (pairs : Pairs) (page : ℕ) (r : Result ℕ ℕ) → SidesFit pairs → IsSearchInRange r (length pairs) → IsBinarySearchResult (λ (y : ℕ × ℕ). nat_cmp y.0 page) pairs r → IfErr r (λ at. IsGap pairs page at)
absent pairs page (Ok at) fit within position = tt
absent pairs page (Err at) fit within position = found_gap pairs page at fit within position

pub returns-clause-found : goal.returns-clause-found
returns-clause-found c =
    let position = c.binary_search_by_key.ensures.position (λ (pair : ℕ × ℕ). pair.0) (answers_always _ _ _ (λ a r q k. search rules)) in
    found c.args.pairs.now c.args.page c.binary_search_by_key.result c.requires c.binary_search_by_key.ensures.bound position

pub returns-clause-absent : goal.returns-clause-absent
returns-clause-absent c =
    let position = c.binary_search_by_key.ensures.position (λ (pair : ℕ × ℕ). pair.0) (answers_always _ _ _ (λ a r q k. search rules)) in
    absent c.args.pairs.now c.args.page c.binary_search_by_key.result c.requires c.binary_search_by_key.ensures.bound position
