-- Before the first page.
use Rattle.page_store.specs.Sides.{ReachesSides}
use Rattle.std.proofs.Common.{List, [], subst, sym, ◌≡◌, ℕ}

-- a disk reaches the sides of no pages
pub reaches_none : (sides : List (ℕ × ℕ)) (disk : List ℕ) → sides ≡ [] → ReachesSides sides disk
reaches_none sides disk none = subst (λ (ps : List (ℕ × ℕ)). ReachesSides ps disk) (sym none) (λ page side used. cc)
