-- What the sets say, session by session and object by object.
use Rattle.cached_sets.specs.Invalid.{Invalid, Invalids, set_of}
use Rattle.cached_sets.specs.Sets.{Sets}
use Rattle.link_table.specs.Pairs.{is_linked}
use Rattle.std.specs.List.{AllByRecursion}
use Rattle.std.specs.Prelude.{Bool, List, None, Option, Some, [], cond, nat_le, ℕ, ◌∷◌, ◌≡◌, ◌≤◌}
use Rattle.thor_value.specs.FiniteMap.{IsSorted, get}
use Rattle.thor_value.specs.declared.names.Oref.{Oref}

-- whether the session s has the page
abbrev pub has_page : Sets → ℕ → ℕ → Bool
has_page S s page = is_linked S.cached s page

-- the place of x in the invalid set of the session s
abbrev pub place_in : Sets → ℕ → Oref → Option ℕ
place_in S s x = get (set_of S.invalid s) x

-- k, where it isn't below a place
abbrev pub unless_below : ℕ → ℕ → Option ℕ
unless_below upto k = cond (nat_le upto k) (Some k) None

-- The sets stand in the order of their keys, as each call leaves them.
pub record IsOrdered (N : Invalids) : Type 0 where
  pub sessions : IsSorted N
  pub sets : (s : ℕ) (m : Invalid) → get N s ≡ Some m → IsSorted m

-- None of some places is below one before it.
abbrev pub NeverFall : List ℕ → Type 0
NeverFall [] = Unit {0}
NeverFall (k ∷ ks) = AllByRecursion (λ j. k ≤ j) ks × NeverFall ks
