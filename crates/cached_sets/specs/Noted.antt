-- The places at which sessions were told what their clients haven't acknowledged. (That a session is given up whose
-- client leaves too much unacknowledged is this project's.)
use Rattle.cached_sets.specs.Invalid.{replace}
use Rattle.std.specs.Option.{unwrap_or}
use Rattle.std.specs.Ordering.{nat_cmp}
use Rattle.std.specs.Prelude.{Bool, List, None, Option, Some, [], cond, false, length, nat_lt, ℕ, ◌++◌, ◌∷◌}
use Rattle.thor_value.specs.FiniteMap.{Map, get, insert}

-- how many places a session may have
abbrev pub most_noted : ℕ
most_noted = 4096

-- the places of each session, in the order in which they were noted
abbrev pub Noted : Type 0
Noted = Map nat_cmp (List ℕ)

-- those of the session s
abbrev pub places_of : Noted → ℕ → List ℕ
places_of N s = unwrap_or (get N s) []

-- whether the session s has more places than it may have
abbrev pub is_silent : Noted → ℕ → Bool
is_silent N s = nat_lt most_noted (length (places_of N s))

abbrev pub noted_behind : Noted → ℕ → ℕ → Option (List ℕ) → Noted
noted_behind N s k None = insert N s (k ∷ [])
noted_behind N s k (Some ks) = replace N s (ks ++ k ∷ [])

-- with one more place of the session s, which comes last
abbrev pub with_place : Noted → ℕ → ℕ → Noted
with_place N s k = noted_behind N s k (get N s)

-- whether some places begin with one below upto
abbrev pub begins_below : ℕ → List ℕ → Bool
begins_below upto [] = false
begins_below upto (k ∷ ks) = nat_lt k upto

-- some places without the first ones, as long as those are below upto
abbrev pub places_from : ℕ → List ℕ → List ℕ
places_from upto [] = []
places_from upto (k ∷ ks) = cond (nat_lt k upto) (places_from upto ks) (k ∷ ks)

abbrev pub kept_from : Noted → ℕ → ℕ → Option (List ℕ) → Noted
kept_from N s upto None = N
kept_from N s upto (Some ks) = replace N s (places_from upto ks)

-- without the first places of the session s, as long as those are below upto
abbrev pub noted_from : ℕ → ℕ → Noted → Noted
noted_from s upto N = kept_from N s upto (get N s)
