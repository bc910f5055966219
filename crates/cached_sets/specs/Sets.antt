-- The cached sets and the invalid sets of the sessions of one repository, and what its calls do to
-- them.
use Rattle.cached_sets.specs.Invalid.{Invalids, change, first_stale, from, mark, next_of, set_of}
use Rattle.cached_sets.specs.Noted.{Noted, noted_from, with_place}
use Rattle.cached_sets.specs.declared.marked.Marked.{Marked}
use Rattle.link_table.specs.Pairs as pairs
use Rattle.link_table.specs.Pairs.{is_linked, lefts}
use Rattle.std.specs.List.{filter, flat_map, fold}
use Rattle.std.specs.Prelude.{List, Option, [], cond, map, nat_eq, not, ℕ}
use Rattle.thor_value.specs.FiniteMap.{empty, has, insert, remove}
use Rattle.thor_value.specs.declared.names.Oref.{Oref}

-- What a repository keeps of its sessions. (Cached sets: Adya and others, SIGMOD 1995.)
pub record Sets : Type 0 where
  -- each session with each page that its client may have, in the order in which they were cached
  pub cached : List (ℕ × ℕ)
  -- the invalid set of each session that has cached a page
  pub invalid : Invalids
  -- of each session the places at which it was told what its client hasn't acknowledged
  pub noted : Noted

-- no session has a page
abbrev pub no_sets : Sets
no_sets = record { cached = []; invalid = empty; noted = empty }

-- with an invalid set of the session s, which begins empty
abbrev pub opened : Invalids → ℕ → Invalids
opened N s = cond (has N s) N (insert N s empty)

-- the client of the session s may have the page from now on
abbrev pub cache : Sets → ℕ → ℕ → Sets
cache S s page = record {
  cached = cond (is_linked S.cached s page) S.cached (pairs.link S.cached s page);
  invalid = opened S.invalid s;
  noted = S.noted;
}

-- the sessions other than the writer that may have x
abbrev pub holders : List (ℕ × ℕ) → ℕ → Oref → List ℕ
holders cached writer x = filter (λ s. not (nat_eq s writer)) (lefts cached x.page)

-- each of those, with each of the names
abbrev pub touches : List (ℕ × ℕ) → ℕ → List Oref → List (ℕ × Oref)
touches cached writer names = flat_map (λ x. map (λ s. (s, x)) (holders cached writer x)) names

-- those among some sessions that aren't the writer, each with x
abbrev pub others : ℕ → Oref → List ℕ → List (ℕ × Oref)
others writer x ss = map (λ s. (s, x)) (filter (λ s. not (nat_eq s writer)) ss)

-- the session and the object of a mark
abbrev pub told_of : Marked → ℕ × Oref
told_of t = (t.session, t.oref)

-- with all those marked at the place k
abbrev pub marked : Invalids → List (ℕ × Oref) → ℕ → Invalids
marked N ts k = fold (λ M t. mark M t.0 t.1 k) N ts

-- the writer has written some objects, in the commit at the place k
abbrev pub touch : Sets → ℕ → List Oref → ℕ → Sets
touch S writer names k = record { cached = S.cached; invalid = marked S.invalid (touches S.cached writer names) k; noted = S.noted }

-- the session s was told of a commit at the place k
abbrev pub note : Sets → ℕ → ℕ → Sets
note S s k = record S { noted = with_place S.noted s k }

-- the client of the session s knows what was written and told below a place
abbrev pub acknowledge : Sets → ℕ → ℕ → Sets
acknowledge S s upto = record { cached = S.cached; invalid = change S.invalid s (from upto); noted = noted_from s upto S.noted }

-- the session s ends
abbrev pub drop_session : Sets → ℕ → Sets
drop_session S s = record { cached = pairs.unlink_left S.cached s; invalid = remove S.invalid s; noted = remove S.noted s }

-- the first of some names that was written since, at a place not below upto, with that place
abbrev pub stale : Sets → ℕ → List Oref → ℕ → Option (Oref × ℕ)
stale S s names upto = first_stale (set_of S.invalid s) upto names

-- one step of a walk over the invalid set of the session s
abbrev pub invalid_after : Sets → ℕ → Option Oref → Option (Oref × ℕ)
invalid_after S s last = next_of (set_of S.invalid s) last
