-- The names that a front end gives to new objects (this project's). A repository grants it pages, and it gives their names
-- one after the other. An evaluation may give names in vain, and these are taken back and given again; with a commit the
-- names that were given are spent, and are never given again.
use Rattle.std.specs.Prelude.{◌≡◌, ℕ, ◌+◌, ◌==◌, ◌&&◌, Bool, true, false, not, if◌then◌else◌, nat_lt, find, List, [], ◌∷◌, ◌++◌, map, Option, Some, None}
use Rattle.std.specs.List.{AllByRecursion, IsDistinct, filter, fold, list_all, range_with_len}
use Rattle.thor_value.specs.FiniteMap.{Set, add, empty, has}
use Rattle.thor_value.specs.Names.{oref_cmp, same_oref}
use Rattle.thor_value.specs.declared.names.Oref.{Oref}
use Rattle.class_defs.specs.Objects.{stand_in_name}
use Rattle.class_defs.specs.declared.limits.TheConstants.{STAND_IN_LIMIT}
use Rattle.class_defs.specs.declared.machine.NameSupply.{NameSupply}
use Rattle.method_eval.specs.declared.held.Held.{Held}

-- The names that a front end has: those that it was granted and that aren't spent, in the order of the grants; those that
-- are spent; and, behind those that it was granted, the next stand-in name, as it is and as it was at the last commit.
pub record Names : Type 0 where
  pub held : List Held
  pub spent : Set oref_cmp
  pub stand_in : Option ℕ
  pub kept_stand_in : Option ℕ

abbrev pub none : Names
none = record { held = []; spent = empty; stand_in = None; kept_stand_in = None }

-- a name that isn't given
abbrev pub free : Oref → Held
free x = record { oref = x; given = false }

-- ---- what an evaluation sees

abbrev pub orefs : List Held → List Oref
orefs held = map (λ h. h.oref) held

-- those that aren't given
abbrev pub waiting : List Held → List Held
waiting held = filter (λ h. not h.given) held

-- those that are
abbrev pub given : List Held → List Held
given held = filter (λ h. h.given) held

-- the names that an evaluation has at hand
abbrev pub supply : Names → NameSupply
supply n = record { waiting = orefs (waiting n.held); stand_in = n.stand_in }

-- ---- pages

-- the names of a page, in the order of their slots
abbrev pub page_names : ℕ → ℕ → List Oref
page_names repo page = map (λ k. record { repo = repo; page = page; slot = k }) (range_with_len 0 12)

-- whether a held name is of another page
abbrev pub is_of_other : ℕ → ℕ → Held → Bool
is_of_other repo page h = not (h.oref.repo == repo && h.oref.page == page)

-- whether no held name is of this page
abbrev pub has_none_of : Names → ℕ → ℕ → Bool
has_none_of n repo page = list_all (is_of_other repo page) n.held

-- a page is granted: its names come behind the others, those aside that are spent
abbrev pub grant : Names → ℕ → ℕ → Names
grant n repo page = record n { held = n.held ++ map free (filter (λ x. not (has n.spent x)) (page_names repo page)) }

-- a repository's names go
abbrev pub drop_repo : Names → ℕ → Names
drop_repo n repo = record n { held = filter (λ h. not (h.oref.repo == repo)) n.held }

-- listed names, with none behind them
abbrev pub only_listed : List Oref → Names
only_listed names = record none { held = map free names }

-- Listed names, with the stand-in names behind them: 255.0.0, 255.0.1 and so on, all names of repository 255.
abbrev pub listed : List Oref → Names
listed names = record { held = map free names; spent = empty; stand_in = Some 0; kept_stand_in = Some 0 }

-- ---- one name after the other

-- whether a held name may be given in a repository
abbrev pub waits_in : ℕ → Held → Bool
waits_in repo h = not h.given && h.oref.repo == repo

-- the first that passes the test is given
abbrev pub give : (Held → Bool) → List Held → List Held
give test [] = []
give test (h ∷ held) = if test h then record h { given = true } ∷ held else h ∷ give test held

abbrev pub next_stand_in : Names → Option ℕ → Option Oref × Names
next_stand_in n None = (None, n)
next_stand_in n (Some k) = if nat_lt k STAND_IN_LIMIT then (Some (stand_in_name k), record n { stand_in = Some (k + 1) }) else (None, n)

abbrev pub next_by : Names → ℕ → Option Held → Option Oref × Names
next_by n repo (Some h) = (Some h.oref, record n { held = give (waits_in repo) n.held })
next_by n repo None = next_stand_in n n.stand_in

-- the next name in a repository, which is given: the first that waits there, and behind these a stand-in name
abbrev pub next : ℕ → Names → Option Oref × Names
next repo n = next_by n repo (find (waits_in repo) n.held)

-- ---- commits

-- the names that were given are taken back
abbrev pub reset : Names → Names
reset n = record n { held = map (λ h. free h.oref) n.held; stand_in = n.kept_stand_in }

-- a name that was given is spent
abbrev pub spend_one : Set oref_cmp → Held → Set oref_cmp
spend_one spent h = if h.given then add spent h.oref else spent

-- the names that were given are spent
abbrev pub spend : Names → Names
spend n = record { held = waiting n.held; spent = fold spend_one n.spent n.held; stand_in = n.stand_in; kept_stand_in = n.stand_in }

-- ---- what users rely on

-- Each held name is there once, and none is spent.
pub record IsSound (n : Names) : Type 0 where
  pub once : IsDistinct same_oref (orefs n.held)
  pub unspent : AllByRecursion (λ x. has n.spent x ≡ false) (orefs n.held)
