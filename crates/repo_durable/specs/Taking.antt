-- What a repository takes over as it comes up.
use Rattle.log_codec.specs.Grammar.{BodyFits}
use Rattle.log_codec.specs.declared.body.Body.TheVariants.{Entry as AnEntry}
use Rattle.page_store.specs.Sides.{ReachesSides}
use Rattle.page_store.specs.Store.{Agrees, Store}
use Rattle.repo_durable.specs.declared.recovering.Taken.TheVariants.{Held, Pending}
use Rattle.repo_durable.specs.declared.recovering.Taken.{Taken}
use Rattle.log_entries.specs.declared.entry.Entry.{Entry}
use Rattle.std.specs.Prelude.{List, Option, Some, ◌≡◌, ℕ}

-- the pages in memory are those of each disk that reaches their sides
abbrev pub AgreesWhere : Store → Type 0
AgreesWhere pages = (disk : List ℕ) → ReachesSides pages.sides disk → Agrees pages disk

-- a pending entry that is taken has a spelling
abbrev pub CanTake : Taken → Type 0
CanTake Held = Unit {0}
CanTake (Pending e) = BodyFits (AnEntry e)

-- an entry that is taken was the pending one
abbrev pub TakesFrom : Option Entry → Taken → Type 0
TakesFrom pending Held = Unit {0}
TakesFrom pending (Pending e) = pending ≡ Some e
