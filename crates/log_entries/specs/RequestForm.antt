-- The form of a request: what holds of each one, whoever sent it and whatever the history is. A client
-- keeps to it, and no repository tests it.
use Rattle.log_entries.specs.declared.request.Request.{Request}
use Rattle.object_codec.specs.Spelling.{ObjFits}
use Rattle.std.specs.Int.{w64}
use Rattle.std.specs.List.{AllByRecursion}
use Rattle.std.specs.List.Sorted.{IsStrictlySortedBy}
use Rattle.std.specs.Map.{keys_of}
use Rattle.std.specs.Ordering.{nat_cmp}
use Rattle.std.specs.Prelude.{ℕ, ◌<◌, ◌^◌, FitsSigned, List, length}
use Rattle.thor_value.specs.Names.{oref_cmp}
use Rattle.thor_value.specs.Spelling.{OrefFits, TsFits}
use Rattle.thor_value.specs.declared.names.Oref.{Oref}
use Rattle.thor_value.specs.declared.values.Answer.TheVariants.{Ints, Fault}
use Rattle.thor_value.specs.declared.values.Answer.{Answer}
use Rattle.thor_value.specs.declared.values.Obj.{Obj}

-- a name that a store can have, with an object that it can have
abbrev pub WriteFits : Oref × Obj → Type 0
WriteFits w = OrefFits w.0 × ObjFits w.1

-- the answers that a transaction can give: numbers of 64 bits, or a fault
abbrev pub AnswerFits : Answer → Type 0
AnswerFits (Ints ns) = AllByRecursion (FitsSigned w64) ns
AnswerFits (Fault f) = Unit {0}

-- each name is before those behind it
abbrev pub NamesRise : List Oref → Type 0
NamesRise names = IsStrictlySortedBy oref_cmp names

-- each number of a repository is below those behind it
abbrev pub ReposRise : List ℕ → Type 0
ReposRise repos = IsStrictlySortedBy nat_cmp repos

-- The requests that have a spelling: each number is one of the formats, and the other repositories that take
-- part rise and are counted by one byte.
pub record RequestFits (q : Request) : Type 0 where
  pub tx : TsFits q.tx
  pub index : q.who.index < 2 ^ 32
  pub session : q.session < 2 ^ 32
  pub epoch : q.epoch < 2 ^ 32
  pub upto : q.upto < 2 ^ 64
  pub ros : AllByRecursion OrefFits q.ros
  pub writes : AllByRecursion WriteFits q.writes
  pub fresh : AllByRecursion OrefFits q.fresh
  pub answer : AnswerFits q.answer
  pub others : length q.others < 2 ^ 8
  pub others_rise : ReposRise q.others

-- The form of a request: it has a spelling, the names that it read rise, so do those that it wrote, and
-- those who take part are repositories that a store can have.
pub record IsWellFormed (q : Request) : Type 0 where
  pub fits : RequestFits q
  pub read_rises : NamesRise q.ros
  pub written_rises : NamesRise (keys_of q.writes)
  pub others_are_repos : AllByRecursion (λ r. r < 8) q.others
