use Rattle.std.proofs.Common.{◌≡◌, ◌++◌, drop}
use Rattle.lazy_transform.specs.Wants.{each_once, unseen}
use Rattle.lazy_transform.proofs.transform.each_once.Given as goal

-- the names so far, each once, and those of the names to come that aren't among them
abbrev pub invariant-loop-name : goal.invariant-loop-name
invariant-loop-name l = l.once ++ unseen l.seen (drop l.name-index l.names) ≡ each_once l.names
