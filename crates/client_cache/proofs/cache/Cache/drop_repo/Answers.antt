use Rattle.std.proofs.Common.{nat_eq}
use Rattle.client_cache.specs.Copies.{copy_by}
use Rattle.client_cache.specs.Slots.{kept_in, written_in}
use Rattle.client_cache.proofs.Elsewhere.{some_unless, told_elsewhere, written_elsewhere}
use Rattle.client_cache.proofs.cache.Cache.drop_repo.Goals as goal

pub invariant_of-self : goal.invariant_of-self
invariant_of-self c = record {
  some = c.self.invariant.some;
  marked = λ x. rw (c.drop_repo-2.ensures, c.drop_repo.ensures, told_elsewhere written_in c.args.repo c.self.inside.pages x, written_elsewhere c.args.repo c.self.inside.written x, ← c.self.invariant.marked x) (some_unless (nat_eq x.repo c.args.repo) (copy_by written_in c.self.inside.pages x));
}

pub returns-clause-kept : goal.returns-clause-kept
returns-clause-kept c = λ x. rw (← c.self.view_is, c.drop_repo.ensures) (told_elsewhere kept_in c.args.repo c.self.inside.pages x)

pub returns-clause-changed : goal.returns-clause-changed
returns-clause-changed c = λ x. rw (← c.self.view_is, c.drop_repo.ensures) (told_elsewhere written_in c.args.repo c.self.inside.pages x)
