use Rattle.std.proofs.Common.{nat_eq}
use Rattle.paused_eval.proofs.Hands.{others_tied}
use Rattle.paused_eval.proofs.copies.Copies.drop_repo.Goals as goal

pub invariant_of-self : goal.invariant_of-self
invariant_of-self c = record {
  tied = others_tied (λ x. nat_eq x.repo c.args.repo) c.args.self.now.cache c.drop_repo.new.self c.args.self.now.tied c.drop_repo.ensures.changed c.drop_repo.ensures.written;
}
