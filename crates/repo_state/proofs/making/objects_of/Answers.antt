use Rattle.std.proofs.Common.{◌≡◌, false, rules, subst, sym, true}
use Rattle.repo_state.proofs.Kept.{of_writes}
use Rattle.repo_state.proofs.Unfit.{not_of}
use Rattle.commit_log.specs.Recovered.{are_of}
use Rattle.mob_buffer.specs.Buffer.{AreOf}
use Rattle.repo_state.proofs.making.objects_of.Goals as goal

pub buffer_of-requires-clause-one_repo : goal.buffer_of-requires-clause-one_repo
buffer_of-requires-clause-one_repo c =
    let all : are_of c.args.repo c.args.mob ≡ true = search rules in
    of_writes c.args.repo c.args.mob all c.requires.fit

pub returns-clause-one_repo : goal.returns-clause-one_repo
returns-clause-one_repo c =
    let all : are_of c.args.repo c.args.mob ≡ true = search rules in
    let is : c.new-2.result.mob.objects ≡ c.args.mob = search rules in
    subst (AreOf c.args.repo) (sym is) (of_writes c.args.repo c.args.mob all c.requires.fit)

pub returns-then-not-are_of-clause-unfit : goal.returns-then-not-are_of-clause-unfit
returns-then-not-are_of-clause-unfit c = λ is of.
    let isnt : are_of c.args.repo c.args.mob ≡ false = search rules in
    not_of c.args.repo c.args.mob isnt of
