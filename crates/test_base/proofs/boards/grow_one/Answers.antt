use Rattle.seen_board.specs.Clauses.{knowledge}
use Rattle.test_base.proofs.SampleLemmas.{opened_may}
use Rattle.test_base.proofs.boards.grow_one.Goals as goal

pub grow-requires-clause-next : goal.grow-requires-clause-next
grow-requires-clause-next c = opened_may c.args.most (knowledge c.args.owner.now.seat) c.args.owner.now.repo c.requires.room
