use Rattle.std.proofs.Common.{sym, subst}
use Rattle.seen_board.specs.Clauses.{MayGrow, knowledge}
use Rattle.test_base.specs.Samples.{puts}
use Rattle.test_base.proofs.SampleLemmas.{opening_may}
use Rattle.test_base.proofs.boards.open_log.Goals as goal

pub grow-requires-clause-next : goal.grow-requires-clause-next
grow-requires-clause-next c =
    let o = c.args.owner.now in
    subst (MayGrow puts c.args.log.now.entries.items (knowledge o.seat)) (sym c.requires.fresh.0) (opening_may c.args.log.now.entries.items (knowledge o.seat) 0 c.requires.log c.requires.fresh.1)
