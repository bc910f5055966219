use Rattle.std.proofs.Common.{ℕ, arith, length-take}
use Rattle.seen_board.proofs.Rows.{no_items, zero_take}
use Rattle.seen_board.proofs.Keeps.{begins}
use Rattle.seen_board.proofs.board.Board.open.Goals as goal

pub of_words-requires : goal.of_words-requires
of_words-requires g c = begins g.N.Naming.meaning c.args.repos c.args.clients _ (omega (arith, length-take {A = ℕ}, c.from.ensures)) (zero_take c.from.result _ no_items)
