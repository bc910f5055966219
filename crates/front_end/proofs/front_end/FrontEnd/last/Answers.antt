use Rattle.front_end.proofs.Moving.{both_keep}
use Rattle.front_end.proofs.Stepping.{asks_more}
use Rattle.front_end.proofs.front_end.FrontEnd.last.Goals as goal
use Rattle.front_end.specs.Moving.{left_of}
use Rattle.std.proofs.Math.Nat.{le_trans}

pub loop-repo-preserved : goal.loop-repo-preserved
loop-repo-preserved g c = (
  both_keep (left_of c.args.self.now) (left_of c.loop-repo.self) (left_of c.ask_last.new.self) c.loop-repo.invariant.0 c.in_ok-ask_last.ensures.keeps,
  (le_trans c.loop-repo.invariant.1.0 c.ask_last.ensures.rises.0, le_trans c.loop-repo.invariant.1.1 c.ask_last.ensures.rises.1),
  asks_more _ _ _ _ _ c.args.self.now c.loop-repo.self c.ask_last.new.self c.loop-repo.invariant.2 (record { acts = c.ask_last.ensures.acts; moves = c.in_ok-ask_last.ensures.moves; shown = c.ask_last.ensures.shown; items = c.in_ok-ask_last.ensures.as_sent }),
)
