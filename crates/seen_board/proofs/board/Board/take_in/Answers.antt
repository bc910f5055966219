use Rattle.std.proofs.Common.{ap, ◌∙◌}
use Rattle.seen_board.proofs.Keeps.{joins, compares, joined_knows, taken_in}
use Rattle.seen_board.proofs.board.Board.take_in.Goals as goal

pub join_seat-requires : goal.join_seat-requires
join_seat-requires g c = (c.requires.board.0, c.requires.board.1, c.requires.free, c.requires.some, joins g.N.Naming.meaning g.N.Naming.lasts _ _ _ _ _)

pub load-requires : goal.load-requires
load-requires g c =
    let j = c.join_seat.ensures in
    (j.0 ∙ c.requires.board.0, c.requires.some, compares g.N.Naming.meaning g.N.Naming.lasts _ _ _ _ (joined_knows g.N.Naming.meaning g.N.Naming.lasts c.args.seat.now.me.0 c.args.other.me.0 _ c.args.seat.now.me.1 j.2))

pub returns : goal.returns
returns g c =
    let j = c.join_seat.ensures in
    let l = c.load.ensures in
    let t = taken_in g.N.Naming.meaning g.N.Naming.lasts c.args.seat.now.me.0 c.args.other.me.0 c.args.seat.now.me.1 _ _ j.2 l.2 in record {
      table = l.0 ∙ j.0;
      free = ap (λ m. m.1) t.0;
      looks = ap (λ m. m.0.reached) t.0;
      knows = ap (λ m. m.0.knows) t.0;
      calm = (ap (λ m. m.0.mine) t.0, ap (λ m. m.0.theirs) t.0);
      mine = t.1;
      theirs = t.2;
      coherent = t.3;
    }
