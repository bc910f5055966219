use Rattle.std.proofs.Common.{ap, arith}
use Rattle.seen_board.proofs.Keeps.{copies}
use Rattle.seen_board.proofs.owner.Owner.note.Goals as goal

pub split_seat-seat-requires : goal.split_seat-seat-requires
split_seat-seat-requires g c =
    let o = c.args.self.now in
    (c.requires, omega (arith, o.room, ap (λ z. z.words) c.requires), copies g.N.Naming.meaning g.N.Naming.lasts _ _ _)
