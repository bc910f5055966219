use Rattle.std.proofs.Common.{◌++◌, refl, ap, sym, ◌∙◌, arith}
use Rattle.std.proofs.lemmas.List.{append-nil}
use Rattle.seen_board.specs.Clauses.{knowledge}
use Rattle.seen_board.proofs.Known.{learnt}
use Rattle.seen_board.proofs.Rows.{own_one}
use Rattle.seen_board.proofs.client_pass.ClientPass.learn.Goals as goal

pub take_in-requires : goal.take_in-requires
take_in-requires g c = let o = c.args.self.now in record { board = (c.requires.board, c.requires.other); free = c.args.other.free; some = omega (arith, o.room, ap (λ z. z.words) c.requires.board) }

pub invariant_of-self : goal.invariant_of-self
invariant_of-self g c = let o = c.args.self.now in let t = c.take_in.ensures in record {
  free = t.free ∙ o.free;
  owned = ap (λ h. h.calls.owned) t.knows ∙ (ap (λ l. (knowledge o.seat).calls.owned ++ l) c.args.other.alone.1 ∙ (append-nil (knowledge o.seat).calls.owned ∙ o.owned));
  calm = t.calm;
  room = omega (arith, o.room, ap (λ z. z.words) t.table);
}

pub returns : goal.returns
returns g c = let o = c.args.self.now in let t = c.take_in.ensures in record {
  same = (refl, t.table);
  looks = t.looks;
  own = sym (t.mine.1.whole o.client (own_one o.client _ o.owned));
  learnt = learnt (knowledge o.seat) (knowledge c.args.other.seat) (knowledge c.take_in.new.seat) t.knows t.mine t.theirs;
  coherent = t.coherent;
}
