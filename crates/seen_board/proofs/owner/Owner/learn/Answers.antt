use Rattle.std.proofs.Common.{◌++◌, length, refl, ap, sym, ◌∙◌, arith}
use Rattle.std.proofs.lemmas.List.{append-nil}
use Rattle.seen_board.specs.Clauses.{knowledge}
use Rattle.seen_board.proofs.Coherence.{still_may}
use Rattle.seen_board.proofs.Known.{learnt}
use Rattle.seen_board.proofs.Rows.{own_one}
use Rattle.seen_board.proofs.owner.Owner.learn.Goals as goal

pub take_in-requires : goal.take_in-requires
take_in-requires g c = let o = c.args.self.now in record { board = (c.requires.board, c.requires.other); free = c.args.other.free; some = omega (arith, o.room, ap (λ z. z.words) c.requires.board) }

pub invariant_of-self : goal.invariant_of-self
invariant_of-self g c = let o = c.args.self.now in let t = c.take_in.ensures in record {
  free = t.free ∙ o.free;
  owned = ap (λ h. h.items.owned) t.knows ∙ (ap (λ l. (knowledge o.seat).items.owned ++ l) c.args.other.alone.0 ∙ (append-nil (knowledge o.seat).items.owned ∙ o.owned));
  calm = t.calm;
  room = omega (arith, o.room, ap (λ z. z.words) t.table);
  counted = o.counted ∙ ap length (t.mine.0.whole o.repo (own_one o.repo _ o.owned));
}

pub returns : goal.returns
returns g c =
    let o = c.args.self.now in
    let t = c.take_in.ensures in
    let own = sym (t.mine.0.whole o.repo (own_one o.repo _ o.owned)) in record {
      same = (refl, t.table);
      own = own;
      learnt = learnt (knowledge o.seat) (knowledge c.args.other.seat) (knowledge c.take_in.new.seat) t.knows t.mine t.theirs;
      coherent = t.coherent;
      may = still_may g.N.Naming.meaning (knowledge o.seat) (knowledge c.take_in.new.seat) o.repo own t.mine.1.begins;
    }
