use Rattle.std.proofs.Common.{◌≡◌, [], ◌∙◌, rules}
use Rattle.seen_board.specs.Clauses.{knowledge}
use Rattle.seen_board.specs.Knowledge.{LiesIn}
use Rattle.seen_board.proofs.Rows.{each_pop, taken_more, taken_all}
use Rattle.seen_board.proofs.Known.{lies_trans}
use Rattle.seen_board.proofs.closing.gather_owners.Goals as goal

pub take_in-requires-clause-board : goal.take_in-requires-clause-board
take_in-requires-clause-board g c = let i = c.loop-owner.invariant in
    (i.0 ∙ c.requires.board, (each_pop (λ _ x. x.seat.table_id ≡ c.args.board.now.table.shared.table_id) c.loop-owner.owners.items c.pop.new.self.items c.in-Some.owner c.in-Some.ensures.items i.2).1)

pub loop-owner-preserved : goal.loop-owner-preserved
loop-owner-preserved g c = let i = c.loop-owner.invariant in let t = c.take_in.ensures in (
  t.table ∙ i.0,
  lies_trans _ _ _ i.1 t.mine,
  (each_pop (λ _ x. x.seat.table_id ≡ c.args.board.now.table.shared.table_id) c.loop-owner.owners.items c.pop.new.self.items c.in-Some.owner c.in-Some.ensures.items i.2).0,
  taken_more (λ x. LiesIn (knowledge x.seat) (knowledge c.loop-owner.chief)) (λ x. LiesIn (knowledge x.seat) (knowledge c.take_in.new.seat)) c.loop-owner.owners.items c.pop.new.self.items c.args.owners.items c.in-Some.owner c.in-Some.ensures.items
      (λ y w. lies_trans _ _ _ w t.mine) t.theirs i.3,
)

pub returns-clause-owners : goal.returns-clause-owners
returns-clause-owners g c =
    let none : c.loop-owner.owners.items ≡ [] = search rules in
    taken_all (λ x. LiesIn (knowledge x.seat) (knowledge c.loop-owner.chief)) c.loop-owner.owners.items c.args.owners.items none c.loop-owner.invariant.3
