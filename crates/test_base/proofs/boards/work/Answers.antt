use Rattle.std.proofs.Common.{◌≡◌, ℕ, ◌+◌, length, refl, ap, ◌∙◌, subst, arith}
use Rattle.seen_board.specs.Clauses.{history}
use Rattle.seen_board.specs.Knowledge.{at}
use Rattle.test_base.proofs.boards.work.Goals as goal

pub loop-init : goal.loop-init
loop-init c = (refl, c.requires.ready.0, refl, c.requires.ready.1, ap length c.requires.ready.2)

pub grow_one-requires-clause-board : goal.grow_one-requires-clause-board
grow_one-requires-clause-board c = c.loop.invariant.1

pub grow_one-requires-clause-room : goal.grow_one-requires-clause-room
grow_one-requires-clause-room c =
    let i = c.loop.invariant in
    let here = ap (λ (r : ℕ). length (history c.loop.owner.seat r)) i.0 in omega (arith, here, i.4, c.loop-test.true)

pub meet-requires-clause-board : goal.meet-requires-clause-board
meet-requires-clause-board c = c.loop.invariant.3

pub note-note-requires : goal.note-note-requires
note-note-requires c = c.grow_one.ensures.same.1 ∙ c.loop.invariant.1

pub learn-requires-clause-board : goal.learn-requires-clause-board
learn-requires-clause-board c = c.meet.ensures.same.1 ∙ c.loop.invariant.3

pub learn-requires-clause-other : goal.learn-requires-clause-other
learn-requires-clause-other c = c.note-note.ensures.table ∙ c.grow_one.ensures.same.1 ∙ c.loop.invariant.1

pub loop-preserved : goal.loop-preserved
loop-preserved c =
    let i = c.loop.invariant in
    let grown = c.grow_one.ensures in
    let noted = c.note-note.ensures in
    let longer = subst (λ (r : ℕ). length (history c.grow_one.new.owner.seat r) ≡ length (history c.loop.owner.seat r) + 1) i.0 grown.length in
    let same = ap (λ h. length (at h.items c.args.team.0.repo)) noted.same.2 in (
      noted.same.0 ∙ grown.same.0 ∙ i.0,
      noted.same.1 ∙ grown.same.1 ∙ i.1,
      c.learn.ensures.same.0 ∙ c.meet.ensures.same.0 ∙ i.2,
      c.learn.ensures.same.1 ∙ c.meet.ensures.same.1 ∙ i.3,
      omega (arith, same, longer, i.4),
    )

pub returns : goal.returns
returns c =
    let i = c.loop.invariant in record {
      same = (i.0, i.2);
      worked = (i.1, i.3, omega (arith, i.4, c.loop-test.false, c.loop.auto.counter-end));
    }
