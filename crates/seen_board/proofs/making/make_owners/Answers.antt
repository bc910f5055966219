use Rattle.std.proofs.Common.{◌≡◌, ◌-◌, length, sym, ◌∙◌, arith}
use Rattle.seen_board.proofs.Rows.{each_push}
use Rattle.seen_board.proofs.making.make_owners.Goals as goal

pub loop-repo-preserved : goal.loop-repo-preserved
loop-repo-preserved g c =
    let i = c.loop-repo.invariant in
    let e = c.new_owner.ensures in
    (e.chief.0 ∙ i.0, e.chief.1 ∙ i.1, e.chief.2, omega (arith, i.3, c.in_ok-push.ensures.len), rw c.in_ok-push.ensures.items (each_push _ c.loop-repo.owners.items c.new_owner.result i.4 (e.owner.0 ∙ sym i.3, e.owner.1)))

pub returns-clause-owners : goal.returns-clause-owners
returns-clause-owners g c =
    let i = c.loop-repo.invariant in
    let e = c.last_owner.ensures in
    let last : c.args.repos - 1 ≡ length c.loop-repo.owners.items = omega (arith, i.3, c.loop-repo-test.false, c.loop-repo.auto.repo-end, c.requires.some) in
    rw c.in_ok-push-2.ensures.items (each_push _ c.loop-repo.owners.items c.last_owner.result i.4 (e.0 ∙ last, (e.1.0 ∙ i.0 ∙ c.requires.board.0, e.1.1, e.1.2)))
