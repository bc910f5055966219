use Rattle.link_table.proofs.Lists.{left_stays, none_left, one_less}
use Rattle.link_table.proofs.links.Links.unlink_left.Goals as goal
use Rattle.link_table.specs.Pairs.{rights, unlink, unlink_left}
use Rattle.std.proofs.Common.{ap, arith, length, sym, ◌+◌, ◌∙◌, ◌≡◌}

pub loop-right-smaller : goal.loop-right-smaller
loop-right-smaller g c =
    let less : length (rights (unlink c.loop-right.self c.args.left c.in-Some.right) c.args.left) + 1 ≡ length (rights c.loop-right.self c.args.left) = one_less c.args.left c.in-Some.right c.loop-right.self c.next_right.ensures.distinct (sym c.next_right.ensures.value ∙ c.in-Some.is) in
    rw c.take.ensures.rest (omega (arith, less))

pub loop-right-preserved : goal.loop-right-preserved
loop-right-preserved g c =
    let less : length (rights (unlink c.loop-right.self c.args.left c.in-Some.right) c.args.left) + 1 ≡ length (rights c.loop-right.self c.args.left) = one_less c.args.left c.in-Some.right c.loop-right.self c.next_right.ensures.distinct (sym c.next_right.ensures.value ∙ c.in-Some.is) in
    record {
      rest = ap (λ ps. unlink_left ps c.args.left) c.take.ensures.rest ∙ left_stays c.args.left c.in-Some.right c.loop-right.self ∙ c.loop-right.invariant.rest;
      cost = rw (c.take.ensures.rest, c.take.ensures.cost) (omega (arith, less, c.loop-right.invariant.cost));
    }

pub returns-clause-rest : goal.returns-clause-rest
returns-clause-rest g c =
    let none = none_left c.args.left c.loop-right.self (sym c.next_right.ensures.value ∙ c.in_default.is) in
    sym none.0 ∙ c.loop-right.invariant.rest
