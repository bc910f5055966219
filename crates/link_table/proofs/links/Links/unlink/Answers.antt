use Rattle.link_table.proofs.Kept.{is_there, knows, pairs_stay, pairs_without, sound_without}
use Rattle.link_table.proofs.links.Links.unlink.Goals as goal
use Rattle.link_table.specs.States.{state_of}
use Rattle.link_table.specs.Tables.{State}
use Rattle.std.proofs.Common.{ap, sym, ◌∙◌}
use Rattle.std.specs.Option.{is_some}

pub invariant_of-self : goal.invariant_of-self
invariant_of-self c =
    let S : State = state_of c.self.inside.table in
    let n = is_there S c.args.left c.args.right c.in-Some.key c.self.invariant (sym c.key.ensures ∙ c.in-Some.is) in
    sound_without S (state_of c.remove.new.self) c.in-Some.key n.0 c.self.invariant n.1 (c.remove.ensures n.0 n.1)

pub returns-in-Some-clause-answer : goal.returns-in-Some-clause-answer
returns-in-Some-clause-answer c = rw (← c.self.view_is) (sym (ap is_some (sym c.key.ensures ∙ c.in-Some.is)) ∙ knows (state_of c.self.inside.table) c.args.left c.args.right c.self.invariant)

pub returns-in-Some-clause-rest : goal.returns-in-Some-clause-rest
returns-in-Some-clause-rest c =
    let S : State = state_of c.self.inside.table in
    let n = is_there S c.args.left c.args.right c.in-Some.key c.self.invariant (sym c.key.ensures ∙ c.in-Some.is) in
    rw (← c.self.view_is) (pairs_without S (state_of c.remove.new.self) c.args.left c.args.right c.in-Some.key n.0 c.self.invariant (sym c.key.ensures ∙ c.in-Some.is) n.1 (c.remove.ensures n.0 n.1))

pub returns-in-None-clause-answer : goal.returns-in-None-clause-answer
returns-in-None-clause-answer c = rw (← c.self.view_is) (sym (ap is_some (sym c.key.ensures ∙ c.in-None.is)) ∙ knows (state_of c.self.inside.table) c.args.left c.args.right c.self.invariant)

pub returns-in-None-clause-rest : goal.returns-in-None-clause-rest
returns-in-None-clause-rest c = rw (← c.self.view_is) (pairs_stay (state_of c.self.inside.table) c.args.left c.args.right c.self.invariant (sym c.key.ensures ∙ c.in-None.is))
