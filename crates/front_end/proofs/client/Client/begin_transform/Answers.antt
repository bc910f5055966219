use Rattle.std.specs.Prelude.{IfOk}
use Rattle.client_state.specs.declared.link.Link.{Link}
use Rattle.client_state.specs.Settling.{NewsAsSent}
use Rattle.front_end.proofs.Calling.{same_sends_idle}
use Rattle.front_end.proofs.Stepping.{hands_same}
use Rattle.front_end.proofs.client.Client.begin_transform.Goals as goal
use Rattle.std.proofs.Common.{List, inr, refl, subst, ◌∙◌}

pub returns-clause-moves : goal.returns-clause-moves
returns-clause-moves g c = same_sends_idle _ _ _ c.args.self.now.held (record c.undo.new.self { cache = c.bring_forward.new.self }) (c.undo.ensures.less.0, c.undo.ensures.less.1, λ x. c.bring_forward.ensures.kept x ∙ c.undo.ensures.copies x) _ c.collect.result c.collect.ensures.moves

pub returns-clause-hands : goal.returns-clause-hands
returns-clause-hands g c = hands_same _ _ _ c.args.self.now (record c.args.self.now { held = record c.undo.new.self { cache = c.bring_forward.new.self } }) c.collect.new.self c.undo.ensures.less.1 refl (λ none. none) (inr refl) c.collect.result (c.collect.ensures.hands c.begun-transform.ensures)

pub returns-clause-as_sent : goal.returns-clause-as_sent
returns-clause-as_sent g c = subst (λ (ls : List Link). IfOk c.collect.result (NewsAsSent ls)) (c.undo.ensures.less.1) c.collect.ensures.as_sent
