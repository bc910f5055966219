use Rattle.std.proofs.Common.{◌∙◌, ap, sym}
use Rattle.std.specs.Prelude.{position}
use Rattle.method_eval.specs.Marks.{marks_of, spent_in}
use Rattle.method_eval.specs.Names.{Names, next, next_stand_in, waits_in}
use Rattle.method_eval.proofs.Holding.{given_names, next_given, next_not_held}
use Rattle.method_eval.proofs.Marking.{marked_same}
use Rattle.method_eval.proofs.names.Names.next.Goals as goal

pub invariant_of-self : goal.invariant_of-self
invariant_of-self c =
    marked_same (marks_of c.self.inside.marks) c.self.inside.held.items c.give_at.new.held.items
    (given_names c.self.inside.held.items c.give_at.new.held.items c.in-Some.place c.give_at.result c.give_at.ensures) c.self.invariant

pub returns-in-Some : goal.returns-in-Some
returns-in-Some c =
    let n : Names = record { held = c.self.inside.held.items; spent = spent_in (marks_of c.self.inside.marks); stand_in = c.self.inside.stand_in; kept_stand_in = c.self.inside.kept_stand_in } in
    next_given n c.args.repo c.in-Some.place c.give_at.result c.give_at.new.held.items
    (ap (position (waits_in c.args.repo)) (sym c.deref.ensures.value) ∙ sym c.place_in.ensures.place ∙ c.in-Some.is) c.give_at.ensures
    ∙ ap (next c.args.repo) c.self.view_is

pub returns-in-None : goal.returns-in-None
returns-in-None c =
    let n : Names = record { held = c.self.inside.held.items; spent = spent_in (marks_of c.self.inside.marks); stand_in = c.self.inside.stand_in; kept_stand_in = c.self.inside.kept_stand_in } in
    c.next_stand_in.ensures
    ∙ ap (λ (k : Names). next_stand_in k k.stand_in) (sym c.self.view_is)
    ∙ next_not_held n c.args.repo (ap (position (waits_in c.args.repo)) (sym c.deref.ensures.value) ∙ sym c.place_in.ensures.place ∙ c.in-None.is)
    ∙ ap (next c.args.repo) c.self.view_is
