use Rattle.std.proofs.Common.{ap, is_lt, sym, true, ◌≡◌, ◌∙◌}
use Rattle.thor_value.specs.Names.{oref_cmp}
use Rattle.thor_value.specs.declared.names.Oref.{Oref}
use Rattle.validation_queue.proofs.Apart.{ended}
use Rattle.validation_queue.proofs.common.end_before.Goals as goal

pub returns-in-Some-Some : goal.returns-in-Some-Some
returns-in-Some-Some g c = λ t.
    let e : is_lt (oref_cmp (g.N.Named.name_of c.in-Some-Some.last.now) c.in-Some-Some.first.now) ≡ true = sym (c.is_lt.ensures ∙ ap is_lt c.cmp.ensures ∙ ap (λ (n : Oref). is_lt (oref_cmp n c.in-Some-Some.first.now)) c.name.ensures) ∙ t in
    ended g.N.Named.name_of c.args.things.now _ c.in-Some-Some.last.now c.args.names.now _ c.in-Some-Some.first.now c.requires.things c.requires.names c.in-Some-Some.ensures.cases.0 c.in-Some-Some.ensures'.cases.0 e
