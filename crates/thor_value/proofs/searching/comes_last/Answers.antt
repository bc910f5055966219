use Rattle.std.proofs.Common.{sym, ◌∙◌}
use Rattle.thor_value.proofs.Rising.{behind_last, behind_none, less}
use Rattle.thor_value.proofs.searching.comes_last.Goals as goal

pub returns-in-None : goal.returns-in-None
returns-in-None c = λ is. behind_none c.args.names.now c.args.oref c.in-None.ensures.value

pub returns-in-Some : goal.returns-in-Some
returns-in-Some c = λ is. behind_last c.args.names.now c.in-Some.last.now c.args.oref c.requires c.in-Some.ensures.value (sym c.cmp.ensures ∙ less c.cmp.result (sym c.is_lt.ensures ∙ is))
