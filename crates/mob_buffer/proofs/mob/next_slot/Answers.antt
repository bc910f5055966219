use Rattle.std.proofs.Common.{true, false, arith, ◌∙◌, sym, inl, inr}
use Rattle.std.proofs.lemmas.Bool.{cases_lt}
use Rattle.mob_buffer.proofs.Names.{found_has, none_more, none_above}
use Rattle.mob_buffer.proofs.mob.next_slot.Goals as goal

pub returns-then-contains : goal.returns-then-contains
returns-then-contains c = (omega arith, omega arith, found_has c.args.repo c.args.page c.loop-slot.slot c.args.objects.now.entries true c.requires (sym c.if-contains.true ∙ c.contains.ensures), c.loop-slot.invariant)

pub loop-slot-preserved : goal.loop-slot-preserved
loop-slot-preserved c = none_more c.args.objects.now.entries c.args.page c.args.low c.loop-slot.slot c.loop-slot.invariant (found_has c.args.repo c.args.page c.loop-slot.slot c.args.objects.now.entries false c.requires (sym c.if-contains.false ∙ c.contains.ensures))

pub returns : goal.returns
returns c = λ s from. elim (cases_lt s c.loop-slot.slot) [
  | inl lt ↦ c.loop-slot.invariant s from lt
  | inr ge ↦ none_above c.args.repo c.args.page s c.args.objects.now.entries c.requires (omega arith)
]
