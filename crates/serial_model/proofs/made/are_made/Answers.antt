use Rattle.std.proofs.Common.{Bool, ◌&&◌, ap, sym, ◌∙◌}
use Rattle.serial_model.specs.Replays.{made_from}
use Rattle.serial_model.proofs.MadeSchemas.{tells_made}
use Rattle.serial_model.proofs.made.are_made.Goals as goal

pub returns-then-is_made : goal.returns-then-is_made
returns-then-is_made c = tells_made c.args.schemas.now c.are_made_behind.result (c.are_made_behind.ensures ∙ ap (made_from 1) c.as_slice.ensures ∙ ap (λ (b : Bool). b && made_from 1 c.args.schemas.now.upgraded) (sym c.if-is_made.true ∙ c.is_made.ensures))

pub returns-else-is_made : goal.returns-else-is_made
returns-else-is_made c = tells_made c.args.schemas.now c.is_made.result (c.if-is_made.false ∙ ap (λ (b : Bool). b && made_from 1 c.args.schemas.now.upgraded) (sym c.if-is_made.false ∙ c.is_made.ensures))
