use Rattle.std.proofs.Common.{◌∙◌}
use Rattle.method_check.proofs.SeenNames.{has_more, tells_new}
use Rattle.method_check.proofs.names.is_new.Goals as goal

pub returns-clause-new : goal.returns-clause-new
returns-clause-new c = λ earlier has.
    tells_new c.args.seen.now c.insert.new.self c.in_ok-text.text c.args.name.now earlier c.in_ok-insert.field-0 (c.in_ok-text.ensures.items ∙ c.bytes.ensures.bytes) c.in_ok-insert.ensures.added has

pub returns-clause-seen : goal.returns-clause-seen
returns-clause-seen c = λ earlier has.
    has_more c.args.seen.now c.insert.new.self c.in_ok-text.text c.args.name.now earlier c.in_ok-insert.field-0 (c.in_ok-text.ensures.items ∙ c.bytes.ensures.bytes) c.in_ok-insert.ensures.added c.in_ok-insert.ensures.keys has
