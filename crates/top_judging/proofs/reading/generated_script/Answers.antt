use Rattle.std.proofs.Common.{◌∙◌}
use Rattle.top_judging.proofs.StageLaws.{none_same, read_same}
use Rattle.top_judging.proofs.reading.generated_script.Goals as goal

pub returns-in-Ok-clause-script : goal.returns-in-Ok-clause-script
returns-in-Ok-clause-script c =
    read_same c.as_bytes.result.now _ c.read_bytes.result (c.as_bytes.ensures.value ∙ c.in-Ok.ensures) c.read_bytes.ensures.script

pub returns-in-Ok-clause-reply : goal.returns-in-Ok-clause-reply
returns-in-Ok-clause-reply c =
    none_same c.as_bytes.result.now _ c.read_bytes.result (c.as_bytes.ensures.value ∙ c.in-Ok.ensures) c.read_bytes.ensures.reply
