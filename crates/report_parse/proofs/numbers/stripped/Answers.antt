use Rattle.report_parse.proofs.Numerals.{strip_prefix_is}
use Rattle.report_parse.proofs.numbers.stripped.Goals as goal

pub returns : goal.returns
returns c = strip_prefix_is c.args.text.now c.args.bytes.now c.strip_prefix.result c.strip_prefix.ensures.cases
