use Rattle.script_text.proofs.Scanned.{read, stopped, only_tokens, only_fault, spelled, spans, slices}
use Rattle.script_text.proofs.scanning.scan.Goals as goal

pub returns-clause-read : goal.returns-clause-read
returns-clause-read c = read c.args.text.now c.all_tokens.result c.all_tokens.ensures.tokens

pub returns-clause-only_tokens : goal.returns-clause-only_tokens
returns-clause-only_tokens c = only_tokens c.args.text.now c.all_tokens.result c.all_tokens.ensures.tokens c.all_tokens.ensures.fault

pub returns-clause-stopped : goal.returns-clause-stopped
returns-clause-stopped c = stopped c.args.text.now c.all_tokens.result c.all_tokens.ensures.fault

pub returns-clause-only_fault : goal.returns-clause-only_fault
returns-clause-only_fault c = only_fault c.args.text.now c.all_tokens.result c.all_tokens.ensures.tokens c.all_tokens.ensures.fault

pub returns-clause-spans : goal.returns-clause-spans
returns-clause-spans c = spans c.args.text.now c.all_tokens.result c.all_tokens.ensures.tokens

pub returns-clause-slices : goal.returns-clause-slices
returns-clause-slices c = slices c.args.text.now c.all_tokens.result c.all_tokens.ensures.tokens

pub returns-clause-spelled : goal.returns-clause-spelled
returns-clause-spelled c = spelled c.args.text.now c.all_tokens.result c.all_tokens.ensures.tokens
