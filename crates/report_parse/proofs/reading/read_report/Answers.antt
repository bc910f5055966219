use Rattle.report_parse.proofs.Stops.{is_read, is_only, is_stop, is_only_fault}
use Rattle.report_parse.proofs.reading.read_report.Goals as goal

pub returns-clause-read : goal.returns-clause-read
returns-clause-read c = is_read c.args.bytes.now c.whole_of.result c.whole_of.ensures.short c.whole_of.ensures.told

pub returns-clause-only_report : goal.returns-clause-only_report
returns-clause-only_report c = is_only c.args.bytes.now c.whole_of.result c.whole_of.ensures.told

pub returns-clause-stopped : goal.returns-clause-stopped
returns-clause-stopped c = is_stop c.args.bytes.now c.whole_of.result c.whole_of.ensures.short c.whole_of.ensures.told

pub returns-clause-only_fault : goal.returns-clause-only_fault
returns-clause-only_fault c = is_only_fault c.args.bytes.now c.whole_of.result c.whole_of.ensures.short c.whole_of.ensures.told
