use Rattle.script_text.proofs.Splits.{only_parts, parts_are, first_fault_is, only_fault}
use Rattle.script_text.proofs.splitting.split_sections.Goals as goal

pub returns-clause-only_parts : goal.returns-clause-only_parts
returns-clause-only_parts c = only_parts c.args.tokens c.split_by.result c.split_by.ensures.split

pub returns-clause-parts : goal.returns-clause-parts
returns-clause-parts c = parts_are c.args.tokens c.split_by.result c.split_by.ensures.split

pub returns-clause-first_fault : goal.returns-clause-first_fault
returns-clause-first_fault c = first_fault_is c.args.tokens c.split_by.result c.split_by.ensures.short c.split_by.ensures.split

pub returns-clause-only_fault : goal.returns-clause-only_fault
returns-clause-only_fault c = only_fault c.args.tokens c.split_by.result c.split_by.ensures.short c.split_by.ensures.split
