use Rattle.script_parse.proofs.EachText.{first_fault_only}
use Rattle.script_parse.proofs.FirstFaultTold.{first_fault_told}
use Rattle.script_parse.proofs.script_laws.the_first_fault_of_a_script_is_told.Goals as goal

pub returns-clause-told : goal.returns-clause-told
returns-clause-told c = first_fault_told

pub returns-clause-only : goal.returns-clause-only
returns-clause-only c = first_fault_only
