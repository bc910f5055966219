use Rattle.script_parse.proofs.EachText.{each_text}
use Rattle.script_parse.proofs.OneScript.{none_refused, one_refusal, one_script}
use Rattle.script_parse.proofs.script_laws.scripts_are_read_in_one_way.Goals as goal

pub returns-clause-each : goal.returns-clause-each
returns-clause-each c = each_text

pub returns-clause-script : goal.returns-clause-script
returns-clause-script c = one_script

pub returns-clause-none_refused : goal.returns-clause-none_refused
returns-clause-none_refused c = none_refused

pub returns-clause-refusal : goal.returns-clause-refusal
returns-clause-refusal c = one_refusal
