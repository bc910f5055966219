use Rattle.method_check.proofs.LeastFault.{none_before, one_of_them}
use Rattle.class_defs.proofs.KeptRules.{none_told}
use Rattle.method_check.proofs.laws.the_least_fault_is_told.Goals as goal

pub returns-clause-none : goal.returns-clause-none
returns-clause-none c = none_told

pub returns-clause-one_of_them : goal.returns-clause-one_of_them
returns-clause-one_of_them c = one_of_them

pub returns-clause-first : goal.returns-clause-first
returns-clause-first c = none_before
