use Rattle.method_parse.proofs.PrintedTrees.{block_read, class_read, block_again, class_again}
use Rattle.method_parse.proofs.printing_laws.printed_texts_are_read.Goals as goal

pub returns-clause-blocks : goal.returns-clause-blocks
returns-clause-blocks c = block_read

pub returns-clause-classes : goal.returns-clause-classes
returns-clause-classes c = class_read

pub returns-clause-block_lines : goal.returns-clause-block_lines
returns-clause-block_lines c = block_again

pub returns-clause-class_lines : goal.returns-clause-class_lines
returns-clause-class_lines c = class_again
