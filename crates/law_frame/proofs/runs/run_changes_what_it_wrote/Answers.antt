use Rattle.class_defs.proofs.RunOutcomes.{run_behind}
use Rattle.law_frame.proofs.runs.run_changes_what_it_wrote.Goals as goal

pub returns : goal.returns
returns c = record {
  objects = λ schema tx store names r x is h. (run_behind schema tx store names r is).objects x h;
  epoch = λ schema tx store names r is. (run_behind schema tx store names r is).epoch;
  roots = λ schema tx store names r is. (run_behind schema tx store names r is).roots;
}
