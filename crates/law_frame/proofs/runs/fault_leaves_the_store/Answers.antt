use Rattle.class_defs.proofs.RunOutcomes.{run_behind}
use Rattle.law_frame.proofs.runs.fault_leaves_the_store.Goals as goal

pub returns : goal.returns
returns c = record {
  store = λ schema tx store names r f is h. ((run_behind schema tx store names r is).fault f h).left;
  written = λ schema tx store names r f is h. ((run_behind schema tx store names r is).fault f h).written;
  names = λ schema tx store names r f is h. ((run_behind schema tx store names r is).fault f h).untaken;
}
