use Rattle.law_renaming.proofs.RenamedAfter.{unused_behind, unwritten_behind}
use Rattle.law_renaming.proofs.renaming.runs_leave_names_unused.Goals as goal

pub returns : goal.returns
returns c = record {
  unused = λ schema tx store fresh still_fresh names r unused t defined fewer stand_ins taken. unused_behind schema tx store fresh unused still_fresh
      fewer stand_ins names r t taken defined;
  unwritten = λ schema tx store fresh still_fresh names r x unused t defined fewer stand_ins taken is.
      unwritten_behind schema tx store fresh unused still_fresh fewer stand_ins names r t taken defined x is;
}
