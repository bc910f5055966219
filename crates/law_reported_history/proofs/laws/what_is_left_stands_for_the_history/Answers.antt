use Rattle.law_reported_history.proofs.Leaving.{each_left, stands_for}
use Rattle.law_reported_history.proofs.laws.what_is_left_stands_for_the_history.Goals as goal

pub returns : goal.returns
returns g c = record {
  left = λ given ended traces e based r part t at_part at_t. each_left g.P.Parts.disks given ended traces e based r part t at_part at_t;
  stands = λ b part t images l tells left. stands_for b (g.P.Parts.disks part) t images l tells left;
}
