use Rattle.log_codec.specs.Checkpoint.{RootFits}
use Rattle.std.proofs.Common.{refl, subst, sym}
use Rattle.std.specs.List.{AllByRecursion}
use Rattle.repo_format.proofs.First.{bare_fits}
use Rattle.repo_format.proofs.state.first_state.Goals as goal

pub returns-clause-fits : goal.returns-clause-fits
returns-clause-fits c = bare_fits _ (record {
  life = refl;
  count = refl;
  threshold = refl;
  next_page = c.page_count.ensures.few;
  roots = subst (AllByRecursion RootFits) (sym c.in_ok-copy.ensures) c.requires.roots;
  installed = c.as_slice.ensures.fit;
  mob = c.new-2.ensures;
  prepared = c.new-3.ensures;
  kept = c.new-4.ensures;
  alone = c.new-5.ensures;
})
