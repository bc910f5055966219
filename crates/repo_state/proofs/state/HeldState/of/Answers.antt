use Rattle.std.proofs.Common.{refl, ◌∙◌}
use Rattle.repo_state.proofs.Buffers.{new_distinct}
use Rattle.repo_state.proofs.Filled.{alone_made, keeps_made, own_format, same_made}
use Rattle.repo_state.proofs.state.HeldState.of.Goals as goal

pub objects_of-requires-clause-distinct : goal.objects_of-requires-clause-distinct
objects_of-requires-clause-distinct c = new_distinct c.args.state.mob c.requires.mob_distinct

pub returns-clause-keeps : goal.returns-clause-keeps
returns-clause-keeps c = keeps_made _ c.args.state c.requires refl refl refl refl refl refl c.in_ok-table.ensures.made c.in_ok-objects.ensures.one_repo

pub returns-clause-said : goal.returns-clause-said
returns-clause-said c =
    same_made c.args.state _ _ _ _ _ c.in_ok-objects.ensures.sides c.in_ok-objects.ensures.mob c.in_ok-table.ensures.made.opened c.in_ok-table.ensures.made.kept
    (alone_made c.args.state.repo c.args.state.prepared c.args.state.kept c.args.state.alone c.in_ok-table.table c.in_ok-table.ensures.made)

pub returns-clause-same : goal.returns-clause-same
returns-clause-same c = λ two.
    same_made c.args.state _ _ _ _ _ c.in_ok-objects.ensures.sides c.in_ok-objects.ensures.mob c.in_ok-table.ensures.made.opened c.in_ok-table.ensures.made.kept
    (alone_made c.args.state.repo c.args.state.prepared c.args.state.kept c.args.state.alone c.in_ok-table.table c.in_ok-table.ensures.made)
    ∙ own_format c.args.state two
