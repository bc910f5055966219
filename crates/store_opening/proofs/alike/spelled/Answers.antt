use Rattle.std.proofs.Common.{sym, ◌∙◌}
use Rattle.store_opening.proofs.Numbering.{mapped_length}
use Rattle.store_opening.proofs.Told.{spelled_same}
use Rattle.store_opening.specs.Joined.{read_states, state_of}
use Rattle.store_opening.specs.OpenedStore.{upgrades_of}
use Rattle.store_opening.proofs.alike.spelled.Goals as goal

pub returns : goal.returns
returns c =
    spelled_same c.schemas_of.result c.classes.result.now _ c.roots.result.now _ c.as_slice.result.now (upgrades_of (read_states c.args.store.now) (state_of c.args.stands.now.read.now)) c.in_ok-repos.repos _
    c.classes.ensures c.roots.ensures (c.as_slice.ensures ∙ c.requires.upgrades) (c.in_ok-repos.ensures ∙ sym (mapped_length state_of c.args.store.now)) c.schemas_of.ensures
