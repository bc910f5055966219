use Rattle.std.proofs.Common.{subst, sym}
use Rattle.mob_buffer.specs.Buffer.{AreOf, Buffer}
use Rattle.repo_state.proofs.making.merged.Goals as goal

pub load_all-loaded-requires : goal.load_all-loaded-requires
load_all-loaded-requires c = record { one_repo = (c.args.repo, subst (λ (b : Buffer). AreOf c.args.repo b.objects) (sym c.in_ok-buffer.ensures) c.requires.older, c.requires.newer) }
