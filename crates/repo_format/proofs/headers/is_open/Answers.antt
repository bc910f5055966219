use Rattle.std.proofs.Common.{arith, ◌∙◌}
use Rattle.repo_format.proofs.Closed.{read_none, short_none}
use Rattle.repo_format.proofs.headers.is_open.Goals as goal

pub returns-then-length-lt2-clause-closed : goal.returns-then-length-lt2-clause-closed
returns-then-length-lt2-clause-closed g c = λ is bytes told. let e = c.in_ok-length.ensures.bytes bytes told in short_none bytes (omega (arith, e))

pub returns-clause-closed : goal.returns-clause-closed
returns-clause-closed g c = λ is bytes told. read_none bytes c.read_at.new.into (c.in_ok-read_at.ensures.bytes bytes (c.len.ensures.content ∙ told)) is
