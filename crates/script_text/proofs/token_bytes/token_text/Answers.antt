use Rattle.std.specs.Prelude.{replicate, length, ◌-◌}
use Rattle.std.proofs.Math.Seq.{take-append_seam}
use Rattle.script_text.proofs.TokenTexts.{is_padded}
use Rattle.script_text.proofs.token_bytes.token_text.Goals as goal

pub invariant_of-result : goal.invariant_of-result
invariant_of-result c = rw c.room_of.ensures (is_padded c.args.bytes.now c.requires)

pub returns : goal.returns
returns c = rw c.room_of.ensures (take-append_seam c.args.bytes.now (replicate (34 - length c.args.bytes.now) 0))
