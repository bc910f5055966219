use Rattle.std.proofs.Common.{◌∙◌, ap}
use Rattle.script_text.specs.Pieces.{first_piece}
use Rattle.script_text.proofs.Behind.{piece_at}
use Rattle.script_text.proofs.scanning.piece_at.Goals as goal

pub returns : goal.returns
returns c = piece_at c.args.text.now c.args.from c.first_piece.result (c.first_piece.ensures ∙ ap first_piece c.split_at.ensures.back) c.requires
