use Rattle.std.proofs.Common.{Some}
use Rattle.seen_board.proofs.client_pass.ClientPass.send.Given as goal

abbrev pub ghosts-send_as : goal.ghosts-send_as
ghosts-send_as g a = record { client = a.client; call = Some a.call.now }
