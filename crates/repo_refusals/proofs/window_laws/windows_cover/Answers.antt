use Rattle.repo_refusals.proofs.Covered.{covers, window-end}
use Rattle.repo_refusals.proofs.Room.{has_room}
use Rattle.repo_refusals.proofs.window_laws.windows_cover.Goals as goal

pub returns : goal.returns
returns c = record { step = window-end; covers = covers; room = has_room }
