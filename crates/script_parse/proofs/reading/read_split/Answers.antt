use Rattle.std.proofs.Common.{◌≡◌, None, inr}
use Rattle.script_parse.specs.Script.{HasParts}
use Rattle.script_parse.proofs.WholeReading.{events_refused, refused_end}
use Rattle.script_parse.proofs.reading.read_split.Goals as goal

pub returns-in-Err : goal.returns-in-Err
returns-in-Err c = events_refused c.args.split c.in_ok-setup.setup c.in_ok-clients.clients c.in-Err.error (λ script. HasParts c.args.split.sections script × (c.args.split.fault ≡ None)) c.in_ok-setup.ensures c.in_ok-clients.ensures c.in-Err.ensures

pub returns : goal.returns
returns c = inr (c.in_ok-setup.setup, (c.in_ok-setup.ensures, inr (c.in_ok-clients.clients, (c.in_ok-clients.ensures, inr (c.in-Ok.events, (c.in-Ok.ensures, refused_end c.args.split.fault c.in-Some.fault c.in-Some.is))))))
