use Rattle.std.proofs.Common.{ap, sym, ◌∙◌, [], ◌∷◌, length, reverse}
use Rattle.disk_trait.specs.Record.{torn, ranges_of}
use Rattle.disk_trait.proofs.Torn.{torn_append}
use Rattle.disk_trait.proofs.crash.tear_since.Goals as goal

pub returns : goal.returns
returns c =
    c.tear_calls.ensures
    ∙ ap (torn c.args.pick (ranges_of (reverse c.args.calls.now))) c.tear.ensures
    ∙ sym (torn_append c.args.pick ((c.args.least, length c.args.bytes.now) ∷ []) (ranges_of (reverse c.args.calls.now)) c.args.bytes.now)
