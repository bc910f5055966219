use Rattle.std.proofs.Common.{◌≡◌}
use Rattle.std.specs.BTreeMap.{insert_entry, is_at}
use Rattle.std.specs.Map.{remove_entry}
use Rattle.thor_value.specs.Names.{ts_cmp}
use Rattle.validation_queue.proofs.Entering.{remove_insert}
use Rattle.validation_queue.specs.Contents.{members_of}
use Rattle.validation_queue.proofs.members.replace.Goals as goal

pub returns-in-Some-clause-ok : goal.returns-in-Some-clause-ok
returns-in-Some-clause-ok c =
    let entered : c.insert.new.self.entries ≡ insert_entry ts_cmp c.args.members.now.entries c.args.tx c.args.member = c.in_ok-insert.ensures.entries in
    let left : c.remove.new.self.entries ≡ remove_entry (is_at (ts_cmp c.in-Some.leaving)) c.insert.new.self.entries = c.remove.ensures.entries in
    rw (c.in-Some.is, left, entered) (remove_insert (members_of c.args.members.now) c.args.tx c.in-Some.leaving c.args.member c.in_ok-insert.ensures.was_ordered c.requires.new (rw c.in-Some.is at c.requires.there))
