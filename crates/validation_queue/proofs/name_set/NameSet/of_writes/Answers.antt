use Rattle.std.proofs.Common.{◌≡◌, take}
use Rattle.std.proofs.lemmas.List.{take_all}
use Rattle.validation_queue.proofs.name_set.NameSet.of_writes.Goals as goal

pub invariant_of-result : goal.invariant_of-result
invariant_of-result c =
    let all : take c.loop-write.write-index c.args.writes.now ≡ c.args.writes.now = take_all _ _ c.loop-write-test.false in
    rw (c.loop-write.invariant, all) c.requires
