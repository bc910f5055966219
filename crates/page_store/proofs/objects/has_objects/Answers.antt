use Rattle.std.proofs.Common.{◌≡◌, Some, None, ℕ, arith}
use Rattle.page_store.proofs.ObjectBytes.{all_next, some_at}
use Rattle.page_store.proofs.objects.has_objects.Goals as goal
use Rattle.page_store.proofs.objects.has_objects.Goals.{in-Some+in_ok-is_object_at+else-not-branch, in_default}

pub loop-rank-preserved : goal.loop-rank-preserved
loop-rank-preserved c =
    let pairs = c.args.page.now.objects.pairs in
    elim c.match-nth.branch [
      | in-Some+in_ok-is_object_at+else-not-branch w ↦ all_next pairs c.loop-rank.rank (Some (w.in-Some.slot, w.in-Some.bytes.now)) c.loop-rank.invariant (omega arith) w.in-Some.ensures (some_at (w.in-Some.slot, w.in-Some.bytes.now) (w.in_ok-is_object_at.ensures.0 w.if-not-branch.false))
      | in_default w ↦ all_next pairs c.loop-rank.rank None c.loop-rank.invariant (omega arith) w.in_default.ensures (λ q is. cc)
    ]
