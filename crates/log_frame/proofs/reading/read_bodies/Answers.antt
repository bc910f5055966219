use Rattle.std.proofs.Common.{arith, rules, ◌≡◌, ◌∷◌, ap, length}
use Rattle.log_frame.proofs.Frames.{read_step, sum_step}
use Rattle.log_frame.proofs.reading.read_bodies.Goals as goal

pub loop-gate-preserved : goal.loop-gate-preserved
loop-gate-preserved c =
    let i = c.loop-gate.invariant in
    let rest = c.in-Some.rest.now in
    let found = c.in-Some-whole_len.ensures in
    let is : c.loop-gate.left.now ≡ 1 ∷ rest = search rules in
    let behind = c.split_at.ensures.back in
    let pushed = c.in_ok-push.ensures.ok in
    let body = c.in_ok-copy_body.ensures in
    record {
      all = rw (pushed, body, behind) (read_step _ c.loop-gate.bodies c.loop-gate.end c.in-Some-whole_len.n c.loop-gate.left.now rest is found.0 found.1 i.all);
      end = rw (pushed, body) (omega (arith, i.end, found.1, sum_step c.loop-gate.bodies rest found.0));
      size = omega (arith, i.size, ap length is, c.split_at.ensures.back_len, found.1);
      some = omega (arith, c.split_at.ensures.back_len, found.2);
    }
