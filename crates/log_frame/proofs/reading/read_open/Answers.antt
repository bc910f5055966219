use Rattle.std.proofs.Common.{rules, ◌+◌, ◌∙◌, ap, sym}
use Rattle.log_frame.specs.Log.{opened_by, bodies_from}
use Rattle.log_frame.proofs.Headers.{read_open_whole}
use Rattle.log_frame.proofs.reading.read_open.Goals as goal

pub returns-in_err-bodies-clause-damaged : goal.returns-in_err-bodies-clause-damaged
returns-in_err-bodies-clause-damaged c = λ at damaged.
    let found = c.in-Some.ensures in
    read_open_whole c.args.rest.now c.split_at.result.1.now c.in-Some.n c.u64_of-sequence.result c.in_ok-head.head c.split_at.ensures.back found.0 found.1 c.u64_of-sequence.ensures c.in_ok-head.ensures
    ∙ ap (λ l. opened_by c.u64_of-sequence.result c.in_ok-head.head (bodies_from 0 (9 + c.in-Some.n) l)) (sym c.split_at-2.ensures.back)
    ∙ ap (opened_by c.u64_of-sequence.result c.in_ok-head.head) (c.in_err-bodies.ensures.damaged at (search rules))

pub returns-clause-ok : goal.returns-clause-ok
returns-clause-ok c =
    let found = c.in-Some.ensures in
    read_open_whole c.args.rest.now c.split_at.result.1.now c.in-Some.n c.u64_of-sequence.result c.in_ok-head.head c.split_at.ensures.back found.0 found.1 c.u64_of-sequence.ensures c.in_ok-head.ensures
    ∙ ap (λ l. opened_by c.u64_of-sequence.result c.in_ok-head.head (bodies_from 0 (9 + c.in-Some.n) l)) (sym c.split_at-2.ensures.back)
    ∙ ap (opened_by c.u64_of-sequence.result c.in_ok-head.head) c.in_ok-bodies.ensures.ok
