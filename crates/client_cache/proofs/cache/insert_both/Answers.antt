use Rattle.std.proofs.Common.{rules}
use Rattle.client_cache.proofs.Taken.{put_new_and_taken}
use Rattle.client_cache.proofs.cache.insert_both.Goals as goal

pub returns-then-added-clause-err : goal.returns-then-added-clause-err
returns-then-added-clause-err c =
    (search rules, rw (c.remove.ensures.keys, c.in_ok-added.ensures.keys) (put_new_and_taken c.args.oref c.args.made.now.keys c.in_ok-added.added c.in_ok-added.ensures.added c.if-added.true))
