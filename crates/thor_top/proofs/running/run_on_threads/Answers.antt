use Rattle.std.proofs.Common.{vec_len}
use Rattle.thor_top.proofs.FailLaws.{failed_played}
use Rattle.thor_top.proofs.HistoryLaws.{many_of}
use Rattle.thor_top.proofs.LineLaws.{told_made}
use Rattle.thor_top.proofs.running.run_on_threads.Goals as goal

pub returns-clause-parts : goal.returns-clause-parts
returns-clause-parts g c = many_of (λ v. vec_len v) (λ f. f.parts) (λ f. f.parts) c.play_on_threads-played.result c.replied.result.parts (vec_len c.args.run.found.places) c.play_on_threads-played.ensures.parts c.play_on_threads-played.ensures.err c.replied.ensures.ok c.replied.ensures.err

pub returns-clause-committed : goal.returns-clause-committed
returns-clause-committed g c = λ tells.
    told_made c.replied.result.reply c.replied.result.traces c.args.run.expected c.play_on_threads-played.result (c.replied.ensures.ran tells) c.replied.ensures.traces c.replied.ensures.lines c.play_on_threads-played.ensures.lines

pub returns-clause-failed : goal.returns-clause-failed
returns-clause-failed g c = λ given repo called is.
    failed_played g.P.Parts.disks given c.play_on_threads-played.result c.replied.result.parts repo (c.play_on_threads-played.ensures.failed given called) (c.replied.ensures.failed repo is) c.replied.ensures.err
