use Rattle.std.proofs.Common.{vec_len}
use Rattle.thor_top.proofs.FailLaws.{failed_played}
use Rattle.thor_top.proofs.HistoryLaws.{many_of, of_played, of_told, of_ended}
use Rattle.thor_top.proofs.LineLaws.{told_made}
use Rattle.thor_top.proofs.running.run_in_turn.Goals as goal

pub returns-clause-histories : goal.returns-clause-histories
returns-clause-histories g c = λ given has.
    of_played g.P.Parts.disks given c.args.run.found.places.items c.args.run.found.mob c.args.run.run.start has (vec_len c.args.run.found.places) c.args.run.found.places.ok.0 c.replied.result.traces c.play-played.result c.replied.ensures.traces c.play-played.ensures.right c.play-played.ensures.told c.play-played.ensures.found

pub returns-clause-reported : goal.returns-clause-reported
returns-clause-reported g c = λ given has tells.
    of_told g.P.Parts.disks given c.args.run.found.places.items c.args.run.found.mob c.args.run.run.start has (vec_len c.args.run.found.places) c.args.run.found.places.ok.0 c.replied.result.traces c.play-played.result (c.replied.ensures.ran tells) c.replied.ensures.traces c.play-played.ensures.right c.play-played.ensures.told c.play-played.ensures.found

pub returns-clause-parts : goal.returns-clause-parts
returns-clause-parts g c = many_of (λ v. vec_len v) (λ f. f.parts) (λ f. f.parts) c.play-played.result c.replied.result.parts (vec_len c.args.run.found.places) c.play-played.ensures.parts c.play-played.ensures.err c.replied.ensures.ok c.replied.ensures.err

pub returns-clause-committed : goal.returns-clause-committed
returns-clause-committed g c = λ tells.
    told_made c.replied.result.reply c.replied.result.traces c.args.run.expected c.play-played.result (c.replied.ensures.ran tells) c.replied.ensures.traces c.replied.ensures.lines c.play-played.ensures.lines

pub returns-clause-failed : goal.returns-clause-failed
returns-clause-failed g c = λ given repo called is.
    failed_played g.P.Parts.disks given c.play-played.result c.replied.result.parts repo (c.play-played.ensures.failed given called) (c.replied.ensures.failed repo is) c.replied.ensures.err

pub returns-clause-left : goal.returns-clause-left
returns-clause-left g c = λ given has tells.
    of_ended g.P.Parts.disks given c.args.run.found.places.items c.args.run.found.mob c.args.run.run.start has (vec_len c.args.run.found.places) c.args.run.found.places.ok.0 c.replied.result.traces
    c.replied.result.parts (λ f. f.parts) (λ v. v.items) c.play-played.result c.replied.ensures.ok (c.replied.ensures.ran tells) c.replied.ensures.traces c.play-played.ensures.right c.play-played.ensures.told c.play-played.ensures.left c.play-played.ensures.found
