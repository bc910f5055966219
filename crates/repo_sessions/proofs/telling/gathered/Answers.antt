use Rattle.cached_sets.specs.Sets.{told_of}
use Rattle.cached_sets.specs.declared.marked.Marked.{Marked}
use Rattle.repo_sessions.proofs.Gathering.{marks_from}
use Rattle.repo_sessions.proofs.telling.gathered.Goals as goal
use Rattle.repo_sessions.specs.Noting.{Named, named, noted_all}
use Rattle.std.proofs.Common.{List, ap, drop, map, sym, ◌+◌, ◌∙◌, ℕ}

pub loop-mark-preserved : goal.loop-mark-preserved
loop-mark-preserved c =
    let ms : List Marked = c.args.marks.now in
    let i : ℕ = c.loop-mark.mark-index in
    ap (λ (M : Named). noted_all M (map told_of (drop (i + 1) ms))) c.in_ok-note.ensures
    ∙ sym (marks_from (named c.loop-mark.holders.entries) ms i _ c.loop-mark-test.true)
    ∙ c.loop-mark.invariant
