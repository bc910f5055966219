use Rattle.std.proofs.Common.{◌≡◌, ℕ, sym, ◌∙◌, arith, subst, length-set, get_or-set_same, get_or-set_other}
use Rattle.std.specs.Prelude.{slice_index, slice_set}
use mathlib.Core.Logic.{dite}
use native.Mathlib.Decide.{ℕ_discrete}
use Rattle.seen_board.proofs.Keeps.{final_coheres, final_word, found_index}
use Rattle.seen_board.proofs.closing.lengths_of.Goals as goal

pub loop-repo-preserved : goal.loop-repo-preserved
loop-repo-preserved g c =
    let i = c.loop-repo.invariant in
    let at : ℕ = c.loop-repo.repo in
    let ws = c.loop-repo.words in
    let from = c.close_with-closed.result.words.items in
    let n : ℕ = c.word.result in (
      length-set ws at n ∙ i.0,
      λ r lt. dite (ℕ_discrete r at)
          (λ e. subst (λ (k : ℕ). slice_index (slice_set ws at n) k ≡ slice_index from k) (sym e) (get_or-set_same ws at n 0 (omega (arith, i.0, c.loop-repo-test.true, c.word_count-count.ensures, c.requires.some)) ∙ sym (found_index from at n c.word.ensures)))
          (λ no. get_or-set_other ws at r n 0 no ∙ i.1 r (omega (arith, lt, no))),
    )

pub returns : goal.returns
returns g c = record {
  lengths = λ r lt o. c.loop-repo.invariant.1 r (omega (arith, lt, c.loop-repo-test.false, c.word_count-count.ensures)) ∙ final_word g.N.Naming.meaning g.N.Naming.lasts c.args.board.table.shared.key.0 c.args.chief.id c.args.chief.me.0 _ _ c.close_with-closed.ensures.values.2 r o;
  coherent = final_coheres g.N.Naming.meaning g.N.Naming.lasts c.args.board.table.shared.key.0 c.args.chief.id c.args.chief.me.0 _ _ c.close_with-closed.ensures.values.2;
}
