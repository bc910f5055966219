use Rattle.std.proofs.Common.{◌≡◌, ◌+◌, ◌-◌, refl, arith, sym, ◌∙◌}
use Rattle.mob_buffer.specs.Buffer.{with_all}
use Rattle.mob_buffer.specs.Kept.{size_at}
use Rattle.mob_buffer.proofs.Writes.{before_within, not_written, tallied_next}
use Rattle.mob_buffer.proofs.tally.counted.Goals.{then-rank-tally, else-rank-tally}
use Rattle.mob_buffer.proofs.tally.counted.Goals as goal

pub overflow_sub-result : goal.overflow_sub-result
overflow_sub-result c =
    let before : c.if-rank-tally.before ≡ size_at (with_all c.args.objects.now.entries c.args.earlier.now) c.args.write.now.0 = elim c.if-rank-tally.branch [
      | then-rank-tally w ↦ w.before-is ∙ w.size_behind-before.ensures
      | else-rank-tally w ↦ w.before-is ∙ w.size_held-before.ensures ∙ sym (not_written c.args.objects.now.entries c.args.earlier.now c.args.tally.bound c.args.write.now.0 c.requires.tally.bounded (omega (arith, w.if-rank-tally.false, c.rank_of-rank.ensures.value)))
    ] in
    before_within c.args.objects.now.entries c.args.earlier.now c.args.write.now.0 c.args.tally.total c.args.tally.bound c.from.result c.requires.tally (c.from.ensures ∙ before)

pub returns : goal.returns
returns c =
    let before : c.if-rank-tally.before ≡ size_at (with_all c.args.objects.now.entries c.args.earlier.now) c.args.write.now.0 = elim c.if-rank-tally.branch [
      | then-rank-tally w ↦ w.before-is ∙ w.size_behind-before.ensures
      | else-rank-tally w ↦ w.before-is ∙ w.size_held-before.ensures ∙ sym (not_written c.args.objects.now.entries c.args.earlier.now c.args.tally.bound c.args.write.now.0 c.requires.tally.bounded (omega (arith, w.if-rank-tally.false, c.rank_of-rank.ensures.value)))
    ] in
    tallied_next c.args.objects.now.entries c.args.earlier.now c.args.write.now c.args.tally.total c.args.tally.bound c.from.result c.from-2.result (c.args.tally.total - c.from.result + c.from-2.result) c.max.result c.requires.tally (c.from.ensures ∙ before) (c.from-2.ensures ∙ c.spelled_size.ensures.value) (omega (arith, c.from-2.ensures, c.spelled_size.ensures.most)) refl (omega (arith, c.max.ensures)) (omega (arith, c.max.ensures, c.rank_of-rank.ensures.value))
