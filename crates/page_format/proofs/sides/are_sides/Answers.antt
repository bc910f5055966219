use Rattle.std.proofs.Common.{◌≡◌, ◌+◌, suc, drop, slice_index_or, subst, refl, inl, inr, arith, ℕ}
use Rattle.std.proofs.lemmas.List.{drop_more, drop_all}
use Rattle.page_format.proofs.Places.{Pairs, SidesLeft, left_none, left_more, left_out, left_all}
use Rattle.page_format.proofs.sides.are_sides.Goals as goal
use Rattle.page_format.proofs.sides.are_sides.Goals.{then-from-low-via-then-from-low, then-from-low-via-else-from-low+then-side-gt1}

pub loop-pair-init : goal.loop-pair-init
loop-pair-init c = left_none c.args.pairs.now

pub loop-pair-preserved : goal.loop-pair-preserved
loop-pair-preserved c =
    let q = slice_index_or c.args.pairs.now c.loop-pair.pair-index (0, 0) in
    let left = subst (λ (l : Pairs). SidesLeft c.args.pairs.now l c.loop-pair.low) (drop_more c.args.pairs.now c.loop-pair.pair-index (0, 0) c.loop-pair-test.true) c.loop-pair.invariant in
    let e : suc q.0 ≡ c.from-low.result + 1 = omega arith in
    subst (λ (low : ℕ). SidesLeft c.args.pairs.now (drop (c.loop-pair.pair-index + 1) c.args.pairs.now) low) e
    (left_more c.args.pairs.now (drop (c.loop-pair.pair-index + 1) c.args.pairs.now) q c.loop-pair.low left (omega arith) (omega arith, omega arith))

pub returns-then-from-low : goal.returns-then-from-low
returns-then-from-low c =
    let q = slice_index_or c.args.pairs.now c.loop-pair.pair-index (0, 0) in
    let left = subst (λ (l : Pairs). SidesLeft c.args.pairs.now l c.loop-pair.low) (drop_more c.args.pairs.now c.loop-pair.pair-index (0, 0) c.loop-pair-test.true) c.loop-pair.invariant in
    let out = left_out c.args.pairs.now (drop (c.loop-pair.pair-index + 1) c.args.pairs.now) q c.loop-pair.low left in
    elim c.then-from-low.branch [
      | then-from-low-via-then-from-low w ↦ (λ h. cc, λ f. absurd (out (inl (omega arith)) f))
      | then-from-low-via-else-from-low+then-side-gt1 w ↦ (λ h. cc, λ f. absurd (out (inr (omega arith)) f))
    ]

pub returns : goal.returns
returns c =
    let left = subst (λ (l : Pairs). SidesLeft c.args.pairs.now l c.loop-pair.low) (drop_all c.loop-pair.pair-index c.args.pairs.now c.loop-pair-test.false) c.loop-pair.invariant in
    (λ h. left_all c.args.pairs.now c.loop-pair.low left, λ f. refl)
