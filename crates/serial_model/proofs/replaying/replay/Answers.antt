use Rattle.std.proofs.Common.{◌<◌, length, List, get_or, ap, subst, ◌∙◌}
use Rattle.serial_model.specs.declared.entries.Did.{Did}
use Rattle.serial_model.proofs.Replayed.{so_far_sorted, so_far_next, stops_below, stops_there}
use Rattle.serial_model.proofs.replaying.replay.Goals as goal

pub returns-then-not-is_above : goal.returns-then-not-is_above
returns-then-not-is_above c =
    let d = c.index-entries-index.result in
    let same = c.as_slice-entries.ensures in
    stops_below c.args.schemas.now c.args.history.now c.loop-index.index d d c.args.store.now c.loop-index.view c.loop-index.last
    (subst (λ (ds : List Did). c.loop-index.index < length ds) same c.loop-index-test.true) (c.index-entries-index.is ∙ ap (λ (ds : List Did). get_or ds c.loop-index.index d) same)
    c.loop-index.invariant (λ above. let t = c.is_above.ensures.1 above in let f = c.if-not-is_above.true in cc)

pub apply-requires-clause-sorted : goal.apply-requires-clause-sorted
apply-requires-clause-sorted c =
    so_far_sorted c.args.schemas.now _ c.args.store.now c.loop-index.view c.loop-index.last c.requires.sorted c.loop-index.invariant

pub returns-then-not-branch : goal.returns-then-not-branch
returns-then-not-branch c =
    let d = c.index-entries-index.result in
    let same = c.as_slice-entries.ensures in
    stops_there c.args.schemas.now c.args.history.now c.loop-index.index d d c.args.store.now c.loop-index.view c.apply.new.view c.loop-index.last c.in_ok-apply.field-0
    (subst (λ (ds : List Did). c.loop-index.index < length ds) same c.loop-index-test.true) (c.index-entries-index.is ∙ ap (λ (ds : List Did). get_or ds c.loop-index.index d) same)
    c.loop-index.invariant c.in_ok-apply.ensures c.if-not-branch.true

pub loop-index-preserved : goal.loop-index-preserved
loop-index-preserved c =
    let d = c.index-entries-index.result in
    let same = c.as_slice-entries.ensures in
    so_far_next c.args.schemas.now c.args.history.now c.loop-index.index d d c.args.store.now c.loop-index.view c.apply.new.view c.loop-index.last c.in_ok-apply.field-0
    (subst (λ (ds : List Did). c.loop-index.index < length ds) same c.loop-index-test.true) (c.index-entries-index.is ∙ ap (λ (ds : List Did). get_or ds c.loop-index.index d) same)
    c.loop-index.invariant (c.is_above.ensures.0 c.if-not-is_above.false) c.in_ok-apply.ensures c.if-not-branch.false

pub plain_of-requires : goal.plain_of-requires
plain_of-requires c =
    so_far_sorted c.args.schemas.now _ c.args.store.now c.loop-index.view c.loop-index.last c.requires.sorted c.loop-index.invariant
