use Rattle.std.proofs.Common.{◌≡◌, ◌⊎◌, ◌+◌, length, inl, inr, arith}
use Rattle.std.specs.Ordering.{nat_cmp}
use Rattle.std.specs.BTreeMap.{insert_entry}
use Rattle.page_format.specs.Walking.{AreStored, pairs_of}
use Rattle.page_format.proofs.Splices.{length_in, total_in, ready_in, stored_in, one_at_most}
use Rattle.page_format.proofs.splice.spliced.Goals as goal
use Rattle.page_format.proofs.splice.spliced.Goals.{then-object-gt-PAGE-via-then-object-gt-PAGE, then-object-gt-PAGE-via-else-object-gt-PAGE+then-kept-object-gt-PAGE, then-start-end, else-start-end}

pub returns-then-object-gt-PAGE-clause-full : goal.returns-then-object-gt-PAGE-clause-full
returns-then-object-gt-PAGE-clause-full c =
    let long = length_in c.args.count c.args.slot c.args.entries.now c.args.object.now c.requires c.place-start.result c.place-start.ensures.place c.place-start.ensures.ordered c.place-start.ensures.within in
    elim c.then-object-gt-PAGE.branch [
      | then-object-gt-PAGE-via-then-object-gt-PAGE w ↦ λ _. inl (omega (arith, long, w.if-object-gt-PAGE.true))
      | then-object-gt-PAGE-via-else-object-gt-PAGE+then-kept-object-gt-PAGE w ↦ λ _. inl (omega (arith, long, w.if-kept-object-gt-PAGE.true))
    ]

how_many : (c : goal.Then-count-added) → length (insert_entry nat_cmp (pairs_of c.args.count c.args.entries.now) c.args.slot c.args.object.now) ≡ c.args.count + c.if-start-end.added
how_many c =
    total_in c.args.count c.args.slot c.args.entries.now c.args.object.now c.requires c.place-start.result c.if-start-end.added c.place-start.ensures.place
    (elim c.if-start-end.branch [ then-start-end w ↦ inl (w.if-start-end.true, w.added-is) | else-start-end w ↦ inr (w.if-start-end.false, w.added-is) ])

pub returns-then-count-added-clause-full : goal.returns-then-count-added-clause-full
returns-then-count-added-clause-full c = let n = how_many c in λ _. inr (omega (arith, n, c.if-count-added.true))

which : (c : goal.In-Ok) → ((c.place-start.result.0 ≡ c.place-start.result.1) × (c.if-start-end.added ≡ 1)) ⊎ ((c.place-start.result.0 ≡ c.place-start.result.1 → ⊥) × (c.if-start-end.added ≡ 0))
which c = elim c.if-start-end.branch [ then-start-end w ↦ inl (w.if-start-end.true, w.added-is) | else-start-end w ↦ inr (w.if-start-end.false, w.added-is) ]

ready : (c : goal.In-Ok) → AreStored (c.args.count + c.if-start-end.added) c.in-Ok.bytes.items × (pairs_of (c.args.count + c.if-start-end.added) c.in-Ok.bytes.items ≡ insert_entry nat_cmp (pairs_of c.args.count c.args.entries.now) c.args.slot c.args.object.now)
ready c =
    let s = c.requires in
    let p = c.place-start.ensures in
    let how = total_in c.args.count c.args.slot c.args.entries.now c.args.object.now s c.place-start.result c.if-start-end.added p.place (which c) in
    let few = one_at_most c.place-start.result c.if-start-end.added (which c) in
    let long = length_in c.args.count c.args.slot c.args.entries.now c.args.object.now s c.place-start.result p.place p.ordered p.within in
    let bytes = ready_in c.args.count c.args.slot c.args.entries.now c.args.object.now s c.place-start.result c.in-Ok.bytes.items c.split_at.result.0.now c.split_at-2.result.1.now p.place c.in-Ok.ensures c.split_at.ensures.front c.split_at-2.ensures.back in
    stored_in c.args.count c.args.slot c.args.entries.now c.args.object.now s (c.args.count + c.if-start-end.added) (omega (arith, c.ranges.slot)) (omega (arith, c.if-object-gt-PAGE.false)) how (omega (arith, few, c.if-count-added.false)) (omega (arith, long, c.if-kept-object-gt-PAGE.false)) c.in-Ok.bytes.items bytes

pub returns-in-Ok-clause-stored : goal.returns-in-Ok-clause-stored
returns-in-Ok-clause-stored c = (ready c).0

pub returns-in-Ok-clause-pairs : goal.returns-in-Ok-clause-pairs
returns-in-Ok-clause-pairs c = (ready c).1
