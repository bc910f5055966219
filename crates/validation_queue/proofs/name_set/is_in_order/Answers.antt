use Rattle.std.proofs.Common.{◌≡◌, ◌∙◌, false, sym, true}
use Rattle.std.specs.Map.{keys_of}
use Rattle.std.specs.Prelude.{None}
use Rattle.validation_queue.proofs.Ordered.{all_read, in_order_from, not_in_order_reads, not_in_order_writes, rises_from_test}
use Rattle.validation_queue.specs.Names.{all_among, rises_after}
use Rattle.validation_queue.proofs.name_set.is_in_order.Goals as goal

pub returns-then-not-names_rise : goal.returns-then-not-names_rise
returns-then-not-names_rise c =
    let e : rises_after None c.args.ros.now ≡ false = rw c.as_slice-ros.ensures at (sym c.names_rise.ensures ∙ c.if-not-names_rise.true) in
    (λ f. cc, λ i. absurd (not_in_order_reads _ _ e i))

pub returns-then-not-writes_rise : goal.returns-then-not-writes_rise
returns-then-not-writes_rise c =
    let e : rises_after None (keys_of c.args.writes.now) ≡ false = rw c.as_slice-writes.ensures at (sym c.writes_rise.ensures ∙ c.if-not-writes_rise.true) in
    (λ f. cc, λ i. absurd (not_in_order_writes _ _ e i))

pub are_read-requires : goal.are_read-requires
are_read-requires c = rises_from_test _ (sym c.names_rise.ensures ∙ c.if-not-names_rise.false)

pub returns : goal.returns
returns c =
    let reads : rises_after None c.args.ros.now ≡ true = rw c.as_slice-ros.ensures at (sym c.names_rise.ensures ∙ c.if-not-names_rise.false) in
    let writes : rises_after None (keys_of c.args.writes.now) ≡ true = rw c.as_slice-writes.ensures at (sym c.writes_rise.ensures ∙ c.if-not-writes_rise.false) in
    let e : c.are_read.result ≡ all_among c.args.ros.now (keys_of c.args.writes.now) = rw (c.as_slice-ros.ensures, c.as_slice-writes.ensures) at c.are_read.ensures in
    (λ t. in_order_from _ _ reads writes (sym e ∙ t), λ i. e ∙ all_read _ _ i)
