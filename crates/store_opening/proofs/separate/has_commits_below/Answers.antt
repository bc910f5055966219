use Rattle.std.proofs.Common.{None, Some, ap, slice_get, sym, ℕ, ◌∙◌, ◌≡◌}
use Rattle.std.specs.List.{list_all}
use Rattle.std.specs.Ordering.{nat_cmp}
use Rattle.store_opening.proofs.Walking.{all_alone_behind, left_decides, left_fails, none_left, walk_none_alone, walk_on_alone}
use Rattle.store_opening.specs.Fitting.{is_at_most}
use Rattle.store_opening.specs.Joined.{state_of}
use Rattle.thor_value.specs.declared.names.Ts.{Ts}
use Rattle.two_phase.specs.Contents.{Contents}
use Rattle.two_phase.specs.Walks.{behind}
use Rattle.store_opening.proofs.separate.has_commits_below.Goals as goal

pub loop-init : goal.loop-init
loop-init c = ap (list_all (λ e. is_at_most c.args.threshold e.1)) (all_alone_behind c.args.one.now.read.now.recovered.now.state.table.alone.pairs)

pub loop-preserved : goal.loop-preserved
loop-preserved c =
    let table = c.args.one.now.read.now.recovered.now.state.table in
    let e : ℕ × Ts = (c.in-Some.client, c.in-Some.tx) in
    let found : slice_get (behind nat_cmp c.loop.after table.alone.pairs) 0 ≡ Some e = ap (λ (t : Contents). slice_get (behind nat_cmp c.loop.after t.alone.pairs) 0) (sym c.table-table.ensures) ∙ (sym c.next_alone.ensures ∙ c.in-Some.is) in
    left_decides (λ e. is_at_most c.args.threshold e.1)
    (behind nat_cmp c.loop.after table.alone.pairs) (behind nat_cmp (Some e.0) table.alone.pairs) e
    (list_all (λ e. is_at_most c.args.threshold e.1) (state_of c.args.one.now.read.now).alone)
    (walk_on_alone c.args.one.now.read.now.recovered.now.state.repo table c.requires.kept.keeps.table c.loop.after e found)
    c.loop.invariant (sym c.is_at_most.ensures ∙ c.if-not-is_at_most.false)

pub returns-then-not-is_at_most : goal.returns-then-not-is_at_most
returns-then-not-is_at_most c =
    let table = c.args.one.now.read.now.recovered.now.state.table in
    let e : ℕ × Ts = (c.in-Some.client, c.in-Some.tx) in
    let found : slice_get (behind nat_cmp c.loop.after table.alone.pairs) 0 ≡ Some e = ap (λ (t : Contents). slice_get (behind nat_cmp c.loop.after t.alone.pairs) 0) (sym c.table-table.ensures) ∙ (sym c.next_alone.ensures ∙ c.in-Some.is) in
    left_fails (λ e. is_at_most c.args.threshold e.1)
    (behind nat_cmp c.loop.after table.alone.pairs) (behind nat_cmp (Some e.0) table.alone.pairs) e
    (list_all (λ e. is_at_most c.args.threshold e.1) (state_of c.args.one.now.read.now).alone)
    (walk_on_alone c.args.one.now.read.now.recovered.now.state.repo table c.requires.kept.keeps.table c.loop.after e found)
    c.loop.invariant (sym c.is_at_most.ensures ∙ c.if-not-is_at_most.true)

pub returns-in_default : goal.returns-in_default
returns-in_default c =
    let table = c.args.one.now.read.now.recovered.now.state.table in
    let none : slice_get (behind nat_cmp c.loop.after table.alone.pairs) 0 ≡ None = ap (λ (t : Contents). slice_get (behind nat_cmp c.loop.after t.alone.pairs) 0) (sym c.table-table.ensures) ∙ (sym c.next_alone.ensures ∙ c.in_default.is) in
    none_left (λ e. is_at_most c.args.threshold e.1) (behind nat_cmp c.loop.after table.alone.pairs)
    (list_all (λ e. is_at_most c.args.threshold e.1) (state_of c.args.one.now.read.now).alone)
    (walk_none_alone (behind nat_cmp c.loop.after table.alone.pairs) none) c.loop.invariant
