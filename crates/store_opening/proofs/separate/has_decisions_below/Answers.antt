use Rattle.std.proofs.Common.{None, Some, ap, sym, ◌∙◌, ◌≡◌}
use Rattle.std.specs.List.{list_all}
use Rattle.store_opening.proofs.Walking.{all_kept_behind, kept_behind, left_decides, left_fails, none_left, walk_none_kept, walk_on_kept}
use Rattle.store_opening.specs.Fitting.{is_at_most}
use Rattle.store_opening.specs.Joined.{state_of}
use Rattle.thor_value.specs.Names.{ts_cmp}
use Rattle.two_phase.specs.Contents.{Contents}
use Rattle.two_phase.specs.Walks.{behind, first_kept}
use Rattle.store_opening.proofs.separate.has_decisions_below.Goals as goal

pub loop-init : goal.loop-init
loop-init c = ap (list_all (is_at_most c.args.threshold)) (all_kept_behind c.args.one.now.read.now.recovered.now.state.table.transactions.pairs)

pub loop-preserved : goal.loop-preserved
loop-preserved c =
    let table = c.args.one.now.read.now.recovered.now.state.table in
    let t = c.in-Some.tx in
    let found : first_kept (behind ts_cmp c.loop.after table.transactions.pairs) ≡ Some t = ap (λ (t : Contents). first_kept (behind ts_cmp c.loop.after t.transactions.pairs)) (sym c.table-table.ensures) ∙ (sym c.next_kept.ensures ∙ c.in-Some.is) in
    left_decides (is_at_most c.args.threshold)
    (kept_behind c.loop.after table.transactions.pairs) (kept_behind (Some t) table.transactions.pairs) t
    (list_all (is_at_most c.args.threshold) (state_of c.args.one.now.read.now).kept)
    (walk_on_kept c.args.one.now.read.now.recovered.now.state.repo table c.requires.kept.keeps.table c.loop.after t found)
    c.loop.invariant (sym c.is_at_most.ensures ∙ c.if-not-is_at_most.false)

pub returns-then-not-is_at_most : goal.returns-then-not-is_at_most
returns-then-not-is_at_most c =
    let table = c.args.one.now.read.now.recovered.now.state.table in
    let t = c.in-Some.tx in
    let found : first_kept (behind ts_cmp c.loop.after table.transactions.pairs) ≡ Some t = ap (λ (t : Contents). first_kept (behind ts_cmp c.loop.after t.transactions.pairs)) (sym c.table-table.ensures) ∙ (sym c.next_kept.ensures ∙ c.in-Some.is) in
    left_fails (is_at_most c.args.threshold)
    (kept_behind c.loop.after table.transactions.pairs) (kept_behind (Some t) table.transactions.pairs) t
    (list_all (is_at_most c.args.threshold) (state_of c.args.one.now.read.now).kept)
    (walk_on_kept c.args.one.now.read.now.recovered.now.state.repo table c.requires.kept.keeps.table c.loop.after t found)
    c.loop.invariant (sym c.is_at_most.ensures ∙ c.if-not-is_at_most.true)

pub returns-in_default : goal.returns-in_default
returns-in_default c =
    let table = c.args.one.now.read.now.recovered.now.state.table in
    let none : first_kept (behind ts_cmp c.loop.after table.transactions.pairs) ≡ None = ap (λ (t : Contents). first_kept (behind ts_cmp c.loop.after t.transactions.pairs)) (sym c.table-table.ensures) ∙ (sym c.next_kept.ensures ∙ c.in_default.is) in
    none_left (is_at_most c.args.threshold) (kept_behind c.loop.after table.transactions.pairs)
    (list_all (is_at_most c.args.threshold) (state_of c.args.one.now.read.now).kept)
    (walk_none_kept (behind ts_cmp c.loop.after table.transactions.pairs) none) c.loop.invariant
