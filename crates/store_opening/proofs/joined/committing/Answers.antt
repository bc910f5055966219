use Rattle.log_entries.specs.declared.request.Request.{Request}
use Rattle.two_phase.specs.Contents.{Contents}
use Rattle.std.proofs.Common.{Bor, List, None, Some, ap, map, sym, ◌++◌, ◌∙◌, ◌≡◌}
use Rattle.std.proofs.lemmas.List.{append-nil}
use Rattle.std.specs.List.{filter}
use Rattle.std.specs.Option.{option_copied}
use Rattle.store_opening.proofs.Joining.{filter_on}
use Rattle.store_opening.proofs.Walking.{all_behind, requests_behind, walk_none, walk_on}
use Rattle.store_opening.specs.Joined.{read_states, state_of}
use Rattle.store_opening.specs.OpenedStore.{committing, is_committed}
use Rattle.thor_value.specs.Names.{ts_cmp}
use Rattle.two_phase.specs.Walks.{behind, first_open}
use Rattle.store_opening.proofs.joined.committing.Goals as goal

pub loop-init : goal.loop-init
loop-init c =
    let pairs = c.args.read.now.recovered.now.state.table.transactions.pairs in
    ap (λ (rs : List (Bor Request)). map (λ q. q.now) rs ++ filter (λ q. is_committed (read_states c.args.store.now) q.tx) (requests_behind None pairs)) c.new-requests.ensures.items
    ∙ ap (filter (λ q. is_committed (read_states c.args.store.now) q.tx)) (all_behind pairs)

pub loop-preserved : goal.loop-preserved
loop-preserved c =
    let table = c.args.read.now.recovered.now.state.table in
    let q : Request = c.in-Some.request.now in
    let found : first_open (behind ts_cmp c.loop.after table.transactions.pairs) ≡ Some q = ap (λ (t : Contents). first_open (behind ts_cmp c.loop.after t.transactions.pairs)) (sym c.table.ensures) ∙ (sym c.next_open.ensures ∙ ap option_copied c.in-Some.is) in
    filter_on (λ q. is_committed (read_states c.args.store.now) q.tx) (map (λ q. q.now) c.loop.requests.items) (map (λ q. q.now) c.push_committing.new.requests.items)
    (requests_behind c.loop.after table.transactions.pairs) (requests_behind (Some q.tx) table.transactions.pairs) q (committing (read_states c.args.store.now) (state_of c.args.read.now))
    c.loop.invariant
    (walk_on c.args.read.now.recovered.now.state.repo table c.requires.read.keeps.table c.loop.after q found)
    c.in_ok-push_committing.ensures

pub returns-in_default : goal.returns-in_default
returns-in_default c =
    let table = c.args.read.now.recovered.now.state.table in
    let none : first_open (behind ts_cmp c.loop.after table.transactions.pairs) ≡ None = ap (λ (t : Contents). first_open (behind ts_cmp c.loop.after t.transactions.pairs)) (sym c.table.ensures) ∙ (sym c.next_open.ensures ∙ ap option_copied c.in_default.is) in
    let before = map (λ q. q.now) c.loop.requests.items in
    sym (append-nil before)
    ∙ (ap (λ rs. before ++ filter (λ q. is_committed (read_states c.args.store.now) q.tx) rs) (sym (walk_none (behind ts_cmp c.loop.after table.transactions.pairs) none)) ∙ c.loop.invariant)
