use Rattle.std.proofs.Common.{rules, ◌≡◌, refl}
use Rattle.std.proofs.lemmas.Map.Made.{filter_same_pairs}
use Rattle.std.specs.List.{filter}
use Rattle.two_phase.specs.Lists.{stays_without}
use Rattle.two_phase.proofs.table.Table.abort_of.Goals as goal

pub returns : goal.returns
returns c =
    let e : c.retain.new.self.entries ≡ filter (stays_without c.args.repo) c.self.inside.transactions.entries = filter_same_pairs _ (stays_without c.args.repo) _ (λ k v b w f t. search rules) _ _ c.retain.ensures.filtered in
    rw (← c.self.view_is) (rw e refl)
