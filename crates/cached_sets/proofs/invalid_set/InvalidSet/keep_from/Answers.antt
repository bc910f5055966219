use Rattle.cached_sets.proofs.invalid_set.InvalidSet.keep_from.Goals as goal
use Rattle.std.proofs.Common.{List, ap, nat_le, rules, ◌≡◌, ℕ}
use Rattle.std.proofs.lemmas.Map.Made.{filter_same_pairs}
use Rattle.std.specs.List.{filter}
use Rattle.thor_value.specs.declared.names.Oref.{Oref}

pub returns : goal.returns
returns c =
    let e : c.retain.new.self.entries ≡ filter (λ e. nat_le c.args.upto e.1) c.self.inside.places.entries = filter_same_pairs _ (λ e. nat_le c.args.upto e.1) _ (λ k v b w f t. search rules) _ _ c.retain.ensures.filtered in
    rw (← c.self.view_is) (ap (λ (es : List (Oref × ℕ)). record { pairs = es }) e)
