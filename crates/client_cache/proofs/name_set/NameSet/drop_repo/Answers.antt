use Rattle.std.proofs.Common.{nat_eq, not, rules, ◌≡◌}
use Rattle.std.proofs.lemmas.Fn.{filter_same}
use Rattle.std.proofs.lemmas.List.Kept.{IsStrictlySortedBy-filter}
use Rattle.std.specs.List.{filter}
use Rattle.thor_value.specs.Names.{oref_cmp}
use Rattle.client_cache.proofs.name_set.NameSet.drop_repo.Goals as goal

pub invariant_of-self : goal.invariant_of-self
invariant_of-self c =
    let e : c.retain.new.self.items ≡ filter (λ x. not (nat_eq x.repo c.args.repo)) c.self.inside.names.items = filter_same _ (λ x. not (nat_eq x.repo c.args.repo)) _ (λ x b f t. search rules) _ _ c.retain.ensures.filtered in
    rw e (IsStrictlySortedBy-filter oref_cmp (λ x. not (nat_eq x.repo c.args.repo)) c.self.inside.names.items c.self.invariant)

pub returns : goal.returns
returns c = rw (← c.self.view_is) (filter_same _ (λ x. not (nat_eq x.repo c.args.repo)) _ (λ x b f t. search rules) _ _ c.retain.ensures.filtered)
