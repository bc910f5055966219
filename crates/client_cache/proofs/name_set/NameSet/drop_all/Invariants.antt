use Rattle.std.proofs.Common.{◌≡◌, not, take}
use Rattle.std.specs.List.{filter, list_any}
use Rattle.client_cache.specs.Pages.{same_name}
use Rattle.client_cache.proofs.name_set.NameSet.drop_all.Given as goal

abbrev pub invariant-loop-oref : goal.invariant-loop-oref
invariant-loop-oref l = l.self ≡ filter (λ x. not (list_any (λ y. same_name y x) (take l.oref-index l.fn.orefs))) l.fn.self
