-- What of the memory stays through faults.
use Rattle.std.proofs.Common.{Bool, ap, cond, refl, subst, sym, ◌≡◌, ◌∙◌}
use Rattle.std.specs.Ordering.{eq_by_cmp}
use Rattle.std.specs.Prelude.{Option, Some, false, is_some, true}
use Rattle.thor_value.proofs.FiniteMap.{get-insert}
use Rattle.thor_value.proofs.NameOrders.{ts_total}
use Rattle.thor_value.specs.FiniteMap.{Set, add, get, has}
use Rattle.thor_value.specs.Names.{ts_cmp}
use Rattle.thor_value.specs.declared.names.Ts.{Ts}
use Rattle.repo_volatile.specs.Volatile.{Memory, Outlasts}

one_more : (x : Bool) (o : Option (Unit {0})) → is_some o ≡ true → is_some (cond x (Some tt) o) ≡ true
one_more true o h = refl
one_more false o h = h

-- what came has come with one more
pub more_came : (m : Set ts_cmp) (u t : Ts) → has m t ≡ true → has (add m u) t ≡ true
more_came m u t h = ap is_some (get-insert ts_total m u tt t) ∙ one_more (eq_by_cmp ts_cmp t u) (get m t) h

pub stayed : (M N : Memory) → N.requested ≡ M.requested → N.sessions.last ≡ M.sessions.last → Outlasts M N
stayed M N same last = record { came = λ t h. subst (λ (m : Set ts_cmp). has m t ≡ true) (sym same) h; last = last }

pub counted : (M N : Memory) (u : Ts) → N.requested ≡ add M.requested u → N.sessions.last ≡ M.sessions.last → Outlasts M N
counted M N u more last = record { came = λ t h. subst (λ (m : Set ts_cmp). has m t ≡ true) (sym more) (more_came M.requested u t h); last = last }

pub lasts_itself : (M : Memory) → Outlasts M M
lasts_itself M = record { came = λ t h. h; last = refl }

pub lasts_on : (L M N : Memory) → Outlasts L M → Outlasts M N → Outlasts L N
lasts_on L M N a b = record { came = λ t h. b.came t (a.came t h); last = b.last ∙ a.last }
