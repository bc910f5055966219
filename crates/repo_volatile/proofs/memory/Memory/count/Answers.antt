use Rattle.std.proofs.Common.{List, ap, ◌∙◌}
use Rattle.thor_value.specs.FiniteMap.{Set, add}
use Rattle.thor_value.specs.Names.{ts_cmp}
use Rattle.thor_value.specs.declared.names.Ts.{Ts}
use Rattle.repo_volatile.proofs.Lasting.{counted}
use Rattle.repo_volatile.proofs.memory.Memory.count.Goals as goal
use Rattle.repo_volatile.specs.Volatile.{Memory}

abbrev set_with : List (Ts × Unit {0}) → Set ts_cmp
set_with es = record { pairs = es }

pub returns-clause-lasts : goal.returns-clause-lasts
returns-clause-lasts c =
    counted _ _ c.args.tx (ap set_with c.in_ok-insert.ensures.entries ∙ ap (λ (m : Memory). add m.requested c.args.tx) c.self.view_is) (ap (λ (m : Memory). m.sessions.last) c.self.view_is)
