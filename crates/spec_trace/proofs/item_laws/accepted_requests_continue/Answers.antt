use Rattle.log_entries.specs.declared.entry.Entry.TheVariants.{One, Prepared, Upgraded}
use Rattle.spec_history.specs.Sound.{sound}
use Rattle.spec_trace.proofs.Accepted.{one, prepared, upgraded}
use Rattle.spec_trace.proofs.Exactness.{exact-end}
use Rattle.spec_trace.proofs.Traces.{entries-append}
use Rattle.spec_trace.proofs.item_laws.accepted_requests_continue.Goals as goal
use Rattle.spec_trace.specs.Trace.{E}
use Rattle.std.proofs.Common.{[], subst, sym, ◌∷◌}

pub returns : goal.returns
returns c = record {
  prepared = λ b T q sd k v f shared. (subst (sound b) (sym (entries-append T (E (Prepared q) ∷ []))) (prepared b T q.session q sd v shared f.accepted).1, exact-end b T (E (Prepared q)) k f);
  one = λ b T q sd k v f alone kind. (subst (sound b) (sym (entries-append T (E (One q) ∷ []))) (one b T q.session q sd v alone kind f.accepted).1, exact-end b T (E (One q)) k f);
  upgraded = λ b T q sd k v f alone kind. (subst (sound b) (sym (entries-append T (E (Upgraded q) ∷ []))) (upgraded b T q.session q sd v alone kind f.accepted).1, exact-end b T (E (Upgraded q)) k f);
}
