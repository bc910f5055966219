use Rattle.log_entries.specs.declared.entry.Entry.TheVariants.{Decided, Finished, Prepared}
use Rattle.spec_history.specs.History.{is_undecided, known_by}
use Rattle.law_client_views.proofs.Stopping.{accepted, left}
use Rattle.client_port.specs.Works.{alone_entry, is_prepared_by}
use Rattle.spec_trace.specs.Trace.{entries}
use Rattle.spec_trace.specs.Verdict.{verdict}
use Rattle.std.proofs.Common.{refl, true, ◌≡◌}
use Rattle.std.specs.Option.{is_none}
use Rattle.std.specs.Prelude.{None}
use Rattle.law_client_views.proofs.outages.stopped_calls_keep_their_promises.Goals as goal

pub returns : goal.returns
returns c = record {
  prepare = λ b T s n q. (refl, left (Prepared q) (verdict b T s q ≡ None) (is_none (verdict b T s q)) (accepted (verdict b T s q)));
  commit_one = λ b T s n q. (refl, left (alone_entry q) (verdict b T s q ≡ None) (is_none (verdict b T s q)) (accepted (verdict b T s q)));
  decide = λ b T s n t k. (refl, left (Decided t k) (is_prepared_by s (known_by b (entries T) t) ≡ true) (is_prepared_by s (known_by b (entries T) t)) (λ e. e));
  finish = λ b T t n k. (refl, left (Finished t k) (is_undecided (known_by b (entries T) t) ≡ true) (is_undecided (known_by b (entries T) t)) (λ e. e));
}
