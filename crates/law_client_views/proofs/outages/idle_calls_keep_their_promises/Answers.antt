use Rattle.log_entries.specs.declared.entry.Entry.TheVariants.{Prepared}
use Rattle.log_entries.specs.declared.entry.Entry.TheVariants as entry
use Rattle.spec_history.specs.History.{is_undecided, known_by}
use Rattle.law_client_views.proofs.Stopping.{deciding, marked, request, unmarked, with_entry}
use Rattle.client_port.specs.Works.{alone_entry}
use Rattle.spec_trace.specs.Trace.{entries}
use Rattle.std.proofs.Common.{refl, true, ◌≡◌}
use Rattle.law_client_views.proofs.outages.idle_calls_keep_their_promises.Goals as goal

pub returns : goal.returns
returns c = record {
  connect = λ b T client r h. (h, (refl, refl));
  fetch = λ b T s page upto r h. unmarked b T s r h;
  grant = λ b T s r h. marked b T s r h;
  receive = λ b T s r h. unmarked b T s r h;
  draw = λ b T s floor r h. marked b T s r h;
  prepare = λ b T s q r h. request b T (Prepared q) s q r h;
  commit_one = λ b T s q r h. request b T (alone_entry q) s q r h;
  decide = λ b T s t k r h. deciding b T s t k r h;
  finish = λ b T t k r h. with_entry b T (entry.Finished t k) (is_undecided (known_by b (entries T) t) ≡ true) r h;
  forget = λ b T t r h. (h, (refl, refl));
  ask = λ b T t r h. (h, (refl, refl));
}
