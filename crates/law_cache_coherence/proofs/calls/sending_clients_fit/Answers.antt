use Rattle.log_entries.specs.declared.entry.Entry.TheVariants.{Prepared}
use Rattle.client_port.specs.Works.{alone_entry}
use Rattle.law_cache_coherence.proofs.Working.{committed_one, drawn, marked_fits, prepared, request_fits}
use Rattle.law_cache_coherence.proofs.calls.sending_clients_fit.Goals as goal

pub returns : goal.returns
returns c = record {
  draw = λ client b committed at after u kept floor t sd none h. drawn client b committed at after u kept sd none h floor t;
  draw_refused = λ client b committed at after u kept floor r sd none h. marked_fits client b committed at after u kept sd none h r;
  prepare = λ client b committed at after u kept q place sd none h. prepared client b committed at after u kept sd none h q place;
  prepare_refused = λ client b committed at after u kept q r sd none h. request_fits client b committed at after u kept sd none h (Prepared q) q r;
  commit_one = λ client b committed at after u kept q place copies sd none h upto idle settled pages become w. committed_one client b committed at after u kept sd none h q place copies upto idle settled (λ tells. pages) become w;
  commit_refused = λ client b committed at after u kept q r sd none h. request_fits client b committed at after u kept sd none h (alone_entry q) q r;
}
