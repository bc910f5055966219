use Rattle.spec_trace.proofs.Traces.{entries-append, entries-items, items-entry, items-mark, trace-end, trace-mark}
use Rattle.spec_trace.proofs.trace_laws.traces_grow.Goals as goal

pub returns : goal.returns
returns c = record {
  mark = items-mark;
  entry = items-entry;
  kept = trace-end;
  marked = trace-mark;
  history = entries-items;
  entries = entries-append;
}
