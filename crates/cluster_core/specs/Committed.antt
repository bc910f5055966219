-- What the traces of a run tell as its serial history: what each repository has committed as the coordinator, by rising timestamp, but
-- for transforms.
use Rattle.cluster_core.specs.declared.lines.Coordinated.{Coordinated}
use Rattle.log_entries.specs.declared.entry.Entry.TheVariants.{Decided, Finished, Life, One, Prepared, Upgraded}
use Rattle.log_entries.specs.declared.entry.Entry.{Entry}
use Rattle.log_entries.specs.declared.request.Kind.TheVariants.{App, Transform, Upgrade}
use Rattle.log_entries.specs.declared.request.Kind.{Kind}
use Rattle.log_entries.specs.declared.request.Request.{Request}
use Rattle.repo_trace.specs.declared.trace.Trace.{Trace}
use Rattle.std.specs.List.{fold}
use Rattle.std.specs.Prelude.{Bool, List, None, Option, Some, [], cond, false, min, nat_eq, true, ℕ, ◌+◌, ◌∷◌}
use Rattle.thor_value.specs.FiniteMap.{Map, empty, get, insert, remove, values}
use Rattle.thor_value.specs.Names.{ts_cmp}
use Rattle.thor_value.specs.declared.names.Ts.{Ts}
use Rattle.top_history_check.specs.declared.assembling.Line.{Line}

abbrev pub line_with : Request → ℕ → Line
line_with q n = record { ts = q.tx; who = q.who; number = n; fresh = q.fresh; answer = q.answer }

abbrev pub line_by : Request → Kind → Option Line
line_by q App = Some (line_with q 0)
line_by q Transform = None
line_by q (Upgrade text) = Some (line_with q (min (q.epoch + 1) 4294967295))

-- the line of a transaction, by its request: an upgrade has the number behind its epoch, and a transform no line
abbrev pub line_for : Request → Option Line
line_for q = line_by q q.kind

-- the lines with one more, by its timestamp
abbrev pub with_line : Map ts_cmp Line → Option Line → Map ts_cmp Line
with_line lines None = lines
with_line lines (Some line) = insert lines line.ts line

abbrev pub decide : Coordinated → Ts → Bool → Coordinated
decide s t true = record { prepared = remove s.prepared t; committed = with_line s.committed (get s.prepared t) }
decide s t false = s

-- Behind one more entry of the repository r: it keeps what it prepares as the coordinator, and what it then decides to commit has
-- committed; and what has no other participant commits at once.
abbrev pub take_entry : ℕ → Coordinated → Entry → Coordinated
take_entry r s (One q) = record s { committed = with_line s.committed (line_for q) }
take_entry r s (Upgraded q) = record s { committed = with_line s.committed (line_for q) }
take_entry r s (Prepared q) = cond (nat_eq q.tx.repo r) (record s { prepared = with_line s.prepared (line_for q) }) s
take_entry r s (Decided t commit) = decide s t commit
take_entry r s (Life life) = s
take_entry r s (Finished t commit) = s

-- behind the trace of the repository r
abbrev pub take_trace : ℕ → Coordinated → Trace → Coordinated
take_trace r s t = fold (take_entry r) (record s { prepared = empty }) t.history

-- behind those of the repositories from r on
abbrev pub take_traces : ℕ → Coordinated → List Trace → Coordinated
take_traces r s [] = s
take_traces r s (t ∷ ts) = take_traces (r + 1) (take_trace r s t) ts

-- the lines of what has committed, by rising timestamp
abbrev pub committed_lines : List Trace → List Line
committed_lines traces = values (take_traces 0 (record { prepared = empty; committed = empty }) traces).committed
