-- What is recorded stays sound and exact with one more item.
use Rattle.log_entries.specs.declared.entry.Entry.{Entry}
use Rattle.spec_history.specs.History.{Base}
use Rattle.spec_history.specs.Sound.{owes}
use Rattle.law_repo_memory.proofs.Marks.{is-trace-marked, trace-marked}
use Rattle.law_repo_memory.proofs.Owed.{owed-behind, trace-behind}
use Rattle.law_repo_memory.specs.Agreeing.{IsOwed, state_of, trace_of}
use Rattle.law_repo_runs.specs.Standing.{IsRecorded}
use Rattle.spec_trace.proofs.Exactness.{exact-end}
use Rattle.spec_trace.specs.Exact.{EntryIsExact, MarkIsExact, exact}
use Rattle.spec_trace.specs.Trace.{E, M}
use Rattle.spec_trace.specs.declared.mark.Mark.{Mark}
use Rattle.std.proofs.Common.{List, [], arith, length, subst, sym, ◌+◌, ◌++◌, ◌<◌, ◌∷◌, ◌≡◌}
use Rattle.std.proofs.lemmas.List.{length-append}
use Rattle.repo_trace.specs.Recorded.{Recorded, with_entry, with_mark}

longer : (H : List Entry) (e : Entry) → 0 < length (H ++ e ∷ [])
longer H e = let l : length (H ++ e ∷ []) ≡ length H + 1 = length-append H (e ∷ []) in omega arith

pub behind-entry : (b : Base) (r : Recorded) → IsOwed b r → IsRecorded b r → (e : Entry) → owes b (state_of b r) e → EntryIsExact b (trace_of r) e → IsRecorded b (with_entry r e)
behind-entry b r o k e ow ex =
    let p : IsOwed b (with_entry r e) = owed-behind b r o e ow in
    record {
      trace = p.trace;
      sound = p.sound;
      exact = subst (exact b) (sym (trace-behind b r o e ow)) (exact-end b (trace_of r) (E e) k.exact ex);
      begun = longer r.history e;
    }

pub behind-mark : (b : Base) (r : Recorded) → IsRecorded b r → (m : Mark) → MarkIsExact b (trace_of r) m → IsRecorded b (with_mark r m)
behind-mark b r k m ex = record {
  trace = is-trace-marked b r m k.trace;
  sound = k.sound;
  exact = subst (exact b) (sym (trace-marked b r m)) (exact-end b (trace_of r) (M m) k.exact ex);
  begun = k.begun;
}
