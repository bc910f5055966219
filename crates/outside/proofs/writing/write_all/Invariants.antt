use Rattle.std.proofs.Common.{◌≤◌, ◌-◌, length, take}
use Rattle.outside.specs.Streams.{Put}
use Rattle.outside.proofs.writing.write_all.Given as goal

-- as much as was written so far was put
abbrev pub invariant-loop-done : goal.invariant-loop-done
invariant-loop-done g l =
    let taken = g.K.Sink.taken in
    let faults = g.K.Sink.faults in
    record {
      within : l.done ≤ length l.bytes;
      put : Put (taken l.fn.sink) (take l.done l.bytes) (taken l.sink);
      never_falls : faults l.fn.sink ≤ faults l.sink;
    }

abbrev pub decreases-loop-done : goal.decreases-loop-done
decreases-loop-done g l = length l.bytes - l.done
