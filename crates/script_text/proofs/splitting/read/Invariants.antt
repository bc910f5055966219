use Rattle.std.proofs.Common.{◌≡◌, ◌≤◌, ◌+◌, fold, length}
use Rattle.std.specs.Vec.Iter.{into_iter_items}
use Rattle.script_text.specs.declared.reader.Reader.TheVariants.{Start}
use Rattle.script_text.specs.Sections.{step, depth_of}
use Rattle.script_text.proofs.splitting.read.Given as goal

-- what is read of all tokens is read of those to come behind what was read; no more braces are open than there were tokens
abbrev pub invariant-loop-token : goal.invariant-loop-token
invariant-loop-token l = record {
  read : fold step l.reader (into_iter_items l.token-iterator) ≡ fold step Start l.fn.tokens;
  depth : depth_of l.reader + length (into_iter_items l.token-iterator) ≤ length l.fn.tokens;
}
