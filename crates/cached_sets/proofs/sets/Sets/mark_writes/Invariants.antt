use Rattle.cached_sets.proofs.sets.Sets.mark_writes.Given as goal
use Rattle.cached_sets.specs.Cost.{touch_steps}
use Rattle.cached_sets.specs.Sets.{marked, told_of, touches}
use Rattle.cached_sets.specs.Undoing.{undo}
use Rattle.std.proofs.Common.{drop, length, map, ◌+◌, ◌++◌, ◌≡◌, ◌≤◌}
use Rattle.std.specs.Map.{keys_of}

abbrev pub invariant-loop-write : goal.invariant-loop-write
invariant-loop-write g l = record {
  noted : l.self-inside.noted ≡ l.initial.self-inside.noted;
  pages : l.self-inside.pages ≡ l.initial.self-inside.pages;
  -- the writes that are left lead to the same
  left : marked l.self-inside.invalid (touches l.initial.self-inside.pages l.writer (keys_of (drop l.write-index l.write-items))) l.place
      ≡ marked l.initial.self-inside.invalid (touches l.initial.self-inside.pages l.writer (keys_of l.write-items)) l.place;
  told : map told_of l.done.items ++ touches l.initial.self-inside.pages l.writer (keys_of (drop l.write-index l.write-items))
      ≡ touches l.initial.self-inside.pages l.writer (keys_of l.write-items);
  undone : undo l.self-inside.invalid l.done.items ≡ l.initial.self-inside.invalid;
  -- the steps that are left lead to as many
  cost : l.steps + touch_steps l.initial.self-inside.pages (keys_of (drop l.write-index l.write-items))
      ≡ l.initial.steps + touch_steps l.initial.self-inside.pages (keys_of l.write-items);
  few : length l.done.items + l.initial.steps ≤ l.steps;
}
