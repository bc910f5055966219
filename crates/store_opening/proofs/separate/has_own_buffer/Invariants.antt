use Rattle.std.proofs.Common.{◌≡◌}
use Rattle.std.specs.List.{list_all}
use Rattle.store_opening.specs.Fitting.{is_own}
use Rattle.store_opening.specs.Joined.{state_of}
use Rattle.store_opening.specs.Standing.{member_of}
use Rattle.store_opening.proofs.separate.has_own_buffer.Given as goal

-- the objects that are left decide
abbrev pub invariant-loop-oref : goal.invariant-loop-oref
invariant-loop-oref l =
    (goal.iterator-loop-oref).can_next l.oref-iterator ×
    (goal.iterator-loop-oref).is_finite l.oref-iterator ×
    (list_all (λ w. is_own (member_of l.one) w.0) l.oref-iterator ≡ list_all (λ w. is_own (member_of l.one) w.0) (state_of l.one.read.now).mob)
