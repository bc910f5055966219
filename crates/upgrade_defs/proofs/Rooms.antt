-- How an expression is read in a room.
use Rattle.std.proofs.Common.{◌≡◌, ◌<◌, ◌-◌, ℕ, zero, suc, refl, arith}
use Rattle.method_parse.specs.declared.deep.Level.{Level}
use Rattle.upgrade_defs.specs.Expressions.{at_level, expression_in, parts_of}

pub in_room : (room : ℕ) (level : Level) → 0 < room → expression_in room level ≡ at_level room (parts_of room) level
unfolding expression_in
in_room zero level lt = absurd (omega arith)
in_room (suc room) level lt =
    let e : suc room - 1 ≡ room = omega arith in
    rw e refl
