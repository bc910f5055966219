-- How an expression is read in a room, and a block with room for brackets.
use Rattle.std.proofs.Common.{◌≡◌, ℕ, zero, suc, ◌-◌, ◌<◌, true, List, [], ◌∷◌, refl, arith}
use Rattle.std.specs.Prelude.{codes, nat_lt}
use Rattle.std.proofs.lemmas.Bool.{and_parts, false≢true, ltb-true}
use Rattle.class_defs.specs.declared.places.Place.{Place}
use Rattle.method_parse.specs.declared.deep.Level.{Level}
use Rattle.method_parse.specs.declared.deep.Room.{Room}
use Rattle.script_text.specs.declared.token.Token.{Token}
use Rattle.method_parse.specs.Matching.{is}
use Rattle.method_parse.specs.Reader.{next}
use Rattle.method_parse.specs.Expressions.{at_level, expression_in, inner_of, is_field_call, may_call, parts_of}
use Rattle.method_parse.specs.Statements.{braces, block_in}

by_depth : (place : Place) (level : Level) (brackets depth : ℕ) → 0 < depth → expression_in place brackets depth level
    ≡ at_level place (record { brackets = brackets; depth = depth }) (inner_of place (record { brackets = brackets; depth = depth })) (parts_of place (record { brackets = brackets; depth = depth })) level
unfolding expression_in
by_depth place level brackets zero lt = absurd (omega arith)
by_depth place level brackets (suc depth) lt =
    let e : suc depth - 1 ≡ depth = omega arith in
    rw e refl

pub in_room : (place : Place) (room : Room) (level : Level) → 0 < room.depth
    → expression_in place room.brackets room.depth level ≡ at_level place room (inner_of place room) (parts_of place room) level
in_room place room level lt = by_depth place level room.brackets room.depth lt

pub with_brackets : (place : Place) (brackets : ℕ) → 0 < brackets
    → block_in place brackets ≡ braces place (brackets - 1) (block_in place (brackets - 1))
unfolding block_in
with_brackets place zero lt = absurd (omega arith)
with_brackets place (suc brackets) lt =
    let e : suc brackets - 1 ≡ brackets = omega arith in
    rw e refl

-- where a call of a method of `this` may stand, its depth is more than one
pub field_call_room : (room : Room) (tokens : List Token) → next (is_field_call room) tokens ≡ true → 1 < room.depth
field_call_room room [] begins = absurd (false≢true begins)
field_call_room room (t ∷ ts) begins =
    ltb-true 1 room.depth (and_parts (nat_lt 0 room.brackets) (nat_lt 1 room.depth) (and_parts (is (codes "(") t) (may_call room) begins).1).1
