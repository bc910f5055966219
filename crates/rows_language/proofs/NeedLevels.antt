-- Runs of the worked rows, computed a few calls at a time: each lemma computes the body of a method down
-- to the body of the next one.
use Rattle.std.proofs.Common.{◌≡◌, ℕ, List, [], ◌∷◌, None, Some, Err, Result, refl}
use Rattle.std.specs.Prelude.{codes}
use Rattle.thor_value.specs.FiniteMap.{empty, insert}
use Rattle.class_defs.proofs.RuleForms.{the_forms}
use Rattle.rows_language.proofs.RunForms.{deep, types, statements}
use Rattle.class_defs.specs.Calls.{call, call_object, owners_at, run_body}
use Rattle.class_defs.specs.Expressions.{expression, values_of}
use Rattle.class_defs.specs.Objects.{field_value, named_value, scope_at, seen, touch}
use Rattle.class_defs.specs.Run.{meaning}
use Rattle.class_defs.specs.Statements.{block_of, statement}
use Rattle.class_defs.specs.Steps.{World, step}
use Rattle.thor_value.specs.declared.values.Value.{Value}
use Rattle.class_defs.specs.declared.machine.Machine.{Machine}
use Rattle.class_defs.specs.declared.machine.Stop.{Stop}
use Rattle.class_defs.specs.declared.machine.Stop.TheVariants as stop
use Rattle.class_defs.specs.declared.statements.Stmt.TheVariants as stmt
use Rattle.rows_language.specs.RunRows.{this_field}
use Rattle.rows_language.specs.NeedRows.{a, ask, at_hand, p, q, r, the_a, the_p, the_q, this}

abbrev two : List ℕ
two = 0 ∷ 0 ∷ []

abbrev four : List ℕ
four = 0 ∷ 0 ∷ two

abbrev five : List ℕ
five = 0 ∷ four

-- some levels of a meaning in sight
pub from_the_top : (w : World) → meaning w 100001 ≡ deep w five 99996
unfolding deep meaning
from_the_top w = refl

four_further : (w : World) → meaning w 99996 ≡ deep w four 99992
unfolding deep meaning
four_further w = refl

two_further : (w : World) → meaning w 99996 ≡ deep w two 99994
unfolding deep meaning
two_further w = refl

four_furthest : (w : World) → meaning w 99994 ≡ deep w four 99990
unfolding deep meaning
four_furthest w = refl

-- a and p at hand
abbrev pub two_at_hand : World
two_at_hand = at_hand (the_a ∷ the_p ∷ [])

-- in a method of p, at so many steps and calls
abbrev pub in_p : ℕ → ℕ → Machine
in_p steps depth = record {
  steps = steps;
  depth = depth;
  this = Some (record { oref = p; class = 1; owners = a ∷ [] });
  locals = [];
  reads = insert (insert empty a tt) p tt;
  writes = empty;
  created = [];
  printed = [];
  names = record { waiting = []; stand_in = None };
}

-- a, p and q at hand
abbrev pub three_at_hand : World
three_at_hand = at_hand (the_a ∷ the_p ∷ the_q ∷ [])

abbrev Wants : Result Value Stop → Type 0
Wants r = r ≡ Err (stop.Need q (p ∷ a ∷ []))

ruleset once_forms = (the_forms, types, statements, four_further)

ruleset again_forms = (the_forms, types, statements, four_furthest)

pub asks_itself : Wants ((meaning two_at_hand 99996).value_of (ask this (codes "ask")) (in_p 7 2)).0
unfolding deep statement expression values_of block_of step named_value scope_at call call_object run_body touch seen owners_at field_value
asks_itself = simp once_forms refl

asks_again : Wants ((meaning two_at_hand 99994).value_of (ask this (codes "ask")) (in_p 10 3)).0
unfolding deep statement expression values_of block_of step named_value scope_at call call_object run_body touch seen owners_at field_value
asks_again = simp again_forms refl

ruleset twice_forms = (the_forms, types, statements, two_further, asks_again)

pub asks_itself_twice : Wants ((meaning two_at_hand 99996).value_of (ask this (codes "again")) (in_p 7 2)).0
unfolding deep statement expression values_of block_of step named_value scope_at call call_object run_body touch seen owners_at field_value
asks_itself_twice = simp twice_forms refl

ruleset part_forms = (the_forms, types, statements, two_further)

pub asks_its_part : Wants ((meaning two_at_hand 99996).value_of (ask (this_field (codes "q")) (codes "get")) (in_p 7 2)).0
unfolding deep statement expression values_of block_of step named_value scope_at call call_object run_body touch seen owners_at field_value
asks_its_part = simp part_forms refl

pub asks_a_part_of_its_part : ((meaning three_at_hand 99996).value_of (ask (this_field (codes "q")) (codes "deep")) (in_p 7 2)).0 ≡ Err (stop.Need r (q ∷ p ∷ a ∷ []))
unfolding deep statement expression values_of block_of step named_value scope_at call call_object run_body touch seen owners_at field_value
asks_a_part_of_its_part = simp once_forms refl
