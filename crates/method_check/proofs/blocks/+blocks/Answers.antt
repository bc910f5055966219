use Rattle.std.proofs.Common.{◌≡◌, ℕ, ◌+◌, ◌<◌, ◌≤◌, List, ◌∷◌, ◌++◌, length, drop, take, get_or, map, arith, ◌∙◌, ap, sym, Option}
use Rattle.std.proofs.lemmas.List.{at_drop_more, take-append-le}
use Rattle.std.proofs.lemmas.Grind.{common_steps}
use Rattle.class_defs.specs.Rules.{least_with}
use Rattle.class_defs.specs.StatementRules.{in_turn, ruled}
use Rattle.class_defs.specs.declared.rules.NamedType.{NamedType}
use Rattle.class_defs.specs.declared.rules.RuleFault.{RuleFault}
use Rattle.class_defs.specs.declared.statements.Stmt.{Stmt}
use Rattle.method_check.proofs.Pieces.{least_append}
use Rattle.method_check.specs.Bodies.{sight}
use Rattle.method_check.specs.declared.body.Body.{Body}
use Rattle.method_check.proofs.blocks.+blocks.Goals as goal

one_more : (b : Body) (locals : List NamedType) (all : List Stmt) (i : ℕ) (e : Stmt) (found whole : Option RuleFault) → i < length all → e ≡ get_or all i e → least_with found (in_turn (map ruled (drop i all)) (sight b locals)) ≡ whole → least_with (least_with found ((ruled e).broken (sight b locals))) (in_turn (map ruled (drop (i + 1) all)) (sight b (locals ++ (ruled e).declares b.schema.now.classes))) ≡ whole
one_more b locals all i e found whole within is h =
    sym (least_append found ((ruled e).broken (sight b locals)) (in_turn (map ruled (drop (i + 1) all)) (sight b (locals ++ (ruled e).declares b.schema.now.classes))))
    ∙ ap (λ q. least_with found (in_turn (map ruled (q ∷ drop (i + 1) all)) (sight b locals))) is
    ∙ sym (at_drop_more (λ more. least_with found (in_turn (map ruled more) (sight b locals))) all i e within)
    ∙ h

-- the locals around a block still stand first where one is declared
outer_kept : (outer locals more : List NamedType) → take (length outer) locals ≡ outer → take (length outer) (locals ++ more) ≡ outer
outer_kept outer locals more h =
    let enough : length outer ≤ length locals = grind (arith, common_steps) in
    take-append-le (length outer) locals more enough ∙ h

pub block-loop-stmt-preserved : goal.block-loop-stmt-preserved
block-loop-stmt-preserved t c =
    let within : c.loop-stmt.stmt-index < length c.args.stmts.now = grind (arith, common_steps) in
    let is : c.stmt-item.result ≡ get_or c.args.stmts.now c.loop-stmt.stmt-index c.stmt-item.result = cc in
    let step = one_more c.args.body.now c.loop-stmt.locals c.args.stmts.now c.loop-stmt.stmt-index c.stmt-item.result c.loop-stmt.found _ within is c.loop-stmt.invariant.broken in
    let kept = outer_kept c.args.locals.now c.loop-stmt.locals ((ruled c.stmt-item.result).declares c.args.body.now.schema.now.classes) c.loop-stmt.invariant.outer in
    record {
      broken = rw (c.in_ok-statement.ensures.broken, c.in_ok-statement.ensures.locals) step;
      outer = rw c.in_ok-statement.ensures.locals kept;
    }
