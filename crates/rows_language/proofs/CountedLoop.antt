-- How many steps a counting loop takes, by induction on its turns.
use Rattle.std.proofs.Common.{◌≡◌, ◌<◌, ◌≤◌, arith, true, false, ℕ, zero, suc, pos, List, [], ◌∷◌, ◌++◌, take, Result, Ok, Err, Some, nat_lt, refl, ap, ◌∙◌}
use Rattle.std.proofs.lemmas.Bool.{le-ltb, lt-ltb}
use Rattle.std.proofs.lemmas.Int.{fits_signed_from_abs, int_wrap_fits, wrapping_add_is}
use Rattle.std.specs.Int.{int_wrapping_add, w64}
use Rattle.std.specs.Prelude.{◌+◌, ◌*◌, codes, int_lt}
use Rattle.thor_value.specs.declared.values.Fault.TheVariants.{Steps}
use Rattle.thor_value.specs.declared.values.Value.{Value}
use Rattle.thor_value.specs.declared.values.Value.TheVariants as value
use Rattle.class_defs.proofs.RuleForms.{the_forms}
use Rattle.rows_language.proofs.RunForms.{deep, deep_enough, out_while, run_forms, six}
use Rattle.class_defs.specs.Expressions.{expression, truth}
use Rattle.class_defs.specs.Objects.{named_value}
use Rattle.class_defs.specs.Run.{Meaning, begun, execute_all, world_of}
use Rattle.rows_language.specs.RunRows.{count_to, less, local, minus, number, plus, print, schema, set_local, store, var_int}
use Rattle.class_defs.specs.Statements.{assigned, block_of, in_order, repeat, statement, turn, unless_returned}
use Rattle.class_defs.specs.Steps.{Action, World, after, change, pure, step, ◌>>◌}
use Rattle.class_defs.specs.declared.expressions.Expr.{Expr}
use Rattle.class_defs.specs.declared.machine.Flow.{Flow}
use Rattle.class_defs.specs.declared.machine.Flow.TheVariants.{Next}
use Rattle.class_defs.specs.declared.machine.Machine.{Machine}
use Rattle.class_defs.specs.declared.machine.Stop.{Stop}
use Rattle.class_defs.specs.declared.machine.Stop.TheVariants as stop
use Rattle.class_defs.specs.declared.statements.Stmt.{Stmt}
use Rattle.class_defs.specs.declared.statements.Stmt.TheVariants as stmt
use Rattle.class_defs.specs.declared.types.ExprType.TheVariants as type

-- one more, of a number far below the greatest
counted : (j : ℕ) → j < 12500 → int_wrapping_add w64 (pos j) (pos 1) ≡ pos (j + 1)
counted j h =
    wrapping_add_is w64 (pos j) (pos 1) (fits_signed_from_abs w64 (pos j) (omega (arith, h))) (fits_signed_from_abs w64 (pos 1) (omega arith))
    ∙ int_wrap_fits w64 (pos (j + 1)) (fits_signed_from_abs w64 (pos (j + 1)) (omega (arith, h)))

ruleset forms = (the_forms, run_forms)

abbrev w : World
w = world_of schema store

abbrev five : List ℕ
five = 0 ∷ 0 ∷ 0 ∷ 0 ∷ 0 ∷ []

abbrev value_of : Expr → Action Value
value_of = (deep w five 99995).value_of

abbrev block : List Stmt → Action Flow
block = block_of (deep w five 99995).execute

-- the state in which the local i has a value, behind so many steps
abbrev at : ℕ → ℕ → Machine
at s j = record (begun [] (Some 0)) { steps = s; locals = record { name = codes "i"; kind = type.Int; value = value.Int (pos j) } ∷ [] }

module _ (last : ℕ) where
  abbrev condition : Expr
  condition = less (local (codes "i")) (number last)

  test : (s j : ℕ) → nat_lt s 100000 ≡ true → nat_lt (s + 1) 100000 ≡ true → nat_lt (s + 1 + 1) 100000 ≡ true
      → value_of condition (at s j) ≡ (Ok (truth (int_lt (pos j) (pos last))), at (s + 1 + 1 + 1) j)
  unfolding deep expression step named_value
  test s j h0 h1 h2 = simp (forms, h0, h1, h2) refl

abbrev body : List Stmt
body = set_local (codes "i") (plus (local (codes "i")) (number 1)) ∷ []

turn_body : (s j : ℕ) → nat_lt s 100000 ≡ true → nat_lt (s + 1) 100000 ≡ true → nat_lt (s + 1 + 1) 100000 ≡ true → nat_lt (s + 1 + 1 + 1) 100000 ≡ true
    → int_wrapping_add w64 (pos j) (pos 1) ≡ pos (j + 1)
    → block body (at s j) ≡ (Ok Next, at (s + 1 + 1 + 1 + 1) (j + 1))
unfolding deep expression statement block_of step named_value assigned
turn_body s j h0 h1 h2 h3 one = simp (forms, h0, h1, h2, h3, one) refl

-- ---- the loop

below : (s : ℕ) → s < 100000 → nat_lt s 100000 ≡ true
below s h = lt-ltb s 100000 h

same_end : (s t i j : ℕ) → s ≡ t → i ≡ j → at s i ≡ at t j
same_end s t i j h g = ap (λ n. at n i) h ∙ ap (at t) g

module _ (last : ℕ) (few : last < 12500) where
  abbrev again : ℕ → Action Flow
  again f = repeat w value_of block f (condition last) body

  starts : (f s j : ℕ) → s + 4 ≤ 100000
      → again (suc f) (at s j) ≡ turn w value_of block (truth (int_lt (pos j) (pos last))) body (again f) (at (s + 1 + 1 + 1 + 1) j)
  unfolding repeat step
  starts f s j h =
      let h0 = below s (omega (arith, h)) in
      let tested = test last (s + 1) j (below (s + 1) (omega (arith, h))) (below (s + 1 + 1) (omega (arith, h))) (below (s + 1 + 1 + 1) (omega (arith, h))) in
      simp (h0, tested) refl

  goes_on : (f t j : ℕ) → t + 4 ≤ 100000 → j < 12500
      → turn w value_of block (truth true) body (again f) (at t j) ≡ again f (at (t + 1 + 1 + 1 + 1) (j + 1))
  goes_on f t j h small =
      ap (λ (r : Result Flow Stop × Machine). after r.0 r.1 (λ flow. unless_returned flow (again f)))
      (turn_body t j (below t (omega (arith, h))) (below (t + 1) (omega (arith, h))) (below (t + 1 + 1) (omega (arith, h)))
      (below (t + 1 + 1 + 1) (omega (arith, h))) (counted j small))

  -- a loop with k turns before it
  loop : (k f s j : ℕ) → j + k ≡ last → k < f → s + 8 * k + 4 ≤ 100000 → again f (at s j) ≡ (Ok Next, at (s + 8 * k + 4) last)
  loop k zero s j is more h = absurd (omega (arith, more))
  loop zero (suc f) s j is more h =
      starts f s j (omega (arith, h))
      ∙ ap (λ b. turn w value_of block (truth b) body (again f) (at (s + 1 + 1 + 1 + 1) j)) (le-ltb j last (omega (arith, is)))
      ∙ ap (λ (m : Machine). (Ok Next, m)) (same_end (s + 1 + 1 + 1 + 1) (s + 8 * 0 + 4) j last (omega arith) (omega (arith, is)))
  loop (suc k) (suc f) s j is more h =
      starts f s j (omega (arith, h))
      ∙ ap (λ b. turn w value_of block (truth b) body (again f) (at (s + 1 + 1 + 1 + 1) j)) (lt-ltb j last (omega (arith, is)))
      ∙ goes_on f (s + 1 + 1 + 1 + 1) j (omega (arith, h)) (omega (arith, is, few))
      ∙ ap (again f) (same_end (s + 1 + 1 + 1 + 1 + 1 + 1 + 1 + 1) (s + 8) (j + 1) (j + 1) (omega arith) refl)
      ∙ loop k f (s + 8) (j + 1) (omega (arith, is)) (omega (arith, more)) (omega (arith, h))
      ∙ ap (λ n. (Ok Next, at n last)) (longer s k)
    where
      longer : (s k : ℕ) → s + 8 + 8 * k + 4 ≡ s + 8 * suc k + 4
      longer s k = omega arith

-- ---- the transaction

abbrev run_statement : Stmt → Action Flow
run_statement = (deep w six 99995).execute

begins : run_statement (var_int (codes "i") (number 0)) (begun [] (Some 0)) ≡ (Ok Next, at 2 0)
unfolding deep expression statement step
begins = simp forms refl

loops : (e : Expr) (b : List Stmt) (m : Machine) → run_statement (stmt.While e b) m ≡ repeat w value_of block 100001 e b m
unfolding deep statement
loops e b m = simp out_while refl

prints : (s j : ℕ) → nat_lt s 100000 ≡ true → nat_lt (s + 1) 100000 ≡ true
    → run_statement (print (local (codes "i"))) (at s j) ≡ (Ok Next, record (at (s + 1 + 1) j) { printed = pos j ∷ [] })
unfolding deep expression statement step named_value
prints s j h0 h1 = simp (forms, h0, h1) refl

fails : (s j : ℕ) → nat_lt s 100000 ≡ true → nat_lt (s + 1) 100000 ≡ true → nat_lt (s + 1 + 1) 100000 ≡ false
    → run_statement (print (minus (local (codes "i")))) (at s j) ≡ (Err (stop.Fault Steps), at (s + 1 + 1) j)
unfolding deep expression statement step named_value
fails s j h0 h1 h2 = simp (forms, h0, h1, h2) refl

abbrev pub Out : Type 0
Out = Result Flow Stop × Machine

abbrev then_do : Action Flow → Out → Out
then_do rest r = after r.0 r.1 (λ flow. unless_returned flow rest)

abbrev end_block : Out → Out
end_block r = after r.0 r.1 (λ flow. change (λ n. record n { locals = take 0 n.locals }) >> pure flow)

abbrev tx : ℕ → Stmt → List Stmt
tx last s = count_to last ++ s ∷ []

unrolled : (last : ℕ) (s : Stmt) → execute_all w (tx last s) (begun [] (Some 0))
    ≡ end_block (then_do (in_order run_statement (stmt.While (condition last) body ∷ s ∷ [])) (run_statement (var_int (codes "i") (number 0)) (begun [] (Some 0))))
unfolding execute_all block_of
unrolled last s = ap (λ (d : Meaning). block_of d.execute (tx last s) (begun [] (Some 0))) (deep_enough w)

-- up to the statement behind the loop
to_the_end : (last : ℕ) (s : Stmt) → last < 12500
    → execute_all w (tx last s) (begun [] (Some 0)) ≡ end_block (then_do (pure Next) (run_statement s (at (2 + 8 * last + 4) last)))
to_the_end last s few =
    unrolled last s
    ∙ ap (λ r. end_block (then_do (in_order run_statement (stmt.While (condition last) body ∷ s ∷ [])) r)) begins
    ∙ ap (λ r. end_block (then_do (in_order run_statement (s ∷ [])) r))
    (loops (condition last) body (at 2 0) ∙ loop last few last 100001 2 0 (omega arith) (omega (arith, few)) (omega (arith, few)))

pub counts : (last : ℕ) → last < 12500
    → execute_all w (tx last (print (local (codes "i")))) (begun [] (Some 0))
    ≡ (Ok Next, record (begun [] (Some 0)) { steps = 2 + 8 * last + 4 + 1 + 1; printed = pos last ∷ [] })
counts last few =
    to_the_end last (print (local (codes "i"))) few
    ∙ ap (λ r. end_block (then_do (pure Next) r))
    (prints (2 + 8 * last + 4) last (below _ (omega (arith, few))) (below _ (omega (arith, few))))

pub one_step_too_many :
    execute_all w (tx 12499 (print (minus (local (codes "i"))))) (begun [] (Some 0)) ≡ (Err (stop.Fault Steps), at 100000 12499)
one_step_too_many =
    to_the_end 12499 (print (minus (local (codes "i")))) (omega arith)
    ∙ ap (λ r. end_block (then_do (pure Next) r)) (fails 99998 12499 refl refl refl)
