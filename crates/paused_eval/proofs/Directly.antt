-- What an evaluation by plain recursion comes to, small steps come to.
use Rattle.std.proofs.Common.{◌≡◌, ℕ, ◌-◌, ◌<◌, ◌≤◌, zero, suc, Bool, true, false, cond, List, [], ◌∷◌, ◌++◌, length, Option, Some, None, Result, Ok, Err, refl, ap, sym, ◌∙◌, subst, arith, append_assoc}
use Rattle.std.proofs.lemmas.Bool.Decides.{nat_tests}
use Rattle.std.specs.Prelude.{nat_lt, if◌then◌else◌, ◌==◌, ◌||◌, find, is_some}
use Rattle.thor_value.specs.FiniteMap.{has, len}
use Rattle.thor_value.specs.Names.{same_oref}
use Rattle.thor_value.specs.declared.names.Oref.{Oref}
use Rattle.thor_value.specs.declared.values.Fault.{Fault}
use Rattle.thor_value.specs.declared.values.Fault.TheVariants as fault
use Rattle.thor_value.specs.declared.values.Value.{Value}
use Rattle.thor_value.specs.declared.values.Value.TheVariants as value
use Rattle.class_defs.specs.Calls.{owners_at}
use Rattle.class_defs.specs.Expressions.{combined}
use Rattle.class_defs.specs.Objects.{class_found, scope_at, seen, touch}
use Rattle.class_defs.specs.Run.{begun}
use Rattle.class_defs.specs.Statements.{holds}
use Rattle.class_defs.specs.Steps.{World, Action, after, ◌>>=◌, ◌>>◌, fail, step}
use Rattle.class_defs.specs.Types.{method_of, type_named, type_of}
use Rattle.class_defs.specs.declared.classes.Method.{Method}
use Rattle.class_defs.specs.declared.expressions.Expr.{Expr, out-Expr}
use Rattle.class_defs.specs.declared.expressions.Expr.TheOpen.{Expr-F}
use Rattle.class_defs.specs.declared.expressions.Operator.{Operator}
use Rattle.class_defs.specs.declared.limits.TheConstants.{DEPTH_LIMIT, READ_LIMIT, STEP_LIMIT}
use Rattle.class_defs.specs.declared.machine.Flow.{Flow}
use Rattle.class_defs.specs.declared.machine.Flow.TheVariants.{Next, Returned}
use Rattle.class_defs.specs.declared.machine.Machine.{Machine}
use Rattle.class_defs.specs.declared.machine.NameSupply.{NameSupply}
use Rattle.class_defs.specs.declared.machine.Receiver.{Receiver}
use Rattle.class_defs.specs.declared.machine.Stop.{Stop}
use Rattle.class_defs.specs.declared.machine.Stop.TheVariants as stop
use Rattle.class_defs.specs.declared.statements.Stmt.{Stmt, out-Stmt}
use Rattle.class_defs.specs.declared.statements.Stmt.TheOpen.{Stmt-F}
use Rattle.class_defs.specs.declared.store.Object.{Object}
use Rattle.class_defs.specs.declared.store.Schema.{Schema}
use Rattle.class_defs.specs.declared.types.ExprType.{ExprType}
use Rattle.class_defs.specs.declared.types.ExprType.TheVariants as type
use Rattle.client_cache.specs.Copies.{Contents}
use Rattle.method_eval.specs.Does.{Does}
use Rattle.method_eval.specs.declared.halt.Halt.{Halt}
use Rattle.method_eval.specs.declared.halt.Halt.TheVariants as halt
use Rattle.method_eval.specs.declared.halt.Halt.TheVariants.{Stopped}
use Rattle.lang_small_steps.proofs.Falling.{falls_by}
use Rattle.lang_small_steps.proofs.MoreNames.{IsNoCreation}
use Rattle.lang_small_steps.proofs.Reaching as reaching
use Rattle.lang_small_steps.specs.Due.{IsOpen, due}
use Rattle.lang_small_steps.specs.Reaches.{over, whole}
use Rattle.lang_small_steps.specs.Resume as small
use Rattle.lang_small_steps.specs.Resume.{Left, begin, give, inside, move, open_block, open_body, start}
use Rattle.lang_small_steps.specs.declared.frames.Doing.{Doing}
use Rattle.lang_small_steps.specs.declared.frames.Doing.TheVariants as doing
use Rattle.lang_small_steps.specs.declared.frames.Frame.{Frame}
use Rattle.lang_small_steps.specs.declared.frames.Frame.TheVariants as frame
use Rattle.paused_eval.proofs.Beginning.{begins_by}
use Rattle.paused_eval.proofs.Hands.{same_hands}
use Rattle.paused_eval.proofs.Standing.{named, named_is, stops}
use Rattle.paused_eval.specs.Begins.{first_part, waiting_frame}
use Rattle.paused_eval.specs.Copies.{Keeps}
use Rattle.paused_eval.specs.Direct.{Direct, Directly, Directs, IsLater, IsLeft, Outcome, Resumes, Waits, on, again, goes_on_after, block, call, collect, combine, directly, done, effect, enter, enter_as, faulted, in_order, met, node, part, ready, returned, statement, statement_at, stepped, tests, turn, turn_by, unless, value_at, waiting}
use Rattle.paused_eval.specs.Does.{Moves}
use Rattle.paused_eval.specs.Standing.{Runs, Went, outcome_of}
use Rattle.paused_eval.specs.declared.unwound.Unwound.{Unwound}
use Rattle.paused_eval.specs.declared.unwound.Unwound.TheVariants.{Faulted, Later, NoMemory}

abbrev left : Doing → List Frame → Left
left d fs = record { doing = d; stack = fs }

-- a stop is no answer
apart : {A E : Type 0} (P : Type 0) (e : E) (a : A) (m n : Machine) → ◌≡◌ {A = Result A E × Machine} (Err e, m) (Ok a, n) → P
apart {A} {E} P e a m n h = let i : ◌≡◌ {A = Result A E} (Err e) (Ok a) = ap (λ (p : Result A E × Machine). p.0) h in cc

-- ---- where an object isn't found, nothing has changed

found_stays : (o : Option Object) (x : Oref) (owners : List Oref) (m n : Machine) (t : Stop) → class_found o x owners m ≡ (Err t, n) → n ≡ m
found_stays None x owners m n t e = sym (ap (λ (p : Result ℕ Stop × Machine). p.1) e)
found_stays (Some o) x owners m n t e = apart (n ≡ m) t o.class n m (sym e)

newly_stays : (o : Option Object) (x : Oref) (owners : List Oref) (m n : Machine) (t : Stop) (k : ℕ → Action ℕ) → ((c : ℕ) (p : Machine) → (k c p).0 ≡ Ok c)
    → (class_found o x owners >>= k) m ≡ (Err t, n) → n ≡ m
newly_stays None x owners m n t k h e = sym (ap (λ (p : Result ℕ Stop × Machine). p.1) e)
newly_stays (Some o) x owners m n t k h e = let is = h o.class m in let no = ap (λ (p : Result ℕ Stop × Machine). p.0) e in cc

touch_by : (known room : Bool) (o : Option Object) (x : Oref) (owners : List Oref) (m n : Machine) (t : Stop) (k : ℕ → Action ℕ) → ((c : ℕ) (p : Machine) → (k c p).0 ≡ Ok c)
    → cond known (class_found o x owners m) (cond room ((class_found o x owners >>= k) m) (Err (stop.Fault fault.Large), m)) ≡ (Err t, n) → n ≡ m
touch_by true room o x owners m n t k h e = found_stays o x owners m n t e
touch_by false true o x owners m n t k h e = newly_stays o x owners m n t k h e
touch_by false false o x owners m n t k h e = sym (ap (λ (p : Result ℕ Stop × Machine). p.1) e)

touch_stays : (w : World) (owners : List Oref) (x : Oref) (m n : Machine) (t : Stop) → touch w owners x m ≡ (Err t, n) → n ≡ m
unfolding touch
touch_stays w owners x m n t e =
    touch_by (has m.reads x || is_some (find (same_oref x) m.created)) (nat_lt (len m.reads) READ_LIMIT) (seen w m x) x owners m n t _ (λ c p. refl) e

-- ---- in the words of the code

pub left_waiting : {A B : Type 0} (p : Outcome A) (u v : Unwound) (f : Frame) (k : A → Direct B) (n : Machine) → Directs (Err u) n p → Waits f u v → Directs (Err v) n (goes_on_after p.0 p.1 f k)
left_waiting p (Later d gs) (Later e hs) f k n h i = ap (λ (q : Outcome _). goes_on_after q.0 q.1 f k) h ∙ ap (λ (x : Unwound). (Err x, n)) (sym i)
left_waiting p (Later d gs) (Faulted e) f k n h i = cc
left_waiting p (Faulted t) (Later e hs) f k n h i = cc
left_waiting p (Faulted t) (Faulted e) f k n h i = ap (λ (q : Outcome _). goes_on_after q.0 q.1 f k) h ∙ ap (λ (x : Unwound). (Err x, n)) (sym i)
left_waiting p NoMemory (Later e hs) f k n h i = cc
left_waiting p NoMemory (Faulted e) f k n h i = cc
left_waiting p u NoMemory f k n h i = tt

pub left_there : {A B : Type 0} (p : Result A Stop × Machine) (h : Halt) (v : Unwound) (d : Doing) (k : A → Direct B) (n : Machine) → Does (Err h) n p → IsLeft d h v → Directs (Err v) n (met p.0 p.1 d k)
left_there p (Stopped t) (Later e hs) d k n h i = ap (λ (q : Result _ Stop × Machine). met q.0 q.1 d k) h ∙ ap (λ (x : Unwound). (Err x, n)) (sym i)
left_there p (Stopped t) (Faulted e) d k n h i = ap (λ (q : Result _ Stop × Machine). met q.0 q.1 d k) h ∙ ap (λ (x : Unwound). (Err x, n)) (sym i)
left_there p (Stopped t) NoMemory d k n h i = tt
left_there p halt.NoMemory (Later e hs) d k n h i = absurd i
left_there p halt.NoMemory (Faulted e) d k n h i = absurd i
left_there p halt.NoMemory NoMemory d k n h i = tt

pub left_later : {A : Type 0} (r : Result A Unwound) (d : Doing) (p : Outcome A) (n : Machine) → IsLater r d → p ≡ (Err (Later d []), n) → Directs r n p
left_later (Ok a) d p n h e = absurd h
left_later (Err (Later k fs)) d p n h e = e ∙ ap (λ (x : Unwound). (Err x, n)) (sym h)
left_later (Err (Faulted t)) d p n h e = absurd h
left_later (Err NoMemory) d p n h e = tt

pub same_world : (s : Schema) (c d : Contents) → Keeps c d → on s d ≡ on s c
same_world s c d h = ap (over s) (same_hands s c d h)

-- where there is no room, at depth 0, and at a depth above it; where no step is left
pub value-full : (w : World) (r n : ℕ) (e : Expr) (m : Machine) → r ≡ 0 → (directly w r n).value_of e m ≡ (Err (Later (doing.Evaluate n e) []), m)
unfolding directly
value-full w zero n e m h = refl
value-full w (suc r) n e m h = absurd (omega (arith, h))

pub value-none : (w : World) (r n : ℕ) (e : Expr) (m : Machine) → n ≡ 0 → (directly w r n).value_of e m ≡ (Err (Later (doing.Evaluate n e) []), m)
unfolding directly
value-none w zero n e m h = refl
value-none w (suc r) zero e m h = refl
value-none w (suc r) (suc n) e m h = absurd (omega (arith, h))

pub value-over : (w : World) (r n : ℕ) (e : Expr) (m : Machine) → 100000 ≤ m.steps → (directly w r n).value_of e m ≡ (Err (Later (doing.Evaluate n e) []), m)
unfolding directly value_at
value-over w zero n e m h = refl
value-over w (suc r) zero e m h = refl
value-over w (suc r) (suc n) e m h = let t : nat_lt m.steps STEP_LIMIT ≡ false = grind (arith, nat_tests) in
    ap (λ (b : Bool). cond b (node w n (directly w r n) (out-Expr e) (stepped m)) (Err (Later (doing.Evaluate (suc n) e) []), m)) t

value-below : (w : World) (r n : ℕ) (e : Expr) (m : Machine) → m.steps < 100000 → (directly w (suc r) (suc n)).value_of e m ≡ node w n (directly w r n) (out-Expr e) (stepped m)
unfolding directly value_at
value-below w r n e m h = let t : nat_lt m.steps STEP_LIMIT ≡ true = grind (arith, nat_tests) in
    ap (λ (b : Bool). cond b (node w n (directly w r n) (out-Expr e) (stepped m)) (Err (Later (doing.Evaluate (suc n) e) []), m)) t

pub value-deeper : (w : World) (r n : ℕ) (e : Expr) (m : Machine) → 0 < r → 0 < n → m.steps < 100000
    → (directly w r n).value_of e m ≡ node w (n - 1) (directly w (r - 1) (n - 1)) (out-Expr e) (stepped m)
value-deeper w r n e m more some h =
    let i : r ≡ suc (r - 1) = omega (arith, more) in
    let j : n ≡ suc (n - 1) = omega (arith, some) in
    ap (λ (k : ℕ). (directly w k n).value_of e m) i ∙ ap (λ (k : ℕ). (directly w (suc (r - 1)) k).value_of e m) j ∙ value-below w (r - 1) (n - 1) e m h

pub execute-full : (w : World) (r n : ℕ) (s : Stmt) (m : Machine) → r ≡ 0 → (directly w r n).execute s m ≡ (Err (Later (doing.Execute n s) []), m)
unfolding directly
execute-full w zero n s m h = refl
execute-full w (suc r) n s m h = absurd (omega (arith, h))

pub execute-none : (w : World) (r n : ℕ) (s : Stmt) (m : Machine) → n ≡ 0 → (directly w r n).execute s m ≡ (Err (Later (doing.Execute n s) []), m)
unfolding directly
execute-none w zero n s m h = refl
execute-none w (suc r) zero s m h = refl
execute-none w (suc r) (suc n) s m h = absurd (omega (arith, h))

pub execute-over : (w : World) (r n : ℕ) (s : Stmt) (m : Machine) → 100000 ≤ m.steps → (directly w r n).execute s m ≡ (Err (Later (doing.Execute n s) []), m)
unfolding directly statement_at
execute-over w zero n s m h = refl
execute-over w (suc r) zero s m h = refl
execute-over w (suc r) (suc n) s m h = let t : nat_lt m.steps STEP_LIMIT ≡ false = grind (arith, nat_tests) in
    ap (λ (b : Bool). cond b (statement w n (directly w r n) (out-Stmt s) (stepped m)) (Err (Later (doing.Execute (suc n) s) []), m)) t

execute-below : (w : World) (r n : ℕ) (s : Stmt) (m : Machine) → m.steps < 100000 → (directly w (suc r) (suc n)).execute s m ≡ statement w n (directly w r n) (out-Stmt s) (stepped m)
unfolding directly statement_at
execute-below w r n s m h = let t : nat_lt m.steps STEP_LIMIT ≡ true = grind (arith, nat_tests) in
    ap (λ (b : Bool). cond b (statement w n (directly w r n) (out-Stmt s) (stepped m)) (Err (Later (doing.Execute (suc n) s) []), m)) t

pub execute-deeper : (w : World) (r n : ℕ) (s : Stmt) (m : Machine) → 0 < r → 0 < n → m.steps < 100000
    → (directly w r n).execute s m ≡ statement w (n - 1) (directly w (r - 1) (n - 1)) (out-Stmt s) (stepped m)
execute-deeper w r n s m more some h =
    let i : r ≡ suc (r - 1) = omega (arith, more) in
    let j : n ≡ suc (n - 1) = omega (arith, some) in
    ap (λ (k : ℕ). (directly w k n).execute s m) i ∙ ap (λ (k : ℕ). (directly w (suc (r - 1)) k).execute s m) j ∙ execute-below w (r - 1) (n - 1) s m h

-- ---- loops, for the code

pub tests-none : (w : World) (n : ℕ) (d : Directly) (t : ℕ) (c : Expr) (b : List Stmt) (m : Machine) → t ≡ 0 → tests w n d t c b m ≡ (Err (Later (doing.Give Next) (frame.Again n t c b ∷ [])), m)
tests-none w n d zero c b m h = refl
tests-none w n d (suc t) c b m h = absurd (omega (arith, h))

abbrev testing : (w : World) (n : ℕ) (d : Directly) (t : ℕ) (c : Expr) (b : List Stmt) (m : Machine) → Bool → Outcome Value
testing w n d t c b m k = cond k (part (d.value_of c) (frame.Test n t c b) done (stepped m)) (Err (Later (doing.Give Next) (frame.Again n (suc t) c b ∷ [])), m)

pub tests-over : (w : World) (n : ℕ) (d : Directly) (t : ℕ) (c : Expr) (b : List Stmt) (m : Machine) → 100000 ≤ m.steps → tests w n d t c b m ≡ (Err (Later (doing.Give Next) (frame.Again n t c b ∷ [])), m)
tests-over w n d zero c b m h = refl
tests-over w n d (suc t) c b m h = let e : nat_lt m.steps STEP_LIMIT ≡ false = grind (arith, nat_tests) in ap (testing w n d t c b m) e

tests-below : (w : World) (n : ℕ) (d : Directly) (t : ℕ) (c : Expr) (b : List Stmt) (m : Machine) → m.steps < 100000 → tests w n d (suc t) c b m ≡ part (d.value_of c) (frame.Test n t c b) done (stepped m)
tests-below w n d t c b m h = let e : nat_lt m.steps STEP_LIMIT ≡ true = grind (arith, nat_tests) in ap (testing w n d t c b m) e

pub tests-more : (w : World) (n : ℕ) (d : Directly) (t : ℕ) (c : Expr) (b : List Stmt) (m : Machine) → 0 < t → m.steps < 100000 → tests w n d t c b m ≡ part (d.value_of c) (frame.Test n (t - 1) c b) done (stepped m)
tests-more w n d t c b m some h = let i : t ≡ suc (t - 1) = omega (arith, some) in ap (λ (k : ℕ). tests w n d k c b m) i ∙ tests-below w n d (t - 1) c b m h

pub ruleset at_turn = (tests-none, tests-over, tests-more)

-- what a part came to, and what is behind it
done_ok : {A B : Type 0} (r : Result A Unwound) (o : Machine) (f : Frame) (k : A → Direct B) (a : A) (p : Machine) → goes_on_after r o f done ≡ (Ok a, p) → goes_on_after r o f k ≡ k a p
done_ok {A} (Ok b) o f k a p h = ap (λ (q : Outcome A). goes_on_after q.0 q.1 f k) h
done_ok {A} {B} (Err u) o f k a p h = apart (◌≡◌ {A = Outcome B} (Err (waiting f u), o) (k a p)) (waiting f u) a o p h

abbrev relabelled : {A B : Type 0} → Result A Unwound → Result B Unwound
relabelled (Ok a) = Err NoMemory
relabelled (Err u) = Err u

done_err : {A B : Type 0} (r : Result A Unwound) (o : Machine) (f : Frame) (k : A → Direct B) (u : Unwound) (p : Machine) → goes_on_after r o f done ≡ (Err u, p) → goes_on_after r o f k ≡ (Err u, p)
done_err {A} {B} (Ok b) o f k u p h = apart (k b o ≡ (Err u, p)) u b p o (sym h)
done_err {A} (Err x) o f k u p h = ap (λ (q : Outcome A). (relabelled q.0, q.1)) h

module _ (w : World) (n : ℕ) (d : Directly) (c : Expr) (b : List Stmt) where
  again_tests : (below : Bool) (t : ℕ) (v : Value) (m o : Machine) → testing w n d t c b m below ≡ (Ok v, o)
      → cond below (part (d.value_of c) (frame.Test n t c b) (λ x. turn_by w n d (again w n d t c b) t c b x) (stepped m)) (Err (Later (doing.Give Next) (frame.Again n (suc t) c b ∷ [])), m) ≡ turn w n d t c b v o
  again_tests true t v m o h = done_ok (d.value_of c (stepped m)).0 (d.value_of c (stepped m)).1 (frame.Test n t c b) (λ x. turn_by w n d (again w n d t c b) t c b x) v o h
  again_tests false t v m o h = apart (◌≡◌ {A = Outcome Flow} (Err (Later (doing.Give Next) (frame.Again n (suc t) c b ∷ [])), m) (turn w n d t c b v o)) (Later (doing.Give Next) (frame.Again n (suc t) c b ∷ [])) v m o h

  again_left : (below : Bool) (t : ℕ) (u : Unwound) (m o : Machine) → testing w n d t c b m below ≡ (Err u, o)
      → cond below (part (d.value_of c) (frame.Test n t c b) (λ x. turn_by w n d (again w n d t c b) t c b x) (stepped m)) (Err (Later (doing.Give Next) (frame.Again n (suc t) c b ∷ [])), m) ≡ (Err u, o)
  again_left true t u m o h = done_err (d.value_of c (stepped m)).0 (d.value_of c (stepped m)).1 (frame.Test n t c b) (λ x. turn_by w n d (again w n d t c b) t c b x) u o h
  again_left false t u m o h = ap (λ (q : Outcome Value). (relabelled q.0, q.1)) h

  tested_again : (t : ℕ) (v : Value) (m o : Machine) → tests w n d t c b m ≡ (Ok v, o) → again w n d t c b m ≡ turn w n d (t - 1) c b v o
  unfolding again
  tested_again zero v m o h = apart (again w n d 0 c b m ≡ turn w n d (0 - 1) c b v o) (Later (doing.Give Next) (frame.Again n zero c b ∷ [])) v m o h
  tested_again (suc t) v m o h = let i : t ≡ suc t - 1 = omega arith in again_tests (nat_lt m.steps STEP_LIMIT) t v m o h ∙ ap (λ (k : ℕ). turn w n d k c b v o) i

  left_again : (t : ℕ) (u : Unwound) (m o : Machine) → tests w n d t c b m ≡ (Err u, o) → again w n d t c b m ≡ (Err u, o)
  unfolding again
  left_again zero u m o h = ap (λ (q : Outcome Value). (relabelled q.0, q.1)) h
  left_again (suc t) u m o h = again_left (nat_lt m.steps STEP_LIMIT) t u m o h

  -- the body of a turn
  abbrev pub body : ℕ → Direct Flow
  body t = part (block w n d b) (frame.Again n t c b) done

  turning : (t : ℕ) (v : Value) (m : Machine) → holds v ≡ true → turn w n d t c b v m ≡ part (block w n d b) (frame.Again n t c b) (λ g. unless g (again w n d t c b)) m
  turning t v m h = ap (λ (k : Bool). (if k then part (block w n d b) (frame.Again n t c b) (λ g. unless g (again w n d t c b)) else done Next) m) h

  pub loop_ends : (t : ℕ) (v : Value) (m : Machine) → holds v ≡ false → turn w n d t c b v m ≡ (Ok Next, m)
  loop_ends t v m h = ap (λ (k : Bool). (if k then part (block w n d b) (frame.Again n t c b) (λ g. unless g (again w n d t c b)) else done Next) m) h

  pub body_left : (t : ℕ) (v : Value) (m o : Machine) (u : Unwound) → holds v ≡ true → body t m ≡ (Err u, o) → turn w n d t c b v m ≡ (Err u, o)
  body_left t v m o u h e = turning t v m h ∙ done_err (block w n d b m).0 (block w n d b m).1 (frame.Again n t c b) (λ g. unless g (again w n d t c b)) u o e

  pub body_returns : (t : ℕ) (v : Value) (m o : Machine) (x : Value) → holds v ≡ true → body t m ≡ (Ok (Returned x), o) → turn w n d t c b v m ≡ (Ok (Returned x), o)
  body_returns t v m o x h e = turning t v m h ∙ done_ok (block w n d b m).0 (block w n d b m).1 (frame.Again n t c b) (λ g. unless g (again w n d t c b)) (Returned x) o e

  body_ends : (t : ℕ) (v : Value) (m o : Machine) → holds v ≡ true → body t m ≡ (Ok Next, o) → turn w n d t c b v m ≡ again w n d t c b o
  body_ends t v m o h e = turning t v m h ∙ done_ok (block w n d b m).0 (block w n d b m).1 (frame.Again n t c b) (λ g. unless g (again w n d t c b)) Next o e

  pub test_left : (t : ℕ) (v : Value) (m o p : Machine) (u : Unwound) → holds v ≡ true → body t m ≡ (Ok Next, o) → tests w n d t c b o ≡ (Err u, p) → turn w n d t c b v m ≡ (Err u, p)
  test_left t v m o p u h e f = body_ends t v m o h e ∙ left_again t u o p f

  pub next_turn : (t : ℕ) (v x : Value) (m o p : Machine) → holds v ≡ true → body t m ≡ (Ok Next, o) → tests w n d t c b o ≡ (Ok x, p) → turn w n d t c b v m ≡ turn w n d (t - 1) c b x p
  next_turn t v x m o p h e f = body_ends t v m o h e ∙ tested_again t x o p f

pub ruleset at_depth = (value-full, value-none, value-over, value-deeper, execute-full, execute-none, execute-over, execute-deeper)

-- ---- by small steps

-- what can be followed over small steps, where something is left to do
abbrev pub Follows : World → (Left → Machine → Type 0) → Type 0
Follows w Q = (d : Doing) (fs : List Frame) (l : Left) (m n : Machine) → IsOpen d fs → IsNoCreation d → Q (left d fs) m → move w d fs m ≡ (Ok l, n) → Q l n

-- what holds where a small step is a fault
abbrev pub Fails : World → (Left → Machine → Type 0) → (Fault → Machine → Type 0) → Type 0
Fails w Q Z = (d : Doing) (fs : List Frame) (m n : Machine) (e : Fault) → IsNoCreation d → Q (left d fs) m → move w d fs m ≡ (Err (stop.Fault e), n) → Z e n

module _ (w : World) (Q : Left → Machine → Type 0) (Z : Fault → Machine → Type 0) (on : Follows w Q) (off : Fails w Q Z) where
  -- what an action goes on to
  abbrev Comes : Result Left Stop × Machine → Type 0
  Comes p = ((l : Left) (n : Machine) → p ≡ (Ok l, n) → Q l n) × ((e : Fault) (n : Machine) → p ≡ (Err (stop.Fault e), n) → Z e n)

  moves : (d : Doing) (fs : List Frame) (m : Machine) → IsOpen d fs → IsNoCreation d → Q (left d fs) m → Comes (move w d fs m)
  moves d fs m o c q = (λ l n e. on d fs l m n o c q e, λ t n e. off d fs m n t c q e)

  abbrev pub After : {A : Type 0} → (A → Flow) → Result A Unwound → Machine → List Frame → Type 0
  After flow (Ok a) o fs = Q (left (doing.Give (flow a)) fs) o
  After flow (Err (Later d gs)) o fs = Q (left d (gs ++ fs)) o
  After flow (Err (Faulted e)) o fs = Z e o
  After flow (Err NoMemory) o fs = Unit {0}

  abbrev pub same : Flow → Flow
  same g = g

  parted : {A B : Type 0} (fa : A → Flow) (fb : B → Flow) (r : Result A Unwound) (o : Machine) (f : Frame) (k : A → Direct B) (fs : List Frame) → After fa r o (f ∷ fs)
      → ((a : A) (p : Machine) → Q (left (doing.Give (fa a)) (f ∷ fs)) p → After fb (k a p).0 (k a p).1 fs) → After fb (goes_on_after r o f k).0 (goes_on_after r o f k).1 fs
  parted fa fb (Ok a) o f k fs q h = h a o q
  parted fa fb (Err (Later d gs)) o f k fs q h = subst (λ (hs : List Frame). Q (left d hs) o) (sym (append_assoc gs (f ∷ []) fs)) q
  parted fa fb (Err (Faulted e)) o f k fs q h = q
  parted fa fb (Err NoMemory) o f k fs q h = tt

  abbrev pub Values : ℕ → Directly → Type 0
  Values n d = (e : Expr) (fs : List Frame) (m : Machine) → Q (left (doing.Evaluate n e) fs) m → After Returned (d.value_of e m).0 (d.value_of e m).1 fs

  abbrev pub Statements : ℕ → Directly → Type 0
  Statements n d = (s : Stmt) (fs : List Frame) (m : Machine) → Q (left (doing.Execute n s) fs) m → After same (d.execute s m).0 (d.execute s m).1 fs

  abbrev stepping : Machine → Bool → Result (Unit {0}) Stop × Machine
  stepping m b = cond b (Ok tt, stepped m) (Err (stop.Fault fault.Steps), m)

  -- behind its step
  stepped_comes : (a : Action Left) (m : Machine) → nat_lt m.steps STEP_LIMIT ≡ true → Comes ((step >> a) m) → Comes (a (stepped m))
  unfolding step
  stepped_comes a m below c = subst (λ (p : Result Left Stop × Machine). Comes p) (ap (λ (b : Bool). after (stepping m b).0 (stepping m b).1 (λ u. a)) below) c

  module _ (n : ℕ) (inner : Directly) (values : Values n inner) (statements : Statements n inner) where
    rest_comes : (ss : List Stmt) (fs : List Frame) → ((o : Machine) → Q (left (doing.Give Next) (frame.Rest n ss ∷ fs)) o → After same (in_order w n inner ss o).0 (in_order w n inner ss o).1 fs)
        → (g : Flow) (o : Machine) → Q (left (doing.Give g) (frame.Rest n ss ∷ fs)) o → After same (unless g (in_order w n inner ss) o).0 (unless g (in_order w n inner ss) o).1 fs
    rest_comes ss fs next Next o h = next o h
    rest_comes ss fs next (Returned v) o h = (moves (doing.Give (Returned v)) (frame.Rest n ss ∷ fs) o tt tt h).0 _ _ refl

    in_order_comes : (ss : List Stmt) (fs : List Frame) (m : Machine) → Q (left (doing.Give Next) (frame.Rest n ss ∷ fs)) m → After same (in_order w n inner ss m).0 (in_order w n inner ss m).1 fs
    in_order_comes [] fs m q = (moves (doing.Give Next) (frame.Rest n [] ∷ fs) m tt tt q).0 _ _ refl
    in_order_comes (s ∷ ss) fs m q =
        parted same same (inner.execute s m).0 (inner.execute s m).1 (frame.Rest n ss) (λ g. unless g (in_order w n inner ss)) fs
        (statements s (frame.Rest n ss ∷ fs) m ((moves (doing.Give Next) (frame.Rest n (s ∷ ss) ∷ fs) m tt tt q).0 _ _ refl)) (rest_comes ss fs (in_order_comes ss fs))

    block_comes : (ss : List Stmt) (fs : List Frame) (m : Machine) → Q (left (doing.Give Next) (frame.Rest n ss ∷ frame.BlockEnd (length m.locals) ∷ fs)) m
        → After same (block w n inner ss m).0 (block w n inner ss m).1 fs
    block_comes ss fs m q =
        parted same same (in_order w n inner ss m).0 (in_order w n inner ss m).1 (frame.BlockEnd (length m.locals)) _ fs (in_order_comes ss (frame.BlockEnd (length m.locals) ∷ fs) m q)
        (λ g o h. (moves (doing.Give g) (frame.BlockEnd (length m.locals) ∷ fs) o tt tt h).0 _ _ refl)

    body_comes : (this : Receiver) (o : Option Method) (vs : List Value) (fs : List Frame) (m : Machine) → Comes (open_body w n this o vs fs m) → After Returned (enter w n inner this o vs m).0 (enter w n inner this o vs m).1 fs
    body_comes this None vs fs m c = c.1 _ _ refl
    body_comes this (Some method) vs fs m c =
        let end : Frame = frame.BodyEnd m.depth m.this m.locals (type_named w.schema.classes method.result) in
        let into : Machine = inside w this method vs m in
        parted same Returned (block w n inner method.body into).0 (block w n inner method.body into).1 end _ fs (block_comes method.body (end ∷ fs) into (c.0 _ _ refl))
        (λ g p h. (moves (doing.Give g) (end ∷ fs) p tt tt h).0 _ _ refl)

    as_comes : (b : Bool) (this : Receiver) (o : Option Method) (vs : List Value) (fs : List Frame) (m : Machine) → Comes ((if b then open_body w n this o vs fs else fail fault.NullCall) m)
        → After Returned ((if b then enter w n inner this o vs else faulted (Faulted fault.NullCall)) m).0 ((if b then enter w n inner this o vs else faulted (Faulted fault.NullCall)) m).1 fs
    as_comes true this o vs fs m c = body_comes this o vs fs m c
    as_comes false this o vs fs m c = c.1 _ _ refl

    touched_comes : (r : Result ℕ Stop) (o : Machine) (c : ℕ) (x : Oref) (name : List ℕ) (vs : List Value) (fs : List Frame) (m : Machine) → touch w (owners_at w.schema.classes c x m) x m ≡ (r, o)
        → Q (left (doing.Enter n c x name vs) fs) m
        → let this : Receiver = record { oref = x; class = c; owners = owners_at w.schema.classes c x m } in let how : Option Method = method_of w.schema.classes c name in
        Comes (after r o (λ found. small.open_as w n this found how vs fs))
        → let p = met r o (doing.Enter n c x name vs) (λ found. enter_as w n inner this found how vs) in After Returned p.0 p.1 fs
    touched_comes (Ok found) o c x name vs fs m e q h =
        as_comes (found == c) (record { oref = x; class = c; owners = owners_at w.schema.classes c x m }) (method_of w.schema.classes c name) vs fs o h
    touched_comes (Err (stop.Fault t)) o c x name vs fs m e q h = h.1 _ _ refl
    touched_comes (Err (stop.Need y ys)) o c x name vs fs m e q h = subst (λ (p : Machine). Q (left (doing.Enter n c x name vs) fs) p) (sym (touch_stays w (owners_at w.schema.classes c x m) x m o (stop.Need y ys) e)) q
    touched_comes (Err (stop.NeedName repo)) o c x name vs fs m e q h = subst (λ (p : Machine). Q (left (doing.Enter n c x name vs) fs) p) (sym (touch_stays w (owners_at w.schema.classes c x m) x m o (stop.NeedName repo) e)) q

    depth_comes : (b : Bool) (c : ℕ) (x : Oref) (name : List ℕ) (vs : List Value) (fs : List Frame) (m : Machine) → Q (left (doing.Enter n c x name vs) fs) m
        → let this : Receiver = record { oref = x; class = c; owners = owners_at w.schema.classes c x m } in let how : Option Method = method_of w.schema.classes c name in
        Comes (cond b ((touch w (owners_at w.schema.classes c x m) x >>= (λ found. small.open_as w n this found how vs fs)) m) (Err (stop.Fault fault.Depth), m))
        → let p = cond b (met (touch w (owners_at w.schema.classes c x m) x m).0 (touch w (owners_at w.schema.classes c x m) x m).1 (doing.Enter n c x name vs) (λ found. enter_as w n inner this found how vs)) (Err (Faulted fault.Depth), m) in
        After Returned p.0 p.1 fs
    depth_comes true c x name vs fs m q h = touched_comes (touch w (owners_at w.schema.classes c x m) x m).0 (touch w (owners_at w.schema.classes c x m) x m).1 c x name vs fs m refl q h
    depth_comes false c x name vs fs m q h = h.1 _ _ refl

    call_comes : (c : ℕ) (x : Oref) (name : List ℕ) (vs : List Value) (fs : List Frame) (m : Machine) → Q (left (doing.Enter n c x name vs) fs) m → After Returned (call w n inner c x name vs m).0 (call w n inner c x name vs m).1 fs
    call_comes c x name vs fs m q = depth_comes (nat_lt m.depth DEPTH_LIMIT) c x name vs fs m q (moves (doing.Enter n c x name vs) fs m tt tt q)

    right_comes : (o : Operator) (e : Expr) (g : Flow) (fs : List Frame) (m : Machine) → Q (left (doing.Give g) (frame.Right n o e ∷ fs)) m
        → After Returned (combine w n inner o (small.given g) e m).0 (combine w n inner o (small.given g) e m).1 fs
    right_comes o e g fs m q =
        parted Returned Returned (inner.value_of e m).0 (inner.value_of e m).1 (frame.Combine o (small.given g)) (λ b. done (combined o (small.given g) b)) fs
        (values e (frame.Combine o (small.given g) ∷ fs) m ((moves (doing.Give g) (frame.Right n o e ∷ fs) m tt tt q).0 _ _ refl))
        (λ b r h. (moves (doing.Give (Returned b)) (frame.Combine o (small.given g) ∷ fs) r tt tt h).0 _ _ refl)

    ready_comes : (t : ExprType) (r : Value) (name : List ℕ) (vs : List Value) (fs : List Frame) (m : Machine) → Comes (small.ready n t r name vs fs m) → After Returned (ready w n inner t r name vs m).0 (ready w n inner t r name vs m).1 fs
    ready_comes (type.Class c) (value.Ref x) name vs fs m h = call_comes c x name vs fs m (h.0 _ _ refl)
    ready_comes (type.Class c) value.Null name vs fs m h = h.1 _ _ refl
    ready_comes (type.Class c) (value.Int i) name vs fs m h = h.1 _ _ refl
    ready_comes (type.Class c) (value.Text i) name vs fs m h = h.1 _ _ refl
    ready_comes type.Int r name vs fs m h = h.1 _ _ refl
    ready_comes type.Text r name vs fs m h = h.1 _ _ refl
    ready_comes type.Null r name vs fs m h = h.1 _ _ refl
    ready_comes type.Untold r name vs fs m h = h.1 _ _ refl

    collect_comes : (t : ExprType) (r : Value) (name : List ℕ) (vs : List Value) (es : List Expr) (fs : List Frame) (m : Machine) → Comes (small.collect n t r name vs es fs m)
        → After Returned (collect w n inner t r name vs es m).0 (collect w n inner t r name vs es m).1 fs
    collect_comes t r name vs [] fs m h = ready_comes t r name vs fs m h
    collect_comes t r name vs (e ∷ es) fs m h =
        parted Returned Returned (inner.value_of e m).0 (inner.value_of e m).1 (frame.Arguments n t r name vs es) (λ v. collect w n inner t r name (vs ++ v ∷ []) es) fs
        (values e (frame.Arguments n t r name vs es ∷ fs) m (h.0 _ _ refl))
        (λ v o q. collect_comes t r name (vs ++ v ∷ []) es fs o (moves (doing.Give (Returned v)) (frame.Arguments n t r name vs es ∷ fs) o tt tt q))

    node_comes : (k : Expr-F Expr) (fs : List Frame) (m : Machine) → Comes (start w n k fs m) → After Returned (node w n inner k m).0 (node w n inner k m).1 fs
    node_comes (Expr-F.Literal v line) fs m h = h.0 _ _ refl
    node_comes (Expr-F.Null line) fs m h = h.0 _ _ refl
    node_comes (Expr-F.This line) fs m h = h.0 _ _ refl
    node_comes (Expr-F.Field name) fs m h = h.0 _ _ refl
    node_comes (Expr-F.Variable name) fs m h = h.0 _ _ refl
    node_comes (Expr-F.New class at) fs m h = h.0 _ _ refl
    node_comes (Expr-F.Parens part line) fs m h = values part fs m (h.0 _ _ refl)
    node_comes (Expr-F.Negate operand line) fs m h =
        parted Returned Returned (inner.value_of operand m).0 (inner.value_of operand m).1 frame.Negate _ fs (values operand (frame.Negate ∷ fs) m (h.0 _ _ refl))
        (λ v o q. (moves (doing.Give (Returned v)) (frame.Negate ∷ fs) o tt tt q).0 _ _ refl)
    node_comes (Expr-F.Binary o left right line) fs m h =
        parted Returned Returned (inner.value_of left m).0 (inner.value_of left m).1 (frame.Right n o right) _ fs (values left (frame.Right n o right ∷ fs) m (h.0 _ _ refl))
        (λ a p q. parted Returned Returned (inner.value_of right p).0 (inner.value_of right p).1 (frame.Combine o a) _ fs
        (values right (frame.Combine o a ∷ fs) p ((moves (doing.Give (Returned a)) (frame.Right n o right ∷ fs) p tt tt q).0 _ _ refl))
        (λ b r s. (moves (doing.Give (Returned b)) (frame.Combine o a ∷ fs) r tt tt s).0 _ _ refl))
    node_comes (Expr-F.Call receiver method arguments) fs m h =
        let t : ExprType = type_of (scope_at w.schema m) receiver in
        parted Returned Returned (inner.value_of receiver m).0 (inner.value_of receiver m).1 (frame.Callee n t method.text arguments) (λ r. collect w n inner t r method.text [] arguments) fs
        (values receiver (frame.Callee n t method.text arguments ∷ fs) m (h.0 _ _ refl))
        (λ r o q. collect_comes t r method.text [] arguments fs o (moves (doing.Give (Returned r)) (frame.Callee n t method.text arguments ∷ fs) o tt tt q))

    value_by : (b : Bool) (e : Expr) (fs : List Frame) (m : Machine) → nat_lt m.steps STEP_LIMIT ≡ b → Q (left (doing.Evaluate (suc n) e) fs) m
        → let p = cond b (node w n inner (out-Expr e) (stepped m)) (Err (Later (doing.Evaluate (suc n) e) []), m) in After Returned p.0 p.1 fs
    value_by true e fs m below q = node_comes (out-Expr e) fs (stepped m) (stepped_comes (start w n (out-Expr e) fs) m below (moves (doing.Evaluate (suc n) e) fs m tt tt q))
    value_by false e fs m below q = q

    value_comes : Values (suc n) (record { value_of = value_at w n inner; execute = statement_at w n inner })
    unfolding value_at
    value_comes e fs m q = value_by (nat_lt m.steps STEP_LIMIT) e fs m refl q

    if_comes : (b : Bool) (ss : List Stmt) (fs : List Frame) (m : Machine) → Comes ((if b then open_block n ss fs else give Next fs) m)
        → let p = (if b then block w n inner ss else done Next) m in After same p.0 p.1 fs
    if_comes true ss fs m h = block_comes ss fs m (h.0 _ _ refl)
    if_comes false ss fs m h = h.0 _ _ refl

    either_comes : (b : Bool) (ss ts : List Stmt) (fs : List Frame) (m : Machine) → Comes ((if b then open_block n ss fs else open_block n ts fs) m)
        → let p = (if b then block w n inner ss else block w n inner ts) m in After same p.0 p.1 fs
    either_comes true ss ts fs m h = block_comes ss fs m (h.0 _ _ refl)
    either_comes false ss ts fs m h = block_comes ts fs m (h.0 _ _ refl)

    -- a loop
    ended_comes : (t : ℕ) (c : Expr) (b : List Stmt) (k : Direct Flow) (fs : List Frame)
        → ((m : Machine) → Q (left (doing.Give Next) (frame.Again n t c b ∷ fs)) m → After same (k m).0 (k m).1 fs)
        → (g : Flow) (m : Machine) → Q (left (doing.Give g) (frame.Again n t c b ∷ fs)) m → After same (unless g k m).0 (unless g k m).1 fs
    ended_comes t c b k fs next Next m q = next m q
    ended_comes t c b k fs next (Returned v) m q = (moves (doing.Give (Returned v)) (frame.Again n t c b ∷ fs) m tt tt q).0 _ _ refl

    turn_comes : (h : Bool) (t : ℕ) (c : Expr) (b : List Stmt) (k : Direct Flow) (fs : List Frame) (m : Machine)
        → ((m : Machine) → Q (left (doing.Give Next) (frame.Again n t c b ∷ fs)) m → After same (k m).0 (k m).1 fs)
        → Comes ((if h then open_block n b (frame.Again n t c b ∷ fs) else give Next fs) m)
        → let p = (if h then part (block w n inner b) (frame.Again n t c b) (λ g. unless g k) else done Next) m in After same p.0 p.1 fs
    turn_comes true t c b k fs m next comes =
        parted same same (block w n inner b m).0 (block w n inner b m).1 (frame.Again n t c b) (λ g. unless g k) fs (block_comes b (frame.Again n t c b ∷ fs) m (comes.0 _ _ refl)) (ended_comes t c b k fs next)
    turn_comes false t c b k fs m next comes = comes.0 _ _ refl

    again_by : (below : Bool) (t : ℕ) (c : Expr) (b : List Stmt) (fs : List Frame) (m : Machine) → nat_lt m.steps STEP_LIMIT ≡ below
        → ((m : Machine) → Q (left (doing.Give Next) (frame.Again n t c b ∷ fs)) m → After same (again w n inner t c b m).0 (again w n inner t c b m).1 fs)
        → Q (left (doing.Give Next) (frame.Again n (suc t) c b ∷ fs)) m
        → let p = cond below (part (inner.value_of c) (frame.Test n t c b) (λ v. turn_by w n inner (again w n inner t c b) t c b v) (stepped m)) (Err (Later (doing.Give Next) (frame.Again n (suc t) c b ∷ [])), m) in
        After same p.0 p.1 fs
    again_by true t c b fs m is next q =
        parted Returned same (inner.value_of c (stepped m)).0 (inner.value_of c (stepped m)).1 (frame.Test n t c b) (λ v. turn_by w n inner (again w n inner t c b) t c b v) fs
        (values c (frame.Test n t c b ∷ fs) (stepped m)
        ((stepped_comes (small.next (doing.Evaluate n c) (frame.Test n t c b ∷ fs)) m is (moves (doing.Give Next) (frame.Again n (suc t) c b ∷ fs) m tt tt q)).0 _ _ refl))
        (λ v o h. turn_comes (holds v) t c b (again w n inner t c b) fs o next (moves (doing.Give (Returned v)) (frame.Test n t c b ∷ fs) o tt tt h))
    again_by false t c b fs m is next q = q

    again_comes : (t : ℕ) (c : Expr) (b : List Stmt) (fs : List Frame) (m : Machine) → Q (left (doing.Give Next) (frame.Again n t c b ∷ fs)) m
        → After same (again w n inner t c b m).0 (again w n inner t c b m).1 fs
    unfolding again
    again_comes zero c b fs m q = q
    again_comes (suc t) c b fs m q = again_by (nat_lt m.steps STEP_LIMIT) t c b fs m refl (again_comes t c b fs) q

    effect_comes : (s : Stmt-F Stmt) (v : Value) (fs : List Frame) (m : Machine) → Comes (move w (doing.Give (Returned v)) (waiting_frame w.schema.classes n s ∷ fs) m)
        → After same (effect w n inner s v m).0 (effect w n inner s v m).1 fs
    effect_comes (Stmt-F.Var t name line e) v fs m h = h.0 _ _ refl
    effect_comes (Stmt-F.Assign name line e) v fs m h = h.0 _ _ refl
    effect_comes (Stmt-F.FieldAssign field line e) v fs m h = h.0 _ _ refl
    effect_comes (Stmt-F.Return e) v fs m h = h.0 _ _ refl
    effect_comes (Stmt-F.If c b) v fs m h = if_comes (holds v) b fs m h
    effect_comes (Stmt-F.IfElse c b d) v fs m h = either_comes (holds v) b d fs m h
    effect_comes (Stmt-F.While c b) v fs m h = turn_comes (holds v) 100000 c b (again w n inner 100000 c b) fs m (again_comes 100000 c b fs) h
    effect_comes (Stmt-F.Print e) v fs m h = h.0 _ _ refl
    effect_comes (Stmt-F.Evaluate e) v fs m h = h.0 _ _ refl

    statement_by : (b : Bool) (s : Stmt) (fs : List Frame) (m : Machine) → nat_lt m.steps STEP_LIMIT ≡ b → Q (left (doing.Execute (suc n) s) fs) m
        → let p = cond b (statement w n inner (out-Stmt s) (stepped m)) (Err (Later (doing.Execute (suc n) s) []), m) in After same p.0 p.1 fs
    statement_by false s fs m below q = q
    statement_by true s fs m below q =
        let o : Stmt-F Stmt = out-Stmt s in
        let k : Frame = waiting_frame w.schema.classes n o in
        let begun : Q (left (doing.Evaluate n (first_part o)) (k ∷ fs)) (stepped m) =
        (stepped_comes (begin w n o fs) m below (moves (doing.Execute (suc n) s) fs m tt tt q)).0 _ _ (ap (λ (a : Action Left). a (stepped m)) (begins_by w n o fs)) in
        parted Returned same (inner.value_of (first_part o) (stepped m)).0 (inner.value_of (first_part o) (stepped m)).1 k (effect w n inner o) fs (values (first_part o) (k ∷ fs) (stepped m) begun)
        (λ v p h. effect_comes o v fs p (moves (doing.Give (Returned v)) (k ∷ fs) p tt tt h))

    statement_comes : Statements (suc n) (record { value_of = value_at w n inner; execute = statement_at w n inner })
    unfolding statement_at
    statement_comes s fs m q = statement_by (nat_lt m.steps STEP_LIMIT) s fs m refl q

  pub record Both (r n : ℕ) : Type 0 where
    pub values : Values n (directly w r n)
    pub statements : Statements n (directly w r n)

  pub both : (r n : ℕ) → Both r n
  unfolding directly
  both zero n = record { values = λ e fs m q. q; statements = λ s fs m q. q }
  both (suc r) zero = record { values = λ e fs m q. q; statements = λ s fs m q. q }
  both (suc r) (suc n) = let inner = both r n in record { values = value_comes n (directly w r n) inner.values inner.statements; statements = statement_comes n (directly w r n) inner.values inner.statements }

-- ---- runs

module _ (s : Schema) (f : Oref → Option Object) (tx : List Stmt) (names : List Oref) (count : ℕ) (ns : NameSupply) where
  abbrev here : Left → Machine → Type 0
  here l m = Runs s f tx names count l (named ns m)

  abbrev failed : Fault → Machine → Type 0
  failed e m = outcome_of s f tx names ≡ (Err (stop.Fault e), named ns m)

  runs_follow : Follows (over s f) here
  runs_follow d fs l m n undone quiet q is =
      let named_too : move (over s f) d fs (named ns m) ≡ (Ok l, named ns n) = named_is ns (over s f) d fs m n (Ok l) quiet is in
      let falls : due (named ns n) l < due (named ns m) (left d fs) = falls_by (over s f) (left d fs) l (named ns m) (named ns n) undone named_too in
      record {
        reaches = reaching.goes_on s f (whole tx) (left d fs) l (begun names None) (named ns m) (named ns n) q.reaches named_too;
        few = let h = q.few in omega (arith, falls, h);
      }

  runs_fail : Fails (over s f) here failed
  runs_fail d fs m n e quiet q is = stops s f tx names count d fs (named ns m) (named ns n) (stop.Fault e) q (named_is ns (over s f) d fs m n (Err (stop.Fault e)) quiet is)

  abbrev Then : Result Flow Unwound → Machine → List Frame → Type 0
  Then r o fs = After (over s f) here failed runs_follow runs_fail (λ (g : Flow). g) r o fs

  as_flow : (r : Result Value Unwound) (o : Machine) (fs : List Frame) → After (over s f) here failed runs_follow runs_fail Returned r o fs → Then (returned r) o fs
  as_flow (Ok v) o fs h = h
  as_flow (Err (Later d gs)) o fs h = h
  as_flow (Err (Faulted e)) o fs h = h
  as_flow (Err NoMemory) o fs h = h

  by_code : {A : Type 0} (flow : A → Flow) (r : Result A Unwound) (o : Machine) (p : Outcome A) (fs : List Frame) → Directs r o p
      → After (over s f) here failed runs_follow runs_fail flow p.0 p.1 fs → After (over s f) here failed runs_follow runs_fail flow r o fs
  by_code {A} flow (Ok a) o p fs is h = subst (λ (q : Outcome A). After (over s f) here failed runs_follow runs_fail flow q.0 q.1 fs) is h
  by_code {A} flow (Err (Later d gs)) o p fs is h = subst (λ (q : Outcome A). After (over s f) here failed runs_follow runs_fail flow q.0 q.1 fs) is h
  by_code {A} flow (Err (Faulted e)) o p fs is h = subst (λ (q : Outcome A). After (over s f) here failed runs_follow runs_fail flow q.0 q.1 fs) is h
  by_code flow (Err NoMemory) o p fs is h = tt

  resumes : (r : Result Flow Unwound) (o : Machine) (fs gs : List Frame) (d : Result Doing Halt) → Then r o fs → Resumes r fs d gs → Went s f tx names count d gs (named ns o)
  resumes (Ok g) o fs gs (Ok d) h is = subst (λ (e : Doing). here (left e gs) o) (sym is.0) (subst (λ (hs : List Frame). here (left (doing.Give g) hs) o) (sym is.1) h)
  resumes (Ok g) o fs gs (Err (Stopped t)) h is = absurd is
  resumes (Ok g) o fs gs (Err halt.NoMemory) h is = tt
  resumes (Err (Later e hs)) o fs gs (Ok d) h is = subst (λ (k : Doing). here (left k gs) o) (sym is.0) (subst (λ (js : List Frame). here (left e js) o) (sym is.1) h)
  resumes (Err (Later e hs)) o fs gs (Err (Stopped t)) h is = absurd is
  resumes (Err (Later e hs)) o fs gs (Err halt.NoMemory) h is = tt
  resumes (Err (Faulted e)) o fs gs (Ok d) h is = absurd is
  resumes (Err (Faulted e)) o fs gs (Err (Stopped t)) h is = h ∙ ap (λ (u : Stop). (Err u, named ns o)) (sym is)
  resumes (Err (Faulted e)) o fs gs (Err halt.NoMemory) h is = tt
  resumes (Err NoMemory) o fs gs (Ok d) h is = absurd is
  resumes (Err NoMemory) o fs gs (Err (Stopped t)) h is = absurd is
  resumes (Err NoMemory) o fs gs (Err halt.NoMemory) h is = tt

  -- an expression was evaluated so
  pub value_goes : (room n : ℕ) (e : Expr) (fs gs : List Frame) (m o : Machine) (r : Result Value Unwound) (d : Result Doing Halt) → Directs r o ((directly (over s f) room n).value_of e m)
      → Resumes (returned r) fs d gs → Runs s f tx names count (left (doing.Evaluate n e) fs) (named ns m) → Went s f tx names count d gs (named ns o)
  value_goes room n e fs gs m o r d is next q =
      resumes (returned r) o fs gs d
      (as_flow r o fs (by_code Returned r o ((directly (over s f) room n).value_of e m) fs is ((both (over s f) here failed runs_follow runs_fail room n).values e fs m q))) next

  -- a statement was executed so
  pub statement_goes : (room n : ℕ) (x : Stmt) (fs gs : List Frame) (m o : Machine) (r : Result Flow Unwound) (d : Result Doing Halt) → Directs r o ((directly (over s f) room n).execute x m)
      → Resumes r fs d gs → Runs s f tx names count (left (doing.Execute n x) fs) (named ns m) → Went s f tx names count d gs (named ns o)
  statement_goes room n x fs gs m o r d is next q =
      resumes r o fs gs d (by_code (λ (g : Flow). g) r o ((directly (over s f) room n).execute x m) fs is ((both (over s f) here failed runs_follow runs_fail room n).statements x fs m q)) next

  -- a call was entered so
  pub call_goes : (room n c : ℕ) (x : Oref) (name : List ℕ) (vs : List Value) (fs gs : List Frame) (m o : Machine) (r : Result Value Unwound) (d : Result Doing Halt)
      → Directs r o (call (over s f) n (directly (over s f) room n) c x name vs m)
      → Resumes (returned r) fs d gs → Runs s f tx names count (left (doing.Enter n c x name vs) fs) (named ns m) → Went s f tx names count d gs (named ns o)
  call_goes room n c x name vs fs gs m o r d is next q =
      let inner : Both (over s f) here failed runs_follow runs_fail room n = both (over s f) here failed runs_follow runs_fail room n in
      resumes (returned r) o fs gs d
      (as_flow r o fs (by_code Returned r o (call (over s f) n (directly (over s f) room n) c x name vs m) fs is
      (call_comes (over s f) here failed runs_follow runs_fail n (directly (over s f) room n) inner.values inner.statements c x name vs fs m q))) next

  -- what was left of a block was executed so, where nothing was returned
  pub rest_goes : (room n : ℕ) (ss : List Stmt) (g : Flow) (fs gs : List Frame) (m o : Machine) (r : Result Flow Unwound) (d : Result Doing Halt)
      → Directs r o (unless g (in_order (over s f) n (directly (over s f) room n) ss) m)
      → Resumes r fs d gs → Runs s f tx names count (left (doing.Give g) (frame.Rest n ss ∷ fs)) (named ns m) → Went s f tx names count d gs (named ns o)
  rest_goes room n ss g fs gs m o r d is next q =
      let inner : Both (over s f) here failed runs_follow runs_fail room n = both (over s f) here failed runs_follow runs_fail room n in
      resumes r o fs gs d (by_code (λ (h : Flow). h) r o (unless g (in_order (over s f) n (directly (over s f) room n) ss) m) fs is
      (rest_comes (over s f) here failed runs_follow runs_fail n (directly (over s f) room n) inner.values inner.statements ss fs
      (in_order_comes (over s f) here failed runs_follow runs_fail n (directly (over s f) room n) inner.values inner.statements ss fs) g m q)) next

  -- a right operand was evaluated so
  pub right_goes : (room n : ℕ) (e : Operator) (x : Expr) (g : Flow) (fs gs : List Frame) (m o : Machine) (r : Result Value Unwound) (d : Result Doing Halt)
      → Directs r o (combine (over s f) n (directly (over s f) room n) e (small.given g) x m)
      → Resumes (returned r) fs d gs → Runs s f tx names count (left (doing.Give g) (frame.Right n e x ∷ fs)) (named ns m) → Went s f tx names count d gs (named ns o)
  right_goes room n e x g fs gs m o r d is next q =
      let inner : Both (over s f) here failed runs_follow runs_fail room n = both (over s f) here failed runs_follow runs_fail room n in
      resumes (returned r) o fs gs d
      (as_flow r o fs (by_code Returned r o (combine (over s f) n (directly (over s f) room n) e (small.given g) x m) fs is
      (right_comes (over s f) here failed runs_follow runs_fail n (directly (over s f) room n) inner.values inner.statements e x g fs m q))) next

  -- a small step was taken
  pub move_goes : (k : Doing) (fs gs : List Frame) (m o : Machine) (d : Result Doing Halt) → IsOpen k fs → IsNoCreation k → Moves d gs m o (move (over s f) k fs)
      → Runs s f tx names count (left k fs) (named ns m) → Went s f tx names count d gs (named ns o)
  move_goes k fs gs m o (Ok e) undone quiet is q = runs_follow k fs (left e gs) m o undone quiet q is
  move_goes k fs gs m o (Err (Stopped (stop.Fault e))) undone quiet is q = runs_fail k fs m o e quiet q is
  move_goes k fs gs m o (Err (Stopped (stop.Need x owners))) undone quiet is q = absurd is
  move_goes k fs gs m o (Err (Stopped (stop.NeedName repo))) undone quiet is q = absurd is
  move_goes k fs gs m o (Err halt.NoMemory) undone quiet is q = tt
