-- What the functions that evaluate by plain recursion answer, where a part is done or left.
use Rattle.std.proofs.Common.{◌≡◌, ℕ, ◌+◌, ◌-◌, true, List, [], ◌∷◌, ◌++◌, Result, Ok, Err, refl, ap, sym, ◌∙◌, subst, arith}
use Rattle.thor_value.specs.declared.values.Value.{Value}
use Rattle.class_defs.specs.Objects.{named_value, scope_at}
use Rattle.class_defs.specs.Statements.{holds}
use Rattle.class_defs.specs.Steps.{World}
use Rattle.class_defs.specs.Types.{type_of}
use Rattle.class_defs.specs.declared.expressions.Expr.{Expr}
use Rattle.class_defs.specs.declared.expressions.Expr.TheOpen.{Expr-F}
use Rattle.class_defs.specs.declared.expressions.Name.{Name}
use Rattle.class_defs.specs.declared.machine.Flow.{Flow}
use Rattle.class_defs.specs.declared.machine.Flow.TheVariants.{Next}
use Rattle.class_defs.specs.declared.machine.Machine.{Machine}
use Rattle.class_defs.specs.declared.statements.Stmt.{Stmt}
use Rattle.class_defs.specs.declared.statements.Stmt.TheOpen.{Stmt-F}
use Rattle.class_defs.specs.declared.store.Schema.{Schema}
use Rattle.class_defs.specs.declared.types.ExprType.{ExprType}
use Rattle.client_cache.specs.Copies.{Contents}
use Rattle.lang_small_steps.specs.declared.frames.Frame.{Frame}
use Rattle.lang_small_steps.specs.declared.frames.Frame.TheVariants as frame
use Rattle.paused_eval.proofs.Directly.{body, left_waiting, next_turn, same_world, test_left}
use Rattle.paused_eval.specs.Begins.{first_part, waiting_frame}
use Rattle.paused_eval.specs.Copies.{Keeps, state}
use Rattle.paused_eval.specs.Direct.{Direct, Directly, Directs, Outcome, Waits, on, goes_on_after, called, collect, directly, effect, node, statement, tests, turn}
use Rattle.paused_eval.specs.declared.unwound.Unwound.{Unwound}
use Rattle.paused_eval.specs.declared.unwound.Unwound.TheVariants.{Faulted, Later, NoMemory}

-- ---- what is read of the state isn't in the objects written

type_there : (s : Schema) (p : Machine) (c : Contents) (e : Expr) → type_of (scope_at s p) e ≡ type_of (scope_at s (state p c)) e
unfolding scope_at
type_there s p c e = refl

pub kind_there : (s : Schema) (p : Machine) (c : Contents) (t : ExprType) (e : Expr) → t ≡ type_of (scope_at s p) e → t ≡ type_of (scope_at s (state p c)) e
kind_there s p c t e is = is ∙ type_there s p c e

named_there : (s : Schema) (p : Machine) (c : Contents) (name : List ℕ) → named_value s p name ≡ named_value s (state p c) name
unfolding named_value
named_there s p c name = refl

pub value_there : (s : Schema) (p : Machine) (c : Contents) (v : Value) (x y : List ℕ) → v ≡ named_value s p y → y ≡ x → v ≡ named_value s (state p c) x
value_there s p c v x y is same = is ∙ ap (named_value s p) same ∙ named_there s p c x

pub node_variable : (w : World) (n : ℕ) (i : Directly) (x : Expr-F Expr) (name : Name) (m : Machine) (v : Value) → x ≡ Expr-F.Variable name
    → v ≡ named_value w.schema m name.text → node w n i x m ≡ (Ok v, m)
node_variable w n i x name m v e h = ap (λ (k : Expr-F Expr). node w n i k m) e ∙ ap (λ (u : Value). (Ok u, m)) (sym h)

-- ---- parts

directs_is : {A : Type 0} (r : Result A Unwound) (n : Machine) (o p : Outcome A) → p ≡ o → Directs r n o → Directs r n p
directs_is {A} r n o p e h = subst (λ (q : Outcome A). Directs r n q) (sym e) h

other_world : {X : Type 0} (s : Schema) (c d : Contents) (k : World → X) → Keeps c d → k (on s d) ≡ k (on s c)
other_world s c d k h = ap k (same_world s c d h)

-- behind a part that is done
then_does : {A B : Type 0} (s : Schema) (c d : Contents) (p : Outcome A) (a : A) (m n : Machine) (r : Result B Unwound) (f : Frame) (k : World → A → Direct B) → Keeps c d
    → p ≡ (Ok a, m) → Directs r n (k (on s d) a m) → Directs r n (goes_on_after p.0 p.1 f (k (on s c)))
then_does {A} s c d p a m n r f k h e i =
    subst (λ (q : Outcome A). Directs r n (goes_on_after q.0 q.1 f (k (on s c)))) (sym e) (subst (λ (w : World). Directs r n (k w a m)) (same_world s c d h) i)

pub called_does : (s : Schema) (c d : Contents) (room n : ℕ) (receiver : Expr) (name : List ℕ) (es rest : List Expr) (t : ExprType) (v : Value) (none : List Value) (m o p : Machine) (r : Result Value Unwound)
    → Keeps c d → t ≡ type_of (scope_at s m) receiver → none ≡ [] → rest ≡ es → (directly (on s c) room n).value_of receiver m ≡ (Ok v, o)
    → Directs r p (collect (on s d) n (directly (on s d) room n) t v name none rest o) → Directs r p (called (on s c) n (directly (on s c) room n) receiver name es m)
called_does s c d room n receiver name es rest t v none m o p r h at empty all is i =
    let k : ExprType = type_of (scope_at s m) receiver in
    then_does s c d ((directly (on s c) room n).value_of receiver m) v o p r (frame.Callee n k name es) (λ w x. collect w n (directly w room n) k x name [] es) h is
    (subst (λ (x : ExprType). Directs r p (collect (on s d) n (directly (on s d) room n) x v name [] es o)) at
    (subst (λ (vs : List Value). Directs r p (collect (on s d) n (directly (on s d) room n) t v name vs es o)) empty
    (subst (λ (xs : List Expr). Directs r p (collect (on s d) n (directly (on s d) room n) t v name none xs o)) all i)))

pub called_left : (w : World) (room n : ℕ) (receiver : Expr) (name same : List ℕ) (es rest : List Expr) (t : ExprType) (u v : Unwound) (m o : Machine)
    → t ≡ type_of (scope_at w.schema m) receiver → same ≡ name → rest ≡ es → Directs {A = Value} (Err u) o ((directly w room n).value_of receiver m)
    → Waits (frame.Callee n t same rest) u v → Directs {A = Value} (Err v) o (called w n (directly w room n) receiver name es m)
called_left w room n receiver name same es rest t u v m o at is all h i =
    let k : ExprType = type_of (scope_at w.schema m) receiver in
    let f : frame.Callee n t same rest ≡ frame.Callee n k name es = cc in
    left_waiting ((directly w room n).value_of receiver m) u v (frame.Callee n k name es) (λ x. collect w n (directly w room n) k x name [] es) o h (subst (λ (g : Frame). Waits g u v) f i)

pub collect_left : (s : Schema) (c d : Contents) (room n : ℕ) (t : ExprType) (r : Value) (name same : List ℕ) (vs : List Value) (xs : List Expr) (e : Expr) (es : List Expr) (u v : Unwound) (m o : Machine) (q : Outcome Value)
    → Keeps c d → q ≡ collect (on s c) n (directly (on s c) room n) t r name vs xs m → xs ≡ e ∷ es → same ≡ name → Directs {A = Value} (Err u) o ((directly (on s d) room n).value_of e m)
    → Waits (frame.Arguments n t r same vs es) u v → Directs {A = Value} (Err v) o q
collect_left s c d room n t r name same vs xs e es u v m o q h from first is does i =
    let w : World = on s c in
    let p : Outcome Value = (directly w room n).value_of e m in
    let there : Directs {A = Value} (Err u) o p = subst (λ (k : Outcome Value). Directs {A = Value} (Err u) o k) (other_world s c d (λ (k : World). (directly k room n).value_of e m) h) does in
    let waits : Waits (frame.Arguments n t r name vs es) u v = subst (λ (k : List ℕ). Waits (frame.Arguments n t r k vs es) u v) is i in
    directs_is (Err v) o (collect w n (directly w room n) t r name vs (e ∷ es) m) q (from ∙ ap (λ (k : List Expr). collect w n (directly w room n) t r name vs k m) first)
    (left_waiting p u v (frame.Arguments n t r name vs es) (λ x. collect w n (directly w room n) t r name (vs ++ x ∷ []) es) o there waits)

pub statement_does : (s : Schema) (c d : Contents) (room n : ℕ) (x : Stmt-F Stmt) (e : Expr) (v : Value) (m o p : Machine) (r : Result Flow Unwound) → Keeps c d → e ≡ first_part x
    → (directly (on s c) room n).value_of e m ≡ (Ok v, o) → Directs r p (effect (on s d) n (directly (on s d) room n) x v o) → Directs r p (statement (on s c) n (directly (on s c) room n) x m)
statement_does s c d room n x e v m o p r h first is i =
    then_does s c d ((directly (on s c) room n).value_of (first_part x) m) v o p r (waiting_frame s.classes n x) (λ w y. effect w n (directly w room n) x y) h
    (sym (ap (λ (k : Expr). (directly (on s c) room n).value_of k m) first) ∙ is) i

-- ---- turns

pub one_less : (t k : ℕ) → t - k - 1 ≡ t - (k + 1)
one_less t k = omega arith

module _ (s : Schema) (c d e : Contents) (room n t : ℕ) (condition : Expr) (b : List Stmt) (v : Value) (m o p : Machine) (q : Outcome Flow) (g : Flow)
    (kept : Keeps c d) (later : Keeps d e) (on_turn : holds v ≡ true) (from : q ≡ turn (on s c) n (directly (on s c) room n) t condition b v m)
    (done : body (on s d) n (directly (on s d) room n) condition b t m ≡ (Ok g, o)) (next : g ≡ Next) where
  done_here : body (on s c) n (directly (on s c) room n) condition b t m ≡ (Ok Next, o)
  done_here = sym (other_world s c d (λ (w : World). body w n (directly w room n) condition b t m) kept) ∙ done ∙ ap (λ (k : Flow). (Ok k, o)) next

  tests_here : tests (on s e) n (directly (on s e) room n) t condition b o ≡ tests (on s c) n (directly (on s c) room n) t condition b o
  tests_here = other_world s c e (λ (w : World). tests w n (directly w room n) t condition b o) (λ x. later x ∙ kept x)

  pub turn_left : (u : Unwound) → Directs {A = Value} (Err u) p (tests (on s e) n (directly (on s e) room n) t condition b o) → Directs {A = Flow} (Err u) p q
  turn_left (Later k fs) h = from ∙ test_left (on s c) n (directly (on s c) room n) condition b t v m o p (Later k fs) on_turn done_here (sym tests_here ∙ h)
  turn_left (Faulted k) h = from ∙ test_left (on s c) n (directly (on s c) room n) condition b t v m o p (Faulted k) on_turn done_here (sym tests_here ∙ h)
  turn_left NoMemory h = tt

  pub turned : (x : Value) → tests (on s e) n (directly (on s e) room n) t condition b o ≡ (Ok x, p) → q ≡ turn (on s c) n (directly (on s c) room n) (t - 1) condition b x p
  turned x h = from ∙ next_turn (on s c) n (directly (on s c) room n) condition b t v x m o p on_turn done_here (sym tests_here ∙ h)
