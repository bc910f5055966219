-- A small step leaves fewer small steps to do.
use Rattle.std.proofs.Common.{◌≡◌, ℕ, zero, suc, Bool, true, false, cond, List, [], ◌∷◌, ◌++◌, length, Option, Some, None, Result, Ok, Err, refl, ◌∙◌, subst, ◌<◌, ◌≤◌, ◌+◌, ◌-◌, ◌*◌, arith}
use Rattle.std.proofs.lemmas.Bool.{ltb-true}
use Rattle.std.specs.Prelude.{nat_lt, ◌==◌, ◌||◌, if◌then◌else◌, find, is_some}
use Rattle.lang_small_steps.specs.Due.{due, sizes, size_of, IsOpen}
use Rattle.class_defs.specs.declared.machine.NameSupply.{NameSupply}
use Rattle.thor_value.specs.FiniteMap.{has, len}
use Rattle.thor_value.specs.Names.{same_oref}
use Rattle.thor_value.specs.declared.names.Oref.{Oref}
use Rattle.thor_value.specs.declared.values.Value.{Value}
use Rattle.thor_value.specs.declared.values.Value.TheVariants as value
use Rattle.thor_value.specs.declared.values.Fault.TheVariants as fault
use Rattle.class_defs.specs.declared.limits.TheConstants.{CREATE_LIMIT, READ_LIMIT, STEP_LIMIT}
use Rattle.class_defs.specs.Calls.{owners_at}
use Rattle.class_defs.specs.Objects.{make, create_in, take_name, repo_for, assign_receiver, create, touch, seen, with_field, class_found, assign_field}
use Rattle.class_defs.specs.Statements.{holds}
use Rattle.class_defs.specs.Steps.{World, Action, after, ◌>>=◌, ◌>>◌, step}
use Rattle.class_defs.specs.Types.{class_named, field_named, method_of}
use Rattle.lang_small_steps.specs.Resume.{Left, given, taken, give, start, begin, open_block, open_body, open_as, ready, collect, go_on, turned, pop, move}
use Rattle.class_defs.specs.declared.classes.Method.{Method}
use Rattle.class_defs.specs.declared.expressions.Expr.{Expr, out-Expr}
use Rattle.class_defs.specs.declared.expressions.Expr.TheOpen.{Expr-F}
use Rattle.lang_small_steps.specs.declared.frames.Doing.{Doing}
use Rattle.lang_small_steps.specs.declared.frames.Doing.TheVariants as doing
use Rattle.lang_small_steps.specs.declared.frames.Frame.{Frame}
use Rattle.lang_small_steps.specs.declared.frames.Frame.TheVariants as frame
use Rattle.class_defs.specs.declared.limits.TheConstants.{DEPTH_LIMIT}
use Rattle.class_defs.specs.declared.machine.Flow.{Flow}
use Rattle.class_defs.specs.declared.machine.Flow.TheVariants.{Next, Returned}
use Rattle.class_defs.specs.declared.machine.Machine.{Machine}
use Rattle.class_defs.specs.declared.machine.Receiver.{Receiver}
use Rattle.class_defs.specs.declared.machine.Stop.{Stop}
use Rattle.class_defs.specs.declared.machine.Stop.TheVariants as stop
use Rattle.class_defs.specs.declared.statements.Stmt.{Stmt, out-Stmt}
use Rattle.class_defs.specs.declared.statements.Stmt.TheOpen.{Stmt-F}
use Rattle.class_defs.specs.declared.store.Object.{Object}
use Rattle.class_defs.specs.declared.types.ExprType.{ExprType}
use Rattle.class_defs.specs.declared.types.ExprType.TheVariants as type

abbrev Below : ℕ → Result Left Stop → Machine → Type 0
Below k (Ok l) n = due n l < k
Below k (Err s) n = Unit {0}

-- an action leaves less to do than k, from m
abbrev Falls : ℕ → Machine → Action Left → Type 0
Falls k m a = Below k (a m).0 (a m).1

step_falls : (b : Bool) (k : ℕ) (m : Machine) (a : Action Left) (l : Left) → nat_lt m.steps STEP_LIMIT ≡ b
    → a (record m { steps = m.steps + 1 }) ≡ (Ok l, record m { steps = m.steps + 1 }) → size_of l.doing + sizes l.stack < k + 6 → Falls (6 * (100000 - m.steps) + k) m (step >> a)
unfolding step due
step_falls true k m a l is e f = rw (is, e) (let lt : m.steps < 100000 = ltb-true m.steps 100000 is in omega (arith, lt, f))
step_falls false k m a l is e f = rw is tt

-- a change of the state that takes no step
moved : (k : ℕ) (m n : Machine) (l : Left) → n.steps ≡ m.steps → size_of l.doing + sizes l.stack < k → Below (6 * (100000 - m.steps) + k) (Ok l) n
unfolding due
moved k m n l s f = rw s (omega (arith, f))

start_falls : (w : World) (n : ℕ) (o : Expr-F Expr) (fs : List Frame) (m : Machine) → Falls (6 * (100000 - m.steps) + (0 + sizes fs)) m (step >> start w n o fs)
start_falls w n (Expr-F.Literal v line) fs m = step_falls _ (0 + sizes fs) m _ _ refl refl (omega arith)
start_falls w n (Expr-F.Null line) fs m = step_falls _ (0 + sizes fs) m _ _ refl refl (omega arith)
start_falls w n (Expr-F.This line) fs m = step_falls _ (0 + sizes fs) m _ _ refl refl (omega arith)
start_falls w n (Expr-F.Field name) fs m = step_falls _ (0 + sizes fs) m _ _ refl refl (omega arith)
start_falls w n (Expr-F.Variable name) fs m = step_falls _ (0 + sizes fs) m _ _ refl refl (omega arith)
start_falls w n (Expr-F.New class at) fs m = step_falls _ (0 + sizes fs) m _ _ refl refl (omega arith)
start_falls w n (Expr-F.Parens inner line) fs m = step_falls _ (0 + sizes fs) m _ _ refl refl (omega arith)
start_falls w n (Expr-F.Negate operand line) fs m = step_falls _ (0 + sizes fs) m _ _ refl refl (omega arith)
start_falls w n (Expr-F.Binary o l r line) fs m = step_falls _ (0 + sizes fs) m _ _ refl refl (omega arith)
start_falls w n (Expr-F.Call receiver method arguments) fs m = step_falls _ (0 + sizes fs) m _ _ refl refl (omega arith)

begin_falls : (w : World) (n : ℕ) (o : Stmt-F Stmt) (fs : List Frame) (m : Machine) → Falls (6 * (100000 - m.steps) + (0 + sizes fs)) m (step >> begin w n o fs)
begin_falls w n (Stmt-F.Var t name line e) fs m = step_falls _ (0 + sizes fs) m _ _ refl refl (omega arith)
begin_falls w n (Stmt-F.Assign name line e) fs m = step_falls _ (0 + sizes fs) m _ _ refl refl (omega arith)
begin_falls w n (Stmt-F.FieldAssign field line e) fs m = step_falls _ (0 + sizes fs) m _ _ refl refl (omega arith)
begin_falls w n (Stmt-F.Return e) fs m = step_falls _ (0 + sizes fs) m _ _ refl refl (omega arith)
begin_falls w n (Stmt-F.If c b) fs m = step_falls _ (0 + sizes fs) m _ _ refl refl (omega arith)
begin_falls w n (Stmt-F.IfElse c b d) fs m = step_falls _ (0 + sizes fs) m _ _ refl refl (omega arith)
begin_falls w n (Stmt-F.While c b) fs m = step_falls _ (0 + sizes fs) m _ _ refl refl (omega arith)
begin_falls w n (Stmt-F.Print e) fs m = step_falls _ (0 + sizes fs) m _ _ refl refl (omega arith)
begin_falls w n (Stmt-F.Evaluate e) fs m = step_falls _ (0 + sizes fs) m _ _ refl refl (omega arith)

open_falls : (w : World) (n : ℕ) (this : Receiver) (o : Option Method) (vs : List Value) (fs : List Frame) (m : Machine) → Falls (6 * (100000 - m.steps) + (5 + sizes fs)) m (open_body w n this o vs fs)
open_falls w n this None vs fs m = tt
open_falls w n this (Some method) vs fs m = moved _ m _ _ refl (omega arith)

as_falls : (b : Bool) (w : World) (n : ℕ) (this : Receiver) (o : Option Method) (vs : List Value) (fs : List Frame) (m : Machine)
    → Falls (6 * (100000 - m.steps) + (5 + sizes fs)) m (if b then open_body w n this o vs fs else (λ n. (Err (stop.Fault fault.NullCall), n)))
as_falls true w n this o vs fs m = open_falls w n this o vs fs m
as_falls false w n this o vs fs m = tt

-- what is behind an action that takes no step
later : {A : Type 0} (k : ℕ) (m n : Machine) (r : Result A Stop) (a : A → Action Left) → n.steps ≡ m.steps
    → ((x : A) (o : Machine) → Falls (6 * (100000 - o.steps) + k) o (a x)) → Below (6 * (100000 - m.steps) + k) (after r n a).0 (after r n a).1
later k m n (Ok x) a s h = subst (λ (i : ℕ). Below (6 * (100000 - i) + k) (a x n).0 (a x n).1) s (h x n)
later k m n (Err e) a s h = tt

same_if : {A : Type 0} (b : Bool) (p q : Result A Stop × Machine) (i : ℕ) → p.1.steps ≡ i → q.1.steps ≡ i → (cond b p q).1.steps ≡ i
same_if true p q i e f = e
same_if false p q i e f = f

found_steps : (o : Option Object) (x : Oref) (owners : List Oref) (m : Machine) → (class_found o x owners m).1.steps ≡ m.steps
found_steps (Some o) x owners m = refl
found_steps None x owners m = refl

newly_steps : (o : Option Object) (x : Oref) (owners : List Oref) (m : Machine) (k : ℕ → Action ℕ) → ((c : ℕ) (n : Machine) → (k c n).1.steps ≡ n.steps) → ((class_found o x owners >>= k) m).1.steps ≡ m.steps
newly_steps (Some o) x owners m k h = h o.class m
newly_steps None x owners m k h = refl

touch_steps : (w : World) (owners : List Oref) (x : Oref) (m : Machine) → (touch w owners x m).1.steps ≡ m.steps
unfolding touch
touch_steps w owners x m = same_if (has m.reads x || is_some (find (same_oref x) m.created)) _ _ m.steps (found_steps (seen w m x) x owners m)
    (same_if (nat_lt (len m.reads) READ_LIMIT) _ _ m.steps (newly_steps (seen w m x) x owners m _ (λ c n. refl)) refl)

make_steps : (w : World) (c repo : ℕ) (o : Option (Oref × NameSupply)) (m : Machine) → (make w c repo o m).1.steps ≡ m.steps
make_steps w c repo None m = refl
make_steps w c repo (Some n) m = refl

create_in_steps : (w : World) (repo : ℕ) (c : Option ℕ) (m : Machine) → (create_in w repo c m).1.steps ≡ m.steps
create_in_steps w repo None m = refl
create_in_steps w repo (Some c) m = same_if (nat_lt (length m.created) CREATE_LIMIT) _ _ m.steps (make_steps w c repo (take_name repo m.names) m) refl

with_steps : (o : Option Object) (i : Option ℕ) (v : Value) (x : Oref) (m : Machine) → (with_field o i v x m).steps ≡ m.steps
with_steps (Some o) (Some i) v x m = refl
with_steps (Some o) None v x m = refl
with_steps None i v x m = refl

assign_steps : (w : World) (t : Option Receiver) (name : List ℕ) (v : Value) (m : Machine) → (assign_receiver w t name v m).steps ≡ m.steps
assign_steps w None name v m = refl
assign_steps w (Some r) name v m = with_steps (seen w m r.oref) (field_named w.schema.classes r.class name) v r.oref m

enters_falls : (b : Bool) (w : World) (n c : ℕ) (x : Oref) (owners : List Oref) (o : Option Method) (vs : List Value) (fs : List Frame) (m : Machine)
    → let r : Result Left Stop × Machine = cond b ((touch w owners x >>= (λ found. open_as w n (record { oref = x; class = c; owners = owners }) found o vs fs)) m) (Err (stop.Fault fault.Depth), m) in
    Below (6 * (100000 - m.steps) + (5 + sizes fs)) r.0 r.1
enters_falls true w n c x owners o vs fs m = later (5 + sizes fs) m (touch w owners x m).1 (touch w owners x m).0 _ (touch_steps w owners x m)
    (λ found p. as_falls (found == c) w n (record { oref = x; class = c; owners = owners }) o vs fs p)
enters_falls false w n c x owners o vs fs m = tt

ready_falls : (n : ℕ) (t : ExprType) (r : Value) (name : List ℕ) (vs : List Value) (fs : List Frame) (m : Machine) → Falls (6 * (100000 - m.steps) + (1 + (5 + sizes fs))) m (ready n t r name vs fs)
ready_falls n (type.Class c) (value.Ref x) name vs fs m = moved _ m _ _ refl (omega arith)
ready_falls n (type.Class c) value.Null name vs fs m = tt
ready_falls n (type.Class c) (value.Int i) name vs fs m = tt
ready_falls n (type.Class c) (value.Text i) name vs fs m = tt
ready_falls n type.Int r name vs fs m = tt
ready_falls n type.Text r name vs fs m = tt
ready_falls n type.Null r name vs fs m = tt
ready_falls n type.Untold r name vs fs m = tt

collect_falls : (n : ℕ) (t : ExprType) (r : Value) (name : List ℕ) (vs : List Value) (es : List Expr) (fs : List Frame) (m : Machine) → Falls (6 * (100000 - m.steps) + (1 + (5 + sizes fs))) m (collect n t r name vs es fs)
collect_falls n t r name vs [] fs m = ready_falls n t r name vs fs m
collect_falls n t r name vs (e ∷ es) fs m = moved _ m _ _ refl (omega arith)

go_on_falls : (n : ℕ) (ss : List Stmt) (v : Flow) (fs : List Frame) (m : Machine) → Falls (6 * (100000 - m.steps) + (1 + (1 + sizes fs))) m (go_on n ss v fs)
go_on_falls n ss (Returned v) fs m = moved _ m _ _ refl (omega arith)
go_on_falls n [] Next fs m = moved _ m _ _ refl (omega arith)
go_on_falls n (x ∷ ss) Next fs m = moved _ m _ _ refl (omega arith)

turned_falls : (n t : ℕ) (c : Expr) (b : List Stmt) (v : Flow) (fs : List Frame) (m : Machine) → Falls (6 * (100000 - m.steps) + (1 + (1 + sizes fs))) m (turned n t c b v fs)
turned_falls n t c b (Returned v) fs m = moved _ m _ _ refl (omega arith)
turned_falls n zero c b Next fs m = tt
turned_falls n (suc t) c b Next fs m = step_falls _ (1 + (1 + sizes fs)) m _ _ refl refl (omega arith)

either_falls : (b : Bool) (k : ℕ) (m : Machine) (p q : Action Left) → Falls k m p → Falls k m q → Falls k m (if b then p else q)
either_falls true k m p q h i = h
either_falls false k m p q h i = i

pop_falls : (w : World) (f : Frame) (v : Flow) (fs : List Frame) (m : Machine) → Falls (6 * (100000 - m.steps) + (1 + sizes (f ∷ fs))) m (pop w f v fs)
unfolding assign_field
pop_falls w frame.Negate v fs m = moved _ m _ _ refl (omega arith)
pop_falls w (frame.Right n o e) v fs m = moved _ m _ _ refl (omega arith)
pop_falls w (frame.Combine o a) v fs m = moved _ m _ _ refl (omega arith)
pop_falls w (frame.Callee n t name es) v fs m = collect_falls n t (given v) name [] es fs m
pop_falls w (frame.Arguments n t r name done es) v fs m = collect_falls n t r name (taken done v) es fs m
pop_falls w (frame.BodyEnd d this ls t) v fs m = moved _ m _ _ refl (omega arith)
pop_falls w (frame.Declare t name) v fs m = moved _ m _ _ refl (omega arith)
pop_falls w (frame.Assign name) v fs m = moved _ m _ _ refl (omega arith)
pop_falls w (frame.FieldAssign name) v fs m = moved _ m (assign_field w name (given v) m) _ (assign_steps w m.this name (given v) m) (omega arith)
pop_falls w frame.Return v fs m = moved _ m _ _ refl (omega arith)
pop_falls w (frame.Branch n b) v fs m = either_falls (holds (given v)) _ m (open_block n b fs) (give Next fs) (moved _ m _ _ refl (omega arith)) (moved _ m _ _ refl (omega arith))
pop_falls w (frame.Branches n b c) v fs m = either_falls (holds (given v)) _ m (open_block n b fs) (open_block n c fs) (moved _ m _ _ refl (omega arith)) (moved _ m _ _ refl (omega arith))
pop_falls w frame.Print v fs m = moved _ m _ _ refl (omega arith)
pop_falls w frame.Discard v fs m = moved _ m _ _ refl (omega arith)
pop_falls w (frame.Rest n ss) v fs m = go_on_falls n ss v fs m
pop_falls w (frame.BlockEnd k) v fs m = moved _ m _ _ refl (omega arith)
pop_falls w (frame.Test n t c b) v fs m = either_falls (holds (given v)) _ m (open_block n b (frame.Again n t c b ∷ fs)) (give Next fs) (moved _ m _ _ refl (omega arith)) (moved _ m _ _ refl (omega arith))
pop_falls w (frame.Again n t c b) v fs m = turned_falls n t c b v fs m

pub move_falls : (w : World) (d : Doing) (fs : List Frame) (m : Machine) → IsOpen d fs → Falls (6 * (100000 - m.steps) + (size_of d + sizes fs)) m (move w d fs)
unfolding create
move_falls w (doing.Evaluate zero e) fs m h = tt
move_falls w (doing.Evaluate (suc n) e) fs m h = start_falls w n (out-Expr e) fs m
move_falls w (doing.Execute zero x) fs m h = tt
move_falls w (doing.Execute (suc n) x) fs m h = begin_falls w n (out-Stmt x) fs m
move_falls w (doing.Create c at) fs m h = later (2 + sizes fs) m (create w c at m).1 (create w c at m).0 (λ v. give (Returned v) fs)
    (create_in_steps w (repo_for m.this at) (class_named w.schema.classes c) m) (λ v o. moved _ o o _ refl (omega arith))
move_falls w (doing.Enter n c x name vs) fs m h = enters_falls (nat_lt m.depth DEPTH_LIMIT) w n c x (owners_at w.schema.classes c x m) (method_of w.schema.classes c name) vs fs m
move_falls w (doing.Give v) [] m h = absurd h
move_falls w (doing.Give v) (f ∷ fs) m h = pop_falls w f v fs m

pub falls_by : (w : World) (a b : Left) (m n : Machine) → IsOpen a.doing a.stack → move w a.doing a.stack m ≡ (Ok b, n) → due n b < due m a
unfolding due
falls_by w a b m n h is =
    let e : Below (due m a) (Ok b) n = subst (λ (p : Result Left Stop × Machine). Below (due m a) p.0 p.1) is (move_falls w a.doing a.stack m h) in e
