-- Small steps go alike over objects among which those that were read are the same; and each `this` that waits is known.
use Rattle.std.proofs.Common.{◌≡◌, ℕ, zero, suc, Bool, true, false, cond, List, [], ◌∷◌, ◌++◌, Option, Some, None, Result, Ok, Err, refl, ap, ◌∙◌, subst}
use Rattle.std.specs.Prelude.{nat_lt, ◌==◌, if◌then◌else◌}
use Rattle.thor_value.specs.declared.names.Oref.{Oref}
use Rattle.thor_value.specs.declared.values.Value.{Value}
use Rattle.thor_value.specs.declared.values.Value.TheVariants as value
use Rattle.thor_value.specs.declared.values.Fault.TheVariants as fault
use Rattle.law_frame.proofs.Alike.{Sound, Grows, grows_no, this_grows, known}
use Rattle.class_defs.proofs.ActionWords.{over}
use Rattle.law_frame.proofs.AlikeSteps.{Went, on, gives, stops, steps}
use Rattle.law_frame.proofs.AlikeObjects.{touch_alike, touch_known, field_value_alike, assign_field_alike, create_alike}
use Rattle.class_defs.specs.Calls.{owners_at}
use Rattle.class_defs.specs.Objects.{touch}
use Rattle.class_defs.specs.Statements.{holds}
use Rattle.class_defs.specs.Steps.{World, Action, after, ◌>>=◌, ◌>>◌}
use Rattle.class_defs.specs.Types.{method_of}
use Rattle.lang_small_steps.specs.Reaches.{Waiting, receiver_in}
use Rattle.lang_small_steps.specs.Resume.{Left, given, taken, give, start, begin, open_block, open_body, open_as, ready, collect, go_on, turned, pop, move, inside, outside}
use Rattle.class_defs.specs.declared.classes.Method.{Method}
use Rattle.class_defs.specs.declared.expressions.Expr.{Expr, out-Expr}
use Rattle.class_defs.specs.declared.expressions.Expr.TheOpen.{Expr-F}
use Rattle.lang_small_steps.specs.declared.frames.Doing.{Doing}
use Rattle.lang_small_steps.specs.declared.frames.Doing.TheVariants as doing
use Rattle.lang_small_steps.specs.declared.frames.Frame.{Frame}
use Rattle.lang_small_steps.specs.declared.frames.Frame.TheVariants as frame
use Rattle.class_defs.specs.declared.limits.TheConstants.{DEPTH_LIMIT}
use Rattle.class_defs.specs.declared.machine.Flow.{Flow}
use Rattle.class_defs.specs.declared.machine.Flow.TheVariants.{Next, Returned}
use Rattle.class_defs.specs.declared.machine.Machine.{Machine}
use Rattle.class_defs.specs.declared.machine.Receiver.{Receiver}
use Rattle.class_defs.specs.declared.machine.Stop.{Stop}
use Rattle.class_defs.specs.declared.machine.Stop.TheVariants as stop
use Rattle.class_defs.specs.declared.statements.Stmt.{Stmt, out-Stmt}
use Rattle.class_defs.specs.declared.statements.Stmt.TheOpen.{Stmt-F}
use Rattle.class_defs.specs.declared.store.Object.{Object}
use Rattle.class_defs.specs.declared.store.Schema.{Schema}
use Rattle.class_defs.specs.declared.types.ExprType.{ExprType}
use Rattle.class_defs.specs.declared.types.ExprType.TheVariants as type

waiting_grows : (m n : Machine) → Grows m n → (fs : List Frame) → Waiting m fs → Waiting n fs
waiting_grows m n g [] h = tt
waiting_grows m n g (f ∷ fs) h = (this_grows m n g (receiver_in f) h.0, waiting_grows m n g fs h.1)

abbrev in_ok : Left → Result Left Stop → Left
in_ok l (Ok k) = k
in_ok l (Err s) = l

module _ (schema : Schema) (f g : Oref → Option Object) where
  pub record Goes (m : Machine) (r : Result Left Stop) (n : Machine) (other : Result Left Stop × Machine) : Type 0 where
    pub went : Went f g Left m r n other
    pub waiting : (l : Left) → r ≡ Ok l → Waiting n l.stack

  -- two actions that go alike from m
  abbrev Go : Machine → Action Left → Action Left → Type 0
  Go m p q = Goes m (p m).0 (p m).1 (q m)

  on_left : {A : Type 0} (m n : Machine) (r : Result A Stop) (other : Result A Stop × Machine) (k l : A → Action Left) → Went f g A m r n other
      → ((a : A) → r ≡ Ok a → Sound n → Grows m n → Go n (k a) (l a)) → Goes m (after r n k).0 (after r n k).1 (after other.0 other.1 l)
  on_left m n (Ok a) other k l h more = record {
    went = on f g m n (Ok a) other k l h (λ b is s grows. (more b is s grows).went);
    waiting = (more a refl (h.sound a refl) h.grows).waiting;
  }
  on_left m n (Err s) other k l h more = record { went = on f g m n (Err s) other k l h (λ b is t grows. (more b is t grows).went); waiting = λ l e. cc }

  -- another state that reads and writes as much
  to : (m n : Machine) (d : Doing) (fs : List Frame) → Grows m n → Sound n → Waiting n fs → Goes m (Ok (record { doing = d; stack = fs })) n (Ok (record { doing = d; stack = fs }), n)
  to m n d fs grows s w = record {
    went = gives f g m n n _ _ grows s (λ agree. refl) (λ agree. refl);
    waiting = λ l e. subst (λ (k : Left). Waiting n k.stack) (ap (in_ok (record { doing = d; stack = fs })) e) w;
  }

  stay : (m : Machine) (d : Doing) (fs : List Frame) → Sound m → Waiting m fs → Goes m (Ok (record { doing = d; stack = fs })) m (Ok (record { doing = d; stack = fs }), m)
  stay m d fs s w = to m m d fs (grows_no m) s w

  ends : (m : Machine) (s : Stop) → Goes m (Err s) m (Err s, m)
  ends m s = record { went = stops f g s m; waiting = λ l e. cc }

  same : (m n : Machine) → n.reads ≡ m.reads → n.writes ≡ m.writes → Grows m n
  same m n r w = record { reads = λ x h. rw r h; writes = λ x h. rw w h }

  abbrev one : World
  one = over schema f

  abbrev other : World
  other = over schema g

  start_goes : (n : ℕ) (o : Expr-F Expr) (fs : List Frame) (m : Machine) → Sound m → Waiting m fs → Go m (start one n o fs) (start other n o fs)
  start_goes n (Expr-F.Literal v line) fs m s w = stay m _ _ s w
  start_goes n (Expr-F.Null line) fs m s w = stay m _ _ s w
  start_goes n (Expr-F.This line) fs m s w = stay m _ _ s w
  start_goes n (Expr-F.Field name) fs m s w = on_left m m _ _ (λ v. give (Returned v) fs) (λ v. give (Returned v) fs) (field_value_alike schema f g name.text m s) (λ v is t grows. stay m _ _ t w)
  start_goes n (Expr-F.Variable name) fs m s w = stay m _ _ s w
  start_goes n (Expr-F.New class at) fs m s w = stay m _ _ s w
  start_goes n (Expr-F.Parens inner line) fs m s w = stay m _ _ s w
  start_goes n (Expr-F.Negate operand line) fs m s w = stay m _ _ s (tt, w)
  start_goes n (Expr-F.Binary o l r line) fs m s w = stay m _ _ s (tt, w)
  start_goes n (Expr-F.Call receiver method arguments) fs m s w = stay m _ _ s (tt, w)

  begin_goes : (n : ℕ) (o : Stmt-F Stmt) (fs : List Frame) (m : Machine) → Sound m → Waiting m fs → Go m (begin one n o fs) (begin other n o fs)
  begin_goes n (Stmt-F.Var t name line e) fs m s w = stay m _ _ s (tt, w)
  begin_goes n (Stmt-F.Assign name line e) fs m s w = stay m _ _ s (tt, w)
  begin_goes n (Stmt-F.FieldAssign field line e) fs m s w = stay m _ _ s (tt, w)
  begin_goes n (Stmt-F.Return e) fs m s w = stay m _ _ s (tt, w)
  begin_goes n (Stmt-F.If c b) fs m s w = stay m _ _ s (tt, w)
  begin_goes n (Stmt-F.IfElse c b d) fs m s w = stay m _ _ s (tt, w)
  begin_goes n (Stmt-F.While c b) fs m s w = stay m _ _ s (tt, w)
  begin_goes n (Stmt-F.Print e) fs m s w = stay m _ _ s (tt, w)
  begin_goes n (Stmt-F.Evaluate e) fs m s w = stay m _ _ s (tt, w)

  open_goes : (n : ℕ) (this : Receiver) (o : Option Method) (vs : List Value) (fs : List Frame) (m : Machine) → Sound m → Waiting m fs → known m this.oref ≡ true
      → Go m (open_body one n this o vs fs) (open_body other n this o vs fs)
  open_goes n this None vs fs m s w k = ends m _
  open_goes n this (Some method) vs fs m s w k =
      let p : Machine = inside one this method vs m in
      to m p _ _ (same m p refl refl) (record { this = k; created = s.created }) (tt, (tt, (this_grows m p (same m p refl refl) m.this s.this, waiting_grows m p (same m p refl refl) fs w)))

  as_goes : (b : Bool) (n : ℕ) (this : Receiver) (o : Option Method) (vs : List Value) (fs : List Frame) (m : Machine) → Sound m → Waiting m fs → known m this.oref ≡ true
      → Go m (if b then open_body one n this o vs fs else (λ n. (Err (stop.Fault fault.NullCall), n))) (if b then open_body other n this o vs fs else (λ n. (Err (stop.Fault fault.NullCall), n)))
  as_goes true n this o vs fs m s w k = open_goes n this o vs fs m s w k
  as_goes false n this o vs fs m s w k = ends m _

  object_goes : (b : Bool) (n c : ℕ) (x : Oref) (owners : List Oref) (o : Option Method) (vs : List Value) (fs : List Frame) (m : Machine) → Sound m → Waiting m fs
      → let goes : World → Result Left Stop × Machine = λ w.
      cond b ((touch w owners x >>= (λ found. open_as w n (record { oref = x; class = c; owners = owners }) found o vs fs)) m) (Err (stop.Fault fault.Depth), m) in
      Goes m (goes one).0 (goes one).1 (goes other)
  object_goes true n c x owners o vs fs m s w =
      on_left m _ _ _ _ _ (touch_alike schema f g owners x m s) (λ found is t grows.
      as_goes (found == c) n (record { oref = x; class = c; owners = owners }) o vs fs _ t (waiting_grows m _ grows fs w) (touch_known schema f g owners x m found s is))
  object_goes false n c x owners o vs fs m s w = ends m _

  ready_goes : (n : ℕ) (t : ExprType) (r : Value) (name : List ℕ) (vs : List Value) (fs : List Frame) (m : Machine) → Sound m → Waiting m fs → Go m (ready n t r name vs fs) (ready n t r name vs fs)
  ready_goes n (type.Class c) (value.Ref x) name vs fs m s w = stay m _ _ s w
  ready_goes n (type.Class c) value.Null name vs fs m s w = ends m _
  ready_goes n (type.Class c) (value.Int i) name vs fs m s w = ends m _
  ready_goes n (type.Class c) (value.Text i) name vs fs m s w = ends m _
  ready_goes n type.Int r name vs fs m s w = ends m _
  ready_goes n type.Text r name vs fs m s w = ends m _
  ready_goes n type.Null r name vs fs m s w = ends m _
  ready_goes n type.Untold r name vs fs m s w = ends m _

  collect_goes : (n : ℕ) (t : ExprType) (r : Value) (name : List ℕ) (vs : List Value) (es : List Expr) (fs : List Frame) (m : Machine) → Sound m → Waiting m fs
      → Go m (collect n t r name vs es fs) (collect n t r name vs es fs)
  collect_goes n t r name vs [] fs m s w = ready_goes n t r name vs fs m s w
  collect_goes n t r name vs (e ∷ es) fs m s w = stay m _ _ s (tt, w)

  go_on_goes : (n : ℕ) (ss : List Stmt) (v : Flow) (fs : List Frame) (m : Machine) → Sound m → Waiting m fs → Go m (go_on n ss v fs) (go_on n ss v fs)
  go_on_goes n ss (Returned v) fs m s w = stay m _ _ s w
  go_on_goes n [] Next fs m s w = stay m _ _ s w
  go_on_goes n (x ∷ ss) Next fs m s w = stay m _ _ s (tt, w)

  turned_goes : (n t : ℕ) (c : Expr) (b : List Stmt) (v : Flow) (fs : List Frame) (m : Machine) → Sound m → Waiting m fs → Go m (turned n t c b v fs) (turned n t c b v fs)
  turned_goes n t c b (Returned v) fs m s w = stay m _ _ s w
  turned_goes n zero c b Next fs m s w = ends m _
  turned_goes n (suc t) c b Next fs m s w = on_left m _ _ _ _ _ (steps f g m s) (λ u is r grows. stay _ _ _ r (tt, waiting_grows m _ grows fs w))

  either_goes : (b : Bool) (p q x y : Action Left) (m : Machine) → Go m p x → Go m q y → Go m (if b then p else q) (if b then x else y)
  either_goes true p q x y m h k = h
  either_goes false p q x y m h k = k

  block_goes : (n : ℕ) (ss : List Stmt) (fs : List Frame) (m : Machine) → Sound m → Waiting m fs → Go m (open_block n ss fs) (open_block n ss fs)
  block_goes n ss fs m s w = stay m _ _ s (tt, (tt, w))

  changed : (m n : Machine) (d : Doing) (fs : List Frame) → Sound m → Waiting m fs → n.reads ≡ m.reads → n.writes ≡ m.writes → n.this ≡ m.this → n.created ≡ m.created
      → Goes m (Ok (record { doing = d; stack = fs })) n (Ok (record { doing = d; stack = fs }), n)
  changed m n d fs s w r v t c = let grows : Grows m n = same m n r v in
      to m n d fs grows (record { this = rw t (this_grows m n grows m.this s.this); created = λ x. rw (c, v) (s.created x) }) (waiting_grows m n grows fs w)

  pop_goes : (e : Frame) (v : Flow) (fs : List Frame) (m : Machine) → Sound m → Waiting m (e ∷ fs) → Go m (pop one e v fs) (pop other e v fs)
  pop_goes frame.Negate v fs m s w = stay m _ _ s w.1
  pop_goes (frame.Right n o e) v fs m s w = stay m _ _ s (tt, w.1)
  pop_goes (frame.Combine o a) v fs m s w = stay m _ _ s w.1
  pop_goes (frame.Callee n t name es) v fs m s w = collect_goes n t (given v) name [] es fs m s w.1
  pop_goes (frame.Arguments n t r name done es) v fs m s w = collect_goes n t r name (taken done v) es fs m s w.1
  pop_goes (frame.BodyEnd d this ls t) v fs m s w =
      let p : Machine = outside d this ls m in
      to m p _ _ (same m p refl refl) (record { this = this_grows m p (same m p refl refl) this w.0; created = s.created }) (waiting_grows m p (same m p refl refl) fs w.1)
  pop_goes (frame.Declare t name) v fs m s w = changed m _ _ fs s w.1 refl refl refl refl
  pop_goes (frame.Assign name) v fs m s w = changed m _ _ fs s w.1 refl refl refl refl
  pop_goes (frame.FieldAssign name) v fs m s w =
      on_left m _ _ _ (λ u. give Next fs) (λ u. give Next fs) (assign_field_alike schema f g name (given v) m s) (λ u is t grows. stay _ (doing.Give Next) fs t (waiting_grows m _ grows fs w.1))
  pop_goes frame.Return v fs m s w = stay m _ _ s w.1
  pop_goes (frame.Branch n b) v fs m s w = either_goes (holds (given v)) _ _ _ _ m (block_goes n b fs m s w.1) (stay m _ _ s w.1)
  pop_goes (frame.Branches n b c) v fs m s w = either_goes (holds (given v)) _ _ _ _ m (block_goes n b fs m s w.1) (block_goes n c fs m s w.1)
  pop_goes frame.Print v fs m s w = changed m _ _ fs s w.1 refl refl refl refl
  pop_goes frame.Discard v fs m s w = stay m _ _ s w.1
  pop_goes (frame.Rest n ss) v fs m s w = go_on_goes n ss v fs m s w.1
  pop_goes (frame.BlockEnd k) v fs m s w = changed m _ _ fs s w.1 refl refl refl refl
  pop_goes (frame.Test n t c b) v fs m s w = either_goes (holds (given v)) _ _ _ _ m (block_goes n b (frame.Again n t c b ∷ fs) m s (tt, w.1)) (stay m _ _ s w.1)
  pop_goes (frame.Again n t c b) v fs m s w = turned_goes n t c b v fs m s w.1

  pub move_goes : (d : Doing) (fs : List Frame) (m : Machine) → Sound m → Waiting m fs → Go m (move one d fs) (move other d fs)
  move_goes (doing.Evaluate zero e) fs m s w = ends m _
  move_goes (doing.Evaluate (suc n) e) fs m s w = on_left m _ _ _ _ _ (steps f g m s) (λ u is t grows. start_goes n (out-Expr e) fs _ t (waiting_grows m _ grows fs w))
  move_goes (doing.Execute zero x) fs m s w = ends m _
  move_goes (doing.Execute (suc n) x) fs m s w = on_left m _ _ _ _ _ (steps f g m s) (λ u is t grows. begin_goes n (out-Stmt x) fs _ t (waiting_grows m _ grows fs w))
  move_goes (doing.Create c at) fs m s w = on_left m _ _ _ _ _ (create_alike schema f g c at m s) (λ v is t grows. stay _ _ _ t (waiting_grows m _ grows fs w))
  move_goes (doing.Enter n c x name vs) fs m s w = object_goes (nat_lt m.depth DEPTH_LIMIT) n c x (owners_at schema.classes c x m) (method_of schema.classes c name) vs fs m s w
  move_goes (doing.Give v) [] m s w = stay m _ _ s w
  move_goes (doing.Give v) (e ∷ fs) m s w = pop_goes e v fs m s w
