-- A run of small steps comes to what is left at first, and ends.
use Rattle.std.proofs.Common.{◌≡◌, ℕ, suc, ◌+◌, ◌-◌, ◌<◌, ◌≤◌, List, [], ◌∷◌, Result, Ok, Err, refl, ap, sym, ◌∙◌, subst, arith}
use Rattle.thor_value.specs.declared.values.Value.{Value}
use Rattle.class_defs.specs.Run.{meaning}
use Rattle.class_defs.specs.Steps.{World, Action, after, pure, step}
use Rattle.class_defs.specs.declared.expressions.Expr.{Expr}
use Rattle.class_defs.specs.declared.machine.Flow.{Flow}
use Rattle.class_defs.specs.declared.machine.Flow.TheVariants.{Returned}
use Rattle.class_defs.specs.declared.machine.Flow.TheVariants as flow
use Rattle.class_defs.specs.declared.machine.Machine.{Machine}
use Rattle.class_defs.specs.declared.machine.Stop.{Stop}
use Rattle.class_defs.specs.declared.statements.Stmt.{Stmt}
use Rattle.class_defs.specs.declared.types.ExprType.{ExprType}
use Rattle.method_eval.specs.Does.{Does}
use Rattle.lang_bounded_eval.specs.SmallSteps.{Leaves, Moves, frame_of, frames, left_of, moved_to}
use Rattle.lang_bounded_eval.specs.declared.frames.Moved.TheVariants.{To, Ended}
use Rattle.lang_bounded_eval.specs.declared.frames.Next.{Next}
use Rattle.lang_bounded_eval.specs.declared.frames.Next.TheVariants as next
use Rattle.lang_bounded_eval.specs.declared.frames.Waiting.{Waiting}
use Rattle.method_eval.specs.declared.halt.Halt.{Halt}
use Rattle.method_eval.specs.declared.halt.Halt.TheVariants.{Stopped, NoMemory}
use Rattle.lang_small_steps.proofs.Falling.{falls_by}
use Rattle.lang_small_steps.proofs.Sound.{move_sound}
use Rattle.lang_small_steps.specs.Due.{IsOpen, due}
use Rattle.lang_small_steps.specs.Resume as resume_specs
use Rattle.lang_small_steps.specs.Resume.{Left, collect, given, move, pop, rest_of, resume, taken, turned}
use Rattle.lang_small_steps.specs.declared.frames.Doing.TheVariants as doing
use Rattle.lang_small_steps.specs.declared.frames.Frame.{Frame}
use Rattle.lang_small_steps.specs.declared.frames.Frame.TheVariants as frame

-- what is left at first comes to what is left now, and this many small steps were taken
pub record Runs (w : World) (a : Left) (m : Machine) (count : ℕ) (b : Left) (n : Machine) : Type 0 where
  pub comes : rest_of w a m ≡ rest_of w b n
  pub few : due n b + count < 700000

few_at_first : (m : Machine) (d : Next) → due m (left_of d []) + 0 < 700000
unfolding due
few_at_first m (next.Evaluate n e) = omega arith
few_at_first m (next.Execute n s) = omega arith
few_at_first m (next.Create class at) = omega arith
few_at_first m (next.Enter n c x name vs) = omega arith
few_at_first m (next.Give g) = omega arith

pub at_first : (w : World) (d : Next) (fs : List Waiting) (m : Machine) → fs ≡ [] → Runs w (left_of d []) m 0 (left_of d fs) m
at_first w d fs m h = subst (λ (k : List Waiting). Runs w (left_of d []) m 0 (left_of d k) m) (sym h) (record { comes = refl; few = few_at_first m d })

-- one small step, and what is left behind it
on : (w : World) (b : Left) (n : Machine) (r : Result Left Stop) (o : Machine) → move w b.doing b.stack n ≡ (r, o) → rest_of w b n ≡ after r o (rest_of w)
on w b n r o is = ap (λ (q : Action Flow). q n) (move_sound w b.doing b.stack) ∙ ap (λ (p : Result Left Stop × Machine). after p.0 p.1 (rest_of w)) is

pub goes_on : (w : World) (a b : Left) (m n o : Machine) (count : ℕ) (d : Next) (fs : List Waiting) → Runs w a m count b n → Leaves (Ok (To d)) fs o w b n → Runs w a m (count + 1) (left_of d fs) o
goes_on w a b m n o count d fs r is =
    let falls : due o (left_of d fs) < due n b = falls_by w b (left_of d fs) n o is.0 is.1 in
    let few = r.few in
    record { comes = r.comes ∙ on w b n (Ok (left_of d fs)) o is.1; few = omega (arith, falls, few) }

pub ends : (w : World) (a b : Left) (m n o : Machine) (count : ℕ) (g : Flow) (fs : List Waiting) → Runs w a m count b n → Leaves (Ok (Ended g)) fs o w b n → rest_of w a m ≡ (Ok g, o)
ends w a b m n o count g fs r is = r.comes ∙ ap (λ (k : Left). rest_of w k n) is.0 ∙ ap (λ (k : Machine). (Ok g, k)) (sym is.1)

pub stops : (w : World) (a b : Left) (m n o : Machine) (count : ℕ) (h : Halt) (fs : List Waiting) → Runs w a m count b n → Leaves (Err h) fs o w b n → Does {A = Flow} (Err h) o (rest_of w a m)
stops w a b m n o count (Stopped t) fs r is = r.comes ∙ on w b n (Err t) o is
stops w a b m n o count NoMemory fs r is = tt

-- more than so many small steps there aren't
pub spent : (w : World) (a b : Left) (m n o : Machine) (count : ℕ) (r : Result Flow Halt) → Runs w a m count b n → 700000 ≤ count → Does r o (rest_of w a m)
spent w a b m n o count r runs over = let few = runs.few in absurd (omega (arith, few, over))

pub ruleset running = (at_first, goes_on, ends, stops, spent)

-- what a small step of a function gives
pub takes : (r : Result Next Halt) (fs : List Waiting) (n : Machine) (w : World) (l : Left) (m : Machine) → IsOpen l.doing l.stack → Moves r fs n (move w l.doing l.stack m) → Leaves (moved_to r) fs n w l m
takes (Ok d) fs n w l m undone is = (undone, is)
takes (Err (Stopped t)) fs n w l m undone is = is
takes (Err NoMemory) fs n w l m undone is = tt

pub nothing_left : (g : Flow) (fs : List Waiting) → fs ≡ [] → left_of (next.Give g) fs ≡ record { doing = doing.Give g; stack = [] }
nothing_left g fs h = ap (λ (k : List Waiting). left_of (next.Give g) k) h

pub handed : (r : Result Next Halt) (fs gs old : List Waiting) (f : Waiting) (g : Flow) (n m : Machine) (w : World) → old ≡ f ∷ gs → Moves r fs n (pop w (frame_of f) g (frames gs) m)
    → Leaves (moved_to r) fs n w (left_of (next.Give g) old) m
handed r fs gs old f g n m w h is = subst (λ (k : List Waiting). Leaves (moved_to r) fs n w (left_of (next.Give g) k) m) (sym h) (takes r fs n w (left_of (next.Give g) (f ∷ gs)) m tt is)

-- ---- what waits on the top, where a step or an argument comes first

-- the body of a loop has ended, and its condition is tested again
pub tests_on : (r : Result Next Halt) (gs : List Waiting) (fs : List Frame) (n t : ℕ) (c : Expr) (b : List Stmt) (g : Flow) (m o : Machine) (u : Unit {0}) → g ≡ flow.Next → 0 < t → step m ≡ (Ok u, o)
    → Moves r gs o (resume_specs.next (doing.Evaluate n c) (frame.Test n (t - 1) c b ∷ fs) o) → Moves r gs o (turned n t c b g fs m)
tests_on r gs fs n t c b g m o u is some took h =
    let more : t ≡ suc (t - 1) = omega (arith, some) in
    let on_step : turned n (suc (t - 1)) c b flow.Next fs m ≡ resume_specs.next (doing.Evaluate n c) (frame.Test n (t - 1) c b ∷ fs) o =
    ap (λ (p : Result (Unit {0}) Stop × Machine). after p.0 p.1 (λ v. resume_specs.next (doing.Evaluate n c) (frame.Test n (t - 1) c b ∷ fs))) took in
    subst (λ (q : Result Left Stop × Machine). Moves r gs o q) (sym (ap (λ (k : Flow). turned n t c b k fs m) is ∙ ap (λ (k : ℕ). turned n k c b flow.Next fs m) more ∙ on_step)) h

-- an argument is given to a call
pub collected : (w : World) (r : Result Next Halt) (gs : List Waiting) (fs : List Frame) (m : Machine) (n : ℕ) (t : ExprType) (v : Value) (name : List ℕ) (done vs : List Value) (es : List Expr) (f : Frame) (g : Flow)
    → f ≡ frame.Arguments n t v name done es → vs ≡ taken done g → Moves r gs m (collect n t v name vs es fs m) → Moves r gs m (pop w f g fs m)
collected w r gs fs m n t v name done vs es f g is came h =
    subst (λ (k : Frame). Moves r gs m (pop w k g fs m)) (sym is) (subst (λ (us : List Value). Moves r gs m (collect n t v name us es fs m)) came h)

-- ---- an expression, and a statement

abbrev valued : Result Flow Stop → Machine → Result Value Stop × Machine
valued (Ok g) m = (Ok (given g), m)
valued (Err t) m = (Err t, m)

-- what an expression gives is what small steps come to from it
module _ (w : World) where
  abbrev giving_all : Result Value Stop → Machine → Result Flow Stop × Machine
  giving_all r p = after (after r p (λ v. pure (Returned v))).0 (after r p (λ v. pure (Returned v))).1 (resume w [])

  back : (r : Result Value Stop) (p : Machine) → (r, p) ≡ valued (giving_all r p).0 (giving_all r p).1
  back (Ok v) p = refl
  back (Err t) p = refl

  same_flow : (r : Result Flow Stop) (p : Machine) → after r p (resume w []) ≡ (r, p)
  same_flow (Ok g) p = refl
  same_flow (Err t) p = refl

module _ (w : World) (n : ℕ) (e : Expr) (m o : Machine) where
  abbrev whole : Left
  whole = record { doing = doing.Evaluate n e; stack = [] }

  from : (r : Result Flow Stop) → rest_of w whole m ≡ (r, o) → (meaning w n).value_of e m ≡ valued r o
  from r h = back w ((meaning w n).value_of e m).0 ((meaning w n).value_of e m).1 ∙ ap (λ (q : Result Flow Stop × Machine). valued q.0 q.1) h

  pub value_ok : (g : Flow) → rest_of w whole m ≡ (Ok g, o) → (meaning w n).value_of e m ≡ (Ok (given g), o)
  value_ok g h = from (Ok g) h

  pub value_stops : (h : Halt) → Does {A = Flow} (Err h) o (rest_of w whole m) → Does {A = Value} (Err h) o ((meaning w n).value_of e m)
  value_stops (Stopped t) h = from (Err t) h
  value_stops NoMemory h = tt

pub statement_came : (w : World) (n : ℕ) (s : Stmt) (m o : Machine) (r : Result Flow Halt) → Does r o (rest_of w (record { doing = doing.Execute n s; stack = [] }) m) → Does r o ((meaning w n).execute s m)
statement_came w n s m o r h = subst (λ (q : Result Flow Stop × Machine). Does r o q) (same_flow w ((meaning w n).execute s m).0 ((meaning w n).execute s m).1) h

pub ruleset value_came = (value_ok, value_stops)

pub ruleset handing = (nothing_left, handed)
