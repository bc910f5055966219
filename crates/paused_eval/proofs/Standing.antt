-- Small steps of the code, one after the other, come to what the transaction comes to from the start.
use Rattle.std.proofs.Common.{◌≡◌, ℕ, ◌+◌, arith, true, false, List, [], ◌∷◌, Option, None, Result, Ok, Err, refl, ap, sym, ◌∙◌, subst, IfOk}
use Rattle.thor_value.specs.declared.names.Oref.{Oref}
use Rattle.class_defs.specs.Run.{begun, execute_all}
use Rattle.class_defs.specs.Statements.{block_of}
use Rattle.class_defs.specs.Steps.{World}
use Rattle.class_defs.specs.declared.machine.Flow.{Flow}
use Rattle.class_defs.specs.declared.machine.Machine.{Machine}
use Rattle.class_defs.specs.declared.machine.NameSupply.{NameSupply}
use Rattle.class_defs.specs.declared.machine.Stop.{Stop}
use Rattle.class_defs.specs.declared.machine.Stop.TheVariants as stop
use Rattle.class_defs.specs.declared.statements.Stmt.{Stmt}
use Rattle.class_defs.specs.declared.store.Object.{Object}
use Rattle.class_defs.specs.declared.store.Schema.{Schema}
use Rattle.method_eval.specs.declared.halt.Halt.{Halt}
use Rattle.method_eval.specs.declared.halt.Halt.TheVariants.{Stopped, NoMemory}
use Rattle.lang_small_steps.proofs.Falling.{falls_by}
use Rattle.lang_small_steps.proofs.MoreNames.{IsNoCreation, both, move_adds}
use Rattle.lang_small_steps.proofs.Reaching as reaching
use Rattle.lang_small_steps.specs.Due.{IsOpen, due}
use Rattle.lang_small_steps.specs.Reaches.{over, whole}
use Rattle.lang_small_steps.specs.Resume.{Left, move, rest_of}
use Rattle.lang_small_steps.specs.declared.frames.Doing.{Doing}
use Rattle.lang_small_steps.specs.declared.frames.Doing.TheVariants as doing
use Rattle.lang_small_steps.specs.declared.frames.Frame.{Frame}
use Rattle.paused_eval.specs.Does.{Moves}
use Rattle.paused_eval.specs.Standing.{AtStop, CameTo, IsFault, Runs, Stands, Stays, Steps, Went, answer_of, is_done, moved_to, outcome_of}
use Rattle.paused_eval.specs.Copies.{at_hand, entries, state_with, written_in}
use Rattle.paused_eval.specs.FromPages.{FromPages}
use Rattle.paused_eval.specs.declared.came.Came.{Came}
use Rattle.paused_eval.specs.declared.came.Came.TheVariants as came
use Rattle.paused_eval.specs.declared.came.Came.TheVariants.{Ended, Faulted}
use Rattle.client_cache.specs.Copies.{Contents, changed}
use Rattle.method_eval.specs.Answers.{ran_at}
use Rattle.method_eval.specs.Names.{Names, supply}
use Rattle.method_eval.specs.declared.view.Ran.{Ran}
use Rattle.paused_eval.specs.declared.moved.Moved.{Moved}
use Rattle.paused_eval.specs.declared.moved.Moved.TheVariants.{To, Waits, WaitsForName}

-- ---- with the names that are at hand

abbrev pub named : NameSupply → Machine → Machine
named ns m = record m { names = ns }

pub named_is : (ns : NameSupply) (w : World) (d : Doing) (fs : List Frame) (m n : Machine) (r : Result Left Stop) → IsNoCreation d → move w d fs m ≡ (r, n)
    → move w d fs (named ns m) ≡ (r, named ns n)
named_is ns w d fs m n r h e = move_adds (λ k. ns) w d fs m h ∙ ap (both (λ k. ns)) e

pub named_steps : (ns : NameSupply) (w : World) (r : Result Moved Halt) (d : Doing) (fs gs : List Frame) (m n : Machine) → IsNoCreation d
    → Steps r d fs m gs n (move w d fs m) → Steps r d fs (named ns m) gs (named ns n) (move w d fs (named ns m))
named_steps ns w (Ok (To e)) d fs gs m n h s = named_is ns w d fs m n _ h s
named_steps ns w (Ok (Waits e x owners)) d fs gs m n h s = (named_is ns w d fs m n _ h s.0, (s.1.0, (s.1.1.0, ap (named ns) s.1.1.1)))
named_steps ns w (Ok (WaitsForName e repo)) d fs gs m n h s = (named_is ns w d fs m n _ h s.0, (s.1.0, (s.1.1.0, ap (named ns) s.1.1.1)))
named_steps ns w (Err (Stopped t)) d fs gs m n h s = named_is ns w d fs m n _ h s
named_steps ns w (Err NoMemory) d fs gs m n h s = tt

-- what moves is a small step
from_moves : (r : Result Doing Halt) (w : World) (d : Doing) (fs gs : List Frame) (m n : Machine) → Moves r gs m n (move w d fs) → Steps (moved_to r) d fs m gs n (move w d fs m)
from_moves (Ok e) w d fs gs m n h = h
from_moves (Err (Stopped (stop.Fault e))) w d fs gs m n h = h
from_moves (Err (Stopped (stop.Need x owners))) w d fs gs m n h = absurd h
from_moves (Err (Stopped (stop.NeedName repo))) w d fs gs m n h = absurd h
from_moves (Err NoMemory) w d fs gs m n h = tt

pub moved_steps : (ns : NameSupply) (w : World) (r : Result Doing Halt) (d : Doing) (fs gs : List Frame) (m n : Machine) → IsNoCreation d
    → Moves r gs m n (move w d fs) → Steps (moved_to r) d fs (named ns m) gs (named ns n) (move w d fs (named ns m))
moved_steps ns w r d fs gs m n h moves = named_steps ns w (moved_to r) d fs gs m n h (from_moves r w d fs gs m n moves)

-- ---- one small step after the other

done_or_open : (d : Doing) (fs : List Frame) → is_done d fs ≡ false → IsOpen d fs
done_or_open (doing.Give g) [] h = cc
done_or_open (doing.Give g) (f ∷ fs) h = tt
done_or_open (doing.Evaluate n e) fs h = tt
done_or_open (doing.Execute n s) fs h = tt
done_or_open (doing.Create c at) fs h = tt
done_or_open (doing.Enter n c x name vs) fs h = tt

module _ (s : Schema) (f : Oref → Option Object) (tx : List Stmt) (names : List Oref) where
  from_start : rest_of (over s f) (whole tx) (begun names None) ≡ outcome_of s f tx names
  unfolding execute_all block_of
  from_start = refl

  pub goes_on : (count : ℕ) (d e : Doing) (fs gs : List Frame) (m n : Machine) → is_done d fs ≡ false → Runs s f tx names count (record { doing = d; stack = fs }) m
      → move (over s f) d fs m ≡ (Ok (record { doing = e; stack = gs }), n) → Runs s f tx names (count + 1) (record { doing = e; stack = gs }) n
  goes_on count d e fs gs m n h r is =
      let falls = falls_by (over s f) (record { doing = d; stack = fs }) (record { doing = e; stack = gs }) m n (done_or_open d fs h) is in
      record {
        reaches = reaching.goes_on s f (whole tx) (record { doing = d; stack = fs }) (record { doing = e; stack = gs }) (begun names None) m n r.reaches is;
        few = omega (arith, falls, r.few);
      }

  pub ends : (count : ℕ) (d : Doing) (fs : List Frame) (m : Machine) → is_done d fs ≡ true → Runs s f tx names count (record { doing = d; stack = fs }) m
      → (g : Flow) × (outcome_of s f tx names ≡ (Ok g, m))
  ends count (doing.Give g) [] m h r = (g, sym from_start ∙ reaching.ends s f (whole tx) (begun names None) m g r.reaches)
  ends count (doing.Give g) (x ∷ fs) m h r = cc
  ends count (doing.Evaluate n e) fs m h r = cc
  ends count (doing.Execute n x) fs m h r = cc
  ends count (doing.Create c at) fs m h r = cc
  ends count (doing.Enter n c x name vs) fs m h r = cc

  pub stops : (count : ℕ) (d : Doing) (fs : List Frame) (m n : Machine) (t : Stop) → Runs s f tx names count (record { doing = d; stack = fs }) m
      → move (over s f) d fs m ≡ (Err t, n) → outcome_of s f tx names ≡ (Err t, n)
  stops count d fs m n t r is = sym from_start ∙ reaching.stops s f (whole tx) (record { doing = d; stack = fs }) (begun names None) m n t r.reaches is

  -- the count begins anew
  pub rests : (count : ℕ) (l : Left) (m : Machine) → Runs s f tx names count l m → Stands s f tx names l m
  rests count l m r = record { reaches = r.reaches; few = let h = r.few in omega (arith, h) }

  -- the objects at hand are the same, said in another way
  there : (g : Oref → Option Object) (d : Doing) (fs : List Frame) (m : Machine) (r : Result Left Stop × Machine) → g ≡ f → move (over s g) d fs m ≡ r → move (over s f) d fs m ≡ r
  there g d fs m r e h = subst (λ (k : Oref → Option Object). move (over s k) d fs m ≡ r) e h

  pub goes : (g : Oref → Option Object) (count : ℕ) (d e : Doing) (fs gs : List Frame) (m n : Machine) → g ≡ f → is_done d fs ≡ false → Runs s f tx names count (record { doing = d; stack = fs }) m
      → move (over s g) d fs m ≡ (Ok (record { doing = e; stack = gs }), n) → Runs s f tx names (count + 1) (record { doing = e; stack = gs }) n
  goes g count d e fs gs m n same h r is = goes_on count d e fs gs m n h r (there g d fs m _ same is)

  pub waits : (g : Oref → Option Object) (count : ℕ) (d e : Doing) (fs gs : List Frame) (m n : Machine) (t : Stop) → g ≡ f → Runs s f tx names count (record { doing = d; stack = fs }) m
      → (move (over s g) d fs m ≡ (Err t, n)) × Stays d e fs gs m n → (outcome_of s f tx names ≡ (Err t, n)) × Stands s f tx names (record { doing = e; stack = gs }) n
  waits g count d e fs gs m n t same r is =
      let before : Stands s f tx names (record { doing = d; stack = fs }) m = rests count (record { doing = d; stack = fs }) m r in
      let at : Stands s f tx names (record { doing = e; stack = gs }) n =
      subst (λ (o : Machine). Stands s f tx names (record { doing = e; stack = gs }) o) (sym is.1.1.1)
      (subst (λ (hs : List Frame). Stands s f tx names (record { doing = e; stack = hs }) m) (sym is.1.1.0)
      (subst (λ (k : Doing). Stands s f tx names (record { doing = k; stack = fs }) m) (sym is.1.0) before)) in
      (stops count d fs m n t r (there g d fs m _ same is.0), at)

  pub faults : (g : Oref → Option Object) (count : ℕ) (d : Doing) (fs gs : List Frame) (m n : Machine) (e : Came) (h : Halt) (l : Left) → g ≡ f
      → Runs s f tx names count (record { doing = d; stack = fs }) m → IsFault e h → Steps (Err h) d fs m gs n (move (over s g) d fs m) → CameTo s f tx names e l n
  faults g count d fs gs m n (Faulted e) h l same r is st =
      stops count d fs m n (stop.Fault e) r (there g d fs m _ same (subst (λ (k : Halt). Steps (Err k) d fs m gs n (move (over s g) d fs m)) is st))
  faults g count d fs gs m n Ended h l same r is st = absurd is
  faults g count d fs gs m n (came.Waits x owners) h l same r is st = absurd is
  faults g count d fs gs m n (came.WaitsForName repo) h l same r is st = absurd is

-- what plain recursion came to that is a fault
pub fault_ends : (s : Schema) (f : Oref → Option Object) (tx : List Stmt) (names : List Oref) (count : ℕ) (e : Came) (h : Halt) (gs : List Frame) (n : Machine) (l : Left) → IsFault e h
    → Went s f tx names count (Err h) gs n → CameTo s f tx names e l n
fault_ends s f tx names count (Faulted e) h gs n l is w = subst (λ (k : Halt). Went s f tx names count (Err k) gs n) is w
fault_ends s f tx names count Ended h gs n l is w = absurd is
fault_ends s f tx names count (came.Waits x owners) h gs n l is w = absurd is
fault_ends s f tx names count (came.WaitsForName repo) h gs n l is w = absurd is

-- the objects at hand are the same, said in another way
pub same_objects : (s : Schema) (f g : Oref → Option Object) (tx : List Stmt) (names : List Oref) (count : ℕ) (d : Doing) (fs gs : List Frame) (m n : Machine) (r : Result Doing Halt) → g ≡ f
    → (Runs s g tx names count (record { doing = d; stack = fs }) m → Went s g tx names count r gs n)
    → Runs s f tx names count (record { doing = d; stack = fs }) m → Went s f tx names count r gs n
same_objects s f g tx names count d fs gs m n r same h =
    subst (λ (k : Oref → Option Object). Runs s k tx names count (record { doing = d; stack = fs }) m → Went s k tx names count r gs n) same h

-- ---- before the first step

first : (s : Schema) (f : Oref → Option Object) (tx : List Stmt) (names : List Oref) → Stands s f tx names (whole tx) (begun names None)
unfolding due
first s f tx names = record { reaches = (reaching.begins s f tx names).1; few = omega arith }

same_begin : (c : Contents) (n : Names) → c.written ≡ [] → n.stand_in ≡ None → begun (supply n).waiting None ≡ state_with (begun [] None) c n
unfolding written_in
same_begin c n e h =
    ap (λ (k : Option ℕ). record (begun [] None) { names = record { waiting = (supply n).waiting; stand_in = k } }) (sym h)
    ∙ ap (λ (names : List Oref). record (begun [] None) { writes = record { pairs = entries (changed c) names }; names = supply n }) (sym e)

pub begins_standing : (s : Schema) (tx : List Stmt) (c : Contents) (n : Names) → c.written ≡ [] → FromPages n
    → Stands s (at_hand s c) tx (supply n).waiting (whole tx) (state_with (begun [] None) c n)
begins_standing s tx c n e p =
    subst (λ (m : Machine). Stands s (at_hand s c) tx (supply n).waiting (whole tx) m) (same_begin c n e p.granted) (first s (at_hand s c) tx (supply n).waiting)

-- ---- the answer

pub ended_at : (epoch : ℕ) (s : Schema) (f : Oref → Option Object) (tx : List Stmt) (names : List Oref) (r : Result Flow Stop) (m : Machine) → outcome_of s f tx names ≡ (r, m)
    → ran_at epoch r m ≡ answer_of epoch s f tx names
ended_at epoch s f tx names r m e = ap (λ (p : Result Flow Stop × Machine). ran_at epoch p.0 p.1) (sym e)

pub ended_well : (s : Schema) (f : Oref → Option Object) (tx : List Stmt) (names : List Oref) (e : Came) (l : Left) (m : Machine) → e ≡ Ended → CameTo s f tx names e l m
    → (g : Flow) × (outcome_of s f tx names ≡ (Ok g, m))
ended_well s f tx names e l m is h = subst (λ (k : Came). CameTo s f tx names k l m) is h

pub done_stands : {E : Type 0} (r : Result Ran E) (epoch : ℕ) (g : Flow) (m : Machine) (P : Type 0) → IfOk r (λ ran. ran ≡ ran_at epoch (Ok g) m) → IfOk r (λ ran. AtStop ran P)
done_stands (Ok ran) epoch g m P h = subst (λ (x : Ran). AtStop x P) (sym h) tt
done_stands (Err e) epoch g m P h = tt

-- the steps that were taken are those of the run from the start
pub steps_are : (s : Schema) (f : Oref → Option Object) (tx : List Stmt) (names : List Oref) (e : Came) (l : Left) (m : Machine) → CameTo s f tx names e l m
    → m.steps ≡ (outcome_of s f tx names).1.steps
steps_are s f tx names Ended l m (g, h) = ap (λ (p : Result Flow Stop × Machine). p.1.steps) (sym h)
steps_are s f tx names (Faulted e) l m h = ap (λ (p : Result Flow Stop × Machine). p.1.steps) (sym h)
steps_are s f tx names (came.Waits x owners) l m (h, on) = ap (λ (p : Result Flow Stop × Machine). p.1.steps) (sym h)
steps_are s f tx names (came.WaitsForName repo) l m (h, on) = ap (λ (p : Result Flow Stop × Machine). p.1.steps) (sym h)
