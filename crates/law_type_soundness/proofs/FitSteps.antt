-- What is owed of an action that begins in a state that fits, and that one action and then another owe it where each does.
use Rattle.std.proofs.Common.{◌≡◌, Bool, true, false, cond, Option, Some, Result, Ok, Err, refl, ap, ◌∙◌}
use Rattle.std.specs.Prelude.{◌+◌, is_some, nat_lt}
use Rattle.thor_value.specs.FiniteMap.{IsSorted}
use Rattle.thor_value.specs.declared.values.Fault.{Fault}
use Rattle.thor_value.specs.declared.values.Fault.TheVariants as fault
use Rattle.class_defs.proofs.ActionWords.{Ended}
use Rattle.law_type_soundness.proofs.FitValues.{Keeps}
use Rattle.law_type_soundness.specs.Fits.{MachineFits}
use Rattle.class_defs.specs.Objects.{seen}
use Rattle.class_defs.specs.Rules.{Sight}
use Rattle.class_defs.specs.Steps.{World, Action, after, step}
use Rattle.law_type_soundness.specs.Strict.{Sure, onward, only_if}
use Rattle.class_defs.specs.declared.limits.TheConstants.{STEP_LIMIT}
use Rattle.class_defs.specs.declared.machine.Machine.{Machine}
use Rattle.class_defs.specs.declared.machine.Stop.{Stop}
use Rattle.class_defs.specs.declared.machine.Stop.TheVariants as stop

-- stand-in names stand behind the waiting ones
abbrev pub Stocked : Machine → Type 0
Stocked m = is_some m.names.stand_in ≡ true

abbrev pub IsNoNameNeed : Stop → Type 0
IsNoNameNeed (stop.Fault f) = Unit {0}
IsNoNameNeed (stop.Need x owners) = Unit {0}
IsNoNameNeed (stop.NeedName repo) = ⊥

-- the action didn't stop for want of a name
abbrev pub Named : {A : Type 0} → Result A Stop → Type 0
Named (Ok a) = Unit {0}
Named (Err s) = IsNoNameNeed s

-- what stays from one state to a later one: stand-in names, and that the names of the written objects are in order
abbrev pub Stays : Machine → Machine → Type 0
Stays m n = (Stocked m → Stocked n) × (IsSorted m.writes → IsSorted n.writes)

-- What an action did from m, ending in n: each object keeps its class, none was missing, nor a name where stand-in names
-- stand behind; a value that it gave is good; and the action that would get stuck at a stand-in did the same.
pub record Went (w : World) (A : Type 0) (Good : A → Machine → Type 0) (m : Machine) (r : Result A Stop) (n : Machine)
    (strict : Option (Result A Stop × Machine)) : Type 0 where
  pub keeps : Keeps (seen w m) (seen w n)
  pub had : Ended r
  pub stays : Stays m n
  pub supply : Stocked m → Named r
  pub good : (a : A) → r ≡ Ok a → Good a n
  pub same : strict ≡ Some (r, n)

module _ (w : World) where
  pub keeps_no : (m : Machine) → Keeps (seen w m) (seen w m)
  keeps_no m x c h = h

  pub on : {A B : Type 0} (Good : A → Machine → Type 0) (Well : B → Machine → Type 0) (m n : Machine) (r : Result A Stop) (k : A → Action B)
      (o : Option (Result A Stop × Machine)) (l : A → Sure B) → Went w A Good m r n o
      → ((a : A) → Good a n → Keeps (seen w m) (seen w n) → Went w B Well n (k a n).0 (k a n).1 (l a n))
      → Went w B Well m (after r n k).0 (after r n k).1 (onward o l)
  on Good Well m n (Ok a) k o l h next = let then = next a (h.good a refl) h.keeps in record {
    keeps = λ x c at. then.keeps x c (h.keeps x c at);
    had = then.had;
    stays = (λ s. then.stays.0 (h.stays.0 s), λ s. then.stays.1 (h.stays.1 s));
    supply = λ s. then.supply (h.stays.0 s);
    good = then.good;
    same = ap (λ p. onward p l) h.same ∙ then.same;
  }
  on Good Well m n (Err s) k o l h next = record {
    keeps = h.keeps;
    had = h.had;
    stays = h.stays;
    supply = λ e. h.supply e;
    good = λ b e. cc;
    same = ap (λ p. onward p l) h.same;
  }

  -- a good value, with a state that keeps the classes
  pub gives : {A : Type 0} (Good : A → Machine → Type 0) (m n : Machine) (a : A) → Keeps (seen w m) (seen w n) → Stays m n → Good a n
      → Went w A Good m (Ok a) n (Some (Ok a, n))
  gives {A} Good m n a keeps stays good = record {
    keeps = keeps;
    had = tt;
    stays = stays;
    supply = λ s. tt;
    good = λ b e. let p : a ≡ b = cc in rw (← p) good;
    same = refl;
  }

  pub value : {A : Type 0} (Good : A → Machine → Type 0) (m : Machine) (a : A) → Good a m → Went w A Good m (Ok a) m (Some (Ok a, m))
  value Good m a good = gives Good m m a (keeps_no m) (λ s. s, λ s. s) good

  pub faults : {A : Type 0} (Good : A → Machine → Type 0) (m : Machine) (f : Fault)
      → Went w A Good m (Err (stop.Fault f)) m (Some (Err (stop.Fault f), m))
  faults Good m f = record { keeps = keeps_no m; had = tt; stays = (λ s. s, λ s. s); supply = λ s. tt; good = λ a e. cc; same = refl }

  pub weaker : {A : Type 0} (Good Well : A → Machine → Type 0) (m n : Machine) (r : Result A Stop) (o : Option (Result A Stop × Machine))
      → Went w A Good m r n o → ((a : A) → Good a n → Well a n)
      → Went w A Well m r n o
  weaker Good Well m n r o h f =
      record { keeps = h.keeps; had = h.had; stays = h.stays; supply = h.supply; good = λ a e. f a (h.good a e); same = h.same }

  -- what gets stuck unless a condition holds doesn't where it holds
  pub where_so : {A : Type 0} (Good : A → Machine → Type 0) (b : Bool) (u : Sure A) (m n : Machine) (r : Result A Stop) → b ≡ true
      → Went w A Good m r n (u m) → Went w A Good m r n (only_if b u m)
  where_so Good true u m n r e h = h
  where_so Good false u m n r e h = cc

  pub choose : {A : Type 0} (Good : A → Machine → Type 0) (b : Bool) (p q : Action A) (u : Sure A) (m : Machine) → b ≡ true
      → Went w A Good m (p m).0 (p m).1 (u m)
      → Went w A Good m (cond b p q m).0 (cond b p q m).1 (only_if b u m)
  choose Good true p q u m e h = h
  choose Good false p q u m e h = cc

  -- one step
  abbrev pub Fits : Sight → Unit {0} → Machine → Type 0
  Fits s u n = MachineFits w s n

  abbrev stepped : Bool → Machine → Result (Unit {0}) Stop × Machine
  stepped b m = cond b (Ok tt, record m { steps = m.steps + 1 }) (Err (stop.Fault fault.Steps), m)

  step_at : (s : Sight) (b : Bool) (m : Machine) → MachineFits w s m
      → Went w (Unit {0}) (Fits s) m (stepped b m).0 (stepped b m).1 (Some (stepped b m))
  unfolding seen
  step_at s true m h =
      gives (Fits s) m _ tt (keeps_no m) (λ e. e, λ e. e) (record { objects = h.objects; this = h.this; locals = h.locals; names = h.names })
  step_at s false m h = faults (Fits s) m fault.Steps

  pub steps : (s : Sight) (m : Machine) → MachineFits w s m → Went w (Unit {0}) (Fits s) m (step m).0 (step m).1 (Some (step m))
  unfolding step
  steps s m h = step_at s (nat_lt m.steps STEP_LIMIT) m h
