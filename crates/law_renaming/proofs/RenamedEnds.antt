-- How two runs of one transaction end whose new objects take other names, and that the names which a run took are
-- just those that it needs.
use Rattle.std.proofs.Common.{◌≡◌, arith, Bool, true, false, List, [], Option, Some, None, Result, Ok, Err, refl, sym, subst, ℕ, inl, inr}
use Rattle.std.proofs.lemmas.List.Elements.{All-nil, length_all_zip}
use Rattle.std.specs.List.{IsDistinct}
use Rattle.thor_value.specs.FiniteMap.{empty}
use Rattle.thor_value.specs.declared.names.Oref.{Oref}
use Rattle.thor_value.specs.declared.values.Value.{Value}
use Rattle.thor_value.specs.declared.values.Value.TheVariants as value
use Rattle.class_defs.proofs.StandIns.{count_of}
use Rattle.law_renaming.proofs.Renamed.{Names, Objects, Time, Values, each_itself}
use Rattle.law_renaming.proofs.RenamedCalls.{Flows}
use Rattle.law_renaming.proofs.RenamedMachines.{Setting, Known, Made, Twins, Ends, HasNames, Same}
use Rattle.law_renaming.proofs.RenamedRun.{transaction_same}
use Rattle.law_renaming.proofs.RenamedSupply.{Endless, Left, all_in}
use Rattle.law_renaming.specs.Renaming.{HadNames, IsOld, SameEnd, SameRun, Takeable, Unused}
use Rattle.class_defs.specs.Run.{begun, execute_all}
use Rattle.class_defs.specs.Steps.{World}
use Rattle.class_defs.specs.declared.machine.Flow.{Flow}
use Rattle.class_defs.specs.declared.machine.Machine.{Machine}
use Rattle.class_defs.specs.declared.machine.Stop.{Stop}
use Rattle.class_defs.specs.declared.machine.Stop.TheVariants as stop
use Rattle.class_defs.specs.declared.statements.Stmt.{Stmt}
use Rattle.class_defs.specs.declared.store.Object.{Object}

-- ---- runs that don't want a name

pub had : (s : Setting) (e : Bool) (r : Result Flow Stop) → HadNames r → HasNames s e r
had s e (Ok flow) h = tt
had s e (Err (stop.Fault f)) h = tt
had s e (Err (stop.Need x owners)) h = tt
had s e (Err (stop.NeedName k)) h = absurd h

pub endless_had : (s : Setting) (r : Result Flow Stop) → HasNames s true r
endless_had s (Ok flow) = tt
endless_had s (Err (stop.Fault f)) = tt
endless_had s (Err (stop.Need x owners)) = tt
endless_had s (Err (stop.NeedName k)) = tt

named_by : (s : Setting) (t : Time) (r q : Result Flow Stop) → Same s (Flows s t) t r q → HadNames r
named_by s t (Ok flow) q h = tt
named_by s t (Err (stop.Fault f)) q h = tt
named_by s t (Err (stop.Need x owners)) q h = tt
named_by s t (Err (stop.NeedName k)) (Ok flow) h = h
named_by s t (Err (stop.NeedName k)) (Err q) h = h

-- ---- the states in which two runs begin

module _ (w : World) (fresh : Oref → Bool) (unused : Unused fresh w) where
  abbrev none : Time
  none = ([], [])

  old_itself : (v : Value) → IsOld fresh v → Values fresh none v v
  old_itself (value.Int n) h = refl
  old_itself (value.Text n) h = refl
  old_itself (value.Ref x) h = inl (h, refl)
  old_itself value.Null h = tt

  at_hand_itself : (x : Oref) (o : Option Object) → w.at_hand x ≡ o → Objects fresh none o o
  at_hand_itself x None e = tt
  at_hand_itself x (Some o) e = (refl, each_itself (IsOld fresh) (Values fresh none) old_itself o.fields (unused.objects x o e))

  supply_new : (names : List Oref) (stand_in : Option ℕ) → Takeable fresh names → (x : Oref)
      → Left (record { waiting = names; stand_in = stand_in }) x → fresh x ≡ true
  supply_new names stand_in t x (inl i) = all_in (λ y. fresh y ≡ true) names x t.new i
  supply_new names (Some k) t x (inr h) = rw h.0 (unused.stand_ins (count_of x))
  supply_new names None t x (inr h) = absurd h

  old_apart : (names : List Oref) (stand_in : Option ℕ) → Takeable fresh names → (x : Oref) → fresh x ≡ false
      → ¬ (Left (record { waiting = names; stand_in = stand_in }) x)
  old_apart names stand_in t x f l = let e = supply_new names stand_in t x l in cc

  -- names that mean one object at the beginning are one
  record One (x y : Oref) : Type 0 where
    old : fresh x ≡ false
    same : y ≡ x

  one : (x y : Oref) → Names fresh none x y → One x y
  one x y (inl h) = record { old = h.0; same = sym h.1 }
  one x y (inr h) = absurd h

  abbrev pub setting : List Oref → Option ℕ → List Oref → Option ℕ → Bool → Bool → ℕ → Setting
  setting names stand_in others other_stand_in endless other_endless repo = record {
    world = w;
    fresh = fresh;
    unused = unused;
    begun = names;
    other_begun = others;
    endless = endless;
    other_endless = other_endless;
    stand_in = stand_in;
    repo = repo;
  }

  module _ (names : List Oref) (stand_in : Option ℕ) (others : List Oref) (other_stand_in : Option ℕ) (takeable : Takeable fresh names)
      (other_takeable : Takeable fresh others)
      (endless other_endless : Bool) (stays : Endless endless stand_in 0) (other_stays : Endless other_endless other_stand_in 0) (repo : ℕ) where
    abbrev here : Setting
    here = setting names stand_in others other_stand_in endless other_endless repo

    begun_made : Made here none empty empty (record { waiting = names; stand_in = stand_in }) (record { waiting = others; stand_in = other_stand_in })
    unfolding IsDistinct
    begun_made = record {
      created = tt;
      one_one = λ x y a b i j. rw ((one x y i).same, (one a b j).same) refl;
      written = λ x y i. tt;
      seen = λ x y i. rw (one x y i).same (at_hand_itself x (w.at_hand x) refl);
      there = λ x y p. absurd p;
      kept = All-nil (Known here none);
      only = λ x h. cc;
      stock = record { once = takeable.once; placed = takeable.placed; stays = stays };
      other_stock = record { once = other_takeable.once; placed = other_takeable.placed; stays = other_stays };
      apart = λ x y i. old_apart names stand_in takeable x (one x y i).old;
      other_apart = λ x y i. rw (one x y i).same (old_apart others other_stand_in other_takeable x (one x y i).old);
      left_new = supply_new names stand_in takeable;
      taken = record { new = tt; once = tt; placed = λ e. tt };
      still = λ x l. l;
      without = λ e. e;
      exact = λ e rest is. (refl, is);
      in_order = λ e all. refl;
    }

    begun_twins : Twins here (begun names stand_in) (begun others other_stand_in)
    begun_twins = record {
      steps = refl;
      depth = refl;
      printed = refl;
      reads = refl;
      this = tt;
      locals = tt;
      made = begun_made;
    }

    pub ends : (tx : List Stmt) → let p = execute_all w tx (begun names stand_in) in let q = execute_all w tx (begun others other_stand_in) in
        HasNames here endless p.0 → HasNames here other_endless q.0 → Ends here (Flows here) none p.0 q.0 p.1 q.1
    ends tx g f = transaction_same here none tx (begun names stand_in) (begun others other_stand_in) (λ x y i. i) begun_twins g f

    same_end : (t : Time) (r q : Result Flow Stop) → Same here (Flows here t) t r q → SameEnd fresh t.0 t.1 r q
    same_end t (Ok a) (Ok b) h = h
    same_end t (Err a) (Err b) h = h
    same_end t (Ok a) (Err b) h = h
    same_end t (Err a) (Ok b) h = h

    pub same_run : (r q : Result Flow Stop) (m n : Machine) → Ends here (Flows here) none r q m n → SameRun fresh r q m n
    same_run r q m n e = record {
      ended = same_end (m.created, n.created) r q e.same;
      steps = e.twins.steps;
      printed = e.twins.printed;
      reads = e.twins.reads;
      created = sym (length_all_zip _ m.created n.created e.twins.made.created);
      writes = e.twins.made.written;
    }

  -- two runs that had names enough
  pub runs_same : (tx : List Stmt) (names : List Oref) (stand_in : Option ℕ) (others : List Oref) (other_stand_in : Option ℕ) (r q : Result Flow Stop)
      (m n : Machine)
      → Takeable fresh names → Takeable fresh others → execute_all w tx (begun names stand_in) ≡ (r, m)
      → execute_all w tx (begun others other_stand_in) ≡ (q, n)
      → HadNames r → HadNames q → SameRun fresh r q m n
  runs_same tx names stand_in others other_stand_in r q m n t u is others_are g f =
      let p = execute_all w tx (begun names stand_in) in
      let o = execute_all w tx (begun others other_stand_in) in
      let s = setting names stand_in others other_stand_in false false 0 in
      let gp : HadNames p.0 = rw is g in
      let fo : HadNames o.0 = rw others_are f in
      let e = same_run names stand_in others other_stand_in t u false false tt tt 0 p.0 o.0 p.1 o.1
      (ends names stand_in others other_stand_in t u false false tt tt 0 tx (had s false p.0 gp) (had s false o.0 fo)) in
      let e2 : SameRun fresh r o.0 m o.1 = subst (λ (z : Result Flow Stop × Machine). SameRun fresh z.0 o.0 z.1 o.1) is e in
      subst (λ (z : Result Flow Stop × Machine). SameRun fresh r z.0 m z.1) others_are e2

  -- a run with stand-in names never wants one
  pub stand_ins_enough : (tx : List Stmt) (names : List Oref) → Takeable fresh names → HadNames (execute_all w tx (begun names (Some 0))).0
  stand_ins_enough tx names t =
      let p = execute_all w tx (begun names (Some 0)) in
      let s = setting names (Some 0) names (Some 0) true true 0 in
      let e = ends names (Some 0) names (Some 0) t t true true (omega arith) (omega arith) 0 tx (endless_had s p.0) (endless_had s p.0) in
      named_by s (p.1.created, p.1.created) p.0 p.0 e.same

  pub stand_ins_named : (tx : List Stmt) (names : List Oref) (r : Result Flow Stop) (m : Machine) → Takeable fresh names
      → execute_all w tx (begun names (Some 0)) ≡ (r, m) → HadNames r
  stand_ins_named tx names r m t is = subst (λ (z : Result Flow Stop × Machine). HadNames z.0) is (stand_ins_enough tx names t)
