-- The names that new objects take are distinct where those that were granted are.
use Rattle.class_defs.proofs.SameNames.{one_name}
use Rattle.class_defs.specs.Objects.{create, create_in, make, repo_for, take_name}
use Rattle.class_defs.specs.Run.{begun, execute_all}
use Rattle.class_defs.specs.Statements.{block_of}
use Rattle.class_defs.specs.Steps.{Action, World, after}
use Rattle.class_defs.specs.Types.{class_named}
use Rattle.class_defs.specs.declared.expressions.At.{At}
use Rattle.class_defs.specs.declared.limits.TheConstants.{CREATE_LIMIT}
use Rattle.class_defs.specs.declared.machine.Flow.TheVariants.{Returned}
use Rattle.class_defs.specs.declared.machine.Flow.{Flow}
use Rattle.class_defs.specs.declared.machine.Machine.{Machine}
use Rattle.class_defs.specs.declared.machine.NameSupply.{NameSupply}
use Rattle.class_defs.specs.declared.machine.Stop.TheVariants as stop
use Rattle.class_defs.specs.declared.machine.Stop.{Stop}
use Rattle.class_defs.specs.declared.statements.Stmt.{Stmt}
use Rattle.lang_small_steps.proofs.Falling.{falls_by}
use Rattle.lang_small_steps.proofs.MoreNames.{IsNoCreation, move_adds}
use Rattle.lang_small_steps.proofs.Sound.{move_sound}
use Rattle.lang_small_steps.specs.Due.{IsOpen, due}
use Rattle.lang_small_steps.specs.Reaches.{whole}
use Rattle.lang_small_steps.specs.Resume.{Left as WhatIsLeft, give, move, rest_of}
use Rattle.lang_small_steps.specs.declared.frames.Doing.TheVariants as doing
use Rattle.lang_small_steps.specs.declared.frames.Doing.{Doing}
use Rattle.lang_small_steps.specs.declared.frames.Frame.{Frame}
use Rattle.law_renaming.proofs.RenamedSupply.{Left, Stock, name_given}
use Rattle.lang_small_steps.proofs.Leaving.{move_leaves}
use Rattle.std.proofs.Common.{Bool, List, [], ap, arith, cond, false, length, refl, subst, suc, sym, true, zero, ℕ, ◌++◌, ◌<◌, ◌≡◌, ◌∙◌, ◌∷◌}
use Rattle.std.specs.List.{AllByRecursion, IsDistinct}
use Rattle.std.specs.Prelude.{Err, None, Ok, Option, Result, Some, nat_lt, ◌==◌}
use Rattle.thor_value.specs.Names.{same_oref}
use Rattle.thor_value.specs.declared.names.Oref.{Oref}
use Rattle.thor_value.specs.declared.values.Fault.TheVariants as fault
use Rattle.thor_value.specs.declared.values.Value.{Value}

-- ---- what holds of names and created objects

all_push : (P : Oref → Type 0) (xs : List Oref) (y : Oref) → AllByRecursion P xs → P y → AllByRecursion P (xs ++ y ∷ [])
all_push P [] y h p = (p, tt)
all_push P (x ∷ xs) y h p = (h.0, all_push P xs y h.1 p)

push : (xs : List Oref) (y : Oref) → IsDistinct same_oref xs → AllByRecursion (λ x. same_oref x y ≡ false) xs → IsDistinct same_oref (xs ++ y ∷ [])
unfolding IsDistinct
push [] y d a = (tt, tt)
push (x ∷ xs) y d a = (all_push (λ z. same_oref x z ≡ false) xs y d.0 a.0, push xs y d.1 a.1)

-- those that can still be given are distinct, and so are those that were, and the ones are none of the others
record Fresh (names : NameSupply) (created : List Oref) : Type 0 where
  count : ℕ
  stock : Stock false count names
  once : IsDistinct same_oref created
  apart : (y : Oref) → Left names y → AllByRecursion (λ x. same_oref x y ≡ false) created

differs : (x y : Oref) → (y ≡ x → ⊥) → same_oref x y ≡ false
differs x y never = by (same_oref x y) refl
  where
    by : (b : Bool) → same_oref x y ≡ b → same_oref x y ≡ false
    by true e = absurd (never (sym (one_name x y true e refl)))
    by false e = e

given_one : (repo : ℕ) (names : NameSupply) (created : List Oref) (t : Oref × NameSupply) → Fresh names created → take_name repo names ≡ Some t → Fresh t.1 (created ++ t.0 ∷ [])
given_one repo names created t h is =
    let g = name_given false h.count repo names t h.stock is in
    record {
      count = suc h.count;
      stock = g.stock;
      once = push created t.0 h.once (h.apart t.0 g.left);
      apart = λ y left. all_push (λ x. same_oref x y ≡ false) created t.0 (h.apart y (g.still y left)) (differs t.0 y (g.gone y left));
    }

abbrev Stays : Machine → Type 0
Stays m = Fresh m.names m.created

-- ---- small steps keep it

abbrev Ended : Type 0
Ended = Result Value Stop × Machine

made_fresh : (w : World) (c repo : ℕ) (m : Machine) (o : Option (Oref × NameSupply)) → take_name repo m.names ≡ o → Stays m → Stays (make w c repo o m).1
made_fresh w c repo m None is h = h
made_fresh w c repo m (Some t) is h = given_one repo m.names m.created t h is

below_fresh : (b : Bool) (w : World) (c repo : ℕ) (m : Machine) → Stays m → let r : Ended = cond b (make w c repo (take_name repo m.names) m) (Err (stop.Fault fault.Large), m) in Stays r.1
below_fresh true w c repo m h = made_fresh w c repo m (take_name repo m.names) refl h
below_fresh false w c repo m h = h

in_fresh : (w : World) (repo : ℕ) (c : Option ℕ) (m : Machine) → Stays m → Stays (create_in w repo c m).1
in_fresh w repo None m h = h
in_fresh w repo (Some c) m h = below_fresh (nat_lt (length m.created) CREATE_LIMIT) w c repo m h

created_fresh : (w : World) (class : List ℕ) (at : Option At) (m : Machine) → Stays m → Stays (create w class at m).1
unfolding create
created_fresh w class at m h = in_fresh w (repo_for m.this at) (class_named w.schema.classes class) m h

same_after : (r : Result Value Stop) (o : Machine) (fs : List Frame) → Stays o → Stays (after r o (λ v. give (Returned v) fs)).1
same_after (Ok v) o fs h = h
same_after (Err s) o fs h = h

abbrev Moved : Type 0
Moved = Result WhatIsLeft Stop × Machine

plain_fresh : (w : World) (d : Doing) (fs : List Frame) (m : Machine) → IsNoCreation d → Stays m → Stays (move w d fs m).1
plain_fresh w d fs m plain h =
    let names : (move w d fs m).1.names ≡ m.names = ap (λ (p : Moved). p.1.names) (move_adds (λ (k : NameSupply). m.names) w d fs m plain) in
    subst (λ (k : NameSupply). Fresh k (move w d fs m).1.created) (sym names) (subst (λ (xs : List Oref). Fresh m.names xs) (sym (move_leaves w d fs m plain)) h)

move_fresh : (w : World) (d : Doing) (fs : List Frame) (m : Machine) → Stays m → Stays (move w d fs m).1
move_fresh w (doing.Evaluate k e) fs m h = plain_fresh w (doing.Evaluate k e) fs m tt h
move_fresh w (doing.Execute k x) fs m h = plain_fresh w (doing.Execute k x) fs m tt h
move_fresh w (doing.Enter k c x name vs) fs m h = plain_fresh w (doing.Enter k c x name vs) fs m tt h
move_fresh w (doing.Give v) fs m h = plain_fresh w (doing.Give v) fs m tt h
move_fresh w (doing.Create c at) fs m h = same_after (create w c at m).0 (create w c at m).1 fs (created_fresh w c at m h)

-- ---- what small steps keep, runs keep

abbrev Flowed : Type 0
Flowed = Result Flow Stop × Machine

module _ (w : World) (P : Machine → Type 0) (step : (d : Doing) (fs : List Frame) (m : Machine) → P m → P (move w d fs m).1) where
  abbrev left_of : Doing → List Frame → WhatIsLeft
  left_of d fs = record { doing = d; stack = fs }

  abbrev Keeps : ℕ → Type 0
  Keeps k = (l : WhatIsLeft) (m : Machine) (r : Result Flow Stop) (n : Machine) → due m l < k → rest_of w l m ≡ (r, n) → P m → P n

  behind : (k : ℕ) → Keeps k → (d : Doing) (fs : List Frame) (m : Machine) (r : Result Flow Stop) (n : Machine) (q : Result WhatIsLeft Stop) (o : Machine) → move w d fs m ≡ (q, o) → IsOpen d fs
      → due m (left_of d fs) < suc k → after q o (rest_of w) ≡ (r, n) → P o → P n
  behind k next d fs m r n (Ok l) o is open' below rest p =
      let fell : due o l < due m (left_of d fs) = falls_by w (left_of d fs) l m o open' is in
      next l o r n (omega (arith, fell, below)) rest p
  behind k next d fs m r n (Err t) o is open' below rest p = let ends : (Err t, o) ≡ (r, n) = rest in subst P (ap (λ (x : Flowed). x.1) ends) p

  on_open : (k : ℕ) → Keeps k → (d : Doing) (fs : List Frame) (m : Machine) (r : Result Flow Stop) (n : Machine) → IsOpen d fs → due m (left_of d fs) < suc k → rest_of w (left_of d fs) m ≡ (r, n) → P m → P n
  on_open k next d fs m r n o below is p =
      behind k next d fs m r n (move w d fs m).0 (move w d fs m).1 refl o below (sym (ap (λ (q : Action Flow). q m) (move_sound w d fs)) ∙ is) (step d fs m p)

  by_left : (k : ℕ) → Keeps k → (d : Doing) (fs : List Frame) (m : Machine) (r : Result Flow Stop) (n : Machine) → due m (left_of d fs) < suc k → rest_of w (left_of d fs) m ≡ (r, n) → P m → P n
  by_left k next (doing.Evaluate a e) fs m r n below is p = on_open k next (doing.Evaluate a e) fs m r n tt below is p
  by_left k next (doing.Execute a e) fs m r n below is p = on_open k next (doing.Execute a e) fs m r n tt below is p
  by_left k next (doing.Create c at) fs m r n below is p = on_open k next (doing.Create c at) fs m r n tt below is p
  by_left k next (doing.Enter a c y name vs) fs m r n below is p = on_open k next (doing.Enter a c y name vs) fs m r n tt below is p
  by_left k next (doing.Give g) (e ∷ fs) m r n below is p = on_open k next (doing.Give g) (e ∷ fs) m r n tt below is p
  by_left k next (doing.Give g) [] m r n below is p = let ends : (Ok g, m) ≡ (r, n) = is in subst P (ap (λ (x : Flowed). x.1) ends) p

  pub run_keeps : (k : ℕ) → Keeps k
  run_keeps zero l m r n below is p = absurd (omega (arith, below))
  run_keeps (suc k) l m r n below is p = by_left k (run_keeps k) l.doing l.stack m r n below is p

begun_fresh : (given : List Oref) → IsDistinct same_oref given → AllByRecursion (λ (x : Oref). (x.repo == 255) ≡ false) given → Stays (begun given None)
unfolding IsDistinct
begun_fresh given once placed = record { count = 0; stock = record { once = once; placed = placed; stays = tt }; once = tt; apart = λ y left. tt }

whole_is : (w : World) (tx : List Stmt) (given : List Oref) → rest_of w (whole tx) (begun given None) ≡ execute_all w tx (begun given None)
unfolding execute_all block_of
whole_is w tx given = refl

pub created_distinct : (w : World) (tx : List Stmt) (given : List Oref) (r : Result Flow Stop) (n : Machine) → IsDistinct same_oref given → AllByRecursion (λ (x : Oref). (x.repo == 255) ≡ false) given
    → execute_all w tx (begun given None) ≡ (r, n) → IsDistinct same_oref n.created
created_distinct w tx given r n once placed is =
    (run_keeps w Stays (move_fresh w) (suc (due (begun given None) (whole tx))) (whole tx) (begun given None) r n (omega arith) (whole_is w tx given ∙ is) (begun_fresh given once placed)).once
