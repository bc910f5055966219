-- A run over just the names that it takes, in the order in which it takes them, goes as it went over all that were granted.
use Rattle.std.proofs.Common.{◌≡◌, ◌<◌, Bool, true, false, cond, List, [], ◌∷◌, ◌++◌, length, ℕ, zero, suc, refl, ap, sym, subst, ◌∙◌, arith, append_assoc, slice_get, Option, Some, None, option_map, Result, Ok, Err}
use Rattle.std.proofs.lemmas.Bool.Decides.{nat_tests}
use Rattle.std.specs.List.{position_or_len}
use Rattle.std.specs.Prelude.{nat_lt, not, remove, ◌==◌, ◌+◌}
use Rattle.thor_value.specs.declared.names.Oref.{Oref}
use Rattle.thor_value.specs.declared.values.Fault.TheVariants as fault
use Rattle.thor_value.specs.declared.values.Value.{Value}
use Rattle.class_defs.specs.Objects.{create, create_in, make, name_at, repo_for, stand_in_from, take_name}
use Rattle.class_defs.specs.Run.{begun, execute_all}
use Rattle.class_defs.specs.Statements.{block_of}
use Rattle.class_defs.specs.Steps.{World, Action, after}
use Rattle.class_defs.specs.Types.{class_named}
use Rattle.class_defs.specs.declared.expressions.At.{At}
use Rattle.class_defs.specs.declared.limits.TheConstants.{CREATE_LIMIT}
use Rattle.class_defs.specs.declared.machine.Flow.TheVariants.{Returned}
use Rattle.class_defs.specs.declared.machine.Flow.{Flow}
use Rattle.class_defs.specs.declared.machine.Machine.{Machine}
use Rattle.class_defs.specs.declared.machine.NameSupply.{NameSupply}
use Rattle.class_defs.specs.declared.machine.Stop.{Stop}
use Rattle.class_defs.specs.declared.machine.Stop.TheVariants as stop
use Rattle.class_defs.specs.declared.statements.Stmt.{Stmt}
use Rattle.lang_small_steps.proofs.Falling.{falls_by}
use Rattle.lang_small_steps.proofs.MoreNames.{move_adds, IsNoCreation}
use Rattle.lang_small_steps.proofs.Sound.{move_sound}
use Rattle.lang_small_steps.specs.Due.{IsOpen, due}
use Rattle.lang_small_steps.specs.Reaches.{whole}
use Rattle.lang_small_steps.specs.Resume.{Left, give, move, rest_of}
use Rattle.lang_small_steps.specs.declared.frames.Doing.{Doing}
use Rattle.lang_small_steps.specs.declared.frames.Doing.TheVariants as doing
use Rattle.lang_small_steps.specs.declared.frames.Frame.{Frame}
use Rattle.lang_small_steps.proofs.Leaving.{move_leaves}
use Rattle.lang_small_steps.specs.Naming.{HadNames, NeedsNoName, just_names, with_names}

abbrev here : ℕ → Oref → Bool
here repo x = x.repo == repo

-- ---- the name that is taken

one_more : (k : ℕ) → suc k ≡ 1 + k
one_more k = omega arith

-- It lies in the repository.
in_repo : (repo : ℕ) (xs : List Oref) (x : Oref) → nat_lt (position_or_len (here repo) xs) (length xs) ≡ true → slice_get xs (position_or_len (here repo) xs) ≡ Some x → here repo x ≡ true
in_repo repo [] x l is = absurd (grind (arith, nat_tests))
in_repo repo (z ∷ xs) x l is = by (here repo z) refl (in_repo repo xs x) l is
  where
    by : (b : Bool) → here repo z ≡ b → (nat_lt (position_or_len (here repo) xs) (length xs) ≡ true → slice_get xs (position_or_len (here repo) xs) ≡ Some x → here repo x ≡ true)
        → nat_lt (cond (not b) (1 + position_or_len (here repo) xs) 0) (length (z ∷ xs)) ≡ true
        → slice_get (z ∷ xs) (cond (not b) (1 + position_or_len (here repo) xs) 0) ≡ Some x → here repo x ≡ true
    by true e rest l is = let same : z ≡ x = cc in subst (λ (y : Oref). here repo y ≡ true) same e
    by false e rest l is = rest (grind (arith, nat_tests)) (ap (λ (i : ℕ). slice_get (z ∷ xs) i) (one_more (position_or_len (here repo) xs)) ∙ is)

abbrev Taken : Type 0
Taken = Option (Oref × NameSupply)

-- with the same name in front it is taken again
record Took (repo : ℕ) (names : NameSupply) (p : Oref × NameSupply) : Type 0 where
  none : p.1.stand_in ≡ None
  again : (more : List Oref) → take_name repo (just_names (p.0 ∷ more)) ≡ Some (p.0, just_names more)

front : (repo : ℕ) (x : Oref) (more : List Oref) → here repo x ≡ true → take_name repo (just_names (x ∷ more)) ≡ Some (x, just_names more)
unfolding take_name
front repo x more e = by (here repo x) e
  where
    first : nat_lt 0 (length (x ∷ more)) ≡ true
    first = grind (arith, nat_tests)

    by : (b : Bool) → b ≡ true → name_at (just_names (x ∷ more)) (let i : ℕ = cond (not b) (1 + position_or_len (here repo) more) 0 in cond (nat_lt i (length (x ∷ more))) (Some i) None) ≡ Some (x, just_names more)
    by true e = ap (λ (c : Bool). name_at (just_names (x ∷ more)) (cond {A = Option ℕ} c (Some 0) None)) first
    by false e = cc

picked : (o : Option Oref) (names : NameSupply) (rest : List Oref) (p : Oref × NameSupply)
    → option_map (λ (y : Oref). (y, record names { waiting = rest })) o ≡ Some p → (o ≡ Some p.0) × (p.1.stand_in ≡ names.stand_in)
picked None names rest p e = cc
picked (Some y) names rest p e = let same : (y, record names { waiting = rest }) ≡ p = cc in (ap (λ (q : Oref × NameSupply). Some q.0) same, sym (ap (λ (q : Oref × NameSupply). q.1.stand_in) same))

never_taken : (q : Oref × NameSupply) → ◌≡◌ {A = Taken} None (Some q) → ⊥
never_taken q e = cc

took_one : (repo : ℕ) (names : NameSupply) (p : Oref × NameSupply) → names.stand_in ≡ None → take_name repo names ≡ Some p → Took repo names p
unfolding take_name
took_one repo names p none is = by (nat_lt (position_or_len (here repo) names.waiting) (length names.waiting)) refl
  where
    i : ℕ
    i = position_or_len (here repo) names.waiting

    by : (b : Bool) → nat_lt (position_or_len (here repo) names.waiting) (length names.waiting) ≡ b → Took repo names p
    by true below =
        let at : name_at names (Some (position_or_len (here repo) names.waiting)) ≡ Some p = sym (ap (λ (b : Bool). name_at names (cond b (Some (position_or_len (here repo) names.waiting)) None)) below) ∙ is in
        let k = picked (slice_get names.waiting (position_or_len (here repo) names.waiting)) names (remove names.waiting (position_or_len (here repo) names.waiting)) p at in
        record { none = k.1 ∙ none; again = λ more. front repo p.0 more (in_repo repo names.waiting p.0 below k.0) }
    by false past =
        let at : name_at names None ≡ Some p = sym (ap (λ (b : Bool). name_at names (cond b (Some (position_or_len (here repo) names.waiting)) None)) past) ∙ is in
        absurd (never_taken p (sym (ap (λ (o : Option ℕ). stand_in_from names o) none) ∙ at))

-- ---- creations

abbrev Ended : Type 0
Ended = Result Value Stop × Machine

-- What an action that gave this made; with just_names that in front it gives it again.
record Gives (a : List Oref → Ended) (m : Machine) (r : Result Value Stop) (n : Machine) : Type 0 where
  made : List Oref
  created : n.created ≡ m.created ++ made
  none : n.names.stand_in ≡ None
  again : (more : List Oref) → a (made ++ more) ≡ (r, with_names more n)

none_made : (xs : List Oref) → xs ≡ xs ++ []
none_made [] = refl
none_made (x ∷ xs) = ap (λ (ys : List Oref). x ∷ ys) (none_made xs)

-- it made nothing, and looked at no names
gave : (r : Result Value Stop) (m : Machine) → m.names.stand_in ≡ None → Gives (λ ws. (r, with_names ws m)) m r m
gave r m none = record { made = []; created = none_made m.created; none = none; again = λ more. refl }

abbrev NoName : Result Value Stop → Type 0
NoName (Ok v) = Unit {0}
NoName (Err s) = NeedsNoName s

made_again : (w : World) (c repo : ℕ) (m : Machine) (o : Taken) → take_name repo m.names ≡ o → m.names.stand_in ≡ None → NoName (make w c repo o m).0
    → Gives (λ ws. make w c repo (take_name repo (just_names ws)) (with_names ws m)) m (make w c repo o m).0 (make w c repo o m).1
made_again w c repo m None took none had = absurd had
made_again w c repo m (Some p) took none had =
    let t = took_one repo m.names p none took in
    record { made = p.0 ∷ []; created = refl; none = t.none; again = λ more. ap (λ (o : Taken). make w c repo o (with_names (p.0 ∷ more) m)) (t.again more) }

created_below : (b : Bool) (w : World) (c repo : ℕ) (m : Machine) → m.names.stand_in ≡ None
    → let r : Ended = cond b (make w c repo (take_name repo m.names) m) (Err (stop.Fault fault.Large), m) in
    NoName r.0 → Gives (λ ws. cond b (make w c repo (take_name repo (just_names ws)) (with_names ws m)) (Err (stop.Fault fault.Large), with_names ws m)) m r.0 r.1
created_below true w c repo m none had = made_again w c repo m (take_name repo m.names) refl none had
created_below false w c repo m none had = gave (Err (stop.Fault fault.Large)) m none

created_in : (w : World) (repo : ℕ) (c : Option ℕ) (m : Machine) → m.names.stand_in ≡ None → NoName (create_in w repo c m).0 → Gives (λ ws. create_in w repo c (with_names ws m)) m (create_in w repo c m).0 (create_in w repo c m).1
created_in w repo None m none had = gave _ m none
created_in w repo (Some c) m none had = created_below (nat_lt (length m.created) CREATE_LIMIT) w c repo m none had

created_again : (w : World) (class : List ℕ) (at : Option At) (m : Machine) → m.names.stand_in ≡ None → NoName (create w class at m).0 → Gives (λ ws. create w class at (with_names ws m)) m (create w class at m).0 (create w class at m).1
unfolding create
created_again w class at m none had = created_in w (repo_for m.this at) (class_named w.schema.classes class) m none had

-- ---- small steps, and whole runs

abbrev Moved : Type 0
Moved = Result Left Stop × Machine

abbrev NoNameLeft : Result Left Stop → Type 0
NoNameLeft (Ok l) = Unit {0}
NoNameLeft (Err s) = NeedsNoName s

record MovesAgain (w : World) (d : Doing) (fs : List Frame) (m : Machine) (r : Result Left Stop) (n : Machine) : Type 0 where
  made : List Oref
  created : n.created ≡ m.created ++ made
  none : n.names.stand_in ≡ None
  again : (more : List Oref) → move w d fs (with_names (made ++ more) m) ≡ (r, with_names more n)

plainly : (w : World) (d : Doing) (fs : List Frame) (m : Machine) → IsNoCreation d → m.names.stand_in ≡ None → MovesAgain w d fs m (move w d fs m).0 (move w d fs m).1
plainly w d fs m plain none = record {
  made = [];
  created = move_leaves w d fs m plain ∙ none_made m.created;
  none = ap (λ (p : Moved). p.1.names.stand_in) (move_adds (λ (k : NameSupply). m.names) w d fs m plain) ∙ none;
  again = λ more. move_adds (λ (k : NameSupply). just_names more) w d fs m plain;
}

moves_again : (w : World) (d : Doing) (fs : List Frame) (m : Machine) → m.names.stand_in ≡ None → NoNameLeft (move w d fs m).0 → MovesAgain w d fs m (move w d fs m).0 (move w d fs m).1
moves_again w (doing.Evaluate k e) fs m none had = plainly w (doing.Evaluate k e) fs m tt none
moves_again w (doing.Execute k x) fs m none had = plainly w (doing.Execute k x) fs m tt none
moves_again w (doing.Enter k c x name vs) fs m none had = plainly w (doing.Enter k c x name vs) fs m tt none
moves_again w (doing.Give v) fs m none had = plainly w (doing.Give v) fs m tt none
moves_again w (doing.Create c at) fs m none had = by (create w c at m).0 (create w c at m).1 refl had
  where
    k : Value → Action Left
    k v = give (Returned v) fs

    to : (r : Result Value Stop) (o : Machine) → Gives (λ ws. create w c at (with_names ws m)) m r o → MovesAgain w (doing.Create c at) fs m (after r o (λ v. give (Returned v) fs)).0 (after r o (λ v. give (Returned v) fs)).1
    to (Ok v) o g = record { made = g.made; created = g.created; none = g.none; again = λ more. ap (λ (p : Ended). after p.0 p.1 (λ v. give (Returned v) fs)) (g.again more) }
    to (Err s) o g = record { made = g.made; created = g.created; none = g.none; again = λ more. ap (λ (p : Ended). after p.0 p.1 (λ v. give (Returned v) fs)) (g.again more) }

    left : (r : Result Value Stop) (o : Machine) → NoNameLeft (after r o (λ v. give (Returned v) fs)).0 → NoName r
    left (Ok v) o h = tt
    left (Err s) o h = h

    by : (r : Result Value Stop) (o : Machine) → create w c at m ≡ (r, o) → NoNameLeft (after (create w c at m).0 (create w c at m).1 (λ v. give (Returned v) fs)).0
        → MovesAgain w (doing.Create c at) fs m (move w (doing.Create c at) fs m).0 (move w (doing.Create c at) fs m).1
    by r o e h = to (create w c at m).0 (create w c at m).1 (created_again w c at m none (left (create w c at m).0 (create w c at m).1 h))

-- What is left of a run made this, and comes with just_names that in front to the same.
pub record ComesAgain (w : World) (l : Left) (m : Machine) (r : Result Flow Stop) (n : Machine) : Type 0 where
  pub made : List Oref
  pub created : n.created ≡ m.created ++ made
  pub again : (more : List Oref) → rest_of w l (with_names (made ++ more) m) ≡ (r, with_names more n)

abbrev Flowed : Type 0
Flowed = Result Flow Stop × Machine

module _ (w : World) where
  abbrev left_of : Doing → List Frame → Left
  left_of d fs = record { doing = d; stack = fs }

  -- behind one small step
  behind : (d : Doing) (fs : List Frame) (m : Machine) (r : Result Flow Stop) (n : Machine) (q : Result Left Stop) (o : Machine) → MovesAgain w d fs m q o → after q o (rest_of w) ≡ (r, n) → HadNames r
      → ((l : Left) → q ≡ Ok l → rest_of w l o ≡ (r, n) → ComesAgain w l o r n) → ComesAgain w (record { doing = d; stack = fs }) m r n
  behind d fs m r n (Ok l) o moved is had on =
      let rest = on l refl is in record {
        made = moved.made ++ rest.made;
        created = rest.created ∙ ap (λ (xs : List Oref). xs ++ rest.made) moved.created ∙ append_assoc m.created moved.made rest.made;
        again = λ more.
            ap (λ (xs : List Oref). rest_of w (record { doing = d; stack = fs }) (with_names xs m)) (append_assoc moved.made rest.made more)
            ∙ ap (λ (p : Action Flow). p (with_names (moved.made ++ (rest.made ++ more)) m)) (move_sound w d fs)
            ∙ ap (λ (p : Moved). after p.0 p.1 (rest_of w)) (moved.again (rest.made ++ more))
            ∙ rest.again more;
      }
  behind d fs m r n (Err s) o moved is had on =
      let ends : (Err s, o) ≡ (r, n) = is in record {
        made = moved.made;
        created = ap (λ (p : Flowed). p.1.created) (sym ends) ∙ moved.created;
        again = λ more.
            ap (λ (p : Action Flow). p (with_names (moved.made ++ more) m)) (move_sound w d fs)
            ∙ ap (λ (p : Moved). after p.0 p.1 (rest_of w)) (moved.again more)
            ∙ ap (λ (p : Flowed). (p.0, with_names more p.1)) ends;
      }

  no_name : (q : Result Left Stop) (o : Machine) (r : Result Flow Stop) (n : Machine) → after q o (rest_of w) ≡ (r, n) → HadNames r → NoNameLeft q
  no_name (Ok l) o r n is had = tt
  no_name (Err s) o r n is had = let e : Err s ≡ r = ap (λ (p : Flowed). p.0) is in subst HadNames (sym e) had

  abbrev Comes : ℕ → Type 0
  Comes k = (l : Left) (m : Machine) (r : Result Flow Stop) (n : Machine) → due m l < k → m.names.stand_in ≡ None → rest_of w l m ≡ (r, n) → HadNames r → ComesAgain w l m r n

  on_open : (k : ℕ) → Comes k → (d : Doing) (fs : List Frame) (m : Machine) (r : Result Flow Stop) (n : Machine) → IsOpen d fs → due m (left_of d fs) < suc k → m.names.stand_in ≡ None
      → rest_of w (left_of d fs) m ≡ (r, n) → HadNames r → ComesAgain w (left_of d fs) m r n
  on_open k next d fs m r n o below none is had =
      let there : after (move w d fs m).0 (move w d fs m).1 (rest_of w) ≡ (r, n) = sym (ap (λ (p : Action Flow). p m) (move_sound w d fs)) ∙ is in
      let moved = moves_again w d fs m none (no_name (move w d fs m).0 (move w d fs m).1 r n there had) in
      behind d fs m r n (move w d fs m).0 (move w d fs m).1 moved there had (λ left f rest.
      let step : move w d fs m ≡ (Ok left, (move w d fs m).1) = ap (λ (q : Result Left Stop). (q, (move w d fs m).1)) f in
      let fell : due (move w d fs m).1 left < due m (left_of d fs) = falls_by w (left_of d fs) left m (move w d fs m).1 o step in
      next left (move w d fs m).1 r n (omega (arith, fell, below)) moved.none rest had)

  at_end : (g : Flow) (m : Machine) (r : Result Flow Stop) (n : Machine) → rest_of w (left_of (doing.Give g) []) m ≡ (r, n) → ComesAgain w (left_of (doing.Give g) []) m r n
  at_end g m r n is =
      let ends : (Ok g, m) ≡ (r, n) = is in record {
        made = [];
        created = ap (λ (p : Flowed). p.1.created) (sym ends) ∙ none_made m.created;
        again = λ more. ap (λ (p : Flowed). (p.0, with_names more p.1)) ends;
      }

  by_left : (k : ℕ) → Comes k → (d : Doing) (fs : List Frame) (m : Machine) (r : Result Flow Stop) (n : Machine) → due m (left_of d fs) < suc k → m.names.stand_in ≡ None
      → rest_of w (left_of d fs) m ≡ (r, n) → HadNames r → ComesAgain w (left_of d fs) m r n
  by_left k next (doing.Evaluate a x) fs m r n below none is had = on_open k next (doing.Evaluate a x) fs m r n tt below none is had
  by_left k next (doing.Execute a x) fs m r n below none is had = on_open k next (doing.Execute a x) fs m r n tt below none is had
  by_left k next (doing.Create c at) fs m r n below none is had = on_open k next (doing.Create c at) fs m r n tt below none is had
  by_left k next (doing.Enter a c x name vs) fs m r n below none is had = on_open k next (doing.Enter a c x name vs) fs m r n tt below none is had
  by_left k next (doing.Give g) (f ∷ fs) m r n below none is had = on_open k next (doing.Give g) (f ∷ fs) m r n tt below none is had
  by_left k next (doing.Give g) [] m r n below none is had = at_end g m r n is

  pub comes_again : (k : ℕ) → Comes k
  comes_again zero l m r n below none is had = absurd (omega (arith, below))
  comes_again (suc k) l m r n below none is had = by_left k (comes_again k) l.doing l.stack m r n below none is had

whole_is : (w : World) (tx : List Stmt) (names : List Oref) (stand_in : Option ℕ) → rest_of w (whole tx) (begun names stand_in) ≡ execute_all w tx (begun names stand_in)
unfolding execute_all block_of
whole_is w tx names stand_in = refl

-- The law: a run over granted names that stopped for no name goes, over just the names that it took, and stand-in names behind
-- them, in the same way.
pub names_are_enough : (w : World) (tx : List Stmt) (given : List Oref) (r : Result Flow Stop) (n : Machine) → execute_all w tx (begun given None) ≡ (r, n) → HadNames r
    → execute_all w tx (begun n.created (Some 0)) ≡ (r, with_names [] n)
names_are_enough w tx given r n is had =
    let c = comes_again w (suc (due (begun given None) (whole tx))) (whole tx) (begun given None) r n (omega arith) refl (whole_is w tx given None ∙ is) had in
    let all : n.created ≡ c.made ++ [] = c.created ∙ none_made c.made in
    ap (λ (xs : List Oref). execute_all w tx (begun xs (Some 0))) all ∙ sym (whole_is w tx (c.made ++ []) (Some 0)) ∙ c.again []
