-- More names behind those that wait: a small step that goes on, goes on with them as before.
use Rattle.std.proofs.Common.{◌≡◌, ◌+◌, ◌==◌, ◌<◌, ◌≤◌, Bool, true, false, cond, List, [], ◌∷◌, ◌++◌, length, ℕ, zero, suc, refl, ap, sym, ◌∙◌, arith, slice_get, Option, Some, None, option_map, Result, Ok, Err}
use Rattle.std.proofs.lemmas.Bool.Decides.{nat_tests}
use Rattle.std.proofs.lemmas.List.Edits.{remove-append_left}
use Rattle.std.specs.List.{position_or_len}
use Rattle.std.specs.Prelude.{nat_lt, not, remove}
use Rattle.thor_value.specs.declared.names.Oref.{Oref}
use Rattle.thor_value.specs.declared.values.Fault.TheVariants as fault
use Rattle.thor_value.specs.declared.values.Value.{Value}
use Rattle.class_defs.specs.Objects.{create, create_in, make, name_at, repo_for, stand_in_from, take_name}
use Rattle.class_defs.specs.Steps.{World, Action, after}
use Rattle.class_defs.specs.Types.{class_named}
use Rattle.class_defs.specs.declared.expressions.At.{At}
use Rattle.class_defs.specs.declared.limits.TheConstants.{CREATE_LIMIT}
use Rattle.class_defs.specs.declared.machine.Flow.TheVariants.{Returned}
use Rattle.class_defs.specs.declared.machine.Machine.{Machine}
use Rattle.class_defs.specs.declared.machine.NameSupply.{NameSupply}
use Rattle.class_defs.specs.declared.machine.Stop.{Stop}
use Rattle.class_defs.specs.declared.machine.Stop.TheVariants as stop
use Rattle.lang_small_steps.proofs.MoreNames.{move_adds, IsNoCreation}
use Rattle.lang_small_steps.specs.Reaches.{granted}
use Rattle.lang_small_steps.specs.Resume.{Left, give, move}
use Rattle.lang_small_steps.specs.declared.frames.Doing.{Doing}
use Rattle.lang_small_steps.specs.declared.frames.Doing.TheVariants as doing
use Rattle.lang_small_steps.specs.declared.frames.Frame.{Frame}

abbrev here : ℕ → Oref → Bool
here repo x = x.repo == repo

-- the first name of a repository stays the first
first_stays : (repo : ℕ) (xs more : List Oref) → nat_lt (position_or_len (here repo) xs) (length xs) ≡ true
    → position_or_len (here repo) (xs ++ more) ≡ position_or_len (here repo) xs
first_stays repo [] more l = absurd (grind (arith, nat_tests))
first_stays repo (x ∷ xs) more l = by (here repo x) l (first_stays repo xs more)
  where
    by : (b : Bool) → nat_lt (cond (not b) (1 + position_or_len (here repo) xs) 0) (length (x ∷ xs)) ≡ true
        → (nat_lt (position_or_len (here repo) xs) (length xs) ≡ true → position_or_len (here repo) (xs ++ more) ≡ position_or_len (here repo) xs)
        → cond (not b) (1 + position_or_len (here repo) (xs ++ more)) 0 ≡ cond (not b) (1 + position_or_len (here repo) xs) 0
    by true l rest = refl
    by false l rest = ap (λ (i : ℕ). 1 + i) (rest (grind (arith, nat_tests)))

within_more : (xs more : List Oref) (i : ℕ) → nat_lt i (length xs) ≡ true → nat_lt i (length (xs ++ more)) ≡ true
within_more [] more i l = absurd (grind (arith, nat_tests))
within_more (x ∷ xs) more zero l = grind (arith, nat_tests)
within_more (x ∷ xs) more (suc i) l = let e : nat_lt i (length (xs ++ more)) ≡ true = within_more xs more i (grind (arith, nat_tests)) in grind (arith, nat_tests)

same_there : (xs more : List Oref) (i : ℕ) → nat_lt i (length xs) ≡ true → slice_get (xs ++ more) i ≡ slice_get xs i
same_there [] more i l = absurd (grind (arith, nat_tests))
same_there (x ∷ xs) more zero l = refl
same_there (x ∷ xs) more (suc i) l = same_there xs more i (grind (arith, nat_tests))

abbrev more_of : List Oref → NameSupply → NameSupply
more_of more names = record names { waiting = names.waiting ++ more }

abbrev Taken : Type 0
Taken = Option (Oref × NameSupply)

abbrev with_more : List Oref → Taken → Taken
with_more more t = option_map (λ (p : Oref × NameSupply). (p.0, more_of more p.1)) t

abbrev stand_in_of : Taken → Option ℕ
stand_in_of None = None
stand_in_of (Some p) = p.1.stand_in

found : (o : Option Oref) (names : NameSupply) (more rest : List Oref)
    → option_map (λ (y : Oref). (y, record (more_of more names) { waiting = rest ++ more })) o ≡ with_more more (option_map (λ (y : Oref). (y, record names { waiting = rest })) o)
found None names more rest = refl
found (Some y) names more rest = refl

kept_stand_in : (o : Option Oref) (names : NameSupply) (rest : List Oref) (p : Oref × NameSupply)
    → option_map (λ (y : Oref). (y, record names { waiting = rest })) o ≡ Some p → p.1.stand_in ≡ names.stand_in
kept_stand_in None names rest p e = cc
kept_stand_in (Some y) names rest p e = sym (ap stand_in_of e)

abbrev Goes : ℕ → List Oref → NameSupply → Oref × NameSupply → Type 0
Goes repo more names p = (take_name repo (more_of more names) ≡ Some (p.0, more_of more p.1)) × (p.1.stand_in ≡ None)

never_taken : (q : Oref × NameSupply) → ◌≡◌ {A = Taken} None (Some q) → ⊥
never_taken q e = cc

taken_more : (repo : ℕ) (more : List Oref) (names : NameSupply) (p : Oref × NameSupply) → names.stand_in ≡ None → take_name repo names ≡ Some p → Goes repo more names p
unfolding take_name
taken_more repo more names p none is = by (nat_lt (position_or_len (here repo) names.waiting) (length names.waiting)) refl
  where
    by : (b : Bool) → nat_lt (position_or_len (here repo) names.waiting) (length names.waiting) ≡ b → Goes repo more names p
    by true below =
        let i : ℕ = position_or_len (here repo) names.waiting in
        let le : i < length names.waiting = grind (arith, nat_tests) in
        let at : name_at names (Some i) ≡ Some p = sym (ap (λ (b : Bool). name_at names (cond b (Some i) None)) below) ∙ is in (
          ap (λ (j : ℕ). name_at (more_of more names) (cond (nat_lt j (length (names.waiting ++ more))) (Some j) None)) (first_stays repo names.waiting more below)
              ∙ ap (λ (b : Bool). name_at (more_of more names) (cond b (Some i) None)) (within_more names.waiting more i below)
              ∙ ap (λ (o : Option Oref). option_map (λ (y : Oref). (y, record (more_of more names) { waiting = remove (names.waiting ++ more) i })) o) (same_there names.waiting more i below)
              ∙ ap (λ (ys : List Oref). option_map (λ (y : Oref). (y, record (more_of more names) { waiting = ys })) (slice_get names.waiting i)) (remove-append_left names.waiting more i le)
              ∙ found (slice_get names.waiting i) names more (remove names.waiting i)
              ∙ ap (with_more more) at,
          kept_stand_in (slice_get names.waiting i) names (remove names.waiting i) p at ∙ none,
        )
    by false past =
        let i : ℕ = position_or_len (here repo) names.waiting in
        let at : name_at names None ≡ Some p = sym (ap (λ (b : Bool). name_at names (cond b (Some i) None)) past) ∙ is in
        absurd (never_taken p (sym (ap (λ (o : Option ℕ). stand_in_from names o) none) ∙ at))

-- ---- creations

abbrev Ended : Type 0
Ended = Result Value Stop × Machine

abbrev more_behind : List Oref → Ended → Ended
more_behind more p = (p.0, granted more p.1)

abbrev stand_in_behind : {A : Type 0} → A × Machine → Option ℕ
stand_in_behind p = p.1.names.stand_in

no_value : (s : Stop) (v : Value) (m n : Machine) → ◌≡◌ {A = Ended} (Err s, m) (Ok v, n) → ⊥
no_value s v m n is = let e : Err s ≡ Ok v = ap (λ (p : Ended). p.0) is in cc

-- the action gave the value, and gives it with more names
abbrev Gives : Action Value → List Oref → Machine → Value → Machine → Type 0
Gives a more m v n = (a (granted more m) ≡ (Ok v, granted more n)) × (n.names.stand_in ≡ None)

made_more : (w : World) (c repo : ℕ) (more : List Oref) (m n : Machine) (v : Value) (o : Option (Oref × NameSupply)) → take_name repo m.names ≡ o → m.names.stand_in ≡ None
    → make w c repo o m ≡ (Ok v, n) → (make w c repo (take_name repo (more_of more m.names)) (granted more m) ≡ (Ok v, granted more n)) × (n.names.stand_in ≡ None)
made_more w c repo more m n v None took none is = absurd (no_value (stop.NeedName repo) v m n is)
made_more w c repo more m n v (Some p) took none is =
    let goes : Goes repo more m.names p = taken_more repo more m.names p none took in
    (ap (λ (o : Taken). make w c repo o (granted more m)) goes.0 ∙ ap (more_behind more) is, sym (ap (λ (q : Ended). q.1.names.stand_in) is) ∙ goes.1)

in_more : (w : World) (repo : ℕ) (c : Option ℕ) (more : List Oref) (m n : Machine) (v : Value) → m.names.stand_in ≡ None → create_in w repo c m ≡ (Ok v, n) → Gives (create_in w repo c) more m v n
in_more w repo None more m n v none is = (ap (more_behind more) is, sym (ap (λ (q : Ended). q.1.names.stand_in) is) ∙ none)
in_more w repo (Some c) more m n v none is = by (nat_lt (length m.created) CREATE_LIMIT) is
  where
    by : (b : Bool) → cond b (make w c repo (take_name repo m.names) m) (Err (stop.Fault fault.Large), m) ≡ (Ok v, n)
        → (cond b (make w c repo (take_name repo (more_of more m.names)) (granted more m)) (Err (stop.Fault fault.Large), granted more m) ≡ (Ok v, granted more n)) × (n.names.stand_in ≡ None)
    by true is = made_more w c repo more m n v (take_name repo m.names) refl none is
    by false is = absurd (no_value (stop.Fault fault.Large) v m n is)

create_more : (w : World) (class : List ℕ) (at : Option At) (more : List Oref) (m n : Machine) (v : Value) → m.names.stand_in ≡ None → create w class at m ≡ (Ok v, n) → Gives (create w class at) more m v n
unfolding create
create_more w class at more m n v none is = in_more w (repo_for m.this at) (class_named w.schema.classes class) more m n v none is

-- ---- small steps

abbrev Moved : Type 0
Moved = Result Left Stop × Machine

no_move : (s : Stop) (l : Left) (m n : Machine) → ◌≡◌ {A = Moved} (Err s, m) (Ok l, n) → ⊥
no_move s l m n is = let e : Err s ≡ Ok l = ap (λ (p : Moved). p.0) is in cc

abbrev pub GoesOn : World → Doing → List Frame → List Oref → Machine → Left → Machine → Type 0
GoesOn w d fs more m l n = (move w d fs (granted more m) ≡ (Ok l, granted more n)) × (n.names.stand_in ≡ None)

others : (w : World) (d : Doing) (fs : List Frame) (more : List Oref) (m n : Machine) (l : Left) → IsNoCreation d → m.names.stand_in ≡ None → move w d fs m ≡ (Ok l, n) → GoesOn w d fs more m l n
others w d fs more m n l plain none is = (
  move_adds (more_of more) w d fs m plain ∙ ap (λ (p : Moved). (p.0, granted more p.1)) is,
  sym (ap (λ (p : Moved). p.1.names.stand_in) is) ∙ ap (λ (p : Moved). p.1.names.stand_in) (move_adds (λ (k : NameSupply). m.names) w d fs m plain) ∙ none,
)

pub move_more : (w : World) (d : Doing) (fs : List Frame) (more : List Oref) (m n : Machine) (l : Left) → m.names.stand_in ≡ None → move w d fs m ≡ (Ok l, n) → GoesOn w d fs more m l n
move_more w (doing.Evaluate k e) fs more m n l none is = others w (doing.Evaluate k e) fs more m n l tt none is
move_more w (doing.Execute k x) fs more m n l none is = others w (doing.Execute k x) fs more m n l tt none is
move_more w (doing.Enter k c x name vs) fs more m n l none is = others w (doing.Enter k c x name vs) fs more m n l tt none is
move_more w (doing.Give v) fs more m n l none is = others w (doing.Give v) fs more m n l tt none is
move_more w (doing.Create c at) fs more m n l none is = by (create w c at m).0 (create w c at m).1 refl is
  where
    by : (r : Result Value Stop) (o : Machine) → create w c at m ≡ (r, o) → after r o (λ v. give (Returned v) fs) ≡ (Ok l, n) → GoesOn w (doing.Create c at) fs more m l n
    by (Ok v) o e is =
        let more_made : Gives (create w c at) more m v o = create_more w c at more m o v none e in
        (ap (λ (p : Ended). after p.0 p.1 (λ v. give (Returned v) fs)) more_made.0 ∙ ap (λ (p : Moved). (p.0, granted more p.1)) is, sym (ap (λ (p : Moved). p.1.names.stand_in) is) ∙ more_made.1)
    by (Err s) o e is = absurd (no_move s l o n is)
