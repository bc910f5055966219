-- An open log that holds a state, behind one record more.
use Rattle.std.proofs.Common.{◌≡◌, ◌≢◌, ℕ, zero, suc, ◌+◌, ◌<◌, List, [], ◌∷◌, Bool, true, false, nat_lt, cond, ◌++◌, Option, Some, None, Result, Ok, Err, OnOk, ◌∙◌, refl, ap, sym, subst, arith, inl, inr}
use Rattle.std.proofs.lemmas.Bool.Decides.{nat_tests}
use Rattle.std.proofs.lemmas.Bool.{lt-ltb}
use Rattle.std.proofs.lemmas.List.Sums.{fold-append}
use Rattle.std.specs.Option.{option_and_then}
use Rattle.std.specs.Prelude.{IsTrue}
use Rattle.disk_trait.specs.Disks.{Disks, NoNewImage, OnDisk, Leaves, IsSettled, WhereTold}
use Rattle.log_frame.specs.Log.{Opened, Place, Stands, Agrees, read_log, new_log, with_body, IsBeforeOrAfter}
use Rattle.log_frame.proofs.LogAppends.{same_log, told_on}
use Rattle.log_codec.specs.Checkpoint.{state_format}
use Rattle.log_codec.specs.Format.{value_of}
use Rattle.log_codec.specs.Grammar.{body_format}
use Rattle.log_codec.specs.declared.body.Body.{Body}
use Rattle.log_codec.specs.declared.state.State.{State}
use Rattle.commit_log.specs.Recovered.{after, after_body, can_follow, chosen, counts, is_whole, next, replayed, sequence_end, stands, state_in, whole}
use Rattle.disk_trait.specs.AllDisks.{LeavesAll, MayLeaveAll, TellsAll}
use Rattle.commit_log.specs.Holds.{Under, Holding, Holds, SaysOneOf, beside}
use Rattle.disk_trait.proofs.Several.{all_of_one, all_settled, all_none}

counts_first : (o p : Opened) → p.sequence < o.sequence + 1 → counts o p ≡ o
counts_first o p less = let e : nat_lt o.sequence p.sequence ≡ false = grind (arith, nat_tests) in subst (λ (t : Bool). cond t p o ≡ o) (sym e) refl

counts_second : (o p : Opened) → p.sequence < o.sequence → counts p o ≡ o
counts_second o p less = let e : nat_lt p.sequence o.sequence ≡ true = grind (arith, nat_tests) in subst (λ (t : Bool). cond t o p ≡ o) (sym e) refl

chosen_first : (y : Option (Result Opened ℕ)) (o : Opened) → Under 0 o.sequence y → chosen (Some (Ok o)) y ≡ Some o
chosen_first y o under = elim under [
  | inl none ↦ subst (λ (r : Option (Result Opened ℕ)). chosen (Some (Ok o)) r ≡ Some o) (sym none) refl
  | inr (p, is, less) ↦ subst (λ (r : Option (Result Opened ℕ)). chosen (Some (Ok o)) r ≡ Some o) (sym is) (ap (λ (q : Opened). Some q) (counts_first o p (omega (arith, less))))
]

chosen_second : (y : Option (Result Opened ℕ)) (o : Opened) → Under 1 o.sequence y → chosen y (Some (Ok o)) ≡ Some o
chosen_second y o under = elim under [
  | inl none ↦ subst (λ (r : Option (Result Opened ℕ)). chosen r (Some (Ok o)) ≡ Some o) (sym none) refl
  | inr (p, is, less) ↦ subst (λ (r : Option (Result Opened ℕ)). chosen r (Some (Ok o)) ≡ Some o) (sym is) (ap (λ (q : Opened). Some q) (counts_second o p (omega (arith, less))))
]

-- the log that counts
pub chosen_of : (d : ℕ) (images : ℕ → List ℕ) (o : Opened) → d < 2 → Stands (images d) o → Under d o.sequence (read_log (images (beside d))) → chosen (read_log (images 0)) (read_log (images 1)) ≡ Some o
chosen_of zero images o within is under = subst (λ (r : Option (Result Opened ℕ)). chosen r (read_log (images 1)) ≡ Some o) (sym is) (chosen_first (read_log (images 1)) o under)
chosen_of (suc zero) images o within is under = subst (λ (r : Option (Result Opened ℕ)). chosen (read_log (images 0)) r ≡ Some o) (sym is) (chosen_second (read_log (images 0)) o under)
chosen_of (suc (suc n)) images o within is under = let none : ⊥ = omega (arith, within) in absurd none

-- what the disks stand for where one log counts
pub stands_of : (d : ℕ) (images : ℕ → List ℕ) (o : Opened) (s : State) → d < 2 → Stands (images d) o → Under d o.sequence (read_log (images (beside d))) → state_in o ≡ Some s → stands images ≡ Some s
stands_of d images o s within is under state = ap (λ (c : Option Opened). option_and_then state_in c) (chosen_of d images o within is under) ∙ state

pub is_other : (d : ℕ) → d < 2 → beside d ≢ d
is_other zero within = λ same. cc
is_other (suc zero) within = λ same. cc
is_other (suc (suc n)) within = λ same. let none : ⊥ = omega (arith, within) in none

pub is_log : (d : ℕ) → d < 2 → beside d < 2
is_log zero within = omega arith
is_log (suc n) within = omega arith

where_within : (t : Bool) (x y z : Option State) (s : State) → (x ≡ Some s → y ≡ z) → cond t x None ≡ Some s → cond t y None ≡ z
where_within true x y z s leads is = leads is
where_within false x y z s leads is = cc

replayed_more : (head : List ℕ) (bodies : List (List ℕ)) (body : List ℕ) (s : State) (b : Body) → value_of body_format body ≡ Some b → replayed head bodies ≡ Some s → replayed head (bodies ++ body ∷ []) ≡ next s b
unfolding replayed
replayed_more head bodies body s b spelled state =
    fold-append after_body (option_and_then whole (value_of state_format head)) bodies (body ∷ []) ∙ (ap (λ (o : Option State). after_body o body) state ∙ ap (λ (x : Option Body). option_and_then (next s) x) spelled)

-- behind one record more the log stands for the state that the record leads to, where it can come next
pub state_more : (o : Opened) (body : List ℕ) (s : State) (b : Body) → state_in o ≡ Some s → value_of body_format body ≡ Some b → state_in (with_body o body) ≡ next s b
state_more o body s b state spelled =
    where_within (nat_lt o.sequence sequence_end) (replayed o.head o.bodies) (replayed o.head (o.bodies ++ body ∷ [])) (next s b) s (replayed_more o.head o.bodies body s b spelled) state

state_next : (o : Opened) (body : List ℕ) (s : State) (b : Body) → state_in o ≡ Some s → value_of body_format body ≡ Some b → IsTrue (can_follow s b) → state_in (with_body o body) ≡ Some (after s b)
state_next o body s b state spelled can = state_more o body s b state spelled ∙ ap (λ (t : Bool). cond t (Some (after s b)) None) can

-- a log without records stands for its checkpoint, where a log can begin with it
pub state_first : (sequence : ℕ) (head : List ℕ) (s : State) → sequence < sequence_end → value_of state_format head ≡ Some s → state_in (new_log sequence head) ≡ whole s
unfolding replayed
state_first sequence head s below is =
    let e : nat_lt sequence sequence_end ≡ true = lt-ltb sequence sequence_end below in
    subst (λ (t : Bool). cond t (option_and_then whole (value_of state_format head)) None ≡ whole s) (sym e) (ap (λ (o : Option State). option_and_then whole o) is)

pub state_begun : (sequence : ℕ) (head : List ℕ) (s : State) → sequence < sequence_end → value_of state_format head ≡ Some s → IsTrue (is_whole s) → state_in (new_log sequence head) ≡ Some s
state_begun sequence head s below is fits = state_first sequence head s below is ∙ ap (λ (t : Bool). cond t (Some s) None) fits

one_state : (s t : State) (o : Option State) → o ≡ Some s → o ≡ Some t → t ≡ s
one_state s t o a b = cc

-- a record that can come behind one state that a log stands for can do so behind each
same_follows : (o : Opened) (s t : State) (b : Body) → state_in o ≡ Some s → state_in o ≡ Some t → IsTrue (can_follow t b) → IsTrue (can_follow s b)
same_follows o s t b is was can = subst (λ (x : State). IsTrue (can_follow x b)) (one_state s t (state_in o) is was) can

-- each image of all disks, while a record is added to the log that counts
pub append_says : (old new : Disks) (place : Place) (s t : State) (b : Body) (body : List ℕ) → Holds old place s → Holds old place t → IsTrue (can_follow t b) → value_of body_format body ≡ Some b → TellsAll old → ((opened : Opened) → WhereTold old place.disk (λ bytes. Stands bytes opened → Leaves old new place.disk (IsBeforeOrAfter opened body))) → LeavesAll old new (SaysOneOf s b)
append_says old new place s t b body holds had can spelled tells any =
    let d = place.disk in
    let logs : beside d < 2 = is_log d holds.within in
    let log = tells d (omega (arith, holds.within)) in
    let other = tells (beside d) (omega (arith, logs)) in
    let agrees = holds.agrees log.0 log.1 in
    let h = holds.told log.0 other.0 log.1 other.1 agrees.opened agrees.stands in
    let k = had.told log.0 other.0 log.1 other.1 agrees.opened agrees.stands in
    all_of_one old new d (IsBeforeOrAfter agrees.opened body) (SaysOneOf s b) (omega (arith, holds.within)) (any agrees.opened log.0 log.1 agrees.stands)
    (λ images others this.
    let stays : images (beside d) ≡ other.0 = holds.settled (beside d) (omega (arith, logs)) other.0 other.1 (images (beside d)) (others (beside d) (omega (arith, logs)) (is_other d holds.within)) in
    let under : Under d agrees.opened.sequence (read_log (images (beside d))) = subst (λ (l : List ℕ). Under d agrees.opened.sequence (read_log l)) (sym stays) h.under in
    elim this [
      | inl before ↦ inl (stands_of d images agrees.opened s holds.within before under h.state)
      | inr more ↦ inr (stands_of d images (with_body agrees.opened body) (after s b) holds.within more under (state_next agrees.opened body s b h.state spelled (same_follows agrees.opened s t b h.state k.state can)))
    ])

-- after Ok the log holds the state with the entry put behind
pub append_holds : (old new : Disks) (place now' : Place) (s t : State) (b : Body) (body : List ℕ) → Holds old place s → Holds old place t → IsTrue (can_follow t b) → value_of body_format body ≡ Some b → OnDisk old new place.disk → IsSettled new place.disk → now'.disk ≡ place.disk → WhereTold new place.disk (Agrees now') → ((opened : Opened) → WhereTold old place.disk (λ bytes. Stands bytes opened → WhereTold new place.disk (λ final. Stands final (with_body opened body)))) → Holds new now' (after s b)
append_holds old new place now' s t b body holds had can spelled alone settled same agrees appended = record {
  within = omega (arith, same, holds.within);
  settled = all_settled old new place.disk alone holds.settled settled;
  agrees = subst (λ (d : ℕ). WhereTold new d (Agrees now')) (sym same) agrees;
  told = subst (λ (d : ℕ). (log other : List ℕ) → new.content d ≡ Some log → new.content (beside d) ≡ Some other → (opened : Opened) → Stands log opened → Holding d opened (after s b) other) (sym same) there;
}
  where
    there : (log other : List ℕ) → new.content place.disk ≡ Some log → new.content (beside place.disk) ≡ Some other → (opened : Opened) → Stands log opened → Holding place.disk opened (after s b) other
    there log other told beside_told opened stood =
        let was = told_on (new.content place.disk) (old.content place.disk) log (sym alone.told) told in
        let other_was = sym (alone.others (beside place.disk) (is_other place.disk holds.within)) ∙ beside_told in
        let before = holds.agrees was.0 was.1 in
        let h = holds.told was.0 other was.1 other_was before.opened before.stands in
        let k = had.told was.0 other was.1 other_was before.opened before.stands in
        let is : with_body before.opened body ≡ opened = same_log log (with_body before.opened body) opened (appended before.opened was.0 was.1 before.stands log told) stood in
        subst (λ (o : Opened). Holding place.disk o (after s b) other) is (record { under = h.under; state = state_next before.opened body s b h.state spelled (same_follows before.opened s t b h.state k.state can) })

-- where an open log holds a state, each image of the disks stands for it
pub holds_says : (disks : Disks) (place : Place) (s : State) → Holds disks place s → TellsAll disks → (images : ℕ → List ℕ) → MayLeaveAll disks disks.time images → stands images ≡ Some s
holds_says disks place s holds tells images left =
    let d = place.disk in
    let logs : beside d < 2 = is_log d holds.within in
    let log = tells d (omega (arith, holds.within)) in
    let other = tells (beside d) (omega (arith, logs)) in
    let agrees = holds.agrees log.0 log.1 in
    let h = holds.told log.0 other.0 log.1 other.1 agrees.opened agrees.stands in
    let here : images d ≡ log.0 = holds.settled d (omega (arith, holds.within)) log.0 log.1 (images d) (left d (omega (arith, holds.within))) in
    let there : images (beside d) ≡ other.0 = holds.settled (beside d) (omega (arith, logs)) other.0 other.1 (images (beside d)) (left (beside d) (omega (arith, logs))) in
    stands_of d images agrees.opened s holds.within
    (subst (λ (l : List ℕ). Stands l agrees.opened) (sym here) agrees.stands)
    (subst (λ (l : List ℕ). Under d agrees.opened.sequence (read_log l)) (sym there) h.under)
    h.state

-- before any call
pub none_says : (disks : Disks) (place : Place) (s : State) (b : Body) → Holds disks place s → TellsAll disks → LeavesAll disks disks (SaysOneOf s b)
none_says disks place s b holds tells = all_none disks (SaysOneOf s b) (λ images left. inl (holds_says disks place s holds tells images left))

-- three facts at Ok give a fourth
pub ok_of_three : {T E A B C D : Type 0} (r : Result T E) → (A → B → C → D) → OnOk r A → OnOk r B → OnOk r C → OnOk r D
ok_of_three (Ok x) leads a b c = leads a b c
ok_of_three (Err e) leads a b c = a

-- calls on a log disk leave the disk of pages
pub pages_stay : (old new : Disks) (at disk : ℕ) → disk ≡ at → at < 2 → OnDisk old new disk → new.content 2 ≡ old.content 2
pages_stay old new at disk is within alone = alone.others 2 (λ same. let no : 2 < 2 = omega (arith, same, is, within) in omega (arith, no))

-- and what a crash may leave of it
pub pages_still : (old new : Disks) (at disk : ℕ) → disk ≡ at → at < 2 → OnDisk old new disk → NoNewImage old new 2
pages_still old new at disk is within alone = λ image left. alone.others_images new.time 2 image (λ same. let no : 2 < 2 = omega (arith, same, is, within) in omega (arith, no)) alone.later (omega arith) left

-- what holds behind a call that ended well
pub ok_then : {T E A B : Type 0} (result : Result T E) → (A → B) → OnOk result A → OnOk result B
ok_then (Ok x) f a = f a
ok_then (Err e) f a = tt
