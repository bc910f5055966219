-- What is damaged stands for no state.
use Rattle.std.proofs.Common.{◌≡◌, ◌⊎◌, Bool, List, None, Option, Some, [], ◌∷◌, ap, arith, cond, false, inl, inr, nat_lt, refl, suc, true, zero, ℕ, ◌^◌, ◌∙◌, ◌≤◌}
use Rattle.std.proofs.lemmas.Bool.Decides.{nat_tests}
use Rattle.std.specs.List.{fold}
use Rattle.std.specs.Option.{IfSome, IsSome, option_and_then}
use Rattle.std.specs.Prelude.{IsTrue, slice_get, take}
use Rattle.log_codec.specs.Checkpoint.{state_format}
use Rattle.log_codec.specs.Format.{value_of}
use Rattle.log_codec.specs.Grammar.{body_format}
use Rattle.log_codec.specs.declared.body.Body.TheVariants.{Entry as AnEntry}
use Rattle.log_codec.specs.declared.body.Body.{Body}
use Rattle.log_codec.specs.declared.state.State.{State}
use Rattle.log_frame.specs.Log.{Opened}
use Rattle.repo_state.specs.Said.{said}
use Rattle.commit_log.specs.Opening.{Found, log_of}
use Rattle.page_format.specs.declared.format.StoreFormat.TheVariants.{Two}
use Rattle.recovery.proofs.Aside.{recorded_none}
use Rattle.commit_log.specs.Recovered.{after, after_body, can_follow, in_format, is_whole, next, replayed, sequence_end, stands, state_in, whole}
use Rattle.recovery.proofs.Replayed.{replayed_is}
use Rattle.recovery.specs.Damage.{CantHold, CantPut, Fault, IsBroken, IsNoBody, IsUnheld, NoBody, NoCheckpoint, NoSequence, put_on}

-- ---- a log that stands for nothing

none_behind : (bodies : List (List ℕ)) → fold after_body None bodies ≡ None
none_behind [] = refl
none_behind (b ∷ bs) = none_behind bs

behind_none : (o : Option State) (body : List ℕ) → value_of body_format body ≡ None → after_body o body ≡ None
behind_none None body none = refl
behind_none (Some s) body none = ap (λ (v : Option Body). option_and_then (next s) v) none

none_within : (o : Option State) (bodies : List (List ℕ)) (at : ℕ) (body : List ℕ) → slice_get bodies at ≡ Some body → value_of body_format body ≡ None → fold after_body o bodies ≡ None
none_within o [] at body is none = cc
none_within o (b ∷ bs) zero body is none =
    let same : b ≡ body = cc in
    ap (λ (p : Option State). fold after_body p bs) (behind_none o b (ap (value_of body_format) same ∙ none)) ∙ none_behind bs
none_within o (b ∷ bs) (suc at) body is none = none_within (after_body o b) bs at body is none

no_head : (head : List ℕ) (bodies : List (List ℕ)) → value_of state_format head ≡ None → replayed head bodies ≡ None
unfolding replayed
no_head head bodies none = ap (λ (o : Option State). fold after_body (option_and_then whole o) bodies) none ∙ none_behind bodies

no_body_in : (head : List ℕ) (bodies : List (List ℕ)) (first place : ℕ) → IsNoBody first bodies place → replayed head bodies ≡ None
unfolding replayed
no_body_in head bodies first place wrong = none_within (option_and_then whole (value_of state_format head)) bodies wrong.at wrong.body wrong.is wrong.none

no_state : (b : Bool) (o : Option State) → o ≡ None → cond b o None ≡ None
no_state true o is = is
no_state false o is = refl

too_great : (o : Opened) → sequence_end ≤ o.sequence → state_in o ≡ None
too_great o big =
    let test : nat_lt o.sequence (2 ^ 62) ≡ false = grind (arith, nat_tests, big) in
    ap (λ (b : Bool). cond b (replayed o.head o.bodies) None) test

-- ---- a log that can't be taken into memory

none_put : (bodies : List Body) → fold put_on None bodies ≡ None
none_put [] = refl
none_put (b ∷ bs) = none_put bs

not_next : (s : State) (b : Body) → can_follow s b ≡ false → next s b ≡ None
not_next s b isnt = ap (λ (c : Bool). cond c (Some (after s b)) None) isnt

cant_follow : (o : Option State) (bodies : List Body) (at : ℕ) (s : State) (b : Body) → fold put_on o (take at bodies) ≡ Some s → slice_get bodies at ≡ Some b → can_follow s b ≡ false → fold put_on o bodies ≡ None
cant_follow o [] at s b so_far is isnt = cc
cant_follow o (c ∷ bs) zero s b so_far is isnt =
    let same : c ≡ b = cc in
    ap (λ (p : Option State). fold put_on p bs) (ap (λ (p : Option State). put_on p c) so_far ∙ ap (next s) same ∙ not_next s b isnt) ∙ none_put bs
cant_follow o (c ∷ bs) (suc at) s b so_far is isnt = cant_follow (put_on o c) bs at s b so_far is isnt

not_whole : (s : State) (b : Bool) → is_whole s ≡ b → (IsTrue (is_whole s) → ⊥) → whole s ≡ None
not_whole s true is broken = absurd (broken is)
not_whole s false is broken = ap (λ (b : Bool). cond b (Some s) None) is

unheld_in : (s : State) (bodies : List Body) → IsBroken s ⊎ CantPut (whole s) bodies → fold put_on (whole s) bodies ≡ None
unheld_in s bodies (inl broken) = ap (λ (o : Option State). fold put_on o bodies) (not_whole s (is_whole s) refl broken.not_whole) ∙ none_put bodies
unheld_in s bodies (inr cant) = cant_follow (whole s) bodies cant.at (said cant.held) (AnEntry cant.entry) cant.so_far cant.is cant.refused

unheld_none : (o : Opened) → IsUnheld o → replayed o.head o.bodies ≡ None
unheld_none o unheld = replayed_is o.head o.bodies unheld.state unheld.bodies unheld.head unheld.records ∙ recorded_none unheld.state unheld.bodies (unheld_in (in_format Two unheld.state) unheld.bodies unheld.unfit)

-- ---- by what is wrong

by_fault : (place : ℕ) (o : Opened) → Fault o place → state_in o ≡ None
by_fault place o (NoSequence big at) = too_great o big
by_fault place o (NoCheckpoint none at) = no_state (nat_lt o.sequence sequence_end) (replayed o.head o.bodies) (no_head o.head o.bodies none)
by_fault place o (NoBody wrong) = no_state (nat_lt o.sequence sequence_end) (replayed o.head o.bodies) (no_body_in o.head o.bodies _ place wrong)
by_fault place o (CantHold unheld at) = no_state (nat_lt o.sequence sequence_end) (replayed o.head o.bodies) (unheld_none o unheld)

pub inner_lost : (images : ℕ → List ℕ) (found : Option Found) (d place : ℕ) → IfSome found (λ f. (d ≡ f.0.disk) × Fault (log_of f) place) → IsSome found → stands images ≡ option_and_then (λ f. state_in (log_of f)) found → stands images ≡ None
inner_lost images None d place fault there counts = cc
inner_lost images (Some f) d place fault there counts = counts ∙ by_fault place (log_of f) fault.1
