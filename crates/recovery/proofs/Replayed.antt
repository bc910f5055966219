-- The state of a log, by its checkpoint and its bodies.
use Rattle.std.proofs.Common.{◌≡◌, List, None, Option, Some, [], ◌∷◌, ap, arith, cond, length, map, nat_lt, refl, subst, sym, take, true, Bool, ℕ, ◌+◌, ◌<◌, ◌^◌, ◌∙◌, get_or}
use Rattle.std.proofs.lemmas.Bool.Decides.{nat_tests}
use Rattle.std.proofs.lemmas.List.Sums.{fold_push}
use Rattle.std.specs.List.{fold}
use Rattle.std.specs.Option.{option_and_then}
use Rattle.std.specs.Prelude.{IsTrue}
use Rattle.repo_state.proofs.Unfit.{spelled_whole}
use Rattle.repo_state.specs.Keeps.{Keeps}
use Rattle.repo_state.specs.Said.{said}
use Rattle.repo_state.specs.declared.held.Held.{Held}
use Rattle.log_codec.specs.Checkpoint.{state_format}
use Rattle.log_codec.specs.Format.{value_of}
use Rattle.log_codec.specs.Grammar.{body_format}
use Rattle.log_codec.specs.declared.body.Body.{Body}
use Rattle.log_codec.specs.declared.state.State.{State}
use Rattle.log_frame.specs.Log.{Opened}
use Rattle.commit_log.specs.Recovered.{after, after_body, can_follow, next, replayed, state_in, whole}
use Rattle.recovery.specs.Damage.{put_on}
use Rattle.recovery.proofs.Read.{taken_next}

some_head : {X : Type 0} (x y : X) (xs ys : List X) → x ∷ xs ≡ y ∷ ys → x ≡ y
some_head x y xs ys is = cc

some_tail : {X : Type 0} (x y : X) (xs ys : List X) → x ∷ xs ≡ y ∷ ys → xs ≡ ys
some_tail x y xs ys is = cc

pub behind_all : (o : Option State) (records : List (List ℕ)) (bodies : List Body) → map (value_of body_format) records ≡ map Some bodies → fold after_body o records ≡ fold put_on o bodies
behind_all o [] [] is = refl
behind_all o [] (b ∷ bs) is = cc
behind_all o (r ∷ rs) [] is = cc
behind_all o (r ∷ rs) (b ∷ bs) is =
    let one : value_of body_format r ≡ Some b = some_head (value_of body_format r) (Some b) (map (value_of body_format) rs) (map Some bs) is in
    ap (λ (v : Option Body). fold after_body (option_and_then (λ s. option_and_then (next s) v) o) rs) one ∙ behind_all (put_on o b) rs bs (some_tail (value_of body_format r) (Some b) (map (value_of body_format) rs) (map Some bs) is)

pub replayed_is : (head : List ℕ) (records : List (List ℕ)) (s : State) (bodies : List Body) → value_of state_format head ≡ Some s → map (value_of body_format) records ≡ map Some bodies → replayed head records ≡ fold put_on (whole s) bodies
unfolding replayed
replayed_is head records s bodies first rest = ap (λ (o : Option State). fold after_body (option_and_then whole o) records) first ∙ behind_all (whole s) records bodies rest

-- a log stands for its checkpoint with its bodies behind it
pub state_is : (o : Opened) (s t : State) (bodies : List Body) → o.sequence < 2 ^ 62 → value_of state_format o.head ≡ Some s → map (value_of body_format) o.bodies ≡ map Some bodies → fold put_on (whole s) bodies ≡ Some t → state_in o ≡ Some t
state_is o s t bodies small first rest is =
    let test : nat_lt o.sequence (2 ^ 62) ≡ true = grind (arith, nat_tests, small) in
    ap (λ (b : Bool). cond b (replayed o.head o.bodies) None) test ∙ replayed_is o.head o.bodies s bodies first rest ∙ is

-- one body more is put
pub put_next : (o : Option State) (t u : State) (bodies : List Body) (n : ℕ) (b : Body) → n < length bodies → b ≡ get_or bodies n b → fold put_on o (take n bodies) ≡ Some t → next t b ≡ Some u → fold put_on o (take (n + 1) bodies) ≡ Some u
put_next o t u bodies n b within is so_far step =
    ap (λ (bs : List Body). fold put_on o bs) (taken_next bodies n b within is) ∙ fold_push put_on o (take n bodies) b ∙ ap (λ (x : Option State). put_on x b) so_far ∙ step

-- a record that can come next leads to the state behind it
pub next_is : (s t : State) (b : Body) → IsTrue (can_follow s b) → t ≡ after s b → next s b ≡ Some t
next_is s t b can is = ap (λ (c : Bool). cond c (Some (after s b)) None) can ∙ ap (λ (x : State). Some x) (sym is)

-- what memory says is whole
pub whole_said : (h : Held) (s : State) → Keeps h → said h ≡ s → whole s ≡ Some (said h)
whole_said h s keeps is = subst (λ (x : State). whole x ≡ Some (said h)) is (ap (λ (b : Bool). cond b (Some (said h)) None) (spelled_whole h keeps))
