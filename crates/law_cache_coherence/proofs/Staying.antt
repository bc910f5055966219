-- A client's session is there behind more items, and what is kept there fits where it does while the session is live and nothing is
-- unsettled.
use Rattle.law_cache_coherence.proofs.Telling.{client_stays, of_client}
use Rattle.law_cache_coherence.specs.Fitting.{FitsAt, KeepsUp, Kept}
use Rattle.spec_history.specs.History.{Base, State}
use Rattle.client_port.specs.Views.{Calm, Unsettled}
use Rattle.spec_trace.proofs.Exactness.{exact-beginning, exact-owed}
use Rattle.spec_trace.specs.Exact.{exact}
use Rattle.spec_trace.specs.Gaps.{client_in}
use Rattle.spec_trace.specs.Notices.{is_unended, lives}
use Rattle.spec_trace.specs.Session.{Ended, Live, Retired, Session, Stage, is_ended, is_live, is_silent, lives_on, move, moved, or_retired, rested, retired, session, session_ended, session_lives}
use Rattle.spec_trace.specs.Trace.{Item}
use Rattle.std.proofs.Common.{Bool, List, [], ap, append_assoc, cond, false, refl, subst, sym, true, ◌++◌, ◌∙◌, ◌∷◌, ◌≡◌, ℕ}
use Rattle.std.proofs.lemmas.List.{append-nil}
use Rattle.std.proofs.lemmas.Option.{same_Some}
use Rattle.std.specs.Option.{option_map}
use Rattle.std.specs.Prelude.{None, Option, Some, not}
use Rattle.thor_value.specs.declared.names.Ts.{Ts}

-- a live session hasn't ended
pub lives_stands : (o : Option Session) → lives o ≡ true → is_unended o ≡ true
lives_stands None e = cc
lives_stands (Some v) e = by v.stage e
  where
    by : (g : Stage) → is_live g ≡ true → not (is_ended g) ≡ true
    by Live e = refl
    by Retired e = cc
    by Ended e = cc

-- one that was live hasn't ended behind an item that ends none of its client
pub moved_stands : (b : Base) (s : ℕ) (S : State) (i : Item) (v : Session) → session_lives v ≡ true → lives_on v.client i ≡ true → is_unended (Some (move b s S i v)) ≡ true
moved_stands b s S i v live on = ap (λ (t : Bool). not (session_ended (cond t (or_retired b (moved b s S v i)) (rested v i)))) live ∙ by (is_silent b.silence (moved b s S v i))
  where
    plain : (t : Bool) → t ≡ true → not (is_ended (cond t Live Ended)) ≡ true
    plain true e = refl
    plain false e = cc

    given_up : (t : Bool) → t ≡ true → not (is_ended (retired (cond t Live Ended))) ≡ true
    given_up true e = refl
    given_up false e = cc

    by : (t : Bool) → not (session_ended (cond t (record (moved b s S v i) { stage = retired (moved b s S v i).stage }) (moved b s S v i))) ≡ true
    by true = given_up (lives_on v.client i) on
    by false = plain (lives_on v.client i) on

module _ (c : ℕ) (b : Base) where
  pub clients_stay : (s : ℕ) (T is : List Item) → exact b (T ++ is) → client_in b T s ≡ Some c → client_in b (T ++ is) s ≡ Some c
  clients_stay s T [] k mine = subst (λ (S : List Item). client_in b S s ≡ Some c) (sym (append-nil T)) mine
  clients_stay s T (i ∷ is) k mine =
      let again : (T ++ i ∷ []) ++ is ≡ T ++ (i ∷ is) = append_assoc T (i ∷ []) is in
      let k' : exact b ((T ++ i ∷ []) ++ is) = subst (exact b) (sym again) k in
      subst (λ (S : List Item). client_in b S s ≡ Some c) again (clients_stay s (T ++ i ∷ []) is k' (client_stays c b T i s (exact-owed b T i (exact-beginning b (T ++ i ∷ []) is k')) mine))

  module _ (u : Unsettled) (T : List Item) (committed : Ts → Bool) (kept : Kept) where
    -- the session is the client's
    pub is_own : FitsAt c b u T committed kept → client_in b T kept.session ≡ Some c
    is_own h = ap (option_map (λ (v : Session). v.client)) h.there ∙ ap (λ (n : ℕ). Some n) h.own

    -- of another session nothing is asked
    pub when_live : client_in b T kept.session ≡ Some c → (u ≡ Calm → lives (session b T kept.session) ≡ true → FitsAt c b u T committed kept) → FitsAt c b u T committed kept
    when_live mine f =
        let y = of_client c b (session b T kept.session) mine in
        record { v = y.0; there = y.1; own = y.2; keeps = λ calm live. keeps y.0 y.1 calm live (f calm (ap lives y.1 ∙ live)) }
      where
        keeps : (v : Session) → session b T kept.session ≡ Some v → u ≡ Calm → session_lives v ≡ true → FitsAt c b u T committed kept → KeepsUp b T committed v kept
        keeps v is calm live g =
            let same : g.v ≡ v = same_Some g.v v (sym g.there ∙ is) in
            subst (λ (w : Session). KeepsUp b T committed w kept) same (g.keeps calm (subst (λ (w : Session). session_lives w ≡ true) (sym same) live))
