-- Events that are no client's are growth for each.
use Rattle.client_port.specs.Growing.{Grew}
use Rattle.client_port.specs.Views.{Halted}
use Rattle.law_client_views.proofs.Grown.{halts_from, none_grew}
use Rattle.law_client_views.proofs.Restarted.{comes_up, fails}
use Rattle.law_client_views.proofs.Restarting.{restarts_grow}
use Rattle.law_client_views.specs.Standing as restarts
use Rattle.law_client_views.specs.Standing.{Restarts, unsettled_of}
use Rattle.law_repo_calls.proofs.Phases.{down_phase, same_phase, torn_phase, up_phase}
use Rattle.law_repo_calls.proofs.Restarts.{recovers}
use Rattle.law_repo_calls.specs.Seen.{StandsRight, phase, phase_from, seen}
use Rattle.law_repo_memory.specs.Agreeing.{trace_of}
use Rattle.law_repo_runs.specs.Restarting.{StaysPending, life_behind}
use Rattle.law_repo_runs.specs.Standing.{Down, Phase, Torn}
use Rattle.log_entries.specs.declared.entry.Entry.TheVariants.{Life}
use Rattle.log_entries.specs.declared.entry.Entry.{Entry}
use Rattle.repo_core.specs.Behind.{Stands}
use Rattle.repo_core.specs.Refusing.{Rests}
use Rattle.repo_core.specs.Restarting as core
use Rattle.repo_core.specs.Restarting.{StaysDown}
use Rattle.repo_core.specs.Shown.{Shown}
use Rattle.repo_durable.specs.Kept.{is_fault}
use Rattle.repo_refusals.specs.declared.refusal.Refusal.{Refusal}
use Rattle.repo_sessions.specs.Sessions.{ended}
use Rattle.repo_site.specs.Run.{Run}
use Rattle.repo_site.specs.Sited.{Sited, StandsIn}
use Rattle.repo_site.specs.Working.{GrowsBy, SiteGrows}
use Rattle.repo_site.proofs.Sites.{sited}
use Rattle.repo_volatile.proofs.Lasting.{lasts_itself}
use Rattle.repo_volatile.specs.Volatile.{Memory}
use Rattle.spec_history.specs.History.{Base}
use Rattle.spec_trace.specs.Trace.{Item}
use Rattle.std.proofs.Common.{Bool, Err, List, Ok, OnErr, OnOk, Option, Result, [], ap, cond, false, inl, inr, refl, subst, sym, true, ℕ, ◌+◌, ◌∙◌, ◌≡◌}
use Rattle.std.proofs.lemmas.List.{append-nil}
use Rattle.std.specs.Prelude.{IfErr, None, Some, nat_eq, ◌⊎◌}

never_both : (t : Bool) → t ≡ true → t ≡ false → ⊥
never_both t e f = cc

module _ (b : Base) (c : ℕ) (x y : Shown) where
  abbrev T : List Item
  T = trace_of x.trace

  abbrev S : List Item
  S = trace_of y.trace

  -- it grew from this phase to that
  abbrev pub GrewTo : Phase → List Item → Phase → Type 0
  GrewTo p R q = Grew b c (unsettled_of b c T p) T (unsettled_of b c R q) R

  -- nothing came, and it stands as it stood
  pub same_grows : y.trace ≡ x.trace → phase y ≡ phase x → GrewTo (phase x) S (phase y)
  same_grows t p = subst (GrewTo (phase x) S) (sym p) (subst (λ (R : List Item). GrewTo (phase x) R (phase x)) (sym (ap trace_of t)) (none_grew b c (unsettled_of b c T (phase x)) T))

  -- nothing came, and it is down with nothing unsettled
  halted_grows : Grew b c (unsettled_of b c T (phase x)) T Halted T
  halted_grows = record { gap = []; gains = halts_from (unsettled_of b c T (phase x)); ends = sym (append-nil T) }

  down_grows : y.trace ≡ x.trace → (phase y ≡ Down None) ⊎ (phase y ≡ Torn) → GrewTo (phase x) S (phase y)
  down_grows t (inl p) = subst (GrewTo (phase x) S) (sym p) (subst (λ (R : List Item). GrewTo (phase x) R (Down None)) (sym (ap trace_of t)) halted_grows)
  down_grows t (inr p) = subst (GrewTo (phase x) S) (sym p) (subst (λ (R : List Item). GrewTo (phase x) R Torn) (sym (ap trace_of t)) halted_grows)

  -- ---- flushes and checkpoints

  rests : (r : Refusal) (f : Bool) → is_fault r ≡ f → y.is_up ≡ cond (is_fault r) false x.is_up → Rests x y r → y.trace ≡ x.trace → GrewTo (phase x) S (phase y)
  rests r true is stands left t =
      let down : y.is_up ≡ false = stands ∙ ap (λ (f : Bool). cond f false x.is_up) is in
      let fault = left.fault is in
      down_grows t (inl (down_phase y None down fault.2 fault.1))
  rests r false is stands left t =
      let same = left.other is in
      same_grows t (same_phase x y (stands ∙ ap (λ (f : Bool). cond f false x.is_up) is) same.torn same.pending)

  pub rests_grow : {X : Type 0} (result : Result X Refusal) → Stands x.is_up result y.is_up → IfErr result (Rests x y) → y.trace ≡ x.trace → GrewTo (phase x) S (phase y)
  rests_grow (Ok t) stands left same = same_grows same (up_phase y stands.1 ∙ sym (up_phase x stands.0))
  rests_grow (Err r) stands left same = rests r (is_fault r) refl stands left same

  -- ---- stops

  pub stop_grows : (calls : ℕ) → y.is_up ≡ cond (nat_eq calls 0) false x.is_up → (x.is_up ≡ false → y.pending ≡ x.pending) → (x.is_up ≡ true → y.pending ≡ None) → (x.is_up ≡ true → y.is_torn ≡ false) → y.is_torn ≡ x.is_torn → y.trace ≡ x.trace → GrewTo (phase x) S (phase y)
  stop_grows calls up pending none whole torn same = by (nat_eq calls 0) refl x.is_up refl
    where
      now : (t : Bool) → nat_eq calls 0 ≡ t → y.is_up ≡ cond t false x.is_up
      now t e = up ∙ ap (λ (f : Bool). cond f false x.is_up) e

      by : (t : Bool) → nat_eq calls 0 ≡ t → (v : Bool) → x.is_up ≡ v → GrewTo (phase x) S (phase y)
      by true e true v = down_grows same (inl (down_phase y None (now true e) (whole v) (none v)))
      by true e false v = same_grows same (same_phase x y (now true e ∙ sym v) torn (pending v))
      by false e true v = same_grows same (up_phase y (now false e ∙ v) ∙ sym (up_phase x v))
      by false e false v = same_grows same (same_phase x y (now false e) torn (pending v))

  pub disarm_grows : y.is_up ≡ x.is_up → y.is_torn ≡ x.is_torn → y.pending ≡ x.pending → y.trace ≡ x.trace → GrewTo (phase x) S (phase y)
  disarm_grows up torn pending same = same_grows same (same_phase x y up torn pending)

  -- ---- restarts

  module _ (k : StandsRight b x) where
    restarted : Restarts (phase x) T (phase y) S → GrewTo (phase x) S (phase y)
    restarted r = restarts_grow b c (phase x) (phase y) T S r

    up_again : y.is_up ≡ true → core.ComesUp x y → y.memory.sessions ≡ ended x.memory.sessions → GrewTo (phase x) S (phase y)
    up_again up n sessions =
        restarted (comes_up b (seen x) (phase x) k.right.recorded.trace (seen y) (phase y) (up_phase y up) (record {
          between = seen n.between;
          recovers = recovers b x n.between k n.recovers;
          begins = record {
            trace = n.trace;
            held = n.held;
            memory = n.memory;
            sessions = sessions ∙ ap ended (sym (ap (λ (m : Memory). m.sessions) n.recovers.memory ∙ n.recovers.takes.sessions));
          };
        }))

    stays_pending : (u t : Bool) (p q : Option Entry) → t ≡ false → (q ≡ None) ⊎ ((u ≡ false) × (q ≡ p)) → StaysPending (phase_from u t p) (Down q)
    stays_pending true t p q whole (inl none) = ap Down none
    stays_pending true t p q whole (inr same) = absurd (never_both true refl same.0)
    stays_pending false true p q whole why = absurd (never_both true refl whole)
    stays_pending false false p q whole (inl none) = inl (ap Down none)
    stays_pending false false p q whole (inr same) = inr (ap Down same.1)

    none_taken : y.is_up ≡ false → core.TakesNone x y → (t : Bool) → y.is_torn ≡ t → GrewTo (phase x) S (phase y)
    none_taken down n true t = down_grows n.trace (inr (torn_phase y down t))
    none_taken down n false t = restarted (restarts.TakesNone (subst (StaysPending (phase x)) (sym (down_phase y y.pending down t refl)) (stays_pending x.is_up x.is_torn x.pending y.pending (n.torn t) (n.pending t))) (ap trace_of n.trace))

    failed_behind : y.is_up ≡ false → core.FailsBehind x y → (t : Bool) → y.is_torn ≡ t → GrewTo (phase x) S (phase y)
    failed_behind down f true t =
        let z : Shown = f.between in
        let grew : Grew b c (unsettled_of b c T (phase x)) T Halted (trace_of z.trace) =
        restarts_grow b c (phase x) (Down None) T (trace_of z.trace) (fails b (seen x) (phase x) k.right.recorded.trace (seen z) (Down None) (inr (record {
          between = seen z;
          recovers = recovers b x z k f.recovers;
          down = record { trace = refl; moves = refl; memory = lasts_itself z.memory };
          phase = inl refl;
        }))) in
        subst (GrewTo (phase x) S) (sym (torn_phase y down t)) (subst (λ (R : List Item). Grew b c (unsettled_of b c T (phase x)) T Halted R) (sym (ap trace_of f.trace)) grew)
    failed_behind down f false t =
        restarted (fails b (seen x) (phase x) k.right.recorded.trace (seen y) (phase y) (inr (record {
          between = seen f.between;
          recovers = recovers b x f.between k f.recovers;
          down = record { trace = f.trace; moves = (f.falls.held t).objects; memory = f.falls.memory };
          phase = pending (f.falls.pending t);
        })))
      where
        pending : (y.pending ≡ None) ⊎ (y.pending ≡ Some (Life (f.between.held.life + 1))) → (phase y ≡ Down None) ⊎ (phase y ≡ Down (Some (life_behind (seen f.between))))
        pending (inl e) = inl (down_phase y None down t e)
        pending (inr e) = inr (down_phase y (Some (Life (f.between.held.life + 1))) down t e)

    stays_down : y.is_up ≡ false → StaysDown x y → GrewTo (phase x) S (phase y)
    stays_down down (inl n) = none_taken down n y.is_torn refl
    stays_down down (inr f) = failed_behind down f y.is_torn refl

    pub restart_grows : {X : Type 0} (result : Result X Refusal) → OnOk result (y.is_up ≡ true) → OnErr result (y.is_up ≡ false) → OnOk result (y.memory.sessions ≡ ended x.memory.sessions) → OnOk result (core.ComesUp x y) → OnErr result (StaysDown x y) → GrewTo (phase x) S (phase y)
    restart_grows (Ok t) up down sessions comes stays = up_again up comes sessions
    restart_grows (Err r) up down sessions comes stays = stays_down down stays

-- ---- on the repository of a run

pub grown : (run : Run) (number repos : ℕ) (x y : Shown) (s : Sited) → StandsIn run number repos x → sited number x ≡ s → GrowsBy x y → (c : ℕ) → SiteGrows run c s (sited number y)
grown run number repos x y s k is g = λ c. subst (λ (t : Sited). SiteGrows run c t (sited number y)) is (λ based. g.grows (run.base number) c (k.right based))
