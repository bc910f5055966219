-- What a request has found that has passed all tests, or whose session isn't live.
use Rattle.base_reasons.specs.declared.reason.Reason.TheVariants as reasons
use Rattle.law_repo_calls.proofs.Asked.{Found, IsNoLife}
use Rattle.law_repo_calls.proofs.Requests.{is_made, may_alone, may_share, was_refused}
use Rattle.law_repo_calls.specs.Seen.{StandsRight, seen}
use Rattle.law_repo_calls.specs.Vouching.{IsCounted, IsSent}
use Rattle.law_repo_memory.proofs.Answering.{session-answers}
use Rattle.law_repo_memory.proofs.Judging.{accepted-by-trace}
use Rattle.law_repo_memory.specs.Agreeing.{state_of, trace_of}
use Rattle.law_repo_calls.proofs.Phases.{agreement, right_up}
use Rattle.law_repo_runs.specs.Happening.{WasRefused}
use Rattle.log_entries.specs.declared.entry.Entry.TheVariants.{Prepared}
use Rattle.log_entries.specs.declared.request.Kind.TheVariants.{App, Transform, Upgrade}
use Rattle.log_entries.specs.declared.request.Kind.{Kind}
use Rattle.log_entries.specs.declared.request.Request.{Request}
use Rattle.repo_core.specs.Behind.{alone_entry, epoch_of}
use Rattle.repo_core.specs.Calls.{MayRequest, full_of, judged}
use Rattle.repo_core.specs.Shown.{Shown}
use Rattle.repo_refusals.specs.declared.refusal.Refusal.TheVariants as refused
use Rattle.repo_refusals.specs.declared.refusal.Refusal.{Refusal}
use Rattle.repo_sessions.specs.Sessions.{is_live}
use Rattle.repo_site.proofs.Sending.{is_sent}
use Rattle.repo_site.specs.Sited.{IsBaseOf}
use Rattle.repo_site.specs.Testing.{IsTested, IsTestedIf}
use Rattle.repo_volatile.specs.Volatile.{Memory, verdict}
use Rattle.spec_history.specs.History as histories
use Rattle.spec_history.specs.History.{Base}
use Rattle.spec_trace.specs.Verdict as traced
use Rattle.std.proofs.Common.{Bool, Option, ap, cond, false, inl, refl, subst, sym, true, ℕ, ◌∙◌, ◌≡◌}
use Rattle.std.specs.Option.{is_some, option_or}
use Rattle.std.specs.Prelude.{None, Some}
use Rattle.thor_value.specs.FiniteMap.{get}

-- ---- a session that isn't live

-- all else that stands against a request of a live session
live_cond : (t : Bool) (o : Option Refusal) (r : Refusal) (p : Option Refusal) → option_or (cond t o (Some r)) p ≡ None → t ≡ true
live_cond true o r p e = refl
live_cond false o r p e = absurd (cc)

gone_cond : (t : Bool) (o : Option Refusal) (r : Refusal) → t ≡ false → cond t o (Some r) ≡ Some r
gone_cond true o r e = cc
gone_cond false o r e = refl

-- nothing stands against a request of a live session alone
live_of_none : (x : Shown) (s : ℕ) (q : Request) → judged x.held x.memory s q ≡ None → is_live x.memory.sessions s ≡ true
live_of_none x s q e = live_cond (is_live x.memory.sessions s) _ (refused.Reason (reasons.Gone s)) (full_of x.held q) e

gone_verdict : (M : Memory) (epoch s : ℕ) (q : Request) → is_live M.sessions s ≡ false → verdict M epoch s q ≡ Some (refused.Reason (reasons.Gone s))
gone_verdict M epoch s q dead = gone_cond (is_live M.sessions s) _ (refused.Reason (reasons.Gone s)) dead

pub gone_tested : (x : Shown) (repos s : ℕ) (q : Request) → get x.memory.sessions.clients s ≡ None → IsTestedIf x repos s q
gone_tested x repos s q none = record { tested = λ live. absurd (never (sym (ap is_some none) ∙ live)) }
  where
    never : false ≡ true → ⊥
    never e = cc

pub tested_so : (x : Shown) (repos s : ℕ) (q : Request) → IsTested x repos s q → IsTestedIf x repos s q
tested_so x repos s q t = record { tested = λ live. t }

-- ---- what it has found

module _ (b : Base) (x : Shown) (number repos s : ℕ) (q : Request) (alone : Bool) (base : IsBaseOf b number repos) (k : StandsRight b x) where
  sent_if : x.is_up ≡ true → MayRequest x.held x.memory q alone → q.session ≡ s → IsCounted x → IsTestedIf x repos s q → is_live x.memory.sessions s ≡ true → IsSent b x s q
  sent_if up may own counted t live = is_sent b x number repos s q alone base k up may own counted (t.tested live)

  -- what stands against it is what refuses it
  refused_if : x.is_up ≡ true → MayRequest x.held x.memory q alone → q.session ≡ s → IsCounted x → IsTestedIf x repos s q → (r : Refusal) → judged x.held x.memory s q ≡ Some r → WasRefused b (seen x) s (Some q) r
  refused_if up may own counted t r e = by (is_live x.memory.sessions s) refl
    where
      gone : is_live x.memory.sessions s ≡ false → judged x.held x.memory s q ≡ Some (refused.Reason (reasons.Gone s))
      gone dead = ap (λ (o : Option Refusal). option_or o (full_of x.held q)) (gone_verdict x.memory (epoch_of x.held) s q dead)

      some_same : (f g : Refusal) → Some f ≡ Some g → f ≡ g
      some_same f g n = cc

      by : (l : Bool) → is_live x.memory.sessions s ≡ l → WasRefused b (seen x) s (Some q) r
      by true live = was_refused b x k up s q alone may (sent_if up may own counted t live) r e
      by false dead =
          let is : refused.Reason (reasons.Gone s) ≡ r = some_same (refused.Reason (reasons.Gone s)) r (sym (gone dead) ∙ e) in
          (own, (may.in_order, inl (subst (λ (n : ℕ). verdict x.memory (histories.epoch_of (state_of b x.trace)) n q ≡ Some r) (sym own) (gone_verdict x.memory (histories.epoch_of (state_of b x.trace)) s q dead ∙ ap Some is))))

  -- where nothing stands against it its verdict by the trace is none
  pub verdict_if : x.is_up ≡ true → MayRequest x.held x.memory q alone → q.session ≡ s → IsCounted x → IsTestedIf x repos s q → judged x.held x.memory s q ≡ None → traced.verdict b (trace_of x.trace) s q ≡ None
  verdict_if up may own counted t none =
      let sent : IsSent b x s q = sent_if up may own counted t (live_of_none x s q none) in
      subst (λ (n : ℕ). traced.verdict b (trace_of x.trace) n q ≡ None) own
      (accepted-by-trace b x.trace x.held x.memory q.session q (agreement b x k up) (session-answers b (trace_of x.trace) x.memory.sessions (right_up b x k up).stands.1) (is_made b x k up s q alone may sent none).accepted)

no_life : (kind : Kind) (q : Request) → IsNoLife (alone_entry kind q)
no_life App q = tt
no_life Transform q = tt
no_life (Upgrade text) q = tt

pub found_if_alone : (b : Base) (x : Shown) (number repos s : ℕ) (q : Request) → IsBaseOf b number repos → StandsRight b x → MayRequest x.held x.memory q true → q.session ≡ s → IsCounted x → IsTestedIf x repos s q → Found b x s q (alone_entry q.kind q)
found_if_alone b x number repos s q base k may own counted t = record {
  no_life = no_life q.kind q;
  may = λ up none. may_alone b x k up s q true may (sent_if b x number repos s q true base k up may own counted t (live_of_none x s q none)) refl none q.kind refl;
  refused = λ up r e. refused_if b x number repos s q true base k up may own counted t r e;
}

pub found_if_shared : (b : Base) (x : Shown) (number repos s : ℕ) (q : Request) → IsBaseOf b number repos → StandsRight b x → MayRequest x.held x.memory q false → q.session ≡ s → IsCounted x → IsTestedIf x repos s q → Found b x s q (Prepared q)
found_if_shared b x number repos s q base k may own counted t = record {
  no_life = tt;
  may = λ up none. may_share b x k up s q false may (sent_if b x number repos s q false base k up may own counted t (live_of_none x s q none)) refl none;
  refused = λ up r e. refused_if b x number repos s q false base k up may own counted t r e;
}
