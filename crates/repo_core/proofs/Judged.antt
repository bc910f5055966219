-- What stands against a request gets a mark.
use Rattle.cached_sets.specs.Sets as sets
use Rattle.log_entries.specs.declared.request.Request.{Request}
use Rattle.repo_sessions.specs.Sessions.{is_live}
use Rattle.repo_core.specs.Behind.{is_marked}
use Rattle.std.proofs.Common.{Bool, Err, None, Ok, Option, Result, Some, ap, cond, false, nat_eq, refl, sym, true, ℕ, ◌<◌, ◌∙◌, ◌≡◌, ◌≤◌}
use Rattle.std.proofs.lemmas.Bool.{le-ltb, lt-ltb}
use Rattle.std.specs.Option.{option_map, option_or}
use Rattle.std.specs.Prelude.{IfErr, nat_lt}
use Rattle.thor_value.specs.declared.names.Oref.{Oref}
use Rattle.validation_queue.specs.Clashes.{clash}
use Rattle.validation_queue.specs.Contents.{first_blocking}
use Rattle.base_reasons.specs.declared.reason.Reason.TheVariants as reasons
use Rattle.base_reasons.specs.declared.reason.Reason.{Reason}
use Rattle.repo_refusals.specs.Queue.{is_too_old}
use Rattle.repo_refusals.specs.declared.refusal.Refusal.TheVariants as refused
use Rattle.repo_refusals.specs.declared.refusal.Refusal.{Refusal}
use Rattle.repo_volatile.specs.Volatile.{Memory, against, answer, is_upgrade_kind, transaction_of, verdict}

-- where there is a refusal, it gets a mark
abbrev Marked : Option Refusal → Type 0
Marked None = Unit {0}
Marked (Some r) = is_marked r ≡ true

marked_cond : (b : Bool) (x y : Option Refusal) → Marked x → Marked y → Marked (cond b x y)
marked_cond true x y p q = p
marked_cond false x y p q = q

marked_or : (x y : Option Refusal) → Marked x → Marked y → Marked (option_or x y)
marked_or (Some r) y p q = p
marked_or None y p q = q

marked_map : {A : Type 0} (f : A → Refusal) → ((a : A) → is_marked (f a) ≡ true) → (o : Option A) → Marked (option_map f o)
marked_map f each None = tt
marked_map f each (Some a) = each a

marked_stale : (stale : Option (Oref × ℕ)) → Marked (option_map (λ s. refused.Reason (reasons.Stale s.0 s.1)) stale)
marked_stale stale = marked_map (λ s. refused.Reason (reasons.Stale s.0 s.1)) (λ s. refl) stale

marked_against : (c : Option Reason) (stale : Option (Oref × ℕ)) → Marked (against c stale)
marked_against None stale = marked_stale stale
marked_against (Some c) stale =
    marked_cond (is_too_old c) (Some (refused.Reason c)) (option_or (option_map (λ s. refused.Reason (reasons.Stale s.0 s.1)) stale) (Some (refused.Reason c)))
    refl
    (marked_or (option_map (λ s. refused.Reason (reasons.Stale s.0 s.1)) stale) (Some (refused.Reason c)) (marked_stale stale) refl)

marked_verdict : (M : Memory) (epoch s : ℕ) (q : Request) → Marked (verdict M epoch s q)
marked_verdict M epoch s q =
    let found : Option Refusal = against (clash M.queue (transaction_of q)) (sets.stale M.sessions.sets s q.ros q.upto) in
    let later : Option Refusal = cond (nat_eq q.epoch epoch) found (Some (refused.Reason (reasons.Epoch epoch))) in
    let blocked : Option Refusal = option_map (λ t. refused.Reason (reasons.Blocked t)) (first_blocking M.queue (is_upgrade_kind q.kind)) in
    marked_cond (is_live M.sessions s) (option_or blocked later) (Some (refused.Reason (reasons.Gone s)))
    (marked_or blocked later
    (marked_map (λ t. refused.Reason (reasons.Blocked t)) (λ t. refl) (first_blocking M.queue (is_upgrade_kind q.kind)))
    (marked_cond (nat_eq q.epoch epoch) found (Some (refused.Reason (reasons.Epoch epoch))) (marked_against (clash M.queue (transaction_of q)) (sets.stale M.sessions.sets s q.ros q.upto)) refl))
    refl

of_answer : (o : Option Refusal) (r : Refusal) → Marked o → answer o ≡ Err r → is_marked r ≡ true
of_answer None r m e = absurd (cc)
of_answer (Some s) r m e = cc

-- what stands against a request is none of a fault
pub judged : (M : Memory) (epoch s : ℕ) (q : Request) (r : Refusal) → answer (verdict M epoch s q) ≡ Err r → is_marked r ≡ true
judged M epoch s q r e = of_answer (verdict M epoch s q) r (marked_verdict M epoch s q) e

-- where nothing is answered nothing stands against it
pub accepted : (o : Option Refusal) → answer o ≡ Ok tt → o ≡ None
accepted None e = refl
accepted (Some r) e = absurd (cc)

-- the first refusal stands, whatever the buffer's limit has against a request
pub first_refused : (o p : Option Refusal) (r : Refusal) → answer o ≡ Err r → Err r ≡ answer (option_or o p)
first_refused None p r e = absurd (cc)
first_refused (Some s) p r e = sym e

pub refused_by : (o : Option Refusal) (r : Refusal) → answer o ≡ Err r → o ≡ Some r
refused_by None r e = absurd (cc)
refused_by (Some s) r e = cc

pub room_judged : (limit bytes : ℕ) (o : Option Refusal) → bytes ≤ limit → o ≡ None → Ok tt ≡ answer (option_or o (cond (nat_lt limit bytes) (Some (refused.Reason (reasons.Full limit))) None))
room_judged limit bytes o fits none =
    sym (ap (λ (p : Option Refusal). answer (option_or p (cond (nat_lt limit bytes) (Some (refused.Reason (reasons.Full limit))) None))) none ∙ ap (λ (b : Bool). answer (cond b (Some (refused.Reason (reasons.Full limit))) None)) (le-ltb limit bytes fits))

pub full_judged : (limit bytes : ℕ) (r : Refusal) (o : Option Refusal) → r ≡ refused.Reason (reasons.Full limit) → limit < bytes → o ≡ None → Err r ≡ answer (option_or o (cond (nat_lt limit bytes) (Some (refused.Reason (reasons.Full limit))) None))
full_judged limit bytes r o is over none =
    ap (λ (s : Refusal). Err s) is ∙ sym (ap (λ (p : Option Refusal). answer (option_or p (cond (nat_lt limit bytes) (Some (refused.Reason (reasons.Full limit))) None))) none ∙ ap (λ (b : Bool). answer (cond b (Some (refused.Reason (reasons.Full limit))) None)) (lt-ltb limit bytes over))

pub first_of : (result : Result (Unit {0}) Refusal) (o : Option Refusal) → result ≡ answer o → IfErr result (λ r. (p : Option Refusal) → Err r ≡ answer (option_or o p))
first_of (Ok t) o is = tt
first_of (Err r) o is = λ p. first_refused o p r (sym is)
