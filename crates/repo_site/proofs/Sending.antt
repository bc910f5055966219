-- What is tested of a request is what it owes by itself.
use Rattle.cached_sets.specs.Meaning.{has_page}
use Rattle.law_repo_calls.proofs.Phases.{agreement, right_up}
use Rattle.law_repo_calls.specs.Seen.{StandsRight, seen}
use Rattle.law_repo_calls.specs.Vouching.{IsCounted, IsSent}
use Rattle.law_repo_memory.proofs.Judging.{unknown-here}
use Rattle.law_repo_memory.specs.Agreeing.{state_of, trace_of}
use Rattle.law_repo_memory.specs.Running.{IsInAgreement}
use Rattle.law_repo_sessions.specs.Agreeing.{SessionsAgree, client_of, has_cached}
use Rattle.log_entries.specs.declared.request.Request.{Request}
use Rattle.repo_core.specs.Calls.{MayRequest}
use Rattle.repo_core.specs.Shown.{Shown}
use Rattle.repo_site.proofs.Writing.{each_read, each_written, second_so, written_is_read}
use Rattle.repo_site.specs.Sited.{IsBaseOf}
use Rattle.repo_site.specs.Testing.{IsBare, IsTested}
use Rattle.spec_history.proofs.Growth.{length-state}
use Rattle.spec_history.specs.History.{Base}
use Rattle.spec_history.specs.Participants as parts
use Rattle.spec_history.specs.Participants.{HasParticipants, takes_part}
use Rattle.spec_history.specs.Sound.{Vouches}
use Rattle.spec_trace.specs.Exact.{WritesOnPages}
use Rattle.spec_trace.specs.Session.{Session, session, session_lives}
use Rattle.std.proofs.Common.{Bool, List, [], arith, cond, false, subst, sym, true, ℕ, ◌+◌, ◌<◌, ◌∙◌, ◌≡◌, ◌≤◌, ◌∷◌}
use Rattle.std.specs.List.{AllByRecursion, list_any, range_with_len}
use Rattle.std.specs.Option.{IsSomeAnd}
use Rattle.std.specs.Prelude.{None, Option, Some, nat_eq, suc, zero, ◌&&◌, ◌≢◌}
use Rattle.thor_value.specs.FiniteMap.{has}

all_map : {X : Type 0} (P Q : X → Type 0) → ((x : X) → P x → Q x) → (xs : List X) → AllByRecursion P xs → AllByRecursion Q xs
all_map P Q f [] a = tt
all_map P Q f (x ∷ xs) a = (f x a.0, all_map P Q f xs a.1)

from_itself : (a : ℕ) → a ≤ a
from_itself a = omega arith

below_more : (a n : ℕ) → a < a + suc n
below_more a n = omega arith

from_before : (a r : ℕ) → a + 1 ≤ r → a ≤ r
from_before a r l = omega (arith, l)

below_next : (a n r : ℕ) → r < a + 1 + n → r < a + suc n
below_next a n r l = omega (arith, l)

all_range : (P : ℕ → Type 0) (a n : ℕ) → ((r : ℕ) → a ≤ r → r < a + n → P r) → AllByRecursion P (range_with_len a n)
all_range P a zero f = tt
all_range P a (suc n) f = (f a (from_itself a) (below_more a n), all_range P (a + 1) n (λ r l m. f r (from_before a r l) (below_next a n r m)))

from_nothing : (r n : ℕ) → r < 0 + n → r < n
from_nothing r n l = omega (arith, l)

bare_so : (b : Base) (n repos : ℕ) (q : Request) → n ≡ b.repo → b.repos ≡ repos → IsBare n repos q → parts.IsBareUpgrade b q
bare_so b n repos q here all bare = record {
  reads = bare.reads;
  writes = bare.writes;
  creates = bare.creates;
  answers = bare.answers;
  wide = all_range (λ r. takes_part b.repo q r ≡ true) 0 b.repos (λ r from below. subst (λ (m : ℕ). takes_part m q r ≡ true) here (bare.wide r (subst (λ (m : ℕ). r < m) all (from_nothing r b.repos below))));
}

-- ---- of a session

client_is : (o : Option Session) (c : ℕ) → client_of o ≡ Some c → IsSomeAnd o (λ v. v.client ≡ c)
client_is None c e = absurd (cc)
client_is (Some v) c e = by (session_lives v) e
  where
    by : (x : Bool) → cond x (Some v.client) None ≡ Some c → v.client ≡ c
    by true k = cc
    by false k = absurd (cc)

page_is : (o : Option Session) (page : ℕ) → has_cached o page ≡ true → IsSomeAnd o (λ v. has v.pages page ≡ true)
page_is None page e = absurd (cc)
page_is (Some v) page e = second_so (session_lives v) (has v.pages page) e

module _ (b : Base) (x : Shown) (number repos s : ℕ) (q : Request) (alone : Bool) (base : IsBaseOf b number repos) (k : StandsRight b x) (up : x.is_up ≡ true) where
  a : IsInAgreement b (seen x)
  a = agreement b x k up

  sessions : SessionsAgree b (trace_of x.trace) x.memory.sessions
  sessions = (right_up b x k up).stands.1

  participants : (t : IsTested x repos s q) → HasParticipants b q
  participants t = record {
    others = subst (λ (n : ℕ). AllByRecursion (λ r. (r < n) × (r ≢ b.repo)) q.others) (sym base.count) (subst (λ (n : ℕ). AllByRecursion (λ r. (r < repos) × (r ≢ n)) q.others) a.held.repo t.parts.others);
    coordinator = subst (λ (n : ℕ). list_any (nat_eq q.tx.repo) (n ∷ q.others) ≡ true) a.held.repo t.parts.coordinator;
    least = (subst (λ (n : ℕ). q.tx.repo ≤ n) a.held.repo t.parts.itself, t.parts.least);
  }

  vouched : MayRequest x.held x.memory q alone → (t : IsTested x repos s q) → Vouches b (state_of b x.trace) q
  vouched may t = record {
    formed = may.form;
    begun = subst (λ (n : ℕ). 0 < n) (sym (length-state b x.trace.history)) (right_up b x k up).recorded.begun;
    once = unknown-here b x.trace x.held x.memory q.tx a may.unknown;
    unleft = base.left q.tx;
    alive = λ e. t.comes.alive (e ∙ sym a.held.repo) ∙ a.held.life;
    participants = participants t;
    within = written_is_read q may.in_order;
    here = each_read (λ y. y.repo ≡ b.repo) q (subst (λ (n : ℕ). AllByRecursion (λ y. y.repo ≡ n) q.ros) a.held.repo t.speaks.here);
    versions = t.speaks.versions;
    upgrades = λ u. bare_so b x.held.repo repos q a.held.repo base.count (t.bare u);
  }

  paged : (t : IsTested x repos s q) → WritesOnPages b (trace_of x.trace) s q
  paged t = each_written (λ y. IsSomeAnd (session b (trace_of x.trace) s) (λ v. has v.pages y.page ≡ true)) q
      (all_map (λ w. has_page x.memory.sessions.sets s w.0.page ≡ true) (λ w. IsSomeAnd (session b (trace_of x.trace) s) (λ v. has v.pages w.0.page ≡ true))
      (λ w e. page_is (session b (trace_of x.trace) s) w.0.page (sym ((sessions.each s).pages w.0.page) ∙ e)) q.writes t.comes.paged)

  pub is_sent : MayRequest x.held x.memory q alone → q.session ≡ s → IsCounted x → IsTested x repos s q → IsSent b x s q
  is_sent may own counted t = record {
    own = own;
    vouched = record { vouched = vouched may t; granted = t.comes.granted };
    client = client_is (session b (trace_of x.trace) s) q.who.client (sym (sessions.each s).client ∙ t.comes.client);
    upto = t.comes.upto;
    paged = paged t;
    counted = counted;
  }
