-- The trace of the small run over a store's only repository is right among the traces of all that the port reaches: there are no others.
use Rattle.law_atomic_commit.specs.Several.{Alike, IsAtomic}
use Rattle.law_client_steps.proofs.Alone.{all_committed, alone}
use Rattle.law_client_steps.specs.OneExample.{seeing}
use Rattle.law_client_steps.specs.OneRepository.{HasOneRepository}
use Rattle.law_client_steps.specs.SingleParts.{HasRepositories}
use Rattle.spec_history.proofs.Listed.{recorded}
use Rattle.spec_history.specs.Examples.{only}
use Rattle.spec_history.specs.History.{Aborted, Committed, Fate, IsCommitted, Known, Open, known_by}
use Rattle.spec_history.specs.Participants.{takes_part}
use Rattle.spec_history.specs.Sound.{sound}
use Rattle.law_client_views.specs.Conditions.{seen_histories}
use Rattle.spec_trace.specs.Exact.{exact}
use Rattle.spec_trace.specs.Trace.{Item, entries}
use Rattle.std.proofs.Common.{List, [], ap, arith, cond, false, refl, subst, sym, true, ◌<◌, ◌^◌, ◌∙◌, ◌∷◌, ◌≡◌, ℕ, Bool}
use Rattle.std.proofs.lemmas.Bool.{eqb-true}
use Rattle.std.proofs.lemmas.Option.{same_Some}
use Rattle.std.specs.List.{list_any}
use Rattle.std.specs.Prelude.{None, Some, length, nat_eq, ◌≤◌}
use Rattle.thor_value.specs.declared.names.Ts.{Ts}

not_gone : (f : Fate) → IsCommitted f → f ≡ Aborted → ⊥
not_gone Open c e = c
not_gone (Committed at) c e = cc
not_gone Aborted c e = c

low : (n : ℕ) → n ≤ 0 → n ≡ 0
low n l = omega arith

-- one of these is the only one
only_one : (r n : ℕ) → list_any (nat_eq r) (n ∷ []) ≡ true → r ≡ n
only_one r n e = by (nat_eq r n) refl e
  where
    by : (t : Bool) → nat_eq r n ≡ t → list_any (nat_eq r) (n ∷ []) ≡ true → r ≡ n
    by true is any = eqb-true r n is
    by false is any = cc

module _ (T : List Item) (h : HasOneRepository (seeing T)) where
  -- what is known at a repository is known here
  here_by : (b : Bool) (t : Ts) (o : Known) → known_by only (entries (cond b T [])) t ≡ Some o → (b ≡ true) × (known_by only (entries T) t ≡ Some o)
  here_by true t o is = (refl, is)
  here_by false t o is = let f : None ≡ Some o = is in cc

  here_of : (r : ℕ) (t : Ts) (o : Known) → known_by only (entries (cond (nat_eq r 0) T [])) t ≡ Some o → known_by only (entries T) t ≡ Some o
  here_of r t o is = (here_by (nat_eq r 0) t o is).1

  first_of : (r : ℕ) (t : Ts) (o : Known) → known_by only (entries (cond (nat_eq r 0) T [])) t ≡ Some o → r ≡ 0
  first_of r t o is = eqb-true r 0 (here_by (nat_eq r 0) t o is).0

  coordinated : (t : Ts) (o : Known) → known_by only (entries T) t ≡ Some o → t.repo ≡ 0
  coordinated t o is = let k = recorded only (entries T) h.owed t o is in low t.repo (subst (λ (u : Ts). u.repo ≤ 0) k.named k.judged.vouched.participants.least.0)

  others_of : (t : Ts) (o : Known) → known_by only (entries T) t ≡ Some o → o.request.others ≡ []
  others_of t o is = let k = recorded only (entries T) h.owed t o is in alone only refl refl o.request k.judged.vouched.participants

  moved : (n : ℕ) (t : Ts) (o : Known) → n ≡ 0 → known_by only (entries T) t ≡ Some o → known_by only (entries (cond (nat_eq n 0) T [])) t ≡ Some o
  moved n t o e is = subst (λ (m : ℕ). known_by only (entries (cond (nat_eq m 0) T [])) t ≡ Some o) (sym e) is

  committed_all : (t : Ts) (o : Known) → known_by only (entries T) t ≡ Some o → IsCommitted o.fate
  committed_all = all_committed only refl refl (entries T) h.owed

  atomic : IsAtomic (seen_histories (seeing T))
  atomic = record {
    known = λ r t o is. let i = here_of r t o is in (o, moved t.repo t o (coordinated t o i) i);
    everywhere = λ r t w c takes. let i = here_of t.repo t w c.there in
        (w, moved r t w (only_one r t.repo (subst (λ (ns : List ℕ). list_any (nat_eq r) (t.repo ∷ ns) ≡ true) (others_of t w i) takes) ∙ coordinated t w i) i);
    agreed = λ r t o w is done there. committed_all t w (here_of t.repo t w there);
    given_up = λ r t o w is gone there. absurd (not_gone o.fate (committed_all t o (here_of r t o is)) gone);
  }

  alike : Alike (seen_histories (seeing T))
  alike r t o w is there =
      let i = here_of r t o is in
      let e : o ≡ w = same_Some o w (sym i ∙ here_of t.repo t w there) in
      let same : r ≡ t.repo = first_of r t o is ∙ sym (coordinated t o i) in
      record {
        who = ap (λ (k : Known). k.request.who) e;
        kind = ap (λ (k : Known). k.request.kind) e;
        fresh = ap (λ (k : Known). k.request.fresh) e;
        answer = ap (λ (k : Known). k.request.answer) e;
        participants = λ m. ap (λ (n : ℕ). takes_part n o.request m) same ∙ ap (λ (k : Known). takes_part t.repo k.request m) e;
      }

  owed : (b : Bool) → sound only (entries (cond b T []))
  owed true = h.owed
  owed false = tt

  kept_so : (b : Bool) → exact only (cond b T [])
  kept_so true = h.kept
  kept_so false = tt

  numbered : (r : ℕ) → r < 1 → 0 ≡ r
  numbered r l = omega arith

  outside : (r : ℕ) (b : Bool) → nat_eq r 0 ≡ b → 1 ≤ r → entries (cond b T []) ≡ []
  outside r true is l = absurd (none r (eqb-true r 0 is) l)
    where
      none : (n : ℕ) → n ≡ 0 → 1 ≤ n → ⊥
      none n e l = omega arith
  outside r false is l = refl

  short : (b : Bool) → length (entries (cond b T [])) < 2 ^ 64
  short true = h.short
  short false = omega arith

  pub among : HasRepositories (seeing T)
  among = record { few = omega arith; numbered = numbered; outside = λ r l. outside r (nat_eq r 0) refl l; right = record { owed = λ r. owed (nat_eq r 0); kept = λ r. kept_so (nat_eq r 0); together = record { atomic = atomic; alike = alike } }; short = λ r within. short (nat_eq r 0) }
