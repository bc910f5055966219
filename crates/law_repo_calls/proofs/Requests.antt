-- A request against which nothing stands is made, and its sender vouches for it; or it is refused by what stands against it.
use Rattle.log_entries.specs.RequestForm.{NamesRise}
use Rattle.log_entries.specs.declared.entry.Entry.TheVariants.{Prepared}
use Rattle.log_entries.specs.declared.entry.Entry.{Entry}
use Rattle.log_entries.specs.declared.request.Kind.TheVariants.{App, Transform, Upgrade}
use Rattle.log_entries.specs.declared.request.Kind.{Kind}
use Rattle.log_entries.specs.declared.request.Request.{Request}
use Rattle.spec_history.specs.History as history
use Rattle.spec_history.specs.History.{Base}
use Rattle.spec_history.specs.Participants.{IsAlone}
use Rattle.spec_history.specs.Requests.{is_upgrade_kind}
use Rattle.law_repo_memory.specs.Running.{Repository}
use Rattle.mob_buffer.specs.Buffer as buffer
use Rattle.object_codec.specs.Spelling.{obj_bytes}
use Rattle.repo_core.specs.Behind.{alone_entry, epoch_of}
use Rattle.repo_core.specs.Calls.{MayRequest, full_of, judged}
use Rattle.repo_core.specs.Refusing.{made_of}
use Rattle.repo_core.specs.Shown.{Shown}
use Rattle.law_repo_calls.proofs.Phases.{agreement, limit_up}
use Rattle.law_repo_calls.specs.Seen.{StandsRight, seen}
use Rattle.law_repo_calls.specs.Vouching.{IsSent}
use Rattle.law_repo_memory.proofs.Judging.{epoch-fits}
use Rattle.law_repo_memory.specs.Agreeing.{state_of, trace_of}
use Rattle.spec_trace.specs.Session.{session}
use Rattle.spec_trace.specs.Exact.{WritesOnPages}
use Rattle.law_repo_runs.specs.Happening.{MayMake, RequestIsMade, WasMaking, WasRefused}
use Rattle.serial_model.proofs.SortedMaps.{put_all}
use Rattle.std.proofs.Common.{Bool, List, Option, [], ◌∷◌, ap, arith, cond, false, inl, inr, length, refl, subst, sym, true, ℕ, ◌+◌, ◌<◌, ◌∙◌, ◌≡◌, ◌≤◌}
use Rattle.std.proofs.lemmas.Bool.{eqb-true, ltb-false, ltb-true}
use Rattle.std.specs.List.{fold, list_any, sum_by}
use Rattle.std.specs.Map.{keys_of}
use Rattle.std.specs.Option.{IsSomeAnd, option_or}
use Rattle.std.specs.Prelude.{None, Some, nat_eq, nat_lt, ◌||◌, ◌⊎◌}
use Rattle.thor_value.proofs.NameOrders.{oref_total}
use Rattle.thor_value.specs.FiniteMap.{Map, values}
use Rattle.thor_value.specs.Names.{oref_cmp}
use Rattle.thor_value.specs.declared.names.Oref.{Oref}
use Rattle.thor_value.specs.declared.values.Obj.{Obj}
use Rattle.repo_refusals.specs.Refusals.{bytes_of}
use Rattle.base_reasons.specs.declared.reason.Reason.TheVariants as reasons
use Rattle.repo_refusals.specs.declared.refusal.Refusal.TheVariants as refused
use Rattle.repo_refusals.specs.declared.refusal.Refusal.{Refusal}
use Rattle.repo_volatile.specs.Volatile.{verdict}

-- ---- what a request writes

over : (a b c : ℕ) → a + b + c ≡ a + (b + c)
over a b c = omega arith

none_more : (a : ℕ) → a ≡ a + 0
none_more a = omega arith

from_none : (a : ℕ) → 0 + a ≡ a
from_none a = omega arith

sum_from : (n : ℕ) (ws : List (Oref × Obj)) → fold (λ (a : ℕ) (o : Obj). a + length (obj_bytes o)) n (values {R = oref_cmp} (record { pairs = ws })) ≡ n + buffer.bytes_of ws
sum_from n [] = none_more n
sum_from n (w ∷ ws) = sum_from (n + length (obj_bytes w.1)) ws ∙ over n (length (obj_bytes w.1)) (buffer.bytes_of ws)

sum_bytes : (ws : List (Oref × Obj)) → sum_by (λ o. length (obj_bytes o)) (values {R = oref_cmp} (record { pairs = ws })) ≡ buffer.bytes_of ws
sum_bytes ws = sum_from 0 ws ∙ from_none (buffer.bytes_of ws)

-- the bytes of what it writes, name by name
pub same_bytes : (q : Request) → NamesRise (keys_of q.writes) → bytes_of q ≡ buffer.bytes_of q.writes
same_bytes q rises = ap (λ (m : Map oref_cmp Obj). sum_by (λ o. length (obj_bytes o)) (values m)) (put_all oref_total q.writes rises) ∙ sum_bytes q.writes

-- ---- what stands against it

none_of_first : (o p : Option Refusal) → option_or o p ≡ None → o ≡ None
none_of_first None p e = refl
none_of_first (Some r) p e = absurd (cc)

none_of_second : (o p : Option Refusal) → option_or o p ≡ None → p ≡ None
none_of_second None p e = e
none_of_second (Some r) p e = absurd (cc)

either : (o p : Option Refusal) (r : Refusal) → option_or o p ≡ Some r → (o ≡ Some r) ⊎ ((o ≡ None) × (p ≡ Some r))
either None p r e = inr (refl, e)
either (Some s) p r e = inl e

fits_so : (limit bytes : ℕ) (x : Bool) → nat_lt limit bytes ≡ x → cond x (Some (refused.Reason (reasons.Full limit))) None ≡ None → bytes ≤ limit
fits_so limit bytes true is e = absurd (cc)
fits_so limit bytes false is e = ltb-false limit bytes is

full_so : (limit bytes : ℕ) (r : Refusal) (x : Bool) → nat_lt limit bytes ≡ x → cond x (Some (refused.Reason (reasons.Full limit))) None ≡ Some r → (r ≡ refused.Reason (reasons.Full limit)) × (limit < bytes)
full_so limit bytes r true is e = (cc, ltb-true limit bytes is)
full_so limit bytes r false is e = absurd (cc)

-- who takes part alone is the coordinator
alone_here : (b : Base) (q : Request) → q.others ≡ [] → list_any (nat_eq q.tx.repo) (b.repo ∷ q.others) ≡ true → IsAlone b q
alone_here b q none takes = (none, by (nat_eq q.tx.repo b.repo) refl (subst (λ (others : List ℕ). list_any (nat_eq q.tx.repo) (b.repo ∷ others) ≡ true) none takes))
  where
    by : (y : Bool) → nat_eq q.tx.repo b.repo ≡ y → nat_eq q.tx.repo b.repo || false ≡ true → q.tx.repo ≡ b.repo
    by true is t = eqb-true q.tx.repo b.repo is
    by false is t = absurd (never (subst (λ (z : Bool). z || false ≡ true) is t))
      where
        never : false ≡ true → ⊥
        never e = cc

module _ (b : Base) (x : Shown) (k : StandsRight b x) (up : x.is_up ≡ true) (s : ℕ) (q : Request) (alone : Bool) (may : MayRequest x.held x.memory q alone) (sent : IsSent b x s q) where
  -- the epoch that is held is the history's
  epoch : epoch_of x.held ≡ history.epoch_of (state_of b x.trace)
  epoch = epoch-fits b x.trace x.held x.memory (agreement b x k up) (omega (arith, sent.counted))

  by_history : (o : Option Refusal) → verdict x.memory (epoch_of x.held) s q ≡ o → verdict x.memory (history.epoch_of (state_of b x.trace)) q.session q ≡ o
  by_history o e =
      subst (λ (n : ℕ). verdict x.memory n q.session q ≡ o) epoch
      (subst (λ (t : ℕ). verdict x.memory (epoch_of x.held) t q ≡ o) (sym sent.own) e)

  bytes : bytes_of q ≡ buffer.bytes_of q.writes
  bytes = same_bytes q may.form.written_rises

  pub is_made : judged x.held x.memory s q ≡ None → RequestIsMade b (seen x) q
  is_made none = record {
    accepted = record {
      in_order = may.in_order;
      verdict = by_history None (none_of_first (verdict x.memory (epoch_of x.held) s q) (full_of x.held q) none);
      fits = subst (λ (n : ℕ). n ≤ b.limit) (sym bytes) (subst (λ (n : ℕ). buffer.bytes_of q.writes ≤ n) (limit_up b x k up)
          (fits_so x.held.objects.mob.limit (buffer.bytes_of q.writes) (nat_lt x.held.objects.mob.limit (buffer.bytes_of q.writes)) refl (none_of_second (verdict x.memory (epoch_of x.held) s q) (full_of x.held q) none)));
      unknown = may.unknown;
      unkept = may.unkept;
    };
    vouched = sent.vouched;
    client = subst (λ (t : ℕ). IsSomeAnd (session b (trace_of x.trace) t) (λ v. v.client ≡ q.who.client)) (sym sent.own) sent.client;
    upto = sent.upto;
    paged = subst (λ (t : ℕ). WritesOnPages b (trace_of x.trace) t q) (sym sent.own) sent.paged;
  }

  pub was_refused : (r : Refusal) → judged x.held x.memory s q ≡ Some r → WasRefused b (seen x) s (Some q) r
  was_refused r e = (sent.own, (may.in_order, why (either (verdict x.memory (epoch_of x.held) s q) (full_of x.held q) r e)))
    where
      why : (verdict x.memory (epoch_of x.held) s q ≡ Some r) ⊎ ((verdict x.memory (epoch_of x.held) s q ≡ None) × (full_of x.held q ≡ Some r))
          → (verdict x.memory (history.epoch_of (state_of b x.trace)) q.session q ≡ Some r) ⊎ ((verdict x.memory (history.epoch_of (state_of b x.trace)) q.session q ≡ None) × (r ≡ refused.Reason (reasons.Full b.limit)) × (b.limit < bytes_of q))
      why (inl first) = inl (by_history (Some r) first)
      why (inr last) =
          let full : (r ≡ refused.Reason (reasons.Full x.held.objects.mob.limit)) × (x.held.objects.mob.limit < buffer.bytes_of q.writes) = full_so x.held.objects.mob.limit (buffer.bytes_of q.writes) r (nat_lt x.held.objects.mob.limit (buffer.bytes_of q.writes)) refl last.1 in
          inr (by_history None last.0, full.0 ∙ ap (λ t. refused.Reason (reasons.Full t)) (limit_up b x k up), subst (λ (n : ℕ). n < bytes_of q) (limit_up b x k up) (subst (λ (n : ℕ). x.held.objects.mob.limit < n) (sym bytes) full.1))

  -- ---- its entry

  alone_is : alone ≡ true → IsAlone b q
  alone_is a = alone_here b q (may.takes_part.0 a) sent.vouched.vouched.participants.coordinator

  pub may_alone : alone ≡ true → judged x.held x.memory s q ≡ None → (kind : Kind) → q.kind ≡ kind → MayMake b (seen x) (alone_entry kind q)
  may_alone a none App is = (is_made none, alone_is a, ap is_upgrade_kind is)
  may_alone a none Transform is = (is_made none, alone_is a, ap is_upgrade_kind is)
  may_alone a none (Upgrade text) is = (is_made none, alone_is a, ap is_upgrade_kind is)

  pub may_share : alone ≡ false → judged x.held x.memory s q ≡ None → MayMake b (seen x) (Prepared q)
  may_share a none = (is_made none, λ (e : q.others ≡ []). never (may.takes_part.1 e))
    where
      never : alone ≡ true → ⊥
      never t = cc

-- an entry that may be made was being made, where nothing stood against it
pub was_making : (b : Base) (X : Repository) (o : Option Refusal) (e : Entry) → (o ≡ None → MayMake b X e) → WasMaking b X (made_of o e)
was_making b X None e may = may refl
was_making b X (Some r) e may = tt
