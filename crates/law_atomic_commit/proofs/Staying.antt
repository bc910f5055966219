-- What a call knows of the other repositories stays true, and where all begins.
use Rattle.log_entries.specs.declared.entry.Entry.TheVariants.{Decided, Finished, Life, One, Prepared, Upgraded}
use Rattle.log_entries.specs.declared.entry.Entry.{Entry}
use Rattle.log_entries.specs.declared.request.Request.{Request}
use Rattle.spec_history.specs.History.{Base, known_by}
use Rattle.spec_history.specs.Participants.{takes_part}
use Rattle.law_atomic_commit.proofs.Grown.{aborted-stays, committed-stays, onward}
use Rattle.law_atomic_commit.specs.Growing.{Continues, MayCome, MayDecide, MayFinish, grown, opened_at}
use Rattle.law_atomic_commit.specs.Several.{Alike, AreAlike, AreSound, IsAtomic, Several, part}
use Rattle.std.proofs.Common.{Bool, [], false, inl, inr, refl, subst, sym, true, ℕ, ◌++◌, ◌<◌, ◌≡◌, ◌≢◌, ◌∙◌, ◌∷◌}
use Rattle.std.proofs.lemmas.Bool.{eqb-true}
use Rattle.std.specs.Prelude.{cond, nat_eq}
use Rattle.thor_value.specs.declared.names.Ts.{Ts}

module _ (S : Several) (n : ℕ) (d : Entry) (sd : AreSound S) (go : Continues S n d) where
  -- what stands elsewhere
  elsewhere : (r : ℕ) (t : Ts) → r ≢ n → part (grown S n d) r t ≡ part S r t
  elsewhere r t other = by (nat_eq r n) refl
    where
      by : (k : Bool) → nat_eq r n ≡ k → known_by (S.base r) (cond k (S.history r ++ d ∷ []) (S.history r)) t ≡ known_by (S.base r) (S.history r) t
      by true h = absurd (other (eqb-true r n h))
      by false h = refl

  decide-on : (r : ℕ) (t : Ts) (c : Bool) → MayDecide S r t c → MayDecide (grown S n d) r t c
  decide-on r t true (w, is, all) =
      let g = onward S n d sd go r t w is in
      (g.0, g.1, λ m takes. let k = all m (subst (λ (q : Request). takes_part r q m ≡ true) g.2.request takes) in let h = onward S n d sd go m t k.0 k.1 in (h.0, h.1))
  decide-on r t false may = tt

  finish-on : (t : Ts) (c : Bool) → MayFinish S t c → MayFinish (grown S n d) t c
  finish-on t true (w, h) = let g = onward S n d sd go t.repo t w h.there in (g.0, record { there = g.1; commits = committed-stays w.fate g.0.fate h.commits g.2.fate })
  finish-on t false (w, is, a) = let g = onward S n d sd go t.repo t w is in (g.0, g.1, aborted-stays w.fate g.0.fate a g.2.fate)

  pub may-on : (r : ℕ) (e : Entry) → r ≢ n → MayCome S r e → MayCome (grown S n d) r e
  may-on r (Life k) other may = tt
  may-on r (One q) other may = tt
  may-on r (Prepared q) other (inl may) = inl may
  may-on r (Prepared q) other (inr (w, is, alike)) = let g = onward S n d sd go q.tx.repo q.tx w is in inr (g.0, g.1, subst (λ (p : Request). AreAlike r q q.tx.repo p) (sym g.2.request) alike)
  may-on r (Decided t c) other may = decide-on r t c may
  may-on r (Finished t c) other (inl none) = inl (elsewhere r t other ∙ none)
  may-on r (Finished t c) other (inr may) = inr (finish-on t c may)
  may-on r (Upgraded q) other may = tt

pub sound-first : (repos : ℕ) (base : ℕ → Base) → ((r : ℕ) → r < repos → (base r).repo ≡ r) → ((r : ℕ) → r < repos → (base r).repos ≡ repos) → AreSound (opened_at repos base)
sound-first repos base h k = record { each = λ r. tt; numbered = h; counted = k; outside = λ r l. refl }

pub atomic-first : (repos : ℕ) (base : ℕ → Base) → IsAtomic (opened_at repos base)
atomic-first repos base = record {
  known = λ r t o is. cc;
  everywhere = λ r t w h takes. let is = h.there in cc;
  agreed = λ r t o w is c it. cc;
  given_up = λ r t o w is a it. cc;
}

pub alike-first : (repos : ℕ) (base : ℕ → Base) → Alike (opened_at repos base)
alike-first repos base = λ r t o w is it. cc
