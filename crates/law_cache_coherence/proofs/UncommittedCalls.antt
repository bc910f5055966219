-- What the client's own calls leave of a transaction that won't commit any more.
use Rattle.law_cache_coherence.proofs.Leaving.{Adds, HasCalled, Left, SeenRight, acts, behind_call, seen_right}
use Rattle.law_cache_coherence.proofs.Lending.{Front}
use Rattle.law_cache_coherence.proofs.Uncommitted.{grown_on, item_on}
use Rattle.client_port.specs.Acting.{Acts}
use Rattle.law_cache_coherence.specs.Doomed.{DoomedAt, IsDoomed, LeavesUndecided, decides}
use Rattle.law_cache_coherence.specs.Seen.{IsSeenRight}
use Rattle.spec_history.proofs.Growth.{sound-beginning}
use Rattle.spec_history.specs.History.{Base}
use Rattle.spec_history.specs.Sound.{sound}
use Rattle.client_port.specs.Growing.{Grew}
use Rattle.client_port.specs.Views.{Opened, Unsettled, View}
use Rattle.spec_trace.proofs.Exactness.{exact-beginning, exact-owed}
use Rattle.spec_trace.proofs.Traces.{entries-append}
use Rattle.spec_trace.specs.Exact.{exact}
use Rattle.spec_trace.specs.Trace.{Item, entries}
use Rattle.std.proofs.Common.{Bool, List, inl, inr, subst, sym, ◌++◌, ◌≡◌, ℕ}
use Rattle.thor_value.specs.declared.names.Ts.{Ts}

module _ (c : ℕ) (b : Base) (t : Ts) (home : t.repo ≡ b.repo) where
  added : (at after : List Item) (met u : Unsettled) → Adds (decides t) at after u → exact b after → sound b (entries after) → DoomedAt c b met at t → DoomedAt c b u after t
  added at after met u (inl same, coming) k sd d = subst (λ (S : List Item). DoomedAt c b u S t) (sym same) (record { o = d.o; there = d.there; own = d.own; uncommitted = d.uncommitted; coming = coming })
  added at after met u (inr (i, is, other), coming) k sd d =
      subst (λ (S : List Item). DoomedAt c b u S t) (sym is)
      (item_on c b at i met u t home other (exact-owed b at i (subst (exact b) is k)) (subst (λ (S : List Item). sound b (entries S)) is sd) coming d)

  left : (at after : List Item) (met u : Unsettled) → Left (decides t) met at after u → exact b after → sound b (entries after) → DoomedAt c b met at t → DoomedAt c b u after t
  left at after met u (inl a) k sd d = added at after met u a.1 k sd d
  left at after met u (inr a) k sd d = subst (λ (S : List Item). DoomedAt c b u S t) (sym a.1) (subst (λ (v : Unsettled). DoomedAt c b v at t) (sym a.2) d)

module _ (old new : View) (t : Ts) (committed : Ts → Bool) (seen : IsSeenRight new t.repo committed) (d : IsDoomed old t) where
  called : HasCalled (decides t) old new → IsDoomed new t
  called h =
      let right = seen_right old new t.repo committed h.called.same seen in
      subst (λ (o : Opened). DoomedAt o.client (o.base t.repo) (new.unsettled t.repo) (new.seen t.repo) t) (sym h.called.same)
      (behind_call (decides t) old new h t.repo (λ n. DoomedAt old.opened.client (old.opened.base n) (new.unsettled n) (new.seen n) t)
      (λ grew. grown_on old.opened.client (old.opened.base t.repo) (old.unsettled t.repo) (new.unsettled t.repo) (old.seen t.repo) (new.seen t.repo) t grew right.kept right.owed (sym right.numbered) d)
      (λ grew l front. here right grew l front))
    where
      here : SeenRight old new t.repo → Grew (old.opened.base t.repo) old.opened.client (old.unsettled t.repo) (old.seen t.repo) h.met h.at → Left (decides t) h.met h.at (new.seen t.repo) (new.unsettled t.repo) → Front h.at (new.seen t.repo)
          → DoomedAt old.opened.client (old.opened.base t.repo) (new.unsettled t.repo) (new.seen t.repo) t
      here right grew l front =
          let b : Base = old.opened.base t.repo in
          let k : exact b (h.at ++ front.0) = subst (exact b) front.1 right.kept in
          let sd : sound b (entries h.at ++ entries front.0) = subst (sound b) (entries-append h.at front.0) (subst (λ (S : List Item). sound b (entries S)) front.1 right.owed) in
          left old.opened.client b t (sym right.numbered) h.at (new.seen t.repo) h.met (new.unsettled t.repo) l right.kept right.owed
          (grown_on old.opened.client b (old.unsettled t.repo) h.met (old.seen t.repo) h.at t grew (exact-beginning b h.at front.0 k) (sound-beginning b (entries h.at) (entries front.0) sd) (sym right.numbered) d)

  pub acted : (a : Acts old new) → LeavesUndecided old new a t → IsDoomed new t
  acted a other = elim (acts (decides t) old new a other) [
    | inl same ↦ subst (λ (v : View). IsDoomed v t) (sym same) d
    | inr h ↦ called h
  ]
