-- A session that is live while nothing is unsettled was so before.
use Rattle.law_cache_coherence.proofs.Leaving.{HasCalled, Left, acts, behind_call, seen_right}
use Rattle.law_cache_coherence.proofs.Quiet.{calm_back, coming_calm, down_calm, ends, grown_client, halted_calm, lives_back}
use Rattle.law_cache_coherence.proofs.Telling.{client_stays}
use Rattle.law_cache_coherence.specs.Seen.{IsSeenRight}
use Rattle.log_entries.specs.declared.entry.Entry.TheVariants.{Decided, Finished, Life, One, Prepared, Upgraded}
use Rattle.spec_history.specs.History.{Base}
use Rattle.client_port.specs.Acting.{Acts}
use Rattle.client_port.specs.Growing.{Gains, GainsAll, Grew}
use Rattle.client_port.specs.Views.{Calm, Halted, MayCome, Opened, Unsettled, View}
use Rattle.spec_trace.proofs.Exactness.{exact-beginning, exact-owed}
use Rattle.spec_trace.specs.Exact.{ItemIsExact, exact}
use Rattle.spec_trace.specs.Gaps.{client_in}
use Rattle.spec_trace.specs.Notices.{lives}
use Rattle.spec_trace.specs.Session.{session}
use Rattle.spec_trace.specs.Trace.{E, Item, M}
use Rattle.std.proofs.Common.{Bool, List, [], ap, append_assoc, false, inl, inr, refl, subst, sym, true, ◌++◌, ◌∙◌, ◌∷◌, ◌≡◌, ℕ}
use Rattle.std.proofs.lemmas.List.{append-nil}
use Rattle.std.specs.Prelude.{Some}
use Rattle.thor_value.specs.declared.names.Ts.{Ts}

module _ (c : ℕ) (b : Base) (s : ℕ) where
  -- nothing is unsettled, and the session is live
  abbrev pub Lives : Unsettled → List Item → Type 0
  Lives u T = (u ≡ Calm) × (lives (session b T s) ≡ true)

  one_lived : (T : List Item) (u w : Unsettled) (i : Item) → Gains b c u T i w → ItemIsExact b T i → client_in b T s ≡ Some c → Lives w (T ++ i ∷ []) → Lives u T
  one_lived T Calm w i g k mine was = (refl, lives_back c b s T i k mine was.1)
  one_lived T (MayCome e) w (M m) g k mine was = absurd (coming_calm c b s e w g.1 was.0)
  one_lived T (MayCome e) w (E (Life n)) g k mine was = absurd (ends c b s T n k mine was.1)
  one_lived T (MayCome e) w (E (One q)) g k mine was = absurd (down_calm c b s e (One q) T w g was.0)
  one_lived T (MayCome e) w (E (Prepared q)) g k mine was = absurd (down_calm c b s e (Prepared q) T w g was.0)
  one_lived T (MayCome e) w (E (Decided v d)) g k mine was = absurd (down_calm c b s e (Decided v d) T w g was.0)
  one_lived T (MayCome e) w (E (Finished v d)) g k mine was = absurd (down_calm c b s e (Finished v d) T w g was.0)
  one_lived T (MayCome e) w (E (Upgraded q)) g k mine was = absurd (down_calm c b s e (Upgraded q) T w g was.0)
  one_lived T Halted w (M m) g k mine was = absurd (halted_calm c b s w g.1 was.0)
  one_lived T Halted w (E (Life n)) g k mine was = absurd (ends c b s T n k mine was.1)
  one_lived T Halted w (E (One q)) g k mine was = absurd (halted_calm c b s w g.1 was.0)
  one_lived T Halted w (E (Prepared q)) g k mine was = absurd (halted_calm c b s w g.1 was.0)
  one_lived T Halted w (E (Decided v d)) g k mine was = absurd (halted_calm c b s w g.1 was.0)
  one_lived T Halted w (E (Finished v d)) g k mine was = absurd (halted_calm c b s w g.1 was.0)
  one_lived T Halted w (E (Upgraded q)) g k mine was = absurd (halted_calm c b s w g.1 was.0)

  all_lived : (T is : List Item) (u w : Unsettled) → GainsAll b c u T is w → exact b (T ++ is) → client_in b T s ≡ Some c → Lives w (T ++ is) → Lives u T
  all_lived T [] u w g k mine was = (calm_back c b s u w g was.0, subst (λ (S : List Item). lives (session b S s) ≡ true) (append-nil T) was.1)
  all_lived T (i ∷ is) u w g k mine was =
      let U : List Item = T ++ i ∷ [] in
      let again : U ++ is ≡ T ++ (i ∷ is) = append_assoc T (i ∷ []) is in
      let k' : exact b (U ++ is) = subst (exact b) (sym again) k in
      let one : ItemIsExact b T i = exact-owed b T i (exact-beginning b U is k') in
      one_lived T u g.0 i g.1 one mine (all_lived U is g.0 w g.2 k' (client_stays c b T i s one mine) (subst (λ (S : List Item). Lives w S) (sym again) was))

  pub grown_lived : (T S : List Item) (u w : Unsettled) → Grew b c u T w S → exact b S → client_in b T s ≡ Some c → Lives w S → Lives u T
  grown_lived T S u w g k mine was = all_lived T g.gap u w g.gains (subst (exact b) g.ends k) mine (subst (λ (Z : List Item). Lives w Z) g.ends was)

  left_lived : (at after : List Item) (met u : Unsettled) → Left (λ e. false) met at after u → exact b after → client_in b at s ≡ Some c → Lives u after → Lives met at
  left_lived at after met u (inl (calm, (inl same, coming))) k mine was = (calm, subst (λ (S : List Item). lives (session b S s) ≡ true) same was.1)
  left_lived at after met u (inl (calm, (inr (i, is, other), coming))) k mine was =
      (calm, lives_back c b s at i (exact-owed b at i (subst (exact b) is k)) mine (subst (λ (S : List Item). lives (session b S s) ≡ true) is was.1))
  left_lived at after met u (inr (met', same, halts)) k mine was = absurd (met' (sym halts ∙ was.0))

-- ---- a call of a port

module _ (old new : View) (r s : ℕ) (committed : Ts → Bool) (seen : IsSeenRight new r committed) (a : Acts old new) (own : client_in (old.opened.base r) (old.seen r) s ≡ Some old.opened.client) where
  abbrev Was : ℕ → Type 0
  Was n = Lives old.opened.client (old.opened.base n) s (new.unsettled n) (new.seen n) → Lives old.opened.client (old.opened.base n) s (old.unsettled n) (old.seen n)

  called_lived : (h : HasCalled (λ e. false) old new) → Was r
  called_lived h =
      let right = seen_right old new r committed h.called.same seen in
      let c : ℕ = old.opened.client in
      let b : Base = old.opened.base r in
      behind_call (λ e. false) old new h r Was
      (λ grew now. grown_lived c b s (old.seen r) (new.seen r) (old.unsettled r) (new.unsettled r) grew right.kept own now)
      (λ grew left front now.
      let k : exact b (h.at ++ front.0) = subst (exact b) front.1 right.kept in
      let k' : exact b h.at = exact-beginning b h.at front.0 k in
      let mine : client_in b h.at s ≡ Some c = grown_client c b s (old.seen r) h.at (old.unsettled r) h.met grew k' own in
      grown_lived c b s (old.seen r) h.at (old.unsettled r) h.met grew k' own
      (left_lived c b s h.at (new.seen r) h.met (new.unsettled r) left right.kept mine now))

  -- what is live behind it was so before
  pub acted_lived : new.unsettled r ≡ Calm → lives (session (new.opened.base r) (new.seen r) s) ≡ true → (old.unsettled r ≡ Calm) × (lives (session (old.opened.base r) (old.seen r) s) ≡ true)
  acted_lived calm live = elim (acts (λ e. false) old new a (λ e is. refl)) [
    | inl same ↦ (ap (λ (v : View). v.unsettled r) (sym same) ∙ calm, ap (λ (v : View). lives (session (v.opened.base r) (v.seen r) s)) (sym same) ∙ live)
    | inr h ↦ called_lived h (calm, subst (λ (d : Opened). lives (session (d.base r) (new.seen r) s) ≡ true) h.called.same live)
  ]
