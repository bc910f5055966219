-- One more entry at one repository keeps what two-phase commit keeps.
use Rattle.log_entries.specs.declared.entry.Entry.TheVariants.{Decided, Finished, Life, One, Prepared, Upgraded}
use Rattle.log_entries.specs.declared.entry.Entry.{Entry}
use Rattle.log_entries.specs.declared.request.Request.{Request}
use Rattle.spec_history.proofs.Growth.{sound-end}
use Rattle.spec_history.proofs.Places.{came_end, stays, stays_kept, stays_same}
use Rattle.spec_history.proofs.Settling.{caused-end}
use Rattle.spec_history.proofs.Steps.{FateBegun}
use Rattle.spec_history.specs.History.{Aborted, Base, Committed, Fate, IsCommitted, Open, Known, commit_of, known_by, state}
use Rattle.spec_history.specs.Laws.{Asks, FateStays, Stays}
use Rattle.spec_history.specs.Outcomes.{Causes}
use Rattle.spec_history.specs.Participants.{IsAlone, takes_part}
use Rattle.spec_history.specs.Sound.{owes, sound}
use Rattle.law_atomic_commit.proofs.Parts.{not_both, some-none}
use Rattle.law_atomic_commit.specs.Growing.{Continues, MayCome, grown}
use Rattle.law_atomic_commit.specs.Several.{Alike, AreAlike, AreSound, HasCommitted, IsAtomic, Several, part}
use Rattle.std.proofs.Common.{Bool, List, [], ap, arith, false, inl, inr, length, refl, subst, sym, true, ℕ, ◌++◌, ◌<◌, ◌≡◌, ◌≤◌, ◌∙◌, ◌∷◌}
use Rattle.std.proofs.lemmas.Bool.{eqb-true}
use Rattle.std.proofs.lemmas.Option.{same_Some}
use Rattle.std.specs.List.{list_any}
use Rattle.std.specs.Prelude.{None, Some, cond, nat_eq, ◌||◌, ◌⊎◌}
use Rattle.thor_value.specs.declared.names.Ts.{Ts}

pub committed-stays : (f g : Fate) → IsCommitted f → FateStays f g → IsCommitted g
committed-stays Open g c s = absurd c
committed-stays (Committed a) Open c s = absurd s
committed-stays (Committed a) (Committed at) c s = tt
committed-stays (Committed a) Aborted c s = absurd s
committed-stays Aborted g c s = absurd c

pub aborted-stays : (f g : Fate) → f ≡ Aborted → FateStays f g → g ≡ Aborted
aborted-stays Open g e s = cc
aborted-stays (Committed a) g e s = cc
aborted-stays Aborted Open e s = absurd s
aborted-stays Aborted (Committed at) e s = absurd s
aborted-stays Aborted Aborted e s = refl

-- ---- a request that stands behind its entry

not-begun-aborted : (cs : List (ℕ × Request)) (n : ℕ) (q : Request) (f : Fate) → FateBegun cs n q f → f ≡ Aborted → ⊥
not-begun-aborted cs n q Open h e = cc
not-begun-aborted cs n q (Committed at) h e = cc
not-begun-aborted cs n q Aborted h e = h

pub begun-commits : (cs : List (ℕ × Request)) (n : ℕ) (q : Request) (f : Fate) → FateBegun cs n q f → IsCommitted f → cs ≡ (n, q) ∷ []
begun-commits cs n q Open h c = absurd c
begun-commits cs n q (Committed at) h c = h.1
begun-commits cs n q Aborted h c = absurd c

-- one that committed at once was alone
pub begun-alone : (b : Base) (H : List Entry) (e : Entry) (n : ℕ) (q : Request) → owes b (state b H) e → Asks e q → commit_of b (state b H) e ≡ (n, q) ∷ [] → IsAlone b q
begun-alone b H (Life k) n q ow asks is = absurd asks
begun-alone b H (One p) n q ow asks is = subst (IsAlone b) asks ow.1
begun-alone b H (Prepared p) n q ow asks is = cc
begun-alone b H (Decided u c) n q ow asks is = absurd asks
begun-alone b H (Finished u c) n q ow asks is = absurd asks
begun-alone b H (Upgraded p) n q ow asks is = subst (IsAlone b) asks ow.1

module _ (S : Several) (r : ℕ) (e : Entry) (sd : AreSound S) (go : Continues S r e) where
  -- w is the request of the entry, which is r's
  pub record New (n : ℕ) (t : Ts) (w : Known) : Type 0 where
    pub at : n ≡ r
    pub none : part S n t ≡ None
    pub asks : Asks e w.request
    pub named : w.request.tx ≡ t
    pub fate : FateBegun (commit_of (S.base n) (state (S.base n) (S.history n)) e) (length (S.history n)) w.request w.fate

  -- w stood there, and its fate is as it was or is what the entry made it
  pub record Old (n : ℕ) (t : Ts) (w : Known) : Type 0 where
    pub o : Known
    pub there : part S n t ≡ Some o
    pub stays : Stays o w
    pub cause : (w.fate ≡ o.fate) ⊎ ((n ≡ r) × Causes (S.base n) e t w.fate)

  owed-at : (n : ℕ) → n ≡ r → owes (S.base n) (state (S.base n) (S.history n)) e
  owed-at n same = subst (λ k. owes (S.base k) (state (S.base k) (S.history k)) e) (sym same) go.owed

  pub back : (n : ℕ) (t : Ts) (w : Known) → part (grown S r e) n t ≡ Some w → New n t w ⊎ Old n t w
  back n t w is = by (nat_eq n r) refl is
    where
      by : (k : Bool) → nat_eq n r ≡ k → known_by (S.base n) (cond k (S.history n ++ e ∷ []) (S.history n)) t ≡ Some w → New n t w ⊎ Old n t w
      by true h k =
          let same : n ≡ r = eqb-true n r h in
          elim (came_end (S.base n) (S.history n) e (sd.each n) (owed-at n same) t w k) [
            | inl x ↦ inl (record { at = same; none = x.0; asks = x.1.0; named = x.1.1; fate = x.1.3 })
            | inr x ↦
                let st : Stays x.0 w = stays_kept (commit_of (S.base n) (state (S.base n) (S.history n)) e) (length (S.history n)) x.0 w x.2 in
                elim (caused-end (S.base n) (S.history n) e (sd.each n) (owed-at n same) t x.0 w x.1 k) [
                  | inl f ↦ inr (record { o = x.0; there = x.1; stays = st; cause = inl f })
                  | inr c ↦ inr (record { o = x.0; there = x.1; stays = st; cause = inr (same, c) })
                ]
          ]
      by false h k = inr (record { o = w; there = k; stays = stays_same w; cause = inl refl })

  pub onward : (n : ℕ) (t : Ts) (o : Known) → part S n t ≡ Some o → (w : Known) × (part (grown S r e) n t ≡ Some w) × Stays o w
  onward n t o is = by (nat_eq n r) refl
    where
      by : (k : Bool) → nat_eq n r ≡ k → (w : Known) × (known_by (S.base n) (cond k (S.history n ++ e ∷ []) (S.history n)) t ≡ Some w) × Stays o w
      by true h = stays (S.base n) (S.history n) (e ∷ []) (sound-end (S.base n) (S.history n) e (sd.each n) (owed-at n (eqb-true n r h))) t o is
      by false h = (o, is, stays_same o)

  -- what stands here is what stands at the coordinator, where that is here
  here-too : (P : Known → Type 0) (n : ℕ) (t : Ts) (o w : Known) → t.repo ≡ n → part (grown S r e) n t ≡ Some o → part (grown S r e) t.repo t ≡ Some w → P o → P w
  here-too P n t o w same is it p = subst P (same_Some o w (sym (subst (λ k. part (grown S r e) k t ≡ Some o) (sym same) is) ∙ it)) p

  own-base : (n : ℕ) (t : Ts) → n ≡ r → t.repo ≡ (S.base n).repo → t.repo ≡ n
  own-base n t same h = h ∙ sd.numbered n (subst (λ k. k < S.repos) (sym same) go.within)

  pub sound-grown : AreSound (grown S r e)
  sound-grown = record { each = each; numbered = sd.numbered; counted = sd.counted; outside = outside }
    where
      each : (n : ℕ) → sound (S.base n) (cond (nat_eq n r) (S.history n ++ e ∷ []) (S.history n))
      each n = by (nat_eq n r) refl
        where
          by : (k : Bool) → nat_eq n r ≡ k → sound (S.base n) (cond k (S.history n ++ e ∷ []) (S.history n))
          by true h = sound-end (S.base n) (S.history n) e (sd.each n) (owed-at n (eqb-true n r h))
          by false h = sd.each n

      outside : (n : ℕ) → S.repos ≤ n → cond (nat_eq n r) (S.history n ++ e ∷ []) (S.history n) ≡ []
      outside n l = by (nat_eq n r) refl
        where
          by : (k : Bool) → nat_eq n r ≡ k → cond k (S.history n ++ e ∷ []) (S.history n) ≡ []
          by true h = let same : n ≡ r = eqb-true n r h in let k : r < S.repos = go.within in absurd (omega arith)
          by false h = sd.outside n l

  module _ (at : IsAtomic S) where
    -- the coordinator of a new request is here, or knows it
    coordinator : (n : ℕ) (t : Ts) (w : Known) → New n t w → (t.repo ≡ n) ⊎ ((v : Known) × (part S t.repo t ≡ Some v))
    coordinator n t w new = by e go.may (owed-at n new.at) new.asks
      where
        by : (d : Entry) → MayCome S r d → owes (S.base n) (state (S.base n) (S.history n)) d → Asks d w.request → (t.repo ≡ n) ⊎ ((v : Known) × (part S t.repo t ≡ Some v))
        by (Life k) may ow asks = absurd asks
        by (One p) may ow asks = inl (own-base n t new.at (ap (λ (u : Ts). u.repo) (sym (ap (λ (q : Request). q.tx) asks ∙ new.named)) ∙ ow.1.1))
        by (Prepared p) (inl may) ow asks = inl (ap (λ (u : Ts). u.repo) (sym (ap (λ (q : Request). q.tx) asks ∙ new.named)) ∙ may ∙ sym new.at)
        by (Prepared p) (inr may) ow asks = inr (may.0, subst (λ (u : Ts). part S u.repo u ≡ Some may.0) (ap (λ (q : Request). q.tx) asks ∙ new.named) may.1)
        by (Decided u c) may ow asks = absurd asks
        by (Finished u c) may ow asks = absurd asks
        by (Upgraded p) may ow asks = inl (own-base n t new.at (ap (λ (u : Ts). u.repo) (sym (ap (λ (q : Request). q.tx) asks ∙ new.named)) ∙ ow.1.1))

    known-grown : (n : ℕ) (t : Ts) (w : Known) → part (grown S r e) n t ≡ Some w → (v : Known) × (part (grown S r e) t.repo t ≡ Some v)
    known-grown n t w is = elim (back n t w is) [
      | inl new ↦ elim (coordinator n t w new) [
        | inl same ↦ (w, subst (λ k. part (grown S r e) k t ≡ Some w) (sym same) is)
        | inr k ↦ let g = onward t.repo t k.0 k.1 in (g.0, g.1)
      ]
      | inr old ↦ let k = at.known n t old.o old.there in let g = onward t.repo t k.0 k.1 in (g.0, g.1)
    ]

    -- one that committed at once is alone there
    alone : (n : ℕ) (t : Ts) (w : Known) → New n t w → IsCommitted w.fate → IsAlone (S.base n) w.request
    alone n t w new c = begun-alone (S.base n) (S.history n) e (length (S.history n)) w.request (owed-at n new.at) new.asks (begun-commits (commit_of (S.base n) (state (S.base n) (S.history n)) e) (length (S.history n)) w.request w.fate new.fate c)

    alone-here : (n : ℕ) (t : Ts) (w : Known) → New n t w → IsCommitted w.fate → t.repo ≡ n
    alone-here n t w new c = own-base n t new.at (ap (λ (u : Ts). u.repo) (sym new.named) ∙ (alone n t w new c).1)

    -- what the entry made committed had committed, or is decided here
    made-committed : (n : ℕ) (t : Ts) (o w : Known) → n ≡ r → part S n t ≡ Some o → Causes (S.base n) e t w.fate → IsCommitted w.fate
        → ((t.repo ≡ n) × ((m : ℕ) → takes_part n o.request m ≡ true → (v : Known) × (part S m t ≡ Some v))) ⊎ ((v : Known) × HasCommitted S t v)
    made-committed n t o w same is cause c = by e go.may (owed-at n same) cause
      where
        by : (d : Entry) → MayCome S r d → owes (S.base n) (state (S.base n) (S.history n)) d → Causes (S.base n) d t w.fate
            → ((t.repo ≡ n) × ((m : ℕ) → takes_part n o.request m ≡ true → (v : Known) × (part S m t ≡ Some v))) ⊎ ((v : Known) × HasCommitted S t v)
        by (Life k) may ow h = absurd (not_both w.fate c h.1)
        by (One p) may ow h = absurd h
        by (Prepared p) may ow h = absurd h
        by (Decided u true) may ow h = inl (
          own-base n t same (subst (λ (v : Ts). v.repo ≡ (S.base n).repo) h.0 ow.1),
          λ m takes.
              let there : part S r u ≡ Some o = subst (λ (v : Ts). part S r v ≡ Some o) (sym h.0) (subst (λ k. part S k t ≡ Some o) same is) in
              subst (λ (v : Ts). (x : Known) × (part S m v ≡ Some x)) h.0 (may.2 m (subst (λ (v : Known). takes_part r v.request m ≡ true) (same_Some o may.0 (sym there ∙ may.1)) (subst (λ k. takes_part k o.request m ≡ true) same takes))),
        )
        by (Decided u false) may ow h = absurd (not_both w.fate c h.1)
        by (Finished u d) (inl none) ow h = some-none o (sym (subst (λ (v : Ts). part S r v ≡ None) h.0 none) ∙ subst (λ k. part S k t ≡ Some o) same is)
        by (Finished u true) (inr may) ow h = inr (subst (λ (v : Ts). (x : Known) × HasCommitted S v x) h.0 may)
        by (Finished u false) (inr may) ow h = absurd (not_both w.fate c h.1)
        by (Upgraded p) may ow h = absurd h

    everywhere-grown : (n : ℕ) (t : Ts) (w : Known) → HasCommitted (grown S r e) t w → takes_part t.repo w.request n ≡ true → (o : Known) × (part (grown S r e) n t ≡ Some o)
    everywhere-grown n t w h takes = elim (back t.repo t w h.there) [
      | inl new ↦
          let others : w.request.others ≡ [] = (alone t.repo t w new h.commits).0 in
          let only : (nat_eq n t.repo || false) ≡ true = ap (λ ns. nat_eq n t.repo || list_any (nat_eq n) ns) (sym others) ∙ takes in
          (w, subst (λ k. part (grown S r e) k t ≡ Some w) (sym (eqb-true n t.repo (or-false (nat_eq n t.repo) only))) h.there)
      | inr old ↦
          let takes' : takes_part t.repo old.o.request n ≡ true = subst (λ (q : Request). takes_part t.repo q n ≡ true) old.stays.request takes in
          let had : (o : Known) × (part S n t ≡ Some o) = by old takes' old.cause in
          let g = onward n t had.0 had.1 in
          (g.0, g.1)
    ]
      where
        or-false : (a : Bool) → (a || false) ≡ true → a ≡ true
        or-false true k = refl
        or-false false k = k

        by : (old : Old t.repo t w) → takes_part t.repo old.o.request n ≡ true → (w.fate ≡ old.o.fate) ⊎ ((t.repo ≡ r) × Causes (S.base t.repo) e t w.fate) → (o : Known) × (part S n t ≡ Some o)
        by old takes' (inl same) = at.everywhere n t old.o (record { there = old.there; commits = subst IsCommitted same h.commits }) takes'
        by old takes' (inr cause) = elim (made-committed t.repo t old.o w cause.0 old.there cause.1 h.commits) [
          | inl decided ↦ decided.1 n takes'
          | inr done ↦ at.everywhere n t done.0 done.1 (subst (λ (v : Known). takes_part t.repo v.request n ≡ true) (same_Some old.o done.0 (sym old.there ∙ done.1.there)) takes')
        ]

    -- what had committed has
    committed-on : (t : Ts) (v w : Known) → HasCommitted S t v → part (grown S r e) t.repo t ≡ Some w → IsCommitted w.fate
    committed-on t v w h it =
        let g = onward t.repo t v h.there in
        subst (λ (x : Known). IsCommitted x.fate) (same_Some g.0 w (sym g.1 ∙ it)) (committed-stays v.fate g.0.fate h.commits g.2.fate)

    agreed-grown : (n : ℕ) (t : Ts) (o w : Known) → part (grown S r e) n t ≡ Some o → IsCommitted o.fate → part (grown S r e) t.repo t ≡ Some w → IsCommitted w.fate
    agreed-grown n t o w is c it = elim (back n t o is) [
      | inl new ↦ here-too (λ (x : Known). IsCommitted x.fate) n t o w (alone-here n t o new c) is it c
      | inr old ↦ by old old.cause
    ]
      where
        by : (old : Old n t o) → (o.fate ≡ old.o.fate) ⊎ ((n ≡ r) × Causes (S.base n) e t o.fate) → IsCommitted w.fate
        by old (inl same) =
            let k = at.known n t old.o old.there in
            committed-on t k.0 w (record { there = k.1; commits = at.agreed n t old.o k.0 old.there (subst IsCommitted same c) k.1 }) it
        by old (inr cause) = elim (made-committed n t old.o o cause.0 old.there cause.1 c) [
          | inl decided ↦ here-too (λ (x : Known). IsCommitted x.fate) n t o w decided.0 is it c
          | inr done ↦ committed-on t done.0 w done.1 it
        ]

    -- what the entry aborted is aborted at its coordinator, or its coordinator is here
    made-aborted : (n : ℕ) (t : Ts) (o w : Known) → n ≡ r → part S n t ≡ Some o → Causes (S.base n) e t w.fate → w.fate ≡ Aborted → (t.repo ≡ n) ⊎ ((v : Known) → part S t.repo t ≡ Some v → v.fate ≡ Aborted)
    made-aborted n t o w same is cause a = by e go.may (owed-at n same) cause
      where
        by : (d : Entry) → MayCome S r d → owes (S.base n) (state (S.base n) (S.history n)) d → Causes (S.base n) d t w.fate → (t.repo ≡ n) ⊎ ((v : Known) → part S t.repo t ≡ Some v → v.fate ≡ Aborted)
        by (Life k) may ow h = inl (own-base n t same h.0)
        by (One p) may ow h = absurd h
        by (Prepared p) may ow h = absurd h
        by (Decided u c) may ow h = inl (own-base n t same (subst (λ (v : Ts). v.repo ≡ (S.base n).repo) h.0 ow.1))
        by (Finished u d) (inl none) ow h = some-none o (sym (subst (λ (v : Ts). part S r v ≡ None) h.0 none) ∙ subst (λ k. part S k t ≡ Some o) same is)
        by (Finished u true) (inr may) ow h = absurd (not_both w.fate h.1 a)
        by (Finished u false) (inr may) ow h = inr (λ v there. ap (λ (x : Known). x.fate) (same_Some v may.0 (sym there ∙ subst (λ (x : Ts). part S x.repo x ≡ Some may.0) h.0 may.1)) ∙ may.2)
        by (Upgraded p) may ow h = absurd h

    given-up-grown : (n : ℕ) (t : Ts) (o w : Known) → part (grown S r e) n t ≡ Some o → o.fate ≡ Aborted → part (grown S r e) t.repo t ≡ Some w → w.fate ≡ Aborted
    given-up-grown n t o w is a it = elim (back n t o is) [
      | inl new ↦ absurd (not-begun-aborted (commit_of (S.base n) (state (S.base n) (S.history n)) e) (length (S.history n)) o.request o.fate new.fate a)
      | inr old ↦ by old old.cause
    ]
      where
        on : (v : Known) → part S t.repo t ≡ Some v → v.fate ≡ Aborted → w.fate ≡ Aborted
        on v there x =
            let g = onward t.repo t v there in
            ap (λ (y : Known). y.fate) (same_Some w g.0 (sym it ∙ g.1)) ∙ aborted-stays v.fate g.0.fate x g.2.fate

        by : (old : Old n t o) → (o.fate ≡ old.o.fate) ⊎ ((n ≡ r) × Causes (S.base n) e t o.fate) → w.fate ≡ Aborted
        by old (inl same) = let k = at.known n t old.o old.there in on k.0 k.1 (at.given_up n t old.o k.0 old.there (sym same ∙ a) k.1)
        by old (inr cause) = elim (made-aborted n t old.o o cause.0 old.there cause.1 a) [
          | inl same ↦ here-too (λ (x : Known). x.fate ≡ Aborted) n t o w same is it a
          | inr told ↦ let k = at.known n t old.o old.there in on k.0 k.1 (told k.0 k.1)
        ]

    pub atomic-grown : IsAtomic (grown S r e)
    atomic-grown = record { known = known-grown; everywhere = everywhere-grown; agreed = agreed-grown; given_up = given-up-grown }

  -- ---- requests that are alike

  module _ (at : IsAtomic S) (al : Alike S) where
    alike-itself : (n : ℕ) (q : Request) → AreAlike n q n q
    alike-itself n q = record { who = refl; kind = refl; fresh = refl; answer = refl; participants = λ m. refl }

    -- the coordinator knew nothing of it, and no other did
    not-before : {A : Type 0} (n : ℕ) (t : Ts) (w o : Known) → New t.repo t w → part S n t ≡ Some o → A
    not-before n t w o new is = let k = at.known n t o is in some-none k.0 (sym new.none ∙ k.1)

    new-alike : (n : ℕ) (t : Ts) (o v : Known) → New n t o → part S t.repo t ≡ Some v → AreAlike n o.request t.repo v.request
    new-alike n t o v new there = by e go.may (owed-at n new.at) new.asks
      where
        elsewhere : {A : Type 0} → t.repo ≡ n → A
        elsewhere same = some-none v (sym new.none ∙ subst (λ k. part S k t ≡ Some v) same there)

        named : (q : Request) → q ≡ o.request → q.tx ≡ t
        named q is = ap (λ (p : Request). p.tx) is ∙ new.named

        by : (d : Entry) → MayCome S r d → owes (S.base n) (state (S.base n) (S.history n)) d → Asks d o.request → AreAlike n o.request t.repo v.request
        by (Life k) may ow asks = absurd asks
        by (One p) may ow asks = elsewhere (own-base n t new.at (ap (λ (u : Ts). u.repo) (sym (named p asks)) ∙ ow.1.1))
        by (Prepared p) (inl may) ow asks = elsewhere (ap (λ (u : Ts). u.repo) (sym (named p asks)) ∙ may ∙ sym new.at)
        by (Prepared p) (inr may) ow asks =
            let known : part S t.repo t ≡ Some may.0 = subst (λ (u : Ts). part S u.repo u ≡ Some may.0) (named p asks) may.1 in
            let one : may.0 ≡ v = same_Some may.0 v (sym known ∙ there) in
            let a : AreAlike r p t.repo may.0.request = subst (λ (u : Ts). AreAlike r p u.repo may.0.request) (named p asks) may.2 in
            let b : AreAlike n p t.repo may.0.request = subst (λ k. AreAlike k p t.repo may.0.request) (sym new.at) a in
            subst (λ (q : Request). AreAlike n q t.repo v.request) asks (subst (λ (x : Known). AreAlike n p t.repo x.request) one b)
        by (Decided u c) may ow asks = absurd asks
        by (Finished u c) may ow asks = absurd asks
        by (Upgraded p) may ow asks = elsewhere (own-base n t new.at (ap (λ (u : Ts). u.repo) (sym (named p asks)) ∙ ow.1.1))

    alike-both : (n : ℕ) (t : Ts) (o w : Known) → part (grown S r e) n t ≡ Some o → part (grown S r e) t.repo t ≡ Some w → New n t o ⊎ Old n t o → New t.repo t w ⊎ Old t.repo t w → AreAlike n o.request t.repo w.request
    alike-both n t o w is it (inl new) (inl first) =
        let same : n ≡ t.repo = new.at ∙ sym first.at in
        let one : o ≡ w = same_Some o w (sym (subst (λ k. part (grown S r e) k t ≡ Some o) same is) ∙ it) in
        subst (λ k. AreAlike k o.request t.repo w.request) (sym same) (subst (λ (x : Known). AreAlike t.repo x.request t.repo w.request) (sym one) (alike-itself t.repo w.request))
    alike-both n t o w is it (inl new) (inr old) = subst (λ (q : Request). AreAlike n o.request t.repo q) (sym old.stays.request) (new-alike n t o old.o new old.there)
    alike-both n t o w is it (inr old) (inl first) = not-before n t w old.o first old.there
    alike-both n t o w is it (inr old) (inr before) =
        subst (λ (q : Request). AreAlike n q t.repo w.request) (sym old.stays.request) (subst (λ (q : Request). AreAlike n old.o.request t.repo q) (sym before.stays.request) (al n t old.o before.o old.there before.there))

    pub alike-grown : Alike (grown S r e)
    alike-grown n t o w is it = alike-both n t o w is it (back n t o is) (back t.repo t w it)

  -- what has committed stays so
  pub committed-grown : (t : Ts) (w : Known) → HasCommitted S t w → (v : Known) × HasCommitted (grown S r e) t v × (v.request ≡ w.request)
  committed-grown t w h =
      let g = onward t.repo t w h.there in
      (g.0, record { there = g.1; commits = committed-stays w.fate g.0.fate h.commits g.2.fate }, g.2.request)
