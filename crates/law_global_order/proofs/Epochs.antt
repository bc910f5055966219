-- The upgrades that a transaction met are those of the commits before it.
use Rattle.law_atomic_commit.proofs.Parts.{upgrades_are_everywhere}
use Rattle.law_atomic_commit.specs.Several.{Alike, AreSound, HasCommitted, IsAtomic, Several, part}
use Rattle.log_entries.specs.declared.request.Kind.TheVariants.{App, Transform, Upgrade}
use Rattle.log_entries.specs.declared.request.Kind.{Kind}
use Rattle.log_entries.specs.declared.request.Request.{Request}
use Rattle.spec_history.proofs.Below.{commits-take}
use Rattle.spec_history.proofs.Commits.{made_by_commits}
use Rattle.spec_history.proofs.LastWrite.{a_place, committed_at_place, fits_at}
use Rattle.spec_history.proofs.Listed.{commits_listed}
use Rattle.spec_history.proofs.Meeting.{in_order, not_both_ways, not_same}
use Rattle.spec_history.proofs.Places.{sound_take}
use Rattle.spec_history.proofs.Prefixes.{fits, judged}
use Rattle.spec_history.proofs.Serial.{committed_at, upgrades_fence}
use Rattle.spec_history.specs.History.{Committed, CommittedBelow, Known, Lives, commits, state}
use Rattle.spec_history.specs.Laws.{with_texts}
use Rattle.spec_history.specs.Requests.{is_upgrade, is_upgrade_kind, text_of}
use Rattle.std.proofs.Common.{Bool, List, [], ap, arith, false, inl, inr, length, refl, subst, sym, take, true, ℕ, ◌++◌, ◌<◌, ◌≡◌, ◌≢◌, ◌≤◌, ◌∙◌, ◌∷◌}
use Rattle.std.proofs.lemmas.Bool.{lt-ltb, ltb-true}
use Rattle.std.proofs.lemmas.List.{append-nil}
use Rattle.std.proofs.lemmas.Option.{same_Some}
use Rattle.std.specs.List.{filter, fold}
use Rattle.std.specs.Option.{IsSomeAnd}
use Rattle.std.specs.Prelude.{None, Option, Some, cond, nat_lt}
use Rattle.thor_value.proofs.NameOrders.{not_before_itself}
use Rattle.thor_value.specs.Names.{Before}
use Rattle.thor_value.specs.declared.names.Ts.{Ts}
use Rattle.law_global_order.proofs.Fresh.{upgrades-agree}
use Rattle.law_global_order.proofs.Lists.{AllLater, Es, In, Lists, Rising, after-all, from-in, from-pairs, here, in-all, in-filter, in-front, is-front, of-filter, rising-front, to-in}
use Rattle.law_global_order.proofs.Turns.{in-range}
use Rattle.law_global_order.specs.Turns.{texts_after}
use Rattle.law_global_order.specs.Whole.{Commit, whole}

-- ---- the upgrades of a list

abbrev pub Key : Type 0
Key = Ts × Kind

abbrev pub Earlier : Key → Key → Type 0
Earlier j k = Before j.0 k.0

pub ups : Es → List Key
ups [] = []
ups (e ∷ es) = cond (is_upgrade e.1) ((e.0, e.1.kind) ∷ ups es) (ups es)

pub in-ups : (es : Es) (e : Commit) → In e es → is_upgrade e.1 ≡ true → In (e.0, e.1.kind) (ups es)
unfolding ups
in-ups [] e i up = absurd i
in-ups (f ∷ fs) e i up = by (is_upgrade f.1) refl (λ j. in-ups fs e j up) i
  where
    by : (k : Bool) → is_upgrade f.1 ≡ k → (In e fs → In (e.0, e.1.kind) (ups fs)) → In e (f ∷ fs) → In (e.0, e.1.kind) (cond k ((f.0, f.1.kind) ∷ ups fs) (ups fs))
    by true h more (inl is) = inl (ap (λ (g : Commit). (g.0, g.1.kind)) is)
    by true h more (inr j) = inr (more j)
    by false h more (inl is) = let k : is_upgrade f.1 ≡ true = ap (λ (g : Commit). is_upgrade g.1) is ∙ up in cc
    by false h more (inr j) = more j

pub of-ups : (es : Es) (k : Key) → In k (ups es) → (e : Commit) × In e es × (is_upgrade e.1 ≡ true) × ((e.0, e.1.kind) ≡ k)
unfolding ups
of-ups [] k i = absurd i
of-ups (f ∷ fs) k i = by (is_upgrade f.1) refl (λ j. of-ups fs k j) i
  where
    by : (t : Bool) → is_upgrade f.1 ≡ t → (In k (ups fs) → (e : Commit) × In e fs × (is_upgrade e.1 ≡ true) × ((e.0, e.1.kind) ≡ k)) → In k (cond t ((f.0, f.1.kind) ∷ ups fs) (ups fs)) → (e : Commit) × In e (f ∷ fs) × (is_upgrade e.1 ≡ true) × ((e.0, e.1.kind) ≡ k)
    by true h more (inl is) = (f, inl refl, h, is)
    by true h more (inr j) = let g = more j in (g.0, inr g.1, g.2, g.3)
    by false h more j = let g = more j in (g.0, inr g.1, g.2, g.3)

abbrev pub UpgradesRise : Commit → Commit → Type 0
UpgradesRise e f = is_upgrade e.1 ≡ true → is_upgrade f.1 ≡ true → Before e.0 f.0

pub ups-rise : (es : Es) → AllLater UpgradesRise es → AllLater Earlier (ups es)
unfolding ups
ups-rise [] h = tt
ups-rise (f ∷ fs) h = by (is_upgrade f.1) refl (ups-rise fs h.1)
  where
    by : (t : Bool) → is_upgrade f.1 ≡ t → AllLater Earlier (ups fs) → AllLater Earlier (cond t ((f.0, f.1.kind) ∷ ups fs) (ups fs))
    by true e more = (
      (λ k i. let g = of-ups fs k i in subst (λ (j : Key). Before f.0 j.0) g.3 (h.0 g.0 g.1 e g.2)),
      more,
    )
    by false e more = more

pub rising-ups : (es : Es) → Rising es → AllLater UpgradesRise es
rising-ups [] h = tt
rising-ups (e ∷ es) h = ((λ f i x y. after-all e.0 es f h.0 i), rising-ups es h.1)

-- two rising lists with the same members are one
pub same-lists : (xs ys : List Key) → AllLater Earlier xs → AllLater Earlier ys → ((k : Key) → In k xs → In k ys) → ((k : Key) → In k ys → In k xs) → xs ≡ ys
same-lists [] [] p q f g = refl
same-lists [] (y ∷ ys) p q f g = absurd (g y (inl refl))
same-lists (x ∷ xs) [] p q f g = absurd (f x (inl refl))
same-lists (x ∷ xs) (y ∷ ys) p q f g = ap (λ k. k ∷ xs) first ∙ ap (λ ks. y ∷ ks) (same-lists xs ys p.1 q.1 (λ k i. forth k i (f k (inr i))) (λ k i. back k i (g k (inr i))))
  where
    heads : In x (y ∷ ys) → In y (x ∷ xs) → x ≡ y
    heads (inl e) j = sym e
    heads (inr i) (inl e) = e
    heads (inr i) (inr j) = absurd (not_both_ways y.0 x.0 (q.0 x i) (p.0 y j))

    first : x ≡ y
    first = heads (f x (inl refl)) (g y (inl refl))

    forth : (k : Key) → In k xs → In k (y ∷ ys) → In k ys
    forth k i (inl e) = absurd (not_before_itself x.0 (subst (λ (j : Key). Before x.0 j.0) (sym e ∙ sym first) (p.0 k i)))
    forth k i (inr j) = j

    back : (k : Key) → In k ys → In k (x ∷ xs) → In k xs
    back k i (inl e) = absurd (not_before_itself y.0 (subst (λ (j : Key). Before y.0 j.0) (sym e ∙ first) (q.0 k i)))
    back k i (inr j) = j

-- the texts are those of the upgrades
pub texts-ups : (ts : List (List ℕ)) (es : Es) → texts_after ts es ≡ fold (λ us k. us ++ text_of k.1) ts (ups es)
unfolding ups
texts-ups ts [] = refl
texts-ups ts (e ∷ es) = by e.1.kind (λ us. texts-ups us es)
  where
    by : (k : Kind) → ((us : List (List ℕ)) → texts_after us es ≡ fold (λ us k. us ++ text_of k.1) us (ups es)) → texts_after (ts ++ text_of k) es ≡ fold (λ us j. us ++ text_of j.1) ts (cond (is_upgrade_kind k) ((e.0, k) ∷ ups es) (ups es))
    by App more = ap (λ us. texts_after us es) (append-nil ts) ∙ more ts
    by Transform more = ap (λ us. texts_after us es) (append-nil ts) ∙ more ts
    by (Upgrade text) more = more (ts ++ text ∷ [])

-- commits by places, as transactions
pub as-pairs : List (ℕ × Request) → Es
as-pairs [] = []
as-pairs (c ∷ cs) = (c.1.tx, c.1) ∷ as-pairs cs

pub in-pairs : (cs : List (ℕ × Request)) (c : ℕ × Request) → In c cs → In (c.1.tx, c.1) (as-pairs cs)
unfolding as-pairs
in-pairs [] c i = absurd i
in-pairs (d ∷ ds) c (inl e) = inl (ap (λ (b : ℕ × Request). (b.1.tx, b.1)) e)
in-pairs (d ∷ ds) c (inr i) = inr (in-pairs ds c i)

pub of-pairs : (cs : List (ℕ × Request)) (e : Commit) → In e (as-pairs cs) → (c : ℕ × Request) × In c cs × ((c.1.tx, c.1) ≡ e)
unfolding as-pairs
of-pairs [] e i = absurd i
of-pairs (d ∷ ds) e (inl is) = (d, inl refl, is)
of-pairs (d ∷ ds) e (inr i) = let k = of-pairs ds e i in (k.0, inr k.1, k.2)

pub texts-pairs : (ts : List (List ℕ)) (cs : List (ℕ × Request)) → with_texts ts cs ≡ texts_after ts (as-pairs cs)
unfolding as-pairs
texts-pairs ts [] = refl
texts-pairs ts (c ∷ cs) = texts-pairs (ts ++ text_of c.1.kind) cs

pub there-and : {X : Type 0} (P : X → Type 0) (o : Option X) → IsSomeAnd o P → (x : X) × (o ≡ Some x) × P x
there-and P None h = absurd h
there-and P (Some x) h = (x, refl, h)

-- commits of a repository, each of which stands so
module _ (S : Several) (sd : AreSound S) (r : ℕ) (cs : List (ℕ × Request))
    (stood : (d : ℕ × Request) → In d cs → (v : Known) × (part S r d.1.tx ≡ Some v) × (v.request ≡ d.1) × (v.fate ≡ Committed d.0)) where
  -- upgrades come in the order of their timestamps
  rise : (a d : ℕ × Request) → In a cs → In d cs → a.0 < d.0 → UpgradesRise (a.1.tx, a.1) (d.1.tx, d.1)
  rise a d i j l ua ud =
      let x = stood a i in
      let y = stood d j in
      let v : Known = x.0 in
      let w : Known = y.0 in
      let n : ℕ = a.0 in
      let m : ℕ = d.0 in
      elim (in_order a.1.tx d.1.tx) [
        | inl before ↦ before
        | inr (inl same) ↦
            let one : v ≡ w = same_Some v w (sym (subst (λ (t : Ts). part S r t ≡ Some v) same x.1) ∙ y.1) in
            let g : Committed n ≡ Committed m = sym x.3 ∙ ap (λ (z : Known). z.fate) one ∙ y.3 in
            let h : n ≡ m = cc in
            absurd (omega (arith, l))
        | inr (inr behind) ↦
            let fence : CommittedBelow v.place w.fate = ((upgrades_fence (S.base r) (S.history r) (sd.each r)).after d.1.tx a.1.tx w v (record { upgrade = y.1; is = ap is_upgrade y.2 ∙ ud; there = x.1; other = λ k. not_same d.1.tx a.1.tx behind (sym k); upgrade_lives = subst Lives (sym y.3) tt; other_lives = subst Lives (sym x.3) tt })).0 behind in
            let low : m < v.place = committed_at v.place m w.fate y.3 fence in
            let k : v.place ≤ n = (fits_at v.place (length (S.history r)) n v.fate x.3 (fits (S.base r) (S.history r) (sd.each r) a.1.tx v x.1).fate).0 in
            absurd (omega (arith, l))
      ]

  pub pairs-rise : (ds : List (ℕ × Request)) → ((d : ℕ × Request) → In d ds → In d cs) → AllLater (λ (a d : ℕ × Request). a.0 < d.0) ds → AllLater UpgradesRise (as-pairs ds)
  unfolding as-pairs
  pairs-rise [] sub h = tt
  pairs-rise (a ∷ ds) sub h = (
    (λ f i. let d = of-pairs ds f i in subst (UpgradesRise (a.1.tx, a.1)) d.2 (rise a d.0 (sub a (inl refl)) (sub d.0 (inr d.1)) (h.0 d.0 d.1))),
    pairs-rise ds (λ d i. sub d (inr i)) h.1,
  )

module _ (S : Several) (at : IsAtomic S) (sd : AreSound S) (al : Alike S)
    (done rest : Es) (e : Commit) (c : Lists S (done ++ e ∷ rest)) (r : ℕ) (o : Known) (is : part S r e.0 ≡ Some o) where
  abbrev below : List (ℕ × Request)
  below = commits (S.base r) (take o.place (S.history r))

  in-h : o.place ≤ length (S.history r)
  in-h = let l : o.place < length (S.history r) = (fits (S.base r) (S.history r) (sd.each r) e.0 o is).below in omega arith

  taken : below ≡ filter (λ (d : ℕ × Request). nat_lt d.0 o.place) (commits (S.base r) (S.history r))
  taken = commits-take (S.base r) o.place (S.history r) in-h

  -- who committed below stands so
  stood : (d : ℕ × Request) → In d below → (v : Known) × (part S r d.1.tx ≡ Some v) × (v.request ≡ d.1) × (v.fate ≡ Committed d.0) × (d.0 < o.place)
  stood d i =
      let k = of-filter (λ (d : ℕ × Request). nat_lt d.0 o.place) (commits (S.base r) (S.history r)) d (subst (λ cs. In d cs) taken i) in
      let v = there-and (λ (v : Known). (v.request ≡ d.1) × (v.fate ≡ Committed d.0)) (part S r d.1.tx) ((commits_listed (S.base r) (S.history r) (sd.each r)).stand d (from-in (commits (S.base r) (S.history r)) d k.0)) in
      (v.0, v.1, v.2.0, v.2.1, ltb-true d.0 o.place k.1)

  kinds : (u : Ts) (w v : Known) → HasCommitted S u w → part S r u ≡ Some v → v.request.kind ≡ w.request.kind
  kinds u w v h it = (al r u v w it h.there).kind

  forth : (k : Key) → In k (ups done) → In k (ups (as-pairs below))
  forth k i =
      let f = of-ups done k i in
      let u : Ts = f.0.0 in
      let a = c.stand f.0 (in-all done (e ∷ rest) f.0 f.1) in
      let w : Known = a.0 in
      let up : is_upgrade w.request ≡ true = ap is_upgrade (sym a.2) ∙ f.2 in
      let p = at.everywhere r u w a.1 (upgrades_are_everywhere S sd u.repo u w a.1.there up r (in-range S sd r e.0 o is)) in
      let v : Known = p.0 in
      let same : v.request.kind ≡ w.request.kind = kinds u w v a.1 p.1 in
      let up' : is_upgrade v.request ≡ true = ap is_upgrade_kind same ∙ up in
      let early : Before u e.0 = in-front done rest e f.0 c.rise f.1 in
      let t = c.stand e (here done rest e) in
      let low : CommittedBelow o.place v.fate = (upgrades-agree S at sd r e.0 u t.0 o v t.1 is p.1 (λ x. not_same u e.0 early x) up').1 (w, a.1, early) in
      let m = a_place o.place v.fate low in
      let listed : In (m.0, v.request) (commits (S.base r) (S.history r)) = to-in (commits (S.base r) (S.history r)) (m.0, v.request) ((commits_listed (S.base r) (S.history r) (sd.each r)).listed u v m.0 p.1 m.1) in
      let among : In (m.0, v.request) below = subst (λ cs. In (m.0, v.request) cs) (sym taken) (in-filter (λ (d : ℕ × Request). nat_lt d.0 o.place) (commits (S.base r) (S.history r)) (m.0, v.request) listed (lt-ltb m.0 o.place m.2)) in
      let named : v.request.tx ≡ u = (fits (S.base r) (S.history r) (sd.each r) u v p.1).named in
      let kind : v.request.kind ≡ f.0.1.kind = same ∙ ap (λ (q : Request). q.kind) (sym a.2) in
      subst (λ (j : Key). In j (ups (as-pairs below))) (ap (λ (t : Ts). (t, v.request.kind)) named ∙ ap (λ (x : Kind). (u, x)) kind ∙ f.3) (in-ups (as-pairs below) (v.request.tx, v.request) (in-pairs below (m.0, v.request) among) up')

  back : (k : Key) → In k (ups (as-pairs below)) → In k (ups done)
  back k i =
      let f = of-ups (as-pairs below) k i in
      let d = of-pairs below f.0 f.1 in
      let q : Request = d.0.1 in
      let s = stood d.0 d.1 in
      let v : Known = s.0 in
      let up : is_upgrade q ≡ true = ap (λ (g : Commit). is_upgrade g.1) d.2 ∙ f.2 in
      let up' : is_upgrade v.request ≡ true = ap is_upgrade s.2 ∙ up in
      let low : CommittedBelow o.place v.fate = committed_at_place o.place d.0.0 v.fate s.3 s.4 in
      let t = c.stand e (here done rest e) in
      let a = (upgrades-agree S at sd r e.0 q.tx t.0 o v t.1 is s.1 (other q.tx v d.0.0 s.1 s.3 s.4) up').0 low in
      let front : In (q.tx, whole S q.tx a.0.request) done = is-front done rest e (q.tx, whole S q.tx a.0.request) c.rise (c.all q.tx a.0 a.1) a.2 in
      let same : v.request.kind ≡ a.0.request.kind = kinds q.tx a.0 v a.1 s.1 in
      let up2 : is_upgrade a.0.request ≡ true = ap is_upgrade_kind (sym same) ∙ up' in
      let kind : a.0.request.kind ≡ q.kind = sym same ∙ ap (λ (p : Request). p.kind) s.2 in
      subst (λ (j : Key). In j (ups done)) (ap (λ (x : Kind). (q.tx, x)) kind ∙ ap (λ (g : Commit). (g.0, g.1.kind)) d.2 ∙ f.3) (in-ups done (q.tx, whole S q.tx a.0.request) front up2)
    where
      other : (u : Ts) (v : Known) (m : ℕ) → part S r u ≡ Some v → v.fate ≡ Committed m → m < o.place → u ≢ e.0
      other u v m it f l same =
          let one : v ≡ o = same_Some v o (sym (subst (λ (t : Ts). part S r t ≡ Some v) same it) ∙ is) in
          let g : o.fate ≡ Committed m = ap (λ (x : Known). x.fate) (sym one) ∙ f in
          let k : o.place ≤ m = (fits_at o.place (length (S.history r)) m o.fate g (fits (S.base r) (S.history r) (sd.each r) e.0 o is).fate).0 in
          omega arith

  below-rise : AllLater (λ (a d : ℕ × Request). a.0 < d.0) below
  below-rise = from-pairs (λ (a d : ℕ × Request). a.0 < d.0) below ((commits_listed (S.base r) (take o.place (S.history r)) (sound_take (S.base r) o.place (S.history r) (sd.each r))).rise)

  same-ups : ups (as-pairs below) ≡ ups done
  same-ups = same-lists (ups (as-pairs below)) (ups done) (ups-rise (as-pairs below) (pairs-rise S sd r below (λ d i. let k = stood d i in (k.0, k.1, k.2, k.3)) below (λ d i. i) below-rise)) (ups-rise done (rising-ups done (rising-front done (e ∷ rest) c.rise))) back forth

  texts : (state (S.base r) (take o.place (S.history r))).texts ≡ texts_after (S.base r).texts done
  texts =
      (made_by_commits (S.base r) (take o.place (S.history r))).texts
      ∙ texts-pairs (S.base r).texts below
      ∙ texts-ups (S.base r).texts (as-pairs below)
      ∙ ap (λ ks. fold (λ us (k : Key). us ++ text_of k.1) (S.base r).texts ks) same-ups
      ∙ sym (texts-ups (S.base r).texts done)

  pub epoch-at-turn : ((state (S.base r) (take o.place (S.history r))).texts ≡ texts_after (S.base r).texts done) × (o.request.epoch ≡ length (texts_after (S.base r).texts done))
  epoch-at-turn = (texts, (judged (S.base r) (S.history r) (sd.each r) e.0 o is).current ∙ ap length texts)
