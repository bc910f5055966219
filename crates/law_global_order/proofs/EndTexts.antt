-- The upgrades that a repository comes to once what has committed is finished there.
use Rattle.law_atomic_commit.proofs.Parts.{part_lives, upgrades_are_everywhere}
use Rattle.law_atomic_commit.specs.Several.{Alike, AreSound, HasCommitted, IsAtomic, Several, part}
use Rattle.log_entries.specs.declared.request.Kind.{Kind}
use Rattle.log_entries.specs.declared.request.Request.{Request}
use Rattle.spec_history.proofs.Commits.{made_by_commits}
use Rattle.spec_history.proofs.Listed.{commits_listed}
use Rattle.spec_history.proofs.Meeting.{in_order, not_same}
use Rattle.spec_history.proofs.Prefixes.{fits}
use Rattle.spec_history.proofs.Serial.{upgrades_fence}
use Rattle.spec_history.specs.History.{Aborted, Committed, CommittedBelow, Fate, IsCommitted, Known, Lives, Open, commits, is_open, is_undecided, state}
use Rattle.spec_history.specs.Requests.{is_upgrade, is_upgrade_kind, text_of}
use Rattle.std.proofs.Common.{Bool, List, [], ap, false, inl, inr, refl, subst, sym, true, ℕ, ◌++◌, ◌<◌, ◌≡◌, ◌∙◌, ◌∷◌}
use Rattle.std.proofs.lemmas.List.Sums.{fold-append}
use Rattle.std.proofs.lemmas.List.{append-nil}
use Rattle.std.proofs.lemmas.Option.{same_Some}
use Rattle.std.specs.List.{filter, fold}
use Rattle.std.specs.Prelude.{None, Option, Some, cond}
use Rattle.thor_value.specs.Names.{Before}
use Rattle.thor_value.specs.declared.names.Ts.{Ts}
use Rattle.law_global_order.proofs.Epochs.{Key, UpgradesRise, as-pairs, in-pairs, in-ups, of-pairs, of-ups, pairs-rise, rising-ups, same-lists, texts-pairs, texts-ups, there-and, ups, ups-rise}
use Rattle.law_global_order.proofs.Lists.{AllLater, Es, In, Lists, from-in, from-pairs, in-all, in-filter, in-right, of-both, of-filter, to-in}
use Rattle.law_global_order.proofs.Turns.{committed_there}
use Rattle.law_global_order.specs.Turns.{texts_after}
use Rattle.law_global_order.specs.Whole.{Commit, finished_texts, open_text_in, whole}

all-later-both : {X : Type 0} (R : X → X → Type 0) (xs ys : List X) → AllLater R xs → AllLater R ys → ((x y : X) → In x xs → In y ys → R x y) → AllLater R (xs ++ ys)
all-later-both R [] ys h k both = k
all-later-both R (x ∷ xs) ys h k both = (
  (λ y i. elim (of-both xs ys y i) [ inl j ↦ h.0 y j | inr j ↦ both x y (inl refl) j ]),
  all-later-both R xs ys h.1 k (λ z y i j. both z y (inr i) j),
)

later-filter : {X : Type 0} (R : X → X → Type 0) (p : X → Bool) (xs : List X) → AllLater R xs → AllLater R (filter p xs)
later-filter R p [] h = tt
later-filter R p (x ∷ xs) h = by (p x) (later-filter R p xs h.1)
  where
    by : (k : Bool) → AllLater R (filter p xs) → AllLater R (cond k (x ∷ filter p xs) (filter p xs))
    by true more = ((λ y i. h.0 y (of-filter p xs y i).0), more)
    by false more = more

module _ (S : Several) (at : IsAtomic S) (sd : AreSound S) (al : Alike S) (es : Es) (c : Lists S es) (r : ℕ) (within : r < S.repos) where
  abbrev all : List (ℕ × Request)
  all = commits (S.base r) (S.history r)

  stood : (d : ℕ × Request) → In d all → (v : Known) × (part S r d.1.tx ≡ Some v) × (v.request ≡ d.1) × (v.fate ≡ Committed d.0)
  stood d i = let k = there-and (λ (v : Known). (v.request ≡ d.1) × (v.fate ≡ Committed d.0)) (part S r d.1.tx) ((commits_listed (S.base r) (S.history r) (sd.each r)).stand d (from-in all d i)) in (k.0, k.1, k.2.0, k.2.1)

  -- undecided at r
  undecided : Commit → Bool
  undecided f = is_undecided (part S r f.0)

  abbrev opens : Es
  opens = filter undecided es

  abbrev ending : Es
  ending = as-pairs all ++ opens

  kinds : (u : Ts) (w v : Known) → HasCommitted S u w → part S r u ≡ Some v → v.request.kind ≡ w.request.kind
  kinds u w v h it = (al r u v w it h.there).kind

  -- ---- the texts

  texts-open : (fs : Es) → ((f : Commit) → In f fs → In f es) → (ts : List (List ℕ)) → fold (λ us f. us ++ open_text_in (part S r f.0)) ts fs ≡ texts_after ts (filter undecided fs)
  unfolding undecided
  texts-open [] sub ts = refl
  texts-open (f ∷ fs) sub ts = by (part S r f.0) refl (λ us. texts-open fs (λ g i. sub g (inr i)) us)
    where
      same-kind : (o : Known) → part S r f.0 ≡ Some o → o.request.kind ≡ f.1.kind
      same-kind o is = let k = c.stand f (sub f (inl refl)) in kinds f.0 k.0 o k.1 is ∙ ap (λ (q : Request). q.kind) (sym k.2)

      by : (p : Option Known) → part S r f.0 ≡ p → ((us : List (List ℕ)) → fold (λ us g. us ++ open_text_in (part S r g.0)) us fs ≡ texts_after us (filter (λ (g : Commit). is_undecided (part S r g.0)) fs))
          → fold (λ us g. us ++ open_text_in (part S r g.0)) (ts ++ open_text_in p) fs ≡ texts_after ts (cond (is_undecided p) (f ∷ filter (λ (g : Commit). is_undecided (part S r g.0)) fs) (filter (λ (g : Commit). is_undecided (part S r g.0)) fs))
      by None is more = ap (λ us. fold (λ us g. us ++ open_text_in (part S r g.0)) us fs) (append-nil ts) ∙ more ts
      by (Some o) is more = by_fate o.fate refl
        where
          by_fate : (k : Fate) → o.fate ≡ k → fold (λ us g. us ++ open_text_in (part S r g.0)) (ts ++ cond (is_open k) (text_of o.request.kind) []) fs
              ≡ texts_after ts (cond (is_open k) (f ∷ filter (λ (g : Commit). is_undecided (part S r g.0)) fs) (filter (λ (g : Commit). is_undecided (part S r g.0)) fs))
          by_fate Open e = ap (λ (k : Kind). fold (λ us g. us ++ open_text_in (part S r g.0)) (ts ++ text_of k) fs) (same-kind o is) ∙ more (ts ++ text_of f.1.kind)
          by_fate (Committed m) e = ap (λ us. fold (λ us g. us ++ open_text_in (part S r g.0)) us fs) (append-nil ts) ∙ more ts
          by_fate Aborted e = ap (λ us. fold (λ us g. us ++ open_text_in (part S r g.0)) us fs) (append-nil ts) ∙ more ts

  -- ---- the upgrades among them are those of all commits

  undecided-open : (f : Commit) (o : Known) → part S r f.0 ≡ Some o → o.fate ≡ Open → undecided f ≡ true
  unfolding undecided
  undecided-open f o is first = ap is_undecided is ∙ ap is_open first

  open-undecided : (f : Commit) → undecided f ≡ true → (o : Known) × (part S r f.0 ≡ Some o) × (o.fate ≡ Open)
  unfolding undecided
  open-undecided f h = by (part S r f.0) refl h
    where
      by_fate : (k : Fate) → is_open k ≡ true → k ≡ Open
      by_fate Open e = refl
      by_fate (Committed m) e = cc
      by_fate Aborted e = cc

      by : (p : Option Known) → part S r f.0 ≡ p → is_undecided p ≡ true → (o : Known) × (part S r f.0 ≡ Some o) × (o.fate ≡ Open)
      by None is k = cc
      by (Some o) is k = (o, is, by_fate o.fate k)

  forth : (k : Key) → In k (ups es) → In k (ups ending)
  forth k i =
      let f = of-ups es k i in
      let u : Ts = f.0.0 in
      let a = c.stand f.0 f.1 in
      let w : Known = a.0 in
      let up : is_upgrade w.request ≡ true = ap is_upgrade (sym a.2) ∙ f.2 in
      let p = at.everywhere r u w a.1 (upgrades_are_everywhere S sd u.repo u w a.1.there up r within) in
      subst (λ (j : Key). In j (ups ending)) f.3 (by f.0 f.1 f.2 p.0 p.1 (kinds u w p.0 a.1 p.1 ∙ ap (λ (q : Request). q.kind) (sym a.2)) p.0.fate refl (part_lives S at r u w p.0 a.1 p.1))
    where
      by : (e : Commit) → In e es → is_upgrade e.1 ≡ true → (v : Known) → part S r e.0 ≡ Some v → v.request.kind ≡ e.1.kind → (g : Fate) → v.fate ≡ g → Lives v.fate → In (e.0, e.1.kind) (ups ending)
      by e j up v is kind Open first lives = in-ups ending e (in-right (as-pairs all) opens e (in-filter undecided es e j (undecided-open e v is first))) up
      by e j up v is kind (Committed m) done lives =
          let listed : In (m, v.request) all = to-in all (m, v.request) ((commits_listed (S.base r) (S.history r) (sd.each r)).listed e.0 v m is done) in
          let named : v.request.tx ≡ e.0 = (fits (S.base r) (S.history r) (sd.each r) e.0 v is).named in
          subst (λ (j : Key). In j (ups ending)) (ap (λ (t : Ts). (t, v.request.kind)) named ∙ ap (λ (x : Kind). (e.0, x)) kind)
          (in-ups ending (v.request.tx, v.request) (in-all (as-pairs all) opens (v.request.tx, v.request) (in-pairs all (m, v.request) listed)) (ap is_upgrade_kind kind ∙ up))
      by e j up v is kind Aborted gone lives = absurd (subst Lives gone lives)

  back : (k : Key) → In k (ups ending) → In k (ups es)
  back k i =
      let f = of-ups ending k i in
      elim (of-both (as-pairs all) opens f.0 f.1) [
        | inl j ↦ subst (λ (x : Key). In x (ups es)) f.3 (by f.0 f.2 (of-pairs all f.0 j))
        | inr j ↦ subst (λ (x : Key). In x (ups es)) f.3 (in-ups es f.0 (of-filter undecided es f.0 j).0 f.2)
      ]
    where
      by : (e : Commit) → is_upgrade e.1 ≡ true → (d : ℕ × Request) × In d all × ((d.1.tx, d.1) ≡ e) → In (e.0, e.1.kind) (ups es)
      by e up (d, i, is) =
          let s = stood d i in
          let v : Known = s.0 in
          let a = committed_there S at r d.1.tx v s.1 (subst IsCommitted (sym s.3) tt) in
          let kind : a.0.request.kind ≡ d.1.kind = sym (kinds d.1.tx a.0 v a.1 s.1) ∙ ap (λ (q : Request). q.kind) s.2 in
          let up' : is_upgrade a.0.request ≡ true = ap is_upgrade_kind kind ∙ ap (λ (g : Commit). is_upgrade g.1) is ∙ up in
          subst (λ (x : Key). In x (ups es)) (ap (λ (x : Kind). (d.1.tx, x)) kind ∙ ap (λ (g : Commit). (g.0, g.1.kind)) is)
          (in-ups es (d.1.tx, whole S d.1.tx a.0.request) (c.all d.1.tx a.0 a.1) up')

  -- an undecided upgrade comes behind those that committed
  committed-first : (e f : Commit) → In e (as-pairs all) → In f opens → UpgradesRise e f
  committed-first e f i j ue uf =
      let d = of-pairs all e i in
      let s = stood d.0 d.1 in
      let k = of-filter undecided es f j in
      let o = open-undecided f k.1 in
      let a = c.stand f k.0 in
      let up : is_upgrade o.0.request ≡ true = ap is_upgrade_kind (kinds f.0 a.0 o.0 a.1 o.1) ∙ ap is_upgrade (sym a.2) ∙ uf in
      subst (λ (g : Commit). Before g.0 f.0) d.2 (by d.0.1.tx s.0 d.0.0 s.1 s.3 o.0 o.1 o.2 up)
    where
      by : (t : Ts) (v : Known) (m : ℕ) → part S r t ≡ Some v → v.fate ≡ Committed m → (o : Known) → part S r f.0 ≡ Some o → o.fate ≡ Open → is_upgrade o.request ≡ true → Before t f.0
      by t v m is done o it first up = elim (in_order t f.0) [
        | inl before ↦ before
        | inr (inl same) ↦
            let one : v ≡ o = same_Some v o (sym (subst (λ (u : Ts). part S r u ≡ Some v) same is) ∙ it) in
            let wrong : Committed m ≡ Open = sym done ∙ ap (λ (x : Known). x.fate) one ∙ first in
            cc
        | inr (inr behind) ↦
            let fence : CommittedBelow v.place o.fate = ((upgrades_fence (S.base r) (S.history r) (sd.each r)).after f.0 t o v (record { upgrade = it; is = up; there = is; other = λ k. not_same f.0 t behind (sym k); upgrade_lives = subst Lives (sym first) tt; other_lives = subst Lives (sym done) tt })).0 behind in
            absurd (subst (CommittedBelow v.place) first fence)
      ]

  ending-rise : AllLater UpgradesRise ending
  ending-rise = all-later-both UpgradesRise (as-pairs all) opens
      (pairs-rise S sd r all stood all (λ d i. i) (from-pairs (λ (a d : ℕ × Request). a.0 < d.0) all ((commits_listed (S.base r) (S.history r) (sd.each r)).rise)))
      (later-filter UpgradesRise undecided es (rising-ups es c.rise))
      committed-first

  same-ups : ups ending ≡ ups es
  same-ups = same-lists (ups ending) (ups es) (ups-rise ending ending-rise) (ups-rise es (rising-ups es c.rise)) back forth

  pub texts_at_end : texts_after (S.base r).texts es ≡ finished_texts S es r
  texts_at_end =
      texts-ups (S.base r).texts es
      ∙ ap (λ ks. fold (λ us (k : Key). us ++ text_of k.1) (S.base r).texts ks) (sym same-ups)
      ∙ sym (texts-ups (S.base r).texts ending)
      ∙ fold-append (λ us (e : Commit). us ++ text_of e.1.kind) (S.base r).texts (as-pairs all) opens
      ∙ ap (λ ts. texts_after ts opens) (sym (texts-pairs (S.base r).texts all) ∙ sym (made_by_commits (S.base r) (S.history r)).texts)
      ∙ sym (texts-open es (λ f i. i) (state (S.base r) (S.history r)).texts)
