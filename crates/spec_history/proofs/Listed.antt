-- What of a transaction stands in the list of entries, and the list of commits.
use Rattle.log_entries.specs.declared.entry.Entry.TheVariants.{Decided, Finished, Life, One, Prepared, Upgraded}
use Rattle.log_entries.specs.declared.entry.Entry.{Entry}
use Rattle.log_entries.specs.declared.request.Request.{Request}
use Rattle.spec_history.proofs.Growth.{by_growth, length-state, sound-end, state-end}
use Rattle.spec_history.proofs.LastWrite.{commit_here, commit_shape, committed_end, fits_at, one_commit, one_if, stays_committed}
use Rattle.spec_history.proofs.Places.{Placed, came_end, placed, stays}
use Rattle.spec_history.proofs.Prefixes.{fits, judged}
use Rattle.spec_history.specs.History.{Aborted, Base, Committed, Fate, Open, Known, State, commit_by, commit_of, commits, commits_from, is_open, put, known_in, known_by, start, state}
use Rattle.spec_history.specs.Laws.{Asks, Commits, CommitsListed, Recorded, Stays}
use Rattle.spec_history.specs.Sound.{owes, sound}
use Rattle.std.proofs.Common.{List, [], ap, arith, inl, inr, length, refl, subst, suc, sym, zero, ℕ, ◌++◌, ◌<◌, ◌≡◌, ◌∙◌, ◌∷◌, append_assoc, get_or}
use Rattle.std.proofs.lemmas.List.Elements.{Contains-append_left, Contains-push, Contains-push_cases, Contains-get_or}
use Rattle.std.proofs.lemmas.List.Quantifiers.{all_pairs_push}
use Rattle.std.proofs.lemmas.List.{append-nil}
use Rattle.std.proofs.lemmas.Option.{same_Some}
use Rattle.std.specs.List.{AllPairs, Contains, fold, slice_get}
use Rattle.std.specs.Option.{IsSomeAnd}
use Rattle.std.specs.Prelude.{Bool, None, Option, Some, false, true, ◌&&◌, ◌⊎◌}
use Rattle.thor_value.specs.declared.names.Ts.{Ts}

pub get_before : {X : Type 0} (xs ys : List X) (k : ℕ) → k < length xs → slice_get (xs ++ ys) k ≡ slice_get xs k
get_before [] ys k h = absurd (omega arith)
get_before (x ∷ xs) ys zero h = refl
get_before (x ∷ xs) ys (suc k) h = get_before xs ys k (omega arith)

pub get_end : {X : Type 0} (xs : List X) (y : X) → slice_get (xs ++ y ∷ []) (length xs) ≡ Some y
get_end [] y = refl
get_end (x ∷ xs) y = get_end xs y

-- an element of a list with one more is of the list, or it is that one
pub end_cases : {X : Type 0} (xs : List X) (y x : X) (k : ℕ) → slice_get (xs ++ y ∷ []) k ≡ Some x → ((k < length xs) × (slice_get xs k ≡ Some x)) ⊎ ((k ≡ length xs) × (x ≡ y))
end_cases [] y x zero h = inr (refl, same_Some x y (sym h))
end_cases [] y x (suc k) h = cc
end_cases (z ∷ xs) y x zero h = inl (omega arith, h)
end_cases (z ∷ xs) y x (suc k) h = elim (end_cases xs y x k h) [
  | inl p ↦ let l : k < length xs = p.0 in inl (omega arith, p.1)
  | inr p ↦ inr (ap suc p.0, p.1)
]

pub is_some_and : {X : Type 0} (o : Option X) (P : X → Type 0) (x : X) → o ≡ Some x → P x → IsSomeAnd o P
is_some_and o P x e p = subst (λ v. IsSomeAnd v P) (sym e) p

pub some_and : {X : Type 0} (o : Option X) (P : X → Type 0) → IsSomeAnd o P → (x : X) × (o ≡ Some x) × P x
some_and None P h = absurd h
some_and (Some x) P h = (x, refl, h)

module _ (b : Base) where
  -- what holds at an entry of the history holds at it in the longer one
  entry_stays : (H : List Entry) (e : Entry) (P : Entry → Type 0) (k : ℕ) → k < length H → IsSomeAnd (slice_get H k) P → IsSomeAnd (slice_get (H ++ e ∷ []) k) P
  entry_stays H e P k l h = subst (λ o. IsSomeAnd o P) (sym (get_before H (e ∷ []) k l)) h

  entry_new : (H : List Entry) (e : Entry) (P : Entry → Type 0) (k : ℕ) → k ≡ length H → P e → IsSomeAnd (slice_get (H ++ e ∷ []) k) P
  entry_new H e P k same p = is_some_and (slice_get (H ++ e ∷ []) k) P e (ap (slice_get (H ++ e ∷ [])) same ∙ get_end H e) p

  asked : (H : List Entry) → sound b H → (t : Ts) (o : Known) → known_by b H t ≡ Some o → IsSomeAnd (slice_get H o.place) (λ e. Asks e o.request)
  asked =
      by_growth b (λ H. (t : Ts) (o : Known) → known_by b H t ≡ Some o → IsSomeAnd (slice_get H o.place) (λ e. Asks e o.request))
      (λ t o is. cc)
      (λ H e sd ih ow t o is. elim (came_end b H e sd ow t o is) [
        | inl x ↦ entry_new H e (λ f. Asks f o.request) o.place x.1.2 x.1.0
        | inr x ↦
            let below : x.0.place < length H = (fits b H sd t x.0 x.1).below in
            let at : o.place ≡ x.0.place = x.2.0 in
            let old : IsSomeAnd (slice_get H o.place) (λ f. Asks f o.request) = subst (λ q. IsSomeAnd (slice_get H o.place) (λ f. Asks f q)) (sym x.2.1) (subst (λ k. IsSomeAnd (slice_get H k) (λ f. Asks f x.0.request)) (sym at) (ih t x.0 x.1)) in
            entry_stays H e (λ f. Asks f o.request) o.place (omega arith) old
      ])

  commits_settled : (S : State) (u : Ts) (c : Bool) (o : Option Known) (q : Request) → commit_by S c o ≡ (S.length, q) ∷ [] → ((p : Known) → o ≡ Some p → p.request.tx ≡ u) → (u ≡ q.tx) × (c ≡ true)
  commits_settled S u c None q k named = cc
  commits_settled S u c (Some p) q k named = by_fate p.fate c k
    where
      by_fate : (f : Fate) (d : Bool) → one_if (d && is_open f) S.length p.request ≡ (S.length, q) ∷ [] → (u ≡ q.tx) × (d ≡ true)
      by_fate Open true l = (sym (named p refl) ∙ ap (λ (r : Request). r.tx) (one_commit S.length p.request q l), refl)
      by_fate Open false l = cc
      by_fate (Committed a) true l = cc
      by_fate (Committed a) false l = cc
      by_fate Aborted true l = cc
      by_fate Aborted false l = cc

  -- an entry that is a commit commits its transaction
  commits_it : (S : State) (e : Entry) (q : Request) → Placed b S → commit_of b S e ≡ (S.length, q) ∷ [] → Commits e q.tx
  commits_it S (Life n) q h k = cc
  commits_it S (One r) q h k = ap (λ (s : Request). s.tx) (one_commit S.length r q k)
  commits_it S (Prepared r) q h k = cc
  commits_it S (Upgraded r) q h k = ap (λ (s : Request). s.tx) (one_commit S.length r q k)
  commits_it S (Decided u c) q h k = commits_settled S u c (known_in b S u) q k (λ p is. (h.fits u p is).named)
  commits_it S (Finished u c) q h k = commits_settled S u c (known_in b S u) q k (λ p is. (h.fits u p is).named)

  committed_by : (H : List Entry) → sound b H → (t : Ts) (o : Known) (m : ℕ) → known_by b H t ≡ Some o → o.fate ≡ Committed m → IsSomeAnd (slice_get H m) (λ e. Commits e t)
  committed_by =
      by_growth b (λ H. (t : Ts) (o : Known) (m : ℕ) → known_by b H t ≡ Some o → o.fate ≡ Committed m → IsSomeAnd (slice_get H m) (λ e. Commits e t))
      (λ t o m is f. cc)
      (λ H e sd ih ow t o m is f. elim (committed_end b H e sd ow t o m is f) [
        | inl x ↦
            let below : m < length H = (fits_at x.0.place (length H) m x.0.fate x.2 (fits b H sd t x.0 x.1).fate).1 in
            entry_stays H e (λ g. Commits g t) m below (ih t x.0 m x.1 x.2)
        | inr x ↦
            let c : Commits e o.request.tx = commits_it (state b H) e o.request (placed b H sd) (subst (λ k. commit_of b (state b H) e ≡ (k, o.request) ∷ []) (sym (length-state b H)) x.1) in
            entry_new H e (λ g. Commits g t) m x.0 (subst (Commits e) (fits b (H ++ e ∷ []) (sound-end b H e sd ow) t o is).named c)
      ])

  pub recorded : (H : List Entry) → sound b H → (t : Ts) (o : Known) → known_by b H t ≡ Some o → Recorded b H t o
  recorded H sd t o is =
      let f = fits b H sd t o is in
      record {
        below = f.below;
        named = f.named;
        asked = asked H sd t o is;
        judged = judged b H sd t o is;
        committed = λ m e. let p = fits_at o.place (length H) m o.fate e f.fate in (p.0, p.1, committed_by H sd t o m is e);
      }

  -- ---- the list of commits

  commits_from-end : (S : State) (H : List Entry) (e : Entry) → commits_from b S (H ++ e ∷ []) ≡ commits_from b S H ++ commit_of b (fold (put b) S H) e
  commits_from-end S [] e = append-nil (commit_of b S e)
  commits_from-end S (f ∷ H) e = ap (λ cs. commit_of b S f ++ cs) (commits_from-end (put b S f) H e) ∙ sym (append_assoc (commit_of b S f) (commits_from b (put b S f) H) (commit_of b (fold (put b) (put b S f) H) e))

  -- one more entry: the commit that it is comes behind the others
  pub commits-end : (H : List Entry) (e : Entry) → commits b (H ++ e ∷ []) ≡ commits b H ++ commit_of b (state b H) e
  commits-end H e = commits_from-end (start b) H e

  unlisted : (H : List Entry) (e : Entry) → commit_of b (state b H) e ≡ [] → commits b (H ++ e ∷ []) ≡ commits b H
  unlisted H e none = commits-end H e ∙ ap (λ cs. commits b H ++ cs) none ∙ append-nil (commits b H)

  relisted : (H : List Entry) (e : Entry) (q : Request) → commit_of b (state b H) e ≡ (length H, q) ∷ [] → commits b (H ++ e ∷ []) ≡ commits b H ++ (length H, q) ∷ []
  relisted H e q one = commits-end H e ∙ ap (λ cs. commits b H ++ cs) one

  one_more : (H : List Entry) (e : Entry) → (commit_of b (state b H) e ≡ []) ⊎ ((q : Request) × (commit_of b (state b H) e ≡ (length H, q) ∷ []))
  one_more H e = elim (commit_shape b (state b H) e) [
    | inl none ↦ inl none
    | inr one ↦ inr (one.0, subst (λ k. commit_of b (state b H) e ≡ (k, one.0) ∷ []) (length-state b H) one.1)
  ]

  listed : (H : List Entry) → sound b H → (t : Ts) (o : Known) (m : ℕ) → known_by b H t ≡ Some o → o.fate ≡ Committed m → Contains (commits b H) (m, o.request)
  listed =
      by_growth b (λ H. (t : Ts) (o : Known) (m : ℕ) → known_by b H t ≡ Some o → o.fate ≡ Committed m → Contains (commits b H) (m, o.request))
      (λ t o m is f. cc)
      (λ H e sd ih ow t o m is f. elim (committed_end b H e sd ow t o m is f) [
        | inl x ↦
            let old : Contains (commits b H) (m, o.request) = subst (λ q. Contains (commits b H) (m, q)) (sym x.3) (ih t x.0 m x.1 x.2) in
            subst (λ cs. Contains cs (m, o.request)) (sym (commits-end H e)) (Contains-append_left (commits b H) (commit_of b (state b H) e) (m, o.request) old)
        | inr x ↦
            let new : Contains (commits b (H ++ e ∷ [])) (length H, o.request) = subst (λ cs. Contains cs (length H, o.request)) (sym (relisted H e o.request x.1)) (Contains-push (commits b H) (length H, o.request)) in
            subst (λ k. Contains (commits b (H ++ e ∷ [])) (k, o.request)) (sym x.0) new
      ])

  abbrev StandsSo : List Entry → ℕ × Request → Type 0
  StandsSo H c = IsSomeAnd (known_by b H c.1.tx) (λ o. (o.request ≡ c.1) × (o.fate ≡ Committed c.0))

  stands_still : (H : List Entry) (e : Entry) → sound b H → owes b (state b H) e → (c : ℕ × Request) → StandsSo H c → StandsSo (H ++ e ∷ []) c
  stands_still H e sd ow c h =
      let x = some_and (known_by b H c.1.tx) (λ o. (o.request ≡ c.1) × (o.fate ≡ Committed c.0)) h in
      let y = stays b H (e ∷ []) (sound-end b H e sd ow) c.1.tx x.0 x.1 in
      let st : Stays x.0 y.0 = y.2 in
      is_some_and (known_by b (H ++ e ∷ []) c.1.tx) (λ o. (o.request ≡ c.1) × (o.fate ≡ Committed c.0)) y.0 y.1 (st.request ∙ x.2.0, stays_committed c.0 x.0.fate y.0.fate x.2.1 st.fate)

  pub stand : (H : List Entry) → sound b H → (c : ℕ × Request) → Contains (commits b H) c → StandsSo H c
  stand =
      by_growth b (λ H. (c : ℕ × Request) → Contains (commits b H) c → StandsSo H c)
      (λ c h. let l : h.0 < 0 = h.1 in absurd (omega arith))
      (λ H e sd ih ow c h. elim (one_more H e) [
        | inl none ↦ stands_still H e sd ow c (ih c (subst (λ cs. Contains cs c) (unlisted H e none) h))
        | inr one ↦ elim (Contains-push_cases (commits b H) (length H, one.0) c (subst (λ cs. Contains cs c) (relisted H e one.0 one.1) h)) [
          | inl old ↦ stands_still H e sd ow c (ih c old)
          | inr same ↦
              let n = length-state b H in
              let here = commit_here b (state b H) e one.0 (placed b H sd) (subst (λ k. commit_of b (state b H) e ≡ (k, one.0) ∷ []) (sym n) one.1) in
              let P = λ (o : Known). (o.request ≡ one.0) × (o.fate ≡ Committed (length H)) in
              let at_end : known_in b (state b (H ++ e ∷ [])) one.0.tx ≡ Some here.0 = ap (λ S. known_in b S one.0.tx) (state-end b H e) ∙ here.1 in
              let f : here.0.fate ≡ Committed (length H) = here.3 ∙ ap Committed n in
              subst (StandsSo (H ++ e ∷ [])) same (is_some_and (known_by b (H ++ e ∷ []) one.0.tx) P here.0 at_end (here.2, f))
        ]
      ])

  place_below : (H : List Entry) → sound b H → (c : ℕ × Request) → Contains (commits b H) c → c.0 < length H
  place_below H sd c h =
      let x = some_and (known_by b H c.1.tx) (λ o. (o.request ≡ c.1) × (o.fate ≡ Committed c.0)) (stand H sd c h) in
      (fits_at x.0.place (length H) c.0 x.0.fate x.2.1 (fits b H sd c.1.tx x.0 x.1).fate).1

  rise : (H : List Entry) → sound b H → AllPairs (λ c d. c.0 < d.0) (commits b H)
  rise =
      by_growth b (λ H. AllPairs (λ c d. c.0 < d.0) (commits b H))
      (λ i j d l h. let k : j < 0 = h in absurd (omega arith))
      (λ H e sd ih ow. elim (one_more H e) [
        | inl none ↦ subst (AllPairs (λ c d. c.0 < d.0)) (sym (unlisted H e none)) ih
        | inr one ↦ subst (AllPairs (λ c d. c.0 < d.0)) (sym (relisted H e one.0 one.1))
            (all_pairs_push (λ c d. c.0 < d.0) (commits b H) (length H, one.0) ih (λ k d l. place_below H sd (get_or (commits b H) k d) (Contains-get_or (commits b H) k d l)))
      ])

  pub commits_listed : (H : List Entry) → sound b H → CommitsListed b H
  commits_listed H sd = record { rise = rise H sd; listed = listed H sd; stand = stand H sd }
