-- Exact traces: how they grow, and their sessions.
use Rattle.log_entries.specs.declared.entry.Entry.TheVariants.{Life}
use Rattle.log_entries.specs.declared.entry.Entry.{Entry}
use Rattle.spec_history.proofs.Growth.{length-state}
use Rattle.spec_history.proofs.Listed.{end_cases}
use Rattle.spec_trace.proofs.Sessions.{session-end}
use Rattle.spec_trace.proofs.Taken.{after-mark}
use Rattle.spec_trace.proofs.Traces.{entries-append}
use Rattle.spec_trace.specs.Calls.{connected_at, granted_at, grants, last_session, next_page, was_granted}
use Rattle.spec_trace.specs.Exact.{ItemIsExact, exact, exact_from}
use Rattle.spec_history.specs.History.{Base, State, state}
use Rattle.spec_trace.specs.Session.{Ended, Live, Session, begun, is_live, is_silent, lives_on, meet, move, moved, or_retired, rested, retired, session, session_lives}
use Rattle.spec_trace.specs.Sessions.{SessionsAreNumbered}
use Rattle.spec_trace.specs.Trace.{E, Item, M, entries}
use Rattle.spec_trace.specs.declared.mark.Mark.TheVariants as the
use Rattle.std.proofs.Common.{Bool, List, [], ap, append_assoc, arith, cond, false, inl, inr, length, max, refl, subst, suc, sym, true, zero, ℕ, ◌+◌, ◌++◌, ◌<◌, ◌≡◌, ◌≤◌, ◌∙◌, ◌∷◌}
use Rattle.std.proofs.lemmas.Bool.{eqb-true, and_parts}
use Rattle.std.proofs.lemmas.List.Sums.{fold-append}
use Rattle.std.proofs.lemmas.List.{append-nil, length-append}
use Rattle.std.specs.List.{fold, list_any, slice_get}
use Rattle.std.specs.Option.{option_map}
use Rattle.std.specs.Prelude.{IsTrue, None, Option, Some, nat_eq, ◌&&◌, ◌||◌, ◌⊎◌}

-- ---- growth

module _ (b : Base) where
  exact-append : (T is js : List Item) → exact_from b T is → exact_from b (T ++ is) js → exact_from b T (is ++ js)
  exact-append T [] js h k = subst (λ (U : List Item). exact_from b U js) (append-nil T) k
  exact-append T (i ∷ is) js h k = (h.0, exact-append (T ++ i ∷ []) is js h.1 (subst (λ (U : List Item). exact_from b U js) (sym (append_assoc T (i ∷ []) is)) k))

  exact-parts : (T is js : List Item) → exact_from b T (is ++ js) → exact_from b T is × exact_from b (T ++ is) js
  exact-parts T [] js h = (tt, subst (λ (U : List Item). exact_from b U js) (sym (append-nil T)) h)
  exact-parts T (i ∷ is) js h =
      let p = exact-parts (T ++ i ∷ []) is js h.1 in
      ((h.0, p.0), subst (λ (U : List Item). exact_from b U js) (append_assoc T (i ∷ []) is) p.1)

  pub exact-beginning : (T more : List Item) → exact b (T ++ more) → exact b T
  exact-beginning T more h = (exact-parts [] T more h).0

  pub exact-owed : (T : List Item) (i : Item) → exact b (T ++ i ∷ []) → ItemIsExact b T i
  exact-owed T i h = (exact-parts [] T (i ∷ []) h).1.0

  pub exact-end : (T : List Item) (i : Item) → exact b T → ItemIsExact b T i → exact b (T ++ i ∷ [])
  exact-end T i h k = exact-append [] T (i ∷ []) h (k, tt)

  -- what holds of the empty trace and stays at each growth holds of each exact trace
  module _ (P : List Item → Type 0) (begins : P []) (grows : (T : List Item) (i : Item) → exact b T → P T → ItemIsExact b T i → P (T ++ i ∷ [])) where
    onward : (T more : List Item) → exact b T → P T → exact_from b T more → P (T ++ more)
    onward T [] h p k = subst P (sym (append-nil T)) p
    onward T (i ∷ more) h p k = subst P (append_assoc T (i ∷ []) more) (onward (T ++ i ∷ []) more (exact-end T i h k.0) (grows T i h p k.0) k.1)

    pub by_items : (T : List Item) → exact b T → P T
    by_items T h = onward [] T tt begins h

-- the same of each trace, exact or not
module _ (P : List Item → Type 0) (begins : P []) (grows : (T : List Item) (i : Item) → P T → P (T ++ i ∷ [])) where
  on : (T more : List Item) → P T → P (T ++ more)
  on T [] p = subst P (sym (append-nil T)) p
  on T (i ∷ more) p = subst P (append_assoc T (i ∷ []) more) (on (T ++ i ∷ []) more (grows T i p))

  pub by_each_item : (T : List Item) → P T
  by_each_item T = on [] T begins

-- ---- numbers

session-end-number : (T : List Item) (i : Item) → last_session (T ++ i ∷ []) ≡ max (last_session T) (connected_at i)
session-end-number T i = fold-append (λ n j. max n (connected_at j)) 0 T (i ∷ [])

page-end-number : (b : Base) (T : List Item) (i : Item) → next_page b (T ++ i ∷ []) ≡ max (next_page b T) (granted_at i)
page-end-number b T i = fold-append (λ n j. max n (granted_at j)) b.next_page T (i ∷ [])

rises : (f : Item → ℕ) (n : ℕ) (is : List Item) → n ≤ fold (λ k j. max k (f j)) n is
rises f n [] = omega arith
rises f n (i ∷ is) = let h = rises f (max n (f i)) is in omega arith

pub sessions-rise : (T more : List Item) → last_session T ≤ last_session (T ++ more)
sessions-rise T more = subst (λ n. last_session T ≤ n) (sym (fold-append (λ n j. max n (connected_at j)) 0 T more)) (rises connected_at (last_session T) more)

pub pages-rise : (b : Base) (T more : List Item) → next_page b T ≤ next_page b (T ++ more)
pages-rise b T more = subst (λ n. next_page b T ≤ n) (sym (fold-append (λ n j. max n (granted_at j)) b.next_page T more)) (rises granted_at (next_page b T) more)

pub base-page : (b : Base) (T : List Item) → b.next_page ≤ next_page b T
base-page b T = rises granted_at b.next_page T

-- a granted page is below the next one
grant-at : (s page : ℕ) (i : Item) → grants s page i ≡ true → granted_at i ≡ page + 1
grant-at s page (M (the.Granted n k)) h = ap (λ m. m + 1) (eqb-true k page ((and_parts (nat_eq n s) (nat_eq k page) h).1))
grant-at s page (E e) h = cc
grant-at s page (M (the.Connected n c)) h = cc
grant-at s page (M (the.Fetched n k upto)) h = cc
grant-at s page (M (the.Took n k)) h = cc
grant-at s page (M (the.Drew n t)) h = cc
grant-at s page (M (the.Forgot t)) h = cc
grant-at s page (M (the.Refused n q r)) h = cc

granted-below : (s page n : ℕ) (T : List Item) → list_any (grants s page) T ≡ true → page < fold (λ k j. max k (granted_at j)) n T
granted-below s page n [] h = cc
granted-below s page n (i ∷ T) h = by (grants s page i) refl h (granted-below s page (max n (granted_at i)) T)
  where
    by : (x : Bool) → grants s page i ≡ x → (x || list_any (grants s page) T) ≡ true → (list_any (grants s page) T ≡ true → page < fold (λ k j. max k (granted_at j)) (max n (granted_at i)) T) → page < fold (λ k j. max k (granted_at j)) (max n (granted_at i)) T
    by true e g rest = let at = grant-at s page i e in let up = rises granted_at (max n (granted_at i)) T in omega arith
    by false e g rest = rest g

pub granted-page : (b : Base) (T : List Item) (s page : ℕ) → IsTrue (was_granted T s page) → page < next_page b T
granted-page b T s page h = granted-below s page b.next_page T h

-- ---- sessions

module _ (b : Base) where
  -- a session behind an item began at it, or was there and is moved by it
  abbrev pub Came : ℕ → State → Option Session → Item → Session → Type 0
  Came s S o i w = ((c : ℕ) × (i ≡ M (the.Connected s c)) × (w ≡ begun c S.length)) ⊎ ((v : Session) × (o ≡ Some v) × (w ≡ move b s S i v))

  moves : (s : ℕ) (S : State) (i : Item) (o : Option Session) (w : Session) → option_map (move b s S i) o ≡ Some w → Came s S o i w
  moves s S i None w h = cc
  moves s S i (Some v) w h = let e : move b s S i v ≡ w = cc in inr (v, refl, sym e)

  session-came : (s : ℕ) (S : State) (o : Option Session) (i : Item) (w : Session) → meet b s S o i ≡ Some w → Came s S o i w
  session-came s S o (M (the.Connected n c)) w h = by (nat_eq n s) refl h
    where
      by : (t : Bool) → nat_eq n s ≡ t → cond t (Some (begun c S.length)) (option_map (move b s S (M (the.Connected n c))) o) ≡ Some w → Came s S o (M (the.Connected n c)) w
      by true k e = let f : begun c S.length ≡ w = cc in inl (c, ap (λ m. M (the.Connected m c)) (eqb-true n s k), sym f)
      by false k e = moves s S (M (the.Connected n c)) o w e
  session-came s S o (E e) w h = moves s S (E e) o w h
  session-came s S o (M (the.Fetched n page upto)) w h = moves s S (M (the.Fetched n page upto)) o w h
  session-came s S o (M (the.Granted n page)) w h = moves s S (M (the.Granted n page)) o w h
  session-came s S o (M (the.Took n k)) w h = moves s S (M (the.Took n k)) o w h
  session-came s S o (M (the.Drew n t)) w h = moves s S (M (the.Drew n t)) o w h
  session-came s S o (M (the.Forgot t)) w h = moves s S (M (the.Forgot t)) o w h
  session-came s S o (M (the.Refused n q r)) w h = moves s S (M (the.Refused n q r)) o w h

  pub came-end : (T : List Item) (i : Item) (s : ℕ) (w : Session) → session b (T ++ i ∷ []) s ≡ Some w → Came s (state b (entries T)) (session b T s) i w
  came-end T i s w h = session-came s (state b (entries T)) (session b T s) i w (sym (session-end b T i s) ∙ h)

  pub move-began : (s : ℕ) (S : State) (i : Item) (v : Session) → ((move b s S i v).began ≡ v.began) × ((move b s S i v).client ≡ v.client)
  move-began s S i v = by (session_lives v)
    where
      quiet : (t : Bool) → ((cond t (record (moved b s S v i) { stage = retired (moved b s S v i).stage }) (moved b s S v i)).began ≡ v.began) × ((cond t (record (moved b s S v i) { stage = retired (moved b s S v i).stage }) (moved b s S v i)).client ≡ v.client)
      quiet true = (refl, refl)
      quiet false = (refl, refl)

      by : (t : Bool) → ((cond t (or_retired b (moved b s S v i)) (rested v i)).began ≡ v.began) × ((cond t (or_retired b (moved b s S v i)) (rested v i)).client ≡ v.client)
      by true = quiet (is_silent b.silence (moved b s S v i))
      by false = (refl, refl)

  -- a session that is live behind an item was live, and the item ends none of its client
  pub move-lives : (s : ℕ) (S : State) (i : Item) (v : Session) → session_lives (move b s S i v) ≡ true → (session_lives v ≡ true) × (lives_on v.client i ≡ true)
  move-lives s S i v h = by (session_lives v) refl h
    where
      kept : (t : Bool) → is_live (cond t Live Ended) ≡ true → t ≡ true
      kept true e = refl
      kept false e = cc

      gone : (t : Bool) → is_live (retired (cond t Live Ended)) ≡ true → t ≡ true
      gone true e = refl
      gone false e = cc

      silent : (t : Bool) → is_live (cond t (record (moved b s S v i) { stage = retired (moved b s S v i).stage }) (moved b s S v i)).stage ≡ true → lives_on v.client i ≡ true
      silent true e = gone (lives_on v.client i) e
      silent false e = kept (lives_on v.client i) e

      dead : (t : Bool) → session_lives v ≡ false → is_live (cond t v.stage Ended) ≡ false
      dead true l = l
      dead false l = refl

      by : (t : Bool) → session_lives v ≡ t → session_lives (cond t (or_retired b (moved b s S v i)) (rested v i)) ≡ true → (t ≡ true) × (lives_on v.client i ≡ true)
      by true l g = (refl, silent (is_silent b.silence (moved b s S v i)) g)
      by false l g = let n : false ≡ true = sym (dead (lives_on v.client i) l) ∙ g in cc

  pub known : (T : List Item) (s : ℕ) (v : Session) → session b T s ≡ Some v → s ≤ last_session T
  known = by_each_item (λ T. (s : ℕ) (v : Session) → session b T s ≡ Some v → s ≤ last_session T) (λ s v h. cc)
      (λ T i ih s w h.
      let e = session-end-number T i in
      elim (came-end T i s w h) [
        | inl x ↦ let at : connected_at i ≡ s = ap connected_at x.1 in omega arith
        | inr x ↦ let l = ih s x.0 x.1 in omega arith
      ])

  connected-low : (T : List Item) (m s c : ℕ) → slice_get T m ≡ Some (M (the.Connected s c)) → s ≤ last_session T
  connected-low = by_each_item (λ T. (m s c : ℕ) → slice_get T m ≡ Some (M (the.Connected s c)) → s ≤ last_session T) (λ m s c h. cc)
      (λ T i ih m s c h.
      let e = session-end-number T i in
      elim (end_cases T i (M (the.Connected s c)) m h) [
        | inl k ↦ let l = ih m s c k.1 in omega arith
        | inr k ↦ let at : s ≡ connected_at i = ap connected_at k.1 in omega arith
      ])

  fresh : (T : List Item) (s : ℕ) → last_session T < s → session b T s ≡ None
  fresh T s l = by (session b T s) refl
    where
      by : (o : Option Session) → session b T s ≡ o → session b T s ≡ None
      by None e = e
      by (Some v) e = let k = known T s v e in absurd (omega arith)

  once : (T : List Item) → exact b T → (m n s c d : ℕ) → slice_get T m ≡ Some (M (the.Connected s c)) → slice_get T n ≡ Some (M (the.Connected s d)) → m ≡ n
  once = by_items b (λ T. (m n s c d : ℕ) → slice_get T m ≡ Some (M (the.Connected s c)) → slice_get T n ≡ Some (M (the.Connected s d)) → m ≡ n) (λ m n s c d h k. cc)
      (λ T i sd ih ow m n s c d h k. elim (end_cases T i (M (the.Connected s c)) m h) [
        | inl x ↦ elim (end_cases T i (M (the.Connected s d)) n k) [
          | inl y ↦ ih m n s c d x.1 y.1
          | inr y ↦ let l = connected-low T m s c x.1 in let g : ItemIsExact b T (M (the.Connected s d)) = subst (ItemIsExact b T) (sym y.1) ow in let up : last_session T < s = g.0 in absurd (omega arith)
        ]
        | inr x ↦ elim (end_cases T i (M (the.Connected s d)) n k) [
          | inl y ↦ let l = connected-low T n s d y.1 in let g : ItemIsExact b T (M (the.Connected s c)) = subst (ItemIsExact b T) (sym x.1) ow in let up : last_session T < s = g.0 in absurd (omega arith)
          | inr y ↦ x.0 ∙ sym y.0
        ]
      ])

  longer : (T : List Item) (i : Item) → length (entries T) ≤ length (entries (T ++ i ∷ []))
  longer T i = let e : length (entries (T ++ i ∷ [])) ≡ length (entries T) + length (entries (i ∷ [])) = ap length (entries-append T (i ∷ [])) ∙ length-append (entries T) (entries (i ∷ [])) in omega arith

  began : (T : List Item) → exact b T → (s : ℕ) (v : Session) → session b T s ≡ Some v → (0 < v.began) × (v.began ≤ length (entries T))
  began = by_items b (λ T. (s : ℕ) (v : Session) → session b T s ≡ Some v → (0 < v.began) × (v.began ≤ length (entries T))) (λ s v h. cc)
      (λ T i sd ih ow s w h.
      let l = longer T i in
      elim (came-end T i s w h) [
        | inl x ↦
            let g : ItemIsExact b T (M (the.Connected s x.0)) = subst (ItemIsExact b T) x.1 ow in
            let up : 0 < length (entries T) = g.2 in
            let n : (state b (entries T)).length ≡ length (entries T) = length-state b (entries T) in
            let at : w.began ≡ (state b (entries T)).length = ap (λ (z : Session). z.began) x.2 in
            (omega arith, omega arith)
        | inr x ↦
            let k = ih s x.0 x.1 in
            let low : 0 < x.0.began = k.0 in
            let high : x.0.began ≤ length (entries T) = k.1 in
            let at : w.began ≡ x.0.began = ap (λ (z : Session). z.began) x.2 ∙ (move-began s (state b (entries T)) i x.0).0 in
            (omega arith, omega arith)
      ])

  within : (H : List Entry) (m : ℕ) (e : Entry) → slice_get H m ≡ Some e → m < length H
  within [] m e h = cc
  within (d ∷ H) zero e h = omega arith
  within (d ∷ H) (suc m) e h = let l = within H m e h in omega arith

  LivesSince : List Item → Type 0
  LivesSince T = (s : ℕ) (v : Session) (m n : ℕ) → session b T s ≡ Some v → session_lives v ≡ true → slice_get (entries T) m ≡ Some (Life n) → m < v.began

  lives-step : (T : List Item) (i : Item) → LivesSince T → LivesSince (T ++ i ∷ [])
  unfolding LivesSince
  lives-step T i ih s w m n h live at = elim (came-end T i s w h) [
    | inl x ↦
        let same : entries (T ++ i ∷ []) ≡ entries T = subst (λ (j : Item). entries (T ++ j ∷ []) ≡ entries T) (sym x.1) (after-mark b T (the.Connected s x.0)) in
        let l : m < length (entries T) = within (entries T) m (Life n) (subst (λ (H : List Entry). slice_get H m ≡ Some (Life n)) same at) in
        let k : (state b (entries T)).length ≡ length (entries T) = length-state b (entries T) in
        let is : w.began ≡ (state b (entries T)).length = ap (λ (z : Session). z.began) x.2 in
        omega arith
    | inr x ↦
        let v : Session = x.0 in
        let k = move-lives s (state b (entries T)) i v (subst (λ (z : Session). session_lives z ≡ true) x.2 live) in
        let is : w.began ≡ v.began = ap (λ (z : Session). z.began) x.2 ∙ (move-began s (state b (entries T)) i v).0 in
        let l : m < v.began = below i v (λ g. ih s v m n x.1 k.0 g) k.1 at in
        omega arith
  ]
    where
      below : (j : Item) (v : Session) → (slice_get (entries T) m ≡ Some (Life n) → m < v.began) → lives_on v.client j ≡ true → slice_get (entries (T ++ j ∷ [])) m ≡ Some (Life n) → m < v.began
      below (M k) v old on is = old (subst (λ (H : List Entry). slice_get H m ≡ Some (Life n)) (after-mark b T k) is)
      below (E e) v old on is = elim (end_cases (entries T) e (Life n) m (subst (λ (H : List Entry). slice_get H m ≡ Some (Life n)) (entries-append T (E e ∷ [])) is)) [
        | inl y ↦ old y.1
        | inr y ↦ let no : false ≡ true = subst (λ (f : Entry). lives_on v.client (E f) ≡ true) (sym y.1) on in cc
      ]

  lives : (T : List Item) → LivesSince T
  unfolding LivesSince
  lives = by_each_item LivesSince (λ s v m n h. cc) lives-step

  pub numbered : (T : List Item) → exact b T → SessionsAreNumbered b T
  unfolding LivesSince
  numbered T h = record { known = known T; fresh = fresh T; once = once T h; began = began T h; lives = lives T }
