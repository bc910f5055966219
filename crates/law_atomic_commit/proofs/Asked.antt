-- What a coordinator answers about a transaction is told rightly.
use Rattle.law_atomic_commit.proofs.Committing.{AloneIn, CommittedIn, among-lookup, and-both, decided-committed, kept-decided, last_in, made, or-cases, singles-committed, still-kept}
use Rattle.law_atomic_commit.proofs.Parts.{some-none, there}
use Rattle.law_atomic_commit.specs.Asking.{ForgottenAreFinished, IsFollowed, IsGivenUp, SinglesWereBefore, answer_by, state_of, coordinator_answer}
use Rattle.law_atomic_commit.specs.Growing.{MayFinish}
use Rattle.law_atomic_commit.specs.Several.{Alike, AreSound, HasCommitted, IsAtomic, Repositories, histories, part}
use Rattle.log_entries.specs.declared.entry.Entry.{Entry}
use Rattle.spec_history.proofs.Growth.{length-state}
use Rattle.spec_history.proofs.Lives.{lives}
use Rattle.spec_history.proofs.Places.{sound_take}
use Rattle.spec_history.proofs.Prefixes.{fits, judged}
use Rattle.spec_history.specs.History.{Aborted, Base, Committed, Fate, IsCommitted, Known, Open, is_life, is_open, is_undecided, known_by, state}
use Rattle.spec_history.specs.Participants.{takes_part}
use Rattle.spec_history.specs.Sound.{sound}
use Rattle.spec_trace.specs.Calls.{Settled, Undecided, asked, is_forgotten, is_kept, is_last_alone}
use Rattle.spec_trace.specs.Trace.{Item, entries}
use Rattle.std.proofs.Common.{Bool, List, [], ap, arith, eq-eqb, false, inl, inr, length, refl, subst, suc, sym, take, true, ℕ, ◌<◌, ◌≡◌, ◌≢◌, ◌≤◌, ◌∙◌, ◌∷◌}
use Rattle.std.proofs.lemmas.Bool.{eqb-true, and_left, or_right, or_parts}
use Rattle.std.proofs.lemmas.Option.{same_Some}
use Rattle.std.specs.List.{filter, list_any}
use Rattle.std.specs.Option.{option_and_then}
use Rattle.std.specs.Prelude.{None, Option, Some, cond, is_some, nat_eq, ◌&&◌, ◌||◌, ◌⊎◌}
use Rattle.thor_value.specs.FiniteMap.{get}
use Rattle.thor_value.specs.declared.names.Ts.{Ts}
use Rattle.two_phase.specs.Contents.{Contents, keeps, open_at, request_of, standing, standing_by}
use Rattle.two_phase.specs.declared.standing.Standing.TheVariants as answer
use Rattle.two_phase.specs.declared.transaction.Transaction.TheVariants as table
use Rattle.two_phase.specs.declared.transaction.Transaction.{Transaction}

-- ---- the answers

said-open : (x y : Bool) → cond x Undecided (Settled y) ≡ Undecided → x ≡ true
said-open true y h = refl
said-open false y h = cc

said : (x y c : Bool) → cond x Undecided (Settled y) ≡ Settled c → (x ≡ false) × (y ≡ c)
said true y c h = cc
said false true true h = (refl, refl)
said false false false h = (refl, refl)
said false true false h = cc
said false false true h = cc

says : (x y : Bool) → x ≡ false → y ≡ true → cond x Undecided (Settled y) ≡ Settled true
says true y e f = cc
says false true e f = refl
says false false e f = cc

and-false : (x y : Bool) → (x && y) ≡ false → y ≡ true → x ≡ false
and-false true true h e = cc
and-false true false h e = cc
and-false false y h e = refl

-- a table that agrees with the trace answers as that about what is coordinated here
pub table-answers : (b : Base) (T : List Item) (c : Contents) (t : Ts) → t.repo ≡ b.repo → is_some (open_at c t) ≡ is_undecided (known_by b (entries T) t) → keeps (get c.transactions t) ≡ is_kept b T t
    → c.alone ≡ (state b (entries T)).alone → answer_by (standing c t) ≡ asked b T t
table-answers b T c t own first kept alone =
    by (get c.transactions t) refl (is_undecided (known_by b (entries T) t) && nat_eq t.repo b.repo) here (is_kept b T t) kept
    ∙ ap (λ m. cond (is_undecided (known_by b (entries T) t) && nat_eq t.repo b.repo) Undecided (Settled (is_kept b T t || last_in m t))) alone
  where
    here : is_some (option_and_then request_of (get c.transactions t)) ≡ (is_undecided (known_by b (entries T) t) && nat_eq t.repo b.repo)
    here = first ∙ same (is_undecided (known_by b (entries T) t)) (nat_eq t.repo b.repo) (eq-eqb t.repo b.repo own)
      where
        same : (x y : Bool) → y ≡ true → x ≡ (x && y)
        same true true e = refl
        same true false e = cc
        same false y e = refl

    by : (k : Option Transaction) → get c.transactions t ≡ k → (x : Bool) → is_some (option_and_then request_of (get c.transactions t)) ≡ x → (y : Bool) → keeps (get c.transactions t) ≡ y
        → answer_by (standing_by c t (get c.transactions t)) ≡ cond x Undecided (Settled (y || last_in c.alone t))
    by k is x h y g = subst (λ j. answer_by (standing_by c t j) ≡ cond x Undecided (Settled (y || last_in c.alone t))) (sym is) (at k x (sym (ap (λ j. is_some (option_and_then request_of j)) is) ∙ h) y (sym (ap keeps is) ∙ g))
      where
        single : (z : Bool) → answer_by (cond z answer.Committed answer.Aborted) ≡ Settled z
        single true = refl
        single false = refl

        at : (k : Option Transaction) (x : Bool) → is_some (option_and_then request_of k) ≡ x → (y : Bool) → keeps k ≡ y → answer_by (standing_by c t k) ≡ cond x Undecided (Settled (y || last_in c.alone t))
        at (Some (table.Open q)) true h y g = refl
        at (Some (table.Open q)) false h y g = cc
        at (Some table.Kept) true h y g = cc
        at (Some table.Kept) false h true g = refl
        at (Some table.Kept) false h false g = cc
        at None true h y g = cc
        at None false h true g = cc
        at None false h false g = single (last_in c.alone t)

undecided-known : (k : Option Known) → is_undecided k ≡ true → (o : Known) × (k ≡ Some o) × (o.fate ≡ Open)
undecided-known None h = cc
undecided-known (Some o) h = (o, refl, by o.fate h)
  where
    by : (f : Fate) → is_open f ≡ true → f ≡ Open
    by Open e = refl
    by (Committed a) e = cc
    by Aborted e = cc

committed-decided : (f : Fate) → IsCommitted f → is_open f ≡ false
committed-decided Open c = absurd c
committed-decided (Committed a) c = refl
committed-decided Aborted c = absurd c

open-committed : (f : Fate) → f ≡ Open → IsCommitted f → ⊥
open-committed f e c = subst IsCommitted e c

-- ---- lives

-- behind its first entry a repository is in a later life than it began with
life-above : (b : Base) (H : List Entry) → sound b H → 0 < length H → b.life < (state b H).life
life-above b [] sd l = absurd (omega arith)
life-above b (e ∷ es) sd l =
    let f = lives b (e ∷ es) sd in
    let one : length (filter is_life (e ∷ es)) ≡ suc (length (filter is_life es)) = ap (λ (d : Entry). length (cond (is_life d) (d ∷ filter is_life es) (filter is_life es))) (f.first e refl) in
    let all = f.count in
    omega (arith, all, one)

module _ (R : Repositories) (sd : AreSound (histories R)) where
  own : (t : Ts) (w : Known) → part (histories R) t.repo t ≡ Some w → t.repo ≡ (R.base t.repo).repo
  own t w is = sym (sd.numbered t.repo (there (histories R) sd t.repo t w is))

  -- what is committed has committed, or did so in an earlier run
  pub committed-told : (t : Ts) → coordinator_answer R t ≡ Settled true → ((w : Known) × HasCommitted (histories R) t w) ⊎ (is_last_alone (R.base t.repo) [] t ≡ true)
  committed-told t h =
      let b = R.base t.repo in
      let T = R.trace t.repo in
      let yes = said (is_undecided (part (histories R) t.repo t) && nat_eq t.repo b.repo) (is_kept b T t || is_last_alone b T t) true h in
      elim (or-cases (is_kept b T t) (is_last_alone b T t) yes.1) [
        | inl k ↦ inl (stands (decided-committed b (entries T) (sd.each t.repo) t (kept-decided b T (sd.each t.repo) t k)))
        | inr s ↦ elim (singles-committed b (entries T) (sd.each t.repo) t s) [
          | inl k ↦ inl (stands k)
          | inr before ↦ inr before
        ]
      ]
    where
      stands : CommittedIn (R.base t.repo) (entries (R.trace t.repo)) t → (w : Known) × HasCommitted (histories R) t w
      stands k = (k.0, record { there = k.1; commits = k.2 })

  -- what has committed and isn't forgotten is told so: where it has other participants, and where it is the last alone
  pub remembered : (t : Ts) (w : Known) → HasCommitted (histories R) t w → is_forgotten (R.trace t.repo) t ≡ false → (w.request.others ≢ []) ⊎ (is_last_alone (R.base t.repo) (R.trace t.repo) t ≡ true) → coordinator_answer R t ≡ Settled true
  remembered t w h kept why =
      let b = R.base t.repo in
      let T = R.trace t.repo in
      says (is_undecided (part (histories R) t.repo t) && nat_eq t.repo b.repo) (is_kept b T t || is_last_alone b T t)
      (and_left (is_undecided (part (histories R) t.repo t)) (nat_eq t.repo b.repo) (ap is_undecided h.there ∙ committed-decided w.fate h.commits))
      (by why)
    where
      by : (w.request.others ≢ []) ⊎ (is_last_alone (R.base t.repo) (R.trace t.repo) t ≡ true) → (is_kept (R.base t.repo) (R.trace t.repo) t || is_last_alone (R.base t.repo) (R.trace t.repo) t) ≡ true
      by (inr last) = or_right (is_kept (R.base t.repo) (R.trace t.repo) t) (is_last_alone (R.base t.repo) (R.trace t.repo) t) last
      by (inl shared) = elim (made (R.base t.repo) (entries (R.trace t.repo)) (sd.each t.repo) t w h.there h.commits (own t w h.there)) [
        | inl d ↦ ap (λ (x : Bool). x || is_last_alone (R.base t.repo) (R.trace t.repo) t) (still-kept (R.base t.repo) (R.trace t.repo) (sd.each t.repo) t kept d)
        | inr alone ↦ absurd (shared alone.0)
      ]

  -- what is told to be aborted is given up
  pub aborted-told : (t : Ts) → coordinator_answer R t ≡ Settled false → IsGivenUp R t
  aborted-told t h =
      let b = R.base t.repo in
      let T = R.trace t.repo in
      let no = said (is_undecided (part (histories R) t.repo t) && nat_eq t.repo b.repo) (is_kept b T t || is_last_alone b T t) false h in
      let both = or_parts (is_kept b T t) (is_last_alone b T t) no.1 in
      by (part (histories R) t.repo t) refl no.0 both.0 both.1
    where
      followed : (w : Known) → is_last_alone (R.base t.repo) (R.trace t.repo) t ≡ false → AloneIn (R.base t.repo) (entries (R.trace t.repo)) w → IsFollowed R t w
      followed w none alone = record {
        alone = alone.0;
        next = alone.1;
        last = alone.2;
        other = λ same. let k : is_last_alone (R.base t.repo) (R.trace t.repo) t ≡ true = subst (λ (u : Ts). is_last_alone (R.base t.repo) (R.trace t.repo) u ≡ true) same (among-lookup _ alone.1 (state_of R t).alone.pairs alone.2) in cc;
      }

      why : (w : Known) → HasCommitted (histories R) t w → is_kept (R.base t.repo) (R.trace t.repo) t ≡ false → is_last_alone (R.base t.repo) (R.trace t.repo) t ≡ false → (x : Bool) → is_forgotten (R.trace t.repo) t ≡ x → (is_forgotten (R.trace t.repo) t ≡ true) ⊎ IsFollowed R t w
      why w h kept single true f = inl f
      why w h kept single false f = elim (made (R.base t.repo) (entries (R.trace t.repo)) (sd.each t.repo) t w h.there h.commits (own t w h.there)) [
        | inl d ↦ let k : is_kept (R.base t.repo) (R.trace t.repo) t ≡ true = still-kept (R.base t.repo) (R.trace t.repo) (sd.each t.repo) t f d in cc
        | inr alone ↦ inr (followed w single alone)
      ]

      stood : (w : Known) → part (histories R) t.repo t ≡ Some w → is_kept (R.base t.repo) (R.trace t.repo) t ≡ false → is_last_alone (R.base t.repo) (R.trace t.repo) t ≡ false → (f : Fate) → w.fate ≡ f → is_open f ≡ false → IsGivenUp R t
      stood w is kept single Open e undecided = cc
      stood w is kept single (Committed at) e undecided =
          let h : HasCommitted (histories R) t w = record { there = is; commits = subst IsCommitted (sym e) tt } in
          inr (inr (w, h, why w h kept single (is_forgotten (R.trace t.repo) t) refl))
      stood w is kept single Aborted e undecided = inr (inl (w, is, e))

      by : (k : Option Known) → part (histories R) t.repo t ≡ k → (is_undecided (part (histories R) t.repo t) && nat_eq t.repo (R.base t.repo).repo) ≡ false → is_kept (R.base t.repo) (R.trace t.repo) t ≡ false → is_last_alone (R.base t.repo) (R.trace t.repo) t ≡ false → IsGivenUp R t
      by None is undecided kept single = inl is
      by (Some w) is undecided kept single =
          let settled = and-false (is_undecided (part (histories R) t.repo t)) (nat_eq t.repo (R.base t.repo).repo) undecided (eq-eqb t.repo (R.base t.repo).repo (own t w is)) in
          stood w is kept single w.fate refl (sym (ap is_undecided is) ∙ settled)

  module _ (at : IsAtomic (histories R)) where
    -- what is told to be undecided is so wherever it stands
    pub open-told : (t : Ts) → coordinator_answer R t ≡ Undecided → (n : ℕ) (o : Known) → part (histories R) n t ≡ Some o → o.fate ≡ Open
    open-told t h n o is =
        let k = undecided-known (part (histories R) t.repo t) (and-both (is_undecided (part (histories R) t.repo t)) (nat_eq t.repo (R.base t.repo).repo) (said-open _ _ h)).0 in
        by k.0 k.1 k.2 o.fate refl
      where
        by : (w : Known) → part (histories R) t.repo t ≡ Some w → w.fate ≡ Open → (f : Fate) → o.fate ≡ f → o.fate ≡ Open
        by w it first Open e = e
        by w it first (Committed m) e = absurd (open-committed w.fate first (at.agreed n t o w is (subst IsCommitted (sym e) tt) it))
        by w it first Aborted e = let a : w.fate ≡ Aborted = at.given_up n t o w is e it in cc

    module _ (n : ℕ) (t : Ts) (o : Known) (other : n ≢ t.repo) (is : part (histories R) n t ≡ Some o) (undecided : o.fate ≡ Open) where
      takes : Alike (histories R) → (w : Known) → part (histories R) t.repo t ≡ Some w → takes_part t.repo w.request n ≡ true
      takes al w it = sym ((al n t o w is it).participants n) ∙ ap (λ (x : Bool). x || list_any (nat_eq n) o.request.others) (eq-eqb n n refl)

      alone-there : Alike (histories R) → (w : Known) → part (histories R) t.repo t ≡ Some w → w.request.others ≡ [] → n ≡ t.repo
      alone-there al w it none = eqb-true n t.repo (or-false (nat_eq n t.repo) (ap (λ ns. nat_eq n t.repo || list_any (nat_eq n) ns) (sym none) ∙ takes al w it))
        where
          or-false : (x : Bool) → (x || false) ≡ true → x ≡ true
          or-false true k = refl
          or-false false k = k

      -- it may be finished as it is told
      pub may-commit : SinglesWereBefore R → coordinator_answer R t ≡ Settled true → MayFinish (histories R) t true
      may-commit before h = elim (committed-told t h) [
        | inl k ↦ k
        | inr single ↦
            let k = at.known n t o is in
            absurd (too-old k.0 k.1 (before t.repo t single))
      ]
        where
          too-old : (w : Known) → part (histories R) t.repo t ≡ Some w → t.life ≤ (R.base t.repo).life → ⊥
          too-old w it l =
              let b = R.base t.repo in
              let H = entries (R.trace t.repo) in
              let v = (judged b H (sd.each t.repo) t w it).vouched in
              let named : w.request.tx ≡ t = (fits b H (sd.each t.repo) t w it).named in
              let living : t.life ≡ (state b (take w.place H)).life = subst (λ (u : Ts). u.repo ≡ b.repo → u.life ≡ (state b (take w.place H)).life) named v.alive (own t w it) in
              let begun : 0 < length (take w.place H) = subst (λ m. 0 < m) (length-state b (take w.place H)) v.begun in
              let above = life-above b (take w.place H) (sound_take b w.place H (sd.each t.repo)) begun in
              absurd (omega (arith, living, above, l))

      pub may-abort : Alike (histories R) → ForgottenAreFinished R → coordinator_answer R t ≡ Settled false → MayFinish (histories R) t false
      may-abort al forgotten h = by (aborted-told t h)
        where
          by : IsGivenUp R t → MayFinish (histories R) t false
          by (inl none) = let k = at.known n t o is in some-none k.0 (sym none ∙ k.1)
          by (inr (inl k)) = k
          by (inr (inr (w, c, inl f))) =
              let done = forgotten t.repo t f in
              let k = done.everywhere n (takes al done.w done.committed.there) in
              absurd (open-committed o.fate undecided (subst (λ (x : Known). IsCommitted x.fate) (same_Some k.0 o (sym k.1 ∙ is)) k.2))
          by (inr (inr (w, c, inr alone))) = absurd (other (alone-there al w c.there alone.alone))
