-- What is forgotten stays finished, whatever comes.
use Rattle.law_atomic_commit.proofs.Grown.{committed-grown, committed-stays, onward}
use Rattle.law_atomic_commit.proofs.Traced.{entry-added, mark-added}
use Rattle.law_atomic_commit.specs.Asking.{ForgottenAreFinished, IsFinished}
use Rattle.law_atomic_commit.specs.Growing.{Continues, grown}
use Rattle.law_atomic_commit.specs.Several.{AreSound, Repositories, Several, histories, part, with_item}
use Rattle.log_entries.specs.declared.entry.Entry.{Entry}
use Rattle.log_entries.specs.declared.request.Request.{Request}
use Rattle.spec_history.specs.History.{known_by}
use Rattle.spec_history.specs.Participants.{takes_part}
use Rattle.spec_trace.specs.Calls.{forgets, is_forgotten}
use Rattle.spec_trace.specs.Trace.{E, Item, M}
use Rattle.spec_trace.specs.declared.mark.Mark.{Mark}
use Rattle.std.proofs.Common.{Bool, List, [], ap, false, inl, inr, refl, subst, true, ℕ, ◌++◌, ◌≡◌, ◌∙◌, ◌∷◌}
use Rattle.std.specs.Prelude.{cond, nat_eq, ◌||◌, ◌⊎◌}
use Rattle.thor_value.specs.declared.names.Ts.{Ts}

-- what holds of the parts holds of the same parts
same-parts : (S Z : Several) (t : Ts) → ((n : ℕ) → part Z n t ≡ part S n t) → IsFinished S t → IsFinished Z t
same-parts S Z t same f = record {
  w = f.w;
  committed = record { there = same t.repo ∙ f.committed.there; commits = f.committed.commits };
  everywhere = λ n takes. let k = f.everywhere n takes in (k.0, same n ∙ k.1, k.2);
}

finished-grown : (S : Several) (r : ℕ) (e : Entry) → AreSound S → Continues S r e → (t : Ts) → IsFinished S t → IsFinished (grown S r e) t
finished-grown S r e sd go t f =
    let c = committed-grown S r e sd go t f.w f.committed in
    record {
      w = c.0;
      committed = c.1;
      everywhere = λ n takes.
          let k = f.everywhere n (subst (λ (q : Request). takes_part t.repo q n ≡ true) c.2 takes) in
          let g = onward S r e sd go n t k.0 k.1 in
          (g.0, g.1, committed-stays k.0.fate g.0.fate k.2 g.2.fate);
    }

-- what a longer trace forgets was forgotten, or is so by the item
forgotten-end : (T : List Item) (i : Item) (t : Ts) → is_forgotten (T ++ i ∷ []) t ≡ true → (is_forgotten T t ≡ true) ⊎ (forgets t i ≡ true)
forgotten-end [] i t h = inr (or-false (forgets t i) h)
  where
    or-false : (x : Bool) → (x || false) ≡ true → x ≡ true
    or-false true k = refl
    or-false false k = k
forgotten-end (j ∷ T) i t h = by (forgets t j) h (forgotten-end T i t)
  where
    by : (x : Bool) → (x || is_forgotten (T ++ i ∷ []) t) ≡ true → (is_forgotten (T ++ i ∷ []) t ≡ true → (is_forgotten T t ≡ true) ⊎ (forgets t i ≡ true)) → ((x || is_forgotten T t) ≡ true) ⊎ (forgets t i ≡ true)
    by true k more = inl refl
    by false k more = more k

forgotten-item : (R : Repositories) (r : ℕ) (i : Item) (n : ℕ) (t : Ts) → is_forgotten ((with_item R r i).trace n) t ≡ true → (is_forgotten (R.trace n) t ≡ true) ⊎ (forgets t i ≡ true)
forgotten-item R r i n t h = by (nat_eq n r) h
  where
    by : (k : Bool) → is_forgotten (cond k (R.trace n ++ i ∷ []) (R.trace n)) t ≡ true → (is_forgotten (R.trace n) t ≡ true) ⊎ (forgets t i ≡ true)
    by true k = forgotten-end (R.trace n) i t k
    by false k = inl k

module _ (R : Repositories) (r : ℕ) where
  pub finished-entry : (e : Entry) → AreSound (histories R) → Continues (histories R) r e → ForgottenAreFinished R → ForgottenAreFinished (with_item R r (E e))
  finished-entry e sd go old n t h = elim (forgotten-item R r (E e) n t h) [
    | inl k ↦ same-parts (grown (histories R) r e) (histories (with_item R r (E e))) t (λ m. ap (λ H. known_by (R.base m) H t) (entry-added R r m e)) (finished-grown (histories R) r e sd go t (old n t k))
    | inr k ↦ cc
  ]

  pub finished-mark : (m : Mark) → ((t : Ts) → forgets t (M m) ≡ true → IsFinished (histories R) t) → ForgottenAreFinished R → ForgottenAreFinished (with_item R r (M m))
  finished-mark m may old n t h = same-parts (histories R) (histories (with_item R r (M m))) t (λ k. ap (λ H. known_by (R.base k) H t) (mark-added R r k m)) (elim (forgotten-item R r (M m) n t h) [
    | inl k ↦ old n t k
    | inr k ↦ may t k
  ])
