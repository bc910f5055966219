-- What the readers of whole bodies say, for every exact format.
use Rattle.std.proofs.Common.{◌≡◌, ℕ, ◌<◌, ◌^◌, List, [], ◌∷◌, ◌++◌, length, Some, None, Result, Ok, Err, refl, sym, ap, subst, ◌∙◌}
use Rattle.std.specs.Prelude.{IfOk, IsErrOf}
use Rattle.std.proofs.lemmas.List.{append-nil}
use Rattle.std.proofs.lemmas.Option.{same_Some}
use Rattle.thor_value.proofs.Exactness.{IsBytes}
use Rattle.log_codec.specs.Format.{Answered, Format, Gives, IsSpelled, to_the_end, value_of}
use Rattle.log_codec.specs.declared.fault.BodyFault.{BodyFault}
use Rattle.log_codec.specs.declared.fault.BodyFault.TheVariants.{NotOne, NoMemory}
use Rattle.log_codec.proofs.Exact.{IsExactFormat, bind_some, some_on}

at_end : {V : Type 0} (x : V × List ℕ) (v : V) → to_the_end x ≡ Some v → (x.0 ≡ v) × (x.1 ≡ [])
at_end (w, []) v e = (same_Some w v e, refl)
at_end (w, b ∷ bytes) v e = absurd cc

module _ {V : Type 0} (f : Format V) (ef : IsExactFormat f) (bytes : List ℕ) (b : IsBytes bytes) where
  pub spelled_from : (v : V) → value_of f bytes ≡ Some v → IsSpelled f bytes v
  spelled_from v e =
      let p = bind_some (f.reading bytes) to_the_end v e in
      let q = at_end p.0 v p.2 in
      let g = ef.found bytes p.0 b p.1 in
      record {
        fits = subst f.Fits q.0 g.0;
        countable = subst f.Countable q.0 g.1;
        whole = g.2 ∙ ap (λ (r : List ℕ). f.spelling p.0.0 ++ r) q.1 ∙ append-nil (f.spelling p.0.0) ∙ ap f.spelling q.0;
      }

  pub value_from : (v : V) → IsSpelled f bytes v → value_of f bytes ≡ Some v
  value_from v s =
      let r : f.reading bytes ≡ Some (v, []) = ap f.reading (s.whole ∙ sym (append-nil (f.spelling v))) ∙ ef.again v [] s.fits s.countable in
      some_on (f.reading bytes) to_the_end (v, []) r

  abbrev Answer : Type 0
  Answer = Result V BodyFault

  pub is_found : (r : Answer) → Gives (λ v. v) r (value_of f bytes) → IfOk r (λ v. IsSpelled f bytes v)
  is_found (Ok v) g = spelled_from v g
  is_found (Err e) g = tt

  no_value : (v : V) → value_of f bytes ≡ None → value_of f bytes ≡ Some v → ⊥
  no_value v e g = let c : None ≡ Some v = sym e ∙ g in cc

  pub is_only : (r : Answer) → Gives (λ v. v) r (value_of f bytes) → (v : V) → IsSpelled f bytes v → Answered r (Ok v)
  is_only (Ok w) g v s = ap (λ (x : V). Ok x) (same_Some w v (sym g ∙ value_from v s))
  is_only (Err NotOne) g v s = absurd (no_value v g (value_from v s))
  is_only (Err NoMemory) g v s = tt

  pub is_not_one : (r : Answer) → Gives (λ v. v) r (value_of f bytes) → IsErrOf r NotOne → (v : V) → IsSpelled f bytes v → ⊥
  is_not_one (Ok w) g e v s = absurd cc
  is_not_one (Err NotOne) g e v s = no_value v g (value_from v s)
  is_not_one (Err NoMemory) g e v s = absurd cc

  pub is_not_one_only : (r : Answer) → Gives (λ v. v) r (value_of f bytes) → ((v : V) → IsSpelled f bytes v → ⊥) → Answered r (Err NotOne)
  is_not_one_only (Ok w) g n = absurd (n w (spelled_from w g))
  is_not_one_only (Err NotOne) g n = refl
  is_not_one_only (Err NoMemory) g n = tt

-- what was spelled into less than 2 ^ 32 bytes is a whole body
pub whole_of : {V : Type 0} (f : Format V) (ef : IsExactFormat f) (v : V) (put : List ℕ) → f.Fits v → put ≡ f.spelling v → length put < 2 ^ 32 → IsSpelled f put v
whole_of f ef v put h e n = record { fits = h; countable = ef.counts v h (subst (λ (t : List ℕ). length t < 2 ^ 32) e n); whole = e }

pub spelled_ok : {V E : Type 0} (f : Format V) (ef : IsExactFormat f) (v : V) (put : List ℕ) → f.Fits v → put ≡ f.spelling v → (r : Result (List ℕ) E) → IfOk r (λ t. t ≡ put) → IfOk r (λ t. length t < 2 ^ 32) → IfOk r (λ t. IsSpelled f t v)
spelled_ok f ef v put h e (Ok t) same short = whole_of f ef v t h (same ∙ e) short
spelled_ok f ef v put h e (Err d) same short = tt

-- and is read again
pub read_again : {V E : Type 0} (f : Format V) (ef : IsExactFormat f) (v : V) (put : List ℕ) → f.Fits v → put ≡ f.spelling v → (r : Result (List ℕ) E) → IfOk r (λ t. t ≡ put) → IfOk r (λ t. length t < 2 ^ 32) → IfOk r (λ t. value_of f t ≡ Some v)
read_again f ef v put h e (Ok t) same short =
    let s = whole_of f ef v t h (same ∙ e) short in
    let r : f.reading t ≡ Some (v, []) = ap f.reading (s.whole ∙ sym (append-nil (f.spelling v))) ∙ ef.again v [] s.fits s.countable in
    some_on (f.reading t) to_the_end (v, []) r
read_again f ef v put h e (Err d) same short = tt
