-- The commits as one serial history: each meets, at its turn, all that it met at its places.
use Rattle.law_atomic_commit.specs.Several.{Alike, AreSound, IsAtomic, Several, part}
use Rattle.log_entries.specs.declared.request.Request.{Request}
use Rattle.spec_history.specs.History.{Known, objects_at, state}
use Rattle.spec_history.specs.Requests.{has_read}
use Rattle.std.proofs.Common.{Bool, [], ap, append_assoc, refl, subst, sym, take, true, ℕ, ◌++◌, ◌<◌, ◌≡◌, ◌∙◌, ◌∷◌}
use Rattle.std.proofs.lemmas.List.Sums.{fold-append}
use Rattle.std.specs.Prelude.{Some}
use Rattle.thor_value.specs.FiniteMap.{get}
use Rattle.thor_value.specs.declared.names.Oref.{Oref}
use Rattle.law_global_order.proofs.Chain.{after, joined-after, read-here}
use Rattle.law_global_order.proofs.Epochs.{epoch-at-turn}
use Rattle.law_global_order.proofs.Lists.{Es, Lists, here, in-all}
use Rattle.law_global_order.proofs.Turns.{in-range, joined_at_turn}
use Rattle.law_global_order.specs.Serial.{AllRest, BeganWith, HasMet, IsSerial, Joined, Joins, bases, after_commits, next}
use Rattle.law_global_order.specs.Turns.{texts_after}
use Rattle.law_global_order.specs.Whole.{Commit, Objects, stored}

pub behind-objects : (L : Joined) (es : Es) → (after_commits L es).objects ≡ after L.objects es
behind-objects L [] = refl
behind-objects L (e ∷ es) = behind-objects (next L e.1) es

pub behind-texts : (L : Joined) (es : Es) → (after_commits L es).texts ≡ texts_after L.texts es
behind-texts L [] = refl
behind-texts L (e ∷ es) = behind-texts (next L e.1) es

pub behind-end : (L : Joined) (done : Es) (e : Commit) → after_commits L (done ++ e ∷ []) ≡ next (after_commits L done) e.1
behind-end L done e = fold-append (λ N f. next N f.1) L done (e ∷ [])

module _ (S : Several) (sd : AreSound S) (at : IsAtomic S) (al : Alike S) (L : Joined) (joined : Joins S.repos (bases S) L.objects) (texts : BeganWith S L.texts) where
  -- what is there behind some commits is what each repository has of them
  pub joins-behind : (done rest : Es) → Lists S (done ++ rest) → Joins S.repos (stored S done) (after_commits L done).objects
  joins-behind done rest c x l =
      ap (λ (M : Objects). get M x) (behind-objects L done)
      ∙ joined-after S sd al L.objects done (λ f i. c.stand f (in-all done rest f i)) joined x l

  -- the commit e meets at its turn what it met at its places
  pub met : (done rest : Es) (e : Commit) → Lists S (done ++ e ∷ rest) → HasMet S e.0 (after_commits L done)
  met done rest e c = record { objects = objects; texts = seen }
    where
      objects : (r : ℕ) (o : Known) (x : Oref) → part S r e.0 ≡ Some o → has_read o.request x ≡ true → get (after_commits L done).objects x ≡ get (objects_at (S.base r) (S.history r) o.place) x
      objects r o x is read =
          let same : x.repo ≡ r = read-here S sd r e.0 o x is read in
          let l : x.repo < S.repos = subst (λ (n : ℕ). n < S.repos) (sym same) (in-range S sd r e.0 o is) in
          joins-behind done (e ∷ rest) c x l
          ∙ ap (λ (n : ℕ). get (stored S done n) x) same
          ∙ joined_at_turn S at sd done rest e c r o x is read

      seen : (r : ℕ) (o : Known) → part S r e.0 ≡ Some o → (state (S.base r) (take o.place (S.history r))).texts ≡ (after_commits L done).texts
      seen r o is =
          (epoch-at-turn S at sd al done rest e c r o is).0
          ∙ ap (λ ts. texts_after ts done) (texts r (in-range S sd r e.0 o is))
          ∙ sym (behind-texts L done)

  serial-from : (does : Joined → Request → Bool) → AllRest S does → (done rest : Es) → Lists S (done ++ rest) → IsSerial does (after_commits L done) rest
  serial-from does rests done [] c = tt
  serial-from does rests done (e ∷ rest) c =
      let k = c.stand e (here done rest e) in
      let w : Known = k.0 in
      let turn : does (after_commits L done) e.1 ≡ true = ap (does (after_commits L done)) k.2 ∙ rests e.0 w k.1 (after_commits L done) (met done rest e c) in
      let more : IsSerial does (after_commits L (done ++ e ∷ [])) rest = serial-from does rests (done ++ e ∷ []) rest (subst (Lists S) (sym (append_assoc done (e ∷ []) rest)) c) in
      (turn, subst (λ (N : Joined). IsSerial does N rest) (behind-end L done e) more)

  pub serial : (does : Joined → Request → Bool) → AllRest S does → (es : Es) → Lists S es → IsSerial does L es
  serial does rests es c = serial-from does rests [] es c
