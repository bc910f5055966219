-- What the next opening finds is what the commits leave.
use Rattle.law_atomic_commit.specs.Several.{Alike, AreSound, IsAtomic, Several}
use Rattle.law_serializability.proofs.Checked.{here_after}
use Rattle.law_serializability.specs.Reopening.{IsReopening}
use Rattle.law_serializability.specs.Resting.{AreHere, IsOpening}
use Rattle.std.proofs.Common.{List, [], ap, refl, subst, sym, ℕ, ◌<◌, ◌≡◌, ◌≤◌, ◌∙◌, ◌∷◌}
use Rattle.std.specs.Prelude.{None, Option, Some}
use Rattle.law_lazy_history.proofs.Runs.{sorted-left}
use Rattle.thor_value.proofs.FiniteMap.{same_map}
use Rattle.thor_value.proofs.NameOrders.{oref_exact, oref_total}
use Rattle.thor_value.specs.FiniteMap.{IsSorted, get, overwrite}
use Rattle.thor_value.specs.declared.names.Oref.{Oref}
use Rattle.thor_value.specs.declared.values.Obj.{Obj}
use Rattle.law_global_order.proofs.Chain.{after}
use Rattle.law_global_order.proofs.End.{at_end}
use Rattle.law_global_order.proofs.EndTexts.{texts_at_end}
use Rattle.law_global_order.proofs.Listing.{listed}
use Rattle.law_global_order.proofs.Lists.{Es}
use Rattle.law_global_order.proofs.Serial.{behind-objects, behind-texts, joins-behind}
use Rattle.law_global_order.specs.Serial.{Joined, after_commits}
use Rattle.law_global_order.specs.Turns.{texts_after}
use Rattle.law_global_order.specs.Whole.{Objects, commits}

sorted-after : (M : Objects) (es : Es) → IsSorted M → IsSorted (after M es)
sorted-after M [] h = h
sorted-after M (e ∷ es) h = sorted-after (overwrite M e.1.writes) es (sorted-left M e.1.writes h)

-- two maps of objects that lie within are alike where they are so there
within-alike : (repos : ℕ) (m n : Objects) → ((x : Oref) (o : Obj) → get m x ≡ Some o → x.repo < repos) → ((x : Oref) (o : Obj) → get n x ≡ Some o → x.repo < repos)
    → ((x : Oref) → x.repo < repos → get m x ≡ get n x) → (x : Oref) → get m x ≡ get n x
within-alike repos m n hm hn same x = by (get m x) refl (get n x) refl
  where
    by : (p : Option Obj) → get m x ≡ p → (q : Option Obj) → get n x ≡ q → p ≡ q
    by None e None f = refl
    by (Some v) e q f = sym e ∙ same x (hm x v e) ∙ f
    by None e (Some v) f = sym e ∙ same x (hn x v f) ∙ f

module _ (S : Several) (sd : AreSound S) (at : IsAtomic S) (al : Alike S) (L : Joined) (opening : IsOpening S L) (here : AreHere S L) (some : 0 < S.repos) (N : Joined) (end : IsReopening S N) where
  last : Joined
  last = after_commits L (commits S).pairs

  last-here : (x : Oref) (o : Obj) → get last.objects x ≡ Some o → x.repo < S.repos
  unfolding last
  last-here x o is = here_after S sd al (commits S).pairs (listed S sd).stand L.objects here x o (ap (λ M. get M x) (sym (behind-objects L (commits S).pairs)) ∙ is)

  alike : (x : Oref) → x.repo < S.repos → get N.objects x ≡ get last.objects x
  unfolding last
  alike x l = end.objects x l ∙ sym (at_end S at sd (commits S).pairs (listed S sd) x.repo x)
      ∙ sym (joins-behind S sd at al L opening.objects opening.texts (commits S).pairs [] (subst (Rattle.law_global_order.proofs.Lists.Lists S) (sym (Rattle.std.proofs.lemmas.List.append-nil (commits S).pairs)) (listed S sd)) x l)

  objects : N.objects ≡ last.objects
  unfolding last
  objects = same_map oref_total oref_exact N.objects last.objects end.sorted
      (subst IsSorted (sym (behind-objects L (commits S).pairs)) (sorted-after L.objects (commits S).pairs opening.sorted))
      (within-alike S.repos N.objects last.objects end.here last-here alike)

  texts : N.texts ≡ last.texts
  unfolding last
  texts =
      sym (end.texts 0 some)
      ∙ sym (texts_at_end S at sd al (commits S).pairs (listed S sd) 0 some)
      ∙ ap (λ ts. texts_after ts (commits S).pairs) (opening.texts 0 some)
      ∙ sym (behind-texts L (commits S).pairs)

  pub reopened : N ≡ after_commits L (commits S).pairs
  unfolding last
  reopened = ap (λ m. record { objects = m; texts = N.texts }) objects ∙ ap (λ ts. record { objects = last.objects; texts = ts }) texts
