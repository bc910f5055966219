-- What becomes of a step that was read off a trace.
use Rattle.log_entries.specs.declared.entry.Entry.{Entry}
use Rattle.model_repository.specs.Reading.{IsStep, added}
use Rattle.model_reading.specs.Items.{read, trace_of}
use Rattle.model_repository.specs.Sites.{IfDown, IsPut, IsTaken, is_down, trace_in, unsettled_of}
use Rattle.model_reading.specs.declared.item.Item as item
use Rattle.model_repository.specs.declared.site.Left.TheVariants as left
use Rattle.model_repository.specs.declared.site.Left.{Left}
use Rattle.model_repository.specs.declared.site.Site.{Site}
use Rattle.client_port.specs.Views.{Calm, Halted, MayCome, Unsettled}
use Rattle.law_client_views.specs.Plain.{Stepped}
use Rattle.spec_trace.specs.Trace.{E, Item}
use Rattle.std.proofs.Common.{Bool, List, [], ap, false, inl, inr, refl, subst, sym, true, ◌++◌, ◌∙◌, ◌∷◌, ◌≡◌, ℕ}
use Rattle.std.proofs.lemmas.List.{append-nil, map-append}
use Rattle.std.specs.Prelude.{Err, IfOk, None, Ok, Option, Result, Some}
use Rattle.thor_value.specs.declared.memory.NoMemory.{NoMemory}
use Rattle.repo_refusals.specs.declared.refusal.Refusal.TheVariants as refused
use Rattle.repo_refusals.specs.declared.refusal.Refusal.{Refusal}

pub up_calm : (c : ℕ) (l : Left) → is_down l ≡ false → unsettled_of c l ≡ Calm
up_calm c left.Up e = refl
up_calm c (left.Pending n f) e = cc
up_calm c left.Down e = cc

pub if_down : (t : Bool) (down up : Type 0) → t ≡ true → down → IfDown t down up
if_down true down up e h = h
if_down false down up e h = cc

pub if_up : (t : Bool) (down up : Type 0) → t ≡ false → up → IfDown t down up
if_up true down up e h = cc
if_up false down up e h = h

-- ---- items

pub one_more : (is : List item.Item) (i : item.Item) → trace_of (is ++ i ∷ []) ≡ trace_of is ++ read i ∷ []
one_more is i = map-append read is (i ∷ [])

module _ {X : Type 0} (answer : Result X Refusal) (c : ℕ) (old new : Site) (up : is_down old.left ≡ false) where
  pub pushed : (i : item.Item) → new.items.items ≡ old.items.items ++ i ∷ [] → new.left ≡ old.left → IsPut (Ok (answer, Some i)) c old new answer
  pushed i here same = inl (record { step = (answer, Some i); is = refl; answer = refl; trace = ap trace_of here ∙ one_more old.items.items i; up = ap (unsettled_of c) same ∙ up_calm c old.left up })

pub answered : {X : Type 0} (answer : Result X Refusal) (c : ℕ) (old : Site) → is_down old.left ≡ false → IsPut (Ok (answer, None)) c old old answer
answered answer c old up = inl (record { step = (answer, None); is = refl; answer = refl; trace = sym (append-nil (trace_of old.items.items)); up = up_calm c old.left up })

pub failed : {X : Type 0} (plan : Result (Result X Refusal × Option item.Item) NoMemory) (c : ℕ) (old new : Site) (result : Result X Refusal) → result ≡ Err refused.NoMemory → new.items.items ≡ old.items.items → new.left ≡ left.Down → IsPut plan c old new result
failed plan c old new result e here down = inr (record { answer = e; trace = ap trace_of here; down = ap (unsettled_of c) down })

-- ---- works

module _ {X : Type 0} (W : Result X Refusal → List Item → Unsettled → Type 0) where
  carry : (r s : Result X Refusal) (T S : List Item) (u v : Unsettled) → r ≡ s → T ≡ S → u ≡ v → W s S v → W r T u
  carry r s T S u v e f g h = subst (λ (x : Result X Refusal). W x T u) (sym e) (subst (λ (U : List Item). W s U u) (sym f) (subst (W s S) (sym g) h))

  module _ (plan : Result (Result X Refusal × Option item.Item) NoMemory) (c r : ℕ) (old new : Site) (result : Result X Refusal) (plain : Stepped X) (reads : IfOk plan (λ step. IsStep old.items.items step plain)) where
    step_is : (step : Result X Refusal × Option item.Item) → plan ≡ Ok step → IsStep old.items.items step plain
    step_is step e = subst (λ (p : Result (Result X Refusal × Option item.Item) NoMemory). IfOk p (λ s. IsStep old.items.items s plain)) e reads

    -- a call that writes no entry does its work
    pub put_works : IsPut plan c old new result → ((step : Result X Refusal × Option item.Item) → plan ≡ Ok step → W plain.0 plain.1 Calm) → W (Err refused.NoMemory) (trace_in old) Halted → W result (trace_in new) (unsettled_of c new.left)
    put_works (inl d) done fails =
        let s = step_is d.step d.is in
        carry result plain.0 (trace_in new) plain.1 (unsettled_of c new.left) Calm (d.answer ∙ s.answer) (d.trace ∙ s.trace) d.up (done d.step d.is)
    put_works (inr f) done fails = carry result (Err refused.NoMemory) (trace_in new) (trace_in old) (unsettled_of c new.left) Halted f.answer f.trace f.down fails

    -- one that may write an entry does it, too
    pub taken_works : IsTaken plan c r old new result → ((step : Result X Refusal × Option item.Item) → plan ≡ Ok step → W plain.0 plain.1 Calm) → W (Err refused.NoMemory) (trace_in old) Halted
        → ((e : Entry) → trace_in old ++ E e ∷ [] ≡ plain.1 → W (Err (refused.Stopped r)) (trace_in old) (MayCome e)) → W result (trace_in new) (unsettled_of c new.left)
    taken_works (inl p) done fails stops = put_works p done fails
    taken_works (inr h) done fails stops =
        let s = step_is h.step h.is in
        carry result (Err (refused.Stopped r)) (trace_in new) (trace_in old) (unsettled_of c new.left) (MayCome h.entry) h.answer h.trace h.left (stops h.entry (ap (λ (o : Option item.Item). trace_in old ++ added o) (sym h.comes) ∙ s.trace))
