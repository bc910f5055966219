-- What restarts and stops make of a trace is growth for each client, where what is unsettled is read off the repository's state.
use Rattle.log_entries.specs.declared.entry.Entry.TheVariants.{Decided, Finished, Life, One, Prepared, Upgraded}
use Rattle.log_entries.specs.declared.entry.Entry.{Entry}
use Rattle.law_client_views.proofs.Grown.{halts_from, stays}
use Rattle.client_port.specs.Growing.{Gains, Grew, MayHalt}
use Rattle.law_client_views.specs.Standing.{ComesUp, FailsBehind, Restarts, Stops, TakesNone, is_client, unsettled_of}
use Rattle.law_repo_runs.specs.Restarting.{MayTake, StaysPending}
use Rattle.law_repo_runs.specs.Standing.{Down, Phase, Torn, Up}
use Rattle.client_port.specs.Views.{Calm, Halted, MayCome, Unsettled}
use Rattle.spec_history.specs.History.{Base}
use Rattle.spec_trace.specs.Gaps.{maker}
use Rattle.spec_trace.specs.Trace.{E, Item, item_at}
use Rattle.std.proofs.Common.{Bool, List, [], ap, append_assoc, arith, cond, false, inl, inr, refl, subst, sym, true, ◌++◌, ◌∙◌, ◌∷◌, ◌≡◌, ◌≢◌, ℕ}
use Rattle.std.proofs.lemmas.Bool.Decides.{nat_tests}
use Rattle.std.proofs.lemmas.List.{append-nil}
use Rattle.std.specs.Prelude.{None, Option, Some, nat_eq, ◌⊎◌}

module _ (b : Base) (c : ℕ) where
  itself : (n : ℕ) → nat_eq n n ≡ true
  itself n = grind (arith, nat_tests)

  -- an item is another's where it isn't the client's
  others : (m : Option ℕ) → is_client c m ≡ false → m ≢ Some c
  others m e f = let g : false ≡ true = sym e ∙ ap (is_client c) f ∙ itself c in cc

  nobody : ◌≡◌ {A = Option ℕ} None (Some c) → ⊥
  nobody e = cc

  -- what is unsettled of a pending entry, by whether it is the client's
  abbrev pending_of : Entry → Bool → Unsettled
  pending_of e own = cond own (MayCome e) Halted

  -- what is unsettled behind the pending entry
  abbrev behind_it : Entry → Unsettled
  behind_it (Life n) = Calm
  behind_it (One q) = Halted
  behind_it (Prepared q) = Halted
  behind_it (Decided t k) = Halted
  behind_it (Finished t k) = Halted
  behind_it (Upgraded q) = Halted

  -- the pending entry comes
  one : (T : List Item) (e : Entry) (own : Bool) → is_client c (maker b T (E e)) ≡ own → Gains b c (pending_of e own) T (E e) (behind_it e)
  one T (Life n) true h = refl
  one T (Life n) false h = refl
  one T (One q) true h = inl (refl, refl)
  one T (One q) false h = (others (maker b T (E (One q))) h, refl)
  one T (Prepared q) true h = inl (refl, refl)
  one T (Prepared q) false h = (others (maker b T (E (Prepared q))) h, refl)
  one T (Decided t k) true h = inl (refl, refl)
  one T (Decided t k) false h = (others (maker b T (E (Decided t k))) h, refl)
  one T (Finished t k) true h = inl (refl, refl)
  one T (Finished t k) false h = (others (maker b T (E (Finished t k))) h, refl)
  one T (Upgraded q) true h = inl (refl, refl)
  one T (Upgraded q) false h = (others (maker b T (E (Upgraded q))) h, refl)

  -- a Life comes, whatever is unsettled
  life : (u : Unsettled) (T : List Item) (n : ℕ) → Gains b c u T (E (Life n)) Calm
  life Calm T n = (nobody, refl)
  life (MayCome e) T n = refl
  life Halted T n = refl

  down_none : (u : Unsettled) (q : Phase) (S : List Item) (n : ℕ) → (q ≡ Down None) ⊎ (q ≡ Down (Some (Life n))) → MayHalt u (unsettled_of b c S q)
  down_none u q S n h = elim h [
    | inl e ↦ subst (λ (p : Phase). MayHalt u (unsettled_of b c S p)) (sym e) (halts_from u)
    | inr e ↦ subst (λ (p : Phase). MayHalt u (unsettled_of b c S p)) (sym e) (halts_from u)
  ]

  -- it comes up behind nothing that was taken
  up_alone : (u : Unsettled) (T S : List Item) (n : ℕ) (q : Phase) → q ≡ Up → S ≡ (T ++ []) ++ E (Life n) ∷ [] → Grew b c u T (unsettled_of b c S q) S
  up_alone u T S n q up ends = record {
    gap = E (Life n) ∷ [];
    gains = (Calm, life u T n, subst (λ (p : Phase). MayHalt Calm (unsettled_of b c S p)) (sym up) tt);
    ends = ends ∙ ap (λ (U : List Item). U ++ E (Life n) ∷ []) (append-nil T);
  }

  -- it comes up behind the pending entry
  up_with : (T S : List Item) (e : Entry) (n : ℕ) (q : Phase) → q ≡ Up → S ≡ (T ++ E e ∷ []) ++ E (Life n) ∷ [] → Grew b c (unsettled_of b c T (Down (Some e))) T (unsettled_of b c S q) S
  up_with T S e n q up ends = record {
    gap = E e ∷ E (Life n) ∷ [];
    gains = (behind_it e, one T e (is_client c (maker b T (E e))) refl, (Calm, life (behind_it e) (T ++ E e ∷ []) n, subst (λ (p : Phase). MayHalt Calm (unsettled_of b c S p)) (sym up) tt));
    ends = ends ∙ append_assoc T (E e ∷ []) (E (Life n) ∷ []);
  }

  down_alone : (u : Unsettled) (T S : List Item) (n : ℕ) (q : Phase) → (q ≡ Down None) ⊎ (q ≡ Down (Some (Life n))) → S ≡ T ++ [] → Grew b c u T (unsettled_of b c S q) S
  down_alone u T S n q h ends = record { gap = []; gains = down_none u q S n h; ends = ends }

  down_with : (T S : List Item) (e : Entry) (n : ℕ) (q : Phase) → (q ≡ Down None) ⊎ (q ≡ Down (Some (Life n))) → S ≡ T ++ E e ∷ [] → Grew b c (unsettled_of b c T (Down (Some e))) T (unsettled_of b c S q) S
  down_with T S e n q h ends = record {
    gap = E e ∷ [];
    gains = (behind_it e, one T e (is_client c (maker b T (E e))) refl, down_none (behind_it e) q S n h);
    ends = ends;
  }

  -- it takes nothing
  rest : (p q : Phase) (T : List Item) → StaysPending p q → MayHalt (unsettled_of b c T p) (unsettled_of b c T q)
  rest Up q T h = subst (λ (x : Phase). MayHalt Calm (unsettled_of b c T x)) (sym h) tt
  rest (Down pending) q T h = elim h [
    | inl e ↦ subst (λ (x : Phase). MayHalt (unsettled_of b c T (Down pending)) (unsettled_of b c T x)) (sym e) (halts_from (unsettled_of b c T (Down pending)))
    | inr e ↦ subst (λ (x : Phase). MayHalt (unsettled_of b c T (Down pending)) (unsettled_of b c T x)) (sym e) (stays (unsettled_of b c T (Down pending)))
  ]
  rest Torn q T h = subst (λ (x : Phase). MayHalt Halted (unsettled_of b c T x)) (sym h) tt

  up : (p q : Phase) (T S : List Item) (taken : Option Entry) (n : ℕ) → MayTake p taken → q ≡ Up → S ≡ (T ++ item_at taken) ++ E (Life n) ∷ [] → Grew b c (unsettled_of b c T p) T (unsettled_of b c S q) S
  up Up q T S None n m h ends = up_alone Calm T S n q h ends
  up Up q T S (Some e) n m h ends = absurd m
  up (Down pending) q T S None n m h ends = up_alone (unsettled_of b c T (Down pending)) T S n q h ends
  up (Down pending) q T S (Some e) n m h ends = subst (λ (o : Option Entry). Grew b c (unsettled_of b c T (Down o)) T (unsettled_of b c S q) S) (sym m) (up_with T S e n q h ends)
  up Torn q T S None n m h ends = absurd m
  up Torn q T S (Some e) n m h ends = absurd m

  fails : (p q : Phase) (T S : List Item) (taken : Option Entry) (n : ℕ) → MayTake p taken → (q ≡ Down None) ⊎ (q ≡ Down (Some (Life n))) → S ≡ T ++ item_at taken → Grew b c (unsettled_of b c T p) T (unsettled_of b c S q) S
  fails Up q T S None n m h ends = down_alone Calm T S n q h ends
  fails Up q T S (Some e) n m h ends = absurd m
  fails (Down pending) q T S None n m h ends = down_alone (unsettled_of b c T (Down pending)) T S n q h ends
  fails (Down pending) q T S (Some e) n m h ends = subst (λ (o : Option Entry). Grew b c (unsettled_of b c T (Down o)) T (unsettled_of b c S q) S) (sym m) (down_with T S e n q h ends)
  fails Torn q T S None n m h ends = absurd m
  fails Torn q T S (Some e) n m h ends = absurd m

  none : (p q : Phase) (T S : List Item) → StaysPending p q → S ≡ T → Grew b c (unsettled_of b c T p) T (unsettled_of b c S q) S
  none p q T S h ends = subst (λ (U : List Item). Grew b c (unsettled_of b c T p) T (unsettled_of b c U q) U) (sym ends) (record { gap = []; gains = rest p q T h; ends = sym (append-nil T) })

  pub restarts_grow : (p q : Phase) (T S : List Item) → Restarts p T q S → Grew b c (unsettled_of b c T p) T (unsettled_of b c S q) S
  restarts_grow p q T S (ComesUp taken n m h ends) = up p q T S taken n m h ends
  restarts_grow p q T S (FailsBehind taken n m h ends) = fails p q T S taken n m h ends
  restarts_grow p q T S (TakesNone h ends) = none p q T S h ends

  -- another stops it
  halted : (p : Phase) (T : List Item) → Stops b c T p → MayHalt Calm (unsettled_of b c T p)
  halted Up T h = absurd h
  halted (Down None) T h = tt
  halted (Down (Some e)) T h = subst (λ (x : Bool). MayHalt Calm (cond x (MayCome e) Halted)) (sym h) tt
  halted Torn T h = tt

  pub stops_grow : (p : Phase) (T : List Item) → Stops b c T p → Grew b c Calm T (unsettled_of b c T p) T
  stops_grow p T h = record { gap = []; gains = halted p T h; ends = sym (append-nil T) }
