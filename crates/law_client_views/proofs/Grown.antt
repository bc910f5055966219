-- What grew, and grew again.
use Rattle.log_entries.specs.declared.entry.Entry.TheVariants.{Decided, Finished, Life, One, Prepared, Upgraded}
use Rattle.log_entries.specs.declared.entry.Entry.{Entry}
use Rattle.spec_history.specs.History.{Base}
use Rattle.client_port.specs.Growing.{Gains, GainsAll, Grew, MayHalt}
use Rattle.client_port.specs.Views.{Calm, Halted, MayCome, Unsettled}
use Rattle.spec_trace.specs.Gaps.{ByOthers}
use Rattle.spec_trace.specs.Trace.{E, Item, M}
use Rattle.std.proofs.Common.{List, [], ap, append_assoc, inr, refl, subst, sym, ℕ, ◌++◌, ◌∙◌, ◌∷◌, ◌≡◌, ◌≢◌}
use Rattle.std.proofs.lemmas.List.{append-nil}
use Rattle.std.specs.Prelude.{None, Option, Some}

-- what is unsettled may stay
pub stays : (u : Unsettled) → MayHalt u u
stays Calm = tt
stays (MayCome e) = refl
stays Halted = tt

pub none_grew : (b : Base) (c : ℕ) (u : Unsettled) (T : List Item) → Grew b c u T u T
none_grew b c u T = record { gap = []; gains = stays u; ends = sym (append-nil T) }

-- another's call stopped the repository
pub halts : (b : Base) (c : ℕ) (T : List Item) → Grew b c Calm T Halted T
halts b c T = record { gap = []; gains = tt; ends = sym (append-nil T) }

pub halts_from : (u : Unsettled) → MayHalt u Halted
halts_from Calm = tt
halts_from (MayCome e) = tt
halts_from Halted = tt

halts_on : (w : Unsettled) → MayHalt Halted w → w ≡ Halted
halts_on Calm h = absurd h
halts_on (MayCome e) h = absurd h
halts_on Halted h = refl

module _ (b : Base) (c : ℕ) where
  nobody : ◌≡◌ {A = Option ℕ} None (Some c) → ⊥
  nobody e = cc

  -- what may come where the repository is down may come where more may
  calmer_end : (u w : Unsettled) → MayHalt Halted w → MayHalt u w
  calmer_end u w h = subst (MayHalt u) (sym (halts_on w h)) (halts_from u)

  from_calm : (w : Unsettled) (T is : List Item) → GainsAll b c Halted T is w → GainsAll b c Calm T is w
  from_calm w T [] h = calmer_end Calm w h
  from_calm w T (M m ∷ is) h = (Calm, (h.1.0, refl), from_calm w (T ++ M m ∷ []) is (subst (λ (x : Unsettled). GainsAll b c x (T ++ M m ∷ []) is w) h.1.1 h.2))
  from_calm w T (E (Life n) ∷ is) h = (h.0, (nobody, h.1), h.2)
  from_calm w T (E (One q) ∷ is) h = (Calm, (h.1.0, refl), from_calm w (T ++ E (One q) ∷ []) is (subst (λ (x : Unsettled). GainsAll b c x (T ++ E (One q) ∷ []) is w) h.1.1 h.2))
  from_calm w T (E (Prepared q) ∷ is) h = (Calm, (h.1.0, refl), from_calm w (T ++ E (Prepared q) ∷ []) is (subst (λ (x : Unsettled). GainsAll b c x (T ++ E (Prepared q) ∷ []) is w) h.1.1 h.2))
  from_calm w T (E (Decided t k) ∷ is) h = (Calm, (h.1.0, refl), from_calm w (T ++ E (Decided t k) ∷ []) is (subst (λ (x : Unsettled). GainsAll b c x (T ++ E (Decided t k) ∷ []) is w) h.1.1 h.2))
  from_calm w T (E (Finished t k) ∷ is) h = (Calm, (h.1.0, refl), from_calm w (T ++ E (Finished t k) ∷ []) is (subst (λ (x : Unsettled). GainsAll b c x (T ++ E (Finished t k) ∷ []) is w) h.1.1 h.2))
  from_calm w T (E (Upgraded q) ∷ is) h = (Calm, (h.1.0, refl), from_calm w (T ++ E (Upgraded q) ∷ []) is (subst (λ (x : Unsettled). GainsAll b c x (T ++ E (Upgraded q) ∷ []) is w) h.1.1 h.2))

  from_coming : (e : Entry) (w : Unsettled) (T is : List Item) → GainsAll b c Halted T is w → GainsAll b c (MayCome e) T is w
  from_coming e w T [] h = calmer_end (MayCome e) w h
  from_coming e w T (M m ∷ is) h = (MayCome e, (h.1.0, refl), from_coming e w (T ++ M m ∷ []) is (subst (λ (x : Unsettled). GainsAll b c x (T ++ M m ∷ []) is w) h.1.1 h.2))
  from_coming e w T (E (Life n) ∷ is) h = h
  from_coming e w T (E (One q) ∷ is) h = (MayCome e, inr (h.1.0, refl), from_coming e w (T ++ E (One q) ∷ []) is (subst (λ (x : Unsettled). GainsAll b c x (T ++ E (One q) ∷ []) is w) h.1.1 h.2))
  from_coming e w T (E (Prepared q) ∷ is) h = (MayCome e, inr (h.1.0, refl), from_coming e w (T ++ E (Prepared q) ∷ []) is (subst (λ (x : Unsettled). GainsAll b c x (T ++ E (Prepared q) ∷ []) is w) h.1.1 h.2))
  from_coming e w T (E (Decided t k) ∷ is) h = (MayCome e, inr (h.1.0, refl), from_coming e w (T ++ E (Decided t k) ∷ []) is (subst (λ (x : Unsettled). GainsAll b c x (T ++ E (Decided t k) ∷ []) is w) h.1.1 h.2))
  from_coming e w T (E (Finished t k) ∷ is) h = (MayCome e, inr (h.1.0, refl), from_coming e w (T ++ E (Finished t k) ∷ []) is (subst (λ (x : Unsettled). GainsAll b c x (T ++ E (Finished t k) ∷ []) is w) h.1.1 h.2))
  from_coming e w T (E (Upgraded q) ∷ is) h = (MayCome e, inr (h.1.0, refl), from_coming e w (T ++ E (Upgraded q) ∷ []) is (subst (λ (x : Unsettled). GainsAll b c x (T ++ E (Upgraded q) ∷ []) is w) h.1.1 h.2))

  halted_first : (u v w : Unsettled) (T is : List Item) → MayHalt u v → GainsAll b c v T is w → GainsAll b c u T is w
  halted_first Calm Calm w T is h g = g
  halted_first Calm (MayCome e) w T is h g = absurd h
  halted_first Calm Halted w T is h g = from_calm w T is g
  halted_first (MayCome e) Calm w T is h g = absurd h
  halted_first (MayCome e) (MayCome d) w T is h g = subst (λ (x : Entry). GainsAll b c (MayCome x) T is w) h g
  halted_first (MayCome e) Halted w T is h g = from_coming e w T is g
  halted_first Halted Calm w T is h g = absurd h
  halted_first Halted (MayCome e) w T is h g = absurd h
  halted_first Halted Halted w T is h g = g

all_gained : (b : Base) (c : ℕ) (u v w : Unsettled) (T is js : List Item) → GainsAll b c u T is v → GainsAll b c v (T ++ is) js w → GainsAll b c u T (is ++ js) w
all_gained b c u v w T [] js h g = halted_first b c u v w T js h (subst (λ (U : List Item). GainsAll b c v U js w) (append-nil T) g)
all_gained b c u v w T (i ∷ is) js h g = (h.0, h.1, all_gained b c h.0 v w (T ++ i ∷ []) is js h.2 (subst (λ (U : List Item). GainsAll b c v U js w) (sym (append_assoc T (i ∷ []) is)) g))

pub both_grew : (b : Base) (c : ℕ) (u v w : Unsettled) (T S R : List Item) → Grew b c u T v S → Grew b c v S w R → Grew b c u T w R
both_grew b c u v w T S R h g = record {
  gap = h.gap ++ g.gap;
  gains = all_gained b c u v w T h.gap g.gap h.gains (subst (λ (U : List Item). GainsAll b c v U g.gap w) h.ends g.gains);
  ends = g.ends ∙ ap (λ (U : List Item). U ++ g.gap) h.ends ∙ append_assoc T h.gap g.gap;
}

others_gained : (b : Base) (c : ℕ) (u : Unsettled) (T is : List Item) (w : Unsettled) → u ≡ Calm → GainsAll b c u T is w → ByOthers b c T is × MayHalt Calm w
others_gained b c u T [] w e h = (tt, subst (λ (x : Unsettled). MayHalt x w) e h)
others_gained b c u T (i ∷ is) w e h =
    let first : Gains b c Calm T i h.0 = subst (λ (x : Unsettled). Gains b c x T i h.0) e h.1 in
    let more = others_gained b c h.0 (T ++ i ∷ []) is w first.1 h.2 in
    ((first.0, more.0), more.1)

-- where nothing is unsettled what comes is others', and nothing of the client's is unsettled then
pub calm_growth : (b : Base) (c : ℕ) (T : List Item) (w : Unsettled) (S : List Item) (g : Grew b c Calm T w S) → ByOthers b c T g.gap × MayHalt Calm w
calm_growth b c T w S g = others_gained b c Calm T g.gap w refl g.gains
