-- Which repository is told not to fit.
use Rattle.class_defs.specs.SchemaRules.{schema_rules}
use Rattle.class_defs.specs.Stored.{Objects}
use Rattle.class_defs.specs.declared.store.Root.{Root}
use Rattle.class_defs.specs.declared.store.Schemas.{Schemas}
use Rattle.log_codec.specs.declared.state.State.{State}
use Rattle.repo_opening.specs.declared.repository.Read.{Read}
use Rattle.std.proofs.Common.{Bool, Err, IfOk, IsErrOf, List, Ok, OnOk, Option, Result, [], false, inl, inr, length, subst, sym, true, ℕ, ◌↔◌, ◌∙◌, ◌≡◌, ◌⊎◌}
use Rattle.std.specs.Prelude.{IsTrue}
use Rattle.store_check.specs.Fits.{TellsFit, stored_under}
use Rattle.store_check.specs.Spelled.{FindsOnly, SpellSchemas}
use Rattle.store_check.specs.declared.fitting.Fitting.TheVariants.{Fits}
use Rattle.store_opening.specs.Fitting.{AreSchemasOf, FitTogether, HasTextsOf, IsRead, IsUnfit, IsUnfitIn, PassFrom, SpellFor, stored_of}
use Rattle.store_opening.specs.Joined.{read_states, state_of}
use Rattle.store_opening.specs.OpenedStore.{joined, roots_of}
use Rattle.store_opening.specs.Standing.{HaveSameTexts, IsStanding, member_of}
use Rattle.store_opening.specs.declared.misfit.Misfit.TheVariants.{Of}
use Rattle.store_opening.specs.declared.misfit.Misfit.{Misfit}
use Rattle.store_opening.specs.declared.standing.Stands.{Stands}
use Rattle.thor_value.specs.FiniteMap.{keys}

-- ---- the repository that is told

abbrev told : {A : Type 0} → ℕ → Result A Misfit
told r = Err (Of r)

pub of_same : {A : Type 0} (a r : ℕ) → IsErrOf {T = A} {E = Misfit} (Err (Of a)) (Of r) → r ≡ a
of_same {A} a r is = let same : told {A = A} a ≡ told r = is in cc

-- ---- texts

pub spelled_same : {E : Type 0} (r : Result (Option Schemas) E) (cl dl : List ℕ) (rs qs : List Root) (us vs : List (List ℕ)) (n m : ℕ) → cl ≡ dl → rs ≡ qs → us ≡ vs → n ≡ m → IfOk r (FindsOnly (SpellSchemas cl rs us n)) → IfOk r (FindsOnly (SpellSchemas dl qs vs m))
spelled_same r cl dl rs qs us vs n m a b c d h =
    subst (λ k. IfOk r (FindsOnly (SpellSchemas dl qs vs k))) d
    (subst (λ ws. IfOk r (FindsOnly (SpellSchemas dl qs ws n))) c
    (subst (λ ws. IfOk r (FindsOnly (SpellSchemas dl ws us n))) b
    (subst (λ w. IfOk r (FindsOnly (SpellSchemas w rs us n))) a h)))

same_texts : (store : List Read) (first other : Stands) → IsStanding store first → IsStanding store other → HasTextsOf (read_states store) (state_of first.read.now) (state_of other.read.now) → HaveSameTexts first other
same_texts store first other one two has = record { classes = has.classes; upgrades = one.upgrades ∙ (has.upgrades ∙ sym two.upgrades) }

-- texts that aren't those of the first, and spell nothing
pub unread : (store : List Read) (first other : Stands) (b : Bool) → IsStanding store first → IsStanding store other → IsTrue b ↔ HaveSameTexts first other → b ≡ false
    → ((schemas : Schemas) → SpellFor (read_states store) (state_of other.read.now) schemas → ⊥) → IsRead (read_states store) (state_of first.read.now) (member_of other) → ⊥
unread store first other b one two tells differ none (inl has) =
    let yes : b ≡ true = tells.1 (same_texts store first other one two has) in
    let bad : false ≡ true = sym differ ∙ yes in cc
unread store first other b one two tells differ none (inr spelled) = none spelled.0 spelled.1

-- ---- all objects

module _ (states : List State) (paged : Objects) (objects : Objects) (is : objects ≡ joined states paged) (s t : Schemas) (same : s ≡ t) where
  pub fits_same : TellsFit s (stored_under s objects (roots_of states)) Fits → TellsFit t (stored_of states paged t) Fits
  fits_same h =
      subst (λ q. TellsFit q (stored_of states paged q) Fits) same
      (subst (λ m. TellsFit s (stored_under s m (roots_of states)) Fits) is h)

  pub unfit_same : (r : ℕ) → IsUnfitIn states (stored_under s objects (roots_of states)) s r → IsUnfit states paged t r
  unfit_same r h =
      subst (λ q. IsUnfit states paged q r) same
      (subst (λ m. IsUnfitIn states (stored_under s m (roots_of states)) s r) is h)

-- ---- a store that fits

pub all_together : {E : Type 0} (r : Result (Schemas × Objects) E) (states : List State) (paged held : Objects) (schemas : Schemas) → held ≡ paged → AreSchemasOf states schemas → PassFrom states (keys paged) states
    → IfOk r (λ c. c.0 ≡ schemas) → OnOk r (TellsFit schemas (stored_of states held schemas) Fits) → OnOk r (schema_rules schemas.first (length states) ≡ []) → IfOk r (λ c. FitTogether states paged c.0)
all_together (Ok c) states paged held schemas is spelled passed same fits keeps =
    subst (λ s. FitTogether states paged s) (sym same)
    (record { spelled = spelled; passed = passed; fits = subst (λ m. TellsFit schemas (stored_of states m schemas) Fits) is fits; keeps = keeps })
all_together (Err e) states paged held schemas is spelled passed same fits keeps = tt
