-- What a restart adds is growth that each client may meet.
use Rattle.log_entries.specs.declared.entry.Entry.TheVariants.{Decided, Finished, Life, One, Prepared, Upgraded}
use Rattle.log_entries.specs.declared.entry.Entry.{Entry}
use Rattle.spec_history.specs.History.{Base, is_life}
use Rattle.model_repository.specs.Sites.{MayRecover, unsettled_of}
use Rattle.model_repository.specs.declared.site.Left.TheVariants as left
use Rattle.client_port.specs.Growing.{Gains, Grew}
use Rattle.client_port.specs.Views.{Calm, Halted, MayCome, Unsettled}
use Rattle.spec_trace.specs.Gaps.{maker}
use Rattle.spec_trace.specs.Trace.{E, Item}
use Rattle.std.proofs.Common.{Bool, List, [], cond, false, inl, refl, true, ℕ, ◌++◌, ◌∷◌, ◌≡◌, ◌≢◌}
use Rattle.std.specs.Prelude.{None, Option, Some, nat_eq}

module _ (b : Base) (c : ℕ) where
  nobody : ◌≡◌ {A = Option ℕ} None (Some c) → ⊥
  nobody e = cc

  -- a life begins, whatever was unsettled
  pub life_grew : (u : Unsettled) (T S : List Item) (n : ℕ) → S ≡ T ++ E (Life n) ∷ [] → Grew b c u T Calm S
  life_grew u T S n e = record { gap = E (Life n) ∷ []; gains = (Calm, by u, tt); ends = e }
    where
      by : (u : Unsettled) → Gains b c u T (E (Life n)) Calm
      by Calm = (nobody, refl)
      by (MayCome e) = refl
      by Halted = refl

  own : (T S : List Item) (e : Entry) → is_life e ≡ false → S ≡ T ++ E e ∷ [] → Grew b c (MayCome e) T Halted S
  own T S (Life n) l h = cc
  own T S (One q) l h = record { gap = E (One q) ∷ []; gains = (Halted, inl (refl, refl), tt); ends = h }
  own T S (Prepared q) l h = record { gap = E (Prepared q) ∷ []; gains = (Halted, inl (refl, refl), tt); ends = h }
  own T S (Decided t k) l h = record { gap = E (Decided t k) ∷ []; gains = (Halted, inl (refl, refl), tt); ends = h }
  own T S (Finished t k) l h = record { gap = E (Finished t k) ∷ []; gains = (Halted, inl (refl, refl), tt); ends = h }
  own T S (Upgraded q) l h = record { gap = E (Upgraded q) ∷ []; gains = (Halted, inl (refl, refl), tt); ends = h }

  anothers : (T S : List Item) (e : Entry) → is_life e ≡ false → maker b T (E e) ≢ Some c → S ≡ T ++ E e ∷ [] → Grew b c Halted T Halted S
  anothers T S (Life n) l o h = cc
  anothers T S (One q) l o h = record { gap = E (One q) ∷ []; gains = (Halted, (o, refl), tt); ends = h }
  anothers T S (Prepared q) l o h = record { gap = E (Prepared q) ∷ []; gains = (Halted, (o, refl), tt); ends = h }
  anothers T S (Decided t k) l o h = record { gap = E (Decided t k) ∷ []; gains = (Halted, (o, refl), tt); ends = h }
  anothers T S (Finished t k) l o h = record { gap = E (Finished t k) ∷ []; gains = (Halted, (o, refl), tt); ends = h }
  anothers T S (Upgraded q) l o h = record { gap = E (Upgraded q) ∷ []; gains = (Halted, (o, refl), tt); ends = h }

  -- the entry that was being written comes
  pub came_grew : (n : ℕ) (e : Entry) (T S : List Item) → MayRecover b c T (left.Pending n e) → S ≡ T ++ E e ∷ [] → Grew b c (unsettled_of c (left.Pending n e)) T (unsettled_of c left.Down) S
  came_grew n e T S may h = by (nat_eq n c) refl
    where
      by : (t : Bool) → nat_eq n c ≡ t → Grew b c (cond t (MayCome e) Halted) T Halted S
      by true f = own T S e may.0 h
      by false f = anothers T S e may.0 (may.1 f) h
