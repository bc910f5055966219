use Rattle.std.proofs.Common.{◌≡◌, arith, ap, inl, inr, refl, ℕ}
use Rattle.thor_value.specs.declared.names.Oref.{Oref}
use Rattle.law_renaming.specs.Renaming.{Paired, SameName}
use Rattle.law_renaming.specs.RenamingRows.{oref_at}
use Rattle.std.specs.Prelude.{[], ◌∷◌, true}
use Rattle.law_renaming.proofs.rows.names_in_two_runs.Goals as goal

crossed : ¬ (Paired (oref_at 0 1 0 ∷ oref_at 0 1 1 ∷ []) (oref_at 0 7 7 ∷ oref_at 0 1 0 ∷ []) (oref_at 0 1 0) (oref_at 0 1 0))
crossed (inl e) = let f : ◌≡◌ {A = ℕ} 0 7 = ap (λ (x : Oref). x.slot) e.1 in absurd (omega arith)
crossed (inr (inl e)) = let f : ◌≡◌ {A = ℕ} 0 1 = ap (λ (x : Oref). x.slot) e.0 in absurd (omega arith)
crossed (inr (inr h)) = h

created : ¬ (SameName (λ x. true) [] [] (oref_at 0 0 0) (oref_at 0 0 0))
created (inl e) = let f = e.0 in cc
created (inr h) = h

pub returns : goal.returns
returns c = record { second = inr (inl (refl, refl)); crossed = crossed; old = inl (refl, refl); not_created = created }
