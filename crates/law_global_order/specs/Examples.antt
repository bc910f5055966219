-- Two repositories with an upgrade, on which the definitions are computed. Names and bases are those of the
-- examples of `law_atomic_commit`.
use Rattle.law_atomic_commit.specs.AcrossExamples.{abroad, at, base_of, setting, v, x, y, z}
use Rattle.law_atomic_commit.specs.Several.{Several}
use Rattle.log_entries.specs.declared.entry.Entry.TheVariants.{Decided, Finished, Life, One, Prepared, Upgraded}
use Rattle.log_entries.specs.declared.entry.Entry.{Entry}
use Rattle.log_entries.specs.declared.request.Kind.TheVariants.{Upgrade}
use Rattle.log_entries.specs.declared.request.Request.{Request}
use Rattle.std.specs.Prelude.{List, [], pos, suc, true, zero, ℕ, ◌∷◌}
use Rattle.thor_value.specs.declared.names.Oref.{Oref}
use Rattle.thor_value.specs.declared.names.Ts.{Ts}
use Rattle.thor_value.specs.declared.values.Obj.{Obj}
use Rattle.thor_value.specs.declared.values.Value.TheVariants.{Int}

-- an object with one field, written in an epoch
abbrev pub box_in : ℕ → ℕ → Obj
box_in epoch n = record { class = 0; ver = epoch; fields = Int (pos n) ∷ [] }

abbrev pub text : List ℕ
text = 117 ∷ []

-- the upgrade's request at one of the two repositories
abbrev upgrading : List ℕ → Request
upgrading others = record (setting (at 2) [] x 0 others) { kind = Upgrade text; writes = [] }

-- as `setting`, in epoch 1
abbrev setting_later : Ts → Oref → ℕ → List ℕ → Request
setting_later t name k others = record (setting t (name ∷ []) name k others) { epoch = 1; writes = (name, box_in 1 k) ∷ [] }

abbrev histories_of : List Entry → List Entry → ℕ → List Entry
histories_of H K zero = H
histories_of H K (suc zero) = K
histories_of H K (suc (suc n)) = []

-- 1 writes x, then an upgrade comes at both; 3 writes v, and 4 writes x and z. Repository 1 hasn't heard of
-- the commit of 4.
abbrev pub upgraded : Several
upgraded = record {
  repos = 2;
  base = base_of;
  history = histories_of
      (Life 1 ∷ One (setting (at 1) (x ∷ []) x 5 []) ∷ Prepared (upgrading (1 ∷ [])) ∷ Decided (at 2) true ∷ Prepared (setting_later (at 4) x 8 (1 ∷ [])) ∷ Decided (at 4) true ∷ [])
      (Life 1 ∷ Prepared (upgrading (0 ∷ [])) ∷ Finished (at 2) true ∷ One (setting_later (abroad 3) v 7 []) ∷ Prepared (setting_later (at 4) z 9 (0 ∷ [])) ∷ []);
}

-- ---- histories that no repositories may have

abbrev two : List Entry → List Entry → Several
two H K = record { repos = 2; base = base_of; history = histories_of H K }

-- t writes k at the name, and didn't read it
abbrev blindly : Ts → Oref → ℕ → Request
blindly t name k = setting t [] name k []

-- 9 and 5 write x without reading it, in this order, and 10 reads what 5 left.
abbrev pub blind : Several
blind = two
    (Life 1 ∷ One (blindly (at 9) x 9) ∷ One (blindly (at 5) x 5) ∷ One (setting (at 10) (x ∷ y ∷ []) y 1 []) ∷ [])
    (Life 1 ∷ [])

-- 1 names repository 1 as another participant and commits at repository 0 as if it were alone; 2 reads at repository 1
-- what 1 should have written there.
abbrev pub halved : Several
halved = two
    (Life 1 ∷ One (setting (at 1) (x ∷ []) x 5 (1 ∷ [])) ∷ [])
    (Life 1 ∷ One (setting (abroad 2) (z ∷ v ∷ []) v 9 []) ∷ [])

-- An upgrade is installed at repository 0 alone; 3 runs behind it at repository 1, which hasn't heard of it.
abbrev pub upgraded_in_part : Several
upgraded_in_part = two
    (Life 1 ∷ Upgraded (upgrading []) ∷ [])
    (Life 1 ∷ One (setting (abroad 3) (v ∷ []) v 7 []) ∷ [])
