-- That upgrades of which no fault is told are accepted one after the other as epochs of a store.
use Rattle.std.proofs.Common.{◌≡◌, ◌<◌, ℕ, zero, suc, arith, List, [], ◌∷◌, length, None, refl, ap, sym, subst, ◌∙◌}
use Rattle.class_defs.proofs.KeptRules.{neither}
use Rattle.class_defs.specs.Accepted.{AllAccepted, IsAccepted}
use Rattle.class_defs.specs.Applied.{applied}
use Rattle.class_defs.specs.Epochs.{schema_of}
use Rattle.class_defs.specs.UpgradeOrder.{own_fault}
use Rattle.class_defs.specs.declared.statements.Stmt.{Stmt}
use Rattle.class_defs.specs.declared.store.Schema.{Schema}
use Rattle.class_defs.specs.declared.upgrades.Upgrade.{Upgrade}
use Rattle.script_check.specs.Upgrading.{schemas_behind, upgrades_fault}

-- the epochs behind the first upgrade are those of the store that begins there
same_schema : (s : Schema) (u : Upgrade) (us : List Upgrade) (k : ℕ) → schema_of (schemas_behind (applied s u) us) k ≡ schema_of (schemas_behind s (u ∷ us)) (suc k)
same_schema s u us zero = refl
same_schema s u us (suc k) = refl

accepted_at : (repos : ℕ) (blocks : List (List Stmt)) (s : Schema) (us : List Upgrade) (k : ℕ) → upgrades_fault s repos us blocks ≡ None → k < length us → IsAccepted (schemas_behind s us) repos blocks k
accepted_at repos blocks s [] k none h = absurd (omega (arith, h))
accepted_at repos blocks s (u ∷ us) zero none h = record {
  upgrade = u;
  leads = refl;
  keeps = (neither (own_fault s repos u blocks) (upgrades_fault (applied s u) repos us blocks) none).0;
  behind = refl;
}
accepted_at repos blocks s (u ∷ us) (suc k) none h =
    let n = neither (own_fault s repos u blocks) (upgrades_fault (applied s u) repos us blocks) none in
    let within : k < length us = omega (arith, h) in
    let a : IsAccepted (schemas_behind (applied s u) us) repos blocks k = accepted_at repos blocks (applied s u) us k n.1 within in
    let here = same_schema s u us k in
    let behind = same_schema s u us (suc k) in
    record {
      upgrade = a.upgrade;
      leads = a.leads;
      keeps = subst (λ (q : Schema). own_fault q repos a.upgrade blocks ≡ None) here a.keeps;
      behind = sym behind ∙ a.behind ∙ ap (λ (q : Schema). applied q a.upgrade) here;
    }

pub all_accepted : (s : Schema) (repos : ℕ) (us : List Upgrade) (blocks : List (List Stmt)) → upgrades_fault s repos us blocks ≡ None → AllAccepted (schemas_behind s us) repos blocks (length us)
all_accepted s repos us blocks none k h = accepted_at repos blocks s us k none h
