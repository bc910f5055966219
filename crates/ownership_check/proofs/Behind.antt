-- The schema behind an upgrade has as many classes, and its numbers are bounded.
use Rattle.std.proofs.Common.{◌≡◌, ◌≤◌, ℕ, ◌+◌, zero, max, List, [], ◌∷◌, length, is_some, if◌then◌else◌, true, false, arith}
use Rattle.std.proofs.lemmas.Grind.{common_steps}
use Rattle.std.proofs.lemmas.List.{length-map}
use Rattle.class_defs.specs.Applied.{applied, class_behind, highest, next_number, numbers_behind, said_of}
use Rattle.class_defs.specs.declared.classes.Class.{Class}
use Rattle.class_defs.specs.declared.store.Schema.{Schema}
use Rattle.class_defs.specs.declared.upgrades.Upgrade.{Upgrade}

pub as_many : (schema : Schema) (u : Upgrade) → length (applied schema u).classes ≡ length schema.classes
unfolding applied
as_many schema u = length-map schema.classes (λ d. class_behind d (said_of u d))

-- the numbers behind an upgrade aren't above its own and those before it
bounded : (u : Upgrade) (n : ℕ) (ds : List Class) (ks : List ℕ) → highest (numbers_behind u n ds ks) ≤ max n (highest ks)
bounded u n [] ks = grind (arith, common_steps)
bounded u n (d ∷ ds) [] =
    let rest : highest (numbers_behind u n ds []) ≤ max n zero = bounded u n ds [] in
    elim (is_some (said_of u d)) as (λ b. max (if b then n else zero) (highest (numbers_behind u n ds [])) ≤ max n zero) [ true ↦ grind (arith, common_steps) | false ↦ grind (arith, common_steps) ]
bounded u n (d ∷ ds) (k ∷ ks) =
    let rest : highest (numbers_behind u n ds ks) ≤ max n (highest ks) = bounded u n ds ks in
    elim (is_some (said_of u d)) as (λ b. max (if b then n else k) (highest (numbers_behind u n ds ks)) ≤ max n (max k (highest ks))) [ true ↦ grind (arith, common_steps) | false ↦ grind (arith, common_steps) ]

-- an upgrade raises the number of the next one by one at most
pub next_behind : (schema : Schema) (u : Upgrade) → next_number (applied schema u).upgraded ≤ next_number schema.upgraded + 1
unfolding applied
next_behind schema u =
    let h : highest (numbers_behind u (next_number schema.upgraded) schema.classes schema.upgraded) ≤ max (next_number schema.upgraded) (highest schema.upgraded) = bounded u (next_number schema.upgraded) schema.classes schema.upgraded in
    grind (arith, common_steps)
