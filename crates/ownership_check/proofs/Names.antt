-- The names of the classes that an upgrade names.
use Rattle.std.proofs.Common.{◌≡◌, ◌||◌, List, [], ◌∷◌, ◌++◌, map, refl, ap}
use Rattle.std.specs.List.{list_any}
use Rattle.std.specs.Str.{bytes_eq}
use Rattle.class_defs.specs.declared.expressions.Name.{Name}
use Rattle.class_defs.specs.declared.upgrades.ClassUpgrade.{ClassUpgrade}

abbrev pub said_names : List ClassUpgrade → List Name
said_names ks = map (λ k. k.name) ks

pub names_append : (ks ls : List ClassUpgrade) → said_names (ks ++ ls) ≡ said_names ks ++ said_names ls
names_append [] ls = refl
names_append (k ∷ ks) ls = ap (λ q. k.name ∷ q) (names_append ks ls)

pub any_of_names : (n : Name) (ks : List ClassUpgrade) → list_any (λ k. bytes_eq k.name.text n.text) ks ≡ list_any (λ m. bytes_eq m.text n.text) (said_names ks)
any_of_names n [] = refl
any_of_names n (k ∷ ks) = ap (λ b. bytes_eq k.name.text n.text || b) (any_of_names n ks)
