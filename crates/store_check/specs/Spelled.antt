-- The schemas that the texts of a stored repository spell (this project's): the text of its classes, its roots as they are
-- stored, and the texts of its upgrades, each on the schema behind those before it. Texts are read as a script's are, and a text
-- that breaks a rule spells none.
use Rattle.class_defs.specs.Applied.{applied}
use Rattle.class_defs.specs.SchemaRules.{schema_rules}
use Rattle.class_defs.specs.UpgradeOrder.{own_fault}
use Rattle.class_defs.specs.declared.checked.Checked.{Checked}
use Rattle.class_defs.specs.declared.classes.Class.{Class}
use Rattle.class_defs.specs.declared.store.Root.{Root}
use Rattle.class_defs.specs.declared.store.RootDeclaration.{RootDeclaration}
use Rattle.class_defs.specs.declared.store.Schema.{Schema}
use Rattle.class_defs.specs.declared.store.Schemas.{Schemas}
use Rattle.class_defs.specs.declared.store.UpgradedSchema.{UpgradedSchema}
use Rattle.class_defs.specs.declared.upgrades.Upgrade.{Upgrade}
use Rattle.method_parse.specs.Texts.{SpellsSetup}
use Rattle.script_text.specs.Grammar.{AreTokensOf}
use Rattle.script_text.specs.declared.token.Token.{Token}
use Rattle.std.specs.List.{list_all}
use Rattle.std.specs.Prelude.{Bool, List, None, Option, Some, [], length, map, slice_get, true, unwrap_or, ℕ, ◌≡◌, ◌≤◌, ◌∷◌}
use Rattle.thor_value.specs.Words.{fits_word, word_from}
use Rattle.upgrade_defs.specs.Texts.{SpellsUpgrade}

-- what is found is the only one that is so; nothing is found where none is
abbrev pub FindsOnly : {X : Type 0} → (X → Type 0) → Option X → Type 0
FindsOnly Is (Some x) = Is x × ((y : _) → Is y → y ≡ x)
FindsOnly Is None = (y : _) → Is y → ⊥

-- the bytes have tokens, which are this
abbrev pub IsText : {X : Type 0} → (List Token → X → Type 0) → List ℕ → X → Type 0
IsText Are bytes x = (tokens : List Token) × (AreTokensOf bytes tokens × Are tokens x)

-- ---- the classes

-- the tokens are a setup of these classes, at most 2^16, and of no root
pub record AreClasses (tokens : List Token) (classes : List Class) : Type 0 where
  pub spelled : SpellsSetup tokens (record { classes = classes; roots = [] })
  pub few : length classes ≤ 65536

-- a schema of these classes, without a root, before any upgrade
abbrev pub bare_schema : List Class → Schema
bare_schema classes = record { classes = classes; upgraded = []; roots = [] }

-- it is the schema of these classes, and breaks no rule over so many repositories
pub record IsLawful (repos : ℕ) (classes : List Class) (schema : Schema) : Type 0 where
  pub is : schema ≡ bare_schema classes
  pub keeps : schema_rules (bare_schema classes) repos ≡ []

-- the bytes are the classes of a schema without roots that breaks no rule
abbrev pub SpellsFirst : List ℕ → ℕ → Schema → Type 0
SpellsFirst bytes repos schema = (classes : List Class) × (IsText AreClasses bytes classes × IsLawful repos classes schema)

-- ---- the roots

-- the name of a root's class; an empty one where there is no such class
abbrev pub class_text : Option Class → List ℕ
class_text (Some d) = d.name.text
class_text None = []

-- a stored root as it is declared, on line 1
abbrev pub declared_root : List Class → Root → RootDeclaration
declared_root classes r = record {
  name = record { text = unwrap_or (word_from r.name) []; line = 1 };
  class = record { text = class_text (slice_get classes r.class); line = 1 };
  at = None;
  oref = r.oref;
}

abbrev pub declared_roots : List Class → List Root → List RootDeclaration
declared_roots classes roots = map (declared_root classes) roots

-- each root has a name of the language
abbrev pub are_named : List Root → Bool
are_named roots = list_all (λ r. fits_word r.name) roots

-- a schema with these roots
abbrev pub with_roots : List RootDeclaration → Schema → Schema
with_roots roots schema = record schema { roots = roots }

-- ---- the upgrades

-- The upgrade breaks no rule on a schema without roots, and leads to this epoch: the schema behind it, with the roots.
pub record IsEpochOf (repos : ℕ) (roots : List RootDeclaration) (standing : Schema) (upgrade : Upgrade) (epoch : UpgradedSchema) : Type 0 where
  pub keeps : own_fault standing repos upgrade [] ≡ None
  pub upgrade_is : epoch.upgrade ≡ upgrade
  pub schema_is : epoch.schema ≡ with_roots roots (applied standing upgrade)

-- the bytes are an upgrade that does so
abbrev pub SpellsEpoch : ℕ → List RootDeclaration → Schema → List ℕ → UpgradedSchema → Type 0
SpellsEpoch repos roots standing bytes epoch = (upgrade : Upgrade) × (IsText SpellsUpgrade bytes upgrade × IsEpochOf repos roots standing upgrade epoch)

-- what stands behind an upgrade of a schema that stood, which leads to this epoch
pub record IsBehind (standing : Checked) (made : Checked × UpgradedSchema) : Type 0 where
  pub schema : made.0.schema ≡ applied standing.schema made.1.upgrade
  pub repos : made.0.repos ≡ standing.repos

-- texts spell these epochs, each on the schema behind those before it
abbrev pub SpellEpochs : ℕ → List RootDeclaration → Schema → List (List ℕ) → List UpgradedSchema → Type 0
SpellEpochs repos roots standing [] [] = Unit {0}
SpellEpochs repos roots standing [] (epoch ∷ epochs) = ⊥
SpellEpochs repos roots standing (bytes ∷ texts) [] = ⊥
SpellEpochs repos roots standing (bytes ∷ texts) (epoch ∷ epochs) = SpellsEpoch repos roots standing bytes epoch × SpellEpochs repos roots (applied standing epoch.upgrade) texts epochs

-- ---- the schemas

-- schemas that begin with this one, which has no roots, with these roots, and of which the texts spell the epochs behind it
pub record BeginWith (roots : List Root) (upgrades : List (List ℕ)) (repos : ℕ) (bare : Schema) (s : Schemas) : Type 0 where
  pub first : s.first ≡ with_roots (declared_roots bare.classes roots) bare
  pub epochs : SpellEpochs repos (declared_roots bare.classes roots) bare upgrades s.upgraded

-- the text of classes, roots as they are stored and the texts of upgrades spell these schemas over so many repositories
pub record SpellSchemas (classes : List ℕ) (roots : List Root) (upgrades : List (List ℕ)) (repos : ℕ) (s : Schemas) : Type 0 where
  pub named : are_named roots ≡ true
  pub spelled : (bare : Schema) × (SpellsFirst classes repos bare × BeginWith roots upgrades repos bare s)
