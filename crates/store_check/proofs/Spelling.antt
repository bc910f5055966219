-- What texts spell, one reading behind the other.
use Rattle.class_defs.specs.Applied.{applied}
use Rattle.class_defs.specs.Rules.{least}
use Rattle.class_defs.specs.SchemaRules.{schema_rules}
use Rattle.class_defs.specs.UpgradeOrder.{own_fault}
use Rattle.class_defs.specs.declared.checked.Checked.{Checked}
use Rattle.class_defs.specs.declared.classes.Class.{Class}
use Rattle.class_defs.specs.declared.declarations.Declarations.{Declarations}
use Rattle.class_defs.specs.declared.rules.RuleFault.{RuleFault}
use Rattle.class_defs.specs.declared.store.Root.{Root}
use Rattle.class_defs.specs.declared.store.RootDeclaration.{RootDeclaration}
use Rattle.class_defs.specs.declared.store.Schema.{Schema}
use Rattle.class_defs.specs.declared.store.Schemas.{Schemas}
use Rattle.class_defs.specs.declared.store.UpgradedSchema.{UpgradedSchema}
use Rattle.class_defs.specs.declared.upgrades.Upgrade.{Upgrade}
use Rattle.method_parse.specs.Texts.{SpellsSetup}
use Rattle.script_text.specs.Reading.{Gives}
use Rattle.script_text.specs.declared.syntax.Syntax.{Syntax}
use Rattle.script_text.specs.declared.syntax.SyntaxError.TheVariants.{Fault}
use Rattle.script_text.specs.declared.syntax.SyntaxError.{SyntaxError}
use Rattle.script_text.specs.declared.token.Token.{Token}
use Rattle.std.proofs.Common.{Err, IfOk, IfSome, List, None, Ok, Option, Result, Some, [], ap, ap₂, append_assoc, drop, false, get_or, length, option_map, refl, subst, suc, sym, true, add-one, ℕ, ◌++◌, ◌+◌, ◌<◌, ◌∙◌, ◌≡◌, ◌≤◌, ◌∷◌}
use Rattle.std.proofs.Math.Seq.{drop-cons}
use Rattle.std.proofs.lemmas.List.{append-nil, drop_all}
use Rattle.store_check.specs.Spelled.{AreClasses, BeginWith, FindsOnly, IsEpochOf, IsLawful, SpellEpochs, SpellSchemas, SpellsEpoch, SpellsFirst, are_named, bare_schema, declared_roots, with_roots}

-- ---- one reading

abbrev pub given : {X : Type 0} → X → Result X SyntaxError
given x = Ok x

abbrev pub read_as : {X : Type 0} → X → Result X Syntax
read_as x = Ok x

-- what a reader gives is all that its bytes spell
pub only_read : {X : Type 0} (Is : X → Type 0) (x : X) → Is x → ((y : X) → Is y → Gives (given x) (read_as y)) → FindsOnly Is (Some x)
only_read Is x is only = (is, λ y other. let same : read_as y ≡ read_as x = only y other in cc)

-- and where it tells a fault they spell nothing
pub none_read : {X : Type 0} (Is : X → Type 0) (r : Result X SyntaxError) (fault : Syntax) → r ≡ Err (Fault fault) → ((y : X) → Is y → Gives r (read_as y)) → FindsOnly Is None
none_read Is r fault is only = λ y other. let told : read_as y ≡ Err fault = subst (λ q. Gives q (read_as y)) is (only y other) in cc

-- what is found behind the only one
pub found_behind : {X Y : Type 0} (P : X → Type 0) (Q : X → Y → Type 0) (x : X) (r : Option Y) → FindsOnly P (Some x) → FindsOnly (Q x) r → FindsOnly (λ y. (z : X) × (P z × Q z y)) r
found_behind P Q x (Some y) first second = ((x, (first.0, second.0)), λ w is. second.1 w (subst (λ z. Q z w) (first.1 is.0 is.1.0) is.1.1))
found_behind P Q x None first second = λ w is. second w (subst (λ z. Q z w) (first.1 is.0 is.1.0) is.1.1)

pub none_behind : {X Y : Type 0} (P : X → Type 0) (Q : X → Y → Type 0) → FindsOnly P None → FindsOnly (λ (y : Y). (z : X) × (P z × Q z y)) None
none_behind P Q none = λ y is. none is.0 is.1.0

-- what is true of all that a call may give
pub ok_map : {A E : Type 0} (r : Result A E) (P Q : A → Type 0) → ((a : A) → P a → Q a) → IfOk r P → IfOk r Q
ok_map (Ok a) P Q f p = f a p
ok_map (Err e) P Q f p = tt

-- what is found through a part of what is made
pub some_at : {A X : Type 0} (f : A → X) (P : X → Type 0) (found : Option A) (a : A) → found ≡ Some a → FindsOnly P (option_map f found) → FindsOnly P (Some (f a))
some_at f P found a is h = subst (λ o. FindsOnly P (option_map f o)) is h

pub none_at : {A X : Type 0} (f : A → X) (P : X → Type 0) (found : Option A) → found ≡ None → FindsOnly P (option_map f found) → FindsOnly P None
none_at f P found is h = subst (λ o. FindsOnly P (option_map f o)) is h

pub if_some_at : {A : Type 0} (P : A → Type 0) (found : Option A) (a : A) → found ≡ Some a → IfSome found P → P a
if_some_at P found a is h = subst (λ o. IfSome o P) is h

-- ---- classes

abbrev pub alone : List Class → Declarations
alone classes = record { classes = classes; roots = [] }

pub classes_found : (tokens : List Token) (setup : Declarations) (r : Option (List Class)) → FindsOnly (SpellsSetup tokens) (Some setup) → IfSome r (λ cs. setup ≡ alone cs) → IfSome r (λ cs. length cs ≤ 65536)
    → (r ≡ None → setup.roots ≡ [] → length setup.classes ≤ 65536 → ⊥) → FindsOnly (AreClasses tokens) r
classes_found tokens setup (Some cs) found is few none =
    (record { spelled = subst (SpellsSetup tokens) is found.0; few = few }, λ ds are. let same : alone ds ≡ setup = found.1 (alone ds) are.spelled in ap (λ (d : Declarations). d.classes) (same ∙ is))
classes_found tokens setup None found is few none = λ ds are.
    let same : alone ds ≡ setup = found.1 (alone ds) are.spelled in
    none refl (sym (ap (λ (d : Declarations). d.roots) same)) (subst (λ (d : Declarations). length d.classes ≤ 65536) same are.few)

pub classes_none : (tokens : List Token) → FindsOnly (SpellsSetup tokens) None → FindsOnly (AreClasses tokens) None
classes_none tokens none = λ ds are. none (alone ds) are.spelled

pub lawful_found : (repos : ℕ) (classes : List Class) (bare schema : Schema) → bare ≡ bare_schema classes → schema ≡ bare → schema_rules bare repos ≡ [] → FindsOnly (IsLawful repos classes) (Some schema)
lawful_found repos classes bare schema is same keeps =
    (record { is = same ∙ is; keeps = subst (λ s. schema_rules s repos ≡ []) is keeps }, λ y lawful. lawful.is ∙ sym (same ∙ is))

told_none : (fs : List RuleFault) (fault : RuleFault) → fs ≡ [] → least fs ≡ Some fault → ⊥
told_none [] fault none told = let no : None ≡ Some fault = told in cc
told_none (f ∷ fs) fault none told = let no : f ∷ fs ≡ [] = none in cc

pub lawful_none : (repos : ℕ) (classes : List Class) (bare : Schema) (fault : RuleFault) → bare ≡ bare_schema classes → least (schema_rules bare repos) ≡ Some fault → FindsOnly (IsLawful repos classes) None
lawful_none repos classes bare fault is told = λ y lawful. told_none (schema_rules bare repos) fault (subst (λ s. schema_rules s repos ≡ []) (sym is) lawful.keeps) told

-- ---- one upgrade

pub epoch_found : (repos : ℕ) (roots : List RootDeclaration) (standing : Schema) (upgrade : Upgrade) (epoch : UpgradedSchema) → own_fault standing repos upgrade [] ≡ None → epoch.upgrade ≡ upgrade → epoch.schema ≡ with_roots roots (applied standing upgrade)
    → FindsOnly (IsEpochOf repos roots standing upgrade) (Some epoch)
epoch_found repos roots standing upgrade epoch keeps named schema = (
  record { keeps = keeps; upgrade_is = named; schema_is = schema },
  λ y is. ap₂ (λ (u : Upgrade) (s : Schema). record { upgrade = u; schema = s }) (is.upgrade_is ∙ sym named) (is.schema_is ∙ sym schema),
)

pub epoch_none : (repos : ℕ) (roots : List RootDeclaration) (standing : Schema) (upgrade : Upgrade) (fault : RuleFault) → own_fault standing repos upgrade [] ≡ Some fault → FindsOnly (IsEpochOf repos roots standing upgrade) None
epoch_none repos roots standing upgrade fault told = λ y is. let no : None ≡ Some fault = sym is.keeps ∙ told in cc

-- ---- epochs

-- The epochs of the texts from a place on, behind those that are made, are the epochs of all texts; and there are no others.
pub record Walked (repos : ℕ) (roots : List RootDeclaration) (first : Schema) (texts : List (List ℕ)) (i : ℕ) (epochs : List UpgradedSchema) (standing : Checked) : Type 0 where
  pub repos_are : standing.repos ≡ repos
  pub forth : (rest : List UpgradedSchema) → SpellEpochs repos roots standing.schema (drop i texts) rest → SpellEpochs repos roots first texts (epochs ++ rest)
  pub back : (all : List UpgradedSchema) → SpellEpochs repos roots first texts all → (rest : List UpgradedSchema) × ((all ≡ epochs ++ rest) × SpellEpochs repos roots standing.schema (drop i texts) rest)

pub walk_begins : (repos : ℕ) (roots : List RootDeclaration) (texts : List (List ℕ)) (epochs : List UpgradedSchema) (standing : Checked) → epochs ≡ [] → repos ≡ standing.repos → Walked repos roots standing.schema texts 0 epochs standing
walk_begins repos roots texts [] standing none count = record {
  repos_are = sym count;
  forth = λ rest spelled. spelled;
  back = λ all spelled. (all, (refl, spelled));
}
walk_begins repos roots texts (e ∷ epochs) standing none count = absurd (let no : e ∷ epochs ≡ [] = none in cc)

module _ (repos : ℕ) (roots : List RootDeclaration) (first : Schema) (texts : List (List ℕ)) (i : ℕ) (epochs : List UpgradedSchema) (standing : Checked) (so_far : Walked repos roots first texts i epochs standing) where
  -- at the end
  spelled_all : length texts ≤ i → SpellEpochs repos roots first texts epochs
  spelled_all past = subst (λ es. SpellEpochs repos roots first texts es) (append-nil epochs)
      (so_far.forth [] (subst (λ ts. SpellEpochs repos roots standing.schema ts []) (sym (drop_all i texts past)) tt))

  no_more : (ts : List (List ℕ)) (rest all : List UpgradedSchema) → ts ≡ [] → SpellEpochs repos roots standing.schema ts rest → all ≡ epochs ++ rest → all ≡ epochs
  no_more [] [] all none spelled is = is ∙ append-nil epochs
  no_more [] (e ∷ rest) all none spelled is = absurd spelled
  no_more (t ∷ ts) rest all none spelled is = absurd (let no : t ∷ ts ≡ [] = none in cc)

  pub walk_ends : length texts ≤ i → FindsOnly (SpellEpochs repos roots first texts) (Some epochs)
  walk_ends past = (spelled_all past, λ all spelled. let b = so_far.back all spelled in no_more (drop i texts) b.0 all (drop_all i texts past) b.1.1 b.1.0)

  module _ (text : List ℕ) (within : i < length texts) (is : text ≡ get_or texts i text) where
    parts : drop i texts ≡ text ∷ drop (i + 1) texts
    parts = drop-cons texts i text within ∙ (ap (λ t. t ∷ drop (suc i) texts) (sym is) ∙ ap (λ k. text ∷ drop k texts) (sym (add-one i)))

    -- where the next text spells none, all spell none
    stuck : (rest : List UpgradedSchema) → FindsOnly (SpellsEpoch repos roots standing.schema text) None → SpellEpochs repos roots standing.schema (text ∷ drop (i + 1) texts) rest → ⊥
    stuck [] none spelled = absurd spelled
    stuck (e ∷ rest) none spelled = none e spelled.0

    pub walk_stops : FindsOnly (SpellsEpoch standing.repos roots standing.schema text) None → FindsOnly (SpellEpochs repos roots first texts) None
    walk_stops none = λ all spelled. let b = so_far.back all spelled in stuck b.0 (subst (λ n. FindsOnly (SpellsEpoch n roots standing.schema text) None) so_far.repos_are none) (subst (λ ts. SpellEpochs repos roots standing.schema ts b.0) parts b.1.1)

    module _ (epoch : UpgradedSchema) (now : List UpgradedSchema) (behind : Checked) (found_here : FindsOnly (SpellsEpoch standing.repos roots standing.schema text) (Some epoch)) (more : now ≡ epochs ++ epoch ∷ []) (schema : behind.schema ≡ applied standing.schema epoch.upgrade) where
      found : FindsOnly (SpellsEpoch repos roots standing.schema text) (Some epoch)
      found = subst (λ n. FindsOnly (SpellsEpoch n roots standing.schema text) (Some epoch)) so_far.repos_are found_here

      moved : (rest : List UpgradedSchema) → now ++ rest ≡ epochs ++ epoch ∷ rest
      moved rest = ap (λ es. es ++ rest) more ∙ append_assoc epochs (epoch ∷ []) rest

      goes_forth : (rest : List UpgradedSchema) → SpellEpochs repos roots behind.schema (drop (i + 1) texts) rest → SpellEpochs repos roots first texts (now ++ rest)
      goes_forth rest spelled =
          subst (λ es. SpellEpochs repos roots first texts es) (sym (moved rest))
          (so_far.forth (epoch ∷ rest) (subst (λ ts. SpellEpochs repos roots standing.schema ts (epoch ∷ rest)) (sym parts)
          (found.0, subst (λ s. SpellEpochs repos roots s (drop (i + 1) texts) rest) schema spelled)))

      -- the first of the epochs that are left is the one that was found
      pub record Left (all : List UpgradedSchema) : Type 0 where
        pub rest : List UpgradedSchema
        pub whole : all ≡ now ++ rest
        pub spelled : SpellEpochs repos roots behind.schema (drop (i + 1) texts) rest

      goes_back : (all left : List UpgradedSchema) → all ≡ epochs ++ left → SpellEpochs repos roots standing.schema (text ∷ drop (i + 1) texts) left → Left all
      goes_back all [] whole spelled = absurd spelled
      goes_back all (e ∷ rest) whole spelled =
          let same : e ≡ epoch = found.1 e spelled.0 in
          record {
            rest = rest;
            whole = whole ∙ (ap (λ x. epochs ++ x ∷ rest) same ∙ sym (moved rest));
            spelled = subst (λ s. SpellEpochs repos roots s (drop (i + 1) texts) rest) (ap (λ (x : UpgradedSchema). applied standing.schema x.upgrade) same ∙ sym schema) spelled.1;
          }

      pub walk_on : behind.repos ≡ standing.repos → Walked repos roots first texts (i + 1) now behind
      walk_on count = record {
        repos_are = count ∙ so_far.repos_are;
        forth = goes_forth;
        back = λ all spelled.
            let b = so_far.back all spelled in
            let l = goes_back all b.0 b.1.0 (subst (λ ts. SpellEpochs repos roots standing.schema ts b.0) parts b.1.1) in
            (l.rest, (l.whole, l.spelled));
      }

-- ---- schemas

module _ (roots : List Root) (upgrades : List (List ℕ)) (repos : ℕ) (bare : Schema) (declared : List RootDeclaration) (same : declared ≡ declared_roots bare.classes roots) where
  behind_same : (epochs : List UpgradedSchema) → SpellEpochs repos (declared_roots bare.classes roots) bare upgrades epochs → SpellEpochs repos declared bare upgrades epochs
  behind_same epochs = subst (λ ds. SpellEpochs repos ds bare upgrades epochs) (sym same)

  pub begun_found : (schema : Schema) (epochs : List UpgradedSchema) → schema ≡ with_roots declared bare → FindsOnly (SpellEpochs repos declared bare upgrades) (Some epochs) → FindsOnly (BeginWith roots upgrades repos bare) (Some (record { first = schema; upgraded = epochs }))
  begun_found schema epochs is found =
      let rooted : schema ≡ with_roots (declared_roots bare.classes roots) bare = is ∙ ap (λ ds. with_roots ds bare) same in (
        record { first = rooted; epochs = subst (λ ds. SpellEpochs repos ds bare upgrades epochs) same found.0 },
        λ s begin. ap₂ (λ (f : Schema) (us : List UpgradedSchema). record { first = f; upgraded = us }) (begin.first ∙ sym rooted) (found.1 s.upgraded (behind_same s.upgraded begin.epochs)),
      )

  pub begun_none : FindsOnly (SpellEpochs repos declared bare upgrades) None → FindsOnly (BeginWith roots upgrades repos bare) None
  begun_none none = λ s begin. none s.upgraded (behind_same s.upgraded begin.epochs)

pub named_found : (classes : List ℕ) (roots : List Root) (upgrades : List (List ℕ)) (repos : ℕ) (r : Option Schemas) → are_named roots ≡ true → FindsOnly (λ s. (bare : Schema) × (SpellsFirst classes repos bare × BeginWith roots upgrades repos bare s)) r → FindsOnly (SpellSchemas classes roots upgrades repos) r
named_found classes roots upgrades repos (Some s) named found = (record { named = named; spelled = found.0 }, λ y spell. found.1 y spell.spelled)
named_found classes roots upgrades repos None named found = λ y spell. found y spell.spelled

pub unnamed : (classes : List ℕ) (roots : List Root) (upgrades : List (List ℕ)) (repos : ℕ) → are_named roots ≡ false → FindsOnly (SpellSchemas classes roots upgrades repos) None
unnamed classes roots upgrades repos not = λ y spell. let bad : true ≡ false = sym spell.named ∙ not in cc
