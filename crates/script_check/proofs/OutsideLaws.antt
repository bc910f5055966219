-- O7 over the transactions of all clients, behind what an upgrade breaks without them.
use Rattle.std.proofs.Common.{◌≡◌, ℕ, List, [], ◌∷◌, ◌++◌, Option, Some, None, option_map, Ok, Err, refl, ap, sym, ◌∙◌}
use Rattle.std.specs.List.{flat_map}
use Rattle.std.proofs.lemmas.Grind.{flat_map-append}
use Rattle.std.proofs.lemmas.List.{append-nil}
use Rattle.class_defs.specs.Applied.{applied}
use Rattle.class_defs.specs.Objects.{first_of}
use Rattle.class_defs.specs.Rules.{least}
use Rattle.class_defs.specs.SchemaRules.{item_rules}
use Rattle.class_defs.specs.UpgradeOrder.{breaks_outside, inside_rules, outside_class, outside_rules, over_classes, own_fault}
use Rattle.class_defs.specs.UpgradeRules.{upgrade_rules}
use Rattle.class_defs.specs.declared.checked.Checked.{Checked}
use Rattle.class_defs.specs.declared.rules.Rule.TheVariants.{O7}
use Rattle.class_defs.specs.declared.rules.RuleFault.{RuleFault}
use Rattle.class_defs.specs.declared.statements.Stmt.{Stmt}
use Rattle.class_defs.specs.declared.store.Schema.{Schema}
use Rattle.class_defs.specs.declared.upgrades.Upgrade.{Upgrade}
use Rattle.method_check.specs.Told.{Tells}
use Rattle.method_check.specs.declared.error.CheckError.{CheckError}
use Rattle.method_check.specs.declared.error.CheckError.TheVariants as errors
use Rattle.ownership_check.proofs.OneTold.{outside_told}
use Rattle.serial_model.specs.declared.entries.What.{What}
use Rattle.serial_model.specs.declared.entries.What.TheVariants.{Tx, Upgrade as UpgradeItem}
use Rattle.script_check.specs.Judging.{items_rules}
use Rattle.script_check.specs.Upgrading.{Leads, block_in, blocks_of}

-- ---- items and their blocks

of_client : (s : Schema) (repos : ℕ) (items : List What) → items_rules s repos items ≡ flat_map (item_rules s repos) (flat_map block_in items)
of_client s repos [] = refl
of_client s repos (Tx block ∷ items) = ap (λ (fs : List RuleFault). item_rules s repos block ++ fs) (of_client s repos items)
of_client s repos (UpgradeItem upgrade ∷ items) = of_client s repos items

pub items_as_blocks : (s : Schema) (repos : ℕ) (clients : List (List What)) → flat_map (items_rules s repos) clients ≡ flat_map (item_rules s repos) (blocks_of clients)
items_as_blocks s repos [] = refl
items_as_blocks s repos (items ∷ clients) =
    ap (λ (fs : List RuleFault). fs ++ flat_map (items_rules s repos) clients) (of_client s repos items)
    ∙ ap (λ (fs : List RuleFault). flat_map (item_rules s repos) (flat_map block_in items) ++ fs) (items_as_blocks s repos clients)
    ∙ sym (flat_map-append (item_rules s repos) (flat_map block_in items) (blocks_of clients))

-- ---- what is told first

outside_first : (line : ℕ) (fs gs : List RuleFault) → breaks_outside line (fs ++ gs) ≡ first_of (breaks_outside line fs) (breaks_outside line gs)
outside_first line [] gs = refl
outside_first line (f ∷ fs) gs = refl

first_again : {X : Type 0} (a b c : Option X) → first_of a (first_of b c) ≡ first_of (first_of a b) c
first_again None b c = refl
first_again (Some x) b c = refl

module _ (s : Schema) (repos : ℕ) (u : Upgrade) (blocks : List (List Stmt)) where
  abbrev behind : Schema
  behind = applied s u

  abbrev inside : Option RuleFault
  inside = least (inside_rules u behind repos)

  abbrev methods : List RuleFault
  methods = over_classes (outside_class u behind repos) 0 behind.classes

  abbrev items : List RuleFault
  items = flat_map (item_rules behind repos) blocks

  -- what an upgrade breaks without items comes before what it breaks of them
  own_first : own_fault s repos u blocks ≡ first_of (own_fault s repos u []) (breaks_outside u.line items)
  unfolding own_fault upgrade_rules outside_rules applied
  own_first =
      let a = least (upgrade_rules s.classes u) in
      let none : breaks_outside u.line methods ≡ breaks_outside u.line (methods ++ []) = ap (breaks_outside u.line) (sym (append-nil methods)) in
      ap (λ (o : Option RuleFault). first_of a (first_of inside o)) (outside_first u.line methods items ∙ ap (λ (o : Option RuleFault). first_of o (breaks_outside u.line items)) none)
      ∙ ap (first_of a) (first_again inside (breaks_outside u.line (methods ++ [])) (breaks_outside u.line items))
      ∙ first_again a (first_of inside (breaks_outside u.line (methods ++ []))) (breaks_outside u.line items)

  told_without : (fault : RuleFault) → own_fault s repos u [] ≡ Some fault → first_of (own_fault s repos u blocks) None ≡ Some fault
  told_without fault h =
      ap (λ (o : Option RuleFault). first_of o None) (own_first ∙ ap (λ (o : Option RuleFault). first_of o (breaks_outside u.line items)) h)

  behind_none : own_fault s repos u [] ≡ None → own_fault s repos u blocks ≡ option_map (λ t. record { line = u.line; rule = O7 }) (least items)
  behind_none h = own_first ∙ ap (λ (o : Option RuleFault). first_of o (breaks_outside u.line items)) h ∙ outside_told u.line items

  told_of : (found : Option RuleFault) → own_fault s repos u [] ≡ None → found ≡ least items → first_of (own_fault s repos u blocks) None ≡ first_of (option_map (λ t. record { line = u.line; rule = O7 }) found) None
  told_of found h is =
      ap (λ (o : Option RuleFault). first_of o None) (behind_none h ∙ ap (option_map (λ t. record { line = u.line; rule = O7 })) (sym is))

  -- what it breaks without the items is told
  pub fails_alone : (e : CheckError) → Tells e (own_fault s repos u []) → Leads s repos (u ∷ []) blocks (Err e)
  fails_alone (errors.Broken fault) h = told_without fault h
  fails_alone errors.NoMemory h = tt

  module _ (c : Checked) (none : own_fault s repos u [] ≡ None) (schema : c.schema ≡ applied s u) (same : c.repos ≡ repos) where
    here : (found : Option RuleFault) → found ≡ least (flat_map (item_rules c.schema c.repos) blocks) → found ≡ least items
    here found is =
        is ∙ ap (λ (q : Schema). least (flat_map (item_rules q c.repos) blocks)) schema ∙ ap (λ (n : ℕ). least (flat_map (item_rules behind n) blocks)) same

    -- nothing is told where it breaks nothing of the items
    pub leads_there : None ≡ least (flat_map (item_rules c.schema c.repos) blocks) → Leads s repos (u ∷ []) blocks (Ok c)
    leads_there is = (told_of None none (here None is), schema, same)

    -- else the rule on what is outside is
    pub breaks_there : (f : RuleFault) → Some f ≡ least (flat_map (item_rules c.schema c.repos) blocks) → Leads s repos (u ∷ []) blocks (Err (errors.Broken (record { line = u.line; rule = O7 })))
    breaks_there f is = told_of (Some f) none (here (Some f) is)
