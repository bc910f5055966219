-- What is told of a script, from the least broken rule, the least event and the first fault of an upgrade.
use Rattle.std.proofs.Common.{◌≡◌, Bool, true, false, if◌then◌else◌, ℕ, [], length, Option, Some, None, option_map, refl, ap, sym, ◌∙◌, subst}
use Rattle.std.specs.List.{flat_map}
use Rattle.class_defs.proofs.KeptRules.{none_told, nothing}
use Rattle.class_defs.specs.Objects.{first_of}
use Rattle.class_defs.specs.Rules.{least, told_before}
use Rattle.class_defs.specs.SchemaRules.{schema_rules}
use Rattle.class_defs.specs.declared.rules.Rule.TheVariants.{T9}
use Rattle.class_defs.specs.declared.rules.RuleFault.{RuleFault}
use Rattle.class_defs.specs.declared.store.Schema.{Schema}
use Rattle.script_check.specs.Judging.{BreaksRule, IsToldEvent, KeepsRules, items_rules, own_told, script_rules, least_breach}
use Rattle.script_parse.specs.declared.refusal.Refusal.TheVariants as refusal
use Rattle.script_parse.specs.declared.script.Script.{Script}

one_of_two : (b : Bool) (f g : RuleFault) → (if b then Some f else Some g) ≡ None → ⊥
one_of_two true f g h = cc
one_of_two false f g h = cc

nothing_told : (rule : Option RuleFault) (event : Option ℕ) → least_breach rule event ≡ None → (rule ≡ None) × (event ≡ None)
nothing_told rule None h = (h, refl)
nothing_told None (Some line) h = cc
nothing_told (Some fault) (Some line) h = absurd (one_of_two (told_before (record { line = line; rule = T9 }) fault) (record { line = line; rule = T9 }) fault h)

-- what is told of the rules T1 to T9 by these two
pub record IsTold (schema : Schema) (repos : ℕ) (script : Script) (t : Option RuleFault) : Type 0 where
  pub rule : Option RuleFault
  pub event : Option ℕ
  pub least_rule : rule ≡ least (script_rules schema repos script.clients)
  pub first : IsToldEvent (length script.clients) repos script.events event
  pub is : least_breach rule event ≡ t

pub is_told : (schema : Schema) (repos : ℕ) (script : Script) (rule : Option RuleFault) (event : Option ℕ) (clients : ℕ) (t r : Option RuleFault) → rule ≡ least (script_rules schema repos script.clients) → clients ≡ length script.clients → IsToldEvent clients repos script.events event → t ≡ least_breach rule event → t ≡ r → IsTold schema repos script r
is_told schema repos script rule event clients t r is many first tells same =
    let P : ℕ → Type 0 = λ n. IsToldEvent n repos script.events event in
    record { rule = rule; event = event; least_rule = is; first = subst P many first; is = sym tells ∙ same }

module _ (schema : Schema) (repos : ℕ) (script : Script) where
  before_upgrades : (t : Option RuleFault) (h : IsTold schema repos script t) → least_breach (least (script_rules schema repos script.clients)) h.event ≡ t
  before_upgrades t h = ap (λ (q : Option RuleFault). least_breach q h.event) (sym h.least_rule) ∙ h.is

  -- one of the rules T1 to T9 is broken
  pub first_breaks : (fault : RuleFault) → IsTold schema repos script (Some fault) → BreaksRule schema repos script (refusal.Rule fault)
  first_breaks fault h = record {
    event = h.event;
    first = h.first;
    is = ap (λ (q : Option RuleFault). option_map refusal.Rule (first_of q (own_told schema repos script))) (before_upgrades (Some fault) h);
  }

  none_broken : IsTold schema repos script None → script_rules schema repos script.clients ≡ []
  none_broken h = none_told (script_rules schema repos script.clients) (sym h.least_rule ∙ (nothing_told h.rule h.event h.is).0)

  -- none of them is, and so none in the setup
  pub setup_keeps : IsTold schema repos script None → schema_rules schema repos ≡ []
  setup_keeps h = (nothing (schema_rules schema repos) (flat_map (items_rules schema repos) script.clients) (none_broken h)).0

  -- none of them is, but an upgrade breaks a rule
  pub own_breaks : (fault : RuleFault) → IsTold schema repos script None → own_told schema repos script ≡ Some fault → BreaksRule schema repos script (refusal.Rule fault)
  own_breaks fault h own = record {
    event = h.event;
    first = h.first;
    is = ap (λ (q : Option RuleFault). option_map refusal.Rule (first_of q (own_told schema repos script))) (before_upgrades None h) ∙ ap (option_map refusal.Rule) own;
  }

  -- no rule is broken
  pub all_kept : IsTold schema repos script None → own_told schema repos script ≡ None → KeepsRules schema repos script
  all_kept h own =
      let P : Option ℕ → Type 0 = λ event. IsToldEvent (length script.clients) repos script.events event in
      record { rules = none_broken h; events = subst P (nothing_told h.rule h.event h.is).1 h.first; upgrades = own }
