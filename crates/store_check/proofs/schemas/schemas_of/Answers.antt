use Rattle.std.proofs.Common.{None, Some, subst, sym, ◌∙◌, ◌≡◌}
use Rattle.store_check.proofs.Spelling.{found_behind, if_some_at, named_found, none_at, none_behind, ok_map, some_at}
use Rattle.store_check.specs.Spelled.{BeginWith, FindsOnly, SpellsFirst}
use Rattle.store_check.proofs.schemas.schemas_of.Goals as goal

pub returns-in-Some : goal.returns-in-Some
returns-in-Some c =
    let classes = c.args.texts.classes.now in
    let roots = c.args.texts.roots.now in
    let upgrades = c.args.texts.upgrades.now in
    let named = sym c.are_named.ensures ∙ c.if-not-are_named.false in
    let repos : c.in-Some.first.repos ≡ c.args.repos = if_some_at (λ checked. checked.repos ≡ c.args.repos) c.in_ok-first.field-0 c.in-Some.first c.in-Some.is c.in_ok-first.ensures.repos in
    let first : FindsOnly (SpellsFirst classes c.args.repos) (Some c.in-Some.first.schema) = some_at (λ checked. checked.schema) (SpellsFirst classes c.args.repos) c.in_ok-first.field-0 c.in-Some.first c.in-Some.is c.in_ok-first.ensures.schema in
    ok_map c.begun.result _ _
    (λ r h. named_found classes roots upgrades c.args.repos r named
    (found_behind (SpellsFirst classes c.args.repos) (BeginWith roots upgrades c.args.repos) c.in-Some.first.schema r first
    (subst (λ n. FindsOnly (BeginWith roots upgrades n c.in-Some.first.schema) r) repos h)))
    c.begun.ensures

pub returns-in-None : goal.returns-in-None
returns-in-None c =
    let classes = c.args.texts.classes.now in
    let roots = c.args.texts.roots.now in
    let upgrades = c.args.texts.upgrades.now in
    let named = sym c.are_named.ensures ∙ c.if-not-are_named.false in
    named_found classes roots upgrades c.args.repos None named
    (none_behind (SpellsFirst classes c.args.repos) (BeginWith roots upgrades c.args.repos)
    (none_at (λ checked. checked.schema) (SpellsFirst classes c.args.repos) c.in_ok-first.field-0 c.in-None.is c.in_ok-first.ensures.schema))
