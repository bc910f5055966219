-- That each upgrade of a script names a class, as the grammar has it.
use Rattle.std.proofs.Common.{◌≡◌, ◌<◌, ◌≤◌, ℕ, zero, suc, List, [], ◌∷◌, ◌++◌, length, arith, subst}
use Rattle.std.specs.List.{AllByRecursion, flat_map}
use Rattle.class_defs.specs.Accepted.{AllNameAClass}
use Rattle.class_defs.specs.Applied.{applied}
use Rattle.class_defs.specs.declared.store.Schema.{Schema}
use Rattle.class_defs.specs.declared.upgrades.ClassUpgrade.{ClassUpgrade}
use Rattle.class_defs.specs.declared.upgrades.Upgrade.{Upgrade}
use Rattle.script_text.specs.declared.token.Token.{Token}
use Rattle.serial_model.specs.declared.entries.What.{What}
use Rattle.serial_model.specs.declared.entries.What.TheVariants.{Tx, Upgrade as UpgradeItem}
use Rattle.script_parse.specs.Reads.{Each}
use Rattle.script_parse.specs.Script.{AreItems, IsItem, IsWritten}
use Rattle.script_check.specs.Upgrading.{schemas_behind, upgrade_in, upgrades_of}
use Rattle.script_parse.specs.declared.script.Script.{Script}

abbrev NamesAClass : Upgrade → Type 0
NamesAClass u = ¬ (u.classes ≡ [])

some_class : (cs : List ClassUpgrade) → 1 ≤ length cs → ¬ (cs ≡ [])
some_class [] h e = absurd (omega (arith, h))
some_class (c ∷ cs) h e = cc

both : {X : Type 0} (P : X → Type 0) (xs ys : List X) → AllByRecursion P xs → AllByRecursion P ys → AllByRecursion P (xs ++ ys)
both P [] ys h g = g
both P (x ∷ xs) ys h g = (h.0, both P xs ys h.1 g)

in_item : (tokens : List Token) (w : What) → IsItem tokens w → AllByRecursion NamesAClass (upgrade_in w)
in_item tokens (Tx block) h = tt
in_item tokens (UpgradeItem u) h = (some_class u.classes h.1.some, tt)

in_items : (items : List (List Token)) (ws : List What) → AreItems items ws → AllByRecursion NamesAClass (flat_map upgrade_in ws)
in_items [] [] h = tt
in_items (i ∷ items) (w ∷ ws) h = both NamesAClass (upgrade_in w) (flat_map upgrade_in ws) (in_item i w h.0) (in_items items ws h.1)
in_items [] (w ∷ ws) h = absurd h
in_items (i ∷ items) [] h = absurd h

in_clients : (parts : List (List (List Token))) (clients : List (List What)) → Each AreItems parts clients → AllByRecursion NamesAClass (upgrades_of clients)
in_clients [] [] h = tt
in_clients (p ∷ parts) (c ∷ clients) h = both NamesAClass (flat_map upgrade_in c) (upgrades_of clients) (in_items p c h.0) (in_clients parts clients h.1)
in_clients [] (c ∷ clients) h = absurd h
in_clients (p ∷ parts) [] h = absurd h

in_epochs : (schema : Schema) (us : List Upgrade) → AllByRecursion NamesAClass us → AllNameAClass (schemas_behind schema us) (length us)
in_epochs schema [] h k u less leads = absurd (omega (arith, less))
in_epochs schema (v ∷ us) h zero u less leads = let e : v ≡ u = cc in subst NamesAClass e h.0
in_epochs schema (v ∷ us) h (suc k) u less leads = in_epochs (applied schema v) us h.1 k u (omega (arith, less)) leads

pub written_names : (schema : Schema) (bytes : List ℕ) (script : Script) → IsWritten bytes script
    → AllNameAClass (schemas_behind schema (upgrades_of script.clients)) (length (upgrades_of script.clients))
written_names schema bytes script w = in_epochs schema (upgrades_of script.clients) (in_clients w.1.1.0.clients script.clients w.1.1.1.1.clients)
