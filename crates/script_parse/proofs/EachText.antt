-- Each text is a script, or it is refused.
use Rattle.std.proofs.Common.{◌≡◌, ◌⊎◌, ◌<◌, ◌^◌, ℕ, Option, Some, None, List, [], ◌∷◌, length, Result, Ok, Err, refl, sym, subst, inl, inr}
use Rattle.class_defs.specs.declared.declarations.Declarations.{Declarations}
use Rattle.method_parse.specs.Texts.{SpellsSetup}
use Rattle.schedule.specs.Written.{AreEventsOf, IsFirstFault as IsEventFault}
use Rattle.schedule.specs.declared.events.Event.{Event}
use Rattle.script_text.specs.Grammar.{AreTokensOf}
use Rattle.script_text.specs.Script.{ArePartsOf}
use Rattle.script_text.specs.Sections.{split_of}
use Rattle.script_text.specs.Tokens.{tokens_of}
use Rattle.script_text.specs.declared.sections.Split.{Split}
use Rattle.script_text.specs.declared.syntax.Syntax.{Syntax}
use Rattle.script_text.specs.declared.token.Token.{Token}
use Rattle.script_text.proofs.Readings.{is_reading, is_stop}
use Rattle.script_text.proofs.Splits.{parts_are}
use Rattle.serial_model.specs.declared.entries.What.{What}
use Rattle.script_parse.specs.Reads.{Each, FirstRefused}
use Rattle.script_parse.specs.Script.{AreItems, AreRefusedItems, HasParts, HasTokens, IsItem, IsRefusedEnd, IsRefusedItem, IsRefusedSchedule, IsRefusedSetup, IsRefusedSplit, IsRefusedText, IsSetupPart, IsSyntaxOf, IsWritten}
use Rattle.script_parse.specs.declared.refusal.Refusal.{Refusal}
use Rattle.script_parse.specs.declared.refusal.Refusal.TheVariants as refusal
use Rattle.script_parse.specs.declared.script.Script.{Script}
use Rattle.script_parse.proofs.Decided.{Decided, decided_setup, events_or_fault, item_or_refused}
use Rattle.script_parse.proofs.FirstFaultTold.{first_fault_told}
use Rattle.script_parse.proofs.OneFault.{no_fault}
use Rattle.script_parse.proofs.OneScript.{AreClients, AreRefusedClients, one_tokens, syntax_same}

abbrev IsOr : {A T : Type 0} → (A → T → Type 0) → (A → Refusal → Type 0) → A → Type 0
IsOr {T = T} Is IsRefused a = ((tree : T) × Is a tree) ⊎ ((r : Refusal) × IsRefused a r)

setup_or : (part : Option (List Token)) → IsOr IsSetupPart IsRefusedSetup part
setup_or None = inl (None, tt)
setup_or (Some tokens) = by (decided_setup tokens)
  where
    by : Decided SpellsSetup tokens → IsOr IsSetupPart IsRefusedSetup (Some tokens)
    by (inl k) = inl (Some k.0, k.1)
    by (inr k) = inr (refusal.Syntax k.0, (k.0, (refl, k.1)))

schedule_or : (tokens : List Token) → IsOr AreEventsOf IsRefusedSchedule tokens
schedule_or tokens = by (events_or_fault tokens)
  where
    by : ((events : List Event) × AreEventsOf tokens events) ⊎ ((fault : Syntax) × IsEventFault tokens fault) → IsOr AreEventsOf IsRefusedSchedule tokens
    by (inl k) = inl k
    by (inr k) = inr (refusal.Syntax k.0.line, (k.0, (refl, k.1)))

module _ {A T : Type 0} (Is : A → T → Type 0) (IsRefused : A → Refusal → Type 0) where
  join_or : (x : A) (xs : List A) → IsOr Is IsRefused x → IsOr (Each Is) (FirstRefused Is IsRefused) xs → IsOr (Each Is) (FirstRefused Is IsRefused) (x ∷ xs)
  join_or x xs (inl k) (inl m) = inl (k.0 ∷ m.0, (k.1, m.1))
  join_or x xs (inl k) (inr m) = inr (m.0, inr (k.0, (k.1, m.1)))
  join_or x xs (inr k) m = inr (k.0, inl k.1)

  pub each_or : ((x : A) → IsOr Is IsRefused x) → (xs : List A) → IsOr (Each Is) (FirstRefused Is IsRefused) xs
  each_or one [] = inl ([], tt)
  each_or one (x ∷ xs) = join_or x xs (one x) (each_or one xs)

items_or : (items : List (List Token)) → IsOr AreItems AreRefusedItems items
items_or items = each_or IsItem IsRefusedItem item_or_refused items

clients_or : (clients : List (List (List Token))) → IsOr AreClients AreRefusedClients clients
clients_or clients = each_or AreItems AreRefusedItems items_or clients

-- the parts of a script, and nothing behind them
record IsWhole (split : Split) (script : Script) : Type 0 where
  parts : HasParts split.sections script
  none : split.fault ≡ None

split_or : (split : Split) → IsOr IsWhole IsRefusedSplit split
split_or split = by_setup (setup_or split.sections.setup)
  where
    by_end : (fault : Option Syntax) → split.fault ≡ fault → (script : Script) → HasParts split.sections script → IsOr IsWhole IsRefusedSplit split
    by_end None e script has = inl (script, record { parts = has; none = e })
    by_end (Some fault) e script has =
        inr (
          refusal.Syntax fault.line,
          inr (
            script.setup,
            (
              has.setup,
              inr (
                script.clients,
                (
                  has.clients,
                  inr (
                    script.events,
                    (
                      has.events,
                      subst (λ (o : Option Syntax). IsRefusedEnd o (refusal.Syntax fault.line)) (sym e) refl,
                    ),
                  ),
                ),
              ),
            ),
          ),
        )

    by_schedule : (setup : Option Declarations) → IsSetupPart split.sections.setup setup → (whats : List (List What)) → AreClients split.sections.clients whats
        → IsOr AreEventsOf IsRefusedSchedule split.sections.schedule → IsOr IsWhole IsRefusedSplit split
    by_schedule setup is whats are (inl k) = by_end split.fault refl (record { setup = setup; clients = whats; events = k.0 }) (record { setup = is; clients = are; events = k.1 })
    by_schedule setup is whats are (inr k) = inr (k.0, inr (setup, (is, inr (whats, (are, inl k.1)))))

    by_clients : (setup : Option Declarations) → IsSetupPart split.sections.setup setup → IsOr AreClients AreRefusedClients split.sections.clients → IsOr IsWhole IsRefusedSplit split
    by_clients setup is (inl k) = by_schedule setup is k.0 k.1 (schedule_or split.sections.schedule)
    by_clients setup is (inr k) = inr (k.0, inr (setup, (is, inl k.1)))

    by_setup : IsOr IsSetupPart IsRefusedSetup split.sections.setup → IsOr IsWhole IsRefusedSplit split
    by_setup (inl k) = by_clients k.0 k.1 (clients_or split.sections.clients)
    by_setup (inr k) = inr (k.0, inl k.1)

parts_whole : (tokens : List Token) → (split_of tokens).fault ≡ None → ArePartsOf tokens (split_of tokens).sections
parts_whole tokens none = parts_are tokens (found (split_of tokens)) refl none
  where
    found : Split → Result Split Syntax
    found split = Ok split

pub each_text : (bytes : List ℕ) → ((script : Script) × IsWritten bytes script) ⊎ ((r : Refusal) × IsRefusedText bytes r)
each_text bytes = by (tokens_of bytes) refl
  where
    by_split : (tokens : List Token) → AreTokensOf bytes tokens → IsOr IsWhole IsRefusedSplit (split_of tokens) → ((script : Script) × IsWritten bytes script) ⊎ ((r : Refusal) × IsRefusedText bytes r)
    by_split tokens are (inl k) = inl (k.0, (tokens, (are, ((split_of tokens).sections, (parts_whole tokens k.1.none, k.1.parts)))))
    by_split tokens are (inr k) = inr (k.0, inr (tokens, (are, k.1)))

    by : (read : Result (List Token) Syntax) → tokens_of bytes ≡ read → ((script : Script) × IsWritten bytes script) ⊎ ((r : Refusal) × IsRefusedText bytes r)
    by (Ok tokens) e = by_split tokens (is_reading bytes tokens e) (split_or (split_of tokens))
    by (Err fault) e = inr (refusal.Syntax fault.line, inl (fault, (is_stop bytes fault e, refl)))

-- a fault of the whole text is told
pub first_fault_only : (bytes : List ℕ) (tokens : List Token) (r : Refusal) → length bytes < 2 ^ 32 → AreTokensOf bytes tokens → IsSyntaxOf HasTokens tokens r → IsRefusedText bytes r
first_fault_only bytes tokens r short are fault = by (each_text bytes)
  where
    by : ((script : Script) × IsWritten bytes script) ⊎ ((q : Refusal) × IsRefusedText bytes q) → IsRefusedText bytes r
    by (inl k) =
        let same : k.1.0 ≡ tokens = one_tokens bytes k.1.0 tokens k.1.1.0 are in
        absurd (no_fault HasTokens tokens k.0 fault.0 (subst (λ (ts : List Token). HasTokens ts k.0) same k.1.1.1) fault.1.1)
    by (inr k) =
        let same : k.0 ≡ r = syntax_same HasTokens tokens k.0 r (first_fault_told bytes tokens k.0 short are k.1) fault in
        subst (λ (q : Refusal). IsRefusedText bytes q) same k.1
