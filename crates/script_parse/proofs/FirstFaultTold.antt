-- The line that is told is that of the first token that no script goes on with.
use Rattle.std.proofs.Common.{◌≡◌, ◌⊎◌, ◌≤◌, ◌<◌, ◌^◌, ℕ, ◌+◌, Bool, true, false, Option, Some, None, List, [], ◌∷◌, ◌++◌, length, refl, sym, ap, ◌∙◌, subst, inl, inr, append_assoc, append-nil, length-append, arith}
use Rattle.std.specs.Prelude.{fold}
use Rattle.std.specs.List.{AllByRecursion}
use Rattle.std.proofs.lemmas.List.Elements.{recursion_from_All}
use Rattle.std.proofs.lemmas.List.Sums.{fold-append}
use Rattle.class_defs.specs.declared.declarations.Declarations.{Declarations}
use Rattle.method_parse.specs.Texts.{Begins, IsFaultAt, SpellsSetup}
use Rattle.schedule.specs.Written.{AreEventsOf, IsFirstFault as IsEventFault}
use Rattle.schedule.specs.declared.events.Event.{Event}
use Rattle.script_text.specs.Grammar.{AreTokensOf, IsToken}
use Rattle.script_text.specs.Laws.{SpansRise}
use Rattle.script_text.specs.Marks.{max_number}
use Rattle.script_text.specs.Sections.{nothing, with_client, with_item, with_setup, sections_of, step, fault_at_end, last_line, read, split_at_end, split_of}
use Rattle.script_text.specs.declared.reader.Current.{Current}
use Rattle.script_text.specs.declared.reader.Found.{Found}
use Rattle.script_text.specs.declared.reader.Reader.{Reader}
use Rattle.script_text.specs.declared.reader.Reader.TheVariants.{Start, Setup, Number, Client, Word, Item, Schedule, Stopped}
use Rattle.script_text.specs.declared.sections.Split.{Split}
use Rattle.script_text.specs.declared.syntax.Syntax.{Syntax}
use Rattle.script_text.specs.declared.token.Token.{Token}
use Rattle.script_text.proofs.Held.{InItem, InSchedule, InSetup, Holds, read_holds}
use Rattle.script_text.proofs.OneReading.{one_reading}
use Rattle.script_text.proofs.Spans.{are_spelled, spans_rise}
use Rattle.serial_model.specs.declared.entries.What.{What}
use Rattle.script_parse.specs.Script.{AreItems, AreRefusedItems, HasTokens, IsItem, IsRefusedEnd, IsRefusedItem, IsRefusedSplit, IsRefusedText, IsSyntaxOf}
use Rattle.script_parse.specs.declared.refusal.Refusal.{Refusal}
use Rattle.script_parse.specs.declared.refusal.Refusal.TheVariants as refusal
use Rattle.script_parse.specs.declared.script.Script.{Script}
use Rattle.script_parse.proofs.GoingOn.{CanGoOn, IsCurrent, IsFound, begins_can}
use Rattle.script_parse.proofs.Completed.{completed, current_found, found_parts, item_current, no_events}
use Rattle.script_parse.proofs.Decided.{Decided, decided_setup, events_fault, events_or_fault, item_fault, item_or_refused}
use Rattle.script_parse.proofs.StayingRefused.{first_behind}
use Rattle.script_parse.proofs.FirstFault.{Next, next_token, empty_setup}
use Rattle.script_parse.proofs.OneFault.{begins_at}
use Rattle.script_parse.proofs.OneScript.{one_tokens, past_parts, split_same, tokens_apart, tokens_or_stop}
use Rattle.script_parse.proofs.PartsEnd.{AreProper, front_proper, spelled_proper}

-- ---- where the tokens end

line_behind : (front : List Token) (t : Token) (ts : List Token) (n : ℕ) → fold (λ (m : ℕ) (u : Token). u.line) n (front ++ t ∷ ts) ≡ fold (λ (m : ℕ) (u : Token). u.line) t.line ts
line_behind [] t ts n = refl
line_behind (f ∷ front) t ts n = line_behind front t ts f.line

last_behind : (front : List Token) (t : Token) (ts : List Token) → last_line (front ++ t ∷ ts) ≡ last_line (t ∷ ts)
last_behind front t ts = line_behind front t ts 1

-- whole parts, and a fault or none behind them
found_told : (f : Found) (fault : Option Syntax) (q : Refusal) → IsFound f → IsRefusedSplit (record { sections = sections_of f []; fault = fault }) q → IsRefusedEnd fault q
found_told f fault q found refused = past_parts (record { sections = sections_of f []; fault = fault }) (record { setup = found.0.0; clients = found.1.0; events = [] }) q (found_parts f found) refused

abbrev Told : Refusal → ℕ → Type 0
Told q line = q ≡ refusal.Syntax line

setup_line : (word : Token) (part ts : List Token) → word ∷ part ≡ ts → ((setup : Declarations) → SpellsSetup part setup → ⊥) → last_line part ≡ last_line ts
setup_line word [] ts whole none = absurd (none (record { classes = []; roots = [] }) empty_setup)
setup_line word (p ∷ part) ts whole none = ap last_line whole

setup_told : (part : List Token) (d : ℕ) (c : Bool) (ts : List Token) (line : ℕ) → line ≡ last_line ts → InSetup part d c ts → Begins SpellsSetup part
    → (q : Refusal) → IsRefusedSplit (split_at_end (Setup part d c) line) q → Told q line
setup_told part d c ts line e h begins q refused = by (decided_setup part)
  where
    by_end : (b : Bool) → IsRefusedEnd (fault_at_end (Setup part d b) line) q → Told q line
    by_end true never = absurd never
    by_end false told = told

    by : Decided SpellsSetup part → Told q line
    by (inl k) = by_end c (found_told (with_setup part) (fault_at_end (Setup part d c) line) q ((Some k.0, k.1), ([], tt)) refused)
    by (inr (l, inl f)) = absurd (f.ends (begins_at SpellsSetup part f.before f.token f.behind f.parts begins))
    by (inr (l, inr cut)) =
        split_same (split_at_end (Setup part d c) line) q (refusal.Syntax l) refused (inl (l, (refl, inr cut)))
        ∙ ap (λ (n : ℕ). refusal.Syntax n) (cut.on_line ∙ setup_line h.word part ts h.whole cut.none ∙ sym e)

item_told : (cur : Current) (part : List Token) (d : ℕ) (ts : List Token) (line : ℕ) → line ≡ last_line ts → InItem cur part d ts → IsCurrent cur → Begins IsItem part
    → (q : Refusal) → IsRefusedSplit (split_at_end (Item cur part d) line) q → Told q line
item_told cur part d ts line e h current begins q refused = by (item_or_refused part)
  where
    two : 2 ≤ length part
    two = omega (arith, ap length h.part_is)

    part_line : last_line part ≡ last_line ts
    part_line =
        ap last_line h.part_is ∙ sym (last_behind h.front h.first (h.brace ∷ h.rest)) ∙ ap (λ (l : List Token). last_line (h.front ++ l)) (sym h.part_is) ∙ ap last_line h.whole

    split : Split
    split = split_at_end (Item cur part d) line

    refused_as : (r : Refusal) → IsRefusedItem part r → IsRefusedSplit split r
    refused_as r is = inr (
      current.0.0.0,
      (
        current.0.0.1,
        inl (first_behind AreItems AreRefusedItems cur.found.clients current.0.1.0 (cur.items ++ part ∷ []) r current.0.1.1
            (first_behind IsItem IsRefusedItem cur.items current.1.0 part r current.1.1 is)),
      ),
    )

    by_fault : (r : Refusal) → IsRefusedItem part r → (l : ℕ) → r ≡ refusal.Syntax l → IsFaultAt IsItem part l → Told q line
    by_fault r is l same (inl f) = absurd (f.ends (begins_at IsItem part f.before f.token f.behind f.parts begins))
    by_fault r is l same (inr cut) = split_same split q r refused (refused_as r is) ∙ same ∙ ap (λ (n : ℕ). refusal.Syntax n) (cut.on_line ∙ part_line ∙ sym e)

    by : ((what : What) × IsItem part what) ⊎ ((r : Refusal) × IsRefusedItem part r) → Told q line
    by (inl k) = found_told (with_client (with_item cur part)) (Some (record { line = line })) q (current_found (with_item cur part) (item_current cur part k.0 current k.1)) refused
    by (inr k) = let f = item_fault part k.0 two k.1 in by_fault k.0 k.1 f.0 f.1.0 f.1.1

schedule_line : (front : List Token) (word : Token) (tokens ts : List Token) → front ++ word ∷ tokens ≡ ts → ((events : List Event) → AreEventsOf tokens events → ⊥) → last_line tokens ≡ last_line ts
schedule_line front word [] ts whole none = absurd (none [] no_events)
schedule_line front word (t ∷ tokens) ts whole none = sym (last_behind front word (t ∷ tokens)) ∙ ap last_line whole

schedule_told : (f : Found) (tokens ts : List Token) (line : ℕ) → line ≡ last_line ts → InSchedule f tokens ts → IsFound f → Begins AreEventsOf tokens
    → (q : Refusal) → IsRefusedSplit (split_at_end (Schedule f tokens) line) q → Told q line
schedule_told f tokens ts line e h found begins q refused = by (events_or_fault tokens)
  where
    split : Split
    split = split_at_end (Schedule f tokens) line

    by_fault : (fault : Syntax) → IsEventFault tokens fault → IsFaultAt AreEventsOf tokens fault.line → Told q line
    by_fault fault is (inl g) = absurd (g.ends (begins_at AreEventsOf tokens g.before g.token g.behind g.parts begins))
    by_fault fault is (inr cut) =
        split_same split q (refusal.Syntax fault.line) refused (inr (found.0.0, (found.0.1, inr (found.1.0, (found.1.1, inl (fault, (refl, is)))))))
        ∙ ap (λ (n : ℕ). refusal.Syntax n) (cut.on_line ∙ schedule_line h.front h.word tokens ts h.whole cut.none ∙ sym e)

    by : ((events : List Event) × AreEventsOf tokens events) ⊎ ((fault : Syntax) × IsEventFault tokens fault) → Told q line
    by (inl k) = absurd (past_parts split (record { setup = found.0.0; clients = found.1.0; events = k.0 }) q (record { setup = found.0.1; clients = found.1.1; events = k.1 }) refused)
    by (inr k) = by_fault k.0 k.1 (events_fault tokens k.0 k.1)

end_told : (r : Reader) (ts : List Token) (line : ℕ) → line ≡ last_line ts → Holds r ts → CanGoOn r → (q : Refusal) → IsRefusedSplit (split_at_end r line) q → Told q line
end_told Start ts line e h can q refused = absurd (found_told nothing None q ((None, tt), ([], tt)) refused)
end_told (Setup part d c) ts line e h can q refused = setup_told part d c ts line e h can q refused
end_told (Number f) ts line e h can q refused = found_told f (Some (record { line = line })) q can refused
end_told (Client cur) ts line e h can q refused = absurd (found_told (with_client cur) None q (current_found cur can) refused)
end_told (Word cur part) ts line e h can q refused = found_told (with_client cur) (Some (record { line = line })) q (current_found cur can) refused
end_told (Item cur part d) ts line e h can q refused = item_told cur part d ts line e h can.0 can.1 q refused
end_told (Schedule f tokens) ts line e h can q refused = schedule_told f tokens ts line e h can.0 can.1 q refused
end_told (Stopped s f) ts line e h can q refused = absurd can

-- ---- token by token

module _ (whole : List Token) (q : Refusal) (line : ℕ) (at_last : line ≡ last_line whole) (proper : AreProper whole) (short : length whole ≤ max_number) (none : (script : Script) → HasTokens whole script → ⊥) where
  end_of : (front : List Token) → front ≡ whole → CanGoOn (fold step Start front) → IsRefusedSplit (split_at_end (fold step Start front) line) q → IsSyntaxOf HasTokens whole q
  end_of front same can refused = (
    line,
    (
      end_told (fold step Start front) front line (at_last ∙ ap last_line (sym same)) (read_holds front) can q refused,
      inr (record { begins = completed whole proper short (subst (λ (l : List Token). CanGoOn (fold step Start l)) same can); none = none; on_line = at_last }),
    ),
  )

  next_of : (front : List Token) (t : Token) (ts : List Token) → front ++ t ∷ ts ≡ whole → CanGoOn (fold step Start front) → Next (step (fold step Start front) t) t.line
      → IsRefusedSplit (split_at_end (fold step (step (fold step Start front) t) ts) line) q
      → (CanGoOn (fold step Start (front ++ t ∷ [])) → IsRefusedSplit (split_at_end (fold step (fold step Start (front ++ t ∷ [])) ts) line) q → IsSyntaxOf HasTokens whole q)
      → IsSyntaxOf HasTokens whole q
  next_of front t ts same can (inl on) refused further =
      let one : step (fold step Start front) t ≡ fold step Start (front ++ t ∷ []) = sym (fold-append step Start front (t ∷ [])) in
      further (subst (λ (r : Reader). CanGoOn r) one on) (subst (λ (r : Reader). IsRefusedSplit (split_at_end (fold step r ts) line) q) one refused)
  next_of front t ts same can (inr fault) refused further =
      let one : fold step Start (front ++ t ∷ []) ≡ step (fold step Start front) t = fold-append step Start front (t ∷ []) in
      let all : length (front ++ t ∷ ts) ≡ length whole = ap length same in (
        t.line,
        (
          fault.told ts line q refused,
          inl (record {
            before = front;
            token = t;
            behind = ts;
            parts = sym same;
            begins = completed front (front_proper front (t ∷ ts) (subst (λ (l : List Token). AreProper l) (sym same) proper)) (omega (arith, short, all, length-append front (t ∷ ts))) can;
            ends = λ b. fault.never (subst (λ (r : Reader). CanGoOn r) one (begins_can (front ++ t ∷ []) b));
            on_line = refl;
          }),
        ),
      )

  walk : (ts front : List Token) → front ++ ts ≡ whole → CanGoOn (fold step Start front) → IsRefusedSplit (split_at_end (fold step (fold step Start front) ts) line) q → IsSyntaxOf HasTokens whole q
  walk [] front same can refused = end_of front (sym (append-nil front) ∙ same) can refused
  walk (t ∷ ts) front same can refused =
      let more : (front ++ t ∷ []) ++ ts ≡ whole = append_assoc front (t ∷ []) ts ∙ same in
      let here : AreProper (front ++ t ∷ []) = front_proper (front ++ t ∷ []) ts (subst (λ (l : List Token). AreProper l) (sym more) proper) in
      next_of front t ts same can (next_token (fold step Start front) t front (read_holds front) here can) refused
      (λ on later. walk ts (front ++ t ∷ []) more on later)

tokens_told : (tokens : List Token) (q : Refusal) → AreProper tokens → length tokens ≤ max_number → IsRefusedSplit (split_of tokens) q → IsSyntaxOf HasTokens tokens q
unfolding split_of read
tokens_told tokens q proper short refused =
    walk tokens q (last_line tokens) refl proper short (λ script has. tokens_apart tokens script q has refused) tokens [] refl tt refused

-- ---- bytes

all_proper : (tokens : List Token) → AllByRecursion (λ (t : Token). IsToken t.kind t.text) tokens → AreProper tokens
all_proper [] all = tt
all_proper (t ∷ tokens) all = (spelled_proper t all.0, all_proper tokens all.1)

few_tokens : (from : ℕ) (tokens : List Token) (end : ℕ) → SpansRise from tokens end → from + length tokens ≤ end
few_tokens from [] end rise = omega (arith, rise)
few_tokens from (t ∷ tokens) end rise = omega (arith, rise.0, rise.1, few_tokens t.to tokens end rise.2)

pub first_fault_told : (bytes : List ℕ) (tokens : List Token) (r : Refusal) → length bytes < 2 ^ 32 → AreTokensOf bytes tokens → IsRefusedText bytes r → IsSyntaxOf HasTokens tokens r
first_fault_told bytes tokens r short are (inl stop) = absurd (tokens_or_stop bytes tokens stop.0 are stop.1.0)
first_fault_told bytes tokens r short are (inr s) =
    let same : s.0 ≡ tokens = one_tokens bytes s.0 tokens s.1.0 are in
    let proper = all_proper tokens (recursion_from_All (λ (t : Token). IsToken t.kind t.text) tokens (are_spelled bytes tokens are)) in
    let few = few_tokens 0 tokens (length bytes) (spans_rise bytes tokens (one_reading bytes tokens are)) in
    tokens_told tokens r proper (omega (arith, few, short)) (subst (λ (ts : List Token). IsRefusedSplit (split_of ts) r) same s.1.1)
