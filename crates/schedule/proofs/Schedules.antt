-- The events of tokens are those of the one schedule that they write.
use Rattle.std.proofs.Common.{◌≡◌, ℕ, List, [], ◌∷◌, ◌++◌, Result, Ok, Err, refl, sym, ap, ◌∙◌, subst, append_assoc, append-nil}
use Rattle.std.specs.Prelude.{map, fold}
use Rattle.std.specs.List.{AllByRecursion, flat_map}
use Rattle.std.proofs.lemmas.Grind.{flat_map-append}
use Rattle.std.proofs.lemmas.List.{map-append}
use Rattle.script_text.specs.declared.token.Token.{Token}
use Rattle.script_text.specs.declared.syntax.Syntax.{Syntax}
use Rattle.script_text.specs.Sections.{last_line}
use Rattle.schedule.specs.declared.events.Event.{Event}
use Rattle.schedule.specs.declared.reader.Reader.{Reader}
use Rattle.schedule.specs.declared.reader.Reader.TheVariants.{Ready, Named, Dotted, Stopped}
use Rattle.schedule.specs.Schedule.{Mark, IsName, IsPoint, IsNumber, IsOther, mark_of, alone_event, pair_event, ready_step, named_step, dotted_step, step, at_end, read, events_of}
use Rattle.schedule.specs.Written.{Written, Alone, Pair, tokens_in, event_in, IsWritten, AreEventsOf}

-- An event may begin next, and the tokens may end; these are the events so far.
record Open (events : List Event) (r : Reader) : Type 0 where
  name : (t : Token) → mark_of t ≡ IsName → step r t ≡ Named events t.line t.text
  ends : (line : ℕ) → at_end r line ≡ Ok events

open_ready : (events : List Event) → Open events (Ready events)
unfolding step
open_ready events = record { name = λ t e. ap (λ m. ready_step m events t) e; ends = λ line. refl }

open_named : (events : List Event) (line : ℕ) (text : List ℕ) → Open (events ++ alone_event line text ∷ []) (Named events line text)
unfolding step
open_named events line text = record { name = λ t e. ap (λ m. named_step m events line text t) e; ends = λ end. refl }

point_read : (events : List Event) (line : ℕ) (text : List ℕ) (t : Token) → mark_of t ≡ IsPoint → step (Named events line text) t ≡ Dotted events line text
unfolding step
point_read events line text t e = ap (λ m. named_step m events line text t) e

number_read : (events : List Event) (line : ℕ) (text : List ℕ) (t : Token) → mark_of t ≡ IsNumber → step (Dotted events line text) t ≡ Ready (events ++ pair_event line text t.text ∷ [])
unfolding step
number_read events line text t e = ap (λ m. dotted_step m events line text t) e

written_read : (ws : List Written) (events : List Event) (r : Reader) (line : ℕ) → Open events r → AllByRecursion IsWritten ws
    → at_end (fold step r (flat_map tokens_in ws)) line ≡ Ok (events ++ map event_in ws)
written_read [] events r line o are = o.ends line ∙ ap Ok (sym (append-nil events))
written_read (Alone name ∷ ws) events r line o are =
    let rest : List Token = flat_map tokens_in ws in
    let event : Event = alone_event name.line name.text in
    ap (λ s. at_end (fold step s rest) line) (o.name name are.0)
    ∙ written_read ws (events ++ event ∷ []) (Named events name.line name.text) line (open_named events name.line name.text) are.1
    ∙ ap Ok (append_assoc events (event ∷ []) (map event_in ws))
written_read (Pair name point number ∷ ws) events r line o are =
    let rest : List Token = flat_map tokens_in ws in
    let event : Event = pair_event name.line name.text number.text in
    ap (λ s. at_end (fold step (step (step s point) number) rest) line) (o.name name are.0.0)
    ∙ ap (λ s. at_end (fold step (step s number) rest) line) (point_read events name.line name.text point are.0.1)
    ∙ ap (λ s. at_end (fold step s rest) line) (number_read events name.line name.text number are.0.2)
    ∙ written_read ws (events ++ event ∷ []) (Ready (events ++ event ∷ [])) line (open_ready (events ++ event ∷ [])) are.1
    ∙ ap Ok (append_assoc events (event ∷ []) (map event_in ws))

-- tokens with these events are read as them
pub events_read : (tokens : List Token) (events : List Event) → AreEventsOf tokens events → events_of tokens ≡ Ok events
unfolding events_of read
events_read tokens events are =
    ap (λ l. at_end (fold step (Ready []) l) (last_line tokens)) (sym are.whole)
    ∙ written_read are.written [] (Ready []) (last_line tokens) (open_ready []) are.each
    ∙ ap Ok (sym are.events_are)

-- what was read is the tokens

pub record AtName (events : List Event) (line : ℕ) (text : List ℕ) (tokens : List Token) : Type 0 where
  pub front : List Token
  pub before : AreEventsOf front events
  pub name : Token
  pub name_is : mark_of name ≡ IsName
  pub line_is : name.line ≡ line
  pub text_is : name.text ≡ text
  pub whole : front ++ name ∷ [] ≡ tokens

pub record AtPoint (events : List Event) (line : ℕ) (text : List ℕ) (tokens : List Token) : Type 0 where
  pub front : List Token
  pub named : AtName events line text front
  pub point : Token
  pub point_is : mark_of point ≡ IsPoint
  pub whole : front ++ point ∷ [] ≡ tokens

abbrev pub Holds : Reader → List Token → Type 0
Holds (Ready events) tokens = AreEventsOf tokens events
Holds (Named events line text) tokens = AtName events line text tokens
Holds (Dotted events line text) tokens = AtPoint events line text tokens
Holds (Stopped fault) tokens = Unit {0}

-- one more event behind those that are written
joins : (tokens : List Token) (events : List Event) (w : Written) → AreEventsOf tokens events → IsWritten w → AreEventsOf (tokens ++ tokens_in w) (events ++ event_in w ∷ [])
joins tokens events w are is =
    record {
      written = are.written ++ w ∷ [];
      each = each are.written are.each;
      whole = flat_map-append tokens_in are.written (w ∷ []) ∙ ap (λ l. flat_map tokens_in are.written ++ l) (append-nil (tokens_in w)) ∙ ap (λ l. l ++ tokens_in w) are.whole;
      events_are = ap (λ l. l ++ event_in w ∷ []) are.events_are ∙ sym (map-append event_in are.written (w ∷ []));
    }
  where
    each : (ws : List Written) → AllByRecursion IsWritten ws → AllByRecursion IsWritten (ws ++ w ∷ [])
    each [] all = (is, tt)
    each (v ∷ ws) all = (all.0, each ws all.1)

-- an event that is a name alone
alone_joins : (tokens : List Token) (events : List Event) (line : ℕ) (text : List ℕ) → AtName events line text tokens → AreEventsOf tokens (events ++ alone_event line text ∷ [])
alone_joins tokens events line text h =
    let joined : AreEventsOf (h.front ++ h.name ∷ []) (events ++ alone_event h.name.line h.name.text ∷ []) = joins h.front events (Alone h.name) h.before h.name_is in
    let event : alone_event h.name.line h.name.text ≡ alone_event line text = ap (λ l. alone_event l h.name.text) h.line_is ∙ ap (alone_event line) h.text_is in
    subst (λ l. AreEventsOf l (events ++ alone_event line text ∷ [])) h.whole (subst (λ e. AreEventsOf (h.front ++ h.name ∷ []) (events ++ e ∷ [])) event joined)

pair_joins : (tokens : List Token) (events : List Event) (line : ℕ) (text : List ℕ) (number : Token) → mark_of number ≡ IsNumber → AtPoint events line text tokens
    → AreEventsOf (tokens ++ number ∷ []) (events ++ pair_event line text number.text ∷ [])
pair_joins tokens events line text number is h =
    let n = h.named in
    let joined : AreEventsOf (n.front ++ (n.name ∷ h.point ∷ number ∷ [])) (events ++ pair_event n.name.line n.name.text number.text ∷ []) =
    joins n.front events (Pair n.name h.point number) n.before (n.name_is, h.point_is, is) in
    let event : pair_event n.name.line n.name.text number.text ≡ pair_event line text number.text =
    ap (λ l. pair_event l n.name.text number.text) n.line_is ∙ ap (λ l. pair_event line l number.text) n.text_is in
    let whole : n.front ++ (n.name ∷ h.point ∷ number ∷ []) ≡ tokens ++ number ∷ [] =
    sym (append_assoc n.front (n.name ∷ []) (h.point ∷ number ∷ [])) ∙ ap (λ l. l ++ h.point ∷ number ∷ []) n.whole
    ∙ sym (append_assoc h.front (h.point ∷ []) (number ∷ [])) ∙ ap (λ l. l ++ number ∷ []) h.whole in
    subst (λ l. AreEventsOf l (events ++ pair_event line text number.text ∷ [])) whole
    (subst (λ e. AreEventsOf (n.front ++ (n.name ∷ h.point ∷ number ∷ [])) (events ++ e ∷ [])) event joined)

ready_holds : (m : Mark) (t : Token) (events : List Event) (tokens : List Token) → mark_of t ≡ m → AreEventsOf tokens events → Holds (ready_step m events t) (tokens ++ t ∷ [])
ready_holds IsName t events tokens e h = record { front = tokens; before = h; name = t; name_is = e; line_is = refl; text_is = refl; whole = refl }
ready_holds IsPoint t events tokens e h = tt
ready_holds IsNumber t events tokens e h = tt
ready_holds IsOther t events tokens e h = tt

named_holds : (m : Mark) (t : Token) (events : List Event) (line : ℕ) (text : List ℕ) (tokens : List Token) → mark_of t ≡ m → AtName events line text tokens
    → Holds (named_step m events line text t) (tokens ++ t ∷ [])
named_holds IsName t events line text tokens e h =
    record { front = tokens; before = alone_joins tokens events line text h; name = t; name_is = e; line_is = refl; text_is = refl; whole = refl }
named_holds IsPoint t events line text tokens e h = record { front = tokens; named = h; point = t; point_is = e; whole = refl }
named_holds IsNumber t events line text tokens e h = tt
named_holds IsOther t events line text tokens e h = tt

dotted_holds : (m : Mark) (t : Token) (events : List Event) (line : ℕ) (text : List ℕ) (tokens : List Token) → mark_of t ≡ m → AtPoint events line text tokens
    → Holds (dotted_step m events line text t) (tokens ++ t ∷ [])
dotted_holds IsNumber t events line text tokens e h = pair_joins tokens events line text t e h
dotted_holds IsName t events line text tokens e h = tt
dotted_holds IsPoint t events line text tokens e h = tt
dotted_holds IsOther t events line text tokens e h = tt

step_holds : (r : Reader) (t : Token) (tokens : List Token) → Holds r tokens → Holds (step r t) (tokens ++ t ∷ [])
unfolding step
step_holds (Ready events) t tokens h = ready_holds (mark_of t) t events tokens refl h
step_holds (Named events line text) t tokens h = named_holds (mark_of t) t events line text tokens refl h
step_holds (Dotted events line text) t tokens h = dotted_holds (mark_of t) t events line text tokens refl h
step_holds (Stopped fault) t tokens h = tt

fold_holds : (ts front : List Token) (r : Reader) → Holds r front → Holds (fold step r ts) (front ++ ts)
fold_holds [] front r h = subst (Holds r) (sym (append-nil front)) h
fold_holds (t ∷ ts) front r h = subst (Holds (fold step (step r t) ts)) (append_assoc front (t ∷ []) ts) (fold_holds ts (front ++ t ∷ []) (step r t) (step_holds r t front h))

pub read_holds : (ts : List Token) → Holds (fold step (Ready []) ts) ts
read_holds ts = fold_holds ts [] (Ready []) (record { written = []; each = tt; whole = refl; events_are = refl })

abbrev as_ok : List Event → Result (List Event) Syntax
as_ok a = Ok a

ok_same : (a b : List Event) → as_ok a ≡ as_ok b → a ≡ b
ok_same a b e = cc

err_ok : (f : Syntax) (b : List Event) → Err f ≡ Ok b → ⊥
err_ok f b e = cc

-- events that are read are those of the tokens
pub events_held : (r : Reader) (ts : List Token) (line : ℕ) (events : List Event) → Holds r ts → at_end r line ≡ Ok events → AreEventsOf ts events
events_held (Ready es) ts line events h e = subst (AreEventsOf ts) (ok_same es events e) h
events_held (Named es named text) ts line events h e = subst (AreEventsOf ts) (ok_same (es ++ alone_event named text ∷ []) events e) (alone_joins ts es named text h)
events_held (Dotted es named text) ts line events h e = absurd (err_ok _ events e)
events_held (Stopped fault) ts line events h e = absurd (err_ok fault events e)

pub are_events : (tokens : List Token) (events : List Event) → events_of tokens ≡ Ok events → AreEventsOf tokens events
unfolding events_of read
are_events tokens events e = events_held (fold step (Ready []) tokens) tokens (last_line tokens) events (read_holds tokens) e
