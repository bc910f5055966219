-- Where the tokens are no script, the fault is at the first of them that no script goes on with.
use Rattle.std.proofs.Common.{◌≡◌, ℕ, ◌+◌, ◌≤◌, true, false, List, [], ◌∷◌, ◌++◌, length, Option, Some, None, refl, sym, ap, ◌∙◌, subst, inl, inr, arith, append_assoc, length-append}
use Rattle.std.specs.Prelude.{fold}
use Rattle.std.specs.List.{flat_map}
use Rattle.std.proofs.lemmas.List.{length-map}
use Rattle.std.proofs.lemmas.List.Sums.{fold-append}
use Rattle.script_text.specs.declared.token.Token.{Token}
use Rattle.script_text.specs.declared.syntax.Syntax.{Syntax}
use Rattle.script_text.specs.declared.sections.Sections.{Sections}
use Rattle.script_text.specs.declared.reader.Found.{Found}
use Rattle.script_text.specs.declared.reader.Reader.{Reader}
use Rattle.script_text.specs.declared.reader.Reader.TheVariants.{Start, Setup, Number, Client, Word, Item, Schedule, Stopped}
use Rattle.script_text.specs.Marks.{max_number}
use Rattle.script_text.specs.Sections.{so_far, step, fault_at_end, last_line, read, split_of}
use Rattle.script_text.specs.Script.{Written, opening_tokens, client_tokens, ArePartsOf, Begin, StopAt, EndShort, IsFirstFault}
use Rattle.script_text.proofs.Scripts.{parts_read}
use Rattle.script_text.proofs.Completions.{Countable, completes}
use Rattle.script_text.proofs.Held.{AtNumber, Holds, read_holds, parts_held}
use Rattle.script_text.proofs.FaultLines.{IsHere, IsLive, step_line}

-- each client has a token
clients_within : (cs : List Written) → length cs ≤ length (flat_map client_tokens cs)
clients_within [] = omega arith
clients_within (c ∷ cs) = omega (arith, clients_within cs, length-append (client_tokens c) (flat_map client_tokens cs))

number_countable : (f : Found) (ts : List Token) → length ts ≤ max_number → AtNumber f ts → length f.clients + 1 ≤ max_number
number_countable f ts short h =
    let b = h.before in
    let count : length f.clients ≡ length b.clients = ap length b.clients_are ∙ length-map b.clients (λ client. client.items) in
    let front : length (opening_tokens b.opening ++ flat_map client_tokens b.clients) ≡ length h.front = ap length b.whole in
    let all : length (h.front ++ h.word ∷ []) ≡ length ts = ap length h.whole in
    omega (arith, count, front, all, clients_within b.clients, length-append (opening_tokens b.opening) (flat_map client_tokens b.clients), length-append h.front (h.word ∷ []), short)

countable : (r : Reader) (ts : List Token) → length ts ≤ max_number → Holds r ts → IsLive r → Countable r
countable Start ts short h live = tt
countable (Setup part depth closed) ts short h live = tt
countable (Number f) ts short h live = number_countable f ts short h
countable (Client cur) ts short h live = tt
countable (Word cur part) ts short h live = tt
countable (Item cur part depth) ts short h live = tt
countable (Schedule f tokens) ts short h live = tt
countable (Stopped sections fault) ts short h live = absurd live

-- a script begins with tokens that could stand
begins : (ts : List Token) → length ts ≤ max_number → IsLive (fold step Start ts) → Begin ts
begins ts short live =
    let r : Reader = fold step Start ts in
    let more = completes r (countable r ts short (read_holds ts) live) in
    let all : fold step Start (ts ++ more.more) ≡ fold step r more.more = fold-append step Start ts more.more in
    record {
      more = more.more;
      parts = so_far (fold step Start (ts ++ more.more));
      is = parts_held (fold step Start (ts ++ more.more)) (ts ++ more.more) 0 (read_holds (ts ++ more.more)) (ap (λ s. fault_at_end s 0) all ∙ more.ends 0);
    }

-- after a token that couldn't stand nothing changes
stays : (ts : List Token) (s : Sections) (f : Syntax) → fold step (Stopped s f) ts ≡ Stopped s f
unfolding step
stays [] s f = refl
stays (t ∷ ts) s f = stays ts s f

some_none : {A : Type 0} (x : A) → Some x ≡ None → ⊥
some_none x e = cc

-- what has parts was read without a fault
read_whole : (ts : List Token) (parts : Sections) → ArePartsOf ts parts → fault_at_end (fold step Start ts) (last_line ts) ≡ None
unfolding split_of read
read_whole ts parts are = ap (λ split. split.fault) (parts_read ts parts are)

not_stopped : (front : List Token) (t : Token) (s : Sections) (f : Syntax) → step (fold step Start front) t ≡ Stopped s f
    → (more : List Token) (parts : Sections) → ArePartsOf (front ++ t ∷ more) parts → ⊥
not_stopped front t s f stops more parts are =
    let all : fold step Start (front ++ t ∷ more) ≡ Stopped s f = fold-append step Start front (t ∷ more) ∙ ap (λ r. fold step r more) stops ∙ stays more s f in
    some_none f (sym (ap (λ r. fault_at_end r (last_line (front ++ t ∷ more))) all) ∙ read_whole (front ++ t ∷ more) parts are)

some_same : (f g : Syntax) → Some f ≡ Some g → f ≡ g
some_same f g e = cc

abbrev record_of : ℕ → Syntax
record_of line = record { line = line }

stopped_same : (s u : Sections) (f g : Syntax) → Stopped s f ≡ Stopped u g → f ≡ g
stopped_same s u f g e = cc

-- the first token that can't stand
stop_here : (front rest : List Token) (t : Token) (s : Sections) (f : Syntax) → length front ≤ max_number → IsLive (fold step Start front)
    → step (fold step Start front) t ≡ Stopped s f → StopAt (front ++ t ∷ rest) f
stop_here front rest t s f short live stops =
    record {
      front = front;
      token = t;
      behind = rest;
      whole = refl;
      begin = begins front short live;
      none = not_stopped front t s f stops;
      line = subst (λ r. IsHere r t) stops (step_line (fold step Start front) t live);
    }

stop_next : (r : Reader) (front rest : List Token) (t : Token) (s : Sections) (f : Syntax) → length front ≤ max_number → IsLive (fold step Start front)
    → step (fold step Start front) t ≡ r → fold step r rest ≡ Stopped s f
    → (IsLive (fold step Start (front ++ t ∷ [])) → StopAt ((front ++ t ∷ []) ++ rest) f) → StopAt (front ++ t ∷ rest) f
stop_next (Stopped u g) front rest t s f short live is end further =
    let same : g ≡ f = stopped_same u s g f (sym (stays rest u g) ∙ end) in
    subst (StopAt (front ++ t ∷ rest)) same (stop_here front rest t u g short live is)
stop_next Start front rest t s f short live is end further = subst (λ l. StopAt l f) (append_assoc front (t ∷ []) rest) (further (subst IsLive (sym (fold-append step Start front (t ∷ []) ∙ is)) tt))
stop_next (Setup part d c) front rest t s f short live is end further = subst (λ l. StopAt l f) (append_assoc front (t ∷ []) rest) (further (subst IsLive (sym (fold-append step Start front (t ∷ []) ∙ is)) tt))
stop_next (Number g) front rest t s f short live is end further = subst (λ l. StopAt l f) (append_assoc front (t ∷ []) rest) (further (subst IsLive (sym (fold-append step Start front (t ∷ []) ∙ is)) tt))
stop_next (Client cur) front rest t s f short live is end further = subst (λ l. StopAt l f) (append_assoc front (t ∷ []) rest) (further (subst IsLive (sym (fold-append step Start front (t ∷ []) ∙ is)) tt))
stop_next (Word cur part) front rest t s f short live is end further = subst (λ l. StopAt l f) (append_assoc front (t ∷ []) rest) (further (subst IsLive (sym (fold-append step Start front (t ∷ []) ∙ is)) tt))
stop_next (Item cur part d) front rest t s f short live is end further = subst (λ l. StopAt l f) (append_assoc front (t ∷ []) rest) (further (subst IsLive (sym (fold-append step Start front (t ∷ []) ∙ is)) tt))
stop_next (Schedule g tokens) front rest t s f short live is end further = subst (λ l. StopAt l f) (append_assoc front (t ∷ []) rest) (further (subst IsLive (sym (fold-append step Start front (t ∷ []) ∙ is)) tt))

stop_at : (rest front : List Token) (s : Sections) (f : Syntax) → length (front ++ rest) ≤ max_number → IsLive (fold step Start front)
    → fold step (fold step Start front) rest ≡ Stopped s f → StopAt (front ++ rest) f
stop_at [] front s f short live end = absurd (subst IsLive end live)
stop_at (t ∷ rest) front s f short live end =
    let within : length front ≤ max_number = omega (arith, short, length-append front (t ∷ rest)) in
    let same : (front ++ t ∷ []) ++ rest ≡ front ++ t ∷ rest = append_assoc front (t ∷ []) rest in
    let longer : length ((front ++ t ∷ []) ++ rest) ≤ max_number = omega (arith, short, ap length same) in
    stop_next (step (fold step Start front) t) front rest t s f within live refl end
    (λ alive. stop_at rest (front ++ t ∷ []) s f longer alive (ap (λ r. fold step r rest) (fold-append step Start front (t ∷ [])) ∙ end))

-- where the tokens end too early
end_line : (r : Reader) (line : ℕ) (f : Syntax) → IsLive r → fault_at_end r line ≡ Some f → f.line ≡ line
end_line Start line f live e = absurd (some_none f (sym e))
end_line (Setup part d true) line f live e = absurd (some_none f (sym e))
end_line (Setup part d false) line f live e = let s : record_of line ≡ f = cc in ap (λ x. x.line) (sym s)
end_line (Number g) line f live e = let s : record_of line ≡ f = cc in ap (λ x. x.line) (sym s)
end_line (Client cur) line f live e = absurd (some_none f (sym e))
end_line (Word cur part) line f live e = let s : record_of line ≡ f = cc in ap (λ x. x.line) (sym s)
end_line (Item cur part d) line f live e = let s : record_of line ≡ f = cc in ap (λ x. x.line) (sym s)
end_line (Schedule g tokens) line f live e = absurd (some_none f (sym e))
end_line (Stopped s g) line f live e = absurd live

end_short : (ts : List Token) (f : Syntax) → length ts ≤ max_number → IsLive (fold step Start ts) → fault_at_end (fold step Start ts) (last_line ts) ≡ Some f → EndShort ts f
end_short ts f short live e =
    record {
      begin = begins ts short live;
      none = λ parts are. some_none f (sym e ∙ read_whole ts parts are);
      line = end_line (fold step Start ts) (last_line ts) f live e;
    }

fault_by : (r : Reader) (ts : List Token) (f : Syntax) → length ts ≤ max_number → fold step Start ts ≡ r → fault_at_end r (last_line ts) ≡ Some f → IsFirstFault ts f
fault_by (Stopped s g) ts f short is e =
    let same : g ≡ f = some_same g f e in
    inl (stop_at ts [] s f short tt (is ∙ ap (Stopped s) same))
fault_by Start ts f short is e = inr (end_short ts f short (subst IsLive (sym is) tt) (ap (λ r. fault_at_end r (last_line ts)) is ∙ e))
fault_by (Setup part d c) ts f short is e = inr (end_short ts f short (subst IsLive (sym is) tt) (ap (λ r. fault_at_end r (last_line ts)) is ∙ e))
fault_by (Number g) ts f short is e = inr (end_short ts f short (subst IsLive (sym is) tt) (ap (λ r. fault_at_end r (last_line ts)) is ∙ e))
fault_by (Client cur) ts f short is e = inr (end_short ts f short (subst IsLive (sym is) tt) (ap (λ r. fault_at_end r (last_line ts)) is ∙ e))
fault_by (Word cur part) ts f short is e = inr (end_short ts f short (subst IsLive (sym is) tt) (ap (λ r. fault_at_end r (last_line ts)) is ∙ e))
fault_by (Item cur part d) ts f short is e = inr (end_short ts f short (subst IsLive (sym is) tt) (ap (λ r. fault_at_end r (last_line ts)) is ∙ e))
fault_by (Schedule g tokens) ts f short is e = inr (end_short ts f short (subst IsLive (sym is) tt) (ap (λ r. fault_at_end r (last_line ts)) is ∙ e))

-- the fault that is read is where the tokens can't go on
pub first_fault : (ts : List Token) (f : Syntax) → length ts ≤ max_number → (split_of ts).fault ≡ Some f → IsFirstFault ts f
unfolding split_of read
first_fault ts f short e = fault_by (fold step Start ts) ts f short refl e

-- what a script begins with could stand
begin_live : (r : Reader) (ts : List Token) → Begin ts → fold step Start ts ≡ r → IsLive r
begin_live Start ts b is = tt
begin_live (Setup part d c) ts b is = tt
begin_live (Number g) ts b is = tt
begin_live (Client cur) ts b is = tt
begin_live (Word cur part) ts b is = tt
begin_live (Item cur part d) ts b is = tt
begin_live (Schedule g tokens) ts b is = tt
begin_live (Stopped s f) ts b is =
    let all : fold step Start (ts ++ b.more) ≡ Stopped s f = fold-append step Start ts b.more ∙ ap (λ r. fold step r b.more) is ∙ stays b.more s f in
    some_none f (sym (ap (λ r. fault_at_end r (last_line (ts ++ b.more))) all) ∙ read_whole (ts ++ b.more) b.parts b.is)

same_line : (f g : Syntax) → f.line ≡ g.line → f ≡ g
same_line f g e = ap record_of e

-- a token that could stand goes on a script
goes_on : (r : Reader) (ts : List Token) (f : Syntax) (s : StopAt ts f) → length ts ≤ max_number → step (fold step Start s.front) s.token ≡ r → IsLive r → ⊥
goes_on r ts f s short is live =
    let front : List Token = s.front ++ s.token ∷ [] in
    let all : length (s.front ++ s.token ∷ s.behind) ≡ length ts = ap length s.whole in
    let within : length front ≤ max_number = omega (arith, short, all, length-append s.front (s.token ∷ []), length-append s.front (s.token ∷ s.behind)) in
    let alive : IsLive (fold step Start front) = subst IsLive (sym (fold-append step Start s.front (s.token ∷ []) ∙ is)) live in
    let b = begins front within alive in
    s.none b.more b.parts (subst (λ l. ArePartsOf l b.parts) (append_assoc s.front (s.token ∷ []) b.more) b.is)

stop_by : (r : Reader) (ts : List Token) (f : Syntax) (s : StopAt ts f) → length ts ≤ max_number → step (fold step Start s.front) s.token ≡ r → fault_at_end (fold step Start ts) (last_line ts) ≡ Some f
stop_by (Stopped u g) ts f s short is =
    let live = begin_live (fold step Start s.front) s.front s.begin refl in
    let line : g.line ≡ s.token.line = subst (λ r. IsHere r s.token) is (step_line (fold step Start s.front) s.token live) in
    let all : fold step Start ts ≡ Stopped u g = ap (fold step Start) (sym s.whole) ∙ fold-append step Start s.front (s.token ∷ s.behind) ∙ ap (λ r. fold step r s.behind) is ∙ stays s.behind u g in
    ap (λ r. fault_at_end r (last_line ts)) all ∙ ap Some (same_line g f (line ∙ sym s.line))
stop_by Start ts f s short is = absurd (goes_on Start ts f s short is tt)
stop_by (Setup part d c) ts f s short is = absurd (goes_on (Setup part d c) ts f s short is tt)
stop_by (Number g) ts f s short is = absurd (goes_on (Number g) ts f s short is tt)
stop_by (Client cur) ts f s short is = absurd (goes_on (Client cur) ts f s short is tt)
stop_by (Word cur part) ts f s short is = absurd (goes_on (Word cur part) ts f s short is tt)
stop_by (Item cur part d) ts f s short is = absurd (goes_on (Item cur part d) ts f s short is tt)
stop_by (Schedule g tokens) ts f s short is = absurd (goes_on (Schedule g tokens) ts f s short is tt)

end_by : (o : Option Syntax) (ts : List Token) (f : Syntax) → EndShort ts f → fault_at_end (fold step Start ts) (last_line ts) ≡ o → o ≡ Some f
end_by None ts f s is = absurd (s.none (so_far (fold step Start ts)) (parts_held (fold step Start ts) ts (last_line ts) (read_holds ts) is))
end_by (Some g) ts f s is =
    let live = begin_live (fold step Start ts) ts s.begin refl in
    ap Some (same_line g f (end_line (fold step Start ts) (last_line ts) g live is ∙ sym s.line))

-- where the tokens can't go on is the fault that is read
pub only_first_fault : (ts : List Token) (f : Syntax) → length ts ≤ max_number → IsFirstFault ts f → (split_of ts).fault ≡ Some f
unfolding split_of read
only_first_fault ts f short (inl s) = stop_by (step (fold step Start s.front) s.token) ts f s short refl
only_first_fault ts f short (inr s) = end_by (fault_at_end (fold step Start ts) (last_line ts)) ts f s refl
