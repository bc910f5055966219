-- Where the tokens are no schedule, the fault is at the first of them that no schedule goes on with.
use Rattle.std.proofs.Common.{◌≡◌, ℕ, List, [], ◌∷◌, ◌++◌, Result, Ok, Err, refl, sym, ap, ◌∙◌, subst, inl, inr, append_assoc}
use Rattle.std.specs.Prelude.{fold, codes}
use Rattle.std.proofs.lemmas.List.Sums.{fold-append}
use Rattle.script_text.specs.declared.token.Token.{Token}
use Rattle.script_text.specs.declared.token.TokenKind.TheVariants as kinds
use Rattle.script_text.specs.declared.syntax.Syntax.{Syntax}
use Rattle.script_text.specs.Sections.{last_line}
use Rattle.schedule.specs.declared.events.Event.{Event}
use Rattle.schedule.specs.declared.reader.Reader.{Reader}
use Rattle.schedule.specs.declared.reader.Reader.TheVariants.{Ready, Named, Dotted, Stopped}
use Rattle.schedule.specs.Schedule.{Mark, IsName, IsPoint, IsNumber, IsOther, mark_of, alone_event, pair_event, ready_step, named_step, dotted_step, step, at_end, read, events_of}
use Rattle.schedule.specs.Written.{AreEventsOf, Begin, StopAt, EndShort, IsFirstFault}
use Rattle.schedule.proofs.Schedules.{events_read, read_holds, events_held}

-- a fault is at the token
abbrev IsHere : Reader → Token → Type 0
IsHere (Ready events) token = Unit {0}
IsHere (Named events line text) token = Unit {0}
IsHere (Dotted events line text) token = Unit {0}
IsHere (Stopped fault) token = fault.line ≡ token.line

-- it isn't one
abbrev IsLive : Reader → Type 0
IsLive (Ready events) = Unit {0}
IsLive (Named events line text) = Unit {0}
IsLive (Dotted events line text) = Unit {0}
IsLive (Stopped fault) = ⊥

ready_line : (m : Mark) (events : List Event) (t : Token) → IsHere (ready_step m events t) t
ready_line IsName events t = tt
ready_line IsPoint events t = refl
ready_line IsNumber events t = refl
ready_line IsOther events t = refl

named_line : (m : Mark) (events : List Event) (line : ℕ) (text : List ℕ) (t : Token) → IsHere (named_step m events line text t) t
named_line IsName events line text t = tt
named_line IsPoint events line text t = tt
named_line IsNumber events line text t = refl
named_line IsOther events line text t = refl

dotted_line : (m : Mark) (events : List Event) (line : ℕ) (text : List ℕ) (t : Token) → IsHere (dotted_step m events line text t) t
dotted_line IsNumber events line text t = tt
dotted_line IsName events line text t = refl
dotted_line IsPoint events line text t = refl
dotted_line IsOther events line text t = refl

step_line : (r : Reader) (t : Token) → IsLive r → IsHere (step r t) t
unfolding step
step_line (Ready events) t live = ready_line (mark_of t) events t
step_line (Named events line text) t live = named_line (mark_of t) events line text t
step_line (Dotted events line text) t live = dotted_line (mark_of t) events line text t
step_line (Stopped fault) t live = absurd live

-- with some tokens more, the tokens may end
record Completes (r : Reader) : Type 0 where
  more : List Token
  events : List Event
  ends : at_end (fold step r more) 0 ≡ Ok events

abbrev zero_token : Token
zero_token = record { kind = kinds.Number; text = codes "0"; line = 0; from = 0; to = 0 }

completes : (r : Reader) → IsLive r → Completes r
unfolding step mark_of
completes (Ready events) live = record { more = []; events = events; ends = refl }
completes (Named events line text) live = record { more = []; events = events ++ alone_event line text ∷ []; ends = refl }
completes (Dotted events line text) live = record { more = zero_token ∷ []; events = events ++ pair_event line text (codes "0") ∷ []; ends = refl }
completes (Stopped fault) live = absurd live

-- a schedule begins with tokens that could stand
begins : (ts : List Token) → IsLive (fold step (Ready []) ts) → Begin ts
begins ts live =
    let r : Reader = fold step (Ready []) ts in
    let more = completes r live in
    let all : fold step (Ready []) (ts ++ more.more) ≡ fold step r more.more = fold-append step (Ready []) ts more.more in
    record {
      more = more.more;
      events = more.events;
      is = events_held (fold step (Ready []) (ts ++ more.more)) (ts ++ more.more) 0 more.events (read_holds (ts ++ more.more)) (ap (λ s. at_end s 0) all ∙ more.ends);
    }

stays : (ts : List Token) (f : Syntax) → fold step (Stopped f) ts ≡ Stopped f
unfolding step
stays [] f = refl
stays (t ∷ ts) f = stays ts f

err_ok : (f : Syntax) (b : List Event) → Err f ≡ Ok b → ⊥
err_ok f b e = cc

abbrev as_err : Syntax → Result (List Event) Syntax
as_err f = Err f

err_same : (f g : Syntax) → as_err f ≡ as_err g → f ≡ g
err_same f g e = cc

stopped_same : (f g : Syntax) → Stopped f ≡ Stopped g → f ≡ g
stopped_same f g e = cc

read_whole : (ts : List Token) (events : List Event) → AreEventsOf ts events → at_end (fold step (Ready []) ts) (last_line ts) ≡ Ok events
unfolding events_of read
read_whole ts events are = events_read ts events are

not_stopped : (front : List Token) (t : Token) (f : Syntax) → step (fold step (Ready []) front) t ≡ Stopped f
    → (more : List Token) (events : List Event) → AreEventsOf (front ++ t ∷ more) events → ⊥
not_stopped front t f stops more events are =
    let all : fold step (Ready []) (front ++ t ∷ more) ≡ Stopped f = fold-append step (Ready []) front (t ∷ more) ∙ ap (λ r. fold step r more) stops ∙ stays more f in
    err_ok f events (sym (ap (λ r. at_end r (last_line (front ++ t ∷ more))) all) ∙ read_whole (front ++ t ∷ more) events are)

stop_here : (front rest : List Token) (t : Token) (f : Syntax) → IsLive (fold step (Ready []) front) → step (fold step (Ready []) front) t ≡ Stopped f → StopAt (front ++ t ∷ rest) f
stop_here front rest t f live stops =
    record {
      front = front;
      token = t;
      behind = rest;
      whole = refl;
      begin = begins front live;
      none = not_stopped front t f stops;
      line = subst (λ r. IsHere r t) stops (step_line (fold step (Ready []) front) t live);
    }

stop_next : (r : Reader) (front rest : List Token) (t : Token) (f : Syntax) → IsLive (fold step (Ready []) front)
    → step (fold step (Ready []) front) t ≡ r → fold step r rest ≡ Stopped f
    → (IsLive (fold step (Ready []) (front ++ t ∷ [])) → StopAt ((front ++ t ∷ []) ++ rest) f) → StopAt (front ++ t ∷ rest) f
stop_next (Stopped g) front rest t f live is end further =
    let same : g ≡ f = stopped_same g f (sym (stays rest g) ∙ end) in
    subst (StopAt (front ++ t ∷ rest)) same (stop_here front rest t g live is)
stop_next (Ready es) front rest t f live is end further = subst (λ l. StopAt l f) (append_assoc front (t ∷ []) rest) (further (subst IsLive (sym (fold-append step (Ready []) front (t ∷ []) ∙ is)) tt))
stop_next (Named es l x) front rest t f live is end further = subst (λ l. StopAt l f) (append_assoc front (t ∷ []) rest) (further (subst IsLive (sym (fold-append step (Ready []) front (t ∷ []) ∙ is)) tt))
stop_next (Dotted es l x) front rest t f live is end further = subst (λ l. StopAt l f) (append_assoc front (t ∷ []) rest) (further (subst IsLive (sym (fold-append step (Ready []) front (t ∷ []) ∙ is)) tt))

stop_at : (rest front : List Token) (f : Syntax) → IsLive (fold step (Ready []) front) → fold step (fold step (Ready []) front) rest ≡ Stopped f → StopAt (front ++ rest) f
stop_at [] front f live end = absurd (subst IsLive end live)
stop_at (t ∷ rest) front f live end =
    stop_next (step (fold step (Ready []) front) t) front rest t f live refl end
    (λ alive. stop_at rest (front ++ t ∷ []) f alive (ap (λ r. fold step r rest) (fold-append step (Ready []) front (t ∷ [])) ∙ end))

abbrev on_line : ℕ → Syntax
on_line line = record { line = line }

ok_err : (f : Syntax) (b : List Event) → Ok b ≡ Err f → ⊥
ok_err f b e = cc

end_line : (r : Reader) (line : ℕ) (f : Syntax) → IsLive r → at_end r line ≡ Err f → f.line ≡ line
end_line (Ready es) line f live e = absurd (ok_err f es e)
end_line (Named es l x) line f live e = absurd (ok_err f _ e)
end_line (Dotted es l x) line f live e = ap (λ s. s.line) (sym (err_same (on_line line) f e))
end_line (Stopped g) line f live e = absurd live

end_short : (ts : List Token) (f : Syntax) → IsLive (fold step (Ready []) ts) → at_end (fold step (Ready []) ts) (last_line ts) ≡ Err f → EndShort ts f
end_short ts f live e =
    record {
      begin = begins ts live;
      none = λ events are. err_ok f events (sym e ∙ read_whole ts events are);
      line = end_line (fold step (Ready []) ts) (last_line ts) f live e;
    }

fault_by : (r : Reader) (ts : List Token) (f : Syntax) → fold step (Ready []) ts ≡ r → at_end r (last_line ts) ≡ Err f → IsFirstFault ts f
fault_by (Stopped g) ts f is e = inl (stop_at ts [] f tt (is ∙ ap Stopped (err_same g f e)))
fault_by (Ready es) ts f is e = inr (end_short ts f (subst IsLive (sym is) tt) (ap (λ r. at_end r (last_line ts)) is ∙ e))
fault_by (Named es l x) ts f is e = inr (end_short ts f (subst IsLive (sym is) tt) (ap (λ r. at_end r (last_line ts)) is ∙ e))
fault_by (Dotted es l x) ts f is e = inr (end_short ts f (subst IsLive (sym is) tt) (ap (λ r. at_end r (last_line ts)) is ∙ e))

-- the fault that is read is where the tokens can't go on
pub first_fault : (ts : List Token) (f : Syntax) → events_of ts ≡ Err f → IsFirstFault ts f
unfolding events_of read
first_fault ts f e = fault_by (fold step (Ready []) ts) ts f refl e

begin_live : (r : Reader) (ts : List Token) → Begin ts → fold step (Ready []) ts ≡ r → IsLive r
begin_live (Ready es) ts b is = tt
begin_live (Named es l x) ts b is = tt
begin_live (Dotted es l x) ts b is = tt
begin_live (Stopped f) ts b is =
    let all : fold step (Ready []) (ts ++ b.more) ≡ Stopped f = fold-append step (Ready []) ts b.more ∙ ap (λ r. fold step r b.more) is ∙ stays b.more f in
    err_ok f b.events (sym (ap (λ r. at_end r (last_line (ts ++ b.more))) all) ∙ read_whole (ts ++ b.more) b.events b.is)

same_line : (f g : Syntax) → f.line ≡ g.line → f ≡ g
same_line f g e = ap on_line e

goes_on : (r : Reader) (ts : List Token) (f : Syntax) (s : StopAt ts f) → step (fold step (Ready []) s.front) s.token ≡ r → IsLive r → ⊥
goes_on r ts f s is live =
    let front : List Token = s.front ++ s.token ∷ [] in
    let alive : IsLive (fold step (Ready []) front) = subst IsLive (sym (fold-append step (Ready []) s.front (s.token ∷ []) ∙ is)) live in
    let b = begins front alive in
    s.none b.more b.events (subst (λ l. AreEventsOf l b.events) (append_assoc s.front (s.token ∷ []) b.more) b.is)

stop_by : (r : Reader) (ts : List Token) (f : Syntax) (s : StopAt ts f) → step (fold step (Ready []) s.front) s.token ≡ r → at_end (fold step (Ready []) ts) (last_line ts) ≡ Err f
stop_by (Stopped g) ts f s is =
    let live = begin_live (fold step (Ready []) s.front) s.front s.begin refl in
    let line : g.line ≡ s.token.line = subst (λ r. IsHere r s.token) is (step_line (fold step (Ready []) s.front) s.token live) in
    let all : fold step (Ready []) ts ≡ Stopped g = ap (fold step (Ready [])) (sym s.whole) ∙ fold-append step (Ready []) s.front (s.token ∷ s.behind) ∙ ap (λ r. fold step r s.behind) is ∙ stays s.behind g in
    ap (λ r. at_end r (last_line ts)) all ∙ ap Err (same_line g f (line ∙ sym s.line))
stop_by (Ready es) ts f s is = absurd (goes_on (Ready es) ts f s is tt)
stop_by (Named es l x) ts f s is = absurd (goes_on (Named es l x) ts f s is tt)
stop_by (Dotted es l x) ts f s is = absurd (goes_on (Dotted es l x) ts f s is tt)

end_by : (o : Result (List Event) Syntax) (ts : List Token) (f : Syntax) → EndShort ts f → at_end (fold step (Ready []) ts) (last_line ts) ≡ o → o ≡ Err f
end_by (Ok events) ts f s is = absurd (s.none events (events_held (fold step (Ready []) ts) ts (last_line ts) events (read_holds ts) is))
end_by (Err g) ts f s is =
    let live = begin_live (fold step (Ready []) ts) ts s.begin refl in
    ap Err (same_line g f (end_line (fold step (Ready []) ts) (last_line ts) g live is ∙ sym s.line))

-- where the tokens can't go on is the fault that is read
pub only_first_fault : (ts : List Token) (f : Syntax) → IsFirstFault ts f → events_of ts ≡ Err f
unfolding events_of read
only_first_fault ts f (inl s) = stop_by (step (fold step (Ready []) s.front) s.token) ts f s refl
only_first_fault ts f (inr s) = end_by (at_end (fold step (Ready []) ts) (last_line ts)) ts f s refl
