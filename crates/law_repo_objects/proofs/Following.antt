-- The objects of a repository follow its history.
use Rattle.commit_log.specs.Values.{writes_if, written_last}
use Rattle.law_repo_memory.specs.Agreeing.{HeldAgrees, state_of}
use Rattle.law_repo_memory.specs.Running.{recorded_with}
use Rattle.law_repo_memory.specs.Tables.{TableAgrees, undecided_request}
use Rattle.law_repo_objects.specs.Holding.{HoldsObjects}
use Rattle.log_entries.specs.declared.entry.Entry.TheVariants.{Decided, Finished, Life, One, Prepared, Upgraded}
use Rattle.log_entries.specs.declared.entry.Entry.{Entry}
use Rattle.log_entries.specs.declared.request.Request.{Request}
use Rattle.mob_flusher.specs.Map.{Has, Kept}
use Rattle.repo_core.specs.Objects.{ObjectsTake, writes_in}
use Rattle.repo_core.specs.Restarting.{ComesUp, life_behind}
use Rattle.repo_core.specs.Shown.{Shown, ShowsPages}
use Rattle.repo_durable.proofs.Readable.{told_at}
use Rattle.repo_state.specs.Entering.{loaded}
use Rattle.repo_state.specs.declared.held.Held.{Held}
use Rattle.repo_trace.specs.Recorded.{Recorded, with_entry}
use Rattle.spec_history.proofs.Growth.{state-end}
use Rattle.spec_history.specs.History.{Aborted, Base, Committed, Fate, Known, Open, State, known_in, put, settle, state}
use Rattle.std.proofs.Common.{Bool, List, None, Option, Some, [], ap, cond, false, refl, subst, sym, true, ◌++◌, ◌+◌, ◌<◌, ◌∙◌, ◌∷◌, ◌≡◌, ℕ}
use Rattle.std.specs.Option.{option_or}
use Rattle.std.specs.Ordering.{eq_by_cmp}
use Rattle.thor_value.proofs.FiniteMap.{get-insert}
use Rattle.thor_value.proofs.NameOrders.{oref_total}
use Rattle.thor_value.specs.FiniteMap.{Map, get, insert, overwrite}
use Rattle.thor_value.specs.Names.{oref_cmp}
use Rattle.thor_value.specs.declared.names.Oref.{Oref}
use Rattle.thor_value.specs.declared.names.Ts.{Ts}
use Rattle.thor_value.specs.declared.values.Obj.{Obj}

-- ---- writes

or_put : (b : Bool) (v : Obj) (g a : Option Obj) → option_or (cond b (Some v) g) a ≡ cond b (Some v) (option_or g a)
or_put true v g a = refl
or_put false v g a = refl

-- what is written last under a name stands there, and else what stood there
overwritten : (o : Oref) (m : Map oref_cmp Obj) (ws : List (Oref × Obj)) (a : Option Obj) → option_or (get (overwrite m ws) o) a ≡ written_last o (option_or (get m o) a) ws
overwritten o m [] a = refl
overwritten o m (w ∷ ws) a =
    overwritten o (insert m w.0 w.1) ws a
    ∙ ap (λ (f : Option Obj). written_last o f ws) (ap (λ (g : Option Obj). option_or g a) (get-insert oref_total m w.0 w.1 o) ∙ or_put (eq_by_cmp oref_cmp o w.0) w.1 (get m o) a)

-- ---- an entry

decided_objects : (o : Oref) (a : Option Obj) (S : State) (t : Ts) (c : Bool) (k : Option Known) → option_or (get (settle S t c k).objects o) a ≡ written_last o (option_or (get S.objects o) a) (writes_if c (undecided_request k))
decided_objects o a S t c None = refl
decided_objects o a S t c (Some k) = by c k.fate refl
  where
    by : (d : Bool) (f : Fate) → k.fate ≡ f → option_or (get (settle S t d (Some (record k { fate = f }))).objects o) a ≡ written_last o (option_or (get S.objects o) a) (writes_if d (undecided_request (Some (record k { fate = f }))))
    by true Open is = overwritten o S.objects k.request.writes a
    by false Open is = refl
    by true (Committed at) is = refl
    by false (Committed at) is = refl
    by true Aborted is = refl
    by false Aborted is = refl

put_objects : (o : Oref) (a : Option Obj) (b : Base) (S : State) (h : Held) (e : Entry) → TableAgrees b S h.table → option_or (get (put b S e).objects o) a ≡ written_last o (option_or (get S.objects o) a) (loaded h e)
put_objects o a b S h (Life n) agrees = refl
put_objects o a b S h (Prepared q) agrees = refl
put_objects o a b S h (One q) agrees = overwritten o S.objects q.writes a
put_objects o a b S h (Upgraded q) agrees = overwritten o S.objects q.writes a
put_objects o a b S h (Decided t c) agrees = decided_objects o a S t c (known_in b S t) ∙ ap (λ (r : Option Request). written_last o (option_or (get S.objects o) a) (writes_if c r)) (sym (agrees.undecided t))
put_objects o a b S h (Finished t c) agrees = decided_objects o a S t c (known_in b S t) ∙ ap (λ (r : Option Request). written_last o (option_or (get S.objects o) a) (writes_if c r)) (sym (agrees.undecided t))

-- ---- events

-- the objects take writes, and the history comes to just these
follow : (b : Base) (first : List ℕ) (opened : Kept) (x y : Shown) (ws : List (Oref × Obj)) → ShowsPages x → x.is_torn ≡ false → y.held.repo ≡ x.held.repo → ObjectsTake ws x y
    → ((o : Oref) (a : Option Obj) → option_or (get (state_of b y.trace).objects o) a ≡ written_last o (option_or (get (state_of b x.trace).objects o) a) ws) → HoldsObjects b first opened x → HoldsObjects b first opened y
follow b first opened x y ws shows whole repo takes same holds = record {
  holds = λ unbroken image is o a own fits was.
      let pages = told_at x.pages shows.pages_told in
      let here = holds.holds whole pages.0 pages.1 o a (own ∙ repo) fits was in
      subst (λ (c : Option Obj). Has image y.held.objects o c) (sym (same o a))
      (takes.moves shows unbroken pages.0 image pages.1 is o (option_or (get (state_of b x.trace).objects o) a) (own ∙ repo) fits here);
}

same_history : (b : Base) (x y : Shown) → y.trace.history ≡ x.trace.history → (o : Oref) (a : Option Obj) → option_or (get (state_of b y.trace).objects o) a ≡ option_or (get (state_of b x.trace).objects o) a
same_history b x y is o a = ap (λ (H : List Entry). option_or (get (state b H).objects o) a) is

one_more : (b : Base) (h : Held) (H : List Entry) (e : Entry) → TableAgrees b (state b H) h.table → (o : Oref) (a : Option Obj) → option_or (get (state b (H ++ e ∷ [])).objects o) a ≡ written_last o (option_or (get (state b H).objects o) a) (loaded h e)
one_more b h H e agrees o a = ap (λ (S : State). option_or (get S.objects o) a) (state-end b H e) ∙ put_objects o a b (state b H) h e agrees

pub follows-entry : (b : Base) (first : List ℕ) (opened : Kept) (x y : Shown) (e : Entry) → HeldAgrees b x.trace x.held x.memory.requested → ShowsPages x → x.is_torn ≡ false → y.held.repo ≡ x.held.repo
    → ObjectsTake (loaded x.held e) x y → y.trace.history ≡ x.trace.history ++ e ∷ [] → HoldsObjects b first opened x → HoldsObjects b first opened y
follows-entry b first opened x y e agrees shows whole repo takes is holds =
    follow b first opened x y (loaded x.held e) shows whole repo takes
    (λ o a. ap (λ (H : List Entry). option_or (get (state b H).objects o) a) is ∙ one_more b x.held x.trace.history e agrees.table o a) holds

pub stays : (b : Base) (first : List ℕ) (opened : Kept) (x y : Shown) → ShowsPages x → x.is_torn ≡ false → y.held.repo ≡ x.held.repo → ObjectsTake [] x y → y.trace.history ≡ x.trace.history → HoldsObjects b first opened x → HoldsObjects b first opened y
stays b first opened x y shows whole repo takes is holds = follow b first opened x y [] shows whole repo takes (same_history b x y is) holds

-- ---- a restart

life_objects : (b : Base) (H : List Entry) (n : ℕ) (o : Oref) (a : Option Obj) → option_or (get (state b (H ++ (Life n) ∷ [])).objects o) a ≡ option_or (get (state b H).objects o) a
life_objects b H n o a = ap (λ (S : State). option_or (get S.objects o) a) (state-end b H (Life n))

taken_objects : (b : Base) (h : Held) (r : Recorded) (taken : Option Entry) → TableAgrees b (state b r.history) h.table → (o : Oref) (a : Option Obj) → option_or (get (state b (recorded_with r taken).history).objects o) a ≡ written_last o (option_or (get (state b r.history).objects o) a) (writes_in h taken)
taken_objects b h r None agrees o a = refl
taken_objects b h r (Some e) agrees o a = one_more b h r.history e agrees o a

pub restarts : (b : Base) (first : List ℕ) (opened : Kept) (x y : Shown) → HeldAgrees b x.trace x.held x.memory.requested → ShowsPages x → x.is_torn ≡ false → y.held.repo ≡ x.held.repo → ComesUp x y → HoldsObjects b first opened x → HoldsObjects b first opened y
restarts b first opened x y agrees shows whole repo up holds =
    let takes = up.recovers.takes in
    let before : up.between.trace ≡ recorded_with x.trace takes.taken = up.recovers.trace ∙ takes.trace in
    let is : y.trace ≡ with_entry (recorded_with x.trace takes.taken) (life_behind up.between) = up.trace ∙ ap (λ (r : Recorded). with_entry r (life_behind up.between)) before in
    follow b first opened x y (writes_in x.held takes.taken) shows whole repo up.objects
    (λ o a. ap (λ (r : Recorded). option_or (get (state b r.history).objects o) a) is
    ∙ (life_objects b (recorded_with x.trace takes.taken).history (up.between.held.life + 1) o a ∙ taken_objects b x.held x.trace takes.taken agrees.table o a)) holds
