-- What a client knows and has of its session stays while it takes no message, and so do its copies.
use Rattle.log_entries.specs.declared.entry.Entry.{Entry}
use Rattle.log_entries.specs.declared.request.Request.{Request}
use Rattle.spec_history.proofs.Growth.{length-state, objects_at-append}
use Rattle.spec_history.proofs.Listed.{commits-end}
use Rattle.spec_trace.proofs.Before.{before-moved, no-taking}
use Rattle.spec_trace.proofs.Sessions.{session-end}
use Rattle.spec_trace.proofs.Traces.{entries-append}
use Rattle.spec_trace.specs.Current.{InStep, IsBefore, OthersSince, OthersWrite, RightAt, commits_in, is_taking}
use Rattle.spec_history.specs.History.{Base, State, commit_of, commits, state, writers}
use Rattle.spec_history.specs.Requests.{has_written}
use Rattle.spec_trace.specs.Session.{Notice, Session, acked_after, begun, bound, cache, is_silent, meet, move, moved, notice, or_retired, pages_after, push, rested, retired, session, session_lives, taken_after, upto_of}
use Rattle.spec_trace.specs.Trace.{E, Item, M, entries}
use Rattle.spec_trace.specs.declared.mark.Mark.TheVariants as the
use Rattle.std.proofs.Common.{Bool, List, [], ap, arith, cond, false, length, refl, subst, sym, take, true, ℕ, ◌+◌, ◌++◌, ◌≡◌, ◌≤◌, ◌∙◌, ◌∷◌}
use Rattle.std.proofs.lemmas.List.Elements.{All-append, All-cons, All-nil, All-tail, filter-append}
use Rattle.std.proofs.lemmas.List.{append-nil, length-append, take-append-le}
use Rattle.std.proofs.lemmas.Map.Lookups.{exact_unsigned}
use Rattle.std.specs.Cmp.{nat_cmp_total}
use Rattle.std.specs.List.{filter, fold}
use Rattle.std.specs.Option.{IsSomeAnd, is_some}
use Rattle.std.specs.Ordering.{eq_by_cmp, is_eq, nat_cmp}
use Rattle.std.specs.Prelude.{None, Option, Some, nat_eq}
use Rattle.std.specs.declared.cmp.Ordering.TheVariants.{Equal, Greater, Less}
use Rattle.std.specs.declared.cmp.Ordering.{Ordering}
use Rattle.thor_value.proofs.FiniteMap.{get-insert}
use Rattle.thor_value.specs.FiniteMap.{Map, get, has, insert}
use Rattle.thor_value.specs.Names.{oref_cmp}
use Rattle.thor_value.specs.declared.names.Oref.{Oref}
use Rattle.thor_value.specs.declared.values.Obj.{Obj}

-- ---- the pages

-- what m has, n has
abbrev pub Extends : Map nat_cmp ℕ → Map nat_cmp ℕ → Type 0
Extends m n = (p c : ℕ) → get m p ≡ Some c → get n p ≡ Some c

equal : (r : Ordering) → is_eq r ≡ true → r ≡ Equal
equal Equal h = refl
equal Less h = cc
equal Greater h = cc

pub cache-extends : (pages : Map nat_cmp ℕ) (page k : ℕ) → Extends pages (cache pages page k)
cache-extends pages page k p c is = by (has pages page) refl
  where
    there : (o : Option ℕ) → is_some o ≡ false → o ≡ Some c → get (insert pages page k) p ≡ Some c
    there None f e = cc
    there (Some n) f e = cc

    put : (t : Bool) → eq_by_cmp nat_cmp p page ≡ t → has pages page ≡ false → get (insert pages page k) p ≡ Some c
    put true e h = let same : p ≡ page = exact_unsigned p page (equal (nat_cmp p page) e) in there (get pages page) h (ap (get pages) (sym same) ∙ is)
    put false e h = get-insert nat_cmp_total pages page k p ∙ ap (λ (t : Bool). cond t (Some k) (get pages p)) e ∙ is

    by : (t : Bool) → has pages page ≡ t → get (cond t pages (insert pages page k)) p ≡ Some c
    by true h = is
    by false h = put (eq_by_cmp nat_cmp p page) refl h

cached-extends : (own : Bool) (pages : Map nat_cmp ℕ) (page k : ℕ) → Extends pages (cond own (cache pages page k) pages)
cached-extends true pages page k = cache-extends pages page k
cached-extends false pages page k = λ p c is. is

pub pages-extend : (s : ℕ) (S : State) (pages : Map nat_cmp ℕ) (i : Item) → Extends pages (pages_after s S pages i)
pages-extend s S pages (E e) p c is = is
pages-extend s S pages (M (the.Fetched n page upto)) p c is = cached-extends (nat_eq n s) pages page S.length p c is
pages-extend s S pages (M (the.Granted n page)) p c is = cached-extends (nat_eq n s) pages page S.length p c is
pages-extend s S pages (M (the.Connected n d)) p c is = is
pages-extend s S pages (M (the.Took n k)) p c is = is
pages-extend s S pages (M (the.Drew n t)) p c is = is
pages-extend s S pages (M (the.Forgot t)) p c is = is
pages-extend s S pages (M (the.Refused n q r)) p c is = is

-- ---- what the client knows

take-push : (n : ℕ) (sent : List Notice) (o : Option Notice) → n ≤ length sent → take n (push sent o) ≡ take n sent
take-push n sent None h = refl
take-push n sent (Some m) h = take-append-le n sent (m ∷ []) h

length-push : (sent : List Notice) (o : Option Notice) → length sent ≤ length (push sent o)
length-push sent None = omega arith
length-push sent (Some m) = rw length-append (omega arith)

-- w is v later: its client knows as much, and has the pages that it had
pub record Later (v w : Session) : Type 0 where
  pub upto : upto_of w ≡ upto_of v
  pub pages : Extends v.pages w.pages
  pub taken : w.taken ≤ length w.sent

moved-later : (b : Base) (s : ℕ) (S : State) (v : Session) (i : Item) → v.taken ≤ length v.sent → is_taking s i ≡ false → Later v (moved b s S v i)
moved-later b s S v i l h =
    let same : taken_after s v.taken i ≡ v.taken = no-taking s v.taken i h in
    let sent : List Notice = push v.sent (notice b s S v.pages i) in
    let long : length v.sent ≤ length sent = length-push v.sent (notice b s S v.pages i) in
    record {
      upto = ap (λ (n : ℕ). fold (λ k m. bound m) v.began (take n sent)) same ∙ ap (λ (ms : List Notice). fold (λ k m. bound m) v.began ms) (take-push v.taken v.sent (notice b s S v.pages i) l);
      pages = pages-extend s S v.pages i;
      taken = subst (λ (n : ℕ). n ≤ length sent) (sym same) (le-trans v.taken (length v.sent) (length sent) l long);
    }
  where
    le-trans : (i j k : ℕ) → i ≤ j → j ≤ k → i ≤ k
    le-trans i j k p q = omega arith

pub retired-later : (b : Base) (v w : Session) → Later v w → Later v (or_retired b w)
retired-later b v w h = by (is_silent b.silence w)
  where
    by : (q : Bool) → Later v (cond q (record w { stage = retired w.stage }) w)
    by true = record { upto = h.upto; pages = h.pages; taken = h.taken }
    by false = h

pub move-later : (b : Base) (s : ℕ) (S : State) (i : Item) (v : Session) → v.taken ≤ length v.sent → is_taking s i ≡ false → Later v (move b s S i v)
move-later b s S i v l h = by (session_lives v)
  where
    by : (q : Bool) → Later v (cond q (or_retired b (moved b s S v i)) (rested v i))
    by true = retired-later b v (moved b s S v i) (moved-later b s S v i l h)
    by false = record { upto = refl; pages = λ p c is. is; taken = l }

-- an item at which the session takes no message and doesn't begin moves it
pub meet-moves : (b : Base) (s : ℕ) (S : State) (v : Session) (i : Item) → is_taking s i ≡ false → meet b s S (Some v) i ≡ Some (move b s S i v)
meet-moves b s S v (E e) h = refl
meet-moves b s S v (M (the.Connected n c)) h = ap (λ (t : Bool). cond t (Some (begun c S.length)) (Some (move b s S (M (the.Connected n c)) v))) h
meet-moves b s S v (M (the.Took n k)) h = refl
meet-moves b s S v (M (the.Fetched n page upto)) h = refl
meet-moves b s S v (M (the.Granted n page)) h = refl
meet-moves b s S v (M (the.Drew n t)) h = refl
meet-moves b s S v (M (the.Forgot t)) h = refl
meet-moves b s S v (M (the.Refused n q r)) h = refl

-- ---- the copies

all-kept : (s : ℕ) (x : Oref) (m : ℕ) (cs : List (ℕ × Request)) → OthersWrite s x cs → OthersSince s m (filter (λ c. has_written c.1 x) cs)
all-kept s x m [] h = All-nil (λ c. m ≤ c.0 → nat_eq c.1.session s ≡ false)
all-kept s x m (c ∷ cs) h = by (has_written c.1 x) refl (all-kept s x m cs (All-tail (λ c. has_written c.1 x ≡ true → nat_eq c.1.session s ≡ false) c cs h))
  where
    by : (t : Bool) → has_written c.1 x ≡ t → OthersSince s m (filter (λ c. has_written c.1 x) cs) → OthersSince s m (cond t (c ∷ filter (λ c. has_written c.1 x) cs) (filter (λ c. has_written c.1 x) cs))
    by true e rest = All-cons (λ c. m ≤ c.0 → nat_eq c.1.session s ≡ false) c (filter (λ c. has_written c.1 x) cs) (λ l. h 0 c (omega arith) e) rest
    by false e rest = rest

pub some-and : (o w : Option ℕ) (m : ℕ) → ((c : ℕ) → o ≡ Some c → w ≡ Some c) → IsSomeAnd o (λ c. c ≤ m) → IsSomeAnd w (λ c. c ≤ m)
some-and None w m f h = absurd h
some-and (Some c) w m f h = rw (f c refl) h

module _ (b : Base) where
  right-same : (H : List Entry) (s : ℕ) (v w : Session) (x : Oref) (o : Obj) (m : ℕ) → Later v w → IsBefore w x m → RightAt b H s v x o m → RightAt b H s w x o m
  right-same H s v w x o m k before h = record {
    unknown = rw k.upto h.unknown;
    there = h.there;
    cached = some-and (get v.pages x.page) (get w.pages x.page) m (λ c is. k.pages x.page c is) h.cached;
    value = h.value;
    others = h.others;
    before = before;
  }

  pub writers-end : (H : List Entry) (e : Entry) (x : Oref) → writers b (H ++ e ∷ []) x ≡ writers b H x ++ filter (λ c. has_written c.1 x) (commit_of b (state b H) e)
  writers-end H e x = ap (filter (λ c. has_written c.1 x)) (commits-end b H e) ∙ filter-append (λ c. has_written c.1 x) (commits b H) (commit_of b (state b H) e)

  right-end : (H : List Entry) (e : Entry) (s : ℕ) (v : Session) (x : Oref) (o : Obj) (m : ℕ) → OthersWrite s x (commit_of b (state b H) e) → RightAt b H s v x o m → RightAt b (H ++ e ∷ []) s v x o m
  right-end H e s v x o m a h = record {
    unknown = h.unknown;
    there = let l : m ≤ length H = h.there in rw length-append (omega arith);
    cached = h.cached;
    value = ap (λ (n : Map oref_cmp Obj). get n x) (objects_at-append b m H (e ∷ []) h.there) ∙ h.value;
    others = subst (OthersSince s m) (sym (writers-end H e x)) (All-append (λ c. m ≤ c.0 → nat_eq c.1.session s ≡ false) (writers b H x) (filter (λ c. has_written c.1 x) (commit_of b (state b H) e)) h.others (all-kept s x m (commit_of b (state b H) e) a));
    before = h.before;
  }

  right-grown : (T : List Item) (i : Item) (s : ℕ) (v : Session) (x : Oref) (o : Obj) (m : ℕ) → OthersWrite s x (commits_in b (entries T) i) → RightAt b (entries T) s v x o m → RightAt b (entries (T ++ i ∷ [])) s v x o m
  right-grown T (E e) s v x o m a h = subst (λ (H : List Entry). RightAt b H s v x o m) (sym (entries-append T (E e ∷ []))) (right-end (entries T) e s v x o m a h)
  right-grown T (M k) s v x o m a h = subst (λ (H : List Entry). RightAt b H s v x o m) (sym (entries-append T (M k ∷ []) ∙ append-nil (entries T))) h

  pub next : (T : List Item) (i : Item) (s : ℕ) (v w : Session) → session b T s ≡ Some v → is_taking s i ≡ false → session b (T ++ i ∷ []) s ≡ Some w → w ≡ move b s (state b (entries T)) i v
  next T i s v w is h then' =
      let e : Some (move b s (state b (entries T)) i v) ≡ Some w = sym (session-end b T i s ∙ ap (λ (u : Option Session). meet b s (state b (entries T)) u i) is ∙ meet-moves b s (state b (entries T)) v i h) ∙ then' in
      cc

  -- a copy that was right at a place stays so while others act
  pub right-kept : (T : List Item) (i : Item) (s : ℕ) (v w : Session) (x : Oref) (o : Obj) (m : ℕ) → session b T s ≡ Some v → session b (T ++ i ∷ []) s ≡ Some w → InStep v → is_taking s i ≡ false → OthersWrite s x (commits_in b (entries T) i)
      → RightAt b (entries T) s v x o m → RightAt b (entries (T ++ i ∷ [])) s w x o m
  right-kept T i s v w x o m is then' step h a r =
      let e : w ≡ move b s (state b (entries T)) i v = next T i s v w is h then' in
      let k : Later v (move b s (state b (entries T)) i v) = move-later b s (state b (entries T)) i v step.taken h in
      let there : m ≤ (state b (entries T)).length = subst (λ (z : ℕ). m ≤ z) (sym (length-state b (entries T))) r.there in
      let before : IsBefore (move b s (state b (entries T)) i v) x m = before-moved b s (state b (entries T)) i v x m h there r.before in
      subst (λ (u : Session). RightAt b (entries (T ++ i ∷ [])) s u x o m) (sym e) (right-same (entries (T ++ i ∷ [])) s v (move b s (state b (entries T)) i v) x o m k before (right-grown T i s v x o m a r))

  move-acks : (s : ℕ) (S : State) (i : Item) (v : Session) → (n : ℕ) → acked_after s v.acked i ≤ n → v.acked ≤ n → (move b s S i v).acked ≤ n
  move-acks s S i v n p q = by (session_lives v)
    where
      quiet : (t : Bool) → (cond t (record (moved b s S v i) { stage = retired (moved b s S v i).stage }) (moved b s S v i)).acked ≤ n
      quiet true = p
      quiet false = p

      by : (t : Bool) → (cond t (or_retired b (moved b s S v i)) (rested v i)).acked ≤ n
      by true = quiet (is_silent b.silence (moved b s S v i))
      by false = q

  -- and the client stays in step with its session, where it acknowledges what it knows
  pub step-kept : (T : List Item) (i : Item) (s : ℕ) (v w : Session) → session b T s ≡ Some v → session b (T ++ i ∷ []) s ≡ Some w → InStep v → is_taking s i ≡ false → acked_after s v.acked i ≤ upto_of v → InStep w
  step-kept T i s v w is then' step h a =
      let S : State = state b (entries T) in
      let e : w ≡ move b s S i v = next T i s v w is h then' in
      let k : Later v (move b s S i v) = move-later b s S i v step.taken h in
      let acked : (move b s S i v).acked ≤ upto_of v = move-acks s S i v (upto_of v) a step.acked in
      subst InStep (sym e) (record { taken = k.taken; acked = rw k.upto acked })
