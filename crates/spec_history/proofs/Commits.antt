-- The objects of a history are what its commits wrote.
use Rattle.log_entries.specs.declared.entry.Entry.TheVariants.{Life, One, Prepared, Decided, Finished, Upgraded}
use Rattle.log_entries.specs.declared.entry.Entry.{Entry}
use Rattle.log_entries.specs.declared.request.Request.{Request}
use Rattle.spec_history.specs.History.{Aborted, Base, Committed, Fate, Open, Known, State, commit_by, commit_of, commits, commits_from, is_open, last_write, put, settle, settle_by, known_in, start, state}
use Rattle.spec_history.specs.Laws.{MadeByCommits, with_stamps, with_texts, with_writes}
use Rattle.spec_history.specs.Requests.{has_written, text_of, written}
use Rattle.std.proofs.Common.{◌++◌, ◌≡◌, ℕ, List, [], ◌∷◌, refl, ap, sym, ◌∙◌}
use Rattle.std.proofs.lemmas.List.Sums.{fold-append}
use Rattle.std.specs.List.{filter, fold}
use Rattle.std.specs.Option.{option_or}
use Rattle.std.specs.Ordering.{eq_by_cmp}
use Rattle.std.specs.Prelude.{Bool, None, Option, Some, cond, false, is_some, true, ◌&&◌}
use Rattle.thor_value.proofs.FiniteMap.{get-insert}
use Rattle.thor_value.proofs.NameOrders.{oref_total}
use Rattle.thor_value.specs.FiniteMap.{Map, empty, get, insert, overwrite}
use Rattle.thor_value.specs.Names.{later_of, oref_cmp}
use Rattle.thor_value.specs.declared.names.Oref.{Oref}
use Rattle.thor_value.specs.declared.names.Ts.{Ts}
use Rattle.thor_value.specs.declared.values.Obj.{Obj}

-- ---- the objects

-- what stands at x, in a map that has what another has there, or else d
overwritten : (x : Oref) (d : Option Obj) (m n : Map oref_cmp Obj) (kvs : List (Oref × Obj)) → get m x ≡ option_or (get n x) d → get (overwrite m kvs) x ≡ option_or (get (overwrite n kvs) x) d
overwritten x d m n [] h = h
overwritten x d m n (kv ∷ kvs) h = overwritten x d (insert m kv.0 kv.1) (insert n kv.0 kv.1) kvs (
    get-insert oref_total m kv.0 kv.1 x
    ∙ by_key (eq_by_cmp oref_cmp x kv.0)
    ∙ ap (λ o. option_or o d) (sym (get-insert oref_total n kv.0 kv.1 x)))
  where
    by_key : (e : Bool) → cond e (Some kv.1) (get m x) ≡ option_or (cond e (Some kv.1) (get n x)) d
    by_key true = refl
    by_key false = h

-- what stands at x where a request's writes were put in
pub get-overwrite : (x : Oref) (m : Map oref_cmp Obj) (q : Request) → get (overwrite m q.writes) x ≡ option_or (get (written q) x) (get m x)
get-overwrite x m q = overwritten x (get m x) m empty q.writes refl

-- the same of any list of writes
pub get-writes : (x : Oref) (m : Map oref_cmp Obj) (ws : List (Oref × Obj)) → get (overwrite m ws) x ≡ option_or (get {R = oref_cmp} (overwrite empty ws) x) (get m x)
get-writes x m ws = overwritten x (get m x) m empty ws refl

filtered : (x : Oref) (d : Option Obj) (c : ℕ × Request) (F : List (ℕ × Request)) (g : Option Obj) → get (written c.1) x ≡ g
    → last_write x (option_or g d) F ≡ last_write x d (cond (is_some g) (c ∷ F) F)
filtered x d c F None h = refl
filtered x d c F (Some v) h = ap (λ o. last_write x o F) (sym h)

get-with_writes : (x : Oref) (m : Map oref_cmp Obj) (cs : List (ℕ × Request)) → get (with_writes m cs) x ≡ last_write x (get m x) (filter (λ c. has_written c.1 x) cs)
get-with_writes x m [] = refl
get-with_writes x m (c ∷ cs) =
    let F = filter (λ (d : ℕ × Request). has_written d.1 x) cs in
    get-with_writes x (overwrite m c.1.writes) cs
    ∙ ap (λ o. last_write x o F) (get-overwrite x m c.1)
    ∙ filtered x (get m x) c F (get (written c.1) x) refl

-- T is S with these commits, as to objects, texts and the greatest timestamp
abbrev Made : State → List (ℕ × Request) → State → Type 0
Made S cs T = (T.objects ≡ with_writes S.objects cs) × (T.texts ≡ with_texts S.texts cs) × (T.top ≡ with_stamps S.top cs)

module _ (b : Base) where
  by_settle : (S : State) (t : Ts) (c : Bool) (o : Option Known) → Made S (commit_by S c o) (settle S t c o)
  by_settle S t c None = (refl, refl, refl)
  by_settle S t c (Some p) = by_fate p.fate c
    where
      by_fate : (f : Fate) (d : Bool) → Made S (cond (d && is_open f) ((S.length, p.request) ∷ []) []) (settle_by S t d p f)
      by_fate Open true = (refl, refl, refl)
      by_fate Open false = (refl, refl, refl)
      by_fate (Committed a) true = (refl, refl, refl)
      by_fate (Committed a) false = (refl, refl, refl)
      by_fate Aborted true = (refl, refl, refl)
      by_fate Aborted false = (refl, refl, refl)

  -- one entry changes them by the commit that it is
  pub made : (S : State) (e : Entry) → Made S (commit_of b S e) (put b S e)
  made S (Life n) = (refl, refl, refl)
  made S (One q) = (refl, refl, refl)
  made S (Prepared q) = (refl, refl, refl)
  made S (Upgraded q) = (refl, refl, refl)
  made S (Decided t c) = by_settle S t c (known_in b S t)
  made S (Finished t c) = by_settle S t c (known_in b S t)

  pub objects-put : (S : State) (e : Entry) → (put b S e).objects ≡ with_writes S.objects (commit_of b S e)
  objects-put S e = (made S e).0

  -- what each entry changes by its commit is changed by all commits
  by_commits : {A : Type 0} (field : State → A) (act : A → ℕ × Request → A) → ((S : State) (e : Entry) → field (put b S e) ≡ fold act (field S) (commit_of b S e))
      → (S : State) (H : List Entry) → field (fold (put b) S H) ≡ fold act (field S) (commits_from b S H)
  by_commits field act one S [] = refl
  by_commits field act one S (e ∷ H) =
      by_commits field act one (put b S e) H
      ∙ ap (λ a. fold act a (commits_from b (put b S e) H)) (one S e)
      ∙ sym (fold-append act (field S) (commit_of b S e) (commits_from b (put b S e) H))

  pub made_by_commits : (H : List Entry) → MadeByCommits b H
  made_by_commits H =
      let objects : (state b H).objects ≡ with_writes b.objects (commits b H) = by_commits (λ S. S.objects) (λ n c. overwrite n c.1.writes) (λ S e. (made S e).0) (start b) H in
      record {
        objects = objects;
        texts = by_commits (λ S. S.texts) (λ us c. us ++ text_of c.1.kind) (λ S e. (made S e).1) (start b) H;
        top = by_commits (λ S. S.top) (λ u c. later_of u c.1.tx) (λ S e. (made S e).2) (start b) H;
        last = λ x. ap (λ (m : Map oref_cmp Obj). get m x) objects ∙ get-with_writes x b.objects (commits b H);
      }
