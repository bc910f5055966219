-- A log goes on to say what is said, and a state that comes back from its disks does so.
use Rattle.log_entries.specs.declared.entry.Entry.TheVariants.{Decided, Finished, Life, One, Prepared, Upgraded}
use Rattle.log_entries.specs.declared.entry.Entry.{Entry}
use Rattle.log_entries.specs.declared.request.Request.{Request}
use Rattle.log_codec.specs.declared.body.Body.TheVariants.{Entry as AnEntry, Installed}
use Rattle.log_codec.specs.declared.body.Body.{Body}
use Rattle.log_codec.specs.declared.state.State.{State}
use Rattle.repo_durable.specs.Remembering.{Remembers, is_kept}
use Rattle.commit_log.proofs.ValueLaws.{changed_mob, object_in-off, object_in-writes}
use Rattle.commit_log.specs.Recovered.{after, decided, kept_by, kept_with, kept_without, opened_without, page_above, request_at}
use Rattle.commit_log.specs.Values.{object_in, writes_of, written_last}
use Rattle.std.proofs.Common.{Bool, List, None, Option, Some, [], ◌∷◌, ap, arith, cond, false, map, max, nat_eq, not, refl, subst, sym, true, ℕ, ◌+◌, ◌∙◌, ◌≡◌, ◌≤◌}
use Rattle.std.proofs.lemmas.Map.Views.{tells_apart}
use Rattle.std.specs.BTreeMap.{insert_entry, is_at}
use Rattle.std.specs.List.{fold}
use Rattle.std.specs.Map.{keys_of, lookup}
use Rattle.std.specs.Option.{is_some}
use Rattle.std.specs.Ordering.{eq_by_cmp, nat_cmp}
use Rattle.thor_value.proofs.FiniteMap.{get-insert}
use Rattle.thor_value.proofs.NameOrders.{ts_exact, ts_total}
use Rattle.thor_value.specs.FiniteMap.{Map}
use Rattle.thor_value.specs.Names.{same_oref, same_ts, ts_cmp}
use Rattle.thor_value.specs.declared.names.Oref.{Oref}
use Rattle.thor_value.specs.declared.names.Ts.{Ts}
use Rattle.thor_value.specs.declared.values.Obj.{Obj}

abbrev Sides : Type 0
Sides = List (ℕ × ℕ)

abbrev Writes : Type 0
Writes = List (Oref × Obj)

-- a state with another next page, other decisions, sides and buffered objects
abbrev with_four : State → ℕ → List Ts → Sides → Writes → State
with_four a n k i m = record a { next_page = n; kept = k; installed = i; mob = m }

-- ---- decisions

abbrev pub stamp : Ts → Ts × Unit {0}
stamp u = (u, tt {0})

pub stamps : (es : List (Ts × Unit {0})) → map stamp (keys_of es) ≡ es
stamps [] = refl
stamps (e ∷ es) = ap (λ (r : List (Ts × Unit {0})). e ∷ r) (stamps es)

-- whether a decision is kept behind one more
kept_more : (ts : List Ts) (t u : Ts) → is_kept (kept_with ts t) u ≡ is_some (cond (eq_by_cmp ts_cmp u t) (Some (tt {0})) (lookup (is_at (ts_cmp u)) (map stamp ts)))
kept_more ts t u =
    let m : Map ts_cmp (Unit {0}) = record { pairs = map stamp ts } in
    ap (λ (es : List (Ts × Unit {0})). is_some (lookup (is_at (ts_cmp u)) es)) (stamps (insert_entry ts_cmp (map stamp ts) t (tt {0})))
    ∙ ap is_some (get-insert ts_total m t (tt {0}) u)

by_test : (b : Bool) (o p : Option (Unit {0})) → (is_some o ≡ true → is_some p ≡ true) → is_some (cond b (Some (tt {0})) o) ≡ true → is_some (cond b (Some (tt {0})) p) ≡ true
by_test true o p more is = refl
by_test false o p more is = more is

-- one more is kept by both
keeps_more : (j k : List Ts) (t : Ts) → ((u : Ts) → is_kept j u ≡ true → is_kept k u ≡ true) → (u : Ts) → is_kept (kept_with j t) u ≡ true → is_kept (kept_with k t) u ≡ true
keeps_more j k t more u is =
    kept_more k t u ∙ by_test (eq_by_cmp ts_cmp u t) (lookup (is_at (ts_cmp u)) (map stamp j)) (lookup (is_at (ts_cmp u)) (map stamp k)) (more u) (sym (kept_more j t u) ∙ is)

-- that on a transaction is kept by neither
dropped_no : (t u : Ts) (ts : List Ts) → is_kept (kept_without ts t) u ≡ cond (eq_by_cmp ts_cmp u t) false (is_kept ts u)
dropped_no t u [] = by (eq_by_cmp ts_cmp u t)
  where
    by : (b : Bool) → false ≡ cond b false false
    by true = refl
    by false = refl
dropped_no t u (v ∷ vs) = by (same_ts t v) (is_at (ts_cmp u) v) (eq_by_cmp ts_cmp u t) refl refl refl (dropped_no t u vs)
  where
    rest : Option (Unit {0})
    rest = lookup (is_at (ts_cmp u)) (map stamp vs)

    by : (b c d : Bool) → same_ts t v ≡ b → is_at (ts_cmp u) v ≡ c → eq_by_cmp ts_cmp u t ≡ d → is_kept (kept_without vs t) u ≡ cond d false (is_some rest) → is_kept (cond (not b) (v ∷ kept_without vs t) (kept_without vs t)) u ≡ cond d false (is_some (cond c (Some (tt {0})) rest))
    by true false d here at key more = more
    by true true true here at key more = more
    by true true false here at key more =
        let one : eq_by_cmp ts_cmp u t ≡ true = ap (λ (x : Ts). eq_by_cmp ts_cmp u x) (tells_apart ts_exact t v here) ∙ at in
        let clash : true ≡ false = sym one ∙ key in
        cc
    by false true true here at key more =
        let one : same_ts t v ≡ true = ap (λ (x : Ts). eq_by_cmp ts_cmp x v) (sym (tells_apart ts_exact u t key)) ∙ at in
        let clash : true ≡ false = sym one ∙ here in
        cc
    by false true false here at key more = ap (λ (c : Bool). is_some (cond c (Some (tt {0})) (lookup (is_at (ts_cmp u)) (map stamp (kept_without vs t))))) at
    by false false d here at key more = ap (λ (c : Bool). is_some (cond c (Some (tt {0})) (lookup (is_at (ts_cmp u)) (map stamp (kept_without vs t))))) at ∙ more

some_less : (b x y : Bool) → (x ≡ true → y ≡ true) → cond b false x ≡ true → cond b false y ≡ true
some_less true x y more is = cc
some_less false x y more is = more is

keeps_less : (j k : List Ts) (t : Ts) → ((u : Ts) → is_kept j u ≡ true → is_kept k u ≡ true) → (u : Ts) → is_kept (kept_without j t) u ≡ true → is_kept (kept_without k t) u ≡ true
keeps_less j k t more u is = dropped_no t u k ∙ some_less (eq_by_cmp ts_cmp u t) (is_kept j u) (is_kept k u) (more u) (sym (dropped_no t u j) ∙ is)

-- ---- pages

above : (n m p : ℕ) → n ≤ m → max n p ≤ max m p
above n m p less = omega (arith, less)

pages_rise : (ws : Writes) (n m : ℕ) → n ≤ m → fold page_above n ws ≤ fold page_above m ws
pages_rise [] n m less = less
pages_rise (w ∷ ws) n m less = pages_rise ws (max n (w.0.page + 1)) (max m (w.0.page + 1)) (above n m (w.0.page + 1) less)

-- ---- sides

sides_decided : (s : State) (t : Ts) (c : Bool) (o : Option Request) → (kept_by (record (decided s c o) { prepared = opened_without s.prepared t }) t c).installed ≡ s.installed
sides_decided s t false None = refl
sides_decided s t false (Some q) = refl
sides_decided s t true None = refl
sides_decided s t true (Some q) = refl

sides_finished : (s : State) (c : Bool) (o : Option Request) → (decided s c o).installed ≡ s.installed
sides_finished s c None = refl
sides_finished s false (Some q) = refl
sides_finished s true (Some q) = refl

-- an entry puts no side in use
pub entry_sides : (s : State) (e : Entry) → (after s (AnEntry e)).installed ≡ s.installed
entry_sides s (Life l) = refl
entry_sides s (One q) = refl
entry_sides s (Prepared q) = refl
entry_sides s (Upgraded q) = refl
entry_sides s (Decided t c) = sides_decided s t c (request_at s.prepared t)
entry_sides s (Finished t c) = sides_finished s c (request_at s.prepared t)

-- ---- a record more

module _ (a : State) (n : ℕ) (k : List Ts) (i : Sides) (m : Writes) where
  -- the rest moves alike
  abbrev Rest : State → State → Type 0
  Rest s b = s ≡ with_four b s.next_page s.kept s.installed s.mob

  rest_decided : (t : Ts) (c : Bool) (o : Option Request) → Rest (record (kept_by (record (decided (with_four a n k i m) c o) { prepared = opened_without a.prepared t }) t c) { count = a.count + 1 }) (record (kept_by (record (decided a c o) { prepared = opened_without a.prepared t }) t c) { count = a.count + 1 })
  rest_decided t false None = refl
  rest_decided t false (Some q) = refl
  rest_decided t true None = refl
  rest_decided t true (Some q) = refl

  rest_finished : (t : Ts) (c : Bool) (o : Option Request) → Rest (record (decided (with_four a n k i m) c o) { prepared = opened_without a.prepared t; count = a.count + 1 }) (record (decided a c o) { prepared = opened_without a.prepared t; count = a.count + 1 })
  rest_finished t c None = refl
  rest_finished t false (Some q) = refl
  rest_finished t true (Some q) = refl

  rest_after : (b : Body) → Rest (after (with_four a n k i m) b) (after a b)
  rest_after (AnEntry (Life l)) = refl
  rest_after (AnEntry (One q)) = refl
  rest_after (AnEntry (Prepared q)) = refl
  rest_after (AnEntry (Upgraded q)) = refl
  rest_after (AnEntry (Decided t c)) = rest_decided t c (request_at a.prepared t)
  rest_after (AnEntry (Finished t c)) = rest_finished t c (request_at a.prepared t)
  rest_after (Installed page side) = refl

  -- the next page
  next_decided : (t : Ts) (c : Bool) (o : Option Request) → a.next_page ≤ n → (kept_by (record (decided a c o) { prepared = opened_without a.prepared t }) t c).next_page ≤ (kept_by (record (decided (with_four a n k i m) c o) { prepared = opened_without a.prepared t }) t c).next_page
  next_decided t false None less = less
  next_decided t false (Some q) less = less
  next_decided t true None less = less
  next_decided t true (Some q) less = less

  next_finished : (c : Bool) (o : Option Request) → a.next_page ≤ n → (decided a c o).next_page ≤ (decided (with_four a n k i m) c o).next_page
  next_finished c None less = less
  next_finished false (Some q) less = less
  next_finished true (Some q) less = less

  next_after : (b : Body) → a.next_page ≤ n → (after a b).next_page ≤ (after (with_four a n k i m) b).next_page
  next_after (AnEntry (Life l)) less = less
  next_after (AnEntry (One q)) less = pages_rise q.writes a.next_page n less
  next_after (AnEntry (Prepared q)) less = pages_rise q.writes a.next_page n less
  next_after (AnEntry (Upgraded q)) less = pages_rise q.writes a.next_page n less
  next_after (AnEntry (Decided t c)) less = next_decided t c (request_at a.prepared t) less
  next_after (AnEntry (Finished t c)) less = next_finished c (request_at a.prepared t) less
  next_after (Installed page side) less = less

  -- the decisions
  abbrev More : List Ts → List Ts → Type 0
  More j l = (u : Ts) → is_kept j u ≡ true → is_kept l u ≡ true

  kept_decided : (t : Ts) (c : Bool) (o : Option Request) → More a.kept k → More (kept_by (record (decided a c o) { prepared = opened_without a.prepared t }) t c).kept (kept_by (record (decided (with_four a n k i m) c o) { prepared = opened_without a.prepared t }) t c).kept
  kept_decided t false None more = more
  kept_decided t false (Some q) more = more
  kept_decided t true None more = keeps_more a.kept k t more
  kept_decided t true (Some q) more = keeps_more a.kept k t more

  kept_finished : (c : Bool) (o : Option Request) → More a.kept k → More (decided a c o).kept (decided (with_four a n k i m) c o).kept
  kept_finished c None more = more
  kept_finished false (Some q) more = more
  kept_finished true (Some q) more = more

  kept_after : (b : Body) → More a.kept k → More (after a b).kept (after (with_four a n k i m) b).kept
  kept_after (AnEntry (Life l)) more = more
  kept_after (AnEntry (One q)) more = more
  kept_after (AnEntry (Prepared q)) more = keeps_less a.kept k q.tx more
  kept_after (AnEntry (Upgraded q)) more = more
  kept_after (AnEntry (Decided t c)) more = kept_decided t c (request_at a.prepared t) more
  kept_after (AnEntry (Finished t c)) more = kept_finished c (request_at a.prepared t) more
  kept_after (Installed page side) more = more

  -- the sides in use
  sides_after : (b : Body) → i ≡ a.installed → (after (with_four a n k i m) b).installed ≡ (after a b).installed
  sides_after (AnEntry e) same = entry_sides (with_four a n k i m) e ∙ (same ∙ sym (entry_sides a e))
  sides_after (Installed page side) same = ap (λ (s : Sides). insert_entry nat_cmp s page side) same

  -- what is written
  same_writes : (e : Entry) → writes_of (with_four a n k i m) e ≡ writes_of a e
  same_writes (Life l) = refl
  same_writes (One q) = refl
  same_writes (Prepared q) = refl
  same_writes (Upgraded q) = refl
  same_writes (Decided t c) = refl
  same_writes (Finished t c) = refl

-- the object under a name behind an entry
pub object_entered : (s : State) (e : Entry) (x : Oref) → object_in (after s (AnEntry e)).mob x ≡ written_last x (object_in s.mob x) (writes_of s e)
object_entered s e x = ap (λ (w : Writes). object_in w x) (changed_mob s e) ∙ object_in-writes (writes_of s e) s.mob x

objects_after : (a : State) (n : ℕ) (k : List Ts) (i : Sides) (m : Writes) (b : Body) → ((x : Oref) → object_in m x ≡ object_in a.mob x) → (x : Oref) → object_in (after (with_four a n k i m) b).mob x ≡ object_in (after a b).mob x
objects_after a n k i m (AnEntry e) same x =
    object_entered (with_four a n k i m) e x
    ∙ (ap (λ (o : Option Obj). written_last x o (writes_of (with_four a n k i m) e)) (same x)
    ∙ (ap (λ (w : Writes). written_last x (object_in a.mob x) w) (same_writes a n k i m e)
    ∙ sym (object_entered a e x)))
objects_after a n k i m (Installed page side) same x =
    object_in-off page m x ∙ (ap (λ (o : Option Obj). cond (nat_eq x.page page) None o) (same x) ∙ sym (object_in-off page a.mob x))

remembers_four : (a : State) (n : ℕ) (k : List Ts) (i : Sides) (m : Writes) (b : Body) → a.next_page ≤ n → ((t : Ts) → is_kept a.kept t ≡ true → is_kept k t ≡ true) → i ≡ a.installed → ((x : Oref) → object_in m x ≡ object_in a.mob x) → Remembers (after (with_four a n k i m) b) (after a b)
remembers_four a n k i m b less more same alike = record {
  rest = rest_after a n k i m b;
  next = next_after a n k i m b less;
  kept = kept_after a n k i m b more;
  installed = sides_after a n k i m b same;
  objects = objects_after a n k i m b alike;
}

-- a log that says a state goes on to do so behind each record
pub remembers_after : (s a : State) (b : Body) → Remembers s a → Remembers (after s b) (after a b)
remembers_after s a b r =
    subst (λ (z : State). Remembers (after z b) (after a b)) (sym r.rest)
    (remembers_four a s.next_page s.kept s.installed s.mob b r.next r.kept r.installed r.objects)

pub remembers_itself : (a : State) → Remembers a a
remembers_itself a = record { rest = refl; next = omega arith; kept = λ t is. is; installed = refl; objects = λ x. refl }

-- fewer decisions are kept
pub remembers_fewer : (s a b : State) → b ≡ record a { kept = b.kept } → ((t : Ts) → is_kept b.kept t ≡ true → is_kept a.kept t ≡ true) → Remembers s a → Remembers s b
remembers_fewer s a b is fewer r = subst (Remembers s) (sym is) (record {
  rest = r.rest;
  next = r.next;
  kept = λ t kept. r.kept t (fewer t kept);
  installed = r.installed;
  objects = r.objects;
})

-- ---- a state that comes back

-- objects come from the disks
abbrev pub with_objects : State → State → State
with_objects a s = record a { installed = s.installed; mob = s.mob }

pub comes_back : (s a : State) → Remembers s a → Remembers s (with_objects a s)
comes_back s a r = record { rest = r.rest; next = r.next; kept = r.kept; installed = refl; objects = λ x. refl }

-- also where a page was being put in use
pub comes_installed : (s a : State) (page side : ℕ) → Remembers s (after a (Installed page side)) → Remembers s (with_objects a s)
comes_installed s a page side r = record { rest = r.rest; next = r.next; kept = r.kept; installed = refl; objects = λ x. refl }

-- what is written last under a name is so, whatever was there, or nothing is
pub data Last (x : Oref) (ws : Writes) : Type 0 where
  Unwritten : ((found : Option Obj) → written_last x found ws ≡ found) → Last x ws
  Written : (o : Option Obj) → ((found : Option Obj) → written_last x found ws ≡ o) → Last x ws

last_one : (x : Oref) (w : Oref × Obj) (ws : Writes) (b : Bool) → same_oref x w.0 ≡ b → Last x ws → Last x (w ∷ ws)
last_one x w ws true is (Unwritten f) = Written (Some w.1) (λ found. f (cond (same_oref x w.0) (Some w.1) found) ∙ ap (λ (c : Bool). cond c (Some w.1) found) is)
last_one x w ws false is (Unwritten f) = Unwritten (λ found. f (cond (same_oref x w.0) (Some w.1) found) ∙ ap (λ (c : Bool). cond c (Some w.1) found) is)
last_one x w ws true is (Written o f) = Written o (λ found. f (cond (same_oref x w.0) (Some w.1) found))
last_one x w ws false is (Written o f) = Written o (λ found. f (cond (same_oref x w.0) (Some w.1) found))

pub last_of : (x : Oref) (ws : Writes) → Last x ws
last_of x [] = Unwritten (λ found. refl)
last_of x (w ∷ ws) = last_one x w ws (same_oref x w.0) refl (last_of x ws)

-- writes that are there already change nothing
pub again : (x : Oref) (ws : Writes) (p q : Option Obj) → Last x ws → q ≡ written_last x p ws → q ≡ written_last x q ws
again x ws p q (Unwritten f) is = sym (f q)
again x ws p q (Written o f) is = is ∙ (f p ∙ sym (f q))

-- The disks have an entry, and their objects with it: the state in memory takes the objects, and then the entry.
pub comes_behind : (s a : State) (e : Entry) → Remembers s (after a (AnEntry e)) → Remembers s (after (with_objects a s) (AnEntry e))
comes_behind s a e r = record {
  rest = r.rest ∙ sym (ap (λ (z : State). with_four z s.next_page s.kept s.installed s.mob) (rest_after a a.next_page a.kept s.installed s.mob (AnEntry e)));
  next = let less : (after b (AnEntry e)).next_page ≤ (after a (AnEntry e)).next_page = next_after b a.next_page a.kept a.installed a.mob (AnEntry e) (omega arith) in omega (arith, less, r.next);
  kept = λ t kept. r.kept t (kept_after b a.next_page a.kept a.installed a.mob (AnEntry e) (λ u is. is) t kept);
  installed = sym (entry_sides b e);
  objects = λ x. again x (writes_of a e) (object_in a.mob x) (object_in s.mob x) (last_of x (writes_of a e)) (r.objects x ∙ object_entered a e x)
      ∙ (ap (λ (w : Writes). written_last x (object_in s.mob x) w) (sym (same_writes a a.next_page a.kept s.installed s.mob e)) ∙ sym (object_entered b e x));
}
  where
    b : State
    b = with_objects a s
