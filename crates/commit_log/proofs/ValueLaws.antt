-- The objects behind records.
use Rattle.std.proofs.Common.{◌≡◌, Bool, List, Option, Some, None, [], ◌∷◌, cond, false, true, ℕ, refl, sym, ap, ◌∙◌}
use Rattle.std.specs.BTreeMap.{insert_entry}
use Rattle.std.specs.List.{filter, fold}
use Rattle.std.specs.Option.{is_some, option_and_then, option_or}
use Rattle.std.specs.Ordering.{eq_by_cmp, is_eq, nat_cmp}
use Rattle.std.specs.Prelude.{nat_eq, not, ◌&&◌}
use Rattle.std.specs.declared.cmp.Ordering.{Ordering}
use Rattle.std.specs.declared.cmp.Ordering.TheVariants.{Equal, Greater, Less}
use Rattle.std.proofs.lemmas.Bool.{eqb-true}
use Rattle.std.proofs.lemmas.Map.Lookups.{exact_unsigned}
use Rattle.thor_value.proofs.FiniteMap.{get-insert}
use Rattle.std.proofs.lemmas.Cmp.{nat_cmp_total, tied_itself, nat_eq_equiv}
use Rattle.thor_value.proofs.NameOrders.{oref_exact, oref_total}
use Rattle.thor_value.specs.FiniteMap.{Set, add, empty, get, has}
use Rattle.thor_value.specs.Names.{oref_cmp, same_oref}
use Rattle.thor_value.specs.declared.names.Oref.{Oref}
use Rattle.thor_value.specs.declared.names.Ts.{Ts}
use Rattle.thor_value.specs.declared.values.Obj.{Obj}
use Rattle.log_entries.specs.declared.entry.Entry.TheVariants.{Decided, Finished, Life, One, Prepared, Upgraded}
use Rattle.log_entries.specs.declared.entry.Entry.{Entry}
use Rattle.log_entries.specs.declared.request.Request.{Request}
use Rattle.log_codec.specs.Checkpoint.{StateFits, are_new}
use Rattle.log_codec.specs.declared.body.Body.TheVariants.{Entry as AnEntry, Installed}
use Rattle.log_codec.specs.declared.body.Body.{Body}
use Rattle.log_codec.specs.declared.state.State.{State}
use Rattle.commit_log.specs.Recovered.{after, buffered, changed, closed, decided, is_off, kept_by, request_at}
use Rattle.commit_log.specs.Values.{HasPaged, last_behind, last_write, migrated, object_in, side_of, value, on_page, Pages, writes_if, writes_of, written_last}

equal : (o : Ordering) → is_eq o ≡ true → o ≡ Equal
equal Less h = cc
equal Equal h = refl
equal Greater h = cc

same_name : (x y : Oref) → same_oref x y ≡ true → x ≡ y
same_name x y h = oref_exact x y (equal (oref_cmp x y) h)

-- ---- the buffer

pub object_in-buffered : (mob : List (Oref × Obj)) (w : Oref × Obj) (x : Oref) → object_in (buffered mob w) x ≡ cond (same_oref x w.0) (Some w.1) (object_in mob x)
object_in-buffered [] w x = refl
object_in-buffered (v ∷ vs) w x = by_key (object_in-buffered vs w x) (same_oref v.0 w.0) refl
  where
    -- the first is replaced
    replaced : (a c : Bool) (rest : Option Obj) → c ≡ a → cond a (Some w.1) rest ≡ cond a (Some w.1) (cond c (Some v.1) rest)
    replaced true c rest e = refl
    replaced false true rest e = cc
    replaced false false rest e = refl

    -- it isn't
    passed : (a c : Bool) (rest : Option Obj) → (a ≡ true → c ≡ true → ⊥) → cond c (Some v.1) (cond a (Some w.1) rest) ≡ cond a (Some w.1) (cond c (Some v.1) rest)
    passed true true rest apart = absurd (apart refl refl)
    passed true false rest apart = refl
    passed false c rest apart = refl

    by_key : object_in (buffered vs w) x ≡ cond (same_oref x w.0) (Some w.1) (object_in vs x) → (b : Bool) → same_oref v.0 w.0 ≡ b → object_in (cond b (w ∷ vs) (v ∷ buffered vs w)) x ≡ cond (same_oref x w.0) (Some w.1) (object_in (v ∷ vs) x)
    by_key more true e = replaced (same_oref x w.0) (same_oref x v.0) (object_in vs x) (ap (λ (k : Oref). same_oref x k) (same_name v.0 w.0 e))
    by_key more false e =
        ap (λ (rest : Option Obj). cond (same_oref x v.0) (Some v.1) rest) more
        ∙ passed (same_oref x w.0) (same_oref x v.0) (object_in vs x) (λ hw hv.
        let one : v.0 ≡ w.0 = sym (same_name x v.0 hv) ∙ same_name x w.0 hw in
        let yes : same_oref v.0 w.0 ≡ true = ap (λ (k : Oref). same_oref v.0 k) (sym one) ∙ ap is_eq (tied_itself oref_total v.0) in
        let clash : false ≡ true = sym e ∙ yes in
        cc)

pub object_in-writes : (ws mob : List (Oref × Obj)) (x : Oref) → object_in (fold buffered mob ws) x ≡ written_last x (object_in mob x) ws
object_in-writes [] mob x = refl
object_in-writes (w ∷ ws) mob x = object_in-writes ws (buffered mob w) x ∙ ap (λ (o : Option Obj). written_last x o ws) (object_in-buffered mob w x)

-- a page's objects leave the buffer, and no others
pub object_in-off : (page : ℕ) (mob : List (Oref × Obj)) (x : Oref) → object_in (filter (is_off page) mob) x ≡ cond (nat_eq x.page page) None (object_in mob x)
object_in-off page [] x = by (nat_eq x.page page) None
  where
    by : (b : Bool) (o : Option Obj) → o ≡ cond b o o
    by true o = refl
    by false o = refl
object_in-off page (v ∷ vs) x = by_page (object_in-off page vs x) (nat_eq v.0.page page) refl
  where
    same_page : same_oref x v.0 ≡ true → nat_eq x.page page ≡ nat_eq v.0.page page
    same_page h = ap (λ (k : Oref). nat_eq k.page page) (same_name x v.0 h)

    dropped : (here off : Bool) → (here ≡ true → off ≡ true) → cond off None (object_in vs x) ≡ cond off None (cond here (Some v.1) (object_in vs x))
    dropped true true h = refl
    dropped true false h = let no : false ≡ true = h refl in cc
    dropped false off h = refl

    stays : (here off : Bool) → (here ≡ true → off ≡ false) → cond here (Some v.1) (cond off None (object_in vs x)) ≡ cond off None (cond here (Some v.1) (object_in vs x))
    stays true true h = let no : true ≡ false = h refl in cc
    stays true false h = refl
    stays false off h = refl

    by_page : object_in (filter (is_off page) vs) x ≡ cond (nat_eq x.page page) None (object_in vs x) → (b : Bool) → nat_eq v.0.page page ≡ b → object_in (cond (not b) (v ∷ filter (is_off page) vs) (filter (is_off page) vs)) x ≡ cond (nat_eq x.page page) None (object_in (v ∷ vs) x)
    by_page more true e = more ∙ dropped (same_oref x v.0) (nat_eq x.page page) (λ here. same_page here ∙ e)
    by_page more false e = ap (λ (rest : Option Obj). cond (same_oref x v.0) (Some v.1) rest) more ∙ stays (same_oref x v.0) (nat_eq x.page page) (λ here. same_page here ∙ e)

-- ---- records

decided_mob : (s : State) (commit : Bool) (o : Option Request) → (decided s commit o).mob ≡ fold buffered s.mob (writes_if commit o)
decided_mob s commit None = refl
decided_mob s false (Some q) = refl
decided_mob s true (Some q) = refl

kept_mob : (s : State) (t : Ts) (commit : Bool) → (kept_by s t commit).mob ≡ s.mob
kept_mob s t true = refl
kept_mob s t false = refl

-- an entry's writes come into the buffer
pub changed_mob : (s : State) (e : Entry) → (changed s e).mob ≡ fold buffered s.mob (writes_of s e)
changed_mob s (Life n) = refl
changed_mob s (One q) = refl
changed_mob s (Prepared q) = refl
changed_mob s (Decided t commit) = kept_mob (closed s t commit) t commit ∙ decided_mob s commit (request_at s.prepared t)
changed_mob s (Finished t commit) = decided_mob s commit (request_at s.prepared t)
changed_mob s (Upgraded q) = refl

behind_is : (s : State) (b : Body) (x : Oref) → object_in (after s b).mob x ≡ last_behind x s b (object_in s.mob x)
behind_is s (AnEntry e) x = ap (λ (mob : List (Oref × Obj)). object_in mob x) (changed_mob s e) ∙ object_in-writes (writes_of s e) s.mob x
behind_is s (Installed page side) x = object_in-off page s.mob x

decided_sides : (s : State) (commit : Bool) (o : Option Request) → (decided s commit o).installed ≡ s.installed
decided_sides s commit None = refl
decided_sides s false (Some q) = refl
decided_sides s true (Some q) = refl

kept_sides : (s : State) (t : Ts) (commit : Bool) → (kept_by s t commit).installed ≡ s.installed
kept_sides s t true = refl
kept_sides s t false = refl

-- no entry puts a side in use
same_sides : (s : State) (e : Entry) → (changed s e).installed ≡ s.installed
same_sides s (Life n) = refl
same_sides s (One q) = refl
same_sides s (Prepared q) = refl
same_sides s (Decided t commit) = kept_sides (closed s t commit) t commit ∙ decided_sides s commit (request_at s.prepared t)
same_sides s (Finished t commit) = decided_sides s commit (request_at s.prepared t)
same_sides s (Upgraded q) = refl

-- The buffer behind records has the last write of each name.
pub buffer_is_last_write : (bodies : List Body) (s : State) (x : Oref) → object_in (fold after s bodies).mob x ≡ last_write x s bodies (object_in s.mob x)
buffer_is_last_write [] s x = refl
buffer_is_last_write (b ∷ bs) s x = buffer_is_last_write bs (after s b) x ∙ ap (λ (o : Option Obj). last_write x (after s b) bs o) (behind_is s b x)

-- ---- installs

same_keys : (a b : ℕ) → a ≡ b → eq_by_cmp nat_cmp a b ≡ true
same_keys a b e = ap (λ (k : ℕ). is_eq (nat_cmp a k)) (sym e) ∙ ap is_eq (tied_itself nat_cmp_total a)

other_keys : (a b : ℕ) → nat_eq a b ≡ false → eq_by_cmp nat_cmp a b ≡ false
other_keys a b e = by (eq_by_cmp nat_cmp a b) refl
  where
    by : (c : Bool) → eq_by_cmp nat_cmp a b ≡ c → c ≡ false
    by false h = refl
    by true h =
        let same : a ≡ b = exact_unsigned a b (equal (nat_cmp a b) h) in
        let yes : nat_eq a b ≡ true = ap (λ (k : ℕ). nat_eq a k) (sym same) ∙ nat_eq_equiv.refl a in
        let clash : false ≡ true = sym e ∙ yes in
        cc

-- That a side is in use which has what was said of its page changes nothing of what is said.
pub installed_says_the_same : (pages : Pages) (s : State) (page side : ℕ) → ((y : Oref) → y.page ≡ page → pages y.page side y ≡ value pages s y) → (x : Oref) → value pages (after s (Installed page side)) x ≡ value pages s x
installed_says_the_same pages s page side holds x = by (nat_eq x.page page) refl
  where
    sides : side_of (insert_entry nat_cmp s.installed page side) x ≡ cond (eq_by_cmp nat_cmp x.page page) (Some side) (side_of s.installed x)
    sides = get-insert nat_cmp_total (record { pairs = s.installed }) page side x.page

    found : (t : Bool) (o : Option ℕ) → nat_eq x.page page ≡ t → side_of (insert_entry nat_cmp s.installed page side) x ≡ o → value pages (after s (Installed page side)) x ≡ option_or (cond t None (object_in s.mob x)) (option_and_then (λ d. pages x.page d x) o)
    found t o e f =
        ap (λ (b : Option Obj). option_or b (on_page pages (insert_entry nat_cmp s.installed page side) x)) (object_in-off page s.mob x ∙ ap (λ (c : Bool). cond c None (object_in s.mob x)) e)
        ∙ ap (λ (d : Option ℕ). option_or (cond t None (object_in s.mob x)) (option_and_then (λ k. pages x.page k x) d)) f

    by : (t : Bool) → nat_eq x.page page ≡ t → value pages (after s (Installed page side)) x ≡ value pages s x
    by true e =
        let same : x.page ≡ page = eqb-true x.page page e in
        found true (Some side) e (sides ∙ ap (λ (c : Bool). cond c (Some side) (side_of s.installed x)) (same_keys x.page page same)) ∙ holds x same
    by false e = found false (side_of s.installed x) e (sides ∙ ap (λ (c : Bool). cond c (Some side) (side_of s.installed x)) (other_keys x.page page e))

-- An entry's writes are said behind it, and everything else as before.
pub entry_says_its_writes : (pages : Pages) (s : State) (e : Entry) (x : Oref) → value pages (after s (AnEntry e)) x ≡ option_or (written_last x (object_in s.mob x) (writes_of s e)) (on_page pages s.installed x)
entry_says_its_writes pages s e x = ap (λ (o : Option Obj). option_or o (on_page pages (changed s e).installed x)) (behind_is s (AnEntry e) x) ∙ ap (λ (i : List (ℕ × ℕ)). option_or (written_last x (object_in s.mob x) (writes_of s e)) (on_page pages i x)) (same_sides s e)

-- ---- migrations

true_by : (o : Option (Unit {0})) (b : Bool) → is_some o ≡ true → is_some (cond b (Some (tt {0})) o) ≡ true
true_by o true is = refl
true_by o false is = is

still_seen : (seen : Set oref_cmp) (v x : Oref) → has seen x ≡ true → has (add seen v) x ≡ true
still_seen seen v x is = ap (λ o. is_some o) (get-insert oref_total seen v (tt {0}) x) ∙ true_by (get seen x) (eq_by_cmp oref_cmp x v) is

now_seen : (seen : Set oref_cmp) (v : Oref) → has (add seen v) v ≡ true
now_seen seen v = ap (λ o. is_some o) (get-insert oref_total seen v (tt {0}) v) ∙ ap (λ b. is_some (cond b (Some (tt {0})) (get seen v))) (ap is_eq (tied_itself oref_total v))

new_parts : (b : Bool) (rest : Bool) → (not b && rest) ≡ true → (b ≡ false) × (rest ≡ true)
new_parts true rest is = cc
new_parts false rest is = (refl, is)

-- a name that was seen isn't in a list of new ones
seen_none : (ws : List (Oref × Obj)) (x : Oref) (seen : Set oref_cmp) → are_new seen ws ≡ true → has seen x ≡ true → object_in ws x ≡ None
seen_none [] x seen new is = refl
seen_none (w ∷ ws) x seen new is =
    let parts = new_parts (has seen w.0) (are_new (add seen w.0) ws) new in
    by parts (seen_none ws x (add seen w.0) parts.1 (still_seen seen w.0 x is)) (same_oref x w.0) refl
  where
    by : (has seen w.0 ≡ false) × (are_new (add seen w.0) ws ≡ true) → object_in ws x ≡ None → (b : Bool) → same_oref x w.0 ≡ b → cond b (Some w.1) (object_in ws x) ≡ None
    by parts rest true same =
        let clash : true ≡ false = sym is ∙ ap (has seen) (same_name x w.0 same) ∙ parts.0 in
        cc
    by parts rest false apart = rest

-- of a list in which no name stands twice the last write under a name is the one that is found
last_is_first : (ws : List (Oref × Obj)) (x : Oref) (found : Option Obj) (seen : Set oref_cmp) → are_new seen ws ≡ true → written_last x found ws ≡ option_or (object_in ws x) found
last_is_first [] x found seen new = refl
last_is_first (w ∷ ws) x found seen new =
    let parts = new_parts (has seen w.0) (are_new (add seen w.0) ws) new in
    by parts (λ (o : Option Obj). last_is_first ws x o (add seen w.0) parts.1) (same_oref x w.0) refl
  where
    by : (has seen w.0 ≡ false) × (are_new (add seen w.0) ws ≡ true) → ((o : Option Obj) → written_last x o ws ≡ option_or (object_in ws x) o) → (b : Bool) → same_oref x w.0 ≡ b → written_last x (cond b (Some w.1) found) ws ≡ option_or (cond b (Some w.1) (object_in ws x)) found
    by parts rest false apart = rest found
    by parts rest true same =
        rest (Some w.1)
        ∙ ap (λ (o : Option Obj). option_or o (Some w.1)) (seen_none ws x (add seen w.0) parts.1 (ap (has (add seen w.0)) (same_name x w.0 same) ∙ now_seen seen w.0))

or_none : (o : Option Obj) → option_or o None ≡ o
or_none None = refl
or_none (Some v) = refl

pub migrated_says_the_same : (pages : Pages) (paged : List (Oref × Obj)) (s : State) → StateFits s → HasPaged pages s.installed paged → (x : Oref) → value pages (migrated paged s) x ≡ value pages s x
migrated_says_the_same pages paged s fits stands x =
    or_none (object_in (fold buffered paged s.mob) x)
    ∙ object_in-writes s.mob paged x
    ∙ last_is_first s.mob x (object_in paged x) empty fits.mob_distinct
    ∙ ap (λ (o : Option Obj). option_or (object_in s.mob x) o) (sym (stands x))
