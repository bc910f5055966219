-- What can't be taken into memory is what no memory says.
use Rattle.std.proofs.Common.{◌≡◌, Bool, List, None, Option, Some, [], ◌∷◌, ◌++◌, ap, arith, cond, false, map, nat_eq, not, refl, subst, sym, true, ℕ, ◌&&◌, ◌∙◌}
use Rattle.std.proofs.lemmas.Bool.Decides.{nat_tests}
use Rattle.std.proofs.lemmas.Bool.{and_parts}
use Rattle.std.proofs.lemmas.Cmp.{eq_by_cmp_equiv}
use Rattle.std.proofs.lemmas.List.Folds.{list_all-append, list_all-map}
use Rattle.std.specs.BTreeMap.{is_at}
use Rattle.std.specs.List.{AllByRecursion, list_all}
use Rattle.std.specs.List.Sorted.{IsStrictlySortedBy}
use Rattle.std.specs.Map.{keys_of, lookup, values_of}
use Rattle.std.specs.Option.{is_some, option_and_then}
use Rattle.std.specs.Ordering.{is_eq}
use Rattle.std.specs.Prelude.{IsTrue}
use Rattle.std.specs.declared.cmp.Ordering.TheVariants.{Less}
use Rattle.log_entries.specs.declared.request.Request.{Request}
use Rattle.log_codec.specs.declared.state.State.{State}
use Rattle.mob_buffer.specs.Buffer.{AreOf}
use Rattle.commit_log.specs.Recovered.{are_of, is_whole, request_at}
use Rattle.thor_value.proofs.NameOrders.{ts_total}
use Rattle.thor_value.specs.FiniteMap.{get, has}
use Rattle.thor_value.specs.Names.{ts_cmp}
use Rattle.thor_value.specs.declared.names.Oref.{Oref}
use Rattle.thor_value.specs.declared.names.Ts.{Ts}
use Rattle.thor_value.specs.declared.values.Obj.{Obj}
use Rattle.two_phase.proofs.Lists.{lookup_those, sorted_those}
use Rattle.two_phase.specs.Contents.{Contents, request_of}
use Rattle.two_phase.specs.Lists.{decision_of, kept_decisions, open_requests, those}
use Rattle.two_phase.specs.declared.transaction.Transaction.TheVariants as kept
use Rattle.two_phase.specs.declared.transaction.Transaction.{Transaction}
use Rattle.repo_state.proofs.Filled.{none_yet, stamps_in_order}
use Rattle.repo_state.proofs.Tables.{request_open}
use Rattle.repo_state.specs.Keeps.{Keeps, Stands, TableFits}
use Rattle.repo_state.specs.Making.{KeepsTo, OpensTo, as_open, stamped}
use Rattle.repo_state.specs.Said.{spelled}
use Rattle.repo_state.specs.Unfit.{IsUnfit}
use Rattle.repo_state.specs.declared.held.Held.{Held}

both : (a b : Bool) → a ≡ true → b ≡ true → a && b ≡ true
both true b first second = second
both false b first second = cc

is_one : (a b : ℕ) → a ≡ b → nat_eq a b ≡ true
is_one a b is = grind (arith, nat_tests, is)

-- what is of one repository is found to be so
pub writes_of : (repo : ℕ) (writes : List (Oref × Obj)) → AreOf repo writes → are_of repo writes ≡ true
writes_of repo [] of = refl
writes_of repo (w ∷ ws) of = both (nat_eq w.0.repo repo) (are_of repo ws) (is_one w.0.repo repo of.0.repo_is) (writes_of repo ws of.1)

pub not_of : (repo : ℕ) (writes : List (Oref × Obj)) → are_of repo writes ≡ false → AreOf repo writes → ⊥
not_of repo writes isnt of = let is = writes_of repo writes of in cc

-- ---- requests

requests_of : (repo : ℕ) (es : List (Ts × Transaction)) → AllByRecursion (Stands repo) es → AllByRecursion (λ q. AreOf repo q.writes) (values_of (those request_of es))
requests_of repo [] h = tt
requests_of repo ((t, kept.Open q) ∷ es) h = (h.0.1.1.1, requests_of repo es h.1)
requests_of repo ((t, kept.Kept) ∷ es) h = requests_of repo es h.1

abbrev OpenOf : ℕ → Ts × Transaction → Type 0
OpenOf repo (t, kept.Open q) = AreOf repo q.writes
OpenOf repo (t, kept.Kept) = Unit {0}

opens_of : (repo : ℕ) (qs : List Request) → AllByRecursion (λ q. AreOf repo q.writes) qs → AllByRecursion (OpenOf repo) (map as_open qs)
opens_of repo [] h = tt
opens_of repo (q ∷ qs) h = (h.0, opens_of repo qs h.1)

in_all : {X : Type 0} (P : X → Type 0) (es rest : List X) (x : X) → AllByRecursion P (es ++ x ∷ rest) → P x
in_all P [] rest x h = h.0
in_all P (e ∷ es) rest x h = in_all P es rest x h.1

-- one that is still to be opened writes under names of another repository
pub none_opens : (repo : ℕ) (prepared : List Request) (c : Contents) (q : Request) (rest : List Request) → OpensTo repo prepared c (q ∷ rest) → are_of repo q.writes ≡ false → (d : Contents) → TableFits repo d → open_requests d ≡ prepared → ⊥
none_opens repo prepared c q rest to isnt d fits same =
    let all : AllByRecursion (OpenOf repo) (map as_open prepared) = opens_of repo prepared (subst (AllByRecursion (λ p. AreOf repo p.writes)) same (requests_of repo d.transactions.pairs fits.each)) in
    not_of repo q.writes isnt (in_all (OpenOf repo) c.transactions.pairs (map as_open rest) (as_open q) (subst (AllByRecursion (OpenOf repo)) (sym to.pairs) all))

-- whether what a transaction has open is of one repository
abbrev is_open_of : ℕ → Ts × Transaction → Bool
is_open_of repo (t, kept.Open q) = are_of repo q.writes
is_open_of repo (t, kept.Kept) = true

-- not all that is prepared is of this repository
pub one_foreign : (repo : ℕ) (prepared : List Request) (c : Contents) (q : Request) (rest : List Request) → OpensTo repo prepared c (q ∷ rest) → are_of repo q.writes ≡ false → IsTrue (list_all (λ p. are_of repo p.writes) prepared) → ⊥
one_foreign repo prepared c q rest to isnt all =
    let each : list_all (is_open_of repo) (c.transactions.pairs ++ as_open q ∷ map as_open rest) ≡ true = ap (list_all (is_open_of repo)) to.pairs ∙ (list_all-map (is_open_of repo) as_open prepared ∙ all) in
    let behind = and_parts (list_all (is_open_of repo) c.transactions.pairs) (are_of repo q.writes && list_all (is_open_of repo) (map as_open rest)) (sym (list_all-append (is_open_of repo) c.transactions.pairs (as_open q ∷ map as_open rest)) ∙ each) in
    let is = (and_parts (are_of repo q.writes) (list_all (is_open_of repo) (map as_open rest)) behind.1).0 in
    cc

-- ---- decisions

-- whether a transaction isn't prepared
abbrev is_free : List Request → Ts × Unit {0} → Bool
is_free prepared e = not (is_some (request_at prepared e.0))

found_behind : {X : Type 0} (t : Ts) (es rest : List (Ts × X)) (x : X) → lookup (is_at (ts_cmp t)) es ≡ None → is_at (ts_cmp t) t ≡ true → lookup (is_at (ts_cmp t)) (es ++ (t, x) ∷ rest) ≡ Some x
found_behind t [] rest x none here = rw here refl
found_behind t (e ∷ es) rest x none here = by (is_at (ts_cmp t) e.0) none (found_behind t es rest x)
  where
    by : (b : Bool) → cond b (Some e.1) (lookup (is_at (ts_cmp t)) es) ≡ None → (lookup (is_at (ts_cmp t)) es ≡ None → is_at (ts_cmp t) t ≡ true → lookup (is_at (ts_cmp t)) (es ++ (t, x) ∷ rest) ≡ Some x) → cond b (Some e.1) (lookup (is_at (ts_cmp t)) (es ++ (t, x) ∷ rest)) ≡ Some x
    by true is more = cc
    by false is more = more is here

stamped_keys : (es : List (Ts × Unit {0})) → map stamped (keys_of es) ≡ es
stamped_keys [] = refl
stamped_keys (e ∷ es) = ap (λ (r : List (Ts × Unit {0})). e ∷ r) (stamped_keys es)

not_both : (a b : Option Transaction) → is_some a ≡ true → option_and_then decision_of a ≡ None → option_and_then decision_of b ≡ Some (tt {0}) → option_and_then request_of a ≡ option_and_then request_of b → ⊥
not_both None b there none some same = cc
not_both (Some kept.Kept) b there none some same = cc
not_both (Some (kept.Open q)) None there none some same = cc
not_both (Some (kept.Open q)) (Some (kept.Open p)) there none some same = cc
not_both (Some (kept.Open q)) (Some kept.Kept) there none some same = cc

-- one that is still to be kept is prepared
pub none_keeps : (repo : ℕ) (prepared : List Request) (decisions : List Ts) → IsStrictlySortedBy ts_cmp decisions → (c : Contents) (t : Ts) (rest : List Ts) → KeepsTo repo prepared decisions c (t ∷ rest) → has c.transactions t ≡ true → (d : Contents) → TableFits repo d → open_requests d ≡ prepared → kept_decisions d ≡ decisions → ⊥
none_keeps repo prepared decisions rise c t rest to there d fits opened decided =
    let absent : lookup (is_at (ts_cmp t)) (those decision_of c.transactions.pairs) ≡ None = none_yet ts_total (those decision_of c.transactions.pairs) (map stamped rest) t (tt {0}) (stamps_in_order repo prepared decisions rise c (t ∷ rest) to) in
    let all : those decision_of d.transactions.pairs ≡ those decision_of c.transactions.pairs ++ (t, tt {0}) ∷ map stamped rest = sym (stamped_keys (those decision_of d.transactions.pairs)) ∙ ap (map stamped) decided ∙ sym to.kept in
    let kept_in_d = sym (lookup_those decision_of t d.transactions.pairs fits.sorted) ∙ ap (lookup (is_at (ts_cmp t))) all ∙ found_behind t (those decision_of c.transactions.pairs) (map stamped rest) (tt {0}) absent ((eq_by_cmp_equiv ts_total).refl t) in
    let not_in_c = sym (lookup_those decision_of t c.transactions.pairs to.fits.sorted) ∙ absent in
    let same = sym (request_open repo c to.fits t) ∙ ap (λ (qs : List Request). request_at qs t) (to.opened ∙ sym opened) ∙ request_open repo d fits t in
    not_both (get c.transactions t) (get d.transactions t) there not_in_c kept_in_d same

open_there : (o : Option Transaction) → is_some o ≡ true → option_and_then decision_of o ≡ None → not (is_some (option_and_then request_of o)) ≡ true → ⊥
open_there None there none free = cc
open_there (Some kept.Kept) there none free = cc
open_there (Some (kept.Open q)) there none free = cc

-- not all that is decided is unprepared
pub one_both : (repo : ℕ) (prepared : List Request) (decisions : List Ts) → IsStrictlySortedBy ts_cmp decisions → (c : Contents) (t : Ts) (rest : List Ts) → KeepsTo repo prepared decisions c (t ∷ rest) → has c.transactions t ≡ true → IsTrue (list_all (λ u. not (is_some (request_at prepared u))) decisions) → ⊥
one_both repo prepared decisions rise c t rest to there all =
    let absent : lookup (is_at (ts_cmp t)) (those decision_of c.transactions.pairs) ≡ None = none_yet ts_total (those decision_of c.transactions.pairs) (map stamped rest) t (tt {0}) (stamps_in_order repo prepared decisions rise c (t ∷ rest) to) in
    let none = sym (lookup_those decision_of t c.transactions.pairs to.fits.sorted) ∙ absent in
    let each : list_all (is_free prepared) (those decision_of c.transactions.pairs ++ stamped t ∷ map stamped rest) ≡ true = ap (list_all (is_free prepared)) to.kept ∙ (list_all-map (is_free prepared) stamped decisions ∙ all) in
    let behind = and_parts (list_all (is_free prepared) (those decision_of c.transactions.pairs)) (is_free prepared (stamped t) && list_all (is_free prepared) (map stamped rest)) (sym (list_all-append (is_free prepared) (those decision_of c.transactions.pairs) (stamped t ∷ map stamped rest)) ∙ each) in
    let free = (and_parts (is_free prepared (stamped t)) (list_all (is_free prepared) (map stamped rest)) behind.1).0 in
    let opened : request_at prepared t ≡ option_and_then request_of (get c.transactions t) = ap (λ (qs : List Request). request_at qs t) (sym to.opened) ∙ request_open repo c to.fits t in
    open_there (get c.transactions t) there none (sym (ap (λ (o : Option Request). not (is_some o)) opened) ∙ free)

-- ---- what is kept in memory is whole

each_own : (repo : ℕ) (qs : List Request) → AllByRecursion (λ q. AreOf repo q.writes) qs → list_all (λ q. are_of repo q.writes) qs ≡ true
each_own repo [] h = refl
each_own repo (q ∷ qs) h = both (are_of repo q.writes) (list_all (λ p. are_of repo p.writes) qs) (writes_of repo q.writes h.0) (each_own repo qs h.1)

abbrev Found : List (Ts × Unit {0}) → Ts → Type 0
Found es k = lookup (is_at (ts_cmp k)) es ≡ Some (tt {0})

all_passed : (e : Ts × Unit {0}) (es : List (Ts × Unit {0})) (ks : List Ts) → AllByRecursion (λ y. ts_cmp e.0 y ≡ Less) ks → AllByRecursion (Found es) ks → AllByRecursion (Found (e ∷ es)) ks
all_passed e es [] above found = tt
all_passed e es (k ∷ ks) above found = (ap (λ (b : Bool). cond b (Some e.1) (lookup (is_at (ts_cmp k)) es)) ((eq_by_cmp_equiv ts_total).symm k e.0 ∙ ap is_eq above.0) ∙ found.0, all_passed e es ks above.1 found.1)

each_found : (es : List (Ts × Unit {0})) → IsStrictlySortedBy ts_cmp (keys_of es) → AllByRecursion (Found es) (keys_of es)
unfolding IsStrictlySortedBy
each_found [] sorted = tt
each_found (e ∷ es) sorted = (ap (λ (b : Bool). cond b (Some e.1) (lookup (is_at (ts_cmp e.0)) es)) ((eq_by_cmp_equiv ts_total).refl e.0), all_passed e es (keys_of es) sorted.0 (each_found es sorted.1))

none_open : (o : Option Transaction) → option_and_then decision_of o ≡ Some (tt {0}) → option_and_then request_of o ≡ None
none_open None is = cc
none_open (Some kept.Kept) is = refl
none_open (Some (kept.Open q)) is = cc

each_free : (repo : ℕ) (c : Contents) → TableFits repo c → (ks : List Ts) → AllByRecursion (Found (those decision_of c.transactions.pairs)) ks → list_all (λ t. not (is_some (request_at (open_requests c) t))) ks ≡ true
each_free repo c fits [] found = refl
each_free repo c fits (k ∷ ks) found =
    let none : request_at (open_requests c) k ≡ None = request_open repo c fits k ∙ none_open (get c.transactions k) (sym (lookup_those decision_of k c.transactions.pairs fits.sorted) ∙ found.0) in
    both (not (is_some (request_at (open_requests c) k))) (list_all (λ t. not (is_some (request_at (open_requests c) t))) ks) (ap (λ (o : Option Request). not (is_some o)) none) (each_free repo c fits ks found.1)

pub spelled_whole : (h : Held) → Keeps h → IsTrue (is_whole (spelled h))
spelled_whole h keeps =
    both (are_of h.repo h.objects.mob.objects && list_all (λ q. are_of h.repo q.writes) (open_requests h.table)) (list_all (λ t. not (is_some (request_at (open_requests h.table) t))) (kept_decisions h.table))
    (both (are_of h.repo h.objects.mob.objects) (list_all (λ q. are_of h.repo q.writes) (open_requests h.table)) (writes_of h.repo h.objects.mob.objects keeps.objects) (each_own h.repo (open_requests h.table) (requests_of h.repo h.table.transactions.pairs keeps.table.each)))
    (each_free h.repo h.table keeps.table (kept_decisions h.table) (each_found (those decision_of h.table.transactions.pairs) (sorted_those decision_of h.table.transactions.pairs keeps.table.sorted)))

-- what is whole has each of its parts so
whole_parts : (a b c : Bool) → a && b && c ≡ true → (a ≡ true) × (b ≡ true) × (c ≡ true)
whole_parts true true true is = (refl, refl, refl)
whole_parts true true false is = cc
whole_parts true false c is = cc
whole_parts false b c is = cc

pub not_whole_table : (s : State) → (IsTrue (list_all (λ q. are_of s.repo q.writes) s.prepared) → IsTrue (list_all (λ t. not (is_some (request_at s.prepared t))) s.kept) → ⊥) → IsTrue (is_whole s) → ⊥
not_whole_table s none is =
    let parts = whole_parts (are_of s.repo s.mob) (list_all (λ q. are_of s.repo q.writes) s.prepared) (list_all (λ t. not (is_some (request_at s.prepared t))) s.kept) is in
    none parts.1 parts.2

pub not_whole_objects : (s : State) → (IsTrue (are_of s.repo s.mob) → ⊥) → IsTrue (is_whole s) → ⊥
not_whole_objects s none is = none (whole_parts (are_of s.repo s.mob) (list_all (λ q. are_of s.repo q.writes) s.prepared) (list_all (λ t. not (is_some (request_at s.prepared t))) s.kept) is).0

-- ---- the whole

-- no table has these lists
pub no_table : (s : State) → ((d : Contents) → TableFits s.repo d → open_requests d ≡ s.prepared → kept_decisions d ≡ s.kept → ⊥) → IsUnfit s
no_table s none h keeps is = none h.table (subst (λ (n : ℕ). TableFits n h.table) (ap (λ (t : State). t.repo) is) keeps.table) (ap (λ (t : State). t.prepared) is) (ap (λ (t : State). t.kept) is)

-- no buffer has these objects
pub no_objects : (s : State) → (AreOf s.repo s.mob → ⊥) → IsUnfit s
no_objects s none h keeps is = none (subst (λ (n : ℕ). AreOf n s.mob) (ap (λ (t : State). t.repo) is) (subst (AreOf h.repo) (ap (λ (t : State). t.mob) is) keeps.objects))
