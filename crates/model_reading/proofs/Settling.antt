-- What a decision settles is what the definitions say of the transaction as it stands.
use Rattle.log_entries.specs.declared.entry.Entry.TheVariants.{Decided, Finished, Life, One, Prepared, Upgraded}
use Rattle.log_entries.specs.declared.entry.Entry.{Entry}
use Rattle.log_entries.specs.declared.request.Request.{Request}
use Rattle.spec_history.specs.History.{Aborted, Base, Committed, Fate, Known, Open, State, commit_by, commit_of, is_lost, is_open, is_undecided, known_in, lapse, or_lost, put, settle, settle_by}
use Rattle.spec_trace.specs.Session.{Session, begun, meet, move, moved, told_of}
use Rattle.spec_trace.specs.Trace.{E, M}
use Rattle.spec_trace.specs.declared.mark.Mark.TheVariants as the
use Rattle.spec_trace.specs.declared.mark.Mark.{Mark}
use Rattle.std.proofs.Common.{ap, refl, ◌≡◌, ◌∙◌}
use Rattle.std.specs.Option.{option_and_then, option_map}
use Rattle.std.specs.Ordering.{nat_cmp}
use Rattle.std.specs.Prelude.{Bool, None, Option, Some, [], cond, false, is_some, nat_eq, true, ℕ, ◌&&◌, ◌∷◌}
use Rattle.thor_value.specs.FiniteMap.{Map, get}
use Rattle.thor_value.specs.declared.names.Ts.{Ts}
use Rattle.model_reading.specs.Opening.{base_of}
use Rattle.model_reading.specs.Reading.{Reading, step, step_marked, step_with}
use Rattle.model_reading.specs.Settling.{closed, commit_at, committed_by, found_by, met_mark, met_with, noted_with, open_of, passed, put_with, request_of, settled, slid_with, told_with}
use Rattle.model_reading.specs.Standings.{open_standing, stands_behind}
use Rattle.model_reading.specs.declared.opening.Opening.{Opening}
use Rattle.repo_refusals.specs.Window.{Window, close, close_by, slide}

-- ---- undecided transactions

lapsed : (A : Type 0) (x : A) (f : Fate) (lost : Bool) → cond lost None (cond (is_open f) (Some x) None) ≡ cond (is_open (lapse f lost)) (Some x) None
lapsed A x Open true = refl
lapsed A x Open false = refl
lapsed A x (Committed at) true = refl
lapsed A x (Committed at) false = refl
lapsed A x Aborted true = refl
lapsed A x Aborted false = refl

stands : (b : Base) (S : State) (t : Ts) (o : Option Known) → option_and_then (open_standing b.repo S.last_life t) o ≡ open_of (option_map (or_lost b S t) o)
stands b S t None = refl
stands b S t (Some o) = lapsed _ (o.place, o.request) o.fate (is_lost b S t o.place)

pub stands_now : (b : Base) (S : State) (t : Ts) → stands_behind b.repo S.last_life t S ≡ open_of (known_in b S t)
stands_now b S t = stands b S t (get S.known t)

pub stands_next : (b : Base) (S : State) (t : Ts) (n : ℕ) → stands_behind b.repo S.length t S ≡ open_of (known_in b (put b S (Life n)) t)
stands_next b S t n = stands b (put b S (Life n)) t (get S.known t)

open_is : (A : Type 0) (x : A) (k : Bool) → k ≡ is_some (cond k (Some x) None)
open_is A x true = refl
open_is A x false = refl

pub undecided_is : (o : Option Known) → is_undecided o ≡ is_some (open_of o)
undecided_is None = refl
undecided_is (Some o) = open_is _ (o.place, o.request) (is_open o.fate)

-- ---- what is settled

settles : (S : State) (t : Ts) (c : Bool) (o : Known) (f : Fate) → settle_by S t c o f ≡ settled S t c (cond (is_open f) (Some (o.place, o.request)) None)
settles S t c o Open = refl
settles S t c o (Committed at) = refl
settles S t c o Aborted = refl

settle_is : (S : State) (t : Ts) (c : Bool) (o : Option Known) → settle S t c o ≡ settled S t c (open_of o)
settle_is S t c None = refl
settle_is S t c (Some o) = settles S t c o o.fate

pub put_is : (b : Base) (S : State) (e : Entry) → put b S e ≡ put_with S e (found_by b S e)
put_is b S (Life n) = refl
put_is b S (One q) = refl
put_is b S (Prepared q) = refl
put_is b S (Decided t c) = rw (settle_is S t c (known_in b S t), undecided_is (known_in b S t)) refl
put_is b S (Finished t c) = rw (settle_is S t c (known_in b S t)) refl
put_is b S (Upgraded q) = refl

closes : (W : Window) (t : Ts) (c : Bool) (o : Known) (f : Fate) → close_by W t c o f ≡ closed W t c (cond (is_open f) (Some (o.place, o.request)) None)
closes W t c o Open = refl
closes W t c o (Committed at) = refl
closes W t c o Aborted = refl

close_is : (W : Window) (t : Ts) (c : Bool) (o : Option Known) → close W t c o ≡ closed W t c (open_of o)
close_is W t c None = refl
close_is W t c (Some o) = closes W t c o o.fate

pub slid_is : (b : Base) (S : State) (W : Window) (e : Entry) → slide b S W e ≡ slid_with b S W e (found_by b S e)
slid_is b S W (Life n) = refl
slid_is b S W (One q) = refl
slid_is b S W (Prepared q) = refl
slid_is b S W (Decided t c) = close_is W t c (known_in b S t)
slid_is b S W (Finished t c) = close_is W t c (known_in b S t)
slid_is b S W (Upgraded q) = refl

-- ---- commits

one_commit : (n : ℕ) (c k : Bool) (p : ℕ) (q : Request) → cond (c && k) ((n, q) ∷ []) [] ≡ commit_at n (request_of c (cond k (Some (p, q)) None))
one_commit n true true p q = refl
one_commit n true false p q = refl
one_commit n false true p q = refl
one_commit n false false p q = refl

commits_so : (S : State) (c : Bool) (o : Option Known) → commit_by S c o ≡ commit_at S.length (request_of c (open_of o))
commits_so S c None = refl
commits_so S c (Some o) = one_commit S.length c (is_open o.fate) o.place o.request

pub commit_is : (b : Base) (S : State) (e : Entry) → commit_of b S e ≡ commit_at S.length (committed_by e (found_by b S e))
commit_is b S (Life n) = refl
commit_is b S (One q) = refl
commit_is b S (Prepared q) = refl
commit_is b S (Decided t c) = commits_so S c (known_in b S t)
commit_is b S (Finished t c) = commits_so S c (known_in b S t)
commit_is b S (Upgraded q) = refl

-- ---- sessions

told_at : (s : ℕ) (S : State) (pages : Map nat_cmp ℕ) (n : ℕ) (c : Option Request) → told_of s S pages (commit_at n c) ≡ told_with s S pages c
told_at s S pages n None = refl
told_at s S pages n (Some q) = refl

moves : (o : Opening) (s : ℕ) (S : State) (v : Session) (e : Entry) → moved (base_of o) s S v (E e) ≡ passed s S v e (found_by (base_of o) S e)
moves o s S v e = rw (commit_is (base_of o) S e, told_at s S v.pages S.length (committed_by e (found_by (base_of o) S e))) refl

pub meet_is : (o : Opening) (s : ℕ) (S : State) (v : Option Session) (e : Entry) → meet (base_of o) s S v (E e) ≡ option_map (met_with s S e (found_by (base_of o) S e)) v
meet_is o s S None e = refl
meet_is o s S (Some v) e = rw (moves o s S v e) refl

-- ---- marks

notes : (o : Opening) (s : ℕ) (S : State) (v : Option Session) (m : Mark) → option_map (move (base_of o) s S (M m)) v ≡ option_map (noted_with s S.length m) v
notes o s S None m = refl
notes o s S (Some v) (the.Connected n c) = refl
notes o s S (Some v) (the.Fetched n page upto) = refl
notes o s S (Some v) (the.Granted n page) = refl
notes o s S (Some v) (the.Took n p) = refl
notes o s S (Some v) (the.Drew n t) = refl
notes o s S (Some v) (the.Forgot t) = refl
notes o s S (Some v) (the.Refused n q r) = refl

meets : (o : Opening) (s : ℕ) (S : State) (v : Option Session) (m : Mark) → meet (base_of o) s S v (M m) ≡ met_mark s S.length v m
meets o s S v (the.Connected n c) = ap (λ (w : Option Session). cond (nat_eq n s) (Some (begun c S.length)) w) (notes o s S v (the.Connected n c))
meets o s S v (the.Fetched n page upto) = notes o s S v (the.Fetched n page upto)
meets o s S v (the.Granted n page) = notes o s S v (the.Granted n page)
meets o s S v (the.Took n p) = notes o s S v (the.Took n p)
meets o s S v (the.Drew n t) = notes o s S v (the.Drew n t)
meets o s S v (the.Forgot t) = notes o s S v (the.Forgot t)
meets o s S v (the.Refused n q r) = notes o s S v (the.Refused n q r)

-- ---- one step of the reading

pub entry_is : (o : Opening) (s : ℕ) (R : Reading) (e : Entry) → step (base_of o) s R (E e) ≡ step_with (base_of o) s R e (found_by (base_of o) R.state e)
entry_is o s R e = rw (put_is (base_of o) R.state e, slid_is (base_of o) R.state R.window e, commit_is (base_of o) R.state e, meet_is o s R.state R.session e) refl

pub mark_is : (o : Opening) (s : ℕ) (R : Reading) (m : Mark) → step (base_of o) s R (M m) ≡ step_marked s R m
mark_is o s R m = rw (meets o s R.state R.session m) refl
