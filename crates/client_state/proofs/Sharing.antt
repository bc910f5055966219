-- What shares write, behind one more write.
use Rattle.client_state.specs.Writing.{FirstOf, NoneOf, is_of, new_share, read_more_at, read_more_on, shares_write, with_read, with_write, written_at, written_on}
use Rattle.client_state.specs.declared.transaction.Share.{Share}
use Rattle.paused_eval.specs.Copies.{last_of}
use Rattle.std.proofs.Common.{Bool, Equal, Greater, Less, List, Ordering, [], ap, arith, cond, false, inl, inr, is_eq, length, nat_eq, refl, subst, suc, sym, true, zero, ℕ, ◌++◌, ◌+◌, ◌<◌, ◌≤◌, ◌∷◌, ◌≡◌, ◌∙◌}
use Rattle.std.proofs.Math.Nat.{eq-or-lt_of_le}
use Rattle.std.proofs.lemmas.Bool.Decides.{nat_tests}
use Rattle.std.proofs.lemmas.Bool.{cases_lt}
use Rattle.std.proofs.lemmas.List.Sums.{fold-append}
use Rattle.std.proofs.lemmas.Option.{same_Some, slice_get_past}
use Rattle.std.specs.Ordering.{eq_by_cmp}
use Rattle.std.specs.Prelude.{None, Option, Some, slice_get, slice_set, ◌⊎◌}
use Rattle.thor_value.proofs.FiniteMap.{get-insert}
use Rattle.thor_value.proofs.NameOrders.{oref_exact, oref_total}
use Rattle.thor_value.specs.FiniteMap.{Map, empty, get, insert, overwrite}
use Rattle.thor_value.specs.Names.{oref_cmp}
use Rattle.thor_value.specs.declared.names.Oref.{Oref}
use Rattle.thor_value.specs.declared.values.Obj.{Obj}

-- one more write is the last
pub one_more : (ws : List (Oref × Obj)) (y : Oref) (o : Obj) (x : Oref) → last_of (ws ++ (y, o) ∷ []) x ≡ cond (eq_by_cmp oref_cmp x y) (Some o) (last_of ws x)
one_more ws y o x = ap (λ (m : Map oref_cmp Obj). get m x) (fold-append (λ (n : Map oref_cmp Obj) (kv : Oref × Obj). insert n kv.0 kv.1) empty ws ((y, o) ∷ [])) ∙ get-insert oref_total (overwrite empty ws) y o x

first_writes : (p : ℕ) (shares : List Share) (s : Share) (x : Oref) → FirstOf x.repo p shares → slice_get shares p ≡ Some s → shares_write shares x ≡ last_of s.writes x
first_writes p [] s x f there = cc
first_writes zero (t ∷ ts) s x f there = ap (λ (b : Bool). cond b (last_of t.writes x) (shares_write ts x)) f.0 ∙ ap (λ (u : Share). last_of u.writes x) (same_Some t s there)
first_writes (suc p) (t ∷ ts) s x f there = ap (λ (b : Bool). cond b (last_of t.writes x) (shares_write ts x)) (f.1 zero (omega arith)) ∙ first_writes p ts s x (f.0, λ n l. f.1 (suc n) (omega (arith, l))) there

first_set : (p : ℕ) (shares : List Share) (s t : Share) (x : Oref) → FirstOf x.repo p shares → slice_get shares p ≡ Some s → t.repo ≡ s.repo → shares_write (slice_set shares p t) x ≡ last_of t.writes x
first_set p [] s t x f there same = cc
first_set zero (u ∷ us) s t x f there same = ap (λ (b : Bool). cond b (last_of t.writes x) (shares_write us x)) (ap (λ (n : ℕ). nat_eq n x.repo) (same ∙ ap (λ (w : Share). w.repo) (sym (same_Some u s there))) ∙ f.0)
first_set (suc p) (u ∷ us) s t x f there same = ap (λ (b : Bool). cond b (last_of u.writes x) (shares_write (slice_set us p t) x)) (f.1 zero (omega arith)) ∙ first_set p us s t x (f.0, λ n l. f.1 (suc n) (omega (arith, l))) there same

other_set : (p : ℕ) (shares : List Share) (s t : Share) (x : Oref) → slice_get shares p ≡ Some s → t.repo ≡ s.repo → nat_eq s.repo x.repo ≡ false → shares_write (slice_set shares p t) x ≡ shares_write shares x
other_set p [] s t x there same other = refl
other_set zero (u ∷ us) s t x there same other =
    ap (λ (b : Bool). cond b (last_of t.writes x) (shares_write us x)) (ap (λ (n : ℕ). nat_eq n x.repo) same ∙ other)
    ∙ sym (ap (λ (b : Bool). cond b (last_of u.writes x) (shares_write us x)) (ap (λ (w : Share). nat_eq w.repo x.repo) (same_Some u s there) ∙ other))
other_set (suc p) (u ∷ us) s t x there same other = ap (λ (o : Option Obj). cond (nat_eq u.repo x.repo) (last_of u.writes x) o) (other_set p us s t x there same other)

equal_of : (o : Ordering) → is_eq o ≡ true → o ≡ Equal
equal_of Less h = cc
equal_of Equal h = refl
equal_of Greater h = cc

equal_number : (a b : ℕ) → nat_eq a b ≡ true → a ≡ b
equal_number a b h = grind (arith, nat_tests, h)

module _ (shares : List Share) (p : ℕ) (y : Oref) (o : Obj) (x : Oref) (first : FirstOf y.repo p shares) (s : Share) (there : slice_get shares p ≡ Some s) where
  of_y : nat_eq s.repo y.repo ≡ true
  of_y = ap (is_of y.repo) (sym there) ∙ first.0

  here : nat_eq y.repo x.repo ≡ true → shares_write (slice_set shares p (with_write s y o)) x ≡ cond (eq_by_cmp oref_cmp x y) (Some o) (shares_write shares x)
  here h = let f : FirstOf x.repo p shares = subst (λ (r : ℕ). FirstOf r p shares) (equal_number y.repo x.repo h) first in
      first_set p shares s (with_write s y o) x f there refl ∙ (one_more s.writes y o x ∙ ap (λ (v : Option Obj). cond (eq_by_cmp oref_cmp x y) (Some o) v) (sym (first_writes p shares s x f there)))

  apart : (e : Bool) → eq_by_cmp oref_cmp x y ≡ e → nat_eq y.repo x.repo ≡ false → e ≡ false
  apart true h other = grind (arith, nat_tests, other, ap (λ (z : Oref). z.repo) (oref_exact x y (equal_of (oref_cmp x y) h)))
  apart false h other = refl

  elsewhere : nat_eq y.repo x.repo ≡ false → shares_write (slice_set shares p (with_write s y o)) x ≡ cond (eq_by_cmp oref_cmp x y) (Some o) (shares_write shares x)
  elsewhere h = other_set p shares s (with_write s y o) x there refl (ap (λ (r : ℕ). nat_eq r x.repo) (equal_number s.repo y.repo of_y) ∙ h)
      ∙ sym (ap (λ (b : Bool). cond b (Some o) (shares_write shares x)) (apart (eq_by_cmp oref_cmp x y) refl h))

  by_test : (b : Bool) → nat_eq y.repo x.repo ≡ b → shares_write (slice_set shares p (with_write s y o)) x ≡ cond (eq_by_cmp oref_cmp x y) (Some o) (shares_write shares x)
  by_test true h = here h
  by_test false h = elsewhere h

none_there : (r : ℕ) (o : Option Share) → o ≡ None → is_of r o ≡ true → ⊥
none_there r o h t = cc

by_place : (shares : List Share) (p : ℕ) (y : Oref) (o : Obj) (x : Oref) → FirstOf y.repo p shares → (s : Option Share) → slice_get shares p ≡ s
    → shares_write (written_on shares p y o s) x ≡ cond (eq_by_cmp oref_cmp x y) (Some o) (shares_write shares x)
by_place shares p y o x first None there = absurd (none_there y.repo (slice_get shares p) there first.0)
by_place shares p y o x first (Some s) there = by_test shares p y o x first s there (nat_eq y.repo x.repo) refl

-- a share of the object's repository writes it
pub wrote : (shares : List Share) (p : ℕ) (y : Oref) (o : Obj) (x : Oref) → FirstOf y.repo p shares → shares_write (written_at p y o shares) x ≡ cond (eq_by_cmp oref_cmp x y) (Some o) (shares_write shares x)
wrote shares p y o x first = by_place shares p y o x first (slice_get shares p) refl

-- ---- the writes, one after the other

pub keeps_up : (before after : List Share) (ws : List (Oref × Obj)) (y : Oref) (o : Obj) → ((x : Oref) → shares_write before x ≡ last_of ws x)
    → ((x : Oref) → shares_write after x ≡ cond (eq_by_cmp oref_cmp x y) (Some o) (shares_write before x)) → (x : Oref) → shares_write after x ≡ last_of (ws ++ (y, o) ∷ []) x
keeps_up before after ws y o h more x = more x ∙ (ap (λ (v : Option Obj). cond (eq_by_cmp oref_cmp x y) (Some o) v) (h x) ∙ sym (one_more ws y o x))

-- ---- shares that read more

same_set : (p : ℕ) (shares : List Share) (s t : Share) (x : Oref) → slice_get shares p ≡ Some s → t.repo ≡ s.repo → t.writes ≡ s.writes → shares_write (slice_set shares p t) x ≡ shares_write shares x
same_set p [] s t x there repo writes = refl
same_set zero (u ∷ us) s t x there repo writes =
    ap (λ (n : ℕ). cond (nat_eq n x.repo) (last_of t.writes x) (shares_write us x)) (repo ∙ ap (λ (w : Share). w.repo) (sym (same_Some u s there)))
    ∙ ap (λ (ws : List (Oref × Obj)). cond (nat_eq u.repo x.repo) (last_of ws x) (shares_write us x)) (writes ∙ ap (λ (w : Share). w.writes) (sym (same_Some u s there)))
same_set (suc p) (u ∷ us) s t x there repo writes = ap (λ (o : Option Obj). cond (nat_eq u.repo x.repo) (last_of u.writes x) o) (same_set p us s t x there repo writes)

reads_by : (p : ℕ) (shares : List Share) (y : Oref) (x : Oref) → (s : Option Share) → slice_get shares p ≡ s → shares_write (read_more_on shares p y s) x ≡ shares_write shares x
reads_by p shares y x None there = refl
reads_by p shares y x (Some s) there = same_set p shares s (with_read s y) x there refl refl

-- a share that reads more writes the same
pub reads_more : (p : ℕ) (shares : List Share) (y : Oref) (x : Oref) → shares_write (read_more_at p y shares) x ≡ shares_write shares x
reads_more p shares y x = reads_by p shares y x (slice_get shares p) refl

-- ---- a share that is new

abbrev no_object : Option Obj
no_object = None

nothing_of : (b : Bool) → cond b no_object no_object ≡ no_object
nothing_of true = refl
nothing_of false = refl

pub pushed_writes : (shares : List Share) (r : ℕ) (x : Oref) → shares_write (shares ++ new_share r ∷ []) x ≡ shares_write shares x
pushed_writes [] r x = nothing_of (nat_eq r x.repo)
pushed_writes (s ∷ ss) r x = ap (λ (o : Option Obj). cond (nat_eq s.repo x.repo) (last_of s.writes x) o) (pushed_writes ss r x)

at_end : (shares : List Share) (t : Share) → slice_get (shares ++ t ∷ []) (length shares) ≡ Some t
at_end [] t = refl
at_end (s ∷ ss) t = at_end ss t

below_end : (shares : List Share) (t : Share) (n : ℕ) → n < length shares → slice_get (shares ++ t ∷ []) n ≡ slice_get shares n
below_end [] t n l = absurd (omega (arith, l))
below_end (s ∷ ss) t zero l = refl
below_end (s ∷ ss) t (suc n) l = below_end ss t n (omega (arith, l))

same_number : (n : ℕ) → nat_eq n n ≡ true
same_number n = grind (arith, nat_tests)

pub pushed_first : (shares : List Share) (r : ℕ) → NoneOf r shares → FirstOf r (length shares) (shares ++ new_share r ∷ [])
pushed_first shares r none = (ap (is_of r) (at_end shares (new_share r)) ∙ same_number r, λ n l. ap (is_of r) (below_end shares (new_share r) n l) ∙ none n)

-- ---- the first share of a repository

ahead : (shares : List Share) (r place n : ℕ) → ((m : ℕ) → m < place → is_of r (slice_get shares m) ≡ false) → is_of r (slice_get shares place) ≡ false → (n ≡ place) ⊎ (n < place) → is_of r (slice_get shares n) ≡ false
ahead shares r place n h here (inl e) = ap (λ (m : ℕ). is_of r (slice_get shares m)) e ∙ here
ahead shares r place n h here (inr l) = h n l

pub one_fewer_left : (shares : List Share) (r place : ℕ) → ((n : ℕ) → n < place → is_of r (slice_get shares n) ≡ false) → is_of r (slice_get shares place) ≡ false
    → (n : ℕ) → n < place + 1 → is_of r (slice_get shares n) ≡ false
one_fewer_left shares r place h here n l = ahead shares r place n h here (eq-or-lt_of_le (omega (arith, l)))

past : (shares : List Share) (r n : ℕ) → ((m : ℕ) → m < length shares → is_of r (slice_get shares m) ≡ false) → (n < length shares) ⊎ (length shares ≤ n) → is_of r (slice_get shares n) ≡ false
past shares r n h (inl l) = h n l
past shares r n h (inr l) = ap (is_of r) (slice_get_past shares n l)

pub none_at_end : (shares : List Share) (r : ℕ) → ((n : ℕ) → n < length shares → is_of r (slice_get shares n) ≡ false) → NoneOf r shares
none_at_end shares r h n = past shares r n h (cases_lt n (length shares))
