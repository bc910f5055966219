-- The objects that a run has written, as its answer lists them and as they stand in the copies then.
use Rattle.std.proofs.Common.{◌≡◌, ◌||◌, ℕ, Bool, true, false, cond, List, [], ◌∷◌, ◌++◌, Option, Some, None, refl, ap, subst, sym, ◌∙◌, append_assoc}
use Rattle.std.proofs.lemmas.List.{append-nil}
use Rattle.std.specs.BTreeMap.{is_at}
use Rattle.std.specs.List.{list_any}
use Rattle.std.specs.List.Sorted.{IsStrictlySortedBy}
use Rattle.std.specs.Option.{option_or}
use Rattle.std.specs.Prelude.{Err, IfOk, Ok, OnOk, Result, is_some, option_map}
use Rattle.thor_value.proofs.FiniteMap.{get-insert}
use Rattle.thor_value.proofs.NameOrders.{oref_total}
use Rattle.thor_value.specs.FiniteMap.{Map, empty, get, insert, overwrite}
use Rattle.thor_value.specs.Names.{oref_cmp}
use Rattle.thor_value.specs.declared.names.Oref.{Oref}
use Rattle.thor_value.specs.declared.values.Obj.{Obj}
use Rattle.class_defs.specs.Stored.{bare, in_epoch}
use Rattle.class_defs.specs.declared.store.Object.{Object}
use Rattle.client_cache.specs.Copies.{Contents, changed, has_written}
use Rattle.client_cache.specs.Pages.{same_name}
use Rattle.client_cache.specs.Slots.{dated}
use Rattle.method_eval.specs.Answers.{stored_at}
use Rattle.paused_eval.proofs.Hands.{name_tests, one_name, one_of as same_object}
use Rattle.paused_eval.specs.Copies.{Keeps, Tied, entries, entry, last_of, written_in}
use Rattle.paused_eval.specs.Writing.{Dates, SameUndated}

-- ---- one after the other

one : (epoch : ℕ) (x : Oref) (o : Option Obj) (rest : List (Oref × Object)) → stored_at epoch (entry x o rest) ≡ stored_at epoch (entry x o []) ++ stored_at epoch rest
one epoch x None rest = refl
one epoch x (Some o) rest = refl

of_any_version : (ver : ℕ) (x : Oref) (o : Option Obj) (rest : List (Oref × Object)) → entry x o rest ≡ entry x (option_map (dated ver) o) rest
of_any_version ver x None rest = refl
of_any_version ver x (Some o) rest = refl

same_entry : (ver : ℕ) (x : Oref) (o p : Option Obj) (rest : List (Oref × Object)) → option_map (dated ver) o ≡ option_map (dated ver) p → entry x o rest ≡ entry x p rest
same_entry ver x o p rest h = of_any_version ver x o rest ∙ (ap (λ (q : Option Obj). entry x q rest) h ∙ sym (of_any_version ver x p rest))

-- what is left comes behind what is there
pub one_more : (epoch : ℕ) (old cur : Contents) (x : Oref) (rest : List Oref) (before after all : List (Oref × Obj)) → SameUndated epoch old cur
    → after ≡ before ++ stored_at epoch (entry x (changed cur x) [])
    → before ++ stored_at epoch (entries (changed old) (x ∷ rest)) ≡ all
    → after ++ stored_at epoch (entries (changed old) rest) ≡ all
one_more epoch old cur x rest before after all s e h =
    let left : List (Oref × Object) = entries (changed old) rest in
    ap (λ (ws : List (Oref × Obj)). ws ++ stored_at epoch left) (e ∙ ap (λ (ws : List (Oref × Object)). before ++ stored_at epoch ws) (same_entry epoch x (changed cur x) (changed old x) [] (s.same x)))
    ∙ append_assoc before (stored_at epoch (entry x (changed old x) [])) (stored_at epoch left)
    ∙ ap (λ (ws : List (Oref × Obj)). before ++ ws) (sym (one epoch x (changed old x) left))
    ∙ h

-- ---- versions

twice : (ver : ℕ) (o : Option Obj) → option_map (dated ver) (option_map (dated ver) o) ≡ option_map (dated ver) o
twice ver None = refl
twice ver (Some o) = refl

-- all but those that are left are of the version
pub record Dating (ver : ℕ) (old cur : Contents) (left : List Oref) : Type 0 where
  pub kept : Keeps old cur
  pub same : SameUndated ver old cur
  pub done : (x : Oref) → list_any (is_at (oref_cmp x)) left ≡ false → option_map (dated ver) (changed cur x) ≡ changed cur x

not_written : (ver : ℕ) (o : Option Obj) → is_some o ≡ false → option_map (dated ver) o ≡ o
not_written ver None h = refl
not_written ver (Some o) h = cc

pub begins : (ver : ℕ) (c : Contents) → Tied c → Dating ver c c c.written
begins ver c t = record {
  kept = λ x. refl;
  same = record { same = λ x. refl };
  done = λ x h. not_written ver (changed c x) (t.marked x ∙ h);
}

module _ (ver : ℕ) (old cur new : Contents) (y : Oref) (rest : List Oref) (d : Dating ver old cur (y ∷ rest))
    (more : (x : Oref) → changed new x ≡ cond (same_name y x) (option_map (dated ver) (changed cur y)) (changed cur x)) where
  same_by : (x : Oref) (b : Bool) → same_name y x ≡ b → option_map (dated ver) (cond b (option_map (dated ver) (changed cur y)) (changed cur x)) ≡ option_map (dated ver) (changed old x)
  same_by x true h = twice ver (changed cur y) ∙ (d.same.same y ∙ ap (λ (z : Oref). option_map (dated ver) (changed old z)) (one_name y x h))
  same_by x false h = d.same.same x

  done_by : (x : Oref) (b : Bool) → same_name y x ≡ b → list_any (is_at (oref_cmp x)) rest ≡ false
      → option_map (dated ver) (cond b (option_map (dated ver) (changed cur y)) (changed cur x)) ≡ cond b (option_map (dated ver) (changed cur y)) (changed cur x)
  done_by x true h none = twice ver (changed cur y)
  done_by x false h none = d.done x (ap (λ (b : Bool). b || list_any (is_at (oref_cmp x)) rest) (sym (name_tests y x) ∙ h) ∙ none)

  pub goes_on : Keeps cur new → Dating ver old new rest
  goes_on keeps = record {
    kept = λ x. keeps x ∙ d.kept x;
    same = record { same = λ x. ap (option_map (dated ver)) (more x) ∙ same_by x (same_name y x) refl };
    done = λ x none. ap (option_map (dated ver)) (more x) ∙ (done_by x (same_name y x) refl none ∙ sym (more x));
  }

pub ends : (ver : ℕ) (old cur : Contents) → Dating ver old cur [] → Dates ver old cur
ends ver old cur d = record { all = λ x. sym (d.done x refl) ∙ d.same.same x }

-- ---- the answer, as what its writes make of an object

module _ (epoch : ℕ) (f : Oref → Option Obj) (x : Oref) where
  -- behind writes that make of each object among the names what was written
  abbrev made : Bool → Option Obj → Option Obj
  made named before = cond named (option_or (option_map (dated epoch) (f x)) before) before

  either : (b : Bool) (o : Option Obj) → cond b o o ≡ o
  either true o = refl
  either false o = refl

  none_made : (b named : Bool) (before : Option Obj) → (b ≡ true → f x ≡ None) → made named before ≡ made (b || named) before
  none_made true named before h = rw (h refl) (either named before)
  none_made false named before h = refl

  some_made : (b named : Bool) (o : Obj) (before : Option Obj) → (b ≡ true → f x ≡ Some o) → made named (cond b (Some (in_epoch epoch (bare o))) before) ≡ made (b || named) before
  some_made true named o before h = rw (h refl) (either named (Some (in_epoch epoch (bare o))))
  some_made false named o before h = refl

  at_first : (y : Oref) (ys : List Oref) (m : Map oref_cmp Obj) (o : Option Obj) → f y ≡ o
      → ((n : Map oref_cmp Obj) → get (overwrite n (stored_at epoch (entries f ys))) x ≡ made (list_any (is_at (oref_cmp x)) ys) (get n x))
      → get (overwrite m (stored_at epoch (entry y o (entries f ys)))) x ≡ made (list_any (is_at (oref_cmp x)) (y ∷ ys)) (get m x)
  at_first y ys m None e rest = rest m ∙ none_made (is_at (oref_cmp x) y) (list_any (is_at (oref_cmp x)) ys) (get m x) (λ h. ap f (same_object x y h) ∙ e)
  at_first y ys m (Some o) e rest =
      rest (insert m y (in_epoch epoch (bare o)))
      ∙ (ap (λ (v : Option Obj). made (list_any (is_at (oref_cmp x)) ys) v) (get-insert oref_total m y (in_epoch epoch (bare o)) x)
      ∙ some_made (is_at (oref_cmp x) y) (list_any (is_at (oref_cmp x)) ys) o (get m x) (λ h. ap f (same_object x y h) ∙ e))

  over : (xs : List Oref) (m : Map oref_cmp Obj) → get (overwrite m (stored_at epoch (entries f xs))) x ≡ made (list_any (is_at (oref_cmp x)) xs) (get m x)
  over [] m = refl
  over (y ∷ ys) m = at_first y ys m (f y) refl (λ n. over ys n)

as_written : (ver : ℕ) (named : Bool) (o : Option Obj) → is_some o ≡ named → cond named (option_or (option_map (dated ver) o) None) None ≡ option_map (dated ver) o
as_written ver true None h = refl
as_written ver true (Some o) h = refl
as_written ver false None h = refl
as_written ver false (Some o) h = cc

pub listed : (epoch : ℕ) (c : Contents) (x : Oref) → Tied c → last_of (stored_at epoch (written_in c).pairs) x ≡ option_map (dated epoch) (changed c x)
unfolding written_in
listed epoch c x t = over epoch (changed c) x c.written empty ∙ as_written epoch (has_written c x) (changed c x) (t.marked x)

-- what is written stands as it is answered
pub stands_so : (epoch : ℕ) (old new : Contents) (writes : List (Oref × Obj)) → Tied old → Dates epoch old new → writes ≡ stored_at epoch (written_in old).pairs
    → (x : Oref) → changed new x ≡ last_of writes x
stands_so epoch old new writes t d e x = d.all x ∙ (sym (listed epoch old x t) ∙ ap (λ (ws : List (Oref × Obj)). last_of ws x) (sym e))

-- ---- the names beside the copies

some_dated : (ver : ℕ) (o : Option Obj) → is_some o ≡ is_some (option_map (dated ver) o)
some_dated ver None = refl
some_dated ver (Some o) = refl

pub still_tied : (ver : ℕ) (old new : Contents) → Tied old → new.written ≡ old.written → SameUndated ver old new → Tied new
still_tied ver old new t e s = record {
  rising = subst (λ (xs : List Oref). IsStrictlySortedBy oref_cmp xs) (sym e) t.rising;
  marked = λ x. same_mark x ∙ (t.marked x ∙ sym (ap (λ (xs : List Oref). list_any (is_at (oref_cmp x)) xs) e));
  within = λ x k. t.within x (sym (same_mark x) ∙ k);
}
  where
    same_mark : (x : Oref) → is_some (changed new x) ≡ is_some (changed old x)
    same_mark x = some_dated ver (changed new x) ∙ (ap is_some (s.same x) ∙ sym (some_dated ver (changed old x)))

-- ---- what the function answers

-- where none is left, they are all
pub all_listed : (epoch : ℕ) (f : Oref → Option Obj) (left : List Oref) (writes all : List (Oref × Obj)) → left ≡ [] → writes ++ stored_at epoch (entries f left) ≡ all → writes ≡ all
all_listed epoch f left writes all none h = sym (append-nil writes) ∙ (sym (ap (λ (xs : List Oref). writes ++ stored_at epoch (entries f xs)) none) ∙ h)

pub by_names : {E : Type 0} (r : Result (List (Oref × Obj)) E) (epoch : ℕ) (c : Contents)
    → IfOk r (λ ws. ws ≡ stored_at epoch (entries (changed c) c.written)) → IfOk r (λ ws. ws ≡ stored_at epoch (written_in c).pairs)
unfolding written_in
by_names (Ok ws) epoch c h = h
by_names (Err e) epoch c h = tt

pub so_they_stand : {E : Type 0} (r : Result (List (Oref × Obj)) E) (epoch : ℕ) (old new : Contents) → Tied old → OnOk r (Dates epoch old new)
    → IfOk r (λ ws. ws ≡ stored_at epoch (written_in old).pairs) → IfOk r (λ ws. (x : Oref) → changed new x ≡ last_of ws x)
so_they_stand (Ok ws) epoch old new t d h = stands_so epoch old new ws t d h
so_they_stand (Err e) epoch old new t d h = tt
