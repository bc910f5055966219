-- Where every member is decided, none stands in the way as an undecided one, and this stays so where decided ones come and
-- members leave.
use Rattle.std.proofs.Common.{◌≡◌, Bool, List, [], ◌∷◌, cond, false, find, not, refl, true, ◌&&◌}
use Rattle.std.specs.BTreeMap.{insert_entry, is_at}
use Rattle.std.specs.Map.{remove_entry}
use Rattle.std.specs.Option.{option_map, option_or}
use Rattle.std.specs.Ordering.{match_ordering}
use Rattle.std.specs.Prelude.{None, Option, Some}
use Rattle.std.specs.declared.cmp.Ordering.TheVariants.{Equal, Greater, Less}
use Rattle.std.specs.declared.cmp.Ordering.{Ordering}
use Rattle.thor_value.specs.Names.{ts_cmp}
use Rattle.thor_value.specs.declared.names.Oref.{Oref}
use Rattle.thor_value.specs.declared.names.Ts.{Ts}
use Rattle.validation_queue.specs.Clashes.{comes_earlier, first_some, is_before}
use Rattle.validation_queue.specs.Contents.{is_blocking, omit}
use Rattle.validation_queue.specs.Names.{is_among}
use Rattle.base_reasons.specs.declared.reason.Reason.TheVariants as reasons
use Rattle.validation_queue.specs.declared.member.Member.{Member}

abbrev is_open : Ts × Member → Bool
is_open e = not e.1.decided

pub none_blocking : (upgrade : Bool) (es : List (Ts × Member)) → find (λ e. not e.1.decided) es ≡ None → find (λ e. is_blocking upgrade e.1) es ≡ None
none_blocking upgrade [] h = refl
none_blocking upgrade (e ∷ es) h = by e.1.decided h (none_blocking upgrade es)
  where
    by : (d : Bool) → cond (not d) (Some e) (find is_open es) ≡ None → (find is_open es ≡ None → find (λ e. is_blocking upgrade e.1) es ≡ None) → cond (cond d false (cond upgrade true e.1.upgrade)) (Some e) (find (λ e. is_blocking upgrade e.1) es) ≡ None
    by true h more = more h
    by false h more = cc

pub none_earlier : (tx : Ts) (read : List Oref) (es : List (Ts × Member)) → find (λ e. not e.1.decided) es ≡ None → first_some (comes_earlier tx read) es ≡ None
none_earlier tx read [] h = refl
none_earlier tx read (e ∷ es) h = by e.1.decided h (none_earlier tx read es)
  where
    by : (d : Bool) → cond (not d) (Some e) (find is_open es) ≡ None → (find is_open es ≡ None → first_some (comes_earlier tx read) es ≡ None) → option_or (cond (not d && is_before e.0 tx) (option_map (reasons.Earlier e.0) (find (is_among e.1.written) read)) None) (first_some (comes_earlier tx read) es) ≡ None
    by true h more = more h
    by false h more = cc

-- a decided one comes
pub insert_decided : (es : List (Ts × Member)) (k : Ts) (m : Member) → m.decided ≡ true → find is_open es ≡ None → find is_open (insert_entry ts_cmp es k m) ≡ None
insert_decided [] k m d h = rw d refl
insert_decided (e ∷ es) k m d h = by (ts_cmp k e.0) e.1.decided refl h (insert_decided es k m d)
  where
    by : (r : Ordering) (b : Bool) → e.1.decided ≡ b → cond (not b) (Some e) (find is_open es) ≡ None → (find is_open es ≡ None → find is_open (insert_entry ts_cmp es k m) ≡ None) → find is_open (match_ordering r ((k, m) ∷ e ∷ es) ((e.0, m) ∷ es) (e ∷ insert_entry ts_cmp es k m)) ≡ None
    by Less true f h more = rw (d, f) h
    by Equal true f h more = rw d h
    by Greater true f h more = rw f (more h)
    by Less false f h more = cc
    by Equal false f h more = cc
    by Greater false f h more = cc

-- one leaves
pub remove_decided : (test : Ts → Bool) (es : List (Ts × Member)) → find is_open es ≡ None → find is_open (remove_entry test es) ≡ None
remove_decided test [] h = refl
remove_decided test (e ∷ es) h = by (test e.0) e.1.decided refl h (remove_decided test es)
  where
    by : (t b : Bool) → e.1.decided ≡ b → cond (not b) (Some e) (find is_open es) ≡ None → (find is_open es ≡ None → find is_open (remove_entry test es) ≡ None) → find is_open (cond t es (e ∷ remove_entry test es)) ≡ None
    by true true f h more = h
    by false true f h more = rw f (more h)
    by true false f h more = cc
    by false false f h more = cc

-- one leaves, where there is one
omit_decided : (es : List (Ts × Member)) (leaving : Option Ts) → find is_open es ≡ None → find is_open (omit (record { pairs = es }) leaving).pairs ≡ None
omit_decided es None h = h
omit_decided es (Some t) h = remove_decided (is_at (ts_cmp t)) es h

both : (a d : Bool) → cond a d false ≡ true → (a ≡ true) × (d ≡ true)
both true d h = (refl, h)
both false d h = cc

-- a decided one comes, and one leaves, where there is one
pub with_decided : (es : List (Ts × Member)) (leaving : Option Ts) (k : Ts) (m : Member) (all_decided : Bool) → (all_decided ≡ true → find is_open es ≡ None) → cond all_decided m.decided false ≡ true → find is_open (insert_entry ts_cmp (omit (record { pairs = es }) leaving).pairs k m) ≡ None
with_decided es leaving k m all kept h =
    let parts : (all ≡ true) × (m.decided ≡ true) = both all m.decided h in
    insert_decided (omit (record { pairs = es }) leaving).pairs k m parts.1 (omit_decided es leaving (kept parts.0))
