-- A transaction above the greatest member is above each, and none is later then.
use Rattle.std.proofs.Common.{◌≡◌, ◌<◌, List, [], ◌∷◌, ap, arith, false, length, refl, suc, true}
use Rattle.std.specs.BTreeMap.Range.{entries_between}
use Rattle.std.specs.List.{All, AllByRecursion}
use Rattle.std.specs.Map.{keys_of}
use Rattle.std.specs.Ordering.{is_lt}
use Rattle.std.specs.Option.{option_or}
use Rattle.std.specs.Prelude.{Bool, None, cond, ◌&&◌}
use Rattle.std.specs.declared.cmp.Ordering.TheVariants.{Equal, Greater, Less}
use Rattle.std.specs.declared.cmp.Ordering.{Ordering}
use Rattle.std.specs.declared.ops.Bound.TheVariants.{Excluded, Unbounded}
use Rattle.thor_value.proofs.NameOrders.{ts_total}
use Rattle.thor_value.specs.Names.{ts_cmp}
use Rattle.thor_value.specs.declared.names.Oref.{Oref}
use Rattle.thor_value.specs.declared.names.Ts.{Ts}
use Rattle.validation_queue.specs.Clashes.{IsBehindAll, comes_later, first_some, is_before}
use Rattle.validation_queue.specs.declared.member.Member.{Member}

pub none_later : (tx : Ts) (read written : List Oref) (es : List (Ts × Member)) → IsBehindAll tx es → first_some (comes_later tx read written) es ≡ None
none_later tx read written [] h = refl
none_later tx read written (e ∷ es) h = rw h.0 (none_later tx read written es h.1)

-- the members behind a transaction
abbrev pub behind : Ts → List (Ts × Member) → List (Ts × Member)
behind tx es = entries_between ts_cmp (Excluded tx) Unbounded es

-- they decide
pub later_behind : (tx : Ts) (read written : List Oref) (es : List (Ts × Member)) → first_some (comes_later tx read written) (behind tx es) ≡ first_some (comes_later tx read written) es
later_behind tx read written [] = refl
later_behind tx read written (e ∷ es) = by (is_before tx e.0) refl (later_behind tx read written es)
  where
    by : (t : Bool) → is_before tx e.0 ≡ t → first_some (comes_later tx read written) (behind tx es) ≡ first_some (comes_later tx read written) es
        → first_some (comes_later tx read written) (cond (t && true) (e ∷ behind tx es) (behind tx es)) ≡ option_or (comes_later tx read written e) (first_some (comes_later tx read written) es)
    by true g more = ap (option_or (comes_later tx read written e)) more
    by false g more = rw g more

-- each pair by its key
by_keys : (P : Ts → Type 0) (es : List (Ts × Member)) → All P (keys_of es) → AllByRecursion (λ e. P e.0) es
by_keys P [] h = tt
by_keys P (e ∷ es) h = (h 0 e.0 (omega arith), by_keys P es (λ k d l. h (suc k) d (omega arith)))

no_less : (r : Ordering) → is_lt r ≡ false → ¬ (r ≡ Less)
no_less Less h e = cc
no_less Equal h e = cc
no_less Greater h e = cc

-- what isn't above the last isn't above what is above the last
apart : (tx last k : Ts) → is_lt (ts_cmp last tx) ≡ true → is_lt (ts_cmp last k) ≡ false → is_before tx k ≡ false
apart tx last k h n = by (ts_cmp tx k) refl
  where
    less : (r : Ordering) → is_lt r ≡ true → r ≡ Less
    less Less e = refl
    less Equal e = cc
    less Greater e = cc

    by : (r : Ordering) → ts_cmp tx k ≡ r → is_lt r ≡ false
    by Less e = absurd (no_less (ts_cmp last k) n (ts_total.trans last tx k (less (ts_cmp last tx) h) e))
    by Equal e = refl
    by Greater e = refl

every : (tx last : Ts) (es : List (Ts × Member)) → is_before last tx ≡ true → AllByRecursion (λ e. is_lt (ts_cmp last e.0) ≡ false) es → IsBehindAll tx es
every tx last [] h a = tt
every tx last (e ∷ es) h a = (apart tx last e.0 h a.0, every tx last es h a.1)

pub behind_all : (tx last : Ts) (es : List (Ts × Member)) → All (λ q. is_lt (ts_cmp last q) ≡ false) (keys_of es) → is_before last tx ≡ true → IsBehindAll tx es
behind_all tx last es a h = every tx last es h (by_keys (λ q. is_lt (ts_cmp last q) ≡ false) es a)

pub behind_none : (tx : Ts) (es : List (Ts × Member)) → ¬ (0 < length es) → IsBehindAll tx es
behind_none tx [] n = tt
behind_none tx (e ∷ es) n = absurd (n (omega arith))
