-- Marks of several objects, in turn.
use Rattle.cached_sets.specs.Cost.{touch_steps}
use Rattle.cached_sets.specs.Invalid.{Invalids, mark}
use Rattle.cached_sets.specs.Sets.{marked, others, touches}
use Rattle.link_table.specs.Pairs.{lefts}
use Rattle.std.proofs.Common.{Bool, List, [], add-one, ap, append_assoc, arith, cond, drop, drop-cons, false, get_or, length, map, nat_eq, refl, suc, sym, true, ◌+◌, ◌++◌, ◌<◌, ◌∙◌, ◌∷◌, ◌≡◌}
use Rattle.std.proofs.lemmas.List.Sums.{sum_by-cons}
use Rattle.std.proofs.lemmas.List.{append-nil}
use Rattle.std.specs.List.{filter}
use Rattle.std.specs.Map.{keys_of}
use Rattle.std.specs.Result.{OnOk, is_err}
use Rattle.std.specs.Prelude.{Err, Ok, Result, not, ℕ}
use Rattle.thor_value.specs.declared.values.Obj.{Obj}
use Rattle.thor_value.specs.declared.names.Oref.{Oref}

pub marked_append : (N : Invalids) (ts us : List (ℕ × Oref)) (k : ℕ) → marked N (ts ++ us) k ≡ marked (marked N ts k) us k
marked_append N [] us k = refl
marked_append N (t ∷ ts) us k = marked_append (mark N t.0 t.1 k) ts us k

-- those of one session, and of the others
one_more : (w : ℕ) (x : Oref) (s : ℕ) (ss : List ℕ) → others w x (s ∷ ss) ≡ others w x (s ∷ []) ++ others w x ss
one_more w x s ss = by (nat_eq s w)
  where
    by : (t : Bool) → map (λ n. (n, x)) (cond (not t) (s ∷ filter (λ n. not (nat_eq n w)) ss) (filter (λ n. not (nat_eq n w)) ss)) ≡ map (λ n. (n, x)) (cond (not t) (s ∷ []) []) ++ others w x ss
    by true = refl
    by false = refl

pub alone : (w : ℕ) (x : Oref) (s : ℕ) → nat_eq s w ≡ false → others w x (s ∷ []) ≡ (s, x) ∷ []
alone w x s h = rw h refl

pub none_of_own : (w : ℕ) (x : Oref) (s : ℕ) → nat_eq s w ≡ true → others w x (s ∷ []) ≡ []
none_of_own w x s h = rw h refl

-- the sessions from one on: that one, and those behind it
goes_on : (ss : List ℕ) (i d : ℕ) → i < length ss → drop i ss ≡ get_or ss i d ∷ drop (i + 1) ss
goes_on ss i d l = rw add-one (drop-cons ss i d l)

pub fewer : (ss : List ℕ) (i d : ℕ) → i < length ss → length (drop i ss) ≡ length (drop (i + 1) ss) + 1
fewer ss i d l = rw (goes_on ss i d l) (omega arith)

pub others_from : (w : ℕ) (x : Oref) (ss : List ℕ) (i d : ℕ) → i < length ss → others w x (drop i ss) ≡ others w x (get_or ss i d ∷ []) ++ others w x (drop (i + 1) ss)
others_from w x ss i d l = ap (others w x) (goes_on ss i d l) ∙ one_more w x (get_or ss i d) (drop (i + 1) ss)

-- the marks of the sessions from one on: of that one, and of those behind it
pub marks_on : (N : Invalids) (w : ℕ) (x : Oref) (k : ℕ) (ss : List ℕ) (i d : ℕ) → i < length ss → marked (marked N (others w x (get_or ss i d ∷ [])) k) (others w x (drop (i + 1) ss)) k ≡ marked N (others w x (drop i ss)) k
marks_on N w x k ss i d l = sym (marked_append N (others w x (get_or ss i d ∷ [])) (others w x (drop (i + 1) ss)) k) ∙ ap (λ (ts : List (ℕ × Oref)). marked N ts k) (sym (others_from w x ss i d l))

pub tells_on : (told : List (ℕ × Oref)) (w : ℕ) (x : Oref) (ss : List ℕ) (i d : ℕ) → i < length ss → (told ++ others w x (get_or ss i d ∷ [])) ++ others w x (drop (i + 1) ss) ≡ told ++ others w x (drop i ss)
tells_on told w x ss i d l = append_assoc told (others w x (get_or ss i d ∷ [])) (others w x (drop (i + 1) ss)) ∙ ap (λ (ts : List (ℕ × Oref)). told ++ ts) (sym (others_from w x ss i d l))

-- the writes from one on: the marks of that one, and of those behind it
pub touches_from : (cached : List (ℕ × ℕ)) (w : ℕ) (ws : List (Oref × Obj)) (i : ℕ) (d : Oref × Obj) → i < length ws
    → touches cached w (keys_of (drop i ws)) ≡ others w (get_or ws i d).0 (lefts cached (get_or ws i d).0.page) ++ touches cached w (keys_of (drop (i + 1) ws))
touches_from cached w ws i d l =
    let parts : drop i ws ≡ get_or ws i d ∷ drop (suc i) ws = drop-cons ws i d l in
    rw (parts, add-one) refl

-- the steps of the writes from one on: of that one, and of those behind it
pub steps_from : (cached : List (ℕ × ℕ)) (ws : List (Oref × Obj)) (i : ℕ) (d : Oref × Obj) → i < length ws
    → touch_steps cached (keys_of (drop i ws)) ≡ (1 + length (lefts cached (get_or ws i d).0.page)) + touch_steps cached (keys_of (drop (i + 1) ws))
steps_from cached ws i d l =
    let parts : drop i ws ≡ get_or ws i d ∷ drop (suc i) ws = drop-cons ws i d l in
    rw (parts, add-one) (sum_by-cons (λ (x : Oref). 1 + length (lefts cached x.page)) (get_or ws i d).0 (keys_of (drop (suc i) ws)))

-- none comes to the others
pub none_more : (ts : List (ℕ × Oref)) → ts ++ [] ≡ ts
none_more ts = append-nil ts

pub on_ok : {T E P : Type 0} (r : Result T E) → is_err r ≡ false → OnOk r P → P
on_ok (Ok x) h p = p
on_ok (Err e) h p = absurd cc
