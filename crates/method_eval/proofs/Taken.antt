-- The names that are given are those that an evaluation takes.
use Rattle.std.proofs.Common.{◌≡◌, ◌+◌, ◌==◌, Bool, true, false, cond, List, [], ◌∷◌, length, ℕ, zero, suc, refl, ap, sym, ◌∙◌, arith, slice_get, Option, Some, None, option_map}
use Rattle.std.proofs.lemmas.Bool.Decides.{nat_tests}
use Rattle.std.proofs.lemmas.List.Folds.{find_at}
use Rattle.std.specs.List.{position_or_len}
use Rattle.std.specs.Prelude.{find, nat_lt, not, position, remove}
use Rattle.thor_value.specs.declared.names.Oref.{Oref}
use Rattle.class_defs.specs.Objects.{name_at, stand_in_from, stand_in_name, take_name}
use Rattle.class_defs.specs.declared.limits.TheConstants.{STAND_IN_LIMIT}
use Rattle.class_defs.specs.declared.machine.NameSupply.{NameSupply}
use Rattle.method_eval.proofs.Holding.{past}
use Rattle.method_eval.specs.Names.{Names, give, next, next_by, next_stand_in, orefs, supply, waiting, waits_in}
use Rattle.method_eval.specs.declared.held.Held.{Held}

abbrev here : ℕ → Oref → Bool
here repo x = x.repo == repo

-- the first waiting name of a repository is the first that may be given there
found_names : (repo : ℕ) (held : List Held) → find (here repo) (orefs (waiting held)) ≡ option_map (λ h. h.oref) (find (waits_in repo) held)
found_names repo [] = refl
found_names repo (k ∷ held) = by k.given (found_names repo held)
  where
    chosen : (b : Bool) → find (here repo) (orefs (waiting held)) ≡ option_map (λ h. h.oref) (find (waits_in repo) held)
        → cond b (Some k.oref) (find (here repo) (orefs (waiting held))) ≡ option_map (λ (h : Held). h.oref) (cond b (Some (record { oref = k.oref; given = false })) (find (waits_in repo) held))
    chosen true rest = refl
    chosen false rest = rest

    by : (g : Bool) → find (here repo) (orefs (waiting held)) ≡ option_map (λ h. h.oref) (find (waits_in repo) held)
        → find (here repo) (orefs (waiting (record { oref = k.oref; given = g } ∷ held))) ≡ option_map (λ (h : Held). h.oref) (find (waits_in repo) (record { oref = k.oref; given = g } ∷ held))
    by true rest = rest
    by false rest = chosen (k.oref.repo == repo) rest

-- and it is taken out where it is given
given_out : (repo : ℕ) (held : List Held) (h : Held) → find (waits_in repo) held ≡ Some h
    → remove (orefs (waiting held)) (position_or_len (here repo) (orefs (waiting held))) ≡ orefs (waiting (give (waits_in repo) held))
given_out repo [] h e = cc
given_out repo (k ∷ held) h e = by k.given e (λ f. given_out repo held h f)
  where
    chosen : (b : Bool) → cond b (Some (record { oref = k.oref; given = false })) (find (waits_in repo) held) ≡ Some h
        → (find (waits_in repo) held ≡ Some h → remove (orefs (waiting held)) (position_or_len (here repo) (orefs (waiting held))) ≡ orefs (waiting (give (waits_in repo) held)))
        → remove (k.oref ∷ orefs (waiting held)) (cond (not b) (1 + position_or_len (here repo) (orefs (waiting held))) 0)
        ≡ orefs (waiting (cond b (record { oref = k.oref; given = true } ∷ held) (record { oref = k.oref; given = false } ∷ give (waits_in repo) held)))
    chosen true f rest = refl
    chosen false f rest =
        let i : ℕ = position_or_len (here repo) (orefs (waiting held)) in
        ap (remove (k.oref ∷ orefs (waiting held))) (let e : 1 + i ≡ suc i = omega arith in e)
        ∙ ap (λ (xs : List Oref). k.oref ∷ xs) (rest f)

    by : (g : Bool) → find (waits_in repo) (record { oref = k.oref; given = g } ∷ held) ≡ Some h
        → (find (waits_in repo) held ≡ Some h → remove (orefs (waiting held)) (position_or_len (here repo) (orefs (waiting held))) ≡ orefs (waiting (give (waits_in repo) held)))
        → remove (orefs (waiting (record { oref = k.oref; given = g } ∷ held))) (position_or_len (here repo) (orefs (waiting (record { oref = k.oref; given = g } ∷ held))))
        ≡ orefs (waiting (give (waits_in repo) (record { oref = k.oref; given = g } ∷ held)))
    by true f rest = rest f
    by false f rest = chosen (k.oref.repo == repo) f rest

within : (xs : List Oref) (i : ℕ) → nat_lt i (length xs) ≡ true → slice_get xs i ≡ None → ⊥
within [] i l e = absurd (grind (arith, nat_tests))
within (x ∷ xs) zero l e = cc
within (x ∷ xs) (suc i) l e = within xs i (grind (arith, nat_tests)) e

below : (xs : List Oref) (i : ℕ) (x : Oref) → slice_get xs i ≡ Some x → nat_lt i (length xs) ≡ true
below xs i x e = by (nat_lt i (length xs)) refl
  where
    by : (b : Bool) → nat_lt i (length xs) ≡ b → nat_lt i (length xs) ≡ true
    by true is = is
    by false is = let f : slice_get xs i ≡ None = past xs i is in cc

not_below : (xs : List Oref) (i : ℕ) → slice_get xs i ≡ None → nat_lt i (length xs) ≡ false
not_below xs i e = by (nat_lt i (length xs)) refl
  where
    by : (b : Bool) → nat_lt i (length xs) ≡ b → nat_lt i (length xs) ≡ false
    by true is = absurd (within xs i is e)
    by false is = is

pub taken : (n : Names) (repo : ℕ) → take_name repo (supply n) ≡ option_map (λ x. (x, supply (next repo n).1)) (next repo n).0
unfolding take_name
taken n repo = by (find (waits_in repo) n.held) refl
  where
    at : (o : Option Held) → find (waits_in repo) n.held ≡ o → slice_get (orefs (waiting n.held)) (position_or_len (here repo) (orefs (waiting n.held))) ≡ option_map (λ h. h.oref) o
    at o is = sym (find_at (here repo) (orefs (waiting n.held))) ∙ found_names repo n.held ∙ ap (option_map (λ (h : Held). h.oref)) is

    chosen : (k : ℕ) (b : Bool) → cond {A = Option (Oref × NameSupply)} b (Some (stand_in_name k, record (supply n) { stand_in = Some (k + 1) })) None
        ≡ option_map (λ (x : Oref). (x, supply (cond {A = Option Oref × Names} b (Some (stand_in_name k), record n { stand_in = Some (k + 1) }) (None, n)).1)) (cond {A = Option Oref × Names} b (Some (stand_in_name k), record n { stand_in = Some (k + 1) }) (None, n)).0
    chosen k true = refl
    chosen k false = refl

    stand_in : (o : Option ℕ) → stand_in_from (supply n) o ≡ option_map (λ x. (x, supply (next_stand_in n o).1)) (next_stand_in n o).0
    stand_in None = refl
    stand_in (Some k) = chosen k (nat_lt k STAND_IN_LIMIT)

    by : (o : Option Held) → find (waits_in repo) n.held ≡ o
        → name_at (supply n) (position (here repo) (orefs (waiting n.held))) ≡ option_map (λ x. (x, supply (next_by n repo o).1)) (next_by n repo o).0
    by (Some h) is =
        let names : List Oref = orefs (waiting n.held) in
        let i : ℕ = position_or_len (here repo) names in
        let there : slice_get names i ≡ Some h.oref = at (Some h) is in
        ap (λ b. name_at (supply n) (cond b (Some i) None)) (below names i h.oref there)
        ∙ ap (option_map (λ (x : Oref). (x, record (supply n) { waiting = remove names i }))) there
        ∙ ap (λ (xs : List Oref). Some (h.oref, record (supply n) { waiting = xs })) (given_out repo n.held h is)
    by None is =
        let names : List Oref = orefs (waiting n.held) in
        let i : ℕ = position_or_len (here repo) names in
        ap (λ b. name_at (supply n) (cond b (Some i) None)) (not_below names i (at None is)) ∙ stand_in n.stand_in
