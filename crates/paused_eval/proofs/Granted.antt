-- Names of pages stay names of pages as they are given.
use Rattle.std.proofs.Common.{arith, ◌≡◌, ◌<◌, ◌==◌, Bool, true, false, cond, List, [], ◌∷◌, ℕ, Option, Some, None, refl, ap, sym, ◌∙◌, subst}
use Rattle.std.specs.List.{AllByRecursion, filter}
use Rattle.std.specs.Prelude.{find, map, not, ◌++◌}
use Rattle.thor_value.specs.FiniteMap.{has}
use Rattle.thor_value.specs.declared.names.Oref.{Oref}
use Rattle.method_eval.specs.Names.{Names, drop_repo, free, give, grant, next, next_by, next_stand_in, page_names, reset, spend, waits_in}
use Rattle.method_eval.specs.declared.held.Held.{Held}
use Rattle.paused_eval.specs.FromPages.{FromPages}

abbrev In : List Held → Type 0
In held = AllByRecursion (λ (h : Held). h.oref.slot < 12) held

give_in : (test : Held → Bool) (held : List Held) → In held → In (give test held)
give_in test [] h = tt
give_in test (x ∷ held) h = by (test x) (give_in test held h.1)
  where
    by : (b : Bool) → In (give test held) → In (cond b (record { oref = x.oref; given = true } ∷ held) (x ∷ give test held))
    by true rest = (h.0, h.1)
    by false rest = (h.0, rest)

abbrev slot_of : Option Held → ℕ
slot_of None = 0
slot_of (Some z) = z.oref.slot

found_in : (test : Held → Bool) (held : List Held) (x : Held) → In held → find test held ≡ Some x → x.oref.slot < 12
found_in test [] x h e = cc
found_in test (y ∷ held) x h e = by (test y) e (found_in test held x h.1)
  where
    by : (b : Bool) → cond b (Some y) (find test held) ≡ Some x → (find test held ≡ Some x → x.oref.slot < 12) → x.oref.slot < 12
    by true e rest = subst (λ (i : ℕ). i < 12) (ap slot_of e) h.0
    by false e rest = rest e

by_granted : (n : Names) (repo : ℕ) (o : Option Held) → FromPages n → FromPages (next_by n repo o).1
by_granted n repo (Some h) p = record { slots = give_in (waits_in repo) n.held p.slots; granted = p.granted; kept = p.kept }
by_granted n repo None p = subst (λ (k : Option ℕ). FromPages (next_stand_in n k).1) (sym p.granted) p

pub next_granted : (n : Names) (repo : ℕ) → FromPages n → FromPages (next repo n).1
next_granted n repo p = by_granted n repo (find (waits_in repo) n.held) p

abbrev oref_of : Option Oref → ℕ
oref_of None = 0
oref_of (Some x) = x.slot

by_within : (n : Names) (repo : ℕ) (x : Oref) (o : Option Held) → find (waits_in repo) n.held ≡ o → FromPages n → (next_by n repo o).0 ≡ Some x → x.slot < 12
by_within n repo x (Some h) is p e = subst (λ (i : ℕ). i < 12) (ap oref_of e) (found_in (waits_in repo) n.held h p.slots is)
by_within n repo x None is p e = absurd (never x (sym (ap (λ (k : Option ℕ). (next_stand_in n k).0) p.granted) ∙ e))
  where
    never : (y : Oref) → None ≡ Some y → ⊥
    never y e = cc

pub next_within : (n : Names) (repo : ℕ) (x : Oref) → FromPages n → (next repo n).0 ≡ Some x → x.slot < 12
next_within n repo x p e = by_within n repo x (find (waits_in repo) n.held) refl p e

-- ---- what a client does with its names

in_filter : (test : Held → Bool) (held : List Held) → In held → In (filter test held)
in_filter test [] h = tt
in_filter test (x ∷ held) h = by (test x) (in_filter test held h.1)
  where
    by : (b : Bool) → In (filter test held) → In (cond b (x ∷ filter test held) (filter test held))
    by true rest = (h.0, rest)
    by false rest = rest

in_freed : (held : List Held) → In held → In (map (λ h. free h.oref) held)
in_freed [] h = tt
in_freed (x ∷ held) h = (h.0, in_freed held h.1)

in_both : (held more : List Held) → In held → In more → In (held ++ more)
in_both [] more h g = g
in_both (x ∷ held) more h g = (h.0, in_both held more h.1 g)

abbrev InPage : List Oref → Type 0
InPage xs = AllByRecursion (λ (x : Oref). x.slot < 12) xs

in_free : (test : Oref → Bool) (xs : List Oref) → InPage xs → In (map free (filter test xs))
in_free test [] h = tt
in_free test (x ∷ xs) h = by (test x) (in_free test xs h.1)
  where
    by : (b : Bool) → In (map free (filter test xs)) → In (map free (cond b (x ∷ filter test xs) (filter test xs)))
    by true rest = (h.0, rest)
    by false rest = rest

in_page : (repo page : ℕ) → InPage (page_names repo page)
in_page repo page = (omega arith, (omega arith, (omega arith, (omega arith, (omega arith, (omega arith, (omega arith, (omega arith, (omega arith, (omega arith, (omega arith, (omega arith, tt))))))))))))

pub granted_page : (n : Names) (repo page : ℕ) → FromPages n → FromPages (grant n repo page)
granted_page n repo page p = record {
  slots = in_both n.held _ p.slots (in_free (λ x. not (has n.spent x)) (page_names repo page) (in_page repo page));
  granted = p.granted;
  kept = p.kept;
}

pub granted_reset : (n : Names) → FromPages n → FromPages (reset n)
granted_reset n p = record { slots = in_freed n.held p.slots; granted = p.kept; kept = p.kept }

pub granted_spend : (n : Names) → FromPages n → FromPages (spend n)
granted_spend n p = record { slots = in_filter (λ h. not h.given) n.held p.slots; granted = p.granted; kept = p.granted }

pub granted_drop : (n : Names) (repo : ℕ) → FromPages n → FromPages (drop_repo n repo)
granted_drop n repo p = record { slots = in_filter (λ h. not (h.oref.repo == repo)) n.held p.slots; granted = p.granted; kept = p.kept }
