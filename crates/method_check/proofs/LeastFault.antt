-- That the fault which is told is the least of all.
use Rattle.std.proofs.Common.{◌≡◌, ◌⊎◌, inl, inr, ℕ, zero, suc, ◌+◌, ◌<◌, slice_index_or, Bool, true, false, cond, List, [], ◌∷◌, length, Some, None, Contains, refl, sym, ◌∙◌, subst, arith, ◌||◌, ◌&&◌, ◌==◌, nat_lt}
use Rattle.std.specs.List.{AllByRecursion}
use Rattle.std.proofs.lemmas.Bool.Decides.{nat_tests}
use Rattle.std.proofs.lemmas.List.Elements.{Contains-append_right}
use Rattle.class_defs.specs.Rules.{least, least_with, rule_number, told_before}
use Rattle.class_defs.specs.declared.rules.RuleFault.{RuleFault}

-- a pair of numbers comes before another
abbrev before : ℕ → ℕ → ℕ → ℕ → Bool
before a r b s = nat_lt a b || (a == b && nat_lt r s)

not_itself : (a r : ℕ) → before a r a r ≡ false
not_itself a r = grind (arith, nat_tests)

through : (a r b s c q : ℕ) → before a r b s ≡ true → before a r c q ≡ false → before b s c q ≡ false
through a r b s c q h k = grind (arith, nat_tests)

further : (a r b s c q : ℕ) → before a r b s ≡ false → before b s c q ≡ false → before a r c q ≡ false
further a r b s c q h k = grind (arith, nat_tests)

-- a fault that is told is not told after another
abbrev NotAfter : RuleFault → RuleFault → Type 0
NotAfter told other = told_before other told ≡ false

record IsLeast (found : RuleFault) (faults : List RuleFault) (told : RuleFault) : Type 0 where
  one : (told ≡ found) ⊎ Contains faults told
  begin : NotAfter told found
  rest : AllByRecursion (NotAfter told) faults

behind : (f : RuleFault) (fs : List RuleFault) (t : RuleFault) → Contains fs t → Contains (f ∷ fs) t
behind f fs t c = Contains-append_right (f ∷ []) fs t c

here : (f : RuleFault) (fs : List RuleFault) (t : RuleFault) → t ≡ f → Contains (f ∷ fs) t
here f fs t e = (0, omega arith, sym e)

in_rest : (f : RuleFault) (fs : List RuleFault) (t : RuleFault) → (t ≡ f) ⊎ Contains fs t → Contains (f ∷ fs) t
in_rest f fs t (inl e) = here f fs t e
in_rest f fs t (inr c) = behind f fs t c

found_or_rest : (g f : RuleFault) (fs : List RuleFault) (t : RuleFault) → (t ≡ g) ⊎ Contains fs t → (t ≡ g) ⊎ Contains (f ∷ fs) t
found_or_rest g f fs t (inl e) = inl e
found_or_rest g f fs t (inr c) = inr (behind f fs t c)

is_least_by : (b : Bool) (g f : RuleFault) (fs : List RuleFault) (t : RuleFault) → told_before f g ≡ b → ((h : RuleFault) → least_with (Some h) fs ≡ Some t → IsLeast h fs t) → least_with (cond b (Some f) (Some g)) fs ≡ Some t → IsLeast g (f ∷ fs) t
is_least_by true g f fs t b next h = let l : IsLeast f fs t = next f h in record {
  one = inr (in_rest f fs t l.one);
  begin = through f.line (rule_number f.rule) g.line (rule_number g.rule) t.line (rule_number t.rule) b l.begin;
  rest = (l.begin, l.rest);
}
is_least_by false g f fs t b next h = let l : IsLeast g fs t = next g h in record {
  one = found_or_rest g f fs t l.one;
  begin = l.begin;
  rest = (further f.line (rule_number f.rule) g.line (rule_number g.rule) t.line (rule_number t.rule) b l.begin, l.rest);
}

is_least : (fs : List RuleFault) (g t : RuleFault) → least_with (Some g) fs ≡ Some t → IsLeast g fs t
is_least [] g t h =
    let e : g ≡ t = cc in
    let P : RuleFault → Type 0 = λ x. told_before g x ≡ false in
    record { one = inl (sym e); begin = subst P e (not_itself g.line (rule_number g.rule)); rest = tt }
is_least (f ∷ fs) g t h = is_least_by (told_before f g) g f fs t refl (λ g2 h2. is_least fs g2 t h2) h

-- one of the faults is told
pub one_of_them : (faults : List RuleFault) (told : RuleFault) → least faults ≡ Some told → Contains faults told
one_of_them [] told h = absurd (let bad : None ≡ Some told = h in cc)
one_of_them (f ∷ fs) told h = in_rest f fs told (is_least fs f told h).one

not_after_all : (faults : List RuleFault) (told : RuleFault) → least faults ≡ Some told → AllByRecursion (NotAfter told) faults
not_after_all [] told h = tt
not_after_all (f ∷ fs) told h = let l : IsLeast f fs told = is_least fs f told h in (l.begin, l.rest)

at_place : (P : RuleFault → Type 0) (fs : List RuleFault) (k : ℕ) (x : RuleFault) → AllByRecursion P fs → k < length fs → slice_index_or fs k x ≡ x → P x
at_place P [] k x all within is = absurd (omega (arith, within))
at_place P (f ∷ fs) zero x all within is = subst P is all.0
at_place P (f ∷ fs) (suc k) x all within is = at_place P fs k x all.1 (omega (arith, within)) is

-- and it isn't told after another
pub none_before : (faults : List RuleFault) (told other : RuleFault) → least faults ≡ Some told → Contains faults other → told_before other told ≡ false
none_before faults told other h c = at_place (NotAfter told) faults c.0 other (not_after_all faults told h) c.1 c.2
