-- What a look finds behind an object that was made, and behind copies that are dropped.
use Rattle.client_cache.specs.Copies.{Contents, changed, kept, seen}
use Rattle.client_cache.specs.Pages.{same_name}
use Rattle.paused_eval.proofs.Hands.{seen_split}
use Rattle.paused_eval.specs.Copies.{AreAmong, Keeps}
use Rattle.std.proofs.Common.{Bool, ap, arith, cond, false, inl, inr, nat_eq, refl, sym, true, ℕ, ◌&&◌, ◌≡◌, ◌∙◌}
use Rattle.std.proofs.lemmas.Bool.Decides.{nat_tests}
use Rattle.std.specs.Option.{option_or}
use Rattle.std.specs.Prelude.{None, Option, Some, ◌⊎◌}
use Rattle.thor_value.specs.declared.names.Oref.{Oref}
use Rattle.thor_value.specs.declared.values.Obj.{Obj}

first_of : (b : Bool) (o : Obj) (copy : Option Obj) → option_or (cond b (Some o) None) copy ≡ cond b (Some o) copy
first_of true o copy = refl
first_of false o copy = refl

-- the object was written where nothing was
pub made_seen : (old new : Contents) (oref : Oref) (made : Obj) → ((x : Oref) → changed old x ≡ None) → Keeps old new
    → ((x : Oref) → changed new x ≡ cond (same_name oref x) (Some made) (changed old x)) → AreAmong (λ x. cond (same_name oref x) (Some made) (kept old x)) (seen new)
made_seen old new oref made none keeps wrote x = inl (seen_split new x ∙ (ap (λ (o : Option Obj). option_or o (kept new x)) (wrote x ∙ ap (λ (o : Option Obj). cond (same_name oref x) (Some made) o) (none x)) ∙ (first_of (same_name oref x) made (kept new x) ∙ ap (λ (o : Option Obj). cond (same_name oref x) (Some made) o) (keeps x))))

not_here : (r s : ℕ) (b c : Bool) → nat_eq s r ≡ false → (nat_eq r s && b) && c ≡ false
not_here r s b c h = grind (arith, nat_tests, h)

dropped : (e m : Bool) (made : Obj) (copy : Option Obj) → (e ≡ false → m ≡ false) → (option_or None (cond e None copy) ≡ cond m (Some made) copy) ⊎ (option_or None (cond e None copy) ≡ None)
dropped true m made copy other = inr refl
dropped false m made copy other = inl (ap (λ (b : Bool). cond b (Some made) copy) (sym (other refl)))

nothing_of : (e : Bool) (o : Option Obj) → o ≡ None → cond e None o ≡ None
nothing_of true o h = refl
nothing_of false o h = h

-- the repository's copies were dropped
pub others_seen : (old new : Contents) (oref : Oref) (made : Obj) → ((x : Oref) → changed old x ≡ None)
    → ((x : Oref) → kept new x ≡ cond (nat_eq x.repo oref.repo) None (kept old x)) → ((x : Oref) → changed new x ≡ cond (nat_eq x.repo oref.repo) None (changed old x))
    → AreAmong (λ x. cond (same_name oref x) (Some made) (kept old x)) (seen new)
others_seen old new oref made none keeps drops x = by (dropped (nat_eq x.repo oref.repo) (same_name oref x) made (kept old x) (not_here oref.repo x.repo (nat_eq oref.page x.page) (nat_eq oref.slot x.slot)))
  where
    is : seen new x ≡ option_or None (cond (nat_eq x.repo oref.repo) None (kept old x))
    is = seen_split new x ∙ (ap (λ (o : Option Obj). option_or o (kept new x)) (drops x ∙ nothing_of (nat_eq x.repo oref.repo) (changed old x) (none x)) ∙ ap (λ (o : Option Obj). option_or None o) (keeps x))

    by : (option_or None (cond (nat_eq x.repo oref.repo) None (kept old x)) ≡ cond (same_name oref x) (Some made) (kept old x)) ⊎ (option_or None (cond (nat_eq x.repo oref.repo) None (kept old x)) ≡ None) → (seen new x ≡ cond (same_name oref x) (Some made) (kept old x)) ⊎ (seen new x ≡ None)
    by (inl h) = inl (is ∙ h)
    by (inr h) = inr (is ∙ h)
