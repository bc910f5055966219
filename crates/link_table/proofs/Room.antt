-- What a call that had room for it leaves.
use Rattle.slab.specs.Slab.{Slab, Updates, get}
use Rattle.std.proofs.Common.{refl, sym}
use Rattle.std.proofs.lemmas.Bool.{eq-eqb, eqb-true}
use Rattle.std.specs.Prelude.{Bool, Err, Ok, Option, Result, cond, false, nat_eq, true, ℕ, ◌≡◌}
use Rattle.std.specs.Result.{IsOk, OnOk}

pub on_ok : {T E P : Type 0} (r : Result T E) → IsOk r → OnOk r P → P
on_ok (Ok x) h p = p
on_ok (Err e) h p = absurd cc

pub updated : {T : Type 0} (s t : Slab T) (n : ℕ) (o : Option T) → Updates s t n o → (k : ℕ) → get t k ≡ cond (nat_eq n k) o (get s k)
updated s t n o u k = by (nat_eq n k) refl
  where
    by : (b : Bool) → nat_eq n k ≡ b → get t k ≡ cond b o (get s k)
    by true e = let a : n ≡ k = eqb-true n k e in rw (← a) u.changed
    by false e = u.others k (λ same. let a : nat_eq n k ≡ true = eq-eqb n k (sym same) in cc)
