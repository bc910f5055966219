-- What holds where a function ends well.
use Rattle.std.proofs.Common.{◌≡◌, Result, Ok, Err, ◌∙◌, OnOk, IfOk}

pub on_ok : {A E : Type 0} (r : Result A E) (P Q : Type 0) → (P → Q) → OnOk r P → OnOk r Q
on_ok (Ok a) P Q f h = f h
on_ok (Err e) P Q f h = tt

pub if_ok : {A E : Type 0} (r : Result A E) (x y : A) → x ≡ y → IfOk r (λ b. b ≡ x) → IfOk r (λ b. b ≡ y)
if_ok (Ok a) x y e h = h ∙ e
if_ok (Err t) x y e h = tt

pub always : {A E : Type 0} (r : Result A E) (P : Type 0) → P → OnOk r P
always (Ok a) P h = h
always (Err e) P h = tt
