-- What holds where a call ended well.
use Rattle.std.proofs.Common.{Err, Ok, OnOk, Result}

pub on_ok : {T E : Type 0} (A B : Type 0) (r : Result T E) → (A → B) → OnOk r A → OnOk r B
on_ok A B (Ok x) f p = f p
on_ok A B (Err e) f p = tt
