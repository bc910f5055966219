-- Bytes that go or come in pieces.
use Rattle.std.proofs.Common.{◌≡◌, ℕ, ◌+◌, List, ◌++◌, Some, None, Option, take, drop, refl, ap, sym, append_assoc}
use Rattle.std.proofs.lemmas.List.{take-append-drop, drop-drop}
use Rattle.std.proofs.Math.Seq.{take-add}
use Rattle.outside.specs.Streams.{Put}

-- what is put in two goes is put in one
pub put_on : (before mid after : Option (List ℕ)) (xs ys : List ℕ) → Put before xs mid → Put mid ys after → Put before (xs ++ ys) after
put_on None mid after xs ys p q = rw (q, p) refl
put_on (Some had) mid after xs ys p q = rw (q, p) (ap Some (append_assoc had xs ys))

-- the front of what lies behind a place, put behind what was put up to there
pub put_further : (before mid after : Option (List ℕ)) (n m : ℕ) (bytes : List ℕ) → Put before (take n bytes) mid → Put mid (take m (drop n bytes)) after → Put before (take (n + m) bytes) after
put_further before mid after n m bytes p q = rw (take-add n m bytes) (put_on before mid after (take n bytes) (take m (drop n bytes)) p q)

-- the front of what lies behind a place, and what lies behind that
pub rest_in_two : (n m : ℕ) (bytes : List ℕ) → drop n bytes ≡ take m (drop n bytes) ++ drop (n + m) bytes
rest_in_two n m bytes = sym (rw (← drop-drop m n bytes) (take-append-drop m (drop n bytes)))
