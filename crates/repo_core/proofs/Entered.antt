-- A store into which an entry couldn't be taken.
use Rattle.log_entries.specs.declared.entry.Entry.{Entry}
use Rattle.repo_core.proofs.Refused.{moved_none}
use Rattle.repo_core.specs.Moving.{Falls}
use Rattle.repo_core.specs.Refusing.{GoesDown}
use Rattle.repo_core.specs.Shown.{Shown}
use Rattle.repo_durable.specs.Kept.{held_of, is_torn, pending}
use Rattle.repo_durable.specs.declared.stable.Stable.{Stable}
use Rattle.std.proofs.Common.{Bool, Err, Ok, Result, false, inr, sym, true, ◌∙◌, ◌≡◌}
use Rattle.std.specs.Prelude.{OnErr, Some}
use Rattle.repo_volatile.specs.Volatile.{Outlasts}

no_torn : (b : Bool) → b ≡ true → b ≡ false → ⊥
no_torn b t f = cc

-- with the entry pending
pub falls_told : {P : Type 0} (old new : Stable P) (e : Entry) → held_of new ≡ held_of old → pending new ≡ Some e → Falls old new e
falls_told old new e held pending = record { held = λ t. held; pending = λ t. pending }

-- torn
pub falls_torn : {P : Type 0} (old new : Stable P) (e : Entry) → is_torn new ≡ true → Falls old new e
falls_torn old new e torn = record { held = λ t. absurd (no_torn (is_torn new) torn t); pending = λ t. absurd (no_torn (is_torn new) torn t) }

-- what is seen of it
pub goes_down : {P : Type 0} (old new : Stable P) (x y : Shown) (e : Entry) → x.is_up ≡ true → x.held ≡ held_of old → y.held ≡ held_of new → y.is_torn ≡ is_torn new → y.pending ≡ pending new → Falls old new e → Outlasts x.memory y.memory → GoesDown x y (Some e)
goes_down old new x y e up a b t p falls lasts = record {
  was_up = up;
  held = λ whole. moved_none x y (b ∙ (falls.held (sym t ∙ whole) ∙ sym a));
  memory = lasts;
  pending = λ whole. inr (p ∙ falls.pending (sym t ∙ whole));
}

pub on_err1 : {X E : Type 0} (r : Result X E) (A F : Type 0) → OnErr r A → (A → F) → OnErr r F
on_err1 (Ok x) A F a f = tt
on_err1 (Err e) A F a f = f a

pub on_err2 : {X E : Type 0} (r : Result X E) (A B F : Type 0) → OnErr r A → OnErr r B → (A → B → F) → OnErr r F
on_err2 (Ok x) A B F a b f = tt
on_err2 (Err e) A B F a b f = f a b

pub on_err3 : {X E : Type 0} (r : Result X E) (A B C F : Type 0) → OnErr r A → OnErr r B → OnErr r C → (A → B → C → F) → OnErr r F
on_err3 (Ok x) A B C F a b c f = tt
on_err3 (Err e) A B C F a b c f = f a b c
