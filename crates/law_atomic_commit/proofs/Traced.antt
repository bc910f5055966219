-- The histories of traces that grow.
use Rattle.law_atomic_commit.specs.Growing.{grown}
use Rattle.law_atomic_commit.specs.Several.{Repositories, histories, with_item}
use Rattle.log_entries.specs.declared.entry.Entry.{Entry}
use Rattle.spec_trace.proofs.Traces.{entries-append}
use Rattle.spec_trace.specs.Trace.{E, M, entries}
use Rattle.spec_trace.specs.declared.mark.Mark.{Mark}
use Rattle.std.proofs.Common.{Bool, [], cond, false, refl, true, ℕ, ◌++◌, ◌≡◌, ◌∙◌, ◌∷◌}
use Rattle.std.proofs.lemmas.List.{append-nil}
use Rattle.std.specs.Prelude.{nat_eq}

pub entry-added : (R : Repositories) (r n : ℕ) (e : Entry) → (histories (with_item R r (E e))).history n ≡ (grown (histories R) r e).history n
entry-added R r n e = by (nat_eq n r)
  where
    by : (k : Bool) → entries (cond k (R.trace n ++ E e ∷ []) (R.trace n)) ≡ cond k (entries (R.trace n) ++ e ∷ []) (entries (R.trace n))
    by true = entries-append (R.trace n) (E e ∷ [])
    by false = refl

pub mark-added : (R : Repositories) (r n : ℕ) (m : Mark) → (histories (with_item R r (M m))).history n ≡ (histories R).history n
mark-added R r n m = by (nat_eq n r)
  where
    by : (k : Bool) → entries (cond k (R.trace n ++ M m ∷ []) (R.trace n)) ≡ entries (R.trace n)
    by true = entries-append (R.trace n) (M m ∷ []) ∙ append-nil (entries (R.trace n))
    by false = refl
