use native.Mathlib.Numerals.{unary_clauses}
use Rattle.std.proofs.Common.{◌≡◌, ◌+◌, ℕ, List, refl}
use Rattle.std.specs.Int.{int_wrapping_add, w64}
use Rattle.class_defs.specs.declared.classes.Class.{Class}
use Rattle.class_defs.specs.declared.store.Plain.{Plain}
use Rattle.report_summary.specs.Summary.{account_name, balance, sum_of}

-- the sum with one more account
pub sum_next : (classes : List Class) (store : Plain) (i : ℕ) → sum_of classes store (i + 1) ≡ int_wrapping_add w64 (sum_of classes store i) (balance classes store (account_name i))
sum_next classes store i = simp unary_clauses refl
