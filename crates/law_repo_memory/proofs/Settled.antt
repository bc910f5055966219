-- The state behind the decision on a transaction that is undecided.
use Rattle.log_entries.specs.declared.entry.Entry.TheVariants.{Decided, Finished}
use Rattle.spec_history.specs.History.{Aborted, Base, Known, Open, State, commit, is_open, is_undecided, known_in, put, settle, settle_by}
use Rattle.std.proofs.Common.{Bool, ap, cond, ◌≡◌, ◌∙◌, ◌+◌}
use Rattle.std.specs.Prelude.{Some, false, not, true, ◌&&◌}
use Rattle.thor_value.specs.FiniteMap.{add, insert, keep}
use Rattle.thor_value.specs.Names.{same_ts}
use Rattle.thor_value.specs.declared.names.Ts.{Ts}

abbrev pub aborted_at : State → Ts → Known → State
aborted_at S t p = record S { known = insert S.known t (record p { fate = Aborted }) }

module _ (b : Base) (S : State) (t : Ts) (p : Known) (is : known_in b S t ≡ Some p) (at_first : p.fate ≡ Open) where
  settled-as : (c : Bool) → settle S t c (known_in b S t) ≡ cond c (commit S t p.place p.request) (aborted_at S t p)
  settled-as c = ap (settle S t c) is ∙ ap (settle_by S t c p) at_first

  undecided-is : is_undecided (known_in b S t) ≡ true
  undecided-is = ap is_undecided is ∙ ap is_open at_first

  pub decided-true : put b S (Decided t true) ≡ record (commit S t p.place p.request) { kept = add S.kept t; length = S.length + 1 }
  decided-true =
      ap (λ (Z : State). record Z { kept = cond (true && is_undecided (known_in b S t)) (add S.kept t) S.kept; length = S.length + 1 }) (settled-as true)
      ∙ ap (λ x. record (commit S t p.place p.request) { kept = cond x (add S.kept t) S.kept; length = S.length + 1 }) undecided-is

  pub decided-false : put b S (Decided t false) ≡ record (aborted_at S t p) { length = S.length + 1 }
  decided-false = ap (λ (Z : State). record Z { kept = S.kept; length = S.length + 1 }) (settled-as false)

  pub finished-true : put b S (Finished t true) ≡ record (commit S t p.place p.request) { left = keep S.left (λ u. not (same_ts u t)); length = S.length + 1 }
  finished-true = ap (λ (Z : State). record Z { left = keep S.left (λ u. not (same_ts u t)); length = S.length + 1 }) (settled-as true)

  pub finished-false : put b S (Finished t false) ≡ record (aborted_at S t p) { left = keep S.left (λ u. not (same_ts u t)); length = S.length + 1 }
  finished-false = ap (λ (Z : State). record Z { left = keep S.left (λ u. not (same_ts u t)); length = S.length + 1 }) (settled-as false)
