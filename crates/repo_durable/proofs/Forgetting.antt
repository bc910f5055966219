-- A decision is forgotten, which the log still keeps.
use Rattle.repo_state.proofs.Tables.{absent_open, gone_open}
use Rattle.repo_state.specs.Keeps.{Keeps, TableFits}
use Rattle.repo_state.specs.Said.{said}
use Rattle.repo_state.specs.declared.held.Held.{Held}
use Rattle.log_entries.specs.declared.request.Request.{Request}
use Rattle.log_codec.specs.declared.state.State.{State}
use Rattle.repo_durable.proofs.Remembering.{remembers_fewer, stamp, stamps}
use Rattle.repo_durable.specs.Remembering.{Remembers, is_kept}
use Rattle.std.proofs.Common.{Bool, List, None, Option, Some, ap, cond, false, map, refl, subst, sym, true, ℕ, ◌∙◌, ◌≡◌}
use Rattle.std.specs.BTreeMap.{is_at}
use Rattle.std.specs.Map.{keys_of, lookup, remove_entry}
use Rattle.std.specs.Option.{is_some, option_and_then}
use Rattle.std.specs.Ordering.{eq_by_cmp}
use Rattle.thor_value.proofs.FiniteMap.{get-remove}
use Rattle.thor_value.proofs.NameOrders.{ts_total}
use Rattle.thor_value.specs.FiniteMap.{Map, get}
use Rattle.thor_value.specs.Names.{ts_cmp}
use Rattle.thor_value.specs.declared.names.Ts.{Ts}
use Rattle.two_phase.proofs.Lists.{sorted_those, those_removed}
use Rattle.two_phase.specs.Contents.{Contents, keeps, request_of, without}
use Rattle.two_phase.specs.Lists.{decision_of, kept_decisions, open_requests, those}
use Rattle.two_phase.specs.declared.transaction.Transaction.TheVariants as kept
use Rattle.two_phase.specs.declared.transaction.Transaction.{Transaction}

none_open : (o : Option Transaction) → keeps o ≡ true → option_and_then request_of o ≡ None
none_open (Some kept.Kept) is = refl
none_open (Some (kept.Open q)) is = cc
none_open None is = cc

module _ (repo : ℕ) (c : Contents) (fits : TableFits repo c) (t : Ts) where
  -- what is open stays so
  open_stays : keeps (get c.transactions t) ≡ true → open_requests (without c t) ≡ open_requests c
  open_stays is = gone_open repo c fits t ∙ absent_open repo c fits t (none_open (get c.transactions t) is)

  abbrev decisions : List (Ts × Unit {0})
  decisions = those decision_of c.transactions.pairs

  some_else : (b : Bool) (o : Option (Unit {0})) → is_some (cond b None o) ≡ true → is_some o ≡ true
  some_else true o is = cc
  some_else false o is = is

  kept_in : (u : Ts) → is_kept (kept_decisions c) u ≡ is_some (lookup (is_at (ts_cmp u)) (those decision_of c.transactions.pairs))
  kept_in u = ap (λ (es : List (Ts × Unit {0})). is_some (lookup (is_at (ts_cmp u)) es)) (stamps (those decision_of c.transactions.pairs))

  kept_without : (u : Ts) → is_kept (kept_decisions (without c t)) u ≡ is_some (cond (eq_by_cmp ts_cmp t u) None (lookup (is_at (ts_cmp u)) (those decision_of c.transactions.pairs)))
  kept_without u =
      let m : Map ts_cmp (Unit {0}) = record { pairs = those decision_of c.transactions.pairs } in
      ap (λ (es : List (Ts × Unit {0})). is_some (lookup (is_at (ts_cmp u)) (map stamp (keys_of es)))) (those_removed decision_of c.transactions t fits.sorted)
      ∙ (ap (λ (es : List (Ts × Unit {0})). is_some (lookup (is_at (ts_cmp u)) es)) (stamps (remove_entry (is_at (ts_cmp t)) (those decision_of c.transactions.pairs)))
      ∙ ap is_some (get-remove ts_total m t u (sorted_those decision_of c.transactions.pairs fits.sorted)))

  -- no decision comes
  fewer : (u : Ts) → is_kept (kept_decisions (without c t)) u ≡ true → is_kept (kept_decisions c) u ≡ true
  fewer u is = kept_in u ∙ some_else (eq_by_cmp ts_cmp t u) (lookup (is_at (ts_cmp u)) (those decision_of c.transactions.pairs)) (sym (kept_without u) ∙ is)

-- a state without a decision
abbrev forgotten : Held → Ts → Bool → Held
forgotten h t b = record h { table = cond b (without h.table t) h.table }

forgotten_by : (h : Held) (t : Ts) (b : Bool) → keeps (get h.table.transactions t) ≡ b → Keeps h → (s : State) → Remembers s (said h) → Remembers s (said (forgotten h t b))
forgotten_by h t false is keeps_h s r = r
forgotten_by h t true is keeps_h s r =
    let same : said (forgotten h t true) ≡ record (said h) { kept = kept_decisions (without h.table t) } = ap (λ (qs : List Request). record (said h) { prepared = qs; kept = kept_decisions (without h.table t) }) (open_stays h.repo h.table keeps_h.table t is) in
    remembers_fewer s (said h) (said (forgotten h t true)) same (fewer h.repo h.table keeps_h.table t) r

-- what a log says that was forgotten it says still
pub says_forgotten : (h now' : Held) (t : Ts) → now' ≡ record h { table = cond (keeps (get h.table.transactions t)) (without h.table t) h.table } → Keeps h → (s : State) → Remembers s (said h) → Remembers s (said now')
says_forgotten h now' t is keeps_h s r = subst (λ (k : Held). Remembers s (said k)) (sym is) (forgotten_by h t (keeps (get h.table.transactions t)) refl keeps_h s r)
