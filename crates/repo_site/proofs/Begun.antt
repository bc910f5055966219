-- What was recovered of a repository says what its base says, where nothing has still to be settled.
use Rattle.class_defs.specs.declared.store.Setup.{Setup}
use Rattle.law_repo_calls.specs.Vouching.{IsBase, IsNewBase}
use Rattle.law_repo_memory.specs.Running.{CanBegin}
use Rattle.repo_site.specs.Begun.{base_of, is_own, is_settled, new_base}
use Rattle.repo_site.specs.Run.{Run}
use Rattle.repo_site.specs.Sited.{BeginsAs, BeginsNew, IsBaseOf}
use Rattle.repo_state.specs.Keeps.{Keeps}
use Rattle.repo_state.specs.declared.held.Held.{Held}
use Rattle.spec_history.specs.History.{Base}
use Rattle.std.proofs.Common.{Bool, List, Option, [], cond, eqb-true, false, leb-true, option_and_then, arith, refl, subst, sym, true, ℕ, ◌&&◌, ◌<◌, ◌∙◌, ◌∷◌, ◌≡◌, ◌≤◌}
use Rattle.std.proofs.lemmas.Map.Views.{tells_apart}
use Rattle.std.specs.BTreeMap.{is_at}
use Rattle.std.specs.List.{list_all}
use Rattle.std.specs.Map.{lookup}
use Rattle.std.specs.Prelude.{None, Some, nat_eq, ◌≢◌}
use Rattle.thor_value.proofs.NameOrders.{ts_exact}
use Rattle.thor_value.specs.FiniteMap.{get}
use Rattle.thor_value.specs.Names.{ts_cmp}
use Rattle.thor_value.specs.declared.names.Ts.{Ts}
use Rattle.two_phase.specs.Contents.{Contents, keeps, open_at, request_of}
use Rattle.two_phase.specs.declared.transaction.Transaction.TheVariants as kept
use Rattle.two_phase.specs.declared.transaction.Transaction.{Transaction}

-- ---- what stands in a table

first_so : (a b : Bool) → (a && b) ≡ true → a ≡ true
first_so true b e = refl
first_so false b e = e

second_so : (a b : Bool) → (a && b) ≡ true → b ≡ true
second_so true b e = e
second_so false b e = cc

abbrev Passes : (Ts → Transaction → Bool) → Ts → Option Transaction → Type 0
Passes p t None = Unit {0}
Passes p t (Some x) = p t x ≡ true

-- where each entry passes, so does what stands at a timestamp
each_at : (p : Ts → Transaction → Bool) (es : List (Ts × Transaction)) (t : Ts) → list_all (λ e. p e.0 e.1) es ≡ true → (o : Option Transaction) → lookup (is_at (ts_cmp t)) es ≡ o → Passes p t o
each_at p [] t all o is = subst (Passes p t) is tt
each_at p (e ∷ es) t all o is = by (is_at (ts_cmp t) e.0) refl (each_at p es t (second_so (p e.0 e.1) (list_all (λ f. p f.0 f.1) es) all) o) is
  where
    by : (b : Bool) → is_at (ts_cmp t) e.0 ≡ b → (lookup (is_at (ts_cmp t)) es ≡ o → Passes p t o) → cond b (Some e.1) (lookup (is_at (ts_cmp t)) es) ≡ o → Passes p t o
    by true at rest found = subst (Passes p t) found (subst (λ (u : Ts). p u e.1 ≡ true) (sym (tells_apart ts_exact t e.0 at)) (first_so (p e.0 e.1) (list_all (λ f. p f.0 f.1) es) all))
    by false at rest found = rest found

module _ (repo life : ℕ) (c : Contents) (all : list_all (λ e. is_own repo life e.0 e.1) c.transactions.pairs ≡ true) where
  none_of_others : (t : Ts) → t.repo ≢ repo → open_at c t ≡ None
  none_of_others t other = by (get c.transactions t) (each_at (is_own repo life) c.transactions.pairs t all (get c.transactions t) refl)
    where
      by : (o : Option Transaction) → Passes (is_own repo life) t o → option_and_then request_of o ≡ None
      by None own = refl
      by (Some (kept.Open q)) own = absurd (other (eqb-true t.repo repo own))
      by (Some kept.Kept) own = refl

  none_to_come : (t : Ts) → life < t.life → keeps (get c.transactions t) ≡ false
  none_to_come t later = by (get c.transactions t) (each_at (is_own repo life) c.transactions.pairs t all (get c.transactions t) refl)
    where
      by : (o : Option Transaction) → Passes (is_own repo life) t o → keeps o ≡ false
      by None own = refl
      by (Some (kept.Open q)) own = refl
      by (Some kept.Kept) own = absurd (let within : t.life ≤ life = leb-true t.life life own in omega (arith, within, later))

-- ---- its base

own_number : (number : ℕ) (h : Held) → is_settled number h ≡ true → h.repo ≡ number
own_number number h settled = eqb-true h.repo number (first_so (nat_eq h.repo number) (list_all (λ e. is_own h.repo h.life e.0 e.1) h.table.transactions.pairs) settled)

own_table : (number : ℕ) (h : Held) → is_settled number h ≡ true → list_all (λ e. is_own h.repo h.life e.0 e.1) h.table.transactions.pairs ≡ true
own_table number h settled = second_so (nat_eq h.repo number) (list_all (λ e. is_own h.repo h.life e.0 e.1) h.table.transactions.pairs) settled

base_is : (number repos : ℕ) (h : Held) → is_settled number h ≡ true → IsBaseOf (base_of repos h) number repos
base_is number repos h settled = record { own = own_number number h settled; count = refl; left = λ t. refl }

can_begin : (number repos : ℕ) (h : Held) → is_settled number h ≡ true → Keeps h → CanBegin (base_of repos h) h
can_begin number repos h settled keeps_it = record {
  repo = refl;
  life = refl;
  count = refl;
  threshold = refl;
  upgrades = refl;
  sorted = keeps_it.table.sorted;
  others = none_of_others h.repo h.life h.table (own_table number h settled);
  kept = none_to_come h.repo h.life h.table (own_table number h settled);
  alone = refl;
  left = λ t. refl;
  next = refl;
  pages = keeps_it.next;
}

-- what was recovered says what the base says that is read off it
pub begins_as : (run : Run) (number repos : ℕ) (h : Held) → (run.based ≡ true → (run.base number ≡ base_of repos h) × (is_settled number h ≡ true)) → Keeps h → BeginsAs run number repos h
begins_as run number repos h by keeps_it = record {
  base = λ based. subst (λ (b : Base). IsBaseOf b number repos) (sym (by based).0) (base_is number repos h (by based).1);
  begins = λ based. subst (λ (b : Base). IsBase b h) (sym (by based).0) (record { silence = refl; begins = can_begin number repos h (by based).1 keeps_it; limit = refl });
}

-- and the base of a new one is that
pub begins_new : (run : Run) (number repos : ℕ) (setup : Setup) (mob : ℕ) → (run.based ≡ true → run.base number ≡ new_base number repos setup mob) → BeginsNew run number repos setup mob
begins_new run number repos setup mob by = record {
  base = λ based. subst (λ (b : Base). IsBaseOf b number repos) (sym (by based)) (record { own = refl; count = refl; left = λ t. refl });
  begins = λ based. subst (λ (b : Base). IsNewBase number setup mob b) (sym (by based)) (record { number = refl; life = refl; count = refl; limit = refl; top = refl; texts = refl; next_page = refl; alone = refl; left = refl; silence = refl });
}
