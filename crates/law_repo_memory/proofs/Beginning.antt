-- Memory and history agree behind the Life of an opening.
use Rattle.log_entries.specs.declared.entry.Entry.TheVariants.{Life}
use Rattle.log_entries.specs.declared.request.Request.{Request}
use Rattle.repo_state.specs.Entering.{entered}
use Rattle.repo_state.specs.declared.held.Held.{Held}
use Rattle.spec_history.specs.History.{Base}
use Rattle.law_repo_memory.proofs.Entries.{agrees-life}
use Rattle.law_repo_memory.proofs.Maps.{sorted-stays}
use Rattle.law_repo_memory.proofs.Tables.{keeps-aborted, open-aborted}
use Rattle.law_repo_memory.specs.Agreeing.{Agrees, HeldAgrees, IsOwed}
use Rattle.law_repo_memory.specs.Coming.{BeginsLife, reopened}
use Rattle.law_repo_memory.specs.Running.{CanBegin, EntryComes, IsInAgreement, Repository}
use Rattle.std.proofs.Common.{Bool, List, [], ap, arith, cond, refl, subst, sym, ℕ, ◌+◌, ◌≡◌, ◌∙◌, ◌∷◌}
use Rattle.std.proofs.lemmas.Bool.{eq-eqb}
use Rattle.std.specs.List.{filter}
use Rattle.std.specs.Option.{option_map}
use Rattle.std.specs.Prelude.{None, Option, false, nat_eq, true}
use Rattle.thor_value.specs.FiniteMap.{Set, has}
use Rattle.thor_value.specs.Names.{ts_cmp}
use Rattle.thor_value.specs.declared.names.Ts.{Ts}
use Rattle.repo_trace.specs.Recorded.{Recorded, nothing, with_entry}
use Rattle.two_phase.specs.Contents.{open_at}
use Rattle.two_phase.specs.Lists.{aborted_of, stays_without}
use Rattle.two_phase.specs.declared.transaction.Transaction.{Transaction}
use Rattle.validation_queue.specs.Contents.{member}
use Rattle.repo_volatile.specs.Volatile.{Memory, transaction_of}

filter-twice : {X : Type 0} (p : X → Bool) (xs : List X) → filter p (filter p xs) ≡ filter p xs
filter-twice p [] = refl
filter-twice p (x ∷ xs) = by (p x) refl (filter-twice p xs)
  where
    by : (y : Bool) → p x ≡ y → filter p (filter p xs) ≡ filter p xs → filter p (cond y (x ∷ filter p xs) (filter p xs)) ≡ cond y (x ∷ filter p xs) (filter p xs)
    by true e rest = ap (λ z. cond z (x ∷ filter p (filter p xs)) (filter p (filter p xs))) e ∙ ap (λ ys. x ∷ ys) rest
    by false e rest = rest

module _ (b : Base) (h : Held) (c : CanBegin b h) where
  -- what is held without the open requests that this repository coordinates
  abbrev without_own : Held
  without_own = record h { table = aborted_of h.table h.repo }

  owed : IsOwed b nothing
  owed = record {
    trace = refl;
    sound = tt;
    settled = c.left;
    forgotten = λ t e. cc;
  }

  none-open : (t : Ts) → open_at (aborted_of h.table h.repo) t ≡ None
  none-open t = open-aborted h.table h.repo t c.sorted ∙ by (nat_eq t.repo h.repo) refl
    where
      by : (x : Bool) → nat_eq t.repo h.repo ≡ x → cond x None (open_at h.table t) ≡ None
      by true e = refl
      by false e = c.others t (λ same. let k : nat_eq t.repo h.repo ≡ true = eq-eqb t.repo h.repo (same ∙ sym c.repo) in cc)

  no_more : (n : ℕ) → n ≡ n + 0
  no_more n = omega arith

  begins-held : (requested : Set ts_cmp) → HeldAgrees b nothing without_own requested
  begins-held requested = record {
    owed = owed;
    repo = c.repo;
    life = c.life;
    count = c.count ∙ no_more b.count;
    threshold = c.threshold;
    upgrades = c.upgrades;
    table = record {
      sorted = sorted-stays (stays_without h.repo) h.table.transactions.pairs c.sorted;
      undecided = none-open;
      alone = c.alone;
    };
    kept = λ t l. keeps-aborted h.table h.repo t c.sorted ∙ c.kept t l;
    next = c.next;
    pages = c.pages;
    came = λ t e. cc;
  }

  same-entered : (n : ℕ) → entered without_own (Life n) ≡ entered h (Life n)
  same-entered n = ap (λ (ps : List (Ts × Transaction)). record h { life = n; table = record h.table { transactions = record { pairs = ps } }; count = h.count + 1 }) (filter-twice (stays_without h.repo) h.table.transactions.pairs)

  same-reopened : (m : Set ts_cmp) (t : Ts) → reopened h.repo m t (open_at h.table t) ≡ reopened h.repo m t (open_at (aborted_of h.table h.repo) t)
  same-reopened m t = by (nat_eq t.repo h.repo) ∙ sym (ap (reopened h.repo m t) (open-aborted h.table h.repo t c.sorted))
    where
      again : (x : Bool) (o : Option Request) → cond x None (cond (has m t) (option_map (λ q. member (transaction_of q) false) o) None) ≡ cond x None (cond (has m t) (option_map (λ q. member (transaction_of q) false) (cond x None o)) None)
      again true o = refl
      again false o = refl

      by : (x : Bool) → cond x None (cond (has m t) (option_map (λ q. member (transaction_of q) false) (open_at h.table t)) None) ≡ cond x None (cond (has m t) (option_map (λ q. member (transaction_of q) false) (cond x None (open_at h.table t))) None)
      by x = again x (open_at h.table t)

  begins-memory : (M N : Memory) → BeginsLife h M N → BeginsLife without_own M N
  begins-memory M N m = record {
    threshold = m.threshold;
    sorted = m.sorted;
    members = λ t. m.members t ∙ same-reopened M.requested t;
    requested = m.requested;
    drawn = m.drawn;
  }

pub begins : (b : Base) (x y : Repository) → CanBegin b x.held → x.trace ≡ nothing → EntryComes b x (Life (x.held.life + 1)) y → IsInAgreement b y
begins b x y c none e =
    let n : ℕ = x.held.life + 1 in
    let k : Agrees b (with_entry nothing (Life n)) (entered (without_own b x.held c) (Life n)) y.memory = agrees-life b nothing (without_own b x.held c) x.memory y.memory n (begins-held b x.held c x.memory.requested) (ap (λ l. l + 1) c.life) (begins-memory b x.held c x.memory y.memory e.memory) in
    subst (λ (r : Recorded). Agrees b r y.held y.memory) (sym (e.trace ∙ ap (λ (r : Recorded). with_entry r (Life n)) none))
    (subst (λ (h : Held). Agrees b (with_entry nothing (Life n)) h y.memory) (sym (e.held ∙ sym (same-entered b x.held c n))) k)
