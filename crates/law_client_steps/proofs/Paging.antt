-- What a request that commits has written: it lies on pages of its session, and what a transform makes is what its request writes.
use Rattle.client_cache.specs.Pages.{page_of, same_name, same_page}
use Rattle.law_cache_coherence.proofs.Linked.{named_at}
use Rattle.law_cache_coherence.specs.Fitting.{Copies, with_writes}
use Rattle.log_entries.specs.declared.entry.Entry.TheVariants.{One, Upgraded}
use Rattle.log_entries.specs.declared.request.Request.{Request}
use Rattle.spec_history.proofs.Growth.{owed-end}
use Rattle.spec_history.proofs.Places.{admitted}
use Rattle.spec_history.specs.History.{Base, state}
use Rattle.spec_history.specs.Laws.{Asks}
use Rattle.spec_history.specs.Requests.{has_written, is_upgrade, written}
use Rattle.spec_history.specs.Sound.{Admits, sound}
use Rattle.client_port.specs.Works.{alone_entry}
use Rattle.spec_trace.proofs.Exactness.{exact-owed}
use Rattle.spec_trace.proofs.Traces.{entries-append}
use Rattle.base_reasons.specs.declared.reason.Reason.TheVariants as reasons
use Rattle.spec_trace.specs.Exact.{ComesFromSession, ItemIsExact, WritesOnPages, exact}
use Rattle.spec_trace.specs.Session.{Session, session, session_lives}
use Rattle.spec_trace.specs.Trace.{E, Item, entries}
use Rattle.spec_trace.specs.Verdict.{stale, verdict_by}
use Rattle.std.proofs.Common.{Bool, List, [], ap, cond, false, refl, subst, sym, true, ◌++◌, ◌∙◌, ◌∷◌, ◌≡◌, ◌≢◌, ℕ}
use Rattle.std.specs.Option.{option_or}
use Rattle.std.proofs.lemmas.Bool.{and_parts, eqb-true}
use Rattle.std.specs.Prelude.{None, Option, Some, nat_eq}
use Rattle.thor_value.proofs.FiniteMap.{get-insert}
use Rattle.thor_value.proofs.NameOrders.{oref_total}
use Rattle.thor_value.specs.FiniteMap.{empty, get, overwrite}
use Rattle.thor_value.specs.Names.{oref_cmp}
use Rattle.thor_value.specs.declared.names.Oref.{Oref}
use Rattle.thor_value.specs.declared.values.Obj.{Obj}
use Rattle.repo_refusals.specs.Refusals.{first_refusal, full}
use Rattle.repo_refusals.specs.Window.{window}
use Rattle.repo_refusals.specs.declared.refusal.Refusal.TheVariants as refused

-- ---- the entry of a request that commits at one repository

asks_alone : (q : Request) → Asks (alone_entry q) q
asks_alone q = by (is_upgrade q)
  where
    by : (t : Bool) → Asks (cond t (Upgraded q) (One q)) q
    by true = refl
    by false = refl

from_alone : (b : Base) (T : List Item) (q : Request) → ItemIsExact b T (E (alone_entry q)) → ComesFromSession b T q
from_alone b T q = by (is_upgrade q)
  where
    by : (t : Bool) → ItemIsExact b T (E (cond t (Upgraded q) (One q))) → ComesFromSession b T q
    by true x = x
    by false x = x

-- ---- a request that is accepted comes from a live session

pub accepted_lives : (b : Base) (T : List Item) (s : ℕ) (q : Request) (v : Session) → verdict_by b (entries T) s q (Some v) ≡ None → session_lives v ≡ true
accepted_lives b T s q v accepted = by (session_lives v) accepted
  where
    by : (t : Bool) → cond t (first_refusal (state b (entries T)) (window b (entries T)) (stale b (entries T) s v q) (full b (window b (entries T)) q) q) (Some (refused.Reason (reasons.Gone s))) ≡ None → t ≡ true
    by true a = refl
    by false a = cc

-- ---- what a request writes

module _ (b : Base) (T : List Item) (q : Request) (kept_so : exact b (T ++ E (alone_entry q) ∷ [])) (owed : sound b (entries (T ++ E (alone_entry q) ∷ []))) where
  admits : Admits b (state b (entries T)) q
  admits = admitted b (state b (entries T)) (alone_entry q) q (asks_alone q) (owed-end b (entries T) (alone_entry q) (subst (sound b) (entries-append T (E (alone_entry q) ∷ [])) owed))

  -- what it writes is the repository's
  pub writes_here : (x : Oref) → has_written q x ≡ true → x.repo ≡ b.repo
  writes_here x wrote = admits.vouched.here x (admits.vouched.within x wrote)

  -- what it writes lies on pages of the session
  pub writes_on_pages : (s : ℕ) → q.session ≡ s → WritesOnPages b T s q
  writes_on_pages s own = subst (λ (n : ℕ). WritesOnPages b T n q) own ((from_alone b T q (exact-owed b T (E (alone_entry q)) kept_so)).paged)

-- ---- what a transform writes

put_at : (oref x : Oref) (made : Obj) → get {R = oref_cmp} (overwrite empty ((oref, made) ∷ [])) x ≡ cond (same_name oref x) (Some made) None
put_at oref x made = get-insert oref_total empty oref made x ∙ ap (λ (t : Bool). cond t (Some made) None) (sym (named_at x oref))

made_at : (q : Request) (oref : Oref) (made : Obj) → q.writes ≡ (oref, made) ∷ [] → (x : Oref) → get (written q) x ≡ cond (same_name oref x) (Some made) None
made_at q oref made is x = ap (λ (ws : List (Oref × Obj)). get {R = oref_cmp} (overwrite empty ws) x) is ∙ put_at oref x made

pub made_written : (q : Request) (oref : Oref) (made : Obj) → q.writes ≡ (oref, made) ∷ [] → (copies : Copies) (x : Oref) → cond (same_name oref x) (Some made) (copies x) ≡ with_writes q copies x
made_written q oref made is copies x = by (same_name oref x) ∙ ap (λ (o : Option Obj). option_or o (copies x)) (sym (made_at q oref made is x))
  where
    by : (t : Bool) → cond t (Some made) (copies x) ≡ option_or (cond t (Some made) None) (copies x)
    by true = refl
    by false = refl

same_place : (oref x : Oref) → same_name oref x ≡ true → oref.repo ≡ x.repo
same_place oref x e = eqb-true oref.repo x.repo (and_parts (nat_eq oref.repo x.repo) (nat_eq oref.page x.page) (and_parts (same_page (page_of oref) (page_of x)) (nat_eq oref.slot x.slot) e).0).0

-- what a transform makes lies in the repository of its object
pub made_elsewhere : (oref : Oref) (made : Obj) (r : ℕ) → oref.repo ≡ r → (copies : Copies) (x : Oref) → x.repo ≢ r → cond (same_name oref x) (Some made) (copies x) ≡ copies x
made_elsewhere oref made r here copies x away = by (same_name oref x) refl
  where
    by : (t : Bool) → same_name oref x ≡ t → cond t (Some made) (copies x) ≡ copies x
    by true e = absurd (away (sym (same_place oref x e) ∙ here))
    by false e = refl
