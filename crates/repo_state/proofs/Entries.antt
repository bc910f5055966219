-- What is kept in memory moves by an entry as its log does.
use Rattle.std.proofs.Common.{◌≡◌, Bool, List, None, Option, Some, [], ◌∷◌, ap, arith, cond, false, max, not, refl, subst, sym, true, ℕ, ◌==◌, ◌+◌, ◌<◌, ◌^◌, ◌∙◌, ◌≤◌}
use Rattle.std.specs.List.{AllByRecursion, fold}
use Rattle.std.specs.Ordering.{match_ordering}
use Rattle.std.specs.Prelude.{IsTrue}
use Rattle.std.specs.declared.cmp.Ordering.{Ordering}
use Rattle.std.specs.declared.cmp.Ordering.TheVariants.{Equal, Greater, Less}
use Rattle.log_entries.specs.RequestForm.{RequestFits, WriteFits}
use Rattle.log_entries.specs.declared.entry.Entry.TheVariants.{Decided, Finished, Life, One, Prepared, Upgraded}
use Rattle.log_entries.specs.declared.entry.Entry.{Entry}
use Rattle.log_entries.specs.declared.request.Kind.TheVariants.{App, Transform, Upgrade}
use Rattle.log_entries.specs.declared.request.Kind.{Kind}
use Rattle.log_entries.specs.declared.request.Request.{Request}
use Rattle.log_codec.specs.Grammar.{BodyFits}
use Rattle.log_codec.specs.declared.body.Body.TheVariants.{Entry as AnEntry}
use Rattle.log_codec.specs.declared.state.State.{State}
use Rattle.mob_buffer.proofs.Writes.{of_all}
use Rattle.mob_buffer.specs.Buffer.{AreOf, IsOf, with_all, without_page}
use Rattle.mob_flusher.specs.Map.{Kept as ObjectsKept}
use Rattle.commit_log.specs.Recovered.{after, buffered, decided, kept_by, opened_without, page_above, threshold_after}
use Rattle.commit_log.specs.Values.{writes_if}
use Rattle.page_format.specs.Pages.{Contents as PageContents}
use Rattle.page_store.specs.Store.{Store, refreshed, with_side}
use Rattle.thor_value.proofs.NameOrders.{oref_exact}
use Rattle.thor_value.specs.Names.{later_of, oref_cmp, ts_cmp}
use Rattle.thor_value.specs.Spelling.{TsFits}
use Rattle.thor_value.specs.declared.names.Oref.{Oref}
use Rattle.thor_value.specs.declared.names.Ts.{Ts}
use Rattle.thor_value.specs.declared.values.Obj.{Obj}
use Rattle.two_phase.specs.Contents.{Contents, keeping, open_at, without}
use Rattle.two_phase.specs.Lists.{aborted_of, kept_decisions, open_requests}
use Rattle.repo_state.proofs.Buffers.{put_all_is}
use Rattle.repo_state.proofs.Kept.{each_filtered, fits_aborted, fits_alone, fits_keeping, fits_open, fits_without, of_writes, open_fits}
use Rattle.repo_state.proofs.Pages.{pages_within}
use Rattle.repo_state.proofs.Tables.{aborted_kept, aborted_open, absent_open, can_open, gone_kept, gone_open, keeping_kept, keeping_open, kept_is, more_kept, more_open, open_not_kept, opened_again, request_open}
use Rattle.repo_state.specs.Entering.{CanMove, IsNew, can_enter, committed_in, decided_by, entered, finished_by, installed_in, kept_in, loaded, opened_in, reached}
use Rattle.repo_state.specs.Keeps.{IsUnread, Keeps, TableFits}
use Rattle.repo_state.specs.Said.{said}
use Rattle.repo_state.specs.declared.held.Held.{Held}

-- ---- the log's state

-- states that differ in their objects and transactions at most
same_three : (s : State) (m n : List (Oref × Obj)) (p r : List Request) (k j : List Ts) → m ≡ n → p ≡ r → k ≡ j → record s { mob = m; prepared = p; kept = k } ≡ record s { mob = n; prepared = r; kept = j }
same_three s m n p r k j mob prepared kept =
    ap (λ (x : List (Oref × Obj)). record s { mob = x; prepared = p; kept = k }) mob
    ∙ ap (λ (x : List Request). record s { mob = n; prepared = x; kept = k }) prepared
    ∙ ap (λ (x : List Ts). record s { mob = n; prepared = r; kept = x }) kept

module _ (h : Held) (keeps_h : Keeps h) where
  mob : List (Oref × Obj)
  mob = h.objects.mob.objects

  -- a decision, by the request that is open
  decided_is : (t : Ts) (commit : Bool) (o : Option Request) → open_at h.table t ≡ o
      → said (record (decided_by h t commit o) { count = h.count + 1 }) ≡ record (kept_by (record (decided (said h) commit o) { prepared = opened_without (open_requests h.table) t }) t commit) { count = h.count + 1 }
  decided_is t false None is =
      same_three (said (record h { count = h.count + 1 })) h.objects.mob.objects h.objects.mob.objects (open_requests h.table) (opened_without (open_requests h.table) t) (kept_decisions h.table) (kept_decisions h.table) refl (sym (absent_open h.repo h.table keeps_h.table t is)) refl
  decided_is t false (Some q) is =
      same_three (said (record h { count = h.count + 1 })) h.objects.mob.objects h.objects.mob.objects (open_requests (without h.table t)) (opened_without (open_requests h.table) t) (kept_decisions (without h.table t)) (kept_decisions h.table) refl (gone_open h.repo h.table keeps_h.table t) (gone_kept h.repo h.table keeps_h.table t (open_not_kept h.table t q is))
  decided_is t true None is =
      let s = record (kept_by (record (said h) { prepared = opened_without (open_requests h.table) t }) t true) { count = h.count + 1 } in
      ap (λ (c : Contents). said (record h { table = c; count = h.count + 1 })) (kept_is h.repo h.table keeps_h.table t is)
      ∙ same_three s h.objects.mob.objects h.objects.mob.objects (open_requests (keeping h.table t)) (opened_without (open_requests h.table) t) (kept_decisions (keeping h.table t)) s.kept refl
      (keeping_open h.repo h.table keeps_h.table t) (keeping_kept h.repo h.table keeps_h.table t)
  decided_is t true (Some q) is =
      let s = record (kept_by (record (decided (said h) true (Some q)) { prepared = opened_without (open_requests h.table) t }) t true) { count = h.count + 1 } in
      same_three s (with_all h.objects.mob.objects q.writes) (fold buffered h.objects.mob.objects q.writes) (open_requests (keeping h.table t)) (opened_without (open_requests h.table) t) (kept_decisions (keeping h.table t)) s.kept
      (put_all_is h.objects.mob.objects q.writes) (keeping_open h.repo h.table keeps_h.table t) (keeping_kept h.repo h.table keeps_h.table t)

  -- what a coordinator elsewhere decided
  finished_is : (t : Ts) (commit : Bool) (o : Option Request) → open_at h.table t ≡ o
      → said (record (finished_by h t commit o) { count = h.count + 1 }) ≡ record (decided (said h) commit o) { prepared = opened_without (open_requests h.table) t; count = h.count + 1 }
  finished_is t commit None is =
      same_three (said (record h { count = h.count + 1 })) h.objects.mob.objects h.objects.mob.objects (open_requests h.table) (opened_without (open_requests h.table) t) (kept_decisions h.table) (kept_decisions h.table) refl (sym (absent_open h.repo h.table keeps_h.table t is)) refl
  finished_is t false (Some q) is =
      same_three (said (record h { count = h.count + 1 })) h.objects.mob.objects h.objects.mob.objects (open_requests (without h.table t)) (opened_without (open_requests h.table) t) (kept_decisions (without h.table t)) (kept_decisions h.table) refl (gone_open h.repo h.table keeps_h.table t) (gone_kept h.repo h.table keeps_h.table t (open_not_kept h.table t q is))
  finished_is t true (Some q) is =
      let s = record (decided (said h) true (Some q)) { prepared = opened_without (open_requests h.table) t; count = h.count + 1 } in
      same_three s (with_all h.objects.mob.objects q.writes) (fold buffered h.objects.mob.objects q.writes) (open_requests (without h.table t)) (opened_without (open_requests h.table) t) (kept_decisions (without h.table t)) (kept_decisions h.table)
      (put_all_is h.objects.mob.objects q.writes) (gone_open h.repo h.table keeps_h.table t) (gone_kept h.repo h.table keeps_h.table t (open_not_kept h.table t q is))

  alone_is : (q : Request) → said (entered h (One q)) ≡ after (said h) (AnEntry (One q))
  alone_is q =
      same_three (after (said h) (AnEntry (One q))) (with_all h.objects.mob.objects q.writes) (fold buffered h.objects.mob.objects q.writes) (open_requests h.table) (open_requests h.table) (kept_decisions h.table) (kept_decisions h.table) (put_all_is h.objects.mob.objects q.writes) refl refl

  prepared_is : (q : Request) → said (entered h (Prepared q)) ≡ after (said h) (AnEntry (Prepared q))
  prepared_is q =
      let s = after (said h) (AnEntry (Prepared q)) in
      ap (λ (c : Contents). said (record (reached h q) { table = c; count = h.count + 1 })) (opened_again h.repo h.table keeps_h.table q)
      ∙ same_three s h.objects.mob.objects h.objects.mob.objects (open_requests (opened_in h.table q)) s.prepared (kept_decisions (opened_in h.table q)) s.kept refl
      (more_open h.repo h.table keeps_h.table q) (more_kept h.repo h.table keeps_h.table q)

  -- each entry moves what is said as the log's record of it does
  pub said_entered : (e : Entry) → IsTrue (can_enter h e) → said (entered h e) ≡ after (said h) (AnEntry e)
  said_entered (Life n) can =
      let s = after (said h) (AnEntry (Life n)) in
      same_three s h.objects.mob.objects h.objects.mob.objects (open_requests (aborted_of h.table h.repo)) s.prepared (kept_decisions (aborted_of h.table h.repo)) (kept_decisions h.table) refl (aborted_open h.repo h.repo h.table keeps_h.table) (aborted_kept h.repo h.table)
  said_entered (One q) can = alone_is q
  said_entered (Upgraded q) can = alone_is q
  said_entered (Prepared q) can = prepared_is q
  said_entered (Decided t commit) can =
      decided_is t commit (open_at h.table t) refl
      ∙ ap (λ (o : Option Request). record (kept_by (record (decided (said h) commit o) { prepared = opened_without (open_requests h.table) t }) t commit) { count = h.count + 1 }) (sym (request_open h.repo h.table keeps_h.table t))
  said_entered (Finished t commit) can =
      finished_is t commit (open_at h.table t) refl
      ∙ ap (λ (o : Option Request). record (decided (said h) commit o) { prepared = opened_without (open_requests h.table) t; count = h.count + 1 }) (sym (request_open h.repo h.table keeps_h.table t))

  -- ---- what holds of it

  later_fits : (t u : Ts) → TsFits t → TsFits u → TsFits (later_of t u)
  later_fits t u fit more = by (ts_cmp t u)
    where
      by : (o : Ordering) → TsFits (match_ordering o u u t)
      by Less = more
      by Equal = more
      by Greater = fit

  threshold_fits : (kind : Kind) (t : Ts) → TsFits t → TsFits (threshold_after h.threshold kind t)
  threshold_fits App t fit = later_fits h.threshold t keeps_h.threshold fit
  threshold_fits Transform t fit = later_fits h.threshold t keeps_h.threshold fit
  threshold_fits (Upgrade text) t fit = fit

  above : (n g : ℕ) → n ≤ max g n
  above n g = omega arith

  within : (n g : ℕ) → n ≤ 65536 → g ≤ 65536 → max g n ≤ 65536
  within n g a b = omega (arith, a, b)

  reaches : (writes : List (Oref × Obj)) → AllByRecursion WriteFits writes → fold page_above h.next_page writes ≤ 65536
  reaches writes fit = pages_within h.next_page writes (omega (arith, keeps_h.next, keeps_h.pages)) fit

  -- a commit without other change of the table
  commits : (c : Contents) (q : Request) (n : ℕ) → TableFits h.repo c → RequestFits q → AreOf h.repo q.writes → Keeps (record (committed_in (record h { table = c }) q) { count = n })
  commits c q n table fit of = record {
    table = table;
    objects = of_all h.repo h.objects.mob.objects q.writes keeps_h.objects of;
    life = keeps_h.life;
    threshold = threshold_fits q.kind q.tx fit.tx;
    next = keeps_h.next;
    pages = keeps_h.pages;
    roots = keeps_h.roots;
  }

  changes : (c : Contents) (life n : ℕ) → TableFits h.repo c → life < 2 ^ 32 → Keeps (record h { table = c; life = life; count = n })
  changes c life n table small = record {
    table = table;
    objects = keeps_h.objects;
    life = small;
    threshold = keeps_h.threshold;
    next = keeps_h.next;
    pages = keeps_h.pages;
    roots = keeps_h.roots;
  }

  alone_keeps : (q : Request) → RequestFits q → AreOf h.repo q.writes → Keeps (entered h (One q))
  alone_keeps q fit of = record {
    table = fits_alone h.repo h.table keeps_h.table q.who.client q.tx fit.tx;
    objects = of_all h.repo h.objects.mob.objects q.writes keeps_h.objects of;
    life = keeps_h.life;
    threshold = threshold_fits q.kind q.tx fit.tx;
    next = above (fold page_above h.next_page q.writes) h.next_grant;
    pages = within (fold page_above h.next_page q.writes) h.next_grant (reaches q.writes fit.writes) keeps_h.pages;
    roots = keeps_h.roots;
  }

  prepared_keeps : (q : Request) → RequestFits q → AreOf h.repo q.writes → Keeps (entered h (Prepared q))
  prepared_keeps q fit of = record {
    table = subst (TableFits h.repo) (sym (opened_again h.repo h.table keeps_h.table q)) (fits_open h.repo h.table keeps_h.table q fit of);
    objects = keeps_h.objects;
    life = keeps_h.life;
    threshold = keeps_h.threshold;
    next = above (fold page_above h.next_page q.writes) h.next_grant;
    pages = within (fold page_above h.next_page q.writes) h.next_grant (reaches q.writes fit.writes) keeps_h.pages;
    roots = keeps_h.roots;
  }

  decided_keeps : (t : Ts) (commit : Bool) (o : Option Request) (n : ℕ) → TsFits t → open_at h.table t ≡ o → Keeps (record (decided_by h t commit o) { count = n })
  decided_keeps t false None n fit is = changes h.table h.life n keeps_h.table keeps_h.life
  decided_keeps t false (Some q) n fit is = changes (without h.table t) h.life n (fits_without h.repo h.table keeps_h.table t) keeps_h.life
  decided_keeps t true None n fit is = changes (kept_in h.table t) h.life n (subst (TableFits h.repo) (sym (kept_is h.repo h.table keeps_h.table t is)) (fits_keeping h.repo h.table keeps_h.table t fit)) keeps_h.life
  decided_keeps t true (Some q) n fit is = let fit_open = open_fits h.repo h.table keeps_h.table t q is in commits (keeping h.table t) q n (fits_keeping h.repo h.table keeps_h.table t fit) fit_open.0 fit_open.1

  finished_keeps : (t : Ts) (commit : Bool) (o : Option Request) (n : ℕ) → open_at h.table t ≡ o → Keeps (record (finished_by h t commit o) { count = n })
  finished_keeps t commit None n is = changes h.table h.life n keeps_h.table keeps_h.life
  finished_keeps t false (Some q) n is = changes (without h.table t) h.life n (fits_without h.repo h.table keeps_h.table t) keeps_h.life
  finished_keeps t true (Some q) n is = let fit_open = open_fits h.repo h.table keeps_h.table t q is in commits (without h.table t) q n (fits_without h.repo h.table keeps_h.table t) fit_open.0 fit_open.1

  -- each entry keeps it so
  pub keeps_entered : (e : Entry) → BodyFits (AnEntry e) → IsTrue (can_enter h e) → Keeps (entered h e)
  keeps_entered (Life n) fit can = changes (aborted_of h.table h.repo) n (h.count + 1) (fits_aborted h.repo h.table keeps_h.table h.repo) fit
  keeps_entered (One q) fit can = alone_keeps q fit (of_writes h.repo q.writes can fit.writes)
  keeps_entered (Upgraded q) fit can = alone_keeps q fit (of_writes h.repo q.writes can fit.writes)
  keeps_entered (Prepared q) fit can = prepared_keeps q fit (of_writes h.repo q.writes can fit.writes)
  keeps_entered (Decided t commit) fit can = decided_keeps t commit (open_at h.table t) (h.count + 1) fit refl
  keeps_entered (Finished t commit) fit can = finished_keeps t commit (open_at h.table t) (h.count + 1) refl

  -- ---- what it takes

  settles_of : (t : Ts) (commit : Bool) (o : Option Request) → open_at h.table t ≡ o → AreOf h.repo (writes_if commit o)
  settles_of t commit None is = tt
  settles_of t false (Some q) is = tt
  settles_of t true (Some q) is = (open_fits h.repo h.table keeps_h.table t q is).1

  loads_of : (e : Entry) → BodyFits (AnEntry e) → IsTrue (can_enter h e) → AreOf h.repo (loaded h e)
  loads_of (Life n) fit can = tt
  loads_of (One q) fit can = of_writes h.repo q.writes can fit.writes
  loads_of (Upgraded q) fit can = of_writes h.repo q.writes can fit.writes
  loads_of (Prepared q) fit can = tt
  loads_of (Decided t commit) fit can = settles_of t commit (open_at h.table t) refl
  loads_of (Finished t commit) fit can = settles_of t commit (open_at h.table t) refl

  new_of : (e : Entry) → IsNew h e
  new_of (Life n) = tt
  new_of (One q) = tt
  new_of (Upgraded q) = tt
  new_of (Prepared q) = can_open h.repo h.table keeps_h.table (fits_without h.repo h.table keeps_h.table) q
  new_of (Decided t commit) = tt
  new_of (Finished t commit) = tt

  pub can_move : (e : Entry) → BodyFits (AnEntry e) → IsTrue (can_enter h e) → CanMove h e
  can_move e fit can = record { one_repo = (h.repo, keeps_h.objects, loads_of e fit can); is_new = new_of e; fits = fit }

-- a side of a page comes into use
pub keeps_installed : (h : Held) (page side : ℕ) → Keeps h → Keeps (installed_in h page side)
keeps_installed h page side keeps_h = record {
  table = keeps_h.table;
  objects = each_filtered oref_cmp oref_exact (IsOf h.repo) (λ q. not (q.0.page == page)) h.objects.mob.objects keeps_h.objects;
  life = keeps_h.life;
  threshold = keeps_h.threshold;
  next = keeps_h.next;
  pages = keeps_h.pages;
  roots = keeps_h.roots;
}

-- other objects of this repository
pub keeps_objects : (h : Held) (objects : ObjectsKept) → Keeps h → AreOf h.repo objects.mob.objects → Keeps (record h { objects = objects })
keeps_objects h objects keeps_h of = record { table = keeps_h.table; objects = of; life = keeps_h.life; threshold = keeps_h.threshold; next = keeps_h.next; pages = keeps_h.pages; roots = keeps_h.roots }

-- a page's objects go
pub of_without : (repo page : ℕ) (objects : List (Oref × Obj)) → AreOf repo objects → AreOf repo (without_page objects page)
of_without repo page objects of = each_filtered oref_cmp oref_exact (IsOf repo) (λ q. not (q.0.page == page)) objects of

-- a decision is forgotten
pub keeps_forgotten : (h : Held) (t : Ts) (b : Bool) (c : Contents) → c ≡ cond b (without h.table t) h.table → Keeps h → Keeps (record h { table = c })
keeps_forgotten h t b c is keeps_h = record { table = subst (TableFits h.repo) (sym is) (by b); objects = keeps_h.objects; life = keeps_h.life; threshold = keeps_h.threshold; next = keeps_h.next; pages = keeps_h.pages; roots = keeps_h.roots }
  where
    by : (b : Bool) → TableFits h.repo (cond b (without h.table t) h.table)
    by true = fits_without h.repo h.table keeps_h.table t
    by false = keeps_h.table

-- an entry leaves the pages

decided_pages : (h : Held) (t : Ts) (commit : Bool) (o : Option Request) → (decided_by h t commit o).objects.pages ≡ h.objects.pages
decided_pages h t false o = refl
decided_pages h t true None = refl
decided_pages h t true (Some q) = refl

finished_pages : (h : Held) (t : Ts) (commit : Bool) (o : Option Request) → (finished_by h t commit o).objects.pages ≡ h.objects.pages
finished_pages h t commit None = refl
finished_pages h t false (Some q) = refl
finished_pages h t true (Some q) = refl

pub pages_entered : (h : Held) (e : Entry) → (entered h e).objects.pages ≡ h.objects.pages
pages_entered h (Life n) = refl
pages_entered h (One q) = refl
pages_entered h (Upgraded q) = refl
pages_entered h (Prepared q) = refl
pages_entered h (Decided t commit) = decided_pages h t commit (open_at h.table t)
pages_entered h (Finished t commit) = finished_pages h t commit (open_at h.table t)

none_fresh : (held : List (ℕ × Option PageContents)) (page : ℕ) → held ≡ [] → refreshed held page None ≡ []
none_fresh [] page is = refl
none_fresh (e ∷ es) page is = cc

unread_side : (pages : Store) (page side : ℕ) → IsUnread pages → IsUnread (with_side pages page side)
unread_side pages page side unread = record { none_held = none_fresh pages.held page unread.none_held; none_staged = refl }

pub unread_installed : (h : Held) (page side : ℕ) → IsUnread h.objects.pages → IsUnread (installed_in h page side).objects.pages
unread_installed h page side unread = unread_side h.objects.pages page side unread
