-- Links and copies of the running client, and what the laws say of what is kept.
use Rattle.client_cache.specs.Pages.{on, page_of, same_name, same_page}
use Rattle.law_cache_coherence.proofs.Growing.{grown}
use Rattle.law_cache_coherence.proofs.Staying.{clients_stay, is_own, when_live}
use Rattle.law_cache_coherence.specs.Fitting.{Agrees, Copies, Kept, SameCopies, awaits_behind, behind_message}
use Rattle.law_cache_coherence.specs.Links.{Becomes, BringsContent, LinkFits, kept_by}
use Rattle.client_state.specs.Learning.{without_session}
use Rattle.client_state.specs.Links.{is_reply}
use Rattle.client_state.specs.Taking.{next_place, took}
use Rattle.client_state.specs.declared.link.Link.TheVariants.{Apart, Joined, Unsettled}
use Rattle.client_state.specs.declared.link.Link.{Link}
use Rattle.client_state.specs.declared.link.Waits.TheVariants.{Epoch, Idle, Past, Reply}
use Rattle.client_state.specs.declared.link.Waits.{Waits}
use Rattle.log_entries.specs.declared.entry.Entry.{Entry}
use Rattle.spec_history.specs.History.{Base, objects_at}
use Rattle.spec_history.specs.Sound.{sound}
use Rattle.session_outbox.specs.declared.message.Message.TheVariants.{Grant, Invalid, Page, Upgrade}
use Rattle.session_outbox.specs.declared.message.Message.{Message}
use Rattle.client_port.specs.Growing.{Grew}
use Rattle.client_port.specs.Views as views
use Rattle.spec_trace.specs.Exact.{exact}
use Rattle.spec_trace.specs.Gaps.{client_in}
use Rattle.spec_trace.specs.Notices.{lives, notice_of}
use Rattle.spec_trace.specs.Session.{bound, is_news, place_of, session}
use Rattle.spec_trace.specs.Trace.{Item, entries}
use Rattle.std.proofs.Common.{Bool, List, [], ap, arith, cond, false, is_eq, refl, subst, sym, true, ◌+◌, ◌<◌, ◌^◌, ◌∙◌, ◌∷◌, ◌≡◌, ℕ}
use Rattle.std.proofs.lemmas.Bool.Decides.{nat_tests}
use Rattle.std.proofs.lemmas.Bool.{eqb-true}
use Rattle.std.proofs.lemmas.Map.Views.{tells_apart}
use Rattle.std.proofs.lemmas.Cmp.{tied_itself}
use Rattle.std.specs.List.{list_any}
use Rattle.std.specs.Prelude.{None, Option, Some, nat_eq, ◌&&◌, ◌||◌}
use Rattle.thor_value.proofs.NameOrders.{oref_exact, oref_total}
use Rattle.thor_value.specs.FiniteMap.{get}
use Rattle.thor_value.specs.Names.{same_oref}
use Rattle.thor_value.specs.declared.names.Oref.{Oref}
use Rattle.thor_value.specs.declared.names.Ts.{Ts}
use Rattle.thor_value.specs.declared.values.Obj.{Obj}

-- ---- links

below_top : (n : ℕ) → n + 1 < 2 ^ 64 → next_place n ≡ n + 1
below_top n h = omega arith

pub tells_took : (m : Message) (s upto : ℕ) (waits : Waits) (copies : Copies) → (is_news (notice_of m) ≡ true → place_of (notice_of m) + 1 < 2 ^ 64)
    → kept_by (took m (Joined s upto waits)) copies ≡ Some (record { session = s; upto = bound (notice_of m); awaits = awaits_behind (notice_of m) (is_reply waits); copies = copies })
tells_took (Page page bytes k) s upto Idle copies h = refl
tells_took (Page page bytes k) s upto Reply copies h = refl
tells_took (Page page bytes k) s upto (Past place) copies h = refl
tells_took (Page page bytes k) s upto (Epoch n) copies h = refl
tells_took (Grant page k) s upto Idle copies h = refl
tells_took (Grant page k) s upto Reply copies h = refl
tells_took (Grant page k) s upto (Past place) copies h = refl
tells_took (Grant page k) s upto (Epoch n) copies h = refl
tells_took (Invalid names k) s upto waits copies h = ap (λ (n : ℕ). Some (record { session = s; upto = n; awaits = is_reply waits; copies = copies })) (below_top k (h refl))
tells_took (Upgrade number text k) s upto waits copies h = ap (λ (n : ℕ). Some (record { session = s; upto = n; awaits = is_reply waits; copies = copies })) (below_top k (h refl))

same_number : (n : ℕ) → nat_eq n n ≡ true
same_number n = grind (arith, nat_tests)

pub tells_gone : (s upto : ℕ) (waits : Waits) (copies : Copies) → kept_by (without_session s (Joined s upto waits)) copies ≡ None
tells_gone s upto waits copies = ap (λ (t : Bool). kept_by (cond t Apart (Joined s upto waits)) copies) (same_number s)

-- what others do leaves it so, too, where nothing is asked of a session that isn't live
pub outlives_while : (c : ℕ) (b : Base) (committed : Ts → Bool) (link : Link) (copies : Copies) (u w : views.Unsettled) (T S : List Item) → Grew b c u T w S → exact b S → sound b (entries S) → ((s : ℕ) → w ≡ views.Calm → lives (session b S s) ≡ true → Agrees b (entries S) s committed)
    → LinkFits c b u T committed link copies → LinkFits c b w S committed link copies
outlives_while c b committed Apart copies u w T S g k sd a h = h
outlives_while c b committed (Joined s upto waits) copies u w T S g k sd a h =
    let kept : Kept = record { session = s; upto = upto; awaits = is_reply waits; copies = copies } in
    let mine : client_in b S s ≡ Some c = subst (λ (R : List Item). client_in b R s ≡ Some c) (sym g.ends) (clients_stay c b s T g.gap (subst (exact b) g.ends k) (is_own c b u T committed kept h)) in
    when_live c b w S committed kept mine (λ calm live. grown c b committed kept u w T S g k sd (a s calm live) h)
outlives_while c b committed (Unsettled sent index) copies u w T S g k sd a h = h

pub outlives : (c : ℕ) (b : Base) (committed : Ts → Bool) (link : Link) (copies : Copies) (u w : views.Unsettled) (T S : List Item) → Grew b c u T w S → exact b S → sound b (entries S) → ((s : ℕ) → Agrees b (entries S) s committed)
    → LinkFits c b u T committed link copies → LinkFits c b w S committed link copies
outlives c b committed link copies u w T S g k sd a h = outlives_while c b committed link copies u w T S g k sd (λ s calm live. a s) h

-- ---- copies

-- whether an object of the repository is on the page
on_page : (repo page : ℕ) (x : Oref) → x.repo ≡ repo → same_page (on repo page) (page_of x) ≡ nat_eq x.page page
on_page repo page x here =
    ap (λ (r : ℕ). nat_eq repo r && nat_eq page x.page) here ∙ ap (λ (t : Bool). t && nat_eq page x.page) (same_number repo) ∙ flip page x.page
  where
    flip : (n m : ℕ) → nat_eq n m ≡ nat_eq m n
    flip n m = grind (arith, nat_tests)

there_itself : (x : Oref) → same_name x x ≡ true
there_itself x = rw (same_number x.repo, same_number x.page, same_number x.slot) refl

both : (x y : Bool) → (x && y) ≡ true → (x ≡ true) × (y ≡ true)
both true y e = (refl, e)
both false y e = cc

-- two names of one object
one_name : (x y : Oref) → same_name x y ≡ true → x ≡ y
one_name x y e =
    let h = both (same_page (page_of x) (page_of y)) (nat_eq x.slot y.slot) e in
    let p = both (nat_eq x.repo y.repo) (nat_eq x.page y.page) h.0 in
    ap (λ (r : ℕ). record { repo = r; page = x.page; slot = x.slot }) (eqb-true x.repo y.repo p.0)
    ∙ ap (λ (g : ℕ). record { repo = y.repo; page = g; slot = x.slot }) (eqb-true x.page y.page p.1)
    ∙ ap (λ (l : ℕ). record { repo = y.repo; page = y.page; slot = l }) (eqb-true x.slot y.slot h.1)

equal_itself : (x : Oref) → same_oref x x ≡ true
equal_itself x = ap is_eq (tied_itself oref_total x)

-- the two tests of names are one
pub named_at : (x y : Oref) → same_name y x ≡ same_oref x y
named_at x y = by (same_name y x) (same_oref x y) refl refl
  where
    by : (a b : Bool) → same_name y x ≡ a → same_oref x y ≡ b → a ≡ b
    by true true g h = refl
    by false false g h = refl
    by true false g h = sym (equal_itself x) ∙ ap (same_oref x) (sym (one_name y x g)) ∙ h
    by false true g h = sym g ∙ ap (λ (z : Oref). same_name y z) (tells_apart oref_exact x y h) ∙ there_itself y

named : (names : List Oref) (x : Oref) → list_any (λ y. same_name y x) names ≡ list_any (same_oref x) names
named [] x = refl
named (y ∷ ys) x = ap (λ (t : Bool). t || list_any (λ y. same_name y x) ys) (named_at x y) ∙ ap (λ (t : Bool). same_oref x y || t) (named ys x)

pub become : (b : Base) (H : List Entry) (objects : ℕ → Option Obj) (m : Message) (old new : Copies) → BringsContent b H objects m → Becomes b.repo objects m old new → SameCopies b new (behind_message b H (notice_of m) old)
become b H objects (Page page bytes k) old new content be x here = be x here ∙ ap (λ (t : Bool). cond t (objects x.slot) (old x)) (on_page b.repo page x here) ∙ by (nat_eq x.page page) refl
  where
    by : (t : Bool) → nat_eq x.page page ≡ t → cond t (objects x.slot) (old x) ≡ cond t (get (objects_at b H k) x) (old x)
    by true e = content x here (eqb-true x.page page e)
    by false e = refl
become b H objects (Grant page k) old new content be x here = be x here ∙ ap (λ (t : Bool). cond t None (old x)) (on_page b.repo page x here)
become b H objects (Invalid names k) old new content be x here = be x here ∙ ap (λ (t : Bool). cond t None (old x)) (named names x)
become b H objects (Upgrade number text k) old new content be x here = be x here
