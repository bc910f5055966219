-- A request for which its sender vouches continues the trace.
use Rattle.log_entries.specs.declared.entry.Entry.TheVariants.{One, Prepared, Upgraded}
use Rattle.log_entries.specs.declared.entry.Entry.{Entry}
use Rattle.log_entries.specs.declared.request.Request.{Request}
use Rattle.spec_history.specs.History.{Base}
use Rattle.spec_history.specs.Participants.{IsAlone, IsShared}
use Rattle.spec_history.specs.Requests.{is_upgrade}
use Rattle.spec_history.specs.Sound.{sound}
use Rattle.law_client_views.specs.Conditions.{MaySend}
use Rattle.client_port.specs.Views.{View}
use Rattle.client_port.specs.Works.{alone_entry}
use Rattle.spec_trace.proofs.Accepted.{one, prepared, upgraded}
use Rattle.spec_trace.proofs.Exactness.{exact-end}
use Rattle.spec_trace.proofs.Traces.{entries-append}
use Rattle.spec_trace.specs.Exact.{ComesFromSession, WritesOnPages, exact}
use Rattle.spec_trace.specs.Session.{Session, session}
use Rattle.spec_trace.specs.Trace.{E, Item, entries}
use Rattle.spec_trace.specs.Verdict.{verdict}
use Rattle.std.proofs.Common.{Bool, List, [], ap, cond, false, refl, subst, sym, true, ◌++◌, ◌∙◌, ◌∷◌, ◌≡◌, ℕ}
use Rattle.std.specs.Option.{IsSomeAnd, option_map}
use Rattle.std.specs.Prelude.{None, Option, Some}

client_of : (o : Option Session) (c d : ℕ) → option_map (λ (v : Session). v.client) o ≡ Some c → d ≡ c → IsSomeAnd o (λ v. v.client ≡ d)
client_of None c d e f = cc
client_of (Some v) c d e f = let g : v.client ≡ c = cc in g ∙ sym f

module _ (port : View) (r s : ℕ) (q : Request) (m : MaySend port r s q) (sd : sound (port.opened.base r) (entries (port.seen r))) (k : exact (port.opened.base r) (port.seen r)) (accepted : verdict (port.opened.base r) (port.seen r) s q ≡ None) where
  abbrev b : Base
  b = port.opened.base r

  abbrev T : List Item
  T = port.seen r

  accepted_own : verdict b T q.session q ≡ None
  accepted_own = ap (λ (n : ℕ). verdict b T n q) m.session ∙ accepted

  comes : ComesFromSession b T q
  comes = record {
    accepted = accepted_own;
    client = client_of (session b T q.session) port.opened.client q.who.client (ap (λ (n : ℕ). option_map (λ (v : Session). v.client) (session b T n)) m.session ∙ m.own) m.client;
    upto = m.upto;
    granted = m.granted;
    paged = subst (λ (n : ℕ). WritesOnPages b T n q) (sym m.session) m.paged;
  }

  then_both : (e : Entry) → sound b (entries T ++ e ∷ []) → exact b (T ++ E e ∷ []) → sound b (entries (T ++ E e ∷ [])) × exact b (T ++ E e ∷ [])
  then_both e h x = (subst (sound b) (sym (entries-append T (E e ∷ []))) h, x)

  pub shared : IsShared q → sound b (entries (T ++ E (Prepared q) ∷ [])) × exact b (T ++ E (Prepared q) ∷ [])
  shared h = then_both (Prepared q) (prepared b T q.session q sd m.vouched h accepted_own).1 (exact-end b T (E (Prepared q)) k comes)

  pub alone : IsAlone b q → sound b (entries (T ++ E (alone_entry q) ∷ [])) × exact b (T ++ E (alone_entry q) ∷ [])
  alone h = by (is_upgrade q) refl
    where
      by : (t : Bool) → is_upgrade q ≡ t → sound b (entries (T ++ E (cond t (Upgraded q) (One q)) ∷ [])) × exact b (T ++ E (cond t (Upgraded q) (One q)) ∷ [])
      by true e = then_both (Upgraded q) (upgraded b T q.session q sd m.vouched h e accepted_own).1 (exact-end b T (E (Upgraded q)) k comes)
      by false e = then_both (One q) (one b T q.session q sd m.vouched h e accepted_own).1 (exact-end b T (E (One q)) k comes)
