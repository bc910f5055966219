-- A queue follows a history as its window does.
use Rattle.log_entries.specs.declared.entry.Entry.TheVariants.{Decided, Finished, Life, One, Prepared, Upgraded}
use Rattle.log_entries.specs.declared.entry.Entry.{Entry}
use Rattle.repo_refusals.proofs.Covered.{held, window-end}
use Rattle.repo_refusals.proofs.Queued.{aborts, clears, commits, enters, restarts}
use Rattle.spec_history.specs.History.{Aborted, Base, Committed, Fate, Open, Known, is_undecided, put, known_in, known_by, state}
use Rattle.repo_refusals.specs.Queue.{close_queue, close_queue_by, queue_of, slide_queue}
use Rattle.spec_history.specs.Requests.{is_upgrade}
use Rattle.spec_history.specs.Sound.{sound}
use Rattle.repo_refusals.specs.Window.{Member, Window, close, close_by, decide, slide, window}
use Rattle.std.proofs.Common.{List, [], ap, cond, refl, subst, sym, ◌++◌, ◌≡◌, ◌∙◌, ◌∷◌}
use Rattle.std.proofs.lemmas.Option.{same_Some}
use Rattle.std.specs.Prelude.{Bool, None, Option, Some, false, true}
use Rattle.thor_value.specs.declared.names.Ts.{Ts}
use Rattle.validation_queue.specs.Contents as queue

module _ (b : Base) (H : List Entry) (sd : sound b H) where
  abbrev W : Window
  W = window b H

  commits_open : (t : Ts) (o : Known) → known_by b H t ≡ Some o → o.fate ≡ Open → (u : Bool) → is_upgrade o.request ≡ u → queue_of (decide W t o.request) ≡ cond u (queue.cleared t) (queue.decide (queue_of W) t true)
  commits_open t o is at_first true kind = clears W t o.request kind
  commits_open t o is at_first false kind =
      let h = held b H sd in
      let x = h.opens t o is at_first in
      let m : Member = x.0 in
      let y = h.members t m x.1 in
      let one : y.0 ≡ o = same_Some y.0 o (sym y.1 ∙ is) in
      let same : m.request ≡ o.request = sym y.2 ∙ ap (λ (v : Known). v.request) one in
      subst (λ q. queue_of (decide W t q) ≡ queue.decide (queue_of W) t true) same (commits W t m x.1 (ap is_upgrade same ∙ kind))

  closes_by : (t : Ts) (c : Bool) (o : Known) → known_by b H t ≡ Some o → (f : Fate) → o.fate ≡ f → queue_of (close_by W t c o f) ≡ close_queue_by (queue_of W) t c o.request f
  closes_by t true o is Open e = commits_open t o is e (is_upgrade o.request) refl
  closes_by t false o is Open e = aborts W t
  closes_by t c o is (Committed at) e = refl
  closes_by t c o is Aborted e = refl

  closes : (t : Ts) (c : Bool) (o : Option Known) → known_by b H t ≡ o → queue_of (close W t c o) ≡ close_queue (queue_of W) t c o
  closes t c None is = refl
  closes t c (Some o) is = closes_by t c o is o.fate refl

  slides : (e : Entry) → queue_of (slide b (state b H) W e) ≡ slide_queue b (state b H) (queue_of W) e
  slides (Life n) = restarts W (state b H).top (λ t. is_undecided (known_in b (put b (state b H) (Life n)) t))
  slides (One q) = enters W q true
  slides (Prepared q) = enters W q false
  slides (Decided t c) = closes t c (known_by b H t) refl
  slides (Finished t c) = closes t c (known_by b H t) refl
  slides (Upgraded q) = refl

pub follows : (b : Base) (H : List Entry) (e : Entry) → sound b H → queue_of (window b (H ++ e ∷ [])) ≡ slide_queue b (state b H) (queue_of (window b H)) e
follows b H e sd = ap queue_of (window-end b H e) ∙ slides b H sd e
