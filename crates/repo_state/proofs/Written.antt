-- What is kept has a spelling as a checkpoint.
use Rattle.std.proofs.Common.{◌≡◌, List, [], ◌∷◌, ap, map, refl, subst, sym, ℕ, ◌<◌, ◌^◌, ◌∙◌}
use Rattle.std.specs.List.{AllByRecursion}
use Rattle.std.specs.List.Sorted.{IsStrictlySortedBy}
use Rattle.std.specs.Map.{keys_of, values_of}
use Rattle.std.specs.Ordering.{nat_cmp}
use Rattle.log_entries.specs.RequestForm.{RequestFits, WriteFits}
use Rattle.log_codec.specs.Checkpoint.{StateFits, client_of, tx_of}
use Rattle.mob_buffer.specs.Buffer.{AreDistinct, AreOf, Objects}
use Rattle.page_format.specs.Sides.{SidesFit}
use Rattle.thor_value.specs.Names.{ts_cmp}
use Rattle.thor_value.specs.Spelling.{TsFits}
use Rattle.thor_value.specs.declared.names.Ts.{Ts}
use Rattle.two_phase.proofs.Lists.{sorted_those}
use Rattle.two_phase.specs.Contents.{request_of}
use Rattle.two_phase.specs.Lists.{decision_of, those}
use Rattle.two_phase.specs.declared.transaction.Transaction.TheVariants as kept
use Rattle.two_phase.specs.declared.transaction.Transaction.{Transaction}
use Rattle.repo_state.proofs.Buffers.{distinct_new}
use Rattle.repo_state.specs.Keeps.{Keeps, Stands}
use Rattle.repo_state.specs.Said.{spelled}
use Rattle.repo_state.specs.declared.held.Held.{Held}

writes_fit : (repo : ℕ) (objects : Objects) → AreOf repo objects → AllByRecursion WriteFits objects
writes_fit repo [] of = tt
writes_fit repo (w ∷ ws) of = ((of.0.name, of.0.object), writes_fit repo ws of.1)

requests_fit : (repo : ℕ) (es : List (Ts × Transaction)) → AllByRecursion (Stands repo) es → AllByRecursion RequestFits (values_of (those request_of es))
requests_fit repo [] h = tt
requests_fit repo ((t, kept.Open q) ∷ es) h = (h.0.1.1.0, requests_fit repo es h.1)
requests_fit repo ((t, kept.Kept) ∷ es) h = requests_fit repo es h.1

stamps_fit : (repo : ℕ) (es : List (Ts × Transaction)) → AllByRecursion (Stands repo) es → AllByRecursion TsFits (keys_of (those decision_of es))
stamps_fit repo [] h = tt
stamps_fit repo ((t, kept.Open q) ∷ es) h = stamps_fit repo es h.1
stamps_fit repo ((t, kept.Kept) ∷ es) h = (h.0.0, stamps_fit repo es h.1)

request_keys : (repo : ℕ) (es : List (Ts × Transaction)) → AllByRecursion (Stands repo) es → keys_of (those request_of es) ≡ map tx_of (values_of (those request_of es))
request_keys repo [] h = refl
request_keys repo ((t, kept.Open q) ∷ es) h = ap (λ (u : Ts). u ∷ keys_of (those request_of es)) (sym h.0.1.0) ∙ ap (λ (ts : List Ts). q.tx ∷ ts) (request_keys repo es h.1)
request_keys repo ((t, kept.Kept) ∷ es) h = request_keys repo es h.1

alone_keys : (singles : List (ℕ × Ts)) → keys_of singles ≡ map client_of singles
alone_keys [] = refl
alone_keys (a ∷ singles) = ap (λ (ks : List ℕ). a.0 ∷ ks) (alone_keys singles)

pub state_fits : (h : Held) → Keeps h → h.count < 2 ^ 62 → SidesFit h.objects.pages.sides → AreDistinct h.objects.mob.objects → StateFits (spelled h)
state_fits h keeps count sides distinct = record {
  life = keeps.life;
  count = count;
  threshold = keeps.threshold;
  next_page = keeps.pages;
  roots = keeps.roots;
  installed = sides;
  mob = writes_fit h.repo h.objects.mob.objects keeps.objects;
  mob_distinct = distinct_new h.objects.mob.objects distinct;
  prepared = requests_fit h.repo h.table.transactions.pairs keeps.table.each;
  prepared_rise = subst (IsStrictlySortedBy ts_cmp) (request_keys h.repo h.table.transactions.pairs keeps.table.each) (sorted_those request_of h.table.transactions.pairs keeps.table.sorted);
  kept = stamps_fit h.repo h.table.transactions.pairs keeps.table.each;
  kept_rise = sorted_those decision_of h.table.transactions.pairs keeps.table.sorted;
  alone = keeps.table.alone;
  alone_rise = subst (IsStrictlySortedBy nat_cmp) (alone_keys h.table.alone.pairs) keeps.table.alone_sorted;
}
