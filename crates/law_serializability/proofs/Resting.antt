-- What a transaction rests on stays, from when each participant has prepared it.
use Rattle.law_atomic_commit.proofs.Grown.{New, back, onward}
use Rattle.law_atomic_commit.proofs.Parts.{some-none}
use Rattle.law_atomic_commit.specs.Growing.{Continues, MayCome, grown}
use Rattle.law_atomic_commit.specs.Several.{AreAlike, AreSound, Several, part}
use Rattle.class_defs.specs.Run.{Ran}
use Rattle.class_defs.specs.Stored.{Stored, bare, in_epoch}
use Rattle.class_defs.specs.declared.store.Plain.{Plain}
use Rattle.class_defs.specs.declared.store.Root.{Root}
use Rattle.class_defs.specs.declared.store.Schemas.{Schemas}
use Rattle.log_entries.specs.declared.entry.Entry.TheVariants.{Decided, Finished, Life, One, Prepared, Upgraded}
use Rattle.log_entries.specs.declared.entry.Entry.{Entry}
use Rattle.log_entries.specs.declared.request.Kind.TheVariants.{App, Transform, Upgrade}
use Rattle.log_entries.specs.declared.request.Kind.{Kind}
use Rattle.log_entries.specs.declared.request.Request.{Request}
use Rattle.spec_history.proofs.Prefixes.{fits}
use Rattle.spec_history.specs.History.{Known, objects_at, state}
use Rattle.spec_history.specs.Laws.{Asks, Stays}
use Rattle.spec_history.specs.Participants.{takes_part}
use Rattle.spec_history.specs.Requests.{has_read, has_written}
use Rattle.spec_history.specs.Sound.{owes}
use Rattle.law_serializability.specs.Resting.{HasRead, PlainMet, RanAs, RestsAs, StoredMet, TxRests}
use Rattle.serial_model.specs.History.{run_on}
use Rattle.serial_model.specs.declared.entries.What.{What}
use Rattle.std.proofs.Common.{Bool, List, ap, arith, eq-eqb, inl, inr, length, refl, subst, sym, true, ℕ, ◌<◌, ◌≡◌, ◌∙◌}
use Rattle.std.proofs.lemmas.Option.{same_Some}
use Rattle.std.specs.List.{list_any}
use Rattle.std.specs.Option.{IsSomeAnd, option_map}
use Rattle.std.specs.Prelude.{None, Option, Some, nat_eq, ◌||◌}
use Rattle.law_lazy_history.specs.Standing.{Brings, left_at}
use Rattle.thor_value.specs.FiniteMap.{get}
use Rattle.thor_value.specs.declared.names.Oref.{Oref}
use Rattle.thor_value.specs.declared.names.Ts.{Ts}
use Rattle.thor_value.specs.declared.values.Who.{Who}
use Rattle.law_global_order.proofs.Staying.{objects-stay, whole-stays}
use Rattle.law_global_order.specs.Turns.{IsPrepared}

for_each : (o : Option Ran) (P Q : Ran → Type 0) → ((r : Ran) → P r → Q r) → IsSomeAnd o P → IsSomeAnd o Q
for_each None P Q f h = absurd h
for_each (Some r) P Q f h = f r h

module _ (S : Several) (r : ℕ) (e : Entry) (sd : AreSound S) (go : Continues S r e) (t : Ts) (w : Known) (prepared : IsPrepared S t w) where
  -- no part comes to it any more
  not_new : (n : ℕ) (v : Known) → New S r e sd go n t v → ⊥
  not_new n v new = by e go.may (subst (λ k. owes (S.base k) (state (S.base k) (S.history k)) e) (sym new.at) go.owed) new.asks
    where
      here : t.repo ≡ n → ⊥
      here same = some-none w (sym new.none ∙ subst (λ k. part S k t ≡ Some w) same prepared.there)

      own : t.repo ≡ (S.base n).repo → t.repo ≡ n
      own h = h ∙ sd.numbered n (subst (λ k. k < S.repos) (sym new.at) go.within)

      named : (p : Request) → p ≡ v.request → p.tx ≡ t
      named p asks = ap (λ (q : Request). q.tx) asks ∙ new.named

      by : (d : Entry) → MayCome S r d → owes (S.base n) (state (S.base n) (S.history n)) d → Asks d v.request → ⊥
      by (Life k) may ow asks = absurd asks
      by (One p) may ow asks = here (own (ap (λ (u : Ts). u.repo) (sym (named p asks)) ∙ ow.1.1))
      by (Prepared p) (inl may) ow asks = here (ap (λ (u : Ts). u.repo) (sym (named p asks)) ∙ may ∙ sym new.at)
      by (Prepared p) (inr may) ow asks =
          let known : part S t.repo t ≡ Some may.0 = subst (λ (u : Ts). part S u.repo u ≡ Some may.0) (named p asks) may.1 in
          let one : may.0 ≡ w = same_Some may.0 w (sym known ∙ prepared.there) in
          let alike : AreAlike r p t.repo w.request = subst (λ (x : Known). AreAlike r p t.repo x.request) one (subst (λ (u : Ts). AreAlike r p u.repo may.0.request) (named p asks) may.2) in
          let self : takes_part r p r ≡ true = ap (λ (c : Bool). c || list_any (nat_eq r) p.others) (eq-eqb r r refl) in
          let k = prepared.everywhere r (sym (alike.participants r) ∙ self) in
          some-none k.0 (sym new.none ∙ subst (λ m. part S m t ≡ Some k.0) (sym new.at) k.1)
      by (Decided u c) may ow asks = absurd asks
      by (Finished u c) may ow asks = absurd asks
      by (Upgraded p) may ow asks = here (own (ap (λ (u : Ts). u.repo) (sym (named p asks)) ∙ ow.1.1))

  before : (n : ℕ) (v : Known) → part (grown S r e) n t ≡ Some v → (o : Known) × (part S n t ≡ Some o) × Stays o v
  before n v is = elim (back S r e sd go n t v is) [
    | inl new ↦ absurd (not_new n v new)
    | inr old ↦ (old.o, old.there, old.stays)
  ]

  -- what stood at a part's place stands there
  same_at : (n : ℕ) (o v : Known) (x : Oref) → part S n t ≡ Some o → Stays o v → get (objects_at (S.base n) ((grown S r e).history n) v.place) x ≡ get (objects_at (S.base n) (S.history n) o.place) x
  same_at n o v x is st =
      let l : o.place < length (S.history n) = (fits (S.base n) (S.history n) (sd.each n) t o is).below in
      ap (λ (p : ℕ). get (objects_at (S.base n) ((grown S r e).history n) p) x) st.place
      ∙ ap (λ m. get m x) (objects-stay S r e sd go t w prepared n o.place (omega arith))

  read_on : (x : Oref) → HasRead S t x → HasRead (grown S r e) t x
  read_on x (n, o, is, read) = let g = onward S r e sd go n t o is in (n, g.0, g.1, ap (λ (q : Request). has_read q x) g.2.request ∙ read)

  read_before : (x : Oref) → HasRead (grown S r e) t x → HasRead S t x
  read_before x (n, v, is, read) = let g = before n v is in (n, g.0, g.1, ap (λ (q : Request). has_read q x) (sym g.2.request) ∙ read)

  plain_before : (M : Plain) → PlainMet (grown S r e) t w.request M → PlainMet S t w.request M
  plain_before M h = record {
    epoch = h.epoch;
    old = λ n o x is read not_new.
        let g = onward S r e sd go n t o is in
        h.old n g.0 x g.1 (ap (λ (q : Request). has_read q x) g.2.request ∙ read) not_new ∙ ap (option_map bare) (same_at n o g.0 x is g.2);
    new = h.new;
  }

  stored_before : (N : Stored) → StoredMet (grown S r e) t w.request N → StoredMet S t w.request N
  stored_before N h = record {
    epoch = h.epoch;
    objects = λ n o x is read.
        let g = onward S r e sd go n t o is in
        h.objects n g.0 x g.1 (ap (λ (q : Request). has_read q x) g.2.request ∙ read) ∙ same_at n o g.0 x is g.2;
  }

  ran_on : (a : Ran) → RanAs S t w.request a → RanAs (grown S r e) t w.request a
  ran_on a h = record {
    answer = h.answer;
    reads = λ x. ((λ k. (h.reads x).0 (read_before x k)), (λ k. read_on x ((h.reads x).1 k)));
    writes = subst (λ (q : Request). (x : Oref) → left_at q.writes x ≡ option_map (in_epoch w.request.epoch) (left_at a.written x)) (sym (whole-stays S r e sd go t w prepared)) h.writes;
  }

  tx_on : (s : Schemas) (items : Who → What) → TxRests s items S t w.request → TxRests s items (grown S r e) t w.request
  tx_on s items h = record {
    tx = h.tx;
    item = h.item;
    runs = λ M met. for_each (run_on s M h.tx w.request.fresh) (RanAs S t w.request) (RanAs (grown S r e) t w.request) ran_on (h.runs M (plain_before M met));
    undue = λ n v x o is read there.
        let g = before n v is in
        h.undue n g.0 x o g.1 (ap (λ (q : Request). has_read q x) (sym g.2.request) ∙ read) (sym (same_at n g.0 v x g.1 g.2) ∙ there);
    unborn = λ n v x is new wrote.
        let g = before n v is in
        same_at n g.0 v x g.1 g.2 ∙ h.unborn n g.0 x g.1 new (ap (λ (q : Request). has_written q x) (sym g.2.request) ∙ wrote);
    distinct = h.distinct;
    created = λ x new. ap (λ (q : Request). has_written q x) (whole-stays S r e sd go t w prepared) ∙ h.created x new;
  }

  pub rests_on : (s : Schemas) (items : Who → What) (roots : List Root) (k : Kind) → RestsAs s items roots S t w.request k → RestsAs s items roots (grown S r e) t w.request k
  rests_on s items roots App h = tx_on s items h
  rests_on s items roots Transform h = λ N fit same met. subst (λ (q : Request). Brings s N q.writes) (sym (whole-stays S r e sd go t w prepared)) (h N fit same (stored_before N met))
  rests_on s items roots (Upgrade text) h = h
