-- All links behind what is told of transactions that have committed at their coordinators.
use Rattle.law_cache_coherence.proofs.Committing.{fits_learnt, fits_told, is_open_so}
use Rattle.law_cache_coherence.specs.Fitting.{Copies, FitsAt, KeepsUp, Kept, NoneToFinish, SameCopies}
use Rattle.law_cache_coherence.specs.Seen.{LinkAt}
use Rattle.law_cache_coherence.specs.Steps.{LinksFit}
use Rattle.law_cache_coherence.specs.Verdicts.{Elsewhere, Here, LinkTakes, OutcomesTold, TakesAll, TakesWrites}
use Rattle.client_state.specs.Links.{is_reply}
use Rattle.client_state.specs.declared.link.Link.TheVariants.{Apart, Joined, Unsettled}
use Rattle.client_state.specs.declared.link.Link.{Link}
use Rattle.spec_history.specs.History.{Base, Known, Open, is_open, known_by}
use Rattle.client_port.specs.Views as views
use Rattle.client_port.specs.Views.{Calm, View}
use Rattle.client_port.specs.Works.{is_prepared_by}
use Rattle.spec_trace.specs.Notices.{lives}
use Rattle.spec_trace.specs.Session.{Session, session, session_lives}
use Rattle.spec_trace.specs.Trace.{Item, entries}
use Rattle.std.proofs.Common.{Bool, List, ap, arith, false, inl, inr, is_eq, refl, subst, sym, true, ◌∙◌, ◌≡◌, ℕ}
use Rattle.std.proofs.lemmas.Bool.Decides.{nat_tests}
use Rattle.std.proofs.lemmas.Bool.{eqb-true}
use Rattle.std.proofs.lemmas.Cmp.{tied_itself}
use Rattle.std.proofs.lemmas.Map.Views.{tells_apart}
use Rattle.std.proofs.lemmas.Option.{same_Some}
use Rattle.std.specs.List.{slice_get}
use Rattle.std.specs.Prelude.{None, Option, Some, nat_eq, not, ◌&&◌, ◌<◌, ◌⊎◌}
use Rattle.thor_value.proofs.NameOrders.{ts_exact, ts_total}
use Rattle.thor_value.specs.Names.{same_ts}
use Rattle.thor_value.specs.declared.names.Ts.{Ts}

-- ---- what has committed, but for one transaction

abbrev but : Ts → (Ts → Bool) → Ts → Bool
but t later u = later u && not (same_ts u t)

itself : (t : Ts) → same_ts t t ≡ true
itself t = ap is_eq (tied_itself ts_total t)

one_ts : (u t : Ts) → same_ts u t ≡ true → u ≡ t
one_ts u t e = tells_apart ts_exact u t e

first : (x y : Bool) → (x && y) ≡ true → x ≡ true
first true y e = refl
first false y e = cc

second : (x y : Bool) → (x && y) ≡ true → y ≡ true
second true y e = e
second false y e = cc

-- ---- one session

module _ (c : ℕ) (b : Base) (u : views.Unsettled) (T : List Item) (committed later : Ts → Bool) (s upto : ℕ) (awaits : Bool) where
  abbrev holding : Copies → Kept
  holding copies = record { session = s; upto = upto; awaits = awaits; copies = copies }

  -- nothing is asked where the session isn't live, or something is unsettled
  then_told : (copies left : Copies) (h : FitsAt c b u T committed (holding copies)) → (u ≡ Calm → session_lives h.v ≡ true → FitsAt c b Calm T committed (holding copies) → FitsAt c b Calm T later (holding left)) → FitsAt c b u T later (holding left)
  then_told copies left h f = record {
    v = h.v;
    there = h.there;
    own = h.own;
    keeps = λ calm live.
        let g = f calm live (subst (λ (x : views.Unsettled). FitsAt c b x T committed (holding copies)) calm h) in
        let e : h.v ≡ g.v = same_Some h.v g.v (sym h.there ∙ g.there) in
        subst (λ (w : Session). KeepsUp b T later w (holding left)) (sym e) (g.keeps refl (subst (λ (w : Session). session_lives w ≡ true) e live));
  }

  module _ (more : (t : Ts) → committed t ≡ true → later t ≡ true) where
    -- nothing of the session's own is told
    others_here : (u ≡ Calm → lives (session b T s) ≡ true → (t : Ts) (o : Known) → known_by b (entries T) t ≡ Some o → o.fate ≡ Open → o.request.session ≡ s → later t ≡ true → committed t ≡ true) → (copies : Copies) → FitsAt c b u T committed (holding copies) → FitsAt c b u T later (holding copies)
    others_here own copies h = then_told copies copies h (λ calm live g. fits_told c b T committed later (holding copies) more (own calm (ap lives h.there ∙ live)) g)

    module _ (t : Ts) (own : (w : Ts) (o : Known) → known_by b (entries T) w ≡ Some o → o.fate ≡ Open → o.request.session ≡ s → later w ≡ true → (committed w ≡ true) ⊎ (Some t ≡ Some w)) (new : committed t ≡ false) (told : later t ≡ true) where
      -- t isn't undecided in the session
      elsewhere : is_prepared_by s (known_by b (entries T) t) ≡ false → (w : Ts) (o : Known) → known_by b (entries T) w ≡ Some o → o.fate ≡ Open → o.request.session ≡ s → later w ≡ true → committed w ≡ true
      elsewhere none w o is open' mine l = elim (own w o is open' mine l) [
        | inl before ↦ before
        | inr e ↦
            let same : known_by b (entries T) t ≡ Some o = ap (known_by b (entries T)) (same_Some t w e) ∙ is in
            let f : false ≡ true = sym none ∙ ap (is_prepared_by s) same ∙ prepared o open' mine in
            cc
      ]
        where
          prepared : (o : Known) → o.fate ≡ Open → o.request.session ≡ s → (nat_eq o.request.session s && is_open o.fate) ≡ true
          prepared o open' mine = rw (mine, open') (same_number s)
            where
              same_number : (n : ℕ) → (nat_eq n n && true) ≡ true
              same_number n = grind (arith, nat_tests)

      -- what has committed but for t
      without : (w : Ts) → committed w ≡ true → but t later w ≡ true
      without w e = by (same_ts w t) refl
        where
          by : (x : Bool) → same_ts w t ≡ x → (later w && not x) ≡ true
          by true same = let f : false ≡ true = sym new ∙ ap committed (sym (one_ts w t same)) ∙ e in cc
          by false other = rw (more w e) refl

      before_it : (w : Ts) (o : Known) → known_by b (entries T) w ≡ Some o → o.fate ≡ Open → o.request.session ≡ s → but t later w ≡ true → committed w ≡ true
      before_it w o is open' mine l = elim (own w o is open' mine (first (later w) (not (same_ts w t)) l)) [
        | inl before ↦ before
        | inr e ↦
            let same : same_ts w t ≡ true = ap (λ (x : Ts). same_ts w x) (same_Some t w e) ∙ itself w in
            let f : false ≡ true = ap not (sym same) ∙ second (later w) (not (same_ts w t)) l in
            cc
      ]

      only : (w : Ts) → later w ≡ true → (but t later w ≡ true) ⊎ (w ≡ t)
      only w l = by (same_ts w t) refl
        where
          by : (x : Bool) → same_ts w t ≡ x → (but t later w ≡ true) ⊎ (w ≡ t)
          by true same = inr (one_ts w t same)
          by false other = inl (rw (l, other) refl)

      settled : NoneToFinish b (entries T) s committed → NoneToFinish b (entries T) s (but t later)
      settled none w o is open' mine = by (but t later w) refl
        where
          by : (x : Bool) → but t later w ≡ x → x ≡ false
          by true l = let f : false ≡ true = sym (none w o is open' mine) ∙ before_it w o is open' mine l in cc
          by false l = refl

      same_when : (copies left : Copies) → (b.tells ≡ true → SameCopies b left copies) → FitsAt c b Calm T later (holding copies) → FitsAt c b Calm T later (holding left)
      same_when copies left same h = record {
        v = h.v;
        there = h.there;
        own = h.own;
        keeps = λ calm live. let y = h.keeps calm live in record {
          known = y.known;
          step = y.step;
          asked = y.asked;
          copies = λ tells. let z = y.copies tells in record {
            current = λ x o here is. z.current x o here (sym (same tells x here) ∙ is);
            own = λ x o d v w here own is. z.own x o d v w here own (sym (same tells x here) ∙ is);
            pages = z.pages;
          };
        };
      }

      takes : (copies left : Copies) → TakesWrites b T s awaits committed t copies left → FitsAt c b Calm T committed (holding copies) → FitsAt c b Calm T later (holding left)
      takes copies left (Elsewhere none same) h = same_when copies left same (fits_told c b T committed later (holding copies) more (elsewhere none) h)
      takes copies left (Here o is mine idle owed pages become) h =
          let open' : o.fate ≡ Open = is_open_so o.fate (second (nat_eq o.request.session s) (is_open o.fate) mine) in
          let own' : o.request.session ≡ s = eqb-true o.request.session s (first (nat_eq o.request.session s) (is_open o.fate) mine) in
          fits_learnt c b T (but t later) later (holding copies) t o (fits_told c b T committed (but t later) (holding copies) without before_it h) is open' own' only told (λ w l. first (later w) (not (same_ts w t)) l)
          idle (settled owed) pages left become

    own_here : (t : Ts) → (u ≡ Calm → lives (session b T s) ≡ true → (w : Ts) (o : Known) → known_by b (entries T) w ≡ Some o → o.fate ≡ Open → o.request.session ≡ s → later w ≡ true → (committed w ≡ true) ⊎ (Some t ≡ Some w)) → committed t ≡ false → later t ≡ true
        → (copies left : Copies) → (u ≡ Calm → lives (session b T s) ≡ true → TakesWrites b T s awaits committed t copies left) → FitsAt c b u T committed (holding copies) → FitsAt c b u T later (holding left)
    own_here t own new told copies left w h = then_told copies left h (λ calm live g. let on : lives (session b T s) ≡ true = ap lives h.there ∙ live in takes t (own calm on) new told copies left (w calm on) g)

-- ---- all links

pub others_told : (port : View) (links : List Link) (committed later : Ts → Bool) (copies : Copies) → OutcomesTold port links None committed later → LinksFit port committed links copies → LinksFit port later links copies
others_told port links committed later copies told fit = record { each = λ r within. by r within (slice_get links r) refl (fit.each r within) }
  where
    by : (r : ℕ) → r < port.opened.repos → (o : Option Link) → slice_get links r ≡ o → LinkAt port r committed o copies → LinkAt port r later o copies
    by r within None e h = h
    by r within (Some Apart) e h = h
    by r within (Some (Unsettled sent index)) e h = h
    by r within (Some (Joined s upto waits)) e h =
        others_here port.opened.client (port.opened.base r) (port.unsettled r) (port.seen r) committed later s upto (is_reply waits) told.more
        (λ calm live t o is open' mine l. elim (told.own r s upto waits t o within e calm live is open' mine l) [ inl before ↦ before | inr e ↦ let never : None ≡ Some t = e in cc ]) copies h

pub own_told : (port : View) (links : List Link) (committed later : Ts → Bool) (t : Ts) (copies left : Copies) → OutcomesTold port links (Some t) committed later → TakesAll port links committed later t copies left → LinksFit port committed links copies → LinksFit port later links left
own_told port links committed later t copies left told takes fit = record { each = λ r within. by r within (slice_get links r) refl (takes.each r within) (fit.each r within) }
  where
    by : (r : ℕ) → r < port.opened.repos → (o : Option Link) → slice_get links r ≡ o → LinkTakes port r committed t o copies left → LinkAt port r committed o copies → LinkAt port r later o left
    by r within None e w h = h
    by r within (Some Apart) e w h = w
    by r within (Some (Unsettled sent index)) e w h = w
    by r within (Some (Joined s upto waits)) e w h =
        own_here port.opened.client (port.opened.base r) (port.unsettled r) (port.seen r) committed later s upto (is_reply waits) told.more t
        (λ calm live x o is open' mine l. told.own r s upto waits x o within e calm live is open' mine l) takes.new takes.told copies left w h
