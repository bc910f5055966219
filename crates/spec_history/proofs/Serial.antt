-- Sound histories have local order, and what follows from it: writers rise, upgrades fence, created
-- names are written once.
use Rattle.log_entries.specs.declared.entry.Entry.{Entry}
use Rattle.log_entries.specs.declared.request.Request.{Request}
use Rattle.spec_history.proofs.Meeting.{bars-behind_upgrade, bars-reads, bars-upgrade, in_order, not_both_ways, not_same, overwrites-reads, three_ways}
use Rattle.spec_history.proofs.Places.{FateFits, sound_take}
use Rattle.spec_history.proofs.Prefixes.{fits, judged, one_at_a_place, stood}
use Rattle.spec_history.specs.History.{Aborted, Base, Committed, CommittedBelow, Fate, IsCommitted, Lives, Open, Known, known_by}
use Rattle.spec_history.specs.Laws.{BothWrote, CreatedOnce, Creates, FateStays, Stays, UpgradesFence, WritersRise}
use Rattle.spec_history.specs.Order.{HasOrder}
use Rattle.spec_history.specs.Requests.{bars, has_read, has_written, overwrites}
use Rattle.spec_history.specs.Sound.{Accepts, each_creates_new, sound}
use Rattle.std.proofs.Common.{◌≡◌, ◌≢◌, ◌≤◌, ◌<◌, ℕ, List, length, take, ap, sym, ◌∙◌, subst, arith, inl, inr, ◌↔◌}
use Rattle.std.proofs.lemmas.List.{length-take-le}
use Rattle.std.proofs.lemmas.Option.{MatchOption-at_some, same_Some}
use Rattle.std.proofs.lemmas.Bool.{false_from_ne_true}
use Rattle.std.specs.Bool.{⊤}
use Rattle.std.specs.Prelude.{IsTrue, Some, false}
use Rattle.thor_value.specs.Names.{Before}
use Rattle.thor_value.specs.declared.names.Oref.{Oref}
use Rattle.thor_value.specs.declared.names.Ts.{Ts}

pub lives_back : (f g : Fate) → FateStays f g → Lives g → Lives f
lives_back Open g s l = tt
lives_back (Committed a) g s l = tt
lives_back Aborted Open s l = absurd s
lives_back Aborted (Committed at) s l = absurd s
lives_back Aborted Aborted s l = l

committed_below : (p n : ℕ) (f g : Fate) → FateFits p n f → IsCommitted f → FateStays f g → CommittedBelow n g
committed_below p n Open g h c s = absurd c
committed_below p n (Committed a) Open h c s = absurd s
committed_below p n (Committed a) (Committed at) h c s = let l : a < n = h.1 in let e : at ≡ a = s in omega arith
committed_below p n (Committed a) Aborted h c s = absurd s
committed_below p n Aborted g h c s = absurd c

-- a commit below n is behind its request
pub below_place : (p n m : ℕ) (f : Fate) → FateFits p m f → CommittedBelow n f → p < n
below_place p n m Open h c = absurd c
below_place p n m (Committed a) h c = let l : p ≤ a = h.0 in let k : a < n = c in omega arith
below_place p n m Aborted h c = absurd c

pub committed_lives : (n : ℕ) (f : Fate) → CommittedBelow n f → Lives f
committed_lives n Open c = tt
committed_lives n (Committed a) c = tt
committed_lives n Aborted c = c

open_uncommitted : (n : ℕ) (f : Fate) → f ≡ Open → CommittedBelow n f → ⊥
open_uncommitted n Open e c = c
open_uncommitted n (Committed a) e c = cc
open_uncommitted n Aborted e c = c

pub committed_at : (n m : ℕ) (f : Fate) → f ≡ Committed m → CommittedBelow n f → m < n
committed_at n m Open e c = absurd c
committed_at n m (Committed a) e c = let l : a < n = c in let same : a ≡ m = cc in omega arith
committed_at n m Aborted e c = absurd c

apart_fates : (f : Fate) → IsCommitted f → f ≡ Open → ⊥
apart_fates Open c e = c
apart_fates (Committed a) c e = cc
apart_fates Aborted c e = c

module _ (b : Base) (H : List Entry) (sd : sound b H) where
  -- what a transaction owed to another whose request stands below its own, as it is now
  pub behind : (t s : Ts) (o w : Known) → known_by b H t ≡ Some o → known_by b H s ≡ Some w → Lives w.fate → w.place < o.place
      → (IsTrue (bars o.request w.request) → CommittedBelow o.place w.fate × Before s t) × (IsTrue (overwrites o.request w.request) → Before s t)
  behind t s o w it is lives l =
      let fo = fits b H sd t o it in
      let p_le : o.place < length H = fo.below in
      let in_h : o.place ≤ length H = omega arith in
      let x = stood b H sd o.place in_h s w is l in
      let v = x.0 in
      let st : Stays v w = x.2 in
      let adm = judged b H sd t o it in
      let acc : Accepts o.request s v = MatchOption-at_some ⊤ (Accepts o.request s) v x.1 (adm.accepted s) in
      let both = acc (lives_back v.fate w.fate st.fate lives) in
      let fv = fits b (take o.place H) (sound_take b o.place H sd) s v x.1 in
      let fv' : FateFits v.place o.place v.fate = subst (λ n. FateFits v.place n v.fate) (length-take-le o.place H in_h) fv.fate in
      let turn = λ (B : Request → Request → Type 0) (h : B o.request w.request). subst (B o.request) st.request h in (
        (λ h. let y = both.0 (turn (λ q r. IsTrue (bars q r)) h) in
            (committed_below v.place o.place v.fate w.fate fv' y.0 st.fate, subst (Before s) fo.named y.1)),
        (λ h. subst (Before s) fo.named (both.1 (turn (λ q r. IsTrue (overwrites q r)) h))),
      )

  pub order : HasOrder b H
  order = record {
    rises = λ t s o w x r l. ((behind t s o w r.reader r.writer r.writer_lives l).0 (bars-reads o.request w.request x r.read r.wrote)).1;
    settled = λ t s o w x r e. elim (three_ways w.place o.place) [
      | inl l ↦ ((behind t s o w r.reader r.writer r.writer_lives l).0 (bars-reads o.request w.request x r.read r.wrote)).0
      | inr m ↦ elim m [
        | inl same ↦ absurd (r.other (one_at_a_place b H sd s t w o r.writer r.reader same))
        | inr l ↦ absurd (not_both_ways s t e ((behind s t w o r.writer r.reader r.reader_lives l).1 (overwrites-reads w.request o.request x r.wrote r.read)))
      ]
    ];
  }

  -- a transaction read what it wrote
  read_too : (t : Ts) (o : Known) (x : Oref) → known_by b H t ≡ Some o → IsTrue (has_written o.request x) → IsTrue (has_read o.request x)
  read_too t o x it w = (judged b H sd t o it).vouched.within x w

  earlier_settled : (s t : Ts) (w o : Known) (x : Oref) → BothWrote b H s t w o x → Before s t → CommittedBelow o.place w.fate
  earlier_settled s t w o x r e = order.settled t s o w x (record {
    reader = r.second;
    writer = r.first;
    other = not_same s t e;
    reader_lives = r.second_lives;
    writer_lives = r.first_lives;
    read = read_too t o x r.second r.second_wrote;
    wrote = r.first_wrote;
  }) e

  turned : (s t : Ts) (w o : Known) (x : Oref) → BothWrote b H s t w o x → BothWrote b H t s o w x
  turned s t w o x r = record {
    first = r.second;
    second = r.first;
    first_lives = r.second_lives;
    second_lives = r.first_lives;
    first_wrote = r.second_wrote;
    second_wrote = r.first_wrote;
  }

  -- a commit at n stands behind a commit below its request
  commits_rise : (s t : Ts) (w o : Known) (x : Oref) → BothWrote b H s t w o x → (m n : ℕ) → w.fate ≡ Committed m → o.fate ≡ Committed n → Before s t → m < n
  commits_rise s t w o x r m n fm fn e =
      let l : m < o.place = committed_at o.place m w.fate fm (earlier_settled s t w o x r e) in
      let fit : FateFits o.place (length H) (Committed n) = subst (FateFits o.place (length H)) fn (fits b H sd t o r.second).fate in
      let k : o.place ≤ n = fit.0 in
      omega arith

  pub writers_rise : WritersRise b H
  writers_rise = record {
    settled = earlier_settled;
    rise = λ s t w o x r m n fm fn. (
      commits_rise s t w o x r m n fm fn,
      λ l. elim (in_order s t) [
        | inl e ↦ e
        | inr h ↦ elim h [
          | inl same ↦
              let both : Some w ≡ Some o = sym r.first ∙ subst (λ u. known_by b H u ≡ Some o) (sym same) r.second in
              let one : Committed m ≡ Committed n = sym fm ∙ ap (λ (u : Known). u.fate) (same_Some w o both) ∙ fn in
              let e : m ≡ n = cc in
              absurd (omega arith)
          | inr e ↦ let k : n < m = commits_rise t s o w x (turned s t w o x r) n m fn fm e in absurd (omega arith)
        ]
      ],
    );
    one_open = λ s t w o x r fw fo. elim (in_order s t) [
      | inl e ↦ absurd (open_uncommitted o.place w.fate fw (earlier_settled s t w o x r e))
      | inr h ↦ elim h [
        | inl same ↦ same
        | inr e ↦ absurd (open_uncommitted w.place o.fate fo (earlier_settled t s o w x (turned s t w o x r) e))
      ]
    ];
    open_last = λ s t w o x r fw fo. elim (in_order s t) [
      | inl e ↦ e
      | inr h ↦ elim h [
        | inl same ↦ absurd (apart_fates w.fate fw (ap (λ (u : Known). u.fate) (same_Some w o (sym r.first ∙ subst (λ u. known_by b H u ≡ Some o) (sym same) r.second)) ∙ fo))
        | inr e ↦ absurd (open_uncommitted w.place o.fate fo (earlier_settled t s o w x (turned s t w o x r) e))
      ]
    ];
  }

  -- two transactions of which one is an upgrade, either way round
  fence : (s t : Ts) (w o : Known) → known_by b H s ≡ Some w → known_by b H t ≡ Some o → s ≢ t → Lives w.fate → Lives o.fate
      → IsTrue (bars w.request o.request) → IsTrue (bars o.request w.request) → Before s t ↔ CommittedBelow o.place w.fate
  fence s t w o is it other lw lo bw bo = (
    (λ e. elim (three_ways w.place o.place) [
      | inl l ↦ ((behind t s o w it is lw l).0 bo).0
      | inr h ↦ elim h [
        | inl same ↦ absurd (other (one_at_a_place b H sd s t w o is it same))
        | inr l ↦ absurd (not_both_ways s t e ((behind s t w o is it lo l).0 bw).1)
      ]
    ]),
    (λ c. ((behind t s o w it is lw (below_place w.place o.place (length H) w.fate (fits b H sd s w is).fate c)).0 bo).1),
  )

  pub upgrades_fence : UpgradesFence b H
  upgrades_fence = record {
    before = λ u t w o r. fence t u o w r.there r.upgrade r.other r.other_lives r.upgrade_lives (bars-behind_upgrade o.request w.request r.is) (bars-upgrade w.request o.request r.is);
    after = λ u t w o r. fence u t w o r.upgrade r.there (λ e. r.other (sym e)) r.upgrade_lives r.other_lives (bars-upgrade w.request o.request r.is) (bars-behind_upgrade o.request w.request r.is);
  }

  module _ (tells : IsTrue b.tells) (new : each_creates_new b H) where
    first_in_place : (t s : Ts) (o w : Known) (x : Oref) → Creates b H t o x → known_by b H s ≡ Some w → w.place < o.place → has_written w.request x ≡ false
    first_in_place t s o w x r is l =
        let p : o.place < length H = (fits b H sd t o r.there).below in
        let y = stood b H sd o.place (omega arith) s w is l in
        let st : Stays y.0 w = y.2 in
        let h : has_written y.0.request x ≡ false = MatchOption-at_some ⊤ (λ v. has_written v.request x ≡ false) y.0 y.1 ((new t o r.there).unwritten tells x r.fresh r.wrote s) in
        subst (λ q. has_written q x ≡ false) (sym st.request) h

    pub created_once : CreatedOnce b H
    created_once = record {
      unused = λ t o x r. (new t o r.there).unused tells x r.fresh r.wrote;
      first_by_place = first_in_place;
      first_by_time = λ t s o w x r lo is lw e. elim (three_ways w.place o.place) [
        | inl l ↦ first_in_place t s o w x r is l
        | inr h ↦ elim h [
          | inl same ↦ absurd (not_same s t e (one_at_a_place b H sd s t w o is r.there same))
          | inr l ↦ false_from_ne_true (has_written w.request x) (λ wrote. not_both_ways s t e ((behind s t w o is r.there lo l).0 (bars-reads w.request o.request x (read_too s w x is wrote) r.wrote)).1)
        ]
      ];
    }
