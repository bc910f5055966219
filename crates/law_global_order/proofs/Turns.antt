-- From what a transaction met at each place to what the commits before it by timestamp leave.
use Rattle.law_atomic_commit.proofs.Parts.{part_lives, some-none}
use Rattle.law_atomic_commit.specs.Several.{AreSound, HasCommitted, IsAtomic, Several, part}
use Rattle.log_entries.specs.declared.entry.Entry.{Entry}
use Rattle.spec_history.proofs.LastWrite.{reads_last}
use Rattle.spec_history.proofs.Meeting.{in_order, not_same}
use Rattle.spec_history.specs.History.{Aborted, Committed, CommittedBelow, Fate, IsCommitted, Known, Lives, Open, known_by, objects_at}
use Rattle.spec_history.specs.Laws.{LastWrote, NoneWrote, ReadsObject, WritesObject}
use Rattle.spec_history.specs.Requests.{has_read, has_written, written}
use Rattle.std.proofs.Common.{Bool, List, ap, false, inl, inr, refl, subst, sym, true, ℕ, ◌++◌, ◌<◌, ◌≡◌, ◌≢◌, ◌≤◌, ◌∙◌, ◌∷◌}
use Rattle.std.proofs.lemmas.Bool.{cases_lt}
use Rattle.std.specs.Prelude.{None, Option, Some, is_some, ◌⊎◌, ◌↔◌}
use Rattle.thor_value.specs.FiniteMap.{get}
use Rattle.thor_value.specs.Names.{Before}
use Rattle.thor_value.specs.declared.names.Oref.{Oref}
use Rattle.thor_value.specs.declared.names.Ts.{Ts}
use Rattle.thor_value.specs.declared.values.Obj.{Obj}
use Rattle.law_global_order.proofs.Lists.{Es, In, Lists, here, in-all, in-front, is-front, last-wrote, none-wrote, put_at, rising-front, there-put}
use Rattle.law_global_order.specs.Turns.{ReadAt, WritersAgree}
use Rattle.law_global_order.specs.Whole.{Commit, stored, whole, writes_in}

abbrev pub part_writes : Several → ℕ → Commit → List (Oref × Obj)
part_writes S r f = writes_in (part S r f.0)

-- ---- standings

pub committed_lives : (f : Fate) → IsCommitted f → Lives f
committed_lives Open h = absurd h
committed_lives (Committed at) h = tt
committed_lives Aborted h = absurd h

pub below_committed : (n : ℕ) (f : Fate) → CommittedBelow n f → IsCommitted f
below_committed n Open h = h
below_committed n (Committed at) h = tt
below_committed n Aborted h = h

-- who wrote x at a repository stands there
pub wrote-there : (p : Option Known) (x : Oref) → is_some (put_at (writes_in p) x) ≡ true → (o : Known) × (p ≡ Some o) × (has_written o.request x ≡ true)
wrote-there None x h = cc
wrote-there (Some o) x h = (o, refl, h)

-- where something stands there is a repository
pub in-range : (S : Several) → AreSound S → (n : ℕ) (t : Ts) (o : Known) → part S n t ≡ Some o → n < S.repos
in-range S sd n t o is = elim (cases_lt n S.repos) [
  | inl l ↦ l
  | inr h ↦ some-none o (subst (λ (H : List Entry). known_by (S.base n) H t ≡ Some o) (sd.outside n h) is)
]

module _ (S : Several) (at : IsAtomic S) where
  -- what is committed anywhere has committed
  pub committed_there : (r : ℕ) (t : Ts) (o : Known) → part S r t ≡ Some o → IsCommitted o.fate → (w : Known) × HasCommitted S t w
  committed_there r t o is c =
      let k = at.known r t o is in
      (k.0, record { there = k.1; commits = at.agreed r t o k.0 is c k.1 })

  module _ (sd : AreSound S) where
    pub writers_agree : WritersAgree S
    writers_agree r t s o v x h is other wrote = (
      (λ c.
          let k = same.0 c in
          let w = committed_there r s v is (below_committed o.place v.fate c) in
          (w.0, w.1, k.1)),
      (λ k. same.1 (part_lives S at r s k.0 v k.1 is, k.2)),
    )
      where
        reads : ReadsObject (S.base r) (S.history r) t o x
        reads = record { there = h.there; lives = part_lives S at r t h.w o h.committed h.there; read = h.read }

        writes : WritesObject (S.base r) (S.history r) t s v x
        writes = record { there = is; other = other; wrote = wrote }

        same : CommittedBelow o.place v.fate ↔ (Lives v.fate × Before s t)
        same = (reads_last (S.base r) (S.history r) (sd.each r)).same t s o v x reads writes

    -- the name x, which the transaction e read at r, has at its turn what it had at its place
    pub joined_at_turn : (done rest : Es) (e : Commit) → Lists S (done ++ e ∷ rest) → (r : ℕ) (o : Known) (x : Oref) → part S r e.0 ≡ Some o → has_read o.request x ≡ true
        → get (stored S done r) x ≡ get (objects_at (S.base r) (S.history r) o.place) x
    joined_at_turn done rest e c r o x is read = elim ((reads_last (S.base r) (S.history r) (sd.each r)).value e.0 o x reads) [
      | inl none ↦ none-wrote (part_writes S r) (S.base r).objects done x (λ f i. by-none f i none (is_some (put_at (part_writes S r f) x)) refl) ∙ sym none.value
      | inr some ↦
          let s = some.0 in
          let w : Known = some.1 in
          let l : LastWrote (S.base r) (S.history r) e.0 o x s w = some.2 in
          let k = (writers_agree r e.0 s o w x at_r l.writes.there l.writes.other l.writes.wrote).0 l.committed in
          let f : Commit = (s, whole S s k.0.request) in
          let front : In f done = is-front done rest e f c.rise (c.all s k.0 k.1) k.2 in
          let v = there-put (get (written w.request) x) l.writes.wrote in
          let put : put_at (part_writes S r f) x ≡ Some v.0 = ap (λ (p : Option Known). put_at (writes_in p) x) l.writes.there ∙ v.1 in
          last-wrote (part_writes S r) (S.base r).objects done x f v.0 (rising-front done (e ∷ rest) c.rise) front put (λ g i h. by-last s w l g i h) ∙ sym (l.value ∙ v.1)
    ]
      where
        at_r : ReadAt S r e.0 o x
        at_r = let k = c.stand e (here done rest e) in record { w = k.0; committed = k.1; there = is; read = read }

        reads : ReadsObject (S.base r) (S.history r) e.0 o x
        reads = record { there = is; lives = part_lives S at r e.0 at_r.w o at_r.committed is; read = read }

        -- one in front that wrote x is another writer, and committed below
        writer : (f : Commit) → In f done → is_some (put_at (part_writes S r f) x) ≡ true → (w : Known) × WritesObject (S.base r) (S.history r) e.0 f.0 w x × CommittedBelow o.place w.fate
        writer f i wrote =
            let k = wrote-there (part S r f.0) x wrote in
            let early : Before f.0 e.0 = in-front done rest e f c.rise i in
            let a = c.stand f (in-all done (e ∷ rest) f i) in
            let other : f.0 ≢ e.0 = λ same. not_same f.0 e.0 early same in
            let w : WritesObject (S.base r) (S.history r) e.0 f.0 k.0 x = record { there = k.1; other = other; wrote = k.2 } in
            (k.0, w, (writers_agree r e.0 f.0 o k.0 x at_r k.1 other k.2).1 (a.0, a.1, early))

        by-none : (f : Commit) → In f done → NoneWrote (S.base r) (S.history r) e.0 o x → (k : Bool) → is_some (put_at (part_writes S r f) x) ≡ k → k ≡ false
        by-none f i n true h = let w = writer f i h in absurd (n.none f.0 w.0 w.1 w.2)
        by-none f i n false h = refl

        by-last : (s : Ts) (w : Known) → LastWrote (S.base r) (S.history r) e.0 o x s w → (g : Commit) → In g done → is_some (put_at (part_writes S r g) x) ≡ true → (g.0 ≡ s) ⊎ Before g.0 s
        by-last s w l g i h = let a = writer g i h in elim (in_order g.0 s) [
          | inl before ↦ inr before
          | inr (inl same) ↦ inl same
          | inr (inr behind) ↦ inr (l.last g.0 a.0 a.1 a.2 (λ k. not_same s g.0 behind (sym k)))
        ]
