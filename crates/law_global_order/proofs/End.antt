-- What the repositories come to once what has committed is finished everywhere.
use Rattle.law_atomic_commit.proofs.Parts.{part_lives}
use Rattle.law_atomic_commit.specs.Several.{AreSound, IsAtomic, Several, part}
use Rattle.spec_history.proofs.LastWrite.{source}
use Rattle.spec_history.proofs.Meeting.{in_order}
use Rattle.spec_history.proofs.Serial.{writers_rise}
use Rattle.spec_history.specs.History.{Aborted, Committed, Fate, IsCommitted, Known, Lives, Open, is_open, state}
use Rattle.spec_history.specs.Laws.{BothWrote, Unwritten, WrittenLast}
use Rattle.spec_history.specs.Requests.{has_written, written}
use Rattle.std.proofs.Common.{Bool, List, [], ap, arith, false, inl, inr, refl, subst, sym, true, ℕ, ◌<◌, ◌≡◌, ◌≤◌, ◌∙◌, ◌∷◌}
use Rattle.std.specs.Prelude.{None, Option, Some, cond, is_some, ◌⊎◌}
use Rattle.thor_value.specs.FiniteMap.{get}
use Rattle.thor_value.specs.Names.{Before}
use Rattle.thor_value.specs.declared.names.Oref.{Oref}
use Rattle.thor_value.specs.declared.names.Ts.{Ts}
use Rattle.thor_value.specs.declared.values.Obj.{Obj}
use Rattle.law_global_order.proofs.Lists.{Es, In, Lists, last-wrote, none-wrote, put_at, there-put}
use Rattle.law_global_order.proofs.Turns.{committed_there, part_writes, wrote-there}
use Rattle.law_global_order.specs.Whole.{Commit, finished, open_writes_in, stored, whole, writes_in}

-- one of the list passes the test, or none does
some-or-none : (test : Commit → Bool) (es : Es) → ((f : Commit) × In f es × (test f ≡ true)) ⊎ ((f : Commit) → In f es → test f ≡ false)
some-or-none test [] = inr (λ f i. absurd i)
some-or-none test (e ∷ es) = by (test e) refl (some-or-none test es)
  where
    by : (k : Bool) → test e ≡ k → ((f : Commit) × In f es × (test f ≡ true)) ⊎ ((f : Commit) → In f es → test f ≡ false)
        → ((f : Commit) × In f (e ∷ es) × (test f ≡ true)) ⊎ ((f : Commit) → In f (e ∷ es) → test f ≡ false)
    by true h r = inl (e, inl refl, h)
    by false h (inl r) = inl (r.0, inr r.1, r.2)
    by false h (inr r) = inr (λ f i. here f i)
      where
        here : (f : Commit) → In f (e ∷ es) → test f ≡ false
        here f (inl is) = subst (λ (g : Commit). test g ≡ false) is h
        here f (inr i) = r f i

-- who wrote x, undecided
open-wrote : (p : Option Known) (x : Oref) → is_some (put_at (open_writes_in p) x) ≡ true → (o : Known) × (p ≡ Some o) × (o.fate ≡ Open) × (has_written o.request x ≡ true)
open-wrote None x h = cc
open-wrote (Some o) x h = by o.fate refl h
  where
    by : (f : Fate) → o.fate ≡ f → is_some (put_at (cond (is_open f) o.request.writes []) x) ≡ true → (v : Known) × (Some o ≡ Some v) × (v.fate ≡ Open) × (has_written v.request x ≡ true)
    by Open e k = (o, refl, e, k)
    by (Committed at) e k = cc
    by Aborted e k = cc

-- what an undecided one wrote
open-put : (p : Option Known) (x : Oref) (o : Known) → p ≡ Some o → o.fate ≡ Open → put_at (open_writes_in p) x ≡ get (written o.request) x
open-put p x o is f = ap (λ (q : Option Known). put_at (open_writes_in q) x) is ∙ ap (λ (g : Fate). put_at (cond (is_open g) o.request.writes []) x) f

module _ (S : Several) (at : IsAtomic S) (sd : AreSound S) (es : Es) (c : Lists S es) (r : ℕ) (x : Oref) where
  abbrev open_part : Commit → List (Oref × Obj)
  open_part f = open_writes_in (part S r f.0)

  -- two that wrote x and live
  both : (s t : Ts) (w o : Known) → part S r s ≡ Some w → part S r t ≡ Some o → Lives w.fate → Lives o.fate → has_written w.request x ≡ true → has_written o.request x ≡ true → BothWrote (S.base r) (S.history r) s t w o x
  both s t w o is it lw lo ww wo = record { first = is; second = it; first_lives = lw; second_lives = lo; first_wrote = ww; second_wrote = wo }

  -- a commit that wrote x here lives here
  wrote-lives : (g : Commit) → In g es → is_some (put_at (part_writes S r g) x) ≡ true → (o : Known) × (part S r g.0 ≡ Some o) × (has_written o.request x ≡ true) × Lives o.fate
  wrote-lives g i h =
      let k = wrote-there (part S r g.0) x h in
      let a = c.stand g i in
      (k.0, k.1, k.2, part_lives S at r g.0 a.0 k.0 a.1 k.1)

  -- one that is undecided here wrote x last
  by-open : (f : Commit) → In f es → is_some (put_at (open_part f) x) ≡ true → get (stored S es r) x ≡ get (finished S es r) x
  by-open f i h =
      let k = open-wrote (part S r f.0) x h in
      let o : Known = k.0 in
      let v = there-put (get (written o.request) x) k.3 in
      let lo : Lives o.fate = subst Lives (sym k.2) tt in
      last-wrote (part_writes S r) (S.base r).objects es x f v.0 c.rise i (ap (λ (p : Option Known). put_at (writes_in p) x) k.1 ∙ v.1) (λ g j w. by-any o k.1 k.2 k.3 lo g j w)
      ∙ sym (last-wrote open_part (state (S.base r) (S.history r)).objects es x f v.0 c.rise i (open-put (part S r f.0) x o k.1 k.2 ∙ v.1) (λ g j w.
      let a = open-wrote (part S r g.0) x w in
      inl ((writers_rise (S.base r) (S.history r) (sd.each r)).one_open g.0 f.0 a.0 o x (both g.0 f.0 a.0 o a.1 k.1 (subst Lives (sym a.2) tt) lo a.3 k.3) a.2 k.2)))
    where
      by-any : (o : Known) → part S r f.0 ≡ Some o → o.fate ≡ Open → has_written o.request x ≡ true → Lives o.fate → (g : Commit) → In g es → is_some (put_at (part_writes S r g) x) ≡ true → (g.0 ≡ f.0) ⊎ Before g.0 f.0
      by-any o is first wo lo g j w =
          let a = wrote-lives g j w in
          by a.0.fate refl a.3
        where
          by : (k : Fate) → (wrote-lives g j w).0.fate ≡ k → Lives k → (g.0 ≡ f.0) ⊎ Before g.0 f.0
          by Open e l = let a = wrote-lives g j w in inl ((writers_rise (S.base r) (S.history r) (sd.each r)).one_open g.0 f.0 a.0 o x (both g.0 f.0 a.0 o a.1 is a.3 lo a.2 wo) e first)
          by (Committed m) e l = let a = wrote-lives g j w in inr ((writers_rise (S.base r) (S.history r) (sd.each r)).open_last g.0 f.0 a.0 o x (both g.0 f.0 a.0 o a.1 is a.3 lo a.2 wo) (subst IsCommitted (sym e) tt) first)
          by Aborted e l = absurd l

  -- none of those that wrote x is undecided here
  by-committed : ((f : Commit) → In f es → is_some (put_at (open_part f) x) ≡ false) → (g : Commit) → In g es → is_some (put_at (part_writes S r g) x) ≡ true → (o : Known) × (m : ℕ) × (part S r g.0 ≡ Some o) × (has_written o.request x ≡ true) × (o.fate ≡ Committed m)
  by-committed h g i w = by a.0.fate refl a.3
    where
      a : (o : Known) × (part S r g.0 ≡ Some o) × (has_written o.request x ≡ true) × Lives o.fate
      a = wrote-lives g i w

      by : (k : Fate) → a.0.fate ≡ k → Lives k → (o : Known) × (m : ℕ) × (part S r g.0 ≡ Some o) × (has_written o.request x ≡ true) × (o.fate ≡ Committed m)
      by Open e l = let put : is_some (put_at (open_part g) x) ≡ true = ap is_some (open-put (part S r g.0) x a.0 a.1 e) ∙ a.2 in let out = h g i in cc
      by (Committed m) e l = (a.0, m, a.1, a.2, e)
      by Aborted e l = absurd l

  by-settled : ((f : Commit) → In f es → is_some (put_at (open_part f) x) ≡ false) → get (stored S es r) x ≡ get (state (S.base r) (S.history r)).objects x
  by-settled h = elim (source (S.base r) x (S.history r) (sd.each r)) [
    | inl u ↦ none-wrote (part_writes S r) (S.base r).objects es x (λ g i. untouched u g i (is_some (put_at (part_writes S r g) x)) refl) ∙ sym u.value
    | inr some ↦
        let s : Ts = some.0 in
        let w : Known = some.1 in
        let from = some.3 in
        let k = committed_there S at r s w from.there (subst IsCommitted (sym from.fate) tt) in
        let v = there-put (get (written w.request) x) from.wrote in
        last-wrote (part_writes S r) (S.base r).objects es x (s, whole S s k.0.request) v.0 c.rise (c.all s k.0 k.1) (ap (λ (p : Option Known). put_at (writes_in p) x) from.there ∙ v.1)
        (λ g i wrote. last s w some.2 from g (by-committed h g i wrote))
        ∙ sym (from.value ∙ v.1)
  ]
    where
      untouched : Unwritten (S.base r) (S.history r) x → (g : Commit) → In g es → (k : Bool) → is_some (put_at (part_writes S r g) x) ≡ k → k ≡ false
      untouched u g i true w = let a = by-committed h g i w in absurd (u.none g.0 a.0 a.1 a.2 a.4 a.3)
      untouched u g i false w = refl

      last : (s : Ts) (w : Known) (n : ℕ) → WrittenLast (S.base r) (S.history r) x s w n → (g : Commit) → (o : Known) × (m : ℕ) × (part S r g.0 ≡ Some o) × (has_written o.request x ≡ true) × (o.fate ≡ Committed m) → (g.0 ≡ s) ⊎ Before g.0 s
      last s w n from g a = elim (in_order g.0 s) [
        | inl before ↦ inr before
        | inr (inl same) ↦ inl same
        | inr (inr behind) ↦
            let o : Known = a.0 in
            let m : ℕ = a.1 in
            let two = both s g.0 w o from.there a.2 (subst Lives (sym from.fate) tt) (subst Lives (sym a.4) tt) from.wrote a.3 in
            let l : n < m = ((writers_rise (S.base r) (S.history r) (sd.each r)).rise s g.0 w o x two n m from.fate a.4).0 behind in
            let k : m ≤ n = from.last g.0 o m a.2 a.4 a.3 in
            absurd (omega arith)
      ]

  pub at_end : get (stored S es r) x ≡ get (finished S es r) x
  at_end = elim (some-or-none (λ f. is_some (put_at (open_part f) x)) es) [
    | inl k ↦ by-open k.0 k.1 k.2
    | inr h ↦ by-settled h ∙ sym (none-wrote open_part (state (S.base r) (S.history r)).objects es x h)
  ]
