-- The whole transactions, one behind the other, on one store and on those of the repositories.
use Rattle.law_atomic_commit.specs.Several.{Alike, AreSound, HasCommitted, Several, part}
use Rattle.log_entries.specs.declared.request.Request.{Request}
use Rattle.spec_history.proofs.Commits.{get-writes}
use Rattle.spec_history.proofs.Prefixes.{judged}
use Rattle.spec_history.specs.History.{Known}
use Rattle.spec_history.specs.Participants.{takes_part}
use Rattle.spec_history.specs.Requests.{has_read, has_written}
use Rattle.std.proofs.Common.{Bool, List, [], ap, eq-eqb, false, inl, inr, refl, sym, true, ℕ, ◌≡◌, ◌∙◌, ◌∷◌}
use Rattle.std.proofs.lemmas.Bool.{eqb-true}
use Rattle.std.proofs.lemmas.List.Sums.{fold-append}
use Rattle.std.specs.List.{flat_map, fold, list_any}
use Rattle.std.specs.Option.{option_or}
use Rattle.std.specs.Prelude.{None, Option, Some, cond, is_some, nat_eq, ◌||◌}
use Rattle.thor_value.specs.FiniteMap.{get, insert, overwrite}
use Rattle.thor_value.specs.declared.names.Oref.{Oref}
use Rattle.thor_value.specs.declared.names.Ts.{Ts}
use Rattle.thor_value.specs.declared.values.Obj.{Obj}
use Rattle.law_global_order.proofs.Lists.{Es, In, put_at, unput}
use Rattle.law_global_order.proofs.Turns.{in-range, part_writes, wrote-there}
use Rattle.law_global_order.specs.Serial.{Joins, bases}
use Rattle.law_global_order.specs.Whole.{Commit, Objects, stored, whole, writes_in}

-- the objects with what each of these transactions wrote
abbrev pub after : Objects → Es → Objects
after M es = fold (λ m e. overwrite m e.1.writes) M es

at-twice : (any : Bool) (g d : Option Obj) → cond any (option_or g (option_or g d)) (option_or g d) ≡ option_or g d
at-twice true None d = refl
at-twice true (Some v) d = refl
at-twice false g d = refl

module _ (S : Several) (sd : AreSound S) where
  -- a request speaks of the objects of its repository
  pub read-here : (n : ℕ) (t : Ts) (o : Known) (x : Oref) → part S n t ≡ Some o → has_read o.request x ≡ true → x.repo ≡ n
  read-here n t o x is r = (judged (S.base n) (S.history n) (sd.each n) t o is).vouched.here x r ∙ sd.numbered n (in-range S sd n t o is)

  pub written-here : (n : ℕ) (t : Ts) (o : Known) (x : Oref) → part S n t ≡ Some o → has_written o.request x ≡ true → x.repo ≡ n
  written-here n t o x is w = read-here n t o x is ((judged (S.base n) (S.history n) (sd.each n) t o is).vouched.within x w)

  written-in : (n : ℕ) (t : Ts) (x : Oref) → is_some (put_at (writes_in (part S n t)) x) ≡ true → x.repo ≡ n
  written-in n t x h = let k = wrote-there (part S n t) x h in written-here n t k.0 x k.1 k.2

  -- what the parts at these repositories leave at x is what the part at the repository of x leaves
  parts-at : (t : Ts) (x : Oref) (N : Objects) (ns : List ℕ) → get (overwrite N (flat_map (λ n. writes_in (part S n t)) ns)) x
      ≡ cond (list_any (nat_eq x.repo) ns) (option_or (put_at (writes_in (part S x.repo t)) x) (get N x)) (get N x)
  parts-at t x N [] = refl
  parts-at t x N (n ∷ ns) =
      ap (λ (M : Objects). get M x) (fold-append (λ m kv. insert m kv.0 kv.1) N (writes_in (part S n t)) (flat_map (λ n. writes_in (part S n t)) ns))
      ∙ parts-at t x (overwrite N (writes_in (part S n t))) ns
      ∙ by (nat_eq x.repo n) refl
    where
      by : (e : Bool) → nat_eq x.repo n ≡ e
          → cond (list_any (nat_eq x.repo) ns) (option_or (put_at (writes_in (part S x.repo t)) x) (get (overwrite N (writes_in (part S n t))) x)) (get (overwrite N (writes_in (part S n t))) x)
          ≡ cond (e || list_any (nat_eq x.repo) ns) (option_or (put_at (writes_in (part S x.repo t)) x) (get N x)) (get N x)
      by true e =
          let same : x.repo ≡ n = eqb-true x.repo n e in
          let here : get (overwrite N (writes_in (part S n t))) x ≡ option_or (put_at (writes_in (part S x.repo t)) x) (get N x) = get-writes x N (writes_in (part S n t)) ∙ ap (λ (k : ℕ). option_or (put_at (writes_in (part S k t)) x) (get N x)) (sym same) in
          ap (λ (d : Option Obj). cond (list_any (nat_eq x.repo) ns) (option_or (put_at (writes_in (part S x.repo t)) x) d) d) here
          ∙ at-twice (list_any (nat_eq x.repo) ns) (put_at (writes_in (part S x.repo t)) x) (get N x)
      by false e = ap (λ (d : Option Obj). cond (list_any (nat_eq x.repo) ns) (option_or (put_at (writes_in (part S x.repo t)) x) d) d) (
          get-writes x N (writes_in (part S n t))
          ∙ ap (λ (o : Option Obj). option_or o (get N x)) (unput (put_at (writes_in (part S n t)) x) (by-written (is_some (put_at (writes_in (part S n t)) x)) refl)))
        where
          by-written : (k : Bool) → is_some (put_at (writes_in (part S n t)) x) ≡ k → k ≡ false
          by-written true h = let same : nat_eq x.repo n ≡ true = eq-eqb x.repo n (written-in n t x h) in cc
          by-written false h = refl

  module _ (al : Alike S) where
    -- where it isn't a participant, nothing of it stands
    not-there : (t : Ts) (w : Known) (n : ℕ) → HasCommitted S t w → takes_part t.repo w.request n ≡ false → (p : Option Known) → part S n t ≡ p → p ≡ None
    not-there t w n h out None is = refl
    not-there t w n h out (Some o) is =
        let same : takes_part n o.request n ≡ takes_part t.repo w.request n = (al n t o w is h.there).participants n in
        let self : takes_part n o.request n ≡ true = ap (λ (e : Bool). e || list_any (nat_eq n) o.request.others) (eq-eqb n n refl) in
        cc

    -- what the whole transaction leaves at x
    pub whole-at : (t : Ts) (w : Known) (x : Oref) (N : Objects) → HasCommitted S t w → get (overwrite N (whole S t w.request).writes) x ≡ option_or (put_at (writes_in (part S x.repo t)) x) (get N x)
    whole-at t w x N h = parts-at t x N (t.repo ∷ w.request.others) ∙ by (takes_part t.repo w.request x.repo) refl
      where
        by : (e : Bool) → takes_part t.repo w.request x.repo ≡ e → cond e (option_or (put_at (writes_in (part S x.repo t)) x) (get N x)) (get N x) ≡ option_or (put_at (writes_in (part S x.repo t)) x) (get N x)
        by true e = refl
        by false e = sym (ap (λ (p : Option Known). option_or (put_at (writes_in p) x) (get N x)) (not-there t w x.repo h e (part S x.repo t) refl))

    abbrev pub AreWhole : Es → Type 0
    AreWhole es = (e : Commit) → In e es → (w : Known) × HasCommitted S e.0 w × (e.1 ≡ whole S e.0 w.request)

    -- one store and the store of each repository
    after-at : (x : Oref) (M N : Objects) (es : Es) → AreWhole es → get M x ≡ get N x → get (after M es) x ≡ get (fold (λ m e. overwrite m (part_writes S x.repo e)) N es) x
    after-at x M N [] c h = h
    after-at x M N (e ∷ es) c h =
        let k = c e (inl refl) in
        after-at x (overwrite M e.1.writes) (overwrite N (part_writes S x.repo e)) es (λ f i. c f (inr i)) (
        ap (λ (q : Request). get (overwrite M q.writes) x) k.2
        ∙ whole-at e.0 k.0 x M k.1
        ∙ ap (option_or (put_at (part_writes S x.repo e) x)) h
        ∙ sym (get-writes x N (part_writes S x.repo e)))

    pub joined-after : (M : Objects) (es : Es) → AreWhole es → Joins S.repos (bases S) M → Joins S.repos (stored S es) (after M es)
    joined-after M es c h x l = after-at x M (S.base x.repo).objects es c (h x l)
