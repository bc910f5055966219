-- A commit at its turn: what it met is there, so it does there what it rests on.
use Rattle.law_atomic_commit.specs.Several.{Alike, AreSound, HasCommitted, IsAtomic, Several, part}
use Rattle.class_defs.proofs.Levels.{due_is}
use Rattle.class_defs.proofs.SameNames.{same_itself}
use Rattle.class_defs.specs.Eager.{eager, value}
use Rattle.class_defs.specs.Levels.{is_due}
use Rattle.class_defs.specs.Run.{Ran as RanOn}
use Rattle.class_defs.specs.Stored.{Stored, bare, in_epoch}
use Rattle.class_defs.specs.declared.store.Object.{Object}
use Rattle.class_defs.specs.declared.store.Plain.{Plain}
use Rattle.class_defs.specs.declared.store.Root.{Root}
use Rattle.class_defs.specs.declared.store.Schemas.{Schemas}
use Rattle.log_entries.specs.declared.request.Request.{Request}
use Rattle.law_lazy_upgrade.proofs.Values.{get-each, value_stays}
use Rattle.spec_history.proofs.Prefixes.{judged}
use Rattle.spec_history.specs.History.{Known}
use Rattle.spec_history.specs.Requests.{has_created}
use Rattle.law_serializability.specs.Resting.{IsOpening, PlainMet, RanAs, StoredMet, TxRests}
use Rattle.law_serializability.specs.WholeHistory.{did, stored_map}
use Rattle.serial_model.specs.History.{are_fresh, run_on}
use Rattle.serial_model.specs.declared.entries.What.{What}
use Rattle.std.proofs.Common.{Bool, List, [], ap, false, length, not, refl, subst, sym, true, ◌++◌, ◌≡◌, ◌∙◌, ◌∷◌}
use Rattle.std.proofs.lemmas.Map.Keys.{IsDistinct-head, IsDistinct-tail}
use Rattle.std.proofs.lemmas.Bool.{or_left, or_right}
use Rattle.std.specs.List.{AllByRecursion, IsDistinct, list_any}
use Rattle.std.specs.Option.{IsSomeAnd, option_map, option_or}
use Rattle.std.specs.Prelude.{None, Option, Some, is_some, ◌&&◌, ◌||◌}
use Rattle.law_lazy_history.specs.Standing.{Gave, RunsOn, left_at}
use Rattle.thor_value.specs.FiniteMap.{empty, get}
use Rattle.thor_value.specs.Names.{same_oref}
use Rattle.thor_value.specs.declared.names.Oref.{Oref}
use Rattle.thor_value.specs.declared.names.Ts.{Ts}
use Rattle.thor_value.specs.declared.values.Obj.{Obj}
use Rattle.thor_value.specs.declared.values.Who.{Who}
use Rattle.law_global_order.proofs.Chain.{whole-at}
use Rattle.law_global_order.proofs.Fresh.{fresh-at-turn}
use Rattle.law_global_order.proofs.Lists.{Es, Lists}
use Rattle.law_global_order.proofs.Serial.{joins-behind, met}
use Rattle.law_global_order.proofs.Turns.{in-range, wrote-there}
use Rattle.law_global_order.specs.Serial.{HasMet, Joined, after_commits}
use Rattle.law_global_order.specs.Whole.{Commit, whole, writes_in}

some_ran : (o : Option RanOn) (P : RanOn → Type 0) → IsSomeAnd o P → (r : RanOn) × (o ≡ Some r) × P r
some_ran None P h = absurd h
some_ran (Some r) P h = (r, refl, h)

is_ran : (o : Option RanOn) (P : RanOn → Type 0) (r : RanOn) → o ≡ Some r → P r → IsSomeAnd o P
is_ran o P r is p = subst (λ o. IsSomeAnd o P) (sym is) p

-- ---- names that are fresh

none_among : (x : Oref) (xs : List Oref) → AllByRecursion (λ y. same_oref x y ≡ false) xs → list_any (same_oref x) xs ≡ false
none_among x [] h = refl
none_among x (y ∷ ys) h = ap (λ (b : Bool). b || list_any (same_oref x) ys) h.0 ∙ none_among x ys h.1

both_new : (o : Option Object) (b : Bool) → o ≡ None → b ≡ false → (not (is_some o) && not b) ≡ true
both_new None b is h = ap not h
both_new (Some v) b is h = cc

itself : (x : Oref) → same_oref x x ≡ true
itself x = same_itself x

pub fresh_all : (store : Plain) (xs : List Oref) → ((x : Oref) → list_any (same_oref x) xs ≡ true → get store.objects x ≡ None) → IsDistinct same_oref xs → are_fresh store xs ≡ true
fresh_all store [] none h = refl
fresh_all store (x ∷ xs) none h =
    ap (λ (b : Bool). b && are_fresh store xs) (both_new (get store.objects x) (list_any (same_oref x) xs) (none x (or_left (same_oref x x) (list_any (same_oref x) xs) (itself x))) (none_among x xs (IsDistinct-head same_oref x xs h)))
    ∙ fresh_all store xs (λ y i. none y (or_right (same_oref y x) (list_any (same_oref y) xs) i)) (IsDistinct-tail same_oref x xs h)

-- ---- one turn

module _ (s : Schemas) (items : Who → What) (roots : List Root) (S : Several) (sd : AreSound S) (at : IsAtomic S) (al : Alike S) (L : Joined) (opening : IsOpening S L)
    (done rest : Es) (t : Ts) (w : Known) (c : Lists S (done ++ (t, whole S t w.request) ∷ rest)) (h : HasCommitted S t w) where
  abbrev q : Request
  q = w.request

  abbrev commit : Commit
  commit = (t, whole S t q)

  -- the stored map at its turn
  abbrev N : Stored
  N = stored_map roots (after_commits L done)

  pub has_met : HasMet S t (after_commits L done)
  has_met = met S sd at al L opening.objects opening.texts done rest commit c

  pub epoch_is : q.epoch ≡ N.epoch
  epoch_is = (judged (S.base t.repo) (S.history t.repo) (sd.each t.repo) t w h.there).current ∙ ap length (has_met.texts t.repo w h.there)

  pub stored_met : StoredMet S t q N
  stored_met = record { epoch = sym epoch_is; objects = has_met.objects }

  -- ---- application transactions

  module _ (rests : TxRests s items S t q) where
    -- what it created isn't there
    unborn : (x : Oref) → has_created q x ≡ true → get N.objects x ≡ None
    unborn x new =
        let part_wrote : is_some (left_at (writes_in (part S x.repo t)) x) ≡ true = ap is_some (sym (both (left_at (writes_in (part S x.repo t)) x)) ∙ sym (whole-at S sd al t w x empty h)) ∙ rests.created x new in
        let k = wrote-there (part S x.repo t) x part_wrote in
        let o : Known = k.0 in
        let here : has_created o.request x ≡ true = ap (λ (ns : List Oref). list_any (same_oref x) ns) (al x.repo t o w k.1 h.there).fresh ∙ new in
        joins-behind S sd at al L opening.objects opening.texts done (commit ∷ rest) c x (in-range S sd x.repo t o k.1)
        ∙ fresh-at-turn S at sd done rest commit c x.repo o x k.1 here k.2 (rests.unborn x.repo o x k.1 new k.2)
      where
        both : (o : Option Obj) → option_or o None ≡ o
        both None = refl
        both (Some v) = refl

    -- an object that it read is as it was stored
    as_stored : (x : Oref) (o : Option Obj) → get N.objects x ≡ o → ((v : Obj) → o ≡ Some v → is_due s q.epoch v ≡ false) → option_map (value s N.objects N.epoch) o ≡ option_map bare o
    as_stored x None is undue = refl
    as_stored x (Some v) is undue = ap Some (value_stays s N.objects N.epoch v (sym (due_is s N.epoch v) ∙ subst (λ e. is_due s e v ≡ false) epoch_is (undue v refl)))

    pub plain_met : PlainMet S t q (eager s N)
    plain_met = record {
      epoch = sym epoch_is;
      old = λ r o x is read not_new.
          get-each (value s N.objects N.epoch) N.objects x
          ∙ as_stored x (get N.objects x) refl (λ v there. rests.undue r o x v is read (sym (has_met.objects r o x is read) ∙ there))
          ∙ ap (option_map bare) (has_met.objects r o x is read);
      new = λ x new. get-each (value s N.objects N.epoch) N.objects x ∙ ap (option_map (value s N.objects N.epoch)) (unborn x new);
    }

    pub ran : (r : RanOn) × (run_on s (eager s N) rests.tx q.fresh ≡ Some r) × RanAs S t q r
    ran = some_ran (run_on s (eager s N) rests.tx q.fresh) (RanAs S t q) (rests.runs (eager s N) plain_met)

    pub gave : Gave N.epoch (did items commit 0) (whole S t q).writes ran.0
    gave = record {
      answer = ran.2.answer;
      writes = λ x. ran.2.writes x ∙ ap (λ e. option_map (in_epoch e) (left_at ran.0.written x)) epoch_is;
    }

    pub runs_on : RunsOn s N (did items commit 0) (whole S t q).writes
    runs_on = record {
      tx = rests.tx;
      item = rests.item;
      number = refl;
      fresh = fresh_all (eager s N) q.fresh plain_met.new rests.distinct;
      ran = is_ran (run_on s (eager s N) rests.tx q.fresh) (Gave N.epoch (did items commit 0) (whole S t q).writes) ran.0 ran.1 gave;
    }
