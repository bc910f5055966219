-- What is stored behind some commits is the stored map that they changed.
use Rattle.law_atomic_commit.specs.Several.{Alike, AreSound, HasCommitted, Several, part}
use Rattle.class_defs.specs.declared.store.Root.{Root}
use Rattle.log_entries.specs.declared.request.Kind.TheVariants.{App, Transform, Upgrade}
use Rattle.log_entries.specs.declared.request.Kind.{Kind}
use Rattle.spec_history.proofs.Prefixes.{judged}
use Rattle.spec_history.specs.History.{Known}
use Rattle.spec_history.specs.Participants.{IsBareUpgrade}
use Rattle.spec_history.specs.Requests.{is_upgrade, is_upgrade_kind, text_of}
use Rattle.law_serializability.specs.WholeHistory.{change_by, change_of, did, stored_map}
use Rattle.serial_model.specs.History.{Rise}
use Rattle.serial_model.specs.declared.entries.Did.{Did}
use Rattle.serial_model.specs.declared.entries.What.{What}
use Rattle.std.proofs.Common.{List, [], ap, inl, inr, length, map, refl, sym, true, ℕ, ◌++◌, ◌+◌, ◌≡◌, ◌∙◌, ◌∷◌}
use Rattle.std.proofs.lemmas.List.{append-nil, length-append}
use Rattle.std.specs.List.{flat_map}
use Rattle.std.specs.Prelude.{None, Option, Some}
use Rattle.law_lazy_history.specs.Changes.{changed_by, changed_by_all, entries_of, entry_of}
use Rattle.thor_value.specs.FiniteMap.{overwrite}
use Rattle.thor_value.specs.Names.{Before}
use Rattle.thor_value.specs.declared.names.Oref.{Oref}
use Rattle.thor_value.specs.declared.names.Ts.{Ts}
use Rattle.thor_value.specs.declared.values.Obj.{Obj}
use Rattle.thor_value.specs.declared.values.Who.{Who}
use Rattle.law_global_order.proofs.Lists.{AllAfter, Es, In, Rising}
use Rattle.law_global_order.specs.Serial.{Joined, after_commits, next}
use Rattle.law_global_order.specs.Whole.{Commit, whole, writes_in}

-- ---- upgrades write nothing

none_each : {X : Type 0} (f : ℕ → List X) (ns : List ℕ) → ((n : ℕ) → f n ≡ []) → flat_map f ns ≡ []
none_each f [] h = refl
none_each f (n ∷ ns) h = ap (λ xs. xs ++ flat_map f ns) (h n) ∙ none_each f ns h

module _ (S : Several) (sd : AreSound S) (al : Alike S) (t : Ts) (w : Known) (h : HasCommitted S t w) where
  pub bare_part : (r : ℕ) (o : Known) → part S r t ≡ Some o → is_upgrade w.request ≡ true → IsBareUpgrade (S.base r) o.request
  bare_part r o is up = (judged (S.base r) (S.history r) (sd.each r) t o is).vouched.upgrades (ap is_upgrade_kind (al r t o w is h.there).kind ∙ up)

  part_writes_none : (r : ℕ) (o : Option Known) → part S r t ≡ o → is_upgrade w.request ≡ true → writes_in o ≡ []
  part_writes_none r None is up = refl
  part_writes_none r (Some o) is up = (bare_part r o is up).writes

  pub upgrades_write_nothing : is_upgrade w.request ≡ true → (whole S t w.request).writes ≡ []
  upgrades_write_nothing up = none_each (λ n. writes_in (part S n t)) (t.repo ∷ w.request.others) (λ n. part_writes_none n (part S n t) refl up)

-- ---- the stored map behind a commit

module _ (items : Who → What) (roots : List Root) where
  next_is : (L : Joined) (e : Commit) (k : Kind) → e.1.kind ≡ k → (is_upgrade_kind k ≡ true → e.1.writes ≡ []) → changed_by (stored_map roots L) (change_by items e k) ≡ stored_map roots (next L e.1)
  next_is L e App is none = ap (λ n. record { objects = overwrite L.objects e.1.writes; epoch = n; roots = roots }) (sym (ap (λ (k : Kind). length (L.texts ++ text_of k)) is ∙ ap length (append-nil L.texts)))
  next_is L e Transform is none = ap (λ n. record { objects = overwrite L.objects e.1.writes; epoch = n; roots = roots }) (sym (ap (λ (k : Kind). length (L.texts ++ text_of k)) is ∙ ap length (append-nil L.texts)))
  next_is L e (Upgrade text) is none =
      ap (λ (ws : List (Oref × Obj)). record { objects = overwrite L.objects ws; epoch = length L.texts + 1; roots = roots }) (sym (none refl))
      ∙ ap (λ n. record { objects = overwrite L.objects e.1.writes; epoch = n; roots = roots }) (sym (ap (λ (k : Kind). length (L.texts ++ text_of k)) is ∙ length-append L.texts (text ∷ [])))

  pub stored_next : (L : Joined) (e : Commit) → (is_upgrade e.1 ≡ true → e.1.writes ≡ []) → changed_by (stored_map roots L) (change_of items e) ≡ stored_map roots (next L e.1)
  stored_next L e none = next_is L e e.1.kind refl none

  pub stored_behind : (L : Joined) (es : Es) → ((e : Commit) → In e es → is_upgrade e.1 ≡ true → e.1.writes ≡ []) → changed_by_all (stored_map roots L) (map (change_of items) es) ≡ stored_map roots (after_commits L es)
  stored_behind L [] none = refl
  stored_behind L (e ∷ es) none =
      ap (λ N. changed_by_all N (map (change_of items) es)) (stored_next L e (none e (inl refl)))
      ∙ stored_behind (next L e.1) es (λ f i. none f (inr i))

-- ---- the entries rise

abbrev IsBeforeAll : Ts → List Did → Type 0
IsBeforeAll t [] = Unit {0}
IsBeforeAll t (d ∷ ds) = Before t d.ts

module _ (items : Who → What) where
  first_after : (t : Ts) (es : Es) → AllAfter t es → IsBeforeAll t (entries_of (map (change_of items) es))
  first_after t [] h = tt
  first_after t (e ∷ es) h = by e.1.kind (first_after t es h.1)
    where
      by : (k : Kind) → IsBeforeAll t (entries_of (map (change_of items) es)) → IsBeforeAll t (entry_of (change_by items e k) ++ entries_of (map (change_of items) es))
      by App more = h.0
      by Transform more = more
      by (Upgrade text) more = h.0

  rise_one : (d : Did) (ds : List Did) → IsBeforeAll d.ts ds → Rise ds → Rise (d ∷ ds)
  rise_one d [] h r = tt
  rise_one d (e ∷ ds) h r = (h, r)

  pub entries_rise : (es : Es) → Rising es → Rise (entries_of (map (change_of items) es))
  entries_rise [] h = tt
  entries_rise (e ∷ es) h = by e.1.kind (entries_rise es h.1)
    where
      by : (k : Kind) → Rise (entries_of (map (change_of items) es)) → Rise (entry_of (change_by items e k) ++ entries_of (map (change_of items) es))
      by App more = rise_one (did items e 0) (entries_of (map (change_of items) es)) (first_after e.0 es h.0) more
      by Transform more = more
      by (Upgrade text) more = rise_one (did items e (e.1.epoch + 1)) (entries_of (map (change_of items) es)) (first_after e.0 es h.0) more
