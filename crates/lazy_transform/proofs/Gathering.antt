-- Gathering along a path, and along several.
use Rattle.std.proofs.Common.{◌≡◌, ◌+◌, ◌<◌, arith, List, [], ◌∷◌, ◌++◌, ℕ, suc, length, drop, take, get_or, map, Option, Some, None, option_map, refl, ap, sym, ◌∙◌, subst}
use Rattle.std.proofs.Common.{append_assoc}
use Rattle.std.proofs.lemmas.Grind.{flat_map-append}
use Rattle.std.proofs.lemmas.List.{append-nil, map-append, take_more}
use Rattle.std.proofs.Math.Seq.{drop-cons}
use Rattle.std.proofs.lemmas.Map.Made.{lookup-map_values}
use Rattle.std.specs.BTreeMap.{is_at}
use Rattle.std.specs.List.{flat_map}
use denote.Bor.{Bor}
use Rattle.thor_value.specs.FiniteMap.{Map, get, insert}
use Rattle.thor_value.specs.Names.{oref_cmp}
use Rattle.thor_value.specs.declared.names.Oref.{Oref}
use Rattle.thor_value.specs.declared.values.Obj.{Obj}
use Rattle.thor_value.specs.declared.values.Value.{Value}
use Rattle.class_defs.specs.Eager.{value as value_of}
use Rattle.class_defs.specs.Upgrades.{object_behind}
use Rattle.class_defs.specs.declared.expressions.Name.{Name}
use Rattle.class_defs.specs.declared.store.Object.{Object}
use Rattle.lazy_transform.proofs.Alike.{behind_alike}
use Rattle.lazy_transform.proofs.Coverage.{covers_lacking, covers_last, covers_more}
use Rattle.lazy_transform.specs.Reads.{field_behind, named, passed, reads, stored_reads, with_reads}
use Rattle.lazy_transform.specs.Walked.{Covers, Gathers, all_read, as_of, classes_in}
use Rattle.lazy_transform.specs.declared.past.Past.{Past}

module _ (p : Past) (k : ℕ) where
  -- the value of an object that is at hand
  as_of_is : (z : Oref) (w : Option Obj) → get p.objects.now z ≡ w → as_of p k z ≡ option_map (value_of p.schemas.now p.objects.now k) w
  as_of_is z w h =
      lookup-map_values (value_of p.schemas.now p.objects.now k) (is_at (oref_cmp z)) p.objects.now.pairs
      ∙ ap (option_map (value_of p.schemas.now p.objects.now k)) h

  pub gathers_one : (z : Oref) (o : Obj) (v : Object) (parts : Map oref_cmp Object) (looked after : List Oref)
      → get p.objects.now z ≡ Some o → v ≡ value_of p.schemas.now p.objects.now k o
      → after ≡ (looked ++ z ∷ []) ++ reads p.schemas.now p.objects.now k o
      → Gathers p k (z ∷ []) parts (insert parts z v) looked after
  gathers_one z o v parts looked after is v_is after_is known c = (
    covers_more known parts (as_of p k) z v c (as_of_is z (Some o) is ∙ ap Some (sym v_is)),
    after_is ∙ append_assoc looked (z ∷ []) (reads p.schemas.now p.objects.now k o)
        ∙ ap (λ xs. looked ++ z ∷ xs)
        (sym (append-nil (reads p.schemas.now p.objects.now k o)) ∙ ap (λ w. stored_reads (reads p.schemas.now p.objects.now k) w ++ []) (sym is)),
  )

  pub gathers_none : (z : Oref) (parts : Map oref_cmp Object) (looked after : List Oref)
      → get p.objects.now z ≡ None → after ≡ looked ++ z ∷ [] → Gathers p k (z ∷ []) parts parts looked after
  gathers_none z parts looked after is after_is known c = (
    covers_lacking known (get parts) (as_of p k) z c (as_of_is z None is),
    after_is ∙ ap (λ w. looked ++ z ∷ (stored_reads (reads p.schemas.now p.objects.now k) w ++ [])) (sym is),
  )

  pub gathers_nothing : (parts : Map oref_cmp Object) (looked : List Oref) → Gathers p k [] parts parts looked looked
  gathers_nothing parts looked known c =
      (subst (λ xs. Covers xs (get parts) (as_of p k)) (sym (append-nil known)) c, sym (append-nil looked))

  pub gathers_then : (xs ys : List Oref) (a b c : Map oref_cmp Object) (l m n : List Oref)
      → Gathers p k xs a b l m → Gathers p k ys b c m n → Gathers p k (xs ++ ys) a c l n
  gathers_then xs ys a b c l m n first next known covers =
      let f = first known covers in
      let g = next (known ++ xs) f.0 in (
        subst (λ zs. Covers zs (get c) (as_of p k)) (append_assoc known xs ys) g.0,
        g.1 ∙ ap (λ zs. zs ++ all_read p k ys) f.1 ∙ append_assoc l (all_read p k xs) (all_read p k ys)
            ∙ ap (λ zs. l ++ zs) (sym (flat_map-append (with_reads (reads p.schemas.now p.objects.now k) p.objects.now) xs ys)),
      )

  -- ---- along a path

  -- What was gathered on the way along a path, from the value at its beginning to the one that was reached: the objects
  -- passed so far, and what is to come from there is the rest of what the whole path passes.
  pub record Followed (known : List Oref) (value : Option Value) (names : List Name) (parts : Map oref_cmp Object) (looked : List Oref)
      (reached : Option Value) (left : List Name) (more : Map oref_cmp Object) (after : List Oref) : Type 0 where
    pub done : List Oref
    pub covers : Covers (known ++ done) (get more) (as_of p k)
    pub read : after ≡ looked ++ all_read p k done
    pub rest : done ++ passed (classes_in p k) (as_of p k) reached left ≡ passed (classes_in p k) (as_of p k) value names

  abbrev pub Follows : Option Value → List Name → Map oref_cmp Object → List Oref → Option Value → List Name → Map oref_cmp Object → List Oref → Type 0
  Follows value names parts looked reached left more after =
      (known : List Oref) → Covers known (get parts) (as_of p k) → Followed known value names parts looked reached left more after

  pub follows_begin : (value : Option Value) (names : List Name) (parts : Map oref_cmp Object) (looked : List Oref)
      → Follows value names parts looked value names parts looked
  follows_begin value names parts looked known c = record {
    done = [];
    covers = subst (λ xs. Covers xs (get parts) (as_of p k)) (sym (append-nil known)) c;
    read = sym (append-nil looked);
    rest = refl;
  }

  pub follows_on : (value : Option Value) (names : List Name) (parts : Map oref_cmp Object) (looked : List Oref)
      (reached : Option Value) (name : Name) (left : List Name) (before more : Map oref_cmp Object) (middle after : List Oref) (next : Option Value)
      → Follows value names parts looked reached (name ∷ left) before middle
      → Gathers p k (named reached) before more middle after
      → next ≡ field_behind (classes_in p k) (object_behind (get more) reached) name
      → Follows value names parts looked next left more after
  follows_on value names parts looked reached name left before more middle after next so one next_is known c =
      let f = so known c in
      let g = one (known ++ f.done) f.covers in
      let same = behind_alike (classes_in p k) (as_of p k) (get more) reached (covers_last (known ++ f.done) (named reached) (get more) (as_of p k) g.0).agree in
      record {
        done = f.done ++ named reached;
        covers = subst (λ zs. Covers zs (get more) (as_of p k)) (append_assoc known f.done (named reached)) g.0;
        read =
            g.1 ∙ ap (λ zs. zs ++ all_read p k (named reached)) f.read ∙ append_assoc looked (all_read p k f.done) (all_read p k (named reached))
            ∙ ap (λ zs. looked ++ zs) (sym (flat_map-append (with_reads (reads p.schemas.now p.objects.now k) p.objects.now) f.done (named reached)));
        rest =
            ap (λ v. (f.done ++ named reached) ++ passed (classes_in p k) (as_of p k) v left)
            (next_is ∙ ap (λ o. field_behind (classes_in p k) o name) same)
            ∙ append_assoc f.done (named reached) _
            ∙ f.rest;
      }

  pub follows_end : (value : Option Value) (names : List Name) (parts : Map oref_cmp Object) (looked : List Oref)
      (reached : Option Value) (more : Map oref_cmp Object) (after : List Oref)
      → Follows value names parts looked reached [] more after
      → Gathers p k (passed (classes_in p k) (as_of p k) value names) parts more looked after
  follows_end value names parts looked reached more after so known c =
      let f = so known c in
      let whole : f.done ≡ passed (classes_in p k) (as_of p k) value names = sym (append-nil f.done) ∙ f.rest in (
        subst (λ zs. Covers (known ++ zs) (get more) (as_of p k)) whole f.covers,
        f.read ∙ ap (λ zs. looked ++ all_read p k zs) whole,
      )

  -- ---- along several paths

  pub gathers_more : (done names whole : List Oref) (before more : Map oref_cmp Object) (looked middle after : List Oref)
      → whole ≡ done ++ names → Covers done (get before) (as_of p k) × (middle ≡ looked ++ all_read p k done)
      → Gathers p k names before more middle after
      → Covers whole (get more) (as_of p k) × (after ≡ looked ++ all_read p k whole)
  gathers_more done names whole before more looked middle after is so one =
      let g = one done so.0 in
      subst (λ xs. Covers xs (get more) (as_of p k) × (after ≡ looked ++ all_read p k xs)) (sym is) (
        g.0,
        g.1 ∙ ap (λ zs. zs ++ all_read p k names) so.1 ∙ append_assoc looked (all_read p k done) (all_read p k names)
            ∙ ap (λ zs. looked ++ zs) (sym (flat_map-append (with_reads (reads p.schemas.now p.objects.now k) p.objects.now) done names)),
      )

-- ---- lists

-- one more of several references, in what each of their values gives
pub paths_more : {X Y : Type 0} (f : X → List Y) (xs : List (Bor X)) (i : ℕ) (x : Bor X) → i < length xs → x ≡ get_or xs i x
    → flat_map f (map (λ b. b.now) (take (i + 1) xs)) ≡ flat_map f (map (λ b. b.now) (take i xs)) ++ f x.now
paths_more {X = X} f xs i x within is =
    ap (λ (ys : List (Bor X)). flat_map f (map (λ b. b.now) ys)) (take_more xs i x within ∙ ap (λ q. take i xs ++ q ∷ []) (sym is))
    ∙ ap (flat_map f) (map-append (λ b. b.now) (take i xs) (x ∷ []))
    ∙ flat_map-append f (map (λ b. b.now) (take i xs)) (x.now ∷ [])
    ∙ ap (λ ys. flat_map f (map (λ b. b.now) (take i xs)) ++ ys) (append-nil (f x.now))

-- what is to come from a place begins with what stands there
pub drop_is : {X : Type 0} (xs : List X) (i : ℕ) (x : X) → i < length xs → x ≡ get_or xs i x → drop i xs ≡ x ∷ drop (i + 1) xs
drop_is xs i x within is =
    let e : suc i ≡ i + 1 = omega arith in
    drop-cons xs i x within ∙ ap (λ q. q ∷ drop (suc i) xs) (sym is) ∙ ap (λ n. x ∷ drop n xs) e
