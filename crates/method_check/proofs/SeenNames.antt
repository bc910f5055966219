-- What a set of texts says behind one more name.
use Rattle.std.proofs.Common.{◌≡◌, ℕ, Bool, true, false, ◌||◌, not, List, [], ◌∷◌, ◌++◌, refl, sym, ap, ◌∙◌}
use Rattle.std.specs.Prelude.{Vec}
use Rattle.std.specs.HashSet.{HashSet}
use Rattle.std.specs.List.{list_any}
use Rattle.std.specs.List.Sorted.{IsPermutation}
use Rattle.std.specs.Bool.{MatchBool}
use Rattle.std.specs.Str.{bytes_eq}
use Rattle.std.proofs.lemmas.Cmp.{nat_list_eq_equiv}
use Rattle.std.proofs.lemmas.List.Folds.{list_any-append}
use Rattle.std.proofs.lemmas.List.Sorted.{list_any-IsPermutation}
use Rattle.class_defs.specs.declared.expressions.Name.{Name}
use Rattle.method_check.specs.Seen.{Has}

-- one of the names has the text
abbrev one_has : List ℕ → List Name → Bool
one_has text names = list_any (λ m. bytes_eq m.text text) names

-- one of the keys is the text
abbrev is_key : {Y : Type 0} → List ℕ → List (Vec ℕ Y) → Bool
is_key text keys = list_any (λ k. bytes_eq text k.items) keys

swapped : (a b c : Bool) → a ≡ c → (a || b) ≡ (b || (c || false))
swapped true true c same = refl
swapped true false c same = ap (λ d. d || false) same
swapped false true c same = refl
swapped false false c same = ap (λ d. d || false) same

already : (b c : Bool) → (c ≡ true → b ≡ true) → b ≡ (b || (c || false))
already true c known = refl
already false true known = known refl
already false false known = refl

with_name : (name : Name) (names : List Name) (text : List ℕ) → one_has text (names ++ name ∷ []) ≡ (one_has text names || (bytes_eq name.text text || false))
with_name name names text = list_any-append (λ (m : Name). bytes_eq m.text text) names (name ∷ [])

not_false : (b : Bool) → false ≡ not b → b ≡ true
not_false true same = refl
not_false false same = same

-- the same text as the name's is among them where the name's is
same_text : (name : Name) (names : List Name) (text : List ℕ) → one_has name.text names ≡ true → bytes_eq name.text text ≡ true → one_has text names ≡ true
same_text name names text known same =
    let other : (ms : List Name) → one_has name.text ms ≡ one_has text ms = λ ms. alike ms in
    sym (other names) ∙ known
  where
    alike : (ms : List Name) → one_has name.text ms ≡ one_has text ms
    alike [] = refl
    alike (m ∷ ms) =
        ap (λ b. b || one_has name.text ms) (nat_list_eq_equiv.symm m.text name.text ∙ nat_list_eq_equiv.congr name.text text m.text same ∙ nat_list_eq_equiv.symm text m.text)
        ∙ ap (λ b. bytes_eq m.text text || b) (alike ms)

module _ {Y S : Type 0} (old new : HashSet (Vec ℕ Y) S) (k : Vec ℕ Y) (name : Name) (names : List Name) where
  by_added : (added : Bool) → k.items ≡ name.text → added ≡ not (is_key k.items old.keys) → MatchBool added (IsPermutation (k ∷ old.keys) new.keys) (new.keys ≡ old.keys) → Has old names → (text : List ℕ) → is_key text new.keys ≡ one_has text (names ++ name ∷ [])
  by_added true its told put has text =
      sym (list_any-IsPermutation (λ (x : Vec ℕ Y). bytes_eq text x.items) (k ∷ old.keys) new.keys put)
      ∙ swapped (bytes_eq text k.items) (is_key text old.keys) (bytes_eq name.text text) (ap (bytes_eq text) its ∙ nat_list_eq_equiv.symm text name.text)
      ∙ ap (λ b. b || (bytes_eq name.text text || false)) (has.each text)
      ∙ sym (with_name name names text)
  by_added false its told kept has text =
      let known : one_has name.text names ≡ true = sym (has.each name.text) ∙ ap (λ (t : List ℕ). is_key t old.keys) (sym its) ∙ not_false (is_key k.items old.keys) told in
      ap (is_key text) kept
      ∙ has.each text
      ∙ already (one_has text names) (bytes_eq name.text text) (same_text name names text known)
      ∙ sym (with_name name names text)

  pub has_more : (added : Bool) → k.items ≡ name.text → added ≡ not (is_key k.items old.keys) → MatchBool added (IsPermutation (k ∷ old.keys) new.keys) (new.keys ≡ old.keys) → Has old names → Has new (names ++ name ∷ [])
  has_more added its told put has = record { each = by_added added its told put has }

  pub tells_new : (added : Bool) → k.items ≡ name.text → added ≡ not (is_key k.items old.keys) → Has old names → added ≡ not (one_has name.text names)
  tells_new added its told has = told ∙ ap (λ (t : List ℕ). not (is_key t old.keys)) its ∙ ap not (has.each name.text)
