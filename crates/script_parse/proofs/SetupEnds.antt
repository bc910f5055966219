-- A setup may end behind each of its classes and roots, and nowhere else.
use Rattle.std.proofs.Common.{◌≡◌, ◌⊎◌, ◌≤◌, ℕ, suc, Bool, true, false, Option, Some, None, List, [], ◌∷◌, ◌++◌, length, map, refl, sym, ap, ◌∙◌, subst, inl, inr, append_assoc, append-nil, arith}
use Rattle.std.proofs.lemmas.Bool.{false≢true}
use Rattle.std.specs.Prelude.{codes}
use Rattle.std.specs.List.{AllByRecursion}
use Rattle.class_defs.specs.Grammar.{IsClass}
use Rattle.class_defs.specs.Spelling.{class_words, field_words, kind_text, method_words, root_words, at_words}
use Rattle.class_defs.specs.Words.{Word, Fixed, in_turn, name_word}
use Rattle.class_defs.specs.declared.classes.Class.{Class}
use Rattle.class_defs.specs.declared.classes.ClassKind.{ClassKind}
use Rattle.class_defs.specs.declared.classes.ClassKind.TheVariants.{Free, Part}
use Rattle.class_defs.specs.declared.declarations.Declarations.{Declarations}
use Rattle.class_defs.specs.declared.declarations.WrittenRoot.{WrittenRoot}
use Rattle.class_defs.specs.declared.expressions.At.{At}
use Rattle.method_parse.specs.Matching.{AreWords}
use Rattle.method_parse.specs.Texts.{SpellsSetup}
use Rattle.method_parse.proofs.Eats.{split}
use Rattle.method_parse.proofs.Matched.{join}
use Rattle.script_text.specs.Script.{ends_by, ends}
use Rattle.script_text.specs.declared.mark.Mark.TheVariants as marks
use Rattle.script_text.specs.declared.token.Token.{Token}
use Rattle.script_parse.proofs.Balanced.{word_mark, turn, walk, Balanced, in_class, balanced_class}
use Rattle.script_parse.proofs.PartsEnd.{AreProper, mark_is, ends_turned, ends_walk, onward_some, front_proper, rest_proper}

-- a word that is no brace and no `;`: the setup can't end behind it
one_other : (t : Token) (w : Word) (rest : List Token) (d : ℕ) (c : Bool) → AreWords (t ∷ []) (w ∷ []) → AreProper (t ∷ []) → word_mark w ≡ marks.Other → ends d c (t ∷ rest) ≡ ends d false rest
one_other t w rest d c are proper is = ap (λ m. ends_by m d (λ k b. ends k b rest)) (mark_is t w proper.0 are.0 ∙ is)

-- what the words of a class or a root do
record IsUnit (words : List Word) : Type 0 where
  whole : (tokens rest : List Token) (c : Bool) → AreWords tokens words → AreProper tokens → ends 0 c (tokens ++ rest) ≡ ends 0 true rest
  part : (front : List Token) (c : Bool) (token : Token) (more : List Token) → AreWords (front ++ token ∷ more) words → AreProper (front ++ token ∷ more) → front ≡ [] ⊎ (ends 0 c front ≡ false)

-- within the words that stand between braces a setup can't end
inner_part : (front more : List Token) (words : List Word) (d e : ℕ) → AreWords (front ++ more) words → AreProper (front ++ more) → walk words d ≡ Some e → ends (suc d) false front ≡ false
inner_part [] more words d e are proper is = refl
inner_part (t ∷ front) more [] d e are proper is = absurd are
inner_part (t ∷ front) more (w ∷ words) d e are proper is =
    let next = onward_some (turn (word_mark w) d) (λ k. walk words k) e is in
    ap (λ m. ends_by m (suc d) (λ k c. ends k c front)) (mark_is t w proper.0 are.0)
    ∙ ends_turned (word_mark w) d next.0 (λ k c. ends k c front) next.1.0
    ∙ inner_part front more words next.0 e are.1 proper.1 next.1.1

-- tokens before the last one are among the words before the last one
record Before (front : List Token) (words : List Word) : Type 0 where
  more : List Token
  are : AreWords (front ++ more) words
  proper : AreProper (front ++ more)

before_last : (front : List Token) (token : Token) (more : List Token) (words : List Word) (last : Word) → AreWords (front ++ token ∷ more) (words ++ last ∷ []) → AreProper (front ++ token ∷ more)
    → Before front words
before_last [] token more [] last are proper = record { more = []; are = tt; proper = tt }
before_last [] token more (w ∷ ws) last are proper =
    let s = split (token ∷ more) (w ∷ ws) (last ∷ []) are in
    record { more = s.front; are = s.first; proper = front_proper s.front s.rest (subst (λ (l : List Token). AreProper l) s.parts proper) }
before_last (f ∷ []) token more [] last are proper = absurd are.1
before_last (f ∷ g ∷ front) token more [] last are proper = absurd are.1
before_last (f ∷ front) token more (w ∷ ws) last are proper =
    let b = before_last front token more ws last are.1 proper.1 in
    record { more = b.more; are = (are.0, b.are); proper = (proper.0, b.proper) }

-- ---- classes

kind_other : (k : ClassKind) → word_mark (Fixed (kind_text k)) ≡ marks.Other
kind_other Free = refl
kind_other Part = refl

class_close : (tokens rest : List Token) (words : List Word) → AreWords tokens (words ++ Fixed (codes "}") ∷ []) → AreProper tokens → Balanced words → ends 1 false (tokens ++ rest) ≡ ends 0 true rest
class_close tokens rest words are proper balanced =
    let s = split tokens words (Fixed (codes "}") ∷ []) are in
    let p : AreProper (s.front ++ s.rest) = subst (λ (l : List Token). AreProper l) s.parts proper in
    ap (λ (l : List Token). ends 1 false (l ++ rest)) s.parts ∙ ap (ends 1 false) (append_assoc s.front s.rest rest)
    ∙ ends_walk s.front (s.rest ++ rest) words 0 0 s.first (front_proper s.front s.rest p) (balanced 0)
    ∙ last s.rest s.second (rest_proper s.front s.rest p)
  where
    last : (back : List Token) → AreWords back (Fixed (codes "}") ∷ []) → AreProper back → ends 1 false (back ++ rest) ≡ ends 0 true rest
    last [] a q = absurd a
    last (t ∷ []) a q = ap (λ m. ends_by m 1 (λ k c. ends k c rest)) (mark_is t (Fixed (codes "}")) q.0 a.0)
    last (t ∷ u ∷ us) a q = absurd a.1

abbrev headed : Word → Word → Word → List Word → List Word
headed kind class name inner = kind ∷ class ∷ name ∷ Fixed (codes "{") ∷ (inner ++ Fixed (codes "}") ∷ [])

headed_unit : (kind class name : Word) (inner : List Word) → word_mark kind ≡ marks.Other → word_mark class ≡ marks.Other → word_mark name ≡ marks.Other → Balanced inner → IsUnit (headed kind class name inner)
headed_unit kind class name inner k c n balanced = record { whole = whole; part = part }
  where
    open_step : (t : Token) (rest : List Token) → AreWords (t ∷ []) (Fixed (codes "{") ∷ []) → AreProper (t ∷ []) → ends 0 false (t ∷ rest) ≡ ends 1 false rest
    open_step t rest are proper = ap (λ m. ends_by m 0 (λ j b. ends j b rest)) (mark_is t (Fixed (codes "{")) proper.0 are.0)

    whole : (tokens rest : List Token) (b : Bool) → AreWords tokens (headed kind class name inner) → AreProper tokens → ends 0 b (tokens ++ rest) ≡ ends 0 true rest
    whole [] rest b are proper = absurd are
    whole (t ∷ []) rest b are proper = absurd are.1
    whole (t ∷ u ∷ []) rest b are proper = absurd are.1.1
    whole (t ∷ u ∷ v ∷ []) rest b are proper = absurd are.1.1.1
    whole (t ∷ u ∷ v ∷ x ∷ tokens) rest b are proper =
        one_other t kind (u ∷ v ∷ x ∷ (tokens ++ rest)) 0 b (are.0, tt) (proper.0, tt) k
        ∙ one_other u class (v ∷ x ∷ (tokens ++ rest)) 0 false (are.1.0, tt) (proper.1.0, tt) c
        ∙ one_other v name (x ∷ (tokens ++ rest)) 0 false (are.1.1.0, tt) (proper.1.1.0, tt) n
        ∙ open_step x (tokens ++ rest) (are.1.1.1.0, tt) (proper.1.1.1.0, tt)
        ∙ class_close tokens rest inner are.1.1.1.1 proper.1.1.1.1 balanced

    part : (front : List Token) (b : Bool) (token : Token) (more : List Token) → AreWords (front ++ token ∷ more) (headed kind class name inner) → AreProper (front ++ token ∷ more)
        → front ≡ [] ⊎ (ends 0 b front ≡ false)
    part [] b token more are proper = inl refl
    part (t ∷ []) b token more are proper = inr (one_other t kind [] 0 b (are.0, tt) (proper.0, tt) k)
    part (t ∷ u ∷ []) b token more are proper =
        inr (one_other t kind (u ∷ []) 0 b (are.0, tt) (proper.0, tt) k ∙ one_other u class [] 0 false (are.1.0, tt) (proper.1.0, tt) c)
    part (t ∷ u ∷ v ∷ []) b token more are proper =
        inr (one_other t kind (u ∷ v ∷ []) 0 b (are.0, tt) (proper.0, tt) k ∙ one_other u class (v ∷ []) 0 false (are.1.0, tt) (proper.1.0, tt) c
        ∙ one_other v name [] 0 false (are.1.1.0, tt) (proper.1.1.0, tt) n)
    part (t ∷ u ∷ v ∷ x ∷ front) b token more are proper =
        let inside = before_last front token more inner (Fixed (codes "}")) are.1.1.1.1 proper.1.1.1.1 in
        inr (one_other t kind (u ∷ v ∷ x ∷ front) 0 b (are.0, tt) (proper.0, tt) k
        ∙ one_other u class (v ∷ x ∷ front) 0 false (are.1.0, tt) (proper.1.0, tt) c
        ∙ one_other v name (x ∷ front) 0 false (are.1.1.0, tt) (proper.1.1.0, tt) n
        ∙ open_step x front (are.1.1.1.0, tt) (proper.1.1.1.0, tt)
        ∙ inner_part front inside.more inner 0 0 inside.are inside.proper (balanced 0))

class_unit : (class : Class) → IsUnit (class_words class)
class_unit class =
    let fields : List Word = in_turn (map field_words class.fields) in
    let methods : List Word = in_turn (map method_words class.methods) in
    subst (λ (w : List Word). IsUnit (Fixed (kind_text class.kind) ∷ Fixed (codes "class") ∷ name_word class.name ∷ Fixed (codes "{") ∷ w)) (append_assoc fields methods (Fixed (codes "}") ∷ []))
    (headed_unit (Fixed (kind_text class.kind)) (Fixed (codes "class")) (name_word class.name) (in_class class) (kind_other class.kind) refl refl (balanced_class class))

-- ---- roots

-- words that are no braces and no `;`, and a `;`
abbrev AreOther : List Word → Type 0
AreOther words = AllByRecursion (λ w. word_mark w ≡ marks.Other) words

others_whole : (tokens rest : List Token) (words : List Word) (c : Bool) → AreOther words → AreWords tokens (words ++ Fixed (codes ";") ∷ []) → AreProper tokens → ends 0 c (tokens ++ rest) ≡ ends 0 true rest
others_whole [] rest [] c all are proper = absurd are
others_whole (t ∷ []) rest [] c all are proper = ap (λ m. ends_by m 0 (λ k b. ends k b rest)) (mark_is t (Fixed (codes ";")) proper.0 are.0)
others_whole (t ∷ u ∷ us) rest [] c all are proper = absurd are.1
others_whole [] rest (w ∷ ws) c all are proper = absurd are
others_whole (t ∷ ts) rest (w ∷ ws) c all are proper =
    one_other t w (ts ++ rest) 0 c (are.0, tt) (proper.0, tt) all.0 ∙ others_whole ts rest ws false all.1 are.1 proper.1

others_none : (front : List Token) (words : List Word) (more : List Token) → AreOther words → AreWords (front ++ more) words → AreProper (front ++ more) → ends 0 false front ≡ false
others_none [] words more all are proper = refl
others_none (t ∷ front) [] more all are proper = absurd are
others_none (t ∷ front) (w ∷ ws) more all are proper = one_other t w front 0 false (are.0, tt) (proper.0, tt) all.0 ∙ others_none front ws more all.1 are.1 proper.1

others_part : (front : List Token) (words : List Word) (c : Bool) (more : List Token) → AreOther words → AreWords (front ++ more) words → AreProper (front ++ more)
    → front ≡ [] ⊎ (ends 0 c front ≡ false)
others_part [] words c more all are proper = inl refl
others_part (t ∷ front) [] c more all are proper = absurd are
others_part (t ∷ front) (w ∷ ws) c more all are proper = inr (one_other t w front 0 c (are.0, tt) (proper.0, tt) all.0 ∙ others_none front ws more all.1 are.1 proper.1)

others_unit : (words : List Word) → AreOther words → IsUnit (words ++ Fixed (codes ";") ∷ [])
others_unit words all = record {
  whole = λ tokens rest c are proper. others_whole tokens rest words c all are proper;
  part = λ front c token more are proper. (let b = before_last front token more words (Fixed (codes ";")) are proper in others_part front words c b.more all b.are b.proper);
}

abbrev root_front : WrittenRoot → List Word
root_front root = Fixed (codes "root") ∷ name_word root.name ∷ Fixed (codes "=") ∷ Fixed (codes "new") ∷ name_word root.class ∷ Fixed (codes "(") ∷ Fixed (codes ")") ∷ at_words root.at

at_other : (at : Option At) → AreOther (at_words at)
at_other None = tt
at_other (Some at) = (refl, (refl, tt))

root_unit : (root : WrittenRoot) → IsUnit (root_words root)
root_unit root = others_unit (root_front root) (refl, (refl, (refl, (refl, (refl, (refl, (refl, at_other root.at)))))))

-- ---- setups

-- of two ways to cut a list: the first one lies behind the other, or before it
abbrev Cuts : List Token → List Token → List Token → List Token → Type 0
Cuts a b p more = ((m : List Token) × ((p ≡ a ++ m) × (b ≡ m ++ more))) ⊎ ((t : Token) × ((m : List Token) × (a ≡ p ++ t ∷ m)))

head_same : (s u : Token) (ss us : List Token) → s ∷ ss ≡ u ∷ us → s ≡ u
head_same s u ss us q = cc

tail_same : (s u : Token) (ss us : List Token) → s ∷ ss ≡ u ∷ us → ss ≡ us
tail_same s u ss us q = cc

cut_further : (x y : Token) (a b p more : List Token) → x ≡ y → Cuts a b p more → Cuts (x ∷ a) b (y ∷ p) more
cut_further x y a b p more q (inl k) = inl (k.0, (ap (λ (h : Token). h ∷ p) (sym q) ∙ ap (λ (l : List Token). x ∷ l) k.1.0, k.1.1))
cut_further x y a b p more q (inr k) = inr (k.0, (k.1.0, ap (λ (h : Token). h ∷ a) q ∙ ap (λ (l : List Token). y ∷ l) k.1.1))

cuts : (a b p more : List Token) → a ++ b ≡ p ++ more → Cuts a b p more
cuts [] b p more e = inl (p, (refl, e))
cuts (x ∷ a) b [] more e = inr (x, (a, refl))
cuts (x ∷ a) b (y ∷ p) more e = cut_further x y a b p more (head_same x y (a ++ b) (p ++ more) e) (cuts a b p more (tail_same x y (a ++ b) (p ++ more) e))

module _ {X : Type 0} (words : X → List Word) (unit : (x : X) → IsUnit (words x)) (Fits : X → Type 0) where
  -- some of the first ones are what the tokens spell
  record SomeOf (xs : List X) (p : List Token) : Type 0 where
    these : List X
    few : length these ≤ length xs
    fit : AllByRecursion Fits xs → AllByRecursion Fits these
    are : AreWords p (in_turn (map words these))

  -- or all of them, and more
  record AllOf (xs : List X) (tail : List Word) (p more : List Token) : Type 0 where
    front : List Token
    rest : List Token
    parts : p ≡ front ++ rest
    are : AreWords front (in_turn (map words xs))
    behind : AreWords (rest ++ more) tail
    ended : ends 0 true rest ≡ true
    proper : AreProper (rest ++ more)

  none_of : (xs : List X) (p : List Token) → p ≡ [] → SomeOf xs p
  none_of xs p e = record { these = []; few = omega arith; fit = λ all. tt; are = subst (λ (l : List Token). AreWords l []) (sym e) tt }

  cut_none : (x : X) (xs : List X) (p : List Token) → p ≡ [] ⊎ (ends 0 true p ≡ false) → ends 0 true p ≡ true → SomeOf (x ∷ xs) p
  cut_none x xs p (inl e) ended = none_of (x ∷ xs) p e
  cut_none x xs p (inr e) ended = absurd (false≢true (sym e ∙ ended))

  more_some : (x : X) (xs : List X) (a m p : List Token) (tail : List Word) (more : List Token) → p ≡ a ++ m → AreWords a (words x) → SomeOf xs m ⊎ AllOf xs tail m more → SomeOf (x ∷ xs) p ⊎ AllOf (x ∷ xs) tail p more
  more_some x xs a m p tail more e are (inl s) = inl (record {
    these = x ∷ s.these;
    few = omega (arith, s.few);
    fit = λ all. (all.0, s.fit all.1);
    are = subst (λ (l : List Token). AreWords l (words x ++ in_turn (map words s.these))) (sym e) (join a m (words x) (in_turn (map words s.these)) are s.are);
  })
  more_some x xs a m p tail more e are (inr s) = inr (record {
    front = a ++ s.front;
    rest = s.rest;
    parts = e ∙ ap (λ (l : List Token). a ++ l) s.parts ∙ sym (append_assoc a s.front s.rest);
    are = join a s.front (words x) (in_turn (map words xs)) are s.are;
    behind = s.behind;
    ended = s.ended;
    proper = s.proper;
  })

  units_by : (x : X) (xs : List X) (tail : List Word) (p more a b : List Token) → AreWords a (words x) → AreWords b (in_turn (map words xs) ++ tail) → AreProper (a ++ b) → ends 0 true p ≡ true
      → ((q rest : List Token) → AreWords (q ++ rest) (in_turn (map words xs) ++ tail) → AreProper (q ++ rest) → ends 0 true q ≡ true → SomeOf xs q ⊎ AllOf xs tail q rest)
      → Cuts a b p more
      → SomeOf (x ∷ xs) p ⊎ AllOf (x ∷ xs) tail p more
  units_by x xs tail p more a b are behind proper ended further (inl k) =
      let m : List Token = k.0 in
      let again : ends 0 true m ≡ true = sym ((unit x).whole a m true are (front_proper a b proper)) ∙ sym (ap (ends 0 true) k.1.0) ∙ ended in
      more_some x xs a m p tail more k.1.0 are
      (further m more (subst (λ (l : List Token). AreWords l (in_turn (map words xs) ++ tail)) k.1.1 behind) (subst (λ (l : List Token). AreProper l) k.1.1 (rest_proper a b proper)) again)
  units_by x xs tail p more a b are behind proper ended further (inr k) =
      inl (cut_none x xs p ((unit x).part p true k.0 k.1.0 (subst (λ (l : List Token). AreWords l (words x)) k.1.1 are) (subst (λ (l : List Token). AreProper l) k.1.1 (front_proper a b proper))) ended)

  units_cut : (xs : List X) (tail : List Word) (p more : List Token) → AreWords (p ++ more) (in_turn (map words xs) ++ tail) → AreProper (p ++ more) → ends 0 true p ≡ true
      → SomeOf xs p ⊎ AllOf xs tail p more
  units_cut [] tail p more are proper ended = inr (record { front = []; rest = p; parts = refl; are = tt; behind = are; ended = ended; proper = proper })
  units_cut (x ∷ xs) tail p more are proper ended =
      let s = split (p ++ more) (words x) (in_turn (map words xs) ++ tail) (subst (λ (w : List Word). AreWords (p ++ more) w) (append_assoc (words x) (in_turn (map words xs)) tail) are) in
      let whole : AreProper (s.front ++ s.rest) = subst (λ (l : List Token). AreProper l) s.parts proper in
      units_by x xs tail p more s.front s.rest s.first s.second whole ended (units_cut xs tail) (cuts s.front s.rest p more (sym s.parts))

  -- behind all of them a setup may end
  units_whole : (xs : List X) (tokens rest : List Token) → AreWords tokens (in_turn (map words xs)) → AreProper tokens → ends 0 true (tokens ++ rest) ≡ ends 0 true rest
  units_whole [] [] rest are proper = refl
  units_whole [] (t ∷ ts) rest are proper = absurd are
  units_whole (x ∷ xs) tokens rest are proper =
      let s = split tokens (words x) (in_turn (map words xs)) are in
      let p : AreProper (s.front ++ s.rest) = subst (λ (l : List Token). AreProper l) s.parts proper in
      ap (λ (l : List Token). ends 0 true (l ++ rest)) s.parts ∙ ap (ends 0 true) (append_assoc s.front s.rest rest)
      ∙ (unit x).whole s.front (s.rest ++ rest) true s.first (front_proper s.front s.rest p)
      ∙ units_whole xs s.rest rest s.second (rest_proper s.front s.rest p)

no_words : (rest more : List Token) → AreWords (rest ++ more) [] → rest ≡ []
no_words [] more are = refl
no_words (t ∷ ts) more are = absurd are

abbrev AnyRoot : WrittenRoot → Type 0
AnyRoot root = Unit {0}

pub setup_ends : (tokens : List Token) (setup : Declarations) → SpellsSetup tokens setup → AreProper tokens → ends 0 true tokens ≡ true
setup_ends tokens setup spells proper =
    let s = split tokens (in_turn (map class_words setup.classes)) (in_turn (map root_words setup.roots)) spells.0 in
    let p : AreProper (s.front ++ s.rest) = subst (λ (l : List Token). AreProper l) s.parts proper in
    ap (ends 0 true) s.parts ∙ units_whole class_words class_unit IsClass setup.classes s.front s.rest s.first (front_proper s.front s.rest p)
    ∙ ap (ends 0 true) (sym (append-nil s.rest)) ∙ units_whole root_words root_unit AnyRoot setup.roots s.rest [] s.second (rest_proper s.front s.rest p)

-- what a setup begins with is a setup, where it may end there
pub setup_cut : (p more : List Token) (setup : Declarations) → SpellsSetup (p ++ more) setup → AreProper (p ++ more) → ends 0 true p ≡ true → (cut : Declarations) × SpellsSetup p cut
setup_cut p more setup spells proper ended = at_classes (units_cut class_words class_unit IsClass setup.classes (in_turn (map root_words setup.roots)) p more spells.0 proper ended)
  where
    with_no_roots : SomeOf class_words class_unit IsClass setup.classes p → (cut : Declarations) × SpellsSetup p cut
    with_no_roots s = (
      record { classes = s.these; roots = [] },
      (
        subst (λ (w : List Word). AreWords p w) (sym (append-nil (in_turn (map class_words s.these)))) s.are,
        record { classes = omega (arith, s.few, spells.1.classes); roots = omega arith; each = s.fit spells.1.each },
      ),
    )

    with_roots : (front rest : List Token) → p ≡ front ++ rest → AreWords front (in_turn (map class_words setup.classes)) → SomeOf root_words root_unit AnyRoot setup.roots rest → (cut : Declarations) × SpellsSetup p cut
    with_roots front rest parts are s = (
      record { classes = setup.classes; roots = s.these },
      (
        subst (λ (l : List Token). AreWords l (in_turn (map class_words setup.classes) ++ in_turn (map root_words s.these))) (sym parts)
            (join front rest (in_turn (map class_words setup.classes)) (in_turn (map root_words s.these)) are s.are),
        record { classes = spells.1.classes; roots = omega (arith, s.few, spells.1.roots); each = spells.1.each },
      ),
    )

    all_roots : (front rest : List Token) → p ≡ front ++ rest → AreWords front (in_turn (map class_words setup.classes)) → AllOf root_words root_unit AnyRoot setup.roots [] rest more → (cut : Declarations) × SpellsSetup p cut
    all_roots front rest parts are s =
        let none : s.rest ≡ [] = no_words s.rest more s.behind in
        with_roots front rest parts are (record {
          these = setup.roots;
          few = omega arith;
          fit = λ all. all;
          are = subst (λ (l : List Token). AreWords l (in_turn (map root_words setup.roots))) (sym (s.parts ∙ ap (λ (l : List Token). s.front ++ l) none ∙ append-nil s.front)) s.are;
        })

    at_roots : (front rest : List Token) → p ≡ front ++ rest → AreWords front (in_turn (map class_words setup.classes))
        → SomeOf root_words root_unit AnyRoot setup.roots rest ⊎ AllOf root_words root_unit AnyRoot setup.roots [] rest more → (cut : Declarations) × SpellsSetup p cut
    at_roots front rest parts are (inl s) = with_roots front rest parts are s
    at_roots front rest parts are (inr s) = all_roots front rest parts are s

    at_classes : SomeOf class_words class_unit IsClass setup.classes p ⊎ AllOf class_words class_unit IsClass setup.classes (in_turn (map root_words setup.roots)) p more → (cut : Declarations) × SpellsSetup p cut
    at_classes (inl s) = with_no_roots s
    at_classes (inr s) = at_roots s.front s.rest s.parts s.are
        (units_cut root_words root_unit AnyRoot setup.roots [] s.rest more (subst (λ (w : List Word). AreWords (s.rest ++ more) w) (sym (append-nil (in_turn (map root_words setup.roots)))) s.behind) s.proper s.ended)
