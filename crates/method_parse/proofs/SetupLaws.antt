-- Each class and root that is read is spelled by what was taken, and where the reader is stuck, the
-- tokens before begin some setup.
use Rattle.std.proofs.Common.{◌≡◌, ℕ, suc, ◌+◌, ◌≤◌, ◌<◌, Bool, List, [], ◌∷◌, ◌++◌, length, map, sym, ap, subst, ◌∙◌, append_assoc, arith}
use Rattle.std.specs.Prelude.{codes}
use Rattle.std.specs.List.{AllByRecursion}
use Rattle.std.proofs.lemmas.List.{append-nil, length_push}
use Rattle.script_text.specs.declared.token.Token.{Token}
use Rattle.class_defs.specs.declared.classes.ClassKind.{ClassKind}
use Rattle.class_defs.specs.declared.classes.ClassKind.TheVariants.{Free, Part}
use Rattle.class_defs.specs.declared.classes.Parameter.{Parameter}
use Rattle.class_defs.specs.declared.declarations.Declarations.{Declarations}
use Rattle.class_defs.specs.declared.places.Place.TheVariants as places
use Rattle.class_defs.specs.Words.{Word, Fixed, name_word, with_commas, behind_commas, in_turn}
use Rattle.class_defs.specs.Spelling as spelling
use Rattle.class_defs.specs.Spelling.{field_words, parameter_words, method_words, kind_text, class_words, root_words, setup_words, at_words, block_words}
use Rattle.class_defs.specs.Grammar.{max_nesting, IsMethod, IsClass, IsSetup}
use Rattle.method_parse.specs.Matching.{AreWords, is}
use Rattle.method_parse.specs.Reader.{Reader, ◌>>=◌, give, repeat}
use Rattle.method_parse.specs.Setups.{begins_type, field, more_fields, parameter, more_parameters, other_parameters, some_parameters, listed, parameters, method, more_methods, kind, fields, methods, class, more_classes, begins_class, root, more_roots, classes, roots, setup}
use Rattle.method_parse.proofs.Lawful.{Says, Lawful, behind, lawful_bind, lawful_give, lawful_last, lawful_if, lawful_repeat_up_to}
use Rattle.method_parse.proofs.Matched.{join, plain, lawful_word, lawful_name, lawful_type}
use Rattle.method_parse.proofs.ExpressionLaws.{lawful_at}
use Rattle.method_parse.proofs.StatementLaws.{lawful_block}

-- ---- lists that grow at the end

module _ {X : Type 0} (f : X → List Word) where
  pub turn-push : (xs : List X) (x : X) → in_turn (map f (xs ++ x ∷ [])) ≡ in_turn (map f xs) ++ f x
  turn-push [] x = append-nil (f x)
  turn-push (y ∷ ys) x = ap (λ (w : List Word). f y ++ w) (turn-push ys x) ∙ sym (append_assoc (f y) (in_turn (map f ys)) (f x))

  behind-push : (xs : List X) (x : X) → behind_commas (map f (xs ++ x ∷ [])) ≡ behind_commas (map f xs) ++ Fixed (codes ",") ∷ f x
  behind-push [] x = ap (λ (w : List Word). Fixed (codes ",") ∷ w) (append-nil (f x))
  behind-push (y ∷ ys) x = ap (λ (w : List Word). Fixed (codes ",") ∷ w)
      (ap (λ (w : List Word). f y ++ w) (behind-push ys x) ∙ sym (append_assoc (f y) (behind_commas (map f ys)) (Fixed (codes ",") ∷ f x)))

  pub commas-push : (xs : List X) (x : X) → 0 < length xs → with_commas (map f (xs ++ x ∷ [])) ≡ with_commas (map f xs) ++ Fixed (codes ",") ∷ f x
  commas-push [] x filled = absurd (omega arith)
  commas-push (y ∷ ys) x filled =
      ap (λ (w : List Word). f y ++ w) (behind-push ys x) ∙ sym (append_assoc (f y) (behind_commas (map f ys)) (Fixed (codes ",") ∷ f x))

pub all-push : {X : Type 0} (P : X → Type 0) (xs : List X) (x : X) → AllByRecursion P xs → P x → AllByRecursion P (xs ++ x ∷ [])
all-push P [] x all one = (one, tt)
all-push P (y ∷ ys) x all one = (all.0, all-push P ys x all.1 one)

-- things in turn, all of a kind, and how many more of them there may be
pub record AreInTurn {X : Type 0} (f : X → List Word) (P : X → Type 0) (bound more : ℕ) (xs : List X) (ts : List Token) : Type 0 where
  pub spelled : AreWords ts (in_turn (map f xs))
  pub few : length xs + more ≤ bound
  pub each : AllByRecursion P xs

-- one thing of a kind
pub record IsOne {X : Type 0} (f : X → List Word) (P : X → Type 0) (x : X) (ts : List Token) : Type 0 where
  pub spelled : AreWords ts (f x)
  pub is : P x

one_more : {X : Type 0} (f : X → List Word) (P : X → Type 0) (bound k : ℕ) (xs : List X) (front : List Token) → AreInTurn f P bound (suc k) xs front
    → (x : X) (text : List Token) → IsOne f P x text → AreInTurn f P bound k (xs ++ x ∷ []) (front ++ text)
one_more f P bound k xs front before x text one = record {
  spelled = subst (λ (w : List Word). AreWords (front ++ text) w) (sym (turn-push f xs x)) (join front text (in_turn (map f xs)) (f x) before.spelled one.spelled);
  few = omega (arith, length_push xs x, before.few);
  each = all-push P xs x before.each one.is;
}

fewer : {X : Type 0} (f : X → List Word) (P : X → Type 0) (bound k : ℕ) (xs : List X) (text : List Token) → AreInTurn f P bound k xs text → AreInTurn f P bound 0 xs text
fewer f P bound k xs text all = record { spelled = all.spelled; few = omega (arith, all.few); each = all.each }

none_yet : {X : Type 0} (f : X → List Word) (P : X → Type 0) (bound : ℕ) → AreInTurn f P bound bound [] []
none_yet f P bound = record { spelled = tt; few = omega arith; each = tt }

-- things read in turn, by a reader of one
pub lawful_turns : {X : Type 0} (f : X → List Word) (P : X → Type 0) (one : Reader X) → Lawful (IsOne f P) one → (test : List X → Token → Bool) (bound : ℕ)
    → Lawful (AreInTurn f P bound 0) (repeat bound test (λ xs. one >>= λ x. give (xs ++ x ∷ [])) [])
lawful_turns f P one law test bound =
    lawful_repeat_up_to (AreInTurn f P bound) (AreInTurn f P bound 0) test (λ xs. one >>= λ x. give (xs ++ x ∷ []))
    (λ k xs front before t p. lawful_last (λ x. xs ++ x ∷ []) law (λ x text s. one_more f P bound k xs front before x text s))
    (fewer f P bound) bound [] [] (none_yet f P bound)

abbrev pub Any : {X : Type 0} → X → Type 0
Any x = Unit {0}

-- ---- fields and parameters

lawful_field : Lawful (IsOne field_words Any) field
unfolding field
lawful_field =
    lawful_bind lawful_type (λ t f1 s1. lawful_bind lawful_name (λ n f2 s2. lawful_last (λ l. record { type_name = t; name = n }) (lawful_word (codes ";")) (λ l f3 s3. record {
      spelled = join f1 (f2 ++ f3) (spelling.type_word t ∷ []) (name_word n ∷ Fixed (codes ";") ∷ []) s1 (join f2 f3 (name_word n ∷ []) (Fixed (codes ";") ∷ []) s2 (plain f3 (codes ";") l s3));
      is = tt;
    })))

lawful_fields : Lawful (AreInTurn field_words Any 32 0) fields
unfolding fields more_fields
lawful_fields = lawful_turns field_words Any field lawful_field (λ fields. begins_type) 32

lawful_parameter : Lawful (IsOne parameter_words Any) parameter
unfolding parameter
lawful_parameter =
    lawful_bind lawful_type (λ t f1 s1. lawful_last (λ n. record { type_name = t; name = n }) lawful_name (λ n f2 s2. record {
      spelled = join f1 f2 (spelling.type_word t ∷ []) (name_word n ∷ []) s1 s2;
      is = tt;
    }))

-- parameters with commas, at least so many, and how many more there may be
record AreListed (least more : ℕ) (ps : List Parameter) (ts : List Token) : Type 0 where
  spelled : AreWords ts (with_commas (map parameter_words ps))
  some : least ≤ length ps
  few : length ps + more ≤ 8

lawful_other : (p : Parameter) (front : List Token) → IsOne parameter_words Any p front → Lawful (behind front (AreListed 0 0)) (other_parameters (p ∷ []))
unfolding other_parameters more_parameters
lawful_other p front one =
    lawful_repeat_up_to (AreListed 1) (AreListed 0 0) (λ ps. is (codes ",")) more_parameters
    (λ k ps front before t q. lawful_bind (lawful_word (codes ",")) (λ l f1 s1. lawful_last (λ x. ps ++ x ∷ []) lawful_parameter (λ x f2 s2. record {
      spelled = subst (λ (w : List Word). AreWords (front ++ (f1 ++ f2)) w) (sym (commas-push parameter_words ps x (omega (arith, before.some))))
          (join front (f1 ++ f2) (with_commas (map parameter_words ps)) (Fixed (codes ",") ∷ parameter_words x) before.spelled
          (join f1 f2 (Fixed (codes ",") ∷ []) (parameter_words x) (plain f1 (codes ",") l s1) s2.spelled));
      some = omega (arith, length_push ps x);
      few = omega (arith, length_push ps x, before.few);
    })))
    (λ k ps text all. record { spelled = all.spelled; some = omega arith; few = omega (arith, all.few) })
    7 (p ∷ []) front
    (record { spelled = subst (λ (w : List Word). AreWords front w) (sym (append-nil (parameter_words p))) one.spelled; some = omega arith; few = omega arith })

lawful_listed : Lawful (AreListed 0 0) listed
unfolding listed some_parameters
lawful_listed =
    lawful_if (is (codes ")"))
    (λ t p. lawful_give [] (record { spelled = tt; some = omega arith; few = omega arith }))
    (lawful_bind lawful_parameter (λ p f s. lawful_other p f s))

record AreInParens (ps : List Parameter) (ts : List Token) : Type 0 where
  spelled : AreWords ts (Fixed (codes "(") ∷ (with_commas (map parameter_words ps) ++ Fixed (codes ")") ∷ []))
  few : length ps ≤ 8

lawful_parameters : Lawful AreInParens parameters
unfolding parameters
lawful_parameters =
    lawful_bind (lawful_word (codes "(")) (λ l f1 s1. lawful_bind lawful_listed (λ ps f2 s2. lawful_last (λ c. ps) (lawful_word (codes ")")) (λ c f3 s3. record {
      spelled = join f1 (f2 ++ f3) (Fixed (codes "(") ∷ []) (with_commas (map parameter_words ps) ++ Fixed (codes ")") ∷ []) (plain f1 (codes "(") l s1)
          (join f2 f3 (with_commas (map parameter_words ps)) (Fixed (codes ")") ∷ []) s2.spelled (plain f3 (codes ")") c s3));
      few = omega (arith, s2.few);
    })))

-- ---- methods and classes

parens-then : (ps : List Parameter) (ws : List Word) → (Fixed (codes "(") ∷ (with_commas (map parameter_words ps) ++ Fixed (codes ")") ∷ [])) ++ ws
    ≡ Fixed (codes "(") ∷ (with_commas (map parameter_words ps) ++ Fixed (codes ")") ∷ ws)
parens-then ps ws = ap (λ (w : List Word). Fixed (codes "(") ∷ w) (append_assoc (with_commas (map parameter_words ps)) (Fixed (codes ")") ∷ []) ws)

lawful_method : Lawful (IsOne method_words IsMethod) method
unfolding method
lawful_method =
    lawful_bind (lawful_word (codes "method")) (λ l f1 s1. lawful_bind lawful_type (λ t f2 s2. lawful_bind lawful_name (λ n f3 s3. lawful_bind lawful_parameters (λ ps f4 s4.
    lawful_last (λ b. record { result = t; name = n; parameters = ps; body = b }) (lawful_block places.Method max_nesting (omega arith)) (λ b f5 s5. record {
      spelled = join f1 (f2 ++ (f3 ++ (f4 ++ f5))) (Fixed (codes "method") ∷ []) (spelling.type_word t ∷ name_word n ∷ Fixed (codes "(") ∷ (with_commas (map parameter_words ps) ++ Fixed (codes ")") ∷ block_words b)) (plain f1 (codes "method") l s1)
          (join f2 (f3 ++ (f4 ++ f5)) (spelling.type_word t ∷ []) (name_word n ∷ Fixed (codes "(") ∷ (with_commas (map parameter_words ps) ++ Fixed (codes ")") ∷ block_words b)) s2
          (join f3 (f4 ++ f5) (name_word n ∷ []) (Fixed (codes "(") ∷ (with_commas (map parameter_words ps) ++ Fixed (codes ")") ∷ block_words b)) s3
          (subst (λ (w : List Word). AreWords (f4 ++ f5) w) (parens-then ps (block_words b))
          (join f4 f5 (Fixed (codes "(") ∷ (with_commas (map parameter_words ps) ++ Fixed (codes ")") ∷ [])) (block_words b) s4.spelled s5.spelled))));
      is = record { parameters = s4.few; body = record { depth = s5.fits.deep; nesting = s5.fits.nested; proper = s5.fits.proper } };
    })))))

pub lawful_methods : Lawful (AreInTurn method_words IsMethod 64 0) methods
unfolding methods more_methods
lawful_methods = lawful_turns method_words IsMethod method lawful_method (λ methods. is (codes "method")) 64

abbrev SaysKind : Says ClassKind
SaysKind k ts = AreWords ts (Fixed (kind_text k) ∷ [])

lawful_kind : Lawful SaysKind kind
unfolding kind
lawful_kind =
    lawful_if (is (codes "free"))
    (λ t p. lawful_last (λ l. Free) (lawful_word (codes "free")) (λ l f s. plain f (codes "free") l s))
    (lawful_last (λ l. Part) (lawful_word (codes "part")) (λ l f s. plain f (codes "part") l s))

lawful_class : Lawful (IsOne class_words IsClass) class
unfolding class
lawful_class =
    lawful_bind lawful_kind (λ k f1 s1. lawful_bind (lawful_word (codes "class")) (λ l f2 s2. lawful_bind lawful_name (λ n f3 s3. lawful_bind (lawful_word (codes "{")) (λ o f4 s4.
    lawful_bind lawful_fields (λ fs f5 s5. lawful_bind lawful_methods (λ ms f6 s6. lawful_last (λ c. record { kind = k; name = n; fields = fs; methods = ms }) (lawful_word (codes "}")) (λ c f7 s7. record {
      spelled = join f1 (f2 ++ (f3 ++ (f4 ++ (f5 ++ (f6 ++ f7))))) (Fixed (kind_text k) ∷ []) (Fixed (codes "class") ∷ name_word n ∷ Fixed (codes "{") ∷ (in_turn (map field_words fs) ++ (in_turn (map method_words ms) ++ Fixed (codes "}") ∷ []))) s1
          (join f2 (f3 ++ (f4 ++ (f5 ++ (f6 ++ f7)))) (Fixed (codes "class") ∷ []) (name_word n ∷ Fixed (codes "{") ∷ (in_turn (map field_words fs) ++ (in_turn (map method_words ms) ++ Fixed (codes "}") ∷ []))) (plain f2 (codes "class") l s2)
          (join f3 (f4 ++ (f5 ++ (f6 ++ f7))) (name_word n ∷ []) (Fixed (codes "{") ∷ (in_turn (map field_words fs) ++ (in_turn (map method_words ms) ++ Fixed (codes "}") ∷ []))) s3
          (join f4 (f5 ++ (f6 ++ f7)) (Fixed (codes "{") ∷ []) (in_turn (map field_words fs) ++ (in_turn (map method_words ms) ++ Fixed (codes "}") ∷ [])) (plain f4 (codes "{") o s4)
          (join f5 (f6 ++ f7) (in_turn (map field_words fs)) (in_turn (map method_words ms) ++ Fixed (codes "}") ∷ []) s5.spelled
          (join f6 f7 (in_turn (map method_words ms)) (Fixed (codes "}") ∷ []) s6.spelled (plain f7 (codes "}") c s7))))));
      is = record { fields = omega (arith, s5.few); methods = omega (arith, s6.few); each = s6.each };
    })))))))

lawful_classes : Lawful (AreInTurn class_words IsClass 256 0) classes
unfolding classes more_classes
lawful_classes = lawful_turns class_words IsClass class lawful_class (λ classes. begins_class) 256

-- ---- roots and the setup

lawful_root : Lawful (IsOne root_words Any) root
unfolding root
lawful_root =
    lawful_bind (lawful_word (codes "root")) (λ l f1 s1. lawful_bind lawful_name (λ n f2 s2. lawful_bind (lawful_word (codes "=")) (λ q f3 s3. lawful_bind (lawful_word (codes "new")) (λ w f4 s4.
    lawful_bind lawful_name (λ c f5 s5. lawful_bind (lawful_word (codes "(")) (λ o f6 s6. lawful_bind (lawful_word (codes ")")) (λ p f7 s7. lawful_bind lawful_at (λ a f8 s8.
    lawful_last (λ e. record { name = n; class = c; at = a }) (lawful_word (codes ";")) (λ e f9 s9. record {
      spelled =
          join f1 (f2 ++ (f3 ++ (f4 ++ (f5 ++ (f6 ++ (f7 ++ (f8 ++ f9))))))) (Fixed (codes "root") ∷ []) (name_word n ∷ Fixed (codes "=") ∷ Fixed (codes "new") ∷ name_word c ∷ Fixed (codes "(") ∷ Fixed (codes ")") ∷ (at_words a ++ Fixed (codes ";") ∷ [])) (plain f1 (codes "root") l s1)
          (join f2 (f3 ++ (f4 ++ (f5 ++ (f6 ++ (f7 ++ (f8 ++ f9)))))) (name_word n ∷ []) (Fixed (codes "=") ∷ Fixed (codes "new") ∷ name_word c ∷ Fixed (codes "(") ∷ Fixed (codes ")") ∷ (at_words a ++ Fixed (codes ";") ∷ [])) s2
          (join f3 (f4 ++ (f5 ++ (f6 ++ (f7 ++ (f8 ++ f9))))) (Fixed (codes "=") ∷ []) (Fixed (codes "new") ∷ name_word c ∷ Fixed (codes "(") ∷ Fixed (codes ")") ∷ (at_words a ++ Fixed (codes ";") ∷ [])) (plain f3 (codes "=") q s3)
          (join f4 (f5 ++ (f6 ++ (f7 ++ (f8 ++ f9)))) (Fixed (codes "new") ∷ []) (name_word c ∷ Fixed (codes "(") ∷ Fixed (codes ")") ∷ (at_words a ++ Fixed (codes ";") ∷ [])) (plain f4 (codes "new") w s4)
          (join f5 (f6 ++ (f7 ++ (f8 ++ f9))) (name_word c ∷ []) (Fixed (codes "(") ∷ Fixed (codes ")") ∷ (at_words a ++ Fixed (codes ";") ∷ [])) s5
          (join f6 (f7 ++ (f8 ++ f9)) (Fixed (codes "(") ∷ []) (Fixed (codes ")") ∷ (at_words a ++ Fixed (codes ";") ∷ [])) (plain f6 (codes "(") o s6)
          (join f7 (f8 ++ f9) (Fixed (codes ")") ∷ []) (at_words a ++ Fixed (codes ";") ∷ []) (plain f7 (codes ")") p s7)
          (join f8 f9 (at_words a) (Fixed (codes ";") ∷ []) s8 (plain f9 (codes ";") e s9))))))));
      is = tt;
    })))))))))

lawful_roots : Lawful (AreInTurn root_words Any 256 0) roots
unfolding roots more_roots
lawful_roots = lawful_turns root_words Any root lawful_root (λ roots. is (codes "root")) 256

pub record IsSetupText (x : Declarations) (ts : List Token) : Type 0 where
  pub spelled : AreWords ts (setup_words x)
  pub is : IsSetup x

pub lawful_setup : Lawful IsSetupText setup
unfolding setup
lawful_setup =
    lawful_bind lawful_classes (λ cs f1 s1. lawful_last (λ rs. record { classes = cs; roots = rs }) lawful_roots (λ rs f2 s2. record {
      spelled = join f1 f2 (in_turn (map class_words cs)) (in_turn (map root_words rs)) s1.spelled s2.spelled;
      is = record { classes = omega (arith, s1.few); roots = omega (arith, s2.few); each = s1.each };
    }))
