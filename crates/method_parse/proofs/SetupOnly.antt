-- Classes and roots that are spelled are read.
use Rattle.std.proofs.Common.{◌≡◌, ℕ, zero, suc, ◌≤◌, Bool, true, false, List, [], ◌∷◌, ◌++◌, length, map, Result, refl, sym, ap, ◌∙◌, append_assoc, arith}
use Rattle.std.specs.Prelude.{codes, ◌&&◌, ◌||◌}
use Rattle.std.specs.Str.{bytes_eq}
use Rattle.std.specs.List.{AllByRecursion}
use Rattle.std.proofs.lemmas.List.{append-nil}
use Rattle.std.proofs.lemmas.Bool.{or_left, or_right}
use Rattle.script_text.specs.declared.token.Token.{Token}
use Rattle.script_text.specs.declared.token.TokenKind.{TokenKind}
use Rattle.script_text.specs.declared.token.TokenKind.TheVariants as kinds
use Rattle.class_defs.specs.declared.expressions.TypeName.{TypeName}
use Rattle.class_defs.specs.declared.expressions.TypeName.TheVariants as types
use Rattle.class_defs.specs.declared.classes.ClassKind.{ClassKind}
use Rattle.class_defs.specs.declared.classes.ClassKind.TheVariants.{Free, Part}
use Rattle.class_defs.specs.declared.classes.Field.{Field}
use Rattle.class_defs.specs.declared.classes.Parameter.{Parameter}
use Rattle.class_defs.specs.declared.classes.Method.{Method}
use Rattle.class_defs.specs.declared.classes.Class.{Class}
use Rattle.class_defs.specs.declared.declarations.WrittenRoot.{WrittenRoot}
use Rattle.class_defs.specs.declared.declarations.Declarations.{Declarations}
use Rattle.class_defs.specs.declared.places.Place.TheVariants as places
use Rattle.class_defs.specs.declared.statements.Stmt.{Stmt}
use Rattle.class_defs.specs.Words.{Word, Fixed, name_word, with_commas, behind_commas, in_turn}
use Rattle.class_defs.specs.Spelling as spelling
use Rattle.class_defs.specs.Spelling.{field_words, parameter_words, method_words, kind_text, class_words, root_words, setup_words, at_words, block_words}
use Rattle.class_defs.specs.Grammar.{max_nesting, IsMethod, IsClass, IsSetup}
use Rattle.method_parse.specs.Matching.{AreWords, is, is_fixed_kind, is_name_kind}
use Rattle.method_parse.proofs.NameTokens.{name_kind}
use Rattle.method_parse.specs.Reader.{Reader, ◌>>=◌, onward, give, word, name, type_word, next, repeat}
use Rattle.method_parse.specs.Expressions.{at}
use Rattle.method_parse.specs.Statements.{block_in}
use Rattle.method_parse.specs.Setups.{begins_type, field, more_fields, parameter, more_parameters, other_parameters, some_parameters, listed, parameters, method, more_methods, kind, fields, methods, class, more_classes, begins_class, root, more_roots, classes, roots, setup}
use Rattle.method_parse.proofs.Repeats.{no_turn}
use Rattle.method_parse.proofs.Eats.{fixed_is, is_not, split, nothing, word_then, name_then, type_then, part_then}
use Rattle.method_parse.proofs.ListOnly.{head_passes, head_fails, turn, bind_assoc}
use Rattle.method_parse.proofs.ExpressionOnly.{at_reads}
use Rattle.method_parse.proofs.StatementOnly.{gives, block_reads}

-- ---- things in turn

module _ {X : Type 0} (f : X → List Word) (P : X → Type 0) (one : Reader X) (test : Token → Bool)
    (one_reads : (x : X) (ts rest : List Token) → AreWords ts (f x) → P x → one (ts ++ rest) ≡ gives x rest)
    (begins : (x : X) (ts rest : List Token) → AreWords ts (f x) → next test (ts ++ rest) ≡ true) where
  pub turns_read : (xs before : List X) (n : ℕ) (ts rest : List Token) → AreWords ts (in_turn (map f xs)) → AllByRecursion P xs → length xs ≤ n → next test rest ≡ false
      → repeat n (λ ys. test) (λ ys. one >>= λ x. give (ys ++ x ∷ [])) before (ts ++ rest) ≡ gives (before ++ xs) rest
  turns_read [] before n ts rest h all le ends =
      ap (λ (u : List Token). repeat n (λ ys. test) (λ ys. one >>= λ x. give (ys ++ x ∷ [])) before (u ++ rest)) (nothing ts h)
      ∙ (no_turn (λ ys. test) (λ ys. one >>= λ x. give (ys ++ x ∷ [])) n before rest ends ∙ ap (λ (b : List X). gives b rest) (sym (append-nil before)))
  turns_read (x ∷ xs) before zero ts rest h all le ends = absurd (omega arith)
  turns_read (x ∷ xs) before (suc n) ts rest h all le ends =
      let t = split ts (f x) (in_turn (map f xs)) h in
      let e1 : ts ++ rest ≡ t.front ++ (t.rest ++ rest) = ap (λ (u : List Token). u ++ rest) t.parts ∙ append_assoc t.front t.rest rest in
      ap (λ (u : List Token). repeat (suc n) (λ ys. test) (λ ys. one >>= λ x. give (ys ++ x ∷ [])) before u) e1
      ∙ (turn (λ ys. test) (λ ys. one >>= λ x. give (ys ++ x ∷ [])) n before (t.front ++ (t.rest ++ rest)) (begins x t.front (t.rest ++ rest) t.first)
      ∙ (ap (λ r. onward (onward r (λ (y : X). give (before ++ y ∷ []))) (repeat n (λ ys. test) (λ ys. one >>= λ x. give (ys ++ x ∷ [])))) (one_reads x t.front (t.rest ++ rest) t.first all.0)
      ∙ (turns_read xs (before ++ x ∷ []) n t.rest rest t.second all.1 (omega arith) ends ∙ ap (λ (b : List X). gives b rest) (append_assoc before (x ∷ []) xs))))

abbrev pub Any : {X : Type 0} → X → Type 0
Any x = Unit {0}

pub all_any : {X : Type 0} (xs : List X) → AllByRecursion {X = X} Any xs
all_any [] = tt
all_any (x ∷ xs) = (tt, all_any xs)

-- ---- types, fields, parameters

pub type_begins : (ty : TypeName) (ws : List Word) (ts rest : List Token) → AreWords ts (spelling.type_word ty ∷ ws) → next begins_type (ts ++ rest) ≡ true
type_begins ty ws [] rest h = absurd h
type_begins (types.Int l) ws (t ∷ ts) rest h = or_left (is (codes "int") t) (is_name_kind t.kind) (fixed_is (codes "int") t h.0.0 h.0.1)
type_begins (types.Class n) ws (t ∷ ts) rest h = or_right (is (codes "int") t) (is_name_kind t.kind) (name_kind t.kind t.text h.0.0)

name_is : (k : TokenKind) (a : Bool) → is_name_kind k ≡ true → (is_fixed_kind k && a) ≡ false
name_is kinds.Name a e = refl
name_is kinds.Number a e = absurd cc
name_is kinds.Keyword a e = absurd cc
name_is kinds.Symbol a e = absurd cc
name_is kinds.Quoted a e = absurd cc

type_fails : (ty : TypeName) (ws : List Word) (ts rest : List Token) → AreWords ts (spelling.type_word ty ∷ ws) → next (is (codes ")")) (ts ++ rest) ≡ false
type_fails ty ws [] rest h = absurd h
type_fails (types.Int l) ws (t ∷ ts) rest h = is_not (codes "int") (codes ")") t h.0.1 refl
type_fails (types.Class n) ws (t ∷ ts) rest h = name_is t.kind (bytes_eq t.text (codes ")")) (name_kind t.kind t.text h.0.0)

pub fixed_no_type : (text : List ℕ) (ts rest : List Token) (ws : List Word) → AreWords ts (Fixed text ∷ ws) → bytes_eq text (codes "int") ≡ false → next begins_type (ts ++ rest) ≡ false
fixed_no_type text [] rest ws h e = absurd h
fixed_no_type text (t ∷ ts) rest ws h e = rw (is_not text (codes "int") t h.0.1 e) (fixed_no_name t.kind h.0.0)
  where
    fixed_no_name : (k : TokenKind) → is_fixed_kind k ≡ true → is_name_kind k ≡ false
    fixed_no_name kinds.Name e = absurd cc
    fixed_no_name kinds.Number e = absurd cc
    fixed_no_name kinds.Keyword e = refl
    fixed_no_name kinds.Symbol e = refl
    fixed_no_name kinds.Quoted e = absurd cc

field_reads : (x : Field) (ts rest : List Token) → AreWords ts (field_words x) → Any x → field (ts ++ rest) ≡ gives x rest
unfolding field
field_reads x ts rest h any =
    type_then rest _ x.type_name _ ts (λ type. name >>= λ called. word (codes ";") >>= λ e. give (record { type_name = type; name = called })) h (λ us a.
    name_then rest _ x.name _ us (λ called. word (codes ";") >>= λ e. give (record { type_name = x.type_name; name = called })) a (λ vs b.
    word_then rest _ (codes ";") [] vs (λ e. give x) b (λ l ws c. ap (λ (u : List Token). gives x (u ++ rest)) (nothing ws c))))

fields_read : (xs : List Field) (ts rest : List Token) → AreWords ts (in_turn (map field_words xs)) → length xs ≤ 32 → next begins_type rest ≡ false → fields (ts ++ rest) ≡ gives xs rest
unfolding fields more_fields
fields_read xs ts rest h le ends = turns_read field_words Any field begins_type field_reads (λ x us vs k. type_begins x.type_name _ us vs k) xs [] 32 ts rest h (all_any xs) le ends

parameter_reads : (x : Parameter) (ts rest : List Token) → AreWords ts (parameter_words x) → parameter (ts ++ rest) ≡ gives x rest
unfolding parameter
parameter_reads x ts rest h =
    type_then rest _ x.type_name _ ts (λ type. name >>= λ called. give (record { type_name = type; name = called })) h (λ us a.
    name_then rest _ x.name [] us (λ called. give (record { type_name = x.type_name; name = called })) a (λ vs b. ap (λ (u : List Token). gives x (u ++ rest)) (nothing vs b)))

others_read : (xs before : List Parameter) (n : ℕ) (ts rest : List Token) → AreWords ts (behind_commas (map parameter_words xs)) → length xs ≤ n → next (is (codes ",")) rest ≡ false
    → repeat n (λ ps. is (codes ",")) more_parameters before (ts ++ rest) ≡ gives (before ++ xs) rest
unfolding more_parameters
others_read [] before n ts rest h le ends =
    ap (λ (u : List Token). repeat n (λ ps. is (codes ",")) more_parameters before (u ++ rest)) (nothing ts h)
    ∙ (no_turn (λ ps. is (codes ",")) more_parameters n before rest ends ∙ ap (λ (b : List Parameter). gives b rest) (sym (append-nil before)))
others_read (x ∷ xs) before zero ts rest h le ends = absurd (omega arith)
others_read (x ∷ xs) before (suc n) ts rest h le ends =
    turn (λ ps. is (codes ",")) more_parameters n before (ts ++ rest) (head_passes (codes ",") ts rest _ h)
    ∙ (bind_assoc (word (codes ",") (ts ++ rest)) (λ c. parameter >>= λ y. give (before ++ y ∷ [])) (repeat n (λ ps. is (codes ",")) more_parameters)
    ∙ word_then rest _ (codes ",") (parameter_words x ++ behind_commas (map parameter_words xs)) ts (λ c us. onward ((parameter >>= λ y. give (before ++ y ∷ [])) us) (repeat n (λ ps. is (codes ",")) more_parameters)) h (λ l us k.
    bind_assoc (parameter (us ++ rest)) (λ y. give (before ++ y ∷ [])) (repeat n (λ ps. is (codes ",")) more_parameters)
    ∙ part_then rest _ parameter x (parameter_words x) (behind_commas (map parameter_words xs)) us (λ y vs. onward (give (before ++ y ∷ []) vs) (repeat n (λ ps. is (codes ",")) more_parameters)) k
    (λ front more p q. parameter_reads x front (more ++ rest) p)
    (λ vs m. others_read xs (before ++ x ∷ []) n vs rest m (omega arith) ends ∙ ap (λ (b : List Parameter). gives b rest) (append_assoc before (x ∷ []) xs))))

listed_reads : (xs : List Parameter) (ts rest : List Token) → AreWords ts (with_commas (map parameter_words xs)) → length xs ≤ 8 → next (is (codes ",")) rest ≡ false → next (is (codes ")")) rest ≡ true → listed (ts ++ rest) ≡ gives xs rest
unfolding listed some_parameters other_parameters
listed_reads [] ts rest h le ends closes = rw (nothing ts h, closes) refl
listed_reads (x ∷ xs) ts rest h le ends closes =
    rw (type_fails x.type_name (name_word x.name ∷ behind_commas (map parameter_words xs)) ts rest h)
    (part_then rest _ parameter x (parameter_words x) (behind_commas (map parameter_words xs)) ts (λ first. repeat 7 (λ ps. is (codes ",")) more_parameters (first ∷ [])) h
    (λ front more p q. parameter_reads x front (more ++ rest) p)
    (λ us k. others_read xs (x ∷ []) 7 us rest k (omega arith) ends))

-- ---- methods and classes

method_reads : (x : Method) (ts rest : List Token) → AreWords ts (method_words x) → IsMethod x → method (ts ++ rest) ≡ gives x rest
unfolding method parameters
method_reads x ts rest h fits =
    word_then rest _ (codes "method") _ ts (λ l. type_word >>= λ r. name >>= λ c. parameters >>= λ ps. block_in places.Method max_nesting >>= λ b. give (record { result = r; name = c; parameters = ps; body = b })) h (λ l us a.
    type_then rest _ x.result _ us (λ r. name >>= λ c. parameters >>= λ ps. block_in places.Method max_nesting >>= λ b. give (record { result = r; name = c; parameters = ps; body = b })) a (λ vs b.
    name_then rest _ x.name _ vs (λ c. parameters >>= λ ps. block_in places.Method max_nesting >>= λ b. give (record { result = x.result; name = c; parameters = ps; body = b })) b (λ ws c.
    bind_assoc (word (codes "(") (ws ++ rest)) (λ o. listed >>= λ ps. word (codes ")") >>= λ e. give ps) (λ ps. block_in places.Method max_nesting >>= λ b. give (record { result = x.result; name = x.name; parameters = ps; body = b }))
    ∙ word_then rest _ (codes "(") _ ws (λ o us. onward ((listed >>= λ ps. word (codes ")") >>= λ e. give ps) us) (λ ps. block_in places.Method max_nesting >>= λ b. give (record { result = x.result; name = x.name; parameters = ps; body = b }))) c (λ l xs d.
    bind_assoc (listed (xs ++ rest)) (λ ps. word (codes ")") >>= λ e. give ps) (λ ps. block_in places.Method max_nesting >>= λ b. give (record { result = x.result; name = x.name; parameters = ps; body = b }))
    ∙ part_then rest _ listed x.parameters (with_commas (map parameter_words x.parameters)) (Fixed (codes ")") ∷ block_words x.body) xs (λ ps us. onward ((word (codes ")") >>= λ e. give ps) us) (λ ps. block_in places.Method max_nesting >>= λ b. give (record { result = x.result; name = x.name; parameters = ps; body = b }))) d
    (λ front more p q. listed_reads x.parameters front (more ++ rest) p fits.parameters (head_fails (codes ")") (codes ",") more rest _ q refl) (head_passes (codes ")") more rest _ q))
    (λ ys m. bind_assoc (word (codes ")") (ys ++ rest)) (λ e. give x.parameters) (λ ps. block_in places.Method max_nesting >>= λ b. give (record { result = x.result; name = x.name; parameters = ps; body = b }))
    ∙ word_then rest _ (codes ")") (block_words x.body) ys (λ e. block_in places.Method max_nesting >>= λ b. give (record { result = x.result; name = x.name; parameters = x.parameters; body = b })) m (λ l zs n.
    ap (λ r. onward r (λ (b : List Stmt). give (record { result = x.result; name = x.name; parameters = x.parameters; body = b })))
    (block_reads places.Method max_nesting (omega arith) x.body zs rest n (record { deep = fits.body.depth; nested = fits.body.nesting; proper = fits.body.proper }))))))))

pub methods_read : (xs : List Method) (ts rest : List Token) → AreWords ts (in_turn (map method_words xs)) → AllByRecursion IsMethod xs → length xs ≤ 64 → next (is (codes "method")) rest ≡ false → methods (ts ++ rest) ≡ gives xs rest
unfolding methods more_methods
methods_read xs ts rest h all le ends = turns_read method_words IsMethod method (is (codes "method")) method_reads (λ x us vs k. head_passes (codes "method") us vs _ k) xs [] 64 ts rest h all le ends

kind_then : {B : Type 0} (k : ClassKind) (ws : List Word) (ts rest : List Token) (result : Result (B × List Token) ℕ) (g : ClassKind → Reader B) → AreWords ts (Fixed (kind_text k) ∷ ws)
    → ((us : List Token) → AreWords us ws → g k (us ++ rest) ≡ result) → (kind >>= g) (ts ++ rest) ≡ result
unfolding kind
kind_then Free ws ts rest result g h goes =
    rw (head_passes (codes "free") ts rest ws h) (bind_assoc (word (codes "free") (ts ++ rest)) (λ l. give Free) g ∙ word_then rest result (codes "free") ws ts (λ l. g Free) h (λ l us k. goes us k))
kind_then Part ws ts rest result g h goes =
    rw (head_fails (codes "part") (codes "free") ts rest ws h refl) (bind_assoc (word (codes "part") (ts ++ rest)) (λ l. give Part) g ∙ word_then rest result (codes "part") ws ts (λ l. g Part) h (λ l us k. goes us k))

-- behind the fields comes no type
pub methods_no_type : (xs : List Method) (ts rest : List Token) → AreWords ts (in_turn (map method_words xs) ++ Fixed (codes "}") ∷ []) → next begins_type (ts ++ rest) ≡ false
methods_no_type [] ts rest h = fixed_no_type (codes "}") ts rest [] h refl
methods_no_type (x ∷ xs) ts rest h = fixed_no_type (codes "method") ts rest _ h refl

class_reads : (x : Class) (ts rest : List Token) → AreWords ts (class_words x) → IsClass x → class (ts ++ rest) ≡ gives x rest
unfolding class
class_reads x ts rest h fits =
    kind_then x.kind _ ts rest _ (λ k. word (codes "class") >>= λ l. name >>= λ n. word (codes "{") >>= λ o. fields >>= λ fs. methods >>= λ ms. word (codes "}") >>= λ c. give (record { kind = k; name = n; fields = fs; methods = ms })) h (λ us a.
    word_then rest _ (codes "class") _ us (λ l. name >>= λ n. word (codes "{") >>= λ o. fields >>= λ fs. methods >>= λ ms. word (codes "}") >>= λ c. give (record { kind = x.kind; name = n; fields = fs; methods = ms })) a (λ l vs b.
    name_then rest _ x.name _ vs (λ n. word (codes "{") >>= λ o. fields >>= λ fs. methods >>= λ ms. word (codes "}") >>= λ c. give (record { kind = x.kind; name = n; fields = fs; methods = ms })) b (λ ws c.
    word_then rest _ (codes "{") _ ws (λ o. fields >>= λ fs. methods >>= λ ms. word (codes "}") >>= λ c. give (record { kind = x.kind; name = x.name; fields = fs; methods = ms })) c (λ l xs d.
    part_then rest _ fields x.fields (in_turn (map field_words x.fields)) (in_turn (map method_words x.methods) ++ Fixed (codes "}") ∷ []) xs (λ fs. methods >>= λ ms. word (codes "}") >>= λ c. give (record { kind = x.kind; name = x.name; fields = fs; methods = ms })) d
    (λ front more p q. fields_read x.fields front (more ++ rest) p fits.fields (methods_no_type x.methods more rest q))
    (λ ys e. part_then rest _ methods x.methods (in_turn (map method_words x.methods)) (Fixed (codes "}") ∷ []) ys (λ ms. word (codes "}") >>= λ c. give (record { kind = x.kind; name = x.name; fields = x.fields; methods = ms })) e
    (λ front more p q. methods_read x.methods front (more ++ rest) p fits.each fits.methods (head_fails (codes "}") (codes "method") more rest [] q refl))
    (λ zs f. word_then rest _ (codes "}") [] zs (λ c. give x) f (λ l bs g. ap (λ (u : List Token). gives x (u ++ rest)) (nothing bs g))))))))

class_begins : (x : Class) (ts rest : List Token) → AreWords ts (class_words x) → next begins_class (ts ++ rest) ≡ true
class_begins x ts rest h = by_kind x.kind ts rest _ h
  where
    by_kind : (k : ClassKind) (ts rest : List Token) (ws : List Word) → AreWords ts (Fixed (kind_text k) ∷ ws) → next begins_class (ts ++ rest) ≡ true
    by_kind k [] rest ws h = absurd h
    by_kind Free (t ∷ ts) rest ws h = or_left (is (codes "free") t) (is (codes "part") t) (fixed_is (codes "free") t h.0.0 h.0.1)
    by_kind Part (t ∷ ts) rest ws h = or_right (is (codes "free") t) (is (codes "part") t) (fixed_is (codes "part") t h.0.0 h.0.1)

classes_read : (xs : List Class) (ts rest : List Token) → AreWords ts (in_turn (map class_words xs)) → AllByRecursion IsClass xs → length xs ≤ 256 → next begins_class rest ≡ false → classes (ts ++ rest) ≡ gives xs rest
unfolding classes more_classes
classes_read xs ts rest h all le ends = turns_read class_words IsClass class begins_class class_reads class_begins xs [] 256 ts rest h all le ends

-- ---- roots and the setup

root_reads : (x : WrittenRoot) (ts rest : List Token) → AreWords ts (root_words x) → Any x → root (ts ++ rest) ≡ gives x rest
unfolding root
root_reads x ts rest h any =
    word_then rest _ (codes "root") _ ts (λ l. name >>= λ n. word (codes "=") >>= λ q. word (codes "new") >>= λ w. name >>= λ c. word (codes "(") >>= λ o. word (codes ")") >>= λ p. at >>= λ a. word (codes ";") >>= λ e. give (record { name = n; class = c; at = a })) h (λ l us a.
    name_then rest _ x.name _ us (λ n. word (codes "=") >>= λ q. word (codes "new") >>= λ w. name >>= λ c. word (codes "(") >>= λ o. word (codes ")") >>= λ p. at >>= λ a. word (codes ";") >>= λ e. give (record { name = n; class = c; at = a })) a (λ vs b.
    word_then rest _ (codes "=") _ vs (λ q. word (codes "new") >>= λ w. name >>= λ c. word (codes "(") >>= λ o. word (codes ")") >>= λ p. at >>= λ a. word (codes ";") >>= λ e. give (record { name = x.name; class = c; at = a })) b (λ l ws c.
    word_then rest _ (codes "new") _ ws (λ w. name >>= λ c. word (codes "(") >>= λ o. word (codes ")") >>= λ p. at >>= λ a. word (codes ";") >>= λ e. give (record { name = x.name; class = c; at = a })) c (λ l xs d.
    name_then rest _ x.class _ xs (λ c. word (codes "(") >>= λ o. word (codes ")") >>= λ p. at >>= λ a. word (codes ";") >>= λ e. give (record { name = x.name; class = c; at = a })) d (λ ys f.
    word_then rest _ (codes "(") _ ys (λ o. word (codes ")") >>= λ p. at >>= λ a. word (codes ";") >>= λ e. give (record { name = x.name; class = x.class; at = a })) f (λ l zs g.
    word_then rest _ (codes ")") _ zs (λ p. at >>= λ a. word (codes ";") >>= λ e. give (record { name = x.name; class = x.class; at = a })) g (λ l bs i.
    part_then rest _ at x.at (at_words x.at) (Fixed (codes ";") ∷ []) bs (λ a. word (codes ";") >>= λ e. give (record { name = x.name; class = x.class; at = a })) i
    (λ front more p q. at_reads x.at front (more ++ rest) p (head_fails (codes ";") (codes "at") more rest [] q refl))
    (λ ds j. word_then rest _ (codes ";") [] ds (λ e. give x) j (λ l cs k. ap (λ (u : List Token). gives x (u ++ rest)) (nothing cs k))))))))))

roots_read : (xs : List WrittenRoot) (ts rest : List Token) → AreWords ts (in_turn (map root_words xs)) → length xs ≤ 256 → next (is (codes "root")) rest ≡ false → roots (ts ++ rest) ≡ gives xs rest
unfolding roots more_roots
roots_read xs ts rest h le ends = turns_read root_words Any root (is (codes "root")) root_reads (λ x us vs k. head_passes (codes "root") us vs _ k) xs [] 256 ts rest h (all_any xs) le ends

roots_no_class : (xs : List WrittenRoot) (ts : List Token) → AreWords ts (in_turn (map root_words xs)) → next begins_class (ts ++ []) ≡ false
roots_no_class [] ts h = ap (λ (u : List Token). next begins_class (u ++ [])) (nothing ts h)
roots_no_class (x ∷ xs) ts h = at_root ts _ h
  where
    at_root : (ts : List Token) (ws : List Word) → AreWords ts (Fixed (codes "root") ∷ ws) → next begins_class (ts ++ []) ≡ false
    at_root [] ws h = absurd h
    at_root (t ∷ ts) ws h = rw (is_not (codes "root") (codes "free") t h.0.1 refl, is_not (codes "root") (codes "part") t h.0.1 refl) refl

-- a setup that is spelled is read, at the end of the tokens
pub setup_reads : (x : Declarations) (ts : List Token) → AreWords ts (setup_words x) → IsSetup x → setup (ts ++ []) ≡ gives x []
unfolding setup
setup_reads x ts h fits =
    part_then [] _ classes x.classes (in_turn (map class_words x.classes)) (in_turn (map root_words x.roots)) ts (λ cs. roots >>= λ rs. give (record { classes = cs; roots = rs })) h
    (λ front more p q. classes_read x.classes front (more ++ []) p fits.each fits.classes (roots_no_class x.roots more q))
    (λ us k. ap (λ r. onward r (λ (rs : List WrittenRoot). give (record { classes = x.classes; roots = rs }))) (roots_read x.roots us [] k fits.roots refl))
