-- Upgrades that are spelled are read.
use Rattle.std.proofs.Common.{◌≡◌, ℕ, ◌≤◌, false, List, [], ◌∷◌, ◌++◌, length, map, refl, ap, subst, append_assoc, arith}
use Rattle.std.specs.Prelude.{codes}
use Rattle.std.specs.List.{AllByRecursion}
use Rattle.class_defs.specs.Spelling.{method_words}
use Rattle.class_defs.specs.Words.{Word, Fixed, in_turn}
use Rattle.class_defs.specs.declared.upgrades.ClassUpgrade.{ClassUpgrade}
use Rattle.class_defs.specs.declared.upgrades.FieldUpgrade.{FieldUpgrade}
use Rattle.class_defs.specs.declared.upgrades.Upgrade.{Upgrade}
use Rattle.script_text.specs.declared.token.Token.{Token}
use Rattle.method_parse.specs.Matching.{AreWords, is}
use Rattle.method_parse.specs.Reader.{Reader, ◌>>=◌, onward, give, name, next, word}
use Rattle.method_parse.specs.Setups.{begins_type, methods}
use Rattle.method_parse.proofs.Eats.{line_then, name_then, nothing, part_then, stop_semicolon, stops_before, type_then, word_then}
use Rattle.method_parse.proofs.ListOnly.{head_fails, head_passes}
use Rattle.method_parse.proofs.SetupOnly.{methods_no_type, methods_read, turns_read, type_begins}
use Rattle.method_parse.proofs.StatementOnly.{gives}
use Rattle.upgrade_defs.specs.Expressions.{value}
use Rattle.upgrade_defs.specs.Grammar.{IsClassUpgrade, IsFieldUpgrade, IsUpgrade}
use Rattle.upgrade_defs.specs.Spelling.{class_upgrade_words, field_upgrade_words, tf_words, upgrade_words}
use Rattle.upgrade_defs.specs.Upgrades.{all_classes, class, field, fields, more_classes, more_fields, upgrade}
use Rattle.upgrade_defs.proofs.ExpressionOnly.{value_reads}
use Rattle.upgrade_defs.proofs.Turns.{all_read}

field_reads : (x : FieldUpgrade) (ts rest : List Token) → AreWords ts (field_upgrade_words x) → IsFieldUpgrade x → field (ts ++ rest) ≡ gives x rest
unfolding field
field_reads x ts rest h fits =
    type_then rest _ x.type_name _ ts
    (λ t. name >>= λ n. word (codes "=") >>= λ q. value >>= λ v. word (codes ";") >>= λ e. give
    (record { type_name = t; name = n; value = v })) h (λ us a.
    name_then rest _ x.name _ us (λ n. word (codes "=") >>= λ q. value >>= λ v. word (codes ";") >>= λ e. give
    (record { type_name = x.type_name; name = n; value = v })) a (λ vs b.
    word_then rest _ (codes "=") _ vs
    (λ q. value >>= λ v. word (codes ";") >>= λ e. give (record { type_name = x.type_name; name = x.name; value = v })) b (λ l ws c.
    part_then rest _ value x.value (tf_words x.value) (Fixed (codes ";") ∷ []) ws
    (λ v. word (codes ";") >>= λ e. give (record { type_name = x.type_name; name = x.name; value = v })) c
    (λ front more p q. value_reads x.value front (more ++ rest) p fits (stops_before 1 (codes ";") more rest [] (stop_semicolon 1) q))
    (λ xs d. word_then rest _ (codes ";") [] xs (λ e. give x) d (λ l ys e. ap (λ (u : List Token). gives x (u ++ rest)) (nothing ys e))))))

fields_read : (xs : List FieldUpgrade) (ts rest : List Token) → AreWords ts (in_turn (map field_upgrade_words xs))
    → AllByRecursion IsFieldUpgrade xs → length xs ≤ 32 → next begins_type rest ≡ false
    → fields (ts ++ rest) ≡ gives xs rest
unfolding fields more_fields
fields_read xs ts rest h all le ends =
    turns_read field_upgrade_words IsFieldUpgrade field begins_type field_reads
    (λ x us vs k. type_begins x.type_name _ us vs k) xs [] 32 ts rest h all le ends

class_reads : (x : ClassUpgrade) (ts rest : List Token) → AreWords ts (class_upgrade_words x) → IsClassUpgrade x → class (ts ++ rest) ≡ gives x rest
unfolding class
class_reads x ts rest h fits =
    word_then rest _ (codes "class") _ ts
    (λ l. name >>= λ n. word (codes "{") >>= λ o. fields >>= λ fs. methods >>= λ ms. word (codes "}") >>= λ c. give
    (record { name = n; fields = fs; methods = ms })) h (λ l us a.
    name_then rest _ x.name _ us (λ n. word (codes "{") >>= λ o. fields >>= λ fs. methods >>= λ ms. word (codes "}") >>= λ c. give
    (record { name = n; fields = fs; methods = ms })) a (λ vs b.
    word_then rest _ (codes "{") _ vs
    (λ o. fields >>= λ fs. methods >>= λ ms. word (codes "}") >>= λ c. give (record { name = x.name; fields = fs; methods = ms })) b (λ l ws c.
    part_then rest _ fields x.fields (in_turn (map field_upgrade_words x.fields))
    (in_turn (map method_words x.methods) ++ Fixed (codes "}") ∷ []) ws
    (λ fs. methods >>= λ ms. word (codes "}") >>= λ c. give (record { name = x.name; fields = fs; methods = ms })) c
    (λ front more p q. fields_read x.fields front (more ++ rest) p fits.each_field fits.fields (methods_no_type x.methods more rest q))
    (λ xs d. part_then rest _ methods x.methods (in_turn (map method_words x.methods)) (Fixed (codes "}") ∷ []) xs
    (λ ms. word (codes "}") >>= λ c. give (record { name = x.name; fields = x.fields; methods = ms })) d
    (λ front more p q. methods_read x.methods front (more ++ rest) p fits.each_method fits.methods
    (head_fails (codes "}") (codes "method") more rest [] q refl))
    (λ ys e. word_then rest _ (codes "}") [] ys (λ c. give x) e (λ l zs f. ap (λ (u : List Token). gives x (u ++ rest)) (nothing zs f)))))))

first_reads : (x : ClassUpgrade) (ts rest : List Token) → AreWords ts (class_upgrade_words x) → IsClassUpgrade x
    → more_classes [] (ts ++ rest) ≡ gives (x ∷ []) rest
unfolding more_classes
first_reads x ts rest h fits = ap (λ r. onward r (λ (one : ClassUpgrade). give ([] ++ one ∷ []))) (class_reads x ts rest h fits)

classes_read : (xs before : List ClassUpgrade) (ts rest : List Token) → AreWords ts (in_turn (map class_upgrade_words xs))
    → AllByRecursion IsClassUpgrade xs → next (is (codes "class")) rest ≡ false
    → all_classes before (ts ++ rest) ≡ gives (before ++ xs) rest
unfolding all_classes more_classes
classes_read xs before ts rest h all ends =
    all_read class_upgrade_words (λ x. omega arith) IsClassUpgrade class (is (codes "class")) class_reads
    (λ x us vs k. head_passes (codes "class") us vs _ k) xs before ts rest h all ends

-- the classes of an upgrade, from the first on, and its end
abbrev body : ℕ → Reader Upgrade
body line = more_classes [] >>= λ one. all_classes one >>= λ all. word (codes "}") >>= λ c. give (record { line = line; classes = all })

body_reads : (line : ℕ) (xs : List ClassUpgrade) (ts rest : List Token)
    → AreWords ts (in_turn (map class_upgrade_words xs) ++ Fixed (codes "}") ∷ []) → 1 ≤ length xs → AllByRecursion IsClassUpgrade xs
    → body line (ts ++ rest) ≡ gives (record { line = line; classes = xs }) rest
body_reads line [] ts rest h some all = absurd (omega arith)
body_reads line (x ∷ xs) ts rest h some all =
    part_then rest _ (more_classes []) (x ∷ []) (class_upgrade_words x) (in_turn (map class_upgrade_words xs) ++ Fixed (codes "}") ∷ []) ts
    (λ one. all_classes one >>= λ all. word (codes "}") >>= λ c. give (record { line = line; classes = all }))
    (subst (λ (w : List Word). AreWords ts w)
    (append_assoc (class_upgrade_words x) (in_turn (map class_upgrade_words xs)) (Fixed (codes "}") ∷ [])) h)
    (λ front more p q. first_reads x front (more ++ rest) p all.0)
    (λ us k. part_then rest _ (all_classes (x ∷ [])) (x ∷ xs) (in_turn (map class_upgrade_words xs)) (Fixed (codes "}") ∷ []) us
    (λ all. word (codes "}") >>= λ c. give (record { line = line; classes = all })) k
    (λ front more p q. classes_read xs (x ∷ []) front (more ++ rest) p all.1 (head_fails (codes "}") (codes "class") more rest [] q refl))
    (λ vs m. word_then rest _ (codes "}") [] vs (λ c. give (record { line = line; classes = x ∷ xs })) m
    (λ l ws o. ap (λ (u : List Token). gives (record { line = line; classes = x ∷ xs }) (u ++ rest)) (nothing ws o))))

-- an upgrade that is spelled is read
pub upgrade_reads : (x : Upgrade) (ts rest : List Token) → AreWords ts (upgrade_words x) → IsUpgrade x → upgrade (ts ++ rest) ≡ gives x rest
unfolding upgrade
upgrade_reads x ts rest h fits =
    line_then rest _ (codes "upgrade") x.line _ ts
    (λ l. word (codes "{") >>= λ o. more_classes [] >>= λ one. all_classes one >>= λ all. word (codes "}") >>= λ c. give
    (record { line = l; classes = all })) h (λ us a.
    word_then rest _ (codes "{") _ us
    (λ o. more_classes [] >>= λ one. all_classes one >>= λ all. word (codes "}") >>= λ c. give (record { line = x.line; classes = all })) a
    (λ l vs b.
    body_reads x.line x.classes vs rest b fits.some fits.each))
