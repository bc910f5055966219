-- Each upgrade that is read is spelled by what was taken, and where the reader is stuck, the tokens before
-- begin some upgrade.
use Rattle.std.proofs.Common.{ℕ, ◌≤◌, List, [], ◌∷◌, ◌++◌, length, map, sym, subst, append_assoc, arith}
use Rattle.std.specs.Prelude.{codes}
use Rattle.std.specs.List.{AllByRecursion}
use Rattle.std.proofs.lemmas.List.{length_push}
use Rattle.class_defs.specs.Spelling as spelling
use Rattle.class_defs.specs.Spelling.{method_words}
use Rattle.class_defs.specs.Words.{Word, Fixed, FixedAt, in_turn, name_word}
use Rattle.class_defs.specs.declared.upgrades.ClassUpgrade.{ClassUpgrade}
use Rattle.class_defs.specs.declared.upgrades.Upgrade.{Upgrade}
use Rattle.script_text.specs.declared.token.Token.{Token}
use Rattle.method_parse.specs.Matching.{AreWords}
use Rattle.method_parse.specs.Setups.{begins_type}
use Rattle.method_parse.proofs.Lawful.{Lawful, behind, lawful_bind, lawful_last, lawful_repeat_all}
use Rattle.method_parse.proofs.Matched.{join, lawful_name, lawful_type, lawful_word, plain}
use Rattle.method_parse.proofs.SetupLaws.{AreInTurn, IsOne, all-push, lawful_methods, lawful_turns, turn-push}
use Rattle.upgrade_defs.specs.Grammar.{IsClassUpgrade, IsFieldUpgrade, IsUpgrade}
use Rattle.upgrade_defs.specs.Spelling.{class_upgrade_words, field_upgrade_words, tf_words, upgrade_words}
use Rattle.upgrade_defs.specs.Upgrades.{all_classes, class, field, fields, is_class, more_classes, more_fields, upgrade}
use Rattle.upgrade_defs.proofs.ExpressionLaws.{lawful_value}

lawful_field : Lawful (IsOne field_upgrade_words IsFieldUpgrade) field
unfolding field
lawful_field =
    lawful_bind lawful_type (λ t f1 s1. lawful_bind lawful_name
    (λ n f2 s2. lawful_bind (lawful_word (codes "=")) (λ q f3 s3. lawful_bind lawful_value (λ v f4 s4.
    lawful_last (λ e. record { type_name = t; name = n; value = v }) (lawful_word (codes ";")) (λ e f5 s5. record {
      spelled = join f1 (f2 ++ (f3 ++ (f4 ++ f5))) (spelling.type_word t ∷ [])
          (name_word n ∷ Fixed (codes "=") ∷ (tf_words v ++ Fixed (codes ";") ∷ [])) s1
          (join f2 (f3 ++ (f4 ++ f5)) (name_word n ∷ []) (Fixed (codes "=") ∷ (tf_words v ++ Fixed (codes ";") ∷ [])) s2
          (join f3 (f4 ++ f5) (Fixed (codes "=") ∷ []) (tf_words v ++ Fixed (codes ";") ∷ []) (plain f3 (codes "=") q s3)
          (join f4 f5 (tf_words v) (Fixed (codes ";") ∷ []) s4.spelled (plain f5 (codes ";") e s5))));
      is = s4.is;
    })))))

lawful_fields : Lawful (AreInTurn field_upgrade_words IsFieldUpgrade 32 0) fields
unfolding fields more_fields
lawful_fields = lawful_turns field_upgrade_words IsFieldUpgrade field lawful_field (λ fields. begins_type) 32

lawful_class : Lawful (IsOne class_upgrade_words IsClassUpgrade) class
unfolding class
lawful_class =
    lawful_bind (lawful_word (codes "class")) (λ l f1 s1. lawful_bind lawful_name (λ n f2 s2. lawful_bind (lawful_word (codes "{")) (λ o f3 s3.
    lawful_bind lawful_fields (λ fs f4 s4. lawful_bind lawful_methods
    (λ ms f5 s5. lawful_last (λ c. record { name = n; fields = fs; methods = ms }) (lawful_word (codes "}")) (λ c f6 s6. record {
      spelled = join f1 (f2 ++ (f3 ++ (f4 ++ (f5 ++ f6)))) (Fixed (codes "class") ∷ [])
          (name_word n ∷ Fixed (codes "{") ∷ (in_turn (map field_upgrade_words fs) ++ (in_turn (map method_words ms) ++ Fixed (codes "}") ∷ [])))
          (plain f1 (codes "class") l s1)
          (join f2 (f3 ++ (f4 ++ (f5 ++ f6))) (name_word n ∷ [])
          (Fixed (codes "{") ∷ (in_turn (map field_upgrade_words fs) ++ (in_turn (map method_words ms) ++ Fixed (codes "}") ∷ []))) s2
          (join f3 (f4 ++ (f5 ++ f6)) (Fixed (codes "{") ∷ [])
          (in_turn (map field_upgrade_words fs) ++ (in_turn (map method_words ms) ++ Fixed (codes "}") ∷ [])) (plain f3 (codes "{") o s3)
          (join f4 (f5 ++ f6) (in_turn (map field_upgrade_words fs)) (in_turn (map method_words ms) ++ Fixed (codes "}") ∷ []) s4.spelled
          (join f5 f6 (in_turn (map method_words ms)) (Fixed (codes "}") ∷ []) s5.spelled (plain f6 (codes "}") c s6)))));
      is = record { fields = omega (arith, s4.few); each_field = s4.each; methods = omega (arith, s5.few); each_method = s5.each };
    }))))))

-- classes in turn, at least so many
record AreClasses (least : ℕ) (cs : List ClassUpgrade) (ts : List Token) : Type 0 where
  spelled : AreWords ts (in_turn (map class_upgrade_words cs))
  some : least ≤ length cs
  each : AllByRecursion IsClassUpgrade cs

lawful_more : (least : ℕ) (cs : List ClassUpgrade) (front : List Token) → AreClasses least cs front
    → Lawful (behind front (AreClasses 1)) (more_classes cs)
unfolding more_classes
lawful_more least cs front before = lawful_last (λ c. cs ++ c ∷ []) lawful_class (λ c f s. record {
  spelled = subst (λ (w : List Word). AreWords (front ++ f) w) (sym (turn-push class_upgrade_words cs c))
      (join front f (in_turn (map class_upgrade_words cs)) (class_upgrade_words c) before.spelled s.spelled);
  some = omega (arith, length_push cs c);
  each = all-push IsClassUpgrade cs c before.each s.is;
})

lawful_classes : (cs : List ClassUpgrade) (front : List Token) → AreClasses 1 cs front → Lawful (behind front (AreClasses 1)) (all_classes cs)
unfolding all_classes
lawful_classes cs front said = lawful_repeat_all (AreClasses 1) is_class more_classes (λ xs f s t p. lawful_more 1 xs f s) cs front said

pub record IsUpgradeText (u : Upgrade) (ts : List Token) : Type 0 where
  pub spelled : AreWords ts (upgrade_words u)
  pub is : IsUpgrade u

pub lawful_upgrade : Lawful IsUpgradeText upgrade
unfolding upgrade
lawful_upgrade =
    lawful_bind (lawful_word (codes "upgrade"))
    (λ l f1 s1. lawful_bind (lawful_word (codes "{"))
    (λ o f2 s2. lawful_bind (lawful_more 0 [] [] (record { spelled = tt; some = omega arith; each = tt })) (λ first f3 s3.
    lawful_bind (lawful_classes first f3 s3)
    (λ cs f4 s4. lawful_last (λ c. record { line = l; classes = cs }) (lawful_word (codes "}")) (λ c f5 s5. record {
      spelled = join f1 (f2 ++ (f3 ++ (f4 ++ f5))) (FixedAt (codes "upgrade") l ∷ [])
          (Fixed (codes "{") ∷ (in_turn (map class_upgrade_words cs) ++ Fixed (codes "}") ∷ [])) s1
          (join f2 (f3 ++ (f4 ++ f5)) (Fixed (codes "{") ∷ []) (in_turn (map class_upgrade_words cs) ++ Fixed (codes "}") ∷ [])
          (plain f2 (codes "{") o s2)
          (subst (λ (u : List Token). AreWords u (in_turn (map class_upgrade_words cs) ++ Fixed (codes "}") ∷ [])) (append_assoc f3 f4 f5)
          (join (f3 ++ f4) f5 (in_turn (map class_upgrade_words cs)) (Fixed (codes "}") ∷ []) s4.spelled (plain f5 (codes "}") c s5))));
      is = record { some = s4.some; each = s4.each };
    })))))
