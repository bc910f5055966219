-- Each expression of a new field that is read is spelled by what was taken, and where the reader is stuck,
-- the tokens before begin some expression.
use Rattle.std.proofs.Common.{◌≡◌, ℕ, zero, suc, ◌+◌, ◌≤◌, ◌<◌, max, Bool, true, List, [], ◌∷◌, ◌++◌, map, pos, refl, sym, ap, subst, arith}
use Rattle.std.specs.Prelude.{codes, ◌&&◌, nat_le, nat_lt}
use Rattle.std.specs.Option.{is_some}
use Rattle.std.proofs.lemmas.Bool.{ltb-true, le-leb, and_from, and_parts}
use Rattle.class_defs.specs.Shape.{Shape, left_level, level_of, right_level}
use Rattle.class_defs.specs.Words.{Word, Fixed, FixedAt, Numbered, in_turn, name_word, symbol_of}
use Rattle.class_defs.specs.declared.expressions.Name.{Name}
use Rattle.class_defs.specs.declared.literals.Literal.TheVariants as literal
use Rattle.class_defs.specs.declared.upgrades.Tf.{Tf}
use Rattle.class_defs.specs.declared.upgrades.Tf.TheVariants as tf
use Rattle.script_text.specs.declared.token.Token.{Token}
use Rattle.method_parse.specs.Expressions.{operator_in, tighter}
use Rattle.method_parse.specs.Matching.{AreWords, is, is_quoted}
use Rattle.method_parse.specs.declared.deep.Level.{Level}
use Rattle.method_parse.specs.declared.deep.Level.TheVariants as levels
use Rattle.method_parse.proofs.ExpressionLaws.{HasOperators, left_tight, lawful_operator, sums, terms}
use Rattle.method_parse.proofs.Fits.{FitsIn, tightness}
use Rattle.method_parse.proofs.Lawful.{Says, Lawful, behind, lawful_bind, lawful_if, lawful_last, lawful_repeat, lawful_repeat_all}
use Rattle.method_parse.proofs.Matched.{join, lawful_name, lawful_number, lawful_quoted, lawful_word, plain}
use Rattle.method_parse.proofs.SetupLaws.{Any, IsOne, turn-push}
use Rattle.upgrade_defs.specs.Expressions.{Parts, all_names, at_level, dotted, expression_in, in_parens, integer, is_dot, is_join, is_minus, is_open, joined, joins, leaf, more_names, negated, parens, path, primary, sum, term, text_literal, unary, value}
use Rattle.upgrade_defs.specs.Grammar.{IsTf, alone, has_names, tf_shape}
use Rattle.upgrade_defs.specs.Spelling.{dot_name, tf_words}
use Rattle.upgrade_defs.specs.declared.deep.Deep.{Deep}
use Rattle.upgrade_defs.proofs.Equations as eq

-- the number of a level
abbrev pub grade : Level → ℕ
grade levels.Comparison = 1
grade levels.Sum = 1
grade levels.Term = 2
grade levels.Unary = 3

-- an expression that tokens spell, in a room, at a level
pub record IsRead (room level : ℕ) (d : Deep) (ts : List Token) : Type 0 where
  pub spelled : AreWords ts (tf_words d.value)
  pub fits : FitsIn room room level d.depth (tf_shape d.value)

looser : (room level less : ℕ) (d : Deep) (ts : List Token) → less ≤ level → IsRead room level d ts → IsRead room less d ts
looser room level less d ts le read = record {
  spelled = read.spelled;
  fits = record {
    deep = read.fits.deep;
    positive = read.fits.positive;
    within = read.fits.within;
    nested = read.fits.nested;
    tight = omega (arith, read.fits.tight);
    proper = read.fits.proper;
  };
}

-- the names of a path, at least one
record AreNames (names : List Name) (ts : List Token) : Type 0 where
  spelled : AreWords ts (in_turn (map dot_name names))
  some : has_names names ≡ true

names-push : (names : List Name) (n : Name) → has_names (names ++ n ∷ []) ≡ true
names-push [] n = refl
names-push (m ∷ ms) n = refl

lawful_dotted : Lawful (IsOne dot_name Any) dotted
unfolding dotted
lawful_dotted =
    lawful_bind (lawful_word (codes ".")) (λ l f1 s1. lawful_last (λ n. n) lawful_name (λ n f2 s2. record {
      spelled = join f1 f2 (Fixed (codes ".") ∷ []) (name_word n ∷ []) (plain f1 (codes ".") l s1) s2;
      is = tt;
    }))

lawful_more : (names : List Name) (front : List Token) → AreWords front (in_turn (map dot_name names))
    → Lawful (behind front AreNames) (more_names names)
unfolding more_names
lawful_more names front spelled = lawful_last (λ n. names ++ n ∷ []) lawful_dotted (λ n f s. record {
  spelled = subst (λ (w : List Word). AreWords (front ++ f) w) (sym (turn-push dot_name names n))
      (join front f (in_turn (map dot_name names)) (dot_name n) spelled s.spelled);
  some = names-push names n;
})

lawful_names : (names : List Name) (front : List Token) → AreNames names front → Lawful (behind front AreNames) (all_names names)
unfolding all_names
lawful_names names front said = lawful_repeat_all AreNames is_dot more_names (λ ns f s t p. lawful_more ns f s.spelled) names front said

-- ---- expressions in a room

module _ (room below : ℕ) (deeper : room ≡ below + 1) (parts : Parts)
    (parts_law : 0 < below → (level : Level) → Lawful (IsRead below (grade level)) (parts level)) where
  -- an expression of this room, at a level
  abbrev Here : ℕ → Says Deep
  Here level = IsRead room level

  -- a leaf
  leaf_read : (x : Tf) (b : Bool) (ts : List Token) (ws : List Word) → tf_words x ≡ ws
      → tf_shape x ≡ record { level = 5; depth = 1; nesting = 0; proper = b } → b ≡ true
      → AreWords ts ws → Here 3 (leaf x) ts
  leaf_read x b ts ws words shaped proper spelled = record {
    spelled = subst (λ (w : List Word). AreWords ts w) (sym words) spelled;
    fits = subst (λ (s : Shape). FitsIn room room 3 1 s) (sym shaped)
        (record { deep = refl; positive = omega arith; within = omega arith; nested = omega arith; tight = omega arith; proper = proper });
  }

  lawful_path : Lawful (Here 3) path
  unfolding path
  lawful_path =
      lawful_bind (lawful_word (codes "old"))
      (λ l f1 s1. lawful_bind (lawful_more [] [] tt)
      (λ first f2 s2. lawful_last (λ names. leaf (tf.Path names l)) (lawful_names first f2 s2) (λ names f3 s3.
      leaf_read (tf.Path names l) (has_names names) (f1 ++ (f2 ++ f3)) (FixedAt (codes "old") l ∷ in_turn (map dot_name names))
      (eq.words-Path names l) (eq.shape-Path names l) s3.some
      (join f1 (f2 ++ f3) (FixedAt (codes "old") l ∷ []) (in_turn (map dot_name names)) s1 s3.spelled))))

  lawful_integer : Lawful (Here 3) integer
  unfolding integer
  lawful_integer = lawful_last (λ n. leaf (tf.Literal (literal.Int (pos n.0)) n.1)) lawful_number (λ n f s.
      leaf_read (tf.Literal (literal.Int (pos n.0)) n.1) true f (Numbered (pos n.0) n.1 ∷ []) (eq.words-Literal (literal.Int (pos n.0)) n.1) (eq.shape-Literal (literal.Int (pos n.0)) n.1) refl s)

  lawful_parens : 0 < below → Lawful (Here 3) (parens (parts levels.Sum))
  unfolding parens
  lawful_parens more =
      lawful_bind (lawful_word (codes "("))
      (λ l f1 s1. lawful_bind (parts_law more levels.Sum)
      (λ d f2 s2. lawful_last (λ c. in_parens d l) (lawful_word (codes ")")) (λ c f3 s3. record {
        spelled = subst (λ (w : List Word). AreWords (f1 ++ (f2 ++ f3)) w) (sym (eq.words-Parens d.value l))
            (join f1 (f2 ++ f3) (FixedAt (codes "(") l ∷ []) (tf_words d.value ++ Fixed (codes ")") ∷ []) s1
            (join f2 f3 (tf_words d.value) (Fixed (codes ")") ∷ []) s2.spelled (plain f3 (codes ")") c s3)));
        fits = subst (λ (s : Shape). FitsIn room room 3 (d.depth + 1) s) (sym (eq.shape-Parens d.value l)) (record {
          deep = ap (λ (n : ℕ). n + 1) s2.fits.deep;
          positive = omega arith;
          within = omega (arith, s2.fits.within);
          nested = omega (arith, s2.fits.nested);
          tight = omega arith;
          proper = and_from (tf_shape d.value).proper (nat_le 1 (tf_shape d.value).level) s2.fits.proper
              (le-leb 1 (tf_shape d.value).level s2.fits.tight);
        });
      })))

  -- there is room below where a part may stand
  room_below : (text : List ℕ) (t : Token) → (is text t && nat_lt 1 room) ≡ true → 0 < below
  room_below text t p =
      let deep : 1 < room = ltb-true 1 room (and_parts (is text t) (nat_lt 1 room) p).1 in
      omega arith

  lawful_primary : Lawful (Here 3) (primary room (parts levels.Sum))
  unfolding primary
  lawful_primary =
      lawful_if (is (codes "old"))
      (λ t p. lawful_path)
      (lawful_if (is_open room)
      (λ t p. lawful_parens (room_below (codes "(") t p))
      lawful_integer)

  lawful_unary : Lawful (Here 3) (unary room parts)
  unfolding unary
  lawful_unary =
      lawful_if (is_minus room)
      (λ t p. lawful_bind (lawful_word (codes "-"))
      (λ l f1 s1. lawful_last (λ d. negated d l) (parts_law (room_below (codes "-") t p) levels.Unary) (λ d f2 s2. record {
        spelled = subst (λ (w : List Word). AreWords (f1 ++ f2) w) (sym (eq.words-Negate d.value l))
            (join f1 f2 (FixedAt (codes "-") l ∷ []) (tf_words d.value) s1 s2.spelled);
        fits = subst (λ (s : Shape). FitsIn room room 3 (d.depth + 1) s) (sym (eq.shape-Negate d.value l)) (record {
          deep = ap (λ (n : ℕ). n + 1) s2.fits.deep;
          positive = omega arith;
          within = omega (arith, s2.fits.within);
          nested = omega (arith, s2.fits.nested);
          tight = omega arith;
          proper = and_from (tf_shape d.value).proper (nat_le 3 (tf_shape d.value).level) s2.fits.proper
              (le-leb 3 (tf_shape d.value).level s2.fits.tight);
        });
      })))
      lawful_primary

  -- one more operator and operand
  lawful_joined : (level : Level) → HasOperators level → 1 ≤ tightness level → grade (tighter level) ≡ tightness (tighter level)
      → (l : Deep) (front : List Token) → Here (left_tight level) l front → l.depth < room
      → Lawful (behind front (Here (tightness level))) (joined level parts l)
  unfolding joined
  lawful_joined level has low same l front left lt =
      let more : 0 < below = omega (arith, left.fits.positive) in
      lawful_bind (lawful_operator level has.some)
      (λ o f1 s1. lawful_last (λ r. record { value = tf.Binary o.0 l.value r.value o.1; depth = max l.depth r.depth + 1 })
      (parts_law more (tighter level)) (λ r f2 s2. record {
        spelled = subst (λ (w : List Word). AreWords (front ++ (f1 ++ f2)) w) (sym (eq.words-Binary o.0 l.value r.value o.1))
            (join front (f1 ++ f2) (tf_words l.value) (FixedAt (symbol_of o.0) o.1 ∷ tf_words r.value) left.spelled
            (join f1 f2 (FixedAt (symbol_of o.0) o.1 ∷ []) (tf_words r.value) s1.spelled s2.spelled));
        fits = subst (λ (s : Shape). FitsIn room room (tightness level) (max l.depth r.depth + 1) s)
            (sym (eq.shape-Binary o.0 l.value r.value o.1)) (record {
              deep = rw (left.fits.deep, s2.fits.deep) refl;
              positive = omega arith;
              within = omega (arith, s2.fits.within);
              nested = omega (arith, left.fits.nested, s2.fits.nested);
              tight = omega (arith, s1.of.at);
              proper = and_from (nat_le 1 (level_of o.0))
                  (((tf_shape l.value).proper && nat_le (left_level o.0) (tf_shape l.value).level) &&
                  ((tf_shape r.value).proper && nat_le (right_level o.0) (tf_shape r.value).level))
                  (le-leb 1 (level_of o.0) (omega (arith, s1.of.at)))
                  (and_from ((tf_shape l.value).proper && nat_le (left_level o.0) (tf_shape l.value).level)
                  ((tf_shape r.value).proper && nat_le (right_level o.0) (tf_shape r.value).level)
                  (and_from (tf_shape l.value).proper (nat_le (left_level o.0) (tf_shape l.value).level) left.fits.proper
                  (le-leb (left_level o.0) (tf_shape l.value).level (omega (arith, s1.of.left, left.fits.tight))))
                  (and_from (tf_shape r.value).proper (nat_le (right_level o.0) (tf_shape r.value).level) s2.fits.proper
                  (le-leb (right_level o.0) (tf_shape r.value).level (omega (arith, s1.of.at, has.next, s2.fits.tight)))));
            });
      }))

  join_deep : (level : Level) (x : Deep) (t : Token) → is_join level room x t ≡ true → x.depth < room
  join_deep level x t p = ltb-true x.depth room (and_parts (is_some (operator_in level t)) (nat_lt x.depth room) p).1

  lawful_terms : (l : Deep) (front : List Token) → Here 2 l front → Lawful (behind front (Here 2)) (joins levels.Term room parts l)
  unfolding joins
  lawful_terms l front left = lawful_repeat (Here 2) (is_join levels.Term room) (joined levels.Term parts)
      (λ x f s t p. lawful_joined levels.Term terms (omega arith) refl x f s (join_deep levels.Term x t p)) room l front left

  lawful_sums : (l : Deep) (front : List Token) → Here 1 l front → Lawful (behind front (Here 1)) (joins levels.Sum room parts l)
  unfolding joins
  lawful_sums l front left = lawful_repeat (Here 1) (is_join levels.Sum room) (joined levels.Sum parts)
      (λ x f s t p. lawful_joined levels.Sum sums (omega arith) refl x f s (join_deep levels.Sum x t p)) room l front left

  term_law : Lawful (Here 2) (term room parts)
  unfolding term
  term_law = lawful_bind lawful_unary (λ l f s. lawful_terms l f (looser room 3 2 l f (omega arith) s))

  sum_law : Lawful (Here 1) (sum room parts)
  unfolding sum
  sum_law = lawful_bind term_law (λ l f s. lawful_sums l f (looser room 2 1 l f (omega arith) s))

  pub lawful_at_level : (level : Level) → Lawful (Here (grade level)) (at_level room parts level)
  unfolding at_level
  lawful_at_level levels.Unary = lawful_unary
  lawful_at_level levels.Term = term_law
  lawful_at_level levels.Sum = sum_law
  lawful_at_level levels.Comparison = sum_law

-- an expression of a level, in a room
lawful_expression : (room : ℕ) (level : Level) → 0 < room → Lawful (IsRead room (grade level)) (expression_in room level)
unfolding expression_in
lawful_expression zero level lt = absurd (omega arith)
lawful_expression (suc depth) level lt =
    lawful_at_level (suc depth) depth (omega arith) (expression_in depth) (λ more l. lawful_expression depth l more) level

null_is : (l : ℕ) → IsTf (tf.Null l)
null_is l =
    let s : tf_shape (tf.Null l) ≡ record { level = 0; depth = 1; nesting = 0; proper = true } = eq.shape-Null l in
    record {
      depth = subst (λ (x : Shape). x.depth ≤ 32) (sym s) (omega arith);
      nesting = subst (λ (x : Shape). x.nesting ≤ 64) (sym s) (omega arith);
      proper = ap (λ (x : Shape). x.proper) s;
    }

text_is : (w : List ℕ) (l : ℕ) → IsTf (tf.Literal (literal.Text w) l)
text_is w l =
    let s : tf_shape (tf.Literal (literal.Text w) l) ≡ alone = eq.shape-Literal (literal.Text w) l in
    record {
      depth = subst (λ (x : Shape). x.depth ≤ 32) (sym s) (omega arith);
      nesting = subst (λ (x : Shape). x.nesting ≤ 64) (sym s) (omega arith);
      proper = ap (λ (x : Shape). x.proper) s;
    }

pub lawful_value : Lawful (IsOne tf_words IsTf) value
unfolding value text_literal
lawful_value =
    lawful_if (is (codes "null"))
    (λ t p. lawful_last (λ l. tf.Null l) (lawful_word (codes "null")) (λ l f s. record {
      spelled = subst (λ (w : List Word). AreWords f w) (sym (eq.words-Null l)) s;
      is = null_is l;
    }))
    (lawful_if is_quoted
    (λ t p. lawful_last (λ w. tf.Literal (literal.Text w.0) w.1) lawful_quoted (λ w f s. record {
      spelled = subst (λ (v : List Word). AreWords f v) (sym (eq.words-Literal (literal.Text w.0) w.1)) s;
      is = text_is w.0 w.1;
    }))
    (lawful_last (λ d. d.value) (lawful_expression 32 levels.Sum (omega arith)) (λ d f s. record {
      spelled = s.spelled;
      is = record { depth = omega (arith, s.fits.deep, s.fits.within); nesting = omega (arith, s.fits.nested); proper = s.fits.proper };
    })))
