-- Expressions of new fields that are spelled are read.
use Rattle.std.proofs.Common.{◌≡◌, ℕ, ℤ, zero, suc, ◌+◌, ◌-◌, ◌≤◌, ◌<◌, max, Bool, true, false, leb, List, [], ◌∷◌, ◌++◌, map, Option, Some, None, Result, Ok, pos, refl, sym, ap, subst, ◌∙◌, append_assoc, arith}
use Rattle.std.specs.Prelude.{codes, ◌&&◌, nat_lt, nat_le, option_map}
use Rattle.std.specs.Option.{is_some}
use Rattle.std.proofs.lemmas.Bool.{leb-true, leb-false, lt-ltb, and_from, and_parts}
use Rattle.class_defs.specs.Shape.{Shape, left_level, level_of, right_level}
use Rattle.class_defs.specs.Words.{Word, Fixed, FixedAt, Numbered, Quoted, in_turn, symbol_of}
use Rattle.class_defs.specs.declared.expressions.Name.{Name}
use Rattle.class_defs.specs.declared.expressions.Operator.{Operator}
use Rattle.class_defs.specs.declared.expressions.Operator.TheVariants as operators
use Rattle.class_defs.specs.declared.literals.Literal.TheVariants as literal
use Rattle.class_defs.specs.declared.upgrades.Tf.{Tf, map-Tf, out-Tf, roll-Tf, roll-out-Tf}
use Rattle.class_defs.specs.declared.upgrades.Tf.TheFolds.{fold-roll-Tf}
use Rattle.class_defs.specs.declared.upgrades.Tf.TheOpen.{Tf-F}
use Rattle.class_defs.specs.declared.upgrades.Tf.TheVariants as tf
use Rattle.script_text.specs.declared.token.Token.{Token}
use Rattle.script_text.specs.declared.token.TokenKind.{TokenKind}
use Rattle.script_text.specs.declared.token.TokenKind.TheVariants as kinds
use Rattle.script_text.specs.Marks.{number_by, number_in, text_by}
use Rattle.method_parse.specs.Expressions.{operator, operator_in, tighter}
use Rattle.method_parse.specs.Matching.{AreWords, IsWord, is, is_fixed_kind, is_quoted, is_quoted_kind}
use Rattle.method_parse.specs.Reader.{Reader, ◌>>=◌, onward, give, name, next, repeat, word}
use Rattle.method_parse.specs.declared.deep.Level.{Level}
use Rattle.method_parse.specs.declared.deep.Level.TheVariants as levels
use Rattle.method_parse.proofs.Eats.{Stops, first, line_then, is_not, name_then, nothing, number_then, part_then, quoted_then, split, stop_close, stops_before, word_then}
use Rattle.method_parse.proofs.Fits.{tightness}
use Rattle.method_parse.proofs.ListOnly.{bind_assoc, head_fails, head_passes, turn}
use Rattle.method_parse.proofs.OperatorOnly.{left_above, left_some, loosen, number_plain, operator_found, operator_stops, operator_takes, quoted_plain, weak}
use Rattle.method_parse.proofs.Repeats.{no_turn}
use Rattle.method_parse.proofs.SetupOnly.{Any, all_any}
use Rattle.method_parse.proofs.StatementOnly.{gives}
use Rattle.upgrade_defs.specs.Expressions.{Parts, all_names, at_level, dotted, expression_in, in_parens, integer, is_join, joined, joins, leaf, more_names, negated, parens, path, primary, sum, term, text_literal, unary, value}
use Rattle.upgrade_defs.specs.Grammar.{IsTf, has_names, tf_shape, tf_shape_step}
use Rattle.upgrade_defs.specs.Spelling.{dot_name, tf_words}
use Rattle.upgrade_defs.specs.declared.deep.Deep.{Deep}
use Rattle.upgrade_defs.proofs.Equations as eq
use Rattle.upgrade_defs.proofs.ExpressionLaws.{grade}
use Rattle.upgrade_defs.proofs.Turns.{all_read}

-- ---- an expression is at least one deep

depth_of : (o : Tf-F Tf) → (tf_shape (roll-Tf o)).depth ≡ (tf_shape_step (map-Tf Tf Shape tf_shape o)).depth
depth_of o = ap (λ (s : Shape). s.depth) (fold-roll-Tf Shape tf_shape_step o)

positive_roll : (o : Tf-F Tf) → 0 < (tf_shape (roll-Tf o)).depth
positive_roll (Tf-F.Null l) = omega (arith, depth_of (Tf-F.Null l))
positive_roll (Tf-F.Literal (literal.Int v) l) = omega (arith, depth_of (Tf-F.Literal (literal.Int v) l))
positive_roll (Tf-F.Literal (literal.Text v) l) = omega (arith, depth_of (Tf-F.Literal (literal.Text v) l))
positive_roll (Tf-F.Path ns l) = omega (arith, depth_of (Tf-F.Path ns l))
positive_roll (Tf-F.Parens x l) = omega (arith, depth_of (Tf-F.Parens x l))
positive_roll (Tf-F.Negate x l) = omega (arith, depth_of (Tf-F.Negate x l))
positive_roll (Tf-F.Binary o x y l) = omega (arith, depth_of (Tf-F.Binary o x y l))

positive : (x : Tf) → 0 < (tf_shape x).depth
positive x = subst (λ (y : Tf). 0 < (tf_shape y).depth) (roll-out-Tf x) (positive_roll (out-Tf x))

-- ---- what is read

-- what an expression that fits is read as
abbrev deep : Tf → Deep
deep x = record { value = x; depth = (tf_shape x).depth }

-- a shape that fits into a room, at a level
record Suits (room level : ℕ) (s : Shape) : Type 0 where
  within : s.depth ≤ room
  tight : level ≤ s.level
  proper : s.proper ≡ true

-- a reader that reads each expression that fits
abbrev ReadsAll : ℕ → ℕ → Reader Deep → Type 0
ReadsAll room level reader =
    (x : Tf) (ts rest : List Token) → AreWords ts (tf_words x) → Suits room level (tf_shape x) → Stops level rest
    → reader (ts ++ rest) ≡ Ok (deep x, rest)

abbrev got : Deep → List Token → Result (Deep × List Token) ℕ
got d rest = Ok (d, rest)

deep_is : (x : Tf) (d : ℕ) → (tf_shape x).depth ≡ d → record { value = x; depth = d } ≡ deep x
deep_is x d same = ap (λ (n : ℕ). record { value = x; depth = n }) (sym same)

read_is : (x : Tf) (d : ℕ) (rest : List Token) → (tf_shape x).depth ≡ d → got (record { value = x; depth = d }) rest ≡ got (deep x) rest
read_is x d rest same = ap (λ (y : Deep). got y rest) (deep_is x d same)

depth_is : {s t : Shape} → s ≡ t → s.depth ≡ t.depth
depth_is h = ap (λ (x : Shape). x.depth) h

-- ---- leaves

dotted_reads : (n : Name) (ts rest : List Token) → AreWords ts (dot_name n) → Any n → dotted (ts ++ rest) ≡ gives n rest
unfolding dotted
dotted_reads n ts rest h any =
    word_then rest _ (codes ".") _ ts (λ dot. name >>= λ one. give one) h (λ l us k.
    name_then rest _ n [] us (λ one. give one) k (λ vs m. ap (λ (u : List Token). gives n (u ++ rest)) (nothing vs m)))

first_reads : (n : Name) (ts rest : List Token) → AreWords ts (dot_name n) → more_names [] (ts ++ rest) ≡ gives (n ∷ []) rest
unfolding more_names
first_reads n ts rest h = ap (λ r. onward r (λ (one : Name). give ([] ++ one ∷ []))) (dotted_reads n ts rest h tt)

names_read : (xs before : List Name) (ts rest : List Token) → AreWords ts (in_turn (map dot_name xs)) → next (is (codes ".")) rest ≡ false
    → all_names before (ts ++ rest) ≡ gives (before ++ xs) rest
unfolding all_names more_names
names_read xs before ts rest h ends =
    all_read dot_name (λ x. omega arith) Any dotted (is (codes ".")) dotted_reads
    (λ x us vs k. head_passes (codes ".") us vs _ k) xs before ts rest h (all_any xs) ends

-- behind a name of a path comes a dot, or what comes behind the path
path_reads : (ns : List Name) (l : ℕ) (ts rest : List Token) → AreWords ts (FixedAt (codes "old") l ∷ in_turn (map dot_name ns))
    → has_names ns ≡ true → next (is (codes ".")) rest ≡ false
    → path (ts ++ rest) ≡ got (leaf (tf.Path ns l)) rest
unfolding path
path_reads [] l ts rest h some ends = absurd cc
path_reads (n ∷ ns) l ts rest h some ends =
    line_then rest _ (codes "old") l _ ts (λ line. more_names [] >>= λ one. all_names one >>= λ names. give (leaf (tf.Path names line))) h (λ us k.
    part_then rest _ (more_names []) (n ∷ []) (dot_name n) (in_turn (map dot_name ns)) us
    (λ one. all_names one >>= λ names. give (leaf (tf.Path names l))) k
    (λ front more p q. first_reads n front (more ++ rest) p)
    (λ vs m. ap (λ r. onward r (λ (names : List Name). give (leaf (tf.Path names l)))) (names_read ns (n ∷ []) vs rest m ends)))

natural_reads : (n l : ℕ) (ts rest : List Token) → AreWords ts (Numbered (pos n) l ∷ []) → integer (ts ++ rest) ≡ got (leaf (tf.Literal (literal.Int (pos n)) l)) rest
unfolding integer
natural_reads n l ts rest k =
    number_then rest _ n l [] ts (λ m. give (leaf (tf.Literal (literal.Int (pos m.0)) m.1))) k
    (λ us m. ap (λ (u : List Token). got (leaf (tf.Literal (literal.Int (pos n)) l)) (u ++ rest)) (nothing us m))

int_by : (v : ℤ) (l : ℕ) (o : Option ℕ) (ts rest : List Token) → option_map pos o ≡ Some v → AreWords ts (Numbered v l ∷ [])
    → integer (ts ++ rest) ≡ got (leaf (tf.Literal (literal.Int v) l)) rest
int_by v l (Some n) ts rest is k =
    let same : pos n ≡ v = cc in
    subst (λ (w : ℤ). integer (ts ++ rest) ≡ got (leaf (tf.Literal (literal.Int w) l)) rest) same
    (natural_reads n l ts rest (subst (λ (w : ℤ). AreWords ts (Numbered w l ∷ [])) (sym same) k))
int_by v l None ts rest is k = absurd cc

integer_reads : (v : ℤ) (l : ℕ) (ts rest : List Token) → AreWords ts (Numbered v l ∷ []) → integer (ts ++ rest) ≡ got (leaf (tf.Literal (literal.Int v) l)) rest
integer_reads v l ts rest k =
    let f = first ts (Numbered v l) [] k in
    int_by v l (number_in f.token) ts rest f.is.0 k

-- a number is none of these words
number_fails : (v : ℤ) (l : ℕ) (other : List ℕ) (ts rest : List Token) (ws : List Word) → AreWords ts (Numbered v l ∷ ws)
    → next (is other) (ts ++ rest) ≡ false
number_fails v l other [] rest ws h = absurd h
number_fails v l other (t ∷ ts) rest ws h = rw (number_plain t.kind t.text v h.0.0) refl

module _ (room below : ℕ) (deeper : room ≡ below + 1) (parts : Parts)
    (parts_read : 0 < below → (level : Level) → ReadsAll below (grade level) (parts level)) where
  abbrev Fit : ℕ → Tf → Type 0
  Fit level x = Suits room level (tf_shape x)

  abbrev Here : ℕ → Reader Deep → Type 0
  Here level reader = ReadsAll room level reader

  -- a test that asks for a word and for room
  test_fails : (text : List ℕ) (ts : List Token) → next (is text) ts ≡ false → next (λ t. is text t && nat_lt 1 room) ts ≡ false
  test_fails text [] h = refl
  test_fails text (t ∷ ts) h = rw h refl

  test_passes : (text : List ℕ) → 0 < below → (ts : List Token) → next (is text) ts ≡ true → next (λ t. is text t && nat_lt 1 room) ts ≡ true
  test_passes text more [] h = absurd cc
  test_passes text more (t ∷ ts) h = and_from (is text t) (nat_lt 1 room) h (lt-ltb 1 room (omega arith))

  -- ---- expressions without operators

  abbrev unary_here : Reader Deep
  unary_here = unary room parts

  int_case : (v : ℤ) (l : ℕ) (ts rest : List Token) → AreWords ts (tf_words (tf.Literal (literal.Int v) l)) → unary_here (ts ++ rest) ≡ got (deep (tf.Literal (literal.Int v) l)) rest
  unfolding unary primary
  int_case v l ts rest h =
      let k : AreWords ts (Numbered v l ∷ []) = subst (λ (w : List Word). AreWords ts w) (eq.words-Literal (literal.Int v) l) h in
      rw (test_fails (codes "-") (ts ++ rest) (number_fails v l (codes "-") ts rest [] k))
      (rw (number_fails v l (codes "old") ts rest [] k)
      (rw (test_fails (codes "(") (ts ++ rest) (number_fails v l (codes "(") ts rest [] k))
      (integer_reads v l ts rest k ∙ read_is (tf.Literal (literal.Int v) l) 1 rest (depth_is (eq.shape-Literal (literal.Int v) l)))))

  path_case : (ns : List Name) (l : ℕ) → Fit 3 (tf.Path ns l) → (ts rest : List Token) → AreWords ts (tf_words (tf.Path ns l))
      → next (is (codes ".")) rest ≡ false → unary_here (ts ++ rest) ≡ got (deep (tf.Path ns l)) rest
  unfolding unary primary
  path_case ns l fit ts rest h ends =
      let k : AreWords ts (FixedAt (codes "old") l ∷ in_turn (map dot_name ns)) = subst (λ (w : List Word). AreWords ts w) (eq.words-Path ns l) h in
      let w = weak ts (codes "old") l (in_turn (map dot_name ns)) k in
      let some : has_names ns ≡ true = sym (ap (λ (s : Shape). s.proper) (eq.shape-Path ns l)) ∙ fit.proper in
      rw (test_fails (codes "-") (ts ++ rest) (head_fails (codes "old") (codes "-") ts rest _ w refl))
      (rw (head_passes (codes "old") ts rest _ w)
      (path_reads ns l ts rest k some ends ∙ read_is (tf.Path ns l) 1 rest (depth_is (eq.shape-Path ns l))))

  parens_case : (x : Tf) (l : ℕ) → Fit 3 (tf.Parens x l) → (ts rest : List Token) → AreWords ts (tf_words (tf.Parens x l))
      → unary_here (ts ++ rest) ≡ got (deep (tf.Parens x l)) rest
  unfolding unary primary parens
  parens_case x l fit ts rest h =
      let k : AreWords ts (FixedAt (codes "(") l ∷ (tf_words x ++ Fixed (codes ")") ∷ [])) = subst (λ (w : List Word). AreWords ts w)
      (eq.words-Parens x l) h in
      let w = weak ts (codes "(") l (tf_words x ++ Fixed (codes ")") ∷ []) k in
      let f = subst (λ (s : Shape). Suits room 3 s) (eq.shape-Parens x l) fit in
      let two = and_parts (tf_shape x).proper (nat_le 1 (tf_shape x).level) f.proper in
      let more : 0 < below = omega (arith, f.within, positive x) in
      let inside : Suits below 1 (tf_shape x) = record {
        within = omega (arith, f.within);
        tight = leb-true 1 (tf_shape x).level two.1;
        proper = two.0;
      } in
      rw (test_fails (codes "-") (ts ++ rest) (head_fails (codes "(") (codes "-") ts rest _ w refl))
      (rw (head_fails (codes "(") (codes "old") ts rest _ w refl)
      (rw (test_passes (codes "(") more (ts ++ rest) (head_passes (codes "(") ts rest _ w))
      (line_then rest _ (codes "(") l _ ts (λ line. parts levels.Sum >>= λ read. word (codes ")") >>= λ c. give (in_parens read line)) k (λ us m.
      part_then rest _ (parts levels.Sum) (deep x) (tf_words x) (Fixed (codes ")") ∷ []) us
      (λ read. word (codes ")") >>= λ c. give (in_parens read l)) m
      (λ front more_tokens p q. parts_read more levels.Sum x front (more_tokens ++ rest) p inside
      (stops_before 1 (codes ")") more_tokens rest [] (stop_close 1) q))
      (λ vs o. word_then rest _ (codes ")") [] vs (λ c. give (in_parens (deep x) l)) o (λ c ws q.
      ap (λ (u : List Token). got (in_parens (deep x) l) (u ++ rest)) (nothing ws q)
      ∙ read_is (tf.Parens x l) ((tf_shape x).depth + 1) rest (depth_is (eq.shape-Parens x l))))))))

  negate_case : (x : Tf) (l : ℕ) → Fit 3 (tf.Negate x l) → (ts rest : List Token) → AreWords ts (tf_words (tf.Negate x l)) → Stops 3 rest
      → unary_here (ts ++ rest) ≡ got (deep (tf.Negate x l)) rest
  unfolding unary
  negate_case x l fit ts rest h stops =
      let k : AreWords ts (FixedAt (codes "-") l ∷ tf_words x) = subst (λ (w : List Word). AreWords ts w) (eq.words-Negate x l) h in
      let w = weak ts (codes "-") l (tf_words x) k in
      let f = subst (λ (s : Shape). Suits room 3 s) (eq.shape-Negate x l) fit in
      let two = and_parts (tf_shape x).proper (nat_le 3 (tf_shape x).level) f.proper in
      let more : 0 < below = omega (arith, f.within, positive x) in
      let inside : Suits below 3 (tf_shape x) = record {
        within = omega (arith, f.within);
        tight = leb-true 3 (tf_shape x).level two.1;
        proper = two.0;
      } in
      rw (test_passes (codes "-") more (ts ++ rest) (head_passes (codes "-") ts rest _ w))
      (line_then rest _ (codes "-") l _ ts (λ line. parts levels.Unary >>= λ operand. give (negated operand line)) k (λ us m.
      ap (λ (r : Result (Deep × List Token) ℕ). onward r (λ operand. give (negated operand l)))
      (parts_read more levels.Unary x us rest m inside stops)
      ∙ read_is (tf.Negate x l) ((tf_shape x).depth + 1) rest (depth_is (eq.shape-Negate x l))))

  too_loose : (x : Tf) (s : Shape) → tf_shape x ≡ s → s.level ≤ 2 → Fit 3 x → ⊥
  too_loose x s same le fit = let level : (tf_shape x).level ≡ s.level = ap (λ (t : Shape). t.level) same in omega (arith, fit.tight)

  level_small : (o : Operator) → level_of o ≤ 2
  level_small operators.Add = omega arith
  level_small operators.Subtract = omega arith
  level_small operators.Multiply = omega arith
  level_small operators.Equal = omega arith
  level_small operators.Unequal = omega arith
  level_small operators.Less = omega arith

  unary_variant : (o : Tf-F Tf) (x : Tf) → roll-Tf o ≡ x → Fit 3 x → (ts rest : List Token) → AreWords ts (tf_words x) → Stops 3 rest
      → unary_here (ts ++ rest) ≡ got (deep x) rest
  unary_variant (Tf-F.Null l) x is fit ts rest h stops = absurd
      (too_loose x _ (ap tf_shape (sym is ∙ tf.rolls-Null l) ∙ eq.shape-Null l) (omega arith) fit)
  unary_variant (Tf-F.Literal (literal.Text v) l) x is fit ts rest h stops = absurd
      (too_loose x _ (ap tf_shape (sym is ∙ tf.rolls-Literal (literal.Text v) l) ∙ eq.shape-Literal (literal.Text v) l) (omega arith) fit)
  unary_variant (Tf-F.Literal (literal.Int v) l) x is fit ts rest h stops =
      let back : tf.Literal (literal.Int v) l ≡ x = sym (tf.rolls-Literal (literal.Int v) l) ∙ is in
      subst (λ (z : Tf). unary_here (ts ++ rest) ≡ got (deep z) rest) back
      (int_case v l ts rest (subst (λ (z : Tf). AreWords ts (tf_words z)) (sym back) h))
  unary_variant (Tf-F.Path ns l) x is fit ts rest h stops =
      let back : tf.Path ns l ≡ x = sym (tf.rolls-Path ns l) ∙ is in
      subst (λ (z : Tf). unary_here (ts ++ rest) ≡ got (deep z) rest) back
      (path_case ns l (subst (λ (z : Tf). Fit 3 z) (sym back) fit) ts rest (subst (λ (z : Tf). AreWords ts (tf_words z)) (sym back) h) stops.dot)
  unary_variant (Tf-F.Parens y l) x is fit ts rest h stops =
      let back : tf.Parens y l ≡ x = sym (tf.rolls-Parens y l) ∙ is in
      subst (λ (z : Tf). unary_here (ts ++ rest) ≡ got (deep z) rest) back
      (parens_case y l (subst (λ (z : Tf). Fit 3 z) (sym back) fit) ts rest (subst (λ (z : Tf). AreWords ts (tf_words z)) (sym back) h))
  unary_variant (Tf-F.Negate y l) x is fit ts rest h stops =
      let back : tf.Negate y l ≡ x = sym (tf.rolls-Negate y l) ∙ is in
      subst (λ (z : Tf). unary_here (ts ++ rest) ≡ got (deep z) rest) back
      (negate_case y l (subst (λ (z : Tf). Fit 3 z) (sym back) fit) ts rest (subst (λ (z : Tf). AreWords ts (tf_words z)) (sym back) h) stops)
  unary_variant (Tf-F.Binary o y z l) x is fit ts rest h stops = absurd
      (too_loose x _ (ap tf_shape (sym is ∙ tf.rolls-Binary o y z l) ∙ eq.shape-Binary o y z l) (level_small o) fit)

  unary_reads : Here 3 unary_here
  unary_reads x ts rest h fit stops = unary_variant (out-Tf x) x (roll-out-Tf x) fit ts rest h stops

  -- ---- operators of one level, one behind the other

  record BinaryFit (o : Operator) (l r : Tf) : Type 0 where
    left : Fit (left_level o) l
    right : Suits below (right_level o) (tf_shape r)
    less : (tf_shape l).depth < room
    enough : 0 < below

  binary_fit : (level : ℕ) (o : Operator) (l r : Tf) (line : ℕ) → Fit level (tf.Binary o l r line) → BinaryFit o l r
  binary_fit level o l r line fit =
      let f = subst (λ (s : Shape). Suits room level s) (eq.shape-Binary o l r line) fit in
      let all = and_parts (nat_le 1 (level_of o))
      (((tf_shape l).proper && nat_le (left_level o) (tf_shape l).level) &&
      ((tf_shape r).proper && nat_le (right_level o) (tf_shape r).level)) f.proper in
      let two = and_parts ((tf_shape l).proper && nat_le (left_level o) (tf_shape l).level)
      ((tf_shape r).proper && nat_le (right_level o) (tf_shape r).level) all.1 in
      let a = and_parts (tf_shape l).proper (nat_le (left_level o) (tf_shape l).level) two.0 in
      let b = and_parts (tf_shape r).proper (nat_le (right_level o) (tf_shape r).level) two.1 in
      record {
        left = record { within = omega (arith, f.within); tight = leb-true (left_level o) (tf_shape l).level a.1; proper = a.0 };
        right = record { within = omega (arith, f.within); tight = leb-true (right_level o) (tf_shape r).level b.1; proper = b.0 };
        less = omega (arith, f.within);
        enough = omega (arith, f.within, positive l);
      }

  module _ (level : Level) (next_level : grade (tighter level) ≡ tightness level + 1) (low : 1 ≤ tightness level) (high : tightness level ≤ 2)
      (tight_reader : Reader Deep) (tight_reads : Here (tightness level + 1) tight_reader) where
    abbrev join_on : ℕ → Deep → Reader Deep
    join_on n = repeat n (is_join level room) (joined level parts)

    join_passes : (o : Operator) (d : Deep) (line : ℕ) → tightness level ≡ level_of o → d.depth < room → (us rest : List Token) (ws : List Word)
        → AreWords us (FixedAt (symbol_of o) line ∷ ws) → next (is_join level room d) (us ++ rest) ≡ true
    join_passes o d line of less [] rest ws h = absurd h
    join_passes o d line of less (t ∷ us) rest ws h =
        and_from (is_some (operator_in level t)) (nat_lt d.depth room) (ap is_some (operator_found level o t.kind t.text h.0.0 h.0.1 of))
        (lt-ltb d.depth room less)

    join_step : (o : Operator) (l r : Tf) (line : ℕ) (k : ℕ) (us rest : List Token) → tightness level ≡ level_of o → BinaryFit o l r
        → AreWords us (FixedAt (symbol_of o) line ∷ tf_words r) → Stops (tightness level + 1) rest
        → join_on (suc k) (deep l) (us ++ rest) ≡ join_on k (deep (tf.Binary o l r line)) rest
    unfolding joined
    join_step o l r line k us rest of fit h stops =
        let right : Suits below (grade (tighter level))
        (tf_shape r) = record { within = fit.right.within; tight = omega (arith, fit.right.tight); proper = fit.right.proper } in
        turn (is_join level room) (joined level parts) k (deep l) (us ++ rest) (join_passes o (deep l) line of fit.less us rest _ h)
        ∙ (bind_assoc (operator level (us ++ rest))
        (λ o. parts (tighter level) >>= λ right. give
        (record { value = tf.Binary o.0 l right.value o.1; depth = max (tf_shape l).depth right.depth + 1 })) (join_on k)
        ∙ operator_takes level o line (tf_words r) us rest _
        (λ o vs. onward ((parts (tighter level) >>= λ right. give
        (record { value = tf.Binary o.0 l right.value o.1; depth = max (tf_shape l).depth right.depth + 1 })) vs) (join_on k)) of h (λ vs m.
        ap (λ res. onward (onward res (λ right. give
        (record { value = tf.Binary o l right.value line; depth = max (tf_shape l).depth right.depth + 1 }))) (join_on k))
        (parts_read fit.enough (tighter level) r vs rest m right (subst (λ (n : ℕ). Stops n rest) (sym next_level) stops))
        ∙ ap (λ (d : Deep). join_on k d rest)
        (deep_is (tf.Binary o l r line) (max (tf_shape l).depth (tf_shape r).depth + 1) (depth_is (eq.shape-Binary o l r line)))))

    record Row (x : Tf) : Type 0 where
      turns : ℕ
      small : turns < (tf_shape x).depth
      reads : (ts rest : List Token) (n : ℕ) → AreWords ts (tf_words x) → Stops (tightness level + 1) rest
          → onward (tight_reader (ts ++ rest)) (join_on (n + turns)) ≡ join_on n (deep x) rest

    row_base : (x : Tf) → Fit (tightness level + 1) x → Row x
    row_base x fit = record {
      turns = 0;
      small = positive x;
      reads = λ ts rest n h stops.
          let same : n + 0 ≡ n = omega arith in
          ap (λ (r : Result (Deep × List Token) ℕ). onward r (join_on (n + 0))) (tight_reads x ts rest h fit stops)
          ∙ ap (λ (k : ℕ). join_on k (deep x) rest) same;
    }

    row_step : (o : Operator) (l r : Tf) (line : ℕ) → tightness level ≡ level_of o → BinaryFit o l r → Row l → Row (tf.Binary o l r line)
    row_step o l r line of fit s = record {
      turns = s.turns + 1;
      small = omega (arith, s.small, depth_is (eq.shape-Binary o l r line));
      reads = λ ts rest k h stops.
          let w : AreWords ts (tf_words l ++ FixedAt (symbol_of o) line ∷ tf_words r) = subst (λ (w : List Word). AreWords ts w)
          (eq.words-Binary o l r line) h in
          let t = split ts (tf_words l) (FixedAt (symbol_of o) line ∷ tf_words r) w in
          let e1 : ts ++ rest ≡ t.front ++ (t.rest ++ rest) = ap (λ (u : List Token). u ++ rest) t.parts ∙ append_assoc t.front t.rest rest in
          let e2 : k + (s.turns + 1) ≡ suc k + s.turns = omega arith in
          let stop : Stops (tightness level + 1) (t.rest ++ rest) = subst (λ (n : ℕ). Stops (n + 1) (t.rest ++ rest)) (sym of)
          (stops_before (level_of o + 1) (symbol_of o) t.rest rest (tf_words r) (operator_stops o)
          (weak t.rest (symbol_of o) line (tf_words r) t.second)) in
          ap (λ (u : List Token). onward (tight_reader u) (join_on (k + (s.turns + 1)))) e1
          ∙ (ap (λ (m : ℕ). onward (tight_reader (t.front ++ (t.rest ++ rest))) (join_on m)) e2
          ∙ (s.reads t.front (t.rest ++ rest) (suc k) t.first stop ∙ join_step o l r line k t.rest rest of fit t.second stops));
    }

    abbrev RowTo : ℕ → Type 0
    RowTo m = (x : Tf) → (tf_shape x).depth ≤ m → Fit (tightness level) x → Row x

    raise : (x : Tf) (s : Shape) → tf_shape x ≡ s → 3 ≤ s.level → Fit (tightness level) x → Fit (tightness level + 1) x
    raise x s same le fit = record {
      within = fit.within;
      tight = let is : (tf_shape x).level ≡ s.level = ap (λ (t : Shape). t.level) same in omega arith;
      proper = fit.proper;
    }

    binary_row : (m : ℕ) → RowTo m → (o : Operator) (l r : Tf) (line : ℕ) → (tf_shape (tf.Binary o l r line)).depth ≤ suc m
        → Fit (tightness level) (tf.Binary o l r line) → (b : Bool) → leb (tightness level + 1) (level_of o) ≡ b → Row (tf.Binary o l r line)
    binary_row m to o l r line le fit true b =
        let is : (tf_shape (tf.Binary o l r line)).level ≡ level_of o = ap (λ (s : Shape). s.level) (eq.shape-Binary o l r line) in
        row_base (tf.Binary o l r line)
        (record { within = fit.within; tight = omega (arith, leb-true (tightness level + 1) (level_of o) b); proper = fit.proper })
    binary_row m to o l r line le fit false b =
        let is : (tf_shape (tf.Binary o l r line)).level ≡ level_of o = ap (λ (s : Shape). s.level) (eq.shape-Binary o l r line) in
        let of : tightness level ≡ level_of o = omega (arith, leb-false (tightness level + 1) (level_of o) b, fit.tight) in
        let f = binary_fit (tightness level) o l r line fit in
        row_step o l r line of f (to l (omega (arith, depth_is (eq.shape-Binary o l r line)))
        (record { within = f.left.within; tight = omega (arith, left_above o, f.left.tight); proper = f.left.proper }))

    null_none : (x : Tf) → (tf_shape x).level ≡ 0 → Fit (tightness level) x → ⊥
    null_none x none fit = omega (arith, fit.tight)

    row_form : (m : ℕ) → RowTo m → (o : Tf-F Tf) (x : Tf) → roll-Tf o ≡ x → (tf_shape x).depth ≤ suc m → Fit (tightness level) x → Row x
    row_form m to (Tf-F.Null l) x is le fit = absurd
        (null_none x (ap (λ (s : Shape). s.level) (ap tf_shape (sym is ∙ tf.rolls-Null l) ∙ eq.shape-Null l)) fit)
    row_form m to (Tf-F.Literal (literal.Text v) l) x is le fit = absurd
        (null_none x (ap (λ (s : Shape). s.level) (ap tf_shape (sym is ∙ tf.rolls-Literal (literal.Text v) l) ∙ eq.shape-Literal (literal.Text v) l)) fit)
    row_form m to (Tf-F.Literal (literal.Int v) l) x is le fit = row_base x
        (raise x _ (ap tf_shape (sym is ∙ tf.rolls-Literal (literal.Int v) l) ∙ eq.shape-Literal (literal.Int v) l) (omega arith) fit)
    row_form m to (Tf-F.Path ns l) x is le fit = row_base x
        (raise x _ (ap tf_shape (sym is ∙ tf.rolls-Path ns l) ∙ eq.shape-Path ns l) (omega arith) fit)
    row_form m to (Tf-F.Parens y l) x is le fit = row_base x
        (raise x _ (ap tf_shape (sym is ∙ tf.rolls-Parens y l) ∙ eq.shape-Parens y l) (omega arith) fit)
    row_form m to (Tf-F.Negate y l) x is le fit = row_base x
        (raise x _ (ap tf_shape (sym is ∙ tf.rolls-Negate y l) ∙ eq.shape-Negate y l) (omega arith) fit)
    row_form m to (Tf-F.Binary o l r line) x is le fit =
        let back : tf.Binary o l r line ≡ x = sym (tf.rolls-Binary o l r line) ∙ is in
        subst (λ (z : Tf). Row z) back
        (binary_row m to o l r line (subst (λ (z : Tf). (tf_shape z).depth ≤ suc m) (sym back) le)
        (subst (λ (z : Tf). Fit (tightness level) z) (sym back) fit) (leb (tightness level + 1) (level_of o)) refl)

    row : (m : ℕ) → RowTo m
    row zero x le fit = absurd (omega (arith, positive x))
    row (suc m) x le fit = row_form m (row m) (out-Tf x) x (roll-out-Tf x) le fit

    no_join : (d : Deep) (rest : List Token) → next (λ t. is_some (operator_in level t)) rest ≡ false → next (is_join level room d) rest ≡ false
    no_join d [] h = refl
    no_join d (t ∷ ts) h = rw h refl

    level_reads : ((rest : List Token) → Stops (tightness level) rest → next (λ t. is_some (operator_in level t)) rest ≡ false)
        → Here (tightness level) (tight_reader >>= joins level room parts)
    unfolding joins
    level_reads quiet x ts rest h fit stops =
        let s = row (tf_shape x).depth x (omega arith) fit in
        let n : room ≡ (room - s.turns) + s.turns = omega (arith, s.small, fit.within) in
        ap (λ (k : ℕ). onward (tight_reader (ts ++ rest)) (join_on k)) n
        ∙ (s.reads ts rest (room - s.turns) h (loosen (tightness level) (tightness level + 1) rest (omega arith) stops)
        ∙ no_turn (is_join level room) (joined level parts) (room - s.turns) (deep x) rest (no_join (deep x) rest (quiet rest stops)))

  term_reads : Here 2 (term room parts)
  unfolding term
  term_reads = level_reads levels.Term refl (omega arith) (omega arith) unary_here unary_reads (λ rest stops. stops.term (omega arith))

  sum_reads : Here 1 (sum room parts)
  unfolding sum
  sum_reads = level_reads levels.Sum refl (omega arith) (omega arith) (term room parts) term_reads (λ rest stops. stops.sum (omega arith))

  at_level_reads : (level : Level) → Here (grade level) (at_level room parts level)
  unfolding at_level
  at_level_reads levels.Unary = unary_reads
  at_level_reads levels.Term = term_reads
  at_level_reads levels.Sum = sum_reads
  at_level_reads levels.Comparison = sum_reads

-- an expression that is spelled is read, in a room with place for it
expression_reads : (depth : ℕ) (level : Level) → 0 < depth → ReadsAll depth (grade level) (expression_in depth level)
unfolding expression_in
expression_reads zero level lt = absurd (omega arith)
expression_reads (suc depth) level lt = at_level_reads (suc depth) depth (omega arith) (expression_in depth)
    (λ more l. expression_reads depth l more) level

-- ---- `null`, a text, or a sum

raised : (x : Tf) (s : Shape) → tf_shape x ≡ s → 1 ≤ s.level → IsTf x → Suits 32 1 (tf_shape x)
raised x s same le is = record {
  within = is.depth;
  tight = let level : (tf_shape x).level ≡ s.level = ap (λ (t : Shape). t.level) same in omega arith;
  proper = is.proper;
}

-- the left operand of an operator that fits
left_fits : (o : Operator) (l r : Tf) (line : ℕ) → Suits 32 1 (tf_shape (tf.Binary o l r line)) → Suits 32 1 (tf_shape l)
left_fits o l r line fit =
    let f = subst (λ (s : Shape). Suits 32 1 s) (eq.shape-Binary o l r line) fit in
    let all = and_parts (nat_le 1 (level_of o))
    (((tf_shape l).proper && nat_le (left_level o) (tf_shape l).level) &&
    ((tf_shape r).proper && nat_le (right_level o) (tf_shape r).level)) f.proper in
    let two = and_parts ((tf_shape l).proper && nat_le (left_level o) (tf_shape l).level)
    ((tf_shape r).proper && nat_le (right_level o) (tf_shape r).level) all.1 in
    let a = and_parts (tf_shape l).proper (nat_le (left_level o) (tf_shape l).level) two.0 in
    record { within = omega (arith, f.within); tight = omega (arith, left_some o, leb-true (left_level o) (tf_shape l).level a.1); proper = a.0 }

-- what the next token is, by the word that it is
at_word : (test : Token → Bool) (b : Bool) (w : Word) (ts rest : List Token) (ws : List Word) → AreWords ts (w ∷ ws) → ((t : Token) → IsWord t w → test t ≡ b) → next test (ts ++ rest) ≡ b
at_word test b w [] rest ws h one = absurd h
at_word test b w (t ∷ ts) rest ws h one = one t h.0

-- no token with which a sum begins passes the test
record Misses (test : Token → Bool) : Type 0 where
  number : (t : Token) (v : ℤ) (l : ℕ) → IsWord t (Numbered v l) → test t ≡ false
  old_word : (t : Token) (l : ℕ) → IsWord t (FixedAt (codes "old") l) → test t ≡ false
  open_word : (t : Token) (l : ℕ) → IsWord t (FixedAt (codes "(") l) → test t ≡ false
  minus : (t : Token) (l : ℕ) → IsWord t (FixedAt (codes "-") l) → test t ≡ false

misses_null : Misses (is (codes "null"))
misses_null = record {
  number = λ t v l w. rw (number_plain t.kind t.text v w.0) refl;
  old_word = λ t l w. is_not (codes "old") (codes "null") t w.1 refl;
  open_word = λ t l w. is_not (codes "(") (codes "null") t w.1 refl;
  minus = λ t l w. is_not (codes "-") (codes "null") t w.1 refl;
}

number_no_text : (k : TokenKind) (text : List ℕ) (v : ℤ) → option_map pos (number_by k text) ≡ Some v → is_quoted_kind k ≡ false
number_no_text kinds.Name text v e = refl
number_no_text kinds.Number text v e = refl
number_no_text kinds.Keyword text v e = refl
number_no_text kinds.Symbol text v e = refl
number_no_text kinds.Quoted text v e = absurd cc

fixed_no_text : (k : TokenKind) → is_fixed_kind k ≡ true → is_quoted_kind k ≡ false
fixed_no_text kinds.Name f = refl
fixed_no_text kinds.Number f = refl
fixed_no_text kinds.Keyword f = refl
fixed_no_text kinds.Symbol f = refl
fixed_no_text kinds.Quoted f = absurd cc

misses_text : Misses is_quoted
misses_text = record {
  number = λ t v l w. number_no_text t.kind t.text v w.0;
  old_word = λ t l w. fixed_no_text t.kind w.0;
  open_word = λ t l w. fixed_no_text t.kind w.0;
  minus = λ t l w. fixed_no_text t.kind w.0;
}

-- a sum begins with no such token
module _ (test : Token → Bool) (misses : Misses test) where
  abbrev NoSum : ℕ → Type 0
  NoSum m = (x : Tf) → (tf_shape x).depth ≤ m → Suits 32 1 (tf_shape x) → (ts rest : List Token) → AreWords ts (tf_words x) → next test (ts ++ rest) ≡ false

  no_sum_form : (m : ℕ) → NoSum m → (o : Tf-F Tf) (x : Tf) → roll-Tf o ≡ x → (tf_shape x).depth ≤ suc m → Suits 32 1 (tf_shape x)
      → (ts rest : List Token) → AreWords ts (tf_words x) → next test (ts ++ rest) ≡ false
  no_sum_form m to (Tf-F.Null l) x at le fit ts rest h =
      let level : (tf_shape x).level ≡ 0 = ap (λ (s : Shape). s.level) (ap tf_shape (sym at ∙ tf.rolls-Null l) ∙ eq.shape-Null l) in
      absurd (omega (arith, fit.tight))
  no_sum_form m to (Tf-F.Literal (literal.Text v) l) x at le fit ts rest h =
      let level : (tf_shape x).level ≡ 0 = ap (λ (s : Shape). s.level) (ap tf_shape (sym at ∙ tf.rolls-Literal (literal.Text v) l) ∙ eq.shape-Literal (literal.Text v) l) in
      absurd (omega (arith, fit.tight))
  no_sum_form m to (Tf-F.Literal (literal.Int v) l) x at le fit ts rest h =
      at_word test false (Numbered v l) ts rest []
      (subst (λ (w : List Word). AreWords ts w) (ap tf_words (sym at ∙ tf.rolls-Literal (literal.Int v) l) ∙ eq.words-Literal (literal.Int v) l) h) (λ t w. misses.number t v l w)
  no_sum_form m to (Tf-F.Path ns l) x at le fit ts rest h =
      at_word test false (FixedAt (codes "old") l) ts rest _
      (subst (λ (w : List Word). AreWords ts w) (ap tf_words (sym at ∙ tf.rolls-Path ns l) ∙ eq.words-Path ns l) h) (λ t w. misses.old_word t l w)
  no_sum_form m to (Tf-F.Parens y l) x at le fit ts rest h =
      at_word test false (FixedAt (codes "(") l) ts rest _
      (subst (λ (w : List Word). AreWords ts w) (ap tf_words (sym at ∙ tf.rolls-Parens y l) ∙ eq.words-Parens y l) h) (λ t w. misses.open_word t l w)
  no_sum_form m to (Tf-F.Negate y l) x at le fit ts rest h =
      at_word test false (FixedAt (codes "-") l) ts rest _
      (subst (λ (w : List Word). AreWords ts w) (ap tf_words (sym at ∙ tf.rolls-Negate y l) ∙ eq.words-Negate y l) h) (λ t w. misses.minus t l w)
  no_sum_form m to (Tf-F.Binary o y z l) x at le fit ts rest h =
      let back : x ≡ tf.Binary o y z l = sym at ∙ tf.rolls-Binary o y z l in
      let s = split ts (tf_words y) _ (subst (λ (w : List Word). AreWords ts w) (ap tf_words back ∙ eq.words-Binary o y z l) h) in
      let e1 : ts ++ rest ≡ s.front ++ (s.rest ++ rest) = ap (λ (u : List Token). u ++ rest) s.parts ∙ append_assoc s.front s.rest rest in
      ap (next test) e1
      ∙ to y (omega (arith, depth_is (ap tf_shape back ∙ eq.shape-Binary o y z l)))
      (left_fits o y z l (subst (λ (u : Tf). Suits 32 1 (tf_shape u)) back fit)) s.front (s.rest ++ rest) s.first

  no_sum : (m : ℕ) → NoSum m
  no_sum zero x le fit ts rest h = absurd (omega (arith, positive x))
  no_sum (suc m) x le fit ts rest h = no_sum_form m (no_sum m) (out-Tf x) x (roll-out-Tf x) le fit ts rest h

sum_case : (x : Tf) → Suits 32 1 (tf_shape x) → (ts rest : List Token) → AreWords ts (tf_words x) → Stops 1 rest → value (ts ++ rest) ≡ gives x rest
unfolding value
sum_case x fit ts rest h stops =
    rw (no_sum (is (codes "null")) misses_null (tf_shape x).depth x (omega arith) fit ts rest h, no_sum is_quoted misses_text (tf_shape x).depth x (omega arith) fit ts rest h)
    (ap (λ (r : Result (Deep × List Token) ℕ). onward r (λ read. give read.value))
    (expression_reads 32 levels.Sum (omega arith) x ts rest h fit stops))

null_case : (l : ℕ) (ts rest : List Token) → AreWords ts (tf_words (tf.Null l)) → value (ts ++ rest) ≡ gives (tf.Null l) rest
unfolding value
null_case l ts rest h =
    let k : AreWords ts (FixedAt (codes "null") l ∷ []) = subst (λ (w : List Word). AreWords ts w) (eq.words-Null l) h in
    rw (head_passes (codes "null") ts rest _ (weak ts (codes "null") l [] k))
    (line_then rest _ (codes "null") l [] ts (λ line. give (tf.Null line)) k
    (λ us m. ap (λ (u : List Token). gives (tf.Null l) (u ++ rest)) (nothing us m)))

quoted_is : (k : TokenKind) (text w : List ℕ) → text_by k text ≡ Some w → is_quoted_kind k ≡ true
quoted_is kinds.Name text w e = absurd cc
quoted_is kinds.Number text w e = absurd cc
quoted_is kinds.Keyword text w e = absurd cc
quoted_is kinds.Symbol text w e = absurd cc
quoted_is kinds.Quoted text w e = refl

text_case : (v : List ℕ) (l : ℕ) (ts rest : List Token) → AreWords ts (Quoted v l ∷ []) → value (ts ++ rest) ≡ gives (tf.Literal (literal.Text v) l) rest
unfolding value text_literal
text_case v l ts rest k =
    let no_null : next (is (codes "null")) (ts ++ rest) ≡ false = at_word (is (codes "null")) false (Quoted v l) ts rest [] k (λ t w. rw (quoted_plain t.kind t.text v w.0) refl) in
    let text : next is_quoted (ts ++ rest) ≡ true = at_word is_quoted true (Quoted v l) ts rest [] k (λ t w. quoted_is t.kind t.text v w.0) in
    rw (no_null, text)
    (quoted_then rest _ v l [] ts (λ m. give (tf.Literal (literal.Text m.0) m.1)) k
    (λ us m. ap (λ (u : List Token). gives (tf.Literal (literal.Text v) l) (u ++ rest)) (nothing us m)))

binary_level : (o : Operator) (l r : Tf) (line : ℕ) → IsTf (tf.Binary o l r line) → 1 ≤ level_of o
binary_level o l r line is =
    let proper : (nat_le 1 (level_of o) &&
    (((tf_shape l).proper && nat_le (left_level o) (tf_shape l).level) &&
    ((tf_shape r).proper && nat_le (right_level o) (tf_shape r).level))) ≡ true
    = sym (ap (λ (s : Shape). s.proper) (eq.shape-Binary o l r line)) ∙ is.proper in
    leb-true 1 (level_of o) (and_parts (nat_le 1 (level_of o))
    (((tf_shape l).proper && nat_le (left_level o) (tf_shape l).level) &&
    ((tf_shape r).proper && nat_le (right_level o) (tf_shape r).level)) proper).0

value_form : (o : Tf-F Tf) (x : Tf) → roll-Tf o ≡ x → IsTf x → (ts rest : List Token) → AreWords ts (tf_words x) → Stops 1 rest
    → value (ts ++ rest) ≡ gives x rest
value_form (Tf-F.Null l) x at is ts rest h stops =
    let back : tf.Null l ≡ x = sym (tf.rolls-Null l) ∙ at in
    subst (λ (z : Tf). value (ts ++ rest) ≡ gives z rest) back (null_case l ts rest (subst (λ (z : Tf). AreWords ts (tf_words z)) (sym back) h))
value_form (Tf-F.Literal (literal.Text v) l) x at is ts rest h stops =
    let k : AreWords ts (Quoted v l ∷ []) = subst (λ (w : List Word). AreWords ts w) (ap tf_words (sym at ∙ tf.rolls-Literal (literal.Text v) l) ∙ eq.words-Literal (literal.Text v) l) h in
    let back : tf.Literal (literal.Text v) l ≡ x = sym (tf.rolls-Literal (literal.Text v) l) ∙ at in
    subst (λ (z : Tf). value (ts ++ rest) ≡ gives z rest) back (text_case v l ts rest k)
value_form (Tf-F.Literal (literal.Int v) l) x at is ts rest h stops = sum_case x
    (raised x _ (ap tf_shape (sym at ∙ tf.rolls-Literal (literal.Int v) l) ∙ eq.shape-Literal (literal.Int v) l) (omega arith) is) ts rest h stops
value_form (Tf-F.Path ns l) x at is ts rest h stops = sum_case x
    (raised x _ (ap tf_shape (sym at ∙ tf.rolls-Path ns l) ∙ eq.shape-Path ns l) (omega arith) is) ts rest h stops
value_form (Tf-F.Parens y l) x at is ts rest h stops = sum_case x
    (raised x _ (ap tf_shape (sym at ∙ tf.rolls-Parens y l) ∙ eq.shape-Parens y l) (omega arith) is) ts rest h stops
value_form (Tf-F.Negate y l) x at is ts rest h stops = sum_case x
    (raised x _ (ap tf_shape (sym at ∙ tf.rolls-Negate y l) ∙ eq.shape-Negate y l) (omega arith) is) ts rest h stops
value_form (Tf-F.Binary o y z l) x at is ts rest h stops =
    let back : x ≡ tf.Binary o y z l = sym at ∙ tf.rolls-Binary o y z l in
    sum_case x (raised x _ (ap tf_shape back ∙ eq.shape-Binary o y z l)
    (binary_level o y z l (subst (λ (u : Tf). IsTf u) back is)) is) ts rest h stops

-- an expression that is spelled is read, before what ends it
pub value_reads : (x : Tf) (ts rest : List Token) → AreWords ts (tf_words x) → IsTf x → Stops 1 rest → value (ts ++ rest) ≡ gives x rest
value_reads x ts rest h is stops = value_form (out-Tf x) x (roll-out-Tf x) is ts rest h stops
