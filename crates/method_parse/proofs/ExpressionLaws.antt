-- Each expression that is read is spelled by what was taken, and where the reader is stuck, the tokens
-- before begin some expression.
use Rattle.std.proofs.Common.{◌≡◌, ℕ, zero, suc, ◌+◌, ◌-◌, ◌≤◌, ◌<◌, max, Bool, true, false, List, [], ◌∷◌, ◌++◌, map, Option, Some, None, pos, refl, sym, ap, subst, ◌∙◌, arith}
use Rattle.std.specs.Prelude.{codes, ◌&&◌, nat_lt, nat_le}
use Rattle.std.proofs.lemmas.List.{append-nil}
use Rattle.std.proofs.lemmas.Bool.{ltb-true, le-leb, and_parts, and_from}
use Rattle.std.specs.Str.{bytes_eq}
use Rattle.std.specs.Option.{is_some}
use Rattle.std.proofs.lemmas.Slice.Eq.{bytes_eq-Decides}
use Rattle.std.proofs.Common.{cond, inl, inr, ◌⊎◌}
use Rattle.script_text.specs.declared.token.Token.{Token}
use Rattle.script_text.specs.declared.token.TokenKind.{TokenKind}
use Rattle.script_text.specs.declared.token.TokenKind.TheVariants as kinds
use Rattle.class_defs.specs.declared.expressions.Name.{Name}
use Rattle.class_defs.specs.declared.expressions.At.{At}
use Rattle.class_defs.specs.declared.expressions.Operator.{Operator}
use Rattle.class_defs.specs.declared.expressions.Operator.TheVariants as operators
use Rattle.class_defs.specs.declared.expressions.Expr.{Expr}
use Rattle.class_defs.specs.declared.expressions.Expr.TheVariants as e
use Rattle.class_defs.specs.declared.literals.Literal.TheVariants as literal
use Rattle.class_defs.specs.declared.places.Place.{Place}
use Rattle.class_defs.specs.Words.{Word, Fixed, FixedAt, Numbered, Quoted, name_word, symbol_of, with_commas}
use Rattle.class_defs.specs.Spelling.{at_words, expr_words}
use Rattle.class_defs.specs.Shape.{Shape, shape, all_proper, in_method, level_of, left_level, right_level}
use Rattle.method_parse.specs.declared.deep.Deep.{Deep}
use Rattle.method_parse.specs.declared.deep.Arguments.{Arguments}
use Rattle.method_parse.specs.declared.deep.Level.{Level}
use Rattle.method_parse.specs.declared.deep.Level.TheVariants as levels
use Rattle.method_parse.specs.declared.deep.Room.{Room}
use Rattle.method_parse.specs.declared.deep.Start.{Start}
use Rattle.method_parse.specs.declared.deep.Start.TheVariants as starts
use Rattle.method_parse.specs.Matching.{AreWords, is, is_fixed_kind}
use Rattle.method_parse.specs.Reader.{Reader, ◌>>=◌, repeat}
use Rattle.method_parse.specs.Expressions.{at, with_argument, first_argument, argument, is_comma, more_arguments, some_arguments, listed, arguments, call, leaf, may_call, is_field_call, after_field, after_this, created, parens, fixed_start, start_by, start, primary_by, primary, called, is_call, calls, postfix, Parts, is_minus, unary, operator_of, operator_by, operator_in, with_operator_line, operator, tighter, joined, is_join, joins, at_level, expression_in}
use Rattle.method_parse.proofs.Lawful.{Says, Lawful, Some_text, behind, lawful_bind, lawful_give, lawful_last, lawful_stuck, lawful_as, lawful_if, lawful_repeat, lawful_repeat_all}
use Rattle.method_parse.proofs.Matched.{join, plain, SaysWord, SaysName, lawful_one, lawful_word, lawful_name, lawful_number, lawful_quoted}
use Rattle.method_parse.proofs.Equations as eq
use Rattle.method_parse.proofs.Fits.{tightness, FitsIn, IsRead, looser, ListFits, IsListed, IsBegun, IsApplied, commas-push, filled-push, deepest-push, nested-push, proper-push}

abbrev pub SaysAt : Says (Option At)
SaysAt o ts = AreWords ts (at_words o)

pub lawful_at : Lawful SaysAt at
unfolding at
lawful_at =
    lawful_if (is (codes "at"))
    (λ t p. lawful_bind (lawful_word (codes "at")) (λ line f1 s1.
    lawful_last (λ n. Some (record { line = line; number = n.0; number_line = n.1 })) lawful_number (λ n f2 s2.
    join f1 f2 (FixedAt (codes "at") line ∷ []) (Numbered (pos n.0) n.1 ∷ []) s1 s2)))
    (lawful_give None tt)

-- an argument behind a comma, and the list of all
module _ (place : Place) (brackets room : ℕ) (inner : Reader Deep) (law : Lawful (IsRead place brackets room 0) inner) where
  list_more : (a : Arguments) (d : Deep) → ListFits place brackets room a → FitsIn brackets room 0 d.depth (shape place d.expr) → ListFits place brackets room (with_argument a d)
  list_more a d fits one = record {
    deep = deepest-push (shape place) a.exprs d.expr ∙ ap (λ (n : ℕ). max n (shape place d.expr).depth) fits.deep ∙ ap (λ (n : ℕ). max a.depth n) one.deep;
    within = omega (arith, fits.within, one.within);
    nested = omega (arith, nested-push (shape place) a.exprs d.expr, fits.nested, one.nested);
    proper = proper-push (shape place) a.exprs d.expr fits.proper one.proper;
  }

  lawful_argument : (a : Arguments) (front : List Token) → IsBegun place brackets room a front → Lawful (behind front (IsBegun place brackets room)) (argument inner a)
  unfolding argument
  lawful_argument a front begun =
      lawful_bind (lawful_word (codes ",")) (λ line f1 s1. lawful_last (with_argument a) law (λ d f2 s2. record {
        listed = record {
          spelled = subst (λ (w : List Word). AreWords (front ++ (f1 ++ f2)) w) (sym (commas-push a.exprs d.expr begun.filled))
              (join front (f1 ++ f2) (with_commas (map expr_words a.exprs)) (Fixed (codes ",") ∷ expr_words d.expr) begun.listed.spelled
              (join f1 f2 (Fixed (codes ",") ∷ []) (expr_words d.expr) (plain f1 (codes ",") line s1) s2.spelled));
          fits = list_more a d begun.listed.fits s2.fits;
        };
        filled = filled-push a.exprs d.expr;
      }))

  first_begun : (d : Deep) (f : List Token) → IsRead place brackets room 0 d f → IsBegun place brackets room (first_argument d) f
  first_begun d f s = record {
    listed = record {
      spelled = subst (λ (w : List Word). AreWords f w) (sym (append-nil (expr_words d.expr))) s.spelled;
      fits = record {
        deep = omega (arith, s.fits.deep);
        within = s.fits.within;
        nested = omega (arith, s.fits.nested);
        proper = and_from (shape place d.expr).proper true s.fits.proper refl;
      };
    };
    filled = tt;
  }

  lawful_some : Lawful (IsBegun place brackets room) (some_arguments inner)
  unfolding some_arguments more_arguments
  lawful_some =
      lawful_bind law (λ d f s. lawful_repeat_all (IsBegun place brackets room) is_comma (argument inner)
      (λ a front begun t p. lawful_argument a front begun) (first_argument d) f (first_begun d f s))

  lawful_listed : Lawful (IsListed place brackets room) (listed inner)
  unfolding listed
  lawful_listed =
      lawful_if (is (codes ")"))
      (λ t p. lawful_give (record { exprs = []; depth = 0 }) (record { spelled = tt; fits = record { deep = refl; within = omega arith; nested = omega arith; proper = refl } }))
      (lawful_as (λ a text begun. begun.listed) lawful_some)

  pub lawful_arguments : Lawful (IsApplied place brackets room) (arguments inner)
  unfolding arguments
  lawful_arguments =
      lawful_bind (lawful_word (codes "(")) (λ l f1 s1. lawful_bind lawful_listed (λ a f2 s2.
      lawful_last (λ c. a) (lawful_word (codes ")")) (λ c f3 s3. record {
        spelled = join f1 (f2 ++ f3) (Fixed (codes "(") ∷ []) (with_commas (map expr_words a.exprs) ++ Fixed (codes ")") ∷ []) (plain f1 (codes "(") l s1)
            (join f2 f3 (with_commas (map expr_words a.exprs)) (Fixed (codes ")") ∷ []) s2.spelled (plain f3 (codes ")") c s3));
        fits = s2.fits;
      })))

pub picked : {X : Type 0} (P : X → Type 0) (b : Bool) (x y : X) → (b ≡ true → P x) → P y → P (cond b x y)
picked P true x y one other = one refl
picked P false x y one other = other

which : {X : Type 0} (b : Bool) (x y z : X) → cond b x y ≡ z → ((b ≡ true) × (x ≡ z)) ⊎ ((b ≡ false) × (y ≡ z))
which true x y z h = inl (refl, h)
which false x y z h = inr (refl, h)

-- ---- operators

-- the least level of what stands to the left of an operator of a level
abbrev pub left_tight : Level → ℕ
left_tight levels.Comparison = 1
left_tight levels.Sum = 1
left_tight levels.Term = 2
left_tight levels.Unary = 0

-- an operator of a level
pub record OfLevel (level : Level) (o : Operator) : Type 0 where
  pub at : level_of o ≡ tightness level
  pub left : left_level o ≡ left_tight level

pub record SaysOperator (level : Level) (o : Operator × ℕ) (ts : List Token) : Type 0 where
  pub spelled : AreWords ts (FixedAt (symbol_of o.0) o.1 ∷ [])
  pub of : OfLevel level o.0

record IsSymbol (level : Level) (text : List ℕ) (o : Operator) : Type 0 where
  same : text ≡ symbol_of o
  of : OfLevel level o

same_text : (text known : List ℕ) → bytes_eq text known ≡ true → text ≡ known
same_text text known e = (bytes_eq-Decides text known).0 e

when_is : (level : Level) (text known : List ℕ) (o p : Operator) → IsSymbol level known o → bytes_eq text known ≡ true → Some o ≡ Some p → IsSymbol level text p
when_is level text known o p known_is e h =
    let same : o ≡ p = cc in
    subst (λ (q : Operator). IsSymbol level text q) same (record { same = same_text text known e ∙ known_is.same; of = known_is.of })

abbrev no_operator : Option Operator
no_operator = None

symbol_is : (level : Level) (text : List ℕ) (o : Operator) → operator_of level text ≡ Some o → IsSymbol level text o
symbol_is levels.Unary text o h = absurd cc
symbol_is levels.Term text o h =
    elim (which (bytes_eq text (codes "*")) (Some operators.Multiply) no_operator (Some o) h) [
      | inl w ↦ when_is levels.Term text (codes "*") operators.Multiply o (record { same = refl; of = record { at = refl; left = refl } }) w.0 w.1
      | inr w ↦ absurd cc
    ]
symbol_is levels.Sum text o h =
    elim (which (bytes_eq text (codes "+")) (Some operators.Add) (cond (bytes_eq text (codes "-")) (Some operators.Subtract) no_operator) (Some o) h) [
      | inl w ↦ when_is levels.Sum text (codes "+") operators.Add o (record { same = refl; of = record { at = refl; left = refl } }) w.0 w.1
      | inr v ↦ elim (which (bytes_eq text (codes "-")) (Some operators.Subtract) no_operator (Some o) v.1) [
        | inl w ↦ when_is levels.Sum text (codes "-") operators.Subtract o (record { same = refl; of = record { at = refl; left = refl } }) w.0 w.1
        | inr w ↦ absurd cc
      ]
    ]
symbol_is levels.Comparison text o h =
    elim (which (bytes_eq text (codes "==")) (Some operators.Equal) (cond (bytes_eq text (codes "!=")) (Some operators.Unequal) (cond (bytes_eq text (codes "<")) (Some operators.Less) no_operator)) (Some o) h) [
      | inl w ↦ when_is levels.Comparison text (codes "==") operators.Equal o (record { same = refl; of = record { at = refl; left = refl } }) w.0 w.1
      | inr v ↦ elim (which (bytes_eq text (codes "!=")) (Some operators.Unequal) (cond (bytes_eq text (codes "<")) (Some operators.Less) no_operator) (Some o) v.1) [
        | inl w ↦ when_is levels.Comparison text (codes "!=") operators.Unequal o (record { same = refl; of = record { at = refl; left = refl } }) w.0 w.1
        | inr u ↦ elim (which (bytes_eq text (codes "<")) (Some operators.Less) no_operator (Some o) u.1) [
          | inl w ↦ when_is levels.Comparison text (codes "<") operators.Less o (record { same = refl; of = record { at = refl; left = refl } }) w.0 w.1
          | inr w ↦ absurd cc
        ]
      ]
    ]

operator_kind : (level : Level) (k : TokenKind) (text : List ℕ) (o : Operator) → operator_by level k text ≡ Some o → (is_fixed_kind k ≡ true) × (operator_of level text ≡ Some o)
operator_kind level kinds.Name text o h = absurd cc
operator_kind level kinds.Number text o h = absurd cc
operator_kind level kinds.Quoted text o h = absurd cc
operator_kind level kinds.Keyword text o h = (refl, h)
operator_kind level kinds.Symbol text o h = (refl, h)

operator_said : (level : Level) (t : Token) (found : Option Operator) (x : Operator × ℕ) → operator_in level t ≡ found → with_operator_line found t.line ≡ Some x → SaysOperator level x (t ∷ [])
operator_said level t (Some o) x e h =
    let k = operator_kind level t.kind t.text o e in
    let is = symbol_is level t.text o k.1 in
    let same : (o, t.line) ≡ x = cc in
    subst (λ (y : Operator × ℕ). SaysOperator level y (t ∷ [])) same (record { spelled = ((k.0, is.same, refl), tt); of = is.of })
operator_said level t None x e h = absurd cc

pub lawful_operator : (level : Level) → Some_text (SaysOperator level) → Lawful (SaysOperator level) (operator level)
unfolding operator
lawful_operator level some = lawful_one (SaysOperator level) (λ t. with_operator_line (operator_in level t) t.line) (λ t x e. operator_said level t (operator_in level t) x refl e) some

-- a level that has operators
pub record HasOperators (level : Level) : Type 0 where
  pub some : Some_text (SaysOperator level)
  pub next : tightness (tighter level) ≡ tightness level + 1

sign : (o : Operator) → List Token
sign o = record { kind = kinds.Symbol; text = symbol_of o; line = 1; from = 0; to = 0 } ∷ []

pub terms : HasOperators levels.Term
unfolding sign
terms = record { some = record { value = (operators.Multiply, 1); text = sign operators.Multiply; said = record { spelled = ((refl, refl, refl), tt); of = record { at = refl; left = refl } } }; next = refl }

pub sums : HasOperators levels.Sum
unfolding sign
sums = record { some = record { value = (operators.Add, 1); text = sign operators.Add; said = record { spelled = ((refl, refl, refl), tt); of = record { at = refl; left = refl } } }; next = refl }

comparisons : HasOperators levels.Comparison
unfolding sign
comparisons = record { some = record { value = (operators.Less, 1); text = sign operators.Less; said = record { spelled = ((refl, refl, refl), tt); of = record { at = refl; left = refl } } }; next = refl }

-- ---- expressions in a room

module _ (place : Place) (room : Room) (below : ℕ) (deeper : room.depth ≡ below + 1) (inner : Reader Deep) (parts : Parts)
    (inner_law : 0 < room.brackets → 0 < below → Lawful (IsRead place (room.brackets - 1) below 0) inner)
    (parts_law : 0 < below → (level : Level) → Lawful (IsRead place room.brackets below (tightness level)) (parts level)) where
  -- an expression of this room, at a level
  abbrev Here : ℕ → Says Deep
  Here level = IsRead place room.brackets room.depth level

  -- a leaf
  leaf_read : (x : Expr) (nesting : ℕ) (b : Bool) (ts : List Token) (ws : List Word) → expr_words x ≡ ws → shape place x ≡ record { level = 5; depth = 1; nesting = nesting; proper = b }
      → nesting ≤ room.brackets → b ≡ true → AreWords ts ws → Here 4 (leaf x) ts
  leaf_read x nesting b ts ws words shaped le proper spelled = record {
    spelled = subst (λ (w : List Word). AreWords ts w) (sym words) spelled;
    fits = subst (λ (s : Shape). FitsIn room.brackets room.depth 4 1 s) (sym shaped)
        (record { deep = refl; positive = omega arith; within = omega arith; nested = le; tight = omega arith; proper = proper });
  }

  -- a call of a receiver with arguments
  call_read : (r : Deep) (m : Name) (a : Arguments) (front f1 f2 f3 : List Token) → Here 4 r front → r.depth < room.depth → 0 < room.brackets
      → AreWords f1 (Fixed (codes ".") ∷ []) → SaysName m f2 → IsApplied place (room.brackets - 1) below a f3 → Here 4 (call r m a) (front ++ (f1 ++ (f2 ++ f3)))
  call_read r m a front f1 f2 f3 receiver lt some s1 s2 s3 = record {
    spelled = subst (λ (w : List Word). AreWords (front ++ (f1 ++ (f2 ++ f3))) w) (sym (eq.words-Call r.expr m a.exprs))
        (join front (f1 ++ (f2 ++ f3)) (expr_words r.expr) (Fixed (codes ".") ∷ name_word m ∷ Fixed (codes "(") ∷ (with_commas (map expr_words a.exprs) ++ Fixed (codes ")") ∷ [])) receiver.spelled
        (join f1 (f2 ++ f3) (Fixed (codes ".") ∷ []) (name_word m ∷ Fixed (codes "(") ∷ (with_commas (map expr_words a.exprs) ++ Fixed (codes ")") ∷ [])) s1
        (join f2 f3 (name_word m ∷ []) (Fixed (codes "(") ∷ (with_commas (map expr_words a.exprs) ++ Fixed (codes ")") ∷ [])) s2 s3.spelled)));
    fits = subst (λ (s : Shape). FitsIn room.brackets room.depth 4 (max r.depth a.depth + 1) s) (sym (eq.shape-Call place r.expr m a.exprs)) (record {
      deep = rw (receiver.fits.deep, s3.fits.deep) refl;
      positive = omega arith;
      within = omega (arith, s3.fits.within);
      nested = omega (arith, receiver.fits.nested, s3.fits.nested);
      tight = omega arith;
      proper = and_from ((shape place r.expr).proper && nat_le 4 (shape place r.expr).level) (all_proper (map (shape place) a.exprs))
          (and_from (shape place r.expr).proper (nat_le 4 (shape place r.expr).level) receiver.fits.proper (le-leb 4 (shape place r.expr).level receiver.fits.tight)) s3.fits.proper;
    });
  }

  arguments_law : 0 < room.brackets → 0 < below → Lawful (IsApplied place (room.brackets - 1) below) (arguments inner)
  arguments_law some deep = lawful_arguments place (room.brackets - 1) below inner (inner_law some deep)

  lawful_called : (r : Deep) (front : List Token) → Here 4 r front → r.depth < room.depth → 0 < room.brackets → Lawful (behind front (Here 4)) (called inner r)
  unfolding called
  lawful_called r front receiver lt some =
      lawful_bind (lawful_word (codes ".")) (λ l f1 s1. lawful_bind lawful_name (λ m f2 s2.
      lawful_last (call r m) (arguments_law some (omega (arith, receiver.fits.positive))) (λ a f3 s3.
      call_read r m a front f1 f2 f3 receiver lt some (plain f1 (codes ".") l s1) s2 s3)))

  lawful_calls : (r : Deep) (front : List Token) → Here 4 r front → Lawful (behind front (Here 4)) (calls room inner r)
  unfolding calls
  lawful_calls r front receiver =
      lawful_repeat (Here 4) (is_call room) (called inner) (λ x f s t p.
      let two = and_parts (is (codes ".") t) (nat_lt 0 room.brackets && nat_lt x.depth room.depth) p in
      let may = and_parts (nat_lt 0 room.brackets) (nat_lt x.depth room.depth) two.1 in
      lawful_called x f s (ltb-true x.depth room.depth may.1) (ltb-true 0 room.brackets may.0))
      room.depth r front receiver

  may_be : (t : Token) → is_field_call room t ≡ true → (0 < room.brackets) × (0 < below)
  may_be t p =
      let two = and_parts (is (codes "(") t) (nat_lt 0 room.brackets && nat_lt 1 room.depth) p in
      let may = and_parts (nat_lt 0 room.brackets) (nat_lt 1 room.depth) two.1 in
      let deep : 1 < room.depth = ltb-true 1 room.depth may.1 in
      (ltb-true 0 room.brackets may.0, omega arith)

  this_read : in_method place ≡ true → (line : ℕ) (f : List Token) → SaysWord (codes "this") line f → Here 4 (leaf (e.This line)) f
  this_read here line f s = leaf_read (e.This line) 0 (in_method place) f (FixedAt (codes "this") line ∷ []) (eq.words-This line) (eq.shape-This place line) (omega arith) here s

  lawful_after_field : in_method place ≡ true → (line : ℕ) (field : Name) (f1 f2 f3 : List Token) → SaysWord (codes "this") line f1 → AreWords f2 (Fixed (codes ".") ∷ []) → SaysName field f3
      → Lawful (behind f3 (behind f2 (behind f1 (Here 4)))) (after_field room inner line field)
  unfolding after_field
  lawful_after_field here line field f1 f2 f3 s1 s2 s3 =
      lawful_if (is_field_call room)
      (λ t p. let may = may_be t p in
      lawful_last (call (leaf (e.This line)) field) (arguments_law may.0 may.1) (λ a f4 s4.
      call_read (leaf (e.This line)) field a f1 f2 f3 f4 (this_read here line f1 s1) (omega arith) may.0 s2 s3 s4))
      (lawful_give (leaf (e.Field field))
      (leaf_read (e.Field field) 0 (in_method place) (f1 ++ (f2 ++ (f3 ++ []))) (Fixed (codes "this") ∷ Fixed (codes ".") ∷ name_word field ∷ []) (eq.words-Field field) (eq.shape-Field place field) (omega arith) here
      (join f1 (f2 ++ (f3 ++ [])) (Fixed (codes "this") ∷ []) (Fixed (codes ".") ∷ name_word field ∷ []) (plain f1 (codes "this") line s1)
      (join f2 (f3 ++ []) (Fixed (codes ".") ∷ []) (name_word field ∷ []) s2 (join f3 [] (name_word field ∷ []) [] s3 tt)))))

  lawful_after_this : in_method place ≡ true → (line : ℕ) (f1 : List Token) → SaysWord (codes "this") line f1 → Lawful (behind f1 (Here 4)) (after_this room inner line)
  unfolding after_this
  lawful_after_this here line f1 s1 =
      lawful_if (is (codes "."))
      (λ t p. lawful_bind (lawful_word (codes ".")) (λ l f2 s2. lawful_bind lawful_name (λ n f3 s3.
      lawful_after_field here line n f1 f2 f3 s1 (plain f2 (codes ".") l s2) s3)))
      (lawful_give (leaf (e.This line)) (subst (λ (f : List Token). Here 4 (leaf (e.This line)) f) (sym (append-nil f1)) (this_read here line f1 s1)))

  lawful_created : 0 < room.brackets → Lawful (Here 4) created
  unfolding created
  lawful_created some =
      lawful_bind (lawful_word (codes "new")) (λ l f1 s1. lawful_bind lawful_name (λ n f2 s2. lawful_bind (lawful_word (codes "(")) (λ o f3 s3.
      lawful_bind (lawful_word (codes ")")) (λ c f4 s4. lawful_last (λ a. leaf (e.New n a)) lawful_at (λ a f5 s5.
      leaf_read (e.New n a) 1 true (f1 ++ (f2 ++ (f3 ++ (f4 ++ f5)))) (Fixed (codes "new") ∷ name_word n ∷ Fixed (codes "(") ∷ Fixed (codes ")") ∷ at_words a) (eq.words-New n a) (eq.shape-New place n a) (omega arith) refl
      (join f1 (f2 ++ (f3 ++ (f4 ++ f5))) (Fixed (codes "new") ∷ []) (name_word n ∷ Fixed (codes "(") ∷ Fixed (codes ")") ∷ at_words a) (plain f1 (codes "new") l s1)
      (join f2 (f3 ++ (f4 ++ f5)) (name_word n ∷ []) (Fixed (codes "(") ∷ Fixed (codes ")") ∷ at_words a) s2
      (join f3 (f4 ++ f5) (Fixed (codes "(") ∷ []) (Fixed (codes ")") ∷ at_words a) (plain f3 (codes "(") o s3)
      (join f4 f5 (Fixed (codes ")") ∷ []) (at_words a) (plain f4 (codes ")") c s4) s5)))))))))

  abbrev in_parens : Deep → ℕ → Deep
  in_parens d line = record { expr = e.Parens d.expr line; depth = d.depth + 1 }

  lawful_parens : 0 < room.brackets → 0 < below → Lawful (Here 4) (parens inner)
  unfolding parens
  lawful_parens some deep =
      lawful_bind (lawful_word (codes "(")) (λ l f1 s1. lawful_bind (inner_law some deep) (λ d f2 s2. lawful_last (λ c. in_parens d l) (lawful_word (codes ")")) (λ c f3 s3. record {
        spelled = subst (λ (w : List Word). AreWords (f1 ++ (f2 ++ f3)) w) (sym (eq.words-Parens d.expr l))
            (join f1 (f2 ++ f3) (FixedAt (codes "(") l ∷ []) (expr_words d.expr ++ Fixed (codes ")") ∷ []) s1
            (join f2 f3 (expr_words d.expr) (Fixed (codes ")") ∷ []) s2.spelled (plain f3 (codes ")") c s3)));
        fits = subst (λ (s : Shape). FitsIn room.brackets room.depth 4 (d.depth + 1) s) (sym (eq.shape-Parens place d.expr l)) (record {
          deep = ap (λ (n : ℕ). n + 1) s2.fits.deep;
          positive = omega arith;
          within = omega (arith, s2.fits.within);
          nested = omega (arith, s2.fits.nested);
          tight = omega arith;
          proper = s2.fits.proper;
        });
      })))

  -- what a beginning asks of the place and the room
  abbrev Allows : Start → Type 0
  Allows starts.Number = Unit {0}
  Allows starts.Quoted = Unit {0}
  Allows starts.Name = Unit {0}
  Allows starts.Null = Unit {0}
  Allows starts.This = in_method place ≡ true
  Allows starts.New = 0 < room.brackets
  Allows starts.Parens = (0 < room.brackets) × (0 < below)
  Allows starts.Other = Unit {0}

  fixed_allows : (text : List ℕ) → Allows (fixed_start place room text)
  fixed_allows text =
      picked Allows (bytes_eq text (codes "null")) starts.Null _ (λ p. tt)
      (picked Allows (bytes_eq text (codes "this") && in_method place) starts.This _ (λ p. (and_parts (bytes_eq text (codes "this")) (in_method place) p).1)
      (picked Allows (bytes_eq text (codes "new") && nat_lt 0 room.brackets) starts.New _ (λ p. ltb-true 0 room.brackets (and_parts (bytes_eq text (codes "new")) (nat_lt 0 room.brackets) p).1)
      (picked Allows (bytes_eq text (codes "(") && may_call room) starts.Parens starts.Other (λ p.
      let may = and_parts (nat_lt 0 room.brackets) (nat_lt 1 room.depth) (and_parts (bytes_eq text (codes "(")) (may_call room) p).1 in
      let deep : 1 < room.depth = ltb-true 1 room.depth may.1 in
      (ltb-true 0 room.brackets may.0, omega arith)) tt)))

  kind_allows : (k : TokenKind) (text : List ℕ) → Allows (start_by place room k text)
  kind_allows kinds.Name text = tt
  kind_allows kinds.Number text = tt
  kind_allows kinds.Quoted text = tt
  kind_allows kinds.Keyword text = fixed_allows text
  kind_allows kinds.Symbol text = fixed_allows text

  start_allows : (ts : List Token) → Allows (start place room ts)
  unfolding start
  start_allows [] = tt
  start_allows (t ∷ ts) = kind_allows t.kind t.text

  null_law : Lawful (Here 4) (primary_by room inner starts.Null)
  unfolding primary_by
  null_law = lawful_last (λ l. leaf (e.Null l)) (lawful_word (codes "null")) (λ l f s.
      leaf_read (e.Null l) 0 true f (FixedAt (codes "null") l ∷ []) (eq.words-Null l) (eq.shape-Null place l) (omega arith) refl s)

  by_start : (s : Start) → Allows s → Lawful (Here 4) (primary_by room inner s)
  unfolding primary_by
  by_start starts.Number a = lawful_last (λ n. leaf (e.Literal (literal.Int (pos n.0)) n.1)) lawful_number (λ n f s.
      leaf_read (e.Literal (literal.Int (pos n.0)) n.1) 0 true f (Numbered (pos n.0) n.1 ∷ []) (eq.words-Literal (literal.Int (pos n.0)) n.1) (eq.shape-Literal place (literal.Int (pos n.0)) n.1) (omega arith) refl s)
  by_start starts.Quoted a = lawful_last (λ t. leaf (e.Literal (literal.Text t.0) t.1)) lawful_quoted (λ t f s.
      leaf_read (e.Literal (literal.Text t.0) t.1) 0 true f (Quoted t.0 t.1 ∷ []) (eq.words-Literal (literal.Text t.0) t.1) (eq.shape-Literal place (literal.Text t.0) t.1) (omega arith) refl s)
  by_start starts.Name a = lawful_last (λ n. leaf (e.Variable n)) lawful_name (λ n f s.
      leaf_read (e.Variable n) 0 true f (name_word n ∷ []) (eq.words-Variable n) (eq.shape-Variable place n) (omega arith) refl s)
  by_start starts.Null a = null_law
  by_start starts.This a = lawful_bind (lawful_word (codes "this")) (λ l f s. lawful_after_this a l f s)
  by_start starts.New a = lawful_created a
  by_start starts.Parens a = lawful_parens a.0 a.1
  by_start starts.Other a = lawful_stuck null_law.some

  lawful_primary : Lawful (Here 4) (primary place room inner)
  unfolding primary
  lawful_primary = record {
    reads = λ ts. (by_start (start place room ts) (start_allows ts)).reads ts;
    some = null_law.some;
  }

  lawful_postfix : Lawful (Here 4) (postfix place room inner)
  unfolding postfix
  lawful_postfix = lawful_bind lawful_primary (λ r f s. lawful_calls r f s)

  lawful_unary : Lawful (Here 3) (unary place room inner parts)
  unfolding unary
  lawful_unary =
      lawful_if (is_minus room)
      (λ t p.
      let two = and_parts (is (codes "-") t) (nat_lt 1 room.depth) p in
      let deep : 1 < room.depth = ltb-true 1 room.depth two.1 in
      let more : 0 < below = omega arith in
      lawful_bind (lawful_word (codes "-")) (λ l f1 s1. lawful_last (λ d. record { expr = e.Negate d.expr l; depth = d.depth + 1 }) (parts_law more levels.Unary) (λ d f2 s2. record {
        spelled = subst (λ (w : List Word). AreWords (f1 ++ f2) w) (sym (eq.words-Negate d.expr l))
            (join f1 f2 (FixedAt (codes "-") l ∷ []) (expr_words d.expr) s1 s2.spelled);
        fits = subst (λ (s : Shape). FitsIn room.brackets room.depth 3 (d.depth + 1) s) (sym (eq.shape-Negate place d.expr l)) (record {
          deep = ap (λ (n : ℕ). n + 1) s2.fits.deep;
          positive = omega arith;
          within = omega (arith, s2.fits.within);
          nested = s2.fits.nested;
          tight = omega arith;
          proper = and_from (shape place d.expr).proper (nat_le 3 (shape place d.expr).level) s2.fits.proper (le-leb 3 (shape place d.expr).level s2.fits.tight);
        });
      })))
      (lawful_as (λ d ts s. looser place room.brackets room.depth 4 3 d ts (omega arith) s) lawful_postfix)

  -- one more operator and operand
  lawful_joined : (level : Level) → HasOperators level → (l : Deep) (front : List Token) → Here (left_tight level) l front → l.depth < room.depth
      → Lawful (behind front (Here (tightness level))) (joined level parts l)
  unfolding joined
  lawful_joined level has l front left lt =
      let more : 0 < below = omega (arith, left.fits.positive) in
      lawful_bind (lawful_operator level has.some) (λ o f1 s1. lawful_last (λ r. record { expr = e.Binary o.0 l.expr r.expr o.1; depth = max l.depth r.depth + 1 }) (parts_law more (tighter level)) (λ r f2 s2. record {
        spelled = subst (λ (w : List Word). AreWords (front ++ (f1 ++ f2)) w) (sym (eq.words-Binary o.0 l.expr r.expr o.1))
            (join front (f1 ++ f2) (expr_words l.expr) (FixedAt (symbol_of o.0) o.1 ∷ expr_words r.expr) left.spelled
            (join f1 f2 (FixedAt (symbol_of o.0) o.1 ∷ []) (expr_words r.expr) s1.spelled s2.spelled));
        fits = subst (λ (s : Shape). FitsIn room.brackets room.depth (tightness level) (max l.depth r.depth + 1) s) (sym (eq.shape-Binary place o.0 l.expr r.expr o.1)) (record {
          deep = rw (left.fits.deep, s2.fits.deep) refl;
          positive = omega arith;
          within = omega (arith, s2.fits.within);
          nested = omega (arith, left.fits.nested, s2.fits.nested);
          tight = omega (arith, s1.of.at);
          proper = and_from ((shape place l.expr).proper && nat_le (left_level o.0) (shape place l.expr).level) ((shape place r.expr).proper && nat_le (right_level o.0) (shape place r.expr).level)
              (and_from (shape place l.expr).proper (nat_le (left_level o.0) (shape place l.expr).level) left.fits.proper (le-leb (left_level o.0) (shape place l.expr).level (omega (arith, s1.of.left, left.fits.tight))))
              (and_from (shape place r.expr).proper (nat_le (right_level o.0) (shape place r.expr).level) s2.fits.proper (le-leb (right_level o.0) (shape place r.expr).level (omega (arith, s1.of.at, has.next, s2.fits.tight))));
        });
      }))

  join_deep : (level : Level) (x : Deep) (t : Token) → is_join level room x t ≡ true → x.depth < room.depth
  join_deep level x t p = ltb-true x.depth room.depth (and_parts (is_some (operator_in level t)) (nat_lt x.depth room.depth) p).1

  lawful_terms : (l : Deep) (front : List Token) → Here 2 l front → Lawful (behind front (Here 2)) (joins levels.Term room parts l)
  unfolding joins
  lawful_terms l front left = lawful_repeat (Here 2) (is_join levels.Term room) (joined levels.Term parts)
      (λ x f s t p. lawful_joined levels.Term terms x f s (join_deep levels.Term x t p)) room.depth l front left

  lawful_sums : (l : Deep) (front : List Token) → Here 1 l front → Lawful (behind front (Here 1)) (joins levels.Sum room parts l)
  unfolding joins
  lawful_sums l front left = lawful_repeat (Here 1) (is_join levels.Sum room) (joined levels.Sum parts)
      (λ x f s t p. lawful_joined levels.Sum sums x f s (join_deep levels.Sum x t p)) room.depth l front left

  -- one comparison at most
  lawful_comparison : (l : Deep) (front : List Token) → Here 1 l front → Lawful (behind front (Here 0)) (joins levels.Comparison room parts l)
  unfolding joins repeat
  lawful_comparison l front left =
      lawful_if (is_join levels.Comparison room l)
      (λ t p. lawful_bind (lawful_joined levels.Comparison comparisons l front left (join_deep levels.Comparison l t p)) (λ y f s.
      lawful_give y (subst (λ (u : List Token). Here 0 y (front ++ u)) (sym (append-nil f)) s)))
      (lawful_give l (subst (λ (u : List Token). Here 0 l u) (sym (append-nil front)) (looser place room.brackets room.depth 1 0 l front (omega arith) left)))

  term_law : Lawful (Here 2) (unary place room inner parts >>= joins levels.Term room parts)
  term_law = lawful_bind lawful_unary (λ l f s. lawful_terms l f (looser place room.brackets room.depth 3 2 l f (omega arith) s))

  sum_law : Lawful (Here 1) ((unary place room inner parts >>= joins levels.Term room parts) >>= joins levels.Sum room parts)
  sum_law = lawful_bind term_law (λ l f s. lawful_sums l f (looser place room.brackets room.depth 2 1 l f (omega arith) s))

  pub lawful_at_level : (level : Level) → Lawful (Here (tightness level)) (at_level place room inner parts level)
  unfolding at_level
  lawful_at_level levels.Unary = lawful_unary
  lawful_at_level levels.Term = term_law
  lawful_at_level levels.Sum = sum_law
  lawful_at_level levels.Comparison = lawful_bind sum_law (λ l f s. lawful_comparison l f s)

-- an expression of a level, in a room
pub lawful_expression : (place : Place) (brackets depth : ℕ) (level : Level) → 0 < depth → Lawful (IsRead place brackets depth (tightness level)) (expression_in place brackets depth level)
unfolding expression_in
lawful_expression place brackets zero level lt = absurd (omega arith)
lawful_expression place brackets (suc depth) level lt =
    lawful_at_level place (record { brackets = brackets; depth = suc depth }) depth (omega arith)
    (expression_in place (brackets - 1) depth levels.Comparison) (expression_in place brackets depth)
    (λ some deep. lawful_expression place (brackets - 1) depth levels.Comparison deep)
    (λ deep l. lawful_expression place brackets depth l deep) level
