-- Expressions that are spelled are read.
use Rattle.std.proofs.Common.{◌≡◌, ℕ, ℤ, zero, suc, ◌+◌, ◌-◌, ◌≤◌, ◌<◌, max, Bool, true, false, List, [], ◌∷◌, ◌++◌, map, Option, Some, None, Result, Ok, pos, refl, sym, ap, subst, ◌∙◌, append_assoc, arith}
use Rattle.std.specs.Prelude.{codes, ◌&&◌, nat_lt, nat_le, option_map}
use Rattle.std.proofs.lemmas.Bool.{leb-true, lt-ltb, and_from, and_parts}
use Rattle.script_text.specs.declared.token.Token.{Token}
use Rattle.script_text.specs.declared.token.TokenKind.{TokenKind}
use Rattle.script_text.specs.declared.token.TokenKind.TheVariants as kinds
use Rattle.class_defs.specs.declared.expressions.Name.{Name}
use Rattle.class_defs.specs.declared.expressions.At.{At}
use Rattle.class_defs.specs.declared.expressions.Operator.{Operator}
use Rattle.class_defs.specs.declared.expressions.Operator.TheVariants as operators
use Rattle.class_defs.specs.declared.expressions.Expr.{Expr, out-Expr, roll-Expr, roll-out-Expr}
use Rattle.class_defs.specs.declared.expressions.Expr.TheOpen.{Expr-F}
use Rattle.class_defs.specs.declared.expressions.Expr.TheVariants as e
use Rattle.class_defs.specs.declared.literals.Literal.TheVariants as literal
use Rattle.class_defs.specs.declared.literals.Literal.{Literal}
use Rattle.class_defs.specs.declared.places.Place.{Place}
use Rattle.class_defs.specs.Words.{Word, Fixed, FixedAt, Numbered, Quoted, name_word, with_commas}
use Rattle.class_defs.specs.Spelling.{expr_words, at_words}
use Rattle.class_defs.specs.Shape.{Shape, shape, deepest, most_nested, all_proper, in_method, level_of}
use Rattle.script_text.specs.Marks.{number_by, number_in, text_by}
use Rattle.method_parse.specs.declared.deep.Deep.{Deep}
use Rattle.method_parse.specs.declared.deep.Level.{Level}
use Rattle.method_parse.specs.declared.deep.Room.{Room}
use Rattle.method_parse.specs.declared.deep.Start.{Start}
use Rattle.method_parse.specs.declared.deep.Start.TheVariants as starts
use Rattle.method_parse.specs.Matching.{IsWord, AreWords, is, is_fixed_kind, is_name_kind}
use Rattle.method_parse.proofs.NameTokens.{name_kind}
use Rattle.method_parse.specs.Reader.{Reader, ◌>>=◌, onward, give, word, name, number, next, repeat}
use Rattle.method_parse.specs.Expressions.{at, arguments, call, leaf, may_call, is_field_call, after_field, after_this, created, parens, fixed_start, start_by, start, primary_by, primary, called, is_call, calls, postfix, Parts}
use Rattle.method_parse.proofs.Repeats.{no_turn}
use Rattle.method_parse.proofs.Fits.{tightness}
use Rattle.method_parse.proofs.Equations as eq
use Rattle.method_parse.proofs.Eats.{fixed_is, first, split, nothing, word_then, line_then, name_then, number_then, quoted_then, part_then, stops_before, stop_close}
use Rattle.method_parse.proofs.Heads.{positive}
use Rattle.method_parse.proofs.ListOnly.{deep, Suits, ReadsAll, SuitAll, bind_assoc, head_passes, head_fails, turn, arguments_then}

-- the optional place
pub at_reads : (o : Option At) (ts rest : List Token) → AreWords ts (at_words o) → next (is (codes "at")) rest ≡ false → at (ts ++ rest) ≡ Ok (o, rest)
unfolding at
at_reads None ts rest h none = rw (nothing ts h, none) refl
at_reads (Some a) [] rest h none = absurd h
at_reads (Some a) (t ∷ ts) rest h none =
    rw (fixed_is (codes "at") t h.0.0 h.0.1)
    (line_then rest (Ok (Some a, rest)) (codes "at") a.line (Numbered (pos a.number) a.number_line ∷ []) (t ∷ ts) (λ line. number >>= λ n. give (Some (record { line = line; number = n.0; number_line = n.1 }))) h
    (λ us k. number_then rest (Ok (Some a, rest)) a.number a.number_line [] us (λ n. give (Some (record { line = a.line; number = n.0; number_line = n.1 }))) k
    (λ vs m. rw (nothing vs m) refl)))

-- a reader of a keyword or symbol, for a token that is one
fixed_starts : (place : Place) (room : Room) (k : TokenKind) (text known : List ℕ) → is_fixed_kind k ≡ true → text ≡ known → start_by place room k text ≡ fixed_start place room known
fixed_starts place room kinds.Name text known f same = absurd cc
fixed_starts place room kinds.Number text known f same = absurd cc
fixed_starts place room kinds.Quoted text known f same = absurd cc
fixed_starts place room kinds.Keyword text known f same = ap (fixed_start place room) same
fixed_starts place room kinds.Symbol text known f same = ap (fixed_start place room) same

name_starts : (place : Place) (room : Room) (k : TokenKind) (text : List ℕ) → is_name_kind k ≡ true → start_by place room k text ≡ starts.Name
name_starts place room kinds.Name text f = refl
name_starts place room kinds.Number text f = absurd cc
name_starts place room kinds.Quoted text f = absurd cc
name_starts place room kinds.Keyword text f = absurd cc
name_starts place room kinds.Symbol text f = absurd cc

number_starts : (place : Place) (room : Room) (k : TokenKind) (text : List ℕ) (v : ℤ) → option_map pos (number_by k text) ≡ Some v → start_by place room k text ≡ starts.Number
number_starts place room kinds.Name text v f = absurd cc
number_starts place room kinds.Number text v f = refl
number_starts place room kinds.Keyword text v f = absurd cc
number_starts place room kinds.Symbol text v f = absurd cc
number_starts place room kinds.Quoted text v f = absurd cc

quoted_starts : (place : Place) (room : Room) (k : TokenKind) (text w : List ℕ) → text_by k text ≡ Some w → start_by place room k text ≡ starts.Quoted
quoted_starts place room kinds.Name text w f = absurd cc
quoted_starts place room kinds.Number text w f = absurd cc
quoted_starts place room kinds.Keyword text w f = absurd cc
quoted_starts place room kinds.Symbol text w f = absurd cc
quoted_starts place room kinds.Quoted text w f = refl

starts_at : (place : Place) (room : Room) (ts rest : List Token) (w : Word) (ws : List Word) (s : Start) → AreWords ts (w ∷ ws) → ((t : Token) → IsWord t w → start_by place room t.kind t.text ≡ s) → start place room (ts ++ rest) ≡ s
unfolding start
starts_at place room [] rest w ws s h one = absurd h
starts_at place room (t ∷ ts) rest w ws s h one = one t h.0

-- what may come behind an expression on which calls follow
pub record Calm (rest : List Token) : Type 0 where
  pub open_next : next (is (codes "(")) rest ≡ false
  pub place : next (is (codes "at")) rest ≡ false

abbrev NoDot : Expr-F Expr → List Token → Type 0
NoDot (Expr-F.This l) rest = next (is (codes ".")) rest ≡ false
NoDot _ rest = Unit {0}

pub deep_is : (place : Place) (x : Expr) (d : ℕ) → (shape place x).depth ≡ d → record { expr = x; depth = d } ≡ deep place x
deep_is place x d same = ap (λ (n : ℕ). record { expr = x; depth = n }) (sym same)

abbrev pub got : Deep → List Token → Result (Deep × List Token) ℕ
got d rest = Ok (d, rest)

pub read_is : (place : Place) (x : Expr) (d : ℕ) (rest : List Token) → (shape place x).depth ≡ d → got (record { expr = x; depth = d }) rest ≡ got (deep place x) rest
read_is place x d rest same = ap (λ (y : Deep). got y rest) (deep_is place x d same)

pub depth_is : {s t : Shape} → s ≡ t → s.depth ≡ t.depth
depth_is h = ap (λ (x : Shape). x.depth) h

module _ (place : Place) (room : Room) (below : ℕ) (deeper : room.depth ≡ below + 1) (inner : Reader Deep) (parts : Parts)
    (inner_reads : 0 < room.brackets → 0 < below → ReadsAll place (room.brackets - 1) below 0 inner)
    (parts_read : 0 < below → (level : Level) → ReadsAll place room.brackets below (tightness level) (parts level)) where
  -- a shape that fits here
  abbrev Fit : ℕ → Expr → Type 0
  Fit level x = Suits room.brackets room.depth level (shape place x)

  abbrev primary_here : Reader Deep
  primary_here = primary place room inner

  by_start : (s : Start) (ts : List Token) (result : Result (Deep × List Token) ℕ) → start place room ts ≡ s → primary_by room inner s ts ≡ result → primary_here ts ≡ result
  unfolding primary
  by_start s ts result h e = ap (λ (s : Start). primary_by room inner s ts) h ∙ e

  -- the claim for an expression without operators and calls
  abbrev Primary : Expr-F Expr → Expr → Type 0
  Primary o x = (ts rest : List Token) → AreWords ts (expr_words x) → Fit 5 x → Calm rest → NoDot o rest → primary_here (ts ++ rest) ≡ Ok (deep place x, rest)

  natural_reads : (n l : ℕ) (ts rest : List Token) → AreWords ts (Numbered (pos n) l ∷ []) → primary_here (ts ++ rest) ≡ got (deep place (e.Literal (literal.Int (pos n)) l)) rest
  unfolding primary_by
  natural_reads n l ts rest k =
      by_start starts.Number (ts ++ rest) _ (starts_at place room ts rest _ [] starts.Number k (λ t w. number_starts place room t.kind t.text (pos n) w.0))
      (number_then rest _ n l [] ts (λ m. give (leaf (e.Literal (literal.Int (pos m.0)) m.1))) k
      (λ us m. ap (λ (u : List Token). got (leaf (e.Literal (literal.Int (pos n)) l)) (u ++ rest)) (nothing us m) ∙ read_is place (e.Literal (literal.Int (pos n)) l) 1 rest (depth_is (eq.shape-Literal place (literal.Int (pos n)) l))))

  int_by : (v : ℤ) (l : ℕ) (o : Option ℕ) (ts rest : List Token) → option_map pos o ≡ Some v → AreWords ts (Numbered v l ∷ []) → primary_here (ts ++ rest) ≡ got (deep place (e.Literal (literal.Int v) l)) rest
  int_by v l (Some n) ts rest is k =
      let same : pos n ≡ v = cc in
      subst (λ (w : ℤ). primary_here (ts ++ rest) ≡ got (deep place (e.Literal (literal.Int w) l)) rest) same
      (natural_reads n l ts rest (subst (λ (w : ℤ). AreWords ts (Numbered w l ∷ [])) (sym same) k))
  int_by v l None ts rest is k = absurd cc

  int_reads : (v : ℤ) (l : ℕ) → Primary (Expr-F.Literal (literal.Int v) l) (e.Literal (literal.Int v) l)
  int_reads v l ts rest h fit calm dot =
      let k : AreWords ts (Numbered v l ∷ []) = subst (λ (w : List Word). AreWords ts w) (eq.words-Literal (literal.Int v) l) h in
      let f = first ts (Numbered v l) [] k in
      int_by v l (number_in f.token) ts rest f.is.0 k

  text_reads : (v : List ℕ) (l : ℕ) → Primary (Expr-F.Literal (literal.Text v) l) (e.Literal (literal.Text v) l)
  unfolding primary_by
  text_reads v l ts rest h fit calm dot =
      let k : AreWords ts (Quoted v l ∷ []) = subst (λ (w : List Word). AreWords ts w) (eq.words-Literal (literal.Text v) l) h in
      by_start starts.Quoted (ts ++ rest) _ (starts_at place room ts rest _ [] starts.Quoted k (λ t w. quoted_starts place room t.kind t.text v w.0))
      (quoted_then rest _ v l [] ts (λ m. give (leaf (e.Literal (literal.Text m.0) m.1))) k
      (λ us m. ap (λ (u : List Token). got (leaf (e.Literal (literal.Text v) l)) (u ++ rest)) (nothing us m) ∙ read_is place (e.Literal (literal.Text v) l) 1 rest (depth_is (eq.shape-Literal place (literal.Text v) l))))

  literal_reads : (v : Literal) (l : ℕ) → Primary (Expr-F.Literal v l) (e.Literal v l)
  literal_reads (literal.Int v) l = int_reads v l
  literal_reads (literal.Text v) l = text_reads v l

  null_reads : (l : ℕ) → Primary (Expr-F.Null l) (e.Null l)
  unfolding primary_by
  null_reads l ts rest h fit calm dot =
      let k : AreWords ts (FixedAt (codes "null") l ∷ []) = subst (λ (w : List Word). AreWords ts w) (eq.words-Null l) h in
      by_start starts.Null (ts ++ rest) _ (starts_at place room ts rest _ [] starts.Null k (λ t w. fixed_starts place room t.kind t.text (codes "null") w.0 w.1))
      (line_then rest _ (codes "null") l [] ts (λ line. give (leaf (e.Null line))) k
      (λ us m. ap (λ (u : List Token). got (leaf (e.Null l)) (u ++ rest)) (nothing us m) ∙ read_is place (e.Null l) 1 rest (depth_is (eq.shape-Null place l))))

  variable_reads : (n : Name) → Primary (Expr-F.Variable n) (e.Variable n)
  unfolding primary_by
  variable_reads n ts rest h fit calm dot =
      let k : AreWords ts (name_word n ∷ []) = subst (λ (w : List Word). AreWords ts w) (eq.words-Variable n) h in
      by_start starts.Name (ts ++ rest) _ (starts_at place room ts rest _ [] starts.Name k (λ t w. name_starts place room t.kind t.text (name_kind t.kind t.text w.0)))
      (name_then rest _ n [] ts (λ m. give (leaf (e.Variable m))) k
      (λ us m. ap (λ (u : List Token). got (leaf (e.Variable n)) (u ++ rest)) (nothing us m) ∙ read_is place (e.Variable n) 1 rest (depth_is (eq.shape-Variable place n))))

  this_here : (x : Expr) (b : Bool) (level : ℕ) → (shape place x).proper ≡ b → Fit level x → b ≡ true
  this_here x b level same fit = sym same ∙ fit.proper

  this_start : in_method place ≡ true → fixed_start place room (codes "this") ≡ starts.This
  this_start here = rw here refl

  this_reads : (l : ℕ) → Primary (Expr-F.This l) (e.This l)
  unfolding primary_by after_this
  this_reads l ts rest h fit calm dot =
      let k : AreWords ts (FixedAt (codes "this") l ∷ []) = subst (λ (w : List Word). AreWords ts w) (eq.words-This l) h in
      let here : in_method place ≡ true = this_here (e.This l) (in_method place) 5 (ap (λ (s : Shape). s.proper) (eq.shape-This place l)) fit in
      by_start starts.This (ts ++ rest) _ (starts_at place room ts rest _ [] starts.This k (λ t w. fixed_starts place room t.kind t.text (codes "this") w.0 w.1 ∙ this_start here))
      (line_then rest _ (codes "this") l [] ts (after_this room inner) k
      (λ us m. rw (nothing us m, dot) (read_is place (e.This l) 1 rest (depth_is (eq.shape-This place l)))))

  -- a bracket may open, and there is room below
  room_for : (x : Expr) → Fit 0 x → 1 < (shape place x).depth → 0 < below
  room_for x fit more = omega (arith, fit.within)

  may : 0 < room.brackets → 0 < below → may_call room ≡ true
  may some deep = and_from (nat_lt 0 room.brackets) (nat_lt 1 room.depth) (lt-ltb 0 room.brackets some) (lt-ltb 1 room.depth (omega arith))

  -- what fits of a call
  record CallFit (r : Expr) (xs : List Expr) : Type 0 where
    receiver : Fit 4 r
    less : (shape place r).depth < room.depth
    some : 0 < room.brackets
    deep_enough : 0 < below
    suit : SuitAll place (room.brackets - 1) below xs

  call_fit : (r : Expr) (n : Name) (xs : List Expr) → Fit 4 (e.Call r n xs) → CallFit r xs
  call_fit r n xs fit =
      let f : Suits room.brackets room.depth 4 (record { level = 4; depth = max (shape place r).depth (deepest (map (shape place) xs)) + 1; nesting = max (shape place r).nesting (most_nested (map (shape place) xs) + 1); proper = ((shape place r).proper && nat_le 4 (shape place r).level) && all_proper (map (shape place) xs) })
      = subst (λ (s : Shape). Suits room.brackets room.depth 4 s) (eq.shape-Call place r n xs) fit in
      let all = and_parts ((shape place r).proper && nat_le 4 (shape place r).level) (all_proper (map (shape place) xs)) f.proper in
      let two = and_parts (shape place r).proper (nat_le 4 (shape place r).level) all.0 in
      record {
        receiver = record { within = omega (arith, f.within); nested = omega (arith, f.nested); tight = leb-true 4 (shape place r).level two.1; proper = two.0 };
        less = omega (arith, f.within);
        some = omega (arith, f.nested);
        deep_enough = omega (arith, f.within, positive place r);
        suit = record { within = omega (arith, f.within); nested = omega (arith, f.nested); proper = all.1 };
      }

  field_call_passes : 0 < room.brackets → 0 < below → (us rest : List Token) (ws : List Word) → AreWords us (Fixed (codes "(") ∷ ws) → next (is_field_call room) (us ++ rest) ≡ true
  field_call_passes some enough [] rest ws h = absurd h
  field_call_passes some enough (t ∷ us) rest ws h = and_from (is (codes "(") t) (may_call room) (fixed_is (codes "(") t h.0.0 h.0.1) (may some enough)

  -- a call of a method of `this`
  this_call_reads : (l : ℕ) (n : Name) (xs : List Expr) (ts rest : List Token) → AreWords ts (expr_words (e.Call (e.This l) n xs)) → Fit 4 (e.Call (e.This l) n xs)
      → primary_here (ts ++ rest) ≡ got (deep place (e.Call (e.This l) n xs)) rest
  unfolding primary_by after_this after_field
  this_call_reads l n xs ts rest h fit =
      let k1 : AreWords ts (expr_words (e.This l) ++ Fixed (codes ".") ∷ name_word n ∷ Fixed (codes "(") ∷ (with_commas (map expr_words xs) ++ Fixed (codes ")") ∷ [])) = subst (λ (w : List Word). AreWords ts w) (eq.words-Call (e.This l) n xs) h in
      let k : AreWords ts (FixedAt (codes "this") l ∷ Fixed (codes ".") ∷ name_word n ∷ Fixed (codes "(") ∷ (with_commas (map expr_words xs) ++ Fixed (codes ")") ∷ []))
      = subst (λ (w : List Word). AreWords ts (w ++ Fixed (codes ".") ∷ name_word n ∷ Fixed (codes "(") ∷ (with_commas (map expr_words xs) ++ Fixed (codes ")") ∷ []))) (eq.words-This l) k1 in
      let c = call_fit (e.This l) n xs fit in
      let here : in_method place ≡ true = this_here (e.This l) (in_method place) 4 (ap (λ (s : Shape). s.proper) (eq.shape-This place l)) c.receiver in
      by_start starts.This (ts ++ rest) _ (starts_at place room ts rest _ _ starts.This k (λ t w. fixed_starts place room t.kind t.text (codes "this") w.0 w.1 ∙ this_start here))
      (line_then rest _ (codes "this") l _ ts (after_this room inner) k (λ us m.
      rw (head_passes (codes ".") us rest _ m)
      (word_then rest _ (codes ".") _ us (λ dot. name >>= λ field. after_field room inner l field) m (λ d vs o.
      name_then rest _ n _ vs (after_field room inner l) o (λ ws q.
      rw (field_call_passes c.some c.deep_enough ws rest _ q)
      (arguments_then place (room.brackets - 1) below inner (inner_reads c.some c.deep_enough) xs [] ws rest _ (λ read. give (call (leaf (e.This l)) n read)) q c.suit (λ ys r.
      ap (λ (u : List Token). got (record { expr = e.Call (e.This l) n xs; depth = max 1 (deepest (map (shape place) xs)) + 1 }) (u ++ rest)) (nothing ys r)
      ∙ read_is place (e.Call (e.This l) n xs) (max 1 (deepest (map (shape place) xs)) + 1) rest
      (depth_is (eq.shape-Call place (e.This l) n xs) ∙ ap (λ (d : ℕ). max d (deepest (map (shape place) xs)) + 1) (depth_is (eq.shape-This place l))))))))))

  field_reads : (n : Name) → Primary (Expr-F.Field n) (e.Field n)
  unfolding primary_by after_this after_field
  field_reads n ts rest h fit calm dot =
      let k : AreWords ts (Fixed (codes "this") ∷ Fixed (codes ".") ∷ name_word n ∷ []) = subst (λ (w : List Word). AreWords ts w) (eq.words-Field n) h in
      let here : in_method place ≡ true = this_here (e.Field n) (in_method place) 5 (ap (λ (s : Shape). s.proper) (eq.shape-Field place n)) fit in
      by_start starts.This (ts ++ rest) _ (starts_at place room ts rest _ _ starts.This k (λ t w. fixed_starts place room t.kind t.text (codes "this") w.0 w.1 ∙ this_start here))
      (word_then rest _ (codes "this") (Fixed (codes ".") ∷ name_word n ∷ []) ts (after_this room inner) k (λ l us m.
      rw (head_passes (codes ".") us rest _ m)
      (word_then rest _ (codes ".") (name_word n ∷ []) us (λ dot. name >>= λ field. after_field room inner l field) m (λ d vs o.
      name_then rest _ n [] vs (after_field room inner l) o (λ ws q.
      rw (nothing ws q, no_field_call rest calm.open_next) (read_is place (e.Field n) 1 rest (depth_is (eq.shape-Field place n))))))))
    where
      no_field_call : (rest : List Token) → next (is (codes "(")) rest ≡ false → next (is_field_call room) rest ≡ false
      no_field_call [] h = refl
      no_field_call (t ∷ ts) h = rw h refl

  new_reads : (n : Name) (a : Option At) → Primary (Expr-F.New n a) (e.New n a)
  unfolding primary_by created
  new_reads n a ts rest h fit calm dot =
      let k : AreWords ts (Fixed (codes "new") ∷ name_word n ∷ Fixed (codes "(") ∷ Fixed (codes ")") ∷ at_words a) = subst (λ (w : List Word). AreWords ts w) (eq.words-New n a) h in
      let nesting : (shape place (e.New n a)).nesting ≡ 1 = ap (λ (s : Shape). s.nesting) (eq.shape-New place n a) in
      let some : nat_lt 0 room.brackets ≡ true = lt-ltb 0 room.brackets (omega (arith, fit.nested)) in
      by_start starts.New (ts ++ rest) _ (starts_at place room ts rest _ _ starts.New k (λ t w. fixed_starts place room t.kind t.text (codes "new") w.0 w.1 ∙ rw some refl))
      (word_then rest _ (codes "new") _ ts (λ l. name >>= λ class. word (codes "(") >>= λ o. word (codes ")") >>= λ c. at >>= λ place. give (leaf (e.New class place))) k (λ l us m.
      name_then rest _ n _ us (λ class. word (codes "(") >>= λ o. word (codes ")") >>= λ c. at >>= λ place. give (leaf (e.New class place))) m (λ vs o.
      word_then rest _ (codes "(") _ vs (λ o. word (codes ")") >>= λ c. at >>= λ place. give (leaf (e.New n place))) o (λ l1 ws q.
      word_then rest _ (codes ")") _ ws (λ c. at >>= λ place. give (leaf (e.New n place))) q (λ l2 xs r.
      ap (λ res. onward res (λ place. give (leaf (e.New n place)))) (at_reads a xs rest r calm.place) ∙ read_is place (e.New n a) 1 rest (depth_is (eq.shape-New place n a)))))))

  parens_read : (x : Expr) (l : ℕ) → Primary (Expr-F.Parens x l) (e.Parens x l)
  unfolding primary_by parens
  parens_read x l ts rest h fit calm dot =
      let k : AreWords ts (FixedAt (codes "(") l ∷ (expr_words x ++ Fixed (codes ")") ∷ [])) = subst (λ (w : List Word). AreWords ts w) (eq.words-Parens x l) h in
      let f : Suits room.brackets room.depth 5 (record { level = 5; depth = (shape place x).depth + 1; nesting = (shape place x).nesting + 1; proper = (shape place x).proper }) = subst (λ (s : Shape). Suits room.brackets room.depth 5 s) (eq.shape-Parens place x l) fit in
      let some : 0 < room.brackets = omega (arith, f.nested) in
      let deep_enough : 0 < below = omega (arith, f.within, positive place x) in
      let inside : Suits (room.brackets - 1) below 0 (shape place x) = record { within = omega (arith, f.within); nested = omega (arith, f.nested); tight = omega arith; proper = f.proper } in
      by_start starts.Parens (ts ++ rest) _ (starts_at place room ts rest _ _ starts.Parens k (λ t w. fixed_starts place room t.kind t.text (codes "(") w.0 w.1 ∙ rw (may some deep_enough) refl))
      (line_then rest _ (codes "(") l _ ts (λ line. inner >>= λ read. word (codes ")") >>= λ c. give (record { expr = e.Parens read.expr line; depth = read.depth + 1 })) k (λ us m.
      part_then rest _ inner (deep place x) (expr_words x) (Fixed (codes ")") ∷ []) us (λ read. word (codes ")") >>= λ c. give (record { expr = e.Parens read.expr l; depth = read.depth + 1 })) m
      (λ front more p q. inner_reads some deep_enough x front (more ++ rest) p inside (stops_before 0 (codes ")") more rest [] (stop_close 0) q))
      (λ vs o. word_then rest _ (codes ")") [] vs (λ c. give (record { expr = e.Parens x l; depth = (shape place x).depth + 1 })) o (λ c ws q.
      ap (λ (u : List Token). got (record { expr = e.Parens x l; depth = (shape place x).depth + 1 }) (u ++ rest)) (nothing ws q) ∙ read_is place (e.Parens x l) ((shape place x).depth + 1) rest (depth_is (eq.shape-Parens place x l))))))

  -- ---- calls, one on the other

  abbrev go_on : ℕ → Deep → Reader Deep
  go_on n = repeat n (is_call room) (called inner)

  call_passes : (d : Deep) → 0 < room.brackets → d.depth < room.depth → (us rest : List Token) (ws : List Word) → AreWords us (Fixed (codes ".") ∷ ws) → next (is_call room d) (us ++ rest) ≡ true
  call_passes d some less [] rest ws h = absurd h
  call_passes d some less (t ∷ us) rest ws h =
      and_from (is (codes ".") t) (nat_lt 0 room.brackets && nat_lt d.depth room.depth) (fixed_is (codes ".") t h.0.0 h.0.1)
      (and_from (nat_lt 0 room.brackets) (nat_lt d.depth room.depth) (lt-ltb 0 room.brackets some) (lt-ltb d.depth room.depth less))

  call_step : (r : Expr) (n : Name) (xs : List Expr) (k : ℕ) (us rest : List Token) → CallFit r xs → AreWords us (Fixed (codes ".") ∷ name_word n ∷ Fixed (codes "(") ∷ (with_commas (map expr_words xs) ++ Fixed (codes ")") ∷ []))
      → go_on (suc k) (deep place r) (us ++ rest) ≡ go_on k (deep place (e.Call r n xs)) rest
  unfolding called
  call_step r n xs k us rest c h =
      turn (is_call room) (called inner) k (deep place r) (us ++ rest) (call_passes (deep place r) c.some c.less us rest _ h)
      ∙ (bind_assoc (word (codes ".") (us ++ rest)) (λ d. name >>= λ m. arguments inner >>= λ a. give (call (deep place r) m a)) (go_on k)
      ∙ word_then rest _ (codes ".") _ us (λ d vs. onward ((name >>= λ m. arguments inner >>= λ a. give (call (deep place r) m a)) vs) (go_on k)) h (λ l vs m.
      bind_assoc (name (vs ++ rest)) (λ m. arguments inner >>= λ a. give (call (deep place r) m a)) (go_on k)
      ∙ name_then rest _ n _ vs (λ m ws. onward ((arguments inner >>= λ a. give (call (deep place r) m a)) ws) (go_on k)) m (λ ws o.
      bind_assoc (arguments inner (ws ++ rest)) (λ a. give (call (deep place r) n a)) (go_on k)
      ∙ arguments_then place (room.brackets - 1) below inner (inner_reads c.some c.deep_enough) xs [] ws rest _ (λ a. go_on k (call (deep place r) n a)) o c.suit (λ ys q.
      ap (λ (u : List Token). go_on k (call (deep place r) n (record { exprs = xs; depth = deepest (map (shape place) xs) })) (u ++ rest)) (nothing ys q)
      ∙ ap (λ (d : Deep). go_on k d rest) (deep_is place (e.Call r n xs) (max (shape place r).depth (deepest (map (shape place) xs)) + 1) (depth_is (eq.shape-Call place r n xs)))))))

  record Spine (o : Expr-F Expr) (x : Expr) : Type 0 where
    turns : ℕ
    small : turns < (shape place x).depth
    reads : (ts rest : List Token) (n : ℕ) → AreWords ts (expr_words x) → Calm rest → NoDot o rest → onward (primary_here (ts ++ rest)) (go_on (n + turns)) ≡ go_on n (deep place x) rest

  spine_base : (o : Expr-F Expr) (x : Expr) → ((ts rest : List Token) → AreWords ts (expr_words x) → Calm rest → NoDot o rest → primary_here (ts ++ rest) ≡ got (deep place x) rest) → Spine o x
  spine_base o x reads = record {
    turns = 0;
    small = positive place x;
    reads = λ ts rest n h calm dot.
        let same : n + 0 ≡ n = omega arith in
        ap (λ (r : Result (Deep × List Token) ℕ). onward r (go_on (n + 0))) (reads ts rest h calm dot) ∙ ap (λ (k : ℕ). go_on k (deep place x) rest) same;
  }

  spine_call : (o p : Expr-F Expr) (r : Expr) (n : Name) (xs : List Expr) → CallFit r xs → Spine o r → ((rest : List Token) → NoDot o rest) → Spine p (e.Call r n xs)
  spine_call o p r n xs c s dot = record {
    turns = s.turns + 1;
    small = omega (arith, s.small, depth_is (eq.shape-Call place r n xs));
    reads = λ ts rest k h calm d.
        let w : AreWords ts (expr_words r ++ Fixed (codes ".") ∷ name_word n ∷ Fixed (codes "(") ∷ (with_commas (map expr_words xs) ++ Fixed (codes ")") ∷ [])) = subst (λ (w : List Word). AreWords ts w) (eq.words-Call r n xs) h in
        let t = split ts (expr_words r) (Fixed (codes ".") ∷ name_word n ∷ Fixed (codes "(") ∷ (with_commas (map expr_words xs) ++ Fixed (codes ")") ∷ [])) w in
        let e1 : ts ++ rest ≡ t.front ++ (t.rest ++ rest) = ap (λ (u : List Token). u ++ rest) t.parts ∙ append_assoc t.front t.rest rest in
        let e2 : k + (s.turns + 1) ≡ suc k + s.turns = omega arith in
        let quiet : Calm (t.rest ++ rest) = record { open_next = head_fails (codes ".") (codes "(") t.rest rest _ t.second refl; place = head_fails (codes ".") (codes "at") t.rest rest _ t.second refl } in
        ap (λ (u : List Token). onward (primary_here u) (go_on (k + (s.turns + 1)))) e1
        ∙ (ap (λ (m : ℕ). onward (primary_here (t.front ++ (t.rest ++ rest))) (go_on m)) e2
        ∙ (s.reads t.front (t.rest ++ rest) (suc k) t.first quiet (dot (t.rest ++ rest)) ∙ call_step r n xs k t.rest rest c t.second));
  }

  five : (x : Expr) (s : Shape) → shape place x ≡ s → 5 ≤ s.level → Fit 4 x → Fit 5 x
  five x s same le fit = record { within = fit.within; nested = fit.nested; tight = subst (λ (t : Shape). 5 ≤ t.level) (sym same) le; proper = fit.proper }

  too_loose : (x : Expr) (s : Shape) → shape place x ≡ s → s.level ≤ 3 → Fit 4 x → ⊥
  too_loose x s same le fit = let level : (shape place x).level ≡ s.level = ap (λ (t : Shape). t.level) same in omega (arith, fit.tight)

  level_small : (o : Operator) → level_of o ≤ 3
  level_small operators.Add = omega arith
  level_small operators.Subtract = omega arith
  level_small operators.Multiply = omega arith
  level_small operators.Equal = omega arith
  level_small operators.Unequal = omega arith
  level_small operators.Less = omega arith

  abbrev SpineTo : ℕ → Type 0
  SpineTo m = (o : Expr-F Expr) → (shape place (roll-Expr o)).depth ≤ m → Fit 4 (roll-Expr o) → Spine o (roll-Expr o)

  call_by : (m : ℕ) → SpineTo m → (p : Expr-F Expr) (r : Expr) (n : Name) (xs : List Expr) → (shape place (e.Call r n xs)).depth ≤ suc m → Fit 4 (e.Call r n xs) → (o : Expr-F Expr) → roll-Expr o ≡ r → Spine p (e.Call r n xs)
  call_by m to p r n xs le fit (Expr-F.This l) is =
      let back : e.This l ≡ r = sym (e.rolls-This l) ∙ is in
      spine_base p (e.Call r n xs) (λ ts rest h calm dot.
      subst (λ (y : Expr). primary_here (ts ++ rest) ≡ got (deep place (e.Call y n xs)) rest) back
      (this_call_reads l n xs ts rest (subst (λ (y : Expr). AreWords ts (expr_words (e.Call y n xs))) (sym back) h) (subst (λ (y : Expr). Fit 4 (e.Call y n xs)) (sym back) fit)))
  call_by m to p r n xs le fit o is =
      let c = call_fit r n xs fit in
      let less : (shape place r).depth ≤ m = omega (arith, depth_is (eq.shape-Call place r n xs)) in
      let s : Spine o r = subst (λ (y : Expr). Spine o y) is (to o (subst (λ (y : Expr). (shape place y).depth ≤ m) (sym is) less) (subst (λ (y : Expr). Fit 4 y) (sym is) c.receiver)) in
      spine_call o p r n xs c s (λ rest. tt)

  -- at the form, from its claim at the variant
  spine_form : (m : ℕ) → SpineTo m → (o : Expr-F Expr) → (shape place (roll-Expr o)).depth ≤ suc m → Fit 4 (roll-Expr o) → Spine o (roll-Expr o)
  spine_form m to (Expr-F.Literal v l) le fit = subst (λ (y : Expr). Spine (Expr-F.Literal v l) y) (sym (e.rolls-Literal v l)) (spine_base _ _ (λ ts rest h calm dot. literal_reads v l ts rest h (five _ _ (eq.shape-Literal place v l) (omega arith) (subst (λ (y : Expr). Fit 4 y) (e.rolls-Literal v l) fit)) calm dot))
  spine_form m to (Expr-F.Null l) le fit = subst (λ (y : Expr). Spine (Expr-F.Null l) y) (sym (e.rolls-Null l)) (spine_base _ _ (λ ts rest h calm dot. null_reads l ts rest h (five _ _ (eq.shape-Null place l) (omega arith) (subst (λ (y : Expr). Fit 4 y) (e.rolls-Null l) fit)) calm dot))
  spine_form m to (Expr-F.This l) le fit = subst (λ (y : Expr). Spine (Expr-F.This l) y) (sym (e.rolls-This l)) (spine_base _ _ (λ ts rest h calm dot. this_reads l ts rest h (five _ _ (eq.shape-This place l) (omega arith) (subst (λ (y : Expr). Fit 4 y) (e.rolls-This l) fit)) calm dot))
  spine_form m to (Expr-F.Field n) le fit = subst (λ (y : Expr). Spine (Expr-F.Field n) y) (sym (e.rolls-Field n)) (spine_base _ _ (λ ts rest h calm dot. field_reads n ts rest h (five _ _ (eq.shape-Field place n) (omega arith) (subst (λ (y : Expr). Fit 4 y) (e.rolls-Field n) fit)) calm dot))
  spine_form m to (Expr-F.Variable n) le fit = subst (λ (y : Expr). Spine (Expr-F.Variable n) y) (sym (e.rolls-Variable n)) (spine_base _ _ (λ ts rest h calm dot. variable_reads n ts rest h (five _ _ (eq.shape-Variable place n) (omega arith) (subst (λ (y : Expr). Fit 4 y) (e.rolls-Variable n) fit)) calm dot))
  spine_form m to (Expr-F.New n a) le fit = subst (λ (y : Expr). Spine (Expr-F.New n a) y) (sym (e.rolls-New n a)) (spine_base _ _ (λ ts rest h calm dot. new_reads n a ts rest h (five _ _ (eq.shape-New place n a) (omega arith) (subst (λ (y : Expr). Fit 4 y) (e.rolls-New n a) fit)) calm dot))
  spine_form m to (Expr-F.Parens x l) le fit = subst (λ (y : Expr). Spine (Expr-F.Parens x l) y) (sym (e.rolls-Parens x l)) (spine_base _ _ (λ ts rest h calm dot. parens_read x l ts rest h (five _ _ (eq.shape-Parens place x l) (omega arith) (subst (λ (y : Expr). Fit 4 y) (e.rolls-Parens x l) fit)) calm dot))
  spine_form m to (Expr-F.Negate x l) le fit = absurd (too_loose _ _ (eq.shape-Negate place x l) (omega arith) (subst (λ (y : Expr). Fit 4 y) (e.rolls-Negate x l) fit))
  spine_form m to (Expr-F.Binary o x y l) le fit = absurd (too_loose _ _ (eq.shape-Binary place o x y l) (level_small o) (subst (λ (z : Expr). Fit 4 z) (e.rolls-Binary o x y l) fit))
  spine_form m to (Expr-F.Call r n xs) le fit = subst (λ (y : Expr). Spine (Expr-F.Call r n xs) y) (sym (e.rolls-Call r n xs))
      (call_by m to (Expr-F.Call r n xs) r n xs (subst (λ (y : Expr). (shape place y).depth ≤ suc m) (e.rolls-Call r n xs) le) (subst (λ (y : Expr). Fit 4 y) (e.rolls-Call r n xs) fit) (out-Expr r) (roll-out-Expr r))

  spine : (m : ℕ) → SpineTo m
  spine zero o le fit = absurd (omega (arith, positive place (roll-Expr o)))
  spine (suc m) o le fit = spine_form m (spine m) o le fit

  no_dot : (o : Expr-F Expr) (rest : List Token) → next (is (codes ".")) rest ≡ false → NoDot o rest
  no_dot (Expr-F.This l) rest h = h
  no_dot o rest h = tt

  no_call : (d : Deep) (rest : List Token) → next (is (codes ".")) rest ≡ false → next (is_call room d) rest ≡ false
  no_call d [] h = refl
  no_call d (t ∷ ts) h = rw h refl

  -- an expression with the calls on it
  pub postfix_reads : ReadsAll place room.brackets room.depth 4 (postfix place room inner)
  unfolding postfix calls
  postfix_reads x ts rest h fit stops =
      let back : roll-Expr (out-Expr x) ≡ x = roll-out-Expr x in
      let s : Spine (out-Expr x) x = subst (λ (y : Expr). Spine (out-Expr x) y) back (spine (shape place x).depth (out-Expr x) (subst (λ (y : Expr). (shape place y).depth ≤ (shape place x).depth) (sym back) (omega arith)) (subst (λ (y : Expr). Fit 4 y) (sym back) fit)) in
      let n : room.depth ≡ (room.depth - s.turns) + s.turns = omega (arith, s.small, fit.within) in
      ap (λ (k : ℕ). onward (primary_here (ts ++ rest)) (go_on k)) n
      ∙ (s.reads ts rest (room.depth - s.turns) h (record { open_next = stops.open_next; place = stops.place }) (no_dot (out-Expr x) rest stops.dot)
      ∙ no_turn (is_call room) (called inner) (room.depth - s.turns) (deep place x) rest (no_call (deep place x) rest stops.dot))
