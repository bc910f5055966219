-- What is spelled is read: one word, one part after the other.
use Rattle.std.proofs.Common.{◌≡◌, ℕ, ◌≤◌, Bool, true, false, List, [], ◌∷◌, ◌++◌, Option, Some, None, Result, Ok, pos, refl, sym, ap, subst, ◌∙◌, append_assoc}
use Rattle.std.specs.Prelude.{codes, ◌&&◌, option_map}
use Rattle.std.specs.Str.{bytes_eq}
use Rattle.std.specs.Option.{is_some}
use Rattle.std.proofs.lemmas.Slice.Eq.{bytes_eq-Decides}
use Rattle.std.proofs.lemmas.Bool.{and_right}
use Rattle.script_text.specs.declared.token.Token.{Token}
use Rattle.script_text.specs.declared.token.TokenKind.{TokenKind}
use Rattle.script_text.specs.declared.token.TokenKind.TheVariants as kinds
use Rattle.class_defs.specs.declared.expressions.Name.{Name}
use Rattle.class_defs.specs.declared.expressions.TypeName.{TypeName}
use Rattle.class_defs.specs.declared.expressions.TypeName.TheVariants as types
use Rattle.class_defs.specs.Words.{Word, Fixed, FixedAt, Numbered, Quoted, name_word}
use Rattle.class_defs.specs.Spelling as spelling
use Rattle.script_text.specs.Marks.{number_in, text_in}
use Rattle.method_parse.specs.declared.deep.Level.{Level}
use Rattle.method_parse.specs.declared.deep.Level.TheVariants as levels
use Rattle.method_parse.specs.Matching.{IsWord, AreWords, is, is_name_kind, is_fixed_kind}
use Rattle.method_parse.proofs.NameTokens.{name_kind}
use Rattle.method_parse.specs.Reader.{Reader, ◌>>=◌, onward, give, take_by, word, name, name_in, number, quoted, with_line, type_word, type_in, next}
use Rattle.method_parse.specs.Expressions.{operator_of, operator_by, operator_in}

-- a token that is a keyword or symbol
pub fixed_is : (text : List ℕ) (t : Token) → is_fixed_kind t.kind ≡ true → t.text ≡ text → is text t ≡ true
fixed_is text t kind same = rw (kind, same) ((bytes_eq-Decides text text).1 refl)

-- and not another one
pub is_not : (text other : List ℕ) (t : Token) → t.text ≡ text → bytes_eq text other ≡ false → is other t ≡ false
is_not text other t same apart = and_right (is_fixed_kind t.kind) (bytes_eq t.text other) (rw same apart)

-- the tokens are one word and more
pub record First (ts : List Token) (w : Word) (ws : List Word) : Type 0 where
  pub token : Token
  pub rest : List Token
  pub parts : ts ≡ token ∷ rest
  pub is : IsWord token w
  pub are : AreWords rest ws

pub first : (ts : List Token) (w : Word) (ws : List Word) → AreWords ts (w ∷ ws) → First ts w ws
first [] w ws h = absurd h
first (t ∷ ts) w ws h = record { token = t; rest = ts; parts = refl; is = h.0; are = h.1 }

-- the tokens are some words and more
pub record Split (ts : List Token) (ws vs : List Word) : Type 0 where
  pub front : List Token
  pub rest : List Token
  pub parts : ts ≡ front ++ rest
  pub first : AreWords front ws
  pub second : AreWords rest vs

pub split : (ts : List Token) (ws vs : List Word) → AreWords ts (ws ++ vs) → Split ts ws vs
split ts [] vs h = record { front = []; rest = ts; parts = refl; first = tt; second = h }
split [] (w ∷ ws) vs h = absurd h
split (t ∷ ts) (w ∷ ws) vs h =
    let s = split ts ws vs h.1 in
    record { front = t ∷ s.front; rest = s.rest; parts = ap (λ (u : List Token). t ∷ u) s.parts; first = (h.0, s.first); second = s.second }

-- what is read of no words
pub nothing : (ts : List Token) → AreWords ts [] → ts ≡ []
nothing [] h = refl
nothing (t ∷ ts) h = absurd h

module _ {B : Type 0} (rest : List Token) (result : Result (B × List Token) ℕ) where
  after_word : (text : List ℕ) (t : Token) (us : List Token) (next : ℕ → Reader B) → is text t ≡ true → next t.line us ≡ result → (word text >>= next) (t ∷ us) ≡ result
  unfolding word
  after_word text t us next passes goes = rw passes goes

  -- a keyword or symbol, and what is read behind it
  pub word_then : (text : List ℕ) (ws : List Word) (ts : List Token) (next : ℕ → Reader B) → AreWords ts (Fixed text ∷ ws)
      → ((line : ℕ) (us : List Token) → AreWords us ws → next line (us ++ rest) ≡ result) → (word text >>= next) (ts ++ rest) ≡ result
  word_then text ws [] next h goes = absurd h
  word_then text ws (t ∷ us) next h goes = after_word text t (us ++ rest) next (fixed_is text t h.0.0 h.0.1) (goes t.line us h.1)

  -- the same where the tree keeps the line
  pub line_then : (text : List ℕ) (line : ℕ) (ws : List Word) (ts : List Token) (next : ℕ → Reader B) → AreWords ts (FixedAt text line ∷ ws)
      → ((us : List Token) → AreWords us ws → next line (us ++ rest) ≡ result) → (word text >>= next) (ts ++ rest) ≡ result
  line_then text line ws [] next h goes = absurd h
  line_then text line ws (t ∷ us) next h goes =
      after_word text t (us ++ rest) next (fixed_is text t h.0.0 h.0.1) (subst (λ (l : ℕ). next l (us ++ rest) ≡ result) (sym h.0.2) (goes us h.1))

  after_taken : {A : Type 0} (says : Token → Option A) (a : A) (t : Token) (us : List Token) (next : A → Reader B) → says t ≡ Some a → next a us ≡ result → (take_by says >>= next) (t ∷ us) ≡ result
  after_taken says a t us next e goes = rw e goes

  name_says : (n : Name) (t : Token) → IsWord t (name_word n) → name_in t ≡ Some n
  name_says n t h =
      let same : (t.text, t.line) ≡ (n.text, n.line) = cc in
      rw h.0 (ap (λ (p : List ℕ × ℕ). Some (record { text = p.0; line = p.1 })) same)

  pub name_then : (n : Name) (ws : List Word) (ts : List Token) (next : Name → Reader B) → AreWords ts (name_word n ∷ ws)
      → ((us : List Token) → AreWords us ws → next n (us ++ rest) ≡ result) → (name >>= next) (ts ++ rest) ≡ result
  unfolding name
  name_then n ws [] next h goes = absurd h
  name_then n ws (t ∷ us) next h goes = after_taken name_in n t (us ++ rest) next (name_says n t h.0) (goes us h.1)

  number_says : (n line : ℕ) (t : Token) (o : Option ℕ) → number_in t ≡ o → option_map pos o ≡ Some (pos n) → t.line ≡ line → with_line o t.line ≡ Some (n, line)
  number_says n line t (Some v) e h l = let same : (v, t.line) ≡ (n, line) = cc in ap (λ (p : ℕ × ℕ). Some p) same
  number_says n line t None e h l = absurd cc

  pub number_then : (n line : ℕ) (ws : List Word) (ts : List Token) (next : ℕ × ℕ → Reader B) → AreWords ts (Numbered (pos n) line ∷ ws)
      → ((us : List Token) → AreWords us ws → next (n, line) (us ++ rest) ≡ result) → (number >>= next) (ts ++ rest) ≡ result
  unfolding number
  number_then n line ws [] next h goes = absurd h
  number_then n line ws (t ∷ us) next h goes =
      after_taken (λ t. with_line (number_in t) t.line) (n, line) t (us ++ rest) next (number_says n line t (number_in t) refl h.0.0 h.0.1) (goes us h.1)

  text_says : (w : List ℕ) (line : ℕ) (t : Token) (o : Option (List ℕ)) → text_in t ≡ o → o ≡ Some w → t.line ≡ line → with_line o t.line ≡ Some (w, line)
  text_says w line t (Some v) e h l = let same : (v, t.line) ≡ (w, line) = cc in ap (λ (p : List ℕ × ℕ). Some p) same
  text_says w line t None e h l = absurd cc

  pub quoted_then : (w : List ℕ) (line : ℕ) (ws : List Word) (ts : List Token) (next : List ℕ × ℕ → Reader B) → AreWords ts (Quoted w line ∷ ws)
      → ((us : List Token) → AreWords us ws → next (w, line) (us ++ rest) ≡ result) → (quoted >>= next) (ts ++ rest) ≡ result
  unfolding quoted
  quoted_then w line ws [] next h goes = absurd h
  quoted_then w line ws (t ∷ us) next h goes =
      after_taken (λ t. with_line (text_in t) t.line) (w, line) t (us ++ rest) next (text_says w line t (text_in t) refl h.0.0 h.0.1) (goes us h.1)

  name_is_no_word : (k : TokenKind) (a : Bool) → is_name_kind k ≡ true → (is_fixed_kind k && a) ≡ false
  name_is_no_word kinds.Name a e = refl
  name_is_no_word kinds.Number a e = absurd cc
  name_is_no_word kinds.Keyword a e = absurd cc
  name_is_no_word kinds.Symbol a e = absurd cc
  name_is_no_word kinds.Quoted a e = absurd cc

  type_says : (ty : TypeName) (t : Token) → IsWord t (spelling.type_word ty) → type_in t ≡ Some ty
  type_says (types.Int line) t h = rw (fixed_is (codes "int") t h.0 h.1) (ap (λ (l : ℕ). Some (types.Int l)) h.2)
  type_says (types.Class n) t h =
      let same : (t.text, t.line) ≡ (n.text, n.line) = cc in
      rw (name_is_no_word t.kind (bytes_eq t.text (codes "int")) (name_kind t.kind t.text h.0), h.0) (ap (λ (p : List ℕ × ℕ). Some (types.Class (record { text = p.0; line = p.1 }))) same)

  pub type_then : (ty : TypeName) (ws : List Word) (ts : List Token) (next : TypeName → Reader B) → AreWords ts (spelling.type_word ty ∷ ws)
      → ((us : List Token) → AreWords us ws → next ty (us ++ rest) ≡ result) → (type_word >>= next) (ts ++ rest) ≡ result
  unfolding type_word
  type_then ty ws [] next h goes = absurd h
  type_then ty ws (t ∷ us) next h goes = after_taken type_in ty t (us ++ rest) next (type_says ty t h.0) (goes us h.1)

  -- a part that is read, and what is read behind it
  pub part_then : {A : Type 0} (reader : Reader A) (a : A) (ws vs : List Word) (ts : List Token) (next : A → Reader B) → AreWords ts (ws ++ vs)
      → ((us more : List Token) → AreWords us ws → AreWords more vs → reader (us ++ (more ++ rest)) ≡ Ok (a, more ++ rest))
      → ((us : List Token) → AreWords us vs → next a (us ++ rest) ≡ result) → (reader >>= next) (ts ++ rest) ≡ result
  part_then reader a ws vs ts next h reads goes =
      let s = split ts ws vs h in
      let e : ts ++ rest ≡ s.front ++ (s.rest ++ rest) = ap (λ (u : List Token). u ++ rest) s.parts ∙ append_assoc s.front s.rest rest in
      ap (reader >>= next) e ∙ ap (λ r. onward r next) (reads s.front s.rest s.first s.second) ∙ goes s.rest s.second

  -- the end
  pub end_then : (b : B) (us : List Token) → AreWords us [] → Ok (b, rest) ≡ result → give b (us ++ rest) ≡ result
  end_then b us h e = rw (nothing us h) e

-- ---- where an expression stops

-- no operator of a level comes next
abbrev pub no_operator_next : Level → List Token → Type 0
no_operator_next level rest = next (λ t. is_some (operator_in level t)) rest ≡ false

-- what comes next goes on with no expression of a level
pub record Stops (level : ℕ) (rest : List Token) : Type 0 where
  pub dot : next (is (codes ".")) rest ≡ false
  pub open_next : next (is (codes "(")) rest ≡ false
  pub place : next (is (codes "at")) rest ≡ false
  pub term : level ≤ 2 → no_operator_next levels.Term rest
  pub sum : level ≤ 1 → no_operator_next levels.Sum rest
  pub comparison : level ≤ 0 → no_operator_next levels.Comparison rest

-- no operator is this text
pub operator_none : (level : Level) (t : Token) (text : List ℕ) → is_fixed_kind t.kind ≡ true → t.text ≡ text → operator_of level text ≡ None → is_some (operator_in level t) ≡ false
operator_none level t text fixed same none = by_kind t.kind t.text fixed (ap (operator_of level) same ∙ none)
  where
    by_kind : (k : TokenKind) (x : List ℕ) → is_fixed_kind k ≡ true → operator_of level x ≡ None → is_some (operator_by level k x) ≡ false
    by_kind kinds.Name x f e = refl
    by_kind kinds.Number x f e = refl
    by_kind kinds.Quoted x f e = refl
    by_kind kinds.Keyword x f e = rw e refl
    by_kind kinds.Symbol x f e = rw e refl

-- a word at which an expression of a level stops
pub record StopWord (level : ℕ) (text : List ℕ) : Type 0 where
  pub dot : bytes_eq text (codes ".") ≡ false
  pub open_next : bytes_eq text (codes "(") ≡ false
  pub place : bytes_eq text (codes "at") ≡ false
  pub term : level ≤ 2 → operator_of levels.Term text ≡ None
  pub sum : level ≤ 1 → operator_of levels.Sum text ≡ None
  pub comparison : level ≤ 0 → operator_of levels.Comparison text ≡ None

pub stops_before : (level : ℕ) (text : List ℕ) (ts rest : List Token) (ws : List Word) → StopWord level text → AreWords ts (Fixed text ∷ ws) → Stops level (ts ++ rest)
stops_before level text [] rest ws w h = absurd h
stops_before level text (t ∷ ts) rest ws w h = record {
  dot = is_not text (codes ".") t h.0.1 w.dot;
  open_next = is_not text (codes "(") t h.0.1 w.open_next;
  place = is_not text (codes "at") t h.0.1 w.place;
  term = λ le. operator_none levels.Term t text h.0.0 h.0.1 (w.term le);
  sum = λ le. operator_none levels.Sum t text h.0.0 h.0.1 (w.sum le);
  comparison = λ le. operator_none levels.Comparison t text h.0.0 h.0.1 (w.comparison le);
}

pub stop_semicolon : (level : ℕ) → StopWord level (codes ";")
stop_semicolon level = record { dot = refl; open_next = refl; place = refl; term = λ le. refl; sum = λ le. refl; comparison = λ le. refl }

pub stop_close : (level : ℕ) → StopWord level (codes ")")
stop_close level = record { dot = refl; open_next = refl; place = refl; term = λ le. refl; sum = λ le. refl; comparison = λ le. refl }

pub stop_comma : (level : ℕ) → StopWord level (codes ",")
stop_comma level = record { dot = refl; open_next = refl; place = refl; term = λ le. refl; sum = λ le. refl; comparison = λ le. refl }

pub stop_equals : (level : ℕ) → StopWord level (codes "=")
stop_equals level = record { dot = refl; open_next = refl; place = refl; term = λ le. refl; sum = λ le. refl; comparison = λ le. refl }
