-- Arguments that are spelled are read.
use Rattle.std.proofs.Common.{◌≡◌, ℕ, zero, suc, ◌≤◌, max, Bool, true, false, List, [], ◌∷◌, ◌++◌, length, map, Result, Ok, Err, refl, sym, ap, subst, ◌∙◌, append_assoc, arith}
use Rattle.std.specs.Prelude.{codes}
use Rattle.std.specs.Str.{bytes_eq}
use Rattle.std.proofs.lemmas.List.{append-nil, length-append}
use Rattle.std.proofs.lemmas.Bool.{and_parts}
use Rattle.script_text.specs.declared.token.Token.{Token}
use Rattle.class_defs.specs.declared.expressions.Expr.{Expr}
use Rattle.class_defs.specs.declared.places.Place.{Place}
use Rattle.class_defs.specs.Words.{Word, Fixed, with_commas, behind_commas}
use Rattle.class_defs.specs.Spelling.{expr_words}
use Rattle.class_defs.specs.Shape.{Shape, shape, deepest, most_nested, all_proper}
use Rattle.method_parse.specs.declared.deep.Deep.{Deep}
use Rattle.method_parse.specs.declared.deep.Arguments.{Arguments}
use Rattle.method_parse.specs.Matching.{AreWords, is}
use Rattle.method_parse.specs.Reader.{Reader, ◌>>=◌, onward, give, word, next, repeat}
use Rattle.method_parse.specs.Expressions.{with_argument, first_argument, argument, is_comma, more_arguments, some_arguments, listed, arguments}
use Rattle.method_parse.proofs.Repeats.{no_turn}
use Rattle.method_parse.proofs.Eats.{fixed_is, is_not, split, nothing, word_then, part_then, Stops, stops_before, stop_close, stop_comma}
use Rattle.method_parse.proofs.Heads.{Starter, AtNull, AtThis, AtNew, AtOpen, AtMinus, starter_text, head_not, begins}

-- what an expression that fits is read as
abbrev pub deep : Place → Expr → Deep
deep place x = record { expr = x; depth = (shape place x).depth }

-- a shape that fits into a room, at a level
pub record Suits (brackets room level : ℕ) (s : Shape) : Type 0 where
  pub within : s.depth ≤ room
  pub nested : s.nesting ≤ brackets
  pub tight : level ≤ s.level
  pub proper : s.proper ≡ true

-- a reader that reads each expression that fits
abbrev pub ReadsAll : Place → ℕ → ℕ → ℕ → Reader Deep → Type 0
ReadsAll place brackets room level reader =
    (x : Expr) (ts rest : List Token) → AreWords ts (expr_words x) → Suits brackets room level (shape place x) → Stops level rest → reader (ts ++ rest) ≡ Ok (deep place x, rest)

pub record SuitAll (place : Place) (brackets room : ℕ) (xs : List Expr) : Type 0 where
  pub within : deepest (map (shape place) xs) ≤ room
  pub nested : most_nested (map (shape place) xs) ≤ brackets
  pub proper : all_proper (map (shape place) xs) ≡ true

suits_first : (place : Place) (brackets room : ℕ) (x : Expr) (xs : List Expr) → SuitAll place brackets room (x ∷ xs) → Suits brackets room 0 (shape place x)
suits_first place brackets room x xs all = record {
  within = omega (arith, all.within);
  nested = omega (arith, all.nested);
  tight = omega arith;
  proper = (and_parts (shape place x).proper (all_proper (map (shape place) xs)) all.proper).0;
}

suit_rest : (place : Place) (brackets room : ℕ) (x : Expr) (xs : List Expr) → SuitAll place brackets room (x ∷ xs) → SuitAll place brackets room xs
suit_rest place brackets room x xs all = record {
  within = omega (arith, all.within);
  nested = omega (arith, all.nested);
  proper = (and_parts (shape place x).proper (all_proper (map (shape place) xs)) all.proper).1;
}

-- binds in a row
pub bind_assoc : {A B C : Type 0} (r : Result (A × List Token) ℕ) (f : A → Reader B) (g : B → Reader C) → onward (onward r f) g ≡ onward r (λ a us. onward (f a us) g)
bind_assoc (Ok x) f g = refl
bind_assoc (Err n) f g = refl

pub head_passes : (text : List ℕ) (ts rest : List Token) (ws : List Word) → AreWords ts (Fixed text ∷ ws) → next (is text) (ts ++ rest) ≡ true
head_passes text [] rest ws h = absurd h
head_passes text (t ∷ ts) rest ws h = fixed_is text t h.0.0 h.0.1

pub head_fails : (text other : List ℕ) (ts rest : List Token) (ws : List Word) → AreWords ts (Fixed text ∷ ws) → bytes_eq text other ≡ false → next (is other) (ts ++ rest) ≡ false
head_fails text other [] rest ws h e = absurd h
head_fails text other (t ∷ ts) rest ws h e = is_not text other t h.0.1 e

-- an expression begins with none of these
pub expr_fails : (place : Place) (x : Expr) (other : List ℕ) (ts rest : List Token) (ws : List Word) → AreWords ts (expr_words x ++ ws) → ((s : Starter) → bytes_eq (starter_text s) other ≡ false) → next (is other) (ts ++ rest) ≡ false
expr_fails place x other ts rest ws h apart =
    let s = split ts (expr_words x) ws h in
    let b = begins place x s.front s.first in
    let e : ts ++ rest ≡ b.token ∷ ((b.rest ++ s.rest) ++ rest) = ap (λ (u : List Token). u ++ rest) (s.parts ∙ ap (λ (u : List Token). u ++ s.rest) b.parts) in
    ap (next (is other)) e ∙ head_not b.token other b.head apart

pub not_close : (s : Starter) → bytes_eq (starter_text s) (codes ")") ≡ false
not_close AtNull = refl
not_close AtThis = refl
not_close AtNew = refl
not_close AtOpen = refl
not_close AtMinus = refl

pub turn : {X : Type 0} (test : X → Token → Bool) (step : X → Reader X) (n : ℕ) (x : X) (ts : List Token) → next (test x) ts ≡ true → repeat (suc n) test step x ts ≡ (step x >>= repeat n test step) ts
unfolding repeat
turn test step n x ts passes = rw passes refl

pub same_length : (ts : List Token) (ws : List Word) → AreWords ts ws → length ts ≡ length ws
same_length [] [] h = refl
same_length [] (w ∷ ws) h = absurd h
same_length (t ∷ ts) [] h = absurd h
same_length (t ∷ ts) (w ∷ ws) h = ap suc (same_length ts ws h.1)

commas_long : (wss : List (List Word)) → length wss ≤ length (behind_commas wss)
commas_long [] = omega arith
commas_long (ws ∷ wss) = omega (arith, commas_long wss, length-append ws (behind_commas wss))

length-map : (xs : List Expr) → length (map expr_words xs) ≡ length xs
length-map [] = refl
length-map (x ∷ xs) = ap suc (length-map xs)

module _ (place : Place) (brackets room : ℕ) (inner : Reader Deep) (reads : ReadsAll place brackets room 0 inner) where
  -- the arguments, as they are read
  abbrev pub args : List Expr → Arguments
  args xs = record { exprs = xs; depth = deepest (map (shape place) xs) }

  pushed : Arguments → List Expr → Arguments
  pushed a [] = a
  pushed a (x ∷ xs) = pushed (with_argument a (deep place x)) xs

  pushed-is : (xs : List Expr) (a : Arguments) → pushed a xs ≡ record { exprs = a.exprs ++ xs; depth = max a.depth (deepest (map (shape place) xs)) }
  unfolding pushed
  pushed-is [] a =
      let exprs : a.exprs ++ [] ≡ a.exprs = append-nil a.exprs in
      let depth : max a.depth 0 ≡ a.depth = omega arith in
      rw (exprs, depth) refl
  pushed-is (x ∷ xs) a =
      let exprs : (a.exprs ++ x ∷ []) ++ xs ≡ a.exprs ++ x ∷ xs = append_assoc a.exprs (x ∷ []) xs in
      let depth : max (max a.depth (shape place x).depth) (deepest (map (shape place) xs)) ≡ max a.depth (max (shape place x).depth (deepest (map (shape place) xs))) = omega arith in
      pushed-is xs (with_argument a (deep place x)) ∙ ap (λ (p : List Expr × ℕ). record { exprs = p.0; depth = p.1 }) (let both : ((a.exprs ++ x ∷ []) ++ xs, max (max a.depth (shape place x).depth) (deepest (map (shape place) xs))) ≡ (a.exprs ++ x ∷ xs, max a.depth (max (shape place x).depth (deepest (map (shape place) xs)))) = cc in both)

  after_argument : {B : Type 0} (x : Expr) (ws : List Word) (a : Arguments) (g : Arguments → Reader B) (ts rest : List Token) (result : Result (B × List Token) ℕ)
      → AreWords ts (Fixed (codes ",") ∷ (expr_words x ++ ws)) → Suits brackets room 0 (shape place x)
      → ((more : List Token) → AreWords more ws → Stops 0 (more ++ rest))
      → ((us : List Token) → AreWords us ws → g (with_argument a (deep place x)) (us ++ rest) ≡ result) → (argument inner a >>= g) (ts ++ rest) ≡ result
  unfolding argument
  after_argument x ws a g ts rest result h suits stops goes =
      bind_assoc (word (codes ",") (ts ++ rest)) (λ comma. inner >>= λ more. give (with_argument a more)) g
      ∙ word_then rest result (codes ",") (expr_words x ++ ws) ts (λ comma us. onward ((inner >>= λ more. give (with_argument a more)) us) g) h (λ line us k.
      bind_assoc (inner (us ++ rest)) (λ more. give (with_argument a more)) g
      ∙ part_then rest result inner (deep place x) (expr_words x) ws us (λ more vs. onward (give (with_argument a more) vs) g) k
      (λ front more p q. reads x front (more ++ rest) p suits (stops more q)) goes)

  stops_more : (xs : List Expr) (us rest : List Token) → AreWords us (behind_commas (map expr_words xs)) → Stops 0 rest → Stops 0 (us ++ rest)
  stops_more [] us rest h stops = subst (λ (u : List Token). Stops 0 (u ++ rest)) (sym (nothing us h)) stops
  stops_more (x ∷ xs) us rest h stops = stops_before 0 (codes ",") us rest _ (stop_comma 0) h

  arguments_more : (xs : List Expr) (a : Arguments) (n : ℕ) (ts rest : List Token) → AreWords ts (behind_commas (map expr_words xs)) → SuitAll place brackets room xs → Stops 0 rest
      → next (is (codes ",")) rest ≡ false → length xs ≤ n → repeat n is_comma (argument inner) a (ts ++ rest) ≡ Ok (pushed a xs, rest)
  unfolding pushed
  arguments_more [] a n ts rest h suit stops fails le =
      ap (λ (u : List Token). repeat n is_comma (argument inner) a (u ++ rest)) (nothing ts h) ∙ no_turn is_comma (argument inner) n a rest fails
  arguments_more (x ∷ xs) a zero ts rest h suit stops fails le = absurd (omega arith)
  arguments_more (x ∷ xs) a (suc n) ts rest h suit stops fails le =
      turn is_comma (argument inner) n a (ts ++ rest) (head_passes (codes ",") ts rest _ h)
      ∙ after_argument x (behind_commas (map expr_words xs)) a (repeat n is_comma (argument inner)) ts rest (Ok (pushed (with_argument a (deep place x)) xs, rest)) h (suits_first place brackets room x xs suit)
      (λ more k. stops_more xs more rest k stops)
      (λ us k. arguments_more xs (with_argument a (deep place x)) n us rest k (suit_rest place brackets room x xs suit) stops fails (omega arith))

  some_read : (x : Expr) (xs : List Expr) (ts rest : List Token) → AreWords ts (expr_words x ++ behind_commas (map expr_words xs)) → SuitAll place brackets room (x ∷ xs) → Stops 0 rest
      → next (is (codes ",")) rest ≡ false → some_arguments inner (ts ++ rest) ≡ Ok (args (x ∷ xs), rest)
  unfolding some_arguments more_arguments
  some_read x xs ts rest h suit stops fails =
      part_then rest (Ok (args (x ∷ xs), rest)) inner (deep place x) (expr_words x) (behind_commas (map expr_words xs)) ts (λ first. more_arguments inner (first_argument first)) h
      (λ front more p q. reads x front (more ++ rest) p (suits_first place brackets room x xs suit) (stops_more xs more rest q stops))
      (λ us k. arguments_more xs (first_argument (deep place x)) (length (us ++ rest)) us rest k (suit_rest place brackets room x xs suit) stops fails
      (omega (arith, length-append us rest, same_length us (behind_commas (map expr_words xs)) k, commas_long (map expr_words xs), length-map xs))
      ∙ ap (λ (b : Arguments). Ok (b, rest)) (pushed-is xs (first_argument (deep place x))))

  listed_reads : (xs : List Expr) (ts rest : List Token) → AreWords ts (with_commas (map expr_words xs)) → SuitAll place brackets room xs → Stops 0 rest
      → next (is (codes ",")) rest ≡ false → next (is (codes ")")) rest ≡ true → listed inner (ts ++ rest) ≡ Ok (args xs, rest)
  unfolding listed
  listed_reads [] ts rest h suit stops fails closes = rw (nothing ts h, closes) refl
  listed_reads (x ∷ xs) ts rest h suit stops fails closes =
      rw (expr_fails place x (codes ")") ts rest (behind_commas (map expr_words xs)) h not_close) (some_read x xs ts rest h suit stops fails)

  -- the arguments with their parentheses, and what is read behind them
  pub arguments_then : {B : Type 0} (xs : List Expr) (ws : List Word) (ts rest : List Token) (result : Result (B × List Token) ℕ) (g : Arguments → Reader B)
      → AreWords ts (Fixed (codes "(") ∷ (with_commas (map expr_words xs) ++ Fixed (codes ")") ∷ ws)) → SuitAll place brackets room xs
      → ((us : List Token) → AreWords us ws → g (args xs) (us ++ rest) ≡ result) → (arguments inner >>= g) (ts ++ rest) ≡ result
  unfolding arguments
  arguments_then xs ws ts rest result g h suit goes =
      bind_assoc (word (codes "(") (ts ++ rest)) (λ o. listed inner >>= λ read. word (codes ")") >>= λ c. give read) g
      ∙ word_then rest result (codes "(") (with_commas (map expr_words xs) ++ Fixed (codes ")") ∷ ws) ts (λ o us. onward ((listed inner >>= λ read. word (codes ")") >>= λ c. give read) us) g) h (λ line us k.
      bind_assoc (listed inner (us ++ rest)) (λ read. word (codes ")") >>= λ c. give read) g
      ∙ part_then rest result (listed inner) (args xs) (with_commas (map expr_words xs)) (Fixed (codes ")") ∷ ws) us (λ read vs. onward ((word (codes ")") >>= λ c. give read) vs) g) k
      (λ front more p q. listed_reads xs front (more ++ rest) p suit (stops_before 0 (codes ")") more rest ws (stop_close 0) q)
      (head_fails (codes ")") (codes ",") more rest ws q refl) (head_passes (codes ")") more rest ws q))
      (λ vs m. bind_assoc (word (codes ")") (vs ++ rest)) (λ c. give (args xs)) g
      ∙ word_then rest result (codes ")") ws vs (λ c us. onward (give (args xs) us) g) m (λ l ys n. goes ys n)))
