-- The fault is at the first token that can't go on.
use Rattle.std.proofs.Common.{◌≡◌, ℕ, suc, ◌+◌, List, [], ◌∷◌, ◌++◌, length, Result, Ok, Err, refl, sym, ap, subst, ◌∙◌, append_assoc, arith, inl, inr}
use Rattle.std.proofs.lemmas.List.{append-nil}
use Rattle.std.specs.Prelude.{IfErr}
use Rattle.script_text.specs.declared.token.Token.{Token}
use Rattle.script_text.specs.declared.syntax.SyntaxError.{SyntaxError}
use Rattle.script_text.specs.declared.syntax.SyntaxError.TheVariants.{Fault, NoMemory}
use Rattle.class_defs.specs.declared.statements.Stmt.{Stmt}
use Rattle.class_defs.specs.declared.declarations.Declarations.{Declarations}
use Rattle.class_defs.specs.declared.places.Place.TheVariants.{Item}
use Rattle.class_defs.specs.Grammar.{max_nesting}
use Rattle.method_parse.specs.Reader.{Reader}
use Rattle.method_parse.specs.Setups.{whole, block_of, setup_of, setup}
use Rattle.method_parse.specs.Statements.{block_in}
use Rattle.method_parse.specs.Texts.{SpellsBlock, SpellsSetup, Begins, line_at, fault_line, IsFaultAt, IsFaultOf, Answers, IsErrorOf}
use Rattle.method_parse.proofs.Lawful.{Says, Reads}
use Rattle.method_parse.proofs.Ends.{whole_stopped, left_is, SaysBlock, SaysSetup, lawful_item, lawful_declarations}
use Rattle.method_parse.proofs.Only.{block_is_read, setup_is_read}
use Rattle.method_parse.proofs.Local.{Same, Local}
use Rattle.method_parse.proofs.LocalReaders.{local_block, local_setup}

module _ {X : Type 0} (S : Says X) (reader : Reader X) (local : Local reader) (reads : (tokens : List Token) → Reads S tokens (reader tokens))
    (only : (tokens : List Token) (x : X) → S x tokens → reader tokens ≡ Ok (x, [])) where
  abbrev Spelt : List Token → X → Type 0
  Spelt tokens x = S x tokens

  same_number : (n m : ℕ) (r : Result X ℕ) → r ≡ Err n → r ≡ Err m → n ≡ m
  same_number n m r p q = cc

  -- what is left behind a value
  abbrev left_over : Result (X × List Token) ℕ → List Token
  left_over (Ok read) = read.1
  left_over (Err left) = []

  not_nothing : (x y : X) (mid : List Token) (t : Token) (other : List Token) (o : Result (X × List Token) ℕ) → o ≡ Ok (y, mid ++ t ∷ other) → o ≡ Ok (x, []) → ⊥
  not_nothing x y [] t other o p q = let e : t ∷ other ≡ [] = ap left_over (sym p ∙ q) in absurd cc
  not_nothing x y (m ∷ mid) t other o p q = let e : m ∷ (mid ++ t ∷ other) ≡ [] = ap left_over (sym p ∙ q) in absurd cc

  not_both : (x : X) (n : ℕ) (o : Result (X × List Token) ℕ) → o ≡ Err n → o ≡ Ok (x, []) → ⊥
  not_both x n o p q = cc

  -- no value is read behind a front where reading stops
  no_value : (t : Token) (post other : List Token) (r o : Result (X × List Token) ℕ) (x : X) → Same t post other r o → whole r ≡ Err (suc (length post)) → o ≡ Ok (x, []) → ⊥
  no_value t post other (Ok (y, [])) o x same h is = cc
  no_value t post other (Ok (y, u ∷ us)) o x (inl le) h is =
      let n : length (u ∷ us) ≡ suc (length post) = same_number (length (u ∷ us)) (suc (length post)) (Err (length (u ∷ us))) refl h in
      omega arith
  no_value t post other (Ok (y, u ∷ us)) o x (inr k) h is = not_nothing x y k.0 t other o k.2 is
  no_value t post other (Err left) o x (inl le) h is =
      let n : left ≡ suc (length post) = same_number left (suc (length post)) (Err left) refl h in
      omega arith
  no_value t post other (Err left) o x (inr k) h is = not_both x (k.0 + suc (length other)) o k.2 is

  -- with the token none begins
  none_begins : (tokens before : List Token) (t : Token) (post : List Token) → tokens ≡ before ++ t ∷ post → whole (reader tokens) ≡ Err (suc (length post)) → Begins Spelt (before ++ t ∷ []) → ⊥
  none_begins tokens before t post parts stops begun =
      let regroup : (before ++ t ∷ []) ++ begun.0 ≡ before ++ t ∷ begun.0 = append_assoc before (t ∷ []) begun.0 in
      no_value t post begun.0 (reader (before ++ t ∷ post)) (reader (before ++ t ∷ begun.0)) begun.1 (local.same before t post begun.0)
      (subst (λ (u : List Token). whole (reader u) ≡ Err (suc (length post))) parts stops)
      (only (before ++ t ∷ begun.0) begun.1 (subst (λ (u : List Token). S begun.1 u) regroup begun.2))

  none_spelt : (tokens : List Token) (left : ℕ) → whole (reader tokens) ≡ Err left → (x : X) → S x tokens → ⊥
  none_spelt tokens left stops x said =
      let read : whole (reader tokens) ≡ Ok x = ap whole (only tokens x said) in
      both (whole (reader tokens)) x left read stops
    where
      both : (r : Result X ℕ) (x : X) (left : ℕ) → r ≡ Ok x → r ≡ Err left → ⊥
      both r x left p q = cc

  by_rest : (tokens before behind : List Token) (left : ℕ) → tokens ≡ before ++ behind → left ≡ length behind → Begins Spelt before → whole (reader tokens) ≡ Err left → IsFaultAt Spelt tokens (line_at tokens behind)
  by_rest tokens before [] left parts at begins stops = inr (record {
    begins = subst (λ (u : List Token). Begins Spelt u) (sym (parts ∙ append-nil before)) begins;
    none = none_spelt tokens left stops;
    on_line = refl;
  })
  by_rest tokens before (t ∷ post) left parts at begins stops = inl (record {
    before = before;
    token = t;
    behind = post;
    parts = parts;
    begins = begins;
    ends = none_begins tokens before t post parts (stops ∙ ap (λ (n : ℕ). Err n) at);
    on_line = refl;
  })

  fault_at : (tokens : List Token) (left : ℕ) → whole (reader tokens) ≡ Err left → IsFaultAt Spelt tokens (fault_line tokens left)
  fault_at tokens left stops =
      let s = whole_stopped S tokens (reader tokens) left (reads tokens) stops in
      subst (λ (n : ℕ). IsFaultAt Spelt tokens n) (ap (line_at tokens) (sym (left_is S tokens s.before s.behind left s.parts s.at)))
      (by_rest tokens s.before s.behind left s.parts s.at s.begins stops)

  error_at : (tokens : List Token) (e : SyntaxError) → IsErrorOf tokens (whole (reader tokens)) e → IsFaultOf Spelt tokens e
  error_at tokens (Fault f) error = subst (λ (n : ℕ). IsFaultAt Spelt tokens n) (sym error.2) (fault_at tokens error.0 error.1)
  error_at tokens NoMemory error = tt

  pub answered_fault : (tokens : List Token) (result : Result X SyntaxError) → Answers tokens result (whole (reader tokens)) → IfErr result (IsFaultOf Spelt tokens)
  answered_fault tokens (Ok x) answers = tt
  answered_fault tokens (Err e) answers = error_at tokens e answers

pub block_fault : (tokens : List Token) (result : Result (List Stmt) SyntaxError) → Answers tokens result (block_of tokens) → IfErr result (IsFaultOf SpellsBlock tokens)
unfolding block_of
block_fault tokens result answers = answered_fault SaysBlock (block_in Item max_nesting) (local_block Item max_nesting) lawful_item.reads (λ ts x said. block_is_read ts x said) tokens result answers

pub setup_fault : (tokens : List Token) (result : Result Declarations SyntaxError) → Answers tokens result (setup_of tokens) → IfErr result (IsFaultOf SpellsSetup tokens)
unfolding setup_of
setup_fault tokens result answers = answered_fault SaysSetup setup local_setup lawful_declarations.reads (λ ts x said. setup_is_read ts x said) tokens result answers
