-- What is read of all tokens.
use Rattle.std.proofs.Common.{◌≡◌, ℕ, ◌-◌, List, [], ◌∷◌, ◌++◌, length, drop, Result, Ok, Err, refl, sym, ap, subst, ◌∙◌, arith}
use Rattle.std.proofs.lemmas.List.{append-nil, length-append, drop_at}
use Rattle.std.specs.Prelude.{IfOk, IfErr}
use Rattle.script_text.specs.declared.token.Token.{Token}
use Rattle.script_text.specs.declared.syntax.SyntaxError.{SyntaxError}
use Rattle.script_text.specs.declared.syntax.SyntaxError.TheVariants.{Fault, NoMemory}
use Rattle.class_defs.specs.declared.statements.Stmt.{Stmt}
use Rattle.class_defs.specs.declared.declarations.Declarations.{Declarations}
use Rattle.class_defs.specs.declared.places.Place.TheVariants.{Item}
use Rattle.class_defs.specs.Grammar.{max_nesting}
use Rattle.method_parse.specs.Setups.{whole, block_of, setup_of, setup}
use Rattle.method_parse.specs.Statements.{block_in}
use Rattle.method_parse.specs.Texts.{SpellsBlock, SpellsSetup, Begins, line_at, fault_line, GoesUpTo, IsUpTo, Answers, IsErrorOf}
use Rattle.method_parse.proofs.Lawful.{Says, Reads, Lawful, lawful_as}
use Rattle.method_parse.proofs.StatementLaws.{lawful_block}
use Rattle.method_parse.proofs.SetupLaws.{lawful_setup}

module _ {X : Type 0} (S : Says X) where
  -- the tokens say the value
  abbrev pub Spelt : List Token → X → Type 0
  Spelt tokens x = S x tokens

  whole_found : (tokens : List Token) (r : Result (X × List Token) ℕ) (x : X) → Reads S tokens r → whole r ≡ Ok x → S x tokens
  whole_found tokens (Ok (y, [])) x took h =
      let same : y ≡ x = cc in
      subst (λ (z : X). S z tokens) same (subst (λ (t : List Token). S y t) (sym (took.parts ∙ append-nil took.front)) took.said)
  whole_found tokens (Ok (y, t ∷ ts)) x took h = absurd cc
  whole_found tokens (Err n) x broke h = absurd cc

  -- where reading stopped
  pub record Stopped (tokens : List Token) (left : ℕ) : Type 0 where
    pub before : List Token
    pub behind : List Token
    pub parts : tokens ≡ before ++ behind
    pub at : left ≡ length behind
    pub begins : Begins Spelt before

  same_number : (n left : ℕ) (read : Result X ℕ) → read ≡ Err n → read ≡ Err left → left ≡ n
  same_number n left read p q = cc

  pub whole_stopped : (tokens : List Token) (r : Result (X × List Token) ℕ) (left : ℕ) → Reads S tokens r → whole r ≡ Err left → Stopped tokens left
  whole_stopped tokens (Ok (y, [])) left took h = absurd cc
  whole_stopped tokens (Ok (y, t ∷ ts)) left took h = record {
    before = took.front;
    behind = t ∷ ts;
    parts = took.parts;
    at = same_number (length (t ∷ ts)) left (Err (length (t ∷ ts))) refl h;
    begins = ([], y, subst (λ (u : List Token). S y u) (sym (append-nil took.front)) took.said);
  }
  whole_stopped tokens (Err n) left broke h = record {
    before = broke.front;
    behind = broke.rest;
    parts = broke.parts;
    at = same_number n left (Err n) refl h ∙ broke.at;
    begins = (broke.more, broke.value, broke.begins);
  }

  -- what is left is what stands behind
  pub left_is : (tokens before behind : List Token) (left : ℕ) → tokens ≡ before ++ behind → left ≡ length behind → drop (length tokens - left) tokens ≡ behind
  left_is tokens before behind left parts at =
      let n : length (before ++ behind) - length behind ≡ length before = omega (arith, length-append before behind) in
      rw (parts, at, n) (drop_at before behind (length before) refl)

  goes_up_to : (tokens : List Token) (left : ℕ) → Stopped tokens left → GoesUpTo Spelt tokens (fault_line tokens left)
  goes_up_to tokens left stopped = record {
    before = stopped.before;
    behind = stopped.behind;
    parts = stopped.parts;
    begins = stopped.begins;
    on_line = ap (line_at tokens) (left_is tokens stopped.before stopped.behind left stopped.parts stopped.at);
  }

  pub answered_found : (tokens : List Token) (r : Result (X × List Token) ℕ) (result : Result X SyntaxError) → Reads S tokens r → Answers tokens result (whole r) → IfOk result (Spelt tokens)
  answered_found tokens r (Ok x) reads answers = whole_found tokens r x reads answers
  answered_found tokens r (Err e) reads answers = tt

  up_to : (tokens : List Token) (r : Result (X × List Token) ℕ) (e : SyntaxError) → Reads S tokens r → IsErrorOf tokens (whole r) e → IsUpTo Spelt tokens e
  up_to tokens r (Fault f) reads error =
      subst (λ (n : ℕ). GoesUpTo Spelt tokens n) (sym error.2) (goes_up_to tokens error.0 (whole_stopped tokens r error.0 reads error.1))
  up_to tokens r NoMemory reads error = tt

  pub answered_up_to : (tokens : List Token) (r : Result (X × List Token) ℕ) (result : Result X SyntaxError) → Reads S tokens r → Answers tokens result (whole r) → IfErr result (IsUpTo Spelt tokens)
  answered_up_to tokens r (Ok x) reads answers = tt
  answered_up_to tokens r (Err e) reads answers = up_to tokens r e reads answers

abbrev pub SaysBlock : Says (List Stmt)
SaysBlock block tokens = SpellsBlock tokens block

abbrev pub SaysSetup : Says Declarations
SaysSetup setup tokens = SpellsSetup tokens setup

pub lawful_item : Lawful SaysBlock (block_in Item max_nesting)
lawful_item = lawful_as (λ b ts s. (s.spelled, record { depth = s.fits.deep; nesting = s.fits.nested; proper = s.fits.proper })) (lawful_block Item max_nesting (omega arith))

pub lawful_declarations : Lawful SaysSetup setup
lawful_declarations = lawful_as (λ x ts s. (s.spelled, s.is)) lawful_setup

pub block_found : (tokens : List Token) (result : Result (List Stmt) SyntaxError) → Answers tokens result (block_of tokens) → IfOk result (SpellsBlock tokens)
unfolding block_of
block_found tokens result answers = answered_found SaysBlock tokens (block_in Item max_nesting tokens) result (lawful_item.reads tokens) answers

pub block_up_to : (tokens : List Token) (result : Result (List Stmt) SyntaxError) → Answers tokens result (block_of tokens) → IfErr result (IsUpTo SpellsBlock tokens)
unfolding block_of
block_up_to tokens result answers = answered_up_to SaysBlock tokens (block_in Item max_nesting tokens) result (lawful_item.reads tokens) answers

pub setup_found : (tokens : List Token) (result : Result Declarations SyntaxError) → Answers tokens result (setup_of tokens) → IfOk result (SpellsSetup tokens)
unfolding setup_of
setup_found tokens result answers = answered_found SaysSetup tokens (setup tokens) result (lawful_declarations.reads tokens) answers

pub setup_up_to : (tokens : List Token) (result : Result Declarations SyntaxError) → Answers tokens result (setup_of tokens) → IfErr result (IsUpTo SpellsSetup tokens)
unfolding setup_of
setup_up_to tokens result answers = answered_up_to SaysSetup tokens (setup tokens) result (lawful_declarations.reads tokens) answers
