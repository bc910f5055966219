-- Reading from left to right: each reader takes tokens from the front, or is stuck with as many tokens
-- left as stand from the fault on. This is how the parser works; what it reads is said by the grammar.
use Rattle.std.specs.Prelude.{◌≡◌, ℕ, zero, suc, Bool, false, cond, List, [], ◌∷◌, length, Option, Some, None, Result, Ok, Err, if◌then◌else◌}
use Rattle.class_defs.specs.declared.expressions.Name.{Name}
use Rattle.class_defs.specs.declared.expressions.TypeName.{TypeName}
use Rattle.class_defs.specs.declared.expressions.TypeName.TheVariants as type_name
use Rattle.script_text.specs.declared.token.Token.{Token}
use Rattle.script_text.specs.Marks.{number_in, text_in}
use Rattle.method_parse.specs.declared.error.ParseError.{ParseError}
use Rattle.method_parse.specs.declared.error.ParseError.TheVariants as errors
use Rattle.method_parse.specs.Matching.{is_name, is}
use Rattle.std.specs.Prelude.{codes}

abbrev pub Reader : Type 0 → Type 0
Reader X = List Token → Result (X × List Token) ℕ

-- what is read behind a value
abbrev pub onward : {A B : Type 0} → Result (A × List Token) ℕ → (A → Reader B) → Result (B × List Token) ℕ
onward (Ok read) next = next read.0 read.1
onward (Err left) next = Err left

infixl 10 ◌>>=◌
abbrev pub ◌>>=◌ : {A B : Type 0} → Reader A → (A → Reader B) → Reader B
(read >>= next) = λ tokens. onward (read tokens) next

-- a value that takes no token
abbrev pub give : {X : Type 0} → X → Reader X
give x = λ tokens. Ok (x, tokens)

-- no token can stand here
abbrev pub stuck : {X : Type 0} → Reader X
stuck = λ tokens. Err (length tokens)

-- one token, and what it says
abbrev pub taken : {X : Type 0} → Option X → Token → List Token → Result (X × List Token) ℕ
taken (Some x) token tokens = Ok (x, tokens)
taken None token tokens = Err (length (token ∷ tokens))

abbrev pub take_by : {X : Type 0} → (Token → Option X) → Reader X
take_by says [] = Err 0
take_by says (token ∷ tokens) = taken (says token) token tokens

-- a keyword or symbol, with its line
unfoldable pub word : List ℕ → Reader ℕ
word text = take_by (λ token. if is text token then Some token.line else None)

abbrev pub name_in : Token → Option Name
name_in token = if is_name token then Some (record { text = token.text; line = token.line }) else None

unfoldable pub name : Reader Name
name = take_by name_in

abbrev pub with_line : {X : Type 0} → Option X → ℕ → Option (X × ℕ)
with_line (Some x) line = Some (x, line)
with_line None line = None

-- a number, with its line
unfoldable pub number : Reader (ℕ × ℕ)
number = take_by (λ token. with_line (number_in token) token.line)

-- the text of a text literal, with its line
unfoldable pub quoted : Reader (List ℕ × ℕ)
quoted = take_by (λ token. with_line (text_in token) token.line)

abbrev pub type_in : Token → Option TypeName
type_in token =
    if is (codes "int") token then Some (type_name.Int token.line)
    else (if is_name token then Some (type_name.Class (record { text = token.text; line = token.line })) else None)

unfoldable pub type_word : Reader TypeName
type_word = take_by type_in

-- whether there is a next token, and it passes a test
abbrev pub next : (Token → Bool) → List Token → Bool
next test [] = false
next test (token ∷ tokens) = test token

abbrev pub if_next : {X : Type 0} → (Token → Bool) → Reader X → Reader X → Reader X
if_next test one other = λ tokens. cond (next test tokens) (one tokens) (other tokens)

-- step after step while the next token passes the test, at most n times
unfoldable pub repeat : {X : Type 0} → ℕ → (X → Token → Bool) → (X → Reader X) → X → Reader X
repeat zero test step x = give x
repeat (suc n) test step x = if_next (test x) (step x >>= repeat n test step) (give x)

-- as often as there are tokens: each step takes one
abbrev pub repeat_all : {X : Type 0} → (X → Token → Bool) → (X → Reader X) → X → Reader X
repeat_all test step x = λ tokens. repeat (length tokens) test step x tokens

-- What a call answered is what reading gives, unless memory ran out.
abbrev pub Fails : {Y : Type 0} → ParseError → Result Y ℕ → Type 0
Fails errors.NoMemory read = Unit {0}
Fails (errors.Stuck left) read = read ≡ Err left

abbrev pub Gives : {X Y : Type 0} → (X → Y) → Result X ParseError → Result Y ℕ → Type 0
Gives view (Ok x) read = read ≡ Ok (view x)
Gives view (Err error) read = Fails error read
