-- A text has one reading: its tokens, or its fault, are those that the definition gives.
use Rattle.std.proofs.Common.{◌≡◌, ℕ, ◌+◌, ◌-◌, ◌≤◌, List, [], ◌∷◌, ◌++◌, length, take, drop, Result, Ok, Err, refl, sym, ap, ◌∙◌, subst, arith, append_assoc, append-nil, length-append}
use Rattle.std.specs.Prelude.{slice_range}
use Rattle.std.specs.List.{flat_map}
use Rattle.std.proofs.lemmas.Bool.{false≢true}
use Rattle.std.proofs.lemmas.List.{drop-drop, drop_at, take_at}
use Rattle.script_text.specs.declared.token.TokenKind.{TokenKind}
use Rattle.script_text.specs.declared.token.TokenKind.TheVariants.{Name, Number, Keyword, Symbol, Quoted}
use Rattle.script_text.specs.declared.token.Token.{Token}
use Rattle.script_text.specs.declared.syntax.Syntax.{Syntax}
use Rattle.script_text.specs.declared.piece.Piece.{Piece}
use Rattle.script_text.specs.Pieces.{size, first_piece}
use Rattle.script_text.specs.Tokens.{line_at, before, with_piece, tokens_of}
use Rattle.script_text.specs.Grammar.{IsToken, Part, Separator, Comment, Lexeme, bytes_of, IsPart, AreParts, tokens_in, AreTokensOf, StopsAt}
use Rattle.script_text.specs.Rest.{tokens_from, after}
use Rattle.script_text.proofs.Sizes.{first_sized}
use Rattle.script_text.proofs.Behind.{piece_first, after_none, tokens_at_end, tokens_from_start}
use Rattle.script_text.proofs.Parts.{piece_for, part_piece}
use Rattle.script_text.proofs.Firsts.{no_token}

-- a token has a byte
token_some : (kind : TokenKind) (text : List ℕ) → IsToken kind text → 1 ≤ length text
token_some kind (b ∷ bs) is = omega arith
token_some Name [] is = absurd (false≢true is.0)
token_some Keyword [] is = absurd (false≢true is.0)
token_some Number [] is = absurd (false≢true is.0)
token_some Symbol [] is = absurd (false≢true is)
token_some Quoted [] is = absurd (omega (arith, ap length is.is))

-- and so has a part
part_some : (part : Part) (behind : List ℕ) → IsPart part behind → 1 ≤ length (bytes_of part)
part_some (Separator b) behind is = omega arith
part_some (Comment body) behind is = omega arith
part_some (Lexeme kind text) behind is = token_some kind text is.0

-- the piece of a part has its bytes
part_size : (part : Part) → size (piece_for part) ≡ length (bytes_of part)
part_size (Separator b) = refl
part_size (Comment body) = refl
part_size (Lexeme kind text) = refl

-- the tokens of a text that isn't empty, by what it begins with
step_at : (text : List ℕ) (place : ℕ) (rest : List ℕ) → 1 ≤ length rest → rest ≡ drop place text
    → tokens_from text place ≡ with_piece text place (first_piece rest) (tokens_from text (place + size (first_piece rest)))
step_at text place [] some at = absurd (omega arith)
step_at text place (b ∷ bs) some at = piece_first text place b bs (first_sized b bs).some (sym at)

-- by the part that it begins with
part_step : (text : List ℕ) (place : ℕ) (part : Part) (behind : List ℕ) → IsPart part behind → bytes_of part ++ behind ≡ drop place text
    → tokens_from text place ≡ with_piece text place (piece_for part) (tokens_from text (place + length (bytes_of part)))
part_step text place part behind is at =
    let some : 1 ≤ length (bytes_of part ++ behind) = omega (arith, part_some part behind is, length-append (bytes_of part) behind) in
    let P : Piece → Type 0 = λ piece. tokens_from text place ≡ with_piece text place piece (tokens_from text (place + size piece)) in
    let here : P (piece_for part) = subst P (part_piece part behind is) (step_at text place (bytes_of part ++ behind) some at) in
    here ∙ ap (λ n. with_piece text place (piece_for part) (tokens_from text (place + n))) (part_size part)

-- a token before tokens before what is read
before_after : (token : Token) (tokens : List Token) (read : Result (List Token) Syntax) → before token (after tokens read) ≡ after (token ∷ tokens) read
before_after token tokens (Ok more) = refl
before_after token tokens (Err fault) = refl

-- the token of a part is that of its slice
part_tokens : (text : List ℕ) (place : ℕ) (part : Part) (parts : List Part) (behind : List ℕ) (read : Result (List Token) Syntax) → bytes_of part ++ behind ≡ drop place text
    → with_piece text place (piece_for part) (after (tokens_in text (place + length (bytes_of part)) parts) read) ≡ after (tokens_in text place (part ∷ parts)) read
part_tokens text place (Separator b) parts behind read at = refl
part_tokens text place (Comment body) parts behind read at = refl
part_tokens text place (Lexeme kind bytes) parts behind read at =
    let n : ℕ = length bytes in
    let width : place + n - place ≡ n = omega arith in
    let slice : slice_range text place (place + n) ≡ bytes = ap (λ m. take m (drop place text)) width ∙ ap (take n) (sym at) ∙ take_at bytes behind n refl in
    let token = ap (λ l. record { kind = kind; text = l; line = line_at text place; from = place; to = place + n }) slice in
    ap (λ t. before t (after (tokens_in text (place + n) parts) read)) token ∙ before_after _ (tokens_in text (place + n) parts) read

-- what stands behind the parts of a text is read behind their tokens
parts_read : (text : List ℕ) (place : ℕ) (parts : List Part) (behind : List ℕ) → AreParts parts behind → flat_map bytes_of parts ++ behind ≡ drop place text
    → tokens_from text place ≡ after (tokens_in text place parts) (tokens_from text (place + length (flat_map bytes_of parts)))
parts_read text place [] behind are at =
    let start : place ≡ place + 0 = omega arith in
    sym (after_none (tokens_from text place)) ∙ ap (λ p. after [] (tokens_from text p)) start
parts_read text place (part ∷ parts) behind are at =
    let bytes : List ℕ = bytes_of part in
    let others : List ℕ = flat_map bytes_of parts in
    let here : bytes ++ (others ++ behind) ≡ drop place text = sym (append_assoc bytes others behind) ∙ at in
    let further : others ++ behind ≡ drop (place + length bytes) text =
    sym (drop_at bytes (others ++ behind) (length bytes) refl) ∙ ap (drop (length bytes)) here ∙ drop-drop (length bytes) place text in
    let end : place + length bytes + length others ≡ place + length (bytes ++ others) = omega (arith, length-append bytes others) in
    part_step text place part (others ++ behind) are.0 here
    ∙ ap (with_piece text place (piece_for part)) (parts_read text (place + length bytes) parts behind are.1 further)
    ∙ part_tokens text place part parts (others ++ behind) _ here
    ∙ ap (λ p. after (tokens_in text place (part ∷ parts)) (tokens_from text p)) end

pub one_reading : (text : List ℕ) (tokens : List Token) → AreTokensOf text tokens → tokens_of text ≡ Ok tokens
one_reading text tokens r =
    let n : ℕ = length (flat_map bytes_of r.parts) in
    let all : flat_map bytes_of r.parts ++ [] ≡ text = append-nil (flat_map bytes_of r.parts) ∙ r.whole in
    let ends : length text ≤ 0 + n = omega (arith, ap length r.whole) in
    sym (tokens_from_start text) ∙ after_none (tokens_from text 0)
    ∙ parts_read text 0 r.parts [] r.each all
    ∙ ap (after (tokens_in text 0 r.parts)) (tokens_at_end text (0 + n) ends)
    ∙ ap Ok (append-nil (tokens_in text 0 r.parts) ∙ sym r.tokens_are)

pub one_stop : (text : List ℕ) (fault : Syntax) → StopsAt text fault → tokens_of text ≡ Err fault
one_stop text fault s =
    let n : ℕ = length (flat_map bytes_of s.parts) in
    let rest : List ℕ = s.first ∷ s.others in
    let place : n ≡ 0 + n = omega arith in
    let there : rest ≡ drop (0 + n) text = sym (drop_at (flat_map bytes_of s.parts) rest n refl) ∙ ap (drop n) s.whole ∙ ap (λ p. drop p text) place in
    let stop : tokens_from text (0 + n) ≡ Err fault =
    step_at text (0 + n) rest (omega arith) there
    ∙ ap (λ piece. with_piece text (0 + n) piece (tokens_from text (0 + n + size (first_piece rest)))) (no_token s.first s.others s.nothing)
    ∙ ap (λ p. Err (record { line = line_at text p })) (sym place)
    ∙ ap (λ l. Err (record { line = l })) (sym s.line) in
    sym (tokens_from_start text) ∙ after_none (tokens_from text 0)
    ∙ parts_read text 0 s.parts rest s.each s.whole
    ∙ ap (after (tokens_in text 0 s.parts)) stop
