-- The tokens from a place on, by the piece that begins there.
use Rattle.std.proofs.Common.{◌≡◌, ℕ, zero, suc, ◌+◌, ◌-◌, ◌<◌, ◌≤◌, List, [], ◌∷◌, ◌++◌, length, drop, get_or, Result, Ok, Err, sym, refl, ap, ◌∙◌, append_assoc, append-nil, subst, add-zero, arith, length-drop}
use Rattle.std.proofs.lemmas.List.{drop_all, drop_more, drop-drop}
use Rattle.script_text.specs.declared.piece.Piece.{Piece}
use Rattle.script_text.specs.declared.token.Token.{Token}
use Rattle.script_text.specs.declared.syntax.Syntax.{Syntax}
use Rattle.script_text.specs.declared.syntax.SyntaxError.{SyntaxError}
use Rattle.script_text.specs.declared.syntax.SyntaxError.TheVariants.{Fault, NoMemory}
use Rattle.script_text.specs.Pieces.{size, first_piece, pieces}
use Rattle.script_text.specs.Tokens.{before, with_piece, tokens_among, tokens_of}
use Rattle.script_text.specs.Reading.{IsFaultOf}
use Rattle.script_text.specs.Rest.{tokens_from, after, IsPieceAt}
use Rattle.script_text.proofs.Short.{short_first}
use Rattle.script_text.proofs.Sizes.{Sized, first_sized}

-- covered bytes begin no piece
covered_skips : (covered place : ℕ) (text : List ℕ) → pieces covered place text ≡ pieces 0 (place + covered) (drop covered text)
unfolding pieces
covered_skips zero place text = ap (λ p. pieces 0 p text) (sym (add-zero place))
covered_skips (suc covered) place [] = refl
covered_skips (suc covered) place (b ∷ bs) =
    let same : place + 1 + covered ≡ place + suc covered = omega arith in
    covered_skips covered (place + 1) bs ∙ ap (λ p. pieces 0 p (drop covered bs)) same

-- what lies behind the first n bytes, but for the first of them, lies behind n bytes from the place on
pub rest_behind : (text : List ℕ) (place b : ℕ) (bs : List ℕ) (n : ℕ) → 1 ≤ n → drop place text ≡ b ∷ bs → drop (n - 1) bs ≡ drop (place + n) text
rest_behind text place b bs zero some is = absurd (omega arith)
rest_behind text place b bs (suc n) some is =
    let one_less : suc n - 1 ≡ n = omega arith in
    rw one_less (ap (λ t. drop (suc n) t) (sym is) ∙ drop-drop (suc n) place text)

-- at the first byte of a piece
pub piece_first : (text : List ℕ) (place b : ℕ) (bs : List ℕ) → 1 ≤ size (first_piece (b ∷ bs)) → drop place text ≡ b ∷ bs
    → tokens_from text place ≡ with_piece text place (first_piece (b ∷ bs)) (tokens_from text (place + size (first_piece (b ∷ bs))))
unfolding tokens_from tokens_among pieces
piece_first text place b bs some is =
    let n = size (first_piece (b ∷ bs)) in
    let at : place + 1 + (n - 1) ≡ place + n = omega arith in
    let rest : drop (n - 1) bs ≡ drop (place + n) text = rest_behind text place b bs n some is in
    ap (λ t. tokens_among text (pieces 0 place t)) is
    ∙ ap (λ ps. with_piece text place (first_piece (b ∷ bs)) (tokens_among text ps))
    (covered_skips (n - 1) (place + 1) bs ∙ ap (λ p. pieces 0 p (drop (n - 1) bs)) at ∙ ap (λ t. pieces 0 (place + n) t) rest)

-- the piece that begins at a place
pub piece_at : (text : List ℕ) (from : ℕ) (piece : Piece) → piece ≡ first_piece (drop from text) → from < length text → IsPieceAt text from piece
piece_at text from piece is more =
    let b : ℕ = get_or text from 0 in
    let bs : List ℕ = drop (from + 1) text in
    let rest : drop from text ≡ b ∷ bs = drop_more text from 0 more in
    let first : first_piece (b ∷ bs) ≡ piece = sym (is ∙ ap first_piece rest) in
    let sized : Sized (first_piece (b ∷ bs)) (length (b ∷ bs)) = first_sized b bs in
    let left : length (b ∷ bs) ≡ length text - from = ap length (sym rest) ∙ length-drop from text in
    let P : Piece → Type 0 = λ p. IsPieceAt text from p in
    subst P first (record {
      some = sized.some;
      within = omega (arith, sized.within);
      short = short_first (b ∷ bs);
      tokens = piece_first text from b bs sized.some rest;
    })

-- a token that is read goes behind those that were read before
pub after_before : (tokens : List Token) (token : Token) (read : Result (List Token) Syntax) → after (tokens ++ token ∷ []) read ≡ after tokens (before token read)
after_before tokens token (Ok more) = ap Ok (append_assoc tokens (token ∷ []) more)
after_before tokens token (Err fault) = refl

-- a fault behind what was read is the fault of the whole
pub fault_of_whole : (tokens : List Token) (read whole : Result (List Token) Syntax) (error : SyntaxError) → after tokens read ≡ whole → IsFaultOf read error → IsFaultOf whole error
fault_of_whole tokens read whole (Fault fault) e is = sym e ∙ ap (after tokens) is
fault_of_whole tokens read whole NoMemory e is = tt

-- where the text ends there are no more tokens
pub tokens_at_end : (text : List ℕ) (place : ℕ) → length text ≤ place → tokens_from text place ≡ Ok []
unfolding tokens_from tokens_among pieces
tokens_at_end text place ends = ap (λ t. tokens_among text (pieces 0 place t)) (drop_all place text ends)

-- behind no tokens
pub after_none : (read : Result (List Token) Syntax) → after [] read ≡ read
after_none (Ok more) = refl
after_none (Err fault) = refl

-- from the start on there are all
pub tokens_from_start : (text : List ℕ) → after [] (tokens_from text 0) ≡ tokens_of text
unfolding tokens_from tokens_of
tokens_from_start text = after_none (tokens_among text (pieces 0 0 text))

-- at the end of the text all its tokens were read
pub all_read : (text : List ℕ) (tokens : List Token) (place : ℕ) → after tokens (tokens_from text place) ≡ tokens_of text → length text ≤ place → tokens_of text ≡ Ok tokens
all_read text tokens place is ends = sym is ∙ ap (after tokens) (tokens_at_end text place ends) ∙ ap Ok (append-nil tokens)
