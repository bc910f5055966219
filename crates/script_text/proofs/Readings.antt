-- The tokens of a text are those of its one reading.
use Rattle.std.proofs.Common.{◌≡◌, ℕ, zero, suc, ◌+◌, ◌-◌, ◌≤◌, List, [], ◌∷◌, ◌++◌, length, take, drop, Result, Ok, Err, refl, sym, ap, ◌∙◌, subst, arith, append_assoc, append-nil, length-append, take-append-drop}
use Rattle.std.specs.Prelude.{slice_range}
use Rattle.std.specs.List.{flat_map}
use Rattle.std.proofs.lemmas.List.{drop-drop, length-take-le}
use Rattle.script_text.specs.declared.token.TokenKind.{TokenKind}
use Rattle.script_text.specs.declared.token.Token.{Token}
use Rattle.script_text.specs.declared.syntax.Syntax.{Syntax}
use Rattle.script_text.specs.declared.piece.Piece.{Piece}
use Rattle.script_text.specs.declared.piece.Piece.TheVariants.{Gap, Lexeme as Piece_Lexeme, NoToken}
use Rattle.script_text.specs.Pieces.{size, first_piece, pieces}
use Rattle.script_text.specs.Tokens.{token_at, line_at, before, with_piece, tokens_among, tokens_of}
use Rattle.script_text.specs.Grammar.{Part, Separator, Comment, Lexeme, bytes_of, IsPart, AreParts, tokens_in, AreTokensOf, BeginsNothing, StopsAt}
use Rattle.script_text.proofs.Sizes.{Sized, first_sized}
use Rattle.script_text.proofs.Firsts.{IsGap, FirstPart, first_part, nothing_begins}

-- the rest of a text, from a place on, is parts, and these are its tokens
record ReadsAll (text : List ℕ) (place : ℕ) (rest : List ℕ) (tokens : List Token) : Type 0 where
  parts : List Part
  each : AreParts parts []
  whole : flat_map bytes_of parts ≡ rest
  tokens_are : tokens ≡ tokens_in text place parts

-- or it is parts up to where nothing begins
record ReadsUpTo (text : List ℕ) (place : ℕ) (rest : List ℕ) (fault : Syntax) : Type 0 where
  parts : List Part
  first : ℕ
  others : List ℕ
  each : AreParts parts (first ∷ others)
  whole : flat_map bytes_of parts ++ first ∷ others ≡ rest
  nothing : BeginsNothing (first ∷ others)
  line : fault.line ≡ line_at text (place + length (flat_map bytes_of parts))

abbrev Reads : List ℕ → ℕ → List ℕ → Result (List Token) Syntax → Type 0
Reads text place rest (Ok tokens) = ReadsAll text place rest tokens
Reads text place rest (Err fault) = ReadsUpTo text place rest fault

-- a separator or a comment has no token
gap_tokens : (text : List ℕ) (place : ℕ) (part : Part) (parts : List Part) → IsGap part → tokens_in text place (part ∷ parts) ≡ tokens_in text (place + length (bytes_of part)) parts
gap_tokens text place (Separator b) parts gap = refl
gap_tokens text place (Comment body) parts gap = refl
gap_tokens text place (Lexeme kind bytes) parts gap = absurd gap

module _ (text : List ℕ) (place n : ℕ) (front : List ℕ) (fits : n ≤ length front) where
  -- a part before what was read up to where nothing begins
  part_reads_up_to : (part : Part) → bytes_of part ≡ take n front → IsPart part (drop n front) → (fault : Syntax)
      → ReadsUpTo text (place + n) (drop n front) fault → ReadsUpTo text place front fault
  part_reads_up_to part bytes is fault r =
      let behind : List ℕ = r.first ∷ r.others in
      let long : length (bytes_of part) ≡ n = ap length bytes ∙ length-take-le n front fits in
      let further : place + n + length (flat_map bytes_of r.parts) ≡ place + length (flat_map bytes_of (part ∷ r.parts)) =
      omega (arith, long, length-append (bytes_of part) (flat_map bytes_of r.parts)) in
      record {
        parts = part ∷ r.parts;
        first = r.first;
        others = r.others;
        each = (subst (IsPart part) (sym r.whole) is, r.each);
        whole = append_assoc (bytes_of part) (flat_map bytes_of r.parts) behind ∙ ap (λ l. bytes_of part ++ l) r.whole ∙ ap (λ l. l ++ drop n front) bytes ∙ take-append-drop n front;
        nothing = r.nothing;
        line = r.line ∙ ap (line_at text) further;
      }

  -- a gap before what was read
  gap_reads : (part : Part) → IsGap part → bytes_of part ≡ take n front → IsPart part (drop n front) → (read : Result (List Token) Syntax)
      → Reads text (place + n) (drop n front) read → Reads text place front read
  gap_reads part gap bytes is (Ok tokens) r =
      let long : length (bytes_of part) ≡ n = ap length bytes ∙ length-take-le n front fits in
      let behind : flat_map bytes_of r.parts ++ [] ≡ drop n front = append-nil (flat_map bytes_of r.parts) ∙ r.whole in
      record {
        parts = part ∷ r.parts;
        each = (subst (IsPart part) (sym behind) is, r.each);
        whole = ap (λ l. bytes_of part ++ l) r.whole ∙ ap (λ l. l ++ drop n front) bytes ∙ take-append-drop n front;
        tokens_are = r.tokens_are ∙ ap (λ m. tokens_in text (place + m) r.parts) (sym long) ∙ sym (gap_tokens text place part r.parts gap);
      }
  gap_reads part gap bytes is (Err fault) r = part_reads_up_to part bytes is fault r

  -- the token of the bytes there
  abbrev here : TokenKind → List ℕ → ℕ → Token
  here kind bytes to = record { kind = kind; text = bytes; line = line_at text place; from = place; to = to }

  -- a token before what was read
  token_reads : (kind : TokenKind) → front ≡ drop place text → IsPart (Lexeme kind (take n front)) (drop n front) → (read : Result (List Token) Syntax)
      → Reads text (place + n) (drop n front) read → Reads text place front (before (token_at text kind place (place + n)) read)
  token_reads kind at is (Ok tokens) r =
      let long : length (take n front) ≡ n = length-take-le n front fits in
      let behind : flat_map bytes_of r.parts ++ [] ≡ drop n front = append-nil (flat_map bytes_of r.parts) ∙ r.whole in
      let width : place + n - place ≡ n = omega arith in
      let slice : slice_range text place (place + n) ≡ take n front = ap (λ m. take m (drop place text)) width ∙ ap (take n) (sym at) in
      let end : place + n ≡ place + length (take n front) = omega (arith, long) in
      let token = ap (λ l. here kind l (place + n)) slice ∙ ap (λ m. here kind (take n front) m) end in
      record {
        parts = Lexeme kind (take n front) ∷ r.parts;
        each = (subst (IsPart (Lexeme kind (take n front))) (sym behind) is, r.each);
        whole = ap (λ l. take n front ++ l) r.whole ∙ take-append-drop n front;
        tokens_are = ap (λ t. t ∷ tokens) token ∙ ap (λ l. here kind (take n front) (place + length (take n front)) ∷ l) (r.tokens_are ∙ ap (λ m. tokens_in text (place + m) r.parts) (sym long));
      }
  token_reads kind at is (Err fault) r = part_reads_up_to (Lexeme kind (take n front)) refl is fault r

-- the piece that begins there before what was read
piece_reads : (text : List ℕ) (place : ℕ) (front : List ℕ) (piece : Piece) (read : Result (List Token) Syntax) → front ≡ drop place text → FirstPart piece front
    → (piece ≡ NoToken → ReadsUpTo text place front (record { line = line_at text place })) → size piece ≤ length front
    → Reads text (place + size piece) (drop (size piece) front) read → Reads text place front (with_piece text place piece read)
piece_reads text place front (Gap n) read at (part, gap, bytes, is) none fits r = gap_reads text place n front fits part gap bytes is read r
piece_reads text place front (Piece_Lexeme kind n) read at is none fits r = token_reads text place n front fits kind at is read r
piece_reads text place front NoToken read at is none fits r = none refl

-- behind the first byte there are all but one
all_but_one : (n b : ℕ) (bs : List ℕ) → 1 ≤ n → drop (n - 1) bs ≡ drop n (b ∷ bs)
all_but_one zero b bs some = absurd (omega arith)
all_but_one (suc n) b bs some =
    let one_less : suc n - 1 ≡ n = omega arith in
    rw one_less refl

-- behind the first byte stands the rest
behind_first : (text : List ℕ) (place b : ℕ) (bs : List ℕ) → b ∷ bs ≡ drop place text → bs ≡ drop (place + 1) text
behind_first text place b bs at = ap (λ l. drop 1 l) at ∙ drop-drop 1 place text

-- what is read of the rest of a text is its reading
reads : (text : List ℕ) (covered place : ℕ) (rest : List ℕ) → rest ≡ drop place text → covered ≤ length rest
    → Reads text (place + covered) (drop covered rest) (tokens_among text (pieces covered place rest))
unfolding tokens_among pieces
reads text zero place [] at fits = record { parts = []; each = tt; whole = refl; tokens_are = refl }
reads text (suc covered) place [] at fits = absurd (omega arith)
reads text (suc covered) place (b ∷ bs) at fits =
    let further : place + 1 + covered ≡ place + suc covered = omega arith in
    let P : ℕ → Type 0 = λ p. Reads text p (drop covered bs) (tokens_among text (pieces covered (place + 1) bs)) in
    subst P further (reads text covered (place + 1) bs (behind_first text place b bs at) (omega arith))
reads text zero place (b ∷ bs) at fits =
    let piece : Piece = first_piece (b ∷ bs) in
    let n : ℕ = size piece in
    let sized : Sized piece (length (b ∷ bs)) = first_sized b bs in
    let read : Result (List Token) Syntax = tokens_among text (pieces (n - 1) (place + 1) bs) in
    let further : place + 1 + (n - 1) ≡ place + n = omega (arith, sized.some) in
    let start : place ≡ place + 0 = omega arith in
    let behind : Reads text (place + 1 + (n - 1)) (drop (n - 1) bs) read = reads text (n - 1) (place + 1) bs (behind_first text place b bs at) (omega (arith, sized.within)) in
    let there : Reads text (place + n) (drop n (b ∷ bs)) read =
    subst (λ l. Reads text (place + n) l read) (all_but_one n b bs sized.some) (subst (λ p. Reads text p (drop (n - 1) bs) read) further behind) in
    subst (λ p. Reads text p (b ∷ bs) (with_piece text place piece read)) start
    (piece_reads text place (b ∷ bs) piece read at (first_part b bs)
    (λ none. record {
      parts = [];
      first = b;
      others = bs;
      each = tt;
      whole = refl;
      nothing = nothing_begins (b ∷ bs) none;
      line = ap (line_at text) start;
    })
    sized.within there)

-- tokens are those of a reading
pub is_reading : (text : List ℕ) (tokens : List Token) → tokens_of text ≡ Ok tokens → AreTokensOf text tokens
unfolding tokens_of
is_reading text tokens is =
    let all : Reads text 0 text (Ok tokens) = subst (Reads text 0 text) is (reads text 0 0 text refl (omega arith)) in
    record { parts = all.parts; each = all.each; whole = all.whole; tokens_are = all.tokens_are }

-- a fault is where a reading stops
pub is_stop : (text : List ℕ) (fault : Syntax) → tokens_of text ≡ Err fault → StopsAt text fault
unfolding tokens_of
is_stop text fault is =
    let part : Reads text 0 text (Err fault) = subst (Reads text 0 text) is (reads text 0 0 text refl (omega arith)) in
    let n : ℕ = length (flat_map bytes_of part.parts) in
    let place : 0 + n ≡ n = omega arith in
    record {
      parts = part.parts;
      first = part.first;
      others = part.others;
      each = part.each;
      whole = part.whole;
      nothing = part.nothing;
      line = part.line ∙ ap (line_at text) place;
    }
