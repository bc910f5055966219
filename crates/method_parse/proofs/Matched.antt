-- How tokens and words go together.
use Rattle.std.proofs.Common.{◌≡◌, ℕ, Bool, true, false, cond, List, [], ◌∷◌, ◌++◌, Option, Some, None, pos, refl, ap, subst}
use Rattle.std.specs.Prelude.{codes, ◌&&◌, option_map}
use Rattle.std.specs.Str.{bytes_eq}
use Rattle.std.proofs.lemmas.Slice.Eq.{bytes_eq-Decides}
use Rattle.std.proofs.lemmas.Option.{cond_some}
use Rattle.std.proofs.lemmas.Bool.{and_parts}
use Rattle.script_text.specs.declared.token.Token.{Token}
use Rattle.script_text.specs.declared.token.TokenKind.{TokenKind}
use Rattle.script_text.specs.declared.token.TokenKind.TheVariants as kinds
use Rattle.class_defs.specs.declared.expressions.Name.{Name}
use Rattle.class_defs.specs.declared.expressions.TypeName.{TypeName}
use Rattle.class_defs.specs.declared.expressions.TypeName.TheVariants as types
use Rattle.class_defs.specs.Words.{Word, Fixed, FixedAt, Numbered, Quoted, name_word}
use Rattle.class_defs.specs.Spelling as spelling
use Rattle.script_text.specs.Marks.{number_in, text_in}
use Rattle.method_parse.specs.Matching.{AreWords, is, is_name, is_fixed_kind}
use Rattle.method_parse.specs.Reader.{taken, take_by, word, name, name_in, number, quoted, with_line, type_word, type_in}
use Rattle.method_parse.proofs.Lawful.{Says, Reads, Some_text, Lawful}

-- words behind words
pub join : (ts us : List Token) (ws vs : List Word) → AreWords ts ws → AreWords us vs → AreWords (ts ++ us) (ws ++ vs)
join [] us [] vs a b = b
join [] us (w ∷ ws) vs a b = absurd a
join (t ∷ ts) us [] vs a b = absurd a
join (t ∷ ts) us (w ∷ ws) vs a b = (a.0, join ts us ws vs a.1 b)

-- a word on a line is a word
pub plain : (ts : List Token) (text : List ℕ) (line : ℕ) → AreWords ts (FixedAt text line ∷ []) → AreWords ts (Fixed text ∷ [])
plain [] text line h = absurd h
plain (t ∷ ts) text line h = ((h.0.0, h.0.1), h.1)

abbrev pub SaysWord : List ℕ → Says ℕ
SaysWord text line ts = AreWords ts (FixedAt text line ∷ [])

abbrev pub SaysName : Says Name
SaysName n ts = AreWords ts (name_word n ∷ [])

abbrev pub SaysNumber : Says (ℕ × ℕ)
SaysNumber n ts = AreWords ts (Numbered (pos n.0) n.1 ∷ [])

abbrev pub SaysQuoted : Says (List ℕ × ℕ)
SaysQuoted t ts = AreWords ts (Quoted t.0 t.1 ∷ [])

abbrev pub SaysType : Says TypeName
SaysType t ts = AreWords ts (spelling.type_word t ∷ [])

-- a token of a kind that has a text
abbrev token_of : TokenKind → List ℕ → Token
token_of kind text = record { kind = kind; text = text; line = 1; from = 0; to = 0 }

-- one token
module _ {X : Type 0} (S : Says X) (says : Token → Option X) (law : (t : Token) (x : X) → says t ≡ Some x → S x (t ∷ [])) (some : Some_text S) where
  reads_taken : (o : Option X) (t : Token) (ts : List Token) → says t ≡ o → Reads S (t ∷ ts) (taken o t ts)
  reads_taken (Some x) t ts e = record { front = t ∷ []; parts = refl; said = law t x e }
  reads_taken None t ts e = record { front = []; rest = t ∷ ts; more = some.text; value = some.value; parts = refl; at = refl; begins = some.said }

  reads_one : (ts : List Token) → Reads S ts (take_by says ts)
  reads_one [] = record { front = []; rest = []; more = some.text; value = some.value; parts = refl; at = refl; begins = some.said }
  reads_one (t ∷ ts) = reads_taken (says t) t ts refl

  pub lawful_one : Lawful S (take_by says)
  lawful_one = record { reads = reads_one; some = some }

-- what it means that a token is a keyword or symbol
pub is_text : (text : List ℕ) (t : Token) → is text t ≡ true → (is_fixed_kind t.kind ≡ true) × (t.text ≡ text)
is_text text t e =
    let b = and_parts (is_fixed_kind t.kind) (bytes_eq t.text text) e in
    (b.0, (bytes_eq-Decides t.text text).0 b.1)

pub lawful_word : (text : List ℕ) → Lawful (SaysWord text) (word text)
unfolding word
lawful_word text = lawful_one (SaysWord text) (λ t. cond (is text t) (Some t.line) None)
    (λ t line e. let w = cond_some (is text t) t.line line e in let i = is_text text t w.0 in ((i.0, i.1, w.1), tt))
    (record { value = 1; text = token_of kinds.Keyword text ∷ []; said = ((refl, refl, refl), tt) })

pub lawful_name : Lawful SaysName name
unfolding name
lawful_name = lawful_one SaysName name_in
    (λ t n e. let w = cond_some (is_name t) (record { text = t.text; line = t.line }) n e in
    subst (λ (m : Name). SaysName m (t ∷ [])) w.1 ((w.0, refl, refl), tt))
    (record { value = record { text = []; line = 1 }; text = token_of kinds.Name [] ∷ []; said = ((refl, refl, refl), tt) })

numbered : (t : Token) (o : Option ℕ) (n : ℕ × ℕ) → number_in t ≡ o → with_line o t.line ≡ Some n → SaysNumber n (t ∷ [])
numbered t (Some v) n e h =
    let p : (v, t.line) ≡ n = cc in
    subst (λ (m : ℕ × ℕ). SaysNumber m (t ∷ [])) p ((ap (option_map pos) e, refl), tt)
numbered t None n e h = absurd cc

pub lawful_number : Lawful SaysNumber number
unfolding number
lawful_number = lawful_one SaysNumber (λ t. with_line (number_in t) t.line)
    (λ t n e. numbered t (number_in t) n refl e)
    (record { value = (0, 1); text = token_of kinds.Number [] ∷ []; said = ((refl, refl), tt) })

texted : (t : Token) (o : Option (List ℕ)) (w : List ℕ × ℕ) → text_in t ≡ o → with_line o t.line ≡ Some w → SaysQuoted w (t ∷ [])
texted t (Some v) w e h =
    let p : (v, t.line) ≡ w = cc in
    subst (λ (m : List ℕ × ℕ). SaysQuoted m (t ∷ [])) p ((e, refl), tt)
texted t None w e h = absurd cc

pub lawful_quoted : Lawful SaysQuoted quoted
unfolding quoted
lawful_quoted = lawful_one SaysQuoted (λ t. with_line (text_in t) t.line)
    (λ t w e. texted t (text_in t) w refl e)
    (record { value = ([], 1); text = token_of kinds.Quoted [] ∷ []; said = ((refl, refl), tt) })

typed : (t : Token) (b : Bool) (ty : TypeName) → is (codes "int") t ≡ b → cond b (Some (types.Int t.line)) (cond (is_name t) (Some (types.Class (record { text = t.text; line = t.line }))) None) ≡ Some ty → SaysType ty (t ∷ [])
typed t true ty e h =
    let p : types.Int t.line ≡ ty = cc in
    let i = is_text (codes "int") t e in
    subst (λ (m : TypeName). SaysType m (t ∷ [])) p ((i.0, i.1, refl), tt)
typed t false ty e h =
    let w = cond_some (is_name t) (types.Class (record { text = t.text; line = t.line })) ty h in
    subst (λ (m : TypeName). SaysType m (t ∷ [])) w.1 ((w.0, refl, refl), tt)

pub lawful_type : Lawful SaysType type_word
unfolding type_word
lawful_type = lawful_one SaysType type_in (λ t ty e. typed t (is (codes "int") t) ty refl e)
    (record { value = types.Int 1; text = token_of kinds.Keyword (codes "int") ∷ []; said = ((refl, refl, refl), tt) })
