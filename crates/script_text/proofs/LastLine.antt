-- The line of the last token.
use Rattle.std.proofs.Common.{◌≡◌, ℕ, suc, ◌-◌, List, [], ◌∷◌, length, Some, fold, sym, ap, ◌∙◌, arith}
use Rattle.std.specs.List.{slice_get}
use Rattle.script_text.specs.declared.token.Token.{Token}
use Rattle.script_text.specs.Sections.{last_line}

-- whatever line is taken where there is no token
from_any : (line : ℕ) (ts : List Token) (t : Token) → slice_get ts (length ts - 1) ≡ Some t → fold (λ line token. token.line) line ts ≡ t.line
from_any line [] t h = absurd cc
from_any line (u ∷ []) t h = ap (λ (x : Token). x.line) (let same : u ≡ t = cc in same)
from_any line (u ∷ v ∷ ts) t h =
    let e : length (u ∷ v ∷ ts) - 1 ≡ suc (length (v ∷ ts) - 1) = omega arith in
    from_any u.line (v ∷ ts) t (sym (ap (slice_get (u ∷ v ∷ ts)) e) ∙ h)

pub last_at : (ts : List Token) (t : Token) → slice_get ts (length ts - 1) ≡ Some t → last_line ts ≡ t.line
last_at ts t h = from_any 1 ts t h
