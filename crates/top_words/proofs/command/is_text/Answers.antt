use Rattle.std.proofs.Common.{◌≡◌, Bool, true, false, List, ℕ, refl, sym}
use Rattle.std.proofs.lemmas.Str.{IsUtf8-from_is_utf8, is_utf8-from_IsUtf8}
use Rattle.std.specs.Str.{IsUtf8, is_utf8}
use Rattle.top_words.proofs.command.is_text.Goals as goal

refused : (bytes : List ℕ) (b : Bool) → is_utf8 bytes ≡ b → (IsUtf8 bytes → ⊥) → false ≡ b
refused bytes true is none = absurd (none (IsUtf8-from_is_utf8 bytes is))
refused bytes false is none = refl

pub returns-in-Ok : goal.returns-in-Ok
returns-in-Ok c = sym (is_utf8-from_IsUtf8 c.args.word.now c.in-Ok.ensures.cases.1)

pub returns-in-Err : goal.returns-in-Err
returns-in-Err c = refused c.args.word.now (is_utf8 c.args.word.now) refl c.in-Err.ensures.cases.0
