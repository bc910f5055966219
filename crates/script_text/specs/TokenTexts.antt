-- The bytes of a token as they lie in memory. This project's.
use Rattle.std.specs.Prelude.{◌≡◌, ℕ, ◌-◌, ◌≤◌, List, ◌++◌, length, take, replicate}
use Rattle.script_text.specs.declared.token_bytes.TokenText.TheInside.{Inside}

-- the most bytes of a token
abbrev pub most_token_bytes : ℕ
most_token_bytes = 34

-- bytes in their room: behind them stand zeros
abbrev pub padded : List ℕ → List ℕ
padded bytes = bytes ++ replicate (most_token_bytes - length bytes) 0

-- the bytes of what lies in memory
abbrev pub bytes_in : Inside → List ℕ
bytes_in t = take t.len t.room

-- what holds of each in memory
pub record IsPadded (t : Inside) : Type 0 where
  pub room : t.room ≡ padded (bytes_in t)
  pub len : t.len ≡ length (bytes_in t)
  pub whole : length t.room ≡ most_token_bytes
  pub few : t.len ≤ most_token_bytes
