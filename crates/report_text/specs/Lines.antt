-- How a line of the report is made of its words. This project's.
use Rattle.std.specs.Prelude.{◌≡◌, ◌≢◌, ℕ, ◌==◌, List, [], ◌∷◌, ◌++◌, All, count_by}
use Rattle.std.specs.List.{flat_map}

-- a word behind others: one space, then the word
abbrev pub spaced : List ℕ → List ℕ
spaced word = 32 ∷ word

-- words behind others, each behind one space
abbrev pub spaced_words : List (List ℕ) → List ℕ
spaced_words words = flat_map spaced words

-- a line: its first word, the others, each behind one space, and the byte that ends it
abbrev pub line : List ℕ → List (List ℕ) → List ℕ
line first others = first ++ (spaced_words others ++ 10 ∷ [])

-- how many lines end in a text
abbrev pub newlines : List ℕ → ℕ
newlines text = count_by (λ b. b == 10) text

-- one line: bytes that end no line, and then the end
abbrev pub IsOneLine : List ℕ → Type 0
IsOneLine text = (bytes : List ℕ) × (text ≡ bytes ++ 10 ∷ []) × All (λ b. b ≢ 10) bytes
