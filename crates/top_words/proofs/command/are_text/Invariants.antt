use Rattle.std.proofs.Common.{◌≡◌, drop}
use Rattle.std.specs.List.{list_all}
use Rattle.std.specs.Str.{is_utf8}
use Rattle.top_words.proofs.command.are_text.Given as goal

-- the words to come are UTF-8 exactly where all are
abbrev pub invariant-loop-word : goal.invariant-loop-word
invariant-loop-word l = list_all is_utf8 (drop l.word-index l.words) ≡ list_all is_utf8 l.words
