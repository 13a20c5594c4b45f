-- Words, each once.
use Rattle.std.specs.Prelude.{ℕ, List, [], ◌∷◌, ◌++◌, if◌then◌else◌}
use Rattle.std.specs.List.{list_any}
use Rattle.std.specs.Str.{bytes_eq}

-- the words, with this one after them where it isn't one of them
abbrev pub with_word : List (List ℕ) → List ℕ → List (List ℕ)
with_word words word = if list_any (bytes_eq word) words then words else words ++ word ∷ []
