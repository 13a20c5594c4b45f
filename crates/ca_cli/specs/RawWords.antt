-- Words of the command line that aren't UTF-8, and what stands for them.
use Rattle.std.specs.Prelude.{◌≡◌, ℕ, Bool, true, false, not, if◌then◌else◌, List, [], ◌∷◌, ◌++◌, Option, None, Some, option_map, option_and_then, map, codes, string_bytes}
use Rattle.std.specs.List.{filter}
use Rattle.std.specs.Str.{bytes_eq, is_utf8}
use Rattle.clap.specs.Matches.{found_of, matched_of, raw_values}
use Rattle.clap.specs.declared.parser.matches.ArgMatches.{ArgMatches}
use Rattle.ca_cli.specs.declared.raw.ProgramWords.{ProgramWords}

-- what stands for a word that isn't UTF-8: a NUL
abbrev pub stand_in : List ℕ
stand_in = 0 ∷ []

-- the text of a word, or what stands for it
abbrev pub text_of_word : List ℕ → List ℕ
text_of_word bytes = if is_utf8 bytes then bytes else stand_in

-- a word isn't UTF-8
abbrev pub is_raw : List ℕ → Bool
is_raw bytes = not (is_utf8 bytes)

-- the texts of all words, in order, and the bytes of those that aren't UTF-8
pub record AreWords (all : List (List ℕ)) (words : ProgramWords) : Type 0 where
  pub texts : map string_bytes words.texts.items ≡ map text_of_word all
  pub raw : map (λ word. word.items) words.raw.items ≡ filter is_raw all

-- a word is put behind the others
pub record AddsWord (old new : ProgramWords) (bytes : List ℕ) : Type 0 where
  pub texts : map string_bytes new.texts.items ≡ map string_bytes old.texts.items ++ text_of_word bytes ∷ []
  pub raw : map (λ word. word.items) new.raw.items ≡ map (λ word. word.items) old.raw.items ++ filter is_raw (bytes ∷ [])

-- the bytes of a path: for a stand-in the first of the given ones, of which the others are left
pub record AreNextBytes (path : List ℕ) (raw left : List (List ℕ)) (bytes : List ℕ) : Type 0 where
  pub given : bytes_eq path stand_in ≡ true → raw ≡ bytes ∷ left
  pub own : bytes_eq path stand_in ≡ false → (raw ≡ left) × (bytes ≡ path)

-- the bytes of paths, where those of stand-ins are the given ones, in order; none where these are too many or too few
abbrev pub path_bytes : (paths raw : List (List ℕ)) → Option (List (List ℕ))
path_bytes [] [] = Some []
path_bytes [] (word ∷ raw) = None
path_bytes (path ∷ paths) [] = if bytes_eq path stand_in then None else option_map (λ all. path ∷ all) (path_bytes paths [])
path_bytes (path ∷ paths) (word ∷ raw) = if bytes_eq path stand_in then option_map (λ all. word ∷ all) (path_bytes paths raw)
    else option_map (λ all. path ∷ all) (path_bytes paths (word ∷ raw))

-- the bytes of the paths of FILE, where those of stand-ins are the given ones
abbrev pub ArePathsOf : ArgMatches → (raw all : List (List ℕ)) → Type 0
ArePathsOf words raw all = option_and_then (λ found. path_bytes (raw_values found) raw) (matched_of (found_of words) (codes "FILE")) ≡ Some all
