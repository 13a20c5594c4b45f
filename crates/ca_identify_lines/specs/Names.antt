-- Names for the files of a claim text (our own; docs/CLAIMS.md).
use Rattle.std.specs.Prelude.{◌≡◌, ℕ, ◌+◌, ◌<◌, List, [], ◌∷◌, ◌++◌, map, Bool, true, false, not, ◌&&◌, codes, decimal, nat_eq, if◌then◌else◌}
use Rattle.std.specs.List.{list_any, list_all}
use Rattle.std.specs.Str.{bytes_eq}
use Rattle.ca_plane.specs.Prelude.{is_word_byte}

-- one or more bytes, none of them a blank or LF
abbrev pub is_word : List ℕ → Bool
is_word [] = false
is_word (b ∷ bs) = list_all is_word_byte (b ∷ bs)

-- a claim text can name this path: it is a word. `-` is standard input for the program, and a file's name in a claim text
abbrev pub is_claim_path : List ℕ → Bool
is_claim_path path = is_word path && not (bytes_eq path (codes "-"))

-- the last component of a path: what follows its last slash
abbrev pub last_component : List ℕ → List ℕ
last_component [] = []
last_component (b ∷ bs) = if list_any (λ a. nat_eq a 47) (b ∷ bs) then last_component bs else b ∷ bs

-- a file's name without its ending: what comes before its last dot, or all where it has none
abbrev pub without_ending : List ℕ → List ℕ
without_ending [] = []
without_ending (b ∷ bs) = if list_any (λ a. nat_eq a 46) bs then b ∷ without_ending bs else (if nat_eq b 46 then [] else b ∷ bs)

-- a byte of a word, or `_` in place of a blank or LF
abbrev pub name_byte : ℕ → ℕ
name_byte b = if is_word_byte b then b else 95

-- a name begins with no `#`, which would begin a comment, and isn't empty; `_` stands in place of either
abbrev pub with_first_byte : List ℕ → List ℕ
with_first_byte [] = 95 ∷ []
with_first_byte (b ∷ bs) = (if nat_eq b 35 then 95 else b) ∷ bs

-- the name for the file of a path: the file's own name without its ending, with `_` for what can't be in a name
abbrev pub claim_name : List ℕ → List ℕ
claim_name path = with_first_byte (map name_byte (without_ending (last_component path)))

-- the name itself, then with `-2`, `-3` and so on after it
abbrev pub numbered_name : List ℕ → ℕ → List ℕ
numbered_name name place = if nat_eq place 0 then name else name ++ (codes "-" ++ decimal (place + 1))

-- the name is one of these
abbrev pub is_taken : List (List ℕ) → List ℕ → Bool
is_taken names name = list_any (bytes_eq name) names

-- the first of the name itself, with `-2`, `-3` and so on that is none of those taken
pub record IsFreeName (taken : List (List ℕ)) (name free : List ℕ) : Type 0 where
  pub place : ℕ
  pub spelled : free ≡ numbered_name name place
  pub new : is_taken taken free ≡ false
  pub earlier : (k : ℕ) → k < place → is_taken taken (numbered_name name k) ≡ true
