-- What a file holds: its parts, of which the generation is below 2^63 and the rule text is a word.
use Rattle.std.proofs.Common.{ℕ, ◌<◌, ◌^◌, List, [], ◌∷◌, Option, Some, None, unwrap_or, refl, sym, subst, arith}
use Rattle.std.specs.List.{AllZip}
use Rattle.ca_plane.specs.Prelude.{default_rule, IsWord}
use Rattle.ca_rle.specs.declared.item.Item.{Item}
use Rattle.ca_rle.specs.Prelude.{IsHeader, CxrleWord, Corner, Generation, Nothing, WordSays, Items, RleFile, corner_of, last_word_generation, generation_of, IsHeaded, IsRleFile}

-- what lines before a header, the header's rule and the items say
abbrev pub file_of : List CxrleWord → Option (List ℕ) → List Item → RleFile
file_of said rule items = record { corner = corner_of said; generation = generation_of said; rule_text = unwrap_or rule default_rule; items = items }

-- a header and the items after it are a file
pub headed_is_file : (bytes : List ℕ) (said : List CxrleWord) (rule : Option (List ℕ)) (body : List ℕ) (items : List Item) → IsHeaded bytes said rule body → Items body items → IsRleFile bytes (file_of said rule items)
headed_is_file bytes said rule body items h is = record { said = said; rule = rule; body = body; headed = h; items = is; corner = refl; generation = refl; rule_text = refl }

-- the last generation that words say is below 2^63, where the one before them is
last_is_low : (n : ℕ) (words : List (List ℕ)) (said : List CxrleWord) → n < 2 ^ 63 → AllZip WordSays words said → last_word_generation n said < 2 ^ 63
last_is_low n words [] low says = low
last_is_low n [] (s ∷ ss) low says = absurd says
last_is_low n (w ∷ ws) (Corner x y ∷ ss) low says = last_is_low n ws ss low says.1
last_is_low n (w ∷ ws) (Generation m ∷ ss) low says = last_is_low m ws ss says.0.4 says.1
last_is_low n (w ∷ ws) (Nothing ∷ ss) low says = last_is_low n ws ss low says.1

-- the generation of a file is below 2^63
pub generation_is_low : (bytes : List ℕ) (file : RleFile) → IsRleFile bytes file → file.generation < 2 ^ 63
generation_is_low bytes file is = subst (λ (n : ℕ). n < 2 ^ 63) (sym is.generation) (last_is_low 0 _ is.said (omega arith) is.headed.follows.preamble.words)

-- the rule text of a header is a word, and so is that of a header without one
header_word : (line : List ℕ) (rule : Option (List ℕ)) → IsHeader line rule → IsWord (unwrap_or rule default_rule)
header_word line None h = refl
header_word line (Some text) h = h.3

-- the rule text of a file is a word
pub rule_is_word : (bytes : List ℕ) (file : RleFile) → IsRleFile bytes file → IsWord file.rule_text
rule_is_word bytes file is = subst IsWord (sym is.rule_text) (header_word is.headed.header is.rule is.headed.header_is)
