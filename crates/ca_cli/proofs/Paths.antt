-- The bytes of paths, one after another.
use Rattle.std.proofs.Common.{◌≡◌, ◌∙◌, ℕ, Bool, true, false, List, [], ◌∷◌, ◌++◌, ◌+◌, ◌<◌, suc, length, get_or, drop, map, Option, Some, None, refl, sym, ap, subst, append_assoc, add-one, drop-cons}
use Rattle.std.specs.Prelude.{String, option_map, string_bytes}
use Rattle.std.proofs.lemmas.List.{map-append}
use Rattle.std.specs.Str.{bytes_eq}
use Rattle.ca_cli.specs.RawWords.{AreNextBytes, path_bytes, stand_in}

later : (done : List (List ℕ)) (next : List ℕ) (rest : Option (List (List ℕ)))
    → option_map (λ all. (done ++ next ∷ []) ++ all) rest ≡ option_map (λ all. done ++ all) (option_map (λ all. next ∷ all) rest)
later done next None = refl
later done next (Some all) = ap Some (append_assoc done (next ∷ []) all)

-- a path that is no stand-in is the next one
path_then : (path : List ℕ) (paths raw done : List (List ℕ)) (whole : Option (List (List ℕ))) → bytes_eq path stand_in ≡ false
    → option_map (λ all. done ++ all) (path_bytes (path ∷ paths) raw) ≡ whole
    → option_map (λ all. (done ++ path ∷ []) ++ all) (path_bytes paths raw) ≡ whole
path_then path paths [] done whole isnt so_far = later done path (path_bytes paths []) ∙ (rw isnt at so_far)
path_then path paths (word ∷ raw) done whole isnt so_far = later done path (path_bytes paths (word ∷ raw)) ∙ (rw isnt at so_far)

-- for a stand-in the first of the given words is the next one
word_then : (path word : List ℕ) (paths raw done : List (List ℕ)) (whole : Option (List (List ℕ))) → bytes_eq path stand_in ≡ true
    → option_map (λ all. done ++ all) (path_bytes (path ∷ paths) (word ∷ raw)) ≡ whole
    → option_map (λ all. (done ++ word ∷ []) ++ all) (path_bytes paths raw) ≡ whole
word_then path word paths raw done whole is so_far = later done word (path_bytes paths raw) ∙ (rw is at so_far)

-- with those of one path more, the bytes are those up to the next path
pub bytes_then : (path bytes : List ℕ) (paths raw left done : List (List ℕ)) (whole : Option (List (List ℕ))) → AreNextBytes path raw left bytes
    → option_map (λ all. done ++ all) (path_bytes (path ∷ paths) raw) ≡ whole
    → option_map (λ all. (done ++ bytes ∷ []) ++ all) (path_bytes paths left) ≡ whole
bytes_then path bytes paths raw left done whole next so_far = go (bytes_eq path stand_in) refl
  where
    go : (is : Bool) → bytes_eq path stand_in ≡ is → option_map (λ all. (done ++ bytes ∷ []) ++ all) (path_bytes paths left) ≡ whole
    go true is = word_then path bytes paths left done whole is
        (subst (λ words. option_map (λ all. done ++ all) (path_bytes (path ∷ paths) words) ≡ whole) (next.given is) so_far)
    go false isnt = subst (λ own. option_map (λ all. (done ++ own ∷ []) ++ all) (path_bytes paths left) ≡ whole) (sym ((next.own isnt).1))
        (path_then path paths left done whole isnt
        (subst (λ words. option_map (λ all. done ++ all) (path_bytes (path ∷ paths) words) ≡ whole) ((next.own isnt).0) so_far))

-- the same of a list of paths: after the path at a place, with those of the one that stands there
pub paths_then : {Z V : Type 0} (items : V → List ℕ) (paths : List (String Z)) (i : ℕ) (path : String Z) (text : List ℕ) (word : V)
    (raw left : List (List ℕ)) (all later : List V) (whole : Option (List (List ℕ))) → i < length paths → path ≡ get_or paths i path
    → text ≡ string_bytes path → AreNextBytes text raw left (items word) → later ≡ all ++ word ∷ []
    → option_map (λ rest. map items all ++ rest) (path_bytes (map string_bytes (drop i paths)) raw) ≡ whole
    → option_map (λ rest. map items later ++ rest) (path_bytes (map string_bytes (drop (i + 1) paths)) left) ≡ whole
paths_then items paths i path text word raw left all later whole within item is next pushed so_far =
    let after : List (List ℕ) = map string_bytes (drop (suc i) paths) in
    let here : drop i paths ≡ path ∷ drop (suc i) paths = drop-cons paths i path within ∙ ap (λ p. p ∷ drop (suc i) paths) (sym item) in
    let done : option_map (λ rest. (map items all ++ items word ∷ []) ++ rest) (path_bytes after left) ≡ whole =
    bytes_then (string_bytes path) (items word) after raw left (map items all) whole (subst (λ t. AreNextBytes t raw left (items word)) is next)
    (subst (λ l. option_map (λ rest. map items all ++ rest) (path_bytes (map string_bytes l) raw) ≡ whole) here so_far) in
    let more : map items later ≡ map items all ++ items word ∷ [] = ap (map items) pushed ∙ map-append items all (word ∷ []) in
    subst (λ n. option_map (λ rest. map items later ++ rest) (path_bytes (map string_bytes (drop n paths)) left) ≡ whole) (sym (add-one i))
    (subst (λ l. option_map (λ rest. l ++ rest) (path_bytes after left) ≡ whole) (sym more) done)
