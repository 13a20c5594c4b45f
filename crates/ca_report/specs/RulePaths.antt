-- Where the rule file of a name stands in a folder (Golly looks for NAME.rule; which names are looked for is our own choice).
use Rattle.std.specs.Prelude.{ℕ, List, [], ◌∷◌, ◌++◌, Bool, false, not, ◌&&◌, ◌||◌, codes, nat_eq}
use Rattle.std.specs.List.{list_any, starts_with}

-- two dots stand side by side
abbrev pub has_two_dots : List ℕ → Bool
has_two_dots [] = false
has_two_dots (b ∷ bs) = starts_with nat_eq (b ∷ bs) (codes "..") || has_two_dots bs

-- the name isn't empty, and has no slash, no NUL and no two dots side by side: so it leads to no other folder
abbrev pub is_file_name : List ℕ → Bool
is_file_name [] = false
is_file_name (b ∷ bs) = not (list_any (λ a. nat_eq a 47) (b ∷ bs)) && (not (list_any (λ a. nat_eq a 0) (b ∷ bs)) && not (has_two_dots (b ∷ bs)))

-- the path of the file: `FOLDER/NAME.rule`
abbrev pub rule_path : List ℕ → List ℕ → List ℕ
rule_path folder name = folder ++ (codes "/" ++ (name ++ codes ".rule"))
