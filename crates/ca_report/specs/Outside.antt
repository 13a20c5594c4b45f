-- Which paths may lead out of the folder in which they are looked for, by their bytes alone (paths of POSIX; our own choice).
use Rattle.std.specs.Prelude.{ℕ, List, [], ◌∷◌, ◌++◌, Bool, false, ◌&&◌, ◌||◌, codes, nat_eq}
use Rattle.std.specs.List.{starts_with}
use Rattle.std.specs.Str.{bytes_eq}

-- it begins with a slash
abbrev pub is_absolute : List ℕ → Bool
is_absolute [] = false
is_absolute (b ∷ bs) = nat_eq b 47

-- its first part, up to a slash or its end, is `..`
abbrev pub begins_with_parent : List ℕ → Bool
begins_with_parent path = bytes_eq path (codes "..") || starts_with nat_eq path (codes "../")

-- a later part, after a slash, is `..`
abbrev pub has_later_parent : List ℕ → Bool
has_later_parent [] = false
has_later_parent (b ∷ bs) = (nat_eq b 47 && begins_with_parent bs) || has_later_parent bs

-- it is absolute, or one of its parts is `..`
abbrev pub lies_outside : List ℕ → Bool
lies_outside path = is_absolute path || (begins_with_parent path || has_later_parent path)

-- the path in a folder: `FOLDER/PATH`
abbrev pub path_in : List ℕ → List ℕ → List ℕ
path_in folder path = folder ++ (codes "/" ++ path)
