-- The names of the files of a census, and of their patterns in its claim text (our own; docs/CLAIMS.md).
use Rattle.std.specs.Prelude.{ℕ, List, ◌++◌, codes, decimal}

-- the name of the object with this number: `NAME-1`
abbrev pub object_name : List ℕ → (number : ℕ) → List ℕ
object_name name number = name ++ (codes "-" ++ decimal number)

-- the name of the settled plane
abbrev pub settled_name : List ℕ → List ℕ
settled_name name = name ++ codes "-settled"

-- the file of the pattern with a name
abbrev pub rle_file : List ℕ → List ℕ
rle_file name = name ++ codes ".rle"

-- the file of the claim text on the pattern with a name
abbrev pub claims_file : List ℕ → List ℕ
claims_file name = name ++ codes ".claims"
