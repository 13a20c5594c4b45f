-- A folder that passes a test.
use Rattle.std.proofs.Common.{◌≡◌, ℕ, List, Bool, true, false, Option, None, Some, refl, sym, ◌∙◌}
use Rattle.cafile.specs.Folders.{passed}

pub passed-none : (test : List ℕ → Bool) (found : Option (List ℕ)) → found ≡ None → None ≡ passed test found
passed-none test found none = rw none refl

pub passed-some : (test : List ℕ → Bool) (found : Option (List ℕ)) (folder : List ℕ) (result : Bool) → found ≡ Some folder → result ≡ test folder → result ≡ true → Some folder ≡ passed test found
passed-some test found folder result some is holds = rw (some, sym is ∙ holds) refl

pub passed-not : (test : List ℕ → Bool) (found : Option (List ℕ)) (folder : List ℕ) (result : Bool) → found ≡ Some folder → result ≡ test folder → result ≡ false → None ≡ passed test found
passed-not test found folder result some is fails = rw (some, sym is ∙ fails) refl
