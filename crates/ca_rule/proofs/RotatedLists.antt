-- A list whose end is rotated by one, without its last element: the list without the first element of that end.
use Rattle.std.proofs.Common.{◌≡◌, ℕ, zero, suc, ◌≤◌, List, [], ◌∷◌, ◌++◌, take, drop, length, ap, ◌∙◌, arith, append_assoc}
use Rattle.std.specs.Prelude.{remove}
use Rattle.std.proofs.lemmas.List.{take-append-le}

pub take-rotated : (xs new post part : List ℕ) (at m : ℕ) → at ≤ m → suc m ≤ length xs → part ≡ drop at xs → new ≡ drop 1 part ++ take 1 part
    → take m (take at xs ++ (new ++ post)) ≡ remove (take (suc m) xs) at
take-rotated [] new post part at m h k e f = absurd (omega arith)
take-rotated (x ∷ xs) new post part zero m h k e f =
    let moved : new ≡ xs ++ x ∷ [] = f ∙ ap (λ p. drop 1 p ++ take 1 p) e in
    ap (λ l. take m (l ++ post)) moved ∙ ap (take m) (append_assoc xs (x ∷ []) post) ∙ take-append-le m xs ((x ∷ []) ++ post) (omega arith)
take-rotated (x ∷ xs) new post part (suc at) zero h k e f = absurd (omega arith)
take-rotated (x ∷ xs) new post part (suc at) (suc m) h k e f = ap (λ l. x ∷ l) (take-rotated xs new post part at m (omega arith) (omega arith) e f)
