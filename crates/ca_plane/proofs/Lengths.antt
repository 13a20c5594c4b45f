-- Bytes split where a test first fails.
use Rattle.std.proofs.Common.{◌≡◌, ℕ, ◌+◌, Bool, true, false, List, [], ◌∷◌, cond, take, drop, refl, ap, ◌∙◌, arith}
use Rattle.std.specs.List.{prefix_len}
use Rattle.std.proofs.lemmas.List.Sums.{take_while-cons, prefix_len-le-length}
use Rattle.std.proofs.lemmas.Grind.{common_steps}
use Rattle.ca_plane.specs.Prelude.{front, rest}

-- the front is as many bytes as pass at first
pub take_front : (test : ℕ → Bool) (bs : List ℕ) → take (prefix_len test bs) bs ≡ front test bs
take_front test [] = refl
take_front test (b ∷ bs) = take_while-cons test b bs ∙ ap (λ l. cond (test b) (b ∷ l) []) (take_front test bs)

-- one more byte dropped, where the first passes
drop_step : (v : Bool) (n b : ℕ) (bs : List ℕ) → drop (cond v (1 + n) 0) (b ∷ bs) ≡ cond v (drop n bs) (b ∷ bs)
drop_step true n b bs = grind (arith, common_steps)
drop_step false n b bs = refl

-- the rest is the bytes without those
pub drop_front : (test : ℕ → Bool) (bs : List ℕ) → drop (prefix_len test bs) bs ≡ rest test bs
drop_front test [] = refl
drop_front test (b ∷ bs) = drop_step (test b) (prefix_len test bs) b bs ∙ ap (λ l. cond (test b) l (b ∷ bs)) (drop_front test bs)

-- what a function that splits bytes by a test cites
pub ruleset fronts = (prefix_len-le-length, take_front, drop_front)
