-- How long the texts of items are.
use Rattle.std.proofs.Common.{ℕ, ◌<◌, ◌≤◌, ◌^◌, Bool, true, false, cond, ◌==◌, List, [], length, decimal, arith}
use Rattle.std.proofs.lemmas.Fmt.{length-decimal-le}
use Rattle.ca_rle.specs.Prelude.{count_text}

-- a choice of two texts is as short as both
choice-le : (b : Bool) (xs ys : List ℕ) (n : ℕ) → length xs ≤ n → length ys ≤ n → length (cond b xs ys) ≤ n
choice-le true xs ys n h k = h
choice-le false xs ys n h k = k

pub count-le : (count : ℕ) → count < 2 ^ 64 → length (count_text count) ≤ 20
count-le count small = choice-le (count == 1) [] (decimal count) 20 (omega arith) (length-decimal-le 20 count (omega arith) (omega arith) small)
