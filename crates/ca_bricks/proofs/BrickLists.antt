-- Lists that are written place by place, and bricks without a live cell.
use Rattle.std.proofs.Common.{ℕ, ◌+◌, ◌<◌, inl, inr, List, [], length, slice_index, slice_set, sym, ap, subst, ◌∙◌, arith}
use Rattle.std.specs.Prelude.{replicate}
use Rattle.std.specs.Int.{bit_at}
use Rattle.std.proofs.lemmas.Bool.{cases_eq}
use Rattle.std.proofs.lemmas.Grind.{get_or-set_at}
use Rattle.std.proofs.lemmas.List.{get_or-replicate, get_or-set_other}
use Rattle.std.proofs.lemmas.Nat.Bits.{bit_at-zero}
use Rattle.ca_bricks.specs.Prelude.{IsBlank}

-- no row of none is live
pub none_blank : IsBlank []
none_blank x y h k = bit_at-zero x

-- as many rows of zeros
pub zeros_blank : IsBlank (replicate 16 0)
zeros_blank x y h k = ap (λ w. bit_at w x) (get_or-replicate 16 y 0 0 k) ∙ bit_at-zero x

-- what holds of the first of a list and of what is written at the next place holds of one more
pub set_more : (P : ℕ → ℕ → Type 0) (list : List ℕ) (k word : ℕ) → k < length list → ((m : ℕ) → m < k → P m (slice_index list m)) → P k word
    → (m : ℕ) → m < k + 1 → P m (slice_index (slice_set list k word) m)
set_more P list k word long so_far one m h = elim (cases_eq m k) [
  | inl e ↦ subst (P m) (sym (get_or-set_at list k m word 0 e long)) (subst (λ n. P n word) (sym e) one)
  | inr n ↦ subst (P m) (sym (get_or-set_other list k m word 0 n)) (so_far m (omega arith))
]
