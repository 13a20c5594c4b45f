-- A B/S rule goes by the masks of its counts.
use Rattle.std.proofs.Common.{◌≡◌, ℕ, zero, suc, ◌+◌, ◌*◌, ◌/◌, ◌%◌, ◌<◌, List, [], ◌∷◌, slice_index, slice_index_or, Bool, true, false, refl, sym, ap, ◌∙◌, arith, ◌==◌, if◌then◌else◌}
use Rattle.std.specs.Int.{bit_at}
use Rattle.std.proofs.lemmas.List.Elements.{All-get_or}
use Rattle.std.proofs.lemmas.Nat.Bits.{bit_at-zero, bit_at_lowest, bit_at-suc}
use Rattle.ca_plane.specs.Prelude.{counted_sum, GoesByCounting, eight_sum, IsMoore}
use Rattle.ca_rule.specs.Prelude.{mask_of, neighbourhood_of, counting_by_hood, neighbour_count, bs_next_state, bs_next}
use Rattle.ca_rule.specs.declared.{counts.Counts.Counts, hood.Hood.Hood}
use Rattle.ca_rule.specs.declared.hood.Hood.TheVariants.{Moore, VonNeumann, Hex}

lowest : (held : Bool) (more : ℕ) → ((if held then 1 else 0) + 2 * more) % 2 ≡ (if held then 1 else 0)
lowest true more = omega arith
lowest false more = omega arith

others : (held : Bool) (more : ℕ) → ((if held then 1 else 0) + 2 * more) / 2 ≡ more
others true more = omega arith
others false more = omega arith

-- bit n of a mask tells whether n is in it
pub mask_bit : (held : List Bool) (n : ℕ) → bit_at (mask_of held) n ≡ (if slice_index_or held n false then 1 else 0)
mask_bit [] n = bit_at-zero n
mask_bit (h ∷ hs) zero = bit_at_lowest (mask_of (h ∷ hs)) ∙ lowest h (mask_of hs)
mask_bit (h ∷ hs) (suc n) = bit_at-suc (mask_of (h ∷ hs)) n ∙ ap (λ m. bit_at m n) (others h (mask_of hs)) ∙ mask_bit hs n

next_masked : (birth survival : Counts) (centre count : ℕ) → centre < 2
    → bs_next_state birth survival centre count ≡ bit_at (if centre == 0 then mask_of birth.holds else mask_of survival.holds) count
next_masked birth survival zero count low = sym (mask_bit birth.holds count)
next_masked birth survival (suc zero) count low = sym (mask_bit survival.holds count)
next_masked birth survival (suc (suc c)) count low = absurd (omega arith)

pub goes_by_masks : (birth survival : Counts) → IsMoore 2 (bs_next Moore birth survival) (mask_of birth.holds) (mask_of survival.holds)
goes_by_masks birth survival = record {
  two_states = refl;
  goes_by = λ nine long low. next_masked birth survival (slice_index nine 4) (eight_sum nine) (All-get_or (λ s. s < 2) nine 4 0 (omega arith) low);
}

-- the neighbours of a hood are those of its neighbourhood
counted_alike : (hood : Hood) (nine : List ℕ) → neighbour_count hood nine ≡ counted_sum (neighbourhood_of hood) nine
counted_alike Moore nine = refl
counted_alike VonNeumann nine = refl
counted_alike Hex nine = refl

pub goes_by_counting : (hood : Hood) (birth survival : Counts) → GoesByCounting 2 (bs_next hood birth survival) (counting_by_hood hood birth survival)
goes_by_counting hood birth survival = record {
  two_states = refl;
  goes_by = λ nine long low.
      next_masked birth survival (slice_index nine 4) (neighbour_count hood nine) (All-get_or (λ s. s < 2) nine 4 0 (omega arith) low)
      ∙ ap (bit_at (if slice_index nine 4 == 0 then mask_of birth.holds else mask_of survival.holds)) (counted_alike hood nine);
}
