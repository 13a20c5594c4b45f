-- A Generations rule ages by the masks of its counts.
use Rattle.std.proofs.Common.{◌≡◌, ℕ, zero, suc, slice_index, Bool, true, false, refl, sym, ap, ◌∙◌, arith, ◌==◌, if◌then◌else◌}
use Rattle.std.specs.Int.{bit_at}
use Rattle.std.proofs.Math.ListN.{get_or-map}
use Rattle.std.proofs.lemmas.Bool.Decides.{nat_tests}
use Rattle.ca_plane.specs.Prelude.{liveness, older, aged, GoesByAgeing}
use Rattle.ca_rule.specs.Prelude.{is_count, live_count, generations_next_state, generations_next, ageing_by_counts, mask_of}
use Rattle.ca_rule.specs.declared.counts.Counts.{Counts}
use Rattle.ca_rule.proofs.RuleMasks.{mask_bit}

-- whether the bit of a mask is 1
stays : (held : Bool) (other : ℕ) → (if (if held then 1 else 0) == 1 then 1 else other) ≡ (if held then 1 else other)
stays true other = refl
stays false other = refl

-- the next state of a cell, by its masks
ages : (survival birth : Counts) (states centre count : ℕ)
    → generations_next_state survival birth states centre count
    ≡ aged states centre (bit_at (if liveness centre == 0 then mask_of birth.holds else mask_of survival.holds) count)
ages survival birth states zero count = rw (mask_bit birth.holds count) (sym (stays (is_count birth count) 0))
ages survival birth states (suc zero) count = rw (mask_bit survival.holds count) (sym (stays (is_count survival count) (older states 1)))
ages survival birth states (suc (suc c)) count = grind (arith, nat_tests)

pub goes_by_ageing : (birth survival : Counts) (states : ℕ)
    → GoesByAgeing states (generations_next survival birth states) (ageing_by_counts birth survival states)
goes_by_ageing birth survival states = record {
  as_many = refl;
  goes_by = λ nine long low.
      ages survival birth states (slice_index nine 4) (live_count nine)
      ∙ ap (λ live. aged states (slice_index nine 4) (bit_at (if live == 0 then mask_of birth.holds else mask_of survival.holds) (live_count nine)))
      (sym (get_or-map liveness nine 4 0));
}
