use Rattle.std.proofs.Common.{inl, inr, ap, ◌∙◌, arith}
use Rattle.std.specs.Int.{bit_at, w64}
use Rattle.std.proofs.lemmas.Bool.{cases_eq}
use Rattle.std.proofs.lemmas.Nat.Bits.{bit_at-zero, bit_at-trailing_zeros}
use Rattle.ca_apgcode_search.proofs.frame_box.first_bit.Goals as goal

pub returns-clause-before : goal.returns-clause-before
returns-clause-before c = λ i low. elim (cases_eq c.args.word 0) [
  | inl none ↦ ap (λ n. bit_at n i) none ∙ bit_at-zero i
  | inr some ↦
      let place = bit_at-trailing_zeros w64 c.args.word (omega (arith, some)) c.ranges.word.fits in
      place.2 i (omega (arith, low, c.min.ensures))
]
