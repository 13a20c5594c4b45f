use Rattle.std.proofs.Common.{◌≡◌, max, inl, inr, slice_index, ap, ◌∙◌, sym, arith}
use Rattle.std.specs.Int.{bit_at}
use Rattle.std.proofs.lemmas.Bool.{cases_lt}
use Rattle.std.proofs.lemmas.Nat.Bits.{bit_at_or}
use Rattle.ca_apgcode_search.proofs.frame_box.union.Goals as goal

pub rows-preserved : goal.rows-preserved
rows-preserved c = λ j i low none.
    let row = slice_index c.args.rows.now c.rows.r in
    let both : max (bit_at c.rows.all i) (bit_at row i) ≡ 0 = sym (bit_at_or c.rows.all row i) ∙ none in
    elim (cases_lt j c.rows.r) [
      | inl before ↦ c.rows.invariant j i before (omega (arith, both))
      | inr last ↦ let here : j ≡ c.rows.r = omega (arith, low, last) in ap (λ k. bit_at (slice_index c.args.rows.now k) i) here ∙ omega (arith, both)
    ]
