use Rattle.std.proofs.Common.{refl, inl, inr}
use Rattle.std.specs.Prelude.{pos, neg_ℤ}
use Rattle.ca_plane.specs.Prelude.{value}
use Rattle.ca_plane.proofs.Numbers.{nearest_plus, nearest_minus}
use Rattle.ca_plane.proofs.bytes.integer.Goals as goal

pub returns-in_ok-whole_number-in-Some : goal.returns-in_ok-whole_number-in-Some
returns-in_ok-whole_number-in-Some c =
    let digits = c.in-Some.digits.now in
    let number = c.in_ok-whole_number-in-Some.ensures in
    (neg_ℤ (pos (value digits)), inr (digits, c.in-Some.ensures, number.0, refl), nearest_minus (value digits) _ _ number.1 c.saturating_sub_unsigned.ensures)

pub returns-in_ok-whole_number-in-None : goal.returns-in_ok-whole_number-in-None
returns-in_ok-whole_number-in-None c =
    let number = c.in_ok-whole_number-in-None.ensures in
    (pos (value c.args.bytes.now), inl (number.0, refl), nearest_plus (value c.args.bytes.now) _ _ number.1 c.saturating_add_unsigned.ensures)
