use Rattle.std.proofs.Common.{◌≡◌, ℕ, ◌<◌, ap, sym, ◌∙◌, arith, slice_index}
use Rattle.std.specs.Int.{bit_at}
use Rattle.std.proofs.lemmas.Nat.Bits.{bit_at-zero, same_from_bits}
use Rattle.ca_bricks.proofs.BrickQueues.{grows_again}
use Rattle.ca_bricks.proofs.BrickWaking.{xor_bits, xor_same, at_place}
use Rattle.ca_bricks.proofs.step.wake_round.Goals as goal

pub returns-clause-grows : goal.returns-clause-grows
returns-clause-grows c = grows_again _ _ _ _ _ c.in_ok-wake_three.ensures.grows (grows_again _ _ _ _ _ c.in_ok-wake_three-2.ensures.grows c.in_ok-wake_three-3.ensures.grows)

pub returns-then-any-eq0-clause-unseen : goal.returns-then-any-eq0-clause-unseen
returns-then-any-eq0-clause-unseen c = λ t has not_in.
    let new = c.args.new.now in
    let old = c.args.old.now in
    let bits : (x y : ℕ) → y < 16 → bit_at (slice_index new y) x ≡ bit_at (slice_index old y) x
    = λ x y h. c.changed_bits-any.ensures x y h (ap (λ n. bit_at n x) c.if-any-eq0.true ∙ bit_at-zero x) in
    let rows : (y : ℕ) → y < 16 → slice_index new y ≡ slice_index old y = λ y h. same_from_bits (slice_index new y) (slice_index old y) (λ x. bits x y h) in
    record {
      here = λ e. rows;
      north = λ e. rows 15 (omega arith);
      south = λ e. rows 0 (omega arith);
      west = λ e y h. bits 63 y h;
      east = λ e y h. bits 0 y h;
      north_west = λ e. bits 63 15 (omega arith);
      north_east = λ e. bits 0 15 (omega arith);
      south_west = λ e. bits 63 0 (omega arith);
      south_east = λ e. bits 0 0 (omega arith);
    }

pub returns-clause-unseen : goal.returns-clause-unseen
returns-clause-unseen c = λ t has not_in3.
    let across = c.args.across in
    let count = c.args.count in
    let s = c.args.s in
    let inside = c.requires.inside in
    let new = c.args.new.now in
    let old = c.args.old.now in
    let any = c.changed_bits-any.result in
    let mid = c.in_ok-wake_three.ensures in
    let up = c.in_ok-wake_three-2.ensures in
    let down = c.in_ok-wake_three-3.ensures in
    let not_in2 = down.grows.not_in t not_in3 in
    let not_in1 = up.grows.not_in t not_in2 in
    record {
      here = λ e y h. same_from_bits (slice_index new y) (slice_index old y) (λ x. c.changed_bits-any.ensures x y h
          (ap (λ n. bit_at n x) (at_place across count _ _ t _ (sym e) has not_in1 mid.here) ∙ bit_at-zero x));
      east = λ e y h. c.changed_bits-any.ensures 0 y h (at_place across count _ _ t _ (omega (arith, e)) has not_in1 mid.west);
      west = λ e y h. c.changed_bits-any.ensures 63 y h (at_place across count _ _ t _ (omega (arith, e, has.before, inside.before)) has not_in1 mid.east);
      north = λ e. xor_same (slice_index new 15) (slice_index old 15) (at_place across count _ _ t _ (omega (arith, e, has.before, inside.before)) has not_in3 down.here);
      north_east = λ e. xor_bits (slice_index new 15) (slice_index old 15) 0 (at_place across count _ _ t _ (omega (arith, e, has.before, inside.before)) has not_in3 down.west);
      north_west = λ e. xor_bits (slice_index new 15) (slice_index old 15) 63 (at_place across count _ _ t _ (omega (arith, e, has.before, inside.before)) has not_in3 down.east);
      south = λ e. xor_same (slice_index new 0) (slice_index old 0) (at_place across count _ _ t _ (omega (arith, e)) has not_in2 up.here);
      south_east = λ e. xor_bits (slice_index new 0) (slice_index old 0) 0 (at_place across count _ _ t _ (omega (arith, e)) has not_in2 up.west);
      south_west = λ e. xor_bits (slice_index new 0) (slice_index old 0) 63 (at_place across count _ _ t _ (omega (arith, e, has.before, inside.before)) has not_in2 up.east);
    }
