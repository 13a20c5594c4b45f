use Rattle.std.proofs.Common.{◌≡◌, ℕ, suc, ◌+◌, ◌-◌, ◌%◌, ◌<◌, min, max, inl, inr, length, get_or, [], sym, ap, ap₂, subst, ◌∙◌, arith}
use Rattle.std.specs.Int.{bit_at}
use Rattle.std.proofs.lemmas.Bool.{cases_eq}
use Rattle.std.proofs.lemmas.Grind.{get_or-set_at}
use Rattle.std.proofs.lemmas.List.{get_or-set_other, get_or_default, length-set}
use Rattle.std.proofs.lemmas.Nat.Bits.{bit_at_or}
use Rattle.ca_plane.specs.Prelude.{row_cells}
use Rattle.ca_bricks.specs.declared.grid.BrickGrid.{BrickGrid}
use Rattle.ca_bricks.specs.Prelude.{IsInPlace, number_at}
use Rattle.ca_bricks.proofs.AgedNumbers.{borrowed_at, one_less_digit, digit_at, put_here, put_elsewhere, put_size, in_place_again}
use Rattle.ca_bricks.proofs.aged_step.count_down.Goals as goal

pub digits-preserved : goal.digits-preserved
digits-preserved c =
    let inv = c.digits.invariant in
    let now = c.args.now.now in
    let old = c.digits.old in
    let k = c.digits.k in
    let s = c.args.s in
    let e = c.index-old-k.result in
    let w = c.put_brick-changed.new.grid in
    let rows = c.next_digit-next.result in
    let long : k < length old = omega (arith, c.digits-test.true, inv.length, c.requires.digits) in
    let low : s < length (get_or old k e).bricks.items = omega (arith, inv.size k e long, c.requires.brick) in
    let is = c.put_brick-changed.ensures.bricks in
    let digit : (x y : ℕ) → x < 64 → y < 16 → row_cells c.index-digit.result.now x y ≡ bit_at (number_at now s x y) k = λ x y h i.
    let d = c.index-now-k.result in
    let within = c.digits-test.true in
    ap (λ r. row_cells r x y) (c.index-digit.ensures ∙ get_or_default (get_or now k d).bricks.items s c.index-digit.result.now [] (omega (arith, c.requires.brick, c.requires.size k d within)))
    ∙ digit_at now k d s x y within in
    let one : suc k ≡ k + 1 = omega arith in
    record {
      borrowed = λ x y h i.
          c.bits_without-borrowed.ensures x y h i ∙ ap₂ (λ a b. a - b) (inv.borrowed x y h i) (digit x y h i) ∙ ap (λ n. borrowed_at n (number_at now s x y)) one;
      made = λ j d h x y i l. elim (cases_eq j k) [
        | inl same ↦
            ap (λ r. row_cells r x y) (put_here old k s j w d e rows long low is same)
            ∙ c.next_digit-next.ensures x y i l
            ∙ ap₂ (λ a b. max a (min (row_cells c.args.begun.now x y) b))
            (ap₂ (λ a b. (a + b) % 2) (digit x y i l) (inv.borrowed x y i l) ∙ sym (one_less_digit k (number_at now s x y)) ∙ ap (bit_at (number_at now s x y - 1)) (sym same))
            (c.has_digit.ensures ∙ ap₂ bit_at c.saturating_sub-most.ensures (sym same))
        | inr apart ↦ ap (λ (v : BrickGrid). row_cells (get_or v.bricks.items s []) x y) (get_or-set_other old k j w d apart) ∙ inv.made j d (omega (arith, h, apart)) x y i l
      ];
      same = λ j d h x y i l none.
          let bits = bit_at_or c.digits.changed c.put_brick-changed.result x in
          elim (cases_eq j k) [
            | inl same ↦
                ap (λ r. row_cells r x y) (put_here old k s j w d e rows long low is same)
                ∙ c.put_brick-changed.ensures.same x y l (omega (arith, bits, none))
                ∙ ap (λ (v : BrickGrid). row_cells (get_or v.bricks.items s []) x y)
                (get_or_default old k e d long ∙ inv.ahead k d (omega arith) ∙ ap (λ n. get_or c.args.old.now n d) (sym same))
            | inr apart ↦
                ap (λ (v : BrickGrid). row_cells (get_or v.bricks.items s []) x y) (get_or-set_other old k j w d apart)
                ∙ inv.same j d (omega (arith, h, apart)) x y i l (omega (arith, bits, none))
          ];
      ahead = λ j d h. get_or-set_other old k j w d (λ same. omega (arith, h, same)) ∙ inv.ahead j d (omega (arith, h));
      others = λ j d t other. put_elsewhere old k s j t w d e rows long is other ∙ inv.others j d t other;
      size = put_size old k c.args.count w long (ap length is ∙ length-set (get_or old k e).bricks.items s rows ∙ inv.size k e long) inv.size;
      places = λ j d h. elim (cases_eq j k) [
        | inl same ↦
            let was = get_or_default old k e d long ∙ ap (λ n. get_or old n d) (sym same) in
            subst (IsInPlace (get_or c.args.old.now j d)) (sym (get_or-set_at old k j w d same long))
            (in_place_again (get_or c.args.old.now j d) (get_or old j d) w (inv.places j d h) (subst (λ v. IsInPlace v w) was c.put_brick-changed.ensures.place))
        | inr apart ↦ subst (IsInPlace (get_or c.args.old.now j d)) (sym (get_or-set_other old k j w d apart)) (inv.places j d h)
      ];
      length = length-set old k w ∙ inv.length;
    }
