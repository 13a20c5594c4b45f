use Rattle.std.proofs.Common.{inl, inr, subst, ap, ◌∙◌, arith, length, get_or, []}
use Rattle.std.specs.Int.{bit_at}
use Rattle.std.proofs.lemmas.Bool.{cases_eq}
use Rattle.std.proofs.lemmas.Nat.Bits.{bit_at-zero}
use Rattle.ca_plane.specs.Prelude.{row_cells}
use Rattle.ca_bricks.specs.Prelude.{HasNeighbours, IsNotIn}
use Rattle.ca_bricks.proofs.BrickLists.{zeros_blank}
use Rattle.ca_bricks.proofs.BrickQueues.{grows_by_none, grows_again}
use Rattle.ca_bricks.proofs.aged.wake_own.Goals as goal

pub bricks-init : goal.bricks-init
bricks-init c = record { grows = grows_by_none _ _ _; blank = λ t has _ low. absurd (omega (arith, has.before, low)) }

pub bricks-preserved : goal.bricks-preserved
bricks-preserved c =
    let inv = c.bricks.invariant in
    let woken = c.in_ok-wake_if.ensures in
    record {
      grows = grows_again _ _ _ _ _ inv.grows woken.grows;
      blank = λ t has not_in low. elim (cases_eq t c.bricks.t) [
        | inl here ↦ λ x y h k.
            let none = woken.woken (subst (HasNeighbours c.args.across (length c.args.bricks.now)) here has) (subst (IsNotIn c.wake_if.new.self) here not_in) in
            ap (λ n. row_cells (get_or c.args.bricks.now n []) x y) here
            ∙ c.changed_bits.ensures x y k (ap (λ n. bit_at n x) none ∙ bit_at-zero x) ∙ zeros_blank x y h k
        | inr other ↦ inv.blank t has (woken.grows.not_in t not_in) (omega (arith, low, other))
      ];
    }

pub returns-clause-others : goal.returns-clause-others
returns-clause-others c = λ t has not_in. c.bricks.invariant.blank t has not_in (omega (arith, has.behind, c.saturating_sub-t-end.ensures, c.bricks-test.false))
