use Rattle.std.proofs.Common.{inl, inr, sym, subst, arith, get_or, []}
use Rattle.std.specs.Prelude.{replicate}
use Rattle.std.proofs.lemmas.Bool.{cases_eq}
use Rattle.ca_bricks.specs.Prelude.{IsUnseen}
use Rattle.ca_bricks.proofs.BrickBlanks.{blank_round}
use Rattle.ca_bricks.proofs.BrickQueues.{grows_by_none, grows_again}
use Rattle.ca_bricks.proofs.waking.wake_seen.Goals as goal

pub bricks-init : goal.bricks-init
bricks-init c = record { grows = grows_by_none _ _ _; unseen = λ t _ _ s low high. absurd (omega (arith, low, high)) }

pub bricks-preserved : goal.bricks-preserved
bricks-preserved c =
    let inv = c.bricks.invariant in
    let woken = c.in_ok-wake_round.ensures in
    record {
      grows = grows_again _ _ _ _ _ inv.grows woken.grows;
      unseen = λ t has not_in s low high. elim (cases_eq s c.bricks.t) [
        | inl here ↦ subst (λ n. IsUnseen c.args.across n (replicate 16 0) (get_or c.args.bricks.now n []) t) (sym here) (woken.unseen t has not_in)
        | inr other ↦ inv.unseen t has (woken.grows.not_in t not_in) s low (omega (arith, high, other))
      ];
    }

pub returns-clause-others : goal.returns-clause-others
returns-clause-others c = λ t has not_in.
    blank_round c.args.across c.args.bricks.now t c.requires.edge (λ s inner.
    c.bricks.invariant.unseen t has not_in s inner.before (omega (arith, inner.behind, c.saturating_sub-t-end.ensures, c.bricks-test.false)))
