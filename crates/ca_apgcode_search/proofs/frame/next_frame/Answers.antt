use Rattle.std.proofs.Common.{sym, subst, inl, inr, arith}
use Rattle.ca_bricks.specs.Prelude.{HasNeighbours}
use Rattle.ca_apgcode_search.proofs.FrameRounds.{dark_rests}
use Rattle.ca_apgcode_search.proofs.frame.next_frame.Goals as goal

-- the bricks that aren't stepped see no live cell
pub generation-requires-clause-rest : goal.generation-requires-clause-rest
generation-requires-clause-rest c = λ t has not_in.
    dark_rests c.args.counting c.args.bricks.items c.in_ok-before.before.items t c.requires.quiet c.requires.dark (c.in_ok-before.ensures.blank t)
    (subst (λ n. HasNeighbours 3 n t) c.requires.size has)
    (λ middle. elim middle [ inl e ↦ not_in 0 (omega arith) (sym e) | inr (inl e) ↦ not_in 1 (omega arith) (sym e) | inr (inr e) ↦ not_in 2 (omega arith) (sym e) ])
