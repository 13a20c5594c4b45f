use Rattle.std.proofs.Common.{[], ◌∷◌, refl, arith}
use Rattle.ca_apgcode.specs.Prelude.{GridCells}
use Rattle.ca_apgcode.proofs.WorkedCodes.{step, one_strip, two_strips}
use Rattle.ca_apgcode.proofs.examples.worked_examples.Goals as goal

pub returns-clause-block : goal.returns-clause-block
returns-clause-block c =
    let grid : GridCells = record { height = 2; columns = 3 ∷ 3 ∷ [] } in
    one_strip grid (step 0 3 ∷ step 0 3 ∷ []) (omega arith) (omega arith) (omega arith) refl (record { west = (0, refl); east = (0, refl); north = (0, refl); south = (0, refl) }) (omega arith) refl refl

pub returns-clause-beehive : goal.returns-clause-beehive
returns-clause-beehive c =
    let grid : GridCells = record { height = 4; columns = 6 ∷ 9 ∷ 6 ∷ [] } in
    one_strip grid (step 0 6 ∷ step 0 9 ∷ step 0 6 ∷ []) (omega arith) (omega arith) (omega arith) refl (record { west = (1, refl); east = (1, refl); north = (1, refl); south = (1, refl) }) (omega arith) refl refl

pub returns-clause-boat : goal.returns-clause-boat
returns-clause-boat c =
    let grid : GridCells = record { height = 3; columns = 2 ∷ 5 ∷ 3 ∷ [] } in
    one_strip grid (step 0 2 ∷ step 0 5 ∷ step 0 3 ∷ []) (omega arith) (omega arith) (omega arith) refl (record { west = (1, refl); east = (0, refl); north = (1, refl); south = (1, refl) }) (omega arith) refl refl

pub returns-clause-glider : goal.returns-clause-glider
returns-clause-glider c =
    let grid : GridCells = record { height = 3; columns = 1 ∷ 5 ∷ 3 ∷ [] } in
    one_strip grid (step 0 1 ∷ step 0 5 ∷ step 0 3 ∷ []) (omega arith) (omega arith) (omega arith) refl (record { west = (0, refl); east = (0, refl); north = (0, refl); south = (1, refl) }) (omega arith) refl refl

pub returns-clause-lightweight : goal.returns-clause-lightweight
returns-clause-lightweight c =
    let grid : GridCells = record { height = 5; columns = 6 ∷ 15 ∷ 27 ∷ 12 ∷ [] } in
    one_strip grid (step 0 6 ∷ step 0 15 ∷ step 0 27 ∷ step 0 12 ∷ []) (omega arith) (omega arith) (omega arith) refl (record { west = (1, refl); east = (2, refl); north = (1, refl); south = (2, refl) }) (omega arith) refl refl

pub returns-clause-pentadecathlon : goal.returns-clause-pentadecathlon
returns-clause-pentadecathlon c =
    let grid : GridCells = record { height = 10; columns = 132 ∷ 891 ∷ 132 ∷ [] } in
    two_strips grid (step 0 4 ∷ step 0 27 ∷ step 0 4 ∷ []) (step 0 4 ∷ step 0 27 ∷ step 0 4 ∷ []) (omega arith) (omega arith) (omega arith) refl (record { west = (2, refl); east = (2, refl); north = (1, refl); south = (1, refl) }) (omega arith) (omega arith) refl refl refl refl

pub returns-clause-gaps : goal.returns-clause-gaps
returns-clause-gaps c =
    let grid : GridCells = record { height = 1; columns = 1 ∷ 0 ∷ 1 ∷ 0 ∷ 0 ∷ 1 ∷ 0 ∷ 0 ∷ 0 ∷ 1 ∷ 0 ∷ 0 ∷ 0 ∷ 0 ∷ 1 ∷ [] } in
    one_strip grid (step 0 1 ∷ step 1 1 ∷ step 2 1 ∷ step 3 1 ∷ step 4 1 ∷ []) (omega arith) (omega arith) (omega arith) refl (record { west = (0, refl); east = (0, refl); north = (0, refl); south = (0, refl) }) (omega arith) refl refl
