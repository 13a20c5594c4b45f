use Rattle.std.proofs.Common.{[], ◌∷◌, codes, inl, inr, refl, arith}
use Rattle.std.proofs.lemmas.Int.{ints}
use Rattle.ca_import.proofs.examples.worked_lines.Goals as goal

pub returns-clause-life106 : goal.returns-clause-life106
returns-clause-life106 c = (
  refl,
  record { placed = tt; within = tt; few = omega arith },
  (
    (codes "-1", codes "0", refl, inr (codes "1", refl, refl, refl), inl (refl, refl)),
    record { placed = tt; within = (omega (arith, ints), omega (arith, ints), omega (arith, ints), omega (arith, ints)); few = omega arith },
    tt,
  ),
)

pub returns-clause-plaintext : goal.returns-clause-plaintext
returns-clause-plaintext c = (
  refl,
  record { placed = tt; within = tt; few = omega arith },
  (
    record { cells_are = refl; blanks = refl },
    record { placed = tt; within = record { south = omega (arith, ints); east = omega (arith, ints) }; few = omega arith },
    (
      record { cells_are = refl; blanks = refl },
      record { placed = tt; within = record { south = omega (arith, ints); east = omega (arith, ints) }; few = omega arith },
      (
        record { cells_are = refl; blanks = refl },
        record { placed = tt; within = record { south = omega (arith, ints); east = omega (arith, ints) }; few = omega arith },
        tt,
      ),
    ),
  ),
)

pub returns-clause-life105 : goal.returns-clause-life105
returns-clause-life105 c = (
  refl,
  record { placed = tt; within = tt; few = omega arith },
  (
    (codes "5" ∷ codes "-1" ∷ [], codes "5", codes "-1", refl, refl, inl (refl, refl), inr (codes "1", refl, refl, refl)),
    record { placed = tt; within = (omega (arith, ints), omega (arith, ints), omega (arith, ints), omega (arith, ints)); few = omega arith },
    (
      (record { cells_are = refl; blanks = refl }, omega arith),
      record { placed = tt; within = record { south = omega (arith, ints); east = omega (arith, ints) }; few = omega arith },
      tt,
    ),
  ),
)
