use Rattle.std.proofs.Common.{[], ◌∷◌, lit≤, lit<, codes, refl}
use Rattle.ca_macro.specs.Prelude.{Cells, Parts, Nothing, Rule, Generation, Adds, glider_leaf, cut_leaf, golly_leaf, mixed_leaf}
use Rattle.ca_macro.proofs.FileOrFault.{said_file}
use Rattle.ca_macro.proofs.Leaves.{leaf_found}
use Rattle.ca_macro.proofs.WorkedExamples.{numbers_found}
use Rattle.ca_macro.proofs.examples.worked_files.Goals as goal

pub returns-clause-glider : goal.returns-clause-glider
returns-clause-glider c = (
  said_file _ (codes "[M2] (cafile)") (codes "#R B3/S23" ∷ codes ".*$..*$***$$$$$$" ∷ codes "4 0 0 0 1" ∷ []) (Rule (codes "B3/S23") ∷ Adds glider_leaf ∷ Adds (Parts 4 0 0 0 1) ∷ []) refl refl
      (([], refl), tt, ((codes ".*$..*$***$$$$$$", refl, leaf_found (codes ".*$..*$***$$$$$$") refl), tt, (numbers_found (codes "4 0 0 0 1") refl, ((lit≤ tt, lit≤ tt), (tt, (tt, (tt, (refl, tt))))), tt))),
  refl,
)

pub returns-clause-cut : goal.returns-clause-cut
returns-clause-cut c = (
  said_file _ (codes "[M2] (cafile)") (codes "#R B3/S23" ∷ codes ".*$..*$" ∷ []) (Rule (codes "B3/S23") ∷ Adds cut_leaf ∷ []) refl refl
      (([], refl), tt, ((codes ".*$..*$", refl, leaf_found (codes ".*$..*$") refl), tt, tt)),
  refl,
)

pub returns-clause-golly : goal.returns-clause-golly
returns-clause-golly c = (
  said_file _ (codes "[M2] (golly 4.2)") (codes "#R B3/S23" ∷ codes "#G 4" ∷ codes "$$..*$...*$.***$$$$" ∷ codes "4 0 0 0 1" ∷ []) (Rule (codes "B3/S23") ∷ Generation 4 ∷ Adds golly_leaf ∷ Adds (Parts 4 0 0 0 1) ∷ []) refl refl
      (([], refl), tt, ((codes "4", refl, (refl, refl), lit< tt), tt, ((codes "$$..*$...*$.***$$$$", refl, leaf_found (codes "$$..*$...*$.***$$$$") refl), tt, (numbers_found (codes "4 0 0 0 1") refl, ((lit≤ tt, lit≤ tt), (tt, (tt, (tt, (refl, tt))))), tt)))),
  refl,
)

pub returns-clause-cross : goal.returns-clause-cross
returns-clause-cross c = (
  said_file _ (codes "[M2] (cafile)") (codes "#R Spread" ∷ codes "1 0 0 2 0" ∷ codes "1 0 2 0 0" ∷ codes "1 2 2 2 0" ∷ codes "2 0 1 2 3" ∷ []) (Rule (codes "Spread") ∷ Adds (Cells 0 0 2 0) ∷ Adds (Cells 0 2 0 0) ∷ Adds (Cells 2 2 2 0) ∷ Adds (Parts 2 0 1 2 3) ∷ []) refl refl
      (([], refl), tt, (numbers_found (codes "1 0 0 2 0") refl, (lit≤ tt, (lit≤ tt, (lit≤ tt, (lit≤ tt, tt)))), (numbers_found (codes "1 0 2 0 0") refl, (lit≤ tt, (lit≤ tt, (lit≤ tt, (lit≤ tt, tt)))), (numbers_found (codes "1 2 2 2 0") refl, (lit≤ tt, (lit≤ tt, (lit≤ tt, (lit≤ tt, tt)))), (numbers_found (codes "2 0 1 2 3") refl, ((lit≤ tt, lit≤ tt), (tt, (refl, (refl, (refl, tt))))), tt))))),
  refl,
)

pub returns-clause-mixed : goal.returns-clause-mixed
returns-clause-mixed c = (
  said_file _ (codes "[M2]\r") (codes "# 4 0 0 0 0\r" ∷ codes " #R Old rule\r" ∷ codes "\r" ∷ codes "#R\r" ∷ codes "#Rule\r" ∷ codes "\t#R New\r" ∷ codes "#G 007 \r" ∷ codes "**$**$\r" ∷ codes "1 0 0 0 0200\r" ∷ codes "2 2 0 0 2\r" ∷ codes "#G" ∷ []) (Nothing ∷ Rule (codes "Old") ∷ Nothing ∷ Nothing ∷ Nothing ∷ Rule (codes "New") ∷ Generation 7 ∷ Adds mixed_leaf ∷ Adds (Cells 0 0 0 200) ∷ Adds (Parts 2 2 0 0 2) ∷ Nothing ∷ []) refl refl
      (refl, tt, ((codes "rule" ∷ [], refl), tt, (refl, tt, (refl, tt, (refl, tt, (([], refl), tt, ((codes "007", refl, (refl, refl), lit< tt), tt, ((codes "**$**$", refl, leaf_found (codes "**$**$") refl), tt, (numbers_found (codes "1 0 0 0 0200\r") refl, (lit≤ tt, (lit≤ tt, (lit≤ tt, (lit≤ tt, tt)))), (numbers_found (codes "2 2 0 0 2\r") refl, ((lit≤ tt, lit≤ tt), (refl, (tt, (tt, (refl, tt))))), (refl, tt, tt))))))))))),
  refl,
)

pub returns-clause-no_node : goal.returns-clause-no_node
returns-clause-no_node c = (
  said_file _ (codes "[M2]") [] [] refl refl
      tt,
  refl,
)

pub returns-clause-highest : goal.returns-clause-highest
returns-clause-highest c = (
  said_file _ (codes "[M2]") (codes "120 0 0 0 0" ∷ []) (Adds (Parts 120 0 0 0 0) ∷ []) refl refl
      (numbers_found (codes "120 0 0 0 0") refl, ((lit≤ tt, lit≤ tt), (tt, (tt, (tt, (tt, tt))))), tt),
  refl,
)
