use Rattle.std.proofs.Common.{ℕ, zero, suc, ◌≤◌, pos, [], ◌∷◌, inl, inr, lit≤, lit<, codes, refl, arith}
use Rattle.std.specs.List.{AllByRecursion}
use Rattle.std.proofs.lemmas.Int.{ints}
use Rattle.ca_plane.specs.Prelude.{cell}
use Rattle.ca_quad.specs.Prelude.{IsWithinLevel}
use Rattle.ca_macro.specs.Prelude.{Cells, Parts, Fits, glider_file, glider, cross_file, cross}
use Rattle.ca_macro.proofs.WorkedExamples.{fits_found, spelled_by, tidy_found}
use Rattle.ca_macro.proofs.examples.worked_tidy_texts.Goals as goal

-- the places of the glider, and those of the cross
places4 : AllByRecursion (λ e. IsWithinLevel 4 e.0.x × IsWithinLevel 4 e.0.y) glider
places4 = (((omega (arith, ints), omega (arith, ints)), (omega (arith, ints), omega (arith, ints))), (((omega (arith, ints), omega (arith, ints)), (omega (arith, ints), omega (arith, ints))), (((omega (arith, ints), omega (arith, ints)), (omega (arith, ints), omega (arith, ints))), (((omega (arith, ints), omega (arith, ints)), (omega (arith, ints), omega (arith, ints))), (((omega (arith, ints), omega (arith, ints)), (omega (arith, ints), omega (arith, ints))), tt)))))

places2 : AllByRecursion (λ e. IsWithinLevel 2 e.0.x × IsWithinLevel 2 e.0.y) cross
places2 = (((omega (arith, ints), omega (arith, ints)), (omega (arith, ints), omega (arith, ints))), (((omega (arith, ints), omega (arith, ints)), (omega (arith, ints), omega (arith, ints))), (((omega (arith, ints), omega (arith, ints)), (omega (arith, ints), omega (arith, ints))), (((omega (arith, ints), omega (arith, ints)), (omega (arith, ints), omega (arith, ints))), (((omega (arith, ints), omega (arith, ints)), (omega (arith, ints), omega (arith, ints))), tt)))))

pub returns-clause-glider : goal.returns-clause-glider
returns-clause-glider c =
    tidy_found _ glider _ 2 glider_file.nodes (Parts 4 0 0 0 1) refl refl refl (record { allowed = lit≤ tt; fits = fits_found 4 glider places4; least = λ other h f. h })
    (tt, (((lit≤ tt, lit≤ tt), (tt, (tt, (tt, (refl, tt))))), tt)) ((refl, refl, (lit≤ tt, (lit≤ tt, (lit≤ tt, (lit≤ tt, (lit≤ tt, (lit≤ tt, (lit≤ tt, (lit≤ tt, tt)))))))), (refl, (refl, (refl, (refl, (refl, (refl, (refl, (refl, tt))))))))), (λ e. lit≤ tt, tt))
    ((λ e. absurd cc, tt), (tt, tt)) (inl (refl, (refl, tt)))
    (spelled_by (codes "[M2] (cafile)" ∷ codes "#R B3/S23" ∷ codes ".*$..*$***$$$$$$" ∷ []) ((4 ∷ 0 ∷ 0 ∷ 0 ∷ 1 ∷ []) ∷ []) (((lit< tt, (lit< tt, (lit< tt, (lit< tt, (lit< tt, tt))))), tt)))

-- the cross doesn't fit into a square of level 1
wide : (other : ℕ) → 1 ≤ other → Fits other (cell cross) → 2 ≤ other
wide zero h f = omega arith
wide (suc zero) h f = let at = f (pos 1) (pos 0) (λ e. absurd cc) in absurd (omega (arith, ints))
wide (suc (suc n)) h f = omega arith

pub returns-clause-cross : goal.returns-clause-cross
returns-clause-cross c =
    tidy_found _ cross _ 3 cross_file.nodes (Parts 2 0 1 2 3) refl refl refl (record { allowed = lit≤ tt; fits = fits_found 2 cross places2; least = wide })
    ((lit≤ tt, (lit≤ tt, (lit≤ tt, (lit≤ tt, tt)))), ((lit≤ tt, (lit≤ tt, (lit≤ tt, (lit≤ tt, tt)))), ((lit≤ tt, (lit≤ tt, (lit≤ tt, (lit≤ tt, tt)))), (((lit≤ tt, lit≤ tt), (tt, (refl, (refl, (refl, tt))))), tt)))) (λ e. absurd cc, (λ e. absurd cc, (λ e. absurd cc, (λ e. absurd cc, tt))))
    ((λ e. absurd cc, (λ e. absurd cc, (λ e. absurd cc, tt))), ((λ e. absurd cc, (λ e. absurd cc, tt)), ((λ e. absurd cc, tt), (tt, tt)))) (inl (refl, (refl, (refl, (refl, tt)))))
    (spelled_by (codes "[M2] (cafile)" ∷ codes "#R Spread" ∷ []) ((1 ∷ 0 ∷ 0 ∷ 2 ∷ 0 ∷ []) ∷ (1 ∷ 0 ∷ 2 ∷ 0 ∷ 0 ∷ []) ∷ (1 ∷ 2 ∷ 2 ∷ 2 ∷ 0 ∷ []) ∷ (2 ∷ 0 ∷ 1 ∷ 2 ∷ 3 ∷ []) ∷ []) (((lit< tt, (lit< tt, (lit< tt, (lit< tt, (lit< tt, tt))))), ((lit< tt, (lit< tt, (lit< tt, (lit< tt, (lit< tt, tt))))), ((lit< tt, (lit< tt, (lit< tt, (lit< tt, (lit< tt, tt))))), ((lit< tt, (lit< tt, (lit< tt, (lit< tt, (lit< tt, tt))))), tt))))))

pub returns-clause-empty : goal.returns-clause-empty
returns-clause-empty c =
    tidy_found _ [] _ 2 (Parts 4 0 0 0 0 ∷ []) (Parts 4 0 0 0 0) refl refl refl (record { allowed = lit≤ tt; fits = fits_found 4 [] tt; least = λ other h f. h })
    (((lit≤ tt, lit≤ tt), (tt, (tt, (tt, (tt, tt))))), tt) (λ e. lit≤ tt, tt) (tt, tt) (inr refl)
    (spelled_by (codes "[M2] (cafile)" ∷ codes "#R B3/S23" ∷ []) ((4 ∷ 0 ∷ 0 ∷ 0 ∷ 0 ∷ []) ∷ []) (((lit< tt, (lit< tt, (lit< tt, (lit< tt, (lit< tt, tt))))), tt)))

pub returns-clause-empty_of_states : goal.returns-clause-empty_of_states
returns-clause-empty_of_states c =
    tidy_found _ [] _ 3 (Cells 0 0 0 0 ∷ []) (Cells 0 0 0 0) refl refl refl (record { allowed = lit≤ tt; fits = fits_found 1 [] tt; least = λ other h f. h })
    ((lit≤ tt, (lit≤ tt, (lit≤ tt, (lit≤ tt, tt)))), tt) (λ e. absurd cc, tt) (tt, tt) (inr refl)
    (spelled_by (codes "[M2] (cafile)" ∷ codes "#R Spread" ∷ []) ((1 ∷ 0 ∷ 0 ∷ 0 ∷ 0 ∷ []) ∷ []) (((lit< tt, (lit< tt, (lit< tt, (lit< tt, (lit< tt, tt))))), tt)))
