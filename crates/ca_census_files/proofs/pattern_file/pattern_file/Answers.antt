use Rattle.std.proofs.Common.{refl, subst}
use Rattle.std.specs.List.{Any}
use Rattle.ca_plane.specs.Prelude.{Picture, IsInRange}
use Rattle.ca_census_files.proofs.OutOfRange.{listed_out}
use Rattle.ca_census_files.proofs.pattern_file.pattern_file.Goals as goal

pub returns-then-has_cell_out_of_range-clause-none : goal.returns-then-has_cell_out_of_range-clause-none
returns-then-has_cell_out_of_range-clause-none c =
    listed_out c.args.plane.now c.as_slice.ensures.sparse (subst (λ (p : Picture). Any (λ e. IsInRange e.0 → ⊥) p) c.as_slice.ensures.all (c.if-has_cell_out_of_range.ensures.out refl))
