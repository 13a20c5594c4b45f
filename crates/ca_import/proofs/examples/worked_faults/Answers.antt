use Rattle.std.proofs.Common.{[], ◌∷◌, codes, refl, arith}
use Rattle.ca_import.specs.declared.format.ImportFormat.TheVariants.{Lines}
use Rattle.ca_import.specs.declared.format.LineFormat.TheVariants.{Life105}
use Rattle.ca_import.specs.Prelude.{Nothing, Row}
use Rattle.ca_import.proofs.examples.worked_faults.Goals as goal

pub returns : goal.returns
returns c = record {
  no_corner = record {
    format = Lines Life105;
    begins = refl;
    faulty = record {
      good = codes "#Life 1.05" ∷ [];
      line = codes "*";
      later = [];
      said = Nothing ∷ [];
      lines_are = refl;
      say = (refl, record { placed = tt; within = tt; few = omega arith }, tt);
      faulty = (Row (codes "*"), (record { cells_are = refl; blanks = refl }, omega arith), λ h. h);
      number_is = refl;
    };
  };
}
