use Rattle.std.proofs.Common.{[], ◌∷◌, codes, refl}
use Rattle.ca_macro.specs.declared.fault.MacroFault.TheVariants.{NotMacro, Syntax, Forward}
use Rattle.ca_macro.specs.Prelude.{Nothing, Rule, AreFaulty, after_first, cut_numbers_text}
use Rattle.ca_plane.specs.Prelude.{text_of}
use Rattle.ca_macro.proofs.WorkedExamples.{faulty, faulty_after_leaf, own_number, four_numbers}
use Rattle.ca_macro.proofs.examples.worked_faulty_lines.Goals as goal

pub returns-clause-not_macro : goal.returns-clause-not_macro
returns-clause-not_macro c = (NotMacro, (refl, refl))

pub returns-clause-no_text : goal.returns-clause-no_text
returns-clause-no_text c = (NotMacro, (refl, refl))

pub returns-clause-second_line : goal.returns-clause-second_line
returns-clause-second_line c = (Forward, (faulty (after_first (codes "4 0 0 0 1")) (codes "4 0 0 0 1") [] (AreFaulty Forward) refl refl own_number, refl))

pub returns-clause-blank_lines_count : goal.returns-clause-blank_lines_count
returns-clause-blank_lines_count c = (
  Forward,
  (
    record {
      first = codes "[M2]";
      good = [] ∷ [] ∷ [];
      line = codes "4 0 0 0 1";
      later = [];
      said = Nothing ∷ Nothing ∷ [];
      begins = refl;
      lines_are = refl;
      say = (refl, tt, (refl, tt, tt));
      holds = own_number;
    },
    refl,
  ),
)

pub returns-clause-comments_count : goal.returns-clause-comments_count
returns-clause-comments_count c = (
  Forward,
  (
    record {
      first = codes "[M2]";
      good = codes "# a comment" ∷ codes "#R B3/S23" ∷ [];
      line = codes "4 0 0 0 1";
      later = [];
      said = Nothing ∷ Rule (codes "B3/S23") ∷ [];
      begins = refl;
      lines_are = refl;
      say = (refl, tt, (([], refl), tt, tt));
      holds = own_number;
    },
    refl,
  ),
)

pub returns-clause-first_of_two : goal.returns-clause-first_of_two
returns-clause-first_of_two c = (
  Syntax,
  (faulty (text_of (codes "[M2]" ∷ codes "4 0 0 0" ∷ codes "#FRAMES 2" ∷ [])) (codes "4 0 0 0") (codes "#FRAMES 2" ∷ []) (AreFaulty Syntax) refl refl four_numbers, refl),
)

pub returns-clause-cut : goal.returns-clause-cut
returns-clause-cut c = (Syntax, (faulty_after_leaf cut_numbers_text (codes "4 0 0 0 ") (AreFaulty Syntax) refl refl four_numbers, refl))
