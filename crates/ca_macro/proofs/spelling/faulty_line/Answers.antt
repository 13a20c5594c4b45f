use Rattle.ca_macro.specs.inner.Reading.{file_of_lines}
use Rattle.ca_macro.proofs.OneMeaning.{no_fault_in_a_file}
use Rattle.ca_macro.proofs.spelling.faulty_line.Goals as goal

pub returns-in_default-clause-line : goal.returns-in_default-clause-line
returns-in_default-clause-line c = λ f h. let file = c.in_default.ensures.found in no_fault_in_a_file c.args.bytes.now (file_of_lines file.0) f file.1 h
