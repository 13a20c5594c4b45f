use Rattle.std.proofs.Common.{[]}
use Rattle.ca_plane.specs.Prelude.{lines_of}
use Rattle.ca_text.proofs.OneMeaning.{same_said}
use Rattle.ca_text.proofs.laws.one_meaning.Goals as goal

pub returns : goal.returns
returns c = λ bytes s t. same_said [] (lines_of bytes) s t
