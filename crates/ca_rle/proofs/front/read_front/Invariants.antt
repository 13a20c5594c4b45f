use Rattle.std.proofs.Common.{◌≡◌, ◌++◌, length}
use Rattle.std.specs.Prelude.{ℕ, List}
use Rattle.std.specs.List.{flat_map}
use Rattle.ca_rle.specs.Prelude.{CxrleWord, line_with_lf}
use Rattle.ca_rle.specs.inner.FrontParts.{IsPreambleOf}
use Rattle.ca_rle.proofs.front.read_front.Given as goal

abbrev pub invariant-lines : goal.invariant-lines
invariant-lines l = (lines : List (List ℕ)) × (said : List CxrleWord) × IsPreambleOf lines said l.preamble × (l.bytes ≡ flat_map line_with_lf lines ++ l.rest)

abbrev pub decreases-lines : goal.decreases-lines
decreases-lines l = length l.rest
