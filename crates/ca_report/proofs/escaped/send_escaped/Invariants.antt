use Rattle.std.proofs.Common.{◌≡◌, ◌++◌, List, ℕ, length}
use Rattle.std.specs.Io.KnownBytes.{Appends}
use Rattle.ca_report.specs.Prelude.{escaped}
use Rattle.ca_report.proofs.escaped.send_escaped.Given as goal

-- a first part of the text was sent, what is left follows it, and no write failed
abbrev pub invariant-parts : goal.invariant-parts
invariant-parts g l = record {
  kept : l.device.failures ≡ l.fn.device.failures;
  sent : (front : List ℕ) × (escaped l.fn.text ≡ front ++ escaped l.rest) × Appends (g.W.Write.contents l.fn.device.inner) (g.W.Write.contents l.device.inner) front;
}

abbrev pub decreases-parts : goal.decreases-parts
decreases-parts g l = length l.rest
