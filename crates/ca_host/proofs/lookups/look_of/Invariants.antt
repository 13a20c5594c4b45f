use Rattle.std.proofs.Common.{◌≡◌, drop}
use Rattle.ca_host.specs.Lookups.{look_of}
use Rattle.ca_host.proofs.lookups.look_of.Given as goal

-- it is the first of this name among those that are left
abbrev pub invariant-looks : goal.invariant-looks
invariant-looks l = look_of l.fn.looks l.fn.name ≡ look_of (drop l.found-index l.fn.looks) l.fn.name
