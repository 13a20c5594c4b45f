use Rattle.std.proofs.Common.{sym, ◌∙◌}
use Rattle.ca_macro.specs.inner.Leaves.{leaf_cells}
use Rattle.ca_macro.proofs.Leaves.{leaf_found}
use Rattle.ca_macro.proofs.LeafLines.{fault_none, fault_found}
use Rattle.ca_macro.proofs.line.leaf.leaf.Goals as goal

pub returns-in-Some-clause-fault : goal.returns-in-Some-clause-fault
returns-in-Some-clause-fault c = fault_found c.args.bytes.now c.in-Some.fault c.requires.begins (sym c.fault_from.ensures ∙ c.in-Some.is)

pub fill-requires : goal.fill-requires
fill-requires c = fault_none c.args.bytes.now 8 8 (sym c.fault_from.ensures ∙ c.in_default.is)

pub returns-clause-found : goal.returns-clause-found
returns-clause-found c = (leaf_cells c.args.bytes.now, leaf_found c.args.bytes.now (fault_none c.args.bytes.now 8 8 (sym c.fault_from.ensures ∙ c.in_default.is)), c.fill.ensures)
