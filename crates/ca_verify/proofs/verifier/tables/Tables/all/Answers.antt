use Rattle.std.proofs.Common.{subst}
use Rattle.ca_verify.specs.NeededFiles.{AreRead}
use Rattle.ca_verify.proofs.TablesFound.{refused_missing, refused_faulty}
use Rattle.ca_verify.proofs.verifier.tables.Tables.all.Goals as goal

pub returns-in-Missing-clause-refusal : goal.returns-in-Missing-clause-refusal
returns-in-Missing-clause-refusal c = λ files paths rules asks patterns read there.
    let held = subst (AreRead files paths rules) c.in-Missing.is read in
    refused_missing files paths rules asks patterns c.in-Missing.place held.0 there held.1

pub returns-in-Faulty-clause-refusal : goal.returns-in-Faulty-clause-refusal
returns-in-Faulty-clause-refusal c = λ files paths rules asks patterns read there.
    let held = subst (AreRead files paths rules) c.in-Faulty.is read in
    refused_faulty files paths rules asks patterns c.in-Faulty.faulty held.0 there held.1 held.2
