use Rattle.std.proofs.Common.{refl}
use Rattle.ca_host.proofs.lookups.told.Goals as goal

-- the file with this fault
pub returns-in_ok-new-in-Faulty-clause-told : goal.returns-in_ok-new-in-Faulty-clause-told
returns-in_ok-new-in-Faulty-clause-told c =
    let faulty = c.in_ok-new-in-Faulty in
    rw c.in-Faulty.is (faulty.field-0, refl, faulty.ensures.name, faulty.ensures.path, faulty.ensures.fault)
