use Rattle.ca_identify.proofs.IdentifiedFiles.{whole_limit}
use Rattle.ca_identify.proofs.identity_laws.looks_find_identities.Goals as goal

pub returns-clause-found : goal.returns-clause-found
returns-clause-found c = λ bytes tables n scope look (cells, rule, holds, (later, stands, is)). (cells, rule, holds, (later, stands, is.identity))

pub returns-clause-whole : goal.returns-clause-whole
returns-clause-whole c = λ bytes tables n scope look none is. whole_limit bytes tables n scope look none is
