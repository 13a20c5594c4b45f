use Rattle.ca_identify_lines.proofs.CatalogSaid.{catalog_said}
use Rattle.ca_identify_lines.proofs.catalog.says_its_claims.Goals as goal

pub returns : goal.returns
returns c = catalog_said
