use Rattle.ca_parts.proofs.Outgrown.{outgrown, outgrown_alone}
use Rattle.ca_parts.proofs.growth.outgrown_planes_are_not_settled.Goals as goal

pub returns-clause-alone : goal.returns-clause-alone
returns-clause-alone c = outgrown_alone

pub returns-clause-part : goal.returns-clause-part
returns-clause-part c next quiet cells parts start most whole finer apart p has more = outgrown next quiet cells parts start most whole apart p has more finer
