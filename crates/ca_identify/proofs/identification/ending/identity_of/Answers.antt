use Rattle.std.proofs.Common.{◌≤◌, subst}
use Rattle.ca_identify.specs.inner.Stages.{IsEnding, generations_of}
use Rattle.ca_identify.proofs.Identities.{death_true}
use Rattle.ca_identify.proofs.identification.ending.identity_of.Goals as goal

pub returns-in-Death : goal.returns-in-Death
returns-in-Death c = λ next cells limit within short is.
    (tt, death_true next cells limit c.in-Death.generations (subst (λ e. generations_of e ≤ limit) c.in-Death.is within) short (subst (IsEnding next cells) c.in-Death.is is))

pub returns-in-Return : goal.returns-in-Return
returns-in-Return c = λ next cells limit within short is.
    c.identity_of_return.ensures next cells limit (subst (λ e. generations_of e ≤ limit) c.in-Return.is within) short (subst (IsEnding next cells) c.in-Return.is is)
