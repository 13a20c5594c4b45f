use Rattle.std.proofs.Common.{◌≤◌, refl, arith}
use Rattle.ca_census.proofs.SettledSearches.{clusters_from, settled_there, unsettled_there}
use Rattle.ca_census.proofs.settling.Between.halve.Goals as goal

pub returns-in-Some-clause-between : goal.returns-in-Some-clause-between
returns-in-Some-clause-between c = λ next cells reach quiet stands is.
    let less = c.requires.before in
    let within : c.args.middle ≤ c.args.self.now.settled.generations = omega (arith, less) in
    let from = clusters_from next cells reach c.args.self.now is c.args.middle within c.args.plane stands in
    let told = c.in_ok-clusters.ensures.clusters next quiet (rw c.deref.ensures.value from) in
    let found = rw c.in-Some.is at told in
    settled_there next cells reach c.args.self.now is c.args.middle within c.args.plane stands (record { generations = c.args.middle; plane = c.args.plane; clusters = c.in-Some.clusters }) refl refl found

pub returns-in-None-clause-between : goal.returns-in-None-clause-between
returns-in-None-clause-between c = λ next cells reach quiet stands is.
    let less = c.requires.before in
    let within : c.args.middle ≤ c.args.self.now.settled.generations = omega (arith, less) in
    let from = clusters_from next cells reach c.args.self.now is c.args.middle within c.args.plane stands in
    let told = c.in_ok-clusters.ensures.unsettled next quiet (rw c.deref.ensures.value from) in
    unsettled_there next cells reach c.args.self.now is c.args.middle within c.args.plane stands quiet ((rw c.in-None.is at told) refl)
