use Rattle.ca_identify_lines.proofs.Endings.{at_dot, before_other, at_none}
use Rattle.ca_identify_lines.proofs.names.without_ending.Goals as goal

pub returns-then-last-eq46 : goal.returns-then-last-eq46
returns-then-last-eq46 c =
    let (later, whole, none) = c.bytes.invariant in
    at_dot c.args.name.now c.bytes.front.now c.in-Some.before.now later c.in-Some.last.now whole none c.in-Some.ensures.cases.0 c.if-last-eq46.true

pub returns : goal.returns
returns c =
    let (later, whole, none) = c.bytes.invariant in
    at_none c.args.name.now c.bytes.front.now later whole none c.in_default.ensures.cases

pub bytes-preserved : goal.bytes-preserved
bytes-preserved c =
    let (later, whole, none) = c.bytes.invariant in
    before_other c.args.name.now c.bytes.front.now c.in-Some.before.now later c.in-Some.last.now whole none c.in-Some.ensures.cases.0 c.if-last-eq46.false
