use Rattle.std.proofs.Common.{◌-◌, ◌*◌, arith}
use Rattle.std.proofs.lemmas.Int.{ints}
use Rattle.ca_pattern.proofs.Times.{broad_wide}
use Rattle.ca_identify.proofs.Times.{number_reads, more_reads}
use Rattle.ca_identify.proofs.identification.leaps.has_grown_too_far.Goals as goal

pub returns-then-to-from : goal.returns-then-to-from
returns-then-to-from c = λ yes small.
    let from = c.requires.from in
    let to = c.requires.to in
    let columns = small.columns in
    let most = number_reads c.from-most.result (2 * (c.args.limit - 1)) c.from-most.ensures (omega (arith, c.requires.most)) in
    let more = more_reads c.args.to.now.x1 c.args.to.now.x0 c.args.from.now.x1 c.args.from.now.x0 to.right to.left from.right (broad_wide c.args.from.now.x0 from.left) in
    omega (arith, ints, c.if-to-from.true, c.from-most.ensures, most, more, columns)

pub returns-then-to-from-2 : goal.returns-then-to-from-2
returns-then-to-from-2 c = λ yes small.
    let from = c.requires.from in
    let to = c.requires.to in
    let rows = small.rows in
    let most = number_reads c.from-most.result (2 * (c.args.limit - 1)) c.from-most.ensures (omega (arith, c.requires.most)) in
    let more = more_reads c.args.to.now.y1 c.args.to.now.y0 c.args.from.now.y1 c.args.from.now.y0 to.bottom to.top from.bottom (broad_wide c.args.from.now.y0 from.top) in
    omega (arith, ints, c.if-to-from-2.true, c.from-most.ensures, most, more, rows)
