use Rattle.std.proofs.Common.{ap, arith}
use Rattle.ca_run.proofs.AgedWords.{state_at}
use Rattle.ca_run.proofs.leaper.Leaper.state_in.Goals as goal

pub returns-in-0-eq0 : goal.returns-in-0-eq0
returns-in-0-eq0 g c = λ p a b shows.
    state_at c.self.inside.store c.args.self.now.nodes (ap (λ l. l.nodes) c.self.view_is) c.part_at-leaf.result c.cells4.result p a b c.args.x c.args.y 0 c.cells4.ensures.corners (c.part_at-leaf.ensures.shows p a b shows)
    (omega (arith, c.in-0-eq0.is-0, c.in-0-eq0.is-1))

pub returns-in-0-default : goal.returns-in-0-default
returns-in-0-default g c = λ p a b shows.
    state_at c.self.inside.store c.args.self.now.nodes (ap (λ l. l.nodes) c.self.view_is) c.part_at-leaf.result c.cells4.result p a b c.args.x c.args.y 2 c.cells4.ensures.corners (c.part_at-leaf.ensures.shows p a b shows)
    (omega (arith, c.in-0-default.is-0, c.in-0-default.is-1))

pub returns-in_default-eq0 : goal.returns-in_default-eq0
returns-in_default-eq0 g c = λ p a b shows.
    state_at c.self.inside.store c.args.self.now.nodes (ap (λ l. l.nodes) c.self.view_is) c.part_at-leaf.result c.cells4.result p a b c.args.x c.args.y 1 c.cells4.ensures.corners (c.part_at-leaf.ensures.shows p a b shows)
    (omega (arith, c.in_default-eq0.is-0, c.in_default-eq0.is-1))

pub returns-in_default : goal.returns-in_default
returns-in_default g c = λ p a b shows.
    state_at c.self.inside.store c.args.self.now.nodes (ap (λ l. l.nodes) c.self.view_is) c.part_at-leaf.result c.cells4.result p a b c.args.x c.args.y 3 c.cells4.ensures.corners (c.part_at-leaf.ensures.shows p a b shows)
    (omega (arith, c.in_default.is-0, c.in_default.is-1))
