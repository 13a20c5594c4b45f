use Rattle.std.proofs.Common.{◌≡◌, suc, subst, arith}
use Rattle.std.proofs.lemmas.Bool.Decides.{nat_tests}
use Rattle.ca_quad.specs.Prelude.{IsOf}
use Rattle.ca_bricks.specs.Prelude.{WordSquareShows, WordShows}
use Rattle.ca_run.proofs.Lanes.{centre_shown}
use Rattle.ca_run.proofs.leaper.Leaper.centre_words.Goals as goal

pub words-requires : goal.words-requires
words-requires g c =
    let level : c.args.part_level ≡ 2 = grind (arith, nat_tests, c.if-part_level-eq2.true) in
    subst (λ k. IsOf c.args.self.now.nodes c.args.id (suc (suc k))) level c.requires.is_square

pub wide_square-requires : goal.wide_square-requires
wide_square-requires g c =
    let level : c.args.part_level ≡ 3 = grind (arith, nat_tests, c.if-part_level-eq3.true) in
    subst (λ k. IsOf c.args.self.now.nodes c.args.id (suc (suc k))) level c.requires.is_square

pub returns-then-part_level-eq2 : goal.returns-then-part_level-eq2
returns-then-part_level-eq2 g c =
    let level : c.args.part_level ≡ 2 = grind (arith, nat_tests, c.if-part_level-eq2.true) in
    centre_shown WordShows (g.A.Automaton.next_of c.args.self.now.rule) c.args.self.now.nodes c.args.id c.args.part_level c.args.j 2 c.leap_length.result c.in_ok-word.word level c.leap_length.ensures.value
    (λ p a b shows. c.in_ok-word.ensures _ p a b c.in-Some.ensures (c.in-Some-words.ensures p a b shows))

pub returns-then-part_level-eq3 : goal.returns-then-part_level-eq3
returns-then-part_level-eq3 g c =
    let level : c.args.part_level ≡ 3 = grind (arith, nat_tests, c.if-part_level-eq3.true) in
    centre_shown WordSquareShows (g.A.Automaton.next_of c.args.self.now.rule) c.args.self.now.nodes c.args.id c.args.part_level c.args.j 3 _ c.in_ok-words.words level c.split_leap-first.ensures.sum
    (λ p a b shows. c.in_ok-words.ensures _ p a b c.in-Some.ensures (c.in-Some-wide_square.ensures p a b shows))
