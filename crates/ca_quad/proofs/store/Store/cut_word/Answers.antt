use Rattle.std.proofs.Common.{◌≡◌, ℕ, ◌<◌, ◌^◌, subst, arith}
use Rattle.std.proofs.lemmas.Bool.Decides.{nat_tests}
use Rattle.ca_quad.proofs.CutWords.{four_words, words_low}
use Rattle.ca_quad.proofs.store.Store.cut_word.Goals as goal

pub returns-clause-word : goal.returns-clause-word
returns-clause-word c =
    let place = c.args.place in
    let three : c.args.level ≡ 3 = grind (arith, nat_tests) in
    let low : place.x < 8 = subst (λ (l : ℕ). place.x < 2 ^ l) three c.requires.x in
    let west = c.rows_from-west in
    let east = c.rows_from-east in
    record {
      is_level = three;
      has_cells = four_words c.args.self.now c.args.four c.in_ok-nw.nw c.in_ok-ne.ne c.in_ok-sw.sw c.in_ok-se.se c.in_ok-nw.ensures c.in_ok-ne.ensures c.in_ok-sw.ensures c.in_ok-se.ensures place.x place.y
          west.result east.result c.columns_from.result west.ensures.north west.ensures.south east.ensures.north east.ensures.south c.columns_from.ensures.west c.columns_from.ensures.east low;
    }

pub returns-clause-states : goal.returns-clause-states
returns-clause-states c = λ some.
    words_low c.args.self.now c.args.four c.in_ok-nw.nw c.in_ok-ne.ne c.in_ok-sw.sw c.in_ok-se.se c.in_ok-nw.ensures c.in_ok-ne.ensures c.in_ok-sw.ensures c.in_ok-se.ensures
