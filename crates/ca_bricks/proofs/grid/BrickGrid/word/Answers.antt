use Rattle.std.proofs.Common.{◌≡◌, inl, inr, subst, arith, w64, to_z, of_z}
use Rattle.std.specs.Prelude.{pos, ◌+ℤ◌, unsigned_abs}
use Rattle.std.proofs.lemmas.Int.{ints}
use Rattle.ca_bricks.specs.Prelude.{WordShows, eight}
use Rattle.ca_bricks.proofs.Grids.{word_beyond, word_there}
use Rattle.ca_bricks.proofs.grid.BrickGrid.word.Goals as goal
use Rattle.ca_bricks.proofs.grid.BrickGrid.word.Goals.{then-at-lt0-via-then-at-lt0, then-at-lt0-via-else-at-lt0+then-at-lt0-2}

pub returns-then-at-lt0 : goal.returns-then-at-lt0
returns-then-at-lt0 c = λ m p shows.
    word_beyond c.args.self.now m p shows c.args.at.i c.args.at.j (elim c.then-at-lt0.branch [
      | then-at-lt0-via-then-at-lt0 w ↦ inl (grind (arith, ints, w.if-at-lt0.true))
      | then-at-lt0-via-else-at-lt0+then-at-lt0-2 w ↦ inr (inr (inl (grind (arith, ints, w.if-at-lt0-2.true))))
    ])

pub returns : goal.returns
returns c = λ m p shows.
    let i = unsigned_abs (to_z w64 (of_z w64 c.args.at.i)) in
    let j = unsigned_abs (to_z w64 (of_z w64 c.args.at.j)) in
    let x = c.args.self.now.x in
    let y = c.args.self.now.y in
    let e : pos i ≡ c.args.at.i = omega (arith, ints, c.if-at-lt0.false) in
    let f : pos j ≡ c.args.at.j = omega (arith, ints, c.if-at-lt0-2.false) in
    subst (λ v. WordShows c.brick_word.result p (x +ℤ eight c.args.at.i) (y +ℤ eight v)) f
    (subst (λ u. WordShows c.brick_word.result p (x +ℤ eight u) (y +ℤ eight (pos j))) e (word_there c.brick_word.result i j p x y (c.brick_word.ensures p _ _ (c.brick.ensures m p shows))))
