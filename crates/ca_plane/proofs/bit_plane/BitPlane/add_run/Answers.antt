use Rattle.std.proofs.Common.{◌≡◌, ℕ, ◌+◌, ◌-◌, ℤ, pos, ◌+ℤ◌, FitsSigned, w64, to_z, of_z, ap, sym, ◌∙◌, arith}
use Rattle.std.proofs.lemmas.Int.{ints, to_z-of_z}
use Rattle.std.proofs.lemmas.Result.{err_from_is_err_and}
use Rattle.ca_plane.specs.Prelude.{reach}
use Rattle.ca_plane.proofs.BitPlanes.{AddsColumns-word, AddsRun-columns}
use Rattle.ca_plane.proofs.bit_plane.BitPlane.add_run.Goals as goal

pub words-preserved : goal.words-preserved
words-preserved c = record {
  start = omega (arith, c.words.invariant.start, c.end_of_word-stop.ensures.more);
  order = c.end_of_word-stop.ensures.most;
  adds = AddsColumns-word c.from_corner-row.result c.from_corner-next.result c.words.next c.end_of_word-stop.result c.args.self.now c.words.self c.add_word.new.self c.word_of_run.result c.words.invariant.start (omega (arith, c.end_of_word-stop.ensures.more)) c.words.invariant.adds c.word_of_run.ensures.run c.in_ok-add_word.ensures.ok;
}

-- how far a coordinate is from the corner
is_offset : (z : ℤ) (n : ℕ) → FitsSigned w64 z → pos n ≡ to_z w64 (of_z w64 z) +ℤ reach → pos n ≡ z +ℤ reach
is_offset z n fits is = is ∙ ap (λ z. z +ℤ reach) (to_z-of_z w64 z fits)

pub returns-clause-ok : goal.returns-clause-ok
returns-clause-ok c =
    let is_first = is_offset c.args.first.x _ (omega (arith, ints, c.requires.west, c.requires.east)) c.from_corner-next.ensures in
    let is_row = is_offset c.args.first.y _ (omega (arith, ints, c.requires.north, c.requires.south)) c.from_corner-row.ensures in
    let ends : c.words.next ≡ c.from_corner-next.result + c.args.length = omega (arith, c.words.invariant.order, c.words-test.false) in
    AddsRun-columns c.args.first c.args.length c.from_corner-row.result c.from_corner-next.result c.args.self.now c.words.self is_row is_first (rw (sym ends) c.words.invariant.adds)

pub returns-in_err-add_word-clause-err : goal.returns-in_err-add_word-clause-err
returns-in_err-add_word-clause-err c =
    let is_first = is_offset c.args.first.x _ (omega (arith, ints, c.requires.west, c.requires.east)) c.from_corner-next.ensures in
    let is_row = is_offset c.args.first.y _ (omega (arith, ints, c.requires.north, c.requires.south)) c.from_corner-row.ensures in
    let some = c.words.next - c.from_corner-next.result in
    let ends : c.words.next ≡ c.from_corner-next.result + some = omega (arith, c.words.invariant.start) in
    let err = err_from_is_err_and c.from_residual.result c.from_residual.ensures.1 in
    rw err.1 (
      some,
      omega (arith, c.words.invariant.start, c.words-test.true),
      AddsRun-columns c.args.first some c.from_corner-row.result c.from_corner-next.result c.args.self.now c.add_word.new.self is_row is_first
          (rw (sym ends, c.in_err-add_word.ensures.err) c.words.invariant.adds),
    )
