use Rattle.std.proofs.Common.{◌≡◌, length, refl, sym, subst, arith}
use Rattle.std.proofs.lemmas.List.{length_push}
use Rattle.std.proofs.lemmas.Slice.Zip.{zip_turn, zip_end}
use Rattle.ca_clusters.proofs.MovedLists.{AreMovedBefore, AreMovedBefore-more, moved_cell_from_shift, shifted_from_all}
use Rattle.ca_clusters.proofs.shift.are_moved.Goals as goal

pub cells-init : goal.cells-init
cells-init c = λ k low d. absurd (omega (arith, low))

pub cells-preserved : goal.cells-preserved
cells-preserved c =
    let p = c.args.from.now in
    let q = c.args.to.now in
    let dx = c.args.shift.dx in
    let dy = c.args.shift.dy in
    let turn = zip_turn p q c.cells.yielded c.into_iter-at-iterator.result c.cells.at-iterator c.next.new.self c.next.result (cc) (cc) c.cells.yielded_by (c.in-Some.field-0-0, c.in-Some.field-0-1) c.in-Some.is c.next.ensures.steps in
    let is = moved_cell_from_shift c.in-Some.field-0-0.now c.in-Some.field-0-1.now c.args.shift (c.if-not-is_moved.ensures.0 refl) c.if-state-other.false in
    subst (AreMovedBefore p q dx dy) (sym (length_push c.cells.yielded (c.in-Some.field-0-0, c.in-Some.field-0-1)))
    (AreMovedBefore-more p q dx dy (length c.cells.yielded) _ _ turn.2 turn.3 is c.cells.invariant)

pub returns : goal.returns
returns c =
    let p = c.args.from.now in
    let q = c.args.to.now in
    let end = zip_end p q c.cells.yielded c.into_iter-at-iterator.result c.cells.at-iterator c.next.new.self c.next.result (cc) (cc) c.cells.yielded_by c.in-None.is c.next.ensures.steps in
    let all : length c.cells.yielded ≡ length p = omega (arith, end) in
    (λ _. shifted_from_all p q c.args.shift.dx c.args.shift.dy c.requires.lengths (subst (AreMovedBefore p q c.args.shift.dx c.args.shift.dy) all c.cells.invariant), λ _. refl)
