use Rattle.std.proofs.Common.{◌≡◌, ℕ, ◌+◌, ◌*◌, ◌/◌, ◌%◌, ◌<◌, [], slice_index, get_or, pos, ◌+ℤ◌, subst}
use Rattle.ca_plane.specs.Prelude.{cells_after}
use Rattle.ca_apgcode.specs.Prelude.{IsBoxRound}
use Rattle.ca_apgcode.proofs.PlaneBoxes.{box_as}
use Rattle.ca_apgcode_search.proofs.FrameRounds.{dark_beside}
use Rattle.ca_apgcode_search.proofs.FrameShows.{frame_x, frame_y, next_shows, are_columns, turned_after}
use Rattle.ca_apgcode_search.proofs.LargeObjects.{found_weaker}
use Rattle.ca_apgcode_search.proofs.small.next_box.Goals as goal

pub next_frame-requires-clause-dark : goal.next_frame-requires-clause-dark
next_frame-requires-clause-dark c = dark_beside c.args.grid.now c.in_ok-bricks.bricks.items c.width.ensures.grid c.in_ok-bricks.ensures

pub returns : goal.returns
returns c = λ next cells by quiet two box.
    let grid = c.args.grid.now in
    let later = c.in_ok-later.later in
    let rows = c.middle_rows.result in
    let a = frame_x cells grid two box in
    let b = frame_y cells grid two box in
    let p = cells_after next (λ u v. cells v u) 1 in
    let shows = next_shows cells grid two box next c.args.counting by quiet c.in_ok-bricks.bricks later c.in_ok-bricks.ensures c.in_ok-later.ensures.size c.in_ok-later.ensures.next c.in_ok-later.ensures.edge in
    let are : (r : ℕ) → r < 48 → slice_index rows r ≡ slice_index (get_or later.items (4 + 3 * (r / 16)) []) (r % 16) = subst (λ l. (r : ℕ) → r < 48 → slice_index rows r ≡ slice_index (get_or l (4 + 3 * (r / 16)) []) (r % 16)) c.deref.ensures.value c.middle_rows.ensures in
    let columns = are_columns later a b p shows rows are in
    found_weaker c.box_of_rows.result (IsBoxRound (λ x y. p y x)) (IsBoxRound (cells_after next cells 1))
    (λ g is. box_as (λ x y. p y x) (cells_after next cells 1) g (turned_after next c.args.counting by cells two) is)
    (c.box_of_rows.ensures (λ x y. p y x) (b +ℤ pos 16) (a +ℤ pos 64) columns)
