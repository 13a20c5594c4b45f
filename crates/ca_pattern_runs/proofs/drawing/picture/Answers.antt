use Rattle.ca_pattern_runs.proofs.DrawnFiles.{drawn_of, caption_of, undrawn_of}
use Rattle.ca_pattern_runs.proofs.drawing.picture.Goals as goal

pub into_squares-requires : goal.into_squares-requires
into_squares-requires c =
    let (bytes, tables, n, is) = c.requires in
    (_, is.is_pattern.are_cells)

-- the picture of the tree is that of the plane
pub returns-in-Ok-picture_of-clause-drawn : goal.returns-in-Ok-picture_of-clause-drawn
returns-in-Ok-picture_of-clause-drawn c = λ bytes tables n is.
    let stored = c.in-Ok.field-0 in
    let tree = c.in-Ok.ensures.tree _ is.is_pattern.are_cells in
    drawn_of bytes tables n c.args.pattern is stored tree c.args.request c.states.result c.in-Ok-picture_of.drawn.text.items c.states.ensures.value c.in-Ok-picture_of.ensures.drawn

-- and so is its caption
pub returns-in-Ok-picture_of-clause-caption : goal.returns-in-Ok-picture_of-clause-caption
returns-in-Ok-picture_of-clause-caption c = λ bytes tables n is.
    let stored = c.in-Ok.field-0 in
    let tree = c.in-Ok.ensures.tree _ is.is_pattern.are_cells in
    caption_of bytes tables n c.args.pattern is stored tree c.args.request c.in-Ok-picture_of.drawn.caption.items c.in-Ok-picture_of.ensures.caption

-- and why there is none
pub returns-clause-fault : goal.returns-clause-fault
returns-clause-fault c = λ bytes tables n is.
    let stored = c.in-Ok.field-0 in
    let tree = c.in-Ok.ensures.tree _ is.is_pattern.are_cells in
    undrawn_of bytes tables n c.args.pattern is stored tree c.args.request c.in-Err.fault c.in-Err.ensures.fault
