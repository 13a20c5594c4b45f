use Rattle.std.proofs.Common.{ap, ap₂, ◌∙◌, arith}
use Rattle.std.proofs.lemmas.Int.{ints}
use Rattle.ca_quad.specs.Prelude.{cell}
use Rattle.ca_draw.specs.Prelude.{mark_of, byte_of_mark}
use Rattle.ca_draw.proofs.drawing.byte_at.Goals as goal

pub returns : goal.returns
returns c =
    c.byte.ensures
    ∙ ap (byte_of_mark c.args.style)
    (c.mark_at.ensures
    ∙ ap₂ (mark_of (cell c.args.store.now c.args.tree.now) c.args.style.states c.args.window.scale) (omega (arith, ints, c.from.ensures, c.requires.window)) (omega (arith, ints, c.from-2.ensures, c.requires.window)))
