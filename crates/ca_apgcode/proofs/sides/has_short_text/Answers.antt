use Rattle.std.proofs.Common.{sym, ◌∙◌}
use Rattle.std.proofs.lemmas.Bool.{false≢true}
use Rattle.ca_apgcode.specs.declared.sides.Side.TheVariants.{North, South, West, East}
use Rattle.ca_apgcode.proofs.TurnedTexts.{AreLongFrom, long_in_all}
use Rattle.ca_apgcode.proofs.sides.has_short_text.Goals as goal
use Rattle.ca_apgcode.proofs.sides.has_short_text.Goals.{then-is_short_from, else-is_short_from, then-is_short_from-2, else-is_short_from-2}

pub returns-else-is_short_from-3 : goal.returns-else-is_short_from-3
returns-else-is_short_from-3 c = λ cells box none.
    let grid = c.args.grid.now in
    let most = c.args.most in
    let south : AreLongFrom South grid most = record { seen = c.is_short_from-else-is_short_from-3.ensures.seen none; mirrored = c.is_short_from-else-is_short_from-3.ensures.mirrored none } in
    elim c.if-is_short_from-2.branch [
      | then-is_short_from-2 w ↦ absurd (false≢true (sym c.if-is_short_from-3.false ∙ (w.value-is ∙ w.if-is_short_from-2.true)))
      | else-is_short_from-2 w ↦
          let no_north = sym w.value-is ∙ c.if-is_short_from-3.false in
          let north : AreLongFrom North grid most = record { seen = w.is_short_from-else-is_short_from-2.ensures.seen no_north; mirrored = w.is_short_from-else-is_short_from-2.ensures.mirrored no_north } in
          elim c.if-is_short_from.branch [
            | then-is_short_from v ↦ absurd (false≢true (sym w.if-is_short_from-2.false ∙ (v.value-is ∙ v.if-is_short_from.true)))
            | else-is_short_from v ↦
                let no_east = sym v.value-is ∙ w.if-is_short_from-2.false in
                let east : AreLongFrom East grid most = record { seen = v.is_short_from-else-is_short_from.ensures.seen no_east; mirrored = v.is_short_from-else-is_short_from.ensures.mirrored no_east } in
                let west : AreLongFrom West grid most = record { seen = c.is_short_from.ensures.seen v.if-is_short_from.false; mirrored = c.is_short_from.ensures.mirrored v.if-is_short_from.false } in
                long_in_all cells grid most box north south west east
          ]
    ]
