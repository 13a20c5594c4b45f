use Rattle.std.proofs.Common.{ℕ, [], ◌∷◌, ◌++◌, map, codes, sym, subst, arith}
use Rattle.std.specs.Prelude.{List}
use Rattle.std.proofs.lemmas.Result.{on_ok_weaker}
use Rattle.ca_plane.specs.Prelude.{Puts}
use Rattle.ca_rle.specs.declared.item.Tag.TheVariants.{Cell}
use Rattle.ca_rle.specs.Prelude.{item_text}
use Rattle.ca_rle.specs.inner.Written.{PutsLines, IsLaid}
use Rattle.ca_rle.proofs.LineLayouts.{laid_more}
use Rattle.ca_rle.proofs.WholeTexts.{texts_more, lines_end}
use Rattle.ca_rle.proofs.write.layout.push_items.Goals as goal

pub items-preserved : goal.items-preserved
items-preserved c =
    subst (λ (l : List (List ℕ)). IsLaid c.args.out.now.items c.place_item.new.out.items c.in_ok-filled.filled l)
    (sym (texts_more c.args.states c.args.items.now c.items.item-index (record { count = 0; tag = Cell 0 }) (omega arith)))
    (laid_more _ _ _ _ _ _ _ c.items.invariant c.in_ok-filled.ensures.placed c.in_ok-filled.ensures.short)

pub returns : goal.returns
returns c =
    on_ok_weaker {P = Puts c.place_end.new.out.items c.push_text.new.out.items (codes "\n")} {Q = PutsLines c.args.out.now.items c.push_text.new.out.items (map (item_text c.args.states) c.args.items.now ++ codes "!" ∷ [])} c.push_text.result
    (lines_end _ _ _ _ _ c.in_ok-place_end.field-0 c.args.states _ c.args.items.now c.items.invariant (omega arith) c.in_ok-place_end.ensures) c.push_text.ensures
