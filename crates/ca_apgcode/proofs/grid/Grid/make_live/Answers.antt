use Rattle.std.proofs.Common.{◌≡◌, get_or, sym, subst, ◌∙◌}
use Rattle.ca_apgcode.proofs.Columns.{IsGrid-live, MakesLive-live}
use Rattle.ca_apgcode.proofs.grid.Grid.make_live.Goals as goal

pub invariant_of-self : goal.invariant_of-self
invariant_of-self c = IsGrid-live c.args.self.now c.self.inside.height c.self.inside.columns.items c.index-column.result.now c.from-2.result c.args.x c.self.view_is c.from-2.ensures (subst (λ i. c.index-column.result.now ≡ get_or c.self.inside.columns.items i c.index-column.result.now) (c.from.ensures ∙ sym c.from-2.ensures) c.index-column.ensures) c.requires.x c.args.y c.self.invariant c.requires.y

pub returns : goal.returns
returns c = MakesLive-live c.args.self.now c.self.inside.height c.self.inside.columns.items c.index-column.result.now c.from-2.result c.args.x c.self.view_is c.from-2.ensures (subst (λ i. c.index-column.result.now ≡ get_or c.self.inside.columns.items i c.index-column.result.now) (c.from.ensures ∙ sym c.from-2.ensures) c.index-column.ensures) c.requires.x c.args.y c.self.invariant c.requires.y
