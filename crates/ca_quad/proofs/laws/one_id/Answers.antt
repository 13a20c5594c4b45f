use Rattle.std.proofs.Common.{refl, sym, subst, ◌≡◌, ℕ}
use Rattle.ca_quad.specs.Prelude.{level_of, cell_of, AreSame}
use Rattle.ca_quad.proofs.Cells.{same_cells}
use Rattle.ca_quad.proofs.laws.one_id.Goals as goal

pub returns : goal.returns
returns c = λ a b h i.
    let nodes = c.args.store.now in (
      λ e. subst (AreSame nodes a) e (record { same_level = refl; same_cells = λ x y. refl }),
      λ s.
          same_cells nodes c.count-squares.ensures.sound (level_of nodes a) a b (record { before = h; is_level = refl }) (record { before = i; is_level = sym s.same_level })
          (subst (λ k. (x y : ℕ) → cell_of nodes (level_of nodes a) a x y ≡ cell_of nodes k b x y) (sym s.same_level) s.same_cells),
    )
