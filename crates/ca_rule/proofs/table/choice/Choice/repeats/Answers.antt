use Rattle.std.proofs.Common.{◌≡◌, ◌==◌, ◌∙◌, take, get_or, slice_index, ap, sym, arith}
use Rattle.std.specs.List.{list_any}
use Rattle.std.proofs.lemmas.List.{take-take, get_or-take}
use Rattle.ca_rule.specs.inner.TableChoice.{free_of}
use Rattle.ca_rule.proofs.table.choice.Choice.repeats.Goals as goal

pub returns : goal.returns
returns c =
    let free = c.args.self.now.free in
    let cell : c.cell_at-cell.result ≡ slice_index c.args.nine.now (get_or (free_of c.args.self.now) c.args.at 0) =
    c.cell_at-cell.ensures ∙ ap (slice_index c.args.nine.now) (sym (get_or-take c.args.self.now.free_count free c.args.at 0 c.requires)) in
    c.has_cell.ensures ∙ ap (list_any (λ p. slice_index c.args.nine.now p == c.cell_at-cell.result)) (sym (take-take c.args.at c.args.self.now.free_count free (omega arith)))
    ∙ ap (λ n. list_any (λ p. slice_index c.args.nine.now p == n) (take c.args.at (free_of c.args.self.now))) cell
