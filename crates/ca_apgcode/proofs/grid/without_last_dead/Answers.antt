use Rattle.std.proofs.Common.{◌≡◌, ◌+◌, ◌-◌, length, take, Some, sym, ap, subst, ◌∙◌, length-append, arith}
use Rattle.std.specs.List.{slice_get}
use Rattle.std.specs.Option.{option_to_list}
use Rattle.ca_apgcode.proofs.LeastBoxes.{ends_dead, popped_same}
use Rattle.ca_apgcode.proofs.grid.without_last_dead.Goals as goal

pub columns-preserved : goal.columns-preserved
columns-preserved c =
    let items = c.columns.columns.items in
    let there : slice_get items (length items - 1) ≡ Some c.in-Some.field-0.now = subst (λ l. slice_get l (length l - 1) ≡ Some c.in-Some.field-0.now) c.deref.ensures.value (sym c.in-Some.ensures.value) in
    let ends = ends_dead items c.in-Some.field-0.now there c.if-last-ne0.false in
    let width : length items ≡ length c.pop.new.self.items + length (option_to_list c.pop.result) = ap length c.pop.ensures.items ∙ length-append c.pop.new.self.items (option_to_list c.pop.result) in
    let len = sym c.deref.ensures.len ∙ ap length c.deref.ensures.value in
    let rest : c.pop.new.self.items ≡ take (length items - 1) items = c.pop.ensures.rest ∙ ap (λ n. take (n - 1) items) len in
    record {
      same = λ x. popped_same items c.pop.new.self.items ends rest x ∙ c.columns.invariant.same x;
      width = omega (arith, width, c.columns.invariant.width);
    }
