use Rattle.std.proofs.Common.{◌≡◌, ◌-◌, ◌≤◌, suc, length, take, drop, ap, sym, ◌∙◌, arith}
use Rattle.std.specs.Prelude.{remove}
use Rattle.std.proofs.lemmas.List.{length-drop}
use Rattle.std.proofs.Math.Seq.{take_all}
use Rattle.ca_rule.proofs.RotatedLists.{take-rotated}
use Rattle.ca_rule.proofs.table.choice.Choice.with.Goals as goal

pub returns-clause-free : goal.returns-clause-free
returns-clause-free c =
    let long : length c.args.self.free ≡ 8 = omega arith in
    let count : c.args.self.free_count ≡ suc (c.args.self.free_count - 1) = omega arith in
    let few : suc (c.args.self.free_count - 1) ≤ length c.args.self.free = omega arith in
    let end : length (drop c.args.at c.args.self.free) ≤ 8 - c.args.at = simp length-drop (omega arith) in
    let whole = take_all (8 - c.args.at) (drop c.args.at c.args.self.free) end in
    take-rotated c.args.self.free c.rotate_left.new.self _ (take (8 - c.args.at) (drop c.args.at c.args.self.free)) c.args.at (c.args.self.free_count - 1) (omega arith) few whole c.rotate_left.ensures.after
    ∙ ap (λ n. remove (take n c.args.self.free) c.args.at) (sym count)
