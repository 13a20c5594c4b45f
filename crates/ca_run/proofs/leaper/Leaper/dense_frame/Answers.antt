use Rattle.std.proofs.Common.{◌-◌, ◌≤◌, ◌^◌, subst, arith}
use Rattle.std.specs.Option.{MatchOption}
use Rattle.std.proofs.lemmas.Option.{MatchOption-at_some}
use Rattle.std.proofs.Math.Pow.{pow_mono}
use Rattle.ca_quad.specs.Prelude.{IsDead, IsLeastWideBox, cell}
use Rattle.ca_run.proofs.LiveFrames.{some_framed, near_box}
use Rattle.ca_run.proofs.Trees.{tree_dies}
use Rattle.ca_run.proofs.leaper.Leaper.dense_frame.Goals as goal

pub frame_of-requires-clause-near : goal.frame_of-requires-clause-near
frame_of-requires-clause-near g c =
    let tree = c.args.tree.now in
    let p = cell c.args.self.now.nodes tree in
    let low : tree.level - 1 ≤ 61 = omega (arith, c.if-tree-gt-GREATEST.false) in
    let way : 2 ^ (tree.level - 1) ≤ 2 ^ 61 = pow_mono low in
    near_box p (2 ^ (tree.level - 1)) c.in-Some.bounds way (tree_dies c.args.self.now.nodes tree (omega (arith, c.if-tree-lt-LEAST.false)))
    (MatchOption-at_some (IsDead p) (IsLeastWideBox p) c.in-Some.bounds c.in-Some.is
    (subst (λ l. MatchOption c.in_ok-bounds.field-0 (IsDead (cell l.nodes tree)) (IsLeastWideBox (cell l.nodes tree))) c.self.view_is c.in_ok-bounds.ensures))

pub returns-clause-framed : goal.returns-clause-framed
returns-clause-framed g c =
    let tree = c.args.tree.now in
    let p = cell c.args.self.now.nodes tree in
    some_framed p c.in-Some.bounds c.args.margin c.frame_of.result (MatchOption-at_some (IsDead p) (IsLeastWideBox p) c.in-Some.bounds c.in-Some.is
    (subst (λ l. MatchOption c.in_ok-bounds.field-0 (IsDead (cell l.nodes tree)) (IsLeastWideBox (cell l.nodes tree))) c.self.view_is c.in_ok-bounds.ensures))
    c.frame_of.ensures.columns c.frame_of.ensures.rows
