use Rattle.std.proofs.Common.{ℕ, rules, arith}
use Rattle.std.specs.List.Sorted.{IsPartitionedBy}
use Rattle.std.proofs.lemmas.List.Sorted.{IsPartitionPoint-from_clause}
use Rattle.ca_plane.specs.declared.point.Point.{Point}
use Rattle.ca_parts.specs.inner.Rows.{comes_before}
use Rattle.ca_parts.proofs.RowOrder.{before_from_true, true_from_before, rising_before, true_and_false}
use Rattle.ca_parts.proofs.rows.first_from.Goals as goal

pub returns : goal.returns
returns c =
    let x = c.args.x in
    let y = c.args.y in
    let parted : IsPartitionedBy (λ (e : Point × ℕ). comes_before e.0 x y) c.args.cells.now =
    λ i j d low high before. true_from_before _ x y (rising_before c.args.cells.now i j d x y c.requires low high (before_from_true _ x y before)) in
    let point = IsPartitionPoint-from_clause (λ (e : Point × ℕ). comes_before e.0 x y) _ _ c.partition_point.ensures.partitioned parted (λ a r q k. search rules) in
    record {
      bound = c.partition_point.ensures.bound;
      before = λ k d low. before_from_true _ x y (point.0 k d (omega arith) low);
      from = λ k d low high before. true_and_false _ (true_from_before _ x y before) (point.1 k d low high);
    }
