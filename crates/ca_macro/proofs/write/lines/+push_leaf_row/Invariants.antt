use Rattle.ca_macro.proofs.write.lines.+push_leaf_row.Given as goal

abbrev pub decreases-push_leaf_row : goal.decreases-push_leaf_row
decreases-push_leaf_row l = l.width
