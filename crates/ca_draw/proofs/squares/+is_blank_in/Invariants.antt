use Rattle.ca_draw.proofs.squares.+is_blank_in.Given as goal

abbrev pub decreases-is_blank_in : goal.decreases-is_blank_in
decreases-is_blank_in l = l.level
