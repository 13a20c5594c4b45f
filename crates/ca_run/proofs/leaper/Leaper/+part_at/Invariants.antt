use Rattle.ca_run.proofs.leaper.Leaper.+part_at.Given as goal

-- each part's side is half
abbrev pub decreases-part_at : goal.decreases-part_at
decreases-part_at g l = l.halvings
