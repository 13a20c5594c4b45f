use Rattle.std.proofs.Common.{◌+◌, ◌*◌}
use Rattle.ca_run.proofs.leaper.Leaper.+leap.Given as goal

abbrev pub decreases-centre : goal.decreases-centre
decreases-centre g l = 10 * l.part_level + 5

abbrev pub decreases-new_centre : goal.decreases-new_centre
decreases-new_centre g l = 10 * l.part_level + 4

abbrev pub decreases-centre_of_nine : goal.decreases-centre_of_nine
decreases-centre_of_nine g l = 10 * l.part_level + 13

abbrev pub decreases-nine : goal.decreases-nine
decreases-nine g l = 10 * l.part_level + 12

abbrev pub decreases-trio : goal.decreases-trio
decreases-trio g l = 10 * l.part_level + 10

abbrev pub decreases-middle_trio : goal.decreases-middle_trio
decreases-middle_trio g l = 10 * l.part_level + 10

abbrev pub decreases-first_inner : goal.decreases-first_inner
decreases-first_inner g l = 10 * l.part_level + 8

abbrev pub decreases-first_centre : goal.decreases-first_centre
decreases-first_centre g l = 10 * l.part_level + 6

abbrev pub decreases-pair : goal.decreases-pair
decreases-pair g l = 10 * l.part_level + 9

abbrev pub decreases-leap_of_four : goal.decreases-leap_of_four
decreases-leap_of_four g l = 10 * l.part_level + 7
