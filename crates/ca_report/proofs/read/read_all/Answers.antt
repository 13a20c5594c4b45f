use Rattle.std.proofs.Common.{rules, ◌<◌, ◌≤◌, ◌+◌}
use Rattle.std.proofs.lemmas.List.{length-take}
use Rattle.ca_report.specs.Prelude.{max_file}
use Rattle.ca_report.proofs.Taken.{with_piece, with_some}
use Rattle.ca_report.proofs.read.read_all.Goals as goal

-- the last piece passes the limit, by one byte at most
pub returns-then-count-room-clause-too_long : goal.returns-then-count-room-clause-too_long
returns-then-count-room-clause-too_long g c is =
    with_piece _ _ _ _ _ (λ n. max_file < n) c.reads.invariant.given c.in-Ok.ensures.bytes.0 (search (rules, length-take))

pub returns-then-count-room-clause-takes : goal.returns-then-count-room-clause-takes
returns-then-count-room-clause-takes g c = record {
  bounded = with_piece _ _ _ _ _ (λ n. n ≤ max_file + 1) c.reads.invariant.given c.in-Ok.ensures.bytes.0 (search (rules, length-take));
  failed = search rules;
  kept = search rules;
}

-- the last piece, for which no room was made, has a byte or more, and stays within the limit
pub returns-then-is_err-clause-memory : goal.returns-then-is_err-clause-memory
returns-then-is_err-clause-memory g c is =
    with_some _ _ _ _ _ c.reads.invariant.given c.in-Ok.ensures.bytes.0 (search (rules, length-take)) (search (rules, length-take))

pub returns-then-is_err-clause-takes : goal.returns-then-is_err-clause-takes
returns-then-is_err-clause-takes g c = record {
  bounded = with_piece _ _ _ _ _ (λ n. n ≤ max_file + 1) c.reads.invariant.given c.in-Ok.ensures.bytes.0 (search (rules, length-take));
  failed = search rules;
  kept = search rules;
}
