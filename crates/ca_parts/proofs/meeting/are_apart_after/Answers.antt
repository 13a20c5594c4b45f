use Rattle.std.proofs.Common.{ℕ, ◌/◌, ◌%◌, length}
use Rattle.std.specs.Prelude.{pos, ◌*ℤ◌}
use Rattle.ca_plane.specs.Prelude.{Picture}
use Rattle.ca_parts.specs.Phases.{plane_at}
use Rattle.ca_parts.proofs.ShownCourses.{apart_from_between, between_from_apart}
use Rattle.ca_parts.proofs.meeting.are_apart_after.Goals as goal

pub returns-in-Some : goal.returns-in-Some
returns-in-Some c =
    let one = c.args.one.now in
    let other = c.args.other.now in
    let turns : ℕ = c.args.n / length one.planes in
    let others : ℕ = c.args.n / length other.planes in
    let plane : Picture = plane_at one.planes (c.args.n % length one.planes) in
    let others_plane : Picture = plane_at other.planes (c.args.n % length other.planes) in
    let told = rw (c.plane_after.ensures, c.plane_after-in-Some.ensures) at c.are_further.ensures in (
      λ yes. apart_from_between plane others_plane (pos turns *ℤ one.dx) (pos turns *ℤ one.dy) (pos others *ℤ other.dx) (pos others *ℤ other.dy)
          c.in-Some.way.dx c.in-Some.way.dy c.in-Some.ensures.some.across c.in-Some.ensures.some.down (told.0 yes),
      λ apart. told.1 (between_from_apart plane others_plane (pos turns *ℤ one.dx) (pos turns *ℤ one.dy) (pos others *ℤ other.dx) (pos others *ℤ other.dy)
          c.in-Some.way.dx c.in-Some.way.dy c.in-Some.ensures.some.across c.in-Some.ensures.some.down apart),
    )
