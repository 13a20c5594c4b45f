use Rattle.std.proofs.Common.{sym, ◌∙◌}
use Rattle.std.proofs.lemmas.Bool.{false≢true}
use Rattle.ca_clusters.specs.Prelude.{first_plane}
use Rattle.ca_text.proofs.Shifts.{shift_reads}
use Rattle.ca_census.proofs.CourseKinds.{oscillates, travels, spaceship_reads}
use Rattle.ca_census.proofs.entry.kind_of.Goals as goal

pub returns-then-not-is_in_place-clause-identity : goal.returns-then-not-is_in_place-clause-identity
returns-then-not-is_in_place-clause-identity c = λ next round.
    let period = c.period-period.ensures in
    let vector = c.vector-dx.ensures in
    let dx = c.vector-dx.result.0 in
    let dy = c.vector-dx.result.1 in (
      tt,
      spaceship_reads next (first_plane c.args.course.now) c.period-period.result dx dy vector.short_across vector.short_down
          (travels next c.args.course.now round c.period-period.result dx dy period.value vector.across vector.down period.most vector.short_across vector.short_down (λ none.
          false≢true (sym c.if-not-is_in_place.true ∙ c.is_in_place.ensures.1 (shift_reads dx vector.short_across ∙ none.0, shift_reads dy vector.short_down ∙ none.1)))),
    )

pub returns-clause-identity : goal.returns-clause-identity
returns-clause-identity c = λ next round.
    let period = c.period-period.ensures in
    let vector = c.vector-dx.ensures in
    let dx = c.vector-dx.result.0 in
    let dy = c.vector-dx.result.1 in
    let none = c.is_in_place.ensures.0 c.if-not-is_in_place.false in (
      tt,
      oscillates next c.args.course.now round c.period-period.result dx dy period.value vector.across vector.down period.most
          (sym (shift_reads dx vector.short_across) ∙ none.0) (sym (shift_reads dy vector.short_down) ∙ none.1) c.if-period-eq1.false,
    )
