use Rattle.std.proofs.Common.{refl, sym, ◌∙◌, arith}
use Rattle.ca_clusters.proofs.PairLooks.{IsTrueLook-apart, IsTrueLook-meet}
use Rattle.ca_parts.proofs.PartedTracks.{untrue}
use Rattle.ca_clusters.proofs.meetings.with_pair.Goals as goal
use Rattle.ca_clusters.proofs.meetings.with_pair.Goals.{then-first, else-first}

pub returns-then-look-clause-look : goal.returns-then-look-clause-look
returns-then-look-clause-look c =
    IsTrueLook-apart c.args.parts.now c.args.one c.args.other c.args.look _ c.index-parts-one.result c.index-parts-other.result c.index-parts-one.is c.index-parts-other.is
    c.requires.one c.requires.other c.requires.look refl refl (λ n _. c.in-Never.ensures.shown n)
    (λ yes. (
      c.if-look.true,
      elim c.if-first.branch [
        | then-first w ↦ record { back = w.if-first.true; back_too = sym w.both_back-is ∙ yes; apart = c.in-Never.ensures.shown }
        | else-first w ↦ absurd (untrue (sym w.if-first.false ∙ sym w.both_back-is ∙ yes))
      ],
    ))

pub returns-else-look-clause-look : goal.returns-else-look-clause-look
returns-else-look-clause-look c =
    IsTrueLook-apart c.args.parts.now c.args.one c.args.other c.args.look _ c.index-parts-one.result c.index-parts-other.result c.index-parts-one.is c.index-parts-other.is
    c.requires.one c.requires.other c.requires.look refl refl (λ n _. c.in-Never.ensures.shown n)
    (λ yes. absurd (untrue (sym c.if-look.false ∙ yes)))

pub returns-in-At-clause-look : goal.returns-in-At-clause-look
returns-in-At-clause-look c =
    IsTrueLook-meet c.args.parts.now c.args.one c.args.other c.args.look _ c.index-parts-one.result c.index-parts-other.result c.index-parts-one.is c.index-parts-other.is
    c.requires.one c.requires.other c.requires.look refl refl c.in-At.ensures.shown

pub returns-in-NotYet-clause-look : goal.returns-in-NotYet-clause-look
returns-in-NotYet-clause-look c =
    IsTrueLook-apart c.args.parts.now c.args.one c.args.other c.args.look _ c.index-parts-one.result c.index-parts-other.result c.index-parts-one.is c.index-parts-other.is
    c.requires.one c.requires.other c.requires.look refl refl (λ n low. c.in-NotYet.ensures.shown n (omega arith))
    (λ yes. absurd (untrue yes))
