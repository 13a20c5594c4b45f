use Rattle.std.proofs.Common.{[], ◌∷◌}
use Rattle.ca_macro.proofs.KeptSquares.{part_named, first_bad}
use Rattle.ca_macro.proofs.Saying.{passed_on}
use Rattle.ca_macro.proofs.read.squares.Squares.parts.Goals as goal

pub returns-in_err-nw-clause-fault : goal.returns-in_err-nw-clause-fault
returns-in_err-nw-clause-fault c =
    passed_on _ c.in_err-nw.field-0.0 _ c.from_residual.ensures.1
    (λ store nodes nw ne sw se h keeps. first_bad nodes _ [] nw (ne ∷ sw ∷ se ∷ []) _ tt (c.in_err-nw.ensures.fault store nodes nw h keeps.is_nw))

pub returns-in_err-ne-clause-fault : goal.returns-in_err-ne-clause-fault
returns-in_err-ne-clause-fault c =
    passed_on _ c.in_err-ne.field-0.0 _ c.from_residual-in_err-ne.ensures.1 (λ store nodes nw ne sw se h keeps.
    let a = part_named store nodes c.args.level nw c.in_ok-nw.nw (c.in_ok-nw.ensures.part store nodes nw h keeps.is_nw) in
    first_bad nodes c.args.level (nw ∷ []) ne (sw ∷ se ∷ []) _ (a, tt) (c.in_err-ne.ensures.fault store nodes ne h keeps.is_ne))

pub returns-in_err-sw-clause-fault : goal.returns-in_err-sw-clause-fault
returns-in_err-sw-clause-fault c =
    passed_on _ c.in_err-sw.field-0.0 _ c.from_residual-in_err-sw.ensures.1 (λ store nodes nw ne sw se h keeps.
    let a = part_named store nodes c.args.level nw c.in_ok-nw.nw (c.in_ok-nw.ensures.part store nodes nw h keeps.is_nw) in
    let b = part_named store nodes c.args.level ne c.in_ok-ne.ne (c.in_ok-ne.ensures.part store nodes ne h keeps.is_ne) in
    first_bad nodes c.args.level (nw ∷ ne ∷ []) sw (se ∷ []) _ (a, (b, tt)) (c.in_err-sw.ensures.fault store nodes sw h keeps.is_sw))

pub returns-in_err-se-clause-fault : goal.returns-in_err-se-clause-fault
returns-in_err-se-clause-fault c =
    passed_on _ c.in_err-se.field-0.0 _ c.from_residual-in_err-se.ensures.1 (λ store nodes nw ne sw se h keeps.
    let a = part_named store nodes c.args.level nw c.in_ok-nw.nw (c.in_ok-nw.ensures.part store nodes nw h keeps.is_nw) in
    let b = part_named store nodes c.args.level ne c.in_ok-ne.ne (c.in_ok-ne.ensures.part store nodes ne h keeps.is_ne) in
    let d = part_named store nodes c.args.level sw c.in_ok-sw.sw (c.in_ok-sw.ensures.part store nodes sw h keeps.is_sw) in
    first_bad nodes c.args.level (nw ∷ ne ∷ sw ∷ []) se [] _ (a, (b, (d, tt))) (c.in_err-se.ensures.fault store nodes se h keeps.is_se))
