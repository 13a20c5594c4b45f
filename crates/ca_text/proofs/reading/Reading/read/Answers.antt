use Rattle.std.proofs.Common.{◌≡◌, ℕ, List, [], ◌∷◌, ◌++◌, false, Option, None, Some, refl, sym, subst}
use Rattle.ca_plane.specs.Prelude.{words_of}
use Rattle.ca_text.specs.declared.reading.Reading.{Reading}
use Rattle.ca_text.specs.Prelude.{ClaimTextLine, Version, Rule, Load, Claims, is_skipped, ClaimWordsSay, IsAllowedLine, said_lines}
use Rattle.ca_text.specs.inner.Reading.{HasClaimFault, SaysNext, IsClaimReading, claim_of}
use Rattle.ca_text.proofs.NextLines.{read_none, read_version, version_stays, version_told, on_ok_as, if_err_as, lines_of_version, version_of_lines}
use Rattle.ca_text.proofs.reading.Reading.read.Goals as goal

-- what a line says that isn't skipped, and what is kept once it has said it
line_said : (said : List (Option ClaimTextLine)) (words : List (List ℕ)) (line : ClaimTextLine) (reading : Reading) → is_skipped words ≡ false → ClaimWordsSay (said_lines said) words line
    → IsAllowedLine (said_lines said) line × IsClaimReading (said ++ Some line ∷ []) reading → (s : Option ClaimTextLine) × SaysNext (said_lines said) words s × IsClaimReading (said ++ s ∷ []) reading
line_said said words line reading some says after = (Some line, (some, says, after.0), after.1)

pub returns-in-Skipped-clause-said : goal.returns-in-Skipped-clause-said
returns-in-Skipped-clause-said c = λ said r number.
    (None, c.in-Skipped.ensures (said_lines said) r.1, (read_none said _ _ _ _ _ r.0, version_stays said _ r.1))

pub returns-in-Version-clause-said : goal.returns-in-Version-clause-said
returns-in-Version-clause-said c = λ said r number.
    let kind = c.in-Version.ensures (said_lines said) r.1 in
    (Some Version, (kind.0, kind.1, tt), (read_version said _ _ _ _ _ r.0, version_told said kind.1.1))

pub claim-requires : goal.claim-requires
claim-requires c = (c.in-Claim.ensures (lines_of_version c.args.self.now.version) (version_of_lines c.args.self.now.version)).2

pub returns-in-Rule-clause-said : goal.returns-in-Rule-clause-said
returns-in-Rule-clause-said c =
    on_ok_as c.rule.result _ _
    (λ ruled said r number. let kind = c.in-Rule.ensures (said_lines said) r.1 in line_said said (words_of c.args.line.now) (Rule c.in-Rule.path.now) c.rule.new.self kind.0 kind.1 (tt, ruled said r))
    c.rule.ensures.ruled

pub returns-in-Rule-clause-fault : goal.returns-in-Rule-clause-fault
returns-in-Rule-clause-fault c =
    if_err_as c.rule.result _ _
    (λ f faulty said r. subst (λ words. HasClaimFault c.args.number (said_lines said) words f) (sym (c.in-Rule.ensures (said_lines said) r.1).1) (faulty c.args.number (said_lines said)))
    c.rule.ensures.fault

pub returns-in-Load-clause-said : goal.returns-in-Load-clause-said
returns-in-Load-clause-said c =
    on_ok_as c.load.result _ _
    (λ loaded said r number. let kind = c.in-Load.ensures (said_lines said) r.1 in line_said said (words_of c.args.line.now) (Load c.in-Load.name.now c.in-Load.path.now) c.load.new.self kind.0 kind.1 (loaded said r))
    c.load.ensures.loaded

pub returns-in-Load-clause-fault : goal.returns-in-Load-clause-fault
returns-in-Load-clause-fault c =
    if_err_as c.load.result _ _
    (λ f faulty said r. subst (λ words. HasClaimFault c.args.number (said_lines said) words f) (sym (c.in-Load.ensures (said_lines said) r.1).1) (faulty said r))
    c.load.ensures.fault

pub returns-in-Claim-clause-said : goal.returns-in-Claim-clause-said
returns-in-Claim-clause-said c =
    on_ok_as c.claim.result _ _
    (λ claimed said r number. let kind = c.in-Claim.ensures (said_lines said) r.1 in line_said said (words_of c.args.line.now) (Claims (claim_of c.in-Claim.claim)) c.claim.new.self kind.0 kind.1 (claimed said r number))
    c.claim.ensures.claimed

pub returns-in-Claim-clause-fault : goal.returns-in-Claim-clause-fault
returns-in-Claim-clause-fault c =
    if_err_as c.claim.result _ _
    (λ f faulty said r. faulty said r (words_of c.args.line.now) (c.in-Claim.ensures (said_lines said) r.1))
    c.claim.ensures.fault

pub returns-in-OutsideLimits-clause-fault : goal.returns-in-OutsideLimits-clause-fault
returns-in-OutsideLimits-clause-fault c = λ said r. (refl, c.in-OutsideLimits.ensures (said_lines said) r.1)

pub returns-in-Misspelled-clause-fault : goal.returns-in-Misspelled-clause-fault
returns-in-Misspelled-clause-fault c = λ said r. (refl, c.in-Misspelled.ensures (said_lines said) r.1)
