use Rattle.std.proofs.Common.{map, [], ◌∷◌, ◌++◌, Some, if◌then◌else◌, refl, sym, ap, subst, ◌∙◌}
use Rattle.ca_text.specs.Prelude.{Claims, said_lines}
use Rattle.ca_text.specs.inner.Reading.{claim_of, KeepsClaimLines, place_of}
use Rattle.ca_text.proofs.NextLines.{names_loaded, names_known, read_claim, version_after}
use Rattle.ca_text.proofs.reading.Reading.claim.Goals as goal

pub returns-clause-claimed : goal.returns-clause-claimed
returns-clause-claimed c = λ said read number.
    let claim = claim_of c.args.claim.now in
    let old = c.args.self.now in
    let placed = c.in-Some.ensures in
    let claimed = read_claim said (map (λ n. n.items) old.names.items) old.paths old.rules.items old.claims.items (place_of old.places) read.0 claim c.args.line placed.0 c.requires number in
    let items = c.push.ensures.items
    ∙ ap (λ b. if b then old.claims.items ++ record { line = c.args.line; claim = c.in-Some.claim } ∷ [] else old.claims.items) c.if-is_err.ensures.negation
    ∙ ap (λ k. old.claims.items ++ record { line = c.args.line; claim = k } ∷ []) placed.1 in (
      claimed.0,
      (
        subst (λ l. KeepsClaimLines (said ++ Some (Claims claim) ∷ []) (map (λ n. n.items) old.names.items) old.paths old.rules.items l (place_of old.places)) (sym items) claimed.1,
        version_after said (Claims claim) c.after_line-self.result (c.after_line-self.ensures (said_lines said) (Claims claim) read.1 refl),
      ),
    )

-- out of memory at a claim about names that are loaded
pub returns-then-is_err-clause-fault : goal.returns-then-is_err-clause-fault
returns-then-is_err-clause-fault c = λ said read words kind.
    let claim = claim_of c.args.claim.now in
    let old = c.args.self.now in
    (kind.0, Claims claim, kind.1, (kind.2, names_loaded said (map (λ n. n.items) old.names.items) old.paths old.rules.items old.claims.items (place_of old.places) read.0 claim c.in-Some.ensures.0), λ e. cc)

-- a claim about a name that isn't loaded
pub returns-in_default-clause-fault : goal.returns-in_default-clause-fault
returns-in_default-clause-fault c = λ said read words kind.
    let claim = claim_of c.args.claim.now in
    let old = c.args.self.now in
    let known = names_known said (map (λ n. n.items) old.names.items) old.paths old.rules.items old.claims.items (place_of old.places) read.0 claim in
    (refl, (kind.0, claim, kind.1, kind.2, λ loaded. c.in_default.ensures (known loaded)))
