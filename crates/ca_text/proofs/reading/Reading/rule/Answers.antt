use Rattle.std.proofs.Common.{ℕ, List, [], ◌∷◌, ◌++◌, map, Some, slice_get, if◌then◌else◌, refl, sym, ap, subst, ◌∙◌}
use Rattle.ca_text.specs.Prelude.{Rule, said_lines, with_word}
use Rattle.ca_text.specs.inner.Reading.{KeepsClaimLines, place_of}
use Rattle.ca_text.proofs.NextLines.{read_rule, version_after}
use Rattle.ca_text.proofs.reading.Reading.rule.Goals as goal

pub returns-clause-ruled : goal.returns-clause-ruled
returns-clause-ruled c = λ said read.
    let path : List ℕ = c.args.path.now in
    let old = c.args.self.now in
    let place = c.in-Ok.table in
    let at = ap (λ l. slice_get l place) (sym c.in-Ok.ensures.words) ∙ c.in-Ok.ensures.index in
    let items = c.push.ensures.items ∙ ap (λ b. if b then old.rules.items ++ place ∷ [] else old.rules.items) c.if-is_err.ensures.negation in
    let ruled = read_rule said (map (λ n. n.items) old.names.items) old.paths old.rules.items old.claims.items (place_of old.places) read.0 path place at in (
      subst (λ l. KeepsClaimLines (said ++ Some (Rule path) ∷ []) (map (λ n. n.items) old.names.items) l c.push.new.self.items old.claims.items (place_of old.places)) (sym c.in-Ok.ensures.words)
          (subst (λ l. KeepsClaimLines (said ++ Some (Rule path) ∷ []) (map (λ n. n.items) old.names.items) (with_word old.paths path) l old.claims.items (place_of old.places)) (sym items) ruled),
      version_after said (Rule path) c.after_line-self.result (c.after_line-self.ensures (said_lines said) (Rule path) read.1 refl),
    )

-- out of memory at a line that is allowed anywhere
pub returns-in_default-clause-fault : goal.returns-in_default-clause-fault
returns-in_default-clause-fault c = λ line earlier. (refl, Rule c.args.path.now, refl, tt, λ e. cc)

pub returns-then-is_err-clause-fault : goal.returns-then-is_err-clause-fault
returns-then-is_err-clause-fault c = λ line earlier. (refl, Rule c.args.path.now, refl, tt, λ e. cc)
