use Rattle.std.proofs.Common.{◌≡◌, ◌≢◌, List, [], map, length, IsTrue, ◌↔◌, sym, ap, subst, ◌∙◌}
use Rattle.std.specs.List.{AllZip}
use Rattle.std.specs.Option.{MatchOption, option_copied}
use Rattle.ca_rule.specs.Prelude.{TableRule}
use Rattle.ca_answers.specs.Prelude.{SuppliedFiles, contents, bytes_at, AreTables}
use Rattle.ca_text.specs.Prelude.{IsNeeded, ClaimText}
use Rattle.ca_verify.specs.NeededFiles.{AreFound}
use Rattle.ca_claims.specs.Unknown.{AreUnknownRules}
use Rattle.ca_claims.proofs.UnknownRules.{asked_are_unknown, as_many_marks, none_without_tables, if_ok_as}
use Rattle.ca_claims.proofs.unknown.unknown_rules.Goals as goal
use Rattle.ca_claims.proofs.unknown.unknown_rules.Goals.{After-deref-2}

-- what is known of the marks and of the files that are handed on
module _ (c : After-deref-2) where
  abbrev files : SuppliedFiles
  files = contents c.args.files.now

  abbrev asked : ClaimText
  asked = c.args.claims.now

  are : AreFound files asked c.in_ok-needed.needed.found.items c.in_ok-needed.needed.tables
  are = c.in_ok-needed.ensures.found (λ e. c.if-claim_count-eq0.false (c.claim_count.ensures.claims ∙ ap length e))

  same : map option_copied c.deref-2.result.now ≡ map (bytes_at files) asked.paths
  same = subst (λ l. map option_copied l ≡ map (bytes_at files) asked.paths) (sym c.deref-2.ensures.value) are.found_at

  with_marks : AllZip (λ path mark. IsTrue mark ↔ IsNeeded asked path) asked.paths c.deref.result.now
  with_marks = subst (AllZip (λ path mark. IsTrue mark ↔ IsNeeded asked path) asked.paths) (sym c.deref.ensures.value) c.in_ok-marks.ensures.needed

  known : AreTables files asked.rules c.in-Some.tables.now
  known =
      subst (λ found. MatchOption found ((tables : List TableRule) → AreTables files asked.rules tables → ⊥) (λ tables. AreTables files asked.rules tables.now)) c.in-Some.is
      (c.good.ensures files asked.paths asked.rules are.read)

pub names_of-requires : goal.names_of-requires
names_of-requires c =
    let a = (goal.at.names_of-requires c).After-deref-2 in
    as_many_marks (files a) (asked a) c.deref.result.now c.deref-2.result.now c.in-Some.tables.now (same a) (with_marks a) (known a)

pub returns-clause-names : goal.returns-clause-names
returns-clause-names c =
    let a = (goal.at.returns-clause-names c).After-deref-2 in
    if_ok_as c.names_of.result _ (AreUnknownRules (files a) (asked a))
    (asked_are_unknown (files a) (asked a) c.deref.result.now c.deref-2.result.now c.in-Some.tables.now (same a) (with_marks a) (known a)) c.names_of.ensures

pub returns-in_default-clause-names : goal.returns-in_default-clause-names
returns-in_default-clause-names c =
    let files = contents c.args.files.now in
    let asked = c.args.claims.now in
    let some : asked.claims ≢ [] = λ e. c.if-claim_count-eq0.false (c.claim_count.ensures.claims ∙ ap length e) in
    let are = c.in_ok-needed.ensures.found some in
    let none = rw c.in_default.is at (c.good.ensures files asked.paths asked.rules are.read) in
    subst (AreUnknownRules files asked) (sym c.new-in_default.ensures) (none_without_tables files asked none)
