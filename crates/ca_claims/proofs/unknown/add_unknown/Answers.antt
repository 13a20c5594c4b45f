use Rattle.std.proofs.Common.{◌∙◌, ap, subst, sym}
use Rattle.std.proofs.lemmas.Option.{same_Some}
use Rattle.ca_text.specs.Prelude.{with_word}
use Rattle.ca_claims.specs.inner.Unknown.{AddsAsked}
use Rattle.ca_claims.specs.Unknown.{HoldsUnknownRule}
use Rattle.ca_claims.proofs.UnknownRules.{adds_none, adds_name}
use Rattle.ca_claims.proofs.unknown.add_unknown.Goals as goal

pub returns : goal.returns
returns c =
    let names = c.args.names.now in
    let name = c.in-Some-found.name.items in
    let holds = rw c.in-Some-found.is at c.in_ok-found.ensures.name in
    let adds = adds_name c.args.tables.now c.args.is_needed c.if-not-is_needed.false c.in-Some.bytes name holds names in
    subst (AddsAsked c.args.tables.now c.args.is_needed c.args.file names) (sym (c.in_ok-put.ensures.words ∙ ap (with_word names) c.deref.ensures.value))
    (subst (λ f. AddsAsked c.args.tables.now c.args.is_needed f names (with_word names name)) (sym c.in-Some.is) adds)

pub returns-in_default-found : goal.returns-in_default-found
returns-in_default-found c =
    let none = rw c.in_default-found.is at c.in_ok-found.ensures.name in
    adds_none c.args.tables.now c.args.is_needed c.args.file
    (λ name asks. none name (subst (λ b. HoldsUnknownRule c.args.tables.now name b.now) (sym (same_Some c.in-Some.bytes asks.1 (sym c.in-Some.is ∙ asks.2))) asks.3)) c.args.names.now
