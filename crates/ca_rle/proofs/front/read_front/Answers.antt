use Rattle.std.proofs.Common.{ℕ, List, [], ◌∷◌, ◌++◌, refl, sym, subst, ◌∙◌}
use Rattle.ca_rle.specs.declared.fault.RleFault.TheVariants.{Header}
use Rattle.ca_rle.specs.inner.FrontParts.{IsFront}
use Rattle.ca_rle.proofs.FrontLines.{fault_there, first_line_is_line, first_line_ends, split_there, line_passed, fewer_after, next_line_follows, word_fault, no_header_there}
use Rattle.ca_rle.proofs.front.read_front.Goals as goal

pub front_at-requires-clause-line : goal.front_at-requires-clause-line
front_at-requires-clause-line c = first_line_is_line c.lines.rest.now _ c.split_line.ensures.front

pub front_at-requires-clause-ends : goal.front_at-requires-clause-ends
front_at-requires-clause-ends c = first_line_ends c.lines.rest.now _ c.split_line.ensures.rest

pub returns-in-Ok-clause-found : goal.returns-in-Ok-clause-found
returns-in-Ok-clause-found c =
    let so_far = c.lines.invariant in
    let whole = split_there _ _ _ _ so_far.0 so_far.3 c.split_line.ensures.front c.split_line.ensures.rest in
    subst (λ (l : List ℕ). IsFront l c.in-Ok.front) (sym whole.0) (c.in-Ok.ensures.found so_far.0 so_far.1 so_far.2)

pub returns-in-Err-clause-fault : goal.returns-in-Err-clause-fault
returns-in-Err-clause-fault c =
    let so_far = c.lines.invariant in
    let whole = split_there _ _ _ _ so_far.0 so_far.3 c.split_line.ensures.front c.split_line.ensures.rest in
    fault_there _ _ _ _ _ whole.0 whole.1 (c.in-Err.ensures.fault so_far.0 so_far.1 so_far.2)

pub after_line-requires-clause-line : goal.after_line-requires-clause-line
after_line-requires-clause-line c = first_line_is_line c.lines.rest.now _ c.split_line.ensures.front

pub returns-in-Err-after_line-clause-fault : goal.returns-in-Err-after_line-clause-fault
returns-in-Err-after_line-clause-fault c =
    let so_far = c.lines.invariant in
    let whole = split_there _ _ _ _ so_far.0 so_far.3 c.split_line.ensures.front c.split_line.ensures.rest in
    let follows = next_line_follows _ _ _ _ so_far.0 so_far.1 so_far.2.good so_far.3 c.split_line.ensures.front c.split_line.ensures.rest in
    let fault = word_fault _ _ _ so_far.0 so_far.1 follows (sym c.is_comment.ensures ∙ c.if-not-is_comment.false) c.in-Err-after_line.fault c.in-Err-after_line.ensures.fault in
    fault_there _ _ _ _ _ refl whole.1 fault

pub returns-in_default-clause-fault : goal.returns-in_default-clause-fault
returns-in_default-clause-fault c =
    let so_far = c.lines.invariant in
    let whole = split_there _ _ _ _ so_far.0 so_far.3 c.split_line.ensures.front c.split_line.ensures.rest in
    let words = c.in-Ok-after_line.ensures.found in
    let follows = next_line_follows _ _ _ _ so_far.0 so_far.1 so_far.2.good so_far.3 c.split_line.ensures.front c.split_line.ensures.rest in
    let missing = no_header_there _ _ _ so_far.0 so_far.1 follows (sym c.is_comment.ensures ∙ c.if-not-is_comment.false) words.0 words.1 c.in_default.ensures.cases in
    fault_there _ _ _ _ Header refl whole.1 missing

pub lines-smaller : goal.lines-smaller
lines-smaller c = fewer_after _ _ _ _ c.split_line.ensures.rest c.in-Some.ensures.cases.0

pub lines-preserved : goal.lines-preserved
lines-preserved c =
    let so_far = c.lines.invariant in
    let line = c.split_line.result.0.now in
    let whole = split_there _ _ _ _ so_far.0 so_far.3 c.split_line.ensures.front c.split_line.ensures.rest in
    let words = c.in-Ok-after_line.ensures.found in (
      so_far.0 ++ line ∷ [],
      so_far.1 ++ words.0,
      words.2 so_far.0 so_far.1 so_far.2,
      line_passed _ line _ _ _ so_far.0 whole.0 c.in-Some.ensures.cases.0 (first_line_ends c.lines.rest.now _ c.split_line.ensures.rest),
    )
