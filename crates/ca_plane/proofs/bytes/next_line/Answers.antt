use Rattle.std.proofs.Common.{◌≡◌, [], ◌∷◌, ◌++◌, not, sym, ap, ◌∙◌, inl, inr}
use Rattle.std.specs.List.{list_all}
use Rattle.ca_plane.specs.Prelude.{is_line_end, lines_of}
use Rattle.ca_plane.proofs.Fronts.{every_front}
use Rattle.std.proofs.lemmas.List.{nil_from_length}
use Rattle.ca_plane.proofs.FirstWords.{line_before, line_alone, line_then_more, line_then_none, fewer_behind_line}
use Rattle.ca_plane.proofs.bytes.next_line.Goals as goal

pub returns-in-Some-clause-spelled : goal.returns-in-Some-clause-spelled
returns-in-Some-clause-spelled c =
    let e = c.split_line.ensures in
    inl (line_then_more c.args.bytes.now c.in-Some.field-0-0.now c.in-Some.later.now (sym e.rest ∙ c.in-Some.ensures.cases.0) ∙ ap (λ l. l ++ 10 ∷ c.in-Some.later.now) (sym e.front))

pub returns-in-None-clause-spelled : goal.returns-in-None-clause-spelled
returns-in-None-clause-spelled c =
    let e = c.split_line.ensures in
    let none : c.split_line.result.1.now ≡ [] = nil_from_length c.split_line.result.1.now c.in-None.ensures.cases in
    inr (line_then_none c.args.bytes.now (sym e.rest ∙ none) ∙ sym e.front, none)

pub returns-in-Some-clause-lines : goal.returns-in-Some-clause-lines
returns-in-Some-clause-lines c =
    let e = c.split_line.ensures in
    line_before c.args.bytes.now c.in-Some.field-0-0.now c.in-Some.later.now (sym e.rest ∙ c.in-Some.ensures.cases.0) ∙ ap (λ l. l ∷ lines_of c.in-Some.later.now) (sym e.front)

pub returns-in-Some-clause-line : goal.returns-in-Some-clause-line
returns-in-Some-clause-line c = ap (list_all (λ b. not (is_line_end b))) c.split_line.ensures.front ∙ every_front (λ b. not (is_line_end b)) c.args.bytes.now

pub returns-in-Some-clause-shorter : goal.returns-in-Some-clause-shorter
returns-in-Some-clause-shorter c =
    fewer_behind_line (λ b. not (is_line_end b)) c.args.bytes.now c.in-Some.field-0-0.now c.in-Some.later.now (sym c.split_line.ensures.rest ∙ c.in-Some.ensures.cases.0)

pub returns-in-None-clause-lines : goal.returns-in-None-clause-lines
returns-in-None-clause-lines c =
    let e = c.split_line.ensures in
    let none : c.split_line.result.1.now ≡ [] = nil_from_length c.split_line.result.1.now c.in-None.ensures.cases in
    line_alone c.args.bytes.now c.requires (sym e.rest ∙ none) ∙ ap (λ l. l ∷ []) (sym e.front) ∙ ap (λ l. c.split_line.result.0.now ∷ lines_of l) (sym none)

pub returns-in-None-clause-line : goal.returns-in-None-clause-line
returns-in-None-clause-line c = ap (list_all (λ b. not (is_line_end b))) c.split_line.ensures.front ∙ every_front (λ b. not (is_line_end b)) c.args.bytes.now
