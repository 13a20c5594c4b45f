use Rattle.std.proofs.Common.{◌∙◌, ◌∷◌, [], sym, ap, max}
use Rattle.ca_verify_lines.specs.Prelude.{status_of}
use Rattle.ca_verify_lines.proofs.Statuses.{status_more}
use Rattle.ca_verify_lines.proofs.printing.worse_status.Goals as goal

pub returns : goal.returns
returns c = λ answers so_far.
    c.max.ensures ∙ ap (max c.args.code) c.status.ensures ∙ ap (λ s. max s (status_of (c.args.answer ∷ []))) so_far ∙ sym (status_more answers c.args.answer)
