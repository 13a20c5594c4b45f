use Rattle.std.proofs.Common.{refl}
use Rattle.ca_rle.proofs.JudgedTexts.{told}
use Rattle.ca_rle.proofs.rle_text.judge_rle.Goals as goal

pub returns-clause-found : goal.returns-clause-found
returns-clause-found c =
    let text = c.in_ok-text.ensures.found in
    told c.args.bytes.now text.0 _ _ text.1 refl refl refl refl refl refl refl
