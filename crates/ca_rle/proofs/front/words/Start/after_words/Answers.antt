use Rattle.std.proofs.Common.{refl, [], ◌∷◌, ◌++◌, sym, ap, ◌∙◌, append_assoc}
use Rattle.ca_rle.proofs.StartWords.{leads_none, leads_more}
use Rattle.ca_rle.proofs.front.words.Start.after_words.Goals as goal

pub words-init : goal.words-init
words-init c = record { line = c.requires; good = ([], refl, leads_none _) }

pub words-preserved : goal.words-preserved
words-preserved c =
    let so_far = c.words.invariant.good in
    let word = c.in-Some.word.now in
    record {
      line = c.in-Some.ensures.line;
      good = (so_far.0 ++ word ∷ [], so_far.1 ∙ ap (λ l. so_far.0 ++ l) c.in-Some.ensures.words ∙ sym (append_assoc so_far.0 (word ∷ []) _), leads_more so_far.0 (word ∷ []) _ _ _ so_far.2 c.in_ok-start.ensures.found);
    }
