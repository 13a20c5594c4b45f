use Rattle.std.proofs.Common.{◌≡◌, ◌++◌, not, length}
use Rattle.std.specs.Prelude.{ℕ, List}
use Rattle.ca_plane.specs.Prelude.{Every, is_line_end, words_of}
use Rattle.ca_rle.specs.inner.FrontParts.{WordsLead}
use Rattle.ca_rle.proofs.front.words.Start.after_words.Given as goal

abbrev pub invariant-words : goal.invariant-words
invariant-words l = record {
  line : Every (λ b. not (is_line_end b)) l.rest;
  good : (good : List (List ℕ)) × (words_of l.words ≡ good ++ words_of l.rest) × WordsLead good l.fn.self l.start;
}

abbrev pub decreases-words : goal.decreases-words
decreases-words l = length l.rest
