use Rattle.std.proofs.Common.{map}
use Rattle.ca_cli.specs.RawWords.{AreWords}
use Rattle.ca_cli.proofs.raw.split_words.Given as goal

-- they are the words so far
abbrev pub invariant-words : goal.invariant-words
invariant-words l = AreWords (map (λ word. word.items) l.yielded) l.words
