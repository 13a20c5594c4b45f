use Rattle.ca_draw.proofs.Seen.{letters_apart, greys_apart}
use Rattle.ca_draw.proofs.laws.states_are_seen.Goals as goal

pub returns-clause-letters : goal.returns-clause-letters
returns-clause-letters c = letters_apart

pub returns-clause-greys : goal.returns-clause-greys
returns-clause-greys c = λ states a b least most. greys_apart states least most a b
