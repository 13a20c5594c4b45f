use Rattle.ca_apgcode.proofs.rounds.Turn.to.Goals as goal

pub returns : goal.returns
returns c = λ cells box. record { box = box; lesser = c.in_ok-now.ensures cells box }
