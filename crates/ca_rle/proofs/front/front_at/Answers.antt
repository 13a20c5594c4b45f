use Rattle.std.proofs.Common.{inl, refl, rules}
use Rattle.ca_rle.proofs.front.front_at.Goals as goal

pub returns-in_default-clause-fault : goal.returns-in_default-clause-fault
returns-in_default-clause-fault c = λ lines said p. (
  record {
    lines = lines;
    said = said;
    line = c.args.line.now;
    more = c.args.body.now;
    follows = record { preamble = p.good; line_is = c.requires.line; line_ends = c.requires.ends; spelled = refl };
    no_header = c.in_default.ensures;
    no_comment_or_last = inl c.requires.header;
  },
  refl,
)

pub returns-then-preamble-clause-fault : goal.returns-then-preamble-clause-fault
returns-then-preamble-clause-fault c = λ lines said p. (
  let xlife = p.xlife c.if-preamble.true in
      record {
        lines = lines;
        said = said;
        header = c.args.line.now;
        body = c.args.body.now;
        xlife = xlife.1;
        earlier = xlife.0;
        others = xlife.2;
        follows = record { preamble = p.good; line_is = c.requires.line; line_ends = c.requires.ends; spelled = refl };
        is_xlife = xlife.3;
        among = xlife.4;
        header_is = search rules;
      },
  refl,
)
