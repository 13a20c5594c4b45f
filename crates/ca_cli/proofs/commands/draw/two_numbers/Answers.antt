use Rattle.std.proofs.Common.{Some, arith, rules}
use Rattle.std.proofs.lemmas.Str.Pattern.{split_parts}
use Rattle.ca_cli.proofs.commands.draw.two_numbers.Goals as goal

pub returns : goal.returns
returns c =
    let parts = split_parts 44 c.args.word.now (Some (c.in_ok-first.first, c.in_ok-first.second)) c.in_ok-first.ensures.cases (omega arith) in
    (c.in_ok-first.first.now, c.in_ok-first.second.now, parts.0, search rules, search rules)
