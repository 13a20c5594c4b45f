use Rattle.std.proofs.Common.{subst}
use Rattle.ca_rule.specs.Prelude.{IsBsRuleFault}
use Rattle.ca_rule_files.specs.Prelude.{Bs, Isotropic, Map, Generations}
use Rattle.ca_rule_files.proofs.Names.{table-name, bs-text, isotropic-text, map-text, generations-text}
use Rattle.ca_rule_files.proofs.texts.rule_file.Goals as goal

pub table_file-requires-clause-named : goal.table_file-requires-clause-named
table_file-requires-clause-named c =
    let names = c.in-Ok.ensures.found in
    table-name c.args.text.now (bs-text c.args.text.now names.birth names.survival c.in-Ok.rule.hood names.spells)

pub returns-in-Ok-clause-found : goal.returns-in-Ok-clause-found
returns-in-Ok-clause-found c = record { rule = Bs c.in-Ok.rule; names = c.in-Ok.ensures.found; writes = (c.in_ok-table_file-in-Ok).ensures.written; bytes = (c.in_ok-table_file-in-Ok).ensures.bytes }

pub table_file-requires-in-Ok-parse-clause-named : goal.table_file-requires-in-Ok-parse-clause-named
table_file-requires-in-Ok-parse-clause-named c =
    let rule = c.in-Ok-parse.rule in
    table-name c.args.text.now (isotropic-text c.args.text.now rule.birth.now rule.survival.now c.in-Ok-parse.ensures.found.spells)

pub returns-in-Ok-parse-clause-found : goal.returns-in-Ok-parse-clause-found
returns-in-Ok-parse-clause-found c = record {
  rule = Isotropic c.in-Ok-parse.rule.birth.now c.in-Ok-parse.rule.survival.now;
  names = ((subst (IsBsRuleFault c.args.text.now) c.in-Err-Unknown.field-0-is c.in-Err-Unknown.ensures.fault).1, c.in-Ok-parse.ensures.found);
  writes = (c.in_ok-table_file-in-Ok-parse).ensures.written;
  bytes = (c.in_ok-table_file-in-Ok-parse).ensures.bytes;
}

pub table_file-requires-in-Ok-parse-2-clause-named : goal.table_file-requires-in-Ok-parse-2-clause-named
table_file-requires-in-Ok-parse-2-clause-named c =
    let rule = c.in-Ok-parse-2.rule in
    table-name c.args.text.now (map-text c.args.text.now rule.characters.now c.in-Ok-parse-2.ensures.found.spells)

pub returns-in-Ok-parse-2-clause-found : goal.returns-in-Ok-parse-2-clause-found
returns-in-Ok-parse-2-clause-found c = record {
  rule = Map c.in-Ok-parse-2.rule.characters.now;
  names = c.in-Ok-parse-2.ensures.found;
  writes = (c.in_ok-table_file-in-Ok-parse-2).ensures.written;
  bytes = (c.in_ok-table_file-in-Ok-parse-2).ensures.bytes;
}

pub generations_file-requires : goal.generations_file-requires
generations_file-requires c =
    let names = c.in-Ok-parse-3.ensures.found in
    table-name c.args.text.now (generations-text c.args.text.now names.survival names.birth c.in-Ok-parse-3.rule.states names.spells)

pub returns-in_ok-generations_file-in-Ok-parse-3-clause-found : goal.returns-in_ok-generations_file-in-Ok-parse-3-clause-found
returns-in_ok-generations_file-in-Ok-parse-3-clause-found c = record {
  rule = Generations c.in-Ok-parse-3.rule;
  names = c.in-Ok-parse-3.ensures.found;
  writes = (c.in_ok-generations_file-in-Ok-parse-3).ensures.written;
  bytes = (c.in_ok-generations_file-in-Ok-parse-3).ensures.bytes;
}
