use Rattle.std.proofs.lemmas.Map.Text.{hash_map_updates_str}
use Rattle.ca_rule.proofs.FieldSlots.{on-ok}
use Rattle.ca_rule.proofs.table.names.Names.put.Goals as goal

pub returns : goal.returns
returns c = hash_map_updates_str c.args.name.now c.args.self.now.numbers c.insert.new.self _ (on-ok c.insert.result _ c.if-is_err.ensures.negation c.insert.ensures.updates)
