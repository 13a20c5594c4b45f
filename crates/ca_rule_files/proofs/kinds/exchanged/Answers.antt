use Rattle.std.proofs.Common.{◌==◌, slice_index, if◌then◌else◌, of_calls}
use Rattle.std.proofs.lemmas.List.FromFn.{fill_by_all}
use Rattle.ca_rule_files.proofs.kinds.exchanged.Goals as goal

pub returns : goal.returns
returns c = fill_by_all (λ place. if slice_index c.args.nine.now place == 0 then 1 else 0) c.map.result 9 0 c.map.ensures.items.long (λ k low. let called = (c.map.ensures.items.at k 0 0 low).2 in search of_calls)
