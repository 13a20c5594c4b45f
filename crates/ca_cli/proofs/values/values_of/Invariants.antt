use Rattle.std.proofs.Common.{◌≡◌, map, take}
use Rattle.std.specs.Prelude.{string_bytes}
use Rattle.ca_cli.proofs.values.values_of.Given as goal

-- the values so far were copied
abbrev pub invariant-values : goal.invariant-values
invariant-values l = map string_bytes l.all.items ≡ map (λ value. value.now) (take l.word-index l.values)
