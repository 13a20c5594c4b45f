use Rattle.std.proofs.Common.{◌≡◌, ◌++◌, length, map, drop}
use Rattle.std.specs.Prelude.{option_map, string_bytes}
use Rattle.std.specs.Vec.Iter.{into_iter_items, into_iter_len}
use Rattle.ca_cli.specs.RawWords.{path_bytes}
use Rattle.ca_cli.proofs.raw.path_bytes.Given as goal

-- with those of the paths and words that are left, they will be the whole
abbrev pub invariant-paths : goal.invariant-paths
invariant-paths l = record {
  whole : option_map (λ rest. map (λ word. word.items) l.all.items ++ rest)
      (path_bytes (map string_bytes (drop l.path-index l.paths)) (map (λ word. word.items) (into_iter_items l.left)))
      ≡ path_bytes (map string_bytes l.paths) (map (λ word. word.items) l.fn.raw.items);
  count : into_iter_len l.left ≡ length (into_iter_items l.left);
}
