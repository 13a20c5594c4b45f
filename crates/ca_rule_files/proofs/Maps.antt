-- A MAP string has its characters and no others.
use Rattle.std.proofs.Common.{◌≡◌, ℕ, List, ◌++◌, codes, drop, sym, ap, ◌∙◌}
use Rattle.ca_rule_files.specs.Prelude.{IsMap}

pub same_characters : (text some others : List ℕ) → text ≡ codes "MAP" ++ some → IsMap text others → others ≡ some
same_characters text some others e is = ap (drop 3) (sym is.form ∙ e)
