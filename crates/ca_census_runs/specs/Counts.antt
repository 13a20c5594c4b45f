-- How often objects have the same label (our own; docs/CLAIMS.md).
use Rattle.std.specs.Prelude.{◌≡◌, ℕ, zero, suc, List, [], ◌∷◌, ◌++◌, Bool, Option, None, Some, decimal}
use Rattle.std.specs.Cmp.Lexicographic.{slice_cmp}
use Rattle.std.specs.List.{count_by, IsDistinct}
use Rattle.std.specs.List.Sorted.{IsSortedBy}
use Rattle.std.specs.Map.{lookup, keys_of}
use Rattle.std.specs.Ordering.{is_lt, ordering_then, nat_cmp}
use Rattle.std.specs.Str.{bytes_eq}
use Rattle.std.specs.declared.cmp.Ordering.{Ordering}

-- a number of objects, where there are any
abbrev pub some_objects : ℕ → Option ℕ
some_objects zero = None
some_objects (suc n) = Some (suc n)

-- each label that an object has once, with the number of objects that have it
pub record IsTally (labels : List (List ℕ)) (counts : List (List ℕ × ℕ)) : Type 0 where
  pub once : IsDistinct bytes_eq (keys_of counts)
  pub number : (label : List ℕ) → lookup (bytes_eq label) counts ≡ some_objects (count_by (bytes_eq label) labels)

-- the most frequent label first; of those that are equally frequent, the one whose bytes come first
abbrev pub count_cmp : List ℕ × ℕ → List ℕ × ℕ → Ordering
count_cmp one other = ordering_then (nat_cmp other.1 one.1) (slice_cmp nat_cmp one.0 other.0)

abbrev pub comes_before : List ℕ × ℕ → List ℕ × ℕ → Bool
comes_before one other = is_lt (count_cmp one other)

-- the counts of labels, in this order
pub record AreCounts (labels : List (List ℕ)) (counts : List (List ℕ × ℕ)) : Type 0 where
  pub tally : IsTally labels counts
  pub order : IsSortedBy comes_before counts

-- the line of a label: how many objects have it, and the label
abbrev pub count_line : List ℕ × ℕ → List ℕ
count_line count = decimal count.1 ++ (32 ∷ (count.0 ++ 10 ∷ []))
