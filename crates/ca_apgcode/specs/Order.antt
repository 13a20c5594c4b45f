-- The order of representations: an apgcode has the least one of its pattern's phases in each of the eight turns and
-- reflections (LifeWiki, "Apgcode").
use Rattle.std.specs.Prelude.{◌≡◌, ℕ, List, length}
use Rattle.std.specs.Ordering.{nat_cmp, ordering_then}
use Rattle.std.specs.Cmp.Lexicographic.{slice_cmp}
use Rattle.std.specs.declared.cmp.Ordering.{Ordering}
use Rattle.std.specs.declared.cmp.Ordering.TheVariants.{Less}

-- the shorter one comes first, and of two that are as long the one that is less in the order of the bytes
abbrev pub representation_cmp : List ℕ → List ℕ → Ordering
representation_cmp one other = ordering_then (nat_cmp (length one) (length other)) (slice_cmp nat_cmp one other)

-- the first one comes before the second
abbrev pub Precedes : List ℕ → List ℕ → Type 0
Precedes one other = representation_cmp one other ≡ Less
