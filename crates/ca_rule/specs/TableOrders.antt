-- The neighbourhoods of rule tables and their symmetries (Golly Help, File Formats: rule tables; that the orders of a
-- symmetry are taken in lexicographic order, and which orders the hexagonal symmetries have, is our own).
use Rattle.std.specs.Prelude.{ℕ, zero, suc, ◌+◌, ◌-◌, ◌%◌, List, [], ◌∷◌, ◌++◌, Bool, true, false, ◌==◌, nat_lt, map, length, flat_map, slice_index, if◌then◌else◌}
use Rattle.std.specs.List.{range_with_len}
use Rattle.ca_rule.specs.declared.table.neighbourhood.{Neighbourhood.Neighbourhood, Symmetry.Symmetry}
use Rattle.ca_rule.specs.declared.table.neighbourhood.Neighbourhood.TheVariants.{VonNeumann, Moore, Hexagonal, OneDimensional}
use Rattle.ca_rule.specs.declared.table.neighbourhood.Symmetry.TheVariants.{Identity, Rotate4, Rotate4Reflect, ReflectHorizontal, Rotate8, Rotate8Reflect, Rotate2, Rotate3, Rotate6, Rotate6Reflect, Reflect, Permute}

-- the ring of a neighbourhood, as the slots of a transition name its cells: their places among nine cells, which stand
-- NW, N, NE, W, the centre, E, SW, S, SE and are counted from 0.
-- N, E, S, W; N, NE, E, SE, S, SW, W, NW; N, E, SE, S, W, NW; or W, E
abbrev pub ring : Neighbourhood → List ℕ
ring VonNeumann = 1 ∷ 5 ∷ 7 ∷ 3 ∷ []
ring Moore = 1 ∷ 2 ∷ 5 ∷ 8 ∷ 7 ∷ 6 ∷ 3 ∷ 0 ∷ []
ring Hexagonal = 1 ∷ 5 ∷ 8 ∷ 7 ∷ 3 ∷ 0 ∷ []
ring OneDimensional = 3 ∷ 5 ∷ []

-- how many cells the ring has
abbrev pub ring_size : Neighbourhood → ℕ
ring_size neighbourhood = length (ring neighbourhood)

-- An order lists the ring's positions, counted from 0: the i-th slot takes the cell at the i-th of them.
-- The order that begins at position s and goes on round a ring of n
abbrev pub forward_order : ℕ → ℕ → List ℕ
forward_order n s = map (λ i. (s + i) % n) (range_with_len 0 n)

-- the order that begins at position s and goes back round it
abbrev pub backward_order : ℕ → ℕ → List ℕ
backward_order n s = map (λ i. (s + n - i) % n) (range_with_len 0 n)

-- in lexicographic order the first list comes before the second, or they are one
abbrev pub stands_before : List ℕ → List ℕ → Bool
stands_before [] ys = true
stands_before (x ∷ xs) [] = false
stands_before (x ∷ xs) (y ∷ ys) = if x == y then stands_before xs ys else nat_lt x y

-- a list put at its place among lists in lexicographic order
abbrev pub put_among : List ℕ → List (List ℕ) → List (List ℕ)
put_among g [] = g ∷ []
put_among g (h ∷ hs) = if stands_before g h then g ∷ h ∷ hs else h ∷ put_among g hs

-- the lists in lexicographic order
abbrev pub in_order : List (List ℕ) → List (List ℕ)
in_order [] = []
in_order (g ∷ gs) = put_among g (in_order gs)

-- round a ring of n, in lexicographic order: the orders that go forward from some positions, and those that go back from some
abbrev pub orders_round : ℕ → List ℕ → List ℕ → List (List ℕ)
orders_round n from back_from = in_order (map (forward_order n) from ++ map (backward_order n) back_from)

-- each element of a list, with the others
abbrev pub picks : List ℕ → List (ℕ × List ℕ)
picks [] = []
picks (x ∷ xs) = (x, xs) ∷ map (λ p. (p.0, x ∷ p.1)) (picks xs)

-- every order of n of the rising positions, in lexicographic order: first those that begin with the smallest
abbrev pub every_order : ℕ → List ℕ → List (List ℕ)
every_order zero positions = [] ∷ []
every_order (suc n) positions = flat_map (λ p. map (λ g. p.0 ∷ g) (every_order n p.1)) (picks positions)

-- the symmetries that a neighbourhood has
abbrev pub symmetries_of : Neighbourhood → List Symmetry
symmetries_of VonNeumann = Identity ∷ Rotate4 ∷ Rotate4Reflect ∷ ReflectHorizontal ∷ Permute ∷ []
symmetries_of Moore = Identity ∷ Rotate4 ∷ Rotate4Reflect ∷ ReflectHorizontal ∷ Rotate8 ∷ Rotate8Reflect ∷ Permute ∷ []
symmetries_of Hexagonal = Identity ∷ Rotate2 ∷ Rotate3 ∷ Rotate6 ∷ Rotate6Reflect ∷ Permute ∷ []
symmetries_of OneDimensional = Identity ∷ Reflect ∷ Permute ∷ []

-- the orders of a symmetry that turns or mirrors the ring of a neighbourhood; one that it doesn't have has none
abbrev pub round_orders : Neighbourhood → Symmetry → List (List ℕ)
round_orders VonNeumann Rotate4 = orders_round 4 (0 ∷ 1 ∷ 2 ∷ 3 ∷ []) []
round_orders VonNeumann Rotate4Reflect = orders_round 4 (0 ∷ 1 ∷ 2 ∷ 3 ∷ []) (0 ∷ 1 ∷ 2 ∷ 3 ∷ [])
round_orders VonNeumann ReflectHorizontal = orders_round 4 (0 ∷ []) (0 ∷ [])
round_orders Moore Rotate4 = orders_round 8 (0 ∷ 2 ∷ 4 ∷ 6 ∷ []) []
round_orders Moore Rotate4Reflect = orders_round 8 (0 ∷ 2 ∷ 4 ∷ 6 ∷ []) (0 ∷ 2 ∷ 4 ∷ 6 ∷ [])
round_orders Moore ReflectHorizontal = orders_round 8 (0 ∷ []) (0 ∷ [])
round_orders Moore Rotate8 = orders_round 8 (0 ∷ 1 ∷ 2 ∷ 3 ∷ 4 ∷ 5 ∷ 6 ∷ 7 ∷ []) []
round_orders Moore Rotate8Reflect = orders_round 8 (0 ∷ 1 ∷ 2 ∷ 3 ∷ 4 ∷ 5 ∷ 6 ∷ 7 ∷ []) (0 ∷ 1 ∷ 2 ∷ 3 ∷ 4 ∷ 5 ∷ 6 ∷ 7 ∷ [])
round_orders Hexagonal Rotate2 = orders_round 6 (0 ∷ 3 ∷ []) []
round_orders Hexagonal Rotate3 = orders_round 6 (0 ∷ 2 ∷ 4 ∷ []) []
round_orders Hexagonal Rotate6 = orders_round 6 (0 ∷ 1 ∷ 2 ∷ 3 ∷ 4 ∷ 5 ∷ []) []
round_orders Hexagonal Rotate6Reflect = orders_round 6 (0 ∷ 1 ∷ 2 ∷ 3 ∷ 4 ∷ 5 ∷ []) (0 ∷ 1 ∷ 2 ∷ 3 ∷ 4 ∷ 5 ∷ [])
round_orders OneDimensional Reflect = orders_round 2 (0 ∷ []) (1 ∷ [])
round_orders neighbourhood symmetry = []

-- the orders of a symmetry of a neighbourhood, in lexicographic order
abbrev pub orders : Neighbourhood → Symmetry → List (List ℕ)
orders neighbourhood Identity = forward_order (ring_size neighbourhood) 0 ∷ []
orders neighbourhood Permute = every_order (ring_size neighbourhood) (forward_order (ring_size neighbourhood) 0)
orders neighbourhood symmetry = round_orders neighbourhood symmetry

-- the places among nine cells of the cells that the slots take under an order, the centre's first
abbrev pub places : Neighbourhood → List ℕ → List ℕ
places neighbourhood order = 4 ∷ map (slice_index (ring neighbourhood)) order
