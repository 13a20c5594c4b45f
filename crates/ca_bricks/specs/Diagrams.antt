-- Decision diagrams (Bryant, "Graph-Based Algorithms for Boolean Function Manipulation"): the next state of a cell of two states is found by
-- looking at one of the nine cells round it after the other.
use Rattle.std.specs.Prelude.{ℕ, zero, suc, ◌-◌, List, [], ◌∷◌, ◌++◌, length, get_or, slice_index, false, ◌==◌, if◌then◌else◌}
use Rattle.ca_bricks.specs.declared.diagram.Node.{Node}
use Rattle.ca_bricks.specs.declared.diagram.Node.TheVariants.{State, Choice}

-- the state that a node stands for, where those of the nodes before it are known: its own, or that of the node which is chosen by one of nine cells,
-- in the order NW, N, NE, W, the centre, E, SW, S, SE
abbrev pub node_state : List ℕ → List ℕ → Node → ℕ
node_state nine earlier (State live) = if live then 1 else 0
node_state nine earlier (Choice choice) = slice_index earlier (if slice_index nine choice.place == 0 then choice.dead else choice.live)

-- the states of the first n nodes
abbrev pub states_of : List Node → List ℕ → ℕ → List ℕ
states_of nodes nine zero = []
states_of nodes nine (suc n) =
    states_of nodes nine n ++ (node_state nine (states_of nodes nine n) (get_or nodes n (State false)) ∷ [])

-- the state of the last one is the next state of the centre
abbrev pub diagram_next : List Node → List ℕ → ℕ
diagram_next nodes nine = slice_index (states_of nodes nine (length nodes)) (length nodes - 1)
