-- Leapers that go on: what is known of a pattern before, and what is then.
use Rattle.std.proofs.Common.{◌≡◌, ℕ, ◌≤◌, List, sym, subst, arith}
use Rattle.std.specs.Prelude.{ℤ, replicate}
use Rattle.ca_plane.specs.Prelude.{Picture, cells_after}
use Rattle.ca_plane.specs.Plane as plane
use Rattle.ca_quad.specs.declared.{node.Node.Node, tree.Tree.Tree}
use Rattle.ca_quad.specs.Prelude.{AreSquareBoxes, cell}
use Rattle.ca_quad.proofs.Trims.{trees_stay}
use Rattle.ca_run.specs.Prelude.{LeaperView, LeaperGrows}
use Rattle.ca_pattern.specs.Prelude.{ShowsTree, IsLowTree, IsLaterTree}
use Rattle.ca_pattern.proofs.Starts.{start_is_low}
use Rattle.ca_identify.specs.declared.identification.{stage.First.First, stage.Stage.Stage, walk.Walk.Walk}
use Rattle.ca_identify.specs.inner.Stages.{CanSearch, CanLookOn, IsFirst, IsStage, IsWalk}
use Rattle.ca_identify.proofs.Stages.{first_stays, first_walk, same_cells}

module _ {next : List ℕ → ℕ} {nodes : List Node} {first : First} {limit : ℕ} where
  -- what can be searched can be not so far
  pub search_nearer : CanSearch next nodes first limit → (n : ℕ) → n ≤ limit → CanSearch next nodes first n
  search_nearer can n few = record { sound = can.sound; quiet = can.quiet; is_first = can.is_first; most = let most = can.most in omega (arith, few, most) }

  -- and from where a walk is
  pub walk_nearer : {walk : Walk} → CanLookOn next nodes first walk limit → (n : ℕ) → n ≤ limit → walk.generations ≤ n → CanLookOn next nodes first walk n
  walk_nearer can n few within = record { pattern = search_nearer can.pattern n few; is_walk = can.is_walk; within = within }

  -- a walk that begins at the pattern can be taken on
  pub walk_begins : CanSearch next nodes first limit → (walk : Walk) → walk.tree ≡ first.tree → walk.generations ≡ 0 → AreSquareBoxes nodes walk.boxes → CanLookOn next nodes first walk limit
  walk_begins can walk there none boxes = record { pattern = can; is_walk = first_walk next nodes first.tree can.is_first.start walk there none boxes; within = omega (arith, none) }

module _ {Rule : Type 0} (next_of : Rule → List ℕ → ℕ) {old mid : LeaperView Rule} (on : LeaperGrows Rule old mid) {first : First} {limit : ℕ} (can : CanSearch (next_of old.rule) old.nodes first limit) where
  -- the first cells are the same
  same_first : cell mid.nodes first.tree ≡ cell old.nodes first.tree
  same_first = same_cells (cell mid.nodes first.tree) (cell old.nodes first.tree) (trees_stay old.nodes mid.nodes can.sound on.grows first.tree can.is_first.start.is_tree)

  -- and so is the rule: what is known of both then holds of them as they were,
  pub as_before : (P : (List ℕ → ℕ) → (ℤ → ℤ → ℕ) → Type 0) → P (next_of mid.rule) (cell mid.nodes first.tree) → P (next_of old.rule) (cell old.nodes first.tree)
  as_before P told = subst (λ r. P (next_of r) (cell old.nodes first.tree)) on.rule (subst (P (next_of mid.rule)) same_first told)

  -- and the other way round
  pub as_then : (P : (List ℕ → ℕ) → (ℤ → ℤ → ℕ) → Type 0) → P (next_of old.rule) (cell old.nodes first.tree) → P (next_of mid.rule) (cell mid.nodes first.tree)
  as_then P told = subst (λ r. P (next_of r) (cell mid.nodes first.tree)) (sym on.rule) (subst (P (next_of old.rule)) (sym same_first) told)

  -- so does what a later tree shows
  pub shown_stage : (n : ℕ) (tree : Tree) (stage : Stage) → IsLaterTree (next_of old.rule) (cell old.nodes first.tree) n mid.nodes tree → IsStage (cell mid.nodes first.tree) (cell mid.nodes tree) stage
      → IsStage (cell old.nodes first.tree) (cells_after (next_of old.rule) (cell old.nodes first.tree) n) stage
  shown_stage n tree stage later told =
      let stages = cells_after (next_of old.rule) (cell old.nodes first.tree) n in
      subst (λ p. IsStage p stages stage) same_first (subst (λ q. IsStage (cell mid.nodes first.tree) q stage) (same_cells (cell mid.nodes tree) stages later.shows) told)

  -- and what is known of all pictures of the first cells
  pub pictures_before : (P : (List ℕ → ℕ) → Picture → Type 0) → ((cells : Picture) → ShowsTree mid.nodes first.tree cells → P (next_of mid.rule) cells)
      → (cells : Picture) → ShowsTree old.nodes first.tree cells → P (next_of old.rule) cells
  pictures_before P told = as_before (λ next p. (cells : Picture) → ((x y : ℤ) → plane.cell cells x y ≡ p x y) → P next cells) told

  -- the pattern stays one,
  pub first_then : IsFirst mid.nodes first
  first_then = first_stays old.nodes mid.nodes can.sound on.grows first can.is_first

  -- it can be searched then too, as far or not so far,
  pub search_stays : (n : ℕ) → n ≤ limit → CanSearch (next_of mid.rule) mid.nodes first n
  search_stays n few = record {
    sound = on.grows.sound;
    quiet = subst (λ r. next_of r (replicate 9 0) ≡ 0) (sym on.rule) can.quiet;
    is_first = first_then;
    most = let most = can.most in omega (arith, few, most);
  }

  -- from where a walk is too
  pub walks_on : (walk : Walk) (n : ℕ) → n ≤ limit → walk.generations ≤ n → IsWalk (next_of old.rule) (cell old.nodes first.tree) mid.nodes walk → CanLookOn (next_of mid.rule) mid.nodes first walk n
  walks_on walk n few within is = record { pattern = search_stays n few; is_walk = as_then (λ next p. IsWalk next p mid.nodes walk) is; within = within }

-- the tree of a pattern's plane after some generations, as far as it can be searched, is a low one
pub later_low : {next : List ℕ → ℕ} {nodes : List Node} {first : First} {limit : ℕ} → CanSearch next nodes first limit → {n : ℕ} {new : List Node} {tree : Tree} → IsLaterTree next (cell nodes first.tree) n new tree → n ≤ limit
    → IsLowTree new tree
later_low {next} {nodes} {first} can {n} {new} {tree} is few =
    let most = can.most in
    record { is_tree = is.near.is_tree; low = start_is_low next (cell nodes first.tree) n can.quiet can.is_first.start.within (omega (arith, few, most)) new tree is.trimmed is.shows }
