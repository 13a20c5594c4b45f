-- Patterns that are back at no time: how the plane long after shows that.
use Rattle.std.proofs.Common.{◌≡◌, ℕ, ◌+◌, ◌-◌, ◌*◌, ◌≤◌, List, [], refl, sym, subst, ◌∙◌, arith}
use Rattle.std.specs.Prelude.{ℤ, pos, replicate, Option, None, Some, IsTrue}
use Rattle.std.specs.Option.{is_some}
use Rattle.std.proofs.lemmas.Int.{ints}
use Rattle.ca_plane.specs.declared.point.Bounds.{Bounds}
use Rattle.ca_plane.specs.Prelude.{Picture, cell, shifted, IsLeastBox, after, IsAfter}
use Rattle.ca_quad.specs.declared.{node.Node.Node, tree.Tree.Tree, tree.WideBounds.WideBounds}
use Rattle.ca_quad.specs.Prelude.{IsDead, IsLeastWideBox}
use Rattle.ca_quad.specs.Trees as trees
use Rattle.ca_steps.specs.Prelude.{IsWiderByAtMost}
use Rattle.ca_plane.proofs.After.{after_dead, after_same}
use Rattle.ca_steps.proofs.Returning.{never_wide, settles_alike}
use Rattle.ca_steps.proofs.Returns.{after_stands}
use Rattle.ca_identify.specs.declared.identification.{ending.Ending.Ending, walk.Walk.Walk}
use Rattle.ca_identify.specs.declared.identification.ending.Ending.TheVariants.{Death, Return}
use Rattle.ca_identify.specs.inner.Stages.{HasNoReturn, IsEnding, IsLookedAt, generations_of, EndsWithin, box_of}
use Rattle.ca_pattern.specs.Prelude.{IsLaterTree, ShowsTree}
use Rattle.ca_identify.proofs.LaterPlanes.{tree_picture}
use Rattle.ca_identify.proofs.Stages.{same_cells}

module _ (next : List ℕ → ℕ) (quiet : next (replicate 9 0) ≡ 0) (cells : Picture) (seen limit : ℕ) (without : HasNoReturn next cells seen) where
  -- where the plane is back after a few generations more, which bring the pattern not back, no time does
  settled_never : (later : Picture) (n q : ℕ) (dx dy : ℤ) → 1 ≤ q → q ≤ seen → IsAfter next cells n later → IsAfter next later q (shifted later dx dy) → HasNoReturn next cells limit
  settled_never later n q dx dy some few stands again = λ m one within u v back.
      without q some few dx dy (settles_alike next cells later m n q dx dy (one, u, v, back) stands again)

  -- an empty plane is
  none_again : IsAfter next [] 1 (shifted [] (pos 0) (pos 0))
  none_again = λ x y. after_dead next (cell []) quiet 1 x y (λ u v within. refl)

  -- so where it's empty, no time does
  pub empty_never : (n : ℕ) → 1 ≤ seen → IsAfter next cells n [] → HasNoReturn next cells limit
  empty_never n some empty = settled_never [] n 1 (pos 0) (pos 0) (omega arith) some empty none_again

  -- or where it ends as a pattern does
  ended_never : (later : Picture) (n : ℕ) → 1 ≤ seen → IsAfter next cells n later → (ending : Ending) → IsEnding next later ending → generations_of ending ≤ seen → HasNoReturn next cells limit
  ended_never later n some stands (Death g) is few =
      empty_never (n + g) some (λ x y. sym (after_stands next cells later n g stands x y) ∙ is.2.empty x y)
  ended_never later n some stands (Return again) is few = settled_never later n again.generations again.dx again.dy is.some few stands is.stands

  pub ending_never : (later : Picture) (n : ℕ) → 1 ≤ seen → IsAfter next cells n later → EndsWithin next later seen → HasNoReturn next cells limit
  ending_never later n some stands ends = ended_never later n some stands ends.0 ends.1 ends.2

-- where it has grown too far, no time up to the limit does
pub grown_never : (next : List ℕ → ℕ) → next (replicate 9 0) ≡ 0 → (cells later : Picture) (n limit : ℕ) (box wide : Bounds) → IsAfter next cells n later → IsLeastBox cells box → IsLeastBox later wide
    → (IsWiderByAtMost box wide (2 * (limit - 1)) → ⊥) → HasNoReturn next cells limit
grown_never next quiet cells later n limit box wide stands small least far = λ m some within dx dy back.
    let near = never_wide next quiet cells later m n box wide (some, dx, dy, back) stands small least in
    let columns = near.columns in
    let rows = near.rows in
    far (record { columns = omega (arith, ints, columns, within, some); rows = omega (arith, ints, rows, within, some) })

-- what ends so within some generations, where it is found
pub some_ends : (next : List ℕ → ℕ) (p : ℤ → ℤ → ℕ) (nodes : List Node) (least n : ℕ) (walk : Walk) (found : Option Ending) → IsTrue (is_some found) → IsLookedAt next p nodes least n walk found
    → (cells : Picture) → ((x y : ℤ) → cell cells x y ≡ p x y) → EndsWithin next cells n
some_ends next p nodes least n walk None found looked cells shows = cc
some_ends next p nodes least n walk (Some ending) found looked cells shows = (ending, looked.0 cells shows, looked.1)

-- ---- a tree of the plane after some generations

-- a picture has the box of its cells
picture_box : (f : ℤ → ℤ → ℕ) (cells : Picture) → ((x y : ℤ) → f x y ≡ cell cells x y) → (box : WideBounds) → IsLeastWideBox f box → IsLeastBox cells (box_of box)
picture_box f cells same box least =
    let wide : IsLeastWideBox (cell cells) box = subst (λ g. IsLeastWideBox g box) (same_cells f (cell cells) same) least in
    record { all = wide.all; left = wide.left; right = wide.right; top = wide.top; bottom = wide.bottom }

module _ (next : List ℕ → ℕ) (quiet : next (replicate 9 0) ≡ 0) (p : ℤ → ℤ → ℕ) (cells : Picture) (shows : (x y : ℤ) → cell cells x y ≡ p x y) (n : ℕ) (nodes : List Node) (tree : Tree)
    (is : IsLaterTree next p n nodes tree) where
  -- the picture has its cells then
  after_tree : (x y : ℤ) → after next cells n x y ≡ trees.cell nodes tree x y
  after_tree x y = after_same next (cell cells) p n shows x y ∙ sym (is.shows x y)

  -- it's empty
  pub tree_empty : (seen limit : ℕ) → 1 ≤ seen → HasNoReturn next cells seen → IsDead (trees.cell nodes tree) → HasNoReturn next cells limit
  tree_empty seen limit some without dead = empty_never next quiet cells seen limit without n some (λ x y. after_tree x y ∙ dead x y)

  -- or has grown too far
  pub tree_grown : (limit : ℕ) (box wide : WideBounds) → IsLeastWideBox p box → IsLeastWideBox (trees.cell nodes tree) wide → (IsWiderByAtMost (box_of box) (box_of wide) (2 * (limit - 1)) → ⊥)
      → HasNoReturn next cells limit
  tree_grown limit box wide small least far =
      let (later, same) = tree_picture nodes tree in
      grown_never next quiet cells later n limit (box_of box) (box_of wide) (λ x y. after_tree x y ∙ same x y) (picture_box p cells (λ x y. sym (shows x y)) box small)
      (picture_box (trees.cell nodes tree) later same wide least) far

  -- or ends as a pattern does
  pub tree_ended : (seen limit : ℕ) → 1 ≤ seen → HasNoReturn next cells seen → (later : Picture) → ShowsTree nodes tree later → EndsWithin next later seen → HasNoReturn next cells limit
  tree_ended seen limit some without later shown ends = ending_never next quiet cells seen limit without later n some (λ x y. after_tree x y ∙ sym (shown x y)) ends
