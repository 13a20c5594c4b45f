-- Trees that leap: what they show, and where all stays empty.
use Rattle.std.proofs.Common.{◌≡◌, ℕ, suc, ◌+◌, ◌-◌, ◌*◌, ◌/◌, ◌%◌, ◌<◌, ◌≤◌, ◌^◌, inl, inr, Option, Some, None, IfSome, List, refl, sym, ap, ap₂, subst, ◌∙◌, arith}
use Rattle.std.specs.Prelude.{ℤ, pos, negsuc, neg_ℤ, ◌+ℤ◌, ◌≤ℤ◌, replicate}
use Rattle.std.proofs.lemmas.Int.{ints}
use Rattle.std.proofs.Math.Nat.{two-pow-succ, pow-le-pow_right}
use Rattle.std.proofs.Math.Pow.{pow_mono}
use Rattle.std.proofs.lemmas.Nat.{mod-pow-add}
use Rattle.ca_plane.specs.Prelude.{cells_after, from_corner}
use Rattle.ca_quad.specs.declared.{node.Node.Node, tree.Tree.Tree}
use Rattle.ca_quad.specs.Prelude.{cell_of, IsSoundStore, Grows, IsTree, cell}
use Rattle.ca_plane.proofs.Numbers.{below_or_not}
use Rattle.ca_quad.proofs.Cells.{cell_ends, cells_stay}
use Rattle.ca_quad.proofs.Edges.{outside_x, outside_y}
use Rattle.ca_run.specs.Prelude.{IsCentre}
use Rattle.ca_run.specs.inner.Shown.{ShowsAt}
use Rattle.ca_bricks.specs.Prelude.{side}
use Rattle.ca_run.specs.inner.Padded.{IsPadded}
use Rattle.ca_run.specs.inner.Beyond.{IsBeyond, DiesBeyond}
use Rattle.ca_plane.proofs.After.{after_same, after_dead}
use Rattle.ca_run.proofs.ShownPlanes.{at_from, centre_at}

-- a tree is empty beyond half its side
pub tree_dies : (nodes : List Node) (tree : Tree) → 1 ≤ tree.level → DiesBeyond (2 ^ (tree.level - 1)) (cell nodes tree)
tree_dies nodes tree some x y (inl (inl h)) = outside_x nodes tree (2 ^ (tree.level - 1)) some refl x y (inl (omega (arith, ints, h)))
tree_dies nodes tree some x y (inl (inr h)) = outside_x nodes tree (2 ^ (tree.level - 1)) some refl x y (inr (omega (arith, ints, h)))
tree_dies nodes tree some x y (inr (inl h)) = outside_y nodes tree (2 ^ (tree.level - 1)) some refl x y (inl (omega (arith, ints, h)))
tree_dies nodes tree some x y (inr (inr h)) = outside_y nodes tree (2 ^ (tree.level - 1)) some refl x y (inr (omega (arith, ints, h)))

beyond_near : (way n far : ℕ) (x s : ℤ) → way + n ≤ far → s ≤ℤ (x +ℤ pos n) → x ≤ℤ (s +ℤ pos n) → IsBeyond far x → IsBeyond way s
beyond_near way n far x s h low high (inl e) = inl (omega (arith, ints, h, low, high, e))
beyond_near way n far x s h low high (inr e) = inr (omega (arith, ints, h, low, high, e))

-- n generations later it is empty n cells further out
pub later_dies : (next : List ℕ → ℕ) → next (replicate 9 0) ≡ 0 → (p : ℤ → ℤ → ℕ) (way n far : ℕ) → way + n ≤ far → DiesBeyond way p → DiesBeyond far (cells_after next p n)
later_dies next quiet p way n far h dies x y out =
    after_dead next p quiet n x y (λ s t within.
    let sx : s ≤ℤ (x +ℤ pos n) = omega (arith, ints, within) in
    let xs : x ≤ℤ (s +ℤ pos n) = omega (arith, ints, within) in
    let ty : t ≤ℤ (y +ℤ pos n) = omega (arith, ints, within) in
    let yt : y ≤ℤ (t +ℤ pos n) = omega (arith, ints, within) in
    dies s t (elim out [ inl e ↦ inl (beyond_near way n far x s h sx xs e) | inr e ↦ inr (beyond_near way n far y t h ty yt e) ]))

-- the root of a tree shows the tree's cells
pub root_at : (nodes : List Node) (tree : Tree) → IsTree nodes tree → ShowsAt nodes tree.root tree.level (cell nodes tree) (neg_ℤ (pos (2 ^ (tree.level - 1)))) (neg_ℤ (pos (2 ^ (tree.level - 1))))
root_at nodes tree h = record {
  is_square = h;
  looks = λ x y i j.
      let half = 2 ^ (tree.level - 1) in
      let ax : (neg_ℤ (pos half) +ℤ pos x) +ℤ pos half ≡ pos x = omega (arith, ints) in
      let by : (neg_ℤ (pos half) +ℤ pos y) +ℤ pos half ≡ pos y = omega (arith, ints) in
      sym (ap₂ (from_corner (cell_of nodes tree.level tree.root)) ax by);
}

-- a square that shows all that is live of a plane, from the corner of a tree onwards, is the root of a tree with the
-- plane's cells
module _ (nodes : List Node) (root k : ℕ) (q : ℤ → ℤ → ℕ) (shows : ShowsAt nodes root (suc k) q (neg_ℤ (pos (2 ^ k))) (neg_ℤ (pos (2 ^ k)))) (dies : DiesBeyond (2 ^ k) q) where
  shown_from : (x y u v : ℤ) → x +ℤ pos (2 ^ k) ≡ u → y +ℤ pos (2 ^ k) ≡ v → from_corner (cell_of nodes (suc k) root) u v ≡ q x y
  shown_from x y (pos a) (pos b) e f =
      let wide = two-pow-succ k in
      elim (below_or_not a (2 ^ suc k)) [
        | inl i ↦ elim (below_or_not b (2 ^ suc k)) [
          | inl j ↦
              let ax : neg_ℤ (pos (2 ^ k)) +ℤ pos a ≡ x = omega (arith, ints, e) in
              let by : neg_ℤ (pos (2 ^ k)) +ℤ pos b ≡ y = omega (arith, ints, f) in
              shows.looks a b i j ∙ ap₂ q ax by
          | inr j ↦ cell_ends nodes (suc k) root a b (inr j) ∙ sym (dies x y (inr (inr (omega (arith, ints, f, j, wide)))))
        ]
        | inr i ↦ cell_ends nodes (suc k) root a b (inl i) ∙ sym (dies x y (inl (inr (omega (arith, ints, e, i, wide)))))
      ]
  shown_from x y (pos a) (negsuc b) e f = sym (dies x y (inr (inl (omega (arith, ints, f)))))
  shown_from x y (negsuc a) v e f = sym (dies x y (inl (inl (omega (arith, ints, e)))))

  pub tree_at : (tree : Tree) → tree.root ≡ root → tree.level ≡ suc k → (x y : ℤ) → cell nodes tree x y ≡ q x y
  tree_at tree e f x y =
      let half : tree.level - 1 ≡ k = omega arith in
      let same : cell nodes tree x y ≡ from_corner (cell_of nodes (suc k) root) (x +ℤ pos (2 ^ k)) (y +ℤ pos (2 ^ k)) = rw (half, e, f) refl in
      same ∙ shown_from x y (x +ℤ pos (2 ^ k)) (y +ℤ pos (2 ^ k)) refl refl

-- ---- a leap

-- two parts of a sum of two halves
pub powers_fit : (l j k : ℕ) → 1 ≤ l → l ≤ k → j + 1 ≤ k → 2 ^ (l - 1) + 2 ^ j ≤ 2 ^ k
powers_fit l j k some low time =
    let next : suc (k - 1) ≡ k = omega arith in
    let up : 2 ^ k ≡ 2 ^ (k - 1) + 2 ^ (k - 1) = ap (λ n. 2 ^ n) (sym next) ∙ two-pow-succ (k - 1) in
    let lower : l - 1 ≤ k - 1 = omega arith in
    let sooner : j ≤ k - 1 = omega arith in
    let a : 2 ^ (l - 1) ≤ 2 ^ (k - 1) = pow_mono lower in
    let b : 2 ^ j ≤ 2 ^ (k - 1) = pow_mono sooner in
    omega (arith, a, b, up)

-- the centre of a tree with a wide empty margin is the tree 2 ^ j generations later
pub leap_cells : (next : List ℕ → ℕ) → next (replicate 9 0) ≡ 0 → (s0 s1 s2 : List Node) → IsSoundStore s1 → Grows s1 s2 → (tree wide result : Tree) (k j root : ℕ) → 1 ≤ tree.level → tree.level ≤ k → j + 1 ≤ k
    → IsPadded s0 tree (suc (suc k)) s1 wide → IsCentre next s2 wide.root k j root
    → result.root ≡ root → result.level ≡ suc k
    → (x y : ℤ) → cell s2 result x y ≡ cells_after next (cell s0 tree) (2 ^ j) x y
leap_cells next quiet s0 s1 s2 sound grows tree wide result k j root some low time padded is_centre e f x y =
    let level = padded.has_level in
    let same = padded.cells in
    let p = cell s1 wide in
    let corner : wide.level - 1 ≡ suc k = omega arith in
    let up = two-pow-succ k in
    let place : neg_ℤ (pos (2 ^ suc k)) +ℤ side k ≡ neg_ℤ (pos (2 ^ k)) = omega (arith, ints, up) in
    let shown = subst (λ n. ShowsAt s1 wide.root (suc (suc k)) p (neg_ℤ (pos (2 ^ n))) (neg_ℤ (pos (2 ^ n)))) corner
    (subst (λ n. ShowsAt s1 wide.root n p (neg_ℤ (pos (2 ^ (wide.level - 1)))) (neg_ℤ (pos (2 ^ (wide.level - 1))))) level (root_at s1 wide padded.is_tree)) in
    let centred = at_from s2 root (suc k) (cells_after next p (2 ^ j)) _ _ _ _ place place
    (centre_at next s1 s2 sound grows wide.root k j root p (neg_ℤ (pos (2 ^ suc k))) (neg_ℤ (pos (2 ^ suc k))) shown is_centre) in
    let dies : DiesBeyond (2 ^ (tree.level - 1)) p = λ u v out. same u v ∙ tree_dies s0 tree some u v out in
    let later_dead_out = later_dies next quiet p (2 ^ (tree.level - 1)) (2 ^ j) (2 ^ k) (powers_fit tree.level j k some low time) dies in
    tree_at s2 root k (cells_after next p (2 ^ j)) centred later_dead_out result e f x y ∙ after_same next p (cell s0 tree) (2 ^ j) same x y

-- a binary digit that is 1 adds its power of two to those before it
pub digit_adds : (n j : ℕ) → n / 2 ^ j % 2 ≡ 1 → n % 2 ^ j + 2 ^ j ≡ n % 2 ^ (1 + j)
digit_adds n j digit = sym (mod-pow-add n 1 j ∙ (ap (λ d. d * 2 ^ j + n % 2 ^ j) digit ∙ omega arith))

-- and none where the digit is 0
pub no_digit : (n j : ℕ) → n / 2 ^ j % 2 ≡ 0 → n % 2 ^ j ≡ n % 2 ^ (1 + j)
no_digit n j digit = sym (mod-pow-add n 1 j ∙ (ap (λ d. d * 2 ^ j + n % 2 ^ j) digit ∙ omega arith))

-- ---- trees that stay

-- an old tree keeps its cells
pub tree_stays : (old new : List Node) → IsSoundStore old → Grows old new → (tree : Tree) → IsTree old tree → (x y : ℤ) → cell new tree x y ≡ cell old tree x y
tree_stays old new sound grows tree h x y =
    ap (λ f. from_corner f (x +ℤ pos (2 ^ (tree.level - 1))) (y +ℤ pos (2 ^ (tree.level - 1)))) (cells_stay old new sound grows tree.level tree.root h)

-- two trees that are made wider one after the other keep their cells
pub both_padded : (s0 s1 s2 : List Node) → IsSoundStore s0 → Grows s0 s1 → Grows s1 s2
    → (a b wide_a wide_b : Tree) (level : ℕ)
    → IsPadded s0 a level s1 wide_a → IsTree s0 b → IsPadded s1 b level s2 wide_b
    → ((x y : ℤ) → cell s2 wide_a x y ≡ cell s0 a x y) × ((x y : ℤ) → cell s2 wide_b x y ≡ cell s0 b x y)
both_padded s0 s1 s2 sound grows more a b wide_a wide_b level padded_a is_b padded_b = (
  λ x y. tree_stays s1 s2 grows.sound more wide_a padded_a.is_tree x y ∙ padded_a.cells x y,
  λ x y. padded_b.cells x y ∙ tree_stays s0 s1 sound grows b is_b x y,
)

-- a shifted two is a power of two, where no bit is lost
pub shifted_two : (j : ℕ) → j < 61 → 2 * 2 ^ j % 18446744073709551616 ≡ 2 ^ (1 + j)
shifted_two j h =
    let low : 2 ^ j ≤ 2 ^ 60 = pow-le-pow_right {n = 2} (omega arith) {i = j} {j = 60} (omega arith) in
    let one : 1 + j ≡ suc j = omega arith in
    let power : 2 ^ (1 + j) ≡ 2 ^ j + 2 ^ j = ap (λ m. 2 ^ m) one ∙ two-pow-succ j in
    omega (arith, low, power)

pub shifted_one : (j : ℕ) → j ≤ 60 → 1 * 2 ^ j % 18446744073709551616 ≡ 2 ^ j
shifted_one j h =
    let low : 2 ^ j ≤ 2 ^ 60 = pow-le-pow_right {n = 2} (omega arith) {i = j} {j = 60} h in
    omega (arith, low)

-- what holds of a place holds in other words
pub some_as : {X : Type 0} (r : Option X) (P Q : X → Type 0) → ((x : X) → P x → Q x) → IfSome r P → IfSome r Q
some_as None P Q turn h = tt
some_as (Some x) P Q turn h = turn x h
