-- Searches for the generation after which a plane is settled first.
use Rattle.std.proofs.Common.{◌≡◌, ℕ, ◌+◌, ◌-◌, ◌≤◌, List, sym, ap, subst, ◌∙◌, arith}
use Rattle.std.proofs.Math.Path.{fun_ext}
use Rattle.std.specs.Prelude.{ℤ, replicate, map}
use Rattle.ca_plane.specs.Prelude.{Picture, cell, cells_after, IsAfter}
use Rattle.ca_plane.proofs.After.{after_same, after_again}
use Rattle.ca_quad.specs.declared.{node.Node.Node, tree.Tree.Tree}
use Rattle.ca_quad.specs.Prelude.{IsSoundStore, Grows}
use Rattle.ca_quad.specs.Trees as trees
use Rattle.ca_quad.proofs.LiveCells.{tree_population}
use Rattle.ca_quad.proofs.Trims.{trees_stay}
use Rattle.ca_pattern.specs.Prelude.{IsPattern, ShowsTree}
use Rattle.ca_pattern.proofs.LaterPlanes.{picture_of}
use Rattle.ca_pattern.proofs.LeaptTrees.{shows_stays}
use Rattle.ca_parts.specs.Prelude.{Course, IsDivision}
use Rattle.ca_parts.specs.Divisions as divisions
use Rattle.ca_parts.proofs.LaterDivisions.{settled_since}
use Rattle.ca_clusters.specs.Prelude.{first_plane, AreClusters}
use Rattle.ca_census.specs.declared.{reach.Reach.Reach, settling.Between.Between, settling.Settling.Settling}
use Rattle.ca_census.specs.Settlings.{IsSettled, IsSettling}
use Rattle.ca_census.specs.inner.Searches.{IsBetween}

-- cells that are the same everywhere are one plane
pub one_plane : (f g : ℤ → ℤ → ℕ) → ((x y : ℤ) → f x y ≡ g x y) → f ≡ g
one_plane f g same = fun_ext (λ x. fun_ext (same x))

-- ---- pictures of a pattern

-- there is one
pub some_picture : (nodes : List Node) (pattern : Tree) → (cells : Picture) × ShowsTree nodes pattern cells
some_picture nodes pattern =
    let shown = picture_of (trees.cell nodes pattern) _ (tree_population nodes pattern) in
    (shown.0, λ x y. sym (shown.1 x y))

-- what holds of all of them when a leaper has gone on holds of all of them before
pub pictures_before : {old new : List Node} → IsSoundStore old → Grows old new → {pattern : Tree} → IsPattern old pattern → (P : Picture → Type 0)
    → ((cells : Picture) → ShowsTree new pattern cells → P cells) → (cells : Picture) → ShowsTree old pattern cells → P cells
pictures_before {old} {new} sound grows {pattern} is P told cells shows = told cells (shows_stays old new sound grows pattern cells is.is_tree shows)

-- and the other way round
pub pictures_then : {old new : List Node} → IsSoundStore old → Grows old new → {pattern : Tree} → IsPattern old pattern → (P : Picture → Type 0)
    → ((cells : Picture) → ShowsTree old pattern cells → P cells) → (cells : Picture) → ShowsTree new pattern cells → P cells
pictures_then {old} {new} sound grows {pattern} is P told cells shows = told cells (λ x y. shows x y ∙ trees_stay old new sound grows pattern is.is_tree x y)

-- ---- clusters of a later plane

-- those of a picture of it are its own
pub clusters_then : (next : List ℕ → ℕ) (cells : Picture) (n : ℕ) (plane : Picture) (courses : List Course) → IsAfter next cells n plane → AreClusters next (cell plane) courses
    → AreClusters next (cells_after next (cell cells) n) courses
clusters_then next cells n plane courses stands are = subst (λ f. AreClusters next f courses) (sym (one_plane (cells_after next (cell cells) n) (cell plane) stands)) are

-- and those of a settled plane are its picture's
pub settled_clusters : (next : List ℕ → ℕ) (cells : Picture) (reach : Reach) (settling : Settling) → IsSettled next cells reach settling → AreClusters next (cell settling.plane) settling.clusters.items
settled_clusters next cells reach settling is =
    subst (λ f. AreClusters next f settling.clusters.items) (one_plane (cells_after next (cell cells) (reach.start + settling.generations)) (cell settling.plane) is.plane) is.clusters

-- ---- between two numbers of generations

module _ (next : List ℕ → ℕ) (cells : Picture) (reach : Reach) (between : Between) (is : IsBetween next cells reach between) where
  abbrev later : ℕ
  later = between.settled.generations

  abbrev clusters : List Course
  clusters = between.settled.clusters.items

  -- where nothing lies between them the plane is settled first after the one
  pub first_settled : later ≤ between.unsettled_before → IsSettling next cells reach between.settled
  first_settled none =
      let division = is.settled.clusters.finest.division in
      let same = one_plane (cells_after next (cell cells) (reach.start + later)) (cells_after next (cells_after next (cell cells) reach.start) later)
      (λ x y. sym (after_again next (cell cells) reach.start later x y)) in
      record {
        settled = is.settled;
        first = record {
          settled = (map first_plane clusters, subst (λ f. IsDivision next f (map first_plane clusters)) same division);
          first = λ m less. is.before m (omega (arith, less, none));
        };
      }

  -- the plane at another number of generations
  module _ (middle : ℕ) (within : middle ≤ later) (plane : Picture) (stands : IsAfter next cells (reach.start + middle) plane) where
    -- has those clusters some generations later
    pub clusters_from : AreClusters next (cells_after next (cell plane) (later - middle)) clusters
    clusters_from =
        let n = later - middle in
        let sum : reach.start + later ≡ (reach.start + middle) + n = omega (arith, within) in
        let same : (x y : ℤ) → cells_after next (cell cells) (reach.start + later) x y ≡ cells_after next (cell plane) n x y =
        λ x y. ap (λ k. cells_after next (cell cells) k x y) sum ∙ sym (after_again next (cell cells) (reach.start + middle) n x y)
        ∙ after_same next (cells_after next (cell cells) (reach.start + middle)) (cell plane) n stands x y in
        subst (λ f. AreClusters next f clusters) (one_plane _ _ same) is.settled.clusters

    -- where these are its clusters, it is settled,
    pub settled_there : (there : Settling) → there.generations ≡ middle → there.plane ≡ plane → AreClusters next (cell plane) there.clusters.items
        → IsBetween next cells reach (record { settled = there; unsettled_before = between.unsettled_before })
    settled_there there is_middle is_plane are =
        let limit = is.settled.within in
        let here = subst (λ k. IsAfter next cells (reach.start + k) plane) (sym is_middle) stands in
        record {
          settled = record {
            clusters = clusters_then next cells (reach.start + there.generations) plane there.clusters.items here are;
            plane = subst (IsAfter next cells (reach.start + there.generations)) (sym is_plane) here;
            within = omega (arith, is_middle, within, limit);
          };
          before = is.before;
        }

    -- and where it isn't, it wasn't before either
    pub unsettled_there : next (replicate 9 0) ≡ 0 → (divisions.IsSettled next (cell plane) → ⊥) → IsBetween next cells reach (record { settled = between.settled; unsettled_before = middle + 1 })
    unsettled_there quiet none = record {
      settled = is.settled;
      before = λ m less settled.
          let start = cells_after next (cell cells) reach.start in
          let same = one_plane (cells_after next start middle) (cell plane) (λ x y. after_again next (cell cells) reach.start middle x y ∙ stands x y) in
          none (subst (divisions.IsSettled next) same (settled_since next quiet start m middle (omega (arith, less)) settled));
    }
