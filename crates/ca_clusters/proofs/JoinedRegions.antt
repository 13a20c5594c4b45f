-- Two regions of a plane that are made one.
use Rattle.std.proofs.Common.{◌≡◌, ℕ, ◌+◌, ◌<◌, List, [], ◌∷◌, ◌++◌, length, map, get_or, inl, inr, sym, ap, ◌∙◌, arith, subst}
use Rattle.std.specs.Prelude.{ℤ}
use Rattle.std.specs.List.{All, AllPairs, remove}
use Rattle.std.proofs.lemmas.List.{map_push, length-map, get_or-map}
use Rattle.std.proofs.lemmas.List.Edits.{get_or-remove_below}
use Rattle.std.proofs.lemmas.List.Elements.{All-push}
use Rattle.ca_plane.specs.Prelude.{Picture, cell, IsSparse}
use Rattle.ca_plane.proofs.Pictures.{cell-All}
use Rattle.ca_steps.specs.Prelude.{HasStates}
use Rattle.ca_steps.proofs.OutOfReach.{all_below}
use Rattle.ca_parts.specs.Prelude.{together, plane_at}
use Rattle.ca_clusters.specs.declared.region.Region.{Region}
use Rattle.ca_clusters.specs.Objects.{AreDisjoint}
use Rattle.ca_clusters.specs.inner.Regions.{IsRegion, AreSettledRegions, cells_of}
use Rattle.ca_clusters.proofs.MergedRuns.{All-remove, map-remove, together_merged, disjoint_merged}

-- the states of two pictures of which none are live in one place are those of what shows both
pub HasStates-sum : (count : ℕ) (p q u : Picture) → 0 < count → AreDisjoint (cell p) (cell q) → ((x y : ℤ) → cell u x y ≡ cell p x y + cell q x y)
    → HasStates count p → HasStates count q → IsSparse u → HasStates count u
HasStates-sum count p q u some disjoint both one other sparse =
    all_below u count sparse (λ a b.
    let first = cell-All (λ s. s < count) p a b some one in
    let second = cell-All (λ s. s < count) q a b some other in
    let sum = both a b in
    elim (disjoint a b) [ inl none ↦ omega arith | inr none ↦ omega arith ])

-- the cells of two regions that were taken out one after the other, the later one first
pub first_cells : (regions rest : List Region) (one other : ℕ) (first : Region) → one < other → other < length regions → rest ≡ remove regions other → first ≡ get_or rest one first
    → cells_of first ≡ plane_at (map cells_of regions) one
first_cells regions rest one other first order there left is =
    ap cells_of (is ∙ ap (λ (l : List Region). get_or l one first) left ∙ get_or-remove_below regions other first one order there)
    ∙ sym (get_or-map cells_of regions one first [] (omega arith))

pub second_cells : (regions : List Region) (other : ℕ) (second : Region) → other < length regions → second ≡ get_or regions other second
    → cells_of second ≡ plane_at (map cells_of regions) other
second_cells regions other second there is = ap cells_of is ∙ sym (get_or-map cells_of regions other second [] there)

-- what two planes show that are the cells of two regions
pub record AreTwoRegions (count : ℕ) (p q : Picture) : Type 0 where
  pub first : HasStates count p
  pub second : HasStates count q
  pub disjoint : AreDisjoint (cell p) (cell q)

pub two_regions : (next : List ℕ → ℕ) (count : ℕ) (cells : ℤ → ℤ → ℕ) (regions : List Region) (one other : ℕ) (p q : Picture) → one < other → other < length regions
    → AreSettledRegions next count cells regions → p ≡ plane_at (map cells_of regions) one → q ≡ plane_at (map cells_of regions) other → AreTwoRegions count p q
two_regions next count cells regions one other p q order there settled first second =
    let ps = map cells_of regions in
    let size : other < length ps = omega (arith, length-map regions cells_of) in
    record {
      first = subst (HasStates count) (sym first) (settled.states one [] (omega arith));
      second = subst (HasStates count) (sym second) (settled.states other [] size);
      disjoint = subst (λ (r : Picture). AreDisjoint (cell r) (cell q)) (sym first)
          (subst (λ (s : Picture). AreDisjoint (cell (plane_at ps one)) (cell s)) (sym second) (settled.disjoint one other [] order size));
    }

-- the same cells by another function
pub AreSettledRegions-same : (next : List ℕ → ℕ) (count : ℕ) (cells others : ℤ → ℤ → ℕ) (regions : List Region) → ((x y : ℤ) → cells x y ≡ others x y)
    → AreSettledRegions next count others regions → AreSettledRegions next count cells regions
AreSettledRegions-same next count cells others regions same settled = record {
  clusters = settled.clusters;
  states = settled.states;
  disjoint = settled.disjoint;
  whole = λ x y. same x y ∙ settled.whole x y;
}

-- with two of the regions made one, which has its clusters
pub AreSettledRegions-joined : (next : List ℕ → ℕ) (count : ℕ) (cells : ℤ → ℤ → ℕ) (regions : List Region) (one other : ℕ) (joined : Region) → one < other → other < length regions
    → AreSettledRegions next count cells regions → IsRegion next joined → HasStates count (cells_of joined)
    → ((x y : ℤ) → cell (cells_of joined) x y ≡ cell (plane_at (map cells_of regions) one) x y + cell (plane_at (map cells_of regions) other) x y)
    → AreSettledRegions next count cells (remove (remove regions other) one ++ joined ∷ [])
AreSettledRegions-joined next count cells regions one other joined order there settled region states both =
    let ps = map cells_of regions in
    let size : other < length ps = omega (arith, length-map regions cells_of) in
    let are : map cells_of (remove (remove regions other) one ++ joined ∷ []) ≡ remove (remove ps other) one ++ cells_of joined ∷ [] =
    map_push cells_of (remove (remove regions other) one) joined
    ∙ ap (λ (l : List Picture). l ++ cells_of joined ∷ []) (map-remove cells_of (remove regions other) one ∙ ap (λ (l : List Picture). remove l one) (map-remove cells_of regions other)) in
    record {
      clusters = All-push (IsRegion next) (remove (remove regions other) one) joined
          (All-remove (IsRegion next) (remove regions other) one (All-remove (IsRegion next) regions other settled.clusters)) region;
      states = subst (All (HasStates count)) (sym are)
          (All-push (HasStates count) (remove (remove ps other) one) (cells_of joined)
          (All-remove (HasStates count) (remove ps other) one (All-remove (HasStates count) ps other settled.states)) states);
      disjoint = subst (AllPairs (λ (p q : Picture). AreDisjoint (cell p) (cell q))) (sym are)
          (disjoint_merged ps one other order size settled.disjoint (cells_of joined) both);
      whole = λ x y. settled.whole x y
          ∙ sym (ap (λ (l : List Picture). together l x y) are ∙ together_merged ps one other order size settled.disjoint (cells_of joined) both x y);
    }
