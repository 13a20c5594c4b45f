-- The clusters of a plane, by those of its regions.
use Rattle.std.proofs.Common.{◌≡◌, ℕ, List, [], ◌∷◌, ◌++◌, map, get_or, refl, sym, ap, ◌∙◌, subst, arith}
use Rattle.std.specs.Prelude.{ℤ, replicate}
use Rattle.std.specs.List.{All, AllPairs, AllZip, flat_map}
use Rattle.std.proofs.lemmas.List.{map-append}
use Rattle.std.proofs.lemmas.List.Elements.{All-nil, All-head, All-tail, All-append, All-map}
use Rattle.ca_plane.specs.Prelude.{Picture, cell}
use Rattle.ca_parts.specs.declared.meeting.Meeting.TheVariants.{Never}
use Rattle.ca_parts.specs.Prelude.{Course, NeverMeet, IsFinest}
use Rattle.ca_parts.proofs.Lists.{AllPairs-head, AllPairs-tail}
use Rattle.ca_parts.proofs.Products.{AllPairs-append}
use Rattle.ca_parts.proofs.Regions.{finest_of_regions}
use Rattle.ca_parts.proofs.ShownCourses.{IsMeeting-from_shown}
use Rattle.ca_clusters.specs.declared.region.Region.{Region}
use Rattle.ca_clusters.specs.Clusters.{first_plane, GoesRound, AreClusters}
use Rattle.ca_clusters.specs.inner.Earlier.{AreAlwaysApart}
use Rattle.ca_clusters.specs.inner.Regions.{IsRegion, AreSettledRegions, cells_of, clusters_in, IsApartFromAll, KeepClear}

-- the first planes of a region's clusters
abbrev firsts : Region → List Picture
firsts region = map first_plane (clusters_in region)

-- those of all regions
abbrev all_firsts : List Region → List Picture
all_firsts regions = flat_map (λ parts. parts) (map firsts regions)

firsts_in_row : (regions : List Region) → map first_plane (flat_map clusters_in regions) ≡ all_firsts regions
firsts_in_row [] = refl
firsts_in_row (r ∷ rs) = map-append first_plane (clusters_in r) (flat_map clusters_in rs) ∙ ap (λ (l : List Picture). firsts r ++ l) (firsts_in_row rs)

module _ (next : List ℕ → ℕ) where
  all_round : (regions : List Region) → All (IsRegion next) regions → All (GoesRound next) (flat_map clusters_in regions)
  all_round [] are = All-nil (GoesRound next)
  all_round (r ∷ rs) are =
      All-append (GoesRound next) (clusters_in r) (flat_map clusters_in rs) (All-head (IsRegion next) r rs are).round (all_round rs (All-tail (IsRegion next) r rs are))

  zip : (regions : List Region) → All (IsRegion next) regions → AllZip (λ region parts. IsFinest next (cell region) parts) (map cells_of regions) (map firsts regions)
  zip [] are = tt
  zip (r ∷ rs) are = ((All-head (IsRegion next) r rs are).finest, zip rs (All-tail (IsRegion next) r rs are))

  -- courses that are always shown apart never meet
  never : (one other : Course) → GoesRound next one → GoesRound next other → AreAlwaysApart one other → NeverMeet next (first_plane one) (first_plane other)
  never one other round round_too apart = IsMeeting-from_shown next (first_plane one) (first_plane other) one other 0 Never round.phases round_too.phases apart

  -- a cluster that is always apart from those of all these regions
  never_all : (one : Course) → GoesRound next one → (regions : List Region) → All (IsRegion next) regions → All (λ region. IsApartFromAll (clusters_in region) one) regions
      → All (NeverMeet next (first_plane one)) (all_firsts regions)
  never_all one round [] are apart = All-nil (NeverMeet next (first_plane one))
  never_all one round (r ∷ rs) are apart =
      let here = All-head (IsRegion next) r rs are in
      let clear = All-head (λ region. IsApartFromAll (clusters_in region) one) r rs apart in
      All-append (NeverMeet next (first_plane one)) (firsts r) (all_firsts rs)
      (All-map (NeverMeet next (first_plane one)) first_plane (clusters_in r) (λ k d low. never one (get_or (clusters_in r) k d) round (here.round k d low) (clear k d low)))
      (never_all one round rs (All-tail (IsRegion next) r rs are) (All-tail (λ region. IsApartFromAll (clusters_in region) one) r rs apart))

  -- no two clusters of all regions ever meet
  none_meet : (regions : List Region) → All (IsRegion next) regions → AllPairs KeepClear regions → AllPairs (NeverMeet next) (all_firsts regions)
  none_meet [] are clear = λ i j d low high. absurd (omega arith)
  none_meet (r ∷ rs) are clear =
      let here = All-head (IsRegion next) r rs are in
      let rest = All-tail (IsRegion next) r rs are in
      let keep = AllPairs-head KeepClear r rs clear in
      AllPairs-append (NeverMeet next) (firsts r) (all_firsts rs) here.finest.division.apart (none_meet rs rest (AllPairs-tail KeepClear r rs clear))
      (All-map (λ p. All (NeverMeet next p) (all_firsts rs)) first_plane (clusters_in r)
      (λ k d low. never_all (get_or (clusters_in r) k d) (here.round k d low) rs rest (λ j e within. keep j e within k d low)))

  -- so they are the clusters of all the cells
  pub AreClusters-of_regions : next (replicate 9 0) ≡ 0 → (count : ℕ) (cells : ℤ → ℤ → ℕ) (regions : List Region) → AreSettledRegions next count cells regions → AllPairs KeepClear regions
      → AreClusters next cells (flat_map clusters_in regions)
  AreClusters-of_regions quiet count cells regions settled clear = record {
    round = all_round regions settled.clusters;
    finest = subst (IsFinest next cells) (sym (firsts_in_row regions))
        (finest_of_regions next quiet cells (map cells_of regions) (map firsts regions) settled.whole (zip regions settled.clusters) (none_meet regions settled.clusters clear));
  }
