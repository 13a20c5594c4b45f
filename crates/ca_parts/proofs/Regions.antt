-- A plane that falls into regions, each with a finest division.
use Rattle.std.proofs.Common.{◌≡◌, ℕ, ◌+◌, List, [], ◌∷◌, ◌++◌, refl, sym, ap₂, ◌∙◌}
use Rattle.std.specs.Prelude.{ℤ, replicate}
use Rattle.std.specs.List.{All, AllPairs, AllZip, Any, Contains, flat_map}
use Rattle.std.proofs.lemmas.List.Elements.{All-nil, All-cons, All-head, All-tail, All-append, All-weaker, All-contains, All-contains_itself, Contains-append_left, Contains-append_right}
use Rattle.std.proofs.lemmas.List.Sums.{sum_by-cons, sum_by-append}
use Rattle.ca_plane.specs.Prelude.{Picture, cell, IsLive}
use Rattle.ca_parts.specs.Prelude.{NeverMeet, together, ComesBack, LiesIn, IsDivision, IsFiner, IsFinest}
use Rattle.ca_parts.proofs.Lists.{All-zip, AllZip-weaker, AllZip-with_other}
use Rattle.ca_parts.proofs.LaterDivisions.{IsDivision-same}
use Rattle.ca_parts.proofs.Cuts.{cuts, cut_division, cut_is_finer}

-- ---- lists in a row

abbrev joined : {X : Type 0} → List (List X) → List X
joined xss = flat_map (λ xs. xs) xss

All-joined : {X : Type 0} (P : X → Type 0) (xss : List (List X)) → All (λ xs. All P xs) xss → All P (joined xss)
All-joined P [] all = All-nil P
All-joined P (xs ∷ xss) all = All-append P xs (joined xss) (All-head (λ ys. All P ys) xs xss all) (All-joined P xss (All-tail (λ ys. All P ys) xs xss all))

-- each list's elements are elements of all in a row
among_joined : {X : Type 0} (xss : List (List X)) → All (λ xs. All (Contains (joined xss)) xs) xss
among_joined [] = All-nil _
among_joined (xs ∷ xss) =
    All-cons (λ ys. All (Contains (xs ++ joined xss)) ys) xs xss
    (All-weaker (Contains xs) (Contains (xs ++ joined xss)) (λ x has. Contains-append_left xs (joined xss) x has) xs (All-contains_itself xs))
    (All-weaker (λ ys. All (Contains (joined xss)) ys) (λ ys. All (Contains (xs ++ joined xss)) ys)
    (λ ys all. All-weaker (Contains (joined xss)) (Contains (xs ++ joined xss)) (λ x has. Contains-append_right xs (joined xss) x has) ys all) xss (among_joined xss))

-- pictures that are each some others together
together-joined : (x y : ℤ) (ps : List Picture) (pss : List (List Picture)) → AllZip (λ p qs. cell p x y ≡ together qs x y) ps pss → together ps x y ≡ together (joined pss) x y
together-joined x y [] [] zip = refl
together-joined x y [] (qs ∷ qss) zip = absurd zip
together-joined x y (p ∷ ps) [] zip = absurd zip
together-joined x y (p ∷ ps) (qs ∷ qss) zip =
    sum_by-cons (λ q. cell q x y) p ps ∙ ap₂ (λ a b. a + b) zip.0 (together-joined x y ps qss zip.1) ∙ sym (sum_by-append (λ q. cell q x y) qs (joined qss))

-- ---- finer divisions

-- what is finer than a finer list is finer
IsFiner-through : (ps qs rs : List Picture) → IsFiner ps qs → IsFiner qs rs → IsFiner ps rs
IsFiner-through ps qs rs one two = λ k d low.
    let (j, q, below, is, lies) = one k d low in
    let (i, r, within, are, on) = All-contains (λ s. Any (LiesIn s) rs) qs q two (j, below, is) in
    (i, r, within, are, λ x y live. lies x y live ∙ on x y (λ z. live (lies x y live ∙ z)))

module _ (next : List ℕ → ℕ) (quiet : next (replicate 9 0) ≡ 0) (cells : ℤ → ℤ → ℕ) (regions : List Picture) (finest : List (List Picture)) (whole : (x y : ℤ) → cells x y ≡ together regions x y)
    (zip : AllZip (λ region parts. IsFinest next (cell region) parts) regions finest) (apart : AllPairs (NeverMeet next) (joined finest)) where
  of_each : (P : Picture → Type 0) → ((region : Picture) (parts : List Picture) → IsFinest next (cell region) parts → All P parts) → All P (joined finest)
  of_each P gives =
      All-joined P finest
      (All-zip (λ region parts. IsFinest next (cell region) parts) (Contains regions) (λ parts. All P parts) (λ region parts is _. gives region parts is) regions finest zip (All-contains_itself regions))

  division : IsDivision next cells (joined finest)
  division = record {
    live = of_each IsLive (λ region parts is. is.division.live);
    back = of_each (ComesBack next) (λ region parts is. is.division.back);
    apart = apart;
    whole = λ x y.
        whole x y
        ∙ together-joined x y regions finest
        (AllZip-weaker (λ region parts. IsFinest next (cell region) parts) (λ region parts. cell region x y ≡ together parts x y) (λ region parts is. is.division.whole x y) regions finest zip);
  }

  -- another division cuts the parts of a region, which are no coarser than what comes of that
  finer_there : (es : List Picture) → IsDivision next cells es → (region : Picture) (parts : List Picture) → IsFinest next (cell region) parts → All (Contains (joined finest)) parts → IsFiner parts es
  finer_there es other region parts is among =
      let cut = cut_division next quiet cells (joined finest) es division other parts among is.division.apart in
      let finer = is.finest (cuts parts es) (IsDivision-same next (together parts) (cell region) (cuts parts es) is.division.whole cut) in
      IsFiner-through parts (cuts parts es) es finer (cut_is_finer next quiet cells (joined finest) es division other parts among).1

  pub finest_of_regions : IsFinest next cells (joined finest)
  finest_of_regions = record {
    division = division;
    finest = λ es other.
        All-joined (λ p. Any (LiesIn p) es) finest
        (All-zip (λ region parts. IsFinest next (cell region) parts × All (Contains (joined finest)) parts) (Contains regions) (λ parts. IsFiner parts es)
        (λ region parts is _. finer_there es other region parts is.0 is.1) regions finest
        (AllZip-with_other (λ region parts. IsFinest next (cell region) parts) (λ parts. All (Contains (joined finest)) parts) regions finest zip (among_joined finest))
        (All-contains_itself regions));
  }
