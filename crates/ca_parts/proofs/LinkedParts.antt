-- A plane's linked parts lie in the parts of its divisions.
use Rattle.std.proofs.Common.{◌≡◌, ◌≢◌, ℕ, ◌+◌, List, [], ◌∷◌, get_or, ◌⊎◌, Bool, true, false, inl, inr, sym, ap, ◌∙◌, arith}
use Rattle.std.specs.Prelude.{ℤ, replicate, ◌==◌, if◌then◌else◌}
use Rattle.std.specs.List.{All, Contains}
use Rattle.std.proofs.lemmas.Bool.{cases_eq, cases_Bool, cond-true, cond-false}
use Rattle.std.proofs.lemmas.Bool.Decides.{Decides-eqb}
use Rattle.std.proofs.lemmas.List.Elements.{Contains-get_or}
use Rattle.ca_plane.specs.Prelude.{Picture, cell, around}
use Rattle.ca_parts.specs.Prelude.{AreApart, NeverMeet, FallsInto, IsDivision, IsFiner, IsLinked}
use Rattle.ca_parts.proofs.Lists.{same_or_two}
use Rattle.ca_parts.proofs.ApartPlanes.{Within, around-within, AreApart-turned, one_live}
use Rattle.ca_parts.proofs.Sums.{sum_alone}
use Rattle.ca_parts.proofs.FinestDivisions.{NeverMeet-turned, part_here, part_there}

-- a window has no live cell, or has one
empty_or_not : (f : ℤ → ℤ → ℕ) (x y : ℤ) → (around f x y ≡ replicate 9 0) ⊎ (around f x y ≢ replicate 9 0)
empty_or_not f x y = by_sum _ _ _ _ _ _ _ _ _
  where
    by_sum : (a b c d e g h i j : ℕ) → (a ∷ b ∷ c ∷ d ∷ e ∷ g ∷ h ∷ i ∷ j ∷ [] ≡ replicate 9 0) ⊎ (a ∷ b ∷ c ∷ d ∷ e ∷ g ∷ h ∷ i ∷ j ∷ [] ≢ replicate 9 0)
    by_sum a b c d e g h i j =
        elim (cases_eq (a + b + c + d + e + g + h + i + j) 0) [
          | inl none ↦
              let za : a ≡ 0 = omega arith in
              let zb : b ≡ 0 = omega arith in
              let zc : c ≡ 0 = omega arith in
              let zd : d ≡ 0 = omega arith in
              let ze : e ≡ 0 = omega arith in
              let zg : g ≡ 0 = omega arith in
              let zh : h ≡ 0 = omega arith in
              let zi : i ≡ 0 = omega arith in
              let zj : j ≡ 0 = omega arith in
              inl (cc)
          | inr some ↦ inr (λ none.
              let za : a ≡ 0 = ap (λ l. get_or l 0 0) none in
              let zb : b ≡ 0 = ap (λ l. get_or l 1 0) none in
              let zc : c ≡ 0 = ap (λ l. get_or l 2 0) none in
              let zd : d ≡ 0 = ap (λ l. get_or l 3 0) none in
              let ze : e ≡ 0 = ap (λ l. get_or l 4 0) none in
              let zg : g ≡ 0 = ap (λ l. get_or l 5 0) none in
              let zh : h ≡ 0 = ap (λ l. get_or l 6 0) none in
              let zi : i ≡ 0 = ap (λ l. get_or l 7 0) none in
              let zj : j ≡ 0 = ap (λ l. get_or l 8 0) none in
              some (omega arith))
        ]

-- the cells of f at places where g is live, and those at the others
abbrev inside : (f g : ℤ → ℤ → ℕ) → ℤ → ℤ → ℕ
inside f g x y = if g x y == 0 then 0 else f x y

abbrev outside : (f g : ℤ → ℤ → ℕ) → ℤ → ℤ → ℕ
outside f g x y = if g x y == 0 then f x y else 0

-- together they are f
inside-outside : (f g : ℤ → ℤ → ℕ) (x y : ℤ) → f x y ≡ inside f g x y + outside f g x y
inside-outside f g x y = by_test ((g x y == 0))
  where
    by_test : (b : Bool) → f x y ≡ (if b then 0 else f x y) + (if b then f x y else 0)
    by_test true = omega arith
    by_test false = omega arith

-- what is live inside is live in g, and has the state of f
inside-live : (f g : ℤ → ℤ → ℕ) (x y : ℤ) → inside f g x y ≢ 0 → (inside f g x y ≡ f x y) × (g x y ≢ 0)
inside-live f g x y live =
    elim (cases_Bool ((g x y == 0))) [
      | inl none ↦ absurd (live (cond-true _ 0 (f x y) none))
      | inr some ↦ (cond-false _ 0 (f x y) some, λ z. let yes : (g x y == 0) ≡ true = (Decides-eqb (g x y) 0).1 z in let no : ⊥ = cc in no)
    ]

-- and what is live in f and in g is live inside
live-inside : (f g : ℤ → ℤ → ℕ) (x y : ℤ) → g x y ≢ 0 → inside f g x y ≡ f x y
live-inside f g x y some =
    elim (cases_Bool ((g x y == 0))) [
      | inl none ↦ absurd (some ((Decides-eqb (g x y) 0).0 none))
      | inr other ↦ cond-false _ 0 (f x y) other
    ]

-- what is live outside is live in f and not in g
outside-live : (f g : ℤ → ℤ → ℕ) (x y : ℤ) → outside f g x y ≢ 0 → (f x y ≢ 0) × (g x y ≡ 0)
outside-live f g x y live =
    elim (cases_Bool ((g x y == 0))) [
      | inl none ↦ (λ z. live (cond-true _ (f x y) 0 none ∙ z), (Decides-eqb (g x y) 0).0 none)
      | inr some ↦ absurd (live (cond-false _ (f x y) 0 some))
    ]

module _ (next : List ℕ → ℕ) (quiet : next (replicate 9 0) ≡ 0) (cells f : ℤ → ℤ → ℕ) (within : Within f cells) (ds : List Picture) (division : IsDivision next cells ds) where
  -- cells of the plane that are within a part of a division have its states
  inside_part : (d : Picture) → Contains ds d → Within (inside f (cell d)) (cell d)
  inside_part d has x y live =
      let (same, here) = inside-live f (cell d) x y live in
      same ∙ within x y (λ z. live (same ∙ z)) ∙ part_here next quiet cells ds division d has 0 x y here

  -- a window that sees the part sees no others
  none_outside : (d : Picture) → Contains ds d → (x y : ℤ) → (around (cell d) x y ≢ replicate 9 0) → (a b : ℤ)
      → ((q : Picture) → around (cell q) x y ≡ replicate 9 0 → cell q a b ≡ 0) → outside f (cell d) a b ≡ 0
  none_outside d has x y some a b at =
      elim (cases_eq (outside f (cell d) a b) 0) [
        | inl e ↦ e
        | inr live ↦
            let (here, dead) = outside-live f (cell d) a b live in
            let (q, hasq, there) = part_there next quiet cells ds division 0 a b (λ z. here (within a b here ∙ z)) in
            elim (same_or_two (NeverMeet next) (NeverMeet-turned next) ds q d division.apart hasq has) [
              | inl same ↦ absurd (there (ap (λ (r : Picture). cell r a b) same ∙ dead))
              | inr never ↦ elim (never 0 x y) [ inl e ↦ absurd (there (at q e)) | inr e ↦ absurd (some e) ]
            ]
      ]

  -- so the cells in the part and those out of it are apart
  apart_of_part : (d : Picture) → Contains ds d → AreApart (inside f (cell d)) (outside f (cell d))
  apart_of_part d has x y =
      elim (empty_or_not (cell d) x y) [
        | inl none ↦ inl (around-within (inside f (cell d)) (cell d) x y (inside_part d has) none)
        | inr some ↦
            let at = none_outside d has x y some in
            let nw = at _ _ (λ q e. ap (λ l. get_or l 0 0) e) in
            let n = at _ _ (λ q e. ap (λ l. get_or l 1 0) e) in
            let ne = at _ _ (λ q e. ap (λ l. get_or l 2 0) e) in
            let w = at _ _ (λ q e. ap (λ l. get_or l 3 0) e) in
            let here = at _ _ (λ q e. ap (λ l. get_or l 4 0) e) in
            let e' = at _ _ (λ q e. ap (λ l. get_or l 5 0) e) in
            let sw = at _ _ (λ q e. ap (λ l. get_or l 6 0) e) in
            let s = at _ _ (λ q e. ap (λ l. get_or l 7 0) e) in
            let se = at _ _ (λ q e. ap (λ l. get_or l 8 0) e) in
            inr (cc)
      ]

  -- linked cells lie in one part
  linked_within : IsLinked f → (d : Picture) × Contains ds d × Within f (cell d)
  linked_within linked =
      let (x, y, live) = linked.live in
      let (d, has, here) = part_there next quiet cells ds division 0 x y (λ z. live (within x y live ∙ z)) in (
        d,
        has,
        λ a b alive.
            elim (cases_eq (outside f (cell d) a b) 0) [
              | inl none ↦
                  let sum = inside-outside f (cell d) a b in
                  let same : inside f (cell d) a b ≡ f a b = omega (arith, sum, none) in
                  sym same ∙ inside_part d has a b (λ z. alive (sym same ∙ z))
              | inr some ↦ absurd (linked.whole (inside f (cell d)) (outside f (cell d)) (x, y, λ z. live (sym (live-inside f (cell d) x y here) ∙ z)) (a, b, some)
                  (inside-outside f (cell d)) (apart_of_part d has))
            ],
      )

-- so where a plane falls into linked parts, these are finer than every division
pub linked_parts_are_finer : (next : List ℕ → ℕ) → next (replicate 9 0) ≡ 0 → (cells : ℤ → ℤ → ℕ) (parts others : List Picture) → FallsInto cells parts → All (λ p. IsLinked (cell p)) parts
    → IsDivision next cells others → IsFiner parts others
linked_parts_are_finer next quiet cells parts others falls linked division = λ k d low.
    let p = get_or parts k d in
    let within : Within (cell p) cells = λ x y live. sym (falls.whole x y
    ∙ sum_alone (λ q. cell q x y) (λ q r. AreApart (cell q) (cell r)) (λ q r apart. AreApart-turned (cell q) (cell r) apart) parts p falls.apart
    (λ q apart. elim (cases_eq (cell q x y) 0) [ inl z ↦ z | inr too ↦ absurd (one_live (cell p) (cell q) x y apart live too) ]) (Contains-get_or parts k d low)) in
    let (q, (i, below, is), lies) = linked_within next quiet cells (cell p) within others division (linked k d low) in
    (i, q, below, is, lies)
