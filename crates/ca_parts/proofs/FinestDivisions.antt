-- Which part of a division has a cell, and what two divisions have in common.
use Rattle.std.proofs.Common.{◌≡◌, ◌≢◌, ℕ, List, get_or, inl, inr, sym, ◌∙◌, subst}
use Rattle.std.specs.Prelude.{ℤ, replicate}
use Rattle.std.specs.List.{All, AllPairs, Any, Contains}
use Rattle.std.proofs.lemmas.Bool.{cases_eq}
use Rattle.std.proofs.lemmas.List.Elements.{All-contains, Contains-get_or}
use Rattle.ca_plane.specs.Prelude.{Picture, cell, after, cells_after, IsSame}
use Rattle.ca_parts.specs.Prelude.{NeverMeet, LiesIn, IsDivision, IsFiner, IsFinest}
use Rattle.ca_parts.proofs.Lists.{same_or_two}
use Rattle.ca_parts.proofs.ApartPlanes.{AreApart-turned, one_live}
use Rattle.ca_parts.proofs.Sums.{one_of_sum, sum_alone}
use Rattle.ca_parts.proofs.LaterDivisions.{after_division, IsDivision-same}

-- the order of pictures that never meet doesn't matter
pub NeverMeet-turned : (next : List ℕ → ℕ) (p q : Picture) → NeverMeet next p q → NeverMeet next q p
NeverMeet-turned next p q never n = AreApart-turned (after next p n) (after next q n) (never n)

-- parts that have the same place at some time are one part
pub one_part : (next : List ℕ → ℕ) (parts : List Picture) (p q : Picture) → AllPairs (NeverMeet next) parts → Contains parts p → Contains parts q
    → (n : ℕ) (x y : ℤ) → after next p n x y ≢ 0 → after next q n x y ≢ 0 → p ≡ q
one_part next parts p q apart hasp hasq n x y a b =
    elim (same_or_two (NeverMeet next) (NeverMeet-turned next) parts p q apart hasp hasq) [
      | inl same ↦ same
      | inr never ↦ absurd (one_live (after next p n) (after next q n) x y (never n) a b)
    ]

-- where a part of a division is live, the plane has its state
pub part_here : (next : List ℕ → ℕ) → next (replicate 9 0) ≡ 0 → (cells : ℤ → ℤ → ℕ) (parts : List Picture) → IsDivision next cells parts → (p : Picture) → Contains parts p
    → (n : ℕ) (x y : ℤ) → after next p n x y ≢ 0 → cells_after next cells n x y ≡ after next p n x y
part_here next quiet cells parts division p has n x y live =
    after_division next quiet cells parts division n x y
    ∙ sum_alone (λ q. after next q n x y) (NeverMeet next) (NeverMeet-turned next) parts p division.apart
    (λ q never. elim (cases_eq (after next q n x y) 0) [ inl e ↦ e | inr too ↦ absurd (one_live (after next p n) (after next q n) x y (never n) live too) ]) has

-- where a plane is live at some time, a part of its division is
pub part_there : (next : List ℕ → ℕ) → next (replicate 9 0) ≡ 0 → (cells : ℤ → ℤ → ℕ) (parts : List Picture) → IsDivision next cells parts
    → (n : ℕ) (x y : ℤ) → cells_after next cells n x y ≢ 0 → (p : Picture) × Contains parts p × (after next p n x y ≢ 0)
part_there next quiet cells parts division n x y live =
    one_of_sum (λ p. after next p n x y) parts (λ z. live (after_division next quiet cells parts division n x y ∙ z))

-- pictures that lie in each other are the same
same_in_both : (p q : Picture) → LiesIn p q → LiesIn q p → IsSame p q
same_in_both p q there back x y =
    elim (cases_eq (cell p x y) 0) [
      | inr live ↦ there x y live
      | inl none ↦ elim (cases_eq (cell q x y) 0) [ inl e ↦ none ∙ sym e | inr live ↦ sym (back x y live) ]
    ]

-- so two finest divisions have the same parts
pub one_finest : (next : List ℕ → ℕ) (cells : ℤ → ℤ → ℕ) (one two : List Picture) → IsFinest next cells one → IsFinest next cells two → All (λ p. Any (IsSame p) two) one
one_finest next cells one two first second = λ k d low.
    let p = get_or one k d in
    let (j, q, in_two, is, there) = first.finest two second.division k d low in
    let (i, r, in_one, are, back) = second.finest one first.division j q in_two in
    let back : LiesIn q r = subst (λ (s : Picture). LiesIn s r) is back in
    let (x, y, live) = first.division.live k d low in
    let liveq : cell q x y ≢ 0 = λ z. live (there x y live ∙ z) in
    let liver : cell r x y ≢ 0 = λ z. liveq (back x y liveq ∙ z) in
    let same : r ≡ p = one_part next one r p first.division.apart (i, in_one, are) (Contains-get_or one k d low) 0 x y liver live in
    (j, q, in_two, is, same_in_both p q there (subst (λ (s : Picture). LiesIn q s) same back))

-- a part of a coarser division is some parts of the finer one together
pub made_of_fine : (next : List ℕ → ℕ) → next (replicate 9 0) ≡ 0 → (cells : ℤ → ℤ → ℕ) (fine coarse : List Picture) → IsDivision next cells fine → IsDivision next cells coarse → IsFiner fine coarse
    → All (λ q. (x y : ℤ) → cell q x y ≢ 0 → Any (λ p. LiesIn p q × (cell p x y ≡ cell q x y)) fine) coarse
made_of_fine next quiet cells fine coarse one two finer = λ k d low x y live.
    let q = get_or coarse k d in
    let hasq = Contains-get_or coarse k d low in
    let plane : cells x y ≢ 0 = λ z. live (sym (part_here next quiet cells coarse two q hasq 0 x y live) ∙ z) in
    let (p, (i, within, is), here) = part_there next quiet cells fine one 0 x y plane in
    let (j, r, in_two, are, lies) = All-contains (λ s. Any (LiesIn s) coarse) fine p finer (i, within, is) in
    let same : r ≡ q = one_part next coarse r q two.apart (j, in_two, are) hasq 0 x y (λ z. here (lies x y here ∙ z)) live in
    let lies_too = subst (λ (s : Picture). LiesIn p s) same lies in
    (i, p, within, is, (lies_too, lies_too x y here))

-- a finest division of a plane is one of the same cells
pub IsFinest-same : (next : List ℕ → ℕ) (f g : ℤ → ℤ → ℕ) (parts : List Picture) → ((x y : ℤ) → g x y ≡ f x y) → IsFinest next f parts → IsFinest next g parts
IsFinest-same next f g parts same finest = record {
  division = IsDivision-same next f g parts same finest.division;
  finest = λ others division. finest.finest others (IsDivision-same next g f others (λ x y. sym (same x y)) division);
}
