-- A division's parts after n generations are a division of the plane then.
use Rattle.std.proofs.Common.{◌≡◌, ℕ, ◌+◌, ◌-◌, ◌≤◌, List, [], ◌∷◌, map, inl, inr, refl, sym, ap, ap₂, ◌∙◌, arith}
use Rattle.std.specs.Prelude.{ℤ, ◌+ℤ◌, replicate}
use Rattle.std.specs.List.{AllZip, sum_by}
use Rattle.std.proofs.lemmas.List.Sums.{sum_by-cons}
use Rattle.ca_plane.specs.Prelude.{Picture, cell, after, IsAfter, IsLive, cells_after}
use Rattle.ca_plane.proofs.After.{after_same, after_again, after_none}
use Rattle.ca_parts.specs.Prelude.{NeverMeet, together, ComesBack, IsDivision, IsSettled}
use Rattle.ca_parts.proofs.Lists.{AllZip-map, All-zip, AllPairs-zip}
use Rattle.ca_parts.proofs.ApartPlanes.{AreApart-same}
use Rattle.ca_parts.proofs.Sums.{after_together, apart_before}
use Rattle.ca_parts.proofs.LaterPictures.{picture_after, IsAfter-picture_after, live_or_not}
use Rattle.ca_parts.proofs.Returning.{IsBackBy, IsBackBy-from_shifted, shifted-from_IsBackBy, after_return, back_late}

-- nothing comes of a plane where nothing is live
pub nothing_comes : (next : List ℕ → ℕ) → next (replicate 9 0) ≡ 0 → (f : ℤ → ℤ → ℕ) → ((x y : ℤ) → f x y ≡ 0) → (n : ℕ) (x y : ℤ) → cells_after next f n x y ≡ 0
nothing_comes next quiet f dead n x y = after_same next f (λ _ _. 0) n dead x y ∙ after_none next quiet n x y

-- the picture that another one is after n generations goes on as that one does
pub after_stands : (next : List ℕ → ℕ) (p q : Picture) (n : ℕ) → IsAfter next p n q → (m : ℕ) (x y : ℤ) → after next q m x y ≡ after next p (n + m) x y
after_stands next p q n stands m x y = after_same next (cell q) (after next p n) m (λ u v. sym (stands u v)) x y ∙ after_again next (cell p) n m x y

-- a live picture that comes back is live at all times
pub IsLive-later : (next : List ℕ → ℕ) → next (replicate 9 0) ≡ 0 → (p q : Picture) (n : ℕ) → ComesBack next p → IsAfter next p n q → IsLive p → IsLive q
IsLive-later next quiet p q n comes stands live =
    elim (live_or_not q) [
      | inl still ↦ still
      | inr dead ↦
          let (k, u, v, back) = back_late next p comes n in
          let (x, y, here) = live in
          absurd (here (sym (back x y) ∙ sym (after_again next (cell p) n k (x +ℤ u) (y +ℤ v))
          ∙ nothing_comes next quiet (after next p n) (λ a b. stands a b ∙ dead a b) k (x +ℤ u) (y +ℤ v)))
    ]

-- what is back after m generations is so at all times, by the same vector
pub IsBackBy-later : (next : List ℕ → ℕ) (p q : Picture) (n m : ℕ) (u v : ℤ) → IsAfter next p n q → IsBackBy next (cell p) m u v → IsBackBy next (cell q) m u v
IsBackBy-later next p q n m u v stands back x y =
    let turned : n + m ≡ m + n = omega arith in
    after_stands next p q n stands m (x +ℤ u) (y +ℤ v) ∙ ap (λ k. after next p k (x +ℤ u) (y +ℤ v)) turned
    ∙ after_return next (cell p) m u v back n x y ∙ stands x y

-- what comes back comes back at all times
pub ComesBack-later : (next : List ℕ → ℕ) (p q : Picture) (n : ℕ) → IsAfter next p n q → ComesBack next p → ComesBack next q
ComesBack-later next p q n stands (m, some, u, v, there) =
    (m, some, u, v, shifted-from_IsBackBy next q m u v (IsBackBy-later next p q n m u v stands (IsBackBy-from_shifted next p m u v there)))

-- and pictures that never meet don't meet later
pub NeverMeet-later : (next : List ℕ → ℕ) (p p' q q' : Picture) (n : ℕ) → IsAfter next p n q → IsAfter next p' n q' → NeverMeet next p p' → NeverMeet next q q'
NeverMeet-later next p p' q q' n one two never m =
    AreApart-same (after next p (n + m)) (after next p' (n + m)) (after next q m) (after next q' m) (after_stands next p q n one m) (after_stands next p' q' n two m) (never (n + m))

-- later pictures together
pub together-later : (next : List ℕ → ℕ) (n : ℕ) (x y : ℤ) (ps qs : List Picture) → AllZip (λ p q. IsAfter next p n q) ps qs → sum_by (λ p. after next p n x y) ps ≡ together qs x y
together-later next n x y [] [] zip = refl
together-later next n x y [] (q ∷ qs) zip = absurd zip
together-later next n x y (p ∷ ps) [] zip = absurd zip
together-later next n x y (p ∷ ps) (q ∷ qs) zip =
    sum_by-cons (λ r. after next r n x y) p ps ∙ ap₂ (λ a b. a + b) (zip.0 x y) (together-later next n x y ps qs zip.1)
    ∙ sym (sum_by-cons (λ r. cell r x y) q qs)

-- the cells of a division's parts after n generations, together
pub after_division : (next : List ℕ → ℕ) → next (replicate 9 0) ≡ 0 → (cells : ℤ → ℤ → ℕ) (parts : List Picture) → IsDivision next cells parts
    → (n : ℕ) (x y : ℤ) → cells_after next cells n x y ≡ sum_by (λ p. after next p n x y) parts
after_division next quiet cells parts division n x y =
    after_same next cells (together parts) n division.whole x y ∙ after_together next quiet parts n (apart_before next parts division.apart n) x y

pub IsDivision-later : (next : List ℕ → ℕ) → next (replicate 9 0) ≡ 0 → (cells : ℤ → ℤ → ℕ) (n : ℕ) (parts later : List Picture) → IsDivision next cells parts
    → AllZip (λ p q. IsAfter next p n q) parts later → IsDivision next (cells_after next cells n) later
IsDivision-later next quiet cells n parts later division zip = record {
  live = All-zip (λ p q. IsAfter next p n q) (λ p. ComesBack next p × IsLive p) IsLive (λ p q stands both. IsLive-later next quiet p q n both.0 stands both.1)
      parts later zip (λ k d low. (division.back k d low, division.live k d low));
  back = All-zip (λ p q. IsAfter next p n q) (ComesBack next) (ComesBack next) (λ p q stands comes. ComesBack-later next p q n stands comes) parts later zip division.back;
  apart = AllPairs-zip (λ p q. IsAfter next p n q) (NeverMeet next) (NeverMeet next)
      (λ p p' q q' one two never. NeverMeet-later next p p' q q' n one two never) parts later zip division.apart;
  whole = λ x y. after_division next quiet cells parts division n x y ∙ together-later next n x y parts later zip;
}

-- each picture beside the one that it becomes
pub pictures_after : (next : List ℕ → ℕ) → next (replicate 9 0) ≡ 0 → (parts : List Picture) (n : ℕ) → AllZip (λ p q. IsAfter next p n q) parts (map (λ p. picture_after next p n) parts)
pictures_after next quiet parts n = AllZip-map (λ p q. IsAfter next p n q) (λ p. picture_after next p n) (λ p. IsAfter-picture_after next quiet p n) parts

-- so a settled plane stays settled
pub IsSettled-later : (next : List ℕ → ℕ) → next (replicate 9 0) ≡ 0 → (cells : ℤ → ℤ → ℕ) (n : ℕ) → IsSettled next cells → IsSettled next (cells_after next cells n)
IsSettled-later next quiet cells n (parts, division) =
    let later = map (λ p. picture_after next p n) parts in
    (later, IsDivision-later next quiet cells n parts later division (pictures_after next quiet parts n))

-- a division of a plane is one of the same cells
pub IsDivision-same : (next : List ℕ → ℕ) (f g : ℤ → ℤ → ℕ) (parts : List Picture) → ((x y : ℤ) → g x y ≡ f x y) → IsDivision next f parts → IsDivision next g parts
IsDivision-same next f g parts same division =
    record { live = division.live; back = division.back; apart = division.apart; whole = λ x y. same x y ∙ division.whole x y }

-- a plane that was settled at some time is settled at each later one
pub settled_since : (next : List ℕ → ℕ) → next (replicate 9 0) ≡ 0 → (cells : ℤ → ℤ → ℕ) (m n : ℕ) → m ≤ n → IsSettled next (cells_after next cells m) → IsSettled next (cells_after next cells n)
settled_since next quiet cells m n early settled =
    let (parts, division) = IsSettled-later next quiet (cells_after next cells m) (n - m) settled in
    let sum : n ≡ m + (n - m) = omega (arith, early) in (
      parts,
      IsDivision-same next (cells_after next (cells_after next cells m) (n - m)) (cells_after next cells n) parts
          (λ x y. ap (λ k. cells_after next cells k x y) sum ∙ sym (after_again next cells m (n - m) x y)) division,
    )
