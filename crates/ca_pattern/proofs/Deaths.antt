-- An empty plane stays empty, so a plane that is live after some generations was live after fewer.
use Rattle.std.proofs.Common.{◌≡◌, ℕ, zero, suc, ◌≤◌, List, [], inl, inr, ap, subst, ◌∙◌, arith}
use Rattle.std.specs.Prelude.{replicate}
use Rattle.std.proofs.lemmas.Bool.{cases_eq}
use Rattle.ca_plane.specs.Prelude.{Picture, after, IsAfter, IsLiveAfter}
use Rattle.ca_plane.proofs.Numbers.{below_or_not}
use Rattle.ca_plane.proofs.After.{around-same}
use Rattle.ca_pattern.proofs.Searches.{search_within}

module _ (next : List ℕ → ℕ) (p : Picture) (quiet : next (replicate 9 0) ≡ 0) where
  -- a plane that is live after n + 1 generations was live after n
  live_before : (n : ℕ) → IsLiveAfter next p (suc n) → IsLiveAfter next p n
  live_before n (x, y, live) =
      elim (search_within (after next p n) (λ _ _. 0) 1 x y) [
        | inr found ↦ found
        | inl none ↦ absurd (live (ap next (around-same (after next p n) (λ _ _. 0) x y none) ∙ quiet))
      ]

  -- and after any fewer
  pub live_at_all : (k n : ℕ) → k ≤ n → IsLiveAfter next p n → IsLiveAfter next p k
  live_at_all k zero le live = let none : 0 ≡ k = omega (arith, le) in subst (IsLiveAfter next p) none live
  live_at_all k (suc n) le live =
      elim (below_or_not k (suc n)) [
        | inl less ↦ live_at_all k n (omega (arith, less)) (live_before n live)
        | inr from ↦ let same : suc n ≡ k = omega (arith, le, from) in subst (IsLiveAfter next p) same live
      ]

  -- so an empty plane stays empty
  pub empty_later : (m n : ℕ) → m ≤ n → IsAfter next p m [] → IsAfter next p n []
  empty_later m n le empty x y =
      elim (cases_eq (after next p n x y) 0) [
        | inl none ↦ none
        | inr live ↦
            let earlier = live_at_all m n le (x, y, live) in
            absurd (earlier.2 (empty earlier.0 earlier.1))
      ]
