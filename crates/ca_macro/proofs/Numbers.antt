-- Five numbers, of each of which something is kept.
use Rattle.std.proofs.Common.{◌≡◌, ◌≢◌, ℕ, ◌≤◌, inr, sym, List, [], ◌∷◌, map, length, slice_index_or, refl, ap₂, subst, arith, ◌∙◌, ap}
use Rattle.std.specs.List.{AllZip, AllByRecursion}
use Rattle.ca_plane.specs.Prelude.{nearest_u64, value}
use Rattle.ca_macro.specs.declared.line.numbers.Numbers.{Numbers}
use Rattle.ca_macro.specs.Prelude.{IsNumber, AreNumbers, AreMisspelledNodeWords}
use Rattle.ca_macro.specs.inner.Numbers.{KeepsNumberOf, AreKept}

numbers_kept : (words : List (List ℕ)) (kept : List ℕ) → AllZip KeepsNumberOf words kept → AllZip IsNumber words (map value words) × (kept ≡ map nearest_u64 (map value words)) × (length (map value words) ≡ length kept)
numbers_kept [] [] h = (tt, refl, refl)
numbers_kept [] (k ∷ ks) h = absurd h
numbers_kept (w ∷ ws) [] h = absurd h
numbers_kept (w ∷ ws) (k ∷ ks) h =
    let later = numbers_kept ws ks h.1 in
    let count = later.2 in
    (((h.0.0, refl), later.0), ap₂ (λ x xs. x ∷ xs) h.0.1 later.1, omega arith)

-- a list of five is five items
five_items : (ns : List ℕ) → length ns ≡ 5 → (a : ℕ) × (b : ℕ) × (c : ℕ) × (d : ℕ) × (e : ℕ) × (ns ≡ a ∷ b ∷ c ∷ d ∷ e ∷ [])
five_items [] h = absurd (omega arith)
five_items (a ∷ []) h = absurd (omega arith)
five_items (a ∷ b ∷ []) h = absurd (omega arith)
five_items (a ∷ b ∷ c ∷ []) h = absurd (omega arith)
five_items (a ∷ b ∷ c ∷ d ∷ []) h = absurd (omega arith)
five_items (a ∷ b ∷ c ∷ d ∷ e ∷ []) h = (a, b, c, d, e, refl)
five_items (a ∷ b ∷ c ∷ d ∷ e ∷ f ∷ ns) h = absurd (omega arith)

-- five words of which these are kept are a node's five numbers
pub five_kept : (words : List (List ℕ)) (kept : List ℕ) → length kept ≡ 5 → AllZip KeepsNumberOf words kept
    → AreKept words (record { level = slice_index_or kept 0 0; nw = slice_index_or kept 1 0; ne = slice_index_or kept 2 0; sw = slice_index_or kept 3 0; se = slice_index_or kept 4 0 })
five_kept words kept n h =
    let all = numbers_kept words kept h in
    let count = all.2 in
    let five = five_items (map value words) (omega arith) in
    let same = all.1 ∙ ap (map nearest_u64) five.5 in
    let at : (i : ℕ) → slice_index_or kept i 0 ≡ slice_index_or (map nearest_u64 (five.0 ∷ five.1 ∷ five.2 ∷ five.3 ∷ five.4 ∷ [])) i 0 = λ i. ap (λ ks. slice_index_or ks i 0) same in
    (five.0, five.1, five.2, five.3, five.4, subst (AllZip IsNumber words) five.5 all.0, at 0, at 1, at 2, at 3, at 4)

-- a number that isn't large is kept as it is
kept_small : (n : ℕ) → n ≤ 255 → nearest_u64 n ≤ 255
kept_small n h = omega arith

kept_one : (n : ℕ) → nearest_u64 n ≤ 1 → nearest_u64 n ≢ 0 → 1 ≡ n
kept_one n h z = omega arith

-- numbers of level 1, of which a state is too large
pub large_state : (words : List (List ℕ)) (kept : Numbers) → AreKept words kept → kept.level ≢ 0 → kept.level ≤ 1
    → (AllByRecursion (λ s. s ≤ 255) (kept.nw ∷ kept.ne ∷ kept.sw ∷ kept.se ∷ []) → ⊥) → AreMisspelledNodeWords words
large_state words kept (level, nw, ne, sw, se, are, l, a, b, c, d) some low large =
    let one : 1 ≡ level = kept_one level (subst (λ n. n ≤ 1) l low) (λ z. some (l ∙ z)) in
    inr (inr (inr (
      nw,
      ne,
      sw,
      se,
      subst (λ n. AreNumbers words n nw ne sw se) (sym one) are,
      λ h. large (
        subst (λ n. n ≤ 255) (sym a) (kept_small nw h.0),
        (
          subst (λ n. n ≤ 255) (sym b) (kept_small ne h.1.0),
          (
            subst (λ n. n ≤ 255) (sym c) (kept_small sw h.1.1.0),
            (subst (λ n. n ≤ 255) (sym d) (kept_small se h.1.1.1.0), tt),
          ),
        ),
      ),
    )))
