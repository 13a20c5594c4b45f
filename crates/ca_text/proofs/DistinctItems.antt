-- Keys of which no two have equal bytes.
use Rattle.std.proofs.Common.{◌≡◌, ℕ, false, List, [], ◌∷◌, map}
use Rattle.std.specs.List.{AllByRecursion, IsDistinct}
use Rattle.std.specs.Str.{bytes_eq}

module _ {K : Type 0} (items : K → List ℕ) where
  unlike_items : (k : K) (keys : List K) → AllByRecursion (λ j. bytes_eq (items k) (items j) ≡ false) keys → AllByRecursion (λ p. bytes_eq (items k) p ≡ false) (map items keys)
  unlike_items k [] h = tt
  unlike_items k (j ∷ js) h = (h.0, unlike_items k js h.1)

  -- keys of which no two are equal have items of which no two are
  pub distinct_items : (keys : List K) → IsDistinct (λ j k. bytes_eq (items j) (items k)) keys → IsDistinct bytes_eq (map items keys)
  unfolding IsDistinct
  distinct_items [] h = tt
  distinct_items (k ∷ ks) h = (unlike_items k ks h.0, distinct_items ks h.1)
