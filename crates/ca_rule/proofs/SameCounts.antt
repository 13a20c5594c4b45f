-- Sets of counts are compared place by place.
use Rattle.std.proofs.Common.{◌≡◌, ◌==◌, ℕ, Bool, true, length, ap, sym, ◌∙◌}
use Rattle.std.specs.List.{list_any}
use Rattle.std.specs.Bool.{Decides}
use Rattle.std.specs.Cmp.{booleans_Decides}
use Rattle.std.specs.Cmp.Lexicographic.{pointwise}
use Rattle.std.proofs.Math.Bool.{beq}
use Rattle.std.proofs.lemmas.Slice.Eq.{slice_eq-Decides}
use Rattle.std.proofs.lemmas.Bool.Decides.{Decides-like}
use Rattle.ca_rule.specs.Prelude.{is_count}
use Rattle.ca_rule.specs.declared.counts.Counts.{Counts}
use Rattle.ca_rule.proofs.PrintedRules.{numbers, nine_cells, map_same}

-- two sets of counts are one where they hold the same at each place
pub same_counts : (a b : Counts) (r : Bool) → r ≡ pointwise beq a.holds b.holds → Decides r (a ≡ b)
same_counts a b r e =
    Decides-like {P = a.holds ≡ b.holds} r (λ s i. record { holds = s i }) (ap (λ c. c.holds)) (slice_eq-Decides booleans_Decides a.holds b.holds r e)

-- and where the same numbers from 0 to 8 are counts in both
pub alike_counts : (a b : Counts) → length a.holds ≡ 9 → length b.holds ≡ 9 → ((n : ℕ) → list_any (λ m. m == n) numbers ≡ true → is_count a n ≡ is_count b n) → a ≡ b
alike_counts a b la lb alike =
    ap (λ l. record { holds = l }) (sym (nine_cells a.holds la) ∙ map_same (is_count a) (is_count b) numbers alike ∙ nine_cells b.holds lb)
