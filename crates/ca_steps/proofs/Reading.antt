-- The order in which a plane is read, and the first of the places with a property.
use Rattle.std.proofs.Common.{◌≡◌, ◌≢◌, refl, sym, subst, inl, inr, ◌⊎◌, arith, Option, Some, None, cond, Ordering, Less, Equal, Greater}
use Rattle.std.specs.Prelude.{ℤ, ◌+ℤ◌, ◌-ℤ◌, ◌<ℤ◌, ◌≤ℤ◌}
use Rattle.std.specs.Ordering.{is_lt, ord_min}
use Rattle.std.proofs.lemmas.Int.{ints}
use Rattle.ca_plane.specs.declared.point.Point.{Point}
use Rattle.ca_plane.specs.Prelude.{point_cmp}
use Rattle.ca_steps.specs.inner.Order.{IsBefore, IsFirstOrNone, IsFirstPlace, IsUpTo, IsEarlier}

-- of two numbers one is less, or they are the same
three_ways : (a b : ℤ) → (a <ℤ b) ⊎ ((a ≡ b) ⊎ (b <ℤ a))
three_ways a b = grind (arith, ints)

-- of two places one is read before the other, or they are the same
pub compared : (u v x y : ℤ) → IsBefore u v x y ⊎ (((u ≡ x) × (v ≡ y)) ⊎ IsBefore x y u v)
compared u v x y =
    elim (three_ways v y) [
      | inl above ↦ inl (inl above)
      | inr e ↦ elim e [
        | inl level ↦ elim (three_ways u x) [
          | inl west ↦ inl (inr (level, west))
          | inr f ↦ elim f [
            | inl same ↦ inr (inl (same, level))
            | inr east ↦ inr (inr (inr (sym level, east)))
          ]
        ]
        | inr below ↦ inr (inr (inl below))
      ]
    ]

-- not both of two places are read first
pub not_both : (x y u v : ℤ) → IsBefore x y u v → (((x ≡ u) × (y ≡ v)) ⊎ IsBefore u v x y) → ⊥
not_both x y u v later o = omega (arith, ints)

-- and neither where they are the same
pub not_itself : (u v x y : ℤ) → IsBefore u v x y → v ≡ y → u ≡ x → ⊥
not_itself u v x y before e f = omega (arith, ints)

-- a place keeps its order where both are moved by as many rows, and the first by no more columns
pub before-moved : (a b x y c d z w : ℤ) → IsBefore a b x y → (c -ℤ a) ≤ℤ (z -ℤ x) → (d -ℤ b) ≡ (w -ℤ y) → IsBefore c d z w
before-moved a b x y c d z w before across down = elim before [ inl higher ↦ inl (omega (arith, ints)) | inr along ↦ inr (omega (arith, ints), omega (arith, ints)) ]

-- the order of points says the same
pub before_from_Less : (p q : Point) → point_cmp p q ≡ Less → IsBefore p.x p.y q.x q.y
before_from_Less p q less = grind (arith, ints)

pub Less_from_before : (p q : Point) → IsBefore p.x p.y q.x q.y → point_cmp p q ≡ Less
Less_from_before p q before = grind (arith, ints)

cases_cond-is_lt : (o : Ordering) (p q r : Point) → r ≡ cond (is_lt o) q p → ((o ≡ Less) × (r ≡ q)) ⊎ ((o ≢ Less) × (r ≡ p))
cases_cond-is_lt Less p q r e = inl (refl, e)
cases_cond-is_lt Equal p q r e = inr (λ (less : Equal ≡ Less). let no : ⊥ = cc in no, e)
cases_cond-is_lt Greater p q r e = inr (λ (less : Greater ≡ Less). let no : ⊥ = cc in no, e)

-- the lesser of two points is the earlier
pub IsEarlier-min : (p q r : Point) → r ≡ ord_min point_cmp p q → IsEarlier (Some p) (Some q) (Some r)
IsEarlier-min p q r min =
    elim (cases_cond-is_lt (point_cmp q p) p q r min) [
      | inl less ↦ rw less.1 (record { which = inr refl; left = λ before. not_both q.x q.y p.x p.y (before_from_Less q p less.0) (inr before); right = λ before. not_itself q.x q.y q.x q.y before refl refl })
      | inr later ↦ rw later.1 (record { which = inl refl; left = λ before. not_itself p.x p.y p.x p.y before refl refl; right = λ before. later.0 (Less_from_before q p before) })
    ]

pub before-trans : (a b c d e f : ℤ) → IsBefore a b c d → IsBefore c d e f → IsBefore a b e f
before-trans a b c d e f one two = grind (arith, ints)

-- no place with P, and none with Q, is read before one that isn't read after the first of them
not_before-up_to : (P : ℤ → ℤ → Type 0) (a : Option Point) (at : Point) → IsFirstOrNone P a → IsUpTo (Some at) a → (x y : ℤ) → P x y → IsBefore x y at.x at.y → ⊥
not_before-up_to P None at first up_to x y holds before = first x y holds
not_before-up_to P (Some q) at first up_to x y holds before =
    elim (compared x y q.x q.y) [
      | inl sooner ↦ first.first x y holds sooner
      | inr o ↦ elim o [
        | inl same ↦ up_to (subst (λ v. IsBefore q.x v at.x at.y) same.1 (subst (λ u. IsBefore u y at.x at.y) same.0 before))
        | inr later ↦ up_to (before-trans q.x q.y x y at.x at.y later before)
      ]
    ]

-- where no point is the first, there is none
none_left : (P : ℤ → ℤ → Type 0) (a : Option Point) → IsFirstOrNone P a → IsUpTo None a → (x y : ℤ) → P x y → ⊥
none_left P None first up_to = first
none_left P (Some q) first up_to = absurd up_to

-- the first place at which P or Q holds is the earlier of the first place for P and that for Q
pub IsFirstOrNone-either : (P Q : ℤ → ℤ → Type 0) (a b r : Option Point) → IsFirstOrNone P a → IsFirstOrNone Q b → IsEarlier a b r → IsFirstOrNone (λ x y. P x y ⊎ Q x y) r
IsFirstOrNone-either P Q a b None one two earlier = λ x y either.
    elim either [ inl p ↦ none_left P a one earlier.left x y p | inr q ↦ none_left Q b two earlier.right x y q ]
IsFirstOrNone-either P Q a b (Some at) one two earlier = record {
  here = elim earlier.which [
    | inl e ↦ inl ((let first : IsFirstOrNone P (Some at) = subst (IsFirstOrNone P) (sym e) one in first).here)
    | inr e ↦ inr ((let first : IsFirstOrNone Q (Some at) = subst (IsFirstOrNone Q) (sym e) two in first).here)
  ];
  first = λ x y either before.
      elim either [ inl p ↦ not_before-up_to P a at one earlier.left x y p before | inr q ↦ not_before-up_to Q b at two earlier.right x y q before ];
}

-- the same of what is said in other words
pub IsFirstOrNone-same : (P Q : ℤ → ℤ → Type 0) (r : Option Point) → ((x y : ℤ) → P x y → Q x y) → ((x y : ℤ) → Q x y → P x y) → IsFirstOrNone P r → IsFirstOrNone Q r
IsFirstOrNone-same P Q None there back first = λ x y q. first x y (back x y q)
IsFirstOrNone-same P Q (Some at) there back first = record {
  here = there at.x at.y first.here;
  first = λ x y q before. first.first x y (back x y q) before;
}

-- the first place from which a place with P lies dx to the east and dy further down
pub IsFirstPlace-moved : (P : ℤ → ℤ → Type 0) (at q : Point) (dx dy : ℤ) → IsFirstPlace P at → at.x ≡ q.x +ℤ dx → at.y ≡ q.y +ℤ dy → IsFirstPlace (λ x y. P (x +ℤ dx) (y +ℤ dy)) q
IsFirstPlace-moved P at q dx dy first across down = record {
  here = subst (λ v. P (q.x +ℤ dx) v) down (subst (λ u. P u at.y) across first.here);
  first = λ x y holds before. first.first (x +ℤ dx) (y +ℤ dy) holds (before-moved x y q.x q.y (x +ℤ dx) (y +ℤ dy) at.x at.y before (omega (arith, ints)) (omega (arith, ints)));
}
