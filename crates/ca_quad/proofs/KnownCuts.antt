-- Squares that are known to be cut out of four.
use Rattle.std.proofs.Common.{◌≡◌, ◌≢◌, ℕ, zero, suc, ◌+◌, ◌-◌, ◌*◌, ◌<◌, ◌≤◌, ◌⊎◌, ◌^◌, ◌%◌, true, cond, inl, inr, None, Some, Option, List, [], ◌∷◌, length, slice_index, refl, sym, ap, subst, ◌∙◌, arith}
use Rattle.std.proofs.lemmas.Bool.{cases_Bool}
use Rattle.std.proofs.lemmas.Bool.Decides.{nat_tests}
use Rattle.ca_quad.specs.declared.{neighbours.Neighbours.Neighbours, node.Node.Node, square.Square.Square, store.cut.Offset.Offset}
use Rattle.ca_quad.specs.declared.square.Square.TheVariants.{Four, Parts}
use Rattle.ca_quad.specs.contracts.neighbours.NeighboursPartialEq.TheImpl.{eq-value}
use Rattle.ca_quad.specs.Prelude.{place_id, square_of, level, level_of, IsOf, IsSoundStore, Grows, IsIn, IsClosedUnderParts}
use Rattle.ca_quad.specs.Trees.{parts}
use Rattle.ca_quad.specs.inner.Cut.{AreNeighbours, cells_of_four, AreCuts, cut_value, KeepCuts, IsCutInParts, half_of, neighbours_at, overlapping_fours, sixteen_parts, parts_of_four, IsOneOf, IsCutPart}
use Rattle.ca_quad.specs.inner.Whole.{IsWhole}
use Rattle.ca_quad.proofs.Cuts.{neighbours_same, same_four}
use Rattle.ca_quad.proofs.FilledSquares.{grows_three, grows_four, grows_five}
use Rattle.ca_quad.proofs.Growth.{square_stays, grows_on}
use Rattle.ca_quad.proofs.KnownSquares.{closed_with}
use Rattle.ca_quad.proofs.Views.{square_whole}

-- four squares are themselves
are_themselves : (four : Neighbours) → (eq-value).it four four ≡ true
are_themselves four = grind (arith, nat_tests)

-- with one put, the one of its four is known, and the others still are
module _ (old new : List (Neighbours × ℕ)) (four : Neighbours) (id : ℕ) (put : (other : Neighbours) → cut_value new other ≡ cond ((eq-value).it four other) (Some id) (cut_value old other)) where
  at_cut : (other : Neighbours) → (eq-value).it four other ≡ true → cut_value new other ≡ None → ⊥
  at_cut other e none =
      let f : cond ((eq-value).it four other) (Some id) (cut_value old other) ≡ Some id = rw e refl in
      let g : Some id ≡ None = sym f ∙ (sym (put other) ∙ none) in
      cc

  pub cut_known : cut_value new four ≢ None
  cut_known = at_cut four (are_themselves four)

  pub cut_keeps : KeepCuts old new
  cut_keeps other some none =
      elim (cases_Bool ((eq-value).it four other)) [
        | inl e ↦ at_cut other e none
        | inr e ↦
            let f : cond ((eq-value).it four other) (Some id) (cut_value old other) ≡ cut_value old other = rw e refl in
            some (sym f ∙ (sym (put other) ∙ none))
      ]

  pub cut_adds : (other : Neighbours) → cut_value new other ≢ None → (four ≡ other) ⊎ (cut_value old other ≢ None)
  cut_adds other some =
      elim (cases_Bool ((eq-value).it four other)) [
        | inl e ↦ inl (neighbours_same four other e)
        | inr e ↦
            let f : cond ((eq-value).it four other) (Some id) (cut_value old other) ≡ cut_value old other = rw e refl in
            inr (λ none. some (put other ∙ (f ∙ none)))
      ]

-- what is cut out in parts
module _ (nodes : List Node) (offset place : Offset) (four : Neighbours) (level : ℕ) (is_level : level ≡ level_of nodes four.nw)
    (at_x : place.x ≡ offset.x % 2 ^ level) (at_y : place.y ≡ offset.y % 2 ^ level) (parts : IsCutInParts nodes offset four) where
  same_level : parts.level ≡ level
  same_level = sym parts.four.is_nw.is_level ∙ sym is_level

  -- it isn't the first square
  pub is_apart : place.x ≡ 0 → place.y ≡ 0 → ⊥
  is_apart e f = elim (parts.apart) [
    | inl x ↦ x (ap (λ k. offset.x % 2 ^ k) same_level ∙ (sym at_x ∙ e))
    | inr y ↦ y (ap (λ k. offset.y % 2 ^ k) same_level ∙ (sym at_y ∙ f))
  ]

  -- the squares aren't of four cells each
  pub has_parts : level ≡ 1 → ⊥
  has_parts one = absurd (omega (arith, parts.parted, same_level, one))

  -- and no word has its cells
  pub has_no_word : level ≡ 3 → ((x y : ℕ) → cells_of_four nodes 3 four x y ≤ 1) → ⊥
  has_no_word three low = let some = parts.wordless (same_level ∙ three) in absurd (omega (arith, some.2, low some.0 some.1))

-- numbers below a bound, and one of them, or 0 beyond their end
abbrev AreBelow : ℕ → List ℕ → Type 0
AreBelow most [] = Unit {0}
AreBelow most (id ∷ ids) = (id < most) × AreBelow most ids

index_below : (most : ℕ) → 0 < most → (ids : List ℕ) → AreBelow most ids → (n : ℕ) → slice_index ids n < most
index_below most some [] are n = some
index_below most some (id ∷ ids) are zero = are.0
index_below most some (id ∷ ids) are (suc n) = index_below most some ids are.1 n

shown_below : (nodes : List Node) (s : Square) → IsWhole nodes (length nodes) s → AreBelow (place_id (length nodes)) (parts s)
shown_below nodes (Four nw ne sw se) whole = tt
shown_below nodes (Parts k nw ne sw se) whole = (whole.is_nw.before, (whole.is_ne.before, (whole.is_sw.before, (whole.is_se.before, tt))))

-- four squares of the store
record AreIn (nodes : List Node) (four : Neighbours) : Type 0 where
  pub nw : IsIn nodes four.nw
  pub ne : IsIn nodes four.ne
  pub sw : IsIn nodes four.sw
  pub se : IsIn nodes four.se

-- the parts of squares of the store are among them
module _ (nodes : List Node) (sound : IsSoundStore nodes) where
  part_in : (id : ℕ) → IsIn nodes id → (n : ℕ) → IsIn nodes (slice_index (parts (square_of nodes id)) n)
  part_in id known n = index_below (place_id (length nodes)) (omega arith) (parts (square_of nodes id)) (shown_below nodes (square_of nodes id) (square_whole nodes sound id known)) n

  module _ (four : Neighbours) (k : ℕ) (are : AreNeighbours nodes k four) where
    sixteen_in : (n : ℕ) → IsIn nodes (slice_index (sixteen_parts nodes four) n)
    sixteen_in =
        let nw = part_in four.nw are.is_nw.before in
        let ne = part_in four.ne are.is_ne.before in
        let sw = part_in four.sw are.is_sw.before in
        let se = part_in four.se are.is_se.before in
        index_below (place_id (length nodes)) (omega arith) (sixteen_parts nodes four)
        (nw 0, (nw 1, (ne 0, (ne 1, (nw 2, (nw 3, (ne 2, (ne 3, (sw 0, (sw 1, (se 0, (se 1, (sw 2, (sw 3, (se 2, (se 3, tt))))))))))))))))

    at_in : (n : ℕ) → AreIn nodes (neighbours_at (sixteen_parts nodes four) n)
    at_in n = record { nw = sixteen_in n; ne = sixteen_in (n + 1); sw = sixteen_in (n + 4); se = sixteen_in (n + 5) }

    one_in : (offset : Offset) (part : Neighbours) → IsOneOf (parts_of_four nodes offset four) part → AreIn nodes part
    one_in offset part is =
        let side = 2 ^ level_of nodes four.nw in
        let half = 2 ^ (level_of nodes four.nw - 1) in
        let first = 4 * half_of (offset.y % side) half + half_of (offset.x % side) half in
        let at : (n : ℕ) → part ≡ neighbours_at (sixteen_parts nodes four) n → AreIn nodes part = λ n e. subst (AreIn nodes) (sym e) (at_in n) in
        elim is [
          | inl p ↦ at first p
          | inr q ↦ elim q [ inl p ↦ at (first + 1) p | inr r ↦ elim r [ inl p ↦ at (first + 4) p | inr p ↦ at (first + 5) p ] ]
        ]

-- what is there stays there
later_in : (old new : List Node) → Grows old new → (four : Neighbours) → AreIn old four → AreIn new four
later_in old new grows four known = record {
  nw = omega (arith, known.nw, grows.longer);
  ne = omega (arith, known.ne, grows.longer);
  sw = omega (arith, known.sw, grows.longer);
  se = omega (arith, known.se, grows.longer);
}

some_value : {V : Type 0} (o : Option V) → o ≢ None → (value : V) × (o ≡ Some value)
some_value None some = absurd (some refl)
some_value (Some value) some = (value, refl)

-- when squares are added, the parts of old ones stay the same
module _ (old new : List Node) (sound : IsSoundStore old) (grows : Grows old new) (offset : Offset) where
  same_square : (id : ℕ) → IsIn old id → square_of new id ≡ square_of old id
  same_square = square_stays (length old) old new grows.kept

  is_back : (id k : ℕ) → IsIn old id → IsOf new id k → IsOf old id k
  is_back id k known is = record { before = known; is_level = ap level (sym (same_square id known)) ∙ is.is_level }

  in_parts_back : (part : Neighbours) → AreIn old part → IsCutInParts new offset part → IsCutInParts old offset part
  in_parts_back part known is =
      let four : AreNeighbours old is.level part = record {
        is_low = is.four.is_low;
        is_nw = is_back part.nw is.level known.nw is.four.is_nw;
        is_ne = is_back part.ne is.level known.ne is.four.is_ne;
        is_sw = is_back part.sw is.level known.sw is.four.is_sw;
        is_se = is_back part.se is.level known.se is.four.is_se;
      }
      in
      record {
        level = is.level;
        four = four;
        parted = is.parted;
        apart = is.apart;
        wordless = λ three.
            let same : cells_of_four new 3 part ≡ cells_of_four old 3 part = same_four old new sound grows offset part part.nw 3 (subst (λ k. AreNeighbours old k part) three four) in
            subst (λ (cells : ℕ → ℕ → ℕ). (x : ℕ) × (y : ℕ) × (2 ≤ cells x y)) same (is.wordless three);
      }

  parts_stay : (four : Neighbours) (k : ℕ) → AreNeighbours old k four → parts_of_four new offset four ≡ parts_of_four old offset four
  parts_stay four k are =
      rw (same_square four.nw are.is_nw.before, same_square four.ne are.is_ne.before, same_square four.sw are.is_sw.before, same_square four.se are.is_se.before) refl

  pub cut_part_back : (four : Neighbours) (k : ℕ) → AreNeighbours old k four → (part : Neighbours) → IsCutPart new offset four part → IsCutPart old offset four part
  cut_part_back four k are part is =
      let one : IsOneOf (parts_of_four old offset four) part = subst (λ fours. IsOneOf fours part) (parts_stay four k are) is.0 in
      (one, in_parts_back part (one_in old sound four k are offset part one) is.1)

  -- and what is known stays closed under parts
  pub closed_stays : (values : List (Neighbours × ℕ)) → AreCuts old offset values → IsClosedUnderParts (IsCutPart old offset) (cut_value values) → IsClosedUnderParts (IsCutPart new offset) (cut_value values)
  closed_stays values are closed whole part some is =
      let found = some_value (cut_value values whole) some in
      let cut = are whole found.0 found.1 in
      closed whole part some (cut_part_back whole cut.level cut.four part is)

-- the fours that the walk goes over are those parts
pub fours_are : (nodes : List Node) (offset place : Offset) (four : Neighbours) (level half : ℕ) → level ≡ level_of nodes four.nw → place.x ≡ offset.x % 2 ^ level → place.y ≡ offset.y % 2 ^ level → half ≡ 2 ^ (level - 1)
    → (ids : List ℕ) → ids ≡ sixteen_parts nodes four → (fours : Neighbours × Neighbours × Neighbours × Neighbours)
    → fours ≡ overlapping_fours ids (4 * half_of place.y half + half_of place.x half) → fours ≡ parts_of_four nodes offset four
fours_are nodes offset place four level half is_level at_x at_y is_half ids are fours is = is ∙ rw (are, at_x, at_y, is_half, is_level) refl

-- a walk over the parts of four squares, and then what is cut out of them is put
module _ (s0 s1 s2 s3 s4 new : List Node) (sound : IsSoundStore s0) (g1 : Grows s0 s1) (g2 : Grows s1 s2) (g3 : Grows s2 s3) (g4 : Grows s3 s4) (g5 : Grows s4 new)
    (offset : Offset) (four : Neighbours) (squares : (k : ℕ) × AreNeighbours s0 k four) (fours : Neighbours × Neighbours × Neighbours × Neighbours) (is : fours ≡ parts_of_four s0 offset four)
    (v1 v2 v3 v4 : List (Neighbours × ℕ)) (a : IsCutInParts s0 offset fours.0 → cut_value v1 fours.0 ≢ None) (b : IsCutInParts s1 offset fours.1 → cut_value v2 fours.1 ≢ None)
    (c : IsCutInParts s2 offset fours.2 → cut_value v3 fours.2 ≢ None) (d : IsCutInParts s3 offset fours.3 → cut_value v4 fours.3 ≢ None)
    (h2 : KeepCuts v1 v2) (h3 : KeepCuts v2 v3) (h4 : KeepCuts v3 v4) where
  parts_known : (part : Neighbours) → IsCutPart new offset four part → cut_value v4 part ≢ None
  parts_known part cut =
      let all = grows_five s0 s1 s2 s3 g1 g2 g3 s4 new g4 g5 in
      let first = cut_part_back s0 new sound all offset four squares.0 squares.1 part cut in
      let known = one_in s0 sound four squares.0 squares.1 offset part first.0 in
      let one : IsOneOf fours part = subst (λ fours. IsOneOf fours part) (sym is) first.0 in
      let meant : (s : List Node) → IsSoundStore s → Grows s0 s → Grows s new → IsCutInParts s offset part =
      λ s sound before after. in_parts_back s new sound after offset part (later_in s0 s before part known) cut.1
      in
      let at : (s : List Node) (other : Neighbours) → part ≡ other → IsCutInParts s offset part → (IsCutInParts s offset other → cut_value v4 other ≢ None) → cut_value v4 part ≢ None =
      λ s other p parts so. subst (λ (n : Neighbours). cut_value v4 n ≢ None) (sym p) (so (subst (IsCutInParts s offset) p parts))
      in
      let to_2 = grows_on s0 s1 s2 g1 g2 in
      let to_3 = grows_three s0 s1 s2 s3 g1 g2 g3 in
      elim one [
        | inl p ↦ at s0 fours.0 p first.1 (λ parts. h4 fours.0 (h3 fours.0 (h2 fours.0 (a parts))))
        | inr q ↦ elim q [
          | inl p ↦ at s1 fours.1 p (meant s1 g1.sound g1 (grows_four s1 s2 s3 s4 g2 g3 g4 new g5)) (λ parts. h4 fours.1 (h3 fours.1 (b parts)))
          | inr r ↦ elim r [
            | inl p ↦ at s2 fours.2 p (meant s2 g2.sound to_2 (grows_three s2 s3 s4 new g3 g4 g5)) (λ parts. h4 fours.2 (c parts))
            | inr p ↦ at s3 fours.3 p (meant s3 g3.sound to_3 (grows_on s3 s4 new g4 g5)) d
          ]
        ]
      ]

  pub cuts_closed : AreCuts s4 offset v4 → (values : List (Neighbours × ℕ)) (id : ℕ) → ((other : Neighbours) → cut_value values other ≡ cond ((eq-value).it four other) (Some id) (cut_value v4 other))
      → IsClosedUnderParts (IsCutPart s4 offset) (cut_value v4) → IsClosedUnderParts (IsCutPart new offset) (cut_value values)
  cuts_closed are values id put closed =
      closed_with (IsCutPart new offset) (cut_value v4) (cut_value values) four (cut_keeps v4 values four id put) (cut_adds v4 values four id put) parts_known
      (closed_stays s4 new g4.sound g5 offset v4 are closed)
