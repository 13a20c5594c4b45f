-- Two divisions of the same cells cut each other: what a part of the one and a part of the other share comes back, and stays in both.
use Rattle.std.proofs.Common.{◌≡◌, ◌≢◌, ℕ, zero, suc, ◌<◌, List, [], ◌∷◌, get_or, ◌⊎◌, true, false, nat_eq, inl, inr, refl, sym, ap, ◌∙◌, arith, subst}
use Rattle.std.specs.Prelude.{Bool, cond, ℤ, ◌+ℤ◌, replicate}
use Rattle.std.specs.List.{All, AllPairs, Any, Contains, filter, sum_by}
use Rattle.std.proofs.lemmas.Bool.{cases_eq, cases_lt, cond-true, cond-false, eq-eqb, ne_eqb, false≢true}
use Rattle.std.proofs.lemmas.List.Elements.{All-nil, All-cons, All-weaker, All-contains, All-contains_itself, All-filter, Contains-get_or, filter_passes}
use Rattle.std.proofs.lemmas.List.Kept.{AllPairs-filter}
use Rattle.std.proofs.lemmas.List.Sums.{sum_by-cons}
use Rattle.ca_plane.specs.Prelude.{Picture, cell, after, cells_after, IsLive}
use Rattle.ca_plane.proofs.Pictures.{Contains-cell}
use Rattle.ca_plane.proofs.After.{after_same}
use Rattle.ca_parts.specs.Prelude.{AreApart, AreApartBefore, NeverMeet, together, ComesBack, LiesIn, IsDivision, IsFiner}
use Rattle.ca_parts.proofs.ApartPlanes.{Within, AreApart-turned, AreApart-within, one_live}
use Rattle.ca_parts.proofs.Sums.{one_of_sum, sum_alone, after_together}
use Rattle.ca_parts.proofs.LaterPictures.{seen_at, cell-seen_at, cell-seen_at-none, live_or_not}
use Rattle.ca_parts.proofs.LaterDivisions.{IsDivision-same}
use Rattle.ca_parts.proofs.Returning.{IsBackBy, IsBackAt, shifted-from_IsBackBy, common_time_of_both}
use Rattle.ca_parts.proofs.FinestDivisions.{NeverMeet-turned, one_part, part_here, part_there}
use Rattle.ca_parts.proofs.PartsWithin.{lies_on}
use Rattle.ca_parts.proofs.SharedCells.{ShowAlike, shown_always}
use Rattle.ca_parts.proofs.Products.{Contains-filter, each_with, Contains-each_with, All-each_with, AllPairs-each_with}

-- ---- what two pictures share

-- the state that p has where q is live, and else 0
abbrev state_shared : Picture → Picture → ℤ → ℤ → ℕ
state_shared p q x y = cond (nat_eq (cell q x y) 0) 0 (cell p x y)

-- p, where q is live
shared : Picture → Picture → Picture
shared p q = seen_at (state_shared p q) p

cell-shared : (p q : Picture) (x y : ℤ) → cell (shared p q) x y ≡ state_shared p q x y
unfolding shared
cell-shared p q x y =
    elim (cases_eq (cell p x y) 0) [
      | inl none ↦
          let still : state_shared p q x y ≡ 0 = elim (cases_eq (cell q x y) 0) [
            | inl dark ↦ cond-true (nat_eq (cell q x y) 0) 0 (cell p x y) (eq-eqb (cell q x y) 0 dark)
            | inr live ↦ cond-false (nat_eq (cell q x y) 0) 0 (cell p x y) (ne_eqb (cell q x y) 0 live) ∙ none
          ] in
          cell-seen_at-none (state_shared p q) p x y still ∙ sym still
      | inr live ↦ cell-seen_at (state_shared p q) p x y (cell p x y, Contains-cell p x y live)
    ]

-- where q is live, the state of p is shared,
shared_here : (p q : Picture) (x y : ℤ) → cell q x y ≢ 0 → cell (shared p q) x y ≡ cell p x y
shared_here p q x y live = cell-shared p q x y ∙ cond-false (nat_eq (cell q x y) 0) 0 (cell p x y) (ne_eqb (cell q x y) 0 live)

-- and where a state is shared, q is live
shared_there : (p q : Picture) (x y : ℤ) → cell (shared p q) x y ≢ 0 → cell q x y ≢ 0
shared_there p q x y live dark = live (cell-shared p q x y ∙ cond-true (nat_eq (cell q x y) 0) 0 (cell p x y) (eq-eqb (cell q x y) 0 dark))

-- ---- lists of what is shared

-- the first of two holds
abbrev is_first : {A B : Type 0} → A ⊎ B → Bool
is_first (inl a) = true
is_first (inr b) = false

from_first : {A B : Type 0} (s : A ⊎ B) → is_first s ≡ true → A
from_first (inl a) e = a
from_first (inr b) e = absurd (false≢true e)

to_first : {A B : Type 0} (s : A ⊎ B) → (B → ⊥) → is_first s ≡ true
to_first (inl a) not = refl
to_first (inr b) not = absurd (not b)

-- the picture is live
is_live : Picture → Bool
is_live p = is_first (live_or_not p)

IsLive-from_test : (p : Picture) → is_live p ≡ true → IsLive p
unfolding is_live
IsLive-from_test p = from_first (live_or_not p)

test-from_IsLive : (p : Picture) → IsLive p → is_live p ≡ true
unfolding is_live
test-from_IsLive p (x, y, live) = to_first (live_or_not p) (λ dead. live (dead x y))

-- what each of the one list shares with each of the other, where that is live
pub cuts : List Picture → List Picture → List Picture
cuts ps qs = filter is_live (each_with shared ps qs)

-- it's shared by a part of the one list and one of the other
record IsShare (ds es : List Picture) (c : Picture) : Type 0 where
  pub d : Picture
  pub e : Picture
  pub has : Contains ds d
  pub has_other : Contains es e
  pub is : c ≡ shared d e

-- two of them are shared by parts of the one list that never meet, or of the other
abbrev AreShares : (List ℕ → ℕ) → List Picture → List Picture → Picture → Picture → Type 0
AreShares next ds es b c = (s : IsShare ds es b) × (t : IsShare ds es c) × (NeverMeet next s.d t.d ⊎ NeverMeet next s.e t.e)

live_cuts : (ps qs : List Picture) → All IsLive (cuts ps qs)
unfolding cuts
live_cuts ps qs = All-weaker (λ p. is_live p ≡ true) IsLive IsLive-from_test (filter is_live (each_with shared ps qs)) (filter_passes is_live (each_with shared ps qs))

shares : (ds es ps : List Picture) → All (Contains ds) ps → All (IsShare ds es) (cuts ps es)
unfolding cuts
shares ds es ps among =
    All-filter is_live (IsShare ds es) (each_with shared ps es) (All-each_with (IsShare ds es) shared ps es (λ k d low. λ j e below.
    record { d = get_or ps k d; e = get_or es j e; has = among k d low; has_other = Contains-get_or es j e below; is = refl }))

pairs_of_shares : (next : List ℕ → ℕ) (ds es ps : List Picture) → All (Contains ds) ps → AllPairs (NeverMeet next) ps → AllPairs (NeverMeet next) es → AllPairs (AreShares next ds es) (cuts ps es)
unfolding cuts
pairs_of_shares next ds es ps among apart others =
    AllPairs-filter (AreShares next ds es) is_live (each_with shared ps es)
    (AllPairs-each_with shared (Contains ds) (Contains es) (NeverMeet next) (NeverMeet next) (AreShares next ds es)
    (λ d e e' has here there never. (
      record { d = d; e = e; has = has; has_other = here; is = refl },
      record { d = d; e = e'; has = has; has_other = there; is = refl },
      inr never,
    ))
    (λ d d' e e' has has' here there never. (
      record { d = d; e = e; has = has; has_other = here; is = refl },
      record { d = d'; e = e'; has = has'; has_other = there; is = refl },
      inl never,
    ))
    ps es among (All-contains_itself es) apart others)

Contains-cuts : (ps qs : List Picture) (p q : Picture) → Contains ps p → Contains qs q → IsLive (shared p q) → Contains (cuts ps qs) (shared p q)
unfolding cuts
Contains-cuts ps qs p q has has_other live =
    Contains-filter is_live (each_with shared ps qs) (shared p q) (Contains-each_with shared ps qs p q has has_other) (test-from_IsLive (shared p q) live)

-- ---- pictures together

-- cells that are those of pictures which are apart are these together
whole_by : (f : ℤ → ℤ → ℕ) (cs : List Picture) → AllPairs (λ b c. AreApart (cell b) (cell c)) cs → ((c : Picture) → Contains cs c → (x y : ℤ) → cell c x y ≢ 0 → f x y ≡ cell c x y)
    → ((x y : ℤ) → f x y ≢ 0 → (c : Picture) × Contains cs c × (cell c x y ≢ 0)) → (x y : ℤ) → f x y ≡ together cs x y
whole_by f cs apart here there x y =
    elim (cases_eq (f x y) 0) [
      | inr live ↦
          let (c, has, at) = there x y live in
          here c has x y at
          ∙ sym (sum_alone (λ b. cell b x y) (λ a b. AreApart (cell a) (cell b)) (λ a b. AreApart-turned (cell a) (cell b)) cs c apart
          (λ b two. elim (cases_eq (cell b x y) 0) [ inl z ↦ z | inr too ↦ absurd (one_live (cell c) (cell b) x y two at too) ]) has)
      | inl none ↦ elim (cases_eq (together cs x y) 0) [
        | inl z ↦ none ∙ sym z
        | inr some ↦
            let (c, has, at) = one_of_sum (λ b. cell b x y) cs some in
            absurd (at (sym (here c has x y at) ∙ none))
      ]
    ]

-- ---- two divisions

module _ (next : List ℕ → ℕ) (quiet : next (replicate 9 0) ≡ 0) (cells : ℤ → ℤ → ℕ) (ds es : List Picture) (one : IsDivision next cells ds) (two : IsDivision next cells es) where
  -- a cell of parts of both has one state
  one_state : (d e : Picture) → Contains ds d → Contains es e → (n : ℕ) (x y : ℤ) → after next d n x y ≢ 0 → after next e n x y ≢ 0 → after next d n x y ≡ after next e n x y
  one_state d e has has_other n x y live too = sym (part_here next quiet cells ds one d has n x y live) ∙ part_here next quiet cells es two e has_other n x y too

  -- what is shared lies in both, after n generations
  abbrev LieAt : ℕ → (c : Picture) → IsShare ds es c → Type 0
  LieAt n c s = Within (after next c n) (after next s.d n) × Within (after next c n) (after next s.e n)

  lie_now : (c : Picture) (s : IsShare ds es c) → LieAt 0 c s
  lie_now c s =
      let here : (x y : ℤ) → cell c x y ≢ 0 → cell s.e x y ≢ 0 = λ x y live. shared_there s.d s.e x y (λ z. live (ap (λ (b : Picture). cell b x y) s.is ∙ z)) in
      let first : Within (cell c) (cell s.d) = λ x y live. ap (λ (b : Picture). cell b x y) s.is ∙ shared_here s.d s.e x y (here x y live) in
      (first, λ x y live. first x y live ∙ one_state s.d s.e s.has s.has_other 0 x y (λ z. live (first x y live ∙ z)) (here x y live))

  -- so as long as they lie so, they are apart
  apart_at : (n : ℕ) (b c : Picture) → ((s : IsShare ds es b) → LieAt n b s) → ((s : IsShare ds es c) → LieAt n c s) → AreShares next ds es b c → AreApart (after next b n) (after next c n)
  apart_at n b c lie lies (s, t, inl never) =
      AreApart-within (after next s.d n) (after next t.d n) (after next b n) (after next c n) (lie s).0 (lies t).0 (never n)
  apart_at n b c lie lies (s, t, inr never) =
      AreApart-within (after next s.e n) (after next t.e n) (after next b n) (after next c n) (lie s).1 (lies t).1 (never n)

  module _ (ps : List Picture) (among : All (Contains ds) ps) (apart : AllPairs (NeverMeet next) ps) where
    whole_cut : (x y : ℤ) → together ps x y ≡ together (cuts ps es) x y
    whole_cut =
        whole_by (together ps) (cuts ps es)
        (λ i j d low high. apart_at 0 (get_or (cuts ps es) i d) (get_or (cuts ps es) j d) (lie_now (get_or (cuts ps es) i d)) (lie_now (get_or (cuts ps es) j d))
        (pairs_of_shares next ds es ps among apart two.apart i j d low high))
        (λ c has x y live.
        let s = All-contains (IsShare ps es) (cuts ps es) c (shares ps es ps (All-contains_itself ps)) has in
        let in_ds : IsShare ds es c = record { d = s.d; e = s.e; has = All-contains (Contains ds) ps s.d among s.has; has_other = s.has_other; is = s.is } in
        let lies = (lie_now c in_ds).0 x y live in
        sum_alone (λ q. cell q x y) (NeverMeet next) (NeverMeet-turned next) ps s.d apart
        (λ q never. elim (cases_eq (cell q x y) 0) [ inl z ↦ z | inr too ↦ absurd (one_live (cell s.d) (cell q) x y (never 0) (λ z. live (lies ∙ z)) too) ]) s.has
        ∙ sym lies)
        (λ x y live.
        let (p, has, at) = one_of_sum (λ q. cell q x y) ps live in
        let plane = part_here next quiet cells ds one p (All-contains (Contains ds) ps p among has) 0 x y at in
        let (e, has_other, too) = part_there next quiet cells es two 0 x y (λ z. at (sym plane ∙ z)) in
        let alive : cell (shared p e) x y ≢ 0 = λ z. at (sym (shared_here p e x y too) ∙ z) in
        (shared p e, Contains-cuts ps es p e has has_other (x, y, alive), alive))

  -- ---- what is shared goes on in both

  whole_of_all : (x y : ℤ) → cells x y ≡ together (cuts ds es) x y
  whole_of_all x y = one.whole x y ∙ whole_cut ds (All-contains_itself ds) one.apart x y

  lie_then : (n : ℕ) → AllPairs (AreApartBefore next n) (cuts ds es) → (c : Picture) → Contains (cuts ds es) c → (s : IsShare ds es c) → LieAt n c s
  lie_then n before c has s = (
    lies_on next quiet cells (cuts ds es) ds whole_of_all one c s.d has s.has (lie_now c s).0 n before,
    lies_on next quiet cells (cuts ds es) es whole_of_all two c s.e has s.has_other (lie_now c s).1 n before,
  )

  apart_until : (n : ℕ) → AllPairs (AreApartBefore next n) (cuts ds es)
  apart_until zero = λ i j d low high m below. absurd (omega (arith, below))
  apart_until (suc n) = λ i j d less high m below.
      let before = apart_until n in
      elim (cases_lt m n) [
        | inl early ↦ before i j d less high m early
        | inr late ↦
            let same : n ≡ m = omega (arith, late, below) in
            let low : i < _ = omega (arith, less, high) in
            subst (λ k. AreApart (after next (get_or (cuts ds es) i d) k) (after next (get_or (cuts ds es) j d) k)) same
            (apart_at n (get_or (cuts ds es) i d) (get_or (cuts ds es) j d)
            (lie_then n before (get_or (cuts ds es) i d) (Contains-get_or (cuts ds es) i d low))
            (lie_then n before (get_or (cuts ds es) j d) (Contains-get_or (cuts ds es) j d high))
            (pairs_of_shares next ds es ds (All-contains_itself ds) one.apart two.apart i j d less high))
      ]

  -- it lies in both at all times
  lie_always : (c : Picture) → IsLive c → (s : IsShare ds es c) → (n : ℕ) → LieAt n c s
  lie_always c live s n =
      lie_then n (apart_until n) c (subst (λ b. Contains (cuts ds es) b) (sym s.is) (Contains-cuts ds es s.d s.e s.has s.has_other (subst IsLive s.is live))) s

  -- and is live where both are
  share_there : (d e : Picture) → Contains ds d → Contains es e → (n : ℕ) (x y : ℤ) → after next d n x y ≢ 0 → after next e n x y ≢ 0 → after next (shared d e) n x y ≡ after next d n x y
  share_there d e has has_other n x y live too =
      let plane : cells_after next cells n x y ≡ sum_by (λ c. after next c n x y) (cuts ds es) =
      after_same next cells (together (cuts ds es)) n whole_of_all x y ∙ after_together next quiet (cuts ds es) n (apart_until n) x y in
      let here = part_here next quiet cells ds one d has n x y live in
      let (c, cut, at) = one_of_sum (λ c. after next c n x y) (cuts ds es) (λ z. live (sym here ∙ plane ∙ z)) in
      let s = All-contains (IsShare ds es) (cuts ds es) c (shares ds es ds (All-contains_itself ds)) cut in
      let (lies, lies_too) = lie_then n (apart_until n) c cut s in
      let first : s.d ≡ d = one_part next ds s.d d one.apart s.has has n x y (λ z. at (lies x y at ∙ z)) live in
      let second : s.e ≡ e = one_part next es s.e e two.apart s.has_other has_other n x y (λ z. at (lies_too x y at ∙ z)) too in
      let is : c ≡ shared d e = s.is ∙ ap (λ (p : Picture). shared p s.e) first ∙ ap (λ (q : Picture). shared d q) second in
      sym (ap (λ (b : Picture). after next b n x y) is) ∙ lies x y at ∙ ap (λ (b : Picture). after next b n x y) first

  -- ---- what is shared comes back

  shown_alike : ShowAlike next 0 es ds
  shown_alike s late d has x y live =
      let here = part_here next quiet cells ds one d has s x y live in
      let (e, has_other, there) = part_there next quiet cells es two s x y (λ z. live (sym here ∙ z)) in
      (e, has_other, sym (part_here next quiet cells es two e has_other s x y there) ∙ here)

  module _ (t : ℕ) (back_ds : All (IsBackAt next t) ds) (back_es : All (IsBackAt next t) es) (d e : Picture) (has : Contains ds d) (has_other : Contains es e) (live : IsLive (shared d e)) where
    -- both are back by the same vector
    back_alike : (u v : ℤ) → IsBackBy next (cell d) t u v → IsBackBy next (cell e) t u v
    back_alike u v back =
        let (x, y, at) = live in
        let (lies, lies_too) = lie_now (shared d e) (record { d = d; e = e; has = has; has_other = has_other; is = refl }) in
        let (q, hasq, same, back_q) = shown_always next quiet 0 t (omega arith) es ds back_es shown_alike d has u v back 0 x y (λ z. at (lies x y at ∙ z)) in
        let is : q ≡ e = one_part next es q e two.apart hasq has_other 0 x y (λ z. at (lies x y at ∙ sym same ∙ z)) (λ z. at (lies_too x y at ∙ z)) in
        subst (λ (p : Picture). IsBackBy next (cell p) t u v) is back_q

    -- so is what they share
    share_back : IsBackAt next t (shared d e)
    share_back =
        let (u, v, back) = All-contains (IsBackAt next t) ds d back_ds has in
        let again = back_alike u v back in
        let s : IsShare ds es (shared d e) = record { d = d; e = e; has = has; has_other = has_other; is = refl } in (
          u,
          v,
          λ x y. elim (cases_eq (cell (shared d e) x y) 0) [
            | inr at ↦
                let (lies, lies_too) = lie_now (shared d e) s in
                let here : after next d t (x +ℤ u) (y +ℤ v) ≢ 0 = λ z. at (lies x y at ∙ sym (back x y) ∙ z) in
                let here_too : after next e t (x +ℤ u) (y +ℤ v) ≢ 0 = λ z. at (lies_too x y at ∙ sym (again x y) ∙ z) in
                share_there d e has has_other t (x +ℤ u) (y +ℤ v) here here_too ∙ back x y ∙ sym (lies x y at)
            | inl none ↦ elim (cases_eq (after next (shared d e) t (x +ℤ u) (y +ℤ v)) 0) [
              | inl z ↦ z ∙ sym none
              | inr some ↦
                  let (lies, lies_too) = lie_always (shared d e) live s t in
                  let here : cell d x y ≢ 0 = λ z. some (lies (x +ℤ u) (y +ℤ v) some ∙ back x y ∙ z) in
                  let here_too : cell e x y ≢ 0 = λ z. some (lies_too (x +ℤ u) (y +ℤ v) some ∙ again x y ∙ z) in
                  absurd (here (sym (shared_here d e x y here_too) ∙ none))
            ]
          ],
        )

  comes_back : (c : Picture) → IsShare ds es c → IsLive c → ComesBack next c
  comes_back c s live =
      let (m, back_ds, back_es) = common_time_of_both next ds es one.back two.back in
      let (u, v, back) = share_back (suc m) back_ds back_es s.d s.e s.has s.has_other (subst IsLive s.is live) in
      subst (ComesBack next) (sym s.is) (suc m, omega arith, u, v, shifted-from_IsBackBy next (shared s.d s.e) (suc m) u v back)

  -- ---- the cut

  never_two : (b c : Picture) → IsLive b → IsLive c → AreShares next ds es b c → NeverMeet next b c
  never_two b c alive live are n = apart_at n b c (λ s. lie_always b alive s n) (λ s. lie_always c live s n) are

  -- parts of the one division, cut by the other, are a division of what they are together,
  pub cut_division : (ps : List Picture) → All (Contains ds) ps → AllPairs (NeverMeet next) ps → IsDivision next (together ps) (cuts ps es)
  cut_division ps among apart =
      let live = live_cuts ps es in
      record {
        live = live;
        back = λ k d low. comes_back (get_or (cuts ps es) k d) (shares ds es ps among k d low) (live k d low);
        apart = λ i j d less high.
            never_two (get_or (cuts ps es) i d) (get_or (cuts ps es) j d) (live i d (omega (arith, less, high))) (live j d high) (pairs_of_shares next ds es ps among apart two.apart i j d less high);
        whole = whole_cut ps among apart;
      }

  share_in_first : (ps : List Picture) → All (Contains ds) ps → (c : Picture) → IsShare ps es c → Any (LiesIn c) ps
  share_in_first ps among c s =
      let (k, low, is) = s.has in
      let in_ds : IsShare ds es c = record { d = s.d; e = s.e; has = All-contains (Contains ds) ps s.d among s.has; has_other = s.has_other; is = s.is } in
      (k, s.d, low, is, (lie_now c in_ds).0)

  share_in_second : (c : Picture) → IsShare ds es c → Any (LiesIn c) es
  share_in_second c s =
      let (k, low, is) = s.has_other in
      (k, s.e, low, is, (lie_now c s).1)

  -- and finer than both
  pub cut_is_finer : (ps : List Picture) → All (Contains ds) ps → IsFiner (cuts ps es) ps × IsFiner (cuts ps es) es
  cut_is_finer ps among = (
    All-weaker (IsShare ps es) (λ c. Any (LiesIn c) ps) (share_in_first ps among) (cuts ps es) (shares ps es ps (All-contains_itself ps)),
    All-weaker (IsShare ds es) (λ c. Any (LiesIn c) es) share_in_second (cuts ps es) (shares ds es ps among),
  )

-- ---- the common cut

pub common_cut : (next : List ℕ → ℕ) → next (replicate 9 0) ≡ 0 → (cells : ℤ → ℤ → ℕ) (parts others : List Picture) → IsDivision next cells parts → IsDivision next cells others
    → (cut : List Picture) × IsDivision next cells cut × IsFiner cut parts × IsFiner cut others
common_cut next quiet cells ds es one two =
    let among = All-contains_itself ds in
    let (first, second) = cut_is_finer next quiet cells ds es one two ds among in
    (cuts ds es, IsDivision-same next (together ds) cells (cuts ds es) one.whole (cut_division next quiet cells ds es one two ds among one.apart), first, second)

-- each part is cut
pub cut_of_part : (next : List ℕ → ℕ) → next (replicate 9 0) ≡ 0 → (cells : ℤ → ℤ → ℕ) (parts others : List Picture) → IsDivision next cells parts → IsDivision next cells others
    → (p : Picture) → Contains parts p → (cut : List Picture) × IsDivision next (cell p) cut × IsFiner cut others
cut_of_part next quiet cells ds es one two p has =
    let among : All (Contains ds) (p ∷ []) = All-cons (Contains ds) p [] has (All-nil (Contains ds)) in
    let alone : AllPairs (NeverMeet next) (p ∷ []) = λ i j d less low. absurd (omega (arith, less, low)) in
    let whole : (x y : ℤ) → cell p x y ≡ together (p ∷ []) x y = λ x y. let sum = sum_by-cons (λ q. cell q x y) p [] in omega (arith, sum) in (
      cuts (p ∷ []) es,
      IsDivision-same next (together (p ∷ [])) (cell p) (cuts (p ∷ []) es) whole (cut_division next quiet cells ds es one two (p ∷ []) among alone),
      (cut_is_finer next quiet cells ds es one two (p ∷ []) among).1,
    )
