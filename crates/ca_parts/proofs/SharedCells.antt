-- Pictures that come back, and show the same cells as others from some generation on, show the same at all times. So the parts of a
-- later plane's division were a division of a settled plane, and the finest division goes on.
use Rattle.std.proofs.Common.{◌≡◌, ◌≢◌, ℕ, suc, ◌+◌, ◌*◌, ◌-◌, ◌≤◌, List, [], ◌∷◌, inl, inr, refl, sym, ap, ap₂, ◌∙◌, arith, subst}
use Rattle.std.specs.Prelude.{ℤ, pos, ◌+ℤ◌, ◌-ℤ◌, ◌*ℤ◌, replicate}
use Rattle.std.specs.List.{All, AllPairs, AllZip, Any, Contains}
use Rattle.std.proofs.lemmas.Nat.{mul-le}
use Rattle.std.proofs.lemmas.Bool.{cases_eq}
use Rattle.std.proofs.lemmas.Int.{ints}
use Rattle.std.proofs.lemmas.List.Elements.{All-nil, All-cons, All-head, All-tail, All-weaker, All-contains, All-contains_itself}
use Rattle.ca_plane.specs.Prelude.{Picture, cell, after, IsAfter, IsLive, cells_after}
use Rattle.ca_plane.proofs.After.{after_again}
use Rattle.ca_parts.specs.Prelude.{AreApart, NeverMeet, together, ComesBack, IsEarlier, LiesIn, IsDivision, IsSettled, IsFinest}
use Rattle.ca_parts.proofs.Lists.{All-zip, AllPairs-zip, AllZip-turned, AllZip-with_other, beside, same_or_two}
use Rattle.ca_parts.proofs.ApartPlanes.{AreApart-same, one_live}
use Rattle.ca_parts.proofs.TwoApart.{apart_from_further, further_from_apart}
use Rattle.ca_parts.proofs.Sums.{one_of_sum, sum_alone, apart_before}
use Rattle.ca_parts.proofs.LaterPictures.{picture_after, IsAfter-picture_after, live_or_not}
use Rattle.ca_parts.proofs.LaterDivisions.{nothing_comes, after_stands, IsDivision-later}
use Rattle.ca_parts.proofs.Returning.{IsBackBy, IsBackAt, IsBackAt-times, back_times, after_return, common_time_of_both}
use Rattle.ca_parts.proofs.Drifts.{no_drift, times-minus, drifts_out}
use Rattle.ca_parts.proofs.EarlierPictures.{moved_often, some_earlier_by}
use Rattle.ca_parts.proofs.FinestDivisions.{NeverMeet-turned, part_here, part_there}
use Rattle.ca_parts.proofs.PartsWithin.{lies_on}

-- ---- places that go on

-- after k periods what was at (x, y) is k steps further
after_periods : (next : List ℕ → ℕ) (p : Picture) (t k m : ℕ) (u v x y : ℤ) → IsBackBy next (cell p) t u v
    → after next p (k * t + m) (x +ℤ (pos k *ℤ u)) (y +ℤ (pos k *ℤ v)) ≡ after next p m x y
after_periods next p t k m u v x y back = after_return next (cell p) (k * t) (pos k *ℤ u) (pos k *ℤ v) (back_times next (cell p) t k u v back) m x y

-- k steps by a vector other than (0, 0) lead from (x, y) to no cell of what p is after m generations
abbrev LeadsOut : (List ℕ → ℕ) → ℕ → ℤ → ℤ → ℕ → Picture → Type 0
LeadsOut next m x y k p = (u v : ℤ) → after next p m (x +ℤ (pos k *ℤ u)) (y +ℤ (pos k *ℤ v)) ≢ 0 → (u ≡ pos 0) × (v ≡ pos 0)

-- so it is of all pictures of a list from some number of steps on
lead_out : (next : List ℕ → ℕ) → next (replicate 9 0) ≡ 0 → (m : ℕ) (x y : ℤ) (ps : List Picture) → (j : ℕ) × ((k : ℕ) → j ≤ k → All (LeadsOut next m x y k) ps)
lead_out next quiet m x y [] = (0, λ k late. All-nil (LeadsOut next m x y k))
lead_out next quiet m x y (p ∷ ps) =
    let (i, out) = drifts_out (picture_after next p m) x y in
    let (j, rest) = lead_out next quiet m x y ps in (
      i + j,
      λ k late. All-cons (LeadsOut next m x y k) p ps
          (λ u v live. out k (omega (arith, late)) u v (λ z. live (IsAfter-picture_after next quiet p m (x +ℤ (pos k *ℤ u)) (y +ℤ (pos k *ℤ v)) ∙ z)))
          (rest k (omega (arith, late))),
    )

-- a live picture is back by one vector
one_way : (next : List ℕ → ℕ) (p : Picture) (t : ℕ) (a b u v : ℤ) → IsLive p → IsBackBy next (cell p) t a b → IsBackBy next (cell p) t u v → (a ≡ u) × (b ≡ v)
one_way next p t a b u v (x, y, live) back again =
    let turns : (s r : ℤ) → cell p (s +ℤ (a -ℤ u)) (r +ℤ (b -ℤ v)) ≡ cell p s r = λ s r.
    let ax : s +ℤ a ≡ (s +ℤ (a -ℤ u)) +ℤ u = omega (arith, ints) in
    let ay : r +ℤ b ≡ (r +ℤ (b -ℤ v)) +ℤ v = omega (arith, ints) in
    sym (again (s +ℤ (a -ℤ u)) (r +ℤ (b -ℤ v))) ∙ sym (ap₂ (after next p t) ax ay) ∙ back s r in
    let (none, nor) = no_drift p x y (a -ℤ u) (b -ℤ v) (λ k dead. live (sym (moved_often next (cell p) (a -ℤ u) (b -ℤ v) turns k x y) ∙ dead)) in
    (omega (arith, ints, none), omega (arith, ints, nor))

-- ---- cells that are shown by two lists

-- from n generations on, each cell of one of the qs is one of the ps, too
abbrev pub ShowAlike : (List ℕ → ℕ) → ℕ → List Picture → List Picture → Type 0
ShowAlike next n ps qs =
    (s : ℕ) → n ≤ s → (q : Picture) → Contains qs q → (x y : ℤ) → after next q s x y ≢ 0 → (p : Picture) × Contains ps p × (after next p s x y ≡ after next q s x y)

-- where all are back after t generations, it is so at all times, and the two are back by the same vector
pub shown_always : (next : List ℕ → ℕ) → next (replicate 9 0) ≡ 0 → (n t : ℕ) → n ≤ t → (ps qs : List Picture) → All (IsBackAt next t) ps → ShowAlike next n ps qs
    → (q : Picture) → Contains qs q → (a b : ℤ) → IsBackBy next (cell q) t a b → (m : ℕ) (x y : ℤ) → after next q m x y ≢ 0
    → (p : Picture) × Contains ps p × (after next p m x y ≡ after next q m x y) × IsBackBy next (cell p) t a b
shown_always next quiet n t enough ps qs back shows q has a b again m x y live =
    let (j, out) = lead_out next quiet m x y ps in
    let was : after next q (suc j * t + m) (x +ℤ (pos (suc j) *ℤ a)) (y +ℤ (pos (suc j) *ℤ b)) ≡ after next q m x y = after_periods next q t (suc j) m a b x y again in
    let most : 1 * t ≤ suc j * t = mul-le 1 t (suc j) t (omega arith) (omega arith) in
    let (p, hasp, same) = shows (suc j * t + m) (omega (arith, most, enough)) q has (x +ℤ (pos (suc j) *ℤ a)) (y +ℤ (pos (suc j) *ℤ b)) (λ z. live (sym was ∙ z)) in
    let (u, v, back_p) = All-contains (IsBackAt next t) ps p back hasp in
    let moved : after next p (suc j * t + m) (x +ℤ (pos (suc j) *ℤ a)) (y +ℤ (pos (suc j) *ℤ b)) ≡ after next p m (x +ℤ (pos (suc j) *ℤ (a -ℤ u))) (y +ℤ (pos (suc j) *ℤ (b -ℤ v))) =
    ap₂ (after next p (suc j * t + m)) (ahead (suc j) x a u) (ahead (suc j) y b v)
    ∙ after_periods next p t (suc j) m u v (x +ℤ (pos (suc j) *ℤ (a -ℤ u))) (y +ℤ (pos (suc j) *ℤ (b -ℤ v))) back_p in
    let (none, nor) = All-contains (LeadsOut next m x y (suc j)) ps p (out (suc j) (omega arith)) hasp (a -ℤ u) (b -ℤ v) (λ z. live (sym was ∙ sym same ∙ moved ∙ z)) in
    let is : u ≡ a = omega (arith, ints, none) in
    let are : v ≡ b = omega (arith, ints, nor) in
    let alike : IsBackBy next (cell p) t a b = subst (λ i. IsBackBy next (cell p) t i b) is (subst (λ i. IsBackBy next (cell p) t u i) are back_p) in
    (p, hasp, sym (after_periods next p t (suc j) m a b x y alike) ∙ same ∙ was, alike)
  where
    ahead : (k : ℕ) (z c w : ℤ) → z +ℤ (pos k *ℤ c) ≡ (z +ℤ (pos k *ℤ (c -ℤ w))) +ℤ (pos k *ℤ w)
    ahead k z c w = let one = times-minus k c w in omega (arith, ints, one)

-- ---- the parts of a later plane's division, some generations earlier

module _ (next : List ℕ → ℕ) (quiet : next (replicate 9 0) ≡ 0) (n : ℕ) (cells : ℤ → ℤ → ℕ) (ps ds es : List Picture) (one : IsDivision next cells ps)
    (two : IsDivision next (cells_after next cells n) ds) (zip : AllZip (IsEarlier next n) es ds) where
  -- from n generations on an earlier picture shows what its part does
  shows_part : (e d : Picture) → IsEarlier next n e d → (s : ℕ) → n ≤ s → (x y : ℤ) → after next e s x y ≡ after next d (s - n) x y
  shows_part e d is s late x y =
      let sum : s ≡ n + (s - n) = omega (arith, late) in
      ap (λ k. after next e k x y) sum ∙ sym (after_stands next e d n is.later (s - n) x y)

  later_plane : (s : ℕ) → n ≤ s → (x y : ℤ) → cells_after next cells s x y ≡ cells_after next (cells_after next cells n) (s - n) x y
  later_plane s late x y =
      let sum : s ≡ n + (s - n) = omega (arith, late) in
      ap (λ k. cells_after next cells k x y) sum ∙ sym (after_again next cells n (s - n) x y)

  earlier_of : AllZip (λ d e. IsEarlier next n e d) ds es
  earlier_of = AllZip-turned (IsEarlier next n) es ds zip

  shown_by_parts : ShowAlike next n ps es
  shown_by_parts s late e has x y live =
      let (d, hasd, is) = beside (λ d e. IsEarlier next n e d) ds es e earlier_of has in
      let alike = shows_part e d is s late x y in
      let plane : cells_after next cells s x y ≡ after next e s x y =
      later_plane s late x y ∙ part_here next quiet (cells_after next cells n) ds two d hasd (s - n) x y (λ z. live (alike ∙ z)) ∙ sym alike in
      let (p, hasp, there) = part_there next quiet cells ps one s x y (λ z. live (sym plane ∙ z)) in
      (p, hasp, sym (part_here next quiet cells ps one p hasp s x y there) ∙ plane)

  shown_by_earlier : ShowAlike next n es ps
  shown_by_earlier s late p has x y live =
      let plane = part_here next quiet cells ps one p has s x y live in
      let (d, hasd, there) = part_there next quiet (cells_after next cells n) ds two (s - n) x y (λ z. live (sym plane ∙ later_plane s late x y ∙ z)) in
      let (e, hase, is) = beside (IsEarlier next n) es ds d zip hasd in
      (e, hase, shows_part e d is s late x y ∙ sym (part_here next quiet (cells_after next cells n) ds two d hasd (s - n) x y there) ∙ sym (later_plane s late x y) ∙ plane)

  module _ (t : ℕ) (enough : n ≤ t) (back_es : All (IsBackAt next t) es) (back_ps : All (IsBackAt next t) ps) where
    in_part : (e : Picture) → Contains es e → (a b : ℤ) → IsBackBy next (cell e) t a b → (m : ℕ) (x y : ℤ) → after next e m x y ≢ 0
        → (p : Picture) × Contains ps p × (after next p m x y ≡ after next e m x y) × IsBackBy next (cell p) t a b
    in_part = shown_always next quiet n t enough ps es back_ps shown_by_parts

    -- two of them never meet
    never_both : (d c e f : Picture) → IsEarlier next n e d × Contains es e → IsEarlier next n f c × Contains es f → NeverMeet next d c → NeverMeet next e f
    never_both d c e f (is, hase) (are, hasf) never m =
        apart_from_further (after next e m) (after next f m) (λ x y u v live live_too near.
        let (a, b, back) = All-contains (IsBackAt next t) es e back_es hase in
        let (g, h, again) = All-contains (IsBackAt next t) es f back_es hasf in
        let (p, hasp, same, back_p) = in_part e hase a b back m x y live in
        let (q, hasq, same_too, back_q) = in_part f hasf g h again m u v live_too in
        elim (same_or_two (NeverMeet next) (NeverMeet-turned next) ps p q one.apart hasp hasq) [
          | inr parted ↦ further_from_apart (after next p m) (after next q m) (parted m) x y u v (λ z. live (sym same ∙ z)) (λ z. live_too (sym same_too ∙ z)) near
          | inl itself ↦
              let (across, down) = one_way next q t a b g h (All-contains IsLive ps q one.live hasq) (subst (λ (r : Picture). IsBackBy next (cell r) t a b) itself back_p) back_q in
              let late : n ≤ t + m = omega (arith, enough) in
              let apart : AreApart (after next e (t + m)) (after next f (t + m)) =
              AreApart-same (after next d (t + m - n)) (after next c (t + m - n)) (after next e (t + m)) (after next f (t + m))
              (shows_part e d is (t + m) late) (shows_part f c are (t + m) late) (never (t + m - n)) in
              further_from_apart (after next e (t + m)) (after next f (t + m)) apart (x +ℤ a) (y +ℤ b) (u +ℤ g) (v +ℤ h)
              (λ z. live (sym (after_return next (cell e) t a b back m x y) ∙ z))
              (λ z. live_too (sym (after_return next (cell f) t g h again m u v) ∙ z))
              (omega (arith, ints, near, across, down), omega (arith, ints, near, across, down), omega (arith, ints, near, across, down), omega (arith, ints, near, across, down))
        ])

    never_meet : AllPairs (NeverMeet next) es
    never_meet =
        AllPairs-zip (λ d e. IsEarlier next n e d × Contains es e) (NeverMeet next) (NeverMeet next) (λ d c e f. never_both d c e f) ds es
        (AllZip-with_other (λ d e. IsEarlier next n e d) (Contains es) ds es earlier_of (All-contains_itself es)) two.apart

    -- where one of them is live, this plane has its state
    here : (e : Picture) → Contains es e → (x y : ℤ) → cell e x y ≢ 0 → cells x y ≡ cell e x y
    here e has x y live =
        let (a, b, back) = All-contains (IsBackAt next t) es e back_es has in
        let (p, hasp, same, _) = in_part e has a b back 0 x y live in
        part_here next quiet cells ps one p hasp 0 x y (λ z. live (sym same ∙ z)) ∙ same

    -- and where it is live, one of them is
    there : (x y : ℤ) → cells x y ≢ 0 → (e : Picture) × Contains es e × (cell e x y ≢ 0)
    there x y live =
        let (p, has, at) = part_there next quiet cells ps one 0 x y live in
        let (a, b, back) = All-contains (IsBackAt next t) ps p back_ps has in
        let (e, hase, same, _) = shown_always next quiet n t enough es ps back_es shown_by_earlier p has a b back 0 x y at in
        (e, hase, λ z. at (sym same ∙ z))

    whole_of : (x y : ℤ) → cells x y ≡ together es x y
    whole_of x y =
        elim (cases_eq (cells x y) 0) [
          | inr live ↦
              let (e, has, at) = there x y live in
              here e has x y at
              ∙ sym (sum_alone (λ f. cell f x y) (NeverMeet next) (NeverMeet-turned next) es e never_meet
              (λ f never. elim (cases_eq (cell f x y) 0) [ inl z ↦ z | inr too ↦ absurd (one_live (cell e) (cell f) x y (never 0) at too) ]) has)
          | inl none ↦ elim (cases_eq (together es x y) 0) [
            | inl z ↦ none ∙ sym z
            | inr some ↦
                let (e, has, at) = one_of_sum (λ f. cell f x y) es some in
                absurd (at (sym (here e has x y at) ∙ none))
          ]
        ]

  live_earlier : (d e : Picture) → IsEarlier next n e d → IsLive d → IsLive e
  live_earlier d e is (x, y, live) =
      elim (live_or_not e) [
        | inl alive ↦ alive
        | inr dead ↦ absurd (live (sym (is.later x y) ∙ nothing_comes next quiet (cell e) dead n x y))
      ]

  -- they are a division of this plane
  pub earlier_division : IsDivision next cells es
  earlier_division =
      let back = All-zip (λ d e. IsEarlier next n e d) IsLive (ComesBack next) (λ d e is live. is.back) ds es earlier_of two.live in
      let (m, back_es, back_ps) = common_time_of_both next es ps back one.back in
      let enough : n * 1 ≤ n * suc m = mul-le n 1 n (suc m) (omega arith) (omega arith) in
      let late : n ≤ n * suc m = omega (arith, enough) in
      let again : (p : Picture) → IsBackAt next (suc m) p → IsBackAt next (n * suc m) p = IsBackAt-times next (suc m) n (n * suc m) refl in
      let all_es : All (IsBackAt next (n * suc m)) es = All-weaker (IsBackAt next (suc m)) (IsBackAt next (n * suc m)) again es back_es in
      let all_ps : All (IsBackAt next (n * suc m)) ps = All-weaker (IsBackAt next (suc m)) (IsBackAt next (n * suc m)) again ps back_ps in
      record {
        live = All-zip (λ d e. IsEarlier next n e d) IsLive IsLive live_earlier ds es earlier_of two.live;
        back = back;
        apart = never_meet (n * suc m) late all_es all_ps;
        whole = whole_of (n * suc m) late all_es all_ps;
      }

-- ---- the finest division

-- what pictures that come back were n generations earlier
earlier_list : (next : List ℕ → ℕ) → next (replicate 9 0) ≡ 0 → (n : ℕ) (ds : List Picture) → All (ComesBack next) ds → (es : List Picture) × AllZip (IsEarlier next n) es ds
earlier_list next quiet n [] back = ([], tt)
earlier_list next quiet n (d ∷ ds) back =
    let (e, is) = some_earlier_by next quiet d n (All-head (ComesBack next) d ds back) in
    let (es, rest) = earlier_list next quiet n ds (All-tail (ComesBack next) d ds back) in
    (e ∷ es, (is, rest))

-- the parts of a later plane's division were a division of a settled plane
pub division_was : (next : List ℕ → ℕ) → next (replicate 9 0) ≡ 0 → (n : ℕ) (cells : ℤ → ℤ → ℕ) (parts earlier : List Picture) → IsDivision next (cells_after next cells n) parts
    → AllZip (IsEarlier next n) earlier parts → IsSettled next cells → IsDivision next cells earlier
division_was next quiet n cells parts earlier later zip (others, division) = earlier_division next quiet n cells others parts earlier division later zip

-- so the finest division goes on
pub later_finest : (next : List ℕ → ℕ) → next (replicate 9 0) ≡ 0 → (cells : ℤ → ℤ → ℕ) (n : ℕ) (parts later : List Picture) → IsFinest next cells parts
    → AllZip (λ p q. IsAfter next p n q) parts later → IsFinest next (cells_after next cells n) later
later_finest next quiet cells n parts later finest zip = record {
  division = IsDivision-later next quiet cells n parts later finest.division zip;
  finest = λ ds division.
      let (es, was) = earlier_list next quiet n ds division.back in
      let earlier = earlier_division next quiet n cells parts ds es finest.division division was in
      All-zip (λ p q. IsAfter next p n q) (Contains parts) (λ q. Any (LiesIn q) ds)
      (λ p q stands has.
      let (j, e, low, at, lies) = All-contains (λ r. Any (LiesIn r) es) parts p (finest.finest es earlier) has in
      let (d, hasd, is) = beside (λ d e. IsEarlier next n e d) ds es e (AllZip-turned (IsEarlier next n) es ds was) (j, low, at) in
      let (i, within, same) = hasd in
      let on = lies_on next quiet cells parts es finest.division.whole earlier p e has (j, low, at) lies n (apart_before next parts finest.division.apart n) in
      (i, d, within, same, λ x y live. sym (stands x y) ∙ on x y (λ z. live (sym (stands x y) ∙ z)) ∙ is.later x y))
      parts later zip (All-contains_itself parts);
}
