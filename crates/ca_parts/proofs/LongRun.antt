-- A settled plane is that of pictures which come back, where from some time on parts of it, or of a later plane, go on as these do.
use Rattle.std.proofs.Common.{◌≡◌, ◌≢◌, ℕ, suc, ◌+◌, ◌*◌, ◌-◌, ◌≤◌, List, [], ◌∷◌, get_or, inl, inr, refl, sym, ap, ap₂, ◌∙◌, arith, subst}
use Rattle.std.specs.Prelude.{ℤ, pos, ◌+ℤ◌, ◌-ℤ◌, ◌*ℤ◌, replicate}
use Rattle.std.specs.List.{All, AllPairs, AllZip, Any, Contains, sum_by}
use Rattle.std.proofs.Math.IntN.{suc_ℤ-*ℤ}
use Rattle.std.proofs.lemmas.Nat.{mul-le}
use Rattle.std.proofs.lemmas.Bool.{cases_eq}
use Rattle.std.proofs.lemmas.Int.{ints}
use Rattle.std.proofs.lemmas.List.Elements.{All-contains, All-contains_itself, Contains-get_or}
use Rattle.ca_plane.specs.Prelude.{Picture, cell, around, after, cells_after}
use Rattle.ca_plane.proofs.After.{around-same, around-nine_states, after_same, after_again}
use Rattle.ca_parts.specs.Prelude.{NeverMeet, together, ComesBack, LiesIn, IsDivision}
use Rattle.ca_parts.proofs.Lists.{All-zip, AllPairs-zip, AllZip-turned, AllZip-with, AllZip-weaker, beside, same_or_two}
use Rattle.ca_parts.proofs.ApartPlanes.{Within, AreApart-within, one_live}
use Rattle.ca_parts.proofs.Sums.{one_of_sum, sum_alone, after_together, apart_before}
use Rattle.ca_parts.proofs.LaterPictures.{live_or_not}
use Rattle.ca_parts.proofs.LaterDivisions.{nothing_comes}
use Rattle.ca_parts.proofs.Returning.{IsBackBy, IsBackAt, IsBackAt-times, back_times, after_return, common_time_of_both}
use Rattle.ca_parts.proofs.Drifts.{no_drift, times-minus}
use Rattle.ca_parts.proofs.FinestDivisions.{NeverMeet-turned, one_part, part_here, part_there}

-- ---- pictures that go on alike

-- e comes back, and from some time on it is, k generations later, what p is
abbrev pub Joins : (List ℕ → ℕ) → ℕ → Picture → Picture → Type 0
Joins next k e p = ComesBack next e × (t : ℕ) × ((x y : ℤ) → after next e (k + t) x y ≡ after next p t x y)

-- from t generations on e is, k generations later, what p is
abbrev pub GoesOnAs : (List ℕ → ℕ) → ℕ → ℕ → Picture → Picture → Type 0
GoesOnAs next k t e p = (n : ℕ) → t ≤ n → (x y : ℤ) → after next e (k + n) x y ≡ after next p n x y

-- once it is so it stays so
pub goes_on : (next : List ℕ → ℕ) (k t : ℕ) (e p : Picture) → ((x y : ℤ) → after next e (k + t) x y ≡ after next p t x y) → GoesOnAs next k t e p
goes_on next k t e p same n late x y =
    let one : k + n ≡ (k + t) + (n - t) = omega (arith, late) in
    let two : t + (n - t) ≡ n = omega (arith, late) in
    ap (λ j. after next e j x y) one ∙ sym (after_again next (cell e) (k + t) (n - t) x y) ∙ after_same next (after next e (k + t)) (after next p t) (n - t) same x y
    ∙ after_again next (cell p) t (n - t) x y ∙ ap (λ j. after next p j x y) two

-- pictures of two lists go on alike from a common time on
common_start : (next : List ℕ → ℕ) (k : ℕ) (es ps : List Picture) → AllZip (Joins next k) es ps → (t : ℕ) × AllZip (GoesOnAs next k t) es ps
common_start next k [] [] zip = (0, tt)
common_start next k [] (p ∷ ps) zip = absurd zip
common_start next k (e ∷ es) [] zip = absurd zip
common_start next k (e ∷ es) (p ∷ ps) zip =
    let (comes, s, same) = zip.0 in
    let (t, rest) = common_start next k es ps zip.1 in (
      s + t,
      (
        λ n late. goes_on next k s e p same n (omega (arith, late)),
        AllZip-weaker (GoesOnAs next k t) (GoesOnAs next k (s + t)) (λ f q on n late. on n (omega (arith, late))) es ps rest,
      ),
    )

-- ---- a look at a settled plane

-- a part of the plane k generations later comes of one part of a division of this plane
pub record ComesOf (next : List ℕ → ℕ) (k : ℕ) (ds : List Picture) (p : Picture) : Type 0 where
  pub d : Picture
  pub has : Contains ds d
  pub within : (n : ℕ) → Within (after next p n) (after next d (k + n))

-- parts of the plane k generations later, pictures as which these go on, and a division of this plane, of whose parts those come. After k + l
-- generations all are back, and from l generations on they go on so
pub record Look (next : List ℕ → ℕ) (cells : ℤ → ℤ → ℕ) (k : ℕ) (parts es ds : List Picture) : Type 0 where
  pub quiet : next (replicate 9 0) ≡ 0
  pub apart : AllPairs (NeverMeet next) parts
  pub whole : (x y : ℤ) → cells_after next cells k x y ≡ together parts x y
  pub division : IsDivision next cells ds
  pub comes : (p : Picture) → Contains parts p → ComesOf next k ds p
  pub l : ℕ
  pub zip : AllZip (λ e p. GoesOnAs next k l e p × IsBackAt next (k + l) e) es parts
  pub back : All (IsBackAt next (k + l)) ds

-- there is such a number
pub look_of : (next : List ℕ → ℕ) (cells : ℤ → ℤ → ℕ) (k : ℕ) (parts es ds : List Picture) → next (replicate 9 0) ≡ 0 → AllPairs (NeverMeet next) parts
    → ((x y : ℤ) → cells_after next cells k x y ≡ together parts x y) → IsDivision next cells ds → ((p : Picture) → Contains parts p → ComesOf next k ds p)
    → AllZip (Joins next k) es parts → Look next cells k parts es ds
look_of next cells k parts es ds quiet apart whole division comes joins =
    let all : All (ComesBack next) es =
    All-zip (λ p e. Joins next k e p) (Contains parts) (ComesBack next) (λ p e is _. is.0) parts es (AllZip-turned (Joins next k) es parts joins) (All-contains_itself parts) in
    let (t, on) = common_start next k es parts joins in
    let (m, one, two) = common_time_of_both next es ds all division.back in
    let enough : (k + t) * 1 ≤ (k + t) * suc m = mul-le (k + t) 1 (k + t) (suc m) (omega arith) (omega arith) in
    let sum : k + ((k + t) * suc m - k) ≡ (k + t) * suc m = omega (arith, enough) in
    let late : t ≤ (k + t) * suc m - k = omega (arith, enough) in
    let again : (p : Picture) → IsBackAt next (suc m) p → IsBackAt next (k + ((k + t) * suc m - k)) p = IsBackAt-times next (suc m) (k + t) (k + ((k + t) * suc m - k)) sum in
    record {
      quiet = quiet;
      apart = apart;
      whole = whole;
      division = division;
      comes = comes;
      l = (k + t) * suc m - k;
      zip = AllZip-with (GoesOnAs next k ((k + t) * suc m - k)) (IsBackAt next (k + ((k + t) * suc m - k))) es parts
          (AllZip-weaker (GoesOnAs next k t) (GoesOnAs next k ((k + t) * suc m - k)) (λ e p on n low. on n (omega (arith, late, low))) es parts on)
          (λ i d low. again (get_or es i d) (one i d low));
      back = λ i d low. again (get_or ds i d) (two i d low);
    }

module _ (next : List ℕ → ℕ) (quiet : next (replicate 9 0) ≡ 0) (k l : ℕ) (e p d : Picture) (on : GoesOnAs next k l e p) (within : (n : ℕ) → Within (after next p n) (after next d (k + n))) where
  -- a live picture that is back when the part is, of which what it goes on as comes, is back by the same vector
  one_vector : (a b u v x y : ℤ) → IsBackBy next (cell e) (k + l) a b → IsBackBy next (cell d) (k + l) u v → cell e x y ≢ 0 → (a ≡ u) × (b ≡ v)
  one_vector a b u v x y back again live =
      let stays : (j : ℕ) → cell d ((x +ℤ (a -ℤ u)) +ℤ (pos j *ℤ (a -ℤ u))) ((y +ℤ (b -ℤ v)) +ℤ (pos j *ℤ (b -ℤ v))) ≢ 0 = λ j dead. drifts j dead in
      let (none, nor) = no_drift d (x +ℤ (a -ℤ u)) (y +ℤ (b -ℤ v)) (a -ℤ u) (b -ℤ v) stays in
      (omega (arith, ints, none), omega (arith, ints, nor))
    where
      ahead : (j : ℕ) (z c w : ℤ) → z +ℤ (pos (suc j) *ℤ c) ≡ ((z +ℤ (c -ℤ w)) +ℤ (pos j *ℤ (c -ℤ w))) +ℤ (pos (suc j) *ℤ w)
      ahead j z c w =
          let one = times-minus (suc j) c w in
          let two = suc_ℤ-*ℤ (pos j) (c -ℤ w) in
          omega (arith, ints, one, two)

      drifts : (j : ℕ) → cell d ((x +ℤ (a -ℤ u)) +ℤ (pos j *ℤ (a -ℤ u))) ((y +ℤ (b -ℤ v)) +ℤ (pos j *ℤ (b -ℤ v))) ≡ 0 → ⊥
      drifts j dead =
          let most : 1 * (k + l) ≤ suc j * (k + l) = mul-le 1 (k + l) (suc j) (k + l) (omega arith) (omega arith) in
          let sum : k + (suc j * (k + l) - k) ≡ suc j * (k + l) = omega (arith, most) in
          let late : l ≤ suc j * (k + l) - k = omega (arith, most) in
          let kx = x +ℤ (pos (suc j) *ℤ a) in
          let ky = y +ℤ (pos (suc j) *ℤ b) in
          let shown : after next p (suc j * (k + l) - k) kx ky ≡ cell e x y =
          sym (on (suc j * (k + l) - k) late kx ky) ∙ ap (λ i. after next e i kx ky) sum ∙ back_times next (cell e) (k + l) (suc j) a b back x y in
          live (sym shown ∙ within (suc j * (k + l) - k) kx ky (λ z. live (sym shown ∙ z)) ∙ ap (λ i. after next d i kx ky) sum
          ∙ ap₂ (after next d (suc j * (k + l))) (ahead j x a u) (ahead j y b v)
          ∙ back_times next (cell d) (k + l) (suc j) u v again ((x +ℤ (a -ℤ u)) +ℤ (pos j *ℤ (a -ℤ u))) ((y +ℤ (b -ℤ v)) +ℤ (pos j *ℤ (b -ℤ v))) ∙ dead)

  -- so any picture is, a dead one by every vector
  back_alike : (u v : ℤ) → IsBackAt next (k + l) e → IsBackBy next (cell d) (k + l) u v → IsBackBy next (cell e) (k + l) u v
  back_alike u v (a, b, back) again =
      elim (live_or_not e) [
        | inl (x, y, live) ↦
            let (is, are) = one_vector a b u v x y back again live in
            subst (λ j. IsBackBy next (cell e) (k + l) j v) is (subst (λ j. IsBackBy next (cell e) (k + l) a j) are back)
        | inr dead ↦ λ x y. nothing_comes next quiet (cell e) dead (k + l) (x +ℤ u) (y +ℤ v) ∙ sym (dead x y)
      ]

  -- it shows what the other is l generations later,
  seen_late : (u v : ℤ) → IsBackBy next (cell e) (k + l) u v → (n : ℕ) (x y : ℤ) → after next e n x y ≡ after next p (l + n) (x +ℤ u) (y +ℤ v)
  seen_late u v back n x y =
      let sum : (k + l) + n ≡ k + (l + n) = omega arith in
      sym (after_return next (cell e) (k + l) u v back n x y) ∙ ap (λ j. after next e j (x +ℤ u) (y +ℤ v)) sum ∙ on (l + n) (omega arith) (x +ℤ u) (y +ℤ v)

  -- and lies in the part at all times
  lies_always : (u v : ℤ) → IsBackBy next (cell e) (k + l) u v → IsBackBy next (cell d) (k + l) u v → (n : ℕ) → Within (after next e n) (after next d n)
  lies_always u v back again n x y live =
      let sum : k + (l + n) ≡ (k + l) + n = omega arith in
      let seen = seen_late u v back n x y in
      seen ∙ within (l + n) (x +ℤ u) (y +ℤ v) (λ z. live (seen ∙ z)) ∙ ap (λ j. after next d j (x +ℤ u) (y +ℤ v)) sum
      ∙ after_return next (cell d) (k + l) u v again n x y

-- the window of a plane that is another one, seen from elsewhere
around-seen : (f g : ℤ → ℤ → ℕ) (u v : ℤ) → ((x y : ℤ) → f x y ≡ g (x +ℤ u) (y +ℤ v)) → (x y : ℤ) → around f x y ≡ around g (x +ℤ u) (y +ℤ v)
around-seen f g u v seen x y =
    let turned : (a b : ℤ) → b +ℤ a ≡ a +ℤ b = λ a b. omega (arith, ints) in
    around-same f (λ a b. g (u +ℤ a) (v +ℤ b)) x y (λ a b _. seen a b ∙ ap₂ g (turned u a) (turned v b))
    ∙ around-nine_states g u v x y ∙ ap₂ (around g) (turned x u) (turned y v)

-- each two elements, with their places in the list
pairs_with_places : {X : Type 0} (R : X → X → Type 0) (xs : List X) → AllPairs R xs → AllPairs (λ x y. R x y × Contains xs x × Contains xs y) xs
pairs_with_places R xs pairs = λ i j d low high. (pairs i j d low high, Contains-get_or xs i d (omega arith), Contains-get_or xs j d high)

module _ (next : List ℕ → ℕ) (cells : ℤ → ℤ → ℕ) (k : ℕ) (parts es ds : List Picture) (look : Look next cells k parts es ds) where
  -- a picture beside the part that goes on as it does
  abbrev Beside : Picture → Picture → Type 0
  Beside e p = GoesOnAs next k look.l e p × IsBackAt next (k + look.l) e

  turned_pairs : AllZip (λ p e. Beside e p) parts es
  turned_pairs = AllZip-turned (λ e p. Beside e p) es parts look.zip

  vector : (d : Picture) → Contains ds d → IsBackAt next (k + look.l) d
  vector d has = All-contains (IsBackAt next (k + look.l)) ds d look.back has

  -- the picture is back by the vector of the part of this plane's division of which its part comes
  alike : (e p : Picture) → Beside e p → (has : Contains parts p) (d : Picture) → (look.comes p has).d ≡ d → (u v : ℤ) → IsBackBy next (cell d) (k + look.l) u v → IsBackBy next (cell e) (k + look.l) u v
  alike e p beside has d same u v again =
      back_alike next look.quiet k look.l e p d beside.0
      (subst (λ (q : Picture). (n : ℕ) → Within (after next p n) (after next q (k + n))) same (look.comes p has).within) u v beside.1 again

  -- and it lies in that one, at all times
  pub lies : (e p : Picture) → Beside e p → (has : Contains parts p) → (n : ℕ) → Within (after next e n) (after next (look.comes p has).d n)
  lies e p beside has =
      let c = look.comes p has in
      let (u, v, again) = vector c.d c.has in
      lies_always next look.quiet k look.l e p c.d beside.0 c.within u v (alike e p beside has c.d refl u v again) again

  -- two of the pictures never meet
  never_two : (p q e f : Picture) → Beside e p → Beside f q → NeverMeet next p q × Contains parts p × Contains parts q → NeverMeet next e f
  never_two p q e f one two (never, hasp, hasq) =
      let c = look.comes p hasp in
      let d = look.comes q hasq in
      elim (same_or_two (NeverMeet next) (NeverMeet-turned next) ds c.d d.d look.division.apart c.has d.has) [
        | inr parted ↦ λ n. AreApart-within (after next c.d n) (after next d.d n) (after next e n) (after next f n) (lies e p one hasp n) (lies f q two hasq n) (parted n)
        | inl same ↦
            let (u, v, again) = vector c.d c.has in
            let seen_e = seen_late next look.quiet k look.l e p c.d one.0 c.within u v (alike e p one hasp c.d refl u v again) in
            let seen_f = seen_late next look.quiet k look.l f q d.d two.0 d.within u v (alike f q two hasq c.d (sym same) u v again) in
            λ n x y. elim (never (look.l + n) (x +ℤ u) (y +ℤ v)) [
              | inl none ↦ inl (around-seen (after next e n) (after next p (look.l + n)) u v (seen_e n) x y ∙ none)
              | inr none ↦ inr (around-seen (after next f n) (after next q (look.l + n)) u v (seen_f n) x y ∙ none)
            ]
      ]

  pub never_meet : AllPairs (NeverMeet next) es
  never_meet =
      AllPairs-zip (λ p e. Beside e p) (λ p q. NeverMeet next p q × Contains parts p × Contains parts q) (NeverMeet next) never_two parts es turned_pairs
      (pairs_with_places (NeverMeet next) parts look.apart)

  -- where one of the pictures is live, this plane has its state
  here : (e : Picture) → Contains es e → (x y : ℤ) → cell e x y ≢ 0 → cells x y ≡ cell e x y
  here e has x y live =
      let (p, hasp, one) = beside (λ p e. Beside e p) parts es e turned_pairs has in
      let there = lies e p one hasp 0 x y live in
      let c = look.comes p hasp in
      part_here next look.quiet cells ds look.division c.d c.has 0 x y (λ z. live (there ∙ z)) ∙ sym there

  -- where a part of this plane's division is live after k + l generations, a part that comes of it is live after l
  live_part : (d : Picture) → Contains ds d → (x y : ℤ) → after next d (k + look.l) x y ≢ 0
      → (p : Picture) × (has : Contains parts p) × (after next p look.l x y ≢ 0) × ((look.comes p has).d ≡ d)
  live_part d has x y at =
      let plane : cells_after next (cells_after next cells k) look.l x y ≡ after next d (k + look.l) x y =
      after_again next cells k look.l x y ∙ part_here next look.quiet cells ds look.division d has (k + look.l) x y at in
      let sum : cells_after next (cells_after next cells k) look.l x y ≡ sum_by (λ p. after next p look.l x y) parts =
      after_same next (cells_after next cells k) (together parts) look.l look.whole x y
      ∙ after_together next look.quiet parts look.l (apart_before next parts look.apart look.l) x y in
      let (p, hasp, there) = one_of_sum (λ p. after next p look.l x y) parts (λ z. at (sym plane ∙ sum ∙ z)) in
      let c = look.comes p hasp in
      (p, hasp, there, one_part next ds c.d d look.division.apart c.has has (k + look.l) x y (λ z. there (c.within look.l x y there ∙ z)) at)

  -- where this plane is live, one of the pictures is
  there : (x y : ℤ) → cells x y ≢ 0 → (e : Picture) × Contains es e × (cell e x y ≢ 0)
  there x y live =
      let (d, has, at) = part_there next look.quiet cells ds look.division 0 x y live in
      let (u, v, again) = vector d has in
      let (p, hasp, late, same) = live_part d has (x +ℤ u) (y +ℤ v) (λ z. at (sym (again x y) ∙ z)) in
      let (e, hase, one) = beside (λ e p. Beside e p) es parts p look.zip hasp in
      let c = look.comes p hasp in
      let none : look.l + 0 ≡ look.l = omega arith in (
        e,
        hase,
        λ z. late (ap (λ j. after next p j (x +ℤ u) (y +ℤ v)) (sym none)
            ∙ sym (seen_late next look.quiet k look.l e p c.d one.0 c.within u v (alike e p one hasp d same u v again) 0 x y) ∙ z),
      )

  -- so this plane is that of the pictures together
  pub whole_of : (x y : ℤ) → cells x y ≡ together es x y
  whole_of x y =
      elim (cases_eq (cells x y) 0) [
        | inr live ↦
            let (e, has, at) = there x y live in
            here e has x y at
            ∙ sym (sum_alone (λ f. cell f x y) (NeverMeet next) (NeverMeet-turned next) es e never_meet
            (λ f never. elim (cases_eq (cell f x y) 0) [ inl z ↦ z | inr too ↦ absurd (one_live (cell e) (cell f) x y (never 0) at too) ]) has)
        | inl none ↦ elim (cases_eq (together es x y) 0) [
          | inl z ↦ none ∙ sym z
          | inr some ↦
              let (e, has, at) = one_of_sum (λ f. cell f x y) es some in
              absurd (at (sym (here e has x y at) ∙ none))
        ]
      ]

  -- and each of them lies in a part of the division
  pub finer : All (λ e. Any (LiesIn e) ds) es
  finer =
      All-zip (λ p e. Beside e p) (Contains parts) (λ e. Any (LiesIn e) ds)
      (λ p e one has. let c = look.comes p has in let (i, low, is) = c.has in (i, c.d, low, is, lies e p one has 0)) parts es turned_pairs (All-contains_itself parts)
