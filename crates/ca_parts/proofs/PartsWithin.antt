-- What lies in a part of a division, and goes on in it.
use Rattle.std.proofs.Common.{◌≡◌, ◌≢◌, ℕ, zero, suc, List, get_or, inl, inr, sym, ap, ◌∙◌, arith, subst}
use Rattle.std.specs.Prelude.{ℤ, replicate}
use Rattle.std.specs.List.{AllPairs, Any, Contains}
use Rattle.std.proofs.lemmas.List.Elements.{All-contains}
use Rattle.ca_plane.specs.Prelude.{Picture, around, after, cells_after}
use Rattle.ca_plane.proofs.After.{after_same}
use Rattle.ca_parts.specs.Prelude.{AreApart, AreApartBefore, NeverMeet, together, LiesIn, IsDivision, IsFiner}
use Rattle.ca_parts.proofs.Lists.{same_or_two}
use Rattle.ca_parts.proofs.ApartPlanes.{Within, around-within, AreApart-within}
use Rattle.ca_parts.proofs.Sums.{sum_alone, after_together, apart_before, AreApartBefore-turned}
use Rattle.ca_parts.proofs.FinestDivisions.{NeverMeet-turned}

module _ (next : List ℕ → ℕ) (quiet : next (replicate 9 0) ≡ 0) (cells : ℤ → ℤ → ℕ) where
  -- a window that sees one of parts that are apart sees nothing else
  window_of_part : (parts : List Picture) → ((x y : ℤ) → cells x y ≡ together parts x y) → (n : ℕ) → AllPairs (AreApartBefore next (suc n)) parts → (p : Picture) → Contains parts p
      → (x y : ℤ) → (around (after next p n) x y ≢ replicate 9 0) → around (cells_after next cells n) x y ≡ around (after next p n) x y
  window_of_part parts whole n apart p has x y some =
      let empty : (q : Picture) → AreApartBefore next (suc n) p q → around (after next q n) x y ≡ replicate 9 0 =
      λ q two. elim (two n (omega arith) x y) [ inl e ↦ absurd (some e) | inr e ↦ e ] in
      let at : (a b : ℤ) → ((q : Picture) → around (after next q n) x y ≡ replicate 9 0 → after next q n a b ≡ 0) → cells_after next cells n a b ≡ after next p n a b =
      λ a b none. after_same next cells (together parts) n whole a b ∙ after_together next quiet parts n (λ i j d low high m below. apart i j d low high m (omega arith)) a b
      ∙ sum_alone (λ q. after next q n a b) (AreApartBefore next (suc n)) (AreApartBefore-turned next (suc n)) parts p apart (λ q two. none q (empty q two)) has in
      let nw = at _ _ (λ q e. ap (λ l. get_or l 0 0) e) in
      let n' = at _ _ (λ q e. ap (λ l. get_or l 1 0) e) in
      let ne = at _ _ (λ q e. ap (λ l. get_or l 2 0) e) in
      let w = at _ _ (λ q e. ap (λ l. get_or l 3 0) e) in
      let here = at _ _ (λ q e. ap (λ l. get_or l 4 0) e) in
      let e' = at _ _ (λ q e. ap (λ l. get_or l 5 0) e) in
      let sw = at _ _ (λ q e. ap (λ l. get_or l 6 0) e) in
      let s = at _ _ (λ q e. ap (λ l. get_or l 7 0) e) in
      let se = at _ _ (λ q e. ap (λ l. get_or l 8 0) e) in
      cc

  -- one of the parts that lies in a part of a division lies in it as long as the parts are apart
  pub lies_on : (ps qs : List Picture) → ((x y : ℤ) → cells x y ≡ together ps x y) → IsDivision next cells qs → (p q : Picture) → Contains ps p → Contains qs q → LiesIn p q
      → (n : ℕ) → AllPairs (AreApartBefore next n) ps → Within (after next p n) (after next q n)
  lies_on ps qs whole division p q hasp hasq lies zero apart x y live = lies x y live
  lies_on ps qs whole division p q hasp hasq lies (suc n) apart x y live =
      let some : around (after next p n) x y ≢ replicate 9 0 = λ e. live (ap next e ∙ quiet) in
      let before = lies_on ps qs whole division p q hasp hasq lies n (λ i j d low high m below. apart i j d low high m (omega arith)) in
      let more : around (after next q n) x y ≢ replicate 9 0 = λ e. some (around-within (after next p n) (after next q n) x y before e) in
      ap next (sym (window_of_part ps whole n apart p hasp x y some) ∙ window_of_part qs division.whole n (apart_before next qs division.apart (suc n)) q hasq x y more)

-- so where two parts, each in a part of a division, are the first that meet, one part of the division holds both
pub meeting_parts : (next : List ℕ → ℕ) → next (replicate 9 0) ≡ 0 → (cells : ℤ → ℤ → ℕ) (ps qs : List Picture) (n : ℕ) (p q : Picture) → ((x y : ℤ) → cells x y ≡ together ps x y)
    → IsDivision next cells qs → IsFiner ps qs → AllPairs (AreApartBefore next n) ps → Contains ps p → Contains ps q → (AreApart (after next p n) (after next q n) → ⊥) → Any (λ d. LiesIn p d × LiesIn q d) qs
meeting_parts next quiet cells ps qs n p q whole division finer apart hasp hasq meet =
    let (i, c, low, is, one) = All-contains (λ r. Any (LiesIn r) qs) ps p finer hasp in
    let (j, d, below, are, two) = All-contains (λ r. Any (LiesIn r) qs) ps q finer hasq in
    elim (same_or_two (NeverMeet next) (NeverMeet-turned next) qs c d division.apart (i, low, is) (j, below, are)) [
      | inl same ↦ (j, d, below, are, (subst (λ (r : Picture). LiesIn p r) same one, two))
      | inr never ↦ absurd (meet (AreApart-within (after next c n) (after next d n) (after next p n) (after next q n)
          (lies_on next quiet cells ps qs whole division p c hasp (i, low, is) one n apart) (lies_on next quiet cells ps qs whole division q d hasq (j, below, are) two n apart) (never n)))
    ]
