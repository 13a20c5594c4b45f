-- What is reached from a cell is a part of the cells that are left.
use Rattle.std.proofs.Common.{◌≡◌, ◌≢◌, ℕ, zero, suc, ◌+◌, ◌<◌, List, [], ◌∷◌, ◌&&◌, length, get_or, map, refl, sym, ap, ◌∙◌, subst, inl, inr, ◌⊎◌, arith}
use Rattle.std.specs.Prelude.{ℤ}
use Rattle.std.specs.List.{All, Contains, HoldsAt}
use Rattle.std.specs.Ordering.{int_eq}
use Rattle.std.proofs.lemmas.Int.{ints}
use Rattle.std.proofs.lemmas.Bool.{cases_eq, cond_both}
use Rattle.std.proofs.lemmas.List.{get_or-map, length-map, get_or_default, get_or_append_left}
use Rattle.std.proofs.lemmas.List.Elements.{All-head, All-tail, All-weaker, All-contains, Contains-get_or, at_from_Contains}
use Rattle.ca_plane.specs.declared.point.Point.{Point}
use Rattle.ca_plane.specs.Prelude.{Picture, cell, IsInPlane, IsSame}
use Rattle.ca_plane.proofs.Pictures.{cell-first, Contains-cell}
use Rattle.ca_parts.specs.Parts.{AreFurther}
use Rattle.ca_parts.specs.Components.{IsUndivided}
use Rattle.ca_parts.specs.inner.Rows.{IsRising, IsBefore}
use Rattle.ca_parts.specs.inner.Taking.{TakesCell, WasTaken, Takes, TakesAll, TakesReached, TakesPart, IsNear, IsChained, IsLiveAt, IsDarkBefore}
use Rattle.ca_parts.proofs.RowOrder.{rising_less, below_or_not, Less_from_before}
use Rattle.ca_parts.proofs.Taken.{cell-rising, dark_kept, live_kept, rising_kept, dark_at_place, Takes-cell, Takes-trans, Takes-wider}

-- ---- lists of live cells

-- a place that is listed is live, where each listed state isn't 0
live_at : (p : Picture) (k : ℕ) (d : Point × ℕ) → All (λ e. e.1 ≢ 0) p → k < length p → cell p (get_or p k d).0.x (get_or p k d).0.y ≢ 0
live_at [] k d all within = absurd (omega arith)
live_at (e ∷ es) zero d all within = λ z. All-head (λ (f : Point × ℕ). f.1 ≢ 0) e es all (sym (cell-first e es) ∙ z)
live_at (e ∷ es) (suc k) d all within =
    cond_both (int_eq (get_or es k d).0.y e.0.y && int_eq (get_or es k d).0.x e.0.x) e.1 (cell es (get_or es k d).0.x (get_or es k d).0.y) (λ s. s ≢ 0)
    (λ _. All-head (λ (f : Point × ℕ). f.1 ≢ 0) e es all)
    (λ _. live_at es k d (All-tail (λ (f : Point × ℕ). f.1 ≢ 0) e es all) (omega arith))

pub live_from_Contains : (p : Picture) (e : Point × ℕ) → All (λ f. f.1 ≢ 0) p → Contains p e → cell p e.0.x e.0.y ≢ 0
live_from_Contains p e all has =
    subst (λ (f : Point × ℕ). cell p f.0.x f.0.y ≢ 0) has.2 (live_at p has.0 e all has.1)

-- the places of two lists with the same points
pub same_length : (p q : Picture) → map (λ (e : Point × ℕ). e.0) q ≡ map (λ (e : Point × ℕ). e.0) p → length q ≡ length p
same_length p q places = sym (length-map q (λ (e : Point × ℕ). e.0)) ∙ ap (λ (ps : List Point). length ps) places ∙ length-map p (λ (e : Point × ℕ). e.0)

pub same_place : (p q : Picture) (k : ℕ) (d : Point × ℕ) → map (λ (e : Point × ℕ). e.0) q ≡ map (λ (e : Point × ℕ). e.0) p → k < length q → (get_or q k d).0 ≡ (get_or p k d).0
same_place p q k d places within =
    let within_p : k < length p = omega (arith, same_length p q places) in
    sym (get_or-map (λ (e : Point × ℕ). e.0) q k d d.0 within) ∙ ap (λ (ps : List Point). get_or ps k d.0) places ∙ get_or-map (λ (e : Point × ℕ). e.0) p k d d.0 within_p

-- ---- what is taken lies in the square of a plane

pub near_taken : (A : ℤ → ℤ → Type 0) (l l' taken : Picture) → Takes A l [] l' taken → All (λ e. IsInPlane e.0) l → All (λ e. IsInPlane e.0) taken
near_taken A l l' taken takes near =
    subst (λ (p : Picture). All (λ e. IsInPlane e.0) p) (sym takes.grown)
    (All-weaker (WasTaken A l l') (λ (e : Point × ℕ). IsInPlane e.0) (λ e was. All-contains (λ (f : Point × ℕ). IsInPlane f.0) l _ near (Contains-cell l e.0.x e.0.y (λ z. was.live (sym was.state ∙ z)))) takes.more takes.from)

-- ---- the part that was taken

module _ (reach : ℕ) (at : Point) (l l' taken : Picture) (r : TakesReached reach at l l' taken) (start : cell l at.x at.y ≢ 0) where
  all_taken : All (WasTaken (IsChained reach (cell l) at) l l') taken
  all_taken = subst (λ (p : Picture). All (WasTaken (IsChained reach (cell l) at) l l') p) (sym r.takes.grown) r.takes.from

  -- a live cell of the part was taken
  was_taken : (x y : ℤ) → cell taken x y ≢ 0 → WasTaken (IsChained reach (cell l) at) l l' (record { y = y; x = x }, cell taken x y)
  was_taken x y live = All-contains (WasTaken (IsChained reach (cell l) at) l l') taken _ all_taken (Contains-cell taken x y live)

  -- what isn't in the part is left
  is_left : (x y : ℤ) → cell taken x y ≡ 0 → cell l' x y ≡ cell l x y
  is_left x y dark =
      elim (r.takes.rest x y) [
        | inl same ↦ same
        | inr gone ↦
            let has = subst (λ (p : Picture). Contains p (record { y = y; x = x }, cell l x y)) (sym r.takes.grown) gone.1 in
            absurd (live_from_Contains taken _ (All-weaker (WasTaken (IsChained reach (cell l) at) l l') (λ (e : Point × ℕ). e.1 ≢ 0) (λ e was. was.live) taken all_taken) has dark)
      ]

  shared_out : (x y : ℤ) → ((cell taken x y ≡ 0) × (cell l' x y ≡ cell l x y)) ⊎ ((cell taken x y ≡ cell l x y) × (cell l' x y ≡ 0))
  shared_out x y =
      elim (cases_eq (cell taken x y) 0) [
        | inl dark ↦ inl (dark, is_left x y dark)
        | inr live ↦ let was = was_taken x y live in inr (sym was.state, was.gone)
      ]

  -- nothing that is left is within reach of the part
  keeps_apart : AreFurther reach (cell taken) (cell l')
  keeps_apart = λ x y u v live live_too within.
      let (k, low, is) = at_from_Contains taken _ (Contains-cell taken x y live) in
      let entry : Point × ℕ = (record { y = y; x = x }, cell taken x y) in
      live_too (r.spread k entry low u v (subst (λ (q : Point). IsNear reach q u v) (sym (ap (λ (e : Point × ℕ). e.0) (is entry))) within))

  start_taken : cell taken at.x at.y ≢ 0
  start_taken = λ z. start (sym (is_left at.x at.y z) ∙ r.start)

  -- where one of two pictures that share the part has the first cell, the other has none
  one_has_all : (g h : ℤ → ℤ → ℕ) → ((x y : ℤ) → cell taken x y ≡ g x y + h x y) → AreFurther reach g h → g at.x at.y ≢ 0 → (x y : ℤ) → h x y ≢ 0 → ⊥
  one_has_all g h sum further first x y other =
      let sum_here = sum x y in
      let live : cell taken x y ≢ 0 = λ z. other (omega (arith, sum_here, z)) in
      further x y x y
      ((was_taken x y live).area g first (λ a b u v ga fu within gz.
      let sum_ab = sum a b in
      let sum_uv = sum u v in
      let live_ab : cell taken a b ≢ 0 = λ z. ga (omega (arith, sum_ab, z)) in
      let dark_uv : cell l' u v ≡ 0 = elim (cases_eq (cell l' u v) 0) [ inl dark ↦ dark | inr still ↦ absurd (keeps_apart a b u v live_ab still within) ] in
      let taken_uv : cell taken u v ≢ 0 = λ z. fu (sym (is_left u v z) ∙ dark_uv) in
      further a b u v ga (λ hz. taken_uv (omega (arith, sum_uv, gz, hz))) within))
      other (omega (arith, ints), omega (arith, ints), omega (arith, ints), omega (arith, ints))

  undivided : IsUndivided (AreFurther reach) (cell taken)
  undivided = record {
    live = (at.x, at.y, start_taken);
    whole = λ g h live_g live_h sum further.
        elim (cases_eq (g at.x at.y) 0) [
          | inr first ↦ one_has_all g h sum further first live_h.0 live_h.1 live_h.2
          | inl none ↦
              let sum_here = sum at.x at.y in
              one_has_all h g (λ x y. let both = sum x y in omega (arith, both)) (λ x y u v hx gu within. further u v x y gu hx (omega (arith, ints, within), omega (arith, ints, within), omega (arith, ints, within), omega (arith, ints, within)))
              (λ z. start_taken (omega (arith, sum_here, none, z))) live_g.0 live_g.1 live_g.2
        ];
  }

  -- what is left comes after the first cell
  module _ (rising : IsRising l) (place : ℕ) (within : place < length l) (first : HoldsAt (IsLiveAt at) l place) (none : IsDarkBefore l place) where
    after_first : (u v : ℤ) → cell l' u v ≢ 0 → IsBefore at.x at.y u v
    after_first u v live =
        let entry : Point × ℕ = (record { y = v; x = u }, cell l' u v) in
        let (k, low, is) = at_from_Contains l' _ (Contains-cell l' u v live) in
        let point_is : (get_or l k entry).0 ≡ record { y = v; x = u } = sym (same_place l l' k entry r.takes.places low) ∙ ap (λ (e : Point × ℕ). e.0) (is entry) in
        let low_too : k < length l = omega (arith, low, same_length l l' r.takes.places) in
        let first_is = (first entry).0 in
        elim (cases_eq k place) [
          | inl same ↦
              let here : record { y = v; x = u } ≡ at = sym point_is ∙ ap (λ (i : ℕ). (get_or l i entry).0) same ∙ first_is in
              absurd (live (subst (λ (q : Point). cell l' q.x q.y ≡ 0) (sym here) r.start))
          | inr other ↦ elim (below_or_not k place) [
            | inl early ↦
                let was : cell l u v ≢ 0 = λ z. live (live_kept (IsChained reach (cell l) at) l [] l' taken r.takes u v live ∙ z) in
                let shown = cell-rising l (get_or l k entry) rising (Contains-get_or l k entry low_too) in
                absurd (was (subst (λ (q : Point). cell l q.x q.y ≡ 0) point_is (shown ∙ none k entry early)))
            | inr late ↦
                let before = rising_less l place k entry rising (omega (arith, late, other)) low_too in
                subst (λ (q : Point). IsBefore at.x at.y q.x q.y) point_is (subst (λ (q : Point). IsBefore q.x q.y (get_or l k entry).0.x (get_or l k entry).0.y) first_is before)
          ]
        ]

    pub part_from_reached : TakesPart reach at l l' taken
    part_from_reached = record {
      places = r.takes.places;
      shared = shared_out;
      undivided = undivided;
      apart = keeps_apart;
      order = (at.x, at.y, start_taken, λ u v live. Less_from_before at (record { y = v; x = u }) (after_first u v live));
      start = r.start;
    }

-- ---- the part as another list of the same cells

pub TakesPart-same : (reach : ℕ) (at : Point) (l l' p q : Picture) → IsSame q p → TakesPart reach at l l' p → TakesPart reach at l l' q
TakesPart-same reach at l l' p q same part = record {
  places = part.places;
  shared = λ x y. elim (part.shared x y) [ inl dark ↦ inl (same x y ∙ dark.0, dark.1) | inr live ↦ inr (same x y ∙ live.0, live.1) ];
  undivided = record {
    live = (part.undivided.live.0, part.undivided.live.1, λ z. part.undivided.live.2 (sym (same _ _) ∙ z));
    whole = λ g h live_g live_h sum further. part.undivided.whole g h live_g live_h (λ x y. sym (same x y) ∙ sum x y) further;
  };
  apart = λ x y u v live live_too within. part.apart x y u v (λ z. live (same x y ∙ z)) live_too within;
  order = (part.order.0, part.order.1, λ z. part.order.2 (sym (same _ _) ∙ z), part.order.3);
  start = part.start;
}

-- ---- one cell more that is looked round

-- a first cell is taken
module _ (reach : ℕ) (at : Point) (l t l' t' : Picture) (place : ℕ) (rising : IsRising l) (within : place < length l) (first : HoldsAt (IsLiveAt at) l place) (takes : HoldsAt (TakesCell place l t l' t') l place) (none : t ≡ []) where
  origin_entry : Point × ℕ
  origin_entry = (at, 0)

  pub first_taken : Takes (IsChained reach (cell l) at) l [] l' t'
  unfolding origin_entry
  first_taken =
      subst (λ (p : Picture). Takes (IsChained reach (cell l) at) l p l' t') none
      (Takes-cell (IsChained reach (cell l) at) place l t l' t' origin_entry rising within
      (subst (λ (q : Point). IsChained reach (cell l) at q.x q.y) (sym (first origin_entry).0) (λ g start steps. start))
      (takes origin_entry))

  pub first_gone : cell l' at.x at.y ≡ 0
  unfolding origin_entry
  first_gone =
      let dark = dark_at_place place place l t l' t' origin_entry within (takes origin_entry) (inl refl) in
      let within_left : place < length l' = omega (arith, same_length l l' first_taken.places) in
      let point_is = same_place l l' place origin_entry first_taken.places within_left ∙ (first origin_entry).0 in
      let shown = cell-rising l' (get_or l' place origin_entry) (rising_kept (IsChained reach (cell l) at) l [] l' t' first_taken rising) (Contains-get_or l' place origin_entry within_left) in
      subst (λ (q : Point). cell l' q.x q.y ≡ 0) point_is (shown ∙ dark)

-- and then what is near a cell that was taken
module _ (reach : ℕ) (at near : Point) (l0 l t l' t' : Picture) (next : ℕ) (d : Point × ℕ) (so_far : Takes (IsChained reach (cell l0) at) l0 [] l t) (within : next < length t) (is : (get_or t next d).0 ≡ near) (all : TakesAll (IsNear reach near) l t l' t') where
  chained_near : IsChained reach (cell l0) at near.x near.y
  chained_near =
      let listed = subst (λ (p : Picture). All (WasTaken (IsChained reach (cell l0) at) l0 l) p) (sym so_far.grown) so_far.from in
      let was : WasTaken (IsChained reach (cell l0) at) l0 l (get_or t next d) = listed next d within in
      subst (λ (q : Point). IsChained reach (cell l0) at q.x q.y) is was.area

  pub reached_more : Takes (IsChained reach (cell l0) at) l0 [] l' t'
  reached_more =
      Takes-trans (IsChained reach (cell l0) at) l0 [] l t l' t' so_far
      (Takes-wider (IsNear reach near) (IsChained reach (cell l0) at) l t l' t' all.takes
      (λ x y close live g start steps.
      let was : cell l0 x y ≢ 0 = λ z. live (live_kept (IsChained reach (cell l0) at) l0 [] l t so_far x y live ∙ z) in
      steps near.x near.y x y (chained_near g start steps) was close))

  -- the cells that were taken stay in their places
  kept_place : (k : ℕ) (d : Point × ℕ) → k < length t → get_or t' k d ≡ get_or t k d
  kept_place k d low = ap (λ (p : Picture). get_or p k d) all.takes.grown ∙ get_or_append_left t all.takes.more d k low

  pub spread_more : ((k : ℕ) (d : Point × ℕ) → k < next → (u v : ℤ) → IsNear reach (get_or t k d).0 u v → cell l u v ≡ 0) → (k : ℕ) (e : Point × ℕ) → k < next + 1 → (u v : ℤ) → IsNear reach (get_or t' k e).0 u v → cell l' u v ≡ 0
  spread_more dark k e low u v close =
      let close_before : IsNear reach (get_or t k e).0 u v = subst (λ (f : Point × ℕ). IsNear reach f.0 u v) (kept_place k e (omega (arith, low, within))) close in
      elim (below_or_not k next) [
        | inl early ↦ dark_kept (IsNear reach near) l t l' t' all.takes u v (dark k e early u v close_before)
        | inr late ↦
            let same : k ≡ next = omega arith in
            let here : (get_or t k e).0 ≡ near = ap (λ (i : ℕ). (get_or t i e).0) same ∙ ap (λ (f : Point × ℕ). f.0) (get_or_default t next e d within) ∙ is in
            all.none u v (subst (λ (q : Point). IsNear reach q u v) here close_before)
      ]

-- a listed cell that is live is shown
pub live_listed : (at : Point) (l : Picture) (place : ℕ) → IsRising l → place < length l → HoldsAt (IsLiveAt at) l place → cell l at.x at.y ≢ 0
live_listed at l place rising within first =
    let entry : Point × ℕ = (at, 0) in
    let shown = cell-rising l (get_or l place entry) rising (Contains-get_or l place entry within) in
    let is = first entry in
    λ z. is.1 (sym shown ∙ subst (λ (q : Point). cell l q.x q.y ≡ 0) (sym is.0) z)
