-- Squares that show a plane: they go on to do so, and so do their parts, joins and centres.
use Rattle.std.proofs.Common.{◌≡◌, ℕ, ◌⊎◌, inl, inr, suc, ◌+◌, ◌<◌, ◌≤◌, ◌^◌, Option, Some, None, Result, Ok, Err, IfOk, IfSome, List, length, get_or, slice_index, sym, ap, ap₂, subst, ◌∙◌, arith}
use Rattle.std.specs.Prelude.{ℤ, pos, ◌+ℤ◌}
use Rattle.std.proofs.lemmas.Int.{ints}
use Rattle.std.proofs.lemmas.List.{get_or_default}
use Rattle.std.proofs.Math.Nat.{two-pow-succ}
use Rattle.std.proofs.Math.Pow.{pow_mono}
use Rattle.ca_plane.specs.Prelude.{cells_after, from_corner, ShowsPlane}
use Rattle.ca_bricks.specs.declared.{cell_rule.CellRule.CellRule, trio.Trio.Trio}
use Rattle.ca_quad.specs.declared.node.Node.{Node}
use Rattle.ca_quad.specs.Prelude.{IsOf, joined_cells, cell_of, IsSoundStore, Grows, ShowsSquare, AreFour, AreQuarters}
use Rattle.ca_quad.proofs.Growth.{grows_on}
use Rattle.ca_quad.proofs.Cells.{cells_stay, of_stays}
use Rattle.ca_run.specs.Prelude.{centre, IsCentre, IsLeap, LeapResult, FullLeap, Centre, LeapOfFour, IsTrueResult}
use Rattle.ca_run.specs.inner.Shown.{ShowsAt, FourShow, ThreeShow, TwoShow, AreThree}
use Rattle.ca_bricks.specs.Prelude.{side}
use Rattle.ca_memo.specs.Prelude.{MemoView, HasFullLeap, HasSingle, RemembersNoMore, IsBoundedMemo, SlotsView, HasRecent}
use Rattle.ca_run.specs.inner.Tables.{IsLeaper}
use Rattle.ca_run.proofs.LeapResults.{AreFullLeaps, AreSingles, AreRecentCentres, AreRecentLeaps, full_leaps_of, singles_of, centres_of, leaps_of, leaper_with}
use Rattle.ca_plane.proofs.After.{after_again}
use Rattle.ca_run.proofs.ShowsPlane.{looks_together, looks_nw, looks_ne, looks_sw, looks_se, looks_centre}
use Rattle.ca_bricks.proofs.Overlaps.{quarters_each}
use Rattle.ca_plane.proofs.Shown.{looks_from}

-- ---- growth

-- four squares of one level
pub four_of : {nodes : List Node} {k nw ne sw se : ℕ} → k ≤ 124 → IsOf nodes nw k → IsOf nodes ne k → IsOf nodes sw k → IsOf nodes se k → AreFour nodes k nw ne sw se
four_of low nw ne sw se = record { is_low = low; is_nw = nw; is_ne = ne; is_sw = sw; is_se = se }

module _ (old new : List Node) (sound : IsSoundStore old) (grows : Grows old new) where
  pub at_stays : (id level : ℕ) (p : ℤ → ℤ → ℕ) (a b : ℤ) → ShowsAt old id level p a b → ShowsAt new id level p a b
  at_stays id level p a b h = record {
    is_square = of_stays old new sound grows id level h.is_square;
    looks = λ x y i j. ap (λ f. f x y) (cells_stay old new sound grows level id h.is_square) ∙ h.looks x y i j;
  }

  pub three_stay : (level : ℕ) (three : Trio ℕ) (p : ℤ → ℤ → ℕ) (a b : ℤ) → ThreeShow old level three p a b → ThreeShow new level three p a b
  three_stay level three p a b h = record {
    at_west = at_stays three.west level p a b h.at_west;
    at_middle = at_stays three.middle level p (a +ℤ side level) b h.at_middle;
    at_east = at_stays three.east level p (a +ℤ side level +ℤ side level) b h.at_east;
  }

  pub three_are : (level : ℕ) (three : Trio ℕ) → AreThree old level three → AreThree new level three
  three_are level three h = record {
    west = of_stays old new sound grows three.west level h.west;
    middle = of_stays old new sound grows three.middle level h.middle;
    east = of_stays old new sound grows three.east level h.east;
  }

  pub two_stay : (level west east : ℕ) (p : ℤ → ℤ → ℕ) (a b : ℤ) → TwoShow old level west east p a b → TwoShow new level west east p a b
  two_stay level west east p a b h = record {
    at_west = at_stays west level p a b h.at_west;
    at_east = at_stays east level p (a +ℤ side level) b h.at_east;
  }

  pub centre_stays : (next : List ℕ → ℕ) (id k j result_id : ℕ) → IsCentre next old id k j result_id → IsCentre next new id k j result_id
  centre_stays next id k j result_id h = record {
    in_time = h.in_time;
    is_square = of_stays old new sound grows id (suc (suc k)) h.is_square;
    is_result = of_stays old new sound grows result_id (suc k) h.is_result;
    has_cells = λ u v s t.
        ap (λ f. f u v) (cells_stay old new sound grows (suc k) result_id h.is_result)
        ∙ (h.has_cells u v s t ∙ ap (λ f. centre next f (2 ^ k) (2 ^ j) u v) (sym (cells_stay old new sound grows (suc (suc k)) id h.is_square)));
  }

  -- what an old square shows now it showed before
  at_was : (id level : ℕ) (p : ℤ → ℤ → ℕ) (a b : ℤ) → IsOf old id level → ShowsAt new id level p a b → ShowsAt old id level p a b
  at_was id level p a b square h = record {
    is_square = square;
    looks = λ x y i j. ap (λ f. f x y) (sym (cells_stay old new sound grows level id square)) ∙ h.looks x y i j;
  }

  pub four_was : (k nw ne sw se : ℕ) (p : ℤ → ℤ → ℕ) (a b : ℤ) → AreFour old k nw ne sw se → FourShow new k nw ne sw se p a b → FourShow old k nw ne sw se p a b
  four_was k nw ne sw se p a b are h =
      quarters_each _ _ _ _ _ _ h (λ u v. at_was nw k p u v are.is_nw) (λ u v. at_was ne k p u v are.is_ne) (λ u v. at_was sw k p u v are.is_sw) (λ u v. at_was se k p u v are.is_se)

  pub four_stay : (k nw ne sw se : ℕ) (p : ℤ → ℤ → ℕ) (a b : ℤ) → FourShow old k nw ne sw se p a b → FourShow new k nw ne sw se p a b
  four_stay k nw ne sw se p a b h = quarters_each _ _ _ _ _ _ h (at_stays nw k p) (at_stays ne k p) (at_stays sw k p) (at_stays se k p)

  pub four_go : (k nw ne sw se : ℕ) → AreFour old k nw ne sw se → AreFour new k nw ne sw se
  four_go k nw ne sw se h = record {
    is_low = h.is_low;
    is_nw = of_stays old new sound grows nw k h.is_nw;
    is_ne = of_stays old new sound grows ne k h.is_ne;
    is_sw = of_stays old new sound grows sw k h.is_sw;
    is_se = of_stays old new sound grows se k h.is_se;
  }

  pub four_there : (k nw ne sw se : ℕ) → k ≤ 124 → IsOf old nw k → IsOf old ne k → IsOf old sw k → IsOf old se k → AreFour new k nw ne sw se
  four_there k nw ne sw se low f g h i = four_go k nw ne sw se (four_of low f g h i)

  leap_stays : (next : List ℕ → ℕ) (k nw ne sw se result_id : ℕ) → IsLeap next old k nw ne sw se result_id → IsLeap next new k nw ne sw se result_id
  leap_stays next k nw ne sw se result_id h = record {
    are_four = four_go (suc k) nw ne sw se h.are_four;
    is_result = of_stays old new sound grows result_id (suc k) h.is_result;
    shows = λ p a b four.
        at_stays result_id (suc k) (cells_after next p (2 ^ k)) (a +ℤ side k) (b +ℤ side k) (h.shows p a b (four_was (suc k) nw ne sw se p a b h.are_four four));
  }

  pub result_stays : (next : List ℕ → ℕ) (result : LeapResult) → IsTrueResult next old result → IsTrueResult next new result
  result_stays next (FullLeap square centre) h = (h.0, centre_stays next square h.0 h.0 centre h.1)
  result_stays next (Centre square j centre) h = (h.0, centre_stays next square h.0 j centre h.1)
  result_stays next (LeapOfFour nw ne sw se middle) h = (h.0, leap_stays next h.0 nw ne sw se middle h.1)

-- a leaper stays one as its store grows
pub leaper_stays : {old new : List Node} {next : List ℕ → ℕ} {S : Type 0} {memo : MemoView} {slots : SlotsView (ℕ × ℕ)} {leaps : SlotsView (ℕ × ℕ × ℕ × ℕ)} {capacity : ℕ} {cell_rule : Option CellRule}
    → IsLeaper next S old memo slots leaps capacity cell_rule → Grows old new → IsLeaper next S new memo slots leaps capacity cell_rule
leaper_stays h grows = record {
  rule = h.rule;
  squares = grows.sound;
  remembers = record { true_results = λ result c. result_stays _ _ h.squares grows _ result (h.remembers.true_results result c); most = h.remembers.most };
  bounded = h.bounded;
  by_cells = h.by_cells;
}

-- four squares that were made one after another
module _ (s1 s2 s3 s4 : List Node) (sound : IsSoundStore s1) (g2 : Grows s1 s2) (g3 : Grows s2 s3) (g4 : Grows s3 s4) (k nw ne sw se : ℕ) where
  from2 : Grows s2 s4
  from2 = grows_on s2 s3 s4 g3 g4

  from1 : Grows s1 s4
  from1 = grows_on s1 s2 s4 g2 from2

  pub four_made : (p : ℤ → ℤ → ℕ) (a b : ℤ) → ShowsAt s1 nw k p a b → ShowsAt s2 ne k p (a +ℤ side k) b → ShowsAt s3 sw k p a (b +ℤ side k) → ShowsAt s4 se k p (a +ℤ side k) (b +ℤ side k)
      → FourShow s4 k nw ne sw se p a b
  four_made p a b at_nw at_ne at_sw at_se = record {
    at_nw = at_stays s1 s4 sound from1 nw k p a b at_nw;
    at_ne = at_stays s2 s4 g2.sound from2 ne k p (a +ℤ side k) b at_ne;
    at_sw = at_stays s3 s4 g3.sound g4 sw k p a (b +ℤ side k) at_sw;
    at_se = at_se;
  }

  pub four_are : k ≤ 124 → IsOf s1 nw k → IsOf s2 ne k → IsOf s3 sw k → IsOf s4 se k → AreFour s4 k nw ne sw se
  four_are low is_nw is_ne is_sw is_se = record {
    is_low = omega (arith, low);
    is_nw = of_stays s1 s4 sound from1 nw k is_nw;
    is_ne = of_stays s2 s4 g2.sound from2 ne k is_ne;
    is_sw = of_stays s3 s4 g3.sound g4 sw k is_sw;
    is_se = is_se;
  }

-- the same from a place by another name
pub at_from : (nodes : List Node) (id level : ℕ) (p : ℤ → ℤ → ℕ) (a b c d : ℤ) → a ≡ c → b ≡ d → ShowsAt nodes id level p a b → ShowsAt nodes id level p c d
at_from nodes id level p a b c d e f h = record { is_square = h.is_square; looks = looks_from (2 ^ level) (cell_of nodes level id) p a b c d e f h.looks }

-- ---- joins and parts

-- the square of four that show a plane shows it
pub joined_at : {E : Type 0} (old new : List Node) (r : Result ℕ E) (k nw ne sw se : ℕ) (p : ℤ → ℤ → ℕ) (a b : ℤ) → FourShow old k nw ne sw se p a b
    → IfOk r (λ id. ShowsSquare new id (suc k) (joined_cells (2 ^ k) (cell_of old k nw) (cell_of old k ne) (cell_of old k sw) (cell_of old k se)))
    → IfOk r (λ id. ShowsAt new id (suc k) p a b)
joined_at old new (Err e) k nw ne sw se p a b four shows = tt
joined_at old new (Ok id) k nw ne sw se p a b four shows = record {
  is_square = shows.is_square;
  looks = λ x y i j.
      shows.has_cells x y
      ∙ looks_together (2 ^ k) (cell_of old k nw) (cell_of old k ne) (cell_of old k sw) (cell_of old k se) p a b four.at_nw.looks four.at_ne.looks four.at_sw.looks four.at_se.looks x y
      (subst (λ n. x < n) (two-pow-succ k) i) (subst (λ n. y < n) (two-pow-succ k) j);
}

-- the square of four is of the level above
pub joined_of : {E : Type 0} (new : List Node) (r : Result ℕ E) (k : ℕ) (cells : ℕ → ℕ → ℕ) → IfOk r (λ id. ShowsSquare new id (suc k) cells) → IfOk r (λ id. IsOf new id (suc k))
joined_of new (Err e) k cells shows = tt
joined_of new (Ok id) k cells shows = shows.is_square

-- the parts of a square that shows a plane show it
pub parts_at : (nodes : List Node) (id k : ℕ) (quarters : List ℕ) (p : ℤ → ℤ → ℕ) (a b : ℤ) → AreQuarters nodes id k quarters → ShowsAt nodes id (suc k) p a b
    → FourShow nodes k (slice_index quarters 0) (slice_index quarters 1) (slice_index quarters 2) (slice_index quarters 3) p a b
parts_at nodes id k quarters p a b are h =
    let nw = slice_index quarters 0 in
    let ne = slice_index quarters 1 in
    let sw = slice_index quarters 2 in
    let se = slice_index quarters 3 in
    let cells = cell_of nodes k in
    let all : ShowsPlane (2 ^ k + 2 ^ k) (joined_cells (2 ^ k) (cells nw) (cells ne) (cells sw) (cells se)) p a b =
    λ x y i j. sym (are.has_cells x y) ∙ h.looks x y (subst (λ n. x < n) (sym (two-pow-succ k)) i) (subst (λ n. y < n) (sym (two-pow-succ k)) j)
    in
    record {
      at_nw = record { is_square = are.is_nw; looks = looks_nw (2 ^ k) (cells nw) (cells ne) (cells sw) (cells se) p a b all };
      at_ne = record { is_square = are.is_ne; looks = looks_ne (2 ^ k) (cells nw) (cells ne) (cells sw) (cells se) p a b all };
      at_sw = record { is_square = are.is_sw; looks = looks_sw (2 ^ k) (cells nw) (cells ne) (cells sw) (cells se) p a b all };
      at_se = record { is_square = are.is_se; looks = looks_se (2 ^ k) (cells nw) (cells ne) (cells sw) (cells se) p a b all };
    }

-- ---- centres

-- the centre of a square that shows a plane shows what the plane is 2 ^ j generations later
pub centre_at : (next : List ℕ → ℕ) (old new : List Node) → IsSoundStore old → Grows old new → (id k j result_id : ℕ) (p : ℤ → ℤ → ℕ) (a b : ℤ) → ShowsAt old id (suc (suc k)) p a b → IsCentre next new id k j result_id
    → ShowsAt new result_id (suc k) (cells_after next p (2 ^ j)) (a +ℤ side k) (b +ℤ side k)
centre_at next old new sound grows id k j result_id p a b shows is_centre =
    let up = two-pow-succ k in
    let up_again = two-pow-succ (suc k) in
    let wide : 2 ^ suc (suc k) ≡ 2 ^ k + 2 ^ k + (2 ^ k + 2 ^ k) = omega arith in
    let there = at_stays old new sound grows id (suc (suc k)) p a b shows in
    let looks = looks_centre next (2 ^ k) (2 ^ j) (cell_of new (suc (suc k)) id) (cell_of new (suc k) result_id) p a b (pow_mono is_centre.in_time)
    (subst (λ n. ShowsPlane n (cell_of new (suc (suc k)) id) p a b) wide there.looks)
    (λ u v s t. is_centre.has_cells u v (subst (λ n. u < n) (sym up) s) (subst (λ n. v < n) (sym up) t)) in
    record { is_square = is_centre.is_result; looks = subst (λ n. ShowsPlane n (cell_of new (suc k) result_id) (cells_after next p (2 ^ j)) (a +ℤ side k) (b +ℤ side k)) (sym up) looks }

-- a square shows its own cells from (0, 0) onwards
pub at_corner : (nodes : List Node) (id level : ℕ) → IsOf nodes id level → ShowsAt nodes id level (from_corner (cell_of nodes level id)) (pos 0) (pos 0)
at_corner nodes id level h = record {
  is_square = h;
  looks = λ x y i j.
      let ax : pos 0 +ℤ pos x ≡ pos x = omega (arith, ints) in
      let by : pos 0 +ℤ pos y ≡ pos y = omega (arith, ints) in
      sym (ap₂ (from_corner (cell_of nodes level id)) ax by);
}

-- a square that shows the plane of another's cells later, a quarter of the side further in, is its centre
pub is_centre_at : (next : List ℕ → ℕ) (old new : List Node) → IsSoundStore old → Grows old new → (id k j m n result_id : ℕ) → IsOf old id (suc (suc k)) → j ≤ k → m + n ≡ 2 ^ j
    → ShowsAt new result_id (suc k) (cells_after next (cells_after next (from_corner (cell_of old (suc (suc k)) id)) m) n) (pos 0 +ℤ side k) (pos 0 +ℤ side k)
    → IsCentre next new id k j result_id
is_centre_at next old new sound grows id k j m n result_id square few sum shows = record {
  in_time = few;
  is_square = of_stays old new sound grows id (suc (suc k)) square;
  is_result = shows.is_square;
  has_cells = λ u v s t.
      let p = from_corner (cell_of old (suc (suc k)) id) in
      let ax : (pos 0 +ℤ side k) +ℤ pos u ≡ pos (2 ^ k + u) = omega (arith, ints) in
      let by : (pos 0 +ℤ side k) +ℤ pos v ≡ pos (2 ^ k + v) = omega (arith, ints) in
      shows.looks u v s t ∙ ap₂ (cells_after next (cells_after next p m) n) ax by ∙ after_again next p m n (pos (2 ^ k + u)) (pos (2 ^ k + v))
      ∙ ap (λ i. cells_after next p i (pos (2 ^ k + u)) (pos (2 ^ k + v))) sum
      ∙ ap (λ f. centre next f (2 ^ k) (2 ^ j) u v) (sym (cells_stay old new sound grows (suc (suc k)) id square));
}

-- ---- what is remembered

-- a centre of a square of some level is that of its level
centre_of : (next : List ℕ → ℕ) (nodes : List Node) (id k j result_id : ℕ) → ((l : ℕ) × IsCentre next nodes id l j result_id) → IsOf nodes id (suc (suc k)) → IsCentre next nodes id k j result_id
centre_of next nodes id k j result_id there square =
    let same : there.0 ≡ k = omega (arith, there.1.is_square.is_level, square.is_level) in
    subst (λ l. IsCentre next nodes id l j result_id) same there.1

-- what is remembered for a square is its centre
pub recalled : (next : List ℕ → ℕ) (nodes : List Node) (memo : MemoView) (id k j : ℕ) (found : Option ℕ) → AreSingles next nodes memo → IsOf nodes id (suc (suc k))
    → IfSome found (HasSingle memo id j) → IfSome found (IsCentre next nodes id k j)
recalled next nodes memo id k j None all square e = tt
recalled next nodes memo id k j (Some result_id) all square e = centre_of next nodes id k j result_id (all id j result_id e) square

-- and so is what a slot has for it
pub kept_recalled : (next : List ℕ → ℕ) (nodes : List Node) (slots : List (Option ((ℕ × ℕ) × ℕ))) (id k j : ℕ) (found : Option ℕ) → AreRecentCentres next nodes slots → IsOf nodes id (suc (suc k))
    → IfSome found (HasRecent slots (id, j)) → IfSome found (IsCentre next nodes id k j)
kept_recalled next nodes slots id k j None all square e = tt
kept_recalled next nodes slots id k j (Some result_id) all square e = centre_of next nodes id k j result_id (all id j result_id e) square

-- after a write, what is remembered by squares and times are still their centres
centres_more : (next : List ℕ → ℕ) (nodes : List Node) (Was Is : ℕ → ℕ → ℕ → Type 0) (id k j result_id : ℕ) → ((other time centre : ℕ) → Was other time centre → (l : ℕ) × IsCentre next nodes other l time centre) → IsCentre next nodes id k j result_id
    → ((other time centre : ℕ) → Is other time centre → Was other time centre ⊎ ((other ≡ id) × (time ≡ j) × (centre ≡ result_id))) → (other time centre : ℕ) → Is other time centre → (l : ℕ) × IsCentre next nodes other l time centre
centres_more next nodes Was Is id k j result_id all this more other time centre h = elim (more other time centre h) [
  | inl e ↦ all other time centre e
  | inr same ↦ (
    k,
    subst (λ x. IsCentre next nodes other k time x) (sym same.2)
        (subst (λ x. IsCentre next nodes other k x result_id) (sym same.1) (subst (λ x. IsCentre next nodes x k j result_id) (sym same.0) this)),
  )
]

-- after a write, what holds of the results in slots and of the new one holds of all
results_more : {Key : Type 0} (Holds : Key → ℕ → Type 0) (old new : List (Option (Key × ℕ))) (key : Key) (square : ℕ) → ((other : Key) (any : ℕ) → HasRecent old other any → Holds other any) → Holds key square
    → ((other : Key) (any : ℕ) → HasRecent new other any → HasRecent old other any ⊎ ((other ≡ key) × (any ≡ square))) → (other : Key) (any : ℕ) → HasRecent new other any → Holds other any
results_more Holds old new key square all this more other any h = elim (more other any h) [
  | inl was ↦ all other any was
  | inr same ↦ subst (λ k. Holds k any) (sym same.0) (subst (λ s. Holds key s) (sym same.1) this)
]

-- they are still centres
pub kept_more : (next : List ℕ → ℕ) (nodes : List Node) (old new : List (Option ((ℕ × ℕ) × ℕ))) (id k j result_id : ℕ) → AreRecentCentres next nodes old → IsCentre next nodes id k j result_id
    → ((key : ℕ × ℕ) (any : ℕ) → HasRecent new key any → HasRecent old key any ⊎ ((key ≡ (id, j)) × (any ≡ result_id))) → AreRecentCentres next nodes new
kept_more next nodes old new id k j result_id all this more other time =
    results_more (λ key any. (l : ℕ) × IsCentre next nodes key.0 l key.1 any) old new (id, j) result_id (λ key. all key.0 key.1) (k, this) more (other, time)

-- what a slot has for four squares is the one in their middle
pub leap_recalled : (next : List ℕ → ℕ) (nodes : List Node) (slots : List (Option ((ℕ × ℕ × ℕ × ℕ) × ℕ))) (k nw ne sw se : ℕ) (found : Option ℕ) → AreRecentLeaps next nodes slots → AreFour nodes (suc k) nw ne sw se
    → IfSome found (HasRecent slots (nw, ne, sw, se)) → IfSome found (IsLeap next nodes k nw ne sw se)
leap_recalled next nodes slots k nw ne sw se None all four e = tt
leap_recalled next nodes slots k nw ne sw se (Some result_id) all four e =
    let there = all nw ne sw se result_id e in
    let same : there.0 ≡ k = omega (arith, there.1.are_four.is_nw.is_level, four.is_nw.is_level) in
    subst (λ l. IsLeap next nodes l nw ne sw se result_id) same there.1

-- and so after a write
pub leaps_more : (next : List ℕ → ℕ) (nodes : List Node) (old new : List (Option ((ℕ × ℕ × ℕ × ℕ) × ℕ))) (k nw ne sw se result_id : ℕ) → AreRecentLeaps next nodes old → IsLeap next nodes k nw ne sw se result_id
    → ((key : ℕ × ℕ × ℕ × ℕ) (any : ℕ) → HasRecent new key any → HasRecent old key any ⊎ ((key ≡ (nw, ne, sw, se)) × (any ≡ result_id))) → AreRecentLeaps next nodes new
leaps_more next nodes old new k nw ne sw se result_id all this more a b c d =
    results_more (λ key any. (l : ℕ) × IsLeap next nodes l key.0 key.1 key.2 key.3 any) old new (nw, ne, sw, se) result_id (λ key. all key.0 key.1 key.2 key.3) (k, this) more (a, b, c, d)

-- what its page has for a square is its centre
pub full_leap_recalled : (next : List ℕ → ℕ) (nodes : List Node) (memo : MemoView) (id k j : ℕ) (found : Option ℕ) → j ≡ k → AreFullLeaps next nodes memo → IsOf nodes id (suc (suc k))
    → IfSome found (HasFullLeap memo id) → IfSome found (IsCentre next nodes id k j)
full_leap_recalled next nodes memo id k j None time all square e = tt
full_leap_recalled next nodes memo id k j (Some result_id) time all square e =
    let there = all id result_id e in
    let same : there.0 ≡ k = omega (arith, there.1.is_square.is_level, square.is_level) in
    subst (λ t. IsCentre next nodes id k t result_id) (sym time) (subst (λ l. IsCentre next nodes id l l result_id) same there.1)

-- and so after a write
pub full_leaps_more : (next : List ℕ → ℕ) (nodes : List Node) (old new : MemoView) (id k j result_id : ℕ) → j ≡ k → AreFullLeaps next nodes old → IsCentre next nodes id k j result_id
    → ((other centre : ℕ) → HasFullLeap new other centre → HasFullLeap old other centre ⊎ ((other ≡ id) × (centre ≡ result_id))) → AreFullLeaps next nodes new
full_leaps_more next nodes old new id k j result_id time all this more other centre h = elim (more other centre h) [
  | inl e ↦ all other centre e
  | inr same ↦ (
    k,
    subst (λ t. IsCentre next nodes other k t centre) time
        (subst (λ x. IsCentre next nodes other k j x) (sym same.1) (subst (λ x. IsCentre next nodes x k j result_id) (sym same.0) this)),
  )
]

-- and so is a single one after a write
pub singles_more : (next : List ℕ → ℕ) (nodes : List Node) (old new : MemoView) (id k j result_id : ℕ) → AreSingles next nodes old → IsCentre next nodes id k j result_id
    → ((other time centre : ℕ) → HasSingle new other time centre → HasSingle old other time centre ⊎ ((other ≡ id) × (time ≡ j) × (centre ≡ result_id))) → AreSingles next nodes new
singles_more next nodes old new id k j result_id all this more = centres_more next nodes (HasSingle old) (HasSingle new) id k j result_id all this more

-- what a look-up leaves
pub leaper_looked : {next : List ℕ → ℕ} {S : Type 0} {nodes : List Node} {old new : MemoView} {slots : SlotsView (ℕ × ℕ)} {leaps : SlotsView (ℕ × ℕ × ℕ × ℕ)} {capacity : ℕ} {cell_rule : Option CellRule}
    → RemembersNoMore old new → IsBoundedMemo new.pages new.order → IsLeaper next S nodes old slots leaps capacity cell_rule → IsLeaper next S nodes new slots leaps capacity cell_rule
leaper_looked {next} {nodes} {old} {new} {slots} {leaps} f bounded h =
    let all = h.remembers.true_results in
    leaper_with h new slots leaps (λ id result_id e. full_leaps_of next nodes old slots leaps all id result_id (f.full_leaps id result_id e)) (λ id j result_id e. singles_of next nodes old slots leaps all id j result_id (f.singles id j result_id e))
    (centres_of next nodes old slots leaps all) (leaps_of next nodes old slots leaps all)
    (record { within = omega (arith, f.capacity, h.bounded.within); entries = bounded; few_centres = h.bounded.few_centres; few_leaps = h.bounded.few_leaps })

-- ---- parts

-- the parts that a call gives of a square that shows a plane show it
pub quarters_at : (inside nodes : List Node) → inside ≡ nodes → (id k : ℕ) (quarters : List ℕ) (d e f g : ℕ) (p : ℤ → ℤ → ℕ) (a b : ℤ) → length quarters ≡ 4 → AreQuarters inside id k quarters → ShowsAt nodes id (suc k) p a b
    → FourShow nodes k (get_or quarters 0 d) (get_or quarters 1 e) (get_or quarters 2 f) (get_or quarters 3 g) p a b
quarters_at inside nodes same id k quarters d e f g p a b four are h =
    let nw : get_or quarters 0 d ≡ slice_index quarters 0 = get_or_default quarters 0 d 0 (omega arith) in
    let ne : get_or quarters 1 e ≡ slice_index quarters 1 = get_or_default quarters 1 e 0 (omega arith) in
    let sw : get_or quarters 2 f ≡ slice_index quarters 2 = get_or_default quarters 2 f 0 (omega arith) in
    let se : get_or quarters 3 g ≡ slice_index quarters 3 = get_or_default quarters 3 g 0 (omega arith) in
    rw (nw, ne, sw, se) (parts_at nodes id k quarters p a b (subst (λ n. AreQuarters n id k quarters) same are) h)
