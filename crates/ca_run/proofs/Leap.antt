-- The steps of a leap by nine squares: which squares show which places.
use Rattle.std.proofs.Common.{◌≡◌, ℕ, suc, ◌+◌, ◌≤◌, ◌^◌, Result, Ok, Err, IfOk, List, sym, ap, subst, ◌∙◌}
use Rattle.std.specs.Prelude.{ℤ, pos, ◌+ℤ◌}
use Rattle.ca_plane.specs.Prelude.{cells_after, from_corner}
use Rattle.ca_quad.specs.declared.node.Node.{Node}
use Rattle.ca_quad.specs.Prelude.{IsOf, cell_of, IsSoundStore, Grows, AreFour}
use Rattle.ca_quad.proofs.Growth.{grows_on}
use Rattle.ca_quad.proofs.Cells.{of_stays}
use Rattle.ca_bricks.specs.declared.trio.{Trio.Trio, Rows.Rows}
use Rattle.ca_run.specs.Prelude.{IsCentre, IsLeap, LeaperView, LeaperGrows}
use Rattle.ca_run.specs.inner.Shown.{ShowsAt, FourShow, AreThree, ThreeShow, TwoShow, AreNine, NineShow}
use Rattle.ca_bricks.specs.Prelude.{side}
use Rattle.ca_bricks.proofs.Overlaps.{pair_lies, trio_lies, rows_lie, four_lie}
use Rattle.ca_run.proofs.ShownPlanes.{two_stay, at_stays, three_stay, three_are, four_was, four_stay, four_go, centre_at, is_centre_at, at_corner}

-- the centre that a call gives shows the plane later
pub centre_ok : {E : Type 0} (next : List ℕ → ℕ) (old new : List Node) → IsSoundStore old → Grows old new → (r : Result ℕ E) (id k j : ℕ) (p : ℤ → ℤ → ℕ) (a b : ℤ) → ShowsAt old id (suc (suc k)) p a b
    → IfOk r (IsCentre next new id k j) → IfOk r (λ result_id. ShowsAt new result_id (suc k) (cells_after next p (2 ^ j)) (a +ℤ side k) (b +ℤ side k))
centre_ok next old new sound grows (Err e) id k j p a b shows is_centre = tt
centre_ok next old new sound grows (Ok result_id) id k j p a b shows is_centre = centre_at next old new sound grows id k j result_id p a b shows is_centre

-- the square that a leap of four gives shows the plane later
pub leap_shows : {E : Type 0} (next : List ℕ → ℕ) (old new : List Node) → IsSoundStore old → Grows old new → (r : Result ℕ E) (k nw ne sw se : ℕ) (p : ℤ → ℤ → ℕ) (a b : ℤ) → FourShow old (suc k) nw ne sw se p a b
    → IfOk r (IsLeap next new k nw ne sw se) → IfOk r (λ result_id. ShowsAt new result_id (suc k) (cells_after next p (2 ^ k)) (a +ℤ side k) (b +ℤ side k))
leap_shows next old new sound grows (Err e) k nw ne sw se p a b four leap = tt
leap_shows next old new sound grows (Ok result_id) k nw ne sw se p a b four leap = leap.shows p a b (four_stay old new sound grows (suc k) nw ne sw se p a b four)

pub leap_square : {E : Type 0} (next : List ℕ → ℕ) (new : List Node) (r : Result ℕ E) (k nw ne sw se : ℕ) → IfOk r (IsLeap next new k nw ne sw se) → IfOk r (λ result_id. IsOf new result_id (suc k))
leap_square next new (Err e) k nw ne sw se leap = tt
leap_square next new (Ok result_id) k nw ne sw se leap = leap.is_result

-- the centre of the square of four is the one in their middle
pub leap_of_join : {Rule : Type 0} (next_of : Rule → List ℕ → ℕ) (old mid new : LeaperView Rule) → IsSoundStore old.nodes → LeaperGrows Rule old mid → LeaperGrows Rule mid new → (id result_id k nw ne sw se : ℕ) → AreFour old.nodes (suc k) nw ne sw se
    → ((p : ℤ → ℤ → ℕ) (a b : ℤ) → FourShow old.nodes (suc k) nw ne sw se p a b → ShowsAt mid.nodes id (suc (suc k)) p a b) → IsCentre (next_of mid.rule) new.nodes id k k result_id → IsLeap (next_of old.rule) new.nodes k nw ne sw se result_id
leap_of_join next_of old mid new sound g h id result_id k nw ne sw se four joined is =
    let next = next_of old.rule in
    let centre = subst (λ f. IsCentre f new.nodes id k k result_id) (ap next_of g.rule) is in
    let grows = grows_on old.nodes mid.nodes new.nodes g.grows h.grows in
    record {
      are_four = four_go old.nodes new.nodes sound grows (suc k) nw ne sw se four;
      is_result = centre.is_result;
      shows = λ p a b show. centre_at next mid.nodes new.nodes g.grows.sound h.grows id k k result_id p a b (joined p a b (four_was old.nodes new.nodes sound grows (suc k) nw ne sw se p a b four show)) centre;
    }

-- what shows a square's own cells later is its centre
pub nine_centre : {E : Type 0} (next : List ℕ → ℕ) (old new : List Node) → IsSoundStore old → Grows old new → (r : Result ℕ E) (id below k m n j : ℕ) → suc below ≡ k → IsOf old id (suc (suc k)) → j ≤ k → m + n ≡ 2 ^ j
    → ((p : ℤ → ℤ → ℕ) (a b : ℤ) → ShowsAt old id (suc (suc (suc below))) p a b → IfOk r (λ result_id. ShowsAt new result_id (suc (suc below)) (cells_after next (cells_after next p m) n) (a +ℤ side (suc below)) (b +ℤ side (suc below))))
    → IfOk r (IsCentre next new id k j)
nine_centre next old new sound grows r id below k m n j up square few sum shows =
    given r (subst (λ l. ((p : ℤ → ℤ → ℕ) (a b : ℤ) → ShowsAt old id (suc (suc l)) p a b → IfOk r (λ result_id. ShowsAt new result_id (suc l) (cells_after next (cells_after next p m) n) (a +ℤ side l) (b +ℤ side l)))) up shows
    (from_corner (cell_of old (suc (suc k)) id)) (pos 0) (pos 0) (at_corner old id (suc (suc k)) square))
  where
    given : {E : Type 0} (r : Result ℕ E) → IfOk r (λ result_id. ShowsAt new result_id (suc k) (cells_after next (cells_after next (from_corner (cell_of old (suc (suc k)) id)) m) n) (pos 0 +ℤ side k) (pos 0 +ℤ side k))
        → IfOk r (IsCentre next new id k j)
    given (Err e) h = tt
    given (Ok result_id) h = is_centre_at next old new sound grows id k j m n result_id square few sum h

-- the rule stays what it was
pub rule_on : {Rule : Type 0} {old new : LeaperView Rule} {next : List ℕ → ℕ} (next_of : Rule → List ℕ → ℕ) → next ≡ next_of old.rule → LeaperGrows Rule old new → next ≡ next_of new.rule
rule_on next_of e on = e ∙ sym (ap next_of on.rule)

-- three squares that were made one after another are there
pub trio_are : {Rule : Type 0} {l0 l1 l2 l3 : LeaperView Rule} → LeaperGrows Rule l0 l1 → LeaperGrows Rule l1 l2 → LeaperGrows Rule l2 l3 → (k : ℕ) (three : Trio ℕ)
    → IsOf l1.nodes three.west k → IsOf l2.nodes three.middle k → IsOf l3.nodes three.east k → AreThree l3.nodes k three
trio_are f g h k three west middle east = record {
  west = of_stays _ _ f.grows.sound (grows_on _ _ _ g.grows h.grows) three.west k west;
  middle = of_stays _ _ g.grows.sound h.grows three.middle k middle;
  east = east;
}

-- and nine, row by row
pub nine_are : {Rule : Type 0} {l0 l1 l2 l3 : LeaperView Rule} → LeaperGrows Rule l0 l1 → LeaperGrows Rule l1 l2 → LeaperGrows Rule l2 l3 → (k : ℕ) (rows : Rows ℕ)
    → AreThree l1.nodes k rows.north → AreThree l2.nodes k rows.middle → AreThree l3.nodes k rows.south → AreNine l3.nodes k rows
nine_are f g h k rows north middle south = record {
  north = three_are _ _ f.grows.sound (grows_on _ _ _ g.grows h.grows) k rows.north north;
  middle = three_are _ _ g.grows.sound h.grows k rows.middle middle;
  south = south;
}

module _ (k : ℕ) where
  -- centres of two squares that lie side by side and overlap by result_id
  pub pair_at : {old mid new : List Node} → Grows old mid → Grows mid new → (west east : ℕ) (p : ℤ → ℤ → ℕ) (a b c : ℤ) → ShowsAt mid west (suc k) p (a +ℤ side k) c → ShowsAt new east (suc k) p ((a +ℤ side (suc k)) +ℤ side k) c
      → TwoShow new (suc k) west east p (a +ℤ side k) c
  pair_at {new = new} f g west east p a b c w e = pair_lies (λ id. ShowsAt new id (suc k)) k west east p a c (at_stays _ _ f.sound g west (suc k) p (a +ℤ side k) c w) e

  -- and of three, by three calls, each of which goes by the rule that the first one went by
  pub trio_at : {Rule : Type 0} {l0 l1 l2 l3 : LeaperView Rule} {next : List ℕ → ℕ} (next_of : Rule → List ℕ → ℕ) → next ≡ next_of l0.rule
      → LeaperGrows Rule l0 l1 → LeaperGrows Rule l1 l2 → LeaperGrows Rule l2 l3 → (three : Trio ℕ) (p : ℤ → ℤ → ℕ) (a c : ℤ) → ShowsAt l1.nodes three.west (suc k) p (a +ℤ side k) c
      → (next ≡ next_of l1.rule → Grows l0.nodes l1.nodes → ShowsAt l2.nodes three.middle (suc k) p ((a +ℤ side (suc k)) +ℤ side k) c)
      → (next ≡ next_of l2.rule → Grows l0.nodes l2.nodes → ShowsAt l3.nodes three.east (suc k) p ((a +ℤ side (suc (suc k))) +ℤ side k) c) → ThreeShow l3.nodes (suc k) three p (a +ℤ side k) c
  trio_at {l3 = l3} next_of e f g h three p a c west middle east =
      let e1 = rule_on next_of e f in
      trio_lies (λ id. ShowsAt l3.nodes id (suc k)) k three p a c (at_stays _ _ f.grows.sound (grows_on _ _ _ g.grows h.grows) three.west (suc k) p (a +ℤ side k) c west)
      (at_stays _ _ g.grows.sound h.grows three.middle (suc k) p ((a +ℤ side (suc k)) +ℤ side k) c (middle e1 f.grows)) (east (rule_on next_of e1 g) (grows_on _ _ _ f.grows g.grows))

  -- and of nine
  pub nine_at : {Rule : Type 0} {l0 l1 l2 l3 : LeaperView Rule} {next : List ℕ → ℕ} (next_of : Rule → List ℕ → ℕ) → next ≡ next_of l0.rule
      → LeaperGrows Rule l0 l1 → LeaperGrows Rule l1 l2 → LeaperGrows Rule l2 l3 → (rows : Rows ℕ) (p : ℤ → ℤ → ℕ) (c b : ℤ) → ThreeShow l1.nodes (suc k) rows.north p c (b +ℤ side k)
      → (next ≡ next_of l1.rule → Grows l0.nodes l1.nodes → ThreeShow l2.nodes (suc k) rows.middle p c ((b +ℤ side (suc k)) +ℤ side k))
      → (next ≡ next_of l2.rule → Grows l0.nodes l2.nodes → ThreeShow l3.nodes (suc k) rows.south p c ((b +ℤ side (suc (suc k))) +ℤ side k)) → NineShow l3.nodes (suc k) rows p c (b +ℤ side k)
  nine_at {l3 = l3} next_of e f g h rows p c b north middle south =
      let e1 = rule_on next_of e f in
      rows_lie (λ id. ShowsAt l3.nodes id (suc k)) k rows p c b (three_stay _ _ f.grows.sound (grows_on _ _ _ g.grows h.grows) (suc k) rows.north p c (b +ℤ side k) north)
      (three_stay _ _ g.grows.sound h.grows (suc k) rows.middle p c ((b +ℤ side (suc k)) +ℤ side k) (middle e1 f.grows)) (south (rule_on next_of e1 g) (grows_on _ _ _ f.grows g.grows))

  -- the four centres lie together
  pub four_at : {s1 s2 s3 : List Node} → Grows s1 s2 → Grows s2 s3 → (nw ne sw se : ℕ) (p : ℤ → ℤ → ℕ) (a b : ℤ) → TwoShow s2 (suc k) nw ne p ((a +ℤ side k) +ℤ side k) ((b +ℤ side k) +ℤ side k)
      → TwoShow s3 (suc k) sw se p ((a +ℤ side k) +ℤ side k) (((b +ℤ side k) +ℤ side (suc k)) +ℤ side k) → FourShow s3 (suc k) nw ne sw se p (a +ℤ side (suc k)) (b +ℤ side (suc k))
  four_at {s3 = s3} f g nw ne sw se p a b n s = four_lie (λ id. ShowsAt s3 id (suc k)) k nw ne sw se p a b (two_stay _ _ f.sound g (suc k) nw ne p _ _ n) s
