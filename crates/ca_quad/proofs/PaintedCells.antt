-- Cells that are written to a plane.
use Rattle.std.proofs.Common.{◌≡◌, ◌≢◌, ℕ, zero, suc, ◌-◌, ◌^◌, Result, Ok, Err, OnOk, ◌⊎◌, inl, inr, ◌&&◌, true, ◌==◌, if◌then◌else◌, ℤ, pos, negsuc, ◌+ℤ◌, ◌-ℤ◌, List, [], ◌∷◌, ◌++◌, length, refl, sym, ap, subst, ◌∙◌, arith}
use Rattle.std.specs.Ordering.{int_eq}
use Rattle.std.proofs.lemmas.Bool.{cases_Bool, cases_eq}
use Rattle.std.proofs.lemmas.Int.{ints}
use Rattle.std.proofs.lemmas.List.Elements.{All-append, All-nil, All-cons, All-head, All-tail}
use Rattle.ca_plane.specs.declared.point.Point.{Point}
use Rattle.ca_plane.specs.Prelude.{Sets, Picture, cell}
use Rattle.ca_quad.specs.declared.{node.Node.Node, store.draw.Halves.Halves, store.draw.PlacedSquare.PlacedSquare, store.to_plane.Corners.Corners, tree.Spot.Spot}
use Rattle.ca_quad.specs.declared.square.Square.TheVariants.{Parts}
use Rattle.ca_quad.specs.Prelude.{square_of, level as level_in, level_of, one_cell, HasParts, IsIn, IsEmpty}
use Rattle.ca_quad.specs.inner.Drawn.{square_cells, cells_at_corner, ArePartCorners, Agrees, IsLiveAt, placed_cells, IsReadyToDraw, AreReady, IsLiveIn, IsLiveInRow, Paints, IsAdded, ArePushed}
use Rattle.ca_quad.proofs.Boxes.{dead_from}
use Rattle.ca_quad.proofs.DrawnSquares.{dot_shown, part_ends, parts_live, parts_ready}
use Rattle.ca_quad.proofs.Edges.{IsOff, off_y}

-- no cell of an empty square is live
pub none_is_live : (cells : ℕ → ℕ → ℕ) (at : Spot) → IsEmpty cells → (x y : ℤ) → IsLiveAt (cells_at_corner cells at) x y → ⊥
none_is_live cells at no_cells x y live = live (dead_from cells no_cells (x -ℤ at.x) (y -ℤ at.y))

dot_empty : (x y : ℕ) → one_cell 0 x y ≡ 0
dot_empty x y = elim (cases_Bool ((x == 0) && (y == 0))) [ inl e ↦ rw e refl | inr e ↦ rw e refl ]

module _ (all : ℤ → ℤ → ℕ) where
  -- nothing is to be written
  pub paints_none : (p : Picture) (live : ℤ → ℤ → Type 0) → ((x y : ℤ) → live x y → ⊥) → Paints all p p live
  paints_none p live no_cells = record { kept = λ x y h. h; put = λ x y l. absurd (no_cells x y l) }

  pub paints_dot_none : (p : Picture) (state : ℕ) (at : Spot) → state ≡ 0 → Paints all p p (IsLiveAt (cells_at_corner (one_cell state) at))
  paints_dot_none p state at e = paints_none p _ (none_is_live (one_cell state) at (λ x y. ap (λ s. one_cell s x y) e ∙ dot_empty x y))

  -- one cell is written
  pub paints_dot : (old new : Picture) (state : ℕ) (at : Point) (spot : Spot) → at.x ≡ spot.x → at.y ≡ spot.y → state ≢ 0 → Sets old new at state → Agrees all (cells_at_corner (one_cell state) spot) → Paints all old new (IsLiveAt (cells_at_corner (one_cell state) spot))
  paints_dot old new state at spot ex ey live sets agrees = record {
    kept = λ x y h.
        elim (cases_Bool (int_eq y at.y && int_eq x at.x)) [
          | inl t ↦ here x y t
          | inr t ↦ sets x y ∙ (rw t refl ∙ h)
        ];
    put = λ x y l.
        elim (cases_Bool (int_eq y at.y && int_eq x at.x)) [
          | inl t ↦ here x y t
          | inr t ↦ absurd (l (sym (there x y) ∙ rw t refl))
        ];
  }
    where
      there : (x y : ℤ) → (if int_eq y at.y && int_eq x at.x then state else 0) ≡ cells_at_corner (one_cell state) spot x y
      there x y = rw (← ex, ← ey) (dot_shown state at x y)

      here : (x y : ℤ) → (int_eq y at.y && int_eq x at.x) ≡ true → cell new x y ≡ all x y
      here x y t =
          let e : state ≡ cells_at_corner (one_cell state) spot x y = subst (λ b. (if b then state else 0) ≡ cells_at_corner (one_cell state) spot x y) t (there x y) in
          sets x y ∙ (rw t refl ∙ (e ∙ agrees x y (λ z. live (e ∙ z))))

  -- one after the other
  pub paints_both : (a b c : Picture) (l m live : ℤ → ℤ → Type 0) → Paints all a b l → Paints all b c m → ((x y : ℤ) → live x y → l x y ⊎ m x y) → Paints all a c live
  paints_both a b c l m live p q split = record {
    kept = λ x y h. q.kept x y (p.kept x y h);
    put = λ x y h. elim (split x y h) [ inl u ↦ q.kept x y (p.put x y u) | inr u ↦ q.put x y u ];
  }

-- ---- lists of squares

module _ (nodes : List Node) where
  live_left : (rs ts : List PlacedSquare) (x y : ℤ) → IsLiveIn nodes rs x y → IsLiveIn nodes (rs ++ ts) x y
  live_left [] ts x y h = absurd h
  live_left (r ∷ rs) ts x y (inl h) = inl h
  live_left (r ∷ rs) ts x y (inr h) = inr (live_left rs ts x y h)

  live_last : (rs : List PlacedSquare) (r : PlacedSquare) (x y : ℤ) → IsLiveAt (placed_cells nodes r) x y → IsLiveIn nodes (rs ++ r ∷ []) x y
  live_last [] r x y h = inl h
  live_last (q ∷ rs) r x y h = inr (live_last rs r x y h)

  -- a square after the others
  pub added : (square : PlacedSquare) (old new : List PlacedSquare) → new ≡ old ++ square ∷ [] → IsAdded nodes square old new
  added square old new e = rw e (record {
    live = λ x y h. elim h [ inl l ↦ live_left old (square ∷ []) x y l | inr l ↦ live_last old square x y l ];
    ready = λ all level are is. All-append (IsReadyToDraw nodes all level) old (square ∷ []) are (All-cons (IsReadyToDraw nodes all level) square [] is (All-nil _));
  })

  -- an empty square isn't needed
  pub added_none : (square : PlacedSquare) (old : List PlacedSquare) → ((x y : ℤ) → IsLiveAt (placed_cells nodes square) x y → ⊥) → IsAdded nodes square old old
  added_none square old no_cells = record {
    live = λ x y h. elim h [ inl l ↦ l | inr l ↦ absurd (no_cells x y l) ];
    ready = λ all level are is. are;
  }

-- the last of two, whose answer is handed on
pub paints_last : {T E : Type 0} (all : ℤ → ℤ → ℕ) (r : Result T E) (a b c : Picture) (l m live : ℤ → ℤ → Type 0) → Paints all a b l → OnOk r (Paints all b c m) → ((x y : ℤ) → live x y → l x y ⊎ m x y) → OnOk r (Paints all a c live)
paints_last all (Ok v) a b c l m live p q split = paints_both all a b c l m live p q split
paints_last all (Err e) a b c l m live p q split = tt

-- the parts of a square come to the halves
module _ (nodes : List Node) (square : PlacedSquare) (nw ne sw se : ℕ) (before : IsIn nodes square.id) (m : ℕ) (e : Parts m nw ne sw se ≡ square_of nodes square.id) (whole : HasParts nodes (length nodes) m nw ne sw se)
    (half : ℕ) (half_is : half ≡ 2 ^ (m - 1)) (cs : Corners) (are : ArePartCorners square.at half cs) (old new : Halves) (n s : List PlacedSquare)
    (a : IsAdded nodes (record { id = nw; at = square.at }) old.north.items n) (b : IsAdded nodes (record { id = ne; at = cs.ne }) n new.north.items)
    (c : IsAdded nodes (record { id = sw; at = cs.sw }) old.south.items s) (d : IsAdded nodes (record { id = se; at = cs.se }) s new.south.items)
  where
    of_four : (x y : ℤ) → (IsLiveAt (placed_cells nodes (record { id = nw; at = square.at })) x y ⊎ IsLiveAt (placed_cells nodes (record { id = ne; at = cs.ne })) x y) ⊎ (IsLiveAt (placed_cells nodes (record { id = sw; at = cs.sw })) x y ⊎ IsLiveAt (placed_cells nodes (record { id = se; at = cs.se })) x y)
        → IsLiveIn nodes new.north.items x y ⊎ IsLiveIn nodes new.south.items x y
    of_four x y (inl (inl l)) = inl (b.live x y (inl (a.live x y (inr l))))
    of_four x y (inl (inr l)) = inl (b.live x y (inr l))
    of_four x y (inr (inl l)) = inr (d.live x y (inl (c.live x y (inr l))))
    of_four x y (inr (inr l)) = inr (d.live x y (inr l))

    pushed_live : (x y : ℤ) → (IsLiveIn nodes old.north.items x y ⊎ IsLiveIn nodes old.south.items x y) ⊎ IsLiveAt (placed_cells nodes square) x y → IsLiveIn nodes new.north.items x y ⊎ IsLiveIn nodes new.south.items x y
    pushed_live x y (inl (inl h)) = inl (b.live x y (inl (a.live x y (inl h))))
    pushed_live x y (inl (inr h)) = inr (d.live x y (inl (c.live x y (inl h))))
    pushed_live x y (inr h) = of_four x y (parts_live nodes square.id nw ne sw se before m e whole half half_is square.at cs are x y h)

    pub pushed : (level : ℕ) → level_of nodes square.id ≡ level → ArePushed nodes level square old new
    pushed level f =
        let same : m ≡ level = ap level_in e ∙ f in
        subst (λ k. ArePushed nodes k square old new) same (record {
          live = pushed_live;
          ready = λ all is olds.
              let r = parts_ready nodes square.id nw ne sw se before m e whole half half_is square.at cs are all is.can is.agrees in
              (b.ready all (m - 1) (a.ready all (m - 1) olds.0 r.0) r.1, d.ready all (m - 1) (c.ready all (m - 1) olds.1 r.2) r.3);
        })

-- a live cell of a 2 by 2 square lies in one of two rows
two_below : (v : ℤ) → ((v ≡ pos 0) ⊎ (v ≡ pos 1)) ⊎ IsOff 2 v
two_below (pos zero) = inl (inl refl)
two_below (pos (suc zero)) = inl (inr refl)
two_below (pos (suc (suc n))) = inr (inr (omega (arith, ints)))
two_below (negsuc n) = inr (inl (omega (arith, ints)))

module _ (nodes : List Node) (all : ℤ → ℤ → ℕ) where
  row_of : (s : PlacedSquare) → IsReadyToDraw nodes all 1 s → (x y : ℤ) → IsLiveAt (placed_cells nodes s) x y → (y ≡ s.at.y +ℤ pos 0) ⊎ (y ≡ s.at.y +ℤ pos 1)
  row_of s is x y live =
      let ends = part_ends nodes s.id 1 2 is.is_square refl in
      elim (two_below (y -ℤ s.at.y)) [
        | inl h ↦ elim h [ inl e ↦ inl (omega (arith, ints)) | inr e ↦ inr (omega (arith, ints)) ]
        | inr off ↦ absurd (live (off_y (square_cells nodes s.id) 2 ends (x -ℤ s.at.x) (y -ℤ s.at.y) off))
      ]

  pub rows_live : (ss : List PlacedSquare) → AreReady nodes all 1 ss → (x y : ℤ) → IsLiveIn nodes ss x y → IsLiveInRow nodes 0 ss x y ⊎ IsLiveInRow nodes 1 ss x y
  rows_live [] are x y h = absurd h
  rows_live (s ∷ ss) are x y (inl h) = elim (row_of s (All-head (IsReadyToDraw nodes all 1) s ss are) x y h) [ inl e ↦ inl (inl (h, e)) | inr e ↦ inr (inl (h, e)) ]
  rows_live (s ∷ ss) are x y (inr h) = elim (rows_live ss (All-tail (IsReadyToDraw nodes all 1) s ss are) x y h) [ inl l ↦ inl (inr l) | inr l ↦ inr (inr l) ]

  -- the first square of all
  pub ready_one : (level k : ℕ) (ss : List PlacedSquare) (s : PlacedSquare) → k ≡ level → ss ≡ [] ++ s ∷ [] → IsReadyToDraw nodes all level s → AreReady nodes all k ss
  ready_one level k ss s e f is = rw (e, f) (All-cons (IsReadyToDraw nodes all level) s [] is (All-nil _))

-- where all that is live was written to an empty plane, it shows all
pub painted_all : (nodes : List Node) (all : ℤ → ℤ → ℕ) (ss : List PlacedSquare) (s : PlacedSquare) (old new : Picture) → ss ≡ [] ++ s ∷ [] → old ≡ [] → ((x y : ℤ) → placed_cells nodes s x y ≡ all x y) → Paints all old new (IsLiveIn nodes ss) → (x y : ℤ) → cell new x y ≡ all x y
painted_all nodes all ss s old new e f same p x y =
    elim (cases_eq (all x y) 0) [
      | inl z ↦ p.kept x y (ap (λ (q : Picture). cell q x y) f ∙ sym z)
      | inr live ↦ p.put x y (subst (λ (rs : List PlacedSquare). IsLiveIn nodes rs x y) (sym e) (inl (λ z. live (sym (same x y) ∙ z))))
    ]
