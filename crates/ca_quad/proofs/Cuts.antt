-- Squares that are cut out of four that lie together.
use Rattle.std.proofs.Common.{◌≡◌, ℕ, zero, suc, zero-add, ◌+◌, ◌-◌, ◌*◌, ◌<◌, ◌≤◌, ◌^◌, ◌%◌, ◌/◌, ◌==◌, true, false, nat_lt, cond, inl, inr, Some, Result, Ok, Err, IfOk, OnOk, List, [], ◌∷◌, length, get_or, slice_index, refl, sym, ap, subst, ◌∙◌, arith}
use Rattle.std.proofs.Math.Nat.{two-pow-succ}
use Rattle.std.proofs.lemmas.Bool.{cases_Bool, eqb-true, and_parts}
use Rattle.std.proofs.lemmas.Bool.Decides.{nat_tests}
use Rattle.std.proofs.lemmas.Nat.{mod_below, mod-pow-add}
use Rattle.ca_quad.specs.declared.{neighbours.Neighbours.Neighbours, node.Node.Node, store.cut.Offset.Offset}
use Rattle.ca_quad.specs.contracts.neighbours.NeighboursPartialEq.TheImpl.{eq-value}
use Rattle.ca_quad.specs.Prelude.{IsOf, level_of, one_cell, joined_cells, cell_of, IsSoundStore, Grows, ShowsSquare, AreFour, AreQuarters, AreCorners}
use Rattle.ca_quad.specs.inner.Cut.{AreNeighbours, cells_of_four, half_of, neighbours_at, overlapping_fours, IsCut, AreCuts, AreSixteen, AreSixteenCells, cut_value}
use Rattle.ca_quad.specs.inner.Window.{ShowsFrom}
use Rattle.ca_quad.proofs.Cells.{one_up, at_nw, at_ne, at_sw, at_se, cells_stay, of_stays}
use Rattle.ca_quad.proofs.Growth.{grows_same, grows_on}
use Rattle.ca_plane.proofs.Numbers.{below_or_not}
use Rattle.ca_quad.proofs.FilledSquares.{grows_three, grows_four, can_join, joined}
use Rattle.ca_quad.proofs.Windows.{FourWindows, window_stays, four_windows, together_shows}

-- a window at the same place
pub window_at : (nodes : List Node) (id k : ℕ) (cells : ℕ → ℕ → ℕ) (a b c d : ℕ) → a ≡ c → b ≡ d → ShowsFrom nodes id k cells a b → ShowsFrom nodes id k cells c d
window_at nodes id k cells a b c d e f h = subst (λ n. ShowsFrom nodes id k cells n d) e (subst (λ n. ShowsFrom nodes id k cells a n) f h)

-- the first of four squares shows them from the corner
pub first_shows : (nodes : List Node) (k : ℕ) (four : Neighbours) → AreNeighbours nodes k four → ShowsFrom nodes four.nw k (cells_of_four nodes k four) 0 0
first_shows nodes k four are = record {
  is_square = are.is_nw;
  has_cells = λ x y i j. rw (zero-add x, zero-add y) (sym (at_nw (2 ^ k) (cell_of nodes k four.nw) (cell_of nodes k four.ne) (cell_of nodes k four.sw) (cell_of nodes k four.se) x y i j));
}

-- a quarter of a square that shows cells shows them too
module _ (nodes : List Node) (id k : ℕ) (quarters : List ℕ) (are : AreQuarters nodes id k quarters) (cells : ℕ → ℕ → ℕ) (left top : ℕ)
    (here : (x y : ℕ) → x < 2 ^ suc k → y < 2 ^ suc k → cell_of nodes (suc k) id x y ≡ cells (left + x) (top + y)) where
  pub quarters_show : FourWindows nodes k cells left top (slice_index quarters 0) (slice_index quarters 1) (slice_index quarters 2) (slice_index quarters 3)
  quarters_show =
      let side = two-pow-succ k in
      let a = cell_of nodes k (slice_index quarters 0) in
      let b = cell_of nodes k (slice_index quarters 1) in
      let c = cell_of nodes k (slice_index quarters 2) in
      let d = cell_of nodes k (slice_index quarters 3) in
      record {
        a = record {
          is_square = are.is_nw;
          has_cells = λ x y i j. sym (at_nw (2 ^ k) a b c d x y i j) ∙ (sym (are.has_cells x y) ∙ here x y (omega arith) (omega arith));
        };
        b = record {
          is_square = are.is_ne;
          has_cells = λ x y i j.
              let e : left + (2 ^ k + x) ≡ left + 2 ^ k + x = omega arith in
              sym (at_ne (2 ^ k) a b c d x y j) ∙ (sym (are.has_cells (2 ^ k + x) y) ∙ (here (2 ^ k + x) y (omega arith) (omega arith) ∙ ap (λ n. cells n (top + y)) e));
        };
        c = record {
          is_square = are.is_sw;
          has_cells = λ x y i j.
              let e : top + (2 ^ k + y) ≡ top + 2 ^ k + y = omega arith in
              sym (at_sw (2 ^ k) a b c d x y i) ∙ (sym (are.has_cells x (2 ^ k + y)) ∙ (here x (2 ^ k + y) (omega arith) (omega arith) ∙ ap (cells (left + x)) e));
        };
        d = record {
          is_square = are.is_se;
          has_cells = λ x y i j.
              let e : left + (2 ^ k + x) ≡ left + 2 ^ k + x = omega arith in
              let f : top + (2 ^ k + y) ≡ top + 2 ^ k + y = omega arith in
              sym (at_se (2 ^ k) a b c d x y)
              ∙ (sym (are.has_cells (2 ^ k + x) (2 ^ k + y)) ∙ (here (2 ^ k + x) (2 ^ k + y) (omega arith) (omega arith) ∙ (ap (λ n. cells n (top + (2 ^ k + y))) e ∙ ap (cells (left + 2 ^ k + x)) f)));
        };
      }

-- four times four squares that show cells side by side
module _ (nodes : List Node) (k : ℕ) (cells : ℕ → ℕ → ℕ) (a b c d e f g h i j q l m n o p : ℕ)
    (nw : FourWindows nodes k cells 0 0 a b e f) (ne : FourWindows nodes k cells (2 ^ suc k) 0 c d g h)
    (sw : FourWindows nodes k cells 0 (2 ^ suc k) i j m n) (se : FourWindows nodes k cells (2 ^ suc k) (2 ^ suc k) q l o p) where
  at : (id x y u v : ℕ) → u ≡ x * 2 ^ k → v ≡ y * 2 ^ k → ShowsFrom nodes id k cells u v → ShowsFrom nodes id k cells (x * 2 ^ k) (y * 2 ^ k)
  at id x y u v s t w = window_at nodes id k cells u v (x * 2 ^ k) (y * 2 ^ k) s t w

  double : 2 ^ suc k ≡ 2 ^ k + 2 ^ k
  double = two-pow-succ k

  pub sixteen_show : AreSixteen nodes k cells (a ∷ b ∷ c ∷ d ∷ e ∷ f ∷ g ∷ h ∷ i ∷ j ∷ q ∷ l ∷ m ∷ n ∷ o ∷ p ∷ [])
  sixteen_show zero zero s t = at a 0 0 (0) (0) (omega (arith, double)) (omega (arith, double)) nw.a
  sixteen_show (suc zero) zero s t = at b 1 0 (0 + 2 ^ k) (0) (omega (arith, double)) (omega (arith, double)) nw.b
  sixteen_show (suc (suc zero)) zero s t = at c 2 0 (2 ^ suc k) (0) (omega (arith, double)) (omega (arith, double)) ne.a
  sixteen_show (suc (suc (suc zero))) zero s t = at d 3 0 (2 ^ suc k + 2 ^ k) (0) (omega (arith, double)) (omega (arith, double)) ne.b
  sixteen_show (suc (suc (suc (suc x)))) zero s t = absurd (omega arith)
  sixteen_show zero (suc zero) s t = at e 0 1 (0) (0 + 2 ^ k) (omega (arith, double)) (omega (arith, double)) nw.c
  sixteen_show (suc zero) (suc zero) s t = at f 1 1 (0 + 2 ^ k) (0 + 2 ^ k) (omega (arith, double)) (omega (arith, double)) nw.d
  sixteen_show (suc (suc zero)) (suc zero) s t = at g 2 1 (2 ^ suc k) (0 + 2 ^ k) (omega (arith, double)) (omega (arith, double)) ne.c
  sixteen_show (suc (suc (suc zero))) (suc zero) s t = at h 3 1 (2 ^ suc k + 2 ^ k) (0 + 2 ^ k) (omega (arith, double)) (omega (arith, double)) ne.d
  sixteen_show (suc (suc (suc (suc x)))) (suc zero) s t = absurd (omega arith)
  sixteen_show zero (suc (suc zero)) s t = at i 0 2 (0) (2 ^ suc k) (omega (arith, double)) (omega (arith, double)) sw.a
  sixteen_show (suc zero) (suc (suc zero)) s t = at j 1 2 (0 + 2 ^ k) (2 ^ suc k) (omega (arith, double)) (omega (arith, double)) sw.b
  sixteen_show (suc (suc zero)) (suc (suc zero)) s t = at q 2 2 (2 ^ suc k) (2 ^ suc k) (omega (arith, double)) (omega (arith, double)) se.a
  sixteen_show (suc (suc (suc zero))) (suc (suc zero)) s t = at l 3 2 (2 ^ suc k + 2 ^ k) (2 ^ suc k) (omega (arith, double)) (omega (arith, double)) se.b
  sixteen_show (suc (suc (suc (suc x)))) (suc (suc zero)) s t = absurd (omega arith)
  sixteen_show zero (suc (suc (suc zero))) s t = at m 0 3 (0) (2 ^ suc k + 2 ^ k) (omega (arith, double)) (omega (arith, double)) sw.c
  sixteen_show (suc zero) (suc (suc (suc zero))) s t = at n 1 3 (0 + 2 ^ k) (2 ^ suc k + 2 ^ k) (omega (arith, double)) (omega (arith, double)) sw.d
  sixteen_show (suc (suc zero)) (suc (suc (suc zero))) s t = at o 2 3 (2 ^ suc k) (2 ^ suc k + 2 ^ k) (omega (arith, double)) (omega (arith, double)) se.c
  sixteen_show (suc (suc (suc zero))) (suc (suc (suc zero))) s t = at p 3 3 (2 ^ suc k + 2 ^ k) (2 ^ suc k + 2 ^ k) (omega (arith, double)) (omega (arith, double)) se.d
  sixteen_show (suc (suc (suc (suc x)))) (suc (suc (suc zero))) s t = absurd (omega arith)
  sixteen_show x (suc (suc (suc (suc y)))) s t = absurd (omega arith)

-- the quarters of a square, read one by one
pub quarters_at : (nodes : List Node) (id k : ℕ) (quarters : List ℕ) (d0 d1 d2 d3 : ℕ) → length quarters ≡ 4 → AreQuarters nodes id k quarters
    → AreQuarters nodes id k (get_or quarters 0 d0 ∷ get_or quarters 1 d1 ∷ get_or quarters 2 d2 ∷ get_or quarters 3 d3 ∷ [])
quarters_at nodes id k [] d0 d1 d2 d3 e h = absurd (omega arith)
quarters_at nodes id k (a ∷ []) d0 d1 d2 d3 e h = absurd (omega arith)
quarters_at nodes id k (a ∷ b ∷ []) d0 d1 d2 d3 e h = absurd (omega arith)
quarters_at nodes id k (a ∷ b ∷ c ∷ []) d0 d1 d2 d3 e h = absurd (omega arith)
quarters_at nodes id k (a ∷ b ∷ c ∷ d ∷ r) d0 d1 d2 d3 e h = record { is_nw = h.is_nw; is_ne = h.is_ne; is_sw = h.is_sw; is_se = h.is_se; has_cells = h.has_cells }

-- the sixteen quarters of four squares
module _ (nodes : List Node) (k : ℕ) (four : Neighbours) (are : AreNeighbours nodes (suc k) four) (a b c d e f g h i j q l m n o p : ℕ)
    (nw : AreQuarters nodes four.nw k (a ∷ b ∷ e ∷ f ∷ [])) (ne : AreQuarters nodes four.ne k (c ∷ d ∷ g ∷ h ∷ []))
    (sw : AreQuarters nodes four.sw k (i ∷ j ∷ m ∷ n ∷ [])) (se : AreQuarters nodes four.se k (q ∷ l ∷ o ∷ p ∷ [])) where
  pub parts_sixteen : AreSixteen nodes k (cells_of_four nodes (suc k) four) (a ∷ b ∷ c ∷ d ∷ e ∷ f ∷ g ∷ h ∷ i ∷ j ∷ q ∷ l ∷ m ∷ n ∷ o ∷ p ∷ [])
  parts_sixteen =
      let all = cells_of_four nodes (suc k) four in
      let s = 2 ^ suc k in
      let w = cell_of nodes (suc k) four.nw in
      let x = cell_of nodes (suc k) four.ne in
      let y = cell_of nodes (suc k) four.sw in
      let z = cell_of nodes (suc k) four.se in
      sixteen_show nodes k all a b c d e f g h i j q l m n o p
      (quarters_show nodes four.nw k (a ∷ b ∷ e ∷ f ∷ []) nw all 0 0 (λ u v s1 s2. rw (zero-add u, zero-add v) (sym (at_nw s w x y z u v s1 s2))))
      (quarters_show nodes four.ne k (c ∷ d ∷ g ∷ h ∷ []) ne all s 0 (λ u v s1 s2. rw zero-add (sym (at_ne s w x y z u v s2))))
      (quarters_show nodes four.sw k (i ∷ j ∷ m ∷ n ∷ []) sw all 0 s (λ u v s1 s2. rw zero-add (sym (at_sw s w x y z u v s1))))
      (quarters_show nodes four.se k (q ∷ l ∷ o ∷ p ∷ []) se all s s (λ u v s1 s2. sym (at_se s w x y z u v)))

-- the sixteen cells of four squares of level 1
module _ (nodes : List Node) (four : Neighbours) (p q r s : List ℕ) (nw : AreCorners nodes four.nw p) (ne : AreCorners nodes four.ne q) (sw : AreCorners nodes four.sw r) (se : AreCorners nodes four.se s) where
  pub cells_sixteen : AreSixteenCells (cells_of_four nodes 1 four)
      (get_or p 0 0 ∷ get_or p 1 0 ∷ get_or q 0 0 ∷ get_or q 1 0 ∷ get_or p 2 0 ∷ get_or p 3 0 ∷ get_or q 2 0 ∷ get_or q 3 0
      ∷ get_or r 0 0 ∷ get_or r 1 0 ∷ get_or s 0 0 ∷ get_or s 1 0 ∷ get_or r 2 0 ∷ get_or r 3 0 ∷ get_or s 2 0 ∷ get_or s 3 0 ∷ [])
  cells_sixteen zero zero t u = sym (nw.has_cells 0 0)
  cells_sixteen (suc zero) zero t u = sym (nw.has_cells 1 0)
  cells_sixteen (suc (suc zero)) zero t u = sym (ne.has_cells 0 0)
  cells_sixteen (suc (suc (suc zero))) zero t u = sym (ne.has_cells 1 0)
  cells_sixteen (suc (suc (suc (suc x)))) zero t u = absurd (omega arith)
  cells_sixteen zero (suc zero) t u = sym (nw.has_cells 0 1)
  cells_sixteen (suc zero) (suc zero) t u = sym (nw.has_cells 1 1)
  cells_sixteen (suc (suc zero)) (suc zero) t u = sym (ne.has_cells 0 1)
  cells_sixteen (suc (suc (suc zero))) (suc zero) t u = sym (ne.has_cells 1 1)
  cells_sixteen (suc (suc (suc (suc x)))) (suc zero) t u = absurd (omega arith)
  cells_sixteen zero (suc (suc zero)) t u = sym (sw.has_cells 0 0)
  cells_sixteen (suc zero) (suc (suc zero)) t u = sym (sw.has_cells 1 0)
  cells_sixteen (suc (suc zero)) (suc (suc zero)) t u = sym (se.has_cells 0 0)
  cells_sixteen (suc (suc (suc zero))) (suc (suc zero)) t u = sym (se.has_cells 1 0)
  cells_sixteen (suc (suc (suc (suc x)))) (suc (suc zero)) t u = absurd (omega arith)
  cells_sixteen zero (suc (suc (suc zero))) t u = sym (sw.has_cells 0 1)
  cells_sixteen (suc zero) (suc (suc (suc zero))) t u = sym (sw.has_cells 1 1)
  cells_sixteen (suc (suc zero)) (suc (suc (suc zero))) t u = sym (se.has_cells 0 1)
  cells_sixteen (suc (suc (suc zero))) (suc (suc (suc zero))) t u = sym (se.has_cells 1 1)
  cells_sixteen (suc (suc (suc (suc x)))) (suc (suc (suc zero))) t u = absurd (omega arith)
  cells_sixteen x (suc (suc (suc (suc y)))) t u = absurd (omega arith)

-- one of sixteen cells
pub sixteen_at : (cells : ℕ → ℕ → ℕ) (states : List ℕ) → AreSixteenCells cells states → (x y n : ℕ) → 4 * y + x ≡ n → x < 4 → y < 4 → get_or states n 0 ≡ cells x y
sixteen_at cells states are x y n e h i = subst (λ m. get_or states m 0 ≡ cells x y) e (are x y h i)

-- a square of four of them
module _ (cells : ℕ → ℕ → ℕ) (x y a b c d : ℕ) (p : a ≡ cells x y) (q : b ≡ cells (x + 1) y) (r : c ≡ cells x (y + 1)) (s : d ≡ cells (x + 1) (y + 1)) where
  x_is : x ≡ x + 0
  x_is = omega arith

  y_is : y ≡ y + 0
  y_is = omega arith

  at_corner : (u v : ℕ) → u < 2 → v < 2 → joined_cells 1 (one_cell a) (one_cell b) (one_cell c) (one_cell d) u v ≡ cells (x + u) (y + v)
  at_corner zero zero h i = p ∙ (ap (λ n. cells n y) x_is ∙ ap (cells (x + 0)) y_is)
  at_corner (suc zero) zero h i = q ∙ ap (cells (x + 1)) y_is
  at_corner zero (suc zero) h i = r ∙ ap (λ n. cells n (y + 1)) x_is
  at_corner (suc zero) (suc zero) h i = s
  at_corner (suc (suc u)) v h i = absurd (omega arith)
  at_corner u (suc (suc v)) h i = absurd (omega arith)

  pub corners_window : {E : Type 0} (new : List Node) (found : Result ℕ E) → IfOk found (λ id. ShowsSquare new id 1 (joined_cells 1 (one_cell a) (one_cell b) (one_cell c) (one_cell d))) → IfOk found (λ id. ShowsFrom new id 1 cells x y)
  corners_window new (Ok id) h = record { is_square = h.is_square; has_cells = λ u v i j. h.has_cells u v ∙ at_corner u v i j }
  corners_window new (Err e) h = tt

-- what is cut out of four squares that show cells shows them too
pub cut_within : (nodes : List Node) (k : ℕ) (cells : ℕ → ℕ → ℕ) (left top : ℕ) (offset : Offset) (four : Neighbours) (id : ℕ) → FourWindows nodes k cells left top four.nw four.ne four.sw four.se
    → IsCut nodes offset four id → ShowsFrom nodes id k cells (left + offset.x % 2 ^ k) (top + offset.y % 2 ^ k)
cut_within nodes k cells left top offset four id windows cut =
    let level : cut.level ≡ k = sym cut.four.is_nw.is_level ∙ windows.a.is_square.is_level in
    let shows : ShowsFrom nodes id k (cells_of_four nodes k four) (offset.x % 2 ^ k) (offset.y % 2 ^ k) =
    subst (λ l. ShowsFrom nodes id l (cells_of_four nodes l four) (offset.x % 2 ^ l) (offset.y % 2 ^ l)) level cut.shows
    in
    let low : (n : ℕ) → n % 2 ^ k < 2 ^ k = λ n. mod_below n (2 ^ k) (one_up k) in
    let side = two-pow-succ k in
    record {
      is_square = shows.is_square;
      has_cells = λ x y i j.
          let e : left + (offset.x % 2 ^ k + x) ≡ left + offset.x % 2 ^ k + x = omega arith in
          let f : top + (offset.y % 2 ^ k + y) ≡ top + offset.y % 2 ^ k + y = omega arith in
          shows.has_cells x y i j
          ∙ (together_shows nodes k cells left top four.nw four.ne four.sw four.se windows (offset.x % 2 ^ k + x) (offset.y % 2 ^ k + y) (omega (arith, low offset.x)) (omega (arith, low offset.y))
          ∙ (ap (λ n. cells n (top + (offset.y % 2 ^ k + y))) e ∙ ap (cells (left + offset.x % 2 ^ k + x)) f));
    }

one_further : (x h : ℕ) → (x + 1) * h ≡ x * h + h
one_further x h = omega arith

-- the test for equal neighbours that `derive` writes tells them apart
pub neighbours_same : (a b : Neighbours) → (eq-value).it a b ≡ true → a ≡ b
neighbours_same a b e =
    let h = and_parts (a.nw == b.nw) _ e in
    let i = and_parts (a.ne == b.ne) _ h.1 in
    let j = and_parts (a.sw == b.sw) (a.se == b.se) i.1 in
    let nw : a.nw ≡ b.nw = eqb-true a.nw b.nw h.0 in
    let ne : a.ne ≡ b.ne = eqb-true a.ne b.ne i.0 in
    let sw : a.sw ≡ b.sw = eqb-true a.sw b.sw j.0 in
    let se : a.se ≡ b.se = eqb-true a.se b.se j.1 in
    let built : (nw ne sw se : ℕ) → Neighbours = λ nw ne sw se. record { nw = nw; ne = ne; sw = sw; se = se } in
    subst (λ n. built a.nw a.ne a.sw a.se ≡ built n b.ne b.sw b.se) nw (subst (λ n. built a.nw a.ne a.sw a.se ≡ built a.nw n b.sw b.se) ne
    (subst (λ n. built a.nw a.ne a.sw a.se ≡ built a.nw a.ne n b.se) sw (subst (λ n. built a.nw a.ne a.sw a.se ≡ built a.nw a.ne a.sw n) se refl)))

-- the cells of old squares stay
module _ (old new : List Node) (sound : IsSoundStore old) (grows : Grows old new) (offset : Offset) (four : Neighbours) (id : ℕ) where
  pub same_four : (k : ℕ) → AreNeighbours old k four → cells_of_four new k four ≡ cells_of_four old k four
  same_four k are =
      let a = cells_stay old new sound grows k four.nw are.is_nw in
      let b = cells_stay old new sound grows k four.ne are.is_ne in
      let c = cells_stay old new sound grows k four.sw are.is_sw in
      let d = cells_stay old new sound grows k four.se are.is_se in
      rw (a, b, c, d) refl

  -- a square that shows cells of old squares is cut out of them
  pub cut_is : (k : ℕ) → AreNeighbours old k four → (x y : ℕ) → x ≡ offset.x % 2 ^ k → y ≡ offset.y % 2 ^ k → ShowsFrom new id k (cells_of_four old k four) x y → IsCut new offset four id
  cut_is k are x y e f shows = record {
    level = k;
    four = record {
      is_low = are.is_low;
      is_nw = of_stays old new sound grows four.nw k are.is_nw;
      is_ne = of_stays old new sound grows four.ne k are.is_ne;
      is_sw = of_stays old new sound grows four.sw k are.is_sw;
      is_se = of_stays old new sound grows four.se k are.is_se;
    };
    shows = subst (λ f. ShowsFrom new id k f (offset.x % 2 ^ k) (offset.y % 2 ^ k)) (sym (same_four k are)) (window_at new id k (cells_of_four old k four) x y (offset.x % 2 ^ k) (offset.y % 2 ^ k) e f shows);
  }

  -- what was cut out stays so
  pub cut_stays : IsCut old offset four id → IsCut new offset four id
  cut_stays cut =
      cut_is cut.level cut.four (offset.x % 2 ^ cut.level) (offset.y % 2 ^ cut.level) refl refl
      (window_stays old new sound grows id cut.level (offset.x % 2 ^ cut.level) (offset.y % 2 ^ cut.level) (cells_of_four old cut.level four) cut.shows)

pub cuts_stay : (old new : List Node) → IsSoundStore old → Grows old new → (offset : Offset) (values : List (Neighbours × ℕ)) → AreCuts old offset values → AreCuts new offset values
cuts_stay old new sound grows offset values are four id e = cut_stays old new sound grows offset four id (are four id e)

pub still_cuts : {A E : Type 0} (old new : List Node) (r : Result A E) → IsSoundStore old → Grows old new → (offset : Offset) (values : List (Neighbours × ℕ)) → AreCuts old offset values → OnOk r (AreCuts new offset values)
still_cuts old new (Ok value) sound grows offset values are = cuts_stay old new sound grows offset values are
still_cuts old new (Err e) sound grows offset values are = tt

some_same : {v w : ℕ} → Some v ≡ Some w → v ≡ w
some_same e = cc

-- with one more, each is still cut out of its four
pub one_cut_more : (nodes : List Node) (offset : Offset) (old new : List (Neighbours × ℕ)) (four : Neighbours) (id : ℕ) → AreCuts nodes offset old → IsCut nodes offset four id
    → ((other : Neighbours) → cut_value new other ≡ cond ((eq-value).it four other) (Some id) (cut_value old other)) → AreCuts nodes offset new
one_cut_more nodes offset old new four id are is put other found h =
    elim (cases_Bool ((eq-value).it four other)) [
      | inl e ↦
          let f : cond ((eq-value).it four other) (Some id) (cut_value old other) ≡ Some id = rw e refl in
          let g : id ≡ found = some_same (sym f ∙ (sym (put other) ∙ h)) in
          subst (IsCut nodes offset other) g (subst (λ (n : Neighbours). IsCut nodes offset n id) (neighbours_same four other e) is)
      | inr e ↦
          let f : cond ((eq-value).it four other) (Some id) (cut_value old other) ≡ cut_value old other = rw e refl in
          are other found (sym f ∙ (sym (put other) ∙ h))
    ]

-- which half of a square the remainder lies in
half_rest : (n k half u : ℕ) → 1 ≤ k → half ≡ 2 ^ (k - 1) → (half ≤ n % 2 ^ k → u ≡ 1) → (n % 2 ^ k < half → u ≡ 0) → u * 2 ^ (k - 1) + n % 2 ^ (k - 1) ≡ n % 2 ^ k
half_rest n k half u some is second first =
    let next : 1 + (k - 1) ≡ k = omega arith in
    let parts = mod-pow-add n 1 (k - 1) in
    let all : n % 2 ^ k ≡ (n / 2 ^ (k - 1) % 2) * 2 ^ (k - 1) + n % 2 ^ (k - 1) = subst (λ j. n % 2 ^ j ≡ (n / 2 ^ (k - 1) % 2) * 2 ^ (k - 1) + n % 2 ^ (k - 1)) next parts in
    let low : n % 2 ^ (k - 1) < 2 ^ (k - 1) = mod_below n (2 ^ (k - 1)) (one_up (k - 1)) in
    elim (below_or_not (n / 2 ^ (k - 1) % 2) 1) [
      | inl h ↦
          let d : n / 2 ^ (k - 1) % 2 ≡ 0 = omega arith in
          let e : n % 2 ^ k ≡ 0 * 2 ^ (k - 1) + n % 2 ^ (k - 1) = subst (λ q. n % 2 ^ k ≡ q * 2 ^ (k - 1) + n % 2 ^ (k - 1)) d all in
          let z : u ≡ 0 = first (omega arith) in
          rw z (sym e)
      | inr h ↦
          let d : n / 2 ^ (k - 1) % 2 ≡ 1 = omega arith in
          let e : n % 2 ^ k ≡ 1 * 2 ^ (k - 1) + n % 2 ^ (k - 1) = subst (λ q. n % 2 ^ k ≡ q * 2 ^ (k - 1) + n % 2 ^ (k - 1)) d all in
          let z : u ≡ 1 = second (omega arith) in
          rw z (sym e)
    ]

pub half_most : (place half : ℕ) → half_of place half ≤ 1
half_most place half = elim (cases_Bool (nat_lt place half)) [ inl e ↦ rw e (omega arith) | inr e ↦ rw e (omega arith) ]

pub rest_in_half : (n k half place : ℕ) → 1 ≤ k → half ≡ 2 ^ (k - 1) → place ≡ n % 2 ^ k → half_of place half * 2 ^ (k - 1) + n % 2 ^ (k - 1) ≡ n % 2 ^ k
rest_in_half n k half place some is e =
    half_rest n k half (half_of place half) some is
    (λ h. let f : nat_lt place half ≡ false = grind (arith, nat_tests) in rw f refl)
    (λ h. let f : nat_lt place half ≡ true = grind (arith, nat_tests) in rw f refl)

pub rest_low : (n k place : ℕ) → place ≡ n % 2 ^ k → place < 2 ^ k
rest_low n k place e = rw e (mod_below n (2 ^ k) (one_up k))

pub further : (x h r u : ℕ) → x * h + r ≡ u → (x + 1) * h + r ≡ u + h
further x h r u e = omega (arith, one_further x h)

-- what is cut out of the group on the way shows the cells from (x, y) on, where the group's squares are of this level
pub record LeadsTo (nodes : List Node) (level : ℕ) (cells : ℕ → ℕ → ℕ) (offset : Offset) (x y : ℕ) (group : Neighbours) : Type 0 where
  pub left : ℕ
  pub top : ℕ
  pub windows : FourWindows nodes level cells left top group.nw group.ne group.sw group.se
  pub is_x : left + offset.x % 2 ^ level ≡ x
  pub is_y : top + offset.y % 2 ^ level ≡ y

-- the four groups lead to the four parts of the square that shows the cells from (x, y) on
pub record LeadToParts (nodes : List Node) (level : ℕ) (cells : ℕ → ℕ → ℕ) (offset : Offset) (x y : ℕ) (groups : Neighbours × Neighbours × Neighbours × Neighbours) : Type 0 where
  pub nw : LeadsTo nodes level cells offset x y groups.0
  pub ne : LeadsTo nodes level cells offset (x + 2 ^ level) y groups.1
  pub sw : LeadsTo nodes level cells offset x (y + 2 ^ level) groups.2
  pub se : LeadsTo nodes level cells offset (x + 2 ^ level) (y + 2 ^ level) groups.3

-- one of them, when squares were added
module _ (old new : List Node) (sound : IsSoundStore old) (grows : Grows old new) {level : ℕ} {cells : ℕ → ℕ → ℕ} {offset : Offset} {x y : ℕ} {group : Neighbours} (leads : LeadsTo old level cells offset x y group) where
  windows : FourWindows new level cells leads.left leads.top group.nw group.ne group.sw group.se
  windows =
      let w = leads.windows in
      let stays : (id left top : ℕ) → ShowsFrom old id level cells left top → ShowsFrom new id level cells left top = λ id left top. window_stays old new sound grows id level left top cells in
      record {
        a = stays group.nw leads.left leads.top w.a;
        b = stays group.ne (leads.left + 2 ^ level) leads.top w.b;
        c = stays group.sw leads.left (leads.top + 2 ^ level) w.c;
        d = stays group.se (leads.left + 2 ^ level) (leads.top + 2 ^ level) w.d;
      }

  pub group_stays : level ≤ 124 → (level_of new group.nw ≡ level) × ((k : ℕ) × AreNeighbours new k group)
  group_stays low = (windows.a.is_square.is_level, (level, four_windows new level cells leads.left leads.top group.nw group.ne group.sw group.se windows low))

  pub part_cut : (id : ℕ) → IsCut new offset group id → ShowsFrom new id level cells x y
  part_cut id cut =
      window_at new id level cells (leads.left + offset.x % 2 ^ level) (leads.top + offset.y % 2 ^ level) x y leads.is_x leads.is_y
      (cut_within new level cells leads.left leads.top offset group id windows cut)

-- four squares, and the place on them from which a square is cut out
module _ (old : List Node) (sound : IsSoundStore old) (four : Neighbours) (offset place : Offset) (level : ℕ) (is_level : level ≡ level_of old four.nw) (squares : (k : ℕ) × AreNeighbours old k four)
    (at_x : place.x ≡ offset.x % 2 ^ level) (at_y : place.y ≡ offset.y % 2 ^ level) where
  pub are_four : AreNeighbours old level four
  are_four = subst (λ k. AreNeighbours old k four) (sym squares.1.is_nw.is_level ∙ sym is_level) squares.1

  pub first_cut : place.x ≡ 0 → place.y ≡ 0 → IsCut old offset four four.nw
  first_cut e f = cut_is old old sound (grows_same old sound) offset four four.nw level are_four 0 0 (sym e ∙ at_x) (sym f ∙ at_y) (first_shows old level four are_four)

  pub made_cut : {E : Type 0} (new : List Node) → Grows old new → (r : Result ℕ E) → IfOk r (λ id. ShowsFrom new id level (cells_of_four old level four) place.x place.y) → IfOk r (IsCut new offset four)
  made_cut new grows (Ok id) shows = cut_is old new sound grows offset four id level are_four place.x place.y at_x at_y shows
  made_cut new grows (Err e) shows = tt

  -- the fours of their parts that lead to the parts of the square
  module _ (large : 2 ≤ level) (ids : List ℕ) (sixteen : (l : ℕ) → AreNeighbours old (suc l) four → AreSixteen old l (cells_of_four old (suc l) four) ids)
      (half : ℕ) (is_half : half ≡ 2 ^ (level - 1)) where
    part : (x y n : ℕ) → 4 * y + x ≡ n → x < 4 → y < 4 → ShowsFrom old (slice_index ids n) (level - 1) (cells_of_four old level four) (x * 2 ^ (level - 1)) (y * 2 ^ (level - 1))
    part x y n e low_x low_y =
        let cells = cells_of_four old level four in
        let next : suc (level - 1) ≡ level = omega arith in
        let all : AreSixteen old (level - 1) cells ids = subst (λ l. AreSixteen old (level - 1) (cells_of_four old l four) ids) next (sixteen (level - 1) (subst (λ l. AreNeighbours old l four) (sym next) are_four)) in
        subst (λ m. ShowsFrom old (slice_index ids m) (level - 1) cells (x * 2 ^ (level - 1)) (y * 2 ^ (level - 1))) e (all x y low_x low_y)

    leads : (u v n x y : ℕ) → 4 * v + u ≡ n → u ≤ 2 → v ≤ 2 → u * 2 ^ (level - 1) + offset.x % 2 ^ (level - 1) ≡ x → v * 2 ^ (level - 1) + offset.y % 2 ^ (level - 1) ≡ y
        → LeadsTo old (level - 1) (cells_of_four old level four) offset x y (neighbours_at ids n)
    leads u v n x y e low_u low_v is_x is_y =
        let cells = cells_of_four old level four in
        let h = 2 ^ (level - 1) in
        let group = neighbours_at ids n in
        record {
          left = u * h;
          top = v * h;
          windows = record {
            a = part u v n e (omega arith) (omega arith);
            b = window_at old group.ne (level - 1) cells ((u + 1) * h) (v * h) (u * h + h) (v * h) (one_further u h) refl (part (u + 1) v (n + 1) (omega arith) (omega arith) (omega arith));
            c = window_at old group.sw (level - 1) cells (u * h) ((v + 1) * h) (u * h) (v * h + h) refl (one_further v h) (part u (v + 1) (n + 4) (omega arith) (omega arith) (omega arith));
            d = window_at old group.se (level - 1) cells ((u + 1) * h) ((v + 1) * h) (u * h + h) (v * h + h) (one_further u h) (one_further v h) (part (u + 1) (v + 1) (n + 5) (omega arith) (omega arith) (omega arith));
          };
          is_x = is_x;
          is_y = is_y;
        }

    pub lead_to_parts : (groups : Neighbours × Neighbours × Neighbours × Neighbours) → groups ≡ overlapping_fours ids (4 * half_of place.y half + half_of place.x half)
        → LeadToParts old (level - 1) (cells_of_four old level four) offset place.x place.y groups
    lead_to_parts groups is =
        let h = 2 ^ (level - 1) in
        let u = half_of place.x half in
        let v = half_of place.y half in
        let low_u = half_most place.x half in
        let low_v = half_most place.y half in
        let is_x : u * h + offset.x % h ≡ place.x = rest_in_half offset.x level half place.x (omega arith) is_half at_x ∙ sym at_x in
        let is_y : v * h + offset.y % h ≡ place.y = rest_in_half offset.y level half place.y (omega arith) is_half at_y ∙ sym at_y in
        let to_x = further u h (offset.x % h) place.x is_x in
        let to_y = further v h (offset.y % h) place.y is_y in
        rw is (record {
          nw = leads u v (4 * v + u) place.x place.y refl (omega arith) (omega arith) is_x is_y;
          ne = leads (u + 1) v (4 * v + u + 1) (place.x + h) place.y (omega arith) (omega arith) (omega arith) to_x is_y;
          sw = leads u (v + 1) (4 * v + u + 4) place.x (place.y + h) (omega arith) (omega arith) (omega arith) is_x to_y;
          se = leads (u + 1) (v + 1) (4 * v + u + 5) (place.x + h) (place.y + h) (omega arith) (omega arith) (omega arith) to_x to_y;
        })

-- the parts that were cut out, one after the other
module _ (old s1 s2 s3 s4 : List Node) (sound : IsSoundStore old) (g1 : Grows old s1) (g2 : Grows s1 s2) (g3 : Grows s2 s3) (g4 : Grows s3 s4) (level : ℕ) (large : 2 ≤ level) {cells : ℕ → ℕ → ℕ} {offset : Offset} {x y : ℕ}
    {groups : Neighbours × Neighbours × Neighbours × Neighbours} (leads : LeadToParts old (level - 1) cells offset x y groups) (nw ne sw se : ℕ)
    (a : IsCut s1 offset groups.0 nw) (b : IsCut s2 offset groups.1 ne) (c : IsCut s3 offset groups.2 sw) (d : IsCut s4 offset groups.3 se) where
  abbrev h : ℕ
  h = 2 ^ (level - 1)

  shows_nw : ShowsFrom s1 nw (level - 1) cells x y
  shows_nw = part_cut old s1 sound g1 leads.nw nw a

  shows_ne : ShowsFrom s2 ne (level - 1) cells (x + h) y
  shows_ne = part_cut old s2 sound (grows_on old s1 s2 g1 g2) leads.ne ne b

  shows_sw : ShowsFrom s3 sw (level - 1) cells x (y + h)
  shows_sw = part_cut old s3 sound (grows_three old s1 s2 s3 g1 g2 g3) leads.sw sw c

  shows_se : ShowsFrom s4 se (level - 1) cells (x + h) (y + h)
  shows_se = part_cut old s4 sound (grows_four old s1 s2 s3 g1 g2 g3 s4 g4) leads.se se d

  pub can_join_cuts : level ≤ 125 → AreFour s4 (level - 1) nw ne sw se
  can_join_cuts = can_join s1 s2 s3 s4 g1.sound g2 g3 g4 level h large refl nw ne sw se cells x y shows_nw shows_ne shows_sw shows_se

  pub cuts_joined : {E : Type 0} (new : List Node) (r : Result ℕ E)
      → ((l : ℕ) → IsOf s4 nw l → IfOk r (λ id. ShowsSquare new id (suc l) (joined_cells (2 ^ l) (cell_of s4 l nw) (cell_of s4 l ne) (cell_of s4 l sw) (cell_of s4 l se))))
      → IfOk r (λ id. ShowsFrom new id level cells x y)
  cuts_joined = joined s1 s2 s3 s4 g1.sound g2 g3 g4 level h large refl nw ne sw se cells x y shows_nw shows_ne shows_sw shows_se
