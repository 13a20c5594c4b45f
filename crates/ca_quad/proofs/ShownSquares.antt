-- Squares go on to show their cells, and four of them show theirs together.
use Rattle.std.proofs.Common.{◌≡◌, ℕ, suc, Result, Ok, Err, IfOk, ◌+◌, ◌-◌, ◌≤◌, ◌^◌, inl, inr, nat_lt, List, refl, sym, ap, subst, ◌∙◌, arith}
use Rattle.std.proofs.lemmas.Bool.{cases_Bool}
use Rattle.std.proofs.Math.Nat.{two-pow-succ}
use Rattle.ca_quad.specs.declared.node.Node.{Node}
use Rattle.ca_quad.specs.Prelude.{IsOf, one_cell, joined_cells, cell_of, IsSoundStore, Grows, ShowsSquare, AreFour}
use Rattle.ca_quad.specs.inner.Ring.{no_cells, with_ring, IsRinged, Rings}
use Rattle.ca_quad.proofs.Cells.{cells_stay, of_stays}
use Rattle.ca_quad.proofs.Growth.{grows_on}
use Rattle.ca_quad.proofs.Walks.{dot_empty}
use Rattle.ca_quad.proofs.Rings.{is_ringed}

pub together_same : (s : ℕ) (a b c d e f g h : ℕ → ℕ → ℕ) → ((x y : ℕ) → a x y ≡ e x y) → ((x y : ℕ) → b x y ≡ f x y) → ((x y : ℕ) → c x y ≡ g x y) → ((x y : ℕ) → d x y ≡ h x y)
    → (x y : ℕ) → joined_cells s a b c d x y ≡ joined_cells s e f g h x y
together_same s a b c d e f g h p q r t x y =
    elim (cases_Bool (nat_lt y s)) [
      | inl i ↦ elim (cases_Bool (nat_lt x s)) [ inl j ↦ rw (i, j) (p x y) | inr j ↦ rw (i, j) (q (x - s) y) ]
      | inr i ↦ elim (cases_Bool (nat_lt x s)) [ inl j ↦ rw (i, j) (r x (y - s)) | inr j ↦ rw (i, j) (t (x - s) (y - s)) ]
    ]

-- a square shows its own cells
pub shows_self : (nodes : List Node) (id k : ℕ) → IsOf nodes id k → ShowsSquare nodes id k (cell_of nodes k id)
shows_self nodes id k h = record { is_square = h; has_cells = λ x y. refl }

-- and goes on to show what it shows
pub shows_stays : (old new : List Node) → IsSoundStore old → Grows old new → (id k : ℕ) (cells : ℕ → ℕ → ℕ) → ShowsSquare old id k cells → ShowsSquare new id k cells
shows_stays old new sound grows id k cells h = record {
  is_square = of_stays old new sound grows id k h.is_square;
  has_cells = λ x y. ap (λ f. f x y) (cells_stay old new sound grows k id h.is_square) ∙ h.has_cells x y;
}

-- the same cells, stated in another way
pub shows_as : (nodes : List Node) (id k : ℕ) (p q : ℕ → ℕ → ℕ) → ((x y : ℕ) → p x y ≡ q x y) → ShowsSquare nodes id k p → ShowsSquare nodes id k q
shows_as nodes id k p q same h = record { is_square = h.is_square; has_cells = λ x y. h.has_cells x y ∙ same x y }

pub ok_as : {E : Type 0} (nodes : List Node) (r : Result ℕ E) (k : ℕ) (p q : ℕ → ℕ → ℕ) → ((x y : ℕ) → p x y ≡ q x y) → IfOk r (λ id. ShowsSquare nodes id k p) → IfOk r (λ id. ShowsSquare nodes id k q)
ok_as nodes (Ok id) k p q same h = shows_as nodes id k p q same h
ok_as nodes (Err e) k p q same h = tt

module _ (nodes : List Node) (k a b c d : ℕ) (e f g h : ℕ → ℕ → ℕ) (p : ShowsSquare nodes a k e) (q : ShowsSquare nodes b k f) (r : ShowsSquare nodes c k g) (s : ShowsSquare nodes d k h) where
  pub four_show_together : k ≤ 124 → AreFour nodes k a b c d
  four_show_together low = record { is_low = low; is_nw = p.is_square; is_ne = q.is_square; is_sw = r.is_square; is_se = s.is_square }

  -- what four squares show together
  pub shown_together : (x y : ℕ) → joined_cells (2 ^ k) (cell_of nodes k a) (cell_of nodes k b) (cell_of nodes k c) (cell_of nodes k d) x y ≡ joined_cells (2 ^ k) e f g h x y
  shown_together = together_same (2 ^ k) (cell_of nodes k a) (cell_of nodes k b) (cell_of nodes k c) (cell_of nodes k d) e f g h p.has_cells q.has_cells r.has_cells s.has_cells

-- the four quarters of a with_ring square are made one after the other
module _ (s0 s1 s2 s3 s4 s5 : List Node) (sound : IsSoundStore s0) (g1 : Grows s0 s1) (g2 : Grows s1 s2) (g3 : Grows s2 s3) (g4 : Grows s3 s4) (g5 : Grows s4 s5)
    (k nw ne sw se e a b c d : ℕ) (four : AreFour s0 k nw ne sw se) (empty : ShowsSquare s1 e k no_cells)
    (ja : (l : ℕ) → IsOf s1 e l → ShowsSquare s2 a (suc l) (joined_cells (2 ^ l) (cell_of s1 l e) (cell_of s1 l e) (cell_of s1 l e) (cell_of s1 l nw)))
    (jb : (l : ℕ) → IsOf s2 e l → ShowsSquare s3 b (suc l) (joined_cells (2 ^ l) (cell_of s2 l e) (cell_of s2 l e) (cell_of s2 l ne) (cell_of s2 l e)))
    (jc : (l : ℕ) → IsOf s3 e l → ShowsSquare s4 c (suc l) (joined_cells (2 ^ l) (cell_of s3 l e) (cell_of s3 l sw) (cell_of s3 l e) (cell_of s3 l e)))
  where
    e2 : ShowsSquare s2 e k no_cells
    e2 = shows_stays s1 s2 g1.sound g2 e k no_cells empty

    e3 : ShowsSquare s3 e k no_cells
    e3 = shows_stays s2 s3 g2.sound g3 e k no_cells e2

    e4 : ShowsSquare s4 e k no_cells
    e4 = shows_stays s3 s4 g3.sound g4 e k no_cells e3

    to2 : Grows s0 s2
    to2 = grows_on s0 s1 s2 g1 g2

    to3 : Grows s0 s3
    to3 = grows_on s0 s2 s3 to2 g3

    to4 : Grows s0 s4
    to4 = grows_on s0 s3 s4 to3 g4

    part1 : ShowsSquare s1 nw k (cell_of s0 k nw)
    part1 = shows_stays s0 s1 sound g1 nw k (cell_of s0 k nw) (shows_self s0 nw k four.is_nw)

    part2 : ShowsSquare s2 ne k (cell_of s0 k ne)
    part2 = shows_stays s0 s2 sound to2 ne k (cell_of s0 k ne) (shows_self s0 ne k four.is_ne)

    part3 : ShowsSquare s3 sw k (cell_of s0 k sw)
    part3 = shows_stays s0 s3 sound to3 sw k (cell_of s0 k sw) (shows_self s0 sw k four.is_sw)

    part4 : ShowsSquare s4 se k (cell_of s0 k se)
    part4 = shows_stays s0 s4 sound to4 se k (cell_of s0 k se) (shows_self s0 se k four.is_se)

    pub last_four : k ≤ 124 → AreFour s4 k se e e e
    last_four = four_show_together s4 k se e e e (cell_of s0 k se) no_cells no_cells no_cells part4 e4 e4 e4

    to_a : ShowsSquare s5 a (suc k) (joined_cells (2 ^ k) no_cells no_cells no_cells (cell_of s0 k nw))
    to_a = shows_stays s2 s5 g2.sound (grows_on s2 s3 s5 g3 (grows_on s3 s4 s5 g4 g5)) a (suc k) (joined_cells (2 ^ k) no_cells no_cells no_cells (cell_of s0 k nw))
        (shows_as s2 a (suc k) (joined_cells (2 ^ k) (cell_of s1 k e) (cell_of s1 k e) (cell_of s1 k e) (cell_of s1 k nw)) (joined_cells (2 ^ k) no_cells no_cells no_cells (cell_of s0 k nw))
        (shown_together s1 k e e e nw no_cells no_cells no_cells (cell_of s0 k nw) empty empty empty part1) (ja k empty.is_square))

    to_b : ShowsSquare s5 b (suc k) (joined_cells (2 ^ k) no_cells no_cells (cell_of s0 k ne) no_cells)
    to_b = shows_stays s3 s5 g3.sound (grows_on s3 s4 s5 g4 g5) b (suc k) (joined_cells (2 ^ k) no_cells no_cells (cell_of s0 k ne) no_cells)
        (shows_as s3 b (suc k) (joined_cells (2 ^ k) (cell_of s2 k e) (cell_of s2 k e) (cell_of s2 k ne) (cell_of s2 k e)) (joined_cells (2 ^ k) no_cells no_cells (cell_of s0 k ne) no_cells)
        (shown_together s2 k e e ne e no_cells no_cells (cell_of s0 k ne) no_cells e2 e2 part2 e2) (jb k e2.is_square))

    to_c : ShowsSquare s5 c (suc k) (joined_cells (2 ^ k) no_cells (cell_of s0 k sw) no_cells no_cells)
    to_c = shows_stays s4 s5 g4.sound g5 c (suc k) (joined_cells (2 ^ k) no_cells (cell_of s0 k sw) no_cells no_cells)
        (shows_as s4 c (suc k) (joined_cells (2 ^ k) (cell_of s3 k e) (cell_of s3 k sw) (cell_of s3 k e) (cell_of s3 k e)) (joined_cells (2 ^ k) no_cells (cell_of s0 k sw) no_cells no_cells)
        (shown_together s3 k e sw e e no_cells (cell_of s0 k sw) no_cells no_cells e3 part3 e3 e3) (jc k e3.is_square))

    module _ (jd : (l : ℕ) → IsOf s4 se l → ShowsSquare s5 d (suc l) (joined_cells (2 ^ l) (cell_of s4 l se) (cell_of s4 l e) (cell_of s4 l e) (cell_of s4 l e))) where
      to_d : ShowsSquare s5 d (suc k) (joined_cells (2 ^ k) (cell_of s0 k se) no_cells no_cells no_cells)
      to_d =
          shows_as s5 d (suc k) (joined_cells (2 ^ k) (cell_of s4 k se) (cell_of s4 k e) (cell_of s4 k e) (cell_of s4 k e)) (joined_cells (2 ^ k) (cell_of s0 k se) no_cells no_cells no_cells)
          (shown_together s4 k se e e e (cell_of s0 k se) no_cells no_cells no_cells part4 e4 e4 e4) (jd k part4.is_square)

      pub ring_four : k ≤ 123 → AreFour s5 (suc k) a b c d
      ring_four low = record { is_low = omega arith; is_nw = to_a.is_square; is_ne = to_b.is_square; is_sw = to_c.is_square; is_se = to_d.is_square }

      pub ring_shows : {E : Type 0} (s6 : List Node) (r : Result ℕ E)
          → IfOk r (λ id. ShowsSquare s6 id (suc (suc k)) (joined_cells (2 ^ suc k) (cell_of s5 (suc k) a) (cell_of s5 (suc k) b) (cell_of s5 (suc k) c) (cell_of s5 (suc k) d)))
          → IfOk r (λ id. ShowsSquare s6 id (suc (suc k)) (with_ring (2 ^ k) (cell_of s0 k nw) (cell_of s0 k ne) (cell_of s0 k sw) (cell_of s0 k se)))
      ring_shows s6 r =
          subst
          (λ n. IfOk r (λ id. ShowsSquare s6 id (suc (suc k)) (joined_cells (2 ^ suc k) (cell_of s5 (suc k) a) (cell_of s5 (suc k) b) (cell_of s5 (suc k) c) (cell_of s5 (suc k) d)))
          → IfOk r (λ id. ShowsSquare s6 id (suc (suc k)) (joined_cells n (joined_cells (2 ^ k) no_cells no_cells no_cells (cell_of s0 k nw)) (joined_cells (2 ^ k) no_cells no_cells (cell_of s0 k ne) no_cells) (joined_cells (2 ^ k) no_cells (cell_of s0 k sw) no_cells no_cells) (joined_cells (2 ^ k) (cell_of s0 k se) no_cells no_cells no_cells))))
          (two-pow-succ k)
          (ok_as s6 r (suc (suc k)) (joined_cells (2 ^ suc k) (cell_of s5 (suc k) a) (cell_of s5 (suc k) b) (cell_of s5 (suc k) c) (cell_of s5 (suc k) d))
          (joined_cells (2 ^ suc k) (joined_cells (2 ^ k) no_cells no_cells no_cells (cell_of s0 k nw)) (joined_cells (2 ^ k) no_cells no_cells (cell_of s0 k ne) no_cells) (joined_cells (2 ^ k) no_cells (cell_of s0 k sw) no_cells no_cells) (joined_cells (2 ^ k) (cell_of s0 k se) no_cells no_cells no_cells))
          (together_same (2 ^ suc k) (cell_of s5 (suc k) a) (cell_of s5 (suc k) b) (cell_of s5 (suc k) c) (cell_of s5 (suc k) d)
          (joined_cells (2 ^ k) no_cells no_cells no_cells (cell_of s0 k nw)) (joined_cells (2 ^ k) no_cells no_cells (cell_of s0 k ne) no_cells) (joined_cells (2 ^ k) no_cells (cell_of s0 k sw) no_cells no_cells) (joined_cells (2 ^ k) (cell_of s0 k se) no_cells no_cells no_cells)
          to_a.has_cells to_b.has_cells to_c.has_cells to_d.has_cells))

-- four leaves of a cell each
module _ (s1 s2 s3 s4 : List Node) (g2 : Grows s1 s2) (g3 : Grows s2 s3) (g4 : Grows s3 s4) (sound : IsSoundStore s1) (nw ne sw se a b c d : ℕ)
    (la : ShowsSquare s1 a 1 (joined_cells 1 (one_cell 0) (one_cell 0) (one_cell 0) (one_cell nw))) (lb : ShowsSquare s2 b 1 (joined_cells 1 (one_cell 0) (one_cell 0) (one_cell ne) (one_cell 0)))
    (lc : ShowsSquare s3 c 1 (joined_cells 1 (one_cell 0) (one_cell sw) (one_cell 0) (one_cell 0))) (ld : ShowsSquare s4 d 1 (joined_cells 1 (one_cell se) (one_cell 0) (one_cell 0) (one_cell 0)))
  where
    no_dot : (x y : ℕ) → one_cell 0 x y ≡ no_cells x y
    no_dot = dot_empty 0 refl

    cell_a : ShowsSquare s4 a 1 (joined_cells 1 no_cells no_cells no_cells (one_cell nw))
    cell_a = shows_stays s1 s4 sound (grows_on s1 s2 s4 g2 (grows_on s2 s3 s4 g3 g4)) a 1 (joined_cells 1 no_cells no_cells no_cells (one_cell nw))
        (shows_as s1 a 1 (joined_cells 1 (one_cell 0) (one_cell 0) (one_cell 0) (one_cell nw)) (joined_cells 1 no_cells no_cells no_cells (one_cell nw)) (together_same 1 (one_cell 0) (one_cell 0) (one_cell 0) (one_cell nw) no_cells no_cells no_cells (one_cell nw) no_dot no_dot no_dot (λ x y. refl)) la)

    cell_b : ShowsSquare s4 b 1 (joined_cells 1 no_cells no_cells (one_cell ne) no_cells)
    cell_b = shows_stays s2 s4 g2.sound (grows_on s2 s3 s4 g3 g4) b 1 (joined_cells 1 no_cells no_cells (one_cell ne) no_cells)
        (shows_as s2 b 1 (joined_cells 1 (one_cell 0) (one_cell 0) (one_cell ne) (one_cell 0)) (joined_cells 1 no_cells no_cells (one_cell ne) no_cells) (together_same 1 (one_cell 0) (one_cell 0) (one_cell ne) (one_cell 0) no_cells no_cells (one_cell ne) no_cells no_dot no_dot (λ x y. refl) no_dot) lb)

    cell_c : ShowsSquare s4 c 1 (joined_cells 1 no_cells (one_cell sw) no_cells no_cells)
    cell_c = shows_stays s3 s4 g3.sound g4 c 1 (joined_cells 1 no_cells (one_cell sw) no_cells no_cells)
        (shows_as s3 c 1 (joined_cells 1 (one_cell 0) (one_cell sw) (one_cell 0) (one_cell 0)) (joined_cells 1 no_cells (one_cell sw) no_cells no_cells) (together_same 1 (one_cell 0) (one_cell sw) (one_cell 0) (one_cell 0) no_cells (one_cell sw) no_cells no_cells no_dot (λ x y. refl) no_dot no_dot) lc)

    cell_d : ShowsSquare s4 d 1 (joined_cells 1 (one_cell se) no_cells no_cells no_cells)
    cell_d =
        shows_as s4 d 1 (joined_cells 1 (one_cell se) (one_cell 0) (one_cell 0) (one_cell 0)) (joined_cells 1 (one_cell se) no_cells no_cells no_cells) (together_same 1 (one_cell se) (one_cell 0) (one_cell 0) (one_cell 0) (one_cell se) no_cells no_cells no_cells (λ x y. refl) no_dot no_dot no_dot) ld

    pub leaves_four : AreFour s4 1 a b c d
    leaves_four = record { is_low = omega arith; is_nw = cell_a.is_square; is_ne = cell_b.is_square; is_sw = cell_c.is_square; is_se = cell_d.is_square }

    pub leaves_ring : {E : Type 0} (s5 : List Node) (r : Result ℕ E)
        → IfOk r (λ id. ShowsSquare s5 id 2 (joined_cells 2 (cell_of s4 1 a) (cell_of s4 1 b) (cell_of s4 1 c) (cell_of s4 1 d))) → IfOk r (λ id. ShowsSquare s5 id 2 (with_ring 1 (one_cell nw) (one_cell ne) (one_cell sw) (one_cell se)))
    leaves_ring s5 r =
        ok_as s5 r 2 (joined_cells 2 (cell_of s4 1 a) (cell_of s4 1 b) (cell_of s4 1 c) (cell_of s4 1 d)) (with_ring 1 (one_cell nw) (one_cell ne) (one_cell sw) (one_cell se))
        (together_same 2 (cell_of s4 1 a) (cell_of s4 1 b) (cell_of s4 1 c) (cell_of s4 1 d)
        (joined_cells 1 no_cells no_cells no_cells (one_cell nw)) (joined_cells 1 no_cells no_cells (one_cell ne) no_cells) (joined_cells 1 no_cells (one_cell sw) no_cells no_cells) (joined_cells 1 (one_cell se) no_cells no_cells no_cells)
        cell_a.has_cells cell_b.has_cells cell_c.has_cells cell_d.has_cells)

-- with_ring by other words
pub ringed_as : (s : ℕ) (p q small big : ℕ → ℕ → ℕ) → IsRinged s p q → ((x y : ℕ) → small x y ≡ p x y) → ((x y : ℕ) → big x y ≡ q x y) → IsRinged s small big
ringed_as s p q small big h e f = record {
  inside = λ x y i j. f (s + x) (s + y) ∙ (h.inside x y i j ∙ sym (e x y));
  ring = λ x y o. f x y ∙ h.ring x y o;
}

pub rings : (old new : List Node) (level k id big : ℕ) → suc k ≡ level → (a b c d : ℕ → ℕ → ℕ) → cell_of old level id ≡ joined_cells (2 ^ k) a b c d
    → ShowsSquare new big (suc (suc k)) (with_ring (2 ^ k) a b c d) → Rings old new level id big
rings old new level k id big e a b c d small shows =
    let back : suc k - 1 ≡ k = omega arith in
    subst (λ l. Rings old new l id big) e
    (record {
      is_square = shows.is_square;
      is_ringed = subst (λ n. IsRinged (2 ^ n) (cell_of old (suc k) id) (cell_of new (suc (suc k)) big)) (sym back)
          (ringed_as (2 ^ k) (joined_cells (2 ^ k) a b c d) (with_ring (2 ^ k) a b c d) (cell_of old (suc k) id) (cell_of new (suc (suc k)) big) (is_ringed (2 ^ k) a b c d)
          (λ x y. ap (λ f. f x y) (subst (λ l. cell_of old l id ≡ joined_cells (2 ^ k) a b c d) (sym e) small)) shows.has_cells);
    })

pub rings_ok : {E : Type 0} (old new : List Node) (level k id : ℕ) (r : Result ℕ E) → suc k ≡ level → (a b c d : ℕ → ℕ → ℕ) → cell_of old level id ≡ joined_cells (2 ^ k) a b c d
    → IfOk r (λ big. ShowsSquare new big (suc (suc k)) (with_ring (2 ^ k) a b c d)) → IfOk r (Rings old new level id)
rings_ok old new level k id (Ok big) e a b c d small shows = rings old new level k id big e a b c d small shows
rings_ok old new level k id (Err f) e a b c d small shows = tt
