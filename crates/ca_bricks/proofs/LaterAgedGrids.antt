-- Runs of grids whose cells age.
use Rattle.std.proofs.Common.{◌≡◌, ℕ, zero, suc, ◌+◌, ◌-◌, ◌*◌, ◌<◌, ◌≤◌, List, [], ◌∷◌, length, get_or, refl, sym, ap, ap₂, subst, ◌∙◌, arith}
use Rattle.std.proofs.lemmas.List.Elements.{All-from_recursion}
use Rattle.std.proofs.lemmas.Nat.Bits.{bit_at-zero}
use Rattle.std.specs.Prelude.{ℤ, replicate}
use Rattle.ca_plane.specs.Prelude.{liveness, aged, GoesByAgeing, counting_next, cells_after, row_cells}
use Rattle.ca_plane.specs.declared.counting.Ageing.{Ageing}
use Rattle.ca_bricks.specs.declared.{aged.AgedGrid.AgedGrid, grid.BrickGrid.BrickGrid}
use Rattle.ca_bricks.specs.Prelude.{AgedGridShows, AreAlike, IsNextAged, IsSameAged, HasBlankEdges, IsBlankAged, IsBlankRoundAged, HaveAged, IsBeside, AreBeside, dying_digit, aged_digit, lives_at}
use Rattle.ca_bricks.specs.Prelude.{number_at, HasNeighbours, IsBlank, round_at, counted_cell_at}
use Rattle.ca_plane.proofs.After.{after_again}
use Rattle.ca_bricks.proofs.AgedNumbers.{in_place_again}
use Rattle.ca_bricks.specs.declared.cell_rule.CellRule.TheVariants.{ByCounting}
use Rattle.ca_bricks.proofs.AgedGrids.{aged_grid_later, by_it, counting_low}
use Rattle.ca_bricks.proofs.BrickBlanks.{own_cells, blank_next, all_blank_round}
use Rattle.ca_bricks.proofs.BrickRounds.{next_cell_at-same}
use Rattle.ca_bricks.proofs.BrickMargins.{margin_less, grid_as, grid_less}

-- the same grid, with `work` bricks stepped
abbrev pub with_work : AgedGrid → ℕ → AgedGrid
with_work grid work = record {
  live = record { x = grid.live.x; y = grid.live.y; across = grid.live.across; down = grid.live.down; bricks = grid.live.bricks; work = work };
  dying = grid.dying;
  states = grid.states;
}

-- a grid shows whatever plane has the same cells
pub aged_as : (grid : AgedGrid) (m : ℕ) (p q : ℤ → ℤ → ℕ) → ((x y : ℤ) → p x y ≡ q x y) → AgedGridShows grid m p → AgedGridShows grid m q
aged_as grid m p q same shows = record {
  least = shows.least;
  most = shows.most;
  low = λ x y. subst (λ s. s < grid.states) (same x y) (shows.low x y);
  enough = shows.enough;
  beside = shows.beside;
  margin = λ x y out. sym (same x y) ∙ shows.margin x y out;
  live = grid_as grid.live m (λ x y. liveness (p x y)) (λ x y. liveness (q x y)) (λ x y. ap liveness (same x y)) shows.live;
  dying = λ k d h.
      grid_as (get_or grid.dying.items k d) m (λ x y. dying_digit grid.states k (p x y)) (λ x y. dying_digit grid.states k (q x y)) (λ x y. ap (dying_digit grid.states k) (same x y)) (shows.dying k d h);
}

-- with a smaller margin too
pub aged_less : (grid : AgedGrid) (m k : ℕ) (p : ℤ → ℤ → ℕ) → k ≤ m → AgedGridShows grid m p → AgedGridShows grid k p
aged_less grid m k p h shows = record {
  least = shows.least;
  most = shows.most;
  low = shows.low;
  enough = shows.enough;
  beside = shows.beside;
  margin = margin_less m k grid.live.across grid.live.down p grid.live.x grid.live.y h shows.margin;
  live = grid_less grid.live m k (λ x y. liveness (p x y)) h shows.live;
  dying = λ j d low. grid_less (get_or grid.dying.items j d) m k (λ x y. dying_digit grid.states j (p x y)) h (shows.dying j d low);
}

-- the grid a generation later, of a run that has reached `reached + k` generations
pub aged_later : (next : List ℕ → ℕ) (ageing : Ageing) (grid later : AgedGrid) → GoesByAgeing grid.states next ageing → next (replicate 9 0) ≡ 0 → (n k reached : ℕ) (first : ℤ → ℤ → ℕ) → k < n
    → AgedGridShows grid (n - k) (cells_after next first (reached + k)) → AreAlike grid later
    → ((t : ℕ) → HasNeighbours grid.live.across (length grid.live.bricks.items) t → IsNextAged ageing grid later t) → HasBlankEdges later
    → AgedGridShows later (n - (k + 1)) (cells_after next first (reached + (k + 1)))
aged_later next ageing grid later goes_by quiet n k reached first low shows alike came blank =
    let p = cells_after next first (reached + k) in
    let m = n - (k + 1) in
    let more : n - k ≡ suc m = omega (arith, low) in
    let time : (reached + k) + 1 ≡ reached + (k + 1) = omega arith in
    aged_as later m (cells_after next p 1) (cells_after next first (reached + (k + 1)))
    (λ x y. after_again next first (reached + k) 1 x y ∙ ap (λ r. cells_after next first r x y) time)
    (aged_grid_later next ageing grid later m p goes_by quiet (subst (λ r. AgedGridShows grid r p) more shows) alike came blank)

-- ---- bricks that rest

-- the numbers are those of the same digits
same_numbers : (ws vs : List BrickGrid) (t x y : ℕ) → length vs ≡ length ws
    → ((k : ℕ) (d : BrickGrid) → k < length ws → row_cells (get_or (get_or vs k d).bricks.items t []) x y ≡ row_cells (get_or (get_or ws k d).bricks.items t []) x y)
    → number_at vs t x y ≡ number_at ws t x y
same_numbers [] [] t x y size same = refl
same_numbers [] (v ∷ vs) t x y size same = absurd (omega (arith, size))
same_numbers (w ∷ ws) [] t x y size same = absurd (omega (arith, size))
same_numbers (w ∷ ws) (v ∷ vs) t x y size same =
    ap₂ (λ b m. b + 2 * m) (same 0 w (omega arith)) (same_numbers ws vs t x y (omega (arith, size)) (λ k d h. same (suc k) d (omega (arith, h))))

-- and they are 0 where no digit has a bit
no_numbers : (ws : List BrickGrid) (t x y : ℕ) → ((k : ℕ) (d : BrickGrid) → k < length ws → row_cells (get_or (get_or ws k d).bricks.items t []) x y ≡ 0) → number_at ws t x y ≡ 0
no_numbers [] t x y none = refl
no_numbers (w ∷ ws) t x y none =
    let first = none 0 w (omega arith) in
    let more = no_numbers ws t x y (λ k d h. none (suc k) d (omega (arith, h))) in
    omega (arith, first, more)

-- where the brick and the cells round it are the same as before, what came next of them then comes next of them now
pub aged_again : (ageing : Ageing) (old new now : AgedGrid) (t : ℕ) → new.live.across ≡ old.live.across → length new.dying.items ≡ length old.dying.items
    → IsNextAged ageing old now t → IsSameAged old.live.across old new t → IsNextAged ageing new now t
aged_again ageing old new now t across size was same =
    let numbers : (x y : ℕ) → x < 64 → y < 16 → number_at new.dying.items t x y ≡ number_at old.dying.items t x y
    = λ x y h i. same_numbers old.dying.items new.dying.items t x y size (λ k d low. same.dying k d low x y h i) in
    let lives : (x y : ℕ) → x < 64 → y < 16 → lives_at ageing new t x y ≡ lives_at ageing old t x y
    = λ x y h i.
    ap (λ n. counted_cell_at ageing.counting (round_at n new.live.bricks.items t) x y) across
    ∙ next_cell_at-same (ByCounting ageing.counting) (round_at old.live.across new.live.bricks.items t) (round_at old.live.across old.live.bricks.items t) x y
    (λ u v _ j _ l. same.live.cells u v (omega (arith, j, h)) (omega (arith, l, i))) in
    let own : (x y : ℕ) → x < 64 → y < 16 → row_cells (get_or new.live.bricks.items t []) x y ≡ row_cells (get_or old.live.bricks.items t []) x y
    = λ x y h i.
    sym (own_cells old.live.across new.live.bricks.items t x y h i) ∙ same.live.cells (suc x) (suc y) (omega (arith, h)) (omega (arith, i))
    ∙ own_cells old.live.across old.live.bricks.items t x y h i in
    record {
      live = λ x y h i. was.live x y h i ∙ sym (ap₂ (λ a b. a - b) (lives x y h i) (numbers x y h i));
      dying = λ k d low x y h i.
          was.dying k d (omega (arith, low, size)) x y h i
          ∙ sym (ap₂ (aged_digit ageing.states k) (numbers x y h i) (ap₂ (λ a b. a - b) (own x y h i) (lives x y h i)));
    }

none_lives : (states n : ℕ) → n < 2 → aged states 0 n ≡ 0 → n ≡ 0
none_lives states zero low e = refl
none_lives states (suc zero) low e = absurd (omega (arith, e))
none_lives states (suc (suc n)) low e = absurd (omega (arith, low))

-- where the empty plane stays empty, so it does by the counting
quiet_counting : (next : List ℕ → ℕ) (ageing : Ageing) (states : ℕ) → GoesByAgeing states next ageing → 2 ≤ states → next (replicate 9 0) ≡ 0 → counting_next ageing.counting (replicate 9 0) ≡ 0
quiet_counting next ageing states goes_by least quiet =
    none_lives ageing.states (counting_next ageing.counting (replicate 9 0)) (counting_low ageing.counting (replicate 9 0))
    (sym (goes_by.goes_by (replicate 9 0) refl (All-from_recursion (λ s. s < states) (replicate 9 0) (some, (some, (some, (some, (some, (some, (some, (some, (some, tt))))))))))) ∙ quiet)
  where
    some : 0 < states
    some = omega (arith, least)

-- a brick round which no cell is live and that has no dying one is blank next
pub blank_ages : (next : List ℕ → ℕ) (ageing : Ageing) (now before : AgedGrid) → GoesByAgeing now.states next ageing → 2 ≤ now.states → next (replicate 9 0) ≡ 0 → (t : ℕ)
    → length before.dying.items ≡ length now.dying.items → IsBlankRoundAged now t → IsBlankAged before t → IsNextAged ageing now before t
blank_ages next ageing now before goes_by least quiet t size round blank =
    let lives : (x y : ℕ) → x < 64 → y < 16 → lives_at ageing now t x y ≡ 0
    = blank_next (counting_next ageing.counting) (ByCounting ageing.counting) (by_it ageing.counting) (quiet_counting next ageing now.states goes_by least quiet) now.live.across now.live.bricks.items t round.live in
    let numbers : (x y : ℕ) → x < 64 → y < 16 → number_at now.dying.items t x y ≡ 0 = λ x y h i. no_numbers now.dying.items t x y (λ k d low. round.dying k d low x y h i) in
    let own : (x y : ℕ) → x < 64 → y < 16 → row_cells (get_or now.live.bricks.items t []) x y ≡ 0
    = λ x y h i. sym (own_cells now.live.across now.live.bricks.items t x y h i) ∙ round.live (suc x) (suc y) (omega (arith, h)) (omega (arith, i)) in
    record {
      live = λ x y h i. blank.live x y h i ∙ sym (ap₂ (λ a b. a - b) (lives x y h i) (numbers x y h i));
      dying = λ k d low x y h i.
          blank.dying k d (omega (arith, low, size)) x y h i
          ∙ sym (ap₂ (aged_digit ageing.states k) (numbers x y h i) (ap₂ (λ a b. a - b) (own x y h i) (lives x y h i)) ∙ omega (arith, bit_at-zero k));
    }

-- and so does a brick that sees nothing of two generations, the first after a blank one
pub blank_ages_again : (next : List ℕ → ℕ) (ageing : Ageing) (before now later : AgedGrid) → GoesByAgeing later.states next ageing → 2 ≤ later.states → next (replicate 9 0) ≡ 0 → (t : ℕ)
    → length before.dying.items ≡ length now.dying.items → length later.dying.items ≡ length now.dying.items → now.live.across ≡ later.live.across
    → ((s : ℕ) → IsBlankAged before s) → IsBlankRoundAged now t → IsSameAged later.live.across before later t → IsNextAged ageing later now t
blank_ages_again next ageing before now later goes_by least quiet t size more across blank round same =
    blank_ages next ageing later now goes_by least quiet t (sym more)
    (record {
      live = λ x y h i. same.live.cells x y h i ∙ all_blank_round later.live.across before.live.bricks.items (λ s. (blank s).live) t x y h i;
      dying = λ k d low x y h i. same.dying k d (omega (arith, low, size, more)) x y h i ∙ (blank t).dying k d (omega (arith, low, size, more)) x y h i;
    })
    (record {
      live = λ x y h i. sym (own_cells now.live.across now.live.bricks.items t x y h i) ∙ round.live (suc x) (suc y) (omega (arith, h)) (omega (arith, i));
      dying = round.dying;
    })

-- bricks at the edge stay blank
pub edges_stay : (ageing : Ageing) (now before later : AgedGrid) (old new : List ℕ) → AreAlike now before → HaveAged ageing now before later old new → HasBlankEdges before → HasBlankEdges later
edges_stay ageing now before later old new alike made blank t not =
    let was : (HasNeighbours now.live.across (length now.live.bricks.items) t → ⊥) = λ has. not (there later made.alike.live has) in
    let edge = blank t (λ has. was (here has)) in
    record {
      live = subst IsBlank (sym (made.others t was)) edge.live;
      dying = λ k d low.
          let within : k < length now.dying.items = omega (arith, low, made.alike.digits) in
          subst IsBlank (sym (made.other_digits k d within t was)) (edge.dying k d (omega (arith, within, alike.digits)));
    }
  where
    there : (grid : AgedGrid) → IsBeside now.live grid.live → HasNeighbours now.live.across (length now.live.bricks.items) t → HasNeighbours grid.live.across (length grid.live.bricks.items) t
    there grid beside has =
        subst (λ n. HasNeighbours n (length grid.live.bricks.items) t) (sym beside.place.across) (subst (λ n. HasNeighbours now.live.across n t) (sym beside.size) has)

    here : HasNeighbours before.live.across (length before.live.bricks.items) t → HasNeighbours now.live.across (length now.live.bricks.items) t
    here has = subst (λ n. HasNeighbours n (length now.live.bricks.items) t) alike.live.place.across (subst (λ n. HasNeighbours before.live.across n t) alike.live.size has)

pub beside_again : (a b c : BrickGrid) → IsBeside a b → IsBeside b c → IsBeside a c
beside_again a b c h k = record { place = in_place_again a b c h.place k.place; size = k.size ∙ h.size }

beside_back : (a b : BrickGrid) → IsBeside a b → IsBeside b a
beside_back a b h = record { place = record { x = sym h.place.x; y = sym h.place.y; across = sym h.place.across; down = sym h.place.down }; size = sym h.size }

-- what is like another is so the other way round
pub alike_back : (a b : AgedGrid) → AreBeside a → AreAlike a b → AreAlike b a
alike_back a b beside h = record {
  live = beside_back a.live b.live h.live;
  dying = λ k d low. beside_again b.live a.live (get_or a.dying.items k d) (beside_back a.live b.live h.live) (beside k d low);
  digits = sym h.digits;
  states = sym h.states;
}

-- how much work was done is no matter of what is shown
pub worked : (grid : AgedGrid) (work : ℕ) (p : ℤ → ℤ → ℕ) → AgedGridShows grid 0 p → AgedGridShows (with_work grid work) 0 p
worked grid work p shows = record {
  least = shows.least;
  most = shows.most;
  low = shows.low;
  enough = shows.enough;
  beside = λ k d low.
      let own = shows.beside k d low in
      record { place = record { x = own.place.x; y = own.place.y; across = own.place.across; down = own.place.down }; size = own.size };
  margin = shows.margin;
  live = record { is_grid = record { wide = shows.live.is_grid.wide; high = shows.live.is_grid.high; size = shows.live.is_grid.size }; bricks = shows.live.bricks; margin = shows.live.margin };
  dying = shows.dying;
}
