-- Squares that overlap by half, and how their centres lie, whatever it is that shows a plane: squares of a store, or words.
use Rattle.std.proofs.Common.{◌≡◌, ℕ, suc, refl, sym, ap, subst, arith}
use Rattle.std.specs.Prelude.{ℤ, ◌+ℤ◌}
use Rattle.std.proofs.lemmas.Int.{ints}
use Rattle.std.proofs.Math.Nat.{two-pow-succ}
use Rattle.ca_bricks.specs.declared.trio.{Trio.Trio, Rows.Rows}
use Rattle.ca_bricks.specs.Prelude.{PairShows, TrioShows, RowsShow, QuartersShow, side}

-- where each quarter shows something else, or in another way, so does the whole
pub quarters_each : {T U : Type 0} {Was : T → (ℤ → ℤ → ℕ) → ℤ → ℤ → Type 0} {wide : ℤ} {nw ne sw se : T} {p : ℤ → ℤ → ℕ} {a b : ℤ} (Is : U → (ℤ → ℤ → ℕ) → ℤ → ℤ → Type 0) (w x y z : U) (q : ℤ → ℤ → ℕ)
    → QuartersShow Was wide nw ne sw se p a b → ((u v : ℤ) → Was nw p u v → Is w q u v) → ((u v : ℤ) → Was ne p u v → Is x q u v) → ((u v : ℤ) → Was sw p u v → Is y q u v)
    → ((u v : ℤ) → Was se p u v → Is z q u v) → QuartersShow Is wide w x y z q a b
quarters_each Is w x y z q h f g i j = record { at_nw = f _ _ h.at_nw; at_ne = g _ _ h.at_ne; at_sw = i _ _ h.at_sw; at_se = j _ _ h.at_se }

-- the four in the west of two rows of three
pub west_four : {T : Type 0} {Shows : T → (ℤ → ℤ → ℕ) → ℤ → ℤ → Type 0} {wide : ℤ} {north south : Trio T} {p : ℤ → ℤ → ℕ} {a b : ℤ} → TrioShows Shows wide north p a b → TrioShows Shows wide south p a (b +ℤ wide)
    → QuartersShow Shows wide north.west north.middle south.west south.middle p a b
west_four n s = record { at_nw = n.at_west; at_ne = n.at_middle; at_sw = s.at_west; at_se = s.at_middle }

-- and those in the east
pub east_four : {T : Type 0} {Shows : T → (ℤ → ℤ → ℕ) → ℤ → ℤ → Type 0} {wide : ℤ} {north south : Trio T} {p : ℤ → ℤ → ℕ} {a b : ℤ} → TrioShows Shows wide north p a b → TrioShows Shows wide south p a (b +ℤ wide)
    → QuartersShow Shows wide north.middle north.east south.middle south.east p (a +ℤ wide) b
east_four n s = record { at_nw = n.at_middle; at_ne = n.at_east; at_sw = s.at_middle; at_se = s.at_east }

-- the same from a place by another name
shows_from : {T : Type 0} (Shows : T → (ℤ → ℤ → ℕ) → ℤ → ℤ → Type 0) (t : T) (p : ℤ → ℤ → ℕ) (a b c d : ℤ) → a ≡ c → b ≡ d → Shows t p a b → Shows t p c d
shows_from Shows t p a b c d e f h = subst (λ x. Shows t p x d) e (subst (λ y. Shows t p a y) f h)

module _ (k : ℕ) where
  -- half of a side and then a side is a side and then half of it
  side_turn : (a : ℤ) → (a +ℤ side (suc k)) +ℤ side k ≡ (a +ℤ side k) +ℤ side (suc k)
  side_turn a = omega (arith, ints)

  side_twice : (a : ℤ) → (a +ℤ side k) +ℤ side k ≡ a +ℤ side (suc k)
  side_twice a =
      let up = two-pow-succ k in
      omega (arith, ints, up)

  side_far : (a : ℤ) → (a +ℤ side (suc (suc k))) +ℤ side k ≡ (a +ℤ side k) +ℤ side (suc k) +ℤ side (suc k)
  side_far a =
      let up = two-pow-succ (suc k) in
      omega (arith, ints, up)

  side_last : (a : ℤ) → ((a +ℤ side k) +ℤ side (suc k)) +ℤ side k ≡ (a +ℤ side (suc k)) +ℤ side (suc k)
  side_last a =
      let up = two-pow-succ k in
      omega (arith, ints, up)

module _ {T : Type 0} {Shows : T → (ℤ → ℤ → ℕ) → ℤ → ℤ → Type 0} (k : ℕ) where
  -- the four in the middle of two squares side by side
  pub four_between : {m n o q r s t u : T} {p : ℤ → ℤ → ℕ} {a b : ℤ} → QuartersShow Shows (side k) m n o q p a b → QuartersShow Shows (side k) r s t u p (a +ℤ side (suc k)) b → QuartersShow Shows (side k) n r q t p (a +ℤ side k) b
  four_between {a = a} west east =
      let x = sym (side_twice k a) in
      record { at_nw = west.at_ne; at_ne = shows_from Shows _ _ _ _ _ _ x refl east.at_nw; at_sw = west.at_se; at_se = shows_from Shows _ _ _ _ _ _ x refl east.at_sw }

  -- and of two of which one lies over the other
  pub four_halfway : {m n o q r s t u : T} {p : ℤ → ℤ → ℕ} {a b : ℤ} → QuartersShow Shows (side k) m n o q p a b → QuartersShow Shows (side k) r s t u p a (b +ℤ side (suc k)) → QuartersShow Shows (side k) o q r s p a (b +ℤ side k)
  four_halfway {b = b} north south =
      let y = sym (side_twice k b) in
      record { at_nw = north.at_sw; at_ne = north.at_se; at_sw = shows_from Shows _ _ _ _ _ _ refl y south.at_nw; at_se = shows_from Shows _ _ _ _ _ _ refl y south.at_ne }

  -- and of four
  pub four_inner : {m n o q r s t u v w x y c d e f : T} {p : ℤ → ℤ → ℕ} {a b : ℤ} → QuartersShow Shows (side k) m n o q p a b → QuartersShow Shows (side k) r s t u p (a +ℤ side (suc k)) b
      → QuartersShow Shows (side k) v w x y p a (b +ℤ side (suc k)) → QuartersShow Shows (side k) c d e f p (a +ℤ side (suc k)) (b +ℤ side (suc k)) → QuartersShow Shows (side k) q t w c p (a +ℤ side k) (b +ℤ side k)
  four_inner {a = a} {b = b} nw ne sw se =
      let x = sym (side_twice k a) in
      let y = sym (side_twice k b) in
      record { at_nw = nw.at_se; at_ne = shows_from Shows _ _ _ _ _ _ x refl ne.at_sw; at_sw = shows_from Shows _ _ _ _ _ _ refl y sw.at_ne; at_se = shows_from Shows _ _ _ _ _ _ x y se.at_nw }

module _ {T : Type 0} (Shows : T → (ℤ → ℤ → ℕ) → ℤ → ℤ → Type 0) (k : ℕ) where
  -- centres of two squares that lie side by side and overlap by half
  pub pair_lies : (west east : T) (p : ℤ → ℤ → ℕ) (a c : ℤ) → Shows west p (a +ℤ side k) c → Shows east p ((a +ℤ side (suc k)) +ℤ side k) c → PairShows Shows (side (suc k)) west east p (a +ℤ side k) c
  pair_lies west east p a c w e = record { at_west = w; at_east = subst (λ x. Shows east p x c) (side_turn k a) e }

  -- and of three
  pub trio_lies : (three : Trio T) (p : ℤ → ℤ → ℕ) (a c : ℤ) → Shows three.west p (a +ℤ side k) c → Shows three.middle p ((a +ℤ side (suc k)) +ℤ side k) c → Shows three.east p ((a +ℤ side (suc (suc k))) +ℤ side k) c
      → TrioShows Shows (side (suc k)) three p (a +ℤ side k) c
  trio_lies three p a c w m e = record { at_west = w; at_middle = subst (λ x. Shows three.middle p x c) (side_turn k a) m; at_east = subst (λ x. Shows three.east p x c) (side_far k a) e }

  -- and of nine
  pub rows_lie : (rows : Rows T) (p : ℤ → ℤ → ℕ) (c b : ℤ) → TrioShows Shows (side (suc k)) rows.north p c (b +ℤ side k) → TrioShows Shows (side (suc k)) rows.middle p c ((b +ℤ side (suc k)) +ℤ side k)
      → TrioShows Shows (side (suc k)) rows.south p c ((b +ℤ side (suc (suc k))) +ℤ side k) → RowsShow Shows (side (suc k)) rows p c (b +ℤ side k)
  rows_lie rows p c b n m s = record {
    at_north = n;
    at_middle = subst (λ y. TrioShows Shows (side (suc k)) rows.middle p c y) (side_turn k b) m;
    at_south = subst (λ y. TrioShows Shows (side (suc k)) rows.south p c y) (side_far k b) s;
  }

  -- the four centres lie together
  pub four_lie : (nw ne sw se : T) (p : ℤ → ℤ → ℕ) (a b : ℤ) → PairShows Shows (side (suc k)) nw ne p ((a +ℤ side k) +ℤ side k) ((b +ℤ side k) +ℤ side k)
      → PairShows Shows (side (suc k)) sw se p ((a +ℤ side k) +ℤ side k) (((b +ℤ side k) +ℤ side (suc k)) +ℤ side k) → QuartersShow Shows (side (suc k)) nw ne sw se p (a +ℤ side (suc k)) (b +ℤ side (suc k))
  four_lie nw ne sw se p a b n s =
      let x = side_twice k a in
      let y = side_twice k b in
      let z = side_last k b in
      let xx = ap (λ i. i +ℤ side (suc k)) x in
      record {
        at_nw = shows_from Shows nw p _ _ _ _ x y n.at_west;
        at_ne = shows_from Shows ne p _ _ _ _ xx y n.at_east;
        at_sw = shows_from Shows sw p _ _ _ _ x z s.at_west;
        at_se = shows_from Shows se p _ _ _ _ xx z s.at_east;
      }
