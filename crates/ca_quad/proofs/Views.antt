-- What the square of an id is: its parts are squares too, and it tells the id.
use Rattle.std.proofs.Common.{◌≡◌, ℕ, ◌+◌, ◌-◌, ◌<◌, ◌≤◌, max, inl, inr, true, false, List, length, nat_lt, refl, sym, ap, ◌∙◌, arith}
use Rattle.std.proofs.lemmas.Bool.{cases_Bool}
use Rattle.std.proofs.lemmas.Bool.Decides.{nat_tests}
use Rattle.ca_quad.specs.declared.{named.IdForm.IdForm, node.Node.Node}
use Rattle.ca_quad.specs.declared.named.IdForm.TheVariants.{Cells2, Cells4, Kept}
use Rattle.ca_quad.specs.declared.node.Node.TheVariants.{Leaf, Block, Join}
use Rattle.ca_quad.specs.declared.square.Square.TheVariants.{Four, Parts}
use Rattle.ca_quad.specs.Prelude.{digit, cells2, cells4, meaning_of_id, place_id, node_square, square_named, square_of, level, IsAmong, IsStorable, node_at, IsSoundStore}
use Rattle.ca_quad.specs.inner.Whole.{IsWhole}
use Rattle.ca_quad.proofs.Growth.{IsBelow, named_below}

pub named_cells2 : (n : ℕ) → n < 16 → meaning_of_id (cells2 n) ≡ Cells2 n
named_cells2 n h = let e : nat_lt n 16 ≡ true = grind (arith, nat_tests) in rw e refl

pub named_cells4 : (n : ℕ) → n < 65536 → meaning_of_id (cells4 n) ≡ Cells4 n
named_cells4 n h =
    let e : nat_lt (16 + n) 16 ≡ false = grind (arith, nat_tests) in
    let f : nat_lt (16 + n) 65552 ≡ true = grind (arith, nat_tests) in
    let g : 16 + n - 16 ≡ n = omega arith in
    rw (e, f, g) refl

pub among_cells2 : (nodes : List Node) (places n : ℕ) → n < 16 → IsAmong nodes places (cells2 n) 1
among_cells2 nodes places n h = record { before = omega arith; is_level = ap (λ m. level (square_named nodes m)) (named_cells2 n h) }

pub among_cells4 : (nodes : List Node) (places n : ℕ) → n < 65536 → IsAmong nodes places (cells4 n) 2
among_cells4 nodes places n h = record { before = omega arith; is_level = ap (λ m. level (square_named nodes m)) (named_cells4 n h) }

among_more : (nodes : List Node) (few places id k : ℕ) → few ≤ places → IsAmong nodes few id k → IsAmong nodes places id k
among_more nodes few places id k h a = record { before = omega arith; is_level = a.is_level }

seen_whole : (nodes : List Node) (few places : ℕ) → few ≤ places → (n : Node) → IsStorable nodes few n → IsWhole nodes places (node_square n)
seen_whole nodes few places h (Leaf nw ne sw se) good = tt
seen_whole nodes few places h (Block n) good = record {
  least = omega arith;
  most = omega arith;
  is_nw = among_cells4 nodes places (digit 65536 n 0) (omega arith);
  is_ne = among_cells4 nodes places (digit 65536 n 1) (omega arith);
  is_sw = among_cells4 nodes places (digit 65536 n 2) (omega arith);
  is_se = among_cells4 nodes places (digit 65536 n 3) (omega arith);
}
seen_whole nodes few places h (Join k nw ne sw se) good = record {
  least = good.0.least;
  most = good.0.most;
  is_nw = among_more nodes few places nw (k - 1) h good.0.is_nw;
  is_ne = among_more nodes few places ne (k - 1) h good.0.is_ne;
  is_sw = among_more nodes few places sw (k - 1) h good.0.is_sw;
  is_se = among_more nodes few places se (k - 1) h good.0.is_se;
}

shown_whole : (nodes : List Node) → IsSoundStore nodes → (n : IdForm) → IsBelow (length nodes) n → IsWhole nodes (length nodes) (square_named nodes n)
shown_whole nodes sound (Cells2 n) h = tt
shown_whole nodes sound (Cells4 n) h = record {
  least = omega arith;
  most = omega arith;
  is_nw = among_cells2 nodes (length nodes) (digit 16 n 0) (omega arith);
  is_ne = among_cells2 nodes (length nodes) (digit 16 n 1) (omega arith);
  is_sw = among_cells2 nodes (length nodes) (digit 16 n 2) (omega arith);
  is_se = among_cells2 nodes (length nodes) (digit 16 n 3) (omega arith);
}
shown_whole nodes sound (Kept place) h = seen_whole nodes place (length nodes) (omega arith) (node_at nodes place) (sound.good place h)

pub square_whole : (nodes : List Node) → IsSoundStore nodes → (id : ℕ) → id < place_id (length nodes) → IsWhole nodes (length nodes) (square_of nodes id)
square_whole nodes sound id h = shown_whole nodes sound (meaning_of_id id) (named_below (length nodes) id h)

-- equal squares have equal cells, or equal parts
same_four : {a b c d e f g h : ℕ} → Four a b c d ≡ Four e f g h → (a ≡ e) × (b ≡ f) × (c ≡ g) × (d ≡ h)
same_four p = (cc, cc, cc, cc)

same_parts : {k l a b c d e f g h : ℕ} → Parts k a b c d ≡ Parts l e f g h → (a ≡ e) × (b ≡ f) × (c ≡ g) × (d ≡ h)
same_parts p = (cc, cc, cc, cc)

-- a block's parts are named by their cells
not_block : (m k a b c d : ℕ) → node_square (Block m) ≡ Parts k a b c d → 65552 ≤ max (max a b) (max c d) → ⊥
not_block m k a b c d e low =
    let (p, q, r, s) = same_parts e in
    omega arith

-- good nodes that look alike are equal
seen_same : (nodes : List Node) (i j : ℕ) (m n : Node) → IsStorable nodes i m → IsStorable nodes j n → node_square m ≡ node_square n → m ≡ n
seen_same nodes i j (Leaf nw ne sw se) (Leaf a b c d) g h e = cc
seen_same nodes i j (Leaf nw ne sw se) (Block n) g h e = cc
seen_same nodes i j (Leaf nw ne sw se) (Join k a b c d) g h e = cc
seen_same nodes i j (Block m) (Leaf a b c d) g h e = cc
seen_same nodes i j (Block m) (Block n) g h e =
    let (p, q, r, s) = same_parts e in
    ap (λ (n : ℕ). Block n) (omega arith)
seen_same nodes i j (Block m) (Join k a b c d) g h e = absurd (not_block m k a b c d e h.1)
seen_same nodes i j (Join k a b c d) (Leaf nw ne sw se) g h e = cc
seen_same nodes i j (Join k a b c d) (Block m) g h e = absurd (not_block m k a b c d (sym e) g.1)
seen_same nodes i j (Join k nw ne sw se) (Join l a b c d) g h e = cc

-- no good node looks like a square that is named by its cells
cells2_not_kept : (nodes : List Node) (i m : ℕ) (n : Node) → m < 16 → IsStorable nodes i n → square_named nodes (Cells2 m) ≡ node_square n → ⊥
cells2_not_kept nodes i m (Leaf a b c d) h g e =
    let (p, q, r, s) = same_four e in
    omega arith
cells2_not_kept nodes i m (Block n) h g e = cc
cells2_not_kept nodes i m (Join k a b c d) h g e = cc

cells4_not_kept : (nodes : List Node) (i m : ℕ) (n : Node) → m < 65536 → IsStorable nodes i n → square_named nodes (Cells4 m) ≡ node_square n → ⊥
cells4_not_kept nodes i m (Leaf a b c d) h g e = cc
cells4_not_kept nodes i m (Block n) h g e = cc
cells4_not_kept nodes i m (Join k a b c d) h g e =
    let (p, q, r, s) = same_parts e in
    let low : 65552 ≤ max (max a b) (max c d) = g.1 in
    omega arith

-- names that look alike are equal
shown_same : (nodes : List Node) → IsSoundStore nodes → (m n : IdForm) → IsBelow (length nodes) m → IsBelow (length nodes) n → square_named nodes m ≡ square_named nodes n → m ≡ n
shown_same nodes sound (Cells2 m) (Cells2 n) g h e =
    let (p, q, r, s) = same_four e in
    ap (λ (n : ℕ). Cells2 n) (omega arith)
shown_same nodes sound (Cells2 m) (Cells4 n) g h e = cc
shown_same nodes sound (Cells2 m) (Kept i) g h e = absurd (cells2_not_kept nodes i m (node_at nodes i) g (sound.good i h) e)
shown_same nodes sound (Cells4 m) (Cells2 n) g h e = cc
shown_same nodes sound (Cells4 m) (Cells4 n) g h e =
    let (p, q, r, s) = same_parts e in
    ap (λ (n : ℕ). Cells4 n) (omega arith)
shown_same nodes sound (Cells4 m) (Kept i) g h e = absurd (cells4_not_kept nodes i m (node_at nodes i) g (sound.good i h) e)
shown_same nodes sound (Kept i) (Cells2 n) g h e = absurd (cells2_not_kept nodes i n (node_at nodes i) h (sound.good i g) (sym e))
shown_same nodes sound (Kept i) (Cells4 n) g h e = absurd (cells4_not_kept nodes i n (node_at nodes i) h (sound.good i g) (sym e))
shown_same nodes sound (Kept i) (Kept j) g h e =
    ap (λ (n : ℕ). Kept n) (sound.once i j g h (seen_same nodes i j (node_at nodes i) (node_at nodes j) (sound.good i g) (sound.good j h) e))

number_of : IdForm → ℕ
number_of (Cells2 n) = n
number_of (Cells4 n) = 16 + n
number_of (Kept place) = 65552 + place

number_named : (id : ℕ) → number_of (meaning_of_id id) ≡ id
unfolding number_of
number_named id =
    elim (cases_Bool (nat_lt id 16)) [
      | inl e ↦ rw e refl
      | inr e ↦ elim (cases_Bool (nat_lt id 65552)) [
        | inl f ↦ rw (e, f) (grind (arith, nat_tests))
        | inr f ↦ rw (e, f) (grind (arith, nat_tests))
      ]
    ]

-- an id is known by its square
pub known_by_square : (nodes : List Node) → IsSoundStore nodes → (a b : ℕ) → a < place_id (length nodes) → b < place_id (length nodes) → square_of nodes a ≡ square_of nodes b → a ≡ b
known_by_square nodes sound a b h k e =
    sym (number_named a) ∙ (ap number_of (shown_same nodes sound (meaning_of_id a) (meaning_of_id b) (named_below (length nodes) a h) (named_below (length nodes) b k) e) ∙ number_named b)
