-- The order in which walks come to nodes first.
use Rattle.std.proofs.Common.{◌≡◌, ℕ, zero, suc, ◌+◌, ◌<◌, ◌≤◌, ◌==◌, Bool, true, false, not, ◌||◌, inl, inr, List, [], ◌∷◌, ◌++◌, filter, length, refl, sym, ap, ap₂, subst, ◌∙◌, arith, append_assoc, append-nil, if◌then◌else◌, length-append}
use Rattle.std.specs.List.{range_with_len, flat_map}
use Rattle.std.proofs.lemmas.Bool.{cases_Bool}
use Rattle.std.proofs.lemmas.Bool.Decides.{nat_tests}
use Rattle.std.proofs.lemmas.List.Elements.{filter-append}
use Rattle.ca_macro.specs.Prelude.{Node, Parts, numbered_square, node_parts, walks_after, numbers_once}
use Rattle.ca_macro.specs.inner.Written.{Extends, KeepsFirstOrder}
use Rattle.ca_macro.proofs.Following.{Within, walk_stays, walk_last, walks_length, walk_within}

-- ---- one number more

abbrev has : ℕ → List ℕ → Bool
has m [] = false
has m (n ∷ ns) = (m == n) || has m ns

filter_one : (n m : ℕ) (t : Bool) → filter (λ k. not (k == n)) (if t then [] else m ∷ []) ≡ (if (m == n) || t then [] else m ∷ [])
filter_one n m true = elim (cases_Bool (m == n)) [ inl e ↦ rw e refl | inr e ↦ rw e refl ]
filter_one n m false = elim (cases_Bool (m == n)) [ inl e ↦ rw e refl | inr e ↦ rw e refl ]

once_more : (ns : List ℕ) (m : ℕ) → numbers_once (ns ++ m ∷ []) ≡ numbers_once ns ++ (if has m ns then [] else m ∷ [])
once_more [] m = refl
once_more (n ∷ ns) m =
    ap (λ l. n ∷ filter (λ k. not (k == n)) l) (once_more ns m)
    ∙ ap (λ l. n ∷ l) (filter-append (λ k. not (k == n)) (numbers_once ns) (if has m ns then [] else m ∷ []) ∙ ap (λ l. filter (λ k. not (k == n)) (numbers_once ns) ++ l) (filter_one n m (has m ns)))

other_than : (k m n : ℕ) → (k == n) ≡ true → (m == n) ≡ false → (m == k) ≡ false
other_than k m n e f = grind (arith, nat_tests)

has_filter : (m n : ℕ) → (m == n) ≡ false → (ns : List ℕ) → has m (filter (λ k. not (k == n)) ns) ≡ has m ns
has_filter m n f [] = refl
has_filter m n f (k ∷ ns) =
    elim (cases_Bool (k == n)) [
      | inl e ↦ let o = other_than k m n e f in rw (e, o) (has_filter m n f ns)
      | inr e ↦ rw e (ap (λ b. (m == k) || b) (has_filter m n f ns))
    ]

has_once : (m : ℕ) (ns : List ℕ) → has m (numbers_once ns) ≡ has m ns
has_once m [] = refl
has_once m (n ∷ ns) =
    elim (cases_Bool (m == n)) [
      | inl e ↦ rw e refl
      | inr e ↦ rw e (has_filter m n e (numbers_once ns) ∙ has_once m ns)
    ]

has_range : (m a n : ℕ) → a ≤ m → m < a + n → has m (range_with_len a n) ≡ true
has_range m a zero h i = absurd (omega arith)
has_range m a (suc n) h i =
    elim (cases_Bool (m == a)) [
      | inl e ↦ rw e refl
      | inr e ↦ rw e (let o : a + 1 ≤ m = grind (arith, nat_tests) in has_range m (a + 1) n o (omega arith))
    ]

no_range : (m a n : ℕ) → a + n ≤ m → has m (range_with_len a n) ≡ false
no_range m a zero h = refl
no_range m a (suc n) h =
    let e : (m == a) ≡ false = grind (arith, nat_tests) in
    rw e (no_range m (a + 1) n (omega arith))

range_more : (a n : ℕ) → range_with_len a (suc n) ≡ range_with_len a n ++ (a + n) ∷ []
range_more a zero = let e : a ≡ a + zero = omega arith in ap (λ k. k ∷ []) e
range_more a (suc n) =
    let e : a + 1 + n ≡ a + suc n = omega arith in
    ap (λ l. a ∷ l) (range_more (a + 1) n ∙ ap (λ k. range_with_len (a + 1) n ++ k ∷ []) e)

-- ---- numbers that walks came to, and the next one

same_walked : (walked : List ℕ) (most m : ℕ) → numbers_once walked ≡ range_with_len 1 most → has m walked ≡ has m (range_with_len 1 most)
same_walked walked most m e = sym (has_once m walked) ∙ ap (has m) e

known_again : (walked : List ℕ) (most m : ℕ) → 1 ≤ m → m ≤ most → numbers_once walked ≡ range_with_len 1 most → numbers_once (walked ++ m ∷ []) ≡ range_with_len 1 most
known_again walked most m h i e =
    let t = same_walked walked most m e ∙ has_range m 1 most h (omega arith) in
    once_more walked m ∙ rw t (append-nil (numbers_once walked) ∙ e)

known_walk : (walked walk : List ℕ) (most : ℕ) → Within most walk → numbers_once walked ≡ range_with_len 1 most → numbers_once (walked ++ walk) ≡ range_with_len 1 most
known_walk walked [] most w e = ap numbers_once (append-nil walked) ∙ e
known_walk walked (m ∷ ms) most w e =
    ap numbers_once (sym (append_assoc walked (m ∷ []) ms)) ∙ known_walk (walked ++ m ∷ []) ms most w.1 (known_again walked most m w.0.0 w.0.1 e)

next_number : (walked : List ℕ) (most : ℕ) → numbers_once walked ≡ range_with_len 1 most → numbers_once (walked ++ (most + 1) ∷ []) ≡ range_with_len 1 (most + 1)
next_number walked most e =
    let t = same_walked walked most (most + 1) e ∙ no_range (most + 1) 1 most (omega arith) in
    let s : 1 + most ≡ most + 1 = omega arith in
    let n : suc most ≡ most + 1 = omega arith in
    let more : range_with_len 1 (most + 1) ≡ range_with_len 1 most ++ (most + 1) ∷ [] = ap (range_with_len 1) (sym n) ∙ range_more 1 most ∙ ap (λ k. range_with_len 1 most ++ k ∷ []) s in
    once_more walked (most + 1) ∙ rw t (ap (λ l. l ++ (most + 1) ∷ []) e ∙ sym more)

-- ---- nodes

-- a walk to an old node comes to nothing new
pub goes_again : (ns : List Node) (n : ℕ) → KeepsFirstOrder ns ns n
goes_again ns n = λ walked e. known_walk walked (numbered_square (walks_after [] ns) n) (length ns) (walk_within ns n) e

more_by_one : (ns : List Node) (node : Node) → length (ns ++ node ∷ []) ≡ length ns + 1
more_by_one ns node = length-append ns (node ∷ [])

-- after walks to its parts, one to a new node comes to it
goes_to_node : (ns : List Node) (node : Node) (before walked : List ℕ) → flat_map (numbered_square (walks_after [] ns)) (node_parts node) ≡ before → numbers_once (walked ++ before) ≡ range_with_len 1 (length ns)
    → numbers_once (walked ++ numbered_square (walks_after [] (ns ++ node ∷ [])) (suc (length ns))) ≡ range_with_len 1 (length (ns ++ node ∷ []))
goes_to_node ns node before walked e so_far =
    let last : numbered_square (walks_after [] (ns ++ node ∷ [])) (suc (length ns)) ≡ before ++ (length ns + 1) ∷ [] =
    walk_last ns node ∙ ap₂ (λ l k. l ++ (k + 1) ∷ []) e (walks_length ns) in
    ap (λ l. numbers_once (walked ++ l)) last ∙ ap numbers_once (sym (append_assoc walked before ((length ns + 1) ∷ [])))
    ∙ next_number (walked ++ before) (length ns) so_far ∙ ap (range_with_len 1) (sym (more_by_one ns node))

pub goes_to_leaf : (ns : List Node) (node : Node) → node_parts node ≡ [] → KeepsFirstOrder ns (ns ++ node ∷ []) (suc (length ns))
goes_to_leaf ns node none = λ walked e.
    goes_to_node ns node [] walked (ap (flat_map (numbered_square (walks_after [] ns))) none) (ap numbers_once (append-nil walked) ∙ e)

stays_on : (old new : List Node) (n : ℕ) → Extends old new → n ≤ length old → numbered_square (walks_after [] new) n ≡ numbered_square (walks_after [] old) n
stays_on old new n x h = ap (λ l. numbered_square (walks_after [] l) n) x.1 ∙ walk_stays old x.0 n h

pub extends_on : (old mid new : List Node) → Extends old mid → Extends mid new → Extends old new
extends_on old mid new x y = (x.0 ++ y.0, y.1 ∙ ap (λ l. l ++ y.0) x.1 ∙ append_assoc old x.0 y.0)

-- each of these lists of nodes extends the one before it
pub parts_extend : (s0 s1 s2 s3 s4 s5 : List Node) → Extends s0 s1 → Extends s1 s2 → Extends s2 s3 → Extends s3 s4 → Extends s4 s5 → Extends s0 s5
parts_extend s0 s1 s2 s3 s4 s5 x1 x2 x3 x4 x5 = extends_on s0 s1 s5 x1 (extends_on s1 s2 s5 x2 (extends_on s2 s3 s5 x3 (extends_on s3 s4 s5 x4 x5)))

four_flat : (f : ℕ → List ℕ) (walked : List ℕ) (a b c d : ℕ) → (((walked ++ f a) ++ f b) ++ f c) ++ f d ≡ walked ++ (f a ++ (f b ++ (f c ++ (f d ++ []))))
four_flat f walked a b c d = simp (append_assoc, append-nil)

module _ (level a b c d : ℕ) (s0 s1 s2 s3 s4 : List Node) (x2 : Extends s1 s2) (x3 : Extends s2 s3) (x4 : Extends s3 s4) (h1 : a ≤ length s1) (h2 : b ≤ length s2) (h3 : c ≤ length s3)
    (g1 : KeepsFirstOrder s0 s1 a) (g2 : KeepsFirstOrder s1 s2 b) (g3 : KeepsFirstOrder s2 s3 c) (g4 : KeepsFirstOrder s3 s4 d) where
  pub goes_to_parts : KeepsFirstOrder s0 (s4 ++ Parts level a b c d ∷ []) (suc (length s4))
  goes_to_parts = λ walked e.
      let f = numbered_square (walks_after [] s4) in
      let e1 = g1 walked e in
      let e2 = g2 (walked ++ numbered_square (walks_after [] s1) a) e1 in
      let e3 = g3 ((walked ++ numbered_square (walks_after [] s1) a) ++ numbered_square (walks_after [] s2) b) e2 in
      let e4 = g4 (((walked ++ numbered_square (walks_after [] s1) a) ++ numbered_square (walks_after [] s2) b) ++ numbered_square (walks_after [] s3) c) e3 in
      let p : numbered_square (walks_after [] s1) a ≡ f a = sym (stays_on s1 s4 a (extends_on s1 s2 s4 x2 (extends_on s2 s3 s4 x3 x4)) h1) in
      let q : numbered_square (walks_after [] s2) b ≡ f b = sym (stays_on s2 s4 b (extends_on s2 s3 s4 x3 x4) h2) in
      let r : numbered_square (walks_after [] s3) c ≡ f c = sym (stays_on s3 s4 c x4 h3) in
      let so_far : numbers_once ((((walked ++ f a) ++ f b) ++ f c) ++ f d) ≡ range_with_len 1 (length s4) =
      subst (λ w. numbers_once ((((walked ++ f a) ++ f b) ++ w) ++ f d) ≡ range_with_len 1 (length s4)) r
      (subst (λ w. numbers_once ((((walked ++ f a) ++ w) ++ numbered_square (walks_after [] s3) c) ++ f d) ≡ range_with_len 1 (length s4)) q
      (subst (λ w. numbers_once ((((walked ++ w) ++ numbered_square (walks_after [] s2) b) ++ numbered_square (walks_after [] s3) c) ++ f d) ≡ range_with_len 1 (length s4)) p e4)) in
      goes_to_node s4 (Parts level a b c d) (f a ++ (f b ++ (f c ++ (f d ++ [])))) walked refl (ap numbers_once (sym (four_flat f walked a b c d)) ∙ so_far)
