-- Lists that are made node by node: the pictures of nodes, and the walks over them.
use Rattle.std.proofs.Common.{◌≡◌, ℕ, zero, suc, ◌+◌, ◌<◌, ◌≤◌, List, [], ◌∷◌, ◌++◌, length, refl, sym, ap, subst, ◌∙◌, arith, length-append}
use Rattle.std.specs.List.{AllByRecursion, flat_map, slice_index_or}
use Rattle.std.proofs.Math.ListN.{get_or-append}
use Rattle.std.proofs.Math.Seq.{get_or-append_seam}
use Rattle.ca_plane.specs.Prelude.{Picture}
use Rattle.ca_macro.specs.Prelude.{Node, numbered_square, node_picture, squares_after, squares_of, node_parts, walks_after}
use Rattle.ca_plane.proofs.Elements.{all_append, all_weaker}

-- ---- lists that are made one after another, each from the earlier ones

module _ {A B : Type 0} (step : List (List A) → B → List A) where
  abbrev pub after : List (List A) → List B → List (List A)
  after earlier [] = earlier
  after earlier (n ∷ ns) = after (earlier ++ step earlier n ∷ []) ns

  after_last : (earlier : List (List A)) (ns : List B) (n : B) → after earlier (ns ++ n ∷ []) ≡ after earlier ns ++ step (after earlier ns) n ∷ []
  after_last earlier [] n = refl
  after_last earlier (m ∷ ns) n = after_last (earlier ++ step earlier m ∷ []) ns n

  after_length : (earlier : List (List A)) (ns : List B) → length (after earlier ns) ≡ length earlier + length ns
  after_length earlier [] = omega arith
  after_length earlier (m ∷ ns) =
      let e = after_length (earlier ++ step earlier m ∷ []) ns in
      let f = length-append earlier (step earlier m ∷ []) in
      omega arith

  after_first : (earlier : List (List A)) (ns : List B) (i : ℕ) → i < length earlier → slice_index_or (after earlier ns) i [] ≡ slice_index_or earlier i []
  after_first earlier [] i h = refl
  after_first earlier (m ∷ ns) i h =
      let f = length-append earlier (step earlier m ∷ []) in
      after_first (earlier ++ step earlier m ∷ []) ns i (omega arith) ∙ get_or-append earlier (step earlier m ∷ []) [] i h

  after_both : (earlier : List (List A)) (ns ms : List B) → after earlier (ns ++ ms) ≡ after (after earlier ns) ms
  after_both earlier [] ms = refl
  after_both earlier (n ∷ ns) ms = after_both (earlier ++ step earlier n ∷ []) ns ms

  -- what has a number keeps its list
  number_stays : (ns ms : List B) (n : ℕ) → n ≤ length ns → numbered_square (after [] (ns ++ ms)) n ≡ numbered_square (after [] ns) n
  number_stays ns ms zero h = refl
  number_stays ns ms (suc i) h =
      let e = after_length [] ns in
      ap (λ l. slice_index_or l i []) (after_both [] ns ms) ∙ after_first (after [] ns) ms i (omega arith)

  number_last : (ns : List B) (n : B) → numbered_square (after [] (ns ++ n ∷ [])) (suc (length ns)) ≡ step (after [] ns) n
  number_last ns n =
      let e : length (after [] ns) ≡ length ns = let f = after_length [] ns in omega arith in
      ap (λ l. slice_index_or l (length ns) []) (after_last [] ns n)
      ∙ subst (λ k. slice_index_or (after [] ns ++ step (after [] ns) n ∷ []) k [] ≡ step (after [] ns) n) e (get_or-append_seam (after [] ns) (step (after [] ns) n) [] [])

-- ---- pictures

squares_are : (earlier : List Picture) (ns : List Node) → squares_after earlier ns ≡ after node_picture earlier ns
squares_are earlier [] = refl
squares_are earlier (n ∷ ns) = squares_are (earlier ++ node_picture earlier n ∷ []) ns

pub square_stays : (ns ms : List Node) (n : ℕ) → n ≤ length ns → numbered_square (squares_of (ns ++ ms)) n ≡ numbered_square (squares_of ns) n
square_stays ns ms n h =
    ap (λ l. numbered_square l n) (squares_are [] (ns ++ ms)) ∙ number_stays node_picture ns ms n h ∙ ap (λ l. numbered_square l n) (sym (squares_are [] ns))

pub square_last : (ns : List Node) (n : Node) → numbered_square (squares_of (ns ++ n ∷ [])) (suc (length ns)) ≡ node_picture (squares_of ns) n
square_last ns n =
    ap (λ l. numbered_square l (suc (length ns))) (squares_are [] (ns ++ n ∷ [])) ∙ number_last node_picture ns n ∙ ap (λ l. node_picture l n) (sym (squares_are [] ns))

-- ---- walks

abbrev pub walk_to : List (List ℕ) → Node → List ℕ
walk_to earlier n = flat_map (numbered_square earlier) (node_parts n) ++ (length earlier + 1) ∷ []

walks_are : (earlier : List (List ℕ)) (ns : List Node) → walks_after earlier ns ≡ after walk_to earlier ns
walks_are earlier [] = refl
walks_are earlier (n ∷ ns) = walks_are (earlier ++ walk_to earlier n ∷ []) ns

pub walks_length : (ns : List Node) → length (walks_after [] ns) ≡ length ns
walks_length ns = let e = after_length walk_to [] ns in ap length (walks_are [] ns) ∙ omega arith

pub walk_stays : (ns ms : List Node) (n : ℕ) → n ≤ length ns → numbered_square (walks_after [] (ns ++ ms)) n ≡ numbered_square (walks_after [] ns) n
walk_stays ns ms n h =
    ap (λ l. numbered_square l n) (walks_are [] (ns ++ ms)) ∙ number_stays walk_to ns ms n h ∙ ap (λ l. numbered_square l n) (sym (walks_are [] ns))

pub walk_last : (ns : List Node) (n : Node) → numbered_square (walks_after [] (ns ++ n ∷ [])) (suc (length ns)) ≡ walk_to (walks_after [] ns) n
walk_last ns n =
    ap (λ l. numbered_square l (suc (length ns))) (walks_are [] (ns ++ n ∷ [])) ∙ number_last walk_to ns n ∙ ap (λ l. walk_to l n) (sym (walks_are [] ns))

-- ---- walks come to earlier nodes alone

-- each is from 1 to this number
abbrev pub Within : ℕ → List ℕ → Type 0
Within most numbers = AllByRecursion (λ m. (1 ≤ m) × (m ≤ most)) numbers

within_more : (most more : ℕ) → most ≤ more → (numbers : List ℕ) → Within most numbers → Within more numbers
within_more most more h = all_weaker _ _ (λ m w. (w.0, omega (arith, w.1)))

numbered_within : (most : ℕ) (lists : List (List ℕ)) → AllByRecursion (Within most) lists → (n : ℕ) → Within most (numbered_square lists n)
numbered_within most lists a zero = tt
numbered_within most [] a (suc i) = tt
numbered_within most (l ∷ ls) a (suc zero) = a.0
numbered_within most (l ∷ ls) a (suc (suc i)) = numbered_within most ls a.1 (suc i)

flat_within : (most : ℕ) (lists : List (List ℕ)) → AllByRecursion (Within most) lists → (ns : List ℕ) → Within most (flat_map (numbered_square lists) ns)
flat_within most lists a [] = tt
flat_within most lists a (n ∷ ns) = all_append _ (numbered_square lists n) (flat_map (numbered_square lists) ns) (numbered_within most lists a n) (flat_within most lists a ns)

walks_within : (earlier : List (List ℕ)) (ns : List Node) → AllByRecursion (Within (length earlier)) earlier
    → AllByRecursion (Within (length (walks_after earlier ns))) (walks_after earlier ns)
walks_within earlier [] a = a
walks_within earlier (n ∷ ns) a =
    let e : length (earlier ++ walk_to earlier n ∷ []) ≡ length earlier + 1 = length-append earlier (walk_to earlier n ∷ []) in
    let old = all_weaker (Within (length earlier)) (Within (length earlier + 1)) (within_more (length earlier) (length earlier + 1) (omega arith)) earlier a in
    let mine : Within (length earlier + 1) (walk_to earlier n) =
    all_append _ (flat_map (numbered_square earlier) (node_parts n)) ((length earlier + 1) ∷ [])
    (within_more (length earlier) (length earlier + 1) (omega arith) _ (flat_within (length earlier) earlier a (node_parts n))) ((omega arith, omega arith), tt) in
    walks_within (earlier ++ walk_to earlier n ∷ []) ns
    (subst (λ k. AllByRecursion (Within k) (earlier ++ walk_to earlier n ∷ [])) (sym e) (all_append (Within (length earlier + 1)) earlier (walk_to earlier n ∷ []) old (mine, tt)))

pub walk_within : (ns : List Node) (n : ℕ) → Within (length ns) (numbered_square (walks_after [] ns) n)
walk_within ns n =
    subst (λ k. Within k (numbered_square (walks_after [] ns) n)) (walks_length ns)
    (numbered_within (length (walks_after [] ns)) (walks_after [] ns) (walks_within [] ns tt) n)
