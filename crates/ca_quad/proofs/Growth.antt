-- Old ids name the same squares when nodes are added.
use Rattle.std.proofs.Common.{◌≡◌, ℕ, Some, ◌+◌, ◌-◌, ◌<◌, ◌⊎◌, inl, inr, true, false, List, [], ◌∷◌, ◌++◌, length, nat_lt, refl, sym, ap, subst, ◌∙◌, true≢false, arith, length-append}
use Rattle.std.proofs.lemmas.Bool.{cases_Bool}
use Rattle.std.proofs.lemmas.Bool.Decides.{nat_tests}
use Rattle.std.proofs.Math.ListN.{get_or-append}
use Rattle.std.proofs.Math.Seq.{get_or-append_seam}
use Rattle.std.specs.List.{list_any, slice_get}
use Rattle.std.proofs.lemmas.List.Folds.{list_any_at}
use Rattle.std.proofs.lemmas.Option.{get_or_from_slice_get, slice_get_within}
use Rattle.ca_plane.proofs.Numbers.{below_or_not}
use Rattle.indexmap.specs.IndexSet.{insert_key}
use Rattle.ca_quad.specs.declared.{named.IdForm.IdForm, node.Node.Node}
use Rattle.ca_quad.specs.declared.named.IdForm.TheVariants.{Cells2, Cells4, Kept}
use Rattle.ca_quad.specs.declared.node.Node.TheVariants.{Leaf, Block, Join}
use Rattle.ca_quad.specs.Prelude.{meaning_of_id, place_id, node_square, square_named, square_of, level, IsAmong, IsStorable, node_at, IsSoundStore, Grows, AddsOnly}
use Rattle.ca_quad.proofs.Nodes.{node_eq, node_eq-self, node_eq-same}

-- the number of a name by value is small, and a place is one of the first
abbrev pub IsBelow : ℕ → IdForm → Type 0
IsBelow places (Cells2 n) = n < 16
IsBelow places (Cells4 n) = n < 65536
IsBelow places (Kept place) = place < places

pub named_below : (places id : ℕ) → id < place_id places → IsBelow places (meaning_of_id id)
named_below places id h =
    elim (cases_Bool (nat_lt id 16)) [
      | inl e ↦ rw e (grind (arith, nat_tests))
      | inr e ↦ elim (cases_Bool (nat_lt id 65552)) [
        | inl f ↦ rw (e, f) (grind (arith, nat_tests))
        | inr f ↦ rw (e, f) (grind (arith, nat_tests))
      ]
    ]

-- the nodes at the first places are the same
abbrev pub SameFirst : ℕ → List Node → List Node → Type 0
SameFirst places old new = (place : ℕ) → place < places → node_at new place ≡ node_at old place

shown_stays : (places : ℕ) (old new : List Node) → SameFirst places old new → (n : IdForm) → IsBelow places n → square_named new n ≡ square_named old n
shown_stays places old new same (Cells2 n) h = refl
shown_stays places old new same (Cells4 n) h = refl
shown_stays places old new same (Kept place) h = rw (same place h) refl

-- an id names the same square in lists with the same first nodes
pub square_stays : (places : ℕ) (old new : List Node) → SameFirst places old new → (id : ℕ) → id < place_id places → square_of new id ≡ square_of old id
square_stays places old new same id h = shown_stays places old new same (meaning_of_id id) (named_below places id h)

pub among_stays : (places : ℕ) (old new : List Node) → SameFirst places old new → (id k : ℕ) → IsAmong old places id k → IsAmong new places id k
among_stays places old new same id k h = record {
  before = h.before;
  is_level = ap level (square_stays places old new same id h.before) ∙ h.is_level;
}

pub good_stays : (places : ℕ) (old new : List Node) → SameFirst places old new → (n : Node) → IsStorable old places n → IsStorable new places n
good_stays places old new same (Leaf nw ne sw se) h = h
good_stays places old new same (Block n) h = h
good_stays places old new same (Join k nw ne sw se) h = (
  record {
    least = h.0.least;
    most = h.0.most;
    is_nw = among_stays places old new same nw (k - 1) h.0.is_nw;
    is_ne = among_stays places old new same ne (k - 1) h.0.is_ne;
    is_sw = among_stays places old new same sw (k - 1) h.0.is_sw;
    is_se = among_stays places old new same se (k - 1) h.0.is_se;
  },
  h.1,
)

-- a good node that isn't there yet may be put after the others
module _ (nodes : List Node) (node : Node) (sound : IsSoundStore nodes) (good : IsStorable nodes (length nodes) node)
    (absent : (place : ℕ) → place < length nodes → node_at nodes place ≡ node → ⊥) where
  first : SameFirst (length nodes) nodes (nodes ++ node ∷ [])
  first place h = get_or-append nodes (node ∷ []) (Leaf 0 0 0 0) place h

  last : node_at (nodes ++ node ∷ []) (length nodes) ≡ node
  last = get_or-append_seam nodes node [] (Leaf 0 0 0 0)

  longer : length (nodes ++ node ∷ []) ≡ length nodes + 1
  longer = length-append nodes (node ∷ [])

  place_cases : (place : ℕ) → place < length (nodes ++ node ∷ []) → (place < length nodes) ⊎ (place ≡ length nodes)
  place_cases place h =
      elim (below_or_not place (length nodes)) [ inl e ↦ inl e | inr e ↦ inr (omega (arith, longer)) ]

  good_at : (place : ℕ) → place < length (nodes ++ node ∷ []) → IsStorable (nodes ++ node ∷ []) place (node_at (nodes ++ node ∷ []) place)
  good_at place h =
      elim (place_cases place h) [
        | inl e ↦
            subst (IsStorable (nodes ++ node ∷ []) place) (sym (first place e))
            (good_stays place nodes (nodes ++ node ∷ []) (λ p q. first p (omega arith)) (node_at nodes place) (sound.good place e))
        | inr e ↦
            subst (λ p. IsStorable (nodes ++ node ∷ []) p (node_at (nodes ++ node ∷ []) p)) (sym e)
            (subst (IsStorable (nodes ++ node ∷ []) (length nodes)) (sym last) (good_stays (length nodes) nodes (nodes ++ node ∷ []) first node good))
      ]

  once_at : (i j : ℕ) → i < length (nodes ++ node ∷ []) → j < length (nodes ++ node ∷ []) → node_at (nodes ++ node ∷ []) i ≡ node_at (nodes ++ node ∷ []) j → i ≡ j
  once_at i j h k e =
      elim (place_cases i h) [
        | inl p ↦ elim (place_cases j k) [
          | inl q ↦ sound.once i j p q (sym (first i p) ∙ (e ∙ first j q))
          | inr q ↦ absurd (absent i p (sym (first i p) ∙ (e ∙ (ap (node_at (nodes ++ node ∷ [])) q ∙ last))))
        ]
        | inr p ↦ elim (place_cases j k) [
          | inl q ↦ absurd (absent j q (sym (first j q) ∙ (sym e ∙ (ap (node_at (nodes ++ node ∷ [])) p ∙ last))))
          | inr q ↦ p ∙ sym q
        ]
      ]

  pub grows_by : Grows nodes (nodes ++ node ∷ [])
  grows_by = record {
    sound = record { good = good_at; once = once_at };
    longer = omega (arith, longer);
    kept = first;
  }

  -- and then it is the only one that is added
  pub adds_last : (at : ℕ) → at < length (nodes ++ node ∷ []) → node_at (nodes ++ node ∷ []) at ≡ node → AddsOnly nodes (nodes ++ node ∷ []) (place_id at)
  adds_last at h e place low high =
      let here : place ≡ length nodes = omega (arith, longer) in
      ap place_id (once_at at place h high (e ∙ sym (ap (node_at (nodes ++ node ∷ [])) here ∙ last)))

-- as it is
pub grows_same : (nodes : List Node) → IsSoundStore nodes → Grows nodes nodes
grows_same nodes sound = record { sound = sound; longer = omega arith; kept = λ place h. refl }

pub grows_on : (old mid new : List Node) → Grows old mid → Grows mid new → Grows old new
grows_on old mid new g h = record {
  sound = h.sound;
  longer = omega arith;
  kept = λ place p. h.kept place (omega arith) ∙ g.kept place p;
}

-- the node is put after the others, where it isn't there
pub put_grows : (nodes : List Node) (node : Node) → IsSoundStore nodes → IsStorable nodes (length nodes) node → Grows nodes (insert_key node_eq nodes node)
put_grows nodes node sound good =
    elim (cases_Bool (list_any (node_eq node) nodes)) [
      | inl e ↦ rw e (grows_same nodes sound)
      | inr e ↦ rw e (grows_by nodes node sound good (λ place h f. true≢false (sym (list_any_at (node_eq node) nodes place (Leaf 0 0 0 0) h (rw f (node_eq-self node))) ∙ e)))
    ]

-- no other is put there
pub put_adds : (nodes : List Node) (node found : Node) (at : ℕ) → IsSoundStore nodes → IsStorable nodes (length nodes) node
    → slice_get (insert_key node_eq nodes node) at ≡ Some found → node_eq node found ≡ true → AddsOnly nodes (insert_key node_eq nodes node) (place_id at)
put_adds nodes node found at sound good stored same =
    elim (cases_Bool (list_any (node_eq node) nodes)) [
      | inl e ↦ rw e (λ place low high. absurd (omega arith))
      | inr e ↦
          let is : slice_get (nodes ++ node ∷ []) at ≡ Some found = rw e at stored in
          rw e
          (adds_last nodes node sound good (λ place h f. true≢false (sym (list_any_at (node_eq node) nodes place (Leaf 0 0 0 0) h (rw f (node_eq-self node))) ∙ e))
          at (slice_get_within (nodes ++ node ∷ []) at found is) (get_or_from_slice_get (nodes ++ node ∷ []) at found (Leaf 0 0 0 0) is ∙ sym (node_eq-same node found same)))
    ]

pub named_kept : (place : ℕ) → meaning_of_id (place_id place) ≡ Kept place
named_kept place =
    let e : nat_lt (65552 + place) 16 ≡ false = grind (arith, nat_tests) in
    let f : nat_lt (65552 + place) 65552 ≡ false = grind (arith, nat_tests) in
    let g : 65552 + place - 65552 ≡ place = omega arith in
    rw (e, f, g) refl

-- the node at a place is shown by the place's id
pub kept_shows : (nodes : List Node) (place : ℕ) (found node : Node) → slice_get nodes place ≡ Some found → node_eq node found ≡ true → square_of nodes (place_id place) ≡ node_square node
kept_shows nodes place found node e f =
    ap (square_named nodes) (named_kept place) ∙ (ap node_square (get_or_from_slice_get nodes place found (Leaf 0 0 0 0) e) ∙ ap node_square (sym (node_eq-same node found f)))
