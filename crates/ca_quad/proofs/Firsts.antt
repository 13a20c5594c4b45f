-- The squares that a store had at first.
use Rattle.std.proofs.Common.{◌≡◌, ℕ, zero, suc, ◌+◌, ◌≤◌, List, length, take, refl, sym, subst, ◌∙◌, arith}
use Rattle.std.proofs.lemmas.List.{get_or-take, length-take, take_more_same, take_all}
use Rattle.ca_quad.specs.declared.node.Node.{Node}
use Rattle.ca_quad.specs.declared.node.Node.TheVariants.{Leaf}
use Rattle.ca_quad.specs.Prelude.{IsSoundStore, IsStorable, Grows, node_at}
use Rattle.ca_quad.proofs.Growth.{SameFirst, good_stays}

first_same : (n : ℕ) (nodes : List Node) → SameFirst n nodes (take n nodes)
first_same n nodes place h = get_or-take n nodes place (Leaf 0 0 0 0) h

module _ (n : ℕ) (nodes : List Node) (sound : IsSoundStore nodes) where
  -- the first squares are sound without the others
  pub firsts_sound : IsSoundStore (take n nodes)
  firsts_sound =
      let count = length-take n nodes in
      record {
        good = λ place h.
            subst (IsStorable (take n nodes) place) (sym (first_same n nodes place (omega (arith, h, count))))
            (good_stays place nodes (take n nodes) (λ p q. first_same n nodes p (omega (arith, h, q, count))) (node_at nodes place) (sound.good place (omega (arith, h, count))));
        once = λ i j h k e.
            sound.once i j (omega (arith, h, count)) (omega (arith, k, count))
            (sym (first_same n nodes i (omega (arith, h, count))) ∙ (e ∙ first_same n nodes j (omega (arith, k, count))));
      }

  -- and with the others it has more
  pub firsts_grow : Grows (take n nodes) nodes
  firsts_grow =
      let count = length-take n nodes in
      record {
        sound = sound;
        longer = omega (arith, count);
        kept = λ place h. sym (first_same n nodes place (omega (arith, h, count)));
      }

module _ (old new : List Node) (grows : Grows old new) where
  -- the first squares are the same as before
  pub firsts_same : (i : ℕ) → i ≤ length old → take i new ≡ take i old
  firsts_same zero h = refl
  firsts_same (suc i) h =
      let one : suc i ≡ i + 1 = omega arith in
      rw one
      (take_more_same new old i (Leaf 0 0 0 0) (omega (arith, h, grows.longer)) (omega (arith, h)) (firsts_same i (omega (arith, h))) (grows.kept i (omega (arith, h))))

  -- a store that has more squares than before had those first
  pub grown_firsts : take (length old) new ≡ old
  grown_firsts = firsts_same (length old) (omega arith) ∙ take_all (length old) old (omega arith)
