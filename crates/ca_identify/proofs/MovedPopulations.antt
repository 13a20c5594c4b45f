-- Planes of which one is the other, moved, have as many live cells.
use Rattle.std.proofs.Common.{◌≡◌, ◌≢◌, ℕ, ◌<◌, List, length, map, get_or, refl, sym, ap, ap₂, ◌∙◌, arith}
use Rattle.std.specs.Prelude.{ℤ, ◌+ℤ◌, ◌-ℤ◌}
use Rattle.std.proofs.lemmas.Int.{ints}
use Rattle.std.proofs.lemmas.List.{get_or-map, length-map}
use Rattle.std.proofs.lemmas.List.Elements.{All-map, All-from_recursion, recursion_from_All}
use Rattle.ca_plane.specs.declared.point.Point.{Point}
use Rattle.ca_plane.specs.Prelude.{AreLivePlaces, HasPopulation}
use Rattle.ca_plane.proofs.Populations.{same_population}
use Rattle.ca_identify.specs.inner.Stages.{AreMoved, AreMovedNowhere}

module _ (f g : ℤ → ℤ → ℕ) (dx dy : ℤ) (moved : AreMoved f g dx dy) where
  -- a place, moved, and moved back
  abbrev there : Point → Point
  there p = record { y = p.y +ℤ dy; x = p.x +ℤ dx }

  abbrev back : Point → Point
  back p = record { y = p.y -ℤ dy; x = p.x -ℤ dx }

  gone_and_back : (a d : ℤ) → (a +ℤ d) -ℤ d ≡ a
  gone_and_back a d = omega (arith, ints)

  back_and_gone : (a d : ℤ) → (a -ℤ d) +ℤ d ≡ a
  back_and_gone a d = omega (arith, ints)

  abbrev point : ℤ → ℤ → Point
  point y x = record { y = y; x = x }

  back_there : (p : Point) → back (there p) ≡ p
  back_there p = ap₂ point (gone_and_back p.y dy) (gone_and_back p.x dx)

  there_back : (p : Point) → there (back p) ≡ p
  there_back p = ap₂ point (back_and_gone p.y dy) (back_and_gone p.x dx)

  places_there : (ps : List Point) → AreLivePlaces f ps → AreLivePlaces g (map there ps)
  places_there ps are =
      let count = length-map ps there in
      record {
        once = λ i j d less low e.
            let low_j : j < length ps = omega (arith, low, count) in
            let low_i : i < length ps = omega (arith, less, low_j) in
            let one = get_or-map there ps i (back d) d low_i in
            let two = get_or-map there ps j (back d) d low_j in
            are.once i j (back d) less low_j (sym (back_there (get_or ps i (back d))) ∙ (ap back (sym one ∙ (e ∙ two)) ∙ back_there (get_or ps j (back d))));
        live = recursion_from_All (λ (q : Point). g q.x q.y ≢ 0) (map there ps) (All-map (λ (q : Point). g q.x q.y ≢ 0) there ps (λ k d low.
            let p = get_or ps k d in
            let alive = All-from_recursion (λ (q : Point). f q.x q.y ≢ 0) ps are.live k d low in
            λ z. alive (sym (ap₂ f (gone_and_back p.x dx) (gone_and_back p.y dy)) ∙ (sym (moved (p.x +ℤ dx) (p.y +ℤ dy)) ∙ z))));
        all = λ x y alive.
            let (k, low, is) = are.all (x -ℤ dx) (y -ℤ dy) (λ z. alive (moved x y ∙ z)) in
            (k, omega (arith, low, count), get_or-map there ps k (back (point y x)) (point y x) low ∙ (ap there is ∙ there_back (point y x)));
      }

  population_there : (m n : ℕ) → HasPopulation f m → HasPopulation g n → m ≡ n
  population_there m n a b =
      let (ps, are, is) = a in
      let same = same_population g g (λ x y. refl) (length (map there ps)) n (map there ps, places_there ps are, refl) b in
      omega (arith, is, same, length-map ps there)

-- so planes with other numbers of live cells are moved nowhere
pub others_moved_nowhere : (f g : ℤ → ℤ → ℕ) (m n : ℕ) → HasPopulation f m → HasPopulation g n → m ≢ n → AreMovedNowhere f g
others_moved_nowhere f g m n a b differ dx dy moved = differ (population_there f g dx dy moved m n a b)
