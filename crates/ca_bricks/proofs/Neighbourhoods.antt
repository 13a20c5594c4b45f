-- Each nine cells, dead or live, are a neighbourhood with a number.
use Rattle.std.proofs.Common.{◌≡◌, ℕ, ◌+◌, ◌*◌, ◌/◌, ◌%◌, ◌<◌, List, [], ◌∷◌, length, map, refl, sym, ap, ◌∙◌, arith, slice_index, All, lit<}
use Rattle.std.proofs.lemmas.List.FromFn.{fill_by_all}
use Rattle.ca_plane.specs.Prelude.{counting_next}
use Rattle.ca_plane.specs.declared.counting.Counting.{Counting}
use Rattle.ca_bricks.specs.Prelude.{diagram_next, GoesByCells}
use Rattle.ca_bricks.specs.declared.diagram.Diagram.{Diagram}
use Rattle.ca_bricks.specs.declared.cell_rule.CellRule.TheVariants.{ByCounting, ByDiagram}
use Rattle.ca_bricks.specs.inner.Neighbourhoods.{neighbourhood, AreNextStates}

-- nine cells as their list
spread : (nine : List ℕ) → length nine ≡ 9 → nine ≡ map (slice_index nine) (0 ∷ 1 ∷ 2 ∷ 3 ∷ 4 ∷ 5 ∷ 6 ∷ 7 ∷ 8 ∷ [])
spread nine long = fill_by_all (slice_index nine) nine 9 0 long (λ k h. refl)

-- the binary digits of a number made of them
module _ (a b c d e f g h i : ℕ) (ha : a < 2) (hb : b < 2) (hc : c < 2) (hd : d < 2) (he : e < 2) (hf : f < 2) (hg : g < 2) (hh : h < 2) (hi : i < 2) where
  abbrev number : ℕ
  number = 256 * b + 128 * h + 64 * d + 32 * f + 16 * a + 8 * c + 4 * g + 2 * i + e

  number-low : number < 512
  number-low = omega arith

  digits-back : neighbourhood number ≡ a ∷ b ∷ c ∷ d ∷ e ∷ f ∷ g ∷ h ∷ i ∷ []
  digits-back =
      let da : number / 16 % 2 ≡ a = omega arith in
      let db : number / 256 % 2 ≡ b = omega arith in
      let dc : number / 8 % 2 ≡ c = omega arith in
      let dd : number / 64 % 2 ≡ d = omega arith in
      let de : number / 1 % 2 ≡ e = omega arith in
      let df : number / 32 % 2 ≡ f = omega arith in
      let dg : number / 4 % 2 ≡ g = omega arith in
      let dh : number / 128 % 2 ≡ h = omega arith in
      let di : number / 2 % 2 ≡ i = omega arith in
      λ t. da t ∷ db t ∷ dc t ∷ dd t ∷ de t ∷ df t ∷ dg t ∷ dh t ∷ di t ∷ []

-- what gives the states of all numbers gives those of all nine cells
module _ (next told : List ℕ → ℕ) (states : List ℕ) (are : AreNextStates next states) (gives : AreNextStates told states) (nine : List ℕ) (long : length nine ≡ 9) (bits : All (λ s. s < 2) nine) where
  bit : (k : ℕ) → k < 9 → slice_index nine k < 2
  bit k low = bits k 0 (omega arith)

  of_nine : next nine ≡ told nine
  of_nine =
      let c = slice_index nine in
      let n = number (c 0) (c 1) (c 2) (c 3) (c 4) (c 5) (c 6) (c 7) (c 8) (bit 0 (lit< tt)) (bit 1 (lit< tt)) (bit 2 (lit< tt)) (bit 3 (lit< tt)) (bit 4 (lit< tt)) (bit 5 (lit< tt)) (bit 6 (lit< tt)) (bit 7 (lit< tt)) (bit 8 (lit< tt)) in
      let low = number-low (c 0) (c 1) (c 2) (c 3) (c 4) (c 5) (c 6) (c 7) (c 8) (bit 0 (lit< tt)) (bit 1 (lit< tt)) (bit 2 (lit< tt)) (bit 3 (lit< tt)) (bit 4 (lit< tt)) (bit 5 (lit< tt)) (bit 6 (lit< tt)) (bit 7 (lit< tt)) (bit 8 (lit< tt)) in
      let is : neighbourhood n ≡ nine =
      digits-back (c 0) (c 1) (c 2) (c 3) (c 4) (c 5) (c 6) (c 7) (c 8) (bit 0 (lit< tt)) (bit 1 (lit< tt)) (bit 2 (lit< tt)) (bit 3 (lit< tt)) (bit 4 (lit< tt)) (bit 5 (lit< tt)) (bit 6 (lit< tt)) (bit 7 (lit< tt)) (bit 8 (lit< tt))
      ∙ sym (spread nine long) in
      ap next (sym is) ∙ sym (are n low) ∙ gives n low ∙ ap told is

pub goes_by_diagram : (next : List ℕ → ℕ) (diagram : Diagram) (states : List ℕ) → AreNextStates next states → AreNextStates (diagram_next diagram.nodes.items) states
    → GoesByCells next (ByDiagram diagram)
goes_by_diagram next diagram states are gives = record { goes_by = λ nine long bits. of_nine next (diagram_next diagram.nodes.items) states are gives nine long bits }

pub goes_by_counting : (next : List ℕ → ℕ) (counting : Counting) (states : List ℕ) → AreNextStates next states → AreNextStates (counting_next counting) states
    → GoesByCells next (ByCounting counting)
goes_by_counting next counting states are gives = record { goes_by = λ nine long bits. of_nine next (counting_next counting) states are gives nine long bits }
