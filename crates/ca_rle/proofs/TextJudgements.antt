-- A text judged by its front and by the extent of its items.
use Rattle.std.proofs.Common.{◌≡◌, ℕ, ◌<◌, ◌≤◌, ◌^◌, Bool, false, ◌↔◌, IsTrue, length, List, [], Option, None, inl, inr, sym, subst, ◌∙◌, arith}
use Rattle.std.proofs.lemmas.Bool.{false≢true}
use Rattle.ca_plane.specs.declared.point.{Point.Point, Bounds.Bounds}
use Rattle.ca_rle.specs.declared.{extent.Extent.Extent, item.Item.Item}
use Rattle.ca_rle.specs.declared.fault.RleFault.TheVariants.{Range, TooManyCells}
use Rattle.ca_rle.specs.Prelude.{Items, CxrleWord, RleFile, corner_of, IsHeaded, IsRleFile, picture_of_items, IsRleWithinRange, IsRleOutOfRange, IsWithinLimits, IsRleFaultOn}
use Rattle.ca_rle.specs.inner.BodyFaults.{KeepsCorner, bare_file}
use Rattle.ca_rle.specs.inner.Extent.{IsItemsExtent, IsExtentInRange}
use Rattle.ca_rle.proofs.FileParts.{file_of, headed_is_file}
use Rattle.ca_rle.proofs.PushedItems.{counts_low}
use Rattle.std.specs.Option.{IfSome}
use Rattle.std.proofs.lemmas.List.Elements.{All-from_recursion}
use Rattle.ca_plane.specs.Prelude.{IsInRange}
use Rattle.ca_rle.specs.inner.Boxes.{AreBounds, IsBoxInRange, IsSpanOf, bounds_at}
use Rattle.ca_rle.proofs.Frames.{bounds_in_range}
use Rattle.ca_rle.proofs.Ranges.{within_range, extent_in_range, length-picture}

-- the corner and the items of a file in range are
pub bare_of : (place : Point) (file : RleFile) → place ≡ file.corner → IsRleWithinRange file → IsRleWithinRange (bare_file place file.items)
bare_of place file same w = subst (λ c. IsRleWithinRange (bare_file c file.items)) (sym same) (record { counts = w.counts; corner = w.corner; cells = w.cells })

module _ (bytes : List ℕ) (said : List CxrleWord) (rule : Option (List ℕ)) (body : List ℕ) (place : Point) (e : Extent) (headed : IsHeaded bytes said rule body)
    (keeps : KeepsCorner (corner_of said) place) (items : List Item) (spelled : Items body items) (reach : IsItemsExtent items e) where
  -- what the text holds
  abbrev pub file : RleFile
  file = file_of said rule items

  pub is_file : IsRleFile bytes file
  is_file = headed_is_file bytes said rule body items headed spelled

  out : KeepsCorner (corner_of said) place → (IsExtentInRange e place → ⊥) → IsRleOutOfRange file
  out (near, inl same) fails w = fails (extent_in_range place items e (counts_low body items spelled.0 spelled.1) reach (bare_of place file same w))
  out (near, inr (out_corner, out_place)) fails w = out_corner w.corner

  -- it is out of range where its extent is
  pub too_far : (test : Bool) → (IsTrue test ↔ IsExtentInRange e place) → test ≡ false → IsRleFaultOn bytes Range None
  too_far test decided fails = ((file, is_file, out keeps (λ range. false≢true (sym fails ∙ decided.1 range))), λ p. p)

  pub bare : IsExtentInRange e place → IsRleWithinRange (bare_file place items)
  bare range = within_range place items e (counts_low body items spelled.0 spelled.1) reach range

  -- where its extent is in range, the corner is kept
  pub same_corner : IsExtentInRange e place → place ≡ corner_of said
  same_corner range = elim keeps.1 [ inl same ↦ same | inr other ↦ absurd (other.1 (bare range).corner) ]

  -- and the file is in range
  within : IsExtentInRange e place → IsRleWithinRange file
  within range =
      let w = subst (λ c. IsRleWithinRange (bare_file c items)) (same_corner range) (bare range) in
      record { counts = w.counts; corner = w.corner; cells = w.cells }

  -- it has as many live cells as its extent tells
  pub too_many : IsExtentInRange e place → 2 ^ 24 < e.cells → IsRleFaultOn bytes TooManyCells None
  too_many range many = ((file, is_file, (within range, omega (arith, reach.cells, many, length-picture (corner_of said) [] items))), λ p. p)

  -- its span is its box
  pub box_near : IsExtentInRange e place → IsSpanOf items e.span → IfSome (bounds_at place e.span) IsBoxInRange
  box_near range spans = bounds_in_range (picture_of_items place items) (bounds_at place e.span) (All-from_recursion (λ f. IsInRange f.0) (picture_of_items place items) (bare range).cells) (spans place (bare range))

  pub file_bounds : IsExtentInRange e place → IsSpanOf items e.span → (found : Option Bounds) → found ≡ bounds_at place e.span → AreBounds (picture_of_items (corner_of said) items) found
  file_bounds range spans found is =
      subst (λ (at : Point). AreBounds (picture_of_items at items) found) (same_corner range) (subst (AreBounds (picture_of_items place items)) (sym is) (spans place (bare range)))

  -- its extent tells how many they are, where that isn't too many
  pub cell_count : e.cells ≤ 2 ^ 24 → e.cells ≡ length (picture_of_items file.corner file.items)
  cell_count few = omega (arith, reach.cells, few, length-picture (corner_of said) [] items)

  pub within_limits : IsExtentInRange e place → e.cells ≤ 2 ^ 24 → IsWithinLimits file
  within_limits range few = (within range, omega (arith, reach.cells, few, length-picture (corner_of said) [] items))
