-- Cells out of range, and the fault of a file that has one.
use Rattle.std.proofs.Common.{◌≡◌, ℕ, ◌+◌, ◌<◌, ◌≤◌, suc, List, map, length, get_or, refl, sym, ap, subst, ◌∙◌, arith}
use Rattle.std.specs.List.{Any}
use Rattle.std.proofs.lemmas.List.{get_or-map, length-map}
use Rattle.ca_plane.specs.Prelude.{Picture, cell, IsSparse, IsInRange, generation_limit}
use Rattle.ca_plane.proofs.Pictures.{cell-Contains}
use Rattle.ca_pattern.specs.Prelude.{HasCellOutOfRange}
use Rattle.ca_census.specs.declared.{census.Census.Census, entry.CensusObject.CensusObject, file.Origin.Origin}
use Rattle.ca_census_files.specs.declared.files.FilesFault.{FilesFault}
use Rattle.ca_census_files.specs.declared.files.FilesFault.TheVariants.{GenTooLarge, Range, Memory}
use Rattle.ca_census_files.specs.Prelude.{HasNoFiles}
use Rattle.ca_census_files.specs.inner.Unwritten.{IsUnwritable, IsUnwritten}

-- a plane that lists a cell out of range has such a cell
pub listed_out : (p : Picture) → IsSparse p → Any (λ e. IsInRange e.0 → ⊥) p → HasCellOutOfRange (cell p)
listed_out p sparse (k, e, low, at, out) =
    let shown = cell-Contains p e sparse (k, low, at) in
    let state : 1 ≤ e.1 = subst (λ f. 1 ≤ f.1) at (sparse.states k e low).0 in
    (e.0.x, e.0.y, λ h. omega (arith, sym shown ∙ h), out)

-- the planes of objects
abbrev pub planes : List CensusObject → List Picture
planes os = map (λ o. o.plane) os

-- an object's file isn't written
pub object_unwritten : (os : List CensusObject) (i : ℕ) (o : CensusObject) → i < length os → o ≡ get_or os i o
    → (fault : FilesFault) → IsUnwritable o.plane fault → IsUnwritten (planes os) fault
object_unwritten os i o h is GenTooLarge why = absurd why
object_unwritten os i o h is Range why =
    let plane = λ (c : CensusObject). c.plane in
    (i, o.plane, subst (λ n. i < n) (sym (length-map os plane)) h, get_or-map plane os i o o.plane h ∙ ap plane (sym is), why)
object_unwritten os i o h is Memory why = tt

module _ (start : ℕ) (origin : Origin) (census : Census) (low : origin.generation + (start + census.generations) < generation_limit) where
  -- nor are those of a census where that of an object isn't
  pub objects_without : (fault : FilesFault) → IsUnwritten (planes census.objects.items) fault → HasNoFiles start origin census fault
  objects_without GenTooLarge why = absurd why
  objects_without Range (k, cells, h, is, out) = (low, (suc k, cells, omega arith, is, out))
  objects_without Memory why = tt

  -- or that of the settled plane
  pub plane_without : (fault : FilesFault) → IsUnwritable census.plane fault → HasNoFiles start origin census fault
  plane_without GenTooLarge why = absurd why
  plane_without Range out = (low, (0, census.plane, omega arith, refl, out))
  plane_without Memory why = tt
