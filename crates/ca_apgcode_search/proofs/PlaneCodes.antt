-- Codes of objects whose planes are at hand.
use Rattle.std.proofs.Common.{◌≡◌, ◌≢◌, ℕ, ◌<◌, List, [], length, slice_index_or, get_or, Result, Ok, Err, IfOk, Option, Vec, Global, sym, ap, ◌∙◌, arith}
use Rattle.std.specs.Prelude.{ℤ}
use Rattle.std.proofs.lemmas.Int.{ints}
use Rattle.std.proofs.lemmas.List.{get_or_default}
use Rattle.std.proofs.lemmas.List.Elements.{All-contains}
use Rattle.ca_plane.specs.declared.point.{Bounds.Bounds, Point.Point}
use Rattle.ca_plane.specs.Prelude.{Picture, cell, IsInPlane, IsSparse, IsLeastBox, HasPopulation, after, IsAfter}
use Rattle.ca_plane.proofs.Pictures.{Contains-cell}
use Rattle.ca_quad.specs.declared.tree.WideBounds.{WideBounds}
use Rattle.ca_pattern.specs.Prelude.{IsWideBox}
use Rattle.ca_apgcode.specs.Prelude.{IsLeastOfPhases, IsObjectCode, code_text}
use Rattle.ca_apgcode.specs.declared.object.ObjectKind.{ObjectKind}
use Rattle.ca_apgcode.specs.declared.object.ObjectKind.TheVariants as kind
use Rattle.ca_answers.specs.declared.identity.Identity.TheVariants.{Claim}
use Rattle.ca_answers.specs.Prelude.{IsCodeOf}
use Rattle.ca_text.specs.declared.kind.Kind.TheVariants.{Still}
use Rattle.ca_apgcode_search.specs.inner.Shown.{ShowPhases}
use Rattle.ca_apgcode_search.proofs.Populations.{population_as}

-- the smallest box round live cells of a plane lies in the square of one
pub wide_least : (cells : Picture) (least : Bounds) (box : WideBounds) → IsSparse cells → IsLeastBox cells least
    → box.x0 ≡ least.x0 → box.y0 ≡ least.y0 → box.x1 ≡ least.x1 → box.y1 ≡ least.y1 → IsWideBox box
wide_least cells least box sparse is x0 y0 x1 y1 =
    let at : (x y : ℤ) → cell cells x y ≢ 0 → IsInPlane (record { y = y; x = x }) = λ x y live.
    All-contains (λ (e : Point × ℕ). IsInPlane e.0) cells (record { y = y; x = x }, cell cells x y) sparse.places (Contains-cell cells x y live) in
    let left = at least.x0 is.left.0 is.left.1 in
    let right = at least.x1 is.right.0 is.right.1 in
    let top = at is.top.0 least.y0 is.top.1 in
    let bottom = at is.bottom.0 least.y1 is.bottom.1 in
    record {
      left = (omega (arith, ints, left, x0), omega (arith, ints, left, x0));
      top = (omega (arith, ints, top, y0), omega (arith, ints, top, y0));
      right = (omega (arith, ints, right, x1), omega (arith, ints, right, x1));
      bottom = (omega (arith, ints, bottom, y1), omega (arith, ints, bottom, y1));
    }

-- a plane that is given is one of those that the phases show
pub shown_here : (planes : List Picture) (phases : ℕ → ℤ → ℤ → ℕ) (n : ℕ) (plane : Picture) → n < length planes → plane ≡ get_or planes n plane → ShowPhases planes phases
    → (x y : ℤ) → cell plane x y ≡ phases n x y
shown_here planes phases n plane within is shows x y =
    let same : slice_index_or planes n [] ≡ plane = get_or_default planes n [] plane within ∙ sym is in
    sym (shows n within x y ∙ ap (λ (q : Picture). cell q x y) same)

-- the code with the least text of the phases is that of the object
pub coded : {E : Type 0} (r : Result (Vec ℕ Global) E) (kind : ObjectKind) (number : ℕ) (phases : ℕ → ℤ → ℤ → ℕ) (count : ℕ) (text : Option (List ℕ)) → IsLeastOfPhases phases count text
    → IfOk r (λ code. code.items ≡ code_text kind number text) → IfOk r (λ code. IsObjectCode kind number phases count code.items)
coded (Ok code) kind number phases count text least whole = record { text = text; is_least = least; whole = whole }
coded (Err e) kind number phases count text least whole = tt

-- that of a still life has the number of its cells
pub coded_still : {E : Type 0} (r : Result (Vec ℕ Global) E) (next : List ℕ → ℕ) (cells plane : Picture) (number : ℕ) (text : Option (List ℕ)) → IsAfter next cells 0 plane → HasPopulation (cell plane) number
    → IsLeastOfPhases (after next cells) 1 text → IfOk r (λ code. code.items ≡ code_text kind.StillLife number text) → IfOk r (λ code. IsCodeOf next cells (Claim Still) code.items)
coded_still (Ok code) next cells plane number text here population least whole =
    (number, population_as (cell plane) (cell cells) number (λ x y. sym (here x y)) population, record { text = text; is_least = least; whole = whole })
coded_still (Err e) next cells plane number text here population least whole = tt
