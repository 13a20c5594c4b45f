use Rattle.std.specs.List.{All}
use Rattle.ca_apgcode_search.specs.inner.Drawn.{FitsWindow, IsLiveAt, ShowsNoOther}
use Rattle.ca_apgcode_search.proofs.drawing.draw.Given as goal

-- the cells so far are live in the grid, and no others than the plane's
abbrev pub invariant-cells : goal.invariant-cells
invariant-cells l = record {
  fits : FitsWindow l.window l.grid;
  drawn : All (λ e. IsLiveAt l.window l.grid e.0) l.yielded;
  no_other : ShowsNoOther l.plane l.window l.grid;
}
