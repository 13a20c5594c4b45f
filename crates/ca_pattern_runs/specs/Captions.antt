-- The caption of a picture.
use Rattle.std.specs.Prelude.{ℕ, List, ◌++◌, Option, None, Some, codes, decimal}
use Rattle.ca_quad.specs.declared.tree.WideBounds.{WideBounds}
use Rattle.ca_pattern_runs.specs.Shown.{pair_text}
use Rattle.ca_report.specs.Prelude.{side_length}

-- a box: its upper left corner, its width and its height
abbrev pub wide_bounds_text : WideBounds → List ℕ
wide_bounds_text box = pair_text box.x0 box.y0 ++ (codes " " ++ pair_text (side_length box.x0 box.x1) (side_length box.y0 box.y1))

-- the box round live cells, where there are any
abbrev pub wide_box_text : Option WideBounds → List ℕ
wide_box_text None = codes "none"
wide_box_text (Some box) = wide_bounds_text box

-- the line on a picture: the box of the live cells, the scale, and the generation
abbrev pub caption_text : Option WideBounds → (scale generation : ℕ) → List ℕ
caption_text bounds scale generation =
    codes "box " ++ (wide_box_text bounds ++ ((codes ", scale " ++ decimal scale) ++ ((codes ", gen " ++ decimal generation) ++ codes "\n")))
