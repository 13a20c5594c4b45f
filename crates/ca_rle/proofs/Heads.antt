-- The first line of a tidy text, as its pieces are put.
use Rattle.std.proofs.Common.{ℕ, List, ◌++◌, codes, ap, ◌∙◌, append_assoc}
use Rattle.ca_plane.specs.Prelude.{Puts}
use Rattle.ca_rle.specs.Prelude.{line_with_lf}

pub put_corner : (a b c d e x y tail : List ℕ) → Puts a b (codes "#CXRLE Pos=") → Puts b c (x ++ (codes "," ++ y)) → Puts c d tail → Puts d e (codes "\n")
    → Puts a e (line_with_lf (codes "#CXRLE Pos=" ++ (x ++ (codes "," ++ (y ++ tail)))))
put_corner a b c d e x y tail first place generation last = record {
  whole =
      last.whole
      ∙ ap (λ (l : List ℕ). l ++ codes "\n") (generation.whole ∙ ap (λ (l : List ℕ). l ++ tail) (place.whole ∙ ap (λ (l : List ℕ). l ++ (x ++ (codes "," ++ y))) first.whole))
      ∙ simp append_assoc;
}
