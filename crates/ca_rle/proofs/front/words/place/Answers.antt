use Rattle.std.proofs.Common.{◌≡◌, refl, sym, subst, ◌∙◌}
use Rattle.ca_rle.specs.inner.FrontParts.{Writes}
use Rattle.ca_rle.proofs.StartWords.{split_pair, writes_pair, kept_in_bits}
use Rattle.ca_rle.proofs.front.words.place.Goals as goal

pub returns-in_err-y : goal.returns-in_err-y
returns-in_err-y c = rw c.from_residual.ensures (λ x y a b e i j. c.in_err-y.ensures b (c.split_at_first.ensures.rest ∙ (split_pair _ a b x e i).1))

pub returns-in_err-x : goal.returns-in_err-x
returns-in_err-x c = rw c.from_residual-in_err-x.ensures (λ x y a b e i j. c.in_err-x.ensures x (rw (c.split_at_first.ensures.front, (split_pair _ a b x e i).0) i))

pub returns-in_err-y-2 : goal.returns-in_err-y-2
returns-in_err-y-2 c = rw c.from_residual-in_err-y-2.ensures (λ x y a b e i j.
    let after = sym c.in_ok-y.ensures ∙ c.split_at_first.ensures.rest ∙ (split_pair _ a b x e i).1 in
    let same : c.in_ok-y.y.now ≡ b = cc in
    c.in_err-y-2.ensures y (rw same j))

pub returns : goal.returns
returns c =
    let x = subst (λ l. Writes l c.in_ok-x.x) c.split_at_first.ensures.front c.in_ok-x.ensures in
    writes_pair _ _ _ (sym c.split_at_first.ensures.rest ∙ c.in_ok-y.ensures) (kept_in_bits _ _ _ x refl) (kept_in_bits _ _ _ c.in_ok-y-2.ensures refl)
