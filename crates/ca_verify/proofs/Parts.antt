-- One of a claim's patterns, which is bad, after one that is good; and what belongs to both.
use Rattle.std.proofs.Common.{inl, inr}
use Rattle.ca_text.specs.declared.both.Both.{Both}
use Rattle.ca_text.specs.Prelude.{HoldsOfBoth, HoldsOfEither, FirstBadOfBoth, ZipBoth}
use Rattle.ca_verify.specs.declared.refusal.WhichPattern.{WhichPattern}
use Rattle.ca_verify.specs.declared.refusal.WhichPattern.TheVariants.{First, Second}
use Rattle.ca_verify.specs.inner.Patterns.{FirstBadAt}

module _ {X : Type 0} (Good Bad : X → Type 0) (both : Both X) where
  -- the first bad one
  pub first_part : (part : WhichPattern) → FirstBadAt part both Good Bad → FirstBadOfBoth Good Bad both
  first_part First bad = inl bad
  first_part Second bad = inr bad

  -- is one of them
  pub either_part : (part : WhichPattern) → FirstBadAt part both Good Bad → HoldsOfEither Bad both
  either_part First bad = inl bad
  either_part Second bad = inr bad.1

module _ {X Y : Type 0} (R : X → Y → Type 0) (xs : Both X) (ys : Both Y) (zip : ZipBoth R xs ys) where
  -- what holds of what belongs to others
  pub zip_left_both : (P : X → Type 0) → ((x : X) (y : Y) → R x y → P x) → HoldsOfBoth P xs
  zip_left_both P f = (f xs.first ys.first zip.0, f xs.second ys.second zip.1)

  -- and of them together with what holds of those
  pub zip_with_both : (P : X → Type 0) (Q : Y → Type 0) → ((x : X) (y : Y) → R x y → Q y → P x) → HoldsOfBoth Q ys → HoldsOfBoth P xs
  zip_with_both P Q f h = (f xs.first ys.first zip.0 h.0, f xs.second ys.second zip.1 h.1)

  -- what belongs to a bad one is bad
  pub zip_part : (Good Bad : X → Type 0) (Right Wrong : Y → Type 0) → ((x : X) (y : Y) → R x y → Right y → Good x)
      → ((x : X) (y : Y) → R x y → Wrong y → Bad x) → (part : WhichPattern) → FirstBadAt part ys Right Wrong → FirstBadAt part xs Good Bad
  zip_part Good Bad Right Wrong f g First bad = g xs.first ys.first zip.0 bad
  zip_part Good Bad Right Wrong f g Second bad = (f xs.first ys.first zip.0 bad.0, g xs.second ys.second zip.1 bad.1)
