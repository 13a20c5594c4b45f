-- Frames round what is live of a plane.
use Rattle.std.proofs.Common.{◌≡◌, ℕ, ◌+◌, ◌*◌, ◌≤◌, ◌^◌, Option, Some, None, IfSome, inl, inr, ◌⊎◌, refl, ap, subst, ◌∙◌, arith, to_z, of_z}
use Rattle.std.specs.Prelude.{ℤ, pos, negsuc, neg_ℤ, nat_abs, FitsSigned, ◌+ℤ◌, ◌-ℤ◌, ◌<ℤ◌, ◌≤ℤ◌}
use Rattle.std.specs.Int.{w128}
use Rattle.std.proofs.lemmas.Int.{ints, to_z-of_z}
use Rattle.std.proofs.lemmas.Bool.{cases_eq}
use Rattle.ca_quad.specs.declared.tree.WideBounds.{WideBounds}
use Rattle.ca_quad.specs.Prelude.{IsLeastWideBox, IsInWideBox}
use Rattle.ca_run.specs.declared.bricks.frame.{Span.Span, Frame.Frame}
use Rattle.ca_run.specs.inner.Frames.{IsOutOf, Spans, IsFramed, IsNearBox, piece_start}
use Rattle.ca_run.specs.inner.Beyond.{IsBeyond, DiesBeyond}

-- what lies outside a box is dead
dead_outside : (p : ℤ → ℤ → ℕ) (box : WideBounds) → IsLeastWideBox p box → (x y : ℤ) → (IsInWideBox box x y → ⊥) → p x y ≡ 0
dead_outside p box least x y out = elim (cases_eq (p x y) 0) [ inl e ↦ e | inr live ↦ absurd (out (least.all x y live)) ]

-- no place out of the pieces lies from low to high
out_of_box : (low high : ℤ) (m : ℕ) (span : Span) → Spans low high m span → (x : ℤ) → IsOutOf span x → low ≤ℤ x → x ≤ℤ high → ⊥
out_of_box low high m span spans x (inl e) h k = omega (arith, ints, spans.from_low, e, h)
out_of_box low high m span spans x (inr e) h k = omega (arith, ints, spans.to_high, e, k)

-- and none near an end
end_of_box : (low high : ℤ) (m : ℕ) (span : Span) (long count : ℕ) → Spans low high m span → long ≤ 64 → count ≡ 64 * span.count → (x : ℤ)
    → (x <ℤ (piece_start span.first +ℤ pos (long + m))) ⊎ ((piece_start span.first +ℤ pos count) ≤ℤ (x +ℤ pos (long + m))) → low ≤ℤ x → x ≤ℤ high → ⊥
end_of_box low high m span long count spans short e x (inl o) h k = omega (arith, ints, spans.before, short, o, h)
end_of_box low high m span long count spans short e x (inr o) h k = omega (arith, ints, spans.behind, short, e, o, k)

-- the frame of the smallest box of a plane goes round all that is live
pub framed : (p : ℤ → ℤ → ℕ) (box : WideBounds) (m : ℕ) (frame : Frame) → IsLeastWideBox p box → Spans box.x0 box.x1 m frame.columns → Spans box.y0 box.y1 m frame.rows → IsFramed m frame p
framed p box m frame least columns rows = record {
  inside = λ x y out. dead_outside p box least x y (λ within. elim out [
    | inl e ↦ out_of_box box.x0 box.x1 m frame.columns columns x e within.0 within.1
    | inr e ↦ out_of_box box.y0 box.y1 m frame.rows rows y e within.2 within.3
  ]);
  margin = λ x y out. dead_outside p box least x y (λ within. elim out [
    | inl e ↦ end_of_box box.x0 box.x1 m frame.columns 64 (64 * frame.columns.count) columns (omega arith) refl x e within.0 within.1
    | inr e ↦ end_of_box box.y0 box.y1 m frame.rows 16 (16 * (4 * frame.rows.count)) rows (omega arith) (omega arith) y e within.2 within.3
  ]);
}

-- and so does one that is there at all
pub some_framed : (p : ℤ → ℤ → ℕ) (box : WideBounds) (m : ℕ) (found : Option Frame) → IsLeastWideBox p box → IfSome found (λ frame. Spans box.x0 box.x1 m frame.columns)
    → IfSome found (λ frame. Spans box.y0 box.y1 m frame.rows) → IfSome found (λ frame. IsFramed m frame p)
some_framed p box m None least columns rows = tt
some_framed p box m (Some frame) least columns rows = framed p box m frame least columns rows

-- ---- boxes of trees

cases_lt : (a b : ℤ) → (a <ℤ b) ⊎ (b ≤ℤ a)
cases_lt a b = grind (arith, ints)

in_way : (way : ℕ) (x : ℤ) → (IsBeyond way x → ⊥) → (neg_ℤ (pos way) ≤ℤ x) × (x <ℤ pos way)
in_way way x not = elim (cases_lt x (neg_ℤ (pos way))) [
  | inl low ↦ absurd (not (inl low))
  | inr least ↦ elim (cases_lt x (pos way)) [ inl most ↦ (least, most) | inr high ↦ absurd (not (inr high)) ]
]

-- the smallest box of a plane that is dead beyond a way of at most 2 ^ 61 lies near the origin
pub near_box : (p : ℤ → ℤ → ℕ) (way : ℕ) (box : WideBounds) → way ≤ 2 ^ 61 → DiesBeyond way p → IsLeastWideBox p box → IsNearBox box
near_box p way box near dies least =
    let left = least.left in
    let right = least.right in
    let top = least.top in
    let bottom = least.bottom in
    let west = in_way way box.x0 (λ e. left.1 (dies box.x0 left.0 (inl e))) in
    let east = in_way way box.x1 (λ e. right.1 (dies box.x1 right.0 (inl e))) in
    let north = in_way way box.y0 (λ e. top.1 (dies top.0 box.y0 (inr e))) in
    let south = in_way way box.y1 (λ e. bottom.1 (dies bottom.0 box.y1 (inr e))) in
    record {
      west = omega (arith, ints, near, west.0);
      across = (least.all box.x0 left.0 left.1).1;
      east = omega (arith, ints, near, east.1);
      north = omega (arith, ints, near, north.0);
      down = (least.all top.0 box.y0 top.1).3;
      south = omega (arith, ints, near, south.1);
    }

-- ---- places that are counted from the first piece

abs_pos : (z : ℤ) → pos 0 ≤ℤ z → pos (nat_abs z) ≡ z
abs_pos (pos n) some = refl
abs_pos (negsuc n) some = absurd (omega (arith, ints, some))

-- how a place is counted, as its bits are read
abbrev pub counted : ℤ → ℤ
counted x = pos (nat_abs (to_z w128 (of_z w128 (to_z w128 (of_z w128 x) +ℤ pos (2 ^ 62))))) -ℤ pos (2 ^ 62)

-- near the origin that is the place
counted_is : (x : ℤ) → neg_ℤ (pos (2 ^ 61)) ≤ℤ x → x ≤ℤ pos (2 ^ 61) → counted x ≡ x
counted_is x least most =
    let fits : FitsSigned w128 x = omega (arith, ints, least, most) in
    let fits_more : FitsSigned w128 (x +ℤ pos (2 ^ 62)) = omega (arith, ints, least, most) in
    ap (λ z. pos (nat_abs (to_z w128 (of_z w128 (z +ℤ pos (2 ^ 62))))) -ℤ pos (2 ^ 62)) (to_z-of_z w128 x fits)
    ∙ ap (λ z. pos (nat_abs z) -ℤ pos (2 ^ 62)) (to_z-of_z w128 (x +ℤ pos (2 ^ 62)) fits_more)
    ∙ ap (λ z. z -ℤ pos (2 ^ 62)) (abs_pos (x +ℤ pos (2 ^ 62)) (omega (arith, ints, least))) ∙ omega (arith, ints)

-- so pieces that hold the counted places hold the places of a box
pub spans_counted : (low high : ℤ) (m : ℕ) (span : Span) → neg_ℤ (pos (2 ^ 61)) ≤ℤ low → low ≤ℤ pos (2 ^ 61) → neg_ℤ (pos (2 ^ 61)) ≤ℤ high → high ≤ℤ pos (2 ^ 61)
    → Spans (counted low) (counted high) m span → Spans low high m span
spans_counted low high m span a b c d spans = subst (λ l. Spans l high m span) (counted_is low a b) (subst (λ h. Spans (counted low) h m span) (counted_is high c d) spans)
