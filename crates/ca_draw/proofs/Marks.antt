-- What is drawn of a square is true.
use Rattle.std.proofs.Common.{◌≡◌, ℕ, zero, suc, ◌==◌, ◌&&◌, ◌↔◌, Bool, true, false, nat_lt, inl, inr, ℤ, refl, sym, ap, subst, ◌∙◌, arith}
use Rattle.std.proofs.lemmas.Bool.{cases_Bool, eqb-true, and_parts}
use Rattle.ca_draw.specs.declared.mark.Mark.TheVariants.{Dead, Live}
use Rattle.ca_draw.specs.Prelude.{IsBlankSquare, IsLiveSquare, has_live, live_mark, state_mark, mark_of}
use Rattle.ca_draw.proofs.Strips.{strip-zero}
use Rattle.ca_draw.proofs.Lives.{live_there, blank_there, none_there}

dead_live : (b : Bool) → live_mark b ≡ Dead → b ≡ false
dead_live false e = refl
dead_live true e = grind arith

seen_live : (b : Bool) → live_mark b ≡ Live → b ≡ true
seen_live true e = refl
seen_live false e = grind arith

dead_state : (s : ℕ) → state_mark s ≡ Dead → s ≡ 0
dead_state zero e = refl
dead_state (suc s) e = grind arith

no_live_state : (s : ℕ) → state_mark s ≡ Live → ⊥
no_live_state zero e = grind arith
no_live_state (suc s) e = grind arith

-- a square at scale 0 is one cell
one_cell : (cells : ℤ → ℤ → ℕ) (column row : ℤ) → cells column row ≡ 0 → IsBlankSquare cells 0 column row
one_cell cells column row e x y h =
    let a : x ≡ column = sym (strip-zero x) ∙ h.is_column in
    let b : y ≡ row = sym (strip-zero y) ∙ h.is_row in
    rw (a, b) e

of_state : (cells : ℤ → ℤ → ℕ) (states scale : ℕ) (column row : ℤ) → ((scale == 0) && nat_lt 2 states) ≡ true → (scale ≡ 0) × (mark_of cells states scale column row ≡ state_mark (cells column row))
of_state cells states scale column row t = (eqb-true _ _ (and_parts (scale == 0) (nat_lt 2 states) t).0, rw t refl)

of_live : (cells : ℤ → ℤ → ℕ) (states scale : ℕ) (column row : ℤ) → ((scale == 0) && nat_lt 2 states) ≡ false → mark_of cells states scale column row ≡ live_mark (has_live cells scale column row)
of_live cells states scale column row t = rw t refl

pub dead_iff_blank : (cells : ℤ → ℤ → ℕ) (states scale : ℕ) (column row : ℤ) → (mark_of cells states scale column row ≡ Dead) ↔ IsBlankSquare cells scale column row
dead_iff_blank cells states scale column row =
    elim (cases_Bool ((scale == 0) && nat_lt 2 states)) [
      | inl t ↦
          let s = of_state cells states scale column row t in (
            λ e. subst (λ k. IsBlankSquare cells k column row) (sym s.0) (one_cell cells column row (dead_state (cells column row) (sym s.1 ∙ e))),
            λ b. s.1 ∙ ap state_mark (b column row (record { is_column = rw s.0 (strip-zero column); is_row = rw s.0 (strip-zero row) })),
          )
      | inr t ↦
          let s = of_live cells states scale column row t in (
            λ e. blank_there cells scale column row (dead_live (has_live cells scale column row) (sym s ∙ e)),
            λ b. s ∙ ap live_mark (none_there cells scale column row b),
          )
    ]

pub live_mark_there : (cells : ℤ → ℤ → ℕ) (states scale : ℕ) (column row : ℤ) → mark_of cells states scale column row ≡ Live → IsLiveSquare cells scale column row
live_mark_there cells states scale column row e =
    elim (cases_Bool ((scale == 0) && nat_lt 2 states)) [
      | inl t ↦
          let s = of_state cells states scale column row t in
          absurd (no_live_state (cells column row) (sym s.1 ∙ e))
      | inr t ↦
          let s = of_live cells states scale column row t in
          live_there cells scale column row (seen_live (has_live cells scale column row) (sym s ∙ e))
    ]
