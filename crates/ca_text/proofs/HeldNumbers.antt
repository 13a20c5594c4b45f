-- How claims are held with numbers of 64 bits.
use Rattle.std.proofs.Common.{◌≡◌, ℕ, ◌-◌, ◌^◌, ◌<◌, min, refl, ap, arith, w64, to_z, of_z}
use Rattle.std.specs.Prelude.{ℤ, FitsSigned}
use Rattle.std.proofs.lemmas.Int.{ints, to_z-of_z}
use Rattle.ca_text.specs.declared.kind.Kind.{Kind}
use Rattle.ca_text.specs.Prelude.{is_of_second_version, IsShift, HasGoodNumbers}
use Rattle.ca_text.specs.inner.Reading.{IsHeldShift, IsHeldKind}

-- a number below 2^61 is held as itself
held_number : (n held : ℕ) → held ≡ min n (2 ^ 64 - 1) → (n < 2 ^ 61 → n ≡ held) × (held < 2 ^ 61 → n ≡ held)
held_number n held e = (λ h. omega arith, λ h. omega arith)

-- a kind without numbers is held as itself
pub held_same : (kind : Kind) → IsHeldKind kind kind
held_same kind = record { exact = λ h. refl; sound = λ h. refl; version = refl }

-- so is a kind with such a number
module _ (kind : ℕ → Kind) (few : (n : ℕ) → HasGoodNumbers (kind n) → n < 2 ^ 61) (stays : (n m : ℕ) → is_of_second_version (kind n) ≡ is_of_second_version (kind m)) where
  pub held_kind : (n held : ℕ) → held ≡ min n (2 ^ 64 - 1) → IsHeldKind (kind n) (kind held)
  held_kind n held e = record {
    exact = λ good. ap kind ((held_number n held e).0 (few n good));
    sound = λ good. ap kind ((held_number n held e).1 (few held good));
    version = stays n held;
  }

-- what is held reads so as an `i64`
as_read : (n held : ℤ) → IsHeldShift n held → to_z w64 (of_z w64 held) ≡ held
as_read n held h =
    let least = h.least in
    let greatest = h.greatest in
    let fits : FitsSigned w64 held = omega (arith, ints) in
    to_z-of_z w64 held fits

-- a kind with a number and a shift is held as itself where these are
module _ (kind : ℕ → ℤ → ℤ → Kind) (few : (n : ℕ) (x y : ℤ) → HasGoodNumbers (kind n x y) → (n < 2 ^ 61) × IsShift x × IsShift y)
    (stays : (n m : ℕ) (dx dy x y : ℤ) → is_of_second_version (kind n dx dy) ≡ is_of_second_version (kind m x y)) where
  same_kind : (n m : ℕ) (dx dy x y : ℤ) → n ≡ m → dx ≡ x → dy ≡ y → kind n dx dy ≡ kind m x y
  same_kind n m dx dy x y e f g = λ i. kind (e i) (f i) (g i)

  pub held_move : (n held : ℕ) (dx dy x y : ℤ) → held ≡ min n (2 ^ 64 - 1) → IsHeldShift dx x → IsHeldShift dy y → IsHeldKind (kind n dx dy) (kind held (to_z w64 (of_z w64 x)) (to_z w64 (of_z w64 y)))
  held_move n held dx dy x y e f g = rw (as_read dx x f, as_read dy y g) record {
    exact = λ good. let fit = few n dx dy good in same_kind n held dx dy x y ((held_number n held e).0 fit.0) (f.exact fit.1) (g.exact fit.2);
    sound = λ good. let fit = few held x y good in same_kind n held dx dy x y ((held_number n held e).1 fit.0) (f.sound fit.1) (g.sound fit.2);
    version = stays n held dx dy x y;
  }
