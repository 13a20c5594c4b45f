-- Copies of planes have the same texts.
use Rattle.std.proofs.Common.{◌≡◌, ℕ, List, Option, Some, None, refl, sym, ap, ap₂, ◌∙◌, ℤ, pos, ◌-ℤ◌, arith}
use Rattle.std.specs.Prelude.{neg_ℤ}
use Rattle.std.proofs.lemmas.Int.{ints}
use Rattle.ca_apgcode.specs.Prelude.{IsTextOf, IsTurnedText, IsPhaseText, IsLeastOfPhases, IsObjectCode, code_text, turned, IsCopy, AreAmong}
use Rattle.ca_apgcode.specs.declared.{object.ObjectKind.ObjectKind, orientation.Orientation.Orientation}
use Rattle.ca_apgcode.specs.declared.orientation.Orientation.TheVariants.{Upright, QuarterTurn, HalfTurn, ThreeQuarterTurn, EastWest, NorthSouth, Diagonal, Antidiagonal}
use Rattle.ca_apgcode.proofs.Leasts.{firsts_same}
use Rattle.ca_apgcode.proofs.PlaneBoxes.{text_moved}
use Rattle.ca_apgcode.proofs.EightTexts.{neg_twice}

-- ---- copies that are reflected once more

-- with east and west exchanged, an orientation is another one
record IsAlso (f : ℤ → ℤ → ℕ) (cells : ℤ → ℤ → ℕ) : Type 0 where
  orientation : Orientation
  same : (x y : ℤ) → cells x y ≡ turned orientation f x y

mirrored_turn : (f : ℤ → ℤ → ℕ) (o : Orientation) → IsAlso f (turned EastWest (turned o f))
mirrored_turn f Upright = record { orientation = EastWest; same = λ x y. refl }
mirrored_turn f QuarterTurn = record { orientation = Diagonal; same = λ x y. ap (f y) (neg_twice x) }
mirrored_turn f HalfTurn = record { orientation = NorthSouth; same = λ x y. ap (λ a. f a (neg_ℤ y)) (neg_twice x) }
mirrored_turn f ThreeQuarterTurn = record { orientation = Antidiagonal; same = λ x y. refl }
mirrored_turn f EastWest = record { orientation = Upright; same = λ x y. ap (λ a. f a y) (neg_twice x) }
mirrored_turn f NorthSouth = record { orientation = HalfTurn; same = λ x y. refl }
mirrored_turn f Diagonal = record { orientation = QuarterTurn; same = λ x y. refl }
mirrored_turn f Antidiagonal = record { orientation = ThreeQuarterTurn; same = λ x y. ap (f (neg_ℤ y)) (neg_twice x) }

-- and with columns for rows
transposed_turn : (f : ℤ → ℤ → ℕ) (o : Orientation) → IsAlso f (turned Diagonal (turned o f))
transposed_turn f Upright = record { orientation = Diagonal; same = λ x y. refl }
transposed_turn f QuarterTurn = record { orientation = NorthSouth; same = λ x y. refl }
transposed_turn f HalfTurn = record { orientation = Antidiagonal; same = λ x y. refl }
transposed_turn f ThreeQuarterTurn = record { orientation = EastWest; same = λ x y. refl }
transposed_turn f EastWest = record { orientation = ThreeQuarterTurn; same = λ x y. refl }
transposed_turn f NorthSouth = record { orientation = QuarterTurn; same = λ x y. refl }
transposed_turn f Diagonal = record { orientation = Upright; same = λ x y. refl }
transposed_turn f Antidiagonal = record { orientation = HalfTurn; same = λ x y. refl }

-- so is a copy
copy_mirrored : (f p : ℤ → ℤ → ℕ) → IsCopy f p → IsCopy f (turned EastWest p)
copy_mirrored f p is =
    let also = mirrored_turn f is.orientation in
    record {
      orientation = also.orientation;
      dx = neg_ℤ is.dx;
      dy = is.dy;
      same = λ x y.
          let west : neg_ℤ x -ℤ is.dx ≡ neg_ℤ (x -ℤ neg_ℤ is.dx) = omega (arith, ints) in
          is.same (neg_ℤ x) y ∙ (ap (λ a. turned is.orientation f a (y -ℤ is.dy)) west ∙ also.same (x -ℤ neg_ℤ is.dx) (y -ℤ is.dy));
    }

copy_transposed : (f p : ℤ → ℤ → ℕ) → IsCopy f p → IsCopy f (turned Diagonal p)
copy_transposed f p is =
    let also = transposed_turn f is.orientation in
    record {
      orientation = also.orientation;
      dx = is.dy;
      dy = is.dx;
      same = λ x y. is.same y x ∙ also.same (x -ℤ is.dy) (y -ℤ is.dx);
    }

-- and one in any orientation
pub copy_turned : (f p : ℤ → ℤ → ℕ) (o : Orientation) → IsCopy f p → IsCopy f (turned o p)
copy_turned f p Upright is = record { orientation = is.orientation; dx = is.dx; dy = is.dy; same = is.same }
copy_turned f p QuarterTurn is = copy_mirrored f (turned Diagonal p) (copy_transposed f p is)
copy_turned f p HalfTurn is = copy_transposed f (turned Antidiagonal p) (copy_mirrored f (turned ThreeQuarterTurn p) (copy_transposed f (turned EastWest p) (copy_mirrored f p is)))
copy_turned f p ThreeQuarterTurn is = copy_transposed f (turned EastWest p) (copy_mirrored f p is)
copy_turned f p EastWest is = copy_mirrored f p is
copy_turned f p NorthSouth is = copy_transposed f (turned QuarterTurn p) (copy_mirrored f (turned Diagonal p) (copy_transposed f p is))
copy_turned f p Diagonal is = copy_transposed f p is
copy_turned f p Antidiagonal is = copy_mirrored f (turned ThreeQuarterTurn p) (copy_transposed f (turned EastWest p) (copy_mirrored f p is))

-- ---- texts

-- a text of a copy is one of the plane
text_of_copy : (f p : ℤ → ℤ → ℕ) (text : List ℕ) → IsCopy f p → IsTextOf p text → IsTurnedText f text
text_of_copy f p text is is_text = (
  is.orientation,
  text_moved p (turned is.orientation f) text (neg_ℤ is.dx) (neg_ℤ is.dy)
      (λ x y.
      let east : (x -ℤ neg_ℤ is.dx) -ℤ is.dx ≡ x = omega (arith, ints) in
      let south : (y -ℤ neg_ℤ is.dy) -ℤ is.dy ≡ y = omega (arith, ints) in
      sym (is.same (x -ℤ neg_ℤ is.dx) (y -ℤ neg_ℤ is.dy) ∙ ap₂ (turned is.orientation f) east south))
      is_text,
)

pub turned_text_of_copy : (f p : ℤ → ℤ → ℕ) (text : List ℕ) → IsCopy f p → IsTurnedText p text → IsTurnedText f text
turned_text_of_copy f p text is is_text = text_of_copy f (turned is_text.0 p) text (copy_turned f p is_text.0 is) is_text.1

pub phase_text_of_copy : (f g : ℕ → ℤ → ℤ → ℕ) (count : ℕ) (text : List ℕ) → AreAmong f g count → IsPhaseText g count text → IsPhaseText f count text
phase_text_of_copy f g count text among is_text =
    let at = among is_text.0 is_text.1 in
    (at.0, at.1, turned_text_of_copy (f at.0) (g is_text.0) text at.2 is_text.2)

-- the least text is the same
one_least_of_copies : (f g : ℕ → ℤ → ℤ → ℕ) (count : ℕ) (s t : Option (List ℕ)) → AreAmong f g count → AreAmong g f count → IsLeastOfPhases f count s → IsLeastOfPhases g count t → s ≡ t
one_least_of_copies f g count (Some s) (Some t) forth back one other =
    ap Some (firsts_same s t
    (λ before. other.is_first s (phase_text_of_copy g f count s back one.is_one) before)
    (λ before. one.is_first t (phase_text_of_copy f g count t forth other.is_one) before))
one_least_of_copies f g count (Some s) None forth back one other = absurd (other s (phase_text_of_copy g f count s back one.is_one))
one_least_of_copies f g count None (Some t) forth back one other = absurd (one t (phase_text_of_copy f g count t forth other.is_one))
one_least_of_copies f g count None None forth back one other = refl

-- and so is the code
pub one_code_of_copies : (kind : ObjectKind) (number : ℕ) (f g : ℕ → ℤ → ℤ → ℕ) (count : ℕ) (s t : List ℕ) → AreAmong f g count → AreAmong g f count
    → IsObjectCode kind number f count s → IsObjectCode kind number g count t → s ≡ t
one_code_of_copies kind number f g count s t forth back one other =
    one.whole ∙ (ap (code_text kind number) (one_least_of_copies f g count one.text other.text forth back one.is_least other.is_least) ∙ sym other.whole)

-- the code of one is that of the other
least_of_copies : (f g : ℕ → ℤ → ℤ → ℕ) (count : ℕ) (s : Option (List ℕ)) → AreAmong f g count → AreAmong g f count → IsLeastOfPhases f count s → IsLeastOfPhases g count s
least_of_copies f g count (Some s) forth back is = record {
  is_one = phase_text_of_copy g f count s back is.is_one;
  is_first = λ text is_text before. is.is_first text (phase_text_of_copy f g count text forth is_text) before;
}
least_of_copies f g count None forth back is = λ text is_text. is text (phase_text_of_copy f g count text forth is_text)

pub code_of_copies : (kind : ObjectKind) (number : ℕ) (f g : ℕ → ℤ → ℤ → ℕ) (count : ℕ) (code : List ℕ) → AreAmong f g count → AreAmong g f count → IsObjectCode kind number f count code → IsObjectCode kind number g count code
code_of_copies kind number f g count code forth back is = record { text = is.text; is_least = least_of_copies f g count is.text forth back is.is_least; whole = is.whole }

-- planes with the same cells are copies of each other
pub same_copy : (f p : ℤ → ℤ → ℕ) → ((x y : ℤ) → f x y ≡ p x y) → IsCopy f p
same_copy f p same = record {
  orientation = Upright;
  dx = pos 0;
  dy = pos 0;
  same = λ x y. sym (same x y) ∙ ap₂ f (let e : x ≡ x -ℤ pos 0 = omega (arith, ints) in e) (let e : y ≡ y -ℤ pos 0 = omega (arith, ints) in e);
}

pub code_of_same : (kind : ObjectKind) (number : ℕ) (f g : ℕ → ℤ → ℤ → ℕ) (count : ℕ) (code : List ℕ) → ((n : ℕ) (x y : ℤ) → f n x y ≡ g n x y) → IsObjectCode kind number f count code → IsObjectCode kind number g count code
code_of_same kind number f g count code same is =
    code_of_copies kind number f g count code (λ n below. (n, below, same_copy (f n) (g n) (same n))) (λ n below. (n, below, same_copy (g n) (f n) (λ x y. sym (same n x y)))) is
