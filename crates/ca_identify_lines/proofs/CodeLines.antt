-- Codes are on one line.
use Rattle.std.proofs.Common.{◌≡◌, ℕ, ◌+◌, ◌-◌, ◌≤◌, nat_lt, Bool, true, false, List, [], ◌∷◌, ◌++◌, map, Option, None, Some, codes, decimal, refl, subst, sym, arith}
use Rattle.std.specs.Prelude.{ℤ, ◌==◌, if◌then◌else◌}
use Rattle.std.specs.List.{flat_map, join_with_byte}
use Rattle.std.proofs.lemmas.Bool.Decides.{nat_tests}
use Rattle.ca_plane.specs.Prelude.{Every, letter, Picture, after}
use Rattle.ca_plane.proofs.Fronts.{every_append}
use Rattle.ca_apgcode.specs.Prelude.{IsObjectCode, IsLeastOfPhases, code_text, kind_letter, Step, digit, gap_text, step_text}
use Rattle.ca_apgcode.specs.declared.object.ObjectKind.{ObjectKind}
use Rattle.ca_apgcode.specs.declared.object.ObjectKind.TheVariants as kind
use Rattle.ca_text.specs.declared.kind.Kind.TheVariants.{Still, Oscillator, Spaceship}
use Rattle.ca_answers.specs.declared.identity.Identity.{Identity}
use Rattle.ca_answers.specs.declared.identity.Identity.TheVariants.{Claim}
use Rattle.ca_answers.specs.Prelude.{IsCodeOf}
use Rattle.ca_identify_lines.proofs.Saying.{is_inner}
use Rattle.ca_identify_lines.proofs.NameWords.{decimal_inner}

-- a digit ends no line
large_inner : (b : ℕ) → 11 ≤ b → is_inner b ≡ true
large_inner b large = grind (arith, nat_tests, large)

either_inner : (b : Bool) (x y : ℕ) → is_inner x ≡ true → is_inner y ≡ true → is_inner (if b then x else y) ≡ true
either_inner true x y one other = one
either_inner false x y one other = other

digit_inner : (n : ℕ) → is_inner (digit n) ≡ true
digit_inner n = either_inner (nat_lt n 10) (48 + n) (97 + (n - 10)) (large_inner (48 + n) (omega arith)) (large_inner (97 + (n - 10)) (omega arith))

byte_inner : (b : ℕ) → is_inner b ≡ true → Every is_inner (b ∷ [])
byte_inner b is = rw is refl

-- so the text of columns doesn't
either_text : (b : Bool) (one other : List ℕ) → Every is_inner one → Every is_inner other → Every is_inner (if b then one else other)
either_text true one other is are = is
either_text false one other is are = are

gap_inner : (gap : ℕ) → Every is_inner (gap_text gap)
gap_inner gap =
    let long = letter "y" ∷ digit (gap - 4) ∷ [] in
    let three = if gap == 3 then codes "x" else long in
    let two = if gap == 2 then codes "w" else three in
    let one = if gap == 1 then codes "0" else two in
    either_text (gap == 0) [] one refl (either_text (gap == 1) (codes "0") two refl (either_text (gap == 2) (codes "w") three refl
    (either_text (gap == 3) (codes "x") long refl (byte_inner (digit (gap - 4)) (digit_inner (gap - 4))))))

step_inner : (step : Step) → Every is_inner (step_text step)
step_inner step = every_append is_inner (gap_text step.gap) (digit step.column ∷ []) (gap_inner step.gap) (byte_inner (digit step.column) (digit_inner step.column))

steps_inner : (steps : List Step) → Every is_inner (flat_map step_text steps)
steps_inner [] = refl
steps_inner (s ∷ ss) = every_append is_inner (step_text s) (flat_map step_text ss) (step_inner s) (steps_inner ss)

strips_inner : (strips : List (List Step)) → Every is_inner (join_with_byte (letter "z") (map (flat_map step_text) strips))
strips_inner [] = refl
strips_inner (s ∷ []) = steps_inner s
strips_inner (s ∷ t ∷ ts) = every_append is_inner (flat_map step_text s) (letter "z" ∷ join_with_byte (letter "z") (map (flat_map step_text) (t ∷ ts))) (steps_inner s) (strips_inner (t ∷ ts))

kind_inner : (k : ObjectKind) → Every is_inner (letter "x" ∷ kind_letter k ∷ [])
kind_inner kind.StillLife = refl
kind_inner kind.Oscillator = refl
kind_inner kind.Spaceship = refl

-- nor does a code with such a text, or without one
text_inner : (k : ObjectKind) (number : ℕ) (phases : ℕ → ℤ → ℤ → ℕ) (count : ℕ) (text : Option (List ℕ)) → IsLeastOfPhases phases count text → Every is_inner (code_text k number text)
text_inner k number phases count (Some text) is =
    let (n, less, (orientation, (box, round, written))) = is.is_one in
    let front = letter "x" ∷ kind_letter k ∷ [] in
    let numbered = every_append is_inner front (decimal number) (kind_inner k) (decimal_inner number) in
    every_append is_inner (front ++ decimal number ++ codes "_") text (every_append is_inner (front ++ decimal number) (codes "_") numbered refl)
    (subst (Every is_inner) (sym written.whole) (strips_inner written.strips))
text_inner kind.StillLife number phases count None is = decimal_inner number
text_inner kind.Oscillator number phases count None is = decimal_inner number
text_inner kind.Spaceship number phases count None is = decimal_inner number

object_inner : (k : ObjectKind) (number : ℕ) (phases : ℕ → ℤ → ℤ → ℕ) (count : ℕ) (code : List ℕ) → IsObjectCode k number phases count code → Every is_inner code
object_inner k number phases count code is = subst (Every is_inner) (sym is.whole) (text_inner k number phases count is.text is.is_least)

-- the code of what is found of a plane is on one line
pub code_inner : (next : List ℕ → ℕ) (cells : Picture) (identity : Identity) (code : List ℕ) → IsCodeOf next cells identity code → Every is_inner code
code_inner next cells (Claim Still) code (count, population, is) = object_inner kind.StillLife count (after next cells) 1 code is
code_inner next cells (Claim (Oscillator period)) code is = object_inner kind.Oscillator period (after next cells) period code is
code_inner next cells (Claim (Spaceship period dx dy)) code is = object_inner kind.Spaceship period (after next cells) period code is
code_inner next cells identity code is = absurd is
