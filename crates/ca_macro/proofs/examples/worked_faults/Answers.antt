use Rattle.std.proofs.Common.{◌≡◌, ◌≢◌, ℕ, ◌≤◌, List, [], ◌∷◌, ◌++◌, Option, Some, not, inl, inr, lit≤, lit<, codes, refl, arith}
use Rattle.std.proofs.lemmas.Option.{same_Some}
use Rattle.ca_macro.specs.declared.fault.MacroFault.TheVariants.{Timeline, Syntax, Forward, Level, LeafSize, GenTooLarge}
use Rattle.ca_macro.specs.Prelude.{is_leaf_byte, AreFaulty, after_first, cut_numbers_text}
use Rattle.ca_plane.specs.Prelude.{text_of}
use Rattle.ca_macro.specs.inner.Leaves.{leaf_cells}
use Rattle.ca_macro.proofs.Leaves.{leaf_found}
use Rattle.ca_macro.proofs.WorkedExamples.{numbers_found, faulty, faulty_after_leaf, own_number, four_numbers, bad_byte}
use Rattle.ca_macro.proofs.examples.worked_faults.Goals as goal

-- a leaf's level isn't 4
three : ◌≡◌ {A = Option ℕ} (Some 3) (Some 4) → ⊥
three e = let same = same_Some 3 4 e in omega arith

-- 256 isn't a state
large : 256 ≤ 255 → ⊥
large h = omega arith

some : {A : Type 0} {x : A} {xs : List A} → x ∷ xs ≢ []
some e = absurd cc

pub returns-clause-not_macro : goal.returns-clause-not_macro
returns-clause-not_macro c = refl

pub returns-clause-blank_first : goal.returns-clause-blank_first
returns-clause-blank_first c = refl

pub returns-clause-timeline : goal.returns-clause-timeline
returns-clause-timeline c = faulty (after_first (codes "#FRAMES 2")) (codes "#FRAMES 2") [] (AreFaulty Timeline) refl refl (codes "#FRAMES", codes "2" ∷ [], refl, refl)

pub returns-clause-own_number : goal.returns-clause-own_number
returns-clause-own_number c = faulty (after_first (codes "4 0 0 0 1")) (codes "4 0 0 0 1") [] (AreFaulty Forward) refl refl own_number

pub returns-clause-later_number : goal.returns-clause-later_number
returns-clause-later_number c = faulty (after_first (codes "4 0 0 0 2")) (codes "4 0 0 0 2") [] (AreFaulty Forward) refl refl (4, 0, 0, 0, 2, numbers_found (codes "4 0 0 0 2") refl, (lit≤ tt, lit≤ tt), record { good = 0 ∷ 0 ∷ 0 ∷ []; number = 2; more = []; spelled = refl; named = (tt, (tt, (tt, tt))); holds = lit< tt })

pub returns-clause-gap : goal.returns-clause-gap
returns-clause-gap c = faulty_after_leaf (text_of (codes "[M2]" ∷ codes "*$" ∷ codes "5 0 0 0 1" ∷ [])) (codes "5 0 0 0 1") (AreFaulty Level) refl refl (inr (5, 0, 0, 0, 1, numbers_found (codes "5 0 0 0 1") refl, (lit≤ tt, lit≤ tt), record { good = 0 ∷ 0 ∷ 0 ∷ []; number = 1; more = []; spelled = refl; named = (tt, (tt, (tt, tt))); holds = (lit≤ tt, three) }))

pub returns-clause-level_first : goal.returns-clause-level_first
returns-clause-level_first c = faulty_after_leaf (text_of (codes "[M2]" ∷ codes "*$" ∷ codes "5 0 1 9 0" ∷ [])) (codes "5 0 1 9 0") (AreFaulty Level) refl refl (inr (5, 0, 1, 9, 0, numbers_found (codes "5 0 1 9 0") refl, (lit≤ tt, lit≤ tt), record { good = 0 ∷ []; number = 1; more = 9 ∷ 0 ∷ []; spelled = refl; named = (tt, tt); holds = (lit≤ tt, three) }))

pub returns-clause-forward_first : goal.returns-clause-forward_first
returns-clause-forward_first c = faulty_after_leaf (text_of (codes "[M2]" ∷ codes "*$" ∷ codes "5 0 9 1 0" ∷ [])) (codes "5 0 9 1 0") (AreFaulty Forward) refl refl (5, 0, 9, 1, 0, numbers_found (codes "5 0 9 1 0") refl, (lit≤ tt, lit≤ tt), record { good = 0 ∷ []; number = 9; more = 1 ∷ 0 ∷ []; spelled = refl; named = (tt, tt); holds = lit< tt })

pub returns-clause-too_high : goal.returns-clause-too_high
returns-clause-too_high c = faulty (after_first (codes "121 0 0 0 0")) (codes "121 0 0 0 0") [] (AreFaulty Level) refl refl (inl (121, 0, 0, 0, 0, numbers_found (codes "121 0 0 0 0") refl, inr (lit< tt)))

pub returns-clause-no_level : goal.returns-clause-no_level
returns-clause-no_level c = faulty (after_first (codes "0 0 0 0 256")) (codes "0 0 0 0 256") [] (AreFaulty Level) refl refl (inl (0, 0, 0, 0, 256, numbers_found (codes "0 0 0 0 256") refl, inl refl))

pub returns-clause-ninth_cell : goal.returns-clause-ninth_cell
returns-clause-ninth_cell c = faulty (after_first (codes "*********$")) (codes "*********$") [] (AreFaulty LeafSize) refl refl (codes "********" ++ 42 ∷ (codes "$"), [], refl, bad_byte (codes "********") 42 (codes "$") is_leaf_byte some refl refl refl)

pub returns-clause-ninth_cell_first : goal.returns-clause-ninth_cell_first
returns-clause-ninth_cell_first c = faulty (after_first (codes "*********x")) (codes "*********x") [] (AreFaulty LeafSize) refl refl (codes "********" ++ 42 ∷ (codes "x"), [], refl, bad_byte (codes "********") 42 (codes "x") is_leaf_byte some refl refl refl)

pub returns-clause-ninth_row : goal.returns-clause-ninth_row
returns-clause-ninth_row c = faulty (after_first (codes "$$$$$$$$.")) (codes "$$$$$$$$.") [] (AreFaulty LeafSize) refl refl (codes "$$$$$$$$" ++ 46 ∷ ([]), [], refl, bad_byte (codes "$$$$$$$$") 46 ([]) is_leaf_byte some refl refl refl)

pub returns-clause-other_byte_first : goal.returns-clause-other_byte_first
returns-clause-other_byte_first c = faulty (after_first (codes "$$$$$$$$x")) (codes "$$$$$$$$x") [] (AreFaulty Syntax) refl refl (inr (inl (codes "$$$$$$$$x", [], refl, inl (bad_byte (codes "$$$$$$$$") 120 ([]) (λ b. not (is_leaf_byte b)) some refl refl refl))))

pub returns-clause-blank_inside : goal.returns-clause-blank_inside
returns-clause-blank_inside c = faulty (after_first (codes "*$ *$")) (codes "*$ *$") [] (AreFaulty Syntax) refl refl (inr (inl (codes "*$", codes "*$" ∷ [], refl, inr ((leaf_cells (codes "*$"), leaf_found (codes "*$") refl), some))))

pub returns-clause-state : goal.returns-clause-state
returns-clause-state c = faulty (after_first (codes "1 0 0 0 256")) (codes "1 0 0 0 256") [] (AreFaulty Syntax) refl refl (inr (inr (inr (0, 0, 0, 256, numbers_found (codes "1 0 0 0 256") refl, λ h. large h.1.1.1.0))))

pub returns-clause-four_numbers : goal.returns-clause-four_numbers
returns-clause-four_numbers c = faulty (after_first (codes "4 0 0 0")) (codes "4 0 0 0") [] (AreFaulty Syntax) refl refl four_numbers

pub returns-clause-two_generations : goal.returns-clause-two_generations
returns-clause-two_generations c = faulty (after_first (codes "#G 4 5")) (codes "#G 4 5") [] (AreFaulty Syntax) refl refl (inl (codes "4" ∷ codes "5" ∷ [], refl, some, λ digits e. absurd cc))

pub returns-clause-generation : goal.returns-clause-generation
returns-clause-generation c = faulty (after_first (codes "#G 9223372036854775808")) (codes "#G 9223372036854775808") [] (AreFaulty GenTooLarge) refl refl (codes "9223372036854775808", refl, refl, lit≤ tt)

pub returns-clause-first_line : goal.returns-clause-first_line
returns-clause-first_line c = faulty (text_of (codes "[M2]" ∷ codes "4 0 0 0" ∷ codes "#FRAMES 2" ∷ [])) (codes "4 0 0 0") (codes "#FRAMES 2" ∷ []) (AreFaulty Syntax) refl refl four_numbers

pub returns-clause-cut : goal.returns-clause-cut
returns-clause-cut c = faulty_after_leaf cut_numbers_text (codes "4 0 0 0 ") (AreFaulty Syntax) refl refl four_numbers
