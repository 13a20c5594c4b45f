-- What holds of each of the 512 neighbourhoods holds of any nine cells of two states.
use Rattle.std.proofs.Common.{◌≡◌, ℕ, List, [], ◌∷◌, length, Bool, true, false, not, ◌==◌, Option, Some, None, codes, refl, sym, ap, ◌∙◌, inl, inr, arith, if◌then◌else◌}
use Rattle.std.specs.List.{list_all}
use Rattle.std.proofs.lemmas.Bool.{and_parts}
use Rattle.std.proofs.lemmas.Bool.Decides.{nat_tests}
use Rattle.ca_rule_files.specs.Prelude.{turned, mirrored, letter_of, kinds_of, has_no_letter, has_kind, map_next, AreNineCells, counted_next, life_characters}
use Rattle.ca_rule_files.specs.WrittenTables.{neighbourhoods}
use Rattle.ca_rule_files.proofs.WrittenNext.{Holds, all-held}

of-held : (test : List ℕ → Bool) (ms : List (List ℕ)) (nine : List ℕ) → list_all test ms ≡ true → Holds nine ms → test nine ≡ true
of-held test [] nine all h = absurd h
of-held test (m ∷ ms) nine all (inl same) = ap test (sym same) ∙ (and_parts (test m) (list_all test ms) all).0
of-held test (m ∷ ms) nine all (inr more) = of-held test ms nine (and_parts (test m) (list_all test ms) all).1 more

same-number : (a b : ℕ) → (a == b) ≡ true → a ≡ b
same-number a b e = grind (arith, nat_tests)

pub each : (test : List ℕ → Bool) → list_all test (neighbourhoods 512) ≡ true → (nine : List ℕ) → AreNineCells nine → test nine ≡ true
each test all nine are = of-held test (neighbourhoods 512) nine all (all-held nine are.nine_cells are.two_states)

-- equal tests
abbrev same_test : Bool → Bool → Bool
same_test a b = if a then b else not b

same-test : (a b : Bool) → same_test a b ≡ true → a ≡ b
same-test true true e = refl
same-test true false e = cc
same-test false true e = cc
same-test false false e = refl

-- equal letters
abbrev same_letter : Option ℕ → Option ℕ → Bool
same_letter None None = true
same_letter None (Some b) = false
same_letter (Some a) None = false
same_letter (Some a) (Some b) = a == b

same-letter : (a b : Option ℕ) → same_letter a b ≡ true → a ≡ b
same-letter None None e = refl
same-letter None (Some b) e = cc
same-letter (Some a) None e = cc
same-letter (Some a) (Some b) e = let same : a ≡ b = grind (arith, nat_tests) in ap Some same

-- ---- what is computed for each of them

one-each : list_all (λ m. length (kinds_of m) == (if has_no_letter m then 0 else 1)) (neighbourhoods 512) ≡ true
unfolding neighbourhoods
one-each = refl

pub one-kind : (nine : List ℕ) → AreNineCells nine → length (kinds_of nine) ≡ (if has_no_letter nine then 0 else 1)
one-kind nine are = let t = each (λ m. length (kinds_of m) == (if has_no_letter m then 0 else 1)) one-each nine are in same-number (length (kinds_of nine)) (if has_no_letter nine then 0 else 1) t

turned-each : list_all (λ m. same_letter (letter_of (turned m)) (letter_of m)) (neighbourhoods 512) ≡ true
unfolding neighbourhoods
turned-each = refl

pub turned-letter : (nine : List ℕ) → AreNineCells nine → letter_of (turned nine) ≡ letter_of nine
turned-letter nine are = same-letter (letter_of (turned nine)) (letter_of nine) (each (λ m. same_letter (letter_of (turned m)) (letter_of m)) turned-each nine are)

mirrored-each : list_all (λ m. same_letter (letter_of (mirrored m)) (letter_of m)) (neighbourhoods 512) ≡ true
unfolding neighbourhoods
mirrored-each = refl

pub mirrored-letter : (nine : List ℕ) → AreNineCells nine → letter_of (mirrored nine) ≡ letter_of nine
mirrored-letter nine are = same-letter (letter_of (mirrored nine)) (letter_of nine) (each (λ m. same_letter (letter_of (mirrored m)) (letter_of m)) mirrored-each nine are)

-- two lists have the same kinds, where they do of all neighbourhoods
pub same-kinds : (some others : List ℕ) → list_all (λ m. same_test (has_kind some m) (has_kind others m)) (neighbourhoods 512) ≡ true → (nine : List ℕ) → AreNineCells nine → has_kind some nine ≡ has_kind others nine
same-kinds some others all nine are = same-test (has_kind some nine) (has_kind others nine) (each (λ m. same_test (has_kind some m) (has_kind others m)) all nine are)

life-each : list_all (λ m. map_next life_characters m == counted_next (codes "3") (codes "23") m) (neighbourhoods 512) ≡ true
unfolding neighbourhoods
life-each = refl

pub life-map : (nine : List ℕ) → AreNineCells nine → map_next life_characters nine ≡ counted_next (codes "3") (codes "23") nine
life-map nine are = let t = each (λ m. map_next life_characters m == counted_next (codes "3") (codes "23") m) life-each nine are in same-number (map_next life_characters nine) (counted_next (codes "3") (codes "23") nine) t
