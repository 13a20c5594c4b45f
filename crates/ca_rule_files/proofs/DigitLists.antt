-- A list of kinds without letters has the kinds whose numbers of live neighbours are its digits.
use Rattle.std.proofs.Common.{◌≡◌, ℕ, ◌+◌, ◌<◌, List, [], ◌∷◌, map, Bool, true, false, ◌==◌, ◌&&◌, ◌||◌, nat_lt, Option, refl, sym, ap, ◌∙◌, arith, slice_index, if◌then◌else◌}
use Rattle.std.specs.List.{list_all, list_any}
use Rattle.std.proofs.lemmas.Bool.{and_parts}
use Rattle.std.proofs.lemmas.Bool.Decides.{nat_tests}
use Rattle.ca_plane.specs.Prelude.{Every, is_digit, with_front}
use Rattle.ca_rule.specs.Prelude.{is_count, has_digit, counts_of, are_digits_up_to}
use Rattle.ca_rule.specs.declared.hood.Hood.TheVariants.{Moore}
use Rattle.ca_rule.proofs.PrintedRules.{below_nine}
use Rattle.ca_rule.proofs.ReadInwards.{digits-of}
use Rattle.ca_rule_files.specs.Prelude.{live_neighbours, letter_of, parts, part_has, has_kind, isotropic_next, AreNineCells, counted_next}
use Rattle.ca_rule_files.specs.WrittenTables.{neighbourhoods}
use Rattle.ca_rule_files.proofs.Neighbourhoods.{each}

digit-parts : (ds : List ℕ) → Every is_digit ds → parts ds ≡ map (λ d. d ∷ []) ds
digit-parts [] all = refl
digit-parts (d ∷ []) all = refl
digit-parts (d ∷ e ∷ ds) all =
    let both = and_parts (is_digit d) (list_all is_digit (e ∷ ds)) all in
    let next = and_parts (is_digit e) (list_all is_digit ds) both.1 in
    ap (λ v. if v then (d ∷ []) ∷ parts (e ∷ ds) else with_front d (parts (e ∷ ds))) next.0 ∙ ap (λ ps. (d ∷ []) ∷ ps) (digit-parts (e ∷ ds) both.1)

and-true : (b : Bool) → (b && true) ≡ b
and-true true = refl
and-true false = refl

digit-among : (n : ℕ) (kind : Option ℕ) (ds : List ℕ) → list_any (part_has n kind) (map (λ d. d ∷ []) ds) ≡ has_digit ds n
digit-among n kind [] = refl
digit-among n kind (d ∷ ds) = ap (λ v. v || list_any (part_has n kind) (map (λ d. d ∷ []) ds)) (and-true (d == 48 + n)) ∙ ap (λ v. (d == 48 + n) || v) (digit-among n kind ds)

count-read : (ds : List ℕ) (n : ℕ) → n < 9 → is_count (counts_of ds) n ≡ has_digit ds n
count-read ds = below_nine (λ n. is_count (counts_of ds) n ≡ has_digit ds n) (refl, refl, refl, refl, refl, refl, refl, refl, refl)

few-each : list_all (λ m. nat_lt (live_neighbours m) 9) (neighbourhoods 512) ≡ true
unfolding neighbourhoods
few-each = refl

few-neighbours : (nine : List ℕ) → AreNineCells nine → live_neighbours nine < 9
few-neighbours nine are = let t = each (λ m. nat_lt (live_neighbours m) 9) few-each nine are in grind (arith, nat_tests)

kinds-counted : (ds nine : List ℕ) → are_digits_up_to 8 ds ≡ true → AreNineCells nine → has_kind ds nine ≡ is_count (counts_of ds) (live_neighbours nine)
kinds-counted ds nine all are =
    ap (list_any (part_has (live_neighbours nine) (letter_of nine))) (digit-parts ds (digits-of Moore ds all))
    ∙ digit-among (live_neighbours nine) (letter_of nine) ds ∙ sym (count-read ds (live_neighbours nine) (few-neighbours nine are))

-- the next state by whether the centre is born or survives
abbrev next_if : ℕ → Bool → Bool → ℕ
next_if centre born survives = if centre == 0 then (if born then 1 else 0) else (if centre == 1 then (if survives then 1 else 0) else 0)

pub digits-next : (birth survival nine : List ℕ) → are_digits_up_to 8 birth ≡ true → are_digits_up_to 8 survival ≡ true → AreNineCells nine → isotropic_next birth survival nine ≡ counted_next birth survival nine
digits-next birth survival nine b s are =
    ap (λ v. next_if (slice_index nine 4) v (has_kind survival nine)) (kinds-counted birth nine b are)
    ∙ ap (next_if (slice_index nine 4) (is_count (counts_of birth) (live_neighbours nine))) (kinds-counted survival nine s are)
