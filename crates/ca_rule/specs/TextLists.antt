-- The two lists of a rule text, read from its start: each part is determined, so this is what a text spells if it spells a rule
-- (our own).
use Rattle.std.specs.Prelude.{ℕ, ◌+◌, List, [], ◌∷◌, Bool, not, ◌==◌, ◌&&◌, ◌||◌, Option, Some, None, if◌then◌else◌}
use Rattle.ca_plane.specs.Prelude.{front, rest}

-- the byte is this letter, which is given in upper case, of either case
abbrev pub is_rule_letter : ℕ → ℕ → Bool
is_rule_letter upper byte = (byte == upper) || (byte == upper + 32)

-- the byte may stand in a list: it is no `/`, and none of the letters B and S
abbrev pub stands_in_list : ℕ → Bool
stands_in_list byte = not (byte == 47) && (not (is_rule_letter 66 byte) && not (is_rule_letter 83 byte))

-- the bytes without a `/` at their start
abbrev pub without_slash : List ℕ → List ℕ
without_slash [] = []
without_slash (b ∷ bs) = if b == 47 then bs else b ∷ bs

-- the bytes after the letter with which they begin
abbrev pub tail_after_letter : ℕ → List ℕ → Option (List ℕ)
tail_after_letter upper [] = None
tail_after_letter upper (b ∷ bs) = if is_rule_letter upper b then Some bs else None

-- the bytes after the `/` with which they begin
abbrev pub tail_after_slash : List ℕ → Option (List ℕ)
tail_after_slash [] = None
tail_after_slash (b ∷ bs) = if b == 47 then Some bs else None

-- two lists, where there is a second
abbrev pub both_lists : List ℕ → Option (List ℕ) → Option (List ℕ × List ℕ)
both_lists first None = None
both_lists first (Some second) = Some (first, second)

-- the two in the other order
abbrev pub swapped_lists : Option (List ℕ × List ℕ) → Option (List ℕ × List ℕ)
swapped_lists None = None
swapped_lists (Some lists) = Some (lists.1, lists.0)

-- a list, an optional `/`, the letter, and what follows it
abbrev pub lists_around : ℕ → List ℕ → Option (List ℕ × List ℕ)
lists_around upper bytes = both_lists (front stands_in_list bytes) (tail_after_letter upper (without_slash (rest stands_in_list bytes)))

-- a list, a `/`, and what follows it
abbrev pub lists_around_slash : List ℕ → Option (List ℕ × List ℕ)
lists_around_slash bytes = both_lists (front stands_in_list bytes) (tail_after_slash (rest stands_in_list bytes))

-- the birth and the survival list of a text without its suffix
abbrev pub lists_of : List ℕ → Option (List ℕ × List ℕ)
lists_of [] = None
lists_of (b ∷ bs) =
    if is_rule_letter 66 b then lists_around 83 bs
    else (if is_rule_letter 83 b then swapped_lists (lists_around 66 bs) else swapped_lists (lists_around_slash (b ∷ bs)))
