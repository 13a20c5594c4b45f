-- The kinds of claims: the words of each, the limits of its numbers, and what it asks (our own; docs/CLAIMS.md).
use Rattle.std.specs.Prelude.{◌≡◌, ℕ, ◌≤◌, ℤ, pos, neg_ℤ, ◌≤ℤ◌, List, [], ◌∷◌, Bool, true, false, codes, decimal}
use Rattle.std.specs.Fmt.{signed_decimal}
use Rattle.std.specs.List.{flat_map}
use Rattle.ca_plane.specs.Prelude.{AreDigits, IsInteger, value, greatest_shift, most_generations, longest_period}
use Rattle.ca_text.specs.declared.{asks.Asks.Asks, both.Both.Both, kind.Kind.Kind}
use Rattle.ca_text.specs.declared.asks.Expected.TheVariants.{Own, Other, NoCells}
use Rattle.ca_text.specs.declared.asks.Forbidden.TheVariants.{Nothing, InPlace, Anywhere, EmptyPlane}
use Rattle.ca_text.specs.declared.kind.Kind.TheVariants.{Still, Oscillator, Spaceship, Becomes, BecomesShifted, Dies}

-- the keyword of each kind
abbrev pub keyword_of : Kind → List ℕ
keyword_of Still = codes "still"
keyword_of (Oscillator period) = codes "oscillator"
keyword_of (Spaceship period dx dy) = codes "spaceship"
keyword_of (Becomes generations) = codes "becomes"
keyword_of (BecomesShifted generations dx dy) = codes "becomes"
keyword_of (Dies generations) = codes "dies"

-- where words name one pattern, it is the second too
abbrev pub NameOne : Both (List ℕ) → Type 0
NameOne names = names.second ≡ names.first

-- the words after the keyword and the first name, kind by kind: none, `P`, `P DX DY`, `N NAME2`, `N NAME2 shift DX DY`, and `N`
abbrev pub FollowName : List (List ℕ) → (names : Both (List ℕ)) → Kind → Type 0
FollowName words names Still = (words ≡ []) × NameOne names
FollowName words names (Oscillator period) = (p : List ℕ) × (words ≡ p ∷ []) × AreDigits p × (period ≡ value p) × NameOne names
FollowName words names (Spaceship period dx dy) = (p : List ℕ) × (x : List ℕ) × (y : List ℕ) ×
    (words ≡ p ∷ x ∷ y ∷ []) × AreDigits p × (period ≡ value p) × IsInteger x dx × IsInteger y dy × NameOne names
FollowName words names (Becomes generations) = (n : List ℕ) × (words ≡ n ∷ names.second ∷ []) × AreDigits n × (generations ≡ value n)
FollowName words names (BecomesShifted generations dx dy) = (n : List ℕ) × (x : List ℕ) × (y : List ℕ) ×
    (words ≡ n ∷ names.second ∷ codes "shift" ∷ x ∷ y ∷ []) × AreDigits n × (generations ≡ value n) × IsInteger x dx × IsInteger y dy
FollowName words names (Dies generations) = (n : List ℕ) × (words ≡ n ∷ []) × AreDigits n × (generations ≡ value n) × NameOne names

-- the words of a claim of this kind about the patterns of these names: its keyword, the name of the first, and what follows that
abbrev pub WordsClaim : List (List ℕ) → (names : Both (List ℕ)) → Kind → Type 0
WordsClaim words names kind = (later : List (List ℕ)) × (words ≡ keyword_of kind ∷ names.first ∷ later) × FollowName later names kind

-- the words after the first name, as they are written, where this is the second name
abbrev pub words_after_name : (second : List ℕ) → Kind → List (List ℕ)
words_after_name second Still = []
words_after_name second (Oscillator period) = decimal period ∷ []
words_after_name second (Spaceship period dx dy) = decimal period ∷ signed_decimal dx ∷ signed_decimal dy ∷ []
words_after_name second (Becomes generations) = decimal generations ∷ second ∷ []
words_after_name second (BecomesShifted generations dx dy) = decimal generations ∷ second ∷ codes "shift" ∷ signed_decimal dx ∷ signed_decimal dy ∷ []
words_after_name second (Dies generations) = decimal generations ∷ []

-- words on a line after others, with a blank before each
abbrev pub spaced : List (List ℕ) → List ℕ
spaced words = flat_map (λ word. 32 ∷ word) words

-- claims that move another pattern's cells and those of dying patterns came with the second version of the language
abbrev pub is_of_second_version : Kind → Bool
is_of_second_version (BecomesShifted generations dx dy) = true
is_of_second_version (Dies generations) = true
is_of_second_version kind = false

-- at most the greatest, to either side
abbrev pub IsShift : ℤ → Type 0
IsShift d = (neg_ℤ (pos greatest_shift) ≤ℤ d) × (d ≤ℤ pos greatest_shift)

-- the numbers of a kind of claim are within their limits: a period is at most the longest, an oscillator's at least 2 and a spaceship's
-- at least 1; a spaceship is shifted; no shift is more than the greatest to either side, but that of a pattern that another becomes may be
-- none; generations are no more than the most generations, and those after which a pattern dies at least 1
abbrev pub HasGoodNumbers : Kind → Type 0
HasGoodNumbers Still = Unit {0}
HasGoodNumbers (Oscillator period) = (2 ≤ period) × (period ≤ longest_period)
HasGoodNumbers (Spaceship period dx dy) = (1 ≤ period) × (period ≤ longest_period) × IsShift dx × IsShift dy × ((dx ≡ pos 0) → (dy ≡ pos 0) → ⊥)
HasGoodNumbers (Becomes generations) = generations ≤ most_generations
HasGoodNumbers (BecomesShifted generations dx dy) = (generations ≤ most_generations) × IsShift dx × IsShift dy
HasGoodNumbers (Dies generations) = (1 ≤ generations) × (generations ≤ most_generations)

-- what each kind of claim asks: whether the pattern must be live; after how many generations which cells are expected, the pattern's own,
-- the other's or none, moved by (dx, dy); whether the claim moves them; and what no earlier time, starting at 1, may show: nothing is
-- forbidden, or the pattern in its place, or the pattern anywhere, or an empty plane
abbrev pub asks_of : Kind → Asks
asks_of Still = record { live = true; generations = 1; expected = Own; dx = pos 0; dy = pos 0; moved = false; forbidden = Nothing }
asks_of (Oscillator period) = record { live = true; generations = period; expected = Own; dx = pos 0; dy = pos 0; moved = false; forbidden = InPlace }
asks_of (Spaceship period dx dy) = record { live = true; generations = period; expected = Own; dx = dx; dy = dy; moved = true; forbidden = Anywhere }
asks_of (Becomes generations) = record { live = false; generations = generations; expected = Other; dx = pos 0; dy = pos 0; moved = false; forbidden = Nothing }
asks_of (BecomesShifted generations dx dy) = record { live = false; generations = generations; expected = Other; dx = dx; dy = dy; moved = true; forbidden = Nothing }
asks_of (Dies generations) = record { live = true; generations = generations; expected = NoCells; dx = pos 0; dy = pos 0; moved = false; forbidden = EmptyPlane }
