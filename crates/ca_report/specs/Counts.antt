-- Words for numbers that several texts have.
use Rattle.std.specs.Prelude.{ℕ, ℤ, pos, ◌+ℤ◌, ◌-ℤ◌, List, codes, nat_eq, if◌then◌else◌}

-- the word for this number of generations
abbrev pub generations_word : ℕ → List ℕ
generations_word n = if nat_eq n 1 then codes " generation" else codes " generations"

-- how long the side of a box is that goes from one coordinate to another, both of them in it
abbrev pub side_length : ℤ → ℤ → ℤ
side_length first last = last -ℤ first +ℤ pos 1
