-- What is drawn of a square of cells, and the letters and greys of that.
use Rattle.std.specs.Prelude.{◌≡◌, ◌≢◌, ℕ, zero, suc, ◌+◌, ◌-◌, ◌*◌, ◌/◌, nat_lt, min, max, Bool, ◌==◌, ◌&&◌, ◌||◌, if◌then◌else◌, ℤ, pos, ◌+ℤ◌}
use Rattle.ca_draw.specs.declared.mark.Mark.{Mark}
use Rattle.ca_draw.specs.declared.mark.Mark.TheVariants.{Dead, Live, State}
use Rattle.ca_draw.specs.Windows.{IsInSquare}

-- every cell of the square at this column and row is 0
abbrev pub IsBlankSquare : (ℤ → ℤ → ℕ) → ℕ → ℤ → ℤ → Type 0
IsBlankSquare cells scale column row = (x y : ℤ) → IsInSquare scale column row x y → cells x y ≡ 0

-- some cell of it isn't
abbrev pub IsLiveSquare : (ℤ → ℤ → ℕ) → ℕ → ℤ → ℤ → Type 0
IsLiveSquare cells scale column row = (x : ℤ) × (y : ℤ) × IsInSquare scale column row x y × (cells x y ≢ 0)

-- whether some cell of it isn't 0: at scale 0 its one cell, and above that one in the four squares that make it.
-- A law says that this is so exactly where it isn't blank
abbrev pub has_live : (ℤ → ℤ → ℕ) → ℕ → ℤ → ℤ → Bool
has_live cells zero column row = nat_lt 0 (cells column row)
has_live cells (suc scale) column row =
    let x = column +ℤ column in
    let y = row +ℤ row in
    (has_live cells scale x y || has_live cells scale (x +ℤ pos 1) y) || (has_live cells scale x (y +ℤ pos 1) || has_live cells scale (x +ℤ pos 1) (y +ℤ pos 1))

abbrev pub live_mark : Bool → Mark
live_mark live = if live then Live else Dead

abbrev pub state_mark : ℕ → Mark
state_mark state = if state == 0 then Dead else State state

-- what is drawn of the square: at scale 0, where more than two states are told apart, that of its cell, and else
-- whether a cell is live
abbrev pub mark_of : (ℤ → ℤ → ℕ) → ℕ → ℕ → ℤ → ℤ → Mark
mark_of cells states scale column row = if (scale == 0) && nat_lt 2 states then state_mark (cells column row) else live_mark (has_live cells scale column row)

-- the letter of a state: `A` to `X` for 1 to 24, as in extended RLE (Golly Help, File Formats), and (our own)
-- `a` to `x` for 25 to 48, and `*` for all above
abbrev pub state_letter : ℕ → ℕ
state_letter state = if nat_lt state 25 then 64 + state else (if nat_lt state 49 then 72 + state else 42)

-- the character that is drawn: `.`, `o`, or a state's letter
abbrev pub mark_letter : Mark → ℕ
mark_letter Dead = 46
mark_letter Live = 111
mark_letter (State state) = state_letter state

-- the grey of a state (our own): black for 1, and lighter in even steps after that, so that each of a rule's states
-- has another one, none of them white
abbrev pub state_grey : ℕ → ℕ → ℕ
state_grey states state = min (255 * (state - 1) / (max states 2 - 1)) 254

-- the grey that is drawn, from 0, black, to 255, white
abbrev pub mark_grey : ℕ → Mark → ℕ
mark_grey states Dead = 255
mark_grey states Live = 0
mark_grey states (State state) = state_grey states state
