-- Pictures of windows, as text and as an image.
use Rattle.std.specs.Prelude.{ℕ, zero, suc, ◌*◌, ℤ, pos, ◌+ℤ◌, List, [], ◌∷◌, ◌++◌, codes, decimal}
use Rattle.ca_draw.specs.declared.{drawing.ImageFormat.ImageFormat, drawing.Style.Style, mark.Mark.Mark, window.Window.Window}
use Rattle.ca_draw.specs.declared.drawing.ImageFormat.TheVariants.{Text, Pgm}
use Rattle.ca_draw.specs.Marks.{mark_of, mark_letter, mark_grey}

-- the texts of the numbers below n, one after the other
abbrev pub texts_below : ℕ → (ℕ → List ℕ) → List ℕ
texts_below zero text = []
texts_below (suc n) text = texts_below n text ++ text n

-- a text `times` times, one after the other
abbrev pub repeated : ℕ → List ℕ → List ℕ
repeated times text = texts_below times (λ _. text)

-- the byte of a square: its character, or its grey
abbrev pub byte_in : ImageFormat → ℕ → Mark → ℕ
byte_in Text states mark = mark_letter mark
byte_in Pgm states mark = mark_grey states mark

abbrev pub byte_of_mark : Style → Mark → ℕ
byte_of_mark style mark = byte_in style.format style.states mark

-- what stands before the rows: of an image its width and height in pixels, and its lightest grey (netpbm, "PGM Format Specification")
abbrev pub drawing_front : ImageFormat → (width height : ℕ) → List ℕ
drawing_front Text width height = []
drawing_front Pgm width height = codes "P5\n" ++ (decimal width ++ (codes " " ++ (decimal height ++ codes "\n255\n")))

-- what ends a row: of a text an LF
abbrev pub row_end : ImageFormat → List ℕ
row_end Text = 10 ∷ []
row_end Pgm = []

-- a row of a window, counted from the north: the byte of each square from the west, as often as the zoom says, and what ends the row
abbrev pub drawing_row : Style → (ℤ → ℤ → ℕ) → Window → ℕ → List ℕ
drawing_row style cells window row =
    texts_below window.width (λ column. repeated style.zoom (byte_of_mark style (mark_of cells style.states window.scale (window.column +ℤ pos column) (window.row +ℤ pos row)) ∷ []))
    ++ row_end style.format

-- the whole picture of a window: its rows, each as often as the zoom says
abbrev pub drawing : Style → (ℤ → ℤ → ℕ) → Window → List ℕ
drawing style cells window =
    drawing_front style.format (style.zoom * window.width) (style.zoom * window.height)
    ++ texts_below window.height (λ row. repeated style.zoom (drawing_row style cells window row))
