-- Pictures of cells that are the same everywhere.
use Rattle.std.proofs.Common.{◌≡◌, ℕ, zero, suc, ◌*◌, ℤ, pos, ◌+ℤ◌, List, ◌∷◌, [], ◌++◌, nat_lt, refl, ap}
use Rattle.ca_draw.specs.declared.{drawing.Style.Style, window.Window.Window}
use Rattle.ca_draw.specs.Prelude.{has_live, mark_of, texts_below, repeated, byte_of_mark, row_end, drawing_row, drawing, drawing_front}

-- a square has a live cell among the one where it has one among the other
same_live : (one other : ℤ → ℤ → ℕ) → ((x y : ℤ) → one x y ≡ other x y) → (scale : ℕ) (column row : ℤ) → has_live one scale column row ≡ has_live other scale column row
same_live one other same zero column row = ap (λ n. nat_lt 0 n) (same column row)
same_live one other same (suc scale) column row =
    let x = column +ℤ column in
    let y = row +ℤ row in
    rw (same_live one other same scale x y, same_live one other same scale (x +ℤ pos 1) y, same_live one other same scale x (y +ℤ pos 1), same_live one other same scale (x +ℤ pos 1) (y +ℤ pos 1)) refl

same_mark : (one other : ℤ → ℤ → ℕ) → ((x y : ℤ) → one x y ≡ other x y) → (states scale : ℕ) (column row : ℤ) → mark_of one states scale column row ≡ mark_of other states scale column row
same_mark one other same states scale column row = rw (same column row, same_live one other same scale column row) refl

-- texts that are the same one by one
same_texts : (n : ℕ) (one other : ℕ → List ℕ) → ((i : ℕ) → one i ≡ other i) → texts_below n one ≡ texts_below n other
same_texts zero one other same = refl
same_texts (suc n) one other same = rw (same_texts n one other same, same n) refl

same_row : (style : Style) (one other : ℤ → ℤ → ℕ) (window : Window) → ((x y : ℤ) → one x y ≡ other x y) → (row : ℕ) → drawing_row style one window row ≡ drawing_row style other window row
same_row style one other window same row =
    ap (λ texts. texts ++ row_end style.format)
    (same_texts window.width _ _ (λ column. ap (λ mark. repeated style.zoom (byte_of_mark style mark ∷ [])) (same_mark one other same style.states window.scale (window.column +ℤ pos column) (window.row +ℤ pos row))))

pub same_drawing : (style : Style) (one other : ℤ → ℤ → ℕ) (window : Window) → ((x y : ℤ) → one x y ≡ other x y) → drawing style one window ≡ drawing style other window
same_drawing style one other window same =
    ap (λ rows. drawing_front style.format (style.zoom * window.width) (style.zoom * window.height) ++ rows)
    (same_texts window.height _ _ (λ row. ap (repeated style.zoom) (same_row style one other window same row)))
