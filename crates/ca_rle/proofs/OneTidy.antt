-- A plane, with its rule text, generation and number of states, has one tidy text.
use Rattle.std.proofs.Common.{◌≡◌, ℕ, ◌+◌, ◌<◌, ◌≤◌, ◌⊎◌, inl, inr, List, [], ◌∷◌, ◌++◌, length, ℤ, pos, ◌+ℤ◌, refl, sym, ap, ap₂, subst, ◌∙◌, length-append, arith}
use Rattle.std.specs.List.{flat_map, concat}
use Rattle.std.proofs.lemmas.Int.{ints}
use Rattle.ca_plane.specs.declared.point.{Point.Point, Bounds.Bounds}
use Rattle.ca_plane.specs.Prelude.{Picture, cell, IsSame, IsLeastBox}
use Rattle.ca_plane.proofs.Boxes.{IsLive-box}
use Rattle.ca_plane.proofs.Pictures.{point-same}
use Rattle.ca_rle.specs.declared.item.{Item.Item, Tag.Tag}
use Rattle.ca_rle.specs.declared.item.Tag.TheVariants.{Cell, RowEnd}
use Rattle.ca_rle.specs.Prelude.{line_with_lf, picture_of_items, AreTidy, IsFull, AreLines, IsFrame, corner_line, header_line, IsTidyRle}
use Rattle.ca_rle.proofs.TidyCells.{next, drawn, picture_drawn, IsAhead, tidy_counts, tidy_tail, item_out, clear, within, after, reach}
use Rattle.ca_rle.proofs.TidyBody.{text_of, tokens}

-- ---- one frame

-- the smallest box's corner and size
record IsFramed (p : Point) (q : Point) (v w h k : ℕ) : Type 0 where
  corner : p ≡ q
  width : v ≡ w
  height : h ≡ k

same_boxes : (cells : Picture) (a b : Bounds) → IsLeastBox cells a → IsLeastBox cells b → (a.x0 ≡ b.x0) × (a.y0 ≡ b.y0) × (a.x1 ≡ b.x1) × (a.y1 ≡ b.y1)
same_boxes cells a b p q =
    let la = q.all a.x0 p.left.0 p.left.1 in
    let lb = p.all b.x0 q.left.0 q.left.1 in
    let ra = q.all a.x1 p.right.0 p.right.1 in
    let rb = p.all b.x1 q.right.0 q.right.1 in
    let ta = q.all p.top.0 a.y0 p.top.1 in
    let tb = p.all q.top.0 b.y0 q.top.1 in
    let ba = q.all p.bottom.0 a.y1 p.bottom.1 in
    let bb = p.all q.bottom.0 b.y1 q.bottom.1 in
    (omega (arith, ints, la.0, lb.0), omega (arith, ints, ta.2, tb.2), omega (arith, ints, ra.1, rb.1), omega (arith, ints, ba.3, bb.3))

one_frame : (cells : Picture) (p q : Point) (v w h k : ℕ) → IsFrame cells p v h → IsFrame cells q w k → IsFramed p q v w h k
one_frame cells p q v w h k (inl (d, at, wide, high)) (inl (e, here, broad, tall)) = record { corner = at ∙ sym here; width = wide ∙ sym broad; height = high ∙ sym tall }
one_frame cells p q v w h k (inl (d, at, wide, high)) (inr (b, least, here, broad, tall)) = absurd (d (IsLive-box cells b least))
one_frame cells p q v w h k (inr (b, least, here, broad, tall)) (inl (d, at, wide, high)) = absurd (d (IsLive-box cells b least))
one_frame cells p q v w h k (inr (a, first, at, wide, high)) (inr (b, second, here, broad, tall)) =
    let same = same_boxes cells a b first second in
    record {
      corner = at ∙ point-same _ _ same.1 same.0 ∙ sym here;
      width = omega (arith, ints, same.0, same.2);
      height = omega (arith, ints, same.1, same.3);
    }

-- ---- one list of items

-- two pictures show the same from a place onwards
abbrev AreSame : Point → Picture → Picture → Type 0
AreSame at p q = (x y : ℤ) → IsAhead at x y → cell p x y ≡ cell q x y

-- a list that shows something differs from one that shows nothing
not_none : (left : ℤ) (at : Point) (n : ℕ) (t : Tag) (is : List Item) → AreTidy (record { count = n; tag = t } ∷ is) → AreSame at [] (drawn left at (record { count = n; tag = t } ∷ is)) → ⊥
not_none left at n (Cell s) is tidy same =
    let r = reach left at n (Cell s) is tidy in
    r.3 (sym (same r.0 r.1 (inr (r.2.0, r.2.1))))
not_none left at n RowEnd is tidy same =
    let r = reach left at n RowEnd is tidy in
    let low = tidy_counts (record { count = n; tag = RowEnd }) is tidy in
    r.3 (sym (same r.0 r.1 (inl (omega (arith, ints, r.2)))))

-- two lists, of which the one begins with more cells of the state with which the other begins
not_longer : (left : ℤ) (at : Point) (n m s v : ℕ) (is js : List Item) → AreTidy (record { count = n; tag = Cell s } ∷ is) → AreTidy (record { count = m; tag = Cell v } ∷ js)
    → AreSame at (drawn left at (record { count = n; tag = Cell s } ∷ is)) (drawn left at (record { count = m; tag = Cell v } ∷ js)) → v ≡ s → n < m → ⊥
not_longer left at n m s v is js p q same e l =
    after left at n s is (at.x +ℤ pos n) at.y p refl refl
    (same (at.x +ℤ pos n) at.y (inr (refl, omega (arith, ints))) ∙ within left at (record { count = m; tag = Cell v }) js n (at.x +ℤ pos n) at.y q l refl refl ∙ e)

-- or with more row ends
not_lower : (left : ℤ) (at : Point) (n m : ℕ) (is js : List Item) → AreTidy (record { count = n; tag = RowEnd } ∷ is) → AreTidy (record { count = m; tag = RowEnd } ∷ js)
    → AreSame at (drawn left at (record { count = n; tag = RowEnd } ∷ is)) (drawn left at (record { count = m; tag = RowEnd } ∷ js)) → n < m → ⊥
not_lower left at n m is js p q same l =
    let r = reach left at n RowEnd is p in
    let low = tidy_counts (record { count = n; tag = RowEnd }) is p in
    r.3 (same r.0 r.1 (inl (omega (arith, ints, r.2))) ∙ clear left (record { y = at.y +ℤ pos m; x = left }) js r.0 r.1 (tidy_tail (record { count = m; tag = RowEnd }) js q) (inl (omega (arith, ints, r.2))))

-- the one begins with cells, and the other with row ends
not_both : (left : ℤ) (at : Point) (n m s : ℕ) (is js : List Item) → AreTidy (record { count = n; tag = Cell s } ∷ is) → AreTidy (record { count = m; tag = RowEnd } ∷ js)
    → AreSame at (drawn left at (record { count = n; tag = Cell s } ∷ is)) (drawn left at (record { count = m; tag = RowEnd } ∷ js)) → ⊥
not_both left at n m s is js p q same =
    let r = reach left at n (Cell s) is p in
    let low = tidy_counts (record { count = m; tag = RowEnd }) js q in
    r.3 (same r.0 r.1 (inr (r.2.0, r.2.1)) ∙ clear left (record { y = at.y +ℤ pos m; x = left }) js r.0 r.1 (tidy_tail (record { count = m; tag = RowEnd }) js q) (inl (omega (arith, ints, r.2.0))))

only_order : (n m : ℕ) → (n < m → ⊥) → (m < n → ⊥) → n ≡ m
only_order n m f g = grind (arith, f, g)

same_turned : (at : Point) (p q : Picture) → AreSame at p q → AreSame at q p
same_turned at p q same x y ahead = sym (same x y ahead)

-- two lists that show the same begin with one item
one_first : (left : ℤ) (at : Point) (n m : ℕ) (t u : Tag) (is js : List Item) → AreTidy (record { count = n; tag = t } ∷ is) → AreTidy (record { count = m; tag = u } ∷ js)
    → AreSame at (drawn left at (record { count = n; tag = t } ∷ is)) (drawn left at (record { count = m; tag = u } ∷ js)) → (n ≡ m) × (t ≡ u)
one_first left at n m (Cell s) (Cell v) is js p q same =
    let i : Item = record { count = n; tag = Cell s } in
    let j : Item = record { count = m; tag = Cell v } in
    let here : at.x ≡ at.x +ℤ pos 0 = omega (arith, ints) in
    let state : s ≡ v =
    sym (within left at i is 0 at.x at.y p (tidy_counts i is p) refl here)
    ∙ same at.x at.y (inr (refl, omega (arith, ints)))
    ∙ within left at j js 0 at.x at.y q (tidy_counts j js q) refl here in
    (only_order n m (not_longer left at n m s v is js p q same (sym state)) (not_longer left at m n v s js is q p (same_turned at _ _ same) state), ap Cell state)
one_first left at n m (Cell s) RowEnd is js p q same = absurd (not_both left at n m s is js p q same)
one_first left at n m RowEnd (Cell v) is js p q same = absurd (not_both left at m n v js is q p (same_turned at _ _ same))
one_first left at n m RowEnd RowEnd is js p q same = (only_order n m (not_lower left at n m is js p q same) (not_lower left at m n js is q p (same_turned at _ _ same)), refl)

ahead_next : (left : ℤ) (at : Point) (n : ℕ) (t : Tag) (x y : ℤ) → 0 < n → IsAhead (next left at (record { count = n; tag = t })) x y → IsAhead at x y
ahead_next left at n (Cell s) x y low (inl below) = inl below
ahead_next left at n (Cell s) x y low (inr here) = inr (here.0, omega (arith, ints, here.1))
ahead_next left at n RowEnd x y low (inl below) = inl (omega (arith, ints))
ahead_next left at n RowEnd x y low (inr here) = inl (omega (arith, ints, here.0))

not_in_item : (left : ℤ) (at : Point) (n : ℕ) (t : Tag) (x y : ℤ) (k : ℕ) → IsAhead (next left at (record { count = n; tag = t })) x y → k < n → y ≡ at.y → x ≡ at.x +ℤ pos k → ⊥
not_in_item left at n (Cell s) x y k (inl below) l row col = omega (arith, ints)
not_in_item left at n (Cell s) x y k (inr here) l row col = omega (arith, ints, here.1)
not_in_item left at n RowEnd x y k (inl below) l row col = omega (arith, ints)
not_in_item left at n RowEnd x y k (inr here) l row col = omega (arith, ints, here.0)

-- after the same first item they show the same
same_after : (left : ℤ) (at : Point) (i : Item) (is js : List Item) → 0 < i.count → AreSame at (drawn left at (i ∷ is)) (drawn left at (i ∷ js))
    → AreSame (next left at i) (drawn left (next left at i) is) (drawn left (next left at i) js)
same_after left at i is js low same x y ahead =
    let out = λ (q : Picture). item_out at i q x y (λ k l row col. not_in_item left at i.count i.tag x y k ahead l row col) in
    sym (out (drawn left (next left at i) is)) ∙ same x y (ahead_next left at i.count i.tag x y low ahead) ∙ out (drawn left (next left at i) js)

same_item : (i j : Item) → i.count ≡ j.count → i.tag ≡ j.tag → i ≡ j
same_item i j c t = λ k. record { count = c k; tag = t k }

-- two tidy lists that show the same are one
one_tidy_list : (left : ℤ) (at : Point) (is js : List Item) → AreTidy is → AreTidy js → AreSame at (drawn left at is) (drawn left at js) → is ≡ js
one_tidy_list left at [] [] p q same = refl
one_tidy_list left at [] (j ∷ js) p q same = absurd (not_none left at j.count j.tag js q same)
one_tidy_list left at (i ∷ is) [] p q same = absurd (not_none left at i.count i.tag is p (same_turned at (drawn left at (i ∷ is)) [] same))
one_tidy_list left at (i ∷ is) (j ∷ js) p q same =
    let first = one_first left at i.count j.count i.tag j.tag is js p q same in
    let item : i ≡ j = same_item i j first.0 first.1 in
    let with_one = subst (λ k. AreSame at (drawn left at (i ∷ is)) (drawn left at (k ∷ js))) (sym item) same in
    ap₂ (λ (k : Item) (ks : List Item). k ∷ ks) item
    (one_tidy_list left (next left at i) is js (tidy_tail i is p) (tidy_tail j js q) (same_after left at i is js (tidy_counts i is p) with_one))

-- ---- one breaking into lines

length_joined : (a b : List (List ℕ)) → length (concat (a ++ b)) ≡ length (concat a) + length (concat b)
length_joined [] b = omega arith
length_joined (t ∷ ts) b = omega (arith, length-append t (concat (ts ++ b)), length-append t (concat ts), length_joined ts b)

-- one begins a list as the other does, or goes on with this and these
abbrev GoesOn : List (List ℕ) → List (List ℕ) → List (List ℕ) → List (List ℕ) → Type 0
GoesOn a m b n = (t : List ℕ) × (ts : List (List ℕ)) × (b ≡ a ++ t ∷ ts) × (m ≡ t ∷ (ts ++ n))

goes_on : (t : List ℕ) (a m b n : List (List ℕ)) → GoesOn a m b n → GoesOn (t ∷ a) m (t ∷ b) n
goes_on t a m b n (u, us, e, f) = (u, us, ap (λ l. t ∷ l) e, f)

compare : (a b m n : List (List ℕ)) → a ++ m ≡ b ++ n → ((a ≡ b) × (m ≡ n)) ⊎ (GoesOn a m b n ⊎ GoesOn b n a m)
compare [] [] m n e = inl (refl, e)
compare [] (t ∷ ts) m n e = inr (inl (t, ts, refl, e))
compare (t ∷ ts) [] m n e = inr (inr (t, ts, refl, sym e))
compare (t ∷ ts) (u ∷ us) m n e =
    let first : u ≡ t = cc in
    let others : ts ++ m ≡ us ++ n = cc in
    elim (compare ts us m n others) [
      | inl same ↦ inl (ap₂ (λ (l : List ℕ) (ls : List (List ℕ)). l ∷ ls) (sym first) same.0, same.1)
      | inr (inl on) ↦ inr (inl (subst (λ l. GoesOn (t ∷ ts) m (l ∷ us) n) (sym first) (goes_on t ts m us n on)))
      | inr (inr on) ↦ inr (inr (subst (λ l. GoesOn (l ∷ us) n (t ∷ ts) m) (sym first) (goes_on t us n ts m on)))
    ]

-- no line that others follow is ended where one more item would have found room
not_sooner : (line : List (List ℕ)) (lines : List (List (List ℕ))) (other more : List (List ℕ)) → IsFull line lines → AreLines lines → length (concat other) ≤ 70 → GoesOn line (flat_map (λ l. l) lines) other more → ⊥
not_sooner line [] other more full are short (t, ts, e, f) = absurd cc
not_sooner line ([] ∷ ls) other more full are short (t, ts, e, f) = absurd (omega (arith, are.0))
not_sooner line ((u ∷ us) ∷ ls) other more full are short (t, ts, e, f) =
    let first : u ≡ t = cc in
    let long : length (concat other) ≡ length (concat line) + length (concat (t ∷ ts)) = ap (λ l. length (concat l)) e ∙ length_joined line (t ∷ ts) in
    let here : length u ≡ length t = ap length first in
    omega (arith, long, here, full, short, length-append t (concat ts))

one_breaking : (ls ms : List (List (List ℕ))) → AreLines ls → AreLines ms → flat_map (λ l. l) ls ≡ flat_map (λ l. l) ms → ls ≡ ms
one_breaking [] [] p q e = refl
one_breaking [] ([] ∷ ms) p q e = absurd (omega (arith, q.0))
one_breaking [] ((t ∷ ts) ∷ ms) p q e = absurd cc
one_breaking ([] ∷ ls) [] p q e = absurd (omega (arith, p.0))
one_breaking ((t ∷ ts) ∷ ls) [] p q e = absurd cc
one_breaking (l ∷ ls) (m ∷ ms) p q e =
    elim (compare l m (flat_map (λ l. l) ls) (flat_map (λ l. l) ms) e) [
      | inl same ↦ ap₂ (λ (k : List (List ℕ)) (ks : List (List (List ℕ))). k ∷ ks) same.0 (one_breaking ls ms p.3 q.3 same.1)
      | inr (inl on) ↦ absurd (not_sooner l ls m (flat_map (λ l. l) ms) p.2 p.3 q.1 on)
      | inr (inr on) ↦ absurd (not_sooner m ms l (flat_map (λ l. l) ls) q.2 q.3 p.1 on)
    ]

-- ---- one text

pub one_tidy : (t u : List ℕ) (cells : Picture) (rule_text : List ℕ) (generation states : ℕ) → IsTidyRle t cells rule_text generation states → IsTidyRle u cells rule_text generation states → t ≡ u
one_tidy t u cells rule_text generation states p q =
    let frame = one_frame cells p.corner q.corner p.width q.width p.height q.height p.frame q.frame in
    let shown : IsSame cells (picture_of_items p.corner q.items) = subst (λ at. IsSame cells (picture_of_items at q.items)) (sym frame.corner) q.shown in
    let same : AreSame p.corner (drawn p.corner.x p.corner p.items) (drawn p.corner.x p.corner q.items) = λ x y ahead.
    ap (λ c. cell c x y) (sym (picture_drawn p.corner p.items)) ∙ sym (p.shown x y) ∙ shown x y ∙ ap (λ c. cell c x y) (picture_drawn p.corner q.items) in
    let items : p.items ≡ q.items = one_tidy_list p.corner.x p.corner p.items q.items p.tidy q.tidy same in
    let lines : p.lines ≡ q.lines = one_breaking p.lines q.lines p.lines_are q.lines_are (p.whole ∙ ap (tokens states) items ∙ sym q.whole) in
    let first : line_with_lf (corner_line p.corner generation) ≡ line_with_lf (corner_line q.corner generation) = ap (λ at. line_with_lf (corner_line at generation)) frame.corner in
    let second : line_with_lf (header_line p.width p.height rule_text) ≡ line_with_lf (header_line q.width q.height rule_text) = ap₂ (λ w h. line_with_lf (header_line w h rule_text)) frame.width frame.height in
    p.spelled ∙ ap₂ (λ a b. a ++ b) first (ap₂ (λ a b. a ++ b) second (ap text_of lines)) ∙ sym q.spelled
