-- The line of a leaf: its first bad byte, and its rows one after another.
use Rattle.std.proofs.Common.{◌≡◌, ◌≢◌, ℕ, zero, suc, ◌-◌, ◌⊎◌, inl, inr, Bool, true, false, not, ◌==◌, nat_le, List, [], ◌∷◌, ◌++◌, length, Option, Some, None, refl, sym, ap, subst, ◌∙◌, arith, if◌then◌else◌}
use Rattle.std.proofs.lemmas.Bool.{cases_Bool, true≢false}
use Rattle.std.proofs.lemmas.Bool.Decides.{nat_tests}
use Rattle.std.proofs.lemmas.List.{nil_from_length}
use Rattle.std.proofs.lemmas.Option.{same_Some}
use Rattle.ca_plane.specs.Prelude.{is_end_or, with_front, front, rest}
use Rattle.ca_macro.specs.declared.fault.MacroFault.{MacroFault}
use Rattle.ca_macro.specs.declared.fault.MacroFault.TheVariants.{Syntax, LeafSize}
use Rattle.ca_macro.specs.Prelude.{leaf_rows, IsLeaf, is_leaf_byte, HasBadByte}
use Rattle.ca_macro.specs.inner.Leaves.{is_mark, has_room, leaf_fault, IsLeafFault, leaf_cells, IsRowSplit}
use Rattle.ca_macro.proofs.Leaves.{leaf_found, leaf_passes, no_leaf}

-- ---- one byte more

suc_test : (n : ℕ) → (suc n == 0) ≡ false
suc_test n = grind (arith, nat_tests)

one_before : (n : ℕ) → suc n - 1 ≡ n
one_before n = omega arith

at_row : (h w b : ℕ) (bs : List ℕ) → (b == 36) ≡ true → leaf_fault (suc h) w (b ∷ bs) ≡ leaf_fault h 8 bs
at_row h w b bs e = rw (suc_test h) (rw e (ap (λ k. leaf_fault k 8 bs) (one_before h)))

at_full : (h b : ℕ) (bs : List ℕ) → (b == 36) ≡ false → is_mark b ≡ true → leaf_fault (suc h) zero (b ∷ bs) ≡ Some LeafSize
at_full h b bs e m = rw (suc_test h) (rw e (rw m refl))

at_cell : (h w b : ℕ) (bs : List ℕ) → (b == 36) ≡ false → is_mark b ≡ true → leaf_fault (suc h) (suc w) (b ∷ bs) ≡ leaf_fault (suc h) w bs
at_cell h w b bs e m = rw (suc_test h) (rw e (rw m (rw (suc_test w) (ap (λ k. leaf_fault (suc h) k bs) (one_before w)))))

at_other : (h w b : ℕ) (bs : List ℕ) → (b == 36) ≡ false → is_mark b ≡ false → leaf_fault (suc h) w (b ∷ bs) ≡ Some Syntax
at_other h w b bs e m = rw (suc_test h) (rw e (rw m refl))

row_ends : (b : ℕ) (bs : List ℕ) → (b == 36) ≡ true → leaf_rows (b ∷ bs) ≡ [] ∷ leaf_rows bs
row_ends b bs e = rw e refl

row_grows : (b : ℕ) (bs : List ℕ) → (b == 36) ≡ false → leaf_rows (b ∷ bs) ≡ with_front b (leaf_rows bs)
row_grows b bs e = rw e refl

-- ---- room for one byte more

no_width : (n : ℕ) → nat_le 0 n ≡ true
no_width n = grind (arith, nat_tests)

one_less : (m n : ℕ) → nat_le (suc m) (suc n) ≡ nat_le m n
one_less m n = grind (arith, nat_tests)

one_is_more : (m : ℕ) → nat_le (suc m) 0 ≡ false
one_is_more m = grind (arith, nat_tests)

room_after_row : (h w : ℕ) (rs : List (List ℕ)) → has_room (suc h) w ([] ∷ rs) ≡ has_room h 8 rs
room_after_row h w rs = rw (no_width w) refl

room_after_cell : (h w b : ℕ) (rs : List (List ℕ)) → is_mark b ≡ true → has_room (suc h) (suc w) (with_front b rs) ≡ has_room (suc h) w rs
room_after_cell h w b [] m = rw m (rw (one_less 0 w) (rw (no_width w) refl))
room_after_cell h w b (r ∷ rs) m = rw m (rw (one_less (length r) w) refl)

no_room_without_rows : (w b : ℕ) (rs : List (List ℕ)) → has_room zero w (with_front b rs) ≡ false
no_room_without_rows w b [] = refl
no_room_without_rows w b (r ∷ rs) = refl

no_room_in_row : (h b : ℕ) (rs : List (List ℕ)) → has_room (suc h) 0 (with_front b rs) ≡ false
no_room_in_row h b [] = grind (arith, nat_tests, one_is_more 0)
no_room_in_row h b (r ∷ rs) = grind (arith, nat_tests, one_is_more (length r))

no_room_for_other : (h w b : ℕ) (rs : List (List ℕ)) → is_mark b ≡ false → has_room (suc h) w (with_front b rs) ≡ false
no_room_for_other h w b [] m = rw m refl
no_room_for_other h w b (r ∷ rs) m = rw m refl

-- ---- bytes without a fault have room

no_fault_at_end : (t : Bool) (f g : MacroFault) → (if t then Some f else Some g) ≡ None → ⊥
no_fault_at_end true f g e = absurd cc
no_fault_at_end false f g e = absurd cc

-- rows for which there is room where these are left
abbrev HaveRoom : List ℕ → Type 0
HaveRoom bs = (h w : ℕ) → leaf_fault h w bs ≡ None → has_room h w (leaf_rows bs) ≡ true

cell_none : (b : ℕ) (bs : List ℕ) (h w : ℕ) → HaveRoom bs → (b == 36) ≡ false → is_mark b ≡ true → leaf_fault (suc h) w (b ∷ bs) ≡ None → has_room (suc h) w (leaf_rows (b ∷ bs)) ≡ true
cell_none b bs h zero later f m e = absurd (let z = sym (at_full h b bs f m) ∙ e in cc)
cell_none b bs h (suc w) later f m e =
    ap (has_room (suc h) (suc w)) (row_grows b bs f) ∙ room_after_cell h w b (leaf_rows bs) m ∙ later (suc h) w (sym (at_cell h w b bs f m) ∙ e)

pub fault_none : (bytes : List ℕ) (h w : ℕ) → leaf_fault h w bytes ≡ None → has_room h w (leaf_rows bytes) ≡ true
fault_none [] h w e = refl
fault_none (b ∷ bs) zero w e = absurd (no_fault_at_end (is_leaf_byte b) LeafSize Syntax e)
fault_none (b ∷ bs) (suc h) w e =
    elim (cases_Bool (b == 36)) [
      | inl t ↦ ap (has_room (suc h) w) (row_ends b bs t) ∙ room_after_row h w (leaf_rows bs) ∙ fault_none bs h 8 (sym (at_row h w b bs t) ∙ e)
      | inr f ↦ elim (cases_Bool (is_mark b)) [
        | inl m ↦ cell_none b bs h w (fault_none bs) f m e
        | inr o ↦ absurd (let z = sym (at_other h w b bs f o) ∙ e in cc)
      ]
    ]

-- ---- the first bad byte

-- the fault of a bad byte
abbrev Tells : MacroFault → ℕ → Type 0
Tells f b = ((f ≡ LeafSize) × (is_leaf_byte b ≡ true)) ⊎ ((f ≡ Syntax) × (is_leaf_byte b ≡ false))

-- bytes for which there is room are followed by one for which there isn't
record BadAt (bytes : List ℕ) (h w : ℕ) (f : MacroFault) : Type 0 where
  good : List ℕ
  byte : ℕ
  more : List ℕ
  spelled : bytes ≡ good ++ byte ∷ more
  room : has_room h w (leaf_rows good) ≡ true
  full : has_room h w (leaf_rows (good ++ byte ∷ [])) ≡ false
  tells : Tells f byte

here : (b : ℕ) (bs : List ℕ) (h w : ℕ) (f : MacroFault) → has_room h w (leaf_rows (b ∷ [])) ≡ false → Tells f b → BadAt (b ∷ bs) h w f
here b bs h w f full tells = record { good = []; byte = b; more = bs; spelled = refl; room = refl; full = full; tells = tells }

after : (b : ℕ) (bs : List ℕ) (h w i v : ℕ) (f : MacroFault) → ((xs : List ℕ) → has_room h w (leaf_rows (b ∷ xs)) ≡ has_room i v (leaf_rows xs)) → BadAt bs i v f → BadAt (b ∷ bs) h w f
after b bs h w i v f same bad = record {
  good = b ∷ bad.good;
  byte = bad.byte;
  more = bad.more;
  spelled = ap (λ xs. b ∷ xs) bad.spelled;
  room = same bad.good ∙ bad.room;
  full = same (bad.good ++ bad.byte ∷ []) ∙ bad.full;
  tells = bad.tells;
}

full_without_rows : (w b : ℕ) → has_room zero w (leaf_rows (b ∷ [])) ≡ false
full_without_rows w b =
    elim (cases_Bool (b == 36)) [
      | inl t ↦ ap (has_room zero w) (row_ends b [] t)
      | inr f ↦ ap (has_room zero w) (row_grows b [] f) ∙ no_room_without_rows w b []
    ]

mark_is_leaf_byte : (b : ℕ) → is_mark b ≡ true → is_leaf_byte b ≡ true
mark_is_leaf_byte b m = grind (arith, nat_tests)

other_is_none : (b : ℕ) → (b == 36) ≡ false → is_mark b ≡ false → is_leaf_byte b ≡ false
other_is_none b f m = grind (arith, nat_tests)

end_tells : (b : ℕ) (f : MacroFault) (t : Bool) → is_leaf_byte b ≡ t → (if t then Some LeafSize else Some Syntax) ≡ Some f → Tells f b
end_tells b f true t e = inl (sym (same_Some LeafSize f e), t)
end_tells b f false t e = inr (sym (same_Some Syntax f e), t)

-- where the bytes of a leaf go bad
abbrev GoBad : List ℕ → Type 0
GoBad bs = (h w : ℕ) (f : MacroFault) → leaf_fault h w bs ≡ Some f → BadAt bs h w f

cell_some : (b : ℕ) (bs : List ℕ) (h w : ℕ) (f : MacroFault) → GoBad bs → (b == 36) ≡ false → is_mark b ≡ true → leaf_fault (suc h) w (b ∷ bs) ≡ Some f → BadAt (b ∷ bs) (suc h) w f
cell_some b bs h zero f later n m e =
    here b bs (suc h) zero f (ap (has_room (suc h) zero) (row_grows b [] n) ∙ no_room_in_row h b [])
    (inl (sym (same_Some LeafSize f (sym (at_full h b bs n m) ∙ e)), mark_is_leaf_byte b m))
cell_some b bs h (suc w) f later n m e =
    after b bs (suc h) (suc w) (suc h) w f (λ xs. ap (has_room (suc h) (suc w)) (row_grows b xs n) ∙ room_after_cell h w b (leaf_rows xs) m)
    (later (suc h) w f (sym (at_cell h w b bs n m) ∙ e))

fault_some : (bytes : List ℕ) (h w : ℕ) (f : MacroFault) → leaf_fault h w bytes ≡ Some f → BadAt bytes h w f
fault_some [] h w f e = absurd cc
fault_some (b ∷ bs) zero w f e = here b bs zero w f (full_without_rows w b) (end_tells b f (is_leaf_byte b) refl e)
fault_some (b ∷ bs) (suc h) w f e =
    elim (cases_Bool (b == 36)) [
      | inl t ↦ after b bs (suc h) w h 8 f (λ xs. ap (has_room (suc h) w) (row_ends b xs t) ∙ room_after_row h w (leaf_rows xs)) (fault_some bs h 8 f (sym (at_row h w b bs t) ∙ e))
      | inr n ↦ elim (cases_Bool (is_mark b)) [
        | inl m ↦ cell_some b bs h w f (fault_some bs) n m e
        | inr o ↦
            here b bs (suc h) w f (ap (has_room (suc h) w) (row_grows b [] n) ∙ no_room_for_other h w b [] o)
            (inr (sym (same_Some Syntax f (sym (at_other h w b bs n o) ∙ e)), other_is_none b n o))
      ]
    ]

mark_or_row : (b : ℕ) → is_leaf_byte b ≡ true → (b == 36) ≡ false → is_mark b ≡ true
mark_or_row b t n = grind (arith, nat_tests)

-- one byte of a leaf is a leaf
first_room : (b : ℕ) → is_leaf_byte b ≡ true → has_room 8 8 (leaf_rows (b ∷ [])) ≡ true
first_room b t =
    elim (cases_Bool (b == 36)) [
      | inl r ↦ ap (has_room 8 8) (row_ends b [] r)
      | inr n ↦ ap (has_room 8 8) (row_grows b [] n) ∙ room_after_cell 7 7 b [] (mark_or_row b t n)
    ]

-- good bytes stand before the bad one
some_good : (bytes good : List ℕ) (byte : ℕ) (more : List ℕ) → is_end_or is_leaf_byte bytes ≡ true → bytes ≡ good ++ byte ∷ more → has_room 8 8 (leaf_rows (good ++ byte ∷ [])) ≡ false → good ≢ []
some_good bytes [] byte more begins e full z =
    true≢false (sym (first_room byte (sym (ap (is_end_or is_leaf_byte) e) ∙ begins)) ∙ full)
some_good bytes (g ∷ gs) byte more begins e full z = absurd cc

bad_found : (bytes : List ℕ) (test : ℕ → Bool) (f : MacroFault) (bad : BadAt bytes 8 8 f) → is_end_or is_leaf_byte bytes ≡ true → test bad.byte ≡ true → HasBadByte bytes test
bad_found bytes test f bad begins passes = record {
  good = bad.good;
  rows = leaf_cells bad.good;
  byte = bad.byte;
  more = bad.more;
  some = some_good bytes bad.good bad.byte bad.more begins bad.spelled bad.full;
  leaf = leaf_found bad.good bad.room;
  spelled = bad.spelled;
  ends_leaf = λ longer. no_leaf (bad.good ++ bad.byte ∷ []) longer bad.full;
  passes = passes;
}

-- bytes that begin as a leaf and have a fault are no leaf from their first bad byte onwards
pub fault_found : (bytes : List ℕ) (f : MacroFault) → is_end_or is_leaf_byte bytes ≡ true → leaf_fault 8 8 bytes ≡ Some f → IsLeafFault bytes f
fault_found bytes f begins e = told (fault_some bytes 8 8 f e)
  where
    told : BadAt bytes 8 8 f → IsLeafFault bytes f
    told bad = elim bad.tells [
      | inl s ↦ subst (IsLeafFault bytes) (sym s.0) (bad_found bytes is_leaf_byte f bad begins s.1)
      | inr s ↦ subst (IsLeafFault bytes) (sym s.0) (bad_found bytes (λ b. not (is_leaf_byte b)) f bad begins (ap not s.1))
    ]

-- ---- row by row

-- a byte that ends no row
abbrev goes_on : ℕ → Bool
goes_on b = not (b == 36)

pub split_some : (bytes : List ℕ) (b : ℕ) (later : List ℕ) → rest goes_on bytes ≡ b ∷ later → leaf_rows bytes ≡ front goes_on bytes ∷ leaf_rows later
split_some [] b later e = absurd cc
split_some (c ∷ bs) b later e =
    elim (cases_Bool (c == 36)) [
      | inl t ↦ row_ends c bs t ∙ rw t (let same : c ∷ bs ≡ b ∷ later = rw t at e in ap (λ xs. [] ∷ leaf_rows xs) (same_tail same))
      | inr n ↦ row_grows c bs n ∙ rw n (ap (with_front c) (split_some bs b later (rw n at e)))
    ]
  where
    same_tail : {x y : ℕ} {xs ys : List ℕ} → x ∷ xs ≡ y ∷ ys → xs ≡ ys
    same_tail same = cc

pub split_none : (bytes : List ℕ) → rest goes_on bytes ≡ [] → (bytes ≡ []) ⊎ (leaf_rows bytes ≡ front goes_on bytes ∷ [])
split_none [] e = inl refl
split_none (c ∷ bs) e =
    elim (cases_Bool (c == 36)) [
      | inl t ↦ absurd (let none : c ∷ bs ≡ [] = rw t at e in cc)
      | inr n ↦ inr (row_grows c bs n ∙ rw n (elim (split_none bs (rw n at e)) [
        | inl z ↦ rw z refl
        | inr s ↦ ap (with_front c) s
      ]))
    ]

-- the same of a split that is given
pub split_found : (bytes row left later : List ℕ) (b : ℕ) → row ≡ front goes_on bytes → left ≡ rest goes_on bytes → left ≡ b ∷ later → IsRowSplit bytes row later
split_found bytes row left later b r l e = inl (rw r (split_some bytes b later (sym l ∙ e)))

pub split_end : (bytes row left : List ℕ) → row ≡ front goes_on bytes → left ≡ rest goes_on bytes → length left ≡ 0 → IsRowSplit bytes row left
split_end bytes row left r l e =
    let none = nil_from_length left e in
    elim (split_none bytes (sym l ∙ none)) [
      | inl z ↦ inr (z, r ∙ rw z refl, none)
      | inr s ↦ inl (s ∙ rw (r, none) refl)
    ]

-- ---- what is reported of bytes that are a leaf, or go bad

-- bytes for which there is room have no fault
abbrev HaveNone : List ℕ → Type 0
HaveNone bs = (h w : ℕ) → has_room h w (leaf_rows bs) ≡ true → leaf_fault h w bs ≡ None

no_room_none : (h w b : ℕ) (rs : List (List ℕ)) → has_room zero w (with_front b rs) ≡ true → ⊥
no_room_none h w b rs e = true≢false (sym e ∙ no_room_without_rows w b rs)

cell_room : (b : ℕ) (bs : List ℕ) (h w : ℕ) → HaveNone bs → (b == 36) ≡ false → is_mark b ≡ true → has_room (suc h) w (leaf_rows (b ∷ bs)) ≡ true → leaf_fault (suc h) w (b ∷ bs) ≡ None
cell_room b bs h zero later n m e = absurd (true≢false (sym e ∙ (ap (has_room (suc h) zero) (row_grows b bs n) ∙ no_room_in_row h b (leaf_rows bs))))
cell_room b bs h (suc w) later n m e =
    at_cell h w b bs n m ∙ later (suc h) w (sym (ap (has_room (suc h) (suc w)) (row_grows b bs n) ∙ room_after_cell h w b (leaf_rows bs) m) ∙ e)

room_none : (bytes : List ℕ) → HaveNone bytes
room_none [] h w e = refl
room_none (b ∷ bs) zero w e =
    elim (cases_Bool (b == 36)) [
      | inl t ↦ absurd (true≢false (sym e ∙ ap (has_room zero w) (row_ends b bs t)))
      | inr n ↦ absurd (no_room_none zero w b (leaf_rows bs) (sym (ap (has_room zero w) (row_grows b bs n)) ∙ e))
    ]
room_none (b ∷ bs) (suc h) w e =
    elim (cases_Bool (b == 36)) [
      | inl t ↦ at_row h w b bs t ∙ room_none bs h 8 (sym (ap (has_room (suc h) w) (row_ends b bs t) ∙ room_after_row h w (leaf_rows bs)) ∙ e)
      | inr n ↦ elim (cases_Bool (is_mark b)) [
        | inl m ↦ cell_room b bs h w (room_none bs) n m e
        | inr o ↦ absurd (true≢false (sym e ∙ (ap (has_room (suc h) w) (row_grows b bs n) ∙ no_room_for_other h w b (leaf_rows bs) o)))
      ]
    ]

-- a leaf has no fault
pub leaf_none : (bytes : List ℕ) (rows : List (List Bool)) → IsLeaf bytes rows → leaf_fault 8 8 bytes ≡ None
leaf_none bytes rows leaf = room_none bytes 8 8 (leaf_passes bytes rows leaf)

-- the fault of a byte with which bytes are no leaf
abbrev pub byte_fault : ℕ → Option MacroFault
byte_fault b = if is_leaf_byte b then Some LeafSize else Some Syntax

-- the fault of bytes is that of the first bad one
abbrev HaveBad : List ℕ → Type 0
HaveBad good = (h w byte : ℕ) (more : List ℕ) → has_room h w (leaf_rows good) ≡ true → has_room h w (leaf_rows (good ++ byte ∷ [])) ≡ false → leaf_fault h w (good ++ byte ∷ more) ≡ byte_fault byte

bad_cell : (h w b : ℕ) (more : List ℕ) → (b == 36) ≡ false → is_mark b ≡ true → has_room (suc h) w (leaf_rows (b ∷ [])) ≡ false → leaf_fault (suc h) w (b ∷ more) ≡ byte_fault b
bad_cell h zero b more n m full = at_full h b more n m ∙ rw (mark_is_leaf_byte b m) refl
bad_cell h (suc w) b more n m full = absurd (true≢false (sym (ap (has_room (suc h) (suc w)) (row_grows b [] n) ∙ room_after_cell h w b [] m) ∙ full))

bad_first : (h w byte : ℕ) (more : List ℕ) → has_room h w (leaf_rows (byte ∷ [])) ≡ false → leaf_fault h w (byte ∷ more) ≡ byte_fault byte
bad_first zero w byte more full = refl
bad_first (suc h) w byte more full =
    elim (cases_Bool (byte == 36)) [
      | inl t ↦ absurd (true≢false (sym (ap (has_room (suc h) w) (row_ends byte [] t) ∙ room_after_row h w []) ∙ full))
      | inr n ↦ elim (cases_Bool (is_mark byte)) [
        | inl m ↦ bad_cell h w byte more n m full
        | inr o ↦ at_other h w byte more n o ∙ rw (other_is_none byte n o) refl
      ]
    ]

bad_after_cell : (g : ℕ) (gs : List ℕ) (h w byte : ℕ) (more : List ℕ) → HaveBad gs → (g == 36) ≡ false → is_mark g ≡ true
    → has_room (suc h) w (leaf_rows (g ∷ gs)) ≡ true → has_room (suc h) w (leaf_rows (g ∷ (gs ++ byte ∷ []))) ≡ false → leaf_fault (suc h) w (g ∷ (gs ++ byte ∷ more)) ≡ byte_fault byte
bad_after_cell g gs h zero byte more later n m room full = absurd (true≢false (sym room ∙ (ap (has_room (suc h) zero) (row_grows g gs n) ∙ no_room_in_row h g (leaf_rows gs))))
bad_after_cell g gs h (suc w) byte more later n m room full =
    let same : (xs : List ℕ) → has_room (suc h) (suc w) (leaf_rows (g ∷ xs)) ≡ has_room (suc h) w (leaf_rows xs) = λ xs. ap (has_room (suc h) (suc w)) (row_grows g xs n) ∙ room_after_cell h w g (leaf_rows xs) m in
    at_cell h w g (gs ++ byte ∷ more) n m ∙ later (suc h) w byte more (sym (same gs) ∙ room) (sym (same (gs ++ byte ∷ [])) ∙ full)

bad_after : (good : List ℕ) → HaveBad good
bad_after [] h w byte more room full = bad_first h w byte more full
bad_after (g ∷ gs) zero w byte more room full =
    elim (cases_Bool (g == 36)) [
      | inl t ↦ absurd (true≢false (sym room ∙ ap (has_room zero w) (row_ends g gs t)))
      | inr n ↦ absurd (no_room_none zero w g (leaf_rows gs) (sym (ap (has_room zero w) (row_grows g gs n)) ∙ room))
    ]
bad_after (g ∷ gs) (suc h) w byte more room full =
    elim (cases_Bool (g == 36)) [
      | inl t ↦
          let same : (xs : List ℕ) → has_room (suc h) w (leaf_rows (g ∷ xs)) ≡ has_room h 8 (leaf_rows xs) = λ xs. ap (has_room (suc h) w) (row_ends g xs t) ∙ room_after_row h w (leaf_rows xs) in
          at_row h w g (gs ++ byte ∷ more) t ∙ bad_after gs h 8 byte more (sym (same gs) ∙ room) (sym (same (gs ++ byte ∷ [])) ∙ full)
      | inr n ↦ elim (cases_Bool (is_mark g)) [
        | inl m ↦ bad_after_cell g gs h w byte more (bad_after gs) n m room full
        | inr o ↦ absurd (true≢false (sym room ∙ (ap (has_room (suc h) w) (row_grows g gs n) ∙ no_room_for_other h w g (leaf_rows gs) o)))
      ]
    ]

-- bytes with a bad one have its fault
pub bad_fault : (bytes : List ℕ) (test : ℕ → Bool) (bad : HasBadByte bytes test) → leaf_fault 8 8 bytes ≡ byte_fault bad.byte
bad_fault bytes test bad =
    ap (leaf_fault 8 8) bad.spelled
    ∙ bad_after bad.good 8 8 bad.byte bad.more (leaf_passes bad.good bad.rows bad.leaf) (full (has_room 8 8 (leaf_rows (bad.good ++ bad.byte ∷ []))) refl)
  where
    full : (t : Bool) → has_room 8 8 (leaf_rows (bad.good ++ bad.byte ∷ [])) ≡ t → has_room 8 8 (leaf_rows (bad.good ++ bad.byte ∷ [])) ≡ false
    full true e = absurd (bad.ends_leaf (leaf_cells (bad.good ++ bad.byte ∷ [])) (leaf_found (bad.good ++ bad.byte ∷ []) e))
    full false e = e

-- a leaf begins with a byte of leaves
pub leaf_begins : (b : ℕ) (bs : List ℕ) → leaf_fault 8 8 (b ∷ bs) ≡ None → is_leaf_byte b ≡ true
leaf_begins b bs e =
    elim (cases_Bool (b == 36)) [
      | inl t ↦ grind (arith, nat_tests)
      | inr n ↦ elim (cases_Bool (is_mark b)) [
        | inl m ↦ mark_is_leaf_byte b m
        | inr o ↦ absurd (let z = sym (at_other 7 8 b bs n o) ∙ e in cc)
      ]
    ]
