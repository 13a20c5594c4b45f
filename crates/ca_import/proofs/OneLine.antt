-- A line says one thing at most in each format.
use Rattle.std.proofs.Common.{◌≡◌, ℕ, ℤ, List, [], ◌∷◌, true, false, ◌==◌, inl, inr, nat_eq, codes, refl, sym, subst, ◌∙◌, arith}
use Rattle.std.specs.List.{starts_with}
use Rattle.std.proofs.lemmas.Bool.{true≢false, cases_Bool}
use Rattle.std.proofs.lemmas.Bool.Decides.{nat_tests}
use Rattle.ca_plane.specs.declared.point.Point.{Point}
use Rattle.ca_plane.specs.Prelude.{AreDigits, IsInteger, words_of}
use Rattle.ca_plane.proofs.Integers.{one_integer}
use Rattle.ca_plane.proofs.Pictures.{point-same}
use Rattle.ca_rule.specs.declared.bs_rule.BsRule.{BsRule}
use Rattle.ca_rule.specs.Prelude.{Bs, IsSameRule, NamesBsRule}
use Rattle.ca_rule.proofs.Meaning.{names-once}
use Rattle.ca_import.specs.declared.format.LineFormat.{LineFormat}
use Rattle.ca_import.specs.declared.format.LineFormat.TheVariants.{Life106, Life105, Plaintext}
use Rattle.ca_import.specs.Prelude.{CellLine, Nothing, LiveCell, Row, Corner, Rule, is_letter_cell, IsRow, is_remark, Life106WordsSay, is_description, NameRuleText, corner_numbers, Life105Says}
use Rattle.ca_import.specs.Prelude.{PlaintextSays, LineSays}
use Rattle.ca_import.proofs.Life105Lines.{row_word, p_not_n, p_not_r, n_not_r}

-- two lines say the same, and the same rule
abbrev pub AreAlike : CellLine → CellLine → Type 0
AreAlike Nothing Nothing = Unit {0}
AreAlike (LiveCell at) (LiveCell other) = at ≡ other
AreAlike (Row cells) (Row others) = cells ≡ others
AreAlike (Corner at) (Corner other) = at ≡ other
AreAlike (Rule rule) (Rule other) = IsSameRule (Bs rule) (Bs other)
AreAlike said other = ⊥

-- ---- Life 1.06

mark_first : (b : ℕ) (bs : List ℕ) → starts_with nat_eq (b ∷ bs) (codes "#") ≡ true → b ≡ 35
mark_first b bs e = elim (cases_Bool (35 == b)) [
  | inl t ↦ grind (arith, nat_tests)
  | inr f ↦ absurd (let none : starts_with nat_eq (b ∷ bs) (codes "#") ≡ false = rw f refl in true≢false (sym e ∙ none))
]

digit_not_mark : (b : ℕ) (bs : List ℕ) → AreDigits (b ∷ bs) → b ≡ 35 → ⊥
digit_not_mark b bs h e = let first : AreDigits (35 ∷ bs) = subst (λ n. AreDigits (n ∷ bs)) e h in true≢false (sym first)

-- an integer doesn't begin with `#`
integer_not_mark : (word : List ℕ) (n : ℤ) → IsInteger word n → starts_with nat_eq word (codes "#") ≡ true → ⊥
integer_not_mark [] n h e = true≢false (sym e)
integer_not_mark (b ∷ bs) n (inl h) e = digit_not_mark b bs h.0 (mark_first b bs e)
integer_not_mark (b ∷ bs) n (inr h) e = let is = h.1 in let minus : b ≡ 45 = cc in let mark = mark_first b bs e in omega (arith, minus, mark)

one_point : (words : List (List ℕ)) (x y u v : List ℕ) (at other : Point) → words ≡ x ∷ y ∷ [] → words ≡ u ∷ v ∷ [] → IsInteger x at.x → IsInteger y at.y → IsInteger u other.x → IsInteger v other.y → at ≡ other
one_point words x y u v at other e f x_is y_is u_is v_is =
    let first : u ≡ x = cc in
    let second : v ≡ y = cc in
    point-same at other (one_integer y at.y other.y y_is (subst (λ w. IsInteger w other.y) second v_is)) (one_integer x at.x other.x x_is (subst (λ w. IsInteger w other.x) first u_is))

remark_or_cell : (words : List (List ℕ)) (at : Point) → Life106WordsSay words Nothing → Life106WordsSay words (LiveCell at) → ⊥
remark_or_cell words at h (x, y, e, x_is, y_is) = integer_not_mark x at.x x_is (subst (λ l. is_remark l ≡ true) e h)

life106_alike : (words : List (List ℕ)) (s t : CellLine) → Life106WordsSay words s → Life106WordsSay words t → AreAlike s t
life106_alike words Nothing Nothing h k = tt
life106_alike words Nothing (LiveCell at) h k = remark_or_cell words at h k
life106_alike words Nothing (Row cells) h k = k
life106_alike words Nothing (Corner at) h k = k
life106_alike words Nothing (Rule rule) h k = k
life106_alike words (LiveCell at) Nothing h k = remark_or_cell words at k h
life106_alike words (LiveCell at) (LiveCell other) (x, y, e, x_is, y_is) (u, v, f, u_is, v_is) = one_point words x y u v at other e f x_is y_is u_is v_is
life106_alike words (LiveCell at) (Row cells) h k = k
life106_alike words (LiveCell at) (Corner other) h k = k
life106_alike words (LiveCell at) (Rule rule) h k = k
life106_alike words (Row cells) t h k = absurd h
life106_alike words (Corner at) t h k = absurd h
life106_alike words (Rule rule) t h k = absurd h

-- ---- Plaintext

bang_first : (b : ℕ) (bs : List ℕ) → starts_with nat_eq (b ∷ bs) (codes "!") ≡ true → b ≡ 33
bang_first b bs e = elim (cases_Bool (33 == b)) [
  | inl t ↦ grind (arith, nat_tests)
  | inr f ↦ absurd (let none : starts_with nat_eq (b ∷ bs) (codes "!") ≡ false = rw f refl in true≢false (sym e ∙ none))
]

comment_or_row : (line cells : List ℕ) → PlaintextSays line Nothing → PlaintextSays line (Row cells) → ⊥
comment_or_row [] cells h k = true≢false (sym h)
comment_or_row (b ∷ bs) cells h k =
    let row : IsRow is_letter_cell (33 ∷ bs) cells = subst (λ n. IsRow is_letter_cell (n ∷ bs) cells) (bang_first b bs h) k in
    true≢false (sym row.blanks)

plaintext_alike : (line : List ℕ) (s t : CellLine) → PlaintextSays line s → PlaintextSays line t → AreAlike s t
plaintext_alike line Nothing Nothing h k = tt
plaintext_alike line Nothing (Row cells) h k = comment_or_row line cells h k
plaintext_alike line Nothing (LiveCell at) h k = k
plaintext_alike line Nothing (Corner at) h k = k
plaintext_alike line Nothing (Rule rule) h k = k
plaintext_alike line (Row cells) Nothing h k = comment_or_row line cells k h
plaintext_alike line (Row cells) (Row others) h k = h.cells_are ∙ sym k.cells_are
plaintext_alike line (Row cells) (LiveCell at) h k = k
plaintext_alike line (Row cells) (Corner at) h k = k
plaintext_alike line (Row cells) (Rule rule) h k = k
plaintext_alike line (LiveCell at) t h k = absurd h
plaintext_alike line (Corner at) t h k = absurd h
plaintext_alike line (Rule rule) t h k = absurd h

-- ---- Life 1.05

module _ (line : List ℕ) where
  -- a row's first word begins with no `#`
  row_or_mark : (cells mark : List ℕ) (more : List (List ℕ)) → Life105Says line (Row cells) → words_of line ≡ mark ∷ more → starts_with nat_eq mark (codes "#") ≡ true → ⊥
  row_or_mark cells mark more h e begins =
      let (w, ws, is, plain) = row_word line cells h.0 h.1 in
      let same : mark ≡ w = cc in
      true≢false (sym begins ∙ subst (λ v. starts_with nat_eq v (codes "#") ≡ false) (sym same) plain)

  description_or_row : (cells : List ℕ) → Life105Says line Nothing → Life105Says line (Row cells) → ⊥
  description_or_row cells h k =
      let (w, ws, is, plain) = row_word line cells k.0 k.1 in
      let all : is_description (w ∷ ws) ≡ true = subst (λ l. is_description l ≡ true) is h in
      let none : is_description (w ∷ ws) ≡ false = rw plain refl in
      true≢false (sym all ∙ none)

  description_or_corner : (at : Point) → Life105Says line Nothing → Life105Says line (Corner at) → ⊥
  description_or_corner at h k = true≢false (sym (subst (λ l. is_description l ≡ true) k.3 h))

  description_or_rule : (rule : BsRule) → Life105Says line Nothing → Life105Says line (Rule rule) → ⊥
  description_or_rule rule h k = elim k.1 [
    | inl n ↦ true≢false (sym (subst (λ l. is_description l ≡ true) n.1 h))
    | inr e ↦ true≢false (sym (subst (λ l. is_description l ≡ true) e h))
  ]

  row_or_corner : (cells : List ℕ) (at : Point) → Life105Says line (Row cells) → Life105Says line (Corner at) → ⊥
  row_or_corner cells at h k = row_or_mark cells (codes "#P") k.0 h k.3 refl

  row_or_rule : (cells : List ℕ) (rule : BsRule) → Life105Says line (Row cells) → Life105Says line (Rule rule) → ⊥
  row_or_rule cells rule h k = elim k.1 [
    | inl n ↦ row_or_mark cells (codes "#N") n.0 h n.1 refl
    | inr e ↦ row_or_mark cells (codes "#R") (k.0 ∷ []) h e refl
  ]

  corner_or_rule : (at : Point) (rule : BsRule) → Life105Says line (Corner at) → Life105Says line (Rule rule) → ⊥
  corner_or_rule at rule h k =
      let e = h.3 in
      elim k.1 [
        | inl n ↦ let f = n.1 in let same : codes "#P" ≡ codes "#N" = cc in p_not_n same
        | inr f ↦ let same : codes "#P" ≡ codes "#R" = cc in p_not_r same
      ]

  one_text : (words : List (List ℕ)) (a b : List ℕ) → NameRuleText words a → NameRuleText words b → a ≡ b
  one_text words a b (inl (more, e, f)) (inl (others, k, l)) = f ∙ sym l
  one_text words a b (inl (more, e, f)) (inr k) = let same : codes "#N" ≡ codes "#R" = cc in absurd (n_not_r same)
  one_text words a b (inr e) (inl (others, k, l)) = let same : codes "#N" ≡ codes "#R" = cc in absurd (n_not_r same)
  one_text words a b (inr e) (inr k) = cc

  rules_alike : (rule other : BsRule) → Life105Says line (Rule rule) → Life105Says line (Rule other) → IsSameRule (Bs rule) (Bs other)
  rules_alike rule other (a, named, names) (b, again, also) =
      names-once a rule other names (subst (λ t. NamesBsRule t other) (sym (one_text (words_of line) a b named again)) also)

  life105_alike : (s t : CellLine) → Life105Says line s → Life105Says line t → AreAlike s t
  life105_alike Nothing Nothing h k = tt
  life105_alike Nothing (LiveCell at) h k = k
  life105_alike Nothing (Row cells) h k = description_or_row cells h k
  life105_alike Nothing (Corner at) h k = description_or_corner at h k
  life105_alike Nothing (Rule rule) h k = description_or_rule rule h k
  life105_alike (LiveCell at) t h k = absurd h
  life105_alike (Row cells) Nothing h k = description_or_row cells k h
  life105_alike (Row cells) (LiveCell at) h k = k
  life105_alike (Row cells) (Row others) h k = h.0.cells_are ∙ sym k.0.cells_are
  life105_alike (Row cells) (Corner at) h k = row_or_corner cells at h k
  life105_alike (Row cells) (Rule rule) h k = row_or_rule cells rule h k
  life105_alike (Corner at) Nothing h k = description_or_corner at k h
  life105_alike (Corner at) (LiveCell other) h k = k
  life105_alike (Corner at) (Row cells) h k = row_or_corner cells at k h
  life105_alike (Corner at) (Corner other) (given, x, y, e, n, x_is, y_is) (others, u, v, f, m, u_is, v_is) =
      let all : given ≡ others = cc in
      let same : corner_numbers given ≡ u ∷ v ∷ [] = subst (λ l. corner_numbers l ≡ u ∷ v ∷ []) (sym all) m in
      one_point (corner_numbers given) x y u v at other n same x_is y_is u_is v_is
  life105_alike (Corner at) (Rule rule) h k = corner_or_rule at rule h k
  life105_alike (Rule rule) Nothing h k = description_or_rule rule k h
  life105_alike (Rule rule) (LiveCell at) h k = k
  life105_alike (Rule rule) (Row cells) h k = row_or_rule cells rule k h
  life105_alike (Rule rule) (Corner at) h k = corner_or_rule at rule k h
  life105_alike (Rule rule) (Rule other) h k = rules_alike rule other h k

-- ---- every format

pub says_alike : (format : LineFormat) (line : List ℕ) (s t : CellLine) → LineSays format line s → LineSays format line t → AreAlike s t
says_alike Life106 line s t h k = life106_alike (words_of line) s t h k
says_alike Life105 line s t h k = life105_alike line s t h k
says_alike Plaintext line s t h k = plaintext_alike line s t h k
