-- What a Life 1.05 line says.
use Rattle.std.proofs.Common.{◌≡◌, ℕ, ◌<◌, List, [], ◌∷◌, length, get_or, true, false, ◌⊎◌, inl, inr, Result, Ok, Err, IfErr, nat_eq, codes, refl, sym, ap, subst, ◌∙◌, arith}
use Rattle.std.specs.List.{starts_with}
use Rattle.std.specs.Result.{MatchResult}
use Rattle.std.proofs.lemmas.Bool.{true≢false, cases_Bool}
use Rattle.std.proofs.lemmas.Bool.Decides.{nat_tests}
use Rattle.ca_plane.specs.declared.point.Point.{Point}
use Rattle.ca_plane.specs.Prelude.{IsInteger, is_blank, is_end_or, with_front, words_of, front, default_rule}
use Rattle.ca_rule.specs.declared.bs_rule.BsRule.{BsRule}
use Rattle.ca_rule.specs.Prelude.{NamesBsRule}
use Rattle.ca_import.specs.declared.{cell_line.Line.Line, fault.ImportFault.ImportFault}
use Rattle.ca_import.specs.declared.fault.ImportFault.TheVariants.{Syntax, Range}
use Rattle.ca_import.specs.Prelude.{CellLine, Nothing, LiveCell, Row, Corner, Rule, is_star_cell, IsRow, corner_numbers, Life105WordsSay, Life105Says}
use Rattle.ca_import.specs.inner.Lines.{WritePoint, HavePointFault, IsAloneFault}

-- ---- words

-- words of this kind name no rule and no corner, and say something
abbrev SayOther : List (List ℕ) → Type 0
SayOther words = (s : CellLine) → Life105WordsSay words s → ⊥

not_the_same : (a b : List ℕ) → a ≡ b → (get_or a 1 0 ≡ get_or b 1 0 → ⊥) → ⊥
not_the_same a b e other = other (ap (λ w. get_or w 1 0) e)

pub p_not_n : codes "#P" ≡ codes "#N" → ⊥
p_not_n e = not_the_same _ _ e (λ n. omega (arith, n))

pub p_not_r : codes "#P" ≡ codes "#R" → ⊥
p_not_r e = not_the_same _ _ e (λ n. omega (arith, n))

pub n_not_r : codes "#N" ≡ codes "#R" → ⊥
n_not_r e = not_the_same _ _ e (λ n. omega (arith, n))

-- `#P` begins a corner, if anything
corner_words : (ws : List (List ℕ)) → ((at : Point) → Life105WordsSay (codes "#P" ∷ ws) (Corner at) → ⊥) → SayOther (codes "#P" ∷ ws)
corner_words ws none Nothing h = true≢false (sym h)
corner_words ws none (LiveCell at) h = h
corner_words ws none (Row cells) h = h
corner_words ws none (Corner at) h = none at h
corner_words ws none (Rule rule) h = elim h.1 [
  | inl n ↦ let e = n.1 in let same : codes "#P" ≡ codes "#N" = cc in p_not_n same
  | inr e ↦ let same : codes "#P" ≡ codes "#R" = cc in p_not_r same
]

module _ (ws : List (List ℕ)) (x y : List ℕ) (two : ws ≡ x ∷ y ∷ []) where
  written : (at : Point) → Life105WordsSay (codes "#P" ∷ ws) (Corner at) → WritePoint x y at
  written at h =
      let e = h.3 in
      let given_is : ws ≡ h.0 = cc in
      let all : x ∷ y ∷ [] ≡ h.1 ∷ h.2 ∷ [] = subst (λ l. corner_numbers l ≡ h.1 ∷ h.2 ∷ []) (sym given_is ∙ two) h.4 in
      let x_is : h.1 ≡ x = cc in
      let y_is : h.2 ≡ y = cc in
      record { x_is = subst (λ l. IsInteger l at.x) x_is h.5; y_is = subst (λ l. IsInteger l at.y) y_is h.6 }

  pub corner_is : (at : Point) → WritePoint x y at → Life105WordsSay (codes "#P" ∷ ws) (Corner at)
  corner_is at is = (ws, x, y, refl, subst (λ l. corner_numbers l ≡ x ∷ y ∷ []) (sym two) refl, is.x_is, is.y_is)

  pub corner_fault : (f : ImportFault) → HavePointFault x y f → IsAloneFault (Life105WordsSay (codes "#P" ∷ ws)) f
  corner_fault Syntax h = corner_words ws (λ at says. h at (written at says))
  corner_fault Range h = (Corner h.0, corner_is h.0 h.1, λ place. (tt, h.2))
  corner_fault f h = absurd h

r_not_p : codes "#R" ≡ codes "#P" → ⊥
r_not_p e = p_not_r (sym e)

n_not_p : codes "#N" ≡ codes "#P" → ⊥
n_not_p e = p_not_n (sym e)

-- `#R` and a text that names no rule say nothing
pub unnamed_rule : (ws : List (List ℕ)) (text : List ℕ) → ws ≡ text ∷ [] → ((rule : BsRule) → NamesBsRule text rule → ⊥) → SayOther (codes "#R" ∷ ws)
unnamed_rule ws text one none Nothing h = true≢false (sym h)
unnamed_rule ws text one none (LiveCell at) h = h
unnamed_rule ws text one none (Row cells) h = h
unnamed_rule ws text one none (Corner at) h = let e = h.3 in let same : codes "#R" ≡ codes "#P" = cc in r_not_p same
unnamed_rule ws text one none (Rule rule) h = elim h.1 [
  | inl n ↦ let e = n.1 in let same : codes "#N" ≡ codes "#R" = cc in n_not_r same
  | inr e ↦ let same : h.0 ≡ text = cc in none rule (subst (λ t. NamesBsRule t rule) same h.2)
]

-- neither does `#N`, if Life's text names none
pub unnamed_life : (ws : List (List ℕ)) → ((rule : BsRule) → NamesBsRule default_rule rule → ⊥) → SayOther (codes "#N" ∷ ws)
unnamed_life ws none Nothing h = true≢false (sym h)
unnamed_life ws none (LiveCell at) h = h
unnamed_life ws none (Row cells) h = h
unnamed_life ws none (Corner at) h = let e = h.3 in let same : codes "#N" ≡ codes "#P" = cc in n_not_p same
unnamed_life ws none (Rule rule) h = elim h.1 [
  | inl n ↦ none rule (subst (λ t. NamesBsRule t rule) n.2 h.2)
  | inr e ↦ let same : codes "#N" ≡ codes "#R" = cc in n_not_r same
]

-- so their fault is that of a text that names no rule
pub rule_fault : {N : Type 0} (words : List (List ℕ)) (found : Result Line ImportFault) (P : Line → Type 0) → (N → SayOther words) → MatchResult found P (λ f. (f ≡ Syntax) × N)
    → IfErr found (IsAloneFault (Life105WordsSay words))
rule_fault words (Ok l) P none h = tt
rule_fault words (Err f) P none h = subst (IsAloneFault (Life105WordsSay words)) (sym h.0) (none h.1)

-- ---- lines

-- what the words of a line say, the line says
as_line : (line : List ℕ) (s : CellLine) → Life105WordsSay (words_of line) s → Life105Says line s
as_line line Nothing h = h
as_line line (LiveCell at) h = h
as_line line (Row cells) h = absurd h
as_line line (Corner at) h = h
as_line line (Rule rule) h = h

with_front_first : (b : ℕ) (ls : List (List ℕ)) → (w : List ℕ) × (ws : List (List ℕ)) × (with_front b ls ≡ (b ∷ w) ∷ ws)
with_front_first b [] = ([], [], refl)
with_front_first b (l ∷ ls) = (l, ls, refl)

-- the first word of a line begins with its first byte, if that is no blank
first_word_of : (b : ℕ) (bs : List ℕ) → is_blank b ≡ false → (w : List ℕ) × (ws : List (List ℕ)) × (words_of (b ∷ bs) ≡ (b ∷ w) ∷ ws)
first_word_of b bs e = elim (cases_Bool (is_end_or is_blank bs)) [
  | inl f ↦ let is : words_of (b ∷ bs) ≡ (b ∷ []) ∷ words_of bs = rw (e, f) refl in ([], words_of bs, is)
  | inr f ↦
      let more = with_front_first b (words_of bs) in
      let is : words_of (b ∷ bs) ≡ with_front b (words_of bs) = rw (e, f) refl in
      (more.0, more.1, is ∙ more.2)
]

star_is : (b : ℕ) → is_star_cell b ≡ true → (b ≡ 46) ⊎ (b ≡ 42)
star_is b e = grind (arith, nat_tests)

star_not_blank : (b : ℕ) → is_star_cell b ≡ true → is_blank b ≡ false
star_not_blank b e = elim (star_is b e) [ inl f ↦ subst (λ n. is_blank n ≡ false) (sym f) refl | inr f ↦ subst (λ n. is_blank n ≡ false) (sym f) refl ]

star_not_mark : (b : ℕ) (w : List ℕ) → is_star_cell b ≡ true → starts_with nat_eq (b ∷ w) (codes "#") ≡ false
star_not_mark b w e = elim (star_is b e) [ inl f ↦ subst (λ n. starts_with nat_eq (n ∷ w) (codes "#") ≡ false) (sym f) refl | inr f ↦ subst (λ n. starts_with nat_eq (n ∷ w) (codes "#") ≡ false) (sym f) refl ]

none_short : (cells : List ℕ) → cells ≡ [] → 0 < length cells → ⊥
none_short cells e some = let none : length cells ≡ 0 = ap length e in omega (arith, some, none)

front_fails : (b : ℕ) (bs : List ℕ) → is_star_cell b ≡ false → front is_star_cell (b ∷ bs) ≡ []
front_fails b bs e = rw e refl

-- a row has a first word, and it doesn't begin with `#`
pub row_word : (line cells : List ℕ) → IsRow is_star_cell line cells → 0 < length cells → (w : List ℕ) × (ws : List (List ℕ)) × (words_of line ≡ w ∷ ws) × (starts_with nat_eq w (codes "#") ≡ false)
row_word [] cells row some = absurd (none_short cells row.cells_are some)
row_word (b ∷ bs) cells row some = elim (cases_Bool (is_star_cell b)) [
  | inl star ↦ let first = first_word_of b bs (star_not_blank b star) in (b ∷ first.0, first.1, first.2, star_not_mark b first.0 star)
  | inr other ↦ absurd (none_short cells (row.cells_are ∙ front_fails b bs other) some)
]

module _ (line : List ℕ) (w : List ℕ) (ws : List (List ℕ)) (are : words_of line ≡ w ∷ ws) where
  -- a line whose first word begins with `#` says what its words say
  pub line_fault : starts_with nat_eq w (codes "#") ≡ true → (f : ImportFault) → IsAloneFault (Life105WordsSay (w ∷ ws)) f → IsAloneFault (Life105Says line) f
  line_fault begins Syntax h = λ s. marked s
    where
      in_words : (s : CellLine) → Life105WordsSay (words_of line) s → ⊥
      in_words s says = h s (subst (λ l. Life105WordsSay l s) are says)

      marked : (s : CellLine) → Life105Says line s → ⊥
      marked Nothing says = in_words Nothing says
      marked (LiveCell at) says = says
      marked (Row cells) says =
          let (v, vs, is, plain) = row_word line cells says.0 says.1 in
          let same : w ≡ v = cc in
          true≢false (sym begins ∙ subst (λ u. starts_with nat_eq u (codes "#") ≡ false) (sym same) plain)
      marked (Corner at) says = in_words (Corner at) says
      marked (Rule rule) says = in_words (Rule rule) says
  line_fault begins Range h = (h.0, as_line line h.0 (subst (λ l. Life105WordsSay l h.0) (sym are) h.1), h.2)
  line_fault begins f h = absurd h
