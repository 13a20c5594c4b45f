-- Each word of a `#CXRLE` line says something or is bad.
use Rattle.std.proofs.Common.{◌≡◌, ℕ, ◌^◌, ◌⊎◌, inl, inr, true, false, ◌==◌, List, [], ◌∷◌, ◌++◌, ℤ, pos, neg_ℤ, take, drop, length, codes, nat_eq, refl, sym, ap, subst, ◌∙◌, eqb-true, true≢false, take-append-drop}
use Rattle.std.specs.List.{AllZip, starts_with, list_all}
use Rattle.std.proofs.lemmas.Bool.{cases_Bool, cases_lt}
use Rattle.std.proofs.lemmas.List.{append_cancel_left}
use Rattle.std.proofs.lemmas.Slice.Eq.{bytes_eq-Decides}
use Rattle.ca_plane.specs.Prelude.{is_digit, is_end_or, front, rest, AreDigits, IsInteger, value}
use Rattle.ca_rle.specs.declared.fault.RleFault.{RleFault}
use Rattle.ca_rle.specs.declared.fault.RleFault.TheVariants.{Syntax, GenTooLarge}
use Rattle.ca_rle.specs.Prelude.{CxrleWord, Corner, Generation, Nothing, WordSays, IsBadWord, HasBadWordAmong}
use Rattle.ca_rle.proofs.OneHeader.{no_comma, integer_has_no_comma}
use Rattle.ca_plane.proofs.Fronts.{front_append, rest_append, front_then_rest}

-- ---- numbers

digits_or_not : (bytes : List ℕ) → AreDigits bytes ⊎ (AreDigits bytes → ⊥)
digits_or_not [] = inr (λ d. true≢false (sym d))
digits_or_not (b ∷ bs) =
    elim (cases_Bool (list_all is_digit (b ∷ bs))) [
      | inl h ↦ inl h
      | inr h ↦ inr (λ d. true≢false (sym d ∙ h))
    ]

-- bytes are an integer, or none
abbrev IntegerOrNot : List ℕ → Type 0
IntegerOrNot bytes = ((x : ℤ) × IsInteger bytes x) ⊎ ((x : ℤ) → IsInteger bytes x → ⊥)

not_negative : (b : ℕ) (bs digits : List ℕ) → (b == 45) ≡ false → b ∷ bs ≡ 45 ∷ digits → ⊥
not_negative b bs digits h e = true≢false (sym (ap (is_end_or (λ c. c == 45)) e) ∙ h)

integer_or_not : (bytes : List ℕ) → IntegerOrNot bytes
integer_or_not [] = inr (λ x i. elim i [
  | inl d ↦ true≢false (sym d.0)
  | inr n ↦ let e = n.1 in cc
])
integer_or_not (b ∷ bs) =
    elim (digits_or_not (b ∷ bs)) [
      | inl d ↦ inl (pos (value (b ∷ bs)), inl (d, refl))
      | inr n ↦ elim (cases_Bool (b == 45)) [
        | inl minus ↦ elim (digits_or_not bs) [
          | inl d ↦ inl (neg_ℤ (pos (value bs)), inr (bs, ap (λ (c : ℕ). c ∷ bs) (eqb-true b 45 minus), d, refl))
          | inr m ↦ inr (λ x i. elim i [
            | inl d ↦ n d.0
            | inr d ↦ m (subst AreDigits (sym (ap (λ (l : List ℕ). drop 1 l) d.1)) d.2)
          ])
        ]
        | inr other ↦ inr (λ x i. elim i [
          | inl d ↦ n d.0
          | inr d ↦ not_negative b bs d.0 other d.1
        ])
      ]
    ]

-- ---- a corner

-- two integers with a comma between them
abbrev AreIntegers : List ℕ → ℤ → ℤ → Type 0
AreIntegers bytes x y = (a : List ℕ) × (b : List ℕ) × (bytes ≡ a ++ 44 ∷ b) × IsInteger a x × IsInteger b y

-- two integers are split at the first comma
at_first_comma : (bytes : List ℕ) (x y : ℤ) → AreIntegers bytes x y → (b : List ℕ) × IsInteger (front no_comma bytes) x × (rest no_comma bytes ≡ 44 ∷ b) × IsInteger b y
at_first_comma bytes x y (a, b, e, i, j) =
    let plain = integer_has_no_comma a x i in
    let first = ap (front no_comma) e ∙ front_append no_comma a (44 ∷ b) plain refl in
    (b, subst (λ (l : List ℕ). IsInteger l x) (sym first) i, ap (rest no_comma) e ∙ rest_append no_comma a (44 ∷ b) plain refl, j)

abbrev IntegersOrNot : List ℕ → Type 0
IntegersOrNot bytes = ((x : ℤ) × (y : ℤ) × AreIntegers bytes x y) ⊎ ((x y : ℤ) → AreIntegers bytes x y → ⊥)

split_or_not : (bytes second : List ℕ) → rest no_comma bytes ≡ second → IntegersOrNot bytes
split_or_not bytes [] e = inr (λ x y p. let q = at_first_comma bytes x y p in let none : [] ≡ 44 ∷ q.0 = sym e ∙ q.2 in cc)
split_or_not bytes (c ∷ cs) e =
    elim (cases_Bool (c == 44)) [
      | inl comma ↦ elim (integer_or_not (front no_comma bytes)) [
        | inl i ↦ elim (integer_or_not cs) [
          | inl j ↦ inl (i.0, j.0, (front no_comma bytes, cs, sym (front_then_rest no_comma bytes) ∙ ap (λ (l : List ℕ). front no_comma bytes ++ l) (e ∙ ap (λ (d : ℕ). d ∷ cs) (eqb-true c 44 comma)), i.1, j.1))
          | inr n ↦ inr (λ x y p. let q = at_first_comma bytes x y p in n y (subst (λ (l : List ℕ). IsInteger l y) (ap (λ (l : List ℕ). drop 1 l) (sym q.2 ∙ e)) q.3))
        ]
        | inr n ↦ inr (λ x y p. n x (at_first_comma bytes x y p).1)
      ]
      | inr other ↦ inr (λ x y p. let q = at_first_comma bytes x y p in true≢false (sym (ap (is_end_or (λ d. d == 44)) (sym e ∙ q.2)) ∙ other))
    ]

-- ---- words

-- what a word says, or its fault
abbrev pub SaysOrBad : List ℕ → Type 0
SaysOrBad word = ((s : CxrleWord) × WordSays word s) ⊎ ((f : RleFault) × IsBadWord word f)

after_text : (word text : List ℕ) → starts_with nat_eq word text ≡ true → word ≡ text ++ drop (length text) word
after_text word text h = sym (take-append-drop (length text) word) ∙ ap (λ (l : List ℕ). l ++ drop (length text) word) (sym ((bytes_eq-Decides text (take (length text) word)).0 h))

corner_or_bad : (word more : List ℕ) → starts_with nat_eq word (codes "Pos=") ≡ true → word ≡ codes "Pos=" ++ more → SaysOrBad word
corner_or_bad word more h e =
    elim (split_or_not more (rest no_comma more) refl) [
      | inl p ↦ inl (Corner p.0 p.1, (p.2.0, p.2.1, e ∙ ap (λ (l : List ℕ). codes "Pos=" ++ l) p.2.2, p.2.3, p.2.4))
      | inr n ↦ inr (Syntax, inl (h, λ x y says. n x y (says.0, says.1, append_cancel_left (codes "Pos=") _ _ (sym e ∙ says.2), says.3, says.4)))
    ]

generation_or_bad : (word more : List ℕ) → starts_with nat_eq word (codes "Gen=") ≡ true → word ≡ codes "Gen=" ++ more → SaysOrBad word
generation_or_bad word more h e =
    elim (digits_or_not more) [
      | inl d ↦ elim (cases_lt (value more) (2 ^ 63)) [
        | inl small ↦ inl (Generation (value more), (more, e, d, refl, small))
        | inr large ↦ inr (GenTooLarge, (more, e, d, large))
      ]
      | inr n ↦ inr (Syntax, inr (h, λ digits s d. n (subst AreDigits (append_cancel_left (codes "Gen=") digits more (sym s ∙ e)) d)))
    ]

-- a word says something, or is bad
pub says_or_bad : (word : List ℕ) → SaysOrBad word
says_or_bad word =
    elim (cases_Bool (starts_with nat_eq word (codes "Pos="))) [
      | inl p ↦ corner_or_bad word _ p (after_text word (codes "Pos=") p)
      | inr p ↦ elim (cases_Bool (starts_with nat_eq word (codes "Gen="))) [
        | inl g ↦ generation_or_bad word _ g (after_text word (codes "Gen=") g)
        | inr g ↦ inl (Nothing, (p, g))
      ]
    ]

-- what words say, or the fault of the first bad one
abbrev pub AllSayOrBad : List (List ℕ) → Type 0
AllSayOrBad words = ((said : List CxrleWord) × AllZip WordSays words said) ⊎ ((f : RleFault) × HasBadWordAmong words f)

with_word : (w : List ℕ) (ws : List (List ℕ)) (s : CxrleWord) → WordSays w s → AllSayOrBad ws → AllSayOrBad (w ∷ ws)
with_word w ws s h (inl (ss, hs)) = inl (s ∷ ss, (h, hs))
with_word w ws s h (inr (f, b)) = inr (f, record { good = w ∷ b.good; good_said = s ∷ b.good_said; word = b.word; later = b.later; good_words = (h, b.good_words); bad = b.bad; words_are = ap (λ (l : List (List ℕ)). w ∷ l) b.words_are })

-- each of some words says something, or one of them is the first bad one
pub all_say_or_bad : (words : List (List ℕ)) → AllSayOrBad words
all_say_or_bad [] = inl ([], tt)
all_say_or_bad (w ∷ ws) =
    elim (says_or_bad w) [
      | inl s ↦ with_word w ws s.0 s.1 (all_say_or_bad ws)
      | inr b ↦ inr (b.0, record { good = []; good_said = []; word = w; later = ws; good_words = tt; bad = b.1; words_are = refl })
    ]
