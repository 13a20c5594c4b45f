-- A text from which two lists are read spells them, and a text from which none are read spells no rule.
use Rattle.std.proofs.Common.{◌≡◌, ◌==◌, ℕ, List, [], ◌∷◌, ◌++◌, true, false, Option, Some, None, refl, ap, sym, ◌∙◌, inl, inr, arith, append_assoc}
use Rattle.std.specs.Option.{IfNone}
use Rattle.std.proofs.lemmas.Bool.{cases_Bool, cond-false}
use Rattle.std.proofs.lemmas.Bool.Decides.{nat_tests}
use Rattle.ca_plane.specs.Prelude.{front, rest}
use Rattle.ca_plane.proofs.Fronts.{front_then_rest}
use Rattle.ca_rule.specs.Prelude.{most_of, are_digits_up_to, IsLetter, IsSuffix, IsOptionalSlash, IsLettered, IsUnlettered, SpellsLists, SpellsBsRule}
use Rattle.ca_rule.specs.Prelude.{is_rule_letter, stands_in_list, without_slash, tail_after_letter, tail_after_slash, both_lists, swapped_lists, lists_around, lists_around_slash, lists_of}
use Rattle.ca_rule.specs.inner.TextParts.{hood_of, body_of}
use Rattle.ca_rule.specs.declared.hood.Hood.{Hood}
use Rattle.ca_rule.proofs.Ends.{IsLetter-from_test, has_suffix}
use Rattle.ca_rule.proofs.ReadInwards.{read}

-- what holds at all holds where there is none
pub IfNone-from : {T P : Type 0} (r : Option T) → P → IfNone r P
IfNone-from None p = p
IfNone-from (Some _) p = tt

tail_after_letter-some : (upper : ℕ) (bs later : List ℕ) → tail_after_letter upper bs ≡ Some later → (b : ℕ) × IsLetter upper b × (bs ≡ b ∷ later)
tail_after_letter-some upper [] later e = cc
tail_after_letter-some upper (b ∷ bs) later e =
    elim (cases_Bool (is_rule_letter upper b)) [
      | inl t ↦ let k = rw t at e in (b, IsLetter-from_test upper b t, cc)
      | inr t ↦ let k = rw t at e in cc
    ]

tail_after_slash-some : (bs later : List ℕ) → tail_after_slash bs ≡ Some later → bs ≡ 47 ∷ later
tail_after_slash-some [] later e = cc
tail_after_slash-some (b ∷ bs) later e =
    elim (cases_Bool (b == 47)) [
      | inl t ↦ let k = rw t at e in let one : b ≡ 47 = grind (arith, nat_tests) in cc
      | inr t ↦ let k = rw t at e in cc
    ]

without_slash-split : (bs : List ℕ) → (slash : List ℕ) × IsOptionalSlash slash × (bs ≡ slash ++ without_slash bs)
without_slash-split [] = ([], inl refl, refl)
without_slash-split (b ∷ bs) =
    elim (cases_Bool (b == 47)) [
      | inl t ↦ let one : b ≡ 47 = grind (arith, nat_tests) in rw t (47 ∷ [], inr refl, ap (λ x. x ∷ bs) one)
      | inr t ↦ rw t ([], inl refl, refl)
    ]

-- the first of two lists, where there are any
abbrev pub first_list : Option (List ℕ × List ℕ) → List ℕ
first_list None = []
first_list (Some lists) = lists.0

-- the second
abbrev pub second_list : Option (List ℕ × List ℕ) → List ℕ
second_list None = []
second_list (Some lists) = lists.1

pub both-some : (first : List ℕ) (o : Option (List ℕ)) (p : List ℕ × List ℕ) → both_lists first o ≡ Some p → (first ≡ p.0) × (o ≡ Some p.1)
both-some first None p e = cc
both-some first (Some second) p e = let q : (first, second) ≡ p = cc in (ap (λ x. x.0) q, ap (λ x. Some x.1) q)

pub swapped-some : (o : Option (List ℕ × List ℕ)) (a b : List ℕ) → swapped_lists o ≡ Some (a, b) → o ≡ Some (b, a)
swapped-some None a b e = cc
swapped-some (Some l) a b e = ap swapped_lists e

-- two lists round an optional `/` and a letter
record IsAround (upper : ℕ) (bytes list later : List ℕ) : Type 0 where
  letter : ℕ
  slash : List ℕ
  is_letter : IsLetter upper letter
  is_slash : IsOptionalSlash slash
  whole : bytes ≡ list ++ (slash ++ (letter ∷ later))

IsAround-from : (upper : ℕ) (bytes list later : List ℕ) → lists_around upper bytes ≡ Some (list, later) → IsAround upper bytes list later
IsAround-from upper bytes list later e =
    let parts = both-some (front stands_in_list bytes) (tail_after_letter upper (without_slash (rest stands_in_list bytes))) (list, later) e in
    let s = without_slash-split (rest stands_in_list bytes) in
    let t = tail_after_letter-some upper (without_slash (rest stands_in_list bytes)) later parts.1 in
    record {
      letter = t.0;
      slash = s.0;
      is_letter = t.1;
      is_slash = s.1;
      whole = sym (front_then_rest stands_in_list bytes) ∙ ap (λ x. x ++ rest stands_in_list bytes) parts.0 ∙ ap (λ x. list ++ x) (s.2 ∙ ap (λ x. s.0 ++ x) t.2);
    }

pub around_slash-from : (bytes list later : List ℕ) → lists_around_slash bytes ≡ Some (list, later) → bytes ≡ list ++ (47 ∷ later)
around_slash-from bytes list later e =
    let parts = both-some (front stands_in_list bytes) (tail_after_slash (rest stands_in_list bytes)) (list, later) e in
    sym (front_then_rest stands_in_list bytes) ∙ ap (λ x. x ++ rest stands_in_list bytes) parts.0 ∙ ap (λ x. list ++ x) (tail_after_slash-some (rest stands_in_list bytes) later parts.1)

lettered : (first second : ℕ) (text bs suffix list later : List ℕ) (b : ℕ) (hood : Hood) → text ≡ (b ∷ bs) ++ suffix → IsSuffix hood suffix → IsLetter first b → IsAround second bs list later → IsLettered first second text list later hood
lettered first second text bs suffix list later b hood e s l a =
    (b, a.letter, a.slash, suffix, l, a.is_letter, a.is_slash, s, e ∙ ap (λ x. b ∷ (x ++ suffix)) a.whole ∙ simp append_assoc refl)

unlettered : (text body suffix survival birth : List ℕ) (hood : Hood) → text ≡ body ++ suffix → IsSuffix hood suffix → body ≡ survival ++ (47 ∷ birth) → IsUnlettered text survival birth hood
unlettered text body suffix survival birth hood e s w = (suffix, s, e ∙ ap (λ x. x ++ suffix) w ∙ simp append_assoc refl)

-- a text spells the lists that are read from what is before its suffix
pub formed : (text body suffix birth survival : List ℕ) (hood : Hood) → text ≡ body ++ suffix → IsSuffix hood suffix → lists_of body ≡ Some (birth, survival) → SpellsLists text birth survival hood
formed text [] suffix birth survival hood e s r = cc
formed text (b ∷ bs) suffix birth survival hood e s r =
    elim (cases_Bool (is_rule_letter 66 b)) [
      | inl t ↦ let k = rw t at r in inl (lettered 66 83 text bs suffix birth survival b hood e s (IsLetter-from_test 66 b t) (IsAround-from 83 bs birth survival k))
      | inr t ↦ elim (cases_Bool (is_rule_letter 83 b)) [
        | inl u ↦ let k = rw (t, u) at r in inr (inl (lettered 83 66 text bs suffix survival birth b hood e s (IsLetter-from_test 83 b u) (IsAround-from 66 bs survival birth (swapped-some _ birth survival k))))
        | inr u ↦
            let k : swapped_lists (lists_around_slash (b ∷ bs)) ≡ Some (birth, survival) = sym (cond-false _ _ _ t ∙ cond-false _ _ _ u) ∙ r in
            inr (inr (unlettered text (b ∷ bs) suffix survival birth hood e s (around_slash-from (b ∷ bs) survival birth (swapped-some _ birth survival k))))
      ]
    ]

module _ (text body : List ℕ) (hood : Hood) (b : body ≡ body_of text) (h : hood ≡ hood_of text) where
  -- with no lists a text spells no rule
  pub spells-no_lists : lists_of body ≡ None → (birth survival : List ℕ) (of : Hood) → SpellsBsRule text birth survival of → ⊥
  spells-no_lists none birth survival of k = let r = read text birth survival of k in let same = ap lists_of b in cc (r.lists_are)

  module _ (birth survival : List ℕ) (most : ℕ) (r : lists_of body ≡ Some (birth, survival)) (m : most ≡ most_of hood) where
    -- where all are digits of the neighbourhood it spells them
    pub spells-found : are_digits_up_to most birth ≡ true → are_digits_up_to most survival ≡ true → SpellsBsRule text birth survival hood
    spells-found i j =
        let s = has_suffix text in
        record {
          birth_digits = rw (← m) i;
          survival_digits = rw (← m) j;
          form = rw h (formed text (body_of text) s.suffix birth survival (hood_of text) s.whole s.is_suffix (ap lists_of (sym b) ∙ r));
        }

    -- it spells nothing else
    pub spells-only : (d v : List ℕ) (of : Hood) → SpellsBsRule text d v of → (d ≡ birth) × (v ≡ survival) × (most_of of ≡ most)
    spells-only d v of k =
        let found = read text d v of k in
        let same : Some (d, v) ≡ Some (birth, survival) = sym found.lists_are ∙ ap lists_of (sym b) ∙ r in
        (ap first_list same, ap second_list same, ap most_of (sym found.hood_is ∙ sym h) ∙ sym m)

    -- so nothing where a birth digit isn't one of the neighbourhood
    pub spells-birth : are_digits_up_to most birth ≡ false → (d v : List ℕ) (of : Hood) → SpellsBsRule text d v of → ⊥
    spells-birth fails d v of k = let same = spells-only d v of k in let all = k.birth_digits in cc (same.0, same.2)

    -- nor where a survival digit isn't
    pub spells-survival : are_digits_up_to most survival ≡ false → (d v : List ℕ) (of : Hood) → SpellsBsRule text d v of → ⊥
    spells-survival fails d v of k = let same = spells-only d v of k in let all = k.survival_digits in cc (same.1, same.2)
