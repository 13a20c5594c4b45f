-- What is read from a rule text is what it spells, and nothing else.
use Rattle.std.proofs.Common.{◌≡◌, ◌&&◌, ◌==◌, ℕ, ◌+◌, ◌≤◌, List, [], ◌∷◌, ◌++◌, Bool, true, false, not, nat_le, Some, refl, ap, ◌∙◌, inl, inr, ◌⊎◌, arith, append_assoc}
use Rattle.std.specs.List.{list_all}
use Rattle.std.proofs.lemmas.Bool.{and_parts, and_from, not-true}
use Rattle.std.proofs.lemmas.Bool.Decides.{nat_tests}
use Rattle.ca_plane.specs.Prelude.{Every, is_digit, is_end_or, rest}
use Rattle.ca_plane.proofs.Fronts.{front_append, rest_append, every_append, every_wider}
use Rattle.ca_rule.specs.Prelude.{most_of, are_digits_up_to, IsLetter, IsSuffix, IsOptionalSlash, SpellsLists, SpellsBsRule, has_colon}
use Rattle.ca_rule.specs.Prelude.{is_rule_letter, stands_in_list, without_slash, tail_after_letter, tail_after_slash, both_lists, swapped_lists, lists_around, lists_around_slash, lists_of}
use Rattle.ca_rule.specs.inner.TextParts.{hood_of, body_of}
use Rattle.ca_rule.specs.declared.hood.Hood.{Hood}
use Rattle.ca_rule.specs.declared.hood.Hood.TheVariants.{Moore, VonNeumann, Hex}
use Rattle.ca_rule.proofs.Ends.{is_rule_letter-from, letter-is, PassesLetter, is_plain, split, no_colon}

digits-up_to : (most : ℕ) → most ≤ 9 → (ds : List ℕ) → are_digits_up_to most ds ≡ true → Every is_digit ds
digits-up_to most m ds h = every_wider (λ d. nat_le 48 d && nat_le d (48 + most)) is_digit (λ d t. grind (arith, nat_tests)) ds h

-- the digits of a neighbourhood are digits
pub digits-of : (hood : Hood) (ds : List ℕ) → are_digits_up_to (most_of hood) ds ≡ true → Every is_digit ds
digits-of Moore ds h = digits-up_to 8 (omega arith) ds h
digits-of VonNeumann ds h = digits-up_to 4 (omega arith) ds h
digits-of Hex ds h = digits-up_to 6 (omega arith) ds h

-- digits are no suffixes
plain-digits : (ds : List ℕ) → Every is_digit ds → Every is_plain ds
plain-digits ds h = every_wider is_digit is_plain (λ d t. grind (arith, nat_tests)) ds h

-- they may stand in a list
pub listed-digits : (hood : Hood) (ds : List ℕ) → are_digits_up_to (most_of hood) ds ≡ true → Every stands_in_list ds
listed-digits hood ds h = every_wider is_digit stands_in_list (λ d t. grind (arith, nat_tests)) ds (digits-of hood ds h)

-- B or S
abbrev pub IsBOrS : ℕ → Type 0
IsBOrS upper = (upper ≡ 66) ⊎ (upper ≡ 83)

-- what follows the first list of a text with letters
record IsTail (upper : ℕ) (tail later : List ℕ) : Type 0 where
  ends : is_end_or (λ b. not (stands_in_list b)) tail ≡ true
  leads : tail_after_letter upper (without_slash tail) ≡ Some later

tail-letter : (upper b : ℕ) (later : List ℕ) → IsBOrS upper → IsLetter upper b → IsTail upper (b ∷ later) later
tail-letter upper b later (inl u) (inl e) = rw (e, u) (record { ends = refl; leads = refl })
tail-letter upper b later (inl u) (inr e) = rw (e, u) (record { ends = refl; leads = refl })
tail-letter upper b later (inr u) (inl e) = rw (e, u) (record { ends = refl; leads = refl })
tail-letter upper b later (inr u) (inr e) = rw (e, u) (record { ends = refl; leads = refl })

tail : (upper b : ℕ) (slash later : List ℕ) → IsBOrS upper → IsOptionalSlash slash → IsLetter upper b → IsTail upper (slash ++ (b ∷ later)) later
tail upper b slash later u (inl none) l = rw none (tail-letter upper b later u l)
tail upper b slash later u (inr one) l = rw one (record { ends = refl; leads = rw (is_rule_letter-from upper b l) refl })

-- the lists round a letter are read
around : (upper b : ℕ) (list slash later : List ℕ) → IsBOrS upper → Every stands_in_list list → IsOptionalSlash slash → IsLetter upper b → lists_around upper (list ++ (slash ++ (b ∷ later))) ≡ Some (list, later)
around upper b list slash later u h s l =
    let t = tail upper b slash later u s l in
    let f = front_append stands_in_list list (slash ++ (b ∷ later)) h t.ends in
    let r = rest_append stands_in_list list (slash ++ (b ∷ later)) h t.ends in
    ap (λ x. both_lists x (tail_after_letter upper (without_slash (rest stands_in_list (list ++ (slash ++ (b ∷ later))))))) f
    ∙ ap (λ x. both_lists list (tail_after_letter upper (without_slash x))) r ∙ ap (both_lists list) t.leads

-- the lists round a `/` are read
pub around_slash : (list later : List ℕ) → Every stands_in_list list → lists_around_slash (list ++ (47 ∷ later)) ≡ Some (list, later)
around_slash list later h =
    ap (λ x. both_lists x (tail_after_slash (rest stands_in_list (list ++ (47 ∷ later))))) (front_append stands_in_list list (47 ∷ later) h refl)
    ∙ ap (λ x. both_lists list (tail_after_slash x)) (rest_append stands_in_list list (47 ∷ later) h refl)

lists-no_letter : (survival birth : List ℕ) → Every stands_in_list survival → lists_of (survival ++ (47 ∷ birth)) ≡ swapped_lists (lists_around_slash (survival ++ (47 ∷ birth)))
lists-no_letter [] birth h = refl
lists-no_letter (s ∷ ss) birth h =
    let other = and_parts (not (s == 47)) _ (and_parts (stands_in_list s) (list_all stands_in_list ss) h).0 in
    let none = and_parts (not (is_rule_letter 66 s)) (not (is_rule_letter 83 s)) other.1 in
    let b = not-true (is_rule_letter 66 s) none.0 in
    let v = not-true (is_rule_letter 83 s) none.1 in
    rw (b, v) refl

-- two lists round a `/` are read
pub lists-unlettered : (survival birth : List ℕ) → Every stands_in_list survival → lists_of (survival ++ (47 ∷ birth)) ≡ Some (birth, survival)
lists-unlettered survival birth h = lists-no_letter survival birth h ∙ ap swapped_lists (around_slash survival birth h)

-- a test that a `/` and the letters B and S pass
pub record PassesEnds (test : ℕ → Bool) : Type 0 where
  pub slash : test 47 ≡ true
  pub b : PassesLetter test 66
  pub s : PassesLetter test 83

slash-passes : (test : ℕ → Bool) (slash : List ℕ) → test 47 ≡ true → IsOptionalSlash slash → Every test slash
slash-passes test slash passes (inl e) = rw e refl
slash-passes test slash passes (inr e) = rw (e, passes) refl

lettered-passes : (test : ℕ → Bool) (a b : ℕ) (slash list later : List ℕ) → test 47 ≡ true → test a ≡ true → test b ≡ true → IsOptionalSlash slash → Every test list → Every test later → Every test (a ∷ (list ++ (slash ++ (b ∷ later))))
lettered-passes test a b slash list later passes p q is h k =
    and_from (test a) _ p (every_append test list _ h (every_append test slash _ (slash-passes test slash passes is) (and_from (test b) _ q k)))

-- a text taken apart at its suffix: the lists that are read from what is before it, and of which bytes that is
pub record IsTakenApart (text birth survival : List ℕ) (hood : Hood) : Type 0 where
  pub body : List ℕ
  pub suffix : List ℕ
  pub is_suffix : IsSuffix hood suffix
  pub whole : text ≡ body ++ suffix
  pub lists_are : lists_of body ≡ Some (birth, survival)
  pub passes : (test : ℕ → Bool) → PassesEnds test → Every test birth → Every test survival → Every test body

-- a text that spells lists is taken apart into these
pub taken_apart : (text birth survival : List ℕ) (hood : Hood) → Every stands_in_list birth → Every stands_in_list survival → SpellsLists text birth survival hood → IsTakenApart text birth survival hood
taken_apart text birth survival hood h k (inl f) = record {
  body = f.0 ∷ (birth ++ (f.2 ++ (f.1 ∷ survival)));
  suffix = f.3;
  is_suffix = f.7;
  whole = f.8 ∙ simp append_assoc refl;
  lists_are = letter-is (λ b. lists_of (b ∷ (birth ++ (f.2 ++ (f.1 ∷ survival))))) 66 f.0 _ (refl, refl) f.4 ∙ around 83 f.1 birth f.2 survival (inr refl) h f.6 f.5;
  passes = λ test ends b s. lettered-passes test f.0 f.1 f.2 birth survival ends.slash (letter-is test 66 f.0 true ends.b f.4) (letter-is test 83 f.1 true ends.s f.5) f.6 b s;
}
taken_apart text birth survival hood h k (inr (inl f)) = record {
  body = f.0 ∷ (survival ++ (f.2 ++ (f.1 ∷ birth)));
  suffix = f.3;
  is_suffix = f.7;
  whole = f.8 ∙ simp append_assoc refl;
  lists_are = letter-is (λ b. lists_of (b ∷ (survival ++ (f.2 ++ (f.1 ∷ birth))))) 83 f.0 _ (refl, refl) f.4 ∙ ap swapped_lists (around 66 f.1 survival f.2 birth (inl refl) k f.6 f.5);
  passes = λ test ends b s. lettered-passes test f.0 f.1 f.2 survival birth ends.slash (letter-is test 83 f.0 true ends.s f.4) (letter-is test 66 f.1 true ends.b f.5) f.6 s b;
}
taken_apart text birth survival hood h k (inr (inr f)) = record {
  body = survival ++ (47 ∷ birth);
  suffix = f.0;
  is_suffix = f.1;
  whole = f.2 ∙ simp append_assoc refl;
  lists_are = lists-unlettered survival birth k;
  passes = λ test ends b s. every_append test survival (47 ∷ birth) s (and_from (test 47) (list_all test birth) ends.slash b);
}

-- what is read from a text
pub record IsRead (text birth survival : List ℕ) (hood : Hood) : Type 0 where
  pub hood_is : hood_of text ≡ hood
  pub lists_are : lists_of (body_of text) ≡ Some (birth, survival)
  pub no_colon : has_colon text ≡ false

-- a text that spells a rule is taken apart at its suffix
pub spelled-apart : (text birth survival : List ℕ) (hood : Hood) → SpellsBsRule text birth survival hood → IsTakenApart text birth survival hood
spelled-apart text birth survival hood h = taken_apart text birth survival hood (listed-digits hood birth h.birth_digits) (listed-digits hood survival h.survival_digits) h.form

-- and read as that rule
pub read : (text birth survival : List ℕ) (hood : Hood) → SpellsBsRule text birth survival hood → IsRead text birth survival hood
read text birth survival hood h =
    let t = spelled-apart text birth survival hood h in
    let b = plain-digits birth (digits-of hood birth h.birth_digits) in
    let s = plain-digits survival (digits-of hood survival h.survival_digits) in
    let plain = t.passes is_plain (record { slash = refl; b = (refl, refl); s = (refl, refl) }) b s in
    let found = split text t.body t.suffix hood t.whole plain t.is_suffix in
    record { hood_is = found.hood_is; lists_are = ap lists_of found.body_is ∙ t.lists_are; no_colon = no_colon text t.body t.suffix hood t.whole plain t.is_suffix }
