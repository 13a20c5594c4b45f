-- The line of a variable, read from its start.
use Rattle.std.proofs.Common.{◌≡◌, ◌≢◌, ℕ, Bool, true, not, List, [], ◌∷◌, ◌++◌, ◌+◌, length, Option, Some, None, unwrap_or, codes, refl, sym, ap, subst, ◌∙◌, arith, inl, inr, Bor}
use Rattle.std.specs.Prelude.{option_and_then, MatchOption}
use Rattle.std.specs.List.{list_all}
use Rattle.std.proofs.lemmas.List.{append_cancel_right, length_push}
use Rattle.std.proofs.lemmas.Bool.{and_parts, cases_Bool}
use Rattle.ca_plane.specs.Prelude.{is_blank, Every, front, rest, is_end_or}
use Rattle.ca_plane.proofs.Fronts.{front_then_rest, every_front, front_append, rest_append}
use Rattle.ca_rule.specs.Prelude.{NumberedLine, tail_after, begins_variable, is_name_byte, is_name, is_field, fields_between, IsVariableLine}
use Rattle.ca_rule.specs.inner.TableFields.{after_brace, IsBraced}
use Rattle.ca_rule.proofs.TextTails.{tail_after-is, tail_after-whole}

-- a blank or a sign follows blanks
blanks-end : (test : ℕ → Bool) (blanks more : List ℕ) → ((b : ℕ) → is_blank b ≡ true → test b ≡ true) → Every is_blank blanks → is_end_or test more ≡ true → is_end_or test (blanks ++ more) ≡ true
blanks-end test [] more blank all end = end
blanks-end test (b ∷ bs) more blank all end = blank b (and_parts (is_blank b) (list_all is_blank bs) all).0

no-name-byte : (b : ℕ) → is_blank b ≡ true → not (is_name_byte b) ≡ true
no-name-byte b e = rw e refl

no-blank : (b : ℕ) → is_name_byte b ≡ true → not (is_blank b) ≡ true
no-blank b e = elim (cases_Bool (is_blank b)) [
  | inl t ↦ let k = rw t at e in cc
  | inr t ↦ rw t refl
]

-- no blank is at the start of a name
name-begins : (name more : List ℕ) → is_name name ≡ true → is_end_or (λ b. not (is_blank b)) (name ++ more) ≡ true
name-begins [] more e = cc
name-begins (b ∷ bs) more e = no-blank b (and_parts (is_name_byte b) (list_all is_name_byte bs) (and_parts _ (list_all is_name_byte (b ∷ bs)) e).1).0

-- what is braced is opened
pub opened-braced : (bytes inside : List ℕ) → IsBraced bytes inside → after_brace bytes ≡ Some (inside ++ codes "}")
opened-braced bytes inside b =
    let one : rest is_blank bytes ≡ codes "=" ++ (b.third ++ (codes "{" ++ (inside ++ codes "}"))) = ap (rest is_blank) b.spelled ∙ rest_append is_blank b.second (codes "=" ++ (b.third ++ (codes "{" ++ (inside ++ codes "}")))) b.second_blanks refl in
    let two : tail_after (codes "=") (rest is_blank bytes) ≡ Some (b.third ++ (codes "{" ++ (inside ++ codes "}"))) = ap (tail_after (codes "=")) one ∙ tail_after-is (codes "=") (b.third ++ (codes "{" ++ (inside ++ codes "}"))) in
    let three : rest is_blank (b.third ++ (codes "{" ++ (inside ++ codes "}"))) ≡ codes "{" ++ (inside ++ codes "}") = rest_append is_blank b.third (codes "{" ++ (inside ++ codes "}")) b.third_blanks refl in
    ap (option_and_then (λ more. tail_after (codes "{") (rest is_blank more))) two
    ∙ ap (tail_after (codes "{")) three ∙ tail_after-is (codes "{") (inside ++ codes "}")

-- where something follows the first part, and the second
opened-parts : (o : Option (List ℕ)) (r : List ℕ) → option_and_then (λ more. tail_after (codes "{") (rest is_blank more)) o ≡ Some r → (more : List ℕ) × (o ≡ Some more) × (tail_after (codes "{") (rest is_blank more) ≡ Some r)
opened-parts None r e = cc
opened-parts (Some more) r e = (more, refl, e)

-- and what is opened and ends with a brace is braced
pub braced-opened : (bytes inside r : List ℕ) → after_brace bytes ≡ Some r → r ≡ inside ++ codes "}" → IsBraced bytes inside
braced-opened bytes inside r e end =
    let parts = opened-parts (tail_after (codes "=") (rest is_blank bytes)) r e in
    let one = tail_after-whole (codes "=") (rest is_blank bytes) parts.0 parts.1 in
    let two = tail_after-whole (codes "{") (rest is_blank parts.0) r parts.2 in
    record {
      second = front is_blank bytes;
      third = front is_blank parts.0;
      second_blanks = every_front is_blank bytes;
      third_blanks = every_front is_blank parts.0;
      spelled = sym (front_then_rest is_blank bytes) ∙ ap (λ l. front is_blank bytes ++ l) (one
          ∙ ap (λ l. codes "=" ++ l) (sym (front_then_rest is_blank parts.0) ∙ ap (λ l. front is_blank parts.0 ++ l) (two ∙ ap (λ l. codes "{" ++ l) end)));
    }

-- a line that is spelled as a variable's has its name after `var` and blanks, and braces after that
pub record HasParts (line name inside : List ℕ) : Type 0 where
  pub more : List ℕ
  pub is_var : tail_after (codes "var") line ≡ Some more
  pub name_is : front is_name_byte (rest is_blank more) ≡ name
  pub braces : IsBraced (rest is_name_byte (rest is_blank more)) inside

pub parts-of-line : (line : NumberedLine) (name : List ℕ) (fields : List (List ℕ)) (v : IsVariableLine line name fields) → HasParts line.1 name v.inside
parts-of-line line name fields v =
    let tail : List ℕ = v.second ++ (codes "=" ++ (v.third ++ (codes "{" ++ (v.inside ++ codes "}")))) in
    let blank : rest is_blank (v.first ++ (name ++ tail)) ≡ name ++ tail = rest_append is_blank v.first (name ++ tail) v.first_blanks (name-begins name tail v.named) in
    let bytes : Every is_name_byte name = (and_parts _ (list_all is_name_byte name) v.named).1 in
    let ends : is_end_or (λ b. not (is_name_byte b)) tail ≡ true = blanks-end (λ b. not (is_name_byte b)) v.second (codes "=" ++ (v.third ++ (codes "{" ++ (v.inside ++ codes "}")))) no-name-byte v.second_blanks refl in
    record {
      more = v.first ++ (name ++ tail);
      is_var = ap (tail_after (codes "var")) v.spelled ∙ tail_after-is (codes "var") (v.first ++ (name ++ tail));
      name_is = ap (front is_name_byte) blank ∙ front_append is_name_byte name tail bytes ends;
      braces = record {
        second = v.second;
        third = v.third;
        second_blanks = v.second_blanks;
        third_blanks = v.third_blanks;
        spelled = ap (rest is_name_byte) blank ∙ rest_append is_name_byte name tail bytes ends;
      };
    }

-- and a line with these parts is spelled so
pub line-of-parts : (line : NumberedLine) (name inside : List ℕ) → begins_variable line ≡ true → HasParts line.1 name inside → is_name name ≡ true → list_all is_field (fields_between inside) ≡ true → IsVariableLine line name (fields_between inside)
line-of-parts line name inside var p is all = record {
  first = front is_blank p.more;
  second = p.braces.second;
  third = p.braces.third;
  inside = inside;
  begins = var;
  first_blanks = every_front is_blank p.more;
  second_blanks = p.braces.second_blanks;
  third_blanks = p.braces.third_blanks;
  named = is;
  fields_are = refl;
  are_fields = all;
  spelled = tail_after-whole (codes "var") line.1 p.more p.is_var ∙ ap (λ l. codes "var" ++ l)
      (sym (front_then_rest is_blank p.more) ∙ ap (λ l. front is_blank p.more ++ l)
      (sym (front_then_rest is_name_byte (rest is_blank p.more)) ∙ ap (λ n. n ++ rest is_name_byte (rest is_blank p.more)) p.name_is ∙ ap (λ l. name ++ l) p.braces.spelled));
}

-- what is in the braces is the same, however it is read
one-inside : (bytes one other : List ℕ) → IsBraced bytes one → IsBraced bytes other → one ≡ other
one-inside bytes one other b c =
    let same : one ++ codes "}" ≡ other ++ codes "}" = ap (λ o. unwrap_or o []) (sym (opened-braced bytes one b) ∙ opened-braced bytes other c) in
    append_cancel_right one other (codes "}") same

-- the last byte
abbrev last_of : List ℕ → ℕ
last_of [] = 0
last_of (b ∷ []) = b
last_of (b ∷ c ∷ bs) = last_of (c ∷ bs)

last-push : (xs : List ℕ) (b : ℕ) → last_of (xs ++ b ∷ []) ≡ b
last-push [] b = refl
last-push (x ∷ []) b = refl
last-push (x ∷ y ∷ xs) b = last-push (y ∷ xs) b

-- bytes that end with another byte, and none at all, don't end with a brace
pub other-last : (bytes before : List ℕ) (last : ℕ) → bytes ≡ before ++ last ∷ [] → last ≢ 125 → (r : List ℕ) → bytes ≢ r ++ codes "}"
other-last bytes before last e other r h = other (sym (last-push before last) ∙ ap last_of (sym e ∙ h) ∙ last-push r 125)

pub no-last : (bytes : List ℕ) → length bytes ≡ 0 → (r : List ℕ) → bytes ≢ r ++ codes "}"
no-last bytes e r h = let k : length bytes ≡ length r + 1 = ap length h ∙ length_push r 125 in omega arith

-- what comes before the last brace is braced
pub braced-suffix : (bytes more : List ℕ) (o : Option (Bor (List ℕ))) → after_brace bytes ≡ Some more
    → MatchOption o ((r : List ℕ) → more ≢ r ++ codes "}") (λ r. more ≡ r.now ++ codes "}") → MatchOption o ((inside : List ℕ) → IsBraced bytes inside → ⊥) (λ r. IsBraced bytes r.now)
braced-suffix bytes more None opens none = λ inside b. none inside (ap (λ o. unwrap_or o []) (sym opens ∙ opened-braced bytes inside b))
braced-suffix bytes more (Some r) opens some = braced-opened bytes r.now more opens some

-- what doesn't open is not braced
pub not-opened : (bytes inside : List ℕ) → after_brace bytes ≡ None → IsBraced bytes inside → ⊥
not-opened bytes inside e b = let k = sym e ∙ opened-braced bytes inside b in cc

-- a variable's line, read from its start
module _ (line : NumberedLine) (more named found later : List ℕ) (is_var : tail_after (codes "var") line.1 ≡ Some more) (blanks : named ≡ rest is_blank more)
    (first : found ≡ front is_name_byte named) (behind_it : later ≡ rest is_name_byte named) where
  pub read-name : (name : List ℕ) (fields : List (List ℕ)) → IsVariableLine line name fields → found ≡ name
  read-name name fields v =
      let p = parts-of-line line name fields v in
      let same : more ≡ p.more = ap (λ o. unwrap_or o []) (sym is_var ∙ p.is_var) in
      first ∙ ap (front is_name_byte) (blanks ∙ ap (rest is_blank) same) ∙ p.name_is

  pub read-braces : (name : List ℕ) (fields : List (List ℕ)) (v : IsVariableLine line name fields) → IsBraced later v.inside
  read-braces name fields v =
      let p = parts-of-line line name fields v in
      let same : more ≡ p.more = ap (λ o. unwrap_or o []) (sym is_var ∙ p.is_var) in
      subst (λ l. IsBraced l v.inside) (sym (behind_it ∙ ap (rest is_name_byte) (blanks ∙ ap (rest is_blank) same))) p.braces

  pub read-fields : (name inside : List ℕ) (fields : List (List ℕ)) (v : IsVariableLine line name fields) → IsBraced later inside → list_all is_field (fields_between inside) ≡ true
  read-fields name inside fields v b =
      let same = one-inside later inside v.inside b (read-braces name fields v) in
      ap (λ i. list_all is_field (fields_between i)) same ∙ ap (list_all is_field) v.fields_are ∙ v.are_fields

  pub read-line : (inside : List ℕ) → begins_variable line ≡ true → IsBraced later inside → is_name found ≡ true → list_all is_field (fields_between inside) ≡ true → IsVariableLine line found (fields_between inside)
  read-line inside var b is all = line-of-parts line found inside var (record {
    more = more;
    is_var = is_var;
    name_is = ap (front is_name_byte) (sym blanks) ∙ sym first;
    braces = subst (λ l. IsBraced l inside) (behind_it ∙ ap (rest is_name_byte) blanks) b;
  }) is all

-- what a function that looks at the last byte cites
pub ruleset lasts = (other-last, no-last)
