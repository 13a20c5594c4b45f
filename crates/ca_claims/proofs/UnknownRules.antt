-- Rule texts that name no rule, and the files that have them.
use Rattle.std.proofs.Common.{◌≡◌, ℕ, zero, suc, ◌+◌, ◌<◌, ltb, true, false, Bool, IsTrue, List, [], ◌∷◌, map, slice_get, get_or, length, Bor, Option, Some, None, Result, Ok, Err, IfOk, ◌⊎◌, inl, inr, ◌↔◌, refl, sym, ap, subst, ◌∙◌, arith}
use Rattle.std.specs.List.{list_any, AllZip}
use Rattle.std.specs.Option.{option_copied}
use Rattle.std.specs.Str.{bytes_eq}
use Rattle.std.proofs.lemmas.Bool.{cases_Bool, false≢true, ltb-true, ltb-false, or_left, or_right, or_cases}
use Rattle.std.proofs.lemmas.List.Folds.{list_any-append}
use Rattle.std.proofs.lemmas.Option.{none-some, same_Some, slice_get_within, slice_get-get_or, unwrap_or-slice_get}
use Rattle.std.proofs.lemmas.Slice.Eq.{bytes_eq-Decides}
use Rattle.ca_rule.specs.Prelude.{TableRule, IsRuleFault}
use Rattle.ca_rule.specs.declared.fault.RuleFault.TheVariants.{Unknown}
use Rattle.ca_text.specs.Prelude.{ClaimText, path_at, IsNeeded, with_word}
use Rattle.ca_answers.specs.Prelude.{SuppliedFiles, bytes_at, AreTables}
use Rattle.ca_pattern.specs.Prelude.{HoldsRuleText, IsUnreadFile}
use Rattle.ca_claims.specs.Unknown.{HoldsUnknownRule, IsUnknownRule, AreUnknownRules}
use Rattle.ca_claims.specs.inner.Unknown.{AsksFor, IsAskedBefore, AreAskedBefore, AddsAsked}
use Rattle.ca_verify.proofs.Causes.{bytes_found}
use Rattle.ca_verify.proofs.FoundFiles.{found-length}
use Rattle.ca_pattern.proofs.OneMeaning.{one_meaning, reads_without_fault}
use Rattle.ca_verify.proofs.Verdicts.{one_tables}

-- ---- one file

module _ (bytes : List ℕ) where
  -- a file has one rule text
  one_text : (n m : List ℕ) → HoldsRuleText n bytes → HoldsRuleText m bytes → n ≡ m
  one_text n m a b = (one_meaning bytes a.0 b.0 n m a.1 b.1 a.2.means b.2.means).1

  -- that isn't unknown where it names a rule
  pub none_if_known : (tables : List TableRule) (text : List ℕ) → HoldsRuleText text bytes → (IsRuleFault text tables Unknown → ⊥) → (name : List ℕ) → HoldsUnknownRule tables name bytes → ⊥
  none_if_known tables text holds known name h = known (subst (λ t. IsRuleFault t tables Unknown) (one_text name text h.0 holds) h.1)

  -- nor where the file isn't read
  pub none_if_unread : (tables : List TableRule) → IsUnreadFile bytes → (name : List ℕ) → HoldsUnknownRule tables name bytes → ⊥
  none_if_unread tables (fault, wrong) name h = reads_without_fault bytes fault h.0.2.readable wrong

-- ---- names that are added

-- a name is among others with one put after them where it was before, or is that one
among_put : (names : List (List ℕ)) (put name : List ℕ) → IsTrue (list_any (bytes_eq name) (with_word names put)) ↔ (IsTrue (list_any (bytes_eq name) names) ⊎ (name ≡ put))
among_put names put name = elim (cases_Bool (list_any (bytes_eq put) names)) [
  | inl here ↦ rw here (λ h. inl h, λ some. elim some [ inl h ↦ h | inr same ↦ subst (λ n. list_any (bytes_eq n) names ≡ true) (sym same) here ])
  | inr new ↦ rw new (
    λ h. elim (or_cases (list_any (bytes_eq name) names) (list_any (bytes_eq name) (put ∷ [])) (sym (list_any-append (bytes_eq name) names (put ∷ [])) ∙ h)) [
      | inl before ↦ inl before
      | inr last ↦ elim (or_cases (bytes_eq name put) false last) [ inl same ↦ inr ((bytes_eq-Decides name put).0 same) | inr none ↦ absurd (false≢true none) ]
    ],
    λ some. list_any-append (bytes_eq name) names (put ∷ []) ∙ elim some [
      | inl before ↦ or_left (list_any (bytes_eq name) names) (list_any (bytes_eq name) (put ∷ [])) before
      | inr same ↦ or_right (list_any (bytes_eq name) names) (list_any (bytes_eq name) (put ∷ [])) (or_left (bytes_eq name put) false ((bytes_eq-Decides name put).1 same))
    ],
  )
]

-- a file that asks for nothing adds nothing
pub adds_none : (tables : List TableRule) (needed : Bool) (file : Option (Bor (List ℕ))) → ((name : List ℕ) → AsksFor tables needed file name → ⊥) → (names : List (List ℕ)) → AddsAsked tables needed file names names
adds_none tables needed file none names = λ name. (λ h. inl h, λ some. elim some [ inl h ↦ h | inr asks ↦ absurd (none name asks) ])

-- a file that asks for a name adds it
pub adds_name : (tables : List TableRule) (needed : Bool) → needed ≡ true → (bytes : Bor (List ℕ)) (name : List ℕ) → HoldsUnknownRule tables name bytes.now → (names : List (List ℕ))
    → AddsAsked tables needed (Some bytes) names (with_word names name)
adds_name tables needed is bytes name holds names = λ q. (
  λ h. elim ((among_put names name q).0 h) [
    | inl before ↦ inl before
    | inr same ↦ inr (is, bytes, refl, subst (λ n. HoldsUnknownRule tables n bytes.now) (sym same) holds)
  ],
  λ some. (among_put names name q).1 (elim some [
    | inl before ↦ inl before
    | inr asks ↦ inr (one_text bytes.now q name ((subst (λ b. HoldsUnknownRule tables q b.now) (sym (same_Some bytes asks.1 asks.2)) asks.3).0) holds.0)
  ]),
)

module _ (tables : List TableRule) (needed : List Bool) (found : List (Option (Bor (List ℕ)))) where
  -- after one more file it is asked for what that asks for too
  pub asked_next : (n : ℕ) (old new : List (List ℕ)) → AreAskedBefore tables needed found n old → AddsAsked tables (get_or needed n false) (get_or found n None) old new
      → AreAskedBefore tables needed found (n + 1) new
  asked_next n old new before adds = λ name. (
    λ h. elim ((adds name).0 h) [
      | inl earlier ↦ let asked = (before name).0 earlier in (asked.0, omega (arith, asked.1), asked.2)
      | inr asks ↦ (n, omega arith, asks)
    ],
    λ asked. (adds name).1 (elim (cases_Bool (ltb asked.0 n)) [
      | inl less ↦ inl ((before name).1 (asked.0, ltb-true asked.0 n less, asked.2))
      | inr not ↦
          let least = ltb-false asked.0 n not in
          let same : asked.0 ≡ n = omega (arith, asked.1) in
          inr (subst (λ i. AsksFor tables (get_or needed i false) (get_or found i None) name) same asked.2)
    ]),
  )

-- ---- the files of a text

-- what holds of two lists place by place holds at a place
zip_at : {A B : Type 0} (R : A → B → Type 0) (xs : List A) (ys : List B) (i : ℕ) (d : A) (e : B) → AllZip R xs ys → i < length xs → R (get_or xs i d) (get_or ys i e)
zip_at R [] [] i d e all within = let no : ⊥ = omega (arith, within) in absurd no
zip_at R [] (y ∷ ys) i d e all within = absurd all
zip_at R (x ∷ xs) [] i d e all within = absurd all
zip_at R (x ∷ xs) (y ∷ ys) zero d e all within = all.0
zip_at R (x ∷ xs) (y ∷ ys) (suc i) d e all within = zip_at R xs ys i d e all.1 (omega (arith, within))

as_long : {A B : Type 0} (R : A → B → Type 0) (xs : List A) (ys : List B) → AllZip R xs ys → length xs ≡ length ys
as_long R [] [] all = refl
as_long R [] (y ∷ ys) all = absurd all
as_long R (x ∷ xs) [] all = absurd all
as_long R (x ∷ xs) (y ∷ ys) all = ap suc (as_long R xs ys all.1)

-- what follows of each answer
pub if_ok_as : {T E : Type 0} (r : Result T E) (P Q : T → Type 0) → ((t : T) → P t → Q t) → IfOk r P → IfOk r Q
if_ok_as (Ok t) P Q turn h = turn t h
if_ok_as (Err e) P Q turn h = tt

-- the bytes that a file has
bytes_of : (file : Option (Bor (List ℕ))) (bytes : List ℕ) → option_copied file ≡ Some bytes → (b : Bor (List ℕ)) × (file ≡ Some b) × (b.now ≡ bytes)
bytes_of None bytes e = absurd (none-some bytes e)
bytes_of (Some b) bytes e = (b, refl, same_Some b.now bytes e)

module _ (files : SuppliedFiles) (asked : ClaimText) (needed : List Bool) (found : List (Option (Bor (List ℕ)))) (tables : List TableRule)
    (same : map option_copied found ≡ map (bytes_at files) asked.paths) (with_marks : AllZip (λ path mark. IsTrue mark ↔ IsNeeded asked path) asked.paths needed) (known : AreTables files asked.rules tables) where
  within_paths : (i : ℕ) → i < length found → i < length asked.paths
  within_paths i within = subst (λ n. i < n) (found-length option_copied (bytes_at files) found asked.paths same) within

  -- the path at an index
  path_there : (i : ℕ) → i < length asked.paths → slice_get asked.paths i ≡ Some (path_at asked.paths i)
  path_there i within = slice_get-get_or asked.paths i [] within ∙ ap Some (sym (unwrap_or-slice_get asked.paths i []))

  -- is needed exactly where it is marked
  marked_at : (i : ℕ) → i < length asked.paths → IsTrue (get_or needed i false) ↔ IsNeeded asked (path_at asked.paths i)
  marked_at i within =
      subst (λ path. IsTrue (get_or needed i false) ↔ IsNeeded asked path) (sym (unwrap_or-slice_get asked.paths i []))
      (zip_at (λ path mark. IsTrue mark ↔ IsNeeded asked path) asked.paths needed i [] false with_marks within)

  asked_is_unknown : (name : List ℕ) → IsAskedBefore tables needed found (length found) name → IsUnknownRule files asked name
  asked_is_unknown name (i, lt, asks) =
      let within = within_paths i lt in
      record {
        tables = tables;
        known = known;
        index = i;
        path = path_at asked.paths i;
        at = path_there i within;
        needed = (marked_at i within).0 asks.0;
        holds = (asks.1.now, bytes_found files asked.paths found i (Some asks.1) same lt asks.2, asks.3);
      }

  unknown_is_asked : (name : List ℕ) → IsUnknownRule files asked name → IsAskedBefore tables needed found (length found) name
  unknown_is_asked name u =
      let within = slice_get_within asked.paths u.index u.path u.at in
      let lt : u.index < length found = subst (λ n. u.index < n) (sym (found-length option_copied (bytes_at files) found asked.paths same)) within in
      let path : path_at asked.paths u.index ≡ u.path = same_Some (path_at asked.paths u.index) u.path (sym (path_there u.index within) ∙ u.at) in
      let copied = sym (bytes_found files asked.paths found u.index (get_or found u.index None) same lt refl) ∙ ap (bytes_at files) path ∙ u.holds.1 in
      let (b, is, now) = bytes_of (get_or found u.index None) u.holds.0 copied in
      let tabled = subst (λ ts. HoldsUnknownRule ts name u.holds.0) (one_tables files asked.rules u.tables tables u.known known) u.holds.2 in
      (u.index, lt, ((marked_at u.index within).1 (subst (IsNeeded asked) (sym path) u.needed), b, is, subst (HoldsUnknownRule tables name) (sym now) tabled))

  -- so what the files ask for are the unknown rules
  pub asked_are_unknown : (names : List (List ℕ)) → AreAskedBefore tables needed found (length found) names → AreUnknownRules files asked names
  asked_are_unknown names before = λ name. (λ h. asked_is_unknown name ((before name).0 h), λ u. (before name).1 (unknown_is_asked name u))

  -- for each file there is a mark
  pub as_many_marks : length needed ≡ length found
  as_many_marks = sym (as_long (λ path mark. IsTrue mark ↔ IsNeeded asked path) asked.paths needed with_marks) ∙ sym (found-length option_copied (bytes_at files) found asked.paths same)

-- where the rule lines' files aren't all tables nothing is asked for
pub none_without_tables : (files : SuppliedFiles) (asked : ClaimText) → ((tables : List TableRule) → AreTables files asked.rules tables → ⊥) → AreUnknownRules files asked []
none_without_tables files asked none = λ name. (λ h. absurd (false≢true h), λ u. absurd (none u.tables u.known))
