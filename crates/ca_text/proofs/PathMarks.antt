-- Marks of paths, and which files are needed.
use Rattle.std.proofs.Common.{◌≡◌, ◌≢◌, ℕ, zero, suc, ◌<◌, true, false, Bool, IsTrue, List, [], ◌∷◌, ◌++◌, map, slice_get, length, take, drop, set, replicate, All, Some, ◌⊎◌, inl, inr, ◌↔◌, refl, sym, ap, subst, ◌∙◌, arith}
use Rattle.std.specs.List.{AllByRecursion, AllZip, IsDistinct}
use Rattle.std.specs.Str.{bytes_eq}
use Rattle.std.proofs.lemmas.Bool.{false≢true}
use Rattle.std.proofs.lemmas.List.{length-set, take_all, take-append-le}
use Rattle.std.proofs.lemmas.List.Elements.{All-head, All-tail}
use Rattle.std.proofs.lemmas.Option.{none-some, same_Some, slice_get-get_or, unwrap_or-slice_get}
use Rattle.std.proofs.lemmas.Slice.Eq.{bytes_eq-Decides}
use Rattle.ca_text.specs.declared.line.{ClaimLine.ClaimLine, NamePlace.NamePlace}
use Rattle.ca_text.specs.Prelude.{HoldsOfEither, ClaimText, named_patterns, path_at, claim_with_names, IsNamed, SomeOf, IsNeeded}
use Rattle.ca_text.specs.inner.Marks.{with_marks, claims_marked}

-- ---- lists

-- a mark is set exactly where this holds of its path
abbrev pub Marks : (List ℕ → Type 0) → List (List ℕ) → List Bool → Type 0
Marks Holds paths marks = AllZip (λ path mark. IsTrue mark ↔ Holds path) paths marks

-- what is the same of each path
pub marks_same : (P Q : List ℕ → Type 0) → ((path : List ℕ) → P path ↔ Q path) → (paths : List (List ℕ)) (marks : List Bool) → Marks P paths marks → Marks Q paths marks
marks_same P Q same [] [] h = tt
marks_same P Q same [] (m ∷ ms) h = h
marks_same P Q same (p ∷ ps) [] h = h
marks_same P Q same (p ∷ ps) (m ∷ ms) h = ((λ t. (same p).0 (h.0.0 t), λ q. h.0.1 ((same p).1 q)), marks_same P Q same ps ms h.1)

-- marks are no fewer once some are set
pub length-marked : (marks : List Bool) (is : List ℕ) → length (with_marks marks is) ≡ length marks
length-marked marks [] = refl
length-marked marks (i ∷ is) = length-marked (set marks i true) is ∙ length-set marks i true

pub length-claims_marked : (marks : List Bool) (claims : List (ClaimLine NamePlace)) → length (claims_marked marks claims) ≡ length marks
length-claims_marked marks [] = refl
length-claims_marked marks (l ∷ ls) = length-claims_marked _ ls ∙ length-marked marks (l.claim.patterns.first.path ∷ l.claim.patterns.second.path ∷ [])

-- a list written over one that is as long
pub written_over : {X : Type 0} (n : ℕ) (old new : List X) → length new ≡ n → take n (new ++ drop (length new) old) ≡ new
written_over n old new long = take-append-le n new (drop (length new) old) (omega (arith, long)) ∙ take_all n new (omega (arith, long))

-- ---- one path

-- of a path that is unlike all others
unlike_others : (p : List ℕ) (P : List ℕ → Type 0) (paths : List (List ℕ)) (marks : List Bool) → AllByRecursion (λ q. bytes_eq p q ≡ false) paths → Marks P paths marks
    → Marks (λ q. (p ≡ q) ⊎ P q) paths marks
unlike_others p P [] [] other h = tt
unlike_others p P [] (m ∷ ms) other h = h
unlike_others p P (q ∷ qs) [] other h = h
unlike_others p P (q ∷ qs) (m ∷ ms) other h =
    let differ : p ≢ q = λ same. false≢true (sym other.0 ∙ (bytes_eq-Decides p q).1 same) in (
      (λ t. inr (h.0.0 t), λ some. elim some [ inl same ↦ absurd (differ same) | inr holds ↦ h.0.1 holds ]),
      unlike_others p P qs ms other.1 h.1,
    )

-- a path that stands among others is unlike the first
unlike_first : (q p : List ℕ) (paths : List (List ℕ)) (i : ℕ) → AllByRecursion (λ r. bytes_eq q r ≡ false) paths → slice_get paths i ≡ Some p → p ≢ q
unlike_first q p [] i other e = absurd (none-some p e)
unlike_first q p (r ∷ rs) zero other e = λ same. false≢true (sym other.0 ∙ (bytes_eq-Decides q r).1 (sym same ∙ sym (same_Some r p e)))
unlike_first q p (r ∷ rs) (suc i) other e = unlike_first q p rs i other.1 e

-- the mark of one path is set
mark_one : (p : List ℕ) (P : List ℕ → Type 0) (paths : List (List ℕ)) (marks : List Bool) (i : ℕ) → IsDistinct bytes_eq paths → slice_get paths i ≡ Some p → Marks P paths marks
    → Marks (λ q. (p ≡ q) ⊎ P q) paths (set marks i true)
unfolding IsDistinct
mark_one p P [] marks i distinct e h = absurd (none-some p e)
mark_one p P (q ∷ qs) [] i distinct e h = h
mark_one p P (q ∷ qs) (m ∷ ms) zero distinct e h =
    let same : q ≡ p = same_Some q p e in
    ((λ t. inl (sym same), λ some. refl), unlike_others p P qs ms (subst (λ r. AllByRecursion (λ s. bytes_eq r s ≡ false) qs) same distinct.0) h.1)
mark_one p P (q ∷ qs) (m ∷ ms) (suc i) distinct e h =
    let differ = unlike_first q p qs i distinct.0 e in (
      (λ t. inr (h.0.0 t), λ some. elim some [ inl same ↦ absurd (differ same) | inr holds ↦ h.0.1 holds ]),
      mark_one p P qs ms i distinct.1 e h.1,
    )

-- ---- many

-- one of two or three
move_first : (A B C : Type 0) → (A ⊎ (B ⊎ C)) ↔ ((B ⊎ A) ⊎ C)
move_first A B C = (
  λ h. elim h [ inl a ↦ inl (inr a) | inr k ↦ elim k [ inl b ↦ inl (inl b) | inr c ↦ inr c ] ],
  λ h. elim h [ inl k ↦ elim k [ inl b ↦ inr (inl b) | inr a ↦ inl a ] | inr c ↦ inr (inr c) ],
)

-- one of two, where the first is the same
or_same : {A B : Type 0} → A ↔ B → (C : Type 0) → (A ⊎ C) ↔ (B ⊎ C)
or_same same C = (λ h. elim h [ inl a ↦ inl (same.0 a) | inr c ↦ inr c ], λ h. elim h [ inl b ↦ inl (same.1 b) | inr c ↦ inr c ])

-- no mark is set, and this holds of no path
no_marks : (P : List ℕ → Type 0) (paths : List (List ℕ)) → ((path : List ℕ) → P path → ⊥) → Marks P paths (replicate (length paths) false)
no_marks P [] never = tt
no_marks P (p ∷ ps) never = ((λ t. absurd (false≢true t), λ h. absurd (never p h)), no_marks P ps never)

-- what holds of each element, by recursion
each_of_all : {X : Type 0} (P : X → Type 0) (xs : List X) → All P xs → AllByRecursion P xs
each_of_all P [] h = tt
each_of_all P (x ∷ xs) h = (All-head P x xs h, each_of_all P xs (All-tail P x xs h))

-- the path at an index
path_there : (paths : List (List ℕ)) (i : ℕ) → i < length paths → slice_get paths i ≡ Some (path_at paths i)
path_there paths i within = slice_get-get_or paths i [] within ∙ ap Some (sym (unwrap_or-slice_get paths i []))

-- one of a claim's patterns has the path exactly where one of its places has
pattern_paths : (names paths : List (List ℕ)) (l : ClaimLine NamePlace) (q : List ℕ)
    → SomeOf (λ p. p ≡ q) (path_at paths l.claim.patterns.first.path ∷ path_at paths l.claim.patterns.second.path ∷ [])
    ↔ HoldsOfEither (λ n. n.1 ≡ q) (named_patterns (claim_with_names names paths l))
pattern_paths names paths l q = (
  λ h. elim h [ inl a ↦ inl a | inr k ↦ elim k [ inl b ↦ inr b | inr none ↦ absurd none ] ],
  λ h. elim h [ inl a ↦ inl a | inr b ↦ inr (inl b) ],
)

-- the paths of these claims' patterns
abbrev pub IsClaimed : List (List ℕ) → List (List ℕ) → List (ClaimLine NamePlace) → List ℕ → Type 0
IsClaimed names paths claims q = SomeOf (HoldsOfEither (λ n. n.1 ≡ q)) (map named_patterns (map (claim_with_names names paths) claims))

module _ (names paths : List (List ℕ)) (distinct : IsDistinct bytes_eq paths) where
  -- the marks of the paths at these indices are set
  marks_set : (P : List ℕ → Type 0) (is : List ℕ) (marks : List Bool) → AllByRecursion (λ i. i < length paths) is → Marks P paths marks
      → Marks (λ q. SomeOf (λ p. p ≡ q) (map (path_at paths) is) ⊎ P q) paths (with_marks marks is)
  marks_set P [] marks within h = marks_same P (λ q. ⊥ ⊎ P q) (λ q. (λ holds. inr holds, λ some. elim some [ inl none ↦ absurd none | inr holds ↦ holds ])) paths marks h
  marks_set P (i ∷ is) marks within h =
      let p = path_at paths i in
      let one = mark_one p P paths marks i distinct (path_there paths i within.0) h in
      marks_same (λ q. SomeOf (λ r. r ≡ q) (map (path_at paths) is) ⊎ ((p ≡ q) ⊎ P q)) (λ q. SomeOf (λ r. r ≡ q) (map (path_at paths) (i ∷ is)) ⊎ P q)
      (λ q. move_first (SomeOf (λ r. r ≡ q) (map (path_at paths) is)) (p ≡ q) (P q)) paths (with_marks marks (i ∷ is))
      (marks_set (λ q. (p ≡ q) ⊎ P q) is (set marks i true) within.1 one)

  -- and those of the claims' patterns
  marks_claimed : (P : List ℕ → Type 0) (claims : List (ClaimLine NamePlace)) (marks : List Bool) → All (λ l. IsNamed names paths l.claim) claims → Marks P paths marks
      → Marks (λ q. IsClaimed names paths claims q ⊎ P q) paths (claims_marked marks claims)
  marks_claimed P [] marks good h = marks_same P (λ q. ⊥ ⊎ P q) (λ q. (λ holds. inr holds, λ some. elim some [ inl none ↦ absurd none | inr holds ↦ holds ])) paths marks h
  marks_claimed P (l ∷ ls) marks good h =
      let is = l.claim.patterns.first.path ∷ l.claim.patterns.second.path ∷ [] in
      let asked : IsNamed names paths l.claim = All-head (λ k. IsNamed names paths k.claim) l ls good in
      let First : List ℕ → Type 0 = λ q. HoldsOfEither (λ n. n.1 ≡ q) (named_patterns (claim_with_names names paths l)) in
      let one = marks_set P is marks (asked.within.0.1, (asked.within.1.1, tt)) h in
      let first = marks_same (λ q. SomeOf (λ p. p ≡ q) (map (path_at paths) is) ⊎ P q) (λ q. First q ⊎ P q)
      (λ q. or_same (pattern_paths names paths l q) (P q)) paths (with_marks marks is) one in
      marks_same (λ q. IsClaimed names paths ls q ⊎ (First q ⊎ P q)) (λ q. IsClaimed names paths (l ∷ ls) q ⊎ P q)
      (λ q. move_first (IsClaimed names paths ls q) (First q) (P q)) paths (claims_marked marks (l ∷ ls))
      (marks_claimed (λ q. First q ⊎ P q) ls (with_marks marks is) (All-tail (λ k. IsNamed names paths k.claim) l ls good) first)

  -- ---- the files that a text needs

  -- all that is needed is marked
  pub needed_marks : (rules : List ℕ) (claims : List (ClaimLine NamePlace)) (asked : ClaimText) → asked.claims ≢ [] → asked.rules ≡ map (path_at paths) rules
      → asked.patterns ≡ map named_patterns (map (claim_with_names names paths) claims) → All (λ i. i < length paths) rules → All (λ l. IsNamed names paths l.claim) claims
      → Marks (IsNeeded asked) paths (claims_marked (with_marks (replicate (length paths) false) rules) claims)
  needed_marks rules claims asked some is_rule is_pattern within good =
      let RuledPattern : List ℕ → Type 0 = λ q. SomeOf (λ r. r ≡ q) (map (path_at paths) rules) in
      let ruled = marks_set (λ q. ⊥) rules (replicate (length paths) false) (each_of_all (λ i. i < length paths) rules within) (no_marks (λ q. ⊥) paths (λ q none. none)) in
      let both = marks_claimed (λ q. RuledPattern q ⊎ ⊥) claims (with_marks (replicate (length paths) false) rules) good ruled in
      marks_same (λ q. IsClaimed names paths claims q ⊎ (RuledPattern q ⊎ ⊥)) (IsNeeded asked)
      (λ q. (
        λ h. (
          some,
          elim h [
            | inl claimed ↦ inr (subst (SomeOf (HoldsOfEither (λ n. n.1 ≡ q))) (sym is_pattern) claimed)
            | inr k ↦ elim k [ inl rule ↦ inl (subst (SomeOf (λ r. r ≡ q)) (sym is_rule) rule) | inr none ↦ absurd none ]
          ],
        ),
        λ h. elim h.1 [
          | inl rule ↦ inr (inl (subst (SomeOf (λ r. r ≡ q)) is_rule rule))
          | inr claimed ↦ inl (subst (SomeOf (HoldsOfEither (λ n. n.1 ≡ q))) is_pattern claimed)
        ],
      )) paths (claims_marked (with_marks (replicate (length paths) false) rules) claims) both

-- without a claim nothing is
pub nothing_needed : (asked : ClaimText) (paths : List (List ℕ)) → asked.claims ≡ [] → Marks (IsNeeded asked) paths (replicate (length paths) false)
nothing_needed asked paths none = no_marks (IsNeeded asked) paths (λ q needed. needed.0 none)
