-- Every text is a file or has a first fault: each line says something, or is faulty.
use Rattle.std.proofs.Common.{◌≡◌, ℕ, zero, suc, ◌-◌, ◌<◌, ◌≤◌, ◌⊎◌, inl, inr, Bool, true, false, not, ◌||◌, ◌==◌, nat_le, nat_eq, List, [], ◌∷◌, ◌++◌, length, Option, Some, None, refl, sym, ap, subst, ◌∙◌, arith, codes}
use Rattle.std.specs.List.{AllByRecursion, list_all, starts_with, flat_map}
use Rattle.std.specs.Str.{bytes_eq}
use Rattle.std.proofs.lemmas.Bool.{cases_Bool, and_from, true≢false}
use Rattle.std.proofs.lemmas.Bool.Decides.{nat_tests}
use Rattle.std.proofs.lemmas.List.{append-nil, append_assoc}
use Rattle.std.proofs.lemmas.Slice.Eq.{bytes_eq-Decides}
use Rattle.ca_plane.specs.Prelude.{letter, is_line_end, is_end_or, with_front, value, lines_of, words_of, generation_limit}
use Rattle.ca_plane.proofs.Numbers.{below_or_not}
use Rattle.ca_macro.specs.declared.fault.MacroFault.{MacroFault}
use Rattle.ca_macro.specs.declared.fault.MacroFault.TheVariants.{NotMacro, Timeline, Syntax, Forward, Level, LeafSize, Range, GenTooLarge, Memory}
use Rattle.ca_macro.specs.Prelude.{Node, Leaf, Cells, Parts, NamesPart, IsLevel, MacrocellLine, Nothing, Rule, Generation, Adds, AreNumbers, MacrocellWordsSay, added_nodes, IsAllowedNode}
use Rattle.ca_macro.specs.Prelude.{MacrocellLinesSay, MacrocellFile, begins_macro, IsMacrocellFile, HasMacrocellLine, is_leaf_byte, HasBadPart, AreFaulty, IsFirstMacrocellFault}
use Rattle.ca_macro.specs.inner.Leaves.{leaf_fault, leaf_cells, IsLeafFault}
use Rattle.ca_macro.specs.inner.Reading.{file_of_lines}
use Rattle.ca_macro.proofs.Leaves.{leaf_found}
use Rattle.ca_macro.proofs.LeafLines.{fault_none, fault_found}
use Rattle.ca_macro.proofs.Verdicts.{are_digits, digits_from_test, digits_test, states_from_test, states_test, names, names_from_test, names_test}

-- ---- a line

-- the words say something, or are faulty
abbrev Judged : List Node → List (List ℕ) → Type 0
Judged earlier words = ((s : MacrocellLine) × MacrocellWordsSay words s × IsAllowedNode earlier s) ⊎ ((f : MacroFault) × AreFaulty f earlier words)

bytes_are : (w text : List ℕ) → bytes_eq w text ≡ true → w ≡ text
bytes_are w text e = (bytes_eq-Decides w text).0 e

none_of : (a b : Bool) → a ≡ false → b ≡ false → (a || b) ≡ false
none_of a b e f = rw (e, f) refl

comment_alone : (earlier : List Node) (w : List ℕ) → starts_with nat_eq w (codes "#") ≡ true → starts_with nat_eq w (codes "#FRAME") ≡ false → Judged earlier (w ∷ [])
comment_alone earlier w hash frame =
    inl (Nothing, and_from (starts_with nat_eq w (codes "#")) (not (starts_with nat_eq w (codes "#FRAME"))) hash (ap not frame), tt)

comment_words : (earlier : List Node) (w v : List ℕ) (ws : List (List ℕ)) → starts_with nat_eq w (codes "#") ≡ true → starts_with nat_eq w (codes "#FRAME") ≡ false
    → bytes_eq w (codes "#R") ≡ false → bytes_eq w (codes "#G") ≡ false → Judged earlier (w ∷ v ∷ ws)
comment_words earlier w v ws hash frame r g =
    inl (
      Nothing,
      and_from (starts_with nat_eq w (codes "#")) (not (starts_with nat_eq w (codes "#FRAME") || (bytes_eq w (codes "#R") || bytes_eq w (codes "#G")))) hash
          (ap not (none_of (starts_with nat_eq w (codes "#FRAME")) (bytes_eq w (codes "#R") || bytes_eq w (codes "#G")) frame (none_of (bytes_eq w (codes "#R")) (bytes_eq w (codes "#G")) r g))),
      tt,
    )

generation_alone : (earlier : List Node) (w d : List ℕ) → w ≡ codes "#G" → Judged earlier (w ∷ d ∷ [])
generation_alone earlier w d e =
    let spelled : w ∷ d ∷ [] ≡ codes "#G" ∷ d ∷ [] = ap (λ x. x ∷ d ∷ []) e in
    elim (cases_Bool (are_digits d)) [
      | inl t ↦ elim (below_or_not (value d) generation_limit) [
        | inl low ↦ inl (Generation (value d), (d, spelled, (digits_from_test d t, refl), low), tt)
        | inr high ↦ inr (GenTooLarge, (d, spelled, digits_from_test d t, high))
      ]
      | inr f ↦ inr (Syntax, inl (d ∷ [], spelled, λ z. absurd cc, λ digits same are. true≢false (sym (digits_test digits are) ∙ (ap are_digits (first_is digits same) ∙ f))))
    ]
  where
    first_is : (digits : List ℕ) → d ∷ [] ≡ digits ∷ [] → digits ≡ d
    first_is digits same = cc

generation_more : (earlier : List Node) (w d e : List ℕ) (ws : List (List ℕ)) → w ≡ codes "#G" → Judged earlier (w ∷ d ∷ e ∷ ws)
generation_more earlier w d e ws same =
    inr (Syntax, inl (d ∷ e ∷ ws, ap (λ x. x ∷ d ∷ e ∷ ws) same, λ z. absurd cc, λ digits one are. absurd cc))

after_hash : (earlier : List Node) (w : List ℕ) (ws : List (List ℕ)) → starts_with nat_eq w (codes "#") ≡ true → starts_with nat_eq w (codes "#FRAME") ≡ false → Judged earlier (w ∷ ws)
after_hash earlier w [] hash frame = comment_alone earlier w hash frame
after_hash earlier w (v ∷ ws) hash frame =
    elim (cases_Bool (bytes_eq w (codes "#R"))) [
      | inl r ↦ inl (Rule v, (ws, ap (λ x. x ∷ v ∷ ws) (bytes_are w (codes "#R") r)), tt)
      | inr r ↦ elim (cases_Bool (bytes_eq w (codes "#G"))) [
        | inl g ↦ generation ws (bytes_are w (codes "#G") g)
        | inr g ↦ comment_words earlier w v ws hash frame r g
      ]
    ]
  where
    generation : (more : List (List ℕ)) → w ≡ codes "#G" → Judged earlier (w ∷ v ∷ more)
    generation [] e = generation_alone earlier w v e
    generation (x ∷ xs) e = generation_more earlier w v x xs e

bad_leaf : (earlier : List Node) (w : List ℕ) (ws : List (List ℕ)) (f : MacroFault) → IsLeafFault w f → Judged earlier (w ∷ ws)
bad_leaf earlier w ws Syntax h = inr (Syntax, inr (inl (w, ws, refl, inl h)))
bad_leaf earlier w ws LeafSize h = inr (LeafSize, (w, ws, refl, h))
bad_leaf earlier w ws f h = absurd h

leaf_judged : (earlier : List Node) (w : List ℕ) (ws : List (List ℕ)) (o : Option MacroFault) → is_end_or is_leaf_byte w ≡ true → leaf_fault 8 8 w ≡ o → Judged earlier (w ∷ ws)
leaf_judged earlier w ws (Some f) begins e = bad_leaf earlier w ws f (fault_found w f begins e)
leaf_judged earlier w [] None begins e = inl (Adds (Leaf (leaf_cells w)), (w, refl, leaf_found w (fault_none w 8 8 e)), tt)
leaf_judged earlier w (v ∷ ws) None begins e = inr (Syntax, inr (inl (w, v ∷ ws, refl, inr ((leaf_cells w, leaf_found w (fault_none w 8 8 e)), λ z. absurd cc))))

-- the words are five numbers, or aren't
abbrev HasNumbers : List (List ℕ) → Type 0
HasNumbers words = (level : ℕ) × (nw : ℕ) × (ne : ℕ) × (sw : ℕ) × (se : ℕ) × AreNumbers words level nw ne sw se

abbrev Numbered : List (List ℕ) → Type 0
Numbered words = HasNumbers words ⊎ ((level nw ne sw se : ℕ) → AreNumbers words level nw ne sw se → ⊥)

numbers_or_none : (words : List (List ℕ)) → Numbered words
numbers_or_none [] = inr (λ l a b c d h. absurd h)
numbers_or_none (a ∷ []) = inr (λ l p q r s h. absurd h.1)
numbers_or_none (a ∷ b ∷ []) = inr (λ l p q r s h. absurd h.1.1)
numbers_or_none (a ∷ b ∷ c ∷ []) = inr (λ l p q r s h. absurd h.1.1.1)
numbers_or_none (a ∷ b ∷ c ∷ d ∷ []) = inr (λ l p q r s h. absurd h.1.1.1.1)
numbers_or_none (a ∷ b ∷ c ∷ d ∷ e ∷ f ∷ ws) = inr (λ l p q r s h. absurd h.1.1.1.1.1)
numbers_or_none (a ∷ b ∷ c ∷ d ∷ e ∷ []) =
    elim (cases_Bool (are_digits a)) [
      | inr f ↦ inr (λ l p q r s h. true≢false (sym (digits_test a h.0.0) ∙ f))
      | inl t ↦ elim (cases_Bool (are_digits b)) [
        | inr f ↦ inr (λ l p q r s h. true≢false (sym (digits_test b h.1.0.0) ∙ f))
        | inl u ↦ elim (cases_Bool (are_digits c)) [
          | inr f ↦ inr (λ l p q r s h. true≢false (sym (digits_test c h.1.1.0.0) ∙ f))
          | inl v ↦ elim (cases_Bool (are_digits d)) [
            | inr f ↦ inr (λ l p q r s h. true≢false (sym (digits_test d h.1.1.1.0.0) ∙ f))
            | inl x ↦ elim (cases_Bool (are_digits e)) [
              | inr f ↦ inr (λ l p q r s h. true≢false (sym (digits_test e h.1.1.1.1.0.0) ∙ f))
              | inl y ↦
                  inl (
                    value a,
                    value b,
                    value c,
                    value d,
                    value e,
                    ((digits_from_test a t, refl), ((digits_from_test b u, refl), ((digits_from_test c v, refl), ((digits_from_test d x, refl), ((digits_from_test e y, refl), tt))))),
                  )
            ]
          ]
        ]
      ]
    ]

-- numbers may name parts, or the first bad one isn't given earlier, or has another level
abbrev Named : List Node → ℕ → List ℕ → Type 0
Named earlier level ns =
    AllByRecursion (NamesPart earlier level) ns
    ⊎ (HasBadPart earlier level ns (λ n. length earlier < n) ⊎ HasBadPart earlier level ns (λ n. (n ≤ length earlier) × (NamesPart earlier level n → ⊥)))

one_after : (earlier : List Node) (level n : ℕ) (ns : List ℕ) (P : ℕ → Type 0) → NamesPart earlier level n → HasBadPart earlier level ns P → HasBadPart earlier level (n ∷ ns) P
one_after earlier level n ns P h bad = record {
  good = n ∷ bad.good;
  number = bad.number;
  more = bad.more;
  spelled = ap (λ l. n ∷ l) bad.spelled;
  named = (h, bad.named);
  holds = bad.holds;
}

first_here : (earlier : List Node) (level n : ℕ) (ns : List ℕ) (P : ℕ → Type 0) → P n → HasBadPart earlier level (n ∷ ns) P
first_here earlier level n ns P h = record { good = []; number = n; more = ns; spelled = refl; named = tt; holds = h }

named_or_bad : (earlier : List Node) (level : ℕ) (ns : List ℕ) → Named earlier level ns
named_or_bad earlier level [] = inl tt
named_or_bad earlier level (n ∷ ns) =
    elim (below_or_not (length earlier) n) [
      | inl forward ↦ inr (inl (first_here earlier level n ns (λ m. length earlier < m) forward))
      | inr within ↦ elim (cases_Bool (names earlier level n)) [
        | inr f ↦ inr (inr (first_here earlier level n ns (λ m. (m ≤ length earlier) × (NamesPart earlier level m → ⊥)) (within, λ h. true≢false (sym (names_test earlier level n h) ∙ f))))
        | inl t ↦
            let h = names_from_test earlier level n t in
            elim (named_or_bad earlier level ns) [
              | inl all ↦ inl (h, all)
              | inr bad ↦ inr (elim bad [
                | inl b ↦ inl (one_after earlier level n ns (λ m. length earlier < m) h b)
                | inr b ↦ inr (one_after earlier level n ns (λ m. (m ≤ length earlier) × (NamesPart earlier level m → ⊥)) h b)
              ])
            ]
      ]
    ]

node_judged : (earlier : List Node) (words : List (List ℕ)) (level nw ne sw se : ℕ) → AreNumbers words level nw ne sw se → Judged earlier words
node_judged earlier words zero nw ne sw se h = inr (Level, inl (zero, nw, ne, sw, se, h, inl refl))
node_judged earlier words (suc zero) nw ne sw se h =
    elim (cases_Bool (list_all (λ s. nat_le s 255) (nw ∷ ne ∷ sw ∷ se ∷ []))) [
      | inl t ↦ inl (Adds (Cells nw ne sw se), h, states_from_test (nw ∷ ne ∷ sw ∷ se ∷ []) t)
      | inr f ↦ inr (Syntax, inr (inr (inr (nw, ne, sw, se, h, λ low. true≢false (sym (states_test (nw ∷ ne ∷ sw ∷ se ∷ []) low) ∙ f)))))
    ]
node_judged earlier words (suc (suc k)) nw ne sw se h =
    let level = suc (suc k) in
    elim (below_or_not 120 level) [
      | inl high ↦ inr (Level, inl (level, nw, ne, sw, se, h, inr high))
      | inr low ↦
          let is : IsLevel level = (omega arith, low) in
          elim (named_or_bad earlier (level - 1) (nw ∷ ne ∷ sw ∷ se ∷ [])) [
            | inl all ↦ inl (Adds (Parts level nw ne sw se), h, (is, all))
            | inr bad ↦ elim bad [
              | inl b ↦ inr (Forward, (level, nw, ne, sw, se, h, is, b))
              | inr b ↦ inr (Level, inr (level, nw, ne, sw, se, h, is, b))
            ]
          ]
    ]

begins_node : (b : ℕ) (bs : List ℕ) → starts_with nat_eq (b ∷ bs) (codes "#") ≡ false → is_leaf_byte b ≡ false → not ((b == letter "#") || is_leaf_byte b) ≡ true
begins_node b bs hash leaf =
    elim (cases_Bool (b == 35)) [
      | inl t ↦ absurd (let e : (35 == b) ≡ true = grind (arith, nat_tests) in true≢false (sym (rw e refl) ∙ hash))
      | inr f ↦ rw (f, leaf) refl
    ]

numbers_judged : (earlier : List Node) (w : List ℕ) (ws : List (List ℕ)) → starts_with nat_eq w (codes "#") ≡ false → is_end_or is_leaf_byte w ≡ false → Judged earlier (w ∷ ws)
numbers_judged earlier [] ws hash leaf = absurd (true≢false leaf)
numbers_judged earlier (b ∷ bs) ws hash leaf =
    elim (numbers_or_none ((b ∷ bs) ∷ ws)) [
      | inl n ↦ node_judged earlier ((b ∷ bs) ∷ ws) n.0 n.1 n.2 n.3 n.4 n.5
      | inr none ↦ inr (Syntax, inr (inr (inl (begins_node b bs hash leaf, none))))
    ]

line_judged : (earlier : List Node) (words : List (List ℕ)) → Judged earlier words
line_judged earlier [] = inl (Nothing, refl, tt)
line_judged earlier (w ∷ ws) =
    elim (cases_Bool (starts_with nat_eq w (codes "#"))) [
      | inl hash ↦ elim (cases_Bool (starts_with nat_eq w (codes "#FRAME"))) [
        | inl frame ↦ inr (Timeline, (w, ws, refl, frame))
        | inr frame ↦ after_hash earlier w ws hash frame
      ]
      | inr hash ↦ elim (cases_Bool (is_end_or is_leaf_byte w)) [
        | inl leaf ↦ leaf_judged earlier w ws (leaf_fault 8 8 w) leaf refl
        | inr leaf ↦ numbers_judged earlier w ws hash leaf
      ]
    ]

-- ---- lines

-- a faulty line follows good ones
record HasFaulty (earlier : List Node) (lines : List (List ℕ)) : Type 0 where
  good : List (List ℕ)
  line : List ℕ
  later : List (List ℕ)
  said : List MacrocellLine
  fault : MacroFault
  lines_are : lines ≡ good ++ line ∷ later
  say : MacrocellLinesSay earlier good said
  faulty : AreFaulty fault (earlier ++ flat_map added_nodes said) (words_of line)

lines_judged : (earlier : List Node) (lines : List (List ℕ)) → ((said : List MacrocellLine) × MacrocellLinesSay earlier lines said) ⊎ HasFaulty earlier lines
lines_judged earlier [] = inl ([], tt)
lines_judged earlier (l ∷ ls) =
    elim (line_judged earlier (words_of l)) [
      | inr f ↦
          inr (record {
            good = [];
            line = l;
            later = ls;
            said = [];
            fault = f.0;
            lines_are = refl;
            say = tt;
            faulty = subst (λ e. AreFaulty f.0 e (words_of l)) (sym (append-nil earlier)) f.1;
          })
      | inl s ↦ elim (lines_judged (earlier ++ added_nodes s.0) ls) [
        | inl said ↦ inl (s.0 ∷ said.0, (s.1, s.2, said.1))
        | inr bad ↦
            inr (record {
              good = l ∷ bad.good;
              line = bad.line;
              later = bad.later;
              said = s.0 ∷ bad.said;
              fault = bad.fault;
              lines_are = ap (λ x. l ∷ x) bad.lines_are;
              say = (s.1, s.2, bad.say);
              faulty = subst (λ e. AreFaulty bad.fault e (words_of bad.line)) (append_assoc earlier (added_nodes s.0) (flat_map added_nodes bad.said)) bad.faulty;
            })
      ]
    ]

-- ---- the text

some_line : (b : ℕ) (bs : List ℕ) → (first : List ℕ) × (more : List (List ℕ)) × (lines_of (b ∷ bs) ≡ first ∷ more)
some_line b bs =
    elim (cases_Bool (is_line_end b)) [
      | inl t ↦ ([], lines_of bs, rw t refl)
      | inr f ↦ fronted (lines_of bs) (rw f refl)
    ]
  where
    fronted : (ls : List (List ℕ)) → lines_of (b ∷ bs) ≡ with_front b ls → (first : List ℕ) × (more : List (List ℕ)) × (lines_of (b ∷ bs) ≡ first ∷ more)
    fronted [] e = (b ∷ [], [], e)
    fronted (k ∷ ks) e = (b ∷ k, ks, e)

has_line : (bytes first : List ℕ) (lines : List (List ℕ)) → begins_macro bytes ≡ true → lines_of bytes ≡ first ∷ lines → (bad : HasFaulty [] lines) → HasMacrocellLine bytes (AreFaulty bad.fault)
has_line bytes first lines begins are bad = record {
  first = first;
  good = bad.good;
  line = bad.line;
  later = bad.later;
  said = bad.said;
  begins = begins;
  lines_are = are ∙ ap (λ l. first ∷ l) bad.lines_are;
  say = bad.say;
  holds = bad.faulty;
}

first_fault : (bytes : List ℕ) (f : MacroFault) → HasMacrocellLine bytes (AreFaulty f) → IsFirstMacrocellFault bytes f
first_fault bytes NotMacro h = absurd h.holds
first_fault bytes Range h = absurd h.holds
first_fault bytes Memory h = absurd h.holds
first_fault bytes f h = h

-- a text whose lines say this is a file
pub said_file : (bytes first : List ℕ) (lines : List (List ℕ)) (said : List MacrocellLine) → begins_macro bytes ≡ true → lines_of bytes ≡ first ∷ lines → MacrocellLinesSay [] lines said → IsMacrocellFile bytes (file_of_lines said)
said_file bytes first lines said begins are say = record { first = first; lines = lines; said = said; begins = begins; lines_are = are; say = say; nodes = refl; rule_text = refl; generation = refl }

-- a text is a file or has a first fault
abbrev IsJudged : List ℕ → Type 0
IsJudged bytes = ((file : MacrocellFile) × IsMacrocellFile bytes file) ⊎ ((f : MacroFault) × IsFirstMacrocellFault bytes f)

begun : (bytes first : List ℕ) (lines : List (List ℕ)) → begins_macro bytes ≡ true → lines_of bytes ≡ first ∷ lines → IsJudged bytes
begun bytes first lines begins are =
    elim (lines_judged [] lines) [
      | inl h ↦
          inl (file_of_lines h.0, said_file bytes first lines h.0 begins are h.1)
      | inr bad ↦ inr (bad.fault, first_fault bytes bad.fault (has_line bytes first lines begins are bad))
    ]

pub file_or_fault : (bytes : List ℕ) → IsJudged bytes
file_or_fault [] = inr (NotMacro, refl)
file_or_fault (b ∷ bs) =
    elim (cases_Bool (begins_macro (b ∷ bs))) [
      | inl t ↦ let some = some_line b bs in begun (b ∷ bs) some.0 some.1 t some.2
      | inr f ↦ inr (NotMacro, f)
    ]
