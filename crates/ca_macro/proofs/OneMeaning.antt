-- A text is a file in one way at most, or has one first fault at most.
use Rattle.std.proofs.Common.{◌≡◌, ◌≢◌, ℕ, ◌+◌, Bool, true, false, List, [], ◌∷◌, ◌++◌, length, Option, Some, None, Result, Ok, Err, ◌⊎◌, inl, inr, refl, sym, ap, subst, ◌∙◌, arith}
use Rattle.std.specs.List.{flat_map}
use Rattle.std.proofs.lemmas.List.{append-nil, append_assoc}
use Rattle.ca_plane.specs.Prelude.{lines_of, words_of, default_rule}
use Rattle.ca_macro.specs.declared.fault.MacroFault.{MacroFault}
use Rattle.ca_macro.specs.declared.fault.MacroFault.TheVariants.{NotMacro, Range, Memory}
use Rattle.ca_macro.specs.Prelude.{Node, MacrocellLine, added_nodes, MacrocellLinesSay, last_rule, last_line_generation, MacrocellFile, begins_macro, IsMacrocellFile, IsMacrocellWithinRange}
use Rattle.ca_macro.specs.Prelude.{IsMacrocellOutOfRange, HasMacrocellLine, AreFaulty, IsFirstMacrocellFault, IsFirstMacrocellFaultOn, IsFaultyMacrocellLine, IsMacrocellFault, IsMacrocellFaultOn}
use Rattle.ca_macro.specs.inner.Reading.{HasFaultOn, IsMacrocellReadingFault, file_of_lines}
use Rattle.ca_macro.proofs.Verdicts.{Verdict, verdict, said_told, fault_told}

-- ---- the verdict on lines

-- what lines say, or a fault and the number of its line
abbrev Told : Type 0
Told = Result (List MacrocellLine) (MacroFault × ℕ)

abbrev with_said : MacrocellLine → Told → Told
with_said s (Ok said) = Ok (s ∷ said)
with_said s (Err f) = Err f

abbrev after_line : ℕ → List Node → (List Node → Told) → Verdict → Told
after_line n earlier later (Ok s) = with_said s (later (earlier ++ added_nodes s))
after_line n earlier later (Err f) = Err (f, n)

-- what lines say, or the fault of the first faulty one and its number; the first of all has this number
abbrev told : ℕ → List Node → List (List ℕ) → Told
told n earlier [] = Ok []
told n earlier (l ∷ ls) = after_line n earlier (λ e. told (n + 1) e ls) (verdict earlier (words_of l))

lines_told : (n : ℕ) (earlier : List Node) (lines : List (List ℕ)) (said : List MacrocellLine) → MacrocellLinesSay earlier lines said → told n earlier lines ≡ Ok said
lines_told n earlier [] [] h = refl
lines_told n earlier [] (s ∷ said) h = absurd h
lines_told n earlier (l ∷ ls) [] h = absurd h
lines_told n earlier (l ∷ ls) (s ∷ said) h = rw (said_told earlier (words_of l) s h.0 h.1, lines_told (n + 1) (earlier ++ added_nodes s) ls said h.2) refl

first_told : (n m : ℕ) (earlier : List Node) (good : List (List ℕ)) (said : List MacrocellLine) (line : List ℕ) (later : List (List ℕ)) (f : MacroFault) → MacrocellLinesSay earlier good said
    → AreFaulty f (earlier ++ flat_map added_nodes said) (words_of line) → m ≡ length good + n → told n earlier (good ++ line ∷ later) ≡ Err (f, m)
first_told n m earlier [] [] line later f h faulty e =
    let same : m ≡ n = omega arith in
    rw (same, fault_told earlier (words_of line) f (subst (λ e. AreFaulty f e (words_of line)) (append-nil earlier) faulty)) refl
first_told n m earlier [] (s ∷ said) line later f h faulty e = absurd h
first_told n m earlier (l ∷ ls) [] line later f h faulty e = absurd h
first_told n m earlier (l ∷ ls) (s ∷ said) line later f h faulty e =
    rw (
      said_told earlier (words_of l) s h.0 h.1,
      first_told (n + 1) m (earlier ++ added_nodes s) ls said line later f h.2 (subst (λ e. AreFaulty f e (words_of line)) (sym (append_assoc earlier (added_nodes s) (flat_map added_nodes said))) faulty)
          (omega arith),
    ) refl

-- ---- the verdict on a text

abbrev after_first : List (List ℕ) → Told
after_first [] = Ok []
after_first (l ∷ ls) = told 2 [] ls

-- what is reported of a text, given what is reported of its lines
abbrev judged : Bool → Told → Told
judged true t = t
judged false t = Err (NotMacro, 1)

-- what is reported of a text
abbrev of_text : List ℕ → Told
of_text bytes = judged (begins_macro bytes) (after_first (lines_of bytes))

file_judged : (bytes : List ℕ) (file : MacrocellFile) (h : IsMacrocellFile bytes file) → of_text bytes ≡ Ok h.said
file_judged bytes file h = rw (h.begins, h.lines_are, lines_told 2 [] h.lines h.said h.say) refl

line_judged : (bytes : List ℕ) (f : MacroFault) (n : ℕ) (h : HasMacrocellLine bytes (AreFaulty f)) → n ≡ length h.good + 2 → of_text bytes ≡ Err (f, n)
line_judged bytes f n h e = rw (h.begins, h.lines_are, first_told 2 n [] h.good h.said h.line h.later f h.say h.holds e) refl

fault_judged : (bytes : List ℕ) (f : MacroFault) (n : ℕ) → IsFirstMacrocellFaultOn bytes f n → of_text bytes ≡ Err (f, n)
fault_judged bytes NotMacro n h = rw (h.0, h.1) refl
fault_judged bytes f n h = line_judged bytes f n h.0 h.1

-- ---- a fault and its line

-- each first fault stands on a line
pub on_a_line : (bytes : List ℕ) (f : MacroFault) → IsFirstMacrocellFault bytes f → (n : ℕ) × IsFirstMacrocellFaultOn bytes f n
on_a_line bytes NotMacro h = (1, (h, refl))
on_a_line bytes Range h = absurd h
on_a_line bytes Memory h = absurd h
on_a_line bytes f h = (length h.good + 2, (h, refl))

-- what stands on a line is the first fault
pub is_first : (bytes : List ℕ) (f : MacroFault) (n : ℕ) → IsFirstMacrocellFaultOn bytes f n → IsFirstMacrocellFault bytes f
is_first bytes Range n h = absurd h.0.holds
is_first bytes Memory n h = absurd h.0.holds
is_first bytes f n h = h.0

-- a first fault is the text's fault
fault_on : (bytes : List ℕ) (f : MacroFault) → IsFirstMacrocellFault bytes f → IsMacrocellFault bytes f
fault_on bytes Range h = absurd h
fault_on bytes Memory h = absurd h
fault_on bytes f h = h

-- what is met at a line is the text's fault
pub reading_fault : (bytes : List ℕ) (f : MacroFault) (line : Option ℕ) → IsMacrocellReadingFault bytes f line → IsMacrocellFaultOn bytes f line
reading_fault bytes f None h = subst (λ g. IsMacrocellFaultOn bytes g None) (sym h.0) (inl h.1, λ p. p)
reading_fault bytes f (Some n) h = (fault_on bytes f (is_first bytes f n h), h)

-- at a line no fault but Memory has no line
pub not_memory : (bytes : List ℕ) (f : MacroFault) (n : ℕ) → f ≢ Memory → HasFaultOn bytes f n → IsFirstMacrocellFaultOn bytes f n
not_memory bytes Memory n other h = absurd (other refl)
not_memory bytes f n other h = h

-- a text that is a file, but is refused
pub refused : (bytes : List ℕ) (said : List MacrocellLine) (f : MacroFault) → IsMacrocellFile bytes (file_of_lines said) → (f ≡ Memory) ⊎ ((f ≡ Range) × IsMacrocellOutOfRange (file_of_lines said)) → IsMacrocellFaultOn bytes f None
refused bytes said f is (inl memory) = subst (λ g. IsMacrocellFaultOn bytes g None) (sym memory) (inr (file_of_lines said, is), λ p. p)
refused bytes said f is (inr (range, out)) = subst (λ g. IsMacrocellFaultOn bytes g None) (sym range) ((file_of_lines said, is, out), λ p. p)

-- ---- the laws

same_ok : (t : Told) (a b : List MacrocellLine) → t ≡ Ok a → t ≡ Ok b → a ≡ b
same_ok t a b e f = cc

same_err : (t : Told) (a b : MacroFault × ℕ) → t ≡ Err a → t ≡ Err b → a ≡ b
same_err t a b e f = cc

ok_err : (t : Told) (a : List MacrocellLine) (b : MacroFault × ℕ) → t ≡ Ok a → t ≡ Err b → ⊥
ok_err t a b e f = absurd (let no : ⊥ = cc in no)

abbrev make : List Node → List ℕ → ℕ → MacrocellFile
make nodes rule_text generation = record { nodes = nodes; rule_text = rule_text; generation = generation }

same_file : (n m : List Node) (r s : List ℕ) (g k : ℕ) → n ≡ m → r ≡ s → g ≡ k → make n r g ≡ make m s k
same_file n m r s g k a b c = rw (a, b, c) refl

file_is : (bytes : List ℕ) (file : MacrocellFile) (h : IsMacrocellFile bytes file) → file ≡ file_of_lines h.said
file_is bytes file h =
    same_file file.nodes (flat_map added_nodes h.said) file.rule_text (last_rule default_rule h.said) file.generation (last_line_generation 0 h.said) h.nodes h.rule_text h.generation

pub one_file : (bytes : List ℕ) (f g : MacrocellFile) → IsMacrocellFile bytes f → IsMacrocellFile bytes g → f ≡ g
one_file bytes f g h k =
    let same = same_ok (of_text bytes) h.said k.said (file_judged bytes f h) (file_judged bytes g k) in
    file_is bytes f h ∙ (ap file_of_lines same ∙ sym (file_is bytes g k))

one_fault_on : (bytes : List ℕ) (f g : MacroFault) (m n : ℕ) → IsFirstMacrocellFaultOn bytes f m → IsFirstMacrocellFaultOn bytes g n → ◌≡◌ {A = MacroFault × ℕ} (f, m) (g, n)
one_fault_on bytes f g m n h k = same_err (of_text bytes) (f, m) (g, n) (fault_judged bytes f m h) (fault_judged bytes g n k)

pub one_faulty_line : (bytes : List ℕ) (m n : ℕ) → IsFaultyMacrocellLine bytes m → IsFaultyMacrocellLine bytes n → m ≡ n
one_faulty_line bytes m n h k = ap (λ p. p.1) (one_fault_on bytes h.0 k.0 m n h.1 k.1)

pub one_first_fault : (bytes : List ℕ) (f g : MacroFault) → IsFirstMacrocellFault bytes f → IsFirstMacrocellFault bytes g → f ≡ g
one_first_fault bytes f g h k =
    let a = on_a_line bytes f h in
    let b = on_a_line bytes g k in
    ap (λ p. p.0) (one_fault_on bytes f g a.0 b.0 a.1 b.1)

pub no_fault_in_a_file : (bytes : List ℕ) (file : MacrocellFile) (f : MacroFault) → IsMacrocellFile bytes file → IsFirstMacrocellFault bytes f → ⊥
no_fault_in_a_file bytes file f h k =
    let a = on_a_line bytes f k in
    ok_err (of_text bytes) h.said (f, a.0) (file_judged bytes file h) (fault_judged bytes f a.0 a.1)

-- a fault is the first of the spelling, or it is reported of a file
fault_kind : (bytes : List ℕ) (f : MacroFault) → f ≢ Memory → IsMacrocellFault bytes f → IsFirstMacrocellFault bytes f ⊎ ((f ≡ Range) × ((file : MacrocellFile) × IsMacrocellFile bytes file × IsMacrocellOutOfRange file))
fault_kind bytes Range other h = inr (refl, h)
fault_kind bytes Memory other h = absurd (other refl)
fault_kind bytes f other h = inl h

pub one_fault : (bytes : List ℕ) (f g : MacroFault) → f ≢ Memory → g ≢ Memory → IsMacrocellFault bytes f → IsMacrocellFault bytes g → f ≡ g
one_fault bytes f g m n h k =
    elim (fault_kind bytes f m h) [
      | inl a ↦ elim (fault_kind bytes g n k) [
        | inl b ↦ one_first_fault bytes f g a b
        | inr b ↦ absurd (no_fault_in_a_file bytes b.1.0 f b.1.1 a)
      ]
      | inr a ↦ elim (fault_kind bytes g n k) [
        | inl b ↦ absurd (no_fault_in_a_file bytes a.1.0 g a.1.1 b)
        | inr b ↦ a.0 ∙ sym b.0
      ]
    ]

pub no_fault_within_range : (bytes : List ℕ) (file : MacrocellFile) (f : MacroFault) → IsMacrocellFile bytes file → IsMacrocellWithinRange file → f ≢ Memory → IsMacrocellFault bytes f → ⊥
no_fault_within_range bytes file f h within other k =
    elim (fault_kind bytes f other k) [
      | inl a ↦ no_fault_in_a_file bytes file f h a
      | inr a ↦ a.1.2 (subst IsMacrocellWithinRange (one_file bytes file a.1.0 h a.1.1) within)
    ]
