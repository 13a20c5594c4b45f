-- A text's lines say one thing, or one of them is the first that is faulty.
use Rattle.std.proofs.Common.{◌≡◌, ◌≢◌, ℕ, suc, ◌+◌, List, [], ◌∷◌, ◌++◌, length, get_or, Option, Some, None, is_some, codes, ◌⊎◌, inl, inr, refl, sym, ap, subst, ◌∙◌, arith}
use Rattle.std.specs.Str.{bytes_eq}
use Rattle.std.proofs.lemmas.Bool.{false≢true}
use Rattle.std.proofs.lemmas.List.{append-nil}
use Rattle.ca_plane.specs.Prelude.{lines_of, words_of}
use Rattle.ca_text.specs.declared.fault.ClaimFault.{ClaimFault}
use Rattle.ca_text.specs.declared.fault.ClaimFault.TheVariants.{Syntax, Number, UnknownName, NameTaken, Memory}
use Rattle.ca_text.specs.Prelude.{HasGoodNumbers, Claim, ClaimTextLine, Version, Rule, Load, Claims, ClaimWordsSay, IsAllowedLine, ClaimLinesSay, IsClaimText, said_lines, IsFirstClaimFault}
use Rattle.ca_text.specs.inner.Reading.{SaysNext, HasClaimFault}
use Rattle.ca_text.proofs.KindWords.{same_words, begins_claim, claim_begins}
use Rattle.ca_text.proofs.LinesSaid.{one_before}

-- words make one claim
same_claim : (earlier : List ClaimTextLine) (words : List (List ℕ)) (a b : Claim) → ClaimWordsSay earlier words (Claims a) → ClaimWordsSay earlier words (Claims b) → a ≡ b
same_claim earlier words a b h k =
    let same = same_words words a.patterns b.patterns a.kind b.kind h.0 k.0 in
    let patterns = same.0 in
    let kind = same.1 in
    λ i. record { patterns = patterns i; kind = kind i }

-- no name is loaded by words that make a claim
load_or_claim : (earlier : List ClaimTextLine) (words : List (List ℕ)) (name path : List ℕ) (claim : Claim) → ClaimWordsSay earlier words (Load name path) → ClaimWordsSay earlier words (Claims claim) → ⊥
load_or_claim earlier words name path claim h k = false≢true (sym (ap begins_claim h) ∙ claim_begins words claim.patterns claim.kind k.0)

-- nor is a table
rule_or_claim : (earlier : List ClaimTextLine) (words : List (List ℕ)) (path : List ℕ) (claim : Claim) → ClaimWordsSay earlier words (Rule path) → ClaimWordsSay earlier words (Claims claim) → ⊥
rule_or_claim earlier words path claim h k = false≢true (sym (ap begins_claim h) ∙ claim_begins words claim.patterns claim.kind k.0)

-- nor do they tell the version
version_or_claim : (earlier : List ClaimTextLine) (words : List (List ℕ)) (claim : Claim) → ClaimWordsSay earlier words Version → ClaimWordsSay earlier words (Claims claim) → ⊥
version_or_claim earlier words claim h k = false≢true (sym (ap begins_claim h.0) ∙ claim_begins words claim.patterns claim.kind k.0)

-- equal lists of words have the same words after the first
behind_keyword : (w : List ℕ) (vs ws : List (List ℕ)) → w ∷ vs ≡ w ∷ ws → vs ≡ ws
behind_keyword w vs ws e = cc

-- words whose keyword is `claims` tell the version or say nothing
pub not_version : (earlier : List ClaimTextLine) (ws : List (List ℕ)) → (ws ≡ codes "2" ∷ [] → earlier ≡ [] → ⊥) → (line : ClaimTextLine) → ClaimWordsSay earlier (codes "claims" ∷ ws) line → ⊥
not_version earlier ws none Version h = none (behind_keyword (codes "claims") ws (codes "2" ∷ []) h.0) h.1
not_version earlier ws none (Rule path) h = false≢true (sym (ap (λ words. bytes_eq (get_or words 0 []) (codes "claims")) h) ∙ refl)
not_version earlier ws none (Load name path) h = false≢true (sym (ap (λ words. bytes_eq (get_or words 0 []) (codes "claims")) h) ∙ refl)
not_version earlier ws none (Claims claim) h = false≢true (claim_begins (codes "claims" ∷ ws) claim.patterns claim.kind h.0)

-- words say one thing
pub same_line : (earlier : List ClaimTextLine) (words : List (List ℕ)) (a b : ClaimTextLine) → ClaimWordsSay earlier words a → ClaimWordsSay earlier words b → a ≡ b
same_line earlier words Version Version h k = refl
same_line earlier words Version (Rule q) h k = let same = sym h.0 ∙ k in cc
same_line earlier words Version (Load m q) h k = let same = sym h.0 ∙ k in cc
same_line earlier words Version (Claims b) h k = absurd (version_or_claim earlier words b h k)
same_line earlier words (Rule p) Version h k = let same = sym k.0 ∙ h in cc
same_line earlier words (Rule p) (Rule q) h k = cc
same_line earlier words (Rule p) (Load m q) h k = cc
same_line earlier words (Rule p) (Claims b) h k = absurd (rule_or_claim earlier words p b h k)
same_line earlier words (Load n p) Version h k = let same = sym k.0 ∙ h in cc
same_line earlier words (Load n p) (Rule q) h k = cc
same_line earlier words (Load n p) (Load m q) h k = cc
same_line earlier words (Load n p) (Claims b) h k = absurd (load_or_claim earlier words n p b h k)
same_line earlier words (Claims a) Version h k = absurd (version_or_claim earlier words a k h)
same_line earlier words (Claims a) (Rule q) h k = absurd (rule_or_claim earlier words q a k h)
same_line earlier words (Claims a) (Load m q) h k = absurd (load_or_claim earlier words m q a k h)
same_line earlier words (Claims a) (Claims b) h k = ap Claims (same_claim earlier words a b h k)

-- a next line says one thing
pub same_next : (earlier : List ClaimTextLine) (words : List (List ℕ)) (s t : Option ClaimTextLine) → SaysNext earlier words s → SaysNext earlier words t → s ≡ t
same_next earlier words None None h k = refl
same_next earlier words None (Some b) h k = absurd (false≢true (sym k.0 ∙ h))
same_next earlier words (Some a) None h k = absurd (false≢true (sym h.0 ∙ k))
same_next earlier words (Some a) (Some b) h k = ap Some (same_line earlier words a b h.1 k.1)

-- what is said before the lines that follow the first
after_first : List ClaimTextLine → Option ClaimTextLine → List ClaimTextLine
after_first earlier None = earlier
after_first earlier (Some line) = earlier ++ line ∷ []

-- the first line and those after it
first_says : (earlier : List ClaimTextLine) (l : List ℕ) (ls : List (List ℕ)) (s : Option ClaimTextLine) (said : List (Option ClaimTextLine)) → ClaimLinesSay earlier (l ∷ ls) (s ∷ said)
    → SaysNext earlier (words_of l) s × ClaimLinesSay (after_first earlier s) ls said
unfolding after_first
first_says earlier l ls None said h = (h.0, h.1)
first_says earlier l ls (Some line) said h = ((h.0, h.1, h.2), h.3)

-- lines say one thing
pub same_said : (earlier : List ClaimTextLine) (lines : List (List ℕ)) (s t : List (Option ClaimTextLine)) → ClaimLinesSay earlier lines s → ClaimLinesSay earlier lines t → s ≡ t
same_said earlier [] [] [] h k = refl
same_said earlier [] [] (t ∷ ts) h k = absurd k
same_said earlier (l ∷ ls) (s ∷ ss) [] h k = absurd k
same_said earlier (l ∷ ls) (s ∷ ss) (t ∷ ts) h k =
    let a = first_says earlier l ls s ss h in
    let b = first_says earlier l ls t ts k in
    let same : s ≡ t = same_next earlier (words_of l) s t a.0 b.0 in
    let later : ss ≡ ts = same_said (after_first earlier t) ls ss ts (subst (λ o. ClaimLinesSay (after_first earlier o) ls ss) same a.1) b.1 in
    λ i. same i ∷ later i
same_said earlier lines s t h k = absurd h

-- what lines say after the first, and what the first says
spoken_first : (earlier : List ClaimTextLine) (s : Option ClaimTextLine) (said : List (Option ClaimTextLine)) → earlier ++ said_lines (s ∷ said) ≡ after_first earlier s ++ said_lines said
unfolding after_first
spoken_first earlier None said = refl
spoken_first earlier (Some line) said = sym (one_before earlier line (said_lines said))

-- a faulty line says nothing that a line may say
fault_says_none : (n : ℕ) (earlier : List ClaimTextLine) (words : List (List ℕ)) (f : ClaimFault) (s : Option ClaimTextLine) → f ≢ Memory → HasClaimFault n earlier words f → SaysNext earlier words s → ⊥
fault_says_none n earlier words (Syntax line) None ne h k = false≢true (sym h.1.0 ∙ k)
fault_says_none n earlier words (Syntax line) (Some a) ne h k = h.1.1 a k.1
fault_says_none n earlier words (Number line) None ne h k = false≢true (sym h.1.0 ∙ k)
fault_says_none n earlier words (Number line) (Some a) ne h k =
    let allowed = subst (IsAllowedLine earlier) (same_line earlier words a (Claims h.1.1) k.1 h.1.2) k.2 in
    h.1.3 allowed.0
fault_says_none n earlier words (UnknownName line) None ne h k = false≢true (sym h.1.0 ∙ k)
fault_says_none n earlier words (UnknownName line) (Some a) ne h k =
    let allowed = subst (IsAllowedLine earlier) (same_line earlier words a (Claims h.1.1) k.1 h.1.2) k.2 in
    h.1.4 allowed.1
fault_says_none n earlier words (NameTaken line) None ne h k = false≢true (sym h.1.0 ∙ k)
fault_says_none n earlier words (NameTaken line) (Some a) ne h k =
    let allowed = subst (IsAllowedLine earlier) (same_line earlier words a (Load h.1.1 h.1.2) k.1 h.1.3) k.2 in
    false≢true (sym (ap is_some allowed) ∙ h.1.4)
fault_says_none n earlier words Memory s ne h k = ne refl

-- a line has one fault
same_fault : (n : ℕ) (earlier : List ClaimTextLine) (words : List (List ℕ)) (f g : ClaimFault) → f ≢ Memory → g ≢ Memory → HasClaimFault n earlier words f → HasClaimFault n earlier words g → f ≡ g
same_fault n earlier words (Syntax a) (Syntax b) x y h k = ap Syntax (h.0 ∙ sym k.0)
same_fault n earlier words (Syntax a) (Number b) x y h k = absurd (h.1.1 (Claims k.1.1) k.1.2)
same_fault n earlier words (Syntax a) (UnknownName b) x y h k = absurd (h.1.1 (Claims k.1.1) k.1.2)
same_fault n earlier words (Syntax a) (NameTaken b) x y h k = absurd (h.1.1 (Load k.1.1 k.1.2) k.1.3)
same_fault n earlier words (Number a) (Syntax b) x y h k = absurd (k.1.1 (Claims h.1.1) h.1.2)
same_fault n earlier words (Number a) (Number b) x y h k = ap Number (h.0 ∙ sym k.0)
same_fault n earlier words (Number a) (UnknownName b) x y h k = absurd (h.1.3 (subst (λ c. HasGoodNumbers c.kind) (same_claim earlier words k.1.1 h.1.1 k.1.2 h.1.2) k.1.3))
same_fault n earlier words (Number a) (NameTaken b) x y h k = absurd (load_or_claim earlier words k.1.1 k.1.2 h.1.1 k.1.3 h.1.2)
same_fault n earlier words (UnknownName a) (Syntax b) x y h k = absurd (k.1.1 (Claims h.1.1) h.1.2)
same_fault n earlier words (UnknownName a) (Number b) x y h k = absurd (k.1.3 (subst (λ c. HasGoodNumbers c.kind) (same_claim earlier words h.1.1 k.1.1 h.1.2 k.1.2) h.1.3))
same_fault n earlier words (UnknownName a) (UnknownName b) x y h k = ap UnknownName (h.0 ∙ sym k.0)
same_fault n earlier words (UnknownName a) (NameTaken b) x y h k = absurd (load_or_claim earlier words k.1.1 k.1.2 h.1.1 k.1.3 h.1.2)
same_fault n earlier words (NameTaken a) (Syntax b) x y h k = absurd (k.1.1 (Load h.1.1 h.1.2) h.1.3)
same_fault n earlier words (NameTaken a) (Number b) x y h k = absurd (load_or_claim earlier words h.1.1 h.1.2 k.1.1 h.1.3 k.1.2)
same_fault n earlier words (NameTaken a) (UnknownName b) x y h k = absurd (load_or_claim earlier words h.1.1 h.1.2 k.1.1 h.1.3 k.1.2)
same_fault n earlier words (NameTaken a) (NameTaken b) x y h k = ap NameTaken (h.0 ∙ sym k.0)
same_fault n earlier words Memory g x y h k = absurd (x refl)
same_fault n earlier words f Memory x y h k = absurd (y refl)

-- the first faulty one of these lines, the first of which has the number n, has this fault
abbrev FirstAt : ℕ → List ClaimTextLine → List (List ℕ) → ClaimFault → Type 0
FirstAt n earlier [] f = ⊥
FirstAt n earlier (l ∷ ls) f = HasClaimFault n earlier (words_of l) f ⊎ ((s : Option ClaimTextLine) × SaysNext earlier (words_of l) s × FirstAt (n + 1) (after_first earlier s) ls f)

-- a fault after good lines is the first
first_at : (n : ℕ) (earlier : List ClaimTextLine) (before : List (List ℕ)) (l : List ℕ) (later : List (List ℕ)) (said : List (Option ClaimTextLine)) (f : ClaimFault) → ClaimLinesSay earlier before said
    → HasClaimFault (length before + n) (earlier ++ said_lines said) (words_of l) f → FirstAt n earlier (before ++ l ∷ later) f
first_at n earlier [] l later [] f good h =
    inl (subst (λ ls. HasClaimFault n ls (words_of l) f) (append-nil earlier) (subst (λ m. HasClaimFault m (earlier ++ []) (words_of l) f) (let e : 0 + n ≡ n = omega arith in e) h))
first_at n earlier [] l later (s ∷ said) f good h = absurd good
first_at n earlier (k ∷ ks) l later [] f good h = absurd good
first_at n earlier (k ∷ ks) l later (s ∷ said) f good h =
    let a = first_says earlier k ks s said good in
    let counted : suc (length ks) + n ≡ length ks + (n + 1) = omega arith in
    inr (s, a.0, first_at (n + 1) (after_first earlier s) ks l later said f a.1 (subst (λ ls. HasClaimFault (length ks + (n + 1)) ls (words_of l) f) (spoken_first earlier s said) (subst (λ m. HasClaimFault m (earlier ++ said_lines (s ∷ said)) (words_of l) f) counted h)))

-- the first fault of a text is that of its lines
of_lines : (bytes : List ℕ) (f : ClaimFault) → f ≢ Memory → IsFirstClaimFault bytes f → FirstAt 1 [] (lines_of bytes) f
of_lines bytes (Syntax n) ne h = subst (λ ls. FirstAt 1 [] ls (Syntax n)) (sym h.among) (first_at 1 [] h.before h.line h.later h.said (Syntax n) h.good (h.number, h.holds))
of_lines bytes (Number n) ne h = subst (λ ls. FirstAt 1 [] ls (Number n)) (sym h.among) (first_at 1 [] h.before h.line h.later h.said (Number n) h.good (h.number, h.holds))
of_lines bytes (UnknownName n) ne h = subst (λ ls. FirstAt 1 [] ls (UnknownName n)) (sym h.among) (first_at 1 [] h.before h.line h.later h.said (UnknownName n) h.good (h.number, h.holds))
of_lines bytes (NameTaken n) ne h = subst (λ ls. FirstAt 1 [] ls (NameTaken n)) (sym h.among) (first_at 1 [] h.before h.line h.later h.said (NameTaken n) h.good (h.number, h.holds))
of_lines bytes Memory ne h = absurd (ne refl)

-- lines that each say something have no fault
no_fault : (n : ℕ) (earlier : List ClaimTextLine) (lines : List (List ℕ)) (said : List (Option ClaimTextLine)) (f : ClaimFault) → f ≢ Memory → ClaimLinesSay earlier lines said → FirstAt n earlier lines f → ⊥
no_fault n earlier [] said f ne good h = h
no_fault n earlier (l ∷ ls) [] f ne good h = good
no_fault n earlier (l ∷ ls) (s ∷ said) f ne good (inl h) = fault_says_none n earlier (words_of l) f s ne h (first_says earlier l ls s said good).0
no_fault n earlier (l ∷ ls) (s ∷ said) f ne good (inr h) =
    let a = first_says earlier l ls s said good in
    let same : h.0 ≡ s = same_next earlier (words_of l) h.0 s h.1 a.0 in
    no_fault (n + 1) (after_first earlier s) ls said f ne a.1 (subst (λ o. FirstAt (n + 1) (after_first earlier o) ls f) same h.2)

-- lines have one first fault
same_first : (n : ℕ) (earlier : List ClaimTextLine) (lines : List (List ℕ)) (f g : ClaimFault) → f ≢ Memory → g ≢ Memory → FirstAt n earlier lines f → FirstAt n earlier lines g → f ≡ g
same_first n earlier [] f g x y h k = absurd h
same_first n earlier (l ∷ ls) f g x y (inl h) (inl k) = same_fault n earlier (words_of l) f g x y h k
same_first n earlier (l ∷ ls) f g x y (inl h) (inr k) = absurd (fault_says_none n earlier (words_of l) f k.0 x h k.1)
same_first n earlier (l ∷ ls) f g x y (inr h) (inl k) = absurd (fault_says_none n earlier (words_of l) g h.0 y k h.1)
same_first n earlier (l ∷ ls) f g x y (inr h) (inr k) =
    let same : k.0 ≡ h.0 = same_next earlier (words_of l) k.0 h.0 k.1 h.1 in
    same_first (n + 1) (after_first earlier h.0) ls f g x y h.2 (subst (λ o. FirstAt (n + 1) (after_first earlier o) ls g) same k.2)

-- a text whose lines say something has no fault
pub no_first_fault : (bytes : List ℕ) (said : List (Option ClaimTextLine)) (f : ClaimFault) → f ≢ Memory → IsClaimText bytes said → IsFirstClaimFault bytes f → ⊥
no_first_fault bytes said f ne good h = no_fault 1 [] (lines_of bytes) said f ne good (of_lines bytes f ne h)

-- a text has one first fault
pub same_first_fault : (bytes : List ℕ) (f g : ClaimFault) → f ≢ Memory → g ≢ Memory → IsFirstClaimFault bytes f → IsFirstClaimFault bytes g → f ≡ g
same_first_fault bytes f g x y h k = same_first 1 [] (lines_of bytes) f g x y (of_lines bytes f x h) (of_lines bytes g y k)
