-- A word of a `#CXRLE` line is good or bad, not both, and the first bad one stands at one place of a text.
use Rattle.std.proofs.Common.{◌≡◌, ℕ, ◌<◌, ◌≤◌, ◌^◌, inl, inr, true, List, [], ◌∷◌, ◌++◌, drop, codes, nat_eq, refl, sym, ap, ap₂, subst, ◌∙◌, true≢false, arith}
use Rattle.std.specs.List.{AllZip, starts_with}
use Rattle.std.proofs.lemmas.List.{append_cancel_left}
use Rattle.ca_plane.specs.Prelude.{value}
use Rattle.ca_rle.specs.declared.fault.RleFault.{RleFault}
use Rattle.ca_rle.specs.declared.fault.RleFault.TheVariants.{Syntax, GenTooLarge}
use Rattle.ca_rle.specs.Prelude.{extended_words, CxrleWord, Corner, Generation, Nothing, WordSays, IsBadWord, HasBadWord}
use Rattle.ca_rle.proofs.OneHeader.{begins_gen}
use Rattle.ca_rle.proofs.OnePlace.{IsGood, EndsPreamble, one_place}

-- ---- one word

-- no word begins as `Pos=` and as `Gen=`
gen_is_no_pos : (word more : List ℕ) → word ≡ codes "Gen=" ++ more → starts_with nat_eq word (codes "Pos=") ≡ true → ⊥
gen_is_no_pos word more e h = true≢false (sym h ∙ rw e refl)

pos_is_no_gen : (word more : List ℕ) → word ≡ codes "Pos=" ++ more → starts_with nat_eq word (codes "Gen=") ≡ true → ⊥
pos_is_no_gen word more e h = true≢false (sym h ∙ rw e refl)

pub below_and_above : (a b : ℕ) → a < b → b ≤ a → ⊥
below_and_above a b h k = omega arith

-- what a word says is no fault
pub no_bad_word : (word : List ℕ) (said : CxrleWord) (f : RleFault) → WordSays word said → IsBadWord word f → ⊥
no_bad_word word (Corner x y) Syntax says (inl (h, bad)) = bad x y says
no_bad_word word (Corner x y) Syntax (a, b, e, p, q) (inr (h, bad)) = pos_is_no_gen word (a ++ 44 ∷ b) e h
no_bad_word word (Corner x y) GenTooLarge (a, b, e, p, q) (digits, f, d, large) = pos_is_no_gen word (a ++ 44 ∷ b) e (begins_gen word digits f)
no_bad_word word (Generation count) Syntax (digits, e, d, n, small) (inl (h, bad)) = gen_is_no_pos word digits e h
no_bad_word word (Generation count) Syntax (digits, e, d, n, small) (inr (h, bad)) = bad digits e d
no_bad_word word (Generation count) GenTooLarge (digits, e, d, n, small) (others, f, c, large) =
    let same = append_cancel_left (codes "Gen=") digits others (sym e ∙ f) in
    below_and_above count (2 ^ 63) small (subst (λ (m : ℕ). 2 ^ 63 ≤ m) (sym (n ∙ ap value same)) large)
no_bad_word word Nothing Syntax (p, g) (inl (h, bad)) = true≢false (sym h ∙ p)
no_bad_word word Nothing Syntax (p, g) (inr (h, bad)) = true≢false (sym h ∙ g)
no_bad_word word Nothing GenTooLarge (p, g) (digits, e, d, large) = true≢false (sym (begins_gen word digits e) ∙ g)
no_bad_word word said f says bad = bad

-- a word has one fault at most
pub one_word_fault : (word : List ℕ) (f g : RleFault) → IsBadWord word f → IsBadWord word g → f ≡ g
one_word_fault word Syntax Syntax p q = refl
one_word_fault word GenTooLarge GenTooLarge p q = refl
one_word_fault word Syntax GenTooLarge (inl (h, bad)) (digits, e, d, large) = absurd (gen_is_no_pos word digits e h)
one_word_fault word Syntax GenTooLarge (inr (h, bad)) (digits, e, d, large) = absurd (bad digits e d)
one_word_fault word GenTooLarge Syntax (digits, e, d, large) (inl (h, bad)) = absurd (gen_is_no_pos word digits e h)
one_word_fault word GenTooLarge Syntax (digits, e, d, large) (inr (h, bad)) = absurd (bad digits e d)
one_word_fault word Syntax g p q = absurd q
one_word_fault word GenTooLarge g p q = absurd q
one_word_fault word f g p q = absurd p

-- ---- words

abbrev first_word : List (List ℕ) → List ℕ
first_word [] = []
first_word (w ∷ ws) = w

-- a bad word is none of good words
pub no_bad_among : (good : List (List ℕ)) (word : List ℕ) (later : List (List ℕ)) (said : List CxrleWord) (f : RleFault) → AllZip WordSays (good ++ word ∷ later) said → IsBadWord word f → ⊥
no_bad_among [] word later [] f p bad = p
no_bad_among [] word later (s ∷ ss) f p bad = no_bad_word word s f p.0 bad
no_bad_among (w ∷ ws) word later [] f p bad = p
no_bad_among (w ∷ ws) word later (s ∷ ss) f p bad = no_bad_among ws word later ss f p.1 bad

-- the first bad word of some words is one
pub first_bad_word : (good others : List (List ℕ)) (word other : List ℕ) (later after : List (List ℕ)) (a b : List CxrleWord) (f g : RleFault)
    → AllZip WordSays good a → IsBadWord word f → AllZip WordSays others b → IsBadWord other g → good ++ word ∷ later ≡ others ++ other ∷ after → (good ≡ others) × (word ≡ other)
first_bad_word [] [] word other later after a b f g p x q y e = (refl, ap first_word e)
first_bad_word [] (o ∷ os) word other later after a [] f g p x q y e = absurd q
first_bad_word [] (o ∷ os) word other later after a (s ∷ ss) f g p x q y e = absurd (no_bad_word word s f (subst (λ (w : List ℕ). WordSays w s) (sym (ap first_word e)) q.0) x)
first_bad_word (w ∷ ws) [] word other later after [] b f g p x q y e = absurd p
first_bad_word (w ∷ ws) [] word other later after (s ∷ ss) b f g p x q y e = absurd (no_bad_word other s g (subst (λ (v : List ℕ). WordSays v s) (ap first_word e) p.0) y)
first_bad_word (w ∷ ws) (o ∷ os) word other later after [] b f g p x q y e = absurd p
first_bad_word (w ∷ ws) (o ∷ os) word other later after (s ∷ ss) [] f g p x q y e = absurd q
first_bad_word (w ∷ ws) (o ∷ os) word other later after (s ∷ ss) (t ∷ ts) f g p x q y e =
    let others = first_bad_word ws os word other later after ss ts f g p.1 x q.1 y (ap (λ (l : List (List ℕ)). drop 1 l) e) in
    (ap₂ (λ (v : List ℕ) (vs : List (List ℕ)). v ∷ vs) (ap first_word e) others.0, others.1)

-- ---- a text

-- a line with a bad word isn't good
pub bad_line : (bytes : List ℕ) (f : RleFault) (h : HasBadWord bytes f) → IsGood h.line → ⊥
bad_line bytes f h (comment, (said, good)) = no_bad_among h.among.good h.among.word h.among.later said f (subst (λ (l : List (List ℕ)). AllZip WordSays l said) h.among.words_are good) h.among.bad

-- the place of a line with a bad word
pub bad_word_place : (bytes : List ℕ) (f : RleFault) (h : HasBadWord bytes f) → EndsPreamble bytes h.lines h.line h.more
bad_word_place bytes f h = record { said = h.said; follows = h.follows; bad_or_last = λ good. absurd (bad_line bytes f h good) }

-- a text's first bad word is one, and stands at one place
pub one_bad_word : (bytes : List ℕ) (f g : RleFault) (p : HasBadWord bytes f) (q : HasBadWord bytes g) → (p.lines ≡ q.lines) × (p.line ≡ q.line) × (p.among.good ≡ q.among.good) × (p.among.word ≡ q.among.word) × (f ≡ g)
one_bad_word bytes f g p q =
    let place = one_place bytes p.lines q.lines p.line q.line p.more q.more (bad_word_place bytes f p) (bad_word_place bytes g q) in
    let a = p.among in
    let b = q.among in
    let words = first_bad_word a.good b.good a.word b.word a.later b.later a.good_said b.good_said f g a.good_words a.bad b.good_words b.bad (sym a.words_are ∙ ap extended_words place.1 ∙ b.words_are) in
    (place.0, place.1, words.0, words.1, one_word_fault b.word f g (subst (λ (w : List ℕ). IsBadWord w f) words.1 a.bad) b.bad)
