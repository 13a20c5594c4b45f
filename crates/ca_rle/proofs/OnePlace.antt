-- The lines that may stand before a header end at one place of a text.
use Rattle.std.proofs.Common.{◌≡◌, ℕ, true, false, not, IsTrue, List, [], ◌∷◌, ◌++◌, Option, None, refl, sym, ap₂, subst, ◌∙◌, append_assoc, true≢false, ◌⊎◌, inl, inr}
use Rattle.std.specs.List.{flat_map, AllZip}
use Rattle.std.proofs.lemmas.List.{append_cancel_left}
use Rattle.ca_plane.specs.Prelude.{is_line_end, is_end_or}
use Rattle.ca_rle.specs.Prelude.{IsHeader, is_front_line, extended_words, CxrleWord, WordSays, IsLine, line_with_lf, IsPreamble, FollowsPreamble, IsHeaded, HasNoHeader, HasXlifeRule}
use Rattle.ca_plane.proofs.Fronts.{one_split}
use Rattle.ca_rle.proofs.OneHeader.{no_comment}

-- ---- lines

line_stops : (bytes : List ℕ) → IsTrue (is_end_or is_line_end bytes) → IsTrue (is_end_or (λ b. not (not (is_line_end b))) bytes)
line_stops [] h = refl
line_stops (b ∷ bs) h = rw h

-- bytes are a line and what stands after it in one way
pub one_line : (a b m n : List ℕ) → IsLine a → IsLine b → IsTrue (is_end_or is_line_end m) → IsTrue (is_end_or is_line_end n) → a ++ m ≡ b ++ n → (a ≡ b) × (m ≡ n)
one_line a b m n p q h k e = one_split (λ c. not (is_line_end c)) a b m n p q (line_stops m h) (line_stops n k) e

-- after the first line stand its LF and the others
pub after_first_line : (line : List ℕ) (lines : List (List ℕ)) (more : List ℕ) → flat_map line_with_lf (line ∷ lines) ++ more ≡ line ++ (10 ∷ (flat_map line_with_lf lines ++ more))
after_first_line line lines more = simp append_assoc

-- ---- what words say

-- what the first words say, and what the others do
pub says_split : (words others : List (List ℕ)) (said : List CxrleWord) → AllZip WordSays (words ++ others) said → (a : List CxrleWord) × (b : List CxrleWord) × AllZip WordSays words a × AllZip WordSays others b
says_split [] others said h = ([], said, tt, h)
says_split (w ∷ ws) others [] h = absurd h
says_split (w ∷ ws) others (s ∷ ss) (h, hs) = let later = says_split ws others ss hs in (s ∷ later.0, later.1, (h, later.2), later.3)

-- ---- the place

-- a comment line whose words are good
abbrev pub IsGood : List ℕ → Type 0
IsGood line = (is_front_line line ≡ true) × ((said : List CxrleWord) × AllZip WordSays (extended_words line) said)

-- after good lines stands a line that is none of them: it isn't good, or no LF ends it
pub record EndsPreamble (bytes : List ℕ) (lines : List (List ℕ)) (line more : List ℕ) : Type 0 where
  pub said : List CxrleWord
  pub follows : FollowsPreamble bytes lines said line more
  pub bad_or_last : IsGood line → more ≡ []

first_is_good : (line : List ℕ) (lines : List (List ℕ)) (said : List CxrleWord) → IsPreamble (line ∷ lines) said → IsGood line
first_is_good line lines said p = let s = says_split (extended_words line) (flat_map extended_words lines) said p.words in (p.comments.0, (s.0, s.2))

-- the place is the same after the first line
after_first : (bytes : List ℕ) (first : List ℕ) (lines : List (List ℕ)) (line more later : List ℕ) → EndsPreamble bytes (first ∷ lines) line more → later ≡ flat_map line_with_lf lines ++ (line ++ more) → EndsPreamble later lines line more
after_first bytes first lines line more later p e =
    let s = says_split (extended_words first) (flat_map extended_words lines) p.said p.follows.preamble.words in
    record {
      said = s.1;
      follows = record {
        preamble = record { each_is_line = p.follows.preamble.each_is_line.1; comments = p.follows.preamble.comments.1; words = s.3 };
        line_is = p.follows.line_is;
        line_ends = p.follows.line_ends;
        spelled = e;
      };
      bad_or_last = p.bad_or_last;
    }

no_longer : (bytes : List ℕ) (a m k : List ℕ) (ks : List (List ℕ)) (b n : List ℕ) → EndsPreamble bytes [] a m → EndsPreamble bytes (k ∷ ks) b n → ⊥
no_longer bytes a m k ks b n p q =
    let f = one_line a k m _ p.follows.line_is q.follows.preamble.each_is_line.0 p.follows.line_ends refl (sym p.follows.spelled ∙ q.follows.spelled ∙ after_first_line k ks (b ++ n)) in
    let last = p.bad_or_last (subst IsGood (sym f.0) (first_is_good k ks q.said q.follows.preamble)) in
    let none : [] ≡ 10 ∷ (flat_map line_with_lf ks ++ (b ++ n)) = sym last ∙ f.1 in cc

-- a text's good lines end at one place
pub one_place : (bytes : List ℕ) (ls ks : List (List ℕ)) (a b m n : List ℕ) → EndsPreamble bytes ls a m → EndsPreamble bytes ks b n → (ls ≡ ks) × (a ≡ b) × (m ≡ n)
one_place bytes [] [] a b m n p q = let l = one_line a b m n p.follows.line_is q.follows.line_is p.follows.line_ends q.follows.line_ends (sym p.follows.spelled ∙ q.follows.spelled) in (refl, l.0, l.1)
one_place bytes [] (k ∷ ks) a b m n p q = absurd (no_longer bytes a m k ks b n p q)
one_place bytes (l ∷ ls) [] a b m n p q = absurd (no_longer bytes b n l ls a m q p)
one_place bytes (l ∷ ls) (k ∷ ks) a b m n p q =
    let f = one_line l k _ _ p.follows.preamble.each_is_line.0 q.follows.preamble.each_is_line.0 refl refl (sym (after_first_line l ls (a ++ m)) ∙ sym p.follows.spelled ∙ q.follows.spelled ∙ after_first_line k ks (b ++ n)) in
    let later = flat_map line_with_lf ls ++ (a ++ m) in
    let others = one_place later ls ks a b m n (after_first bytes l ls a m later p refl) (after_first bytes k ks b n later q (append_cancel_left (10 ∷ []) _ _ f.1)) in
    (ap₂ (λ (x : List ℕ) (xs : List (List ℕ)). x ∷ xs) f.0 others.0, others.1, others.2)

-- ---- what stands there

no_good_header : (line more : List ℕ) (rule : Option (List ℕ)) → IsHeader line rule → IsGood line → more ≡ []
no_good_header line more rule h good = absurd (true≢false (sym good.0 ∙ no_comment line rule h))

-- the place of a header after which items may stand
pub headed_place : (bytes : List ℕ) (said : List CxrleWord) (rule : Option (List ℕ)) (body : List ℕ) (h : IsHeaded bytes said rule body) → EndsPreamble bytes h.lines h.header body
headed_place bytes said rule body h = record { said = said; follows = h.follows; bad_or_last = no_good_header h.header body rule h.header_is }

-- the place of a header that lacks a rule
pub xlife_place : (bytes : List ℕ) (h : HasXlifeRule bytes) → EndsPreamble bytes h.lines h.header h.body
xlife_place bytes h = record { said = h.said; follows = h.follows; bad_or_last = no_good_header h.header h.body None h.header_is }

no_comment_or_last : (line more : List ℕ) → (is_front_line line ≡ false) ⊎ ((more ≡ []) × ((last : List CxrleWord) × AllZip WordSays (extended_words line) last)) → IsGood line → more ≡ []
no_comment_or_last line more (inl e) good = absurd (true≢false (sym good.0 ∙ e))
no_comment_or_last line more (inr e) good = e.0

-- the place where the header is missing
pub no_header_place : (bytes : List ℕ) (h : HasNoHeader bytes) → EndsPreamble bytes h.lines h.line h.more
no_header_place bytes h = record { said = h.said; follows = h.follows; bad_or_last = no_comment_or_last h.line h.more h.no_comment_or_last }
