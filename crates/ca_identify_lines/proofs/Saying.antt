-- Texts that say lines of a claim text, put one after another.
use Rattle.std.proofs.Common.{◌≡◌, ℕ, Bool, false, not, List, [], ◌∷◌, ◌++◌, Option, Some, None, refl, ap, sym, ◌∙◌, subst, append_assoc}
use Rattle.std.specs.List.{AllByRecursion}
use Rattle.std.proofs.lemmas.Bool.{and_parts, false≢true}
use Rattle.std.proofs.lemmas.List.{append-nil}
use Rattle.ca_plane.specs.Prelude.{Every, is_line_end, is_word_byte, is_blank, IsWord, lines_of, words_of}
use Rattle.ca_plane.proofs.Fronts.{every_append, every_wider}
use Rattle.ca_plane.proofs.Lines.{lines_ahead, words_ahead}
use Rattle.ca_text.specs.Prelude.{spaced, ClaimTextLine, is_skipped, ClaimWordsSay, IsAllowedLine, ClaimLinesSay, said_lines}
use Rattle.ca_text.proofs.LinesSaid.{spoken-append}

-- a byte that ends no line
abbrev pub is_inner : ℕ → Bool
is_inner b = not (is_line_end b)

-- after some lines, a text of whole lines says others
pub record TextSays (earlier : List ClaimTextLine) (text : List ℕ) (says : List ClaimTextLine) : Type 0 where
  pub lines : List (List ℕ)
  pub said : List (Option ClaimTextLine)
  pub split : (more : List ℕ) → lines_of (text ++ more) ≡ lines ++ lines_of more
  pub good : ClaimLinesSay earlier lines said
  pub all : said_lines said ≡ says

-- no text says nothing
pub says_none : (earlier : List ClaimTextLine) → TextSays earlier [] []
says_none earlier = record { lines = []; said = []; split = λ more. refl; good = tt; all = refl }

-- lines, and then others
lines_then : (earlier : List ClaimTextLine) (lines others : List (List ℕ)) (said more : List (Option ClaimTextLine)) → ClaimLinesSay earlier lines said
    → ClaimLinesSay (earlier ++ said_lines said) others more → ClaimLinesSay earlier (lines ++ others) (said ++ more)
lines_then earlier [] others [] more first second = subst (λ l. ClaimLinesSay l others more) (append-nil earlier) second
lines_then earlier [] others (s ∷ said) more first second = absurd first
lines_then earlier (l ∷ ls) others [] more first second = absurd first
lines_then earlier (l ∷ ls) others (None ∷ said) more first second = (first.0, lines_then earlier ls others said more first.1 second)
lines_then earlier (l ∷ ls) others (Some line ∷ said) more first second = (
  first.0,
  first.1,
  first.2,
  lines_then (earlier ++ line ∷ []) ls others said more first.3
      (subst (λ k. ClaimLinesSay k others more) (sym (append_assoc earlier (line ∷ []) (said_lines said))) second),
)

-- a text, and then another
pub says_then : (earlier : List ClaimTextLine) (text other : List ℕ) (says more : List ClaimTextLine) → TextSays earlier text says → TextSays (earlier ++ says) other more
    → TextSays earlier (text ++ other) (says ++ more)
says_then earlier text other says more first second = record {
  lines = first.lines ++ second.lines;
  said = first.said ++ second.said;
  split = λ rest. ap lines_of (append_assoc text other rest) ∙ first.split (other ++ rest) ∙ ap (λ l. first.lines ++ l) (second.split rest)
      ∙ sym (append_assoc first.lines second.lines (lines_of rest));
  good = lines_then earlier first.lines second.lines first.said second.said first.good
      (subst (λ l. ClaimLinesSay (earlier ++ l) second.lines second.said) (sym first.all) second.good);
  all = spoken-append first.said second.said ∙ ap (λ l. l ++ said_lines second.said) first.all ∙ ap (λ l. says ++ l) second.all;
}

-- words with a blank between each two of them, and LF after the last
abbrev pub spelled : List (List ℕ) → List ℕ
spelled [] = 10 ∷ []
spelled (w ∷ []) = w ++ 10 ∷ []
spelled (w ∷ v ∷ ws) = w ++ 32 ∷ spelled (v ∷ ws)

-- the same without LF
abbrev joined : List (List ℕ) → List ℕ
joined [] = []
joined (w ∷ []) = w
joined (w ∷ v ∷ ws) = w ++ 32 ∷ joined (v ∷ ws)

-- a word ends no line
pub inner_word : (word : List ℕ) → IsWord word → Every is_inner word
inner_word [] h = absurd (false≢true h)
inner_word (b ∷ bs) h = every_wider is_word_byte is_inner (λ c t. (and_parts (not (is_blank c)) (not (is_line_end c)) t).1) (b ∷ bs) h

-- words are on one line
joined_inner : (words : List (List ℕ)) → AllByRecursion IsWord words → Every is_inner (joined words)
joined_inner [] h = refl
joined_inner (w ∷ []) h = inner_word w h.0
joined_inner (w ∷ v ∷ ws) h = every_append is_inner w (32 ∷ joined (v ∷ ws)) (inner_word w h.0) (joined_inner (v ∷ ws) h.1)

-- and are its words
joined_words : (words : List (List ℕ)) → AllByRecursion IsWord words → words_of (joined words) ≡ words
joined_words [] h = refl
joined_words (w ∷ []) h = ap words_of (sym (append-nil w)) ∙ words_ahead w [] h.0 refl
joined_words (w ∷ v ∷ ws) h = words_ahead w (32 ∷ joined (v ∷ ws)) h.0 refl ∙ ap (λ l. w ∷ l) (joined_words (v ∷ ws) h.1)

-- words and LF are their line
spelled_line : (words : List (List ℕ)) (more : List ℕ) → spelled words ++ more ≡ joined words ++ 10 ∷ more
spelled_line [] more = refl
spelled_line (w ∷ []) more = append_assoc w (10 ∷ []) more
spelled_line (w ∷ v ∷ ws) more =
    append_assoc w (32 ∷ spelled (v ∷ ws)) more ∙ ap (λ l. w ++ 32 ∷ l) (spelled_line (v ∷ ws) more) ∙ sym (append_assoc w (32 ∷ joined (v ∷ ws)) (10 ∷ more))

-- words after a first one, each after a blank, are spelled so
pub spelled_spaced : (first : List ℕ) (words : List (List ℕ)) → spelled (first ∷ words) ≡ first ++ (spaced words ++ 10 ∷ [])
spelled_spaced first [] = refl
spelled_spaced first (w ∷ ws) = ap (λ l. first ++ 32 ∷ l) (spelled_spaced w ws ∙ sym (append_assoc w (spaced ws) (10 ∷ [])))

-- and stand on one line
pub spaced_inner : (words : List (List ℕ)) → AllByRecursion IsWord words → Every is_inner (spaced words)
spaced_inner [] h = refl
spaced_inner (w ∷ ws) h = every_append is_inner (32 ∷ w) (spaced ws) (inner_word w h.0) (spaced_inner ws h.1)

-- words say a line
pub says_words : (earlier : List ClaimTextLine) (words : List (List ℕ)) (line : ClaimTextLine) → AllByRecursion IsWord words → is_skipped words ≡ false
    → ClaimWordsSay earlier words line → IsAllowedLine earlier line → TextSays earlier (spelled words) (line ∷ [])
says_words earlier words line are skipped says allowed =
    let same = sym (joined_words words are) in
    record {
      lines = joined words ∷ [];
      said = Some line ∷ [];
      split = λ more. ap lines_of (spelled_line words more) ∙ lines_ahead (joined words) more (joined_inner words are);
      good = (ap is_skipped (sym same) ∙ skipped, subst (λ ws. ClaimWordsSay earlier ws line) same says, allowed, tt);
      all = refl;
    }

-- a text is one line
pub record IsLine (text : List ℕ) : Type 0 where
  pub line : List ℕ
  pub whole : text ≡ line ++ 10 ∷ []
  pub inner : Every is_inner line

-- LF alone is
pub line_end : IsLine (10 ∷ [])
line_end = record { line = []; whole = refl; inner = refl }

-- so is one with more in front of it
pub line_more : (front text : List ℕ) → Every is_inner front → IsLine text → IsLine (front ++ text)
line_more front text inner is = record {
  line = front ++ is.line;
  whole = ap (λ l. front ++ l) is.whole ∙ sym (append_assoc front is.line (10 ∷ []));
  inner = every_append is_inner front is.line inner is.inner;
}

-- a comment says nothing
pub says_comment : (earlier : List ClaimTextLine) (text : List ℕ) → IsLine text → TextSays earlier (35 ∷ 32 ∷ text) []
says_comment earlier text is = record {
  lines = (35 ∷ 32 ∷ is.line) ∷ [];
  said = None ∷ [];
  split = λ more. ap (λ l. lines_of (35 ∷ 32 ∷ (l ++ more))) is.whole ∙ ap (λ l. lines_of (35 ∷ 32 ∷ l)) (append_assoc is.line (10 ∷ []) more)
      ∙ lines_ahead (35 ∷ 32 ∷ is.line) more is.inner;
  good = (refl, tt);
  all = refl;
}
