-- The lines before a header, one after another.
use Rattle.std.proofs.Common.{◌≡◌, ℕ, Bool, true, false, ◌==◌, List, [], ◌∷◌, ◌++◌, Some, None, slice_get, refl, sym, ap, subst, ◌∙◌, append_assoc, codes, IsTrue}
use Rattle.std.specs.List.{AllZip, flat_map}
use Rattle.std.proofs.lemmas.Bool.{ne_eqb}
use Rattle.std.proofs.lemmas.Grind.{flat_map-append}
use Rattle.std.proofs.lemmas.List.{append-nil, append_cancel_left}
use Rattle.std.proofs.lemmas.Option.{same_Some, none-some}
use Rattle.ca_plane.specs.Prelude.{is_blank, front, rest, without_cr}
use Rattle.ca_rle.specs.declared.front.{words.Start.Start, lines.Preamble.Preamble}
use Rattle.ca_rle.specs.Prelude.{is_front_line, extended_words, CxrleWord, WordSays, IsXlifeLine, IsLine, IsPreamble}
use Rattle.ca_rle.specs.inner.FrontParts.{IsFrontStart, WordsLead, HasXlifeLine, IsPreambleOf, LeadsPreamble}
use Rattle.ca_plane.proofs.Fronts.{every_front, front_then_rest, rest_append}
use Rattle.ca_rle.proofs.StartWords.{all_zip_append}
use Rattle.ca_plane.proofs.Elements.{all_append}

-- ---- XLife's rule lines

drop_cr : (before : List ℕ) → without_cr (before ++ 13 ∷ []) ≡ before
drop_cr [] = refl
drop_cr (a ∷ []) = refl
drop_cr (a ∷ b ∷ bs) = ap (λ (l : List ℕ). a ∷ l) (drop_cr (b ∷ bs))

-- the CR before a line's end is dropped
pub cr_dropped : (line before : List ℕ) (last : ℕ) → last ≡ 13 → line ≡ before ++ last ∷ [] → without_cr line ≡ before
cr_dropped line before last h e = ap without_cr (e ∙ ap (λ (c : ℕ). before ++ c ∷ []) h) ∙ drop_cr before

keep_last : (before : List ℕ) (b : ℕ) → (b == 13) ≡ false → without_cr (before ++ b ∷ []) ≡ before ++ b ∷ []
keep_last [] b h = rw h
keep_last (a ∷ []) b h = rw h
keep_last (a ∷ c ∷ cs) b h = ap (λ (l : List ℕ). a ∷ l) (keep_last (c ∷ cs) b h)

-- another byte there is not
pub last_kept : (line before : List ℕ) (last : ℕ) → (last ≡ 13 → ⊥) → line ≡ before ++ last ∷ [] → without_cr line ≡ line
last_kept line before last h e = ap without_cr e ∙ keep_last before last (ne_eqb last 13 h) ∙ sym e

-- the first byte, where there is one
pub first_is : (bytes : List ℕ) (b : ℕ) → Some b ≡ slice_get bytes 0 → (more : List ℕ) × (bytes ≡ b ∷ more)
first_is [] b e = absurd cc
first_is (c ∷ cs) b e = (cs, ap (λ (d : ℕ). d ∷ cs) (sym (same_Some b c e)))

-- what stands after the blanks of an XLife line
pub xlife_after : (line : List ℕ) → IsXlifeLine line → (blank : ℕ) × (more : List ℕ) × IsTrue (is_blank blank) × (rest is_blank (without_cr line) ≡ codes "#r" ++ blank ∷ more)
xlife_after line (blanks, blank, more, b, h, e) = (blank, more, h, ap (rest is_blank) e ∙ rest_append is_blank blanks (codes "#r" ++ blank ∷ more) b refl)

-- and what makes one
pub xlife_from : (line after : List ℕ) (blank : ℕ) → rest is_blank (without_cr line) ≡ codes "#r" ++ after → Some blank ≡ slice_get after 0 → IsTrue (is_blank blank) → IsXlifeLine line
xlife_from line after blank e f h =
    let first = first_is after blank f in
    let blanks = front is_blank (without_cr line) in
    (blanks, blank, first.0, every_front is_blank (without_cr line), h, sym (front_then_rest is_blank (without_cr line)) ∙ ap (λ (l : List ℕ). blanks ++ l) (e ∙ ap (λ (l : List ℕ). codes "#r" ++ l) first.1))

-- the byte after `#r` is the first there
pub same_blank : (after : List ℕ) (byte blank : ℕ) (more : List ℕ) → Some byte ≡ slice_get after 0 → codes "#r" ++ after ≡ codes "#r" ++ blank ∷ more → IsTrue (is_blank blank) → is_blank byte ≡ true
same_blank after byte blank more f e h =
    let first = first_is after byte f in
    let whole : after ≡ blank ∷ more = append_cancel_left (codes "#r") after (blank ∷ more) e in
    let same : byte ≡ blank = cc in
    rw same h

-- after `#r` is none
pub no_first : (after : List ℕ) (blank : ℕ) (more : List ℕ) → None ≡ slice_get after 0 → codes "#r" ++ after ≡ codes "#r" ++ blank ∷ more → ⊥
no_first after blank more f e =
    let whole : after ≡ blank ∷ more = append_cancel_left (codes "#r") after (blank ∷ more) e in
    none-some blank (f ∙ ap (λ (l : List ℕ). slice_get l 0) whole)

-- ---- one more line

-- a good line after good lines
pub preamble_more : (lines : List (List ℕ)) (line : List ℕ) (said more : List CxrleWord) → IsPreamble lines said → IsLine line → is_front_line line ≡ true → AllZip WordSays (extended_words line) more → IsPreamble (lines ++ line ∷ []) (said ++ more)
preamble_more lines line said more p l c z =
    record {
      each_is_line = all_append IsLine lines (line ∷ []) p.each_is_line (l, tt);
      comments = all_append (λ l. IsTrue (is_front_line l)) lines (line ∷ []) p.comments (c, tt);
      words = subst (λ (ws : List (List ℕ)). AllZip WordSays ws (said ++ more)) (sym words_are) (all_zip_append (flat_map extended_words lines) (extended_words line) said more p.words z);
    }
  where
    words_are : flat_map extended_words (lines ++ line ∷ []) ≡ flat_map extended_words lines ++ extended_words line
    words_are = flat_map-append extended_words lines (line ∷ []) ∙ ap (λ (ws : List (List ℕ)). flat_map extended_words lines ++ ws) (append-nil (extended_words line))

-- a line after one that gives XLife's rule
pub xlife_before : (lines : List (List ℕ)) (line : List ℕ) → HasXlifeLine lines → HasXlifeLine (lines ++ line ∷ [])
xlife_before lines line (earlier, x, later, h, e) = (earlier, x, later ++ line ∷ [], h, ap (λ (ls : List (List ℕ)). ls ++ line ∷ []) e ∙ append_assoc earlier (x ∷ later) (line ∷ []))

-- such a line after others
pub xlife_last : (lines : List (List ℕ)) (line : List ℕ) → IsXlifeLine line → HasXlifeLine (lines ++ line ∷ [])
xlife_last lines line h = (lines, line, [], h, refl)

-- what lines say with one more
pub read_more : (lines : List (List ℕ)) (line : List ℕ) (said more : List CxrleWord) (p : Preamble) (s : Start) (x : Bool)
    → IsPreambleOf lines said p → IsLine line → is_front_line line ≡ true → AllZip WordSays (extended_words line) more → IsFrontStart (said ++ more) s
    → (x ≡ true → HasXlifeLine (lines ++ line ∷ [])) → (x ≡ false → (p.has_xlife_rule ≡ false) × (IsXlifeLine line → ⊥))
    → IsPreambleOf (lines ++ line ∷ []) (said ++ more) (record { start = s; has_xlife_rule = x })
read_more lines line said more p s x r l c z h given none = record {
  good = preamble_more lines line said more r.good l c z;
  start = h;
  xlife = given;
  no_xlife = λ f. let n = none f in all_append (λ l. IsXlifeLine l → ⊥) lines (line ∷ []) (r.no_xlife n.0) (n.1, tt);
}

-- a good line leads on from what the lines before it say
pub line_leads : (line : List ℕ) (p : Preamble) (s : Start) (x : Bool) → IsLine line → is_front_line line ≡ true → WordsLead (extended_words line) p.start s
    → ((lines : List (List ℕ)) (said : List CxrleWord) → IsPreambleOf lines said p → x ≡ true → HasXlifeLine (lines ++ line ∷ [])) → (x ≡ false → (p.has_xlife_rule ≡ false) × (IsXlifeLine line → ⊥))
    → LeadsPreamble line p (record { start = s; has_xlife_rule = x })
line_leads line p s x l c words given none =
    (words.0, words.1, λ lines said r. read_more lines line said words.0 p s x r l c words.1 (words.2 said r.start) (given lines said r) none)
