-- The parts of the worked examples: a header, a bad item after one, a bad word before one, and a header that is missing.
use Rattle.std.proofs.Common.{◌≡◌, ℕ, List, [], ◌∷◌, ◌++◌, Option, Some, None, inl, inr, IsTrue, refl, ◌⊎◌, false, true}
use Rattle.std.specs.List.{flat_map, AllZip, AllByRecursion}
use Rattle.ca_plane.specs.Prelude.{is_blank, is_line_end, is_end_or, IsWord}
use Rattle.ca_rle.specs.declared.{fault.RleFault.RleFault, item.Item.Item}
use Rattle.ca_rle.specs.Prelude.{Run, size_parts, rule_parts, is_front_line, extended_words, IsHeader, CxrleWord, WordSays, IsLine, line_with_lf, IsPreamble, FollowsPreamble, IsHeaded, item_fault}
use Rattle.ca_rle.specs.Prelude.{IsBadWord, HasBadWord, HasNoHeader, HasBadItem}
use Rattle.ca_rle.specs.inner.HeaderParts.{parts_left}
use Rattle.ca_rle.proofs.Headers.{spaced_found, header_found}

-- lines before a header
pub some_lines : (lines : List (List ℕ)) (said : List CxrleWord) → AllByRecursion IsLine lines → AllByRecursion (λ l. IsTrue (is_front_line l)) lines → AllZip WordSays (flat_map extended_words lines) said → IsPreamble lines said
some_lines lines said each comments words = record { each_is_line = each; comments = comments; words = words }

-- no lines before it
pub no_lines : IsPreamble [] []
no_lines = some_lines [] [] tt tt tt

-- a line after these lines
pub line_follows : (lines : List (List ℕ)) (said : List CxrleWord) (line more : List ℕ) → IsPreamble lines said → IsLine line → IsTrue (is_end_or is_line_end more)
    → FollowsPreamble (flat_map line_with_lf lines ++ (line ++ more)) lines said line more
line_follows lines said line more p l e = record { preamble = p; line_is = l; line_ends = e; spelled = refl }

-- a header without a rule in the first line
pub plain_header : (header body : List ℕ) → IsLine header → parts_left (size_parts []) header ≡ Some [] → IsTrue (is_end_or is_line_end body) → IsHeaded (header ++ body) [] None body
plain_header header body line h ends = record {
  lines = [];
  header = header;
  follows = line_follows [] [] header body no_lines line ends;
  header_is = inl (spaced_found (size_parts []) header h);
  named = inr tt;
}

-- a header with a rule after these lines
pub ruled_header : (lines : List (List ℕ)) (said : List CxrleWord) (header body text ignored : List ℕ) → IsPreamble lines said → IsLine header → IsTrue (is_end_or is_line_end body)
    → parts_left (size_parts rule_parts) header ≡ Some (text ++ ignored) → IsWord text → IsTrue (is_end_or is_blank ignored)
    → IsHeaded (flat_map line_with_lf lines ++ (header ++ body)) said (Some text) body
ruled_header lines said header body text ignored p line ends h word i = record {
  lines = lines;
  header = header;
  follows = line_follows lines said header body p line ends;
  header_is = header_found header text ignored h word i;
  named = inl refl;
}

-- a bad item after a header and good items
abbrev pub bad_item : (bytes : List ℕ) (rule : Option (List ℕ)) (body bad : List ℕ) (items : List Item) (fault : RleFault) → IsHeaded bytes [] rule body → Run body items bad → item_fault bad ≡ Some fault → HasBadItem bytes fault
bad_item bytes rule body bad items fault headed run is = record { said = []; rule = rule; body = body; items = items; bad = bad; headed = headed; good = run; fault_is = is }

-- a bad word, the only one of the first line
pub bad_word : (line word more : List ℕ) (fault : RleFault) → IsLine line → IsTrue (is_end_or is_line_end more) → is_front_line line ≡ true → extended_words line ≡ word ∷ [] → IsBadWord word fault → HasBadWord (line ++ more) fault
bad_word line word more fault l e comment words bad = record {
  lines = [];
  said = [];
  line = line;
  more = more;
  follows = line_follows [] [] line more no_lines l e;
  comment = comment;
  among = record { good = []; good_said = []; word = word; later = []; words_are = words; good_words = tt; bad = bad };
}

-- after these lines the header is missing
abbrev pub no_header_after : (lines : List (List ℕ)) (line more : List ℕ) → IsPreamble lines [] → IsLine line → IsTrue (is_end_or is_line_end more) → ((rule : Option (List ℕ)) → IsHeader line rule → ⊥)
    → (is_front_line line ≡ false) ⊎ ((more ≡ []) × ((last : List CxrleWord) × AllZip WordSays (extended_words line) last)) → HasNoHeader (flat_map line_with_lf lines ++ (line ++ more))
no_header_after lines line more p l e none last = record {
  lines = lines;
  said = [];
  line = line;
  more = more;
  follows = line_follows lines [] line more p l e;
  no_header = none;
  no_comment_or_last = last;
}
