-- A text that names a rule is a name that a rule file can give, and has no `:`.
use Rattle.std.proofs.Common.{◌≡◌, ℕ, List, [], ◌∷◌, ◌++◌, length, true, not, ◌==◌, ◌&&◌, ◌%◌, Some, slice_index, codes, refl, sym, subst, arith, append-nil}
use Rattle.std.specs.List.{list_all}
use Rattle.std.proofs.lemmas.Bool.{and_parts, and_from}
use Rattle.std.proofs.lemmas.Bool.Decides.{nat_tests}
use Rattle.ca_plane.specs.Prelude.{Every, is_word_byte, is_blank, is_line_end, is_digit}
use Rattle.ca_plane.proofs.Fronts.{every_append, every_wider}
use Rattle.ca_rule.specs.Prelude.{SpellsBsRule, SpellsGenerationsRule, lists_of}
use Rattle.ca_rule.specs.declared.hood.Hood.{Hood}
use Rattle.ca_rule.specs.declared.hood.Hood.TheVariants.{Moore}
use Rattle.ca_rule.proofs.Ends.{suffix-passes}
use Rattle.ca_rule.proofs.GenerationsRead.{bytes-pass, two-lists}
use Rattle.ca_rule.proofs.ReadInwards.{digits-of, IsTakenApart, spelled-apart}
use Rattle.ca_rule_files.specs.Prelude.{SpellsIsotropicRule, is_base64, sextet, are_characters, IsMap, IsTableName}
use Rattle.ca_rule_files.proofs.WrittenTables.{is_plain, no-comment}
use Rattle.ca_rule_files.proofs.TextBytes.{is_text_byte, IsText}
use Rattle.ca_rule_files.proofs.ListBytes.{text-kinds}
use Rattle.ca_rule_files.proofs.KindTexts.{kinds-apart}

-- one plain byte or more
from-plain : (b : ℕ) (bs : List ℕ) → Every is_plain (b ∷ bs) → IsTableName (b ∷ bs)
from-plain b bs all = record {
  word = every_wider is_plain is_word_byte (λ b h. let p = and_parts (not (is_blank b)) (not (is_line_end b) && not (b == 35)) h in and_from (not (is_blank b)) (not (is_line_end b)) p.0 (and_parts (not (is_line_end b)) (not (b == 35)) p.1).0) (b ∷ bs) all;
  no_comment = no-comment (b ∷ bs) all;
}

-- what a text of such bytes is
pub table-name : (text : List ℕ) → IsText text → IsTableName text
table-name text is = subst IsTableName (sym is.form) (from-plain is.first is.others (every_wider is_text_byte is_plain (λ b h. (and_parts (is_plain b) (not (b == 58)) h).0) (is.first ∷ is.others) is.all))

from-text : (text : List ℕ) (b : ℕ) (bs : List ℕ) → text ≡ b ∷ bs → Every is_text_byte (b ∷ bs) → IsText text
from-text text b bs e all = record { first = b; others = bs; all = all; form = e }

-- bytes of which lists are read are some
read-text : (text body suffix : List ℕ) (lists : List ℕ × List ℕ) → text ≡ body ++ suffix → lists_of body ≡ Some lists → Every is_text_byte body → Every is_text_byte suffix → IsText text
read-text text [] suffix lists w e h k = cc
read-text text (b ∷ bs) suffix lists w e h k = from-text text b (bs ++ suffix) w (every_append is_text_byte (b ∷ bs) suffix h k)

-- a text that is taken apart into plain lists
apart-text : (text birth survival : List ℕ) (hood : Hood) → IsTakenApart text birth survival hood → Every is_text_byte birth → Every is_text_byte survival → IsText text
apart-text text birth survival hood t h k =
    let body = t.passes is_text_byte (record { slash = refl; b = (refl, refl); s = (refl, refl) }) h k in
    read-text text t.body t.suffix (birth, survival) t.whole t.lists_are body (suffix-passes is_text_byte (refl, refl) (refl, refl) hood t.suffix t.is_suffix)

plain-digits : (ds : List ℕ) → Every is_digit ds → Every is_text_byte ds
plain-digits ds h = every_wider is_digit is_text_byte (λ d t. grind (arith, nat_tests)) ds h

pub bs-text : (text birth survival : List ℕ) (hood : Hood) → SpellsBsRule text birth survival hood → IsText text
bs-text text birth survival hood is =
    apart-text text birth survival hood (spelled-apart text birth survival hood is) (plain-digits birth (digits-of hood birth is.birth_digits)) (plain-digits survival (digits-of hood survival is.survival_digits))

pub isotropic-text : (text birth survival : List ℕ) → SpellsIsotropicRule text birth survival → IsText text
isotropic-text text birth survival is =
    apart-text text birth survival Moore (kinds-apart text birth survival is) (text-kinds birth is.birth_kinds) (text-kinds survival is.survival_kinds)

base64-all : (characters : List ℕ) → are_characters characters ≡ true → Every is_base64 characters
base64-all characters good = (and_parts (list_all is_base64 characters) (sextet (slice_index characters 85) % 16 == 0) (and_parts (length characters == 86) (list_all is_base64 characters && (sextet (slice_index characters 85) % 16 == 0)) good).1).0

pub map-text : (text characters : List ℕ) → IsMap text characters → IsText text
map-text text characters is =
    from-text text 77 (codes "AP" ++ characters) is.form
    (every_append is_text_byte (codes "MAP") characters refl (every_wider is_base64 is_text_byte (λ b h. grind (arith, nat_tests)) characters (base64-all characters is.good)))

pub generations-text : (text survival birth : List ℕ) (states : ℕ) → SpellsGenerationsRule text survival birth states → IsText text
generations-text text survival birth states is =
    let bytes = bytes-pass is_text_byte refl (λ d t. grind (arith, nat_tests)) text survival birth states is in
    read-text text text [] (birth ++ (47 ∷ is.number), survival) (sym (append-nil text)) (two-lists text survival birth states is) bytes refl
