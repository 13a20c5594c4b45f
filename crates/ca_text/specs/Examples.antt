-- Small claim texts on which the definitions are tried.
use Rattle.std.specs.Prelude.{ℕ, pos, neg_ℤ, List, [], ◌∷◌, Option, None, Some, codes}
use Rattle.ca_plane.specs.Prelude.{text_of}
use Rattle.ca_text.specs.declared.{kind.Kind.Kind, fault.ClaimFault.ClaimFault}
use Rattle.ca_text.specs.declared.kind.Kind.TheVariants.{Still, Oscillator, Spaceship, Becomes, BecomesShifted, Dies}
use Rattle.ca_text.specs.{Both.twice, Text.Claim, Text.ClaimTextLine, Text.Version, Text.Rule, Text.Load, Text.Claims, Text.ClaimText}
use Rattle.ca_text.specs.TextFaults.{IsFirstClaimFault}

-- a claim about one pattern
abbrev pub of_one : List ℕ → Kind → Claim
of_one pattern kind = record { patterns = twice pattern; kind = kind }

-- that it is a still life
abbrev pub still_of : List ℕ → Claim
still_of pattern = of_one pattern Still

-- that one pattern becomes another
abbrev pub becomes_of : List ℕ → ℕ → List ℕ → Claim
becomes_of pattern generations other = record { patterns = record { first = pattern; second = other }; kind = Becomes generations }

-- the text of these lines has this first fault
abbrev pub HaveFault : List (List ℕ) → ClaimFault → Type 0
HaveFault lines fault = IsFirstClaimFault (text_of lines) fault

-- a comment, a blank line, a name and a claim
abbrev pub block_text : List ℕ
block_text = text_of (codes "# a comment" ∷ [] ∷ codes "load b block.rle" ∷ codes "still b" ∷ [])

-- what its lines say
abbrev pub block_said : List (Option ClaimTextLine)
block_said = None ∷ None ∷ Some (Load (codes "b") (codes "block.rle")) ∷ Some (Claims (still_of (codes "b"))) ∷ []

-- what it asks: the claim is about the name's path
abbrev pub block_asked : ClaimText
block_asked = record {
  paths = codes "block.rle" ∷ [];
  rules = [];
  claims = (4, still_of (codes "block.rle")) ∷ [];
  patterns = twice (codes "b", codes "block.rle") ∷ [];
}

-- all claims, about the patterns of two files, of which one is loaded by two names; line 2 is a comment and line 7 is blank
abbrev pub every_text : List ℕ
every_text = text_of (
    codes "load b block.rle" ∷ codes "# a comment" ∷ codes "load g glider.rle" ∷ codes "load c block.rle" ∷ codes "still b"
    ∷ codes "oscillator c 007" ∷ [] ∷ codes "spaceship g 4 -1 2" ∷ codes "becomes g 0 c" ∷ [])

-- what its lines say
abbrev pub every_said : List (Option ClaimTextLine)
every_said =
    Some (Load (codes "b") (codes "block.rle")) ∷ None ∷ Some (Load (codes "g") (codes "glider.rle")) ∷ Some (Load (codes "c") (codes "block.rle"))
    ∷ Some (Claims (still_of (codes "b"))) ∷ Some (Claims (of_one (codes "c") (Oscillator 7))) ∷ None
    ∷ Some (Claims (of_one (codes "g") (Spaceship 4 (neg_ℤ (pos 1)) (pos 2)))) ∷ Some (Claims (becomes_of (codes "g") 0 (codes "c"))) ∷ []

-- what it asks: each path once, in the order of the lines, and each claim with the number of its line
abbrev pub every_asked : ClaimText
every_asked = record {
  paths = codes "block.rle" ∷ codes "glider.rle" ∷ [];
  rules = [];
  claims =
      (5, still_of (codes "block.rle")) ∷ (6, of_one (codes "block.rle") (Oscillator 7))
      ∷ (8, of_one (codes "glider.rle") (Spaceship 4 (neg_ℤ (pos 1)) (pos 2))) ∷ (9, becomes_of (codes "glider.rle") 0 (codes "block.rle")) ∷ [];
  patterns =
      twice (codes "b", codes "block.rle") ∷ twice (codes "c", codes "block.rle") ∷ twice (codes "g", codes "glider.rle")
      ∷ record { first = (codes "g", codes "glider.rle"); second = (codes "c", codes "block.rle") } ∷ [];
}

-- a rule table after two names of one path
abbrev pub rule_line_text : List ℕ
rule_line_text = text_of (codes "load a p" ∷ codes "load b p" ∷ codes "rule r" ∷ [])

-- what its lines say
abbrev pub table_said : List (Option ClaimTextLine)
table_said = Some (Load (codes "a") (codes "p")) ∷ Some (Load (codes "b") (codes "p")) ∷ Some (Rule (codes "r")) ∷ []

-- rule tables before and after a name and a claim, one of them on two lines
abbrev pub tables_text : List ℕ
tables_text = text_of (codes "rule r" ∷ codes "load a p" ∷ codes "still a" ∷ codes "rule q" ∷ codes "rule r" ∷ [])

-- what its lines say
abbrev pub tables_said : List (Option ClaimTextLine)
tables_said =
    Some (Rule (codes "r")) ∷ Some (Load (codes "a") (codes "p")) ∷ Some (Claims (still_of (codes "a")))
    ∷ Some (Rule (codes "q")) ∷ Some (Rule (codes "r")) ∷ []

-- what it asks: the path on two lines is one of the files, and two of the rule tables
abbrev pub tables_asked : ClaimText
tables_asked = record {
  paths = codes "r" ∷ codes "p" ∷ codes "q" ∷ [];
  rules = codes "r" ∷ codes "q" ∷ codes "r" ∷ [];
  claims = (3, still_of (codes "p")) ∷ [];
  patterns = twice (codes "a", codes "p") ∷ [];
}

-- a name that no claim is about
abbrev pub spare_said : List (Option ClaimTextLine)
spare_said = Some (Load (codes "a") (codes "p")) ∷ Some (Load (codes "b") (codes "q")) ∷ Some (Claims (still_of (codes "a"))) ∷ []

-- a text of the second version, with both claims that came with it
abbrev pub second_text : List ℕ
second_text = text_of (codes "# a comment" ∷ codes "claims 2" ∷ codes "load a p" ∷ codes "becomes a 0 a shift -1 2" ∷ codes "dies a 3" ∷ [])

-- what its lines say
abbrev pub second_said : List (Option ClaimTextLine)
second_said =
    None ∷ Some Version ∷ Some (Load (codes "a") (codes "p"))
    ∷ Some (Claims (of_one (codes "a") (BecomesShifted 0 (neg_ℤ (pos 1)) (pos 2))))
    ∷ Some (Claims (of_one (codes "a") (Dies 3))) ∷ []
