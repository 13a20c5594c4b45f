-- A text is a file or has a fault, not both, and it has one fault at most, besides running out of memory.
use Rattle.std.proofs.Common.{◌≡◌, ◌≢◌, ℕ, ◌^◌, inl, inr, true, List, [], ◌∷◌, ◌++◌, length, Option, None, is_some, refl, sym, ap, subst, ◌∙◌, true≢false}
use Rattle.std.specs.List.{AllByRecursion}
use Rattle.std.proofs.lemmas.Option.{same_Some}
use Rattle.ca_rle.specs.declared.fault.RleFault.{RleFault}
use Rattle.ca_rle.specs.declared.fault.RleFault.TheVariants.{Syntax, Header, XlifeRule, NoEnd, BadState, GenTooLarge, Range, TooManyCells, Memory}
use Rattle.ca_rle.specs.Prelude.{Run, IsHeader, is_front_line, CxrleWord, IsXlifeLine, RleFile, IsHeaded, IsRleFile, IsRleWithinRange, IsRleOutOfRange, HasTooManyRleCells, IsWithinLimits}
use Rattle.ca_rle.specs.Prelude.{picture_of_items, item_fault, HasBadWord, HasNoHeader, HasXlifeRule, HasBadItem, IsFirstRleFault, IsRleFault}
use Rattle.ca_rle.proofs.NoFault.{no_bad_item}
use Rattle.ca_rle.proofs.OneHeader.{one_header, no_comment}
use Rattle.ca_rle.proofs.OneFile.{one_headed, one_file}
use Rattle.ca_rle.proofs.SameRun.{one_bad_item}
use Rattle.ca_rle.proofs.OnePlace.{IsGood, EndsPreamble, one_place, headed_place, xlife_place, no_header_place}
use Rattle.ca_rle.proofs.BadWord.{below_and_above, bad_line, bad_word_place, one_bad_word}

-- ---- what excludes what

-- where the good lines end stands a header
pub record HasHeader (bytes : List ℕ) : Type 0 where
  pub lines : List (List ℕ)
  pub header : List ℕ
  pub rule : Option (List ℕ)
  pub body : List ℕ
  pub place : EndsPreamble bytes lines header body
  pub header_is : IsHeader header rule

-- a header after which items may stand
pub header_of_headed : (bytes : List ℕ) (said : List CxrleWord) (rule : Option (List ℕ)) (body : List ℕ) → IsHeaded bytes said rule body → HasHeader bytes
header_of_headed bytes said rule body h = record { lines = h.lines; header = h.header; rule = rule; body = body; place = headed_place bytes said rule body h; header_is = h.header_is }

-- a header that lacks a rule
pub header_of_xlife : (bytes : List ℕ) → HasXlifeRule bytes → HasHeader bytes
header_of_xlife bytes h = record { lines = h.lines; header = h.header; rule = None; body = h.body; place = xlife_place bytes h; header_is = h.header_is }

bad_word_is_comment : (bytes : List ℕ) (f : RleFault) (p : HasBadWord bytes f) (lines : List (List ℕ)) (line more : List ℕ) → EndsPreamble bytes lines line more → is_front_line line ≡ true
bad_word_is_comment bytes f p lines line more q =
    let place = one_place bytes p.lines lines p.line line p.more more (bad_word_place bytes f p) q in
    ap is_front_line (sym place.1) ∙ p.comment

-- a text with a bad word has no header after its good lines
pub bad_word_or_header : (bytes : List ℕ) (f : RleFault) → HasBadWord bytes f → HasHeader bytes → ⊥
bad_word_or_header bytes f p q = true≢false (sym (bad_word_is_comment bytes f p q.lines q.header q.body q.place) ∙ no_comment q.header q.rule q.header_is)

-- a text with a bad word is not one whose header is missing
pub bad_word_or_no_header : (bytes : List ℕ) (f : RleFault) → HasBadWord bytes f → HasNoHeader bytes → ⊥
bad_word_or_no_header bytes f p q =
    let comment = bad_word_is_comment bytes f p q.lines q.line q.more (no_header_place bytes q) in
    let place = one_place bytes p.lines q.lines p.line q.line p.more q.more (bad_word_place bytes f p) (no_header_place bytes q) in
    elim q.no_comment_or_last [
      | inl e ↦ true≢false (sym comment ∙ e)
      | inr e ↦ bad_line bytes f p (subst IsGood (sym place.1) (comment, e.1))
    ]

-- a text has a header or none
pub no_header_or_header : (bytes : List ℕ) → HasNoHeader bytes → HasHeader bytes → ⊥
no_header_or_header bytes p q =
    let place = one_place bytes p.lines q.lines p.line q.header p.more q.body (no_header_place bytes p) q.place in
    p.no_header q.rule (subst (λ (l : List ℕ). IsHeader l q.rule) (sym place.1) q.header_is)

none_among : (earlier others : List (List ℕ)) (line : List ℕ) → AllByRecursion (λ l. IsXlifeLine l → ⊥) (earlier ++ line ∷ others) → IsXlifeLine line → ⊥
none_among [] others line h x = h.0 x
none_among (l ∷ ls) others line h x = none_among ls others line h.1 x

no_rule : (o : Option (List ℕ)) → None ≡ o → is_some o ≡ true → ⊥
no_rule o e h = true≢false (sym h ∙ ap is_some (sym e))

-- a header after which items may stand names its rule, or no line gives XLife's
pub xlife_or_headed : (bytes : List ℕ) (said : List CxrleWord) (rule : Option (List ℕ)) (body : List ℕ) → HasXlifeRule bytes → IsHeaded bytes said rule body → ⊥
xlife_or_headed bytes said rule body p q =
    let place = one_place bytes p.lines q.lines p.header q.header p.body body (xlife_place bytes p) (headed_place bytes said rule body q) in
    elim q.named [
      | inl named ↦ no_rule rule (one_header q.header None rule (subst (λ (l : List ℕ). IsHeader l None) place.1 p.header_is) q.header_is) named
      | inr none ↦ none_among p.earlier p.others p.xlife (subst (λ (ls : List (List ℕ)). AllByRecursion (λ l. IsXlifeLine l → ⊥) ls) (sym place.0 ∙ p.among) none) p.is_xlife
    ]

-- a text has one place at most where a bad item stands
pub one_bad_place : (bytes : List ℕ) (f g : RleFault) (p : HasBadItem bytes f) (q : HasBadItem bytes g) → p.bad ≡ q.bad
one_bad_place bytes f g p q =
    let headed = one_headed bytes p.said q.said p.rule q.rule p.body q.body p.headed q.headed in
    one_bad_item q.body p.bad q.bad p.items q.items f g (subst (λ (l : List ℕ). Run l p.items p.bad) headed.2 p.good) p.fault_is q.good q.fault_is

-- and one fault of it
pub one_bad_unit : (bytes : List ℕ) (f g : RleFault) → HasBadItem bytes f → HasBadItem bytes g → f ≡ g
one_bad_unit bytes f g p q = same_Some f g (sym p.fault_is ∙ ap item_fault (one_bad_place bytes f g p q) ∙ q.fault_is)

-- ---- the first fault

-- the first fault in a spelling, by its kind
pub data FaultKind (bytes : List ℕ) : RleFault → Type 0 where
  BadWord : {f : RleFault} → HasBadWord bytes f → FaultKind bytes f
  NoHeader : HasNoHeader bytes → FaultKind bytes Header
  Xlife : HasXlifeRule bytes → FaultKind bytes XlifeRule
  BadItem : {f : RleFault} → HasBadItem bytes f → FaultKind bytes f

-- what a first fault is of
pub kind_of : (bytes : List ℕ) (f : RleFault) → IsFirstRleFault bytes f → FaultKind bytes f
kind_of bytes Header p = NoHeader p
kind_of bytes XlifeRule p = Xlife p
kind_of bytes GenTooLarge p = BadWord p
kind_of bytes Syntax (inl p) = BadWord p
kind_of bytes Syntax (inr p) = BadItem p
kind_of bytes NoEnd p = BadItem p
kind_of bytes BadState p = BadItem p
kind_of bytes f p = absurd p

header_of_bad_item : (bytes : List ℕ) (f : RleFault) → HasBadItem bytes f → HasHeader bytes
header_of_bad_item bytes f p = header_of_headed bytes p.said p.rule p.body p.headed

one_kind : (bytes : List ℕ) (f g : RleFault) → FaultKind bytes f → FaultKind bytes g → f ≡ g
one_kind bytes f g (BadWord p) (BadWord q) = (one_bad_word bytes f g p q).4
one_kind bytes f g (BadWord p) (NoHeader q) = absurd (bad_word_or_no_header bytes f p q)
one_kind bytes f g (BadWord p) (Xlife q) = absurd (bad_word_or_header bytes f p (header_of_xlife bytes q))
one_kind bytes f g (BadWord p) (BadItem q) = absurd (bad_word_or_header bytes f p (header_of_bad_item bytes g q))
one_kind bytes f g (NoHeader p) (BadWord q) = absurd (bad_word_or_no_header bytes g q p)
one_kind bytes f g (NoHeader p) (NoHeader q) = refl
one_kind bytes f g (NoHeader p) (Xlife q) = absurd (no_header_or_header bytes p (header_of_xlife bytes q))
one_kind bytes f g (NoHeader p) (BadItem q) = absurd (no_header_or_header bytes p (header_of_bad_item bytes g q))
one_kind bytes f g (Xlife p) (BadWord q) = absurd (bad_word_or_header bytes g q (header_of_xlife bytes p))
one_kind bytes f g (Xlife p) (NoHeader q) = absurd (no_header_or_header bytes q (header_of_xlife bytes p))
one_kind bytes f g (Xlife p) (Xlife q) = refl
one_kind bytes f g (Xlife p) (BadItem q) = absurd (xlife_or_headed bytes q.said q.rule q.body p q.headed)
one_kind bytes f g (BadItem p) (BadWord q) = absurd (bad_word_or_header bytes g q (header_of_bad_item bytes f p))
one_kind bytes f g (BadItem p) (NoHeader q) = absurd (no_header_or_header bytes q (header_of_bad_item bytes f p))
one_kind bytes f g (BadItem p) (Xlife q) = absurd (xlife_or_headed bytes p.said p.rule p.body q p.headed)
one_kind bytes f g (BadItem p) (BadItem q) = one_bad_unit bytes f g p q

-- a text has one first fault at most
pub one_first_fault : (bytes : List ℕ) (f g : RleFault) → IsFirstRleFault bytes f → IsFirstRleFault bytes g → f ≡ g
one_first_fault bytes f g p q = one_kind bytes f g (kind_of bytes f p) (kind_of bytes g q)

no_kind_in_a_file : (bytes : List ℕ) (file : RleFile) (f : RleFault) → IsRleFile bytes file → FaultKind bytes f → ⊥
no_kind_in_a_file bytes file f h (BadWord p) = bad_word_or_header bytes f p (header_of_headed bytes h.said h.rule h.body h.headed)
no_kind_in_a_file bytes file f h (NoHeader p) = no_header_or_header bytes p (header_of_headed bytes h.said h.rule h.body h.headed)
no_kind_in_a_file bytes file f h (Xlife p) = xlife_or_headed bytes h.said h.rule h.body p h.headed
no_kind_in_a_file bytes file f h (BadItem p) =
    let headed = one_headed bytes p.said h.said p.rule h.rule p.body h.body p.headed h.headed in
    no_bad_item h.body p.bad file.items p.items f h.items (subst (λ (l : List ℕ). Run l p.items p.bad) headed.2 p.good) p.fault_is

-- a file has no fault in its spelling
pub no_fault_in_a_file : (bytes : List ℕ) (file : RleFile) (f : RleFault) → IsRleFile bytes file → IsFirstRleFault bytes f → ⊥
no_fault_in_a_file bytes file f h p = no_kind_in_a_file bytes file f h (kind_of bytes f p)

-- ---- the limits

-- a fault by its kind: the first in the spelling, or a limit that a file passes
pub data LimitKind (bytes : List ℕ) : RleFault → Type 0 where
  Spelling : {f : RleFault} → IsFirstRleFault bytes f → LimitKind bytes f
  TooFar : (file : RleFile) → IsRleFile bytes file → IsRleOutOfRange file → LimitKind bytes Range
  TooMany : (file : RleFile) → IsRleFile bytes file → HasTooManyRleCells file → LimitKind bytes TooManyCells

-- what a fault is of
pub limit_kind_of : (bytes : List ℕ) (f : RleFault) → f ≢ Memory → IsRleFault bytes f → LimitKind bytes f
limit_kind_of bytes Range n (file, h, out) = TooFar file h out
limit_kind_of bytes TooManyCells n (file, h, many) = TooMany file h many
limit_kind_of bytes Memory n p = absurd (n refl)
limit_kind_of bytes f n p = Spelling p

far_or_many : (bytes : List ℕ) (far many : RleFile) → IsRleFile bytes far → IsRleOutOfRange far → IsRleFile bytes many → HasTooManyRleCells many → ⊥
far_or_many bytes far many h out k m = out (subst IsRleWithinRange (one_file bytes many far k h) m.0)

one_limit_kind : (bytes : List ℕ) (f g : RleFault) → LimitKind bytes f → LimitKind bytes g → f ≡ g
one_limit_kind bytes f g (Spelling p) (Spelling q) = one_first_fault bytes f g p q
one_limit_kind bytes f g (Spelling p) (TooFar file h out) = absurd (no_fault_in_a_file bytes file f h p)
one_limit_kind bytes f g (Spelling p) (TooMany file h many) = absurd (no_fault_in_a_file bytes file f h p)
one_limit_kind bytes f g (TooFar file h out) (Spelling q) = absurd (no_fault_in_a_file bytes file g h q)
one_limit_kind bytes f g (TooFar far h out) (TooFar file k o) = refl
one_limit_kind bytes f g (TooFar far h out) (TooMany file k many) = absurd (far_or_many bytes far file h out k many)
one_limit_kind bytes f g (TooMany file h many) (Spelling q) = absurd (no_fault_in_a_file bytes file g h q)
one_limit_kind bytes f g (TooMany file h many) (TooFar far k out) = absurd (far_or_many bytes far file k out h many)
one_limit_kind bytes f g (TooMany file h many) (TooMany other k m) = refl

-- a text has one fault at most, besides running out of memory
pub one_fault : (bytes : List ℕ) (f g : RleFault) → f ≢ Memory → g ≢ Memory → IsRleFault bytes f → IsRleFault bytes g → f ≡ g
one_fault bytes f g m n p q = one_limit_kind bytes f g (limit_kind_of bytes f m p) (limit_kind_of bytes g n q)

no_limit_kind : (bytes : List ℕ) (file : RleFile) (f : RleFault) → IsRleFile bytes file → IsWithinLimits file → LimitKind bytes f → ⊥
no_limit_kind bytes file f h w (Spelling p) = no_fault_in_a_file bytes file f h p
no_limit_kind bytes file f h w (TooFar far k out) = out (subst IsRleWithinRange (one_file bytes file far h k) w.0)
no_limit_kind bytes file f h w (TooMany full k many) = below_and_above (2 ^ 24) (length (picture_of_items file.corner file.items)) (subst HasTooManyRleCells (one_file bytes full file k h) many).1 w.1

-- a file within the limits has no fault, besides running out of memory
pub no_fault_within_limits : (bytes : List ℕ) (file : RleFile) (f : RleFault) → IsRleFile bytes file → IsWithinLimits file → f ≢ Memory → IsRleFault bytes f → ⊥
no_fault_within_limits bytes file f h w n p = no_limit_kind bytes file f h w (limit_kind_of bytes f n p)
