-- What is read from a text of the family Generations is what it spells, and nothing else.
use Rattle.std.proofs.Common.{◌≡◌, ◌&&◌, ℕ, List, [], ◌∷◌, ◌++◌, Bool, true, false, not, nat_le, length, get_or, Option, Some, None, is_some, option_map, option_and_then, if◌then◌else◌, refl, ap, sym, subst, ◌∙◌, append-nil, arith}
use Rattle.std.specs.List.{list_all, All}
use Rattle.std.proofs.lemmas.Bool.{and_parts, and_from, false≢true}
use Rattle.std.proofs.lemmas.Bool.Decides.{nat_tests}
use Rattle.std.proofs.lemmas.List.Sums.{AllPass-from_list_all}
use Rattle.std.proofs.lemmas.Option.{same_Some, none-some}
use Rattle.ca_plane.specs.Prelude.{Every, is_digit, value}
use Rattle.ca_plane.proofs.Fronts.{every_append, every_right, every_wider}
use Rattle.ca_rule.specs.Prelude.{has_digit, counts_of, are_digits_up_to, are_digits, state_count, SpellsGenerationsRule, SpellsNoGenerationsRule, NamesGenerationsRule, IsGenerationsRuleFault}
use Rattle.ca_rule.specs.Prelude.{stands_in_list, lists_around_slash, lists_of}
use Rattle.ca_rule.specs.Spelling as bs
use Rattle.ca_rule.specs.declared.{fault.RuleFault.RuleFault, gen_rule.GenRule.GenRule}
use Rattle.ca_rule.specs.declared.fault.RuleFault.TheVariants.{Unknown}
use Rattle.ca_rule.specs.declared.hood.Hood.TheVariants.{Moore}
use Rattle.ca_rule.proofs.Ends.{is_plain, split, no_colon}
use Rattle.ca_rule.proofs.SpelledDigits.{around_slash-from, first_list}
use Rattle.ca_rule.proofs.Meaning.{counts-once, counts-faultless}
use Rattle.ca_rule.proofs.OneSpelling.{then-some, map-some, if-some}
use Rattle.ca_rule.proofs.ReadInwards.{digits-of, listed-digits, around_slash, lists-unlettered, read}

-- ---- what a text spells, read from its left

-- survival digits, birth digits, and the number of states
abbrev pub Parts : Type 0
Parts = List ℕ × List ℕ × ℕ

-- the parts, where the bytes are such digits and such a number
abbrev pub generations_parts : List ℕ → List ℕ → List ℕ → Option Parts
generations_parts survival birth number =
    if are_digits_up_to 8 survival && are_digits_up_to 8 birth then option_map (λ states. (survival, birth, states)) (state_count number) else None

-- the parts of a text after its survival digits, by what stands round the second `/`
abbrev pub parts_after : List ℕ → List ℕ × List ℕ → Option Parts
parts_after survival lists = generations_parts survival lists.0 lists.1

-- the parts of a text, by what stands round the first `/`
abbrev pub parts_around : List ℕ × List ℕ → Option Parts
parts_around lists = option_and_then (parts_after lists.0) (lists_around_slash lists.1)

-- the parts that a text spells
abbrev pub parts_in : List ℕ → Option Parts
parts_in text = option_and_then parts_around (lists_around_slash text)

-- a text that spells a rule is read as that rule
pub spelled-read : (text survival birth : List ℕ) (states : ℕ) → SpellsGenerationsRule text survival birth states → parts_in text ≡ Some (survival, birth, states)
spelled-read text s b n h =
    ap parts_in h.form
    ∙ ap (option_and_then parts_around) (around_slash s (b ++ (47 ∷ h.number)) (listed-digits Moore s h.survival_digits))
    ∙ ap (option_and_then (parts_after s)) (around_slash b h.number (listed-digits Moore b h.birth_digits))
    ∙ ap (λ t. if t then option_map (λ states. (s, b, states)) (state_count h.number) else None) (and_from _ _ h.survival_digits h.birth_digits)
    ∙ ap (option_map (λ states. (s, b, states))) h.number_is

-- and what is read is spelled
pub read-spelled : (text : List ℕ) (p : Parts) → parts_in text ≡ Some p → SpellsGenerationsRule text p.0 p.1 p.2
read-spelled text p e =
    let one = then-some parts_around (lists_around_slash text) p e in
    let two = then-some (parts_after one.0.0) (lists_around_slash one.0.1) p one.2 in
    let good = if-some (are_digits_up_to 8 one.0.0 && are_digits_up_to 8 two.0.0) (option_map (λ states. (one.0.0, two.0.0, states)) (state_count two.0.1)) p two.2 in
    let digits = and_parts (are_digits_up_to 8 one.0.0) (are_digits_up_to 8 two.0.0) good.0 in
    let number = map-some (λ states. (one.0.0, two.0.0, states)) (state_count two.0.1) p good.1 in
    subst (λ (q : Parts). SpellsGenerationsRule text q.0 q.1 q.2) number.2 (record {
      survival_digits = digits.0;
      birth_digits = digits.1;
      number = two.0.1;
      number_is = number.1;
      form = around_slash-from text one.0.0 one.0.1 one.1 ∙ ap (λ l. one.0.0 ++ (47 ∷ l)) (around_slash-from one.0.1 two.0.0 two.0.1 two.1);
    })

-- a text of which nothing is read spells no rule
pub none-spelled : (text : List ℕ) → parts_in text ≡ None → SpellsNoGenerationsRule text
none-spelled text none b s n h = none-some (s, b, n) (sym none ∙ spelled-read text s b n h)

-- so it is unknown, if it has no `:`
unread : (colon : Bool) (parts : Option Parts) → (not colon && not (is_some parts)) ≡ true → (colon ≡ false) × (parts ≡ None)
unread false None e = (refl, refl)
unread false (Some p) e = absurd (false≢true e)
unread true parts e = absurd (false≢true e)

pub all_unknown : (texts : List (List ℕ)) → list_all (λ text. not (bs.has_colon text) && not (is_some (parts_in text))) texts ≡ true → All (λ text. IsGenerationsRuleFault text Unknown) texts
all_unknown texts e k d low =
    let text = get_or texts k d in
    let none = unread (bs.has_colon text) (parts_in text) (AllPass-from_list_all _ texts e k d low) in (none.0, none-spelled text none.1)

-- a rule of the counts and states that are read is named
pub read-named : (text : List ℕ) (p : Parts) (rule : GenRule) → parts_in text ≡ Some p → has_digit p.1 0 ≡ false → rule.survival ≡ counts_of p.0 → rule.birth ≡ counts_of p.1 → rule.states ≡ p.2 → NamesGenerationsRule text rule
read-named text p rule read empty s b n = record {
  survival = p.0;
  birth = p.1;
  spells = subst (SpellsGenerationsRule text p.0 p.1) (sym n) (read-spelled text p read);
  stays_empty = empty;
  survival_is = s;
  birth_is = b;
}

-- a text spells one rule at most
spelled-once : (text b s c t : List ℕ) (n m : ℕ) → SpellsGenerationsRule text s b n → SpellsGenerationsRule text t c m → (b ≡ c) × (s ≡ t) × (n ≡ m)
spelled-once text b s c t n m h k =
    let same : (s, b, n) ≡ (t, c, m) = same_Some (s, b, n) (t, c, m) (sym (spelled-read text s b n h) ∙ spelled-read text t c m k) in
    (ap (λ (p : Parts). p.1) same, ap (λ (p : Parts). p.0) same, ap (λ (p : Parts). p.2) same)

-- ---- such a text is no B/S spelling, and has no `:`

-- a number of states is digits
number-digits : (number : List ℕ) (n : ℕ) → state_count number ≡ Some n → Every is_digit number
number-digits number n e =
    let good = if-some (are_digits number && (nat_le 2 (value number) && nat_le (value number) 256)) (Some (value number)) n e in
    (and_parts (nat_le 1 (length number)) (list_all is_digit number) (and_parts (are_digits number) _ good.0).0).1

-- each byte of the text is a digit or a `/`
pub bytes-pass : (test : ℕ → Bool) → test 47 ≡ true → ((d : ℕ) → is_digit d ≡ true → test d ≡ true) → (text s b : List ℕ) (n : ℕ) → SpellsGenerationsRule text s b n → Every test text
bytes-pass test slash digit text s b n h =
    let survivals = every_wider is_digit test digit s (digits-of Moore s h.survival_digits) in
    let births = every_wider is_digit test digit b (digits-of Moore b h.birth_digits) in
    let number = every_wider is_digit test digit h.number (number-digits h.number n h.number_is) in
    ap (list_all test) h.form ∙ every_append test s _ survivals (and_from (test 47) _ slash (every_append test b _ births (and_from (test 47) _ slash number)))

plain-text : (text s b : List ℕ) (n : ℕ) → SpellsGenerationsRule text s b n → Every is_plain text
plain-text = bytes-pass is_plain refl (λ d t. grind (arith, nat_tests))

pub spelled-no_colon : (text s b : List ℕ) (n : ℕ) → SpellsGenerationsRule text s b n → bs.has_colon text ≡ false
spelled-no_colon text s b n h = no_colon text text [] Moore (sym (append-nil text)) (plain-text text s b n h) refl

-- read as two lists, it has its second `/` in one of them
pub two-lists : (text s b : List ℕ) (n : ℕ) → (h : SpellsGenerationsRule text s b n) → lists_of text ≡ Some (b ++ (47 ∷ h.number), s)
two-lists text s b n h = ap lists_of h.form ∙ lists-unlettered s (b ++ (47 ∷ h.number)) (listed-digits Moore s h.survival_digits)

-- so it isn't read as two lists that hold none
pub other-lists : (text s b : List ℕ) (n : ℕ) → SpellsGenerationsRule text s b n → (d v : List ℕ) → lists_of text ≡ Some (d, v) → Every stands_in_list d → ⊥
other-lists text s b n h d v lists all =
    let births : d ≡ b ++ (47 ∷ h.number) = ap first_list (sym lists ∙ two-lists text s b n h) in
    false≢true (every_right stands_in_list b (47 ∷ h.number) (subst (Every stands_in_list) births all))

pub other-notation : (text s b : List ℕ) (n : ℕ) → SpellsGenerationsRule text s b n → bs.SpellsNoBsRule text
other-notation text s b n h d v hood k =
    let whole = (split text text [] Moore (sym (append-nil text)) (plain-text text s b n h) refl).body_is in
    other-lists text s b n h d v (ap lists_of (sym whole) ∙ (read text d v hood k).lists_are) (listed-digits hood d k.birth_digits)

-- ---- the rule that a text names, or its fault

pub names-once : (text : List ℕ) (r s : GenRule) → NamesGenerationsRule text r → NamesGenerationsRule text s → (r.survival ≡ s.survival) × (r.birth ≡ s.birth) × (r.states ≡ s.states)
names-once text r s h k =
    let one = counts-once (λ b s. SpellsGenerationsRule text s b) (spelled-once text) r.birth r.survival s.birth s.survival r.states s.states h k in (one.1, one.0, one.2)

pub names-no_colon : (text : List ℕ) (rule : GenRule) → NamesGenerationsRule text rule → bs.has_colon text ≡ false
names-no_colon text rule h = spelled-no_colon text h.survival h.birth rule.states h.spells

pub names-faultless : (text : List ℕ) (rule : GenRule) (fault : RuleFault) → NamesGenerationsRule text rule → IsGenerationsRuleFault text fault → ⊥
names-faultless text rule fault h =
    counts-faultless (λ b s. SpellsGenerationsRule text s b) (spelled-once text) text rule.birth rule.survival rule.states fault (names-no_colon text rule h) h
