-- What the claim text over the files of a census says.
use Rattle.std.proofs.Common.{◌≡◌, ℕ, ◌+◌, ◌<◌, ◌≤◌, ◌^◌, suc, Bool, true, false, List, [], ◌∷◌, ◌++◌, length, Option, None, Some, Vec, Global, codes, refl, ap, sym, ◌∙◌, subst, arith}
use Rattle.std.specs.Prelude.{IsSome, option_map}
use Rattle.std.specs.List.{AllZip, flat_map}
use Rattle.std.specs.Option.{option_or}
use Rattle.std.proofs.lemmas.Bool.{false≢true}
use Rattle.std.proofs.lemmas.List.{append-nil}
use Rattle.ca_plane.specs.Prelude.{Picture, IsWord, lines_of, longest_period, most_generations}
use Rattle.ca_rule.specs.Prelude.{next_of}
use Rattle.ca_answers.specs.declared.identity.Identity.TheVariants.{Claim}
use Rattle.ca_answers.specs.Prelude.{IsIdentity, IsCodeOf}
use Rattle.ca_text.specs.declared.kind.Kind.{Kind}
use Rattle.ca_text.specs.declared.kind.Kind.TheVariants.{Becomes}
use Rattle.ca_text.specs.Prelude.{keyword_of, words_after_name, ClaimTextLine, Version, Load, Claims, is_second, path_of, ClaimLinesSay}
use Rattle.ca_text.proofs.LinesSaid.{path_of-append}
use Rattle.ca_text.proofs.WrittenWords.{keyword_word, keyword_spoken, written_follow, written_words}
use Rattle.ca_identify_lines.specs.Prelude.{code_lines, rule_lines, version_line, catalog_head, claim_line}
use Rattle.ca_identify_lines.proofs.Saying.{TextSays, says_none, says_then, says_words, spelled_spaced}
use Rattle.ca_identify_lines.proofs.CodeLines.{code_inner}
use Rattle.ca_identify_lines.proofs.CatalogSaid.{identity_said, code_said, loaded_now, second_stays, rules_say, rules_said, rules_load, version_said}
use Rattle.ca_report.specs.Outside.{path_in}
use Rattle.ca_census.specs.declared.{entry.CensusObject.CensusObject}
use Rattle.ca_census.specs.Prelude.{IsCodeIfAsked, IsEntryOf}
use Rattle.ca_census_files.specs.Prelude.{object_name, settled_name, rle_file, becomes_lines, object_claim_lines, all_object_claims, files_text}
use Rattle.ca_census_files.specs.Prelude.{load_says, becomes_says, object_says, all_objects_say, FilesSayTheirClaims}
use Rattle.ca_census_files.proofs.NumberedNames.{object_word, settled_word, rle_word, not_settled, not_object, settled_not_object, other_number}

-- a name that no line loads, neither of these nor of those after them
free_after : (earlier more : List ClaimTextLine) (name : List ℕ) → path_of earlier name ≡ None → path_of more name ≡ None → path_of (earlier ++ more) name ≡ None
free_after earlier more name first then = path_of-append earlier more name ∙ ap (λ p. option_or p (path_of more name)) first ∙ then

-- a name that is loaded stays so
stays_loaded : (earlier more : List ClaimTextLine) (name : List ℕ) → IsSome (path_of earlier name) → IsSome (path_of (earlier ++ more) name)
stays_loaded earlier more name h = subst IsSome (sym (path_of-append earlier more name)) (or_some (path_of earlier name) (path_of more name) h)
  where
    or_some : (a b : Option (List ℕ)) → IsSome a → IsSome (option_or a b)
    or_some None b h = absurd (false≢true h)
    or_some (Some p) b h = refl

-- the line that loads a name says so
load_said : (earlier : List ClaimTextLine) (name path : List ℕ) → IsWord name → IsWord path → path_of earlier name ≡ None
    → TextSays earlier (codes "load " ++ (name ++ (32 ∷ (path ++ 10 ∷ [])))) (Load name path ∷ [])
load_said earlier name path word place free = says_words earlier (codes "load" ∷ name ∷ path ∷ []) (Load name path) (refl, (word, (place, tt))) refl refl free

-- what the object's lines say of its plane is so
record IsTold (next : List ℕ → ℕ) (coded : Bool) (object : CensusObject) : Type 0 where
  identity : IsIdentity next object.plane longest_period (Claim object.kind)
  code : IsCodeIfAsked coded (IsCodeOf next object.plane (Claim object.kind)) (option_map (λ code. code.items) object.code)

-- the comment with a code says nothing
codes_said : (next : List ℕ → ℕ) (coded : Bool) (cells : Picture) (kind : Kind) (earlier : List ClaimTextLine) (name : List ℕ) (code : Option (Vec ℕ Global))
    → IsCodeIfAsked coded (IsCodeOf next cells (Claim kind)) (option_map (λ (code : Vec ℕ Global). code.items) code) → TextSays earlier (code_lines 0 name code) []
codes_said next coded cells kind earlier name None is = says_none earlier
codes_said next true cells kind earlier name (Some code) is = code_said 0 earlier name code.items (code_inner next cells (Claim kind) code.items is)
codes_said next false cells kind earlier name (Some code) is = absurd (cc is)

module _ (folder name : List ℕ) (place : IsWord folder) (word : IsWord name) where
  -- the lines on an object say its name and its claim
  object_said : (next : List ℕ → ℕ) (coded : Bool) (earlier : List ClaimTextLine) (number : ℕ) (object : CensusObject) → IsTold next coded object
      → path_of earlier (object_name name number) ≡ None → is_second earlier ≡ true
      → TextSays earlier (object_claim_lines folder (object_name name number) object) (object_says folder (object_name name number) object)
  object_said next coded earlier number object is free second =
      let own = object_name name number in
      let path = path_in folder (rle_file own) in
      let owns = object_word name number word in
      let load = Load own path ∷ [] in
      let claims = claim_line own object.kind ∷ [] in
      let claim = identity_said next object.plane longest_period (earlier ++ load) own (Claim object.kind) is.identity owns (loaded_now earlier own path free) (second_stays earlier load second) in
      let code = codes_said next coded object.plane object.kind ((earlier ++ load) ++ claims) own object.code is.code in
      says_then earlier _ _ load claims (load_said earlier own path owns (rle_word folder own place owns) free) (says_then (earlier ++ load) _ (code_lines 0 own object.code) claims [] claim code)

  -- and load the name of no other object
  no_other : (number other : ℕ) (object : CensusObject) → number < other → other < 2 ^ 64 → path_of (object_says folder (object_name name number) object) (object_name name other) ≡ None
  no_other number other object less high = rw (other_number name number other (omega arith) high (λ e. omega arith)) refl

  -- the lines on all objects say their names and claims
  objects_said : {C : Type 0} (Holds : C → CensusObject → Type 0) (next : List ℕ → ℕ) (coded : Bool) → ((c : C) (o : CensusObject) → Holds c o → IsTold next coded o)
      → (cs : List C) (earlier : List ClaimTextLine) (number : ℕ) (objects : List CensusObject) → AllZip Holds cs objects → number + length objects ≤ 2 ^ 64
      → ((k : ℕ) → number ≤ k → k < 2 ^ 64 → path_of earlier (object_name name k) ≡ None) → is_second earlier ≡ true
      → TextSays earlier (all_object_claims folder name number objects) (all_objects_say folder name number objects)
  objects_said Holds next coded tell [] earlier number [] all few free second = says_none earlier
  objects_said Holds next coded tell [] earlier number (o ∷ os) all few free second = absurd all
  objects_said Holds next coded tell (c ∷ cs) earlier number [] all few free second = absurd all
  objects_said Holds next coded tell (c ∷ cs) earlier number (o ∷ os) all few free second =
      let says = object_says folder (object_name name number) o in
      says_then earlier _ _ says (all_objects_say folder name (suc number) os)
      (object_said next coded earlier number o (tell c o all.0) (free number (omega arith) (omega arith)) second)
      (objects_said Holds next coded tell cs (earlier ++ says) (suc number) os all.1 (omega arith)
      (λ k low high. free_after earlier says (object_name name k) (free k (omega arith) high) (no_other number k o (omega arith) high)) (second_stays earlier says second))

  -- the lines on the settled plane say what the file becomes
  becomes_said : (earlier : List ClaimTextLine) (path : List ℕ) (generations : ℕ) → IsWord path → generations ≤ most_generations
      → ((own : List ℕ) → path_of earlier own ≡ None) → TextSays earlier (becomes_lines folder name path generations) (becomes_says folder name path generations)
  becomes_said earlier path generations road few free =
      let settled = settled_name name in
      let settles = settled_word name word in
      let file = path_in folder (rle_file settled) in
      let kind = Becomes generations in
      let later = words_after_name settled kind in
      let claim = Claims (record { patterns = record { first = name; second = settled }; kind = kind }) in
      let one = Load name path ∷ [] in
      let two = Load settled file ∷ [] in
      let new = free_after earlier one settled (free settled) (rw (not_settled name) refl) in
      let first = stays_loaded (earlier ++ one) two name (loaded_now earlier name path (free name)) in
      let second = loaded_now (earlier ++ one) settled file new in
      let becomes = subst (λ text. TextSays ((earlier ++ one) ++ two) (keyword_of kind ++ 32 ∷ text) (claim ∷ [])) (spelled_spaced name later)
      (says_words ((earlier ++ one) ++ two) (keyword_of kind ∷ name ∷ later) claim (keyword_word kind, (word, written_words settled kind settles few)) (keyword_spoken kind (name ∷ later))
      ((later, refl, written_follow settled kind few), λ e. absurd (false≢true e)) (few, (first, second))) in
      says_then earlier _ _ one (load_says folder settled ∷ claim ∷ []) (load_said earlier name path word road (free name))
      (says_then (earlier ++ one) _ _ two (claim ∷ []) (load_said (earlier ++ one) settled file settles (rle_word folder settled place settles) new) becomes)

-- the whole text says all that
pub files_said : FilesSayTheirClaims
files_said folder rules start name path rule cells reach census place words word road few is =
    let generations = start + census.generations in
    let objects = census.objects.items in
    let before = Version ∷ rules_say rules in
    let says = becomes_says folder name path generations in
    let head = says_then [] version_line (rule_lines rules) (Version ∷ []) (rules_say rules) version_said (rules_said (Version ∷ []) rules words) in
    let becomes = becomes_said folder name place word before path generations road few (λ own. rules_load rules own) in
    let free : (k : ℕ) → path_of (before ++ says) (object_name name k) ≡ None =
    λ k. free_after before says (object_name name k) (rules_load rules (object_name name k)) (rw (not_object name k, settled_not_object name k) refl) in
    let next = next_of rule in
    let coded = is.coded in
    let each = objects_said folder name place word (IsEntryOf next coded) next coded
    (λ c o h. record {
      identity = subst (λ p. IsIdentity next p longest_period (Claim o.kind)) (sym h.plane) h.identity;
      code = subst (λ p. IsCodeIfAsked coded (IsCodeOf next p (Claim o.kind)) (option_map (λ code. code.items) o.code)) (sym h.plane) h.code;
    })
    (flat_map (λ of. of) is.is_census.objects) (before ++ says) 1 objects is.is_census.entries
    (omega (arith, census.objects.ok, census.objects.small)) (λ k low high. free k) (second_stays before says refl) in
    let all = says_then [] (catalog_head rules) _ before (says ++ all_objects_say folder name 1 objects) head (says_then before _ _ says (all_objects_say folder name 1 objects) becomes each) in
    let text = files_text folder rules name path generations objects in
    let here : lines_of text ≡ all.lines = ap lines_of (sym (append-nil text)) ∙ all.split [] ∙ append-nil all.lines in
    record { said = all.said; reads = subst (λ ls. ClaimLinesSay [] ls all.said) (sym here) all.good; says = all.all }
