-- What is kept of the lines so far, after one more line.
use Rattle.std.proofs.Common.{◌≡◌, ℕ, ◌+◌, ◌<◌, true, false, List, [], ◌∷◌, ◌++◌, map, slice_get, length, All, ◌≤◌, Option, Some, None, Result, Ok, Err, is_ok, IfErr, OnOk, unwrap_or, is_some, IsSome, refl, sym, ap, subst, ◌∙◌, inl, inr, arith}
use Rattle.std.specs.Map.{update}
use Rattle.std.specs.Option.{option_or}
use Rattle.std.specs.Str.{bytes_eq}
use Rattle.std.proofs.lemmas.Bool.{cases_Bool, false≢true}
use Rattle.std.proofs.lemmas.List.{append-nil, map-append, length_push}
use Rattle.std.proofs.lemmas.List.Elements.{All-head, All-tail, All-weaker, All-push}
use Rattle.std.proofs.lemmas.Option.{slice_get_within}
use Rattle.std.proofs.lemmas.Slice.Eq.{bytes_eq-Decides}
use Rattle.ca_text.specs.declared.{both.Both.Both, line.Claim.Claim as ClaimOf, line.ClaimLine.ClaimLine, line.NamePlace.NamePlace, version.TextVersion.TextVersion}
use Rattle.ca_text.specs.Prelude.{HoldsOfBoth, path_at, named_at, claim_with_names, IsNamed, HasGoodNumbers, Claim, map_patterns, ClaimTextLine, Version, Rule, Load, Claims, path_of, AreLoaded}
use Rattle.ca_text.specs.Prelude.{IsAllowedLine, is_second, said_lines, rule_paths, file_paths, paths_once, claims_from, with_word}
use Rattle.ca_text.specs.declared.version.TextVersion.TheVariants.{Open, First, Second}
use Rattle.ca_text.specs.inner.Reading.{IsVersionAfter, KeepsClaimLines, StandsAt, AreKnownNames, known_place, at_places}
use Rattle.ca_text.proofs.PathLists.{paths_once-push, stays_before, stands_last, kept_place, no_fewer}
use Rattle.ca_text.proofs.LinesSaid.{spoken-append, rule_paths-append, file_paths-append, path_of-append, claims_from-append}

-- what holds of a result that is Ok
pub on_ok_holds : {T E : Type 0} (r : Result T E) (P : Type 0) → is_ok r ≡ true → OnOk r P → P
on_ok_holds (Ok x) P e h = h
on_ok_holds (Err x) P e h = absurd (false≢true e)

-- an option that isn't Some
pub none_from : {X : Type 0} (o : Option X) → is_some o ≡ false → o ≡ None
none_from None e = refl
none_from (Some x) e = absurd (false≢true (sym e))

-- nothing follows an option
option_or_none : (o : Option (List ℕ)) → option_or o None ≡ o
option_or_none None = refl
option_or_none (Some p) = refl

-- what holds of both holds where something weaker does
both_weaker : {X : Type 0} (P Q : X → Type 0) → ((x : X) → P x → Q x) → (both : Both X) → HoldsOfBoth P both → HoldsOfBoth Q both
both_weaker P Q f both h = (f both.first h.0, f both.second h.1)

-- patterns that are given the same make the same claim
about_same : {P Q : Type 0} (f g : P → Q) (claim : ClaimOf P) → HoldsOfBoth (λ p. f p ≡ g p) claim.patterns → map_patterns f claim ≡ map_patterns g claim
about_same f g claim h =
    let first = h.0 in
    let second = h.1 in
    λ i. record { patterns = record { first = first i; second = second i }; kind = claim.kind }

-- the texts of a list keep their places in another, which is no shorter
pub record Grown (old new : List (List ℕ)) : Type 0 where
  pub no_shorter : length old ≤ length new
  pub stays : (i : ℕ) → i < length old → slice_get new i ≡ slice_get old i

-- in the same list
pub grown_same : (texts : List (List ℕ)) → Grown texts texts
grown_same texts = record { no_shorter = omega arith; stays = λ i lt. refl }

-- where a path is put
pub grown_path : (paths : List (List ℕ)) (path : List ℕ) → Grown paths (with_word paths path)
grown_path paths path = record { no_shorter = no_fewer paths path; stays = kept_place paths path }

-- and where a text is pushed
pub grown_push : (texts : List (List ℕ)) (text : List ℕ) → Grown texts (texts ++ text ∷ [])
grown_push texts text = record { no_shorter = omega (arith, length_push texts text); stays = stays_before texts (text ∷ []) }

-- a text is found at its index
text_kept : (old new : List (List ℕ)) → Grown old new → (i : ℕ) → i < length old → path_at new i ≡ path_at old i
text_kept old new grown i lt = ap (λ o. unwrap_or o []) (grown.stays i lt)

-- rules keep their tables
pub rules_kept : (paths more : List (List ℕ)) → Grown paths more → (rules : List ℕ) → All (λ i. i < length paths) rules → map (path_at more) rules ≡ map (path_at paths) rules
rules_kept paths more grown [] h = refl
rules_kept paths more grown (i ∷ is) h =
    let first = text_kept paths more grown i (All-head (λ k. k < length paths) i is h) in
    let others = rules_kept paths more grown is (All-tail (λ k. k < length paths) i is h) in
    λ j. first j ∷ others j

-- and their places within the paths
pub places_kept : (paths more : List (List ℕ)) → Grown paths more → (rules : List ℕ) → All (λ i. i < length paths) rules → All (λ i. i < length more) rules
places_kept paths more grown rules h = All-weaker (λ i. i < length paths) (λ i. i < length more) (λ i lt. omega (arith, grown.no_shorter)) rules h

module _ (names after paths more : List (List ℕ)) (grown : Grown names after) (longer : Grown paths more) where
  -- what a place names stays
  named_kept : (p : NamePlace) → (p.name < length names) × (p.path < length paths) → named_at after more p ≡ named_at names paths p
  named_kept p within =
      let name = text_kept names after grown p.name within.0 in
      let path = text_kept paths more longer p.path within.1 in
      λ i. (name i, path i)

  -- a claim keeps its names and paths
  claim_kept : (l : ClaimLine NamePlace) → IsNamed names paths l.claim → claim_with_names after more l ≡ claim_with_names names paths l
  claim_kept l h =
      let same = about_same (named_at after more) (named_at names paths) l.claim
      (named_kept l.claim.patterns.first h.within.0, named_kept l.claim.patterns.second h.within.1) in
      λ i. (l.line, same i)

  -- which are there
  named_there : (claim : ClaimOf NamePlace) → IsNamed names paths claim → IsNamed after more claim
  named_there claim h = record { within = (still_there claim.patterns.first h.within.0, still_there claim.patterns.second h.within.1); numbers = h.numbers }
    where
      still_there : (p : NamePlace) → (p.name < length names) × (p.path < length paths) → (p.name < length after) × (p.path < length more)
      still_there p lt = (omega (arith, lt.0, grown.no_shorter), omega (arith, lt.1, longer.no_shorter))

  -- so do all claims
  pub all_kept : (claims : List (ClaimLine NamePlace)) → All (λ l. IsNamed names paths l.claim) claims → map (claim_with_names after more) claims ≡ map (claim_with_names names paths) claims
  all_kept [] h = refl
  all_kept (l ∷ ls) h =
      let first = claim_kept l (All-head (λ k. IsNamed names paths k.claim) l ls h) in
      let others = all_kept ls (All-tail (λ k. IsNamed names paths k.claim) l ls h) in
      λ i. first i ∷ others i

  pub all_there : (claims : List (ClaimLine NamePlace)) → All (λ l. IsNamed names paths l.claim) claims → All (λ l. IsNamed after more l.claim) claims
  all_there claims h = All-weaker (λ l. IsNamed names paths l.claim) (λ l. IsNamed after more l.claim) (λ l. named_there l.claim) claims h

  -- and each name
  name_kept : (name : List ℕ) (o : Option NamePlace) (found : Option (List ℕ)) → StandsAt names paths name o found → StandsAt after more name o found
  name_kept name None found h = h
  name_kept name (Some p) found h =
      (h.0, grown.stays p.name (slice_get_within names p.name name h.1) ∙ h.1, longer.stays p.path (slice_get_within paths p.path h.0 h.2) ∙ h.2, h.3)

-- a path is found where it is loaded and wasn't before
loaded_now : (lines : List ClaimTextLine) (name path q : List ℕ) → path_of lines name ≡ None → bytes_eq name q ≡ true → path_of (lines ++ Load name path ∷ []) q ≡ Some path
loaded_now lines name path q none e =
    let same : name ≡ q = (bytes_eq-Decides name q).0 e in
    let before : path_of lines q ≡ None = ap (path_of lines) (sym same) ∙ none in
    path_of-append lines (Load name path ∷ []) q ∙ rw (before, e) refl

-- another name's path stays
loaded_else : (lines : List ClaimTextLine) (name path q : List ℕ) → bytes_eq name q ≡ false → path_of (lines ++ Load name path ∷ []) q ≡ path_of lines q
loaded_else lines name path q e = path_of-append lines (Load name path ∷ []) q ∙ rw e (option_or_none (path_of lines q))

-- a line that tells the version loads nothing
version_loads_none : (lines : List ClaimTextLine) (q : List ℕ) → path_of (lines ++ Version ∷ []) q ≡ path_of lines q
version_loads_none lines q = path_of-append lines (Version ∷ []) q ∙ option_or_none (path_of lines q)

-- nor does a rule table
rule_loads_none : (lines : List ClaimTextLine) (path q : List ℕ) → path_of (lines ++ Rule path ∷ []) q ≡ path_of lines q
rule_loads_none lines path q = path_of-append lines (Rule path ∷ []) q ∙ option_or_none (path_of lines q)

-- nor does a claim
claim_loads_none : (lines : List ClaimTextLine) (claim : Claim) (q : List ℕ) → path_of (lines ++ Claims claim ∷ []) q ≡ path_of lines q
claim_loads_none lines claim q = path_of-append lines (Claims claim ∷ []) q ∙ option_or_none (path_of lines q)

-- what is known of the version after one more line
pub version_after : (said : List (Option ClaimTextLine)) (line : ClaimTextLine) (version : TextVersion) → IsVersionAfter (said_lines said ++ line ∷ []) version
    → IsVersionAfter (said_lines (said ++ Some line ∷ [])) version
version_after said line version h = subst (λ ls. IsVersionAfter ls version) (sym (spoken-append said (Some line ∷ []))) h

-- and after one that says nothing
pub version_stays : (said : List (Option ClaimTextLine)) (version : TextVersion) → IsVersionAfter (said_lines said) version → IsVersionAfter (said_lines (said ++ None ∷ [])) version
version_stays said version h = subst (λ ls. IsVersionAfter ls version) (sym (spoken-append said (None ∷ []) ∙ append-nil (said_lines said))) h

-- what follows of an answer
pub on_ok_as : {T E : Type 0} (r : Result T E) (P Q : Type 0) → (P → Q) → OnOk r P → OnOk r Q
on_ok_as (Ok t) P Q turn h = turn h
on_ok_as (Err e) P Q turn h = tt

pub if_err_as : {T E : Type 0} (r : Result T E) (P Q : E → Type 0) → ((e : E) → P e → Q e) → IfErr r P → IfErr r Q
if_err_as (Ok t) P Q turn h = tt
if_err_as (Err e) P Q turn h = turn e h

-- an empty list adds nothing
adds_none : {X : Type 0} {ys : List X} (xs : List X) → ys ≡ [] → xs ++ ys ≡ xs
adds_none xs e = ap (λ l. xs ++ l) e ∙ append-nil xs

-- for each version there are lines after which it is known
pub lines_of_version : TextVersion → List ClaimTextLine
lines_of_version Open = []
lines_of_version First = Rule [] ∷ []
lines_of_version Second = Version ∷ []

pub version_of_lines : (version : TextVersion) → IsVersionAfter (lines_of_version version) version
unfolding lines_of_version
version_of_lines Open = refl
version_of_lines First = ((λ e. cc), refl)
version_of_lines Second = refl

-- the version is known where no other line has said anything
pub version_told : (said : List (Option ClaimTextLine)) → said_lines said ≡ [] → is_second (said_lines (said ++ Some Version ∷ [])) ≡ true
version_told said none = ap is_second (spoken-append said (Some Version ∷ []) ∙ ap (λ ls. ls ++ Version ∷ []) none)

module _ (said : List (Option ClaimTextLine)) (names paths : List (List ℕ)) (rules : List ℕ) (claims : List (ClaimLine NamePlace)) (places : List ℕ → Option NamePlace) (read : KeepsClaimLines said names paths rules claims places) where
  -- a line that says nothing of paths, names or claims
  read_other : (s : Option ClaimTextLine) → file_paths (s ∷ []) ≡ [] → rule_paths (s ∷ []) ≡ [] → claims_from (1 + length said) (said_lines said) (s ∷ []) ≡ []
      → ((q : List ℕ) → path_of (said_lines (said ++ s ∷ [])) q ≡ path_of (said_lines said) q) → KeepsClaimLines (said ++ s ∷ []) names paths rules claims places
  read_other s files tables asks loads = record {
    once = read.once ∙ ap paths_once (sym (file_paths-append said (s ∷ []) ∙ adds_none (file_paths said) files));
    ruled = read.ruled ∙ sym (rule_paths-append said (s ∷ []) ∙ adds_none (rule_paths said) tables);
    placed = read.placed;
    asked = read.asked ∙ sym (claims_from-append 1 [] said (s ∷ []) ∙ adds_none (claims_from 1 [] said) asks);
    good = read.good;
    known = λ q. subst (StandsAt names paths q (places q)) (sym (loads q)) (read.known q);
  }

  -- a line that says nothing
  pub read_none : KeepsClaimLines (said ++ None ∷ []) names paths rules claims places
  read_none = read_other None refl refl refl (λ q. ap (λ ls. path_of ls q) (spoken-append said (None ∷ []) ∙ append-nil (said_lines said)))

  -- a line that tells the version
  pub read_version : KeepsClaimLines (said ++ Some Version ∷ []) names paths rules claims places
  read_version = read_other (Some Version) refl refl refl (λ q. ap (λ ls. path_of ls q) (spoken-append said (Some Version ∷ [])) ∙ version_loads_none (said_lines said) q)

  -- the paths after a line with one more
  once_more : (path : List ℕ) (line : ClaimTextLine) → file_paths (Some line ∷ []) ≡ path ∷ [] → with_word paths path ≡ paths_once (file_paths (said ++ Some line ∷ []))
  once_more path line e =
      ap (λ l. with_word l path) read.once ∙ sym (paths_once-push (file_paths said) path)
      ∙ ap (λ l. paths_once (file_paths said ++ l)) (sym e) ∙ ap paths_once (sym (file_paths-append said (Some line ∷ [])))

  -- a line that says where a rule table is
  pub read_rule : (path : List ℕ) (place : ℕ) → slice_get (with_word paths path) place ≡ Some path
      → KeepsClaimLines (said ++ Some (Rule path) ∷ []) names (with_word paths path) (rules ++ place ∷ []) claims places
  read_rule path place at =
      let s : Option ClaimTextLine = Some (Rule path) in
      let same = grown_same names in
      let longer = grown_path paths path in
      record {
        once = once_more path (Rule path) refl;
        ruled = map-append (path_at (with_word paths path)) rules (place ∷ [])
            ∙ ap (λ l. l ++ path_at (with_word paths path) place ∷ []) (rules_kept paths (with_word paths path) longer rules read.placed ∙ read.ruled)
            ∙ ap (λ p. rule_paths said ++ unwrap_or p [] ∷ []) at
            ∙ sym (rule_paths-append said (s ∷ []));
        placed = All-push (λ i. i < length (with_word paths path)) rules place (places_kept paths (with_word paths path) longer rules read.placed) (slice_get_within (with_word paths path) place path at);
        asked = all_kept names names paths (with_word paths path) same longer claims read.good ∙ read.asked ∙ sym (claims_from-append 1 [] said (s ∷ []) ∙ append-nil (claims_from 1 [] said));
        good = all_there names names paths (with_word paths path) same longer claims read.good;
        known = λ q. subst (StandsAt names (with_word paths path) q (places q)) (sym (ap (λ ls. path_of ls q) (spoken-append said (s ∷ [])) ∙ rule_loads_none (said_lines said) path q))
            (name_kept names names paths (with_word paths path) same longer q (places q) (path_of (said_lines said) q) (read.known q));
      }

  -- the name wasn't loaded
  pub not_loaded : (name : List ℕ) → places name ≡ None → path_of (said_lines said) name ≡ None
  not_loaded name new = subst (λ o. StandsAt names paths name o (path_of (said_lines said) name)) new (read.known name)

  module _ (name path : List ℕ) (at : ℕ) (new : places name ≡ None) (there : slice_get (with_word paths path) at ≡ Some path) where
    -- the place of a name that is pushed
    abbrev pub new_place : NamePlace
    new_place = record { name = length names; path = at }

    -- it stands there
    stands_now : (q : List ℕ) → bytes_eq name q ≡ true → StandsAt (names ++ name ∷ []) (with_word paths path) q (Some new_place) (path_of (said_lines said ++ Load name path ∷ []) q)
    stands_now q e =
        let same : name ≡ q = (bytes_eq-Decides name q).0 e in
        (path, stands_last names name ∙ ap Some same, there, loaded_now (said_lines said) name path q (not_loaded name new) e)

    -- where a name stands after a line that loads one
    known_after : (q : List ℕ) → StandsAt (names ++ name ∷ []) (with_word paths path) q (update bytes_eq places name (Some new_place) q) (path_of (said_lines (said ++ Some (Load name path) ∷ [])) q)
    known_after q =
        rw (spoken-append said (Some (Load name path) ∷ []))
        elim (cases_Bool (bytes_eq name q)) [
          | inl e ↦ rw e (stands_now q e)
          | inr e ↦ rw e (subst (StandsAt (names ++ name ∷ []) (with_word paths path) q (places q)) (sym (loaded_else (said_lines said) name path q e))
              (name_kept names (names ++ name ∷ []) paths (with_word paths path) (grown_push names name) (grown_path paths path) q (places q) (path_of (said_lines said) q) (read.known q)))
        ]

    -- a line that loads a name from a path
    pub read_load : (after : List ℕ → Option NamePlace) → ((q : List ℕ) → after q ≡ update bytes_eq places name (Some new_place) q)
        → KeepsClaimLines (said ++ Some (Load name path) ∷ []) (names ++ name ∷ []) (with_word paths path) rules claims after
    read_load after updated =
        let s : Option ClaimTextLine = Some (Load name path) in
        let grown = grown_push names name in
        let longer = grown_path paths path in
        record {
          once = once_more path (Load name path) refl;
          ruled = rules_kept paths (with_word paths path) longer rules read.placed ∙ read.ruled ∙ sym (rule_paths-append said (s ∷ []) ∙ append-nil (rule_paths said));
          placed = places_kept paths (with_word paths path) longer rules read.placed;
          asked = all_kept names (names ++ name ∷ []) paths (with_word paths path) grown longer claims read.good ∙ read.asked
              ∙ sym (claims_from-append 1 [] said (s ∷ []) ∙ append-nil (claims_from 1 [] said));
          good = all_there names (names ++ name ∷ []) paths (with_word paths path) grown longer claims read.good;
          known = λ q. subst (λ o. StandsAt (names ++ name ∷ []) (with_word paths path) q o (path_of (said_lines (said ++ s ∷ [])) q)) (sym (updated q)) (known_after q);
        }

  -- a name that is known is loaded
  known_loaded : (name : List ℕ) (o : Option NamePlace) (found : Option (List ℕ)) → StandsAt names paths name o found → IsSome o → IsSome found
  known_loaded name None found at known = absurd (false≢true known)
  known_loaded name (Some p) found at known = ap is_some at.3

  -- and the other way round
  loaded_known : (name : List ℕ) (o : Option NamePlace) (found : Option (List ℕ)) → StandsAt names paths name o found → IsSome found → IsSome o
  loaded_known name None found at loaded = absurd (false≢true (sym (ap is_some at) ∙ loaded))
  loaded_known name (Some p) found at loaded = refl

  -- so are both names of a claim
  pub names_loaded : (claim : Claim) → AreKnownNames places claim → AreLoaded (said_lines said) claim.patterns
  names_loaded claim = both_weaker (λ n. IsSome (places n)) (λ n. IsSome (path_of (said_lines said) n)) (λ n. known_loaded n (places n) (path_of (said_lines said) n) (read.known n)) claim.patterns

  pub names_known : (claim : Claim) → AreLoaded (said_lines said) claim.patterns → AreKnownNames places claim
  names_known claim = both_weaker (λ n. IsSome (path_of (said_lines said) n)) (λ n. IsSome (places n)) (λ n. loaded_known n (places n) (path_of (said_lines said) n) (read.known n)) claim.patterns

  -- a known name and its path stand at its place
  place_named : (name : List ℕ) (o : Option NamePlace) (found : Option (List ℕ)) → StandsAt names paths name o found → IsSome o → named_at names paths (known_place o) ≡ (name, unwrap_or found [])
  place_named name None found at known = absurd (false≢true known)
  place_named name (Some p) found at known =
      let here = ap (λ q. unwrap_or q []) at.1 in
      let loaded = ap (λ q. unwrap_or q []) (at.2 ∙ sym at.3) in
      λ i. (here i, loaded i)

  -- which is within the names and the paths
  place_within : (name : List ℕ) (o : Option NamePlace) (found : Option (List ℕ)) → StandsAt names paths name o found → IsSome o → ((known_place o).name < length names) × ((known_place o).path < length paths)
  place_within name None found at known = absurd (false≢true known)
  place_within name (Some p) found at known = (slice_get_within names p.name name at.1, slice_get_within paths p.path at.0 at.2)

  -- so a claim at its names' places is about the names, and the paths that are loaded
  places_named : (claim : Claim) → AreKnownNames places claim → map_patterns (named_at names paths) (at_places places claim) ≡ map_patterns (λ name. (name, unwrap_or (path_of (said_lines said) name) [])) claim
  places_named claim known =
      about_same (λ name. named_at names paths (known_place (places name))) (λ name. (name, unwrap_or (path_of (said_lines said) name) [])) claim
      (both_weaker (λ n. IsSome (places n)) (λ n. named_at names paths (known_place (places n)) ≡ (n, unwrap_or (path_of (said_lines said) n) []))
      (λ n. place_named n (places n) (path_of (said_lines said) n) (read.known n)) claim.patterns known)

  -- and these are kept
  places_there : (claim : Claim) → AreKnownNames places claim → HasGoodNumbers claim.kind → IsNamed names paths (at_places places claim)
  places_there claim known good = record {
    within = both_weaker (λ n. IsSome (places n)) (λ n. ((known_place (places n)).name < length names) × ((known_place (places n)).path < length paths))
        (λ n. place_within n (places n) (path_of (said_lines said) n) (read.known n)) claim.patterns known;
    numbers = good;
  }

  -- a line that makes a claim
  pub read_claim : (claim : Claim) (line : ℕ) → AreKnownNames places claim → HasGoodNumbers claim.kind → line ≡ length said + 1
      → IsAllowedLine (said_lines said) (Claims claim) × KeepsClaimLines (said ++ Some (Claims claim) ∷ []) names paths rules (claims ++ record { line = line; claim = at_places places claim } ∷ []) places
  read_claim claim line known good number =
      let s : Option ClaimTextLine = Some (Claims claim) in
      let l : ClaimLine NamePlace = record { line = line; claim = at_places places claim } in
      let counted : line ≡ 1 + length said = omega arith in
      let same = places_named claim known in (
        (good, names_loaded claim known),
        record {
          once = read.once ∙ ap paths_once (sym (file_paths-append said (s ∷ []) ∙ append-nil (file_paths said)));
          ruled = read.ruled ∙ sym (rule_paths-append said (s ∷ []) ∙ append-nil (rule_paths said));
          placed = read.placed;
          asked = map-append (claim_with_names names paths) claims (l ∷ [])
              ∙ ap (λ cs. cs ++ (line, map_patterns (named_at names paths) (at_places places claim)) ∷ []) read.asked
              ∙ (λ i. claims_from 1 [] said ++ (counted i, same i) ∷ [])
              ∙ sym (claims_from-append 1 [] said (s ∷ []));
          good = All-push (λ k. IsNamed names paths k.claim) claims l read.good (places_there claim known good);
          known = λ q. subst (StandsAt names paths q (places q)) (sym (ap (λ ls. path_of ls q) (spoken-append said (s ∷ [])) ∙ claim_loads_none (said_lines said) claim q)) (read.known q);
        },
      )
