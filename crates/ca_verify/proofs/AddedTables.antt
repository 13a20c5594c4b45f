-- Rule lines that are added after others: verdicts stay.
use Rattle.std.proofs.Common.{◌≡◌, ◌≢◌, ℕ, List, [], ◌∷◌, ◌++◌, Some, inl, inr, refl, ap, ◌∙◌}
use Rattle.std.specs.List.{AllByRecursion}
use Rattle.std.specs.Str.{bytes_eq}
use Rattle.std.specs.Option.{option_or}
use Rattle.std.proofs.lemmas.List.Folds.{find-append}
use Rattle.ca_plane.specs.Prelude.{Picture}
use Rattle.ca_rule.specs.Prelude.{TableRule, RuleValue, Bs, Gen, Tab, NamesRule, IsRuleFault, first_named}
use Rattle.ca_rule.specs.declared.fault.RuleFault.{RuleFault}
use Rattle.ca_rule.specs.declared.fault.RuleFault.TheVariants.{Bounded, Wakes, Unknown}
use Rattle.ca_text.specs.declared.{asks.Asks.Asks, both.Both.Both}
use Rattle.ca_answers.specs.declared.{verdict.Verdict.Verdict, cause.Cause.Cause}
use Rattle.ca_answers.specs.declared.verdict.Verdict.TheVariants.{Yes, No, Refused}
use Rattle.ca_answers.specs.declared.cause.Cause.TheVariants.{NoFile, BadTable, BadPattern, BadRule, StateTooLarge, MixedRules, TooManyCells, Work, Memory}
use Rattle.ca_text.specs.Prelude.{Claim, asks_of, HoldsOfBoth, HoldsOfEither, FirstBadOfBoth, SomeOf, FirstBad}
use Rattle.ca_answers.specs.Prelude.{SuppliedFiles, AreTables, IsRuled, IsMissing, IsThere, HoldsTable, HasRule, IsSmall, HaveOtherRules, FilesAreThere, AgreeOn, HasCause, IsGoodPattern, AreGood, IsJudged}
use Rattle.ca_answers.specs.Prelude.{IsBadTable, IsUnnamed, IsLarge, IsTrueVerdict}

-- ---- lists

-- what holds of some holds of some of a longer list
some_longer : {X : Type 0} (P : X → Type 0) (xs ys : List X) → SomeOf P xs → SomeOf P (xs ++ ys)
some_longer P [] ys some = absurd some
some_longer P (x ∷ xs) ys (inl here) = inl here
some_longer P (x ∷ xs) ys (inr later) = inr (some_longer P xs ys later)

-- the first bad one is that of a longer list
first_longer : {X : Type 0} (Good Bad : X → Type 0) (xs ys : List X) → FirstBad Good Bad xs → FirstBad Good Bad (xs ++ ys)
first_longer Good Bad [] ys first = absurd first
first_longer Good Bad (x ∷ xs) ys (inl here) = inl here
first_longer Good Bad (x ∷ xs) ys (inr later) = inr (later.0, first_longer Good Bad xs ys later.1)

-- what holds of all of two lists holds of all of both together
all_both : {X : Type 0} (P : X → Type 0) (xs ys : List X) → AllByRecursion P xs → AllByRecursion P ys → AllByRecursion P (xs ++ ys)
all_both P [] ys a b = b
all_both P (x ∷ xs) ys a b = (a.0, all_both P xs ys a.1 b)

all_as : {X : Type 0} (P Q : X → Type 0) → ((x : X) → P x → Q x) → (xs : List X) → AllByRecursion P xs → AllByRecursion Q xs
all_as P Q f [] h = tt
all_as P Q f (x ∷ xs) h = (f x h.0, all_as P Q f xs h.1)

-- ---- both of a claim's patterns

both_as : {X : Type 0} (P Q : X → Type 0) → ((x : X) → P x → Q x) → (xs : Both X) → HoldsOfBoth P xs → HoldsOfBoth Q xs
both_as P Q f xs h = (f xs.first h.0, f xs.second h.1)

either_as : {X : Type 0} (P Q : X → Type 0) → ((x : X) → P x → Q x) → (xs : Both X) → HoldsOfEither P xs → HoldsOfEither Q xs
either_as P Q f xs (inl one) = inl (f xs.first one)
either_as P Q f xs (inr one) = inr (f xs.second one)

first_as : {X : Type 0} (Good Right Bad Wrong : X → Type 0) → ((x : X) → Good x → Right x) → ((x : X) → Bad x → Wrong x) → (xs : Both X) → FirstBadOfBoth Good Bad xs → FirstBadOfBoth Right Wrong xs
first_as Good Right Bad Wrong f g xs (inl here) = inl (g xs.first here)
first_as Good Right Bad Wrong f g xs (inr later) = inr (f xs.first later.0, g xs.second later.1)

-- ---- names

-- the first table of a name is the first still
first_stays : (name : List ℕ) (tables more : List TableRule) (table : TableRule) → first_named name tables ≡ Some table → first_named name (tables ++ more) ≡ Some table
first_stays name tables more table h = find-append (λ (t : TableRule). bytes_eq t.name name) tables more ∙ ap (λ o. option_or o (first_named name more)) h

module _ (tables more : List TableRule) where
  -- a text that names a rule names it still
  named_stays : (text : List ℕ) (rule : RuleValue) → NamesRule text tables rule → NamesRule text (tables ++ more) rule
  named_stays text (Bs rule) h = h
  named_stays text (Gen rule) h = h
  named_stays text (Tab table) h = (h.0, h.1, h.2, first_stays text tables more table h.3)

  -- and a fault that isn't about the tables stays
  fault_stays : (text : List ℕ) (fault : RuleFault) → fault ≢ Unknown → IsRuleFault text tables fault → IsRuleFault text (tables ++ more) fault
  fault_stays text Bounded other h = h
  fault_stays text Wakes other h = h
  fault_stays text Unknown other h = absurd (other refl)

  module _ (files : SuppliedFiles) where
    ruled_stays : (path : List ℕ) (cells : Picture) (rule : RuleValue) → IsRuled files tables path cells rule → IsRuled files (tables ++ more) path cells rule
    ruled_stays path cells rule (bytes, at, (generation, held)) =
        (bytes, at, (generation, record { rule_text = held.rule_text; holds = held.holds; names = named_stays held.rule_text rule held.names }))

    unnamed_stays : (fault : RuleFault) → fault ≢ Unknown → (path : List ℕ) → IsUnnamed files tables fault path → IsUnnamed files (tables ++ more) fault path
    unnamed_stays fault other path (bytes, at, (cells, text, generation, holds, wrong)) = (bytes, at, (cells, text, generation, holds, fault_stays text fault other wrong))

    has_stays : (path : List ℕ) → HasRule files tables path → HasRule files (tables ++ more) path
    has_stays path (cells, rule, ruled) = (cells, rule, ruled_stays path cells rule ruled)

    small_stays : (path : List ℕ) → IsSmall files tables path → IsSmall files (tables ++ more) path
    small_stays path (cells, rule, ruled, small) = (cells, rule, ruled_stays path cells rule ruled, small)

    large_stays : (path : List ℕ) → IsLarge files tables path → IsLarge files (tables ++ more) path
    large_stays path (cells, rule, ruled, large) = (cells, rule, ruled_stays path cells rule ruled, large)

    others_stay : (path other : List ℕ) → HaveOtherRules files tables path other → HaveOtherRules files (tables ++ more) path other
    others_stay path other (cells, rule, others, other_rule, ruled, too, apart) =
        (cells, rule, others, other_rule, ruled_stays path cells rule ruled, ruled_stays other others other_rule too, apart)

    good_stays : (path : List ℕ) (cells : Picture) (rule : RuleValue) → IsGoodPattern files tables path cells rule → IsGoodPattern files (tables ++ more) path cells rule
    good_stays path cells rule good = record { ruled = ruled_stays path cells rule good.ruled; small = good.small }

    both_good_stay : (paths : Both (List ℕ)) (cells other : Picture) (rule : RuleValue) → AreGood files tables paths cells other rule → AreGood files (tables ++ more) paths cells other rule
    both_good_stay paths cells other rule h = (good_stays paths.first cells rule h.0, h.1, good_stays paths.second other h.1 h.2, h.3)

-- ---- verdicts

module _ (files : SuppliedFiles) where
  -- tables of one list and of another are tables of both together
  both_tables : (rules more : List (List ℕ)) (tables : List TableRule) → AreTables files rules tables → AllByRecursion (HoldsTable files) more → (added : List TableRule) × AreTables files (rules ++ more) (tables ++ added)
  both_tables [] [] [] are all = ([], tt)
  both_tables [] (m ∷ ms) [] are all = let later = both_tables [] ms [] tt all.1 in (all.0.0 ∷ later.0, (all.0.1, later.1))
  both_tables [] more (t ∷ ts) are all = absurd are
  both_tables (r ∷ rs) more [] are all = absurd are
  both_tables (r ∷ rs) more (t ∷ ts) are all = let later = both_tables rs more ts are.1 all in (later.0, (are.0, later.1))

  module _ (rules more : List (List ℕ)) (all : AllByRecursion (HoldsTable files) more) where
    agree_stays : (paths : Both (List ℕ)) (cells other : Picture) (rule : RuleValue) → AgreeOn files rules paths cells other rule → AgreeOn files (rules ++ more) paths cells other rule
    agree_stays paths cells other rule (tables, are, good) =
        let both = both_tables rules more tables are all in
        (tables ++ both.0, both.1, both_good_stay tables both.0 files paths cells other rule good)

    judged_stays : (claim : Claim) (cells other : Picture) (rule : RuleValue) → IsJudged files rules claim cells other rule → IsJudged files (rules ++ more) claim cells other rule
    judged_stays claim cells other rule h = (agree_stays claim.patterns cells other rule h.0, h.1)

    there_stay : (paths : Both (List ℕ)) → FilesAreThere files rules paths → FilesAreThere files (rules ++ more) paths
    there_stay paths h = (h.0, all_both (IsThere files) rules more h.1 (all_as (HoldsTable files) (IsThere files) (λ p t. (t.1.0, t.1.1)) more all))

    cause_stays : (asks : Asks) (paths : Both (List ℕ)) (cause : Cause) → cause ≢ BadRule Unknown → HasCause files rules asks paths cause → HasCause files (rules ++ more) asks paths cause
    cause_stays asks paths NoFile other (inl some) = inl some
    cause_stays asks paths NoFile other (inr some) = inr (some_longer (IsMissing files) rules more some)
    cause_stays asks paths (BadTable fault) other h = (there_stay paths h.0, first_longer (HoldsTable files) (IsBadTable files fault) rules more h.1)
    cause_stays asks paths (BadPattern fault) other (tables, good, first) =
        let both = both_tables rules more tables good.0 all in
        (tables ++ both.0, (both.1, good.1), first)
    cause_stays asks paths (BadRule fault) other (tables, read, first) =
        let both = both_tables rules more tables read.0 all in
        let ours = unnamed_stays tables both.0 files fault (λ same. other (ap BadRule same)) in (
          tables ++ both.0,
          (both.1, read.1),
          first_as (HasRule files tables) (HasRule files (tables ++ both.0)) (IsUnnamed files tables fault) (IsUnnamed files (tables ++ both.0) fault)
              (has_stays tables both.0 files) ours paths first,
        )
    cause_stays asks paths StateTooLarge other (tables, have, some) =
        let both = both_tables rules more tables have.0 all in (
          tables ++ both.0,
          (both.1, both_as (HasRule files tables) (HasRule files (tables ++ both.0)) (has_stays tables both.0 files) paths have.1),
          either_as (IsLarge files tables) (IsLarge files (tables ++ both.0)) (large_stays tables both.0 files) paths some,
        )
    cause_stays asks paths MixedRules other (tables, small, mixed) =
        let both = both_tables rules more tables small.0 all in (
          tables ++ both.0,
          (both.1, both_as (IsSmall files tables) (IsSmall files (tables ++ both.0)) (small_stays tables both.0 files) paths small.1),
          others_stay tables both.0 files paths.first paths.second mixed,
        )
    cause_stays asks paths TooManyCells other (cells, others, rule, agree, many) = (cells, others, rule, agree_stays paths cells others rule agree, many)
    cause_stays asks paths Work other (cells, others, rule, agree, few) = (cells, others, rule, agree_stays paths cells others rule agree, few)
    cause_stays asks paths Memory other (tables, good, wants) =
        let both = both_tables rules more tables good.0 all in
        (tables ++ both.0, (both.1, good.1), wants)

    -- a true verdict is true with more tables, but that a rule isn't known
    pub verdict_stays : (claim : Claim) (verdict : Verdict) → verdict ≢ Refused (BadRule Unknown) → IsTrueVerdict files rules claim verdict → IsTrueVerdict files (rules ++ more) claim verdict
    verdict_stays claim Yes other (cells, others, rule, judged, true_claim) = (cells, others, rule, judged_stays claim cells others rule judged, true_claim)
    verdict_stays claim (No refutation) other (cells, others, rule, judged, reason) = (cells, others, rule, judged_stays claim cells others rule judged, reason)
    verdict_stays claim (Refused cause) other h = cause_stays (asks_of claim.kind) claim.patterns cause (λ same. other (ap Refused same)) h
