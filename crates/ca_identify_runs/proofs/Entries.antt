-- Entries on files and their lines, one more after others.
use Rattle.std.proofs.Common.{◌≡◌, ℕ, ◌+◌, ◌≤◌, inl, inr, arith, List, [], ◌∷◌, ◌++◌, map, take, slice_get, Option, Some, add-one, subst, sym, ap, ◌∙◌, append_assoc}
use Rattle.std.specs.List.{flat_map}
use Rattle.std.specs.Io.KnownBytes.{Appends}
use Rattle.std.proofs.Math.Seq.{take-suc}
use Rattle.std.proofs.lemmas.List.{append-nil, map-append}
use Rattle.std.proofs.lemmas.Option.{slice_get_within, get_or_from_slice_get}
use Rattle.std.proofs.lemmas.List.Concat.{flat_map-append}
use Rattle.ca_plane.specs.Prelude.{AppendsPrefix, longest_period, most_generations}
use Rattle.ca_plane.proofs.Sends.{sent_both, prefix_of_second}
use Rattle.ca_rule.specs.Prelude.{TableRule}
use Rattle.ca_identify_lines.specs.declared.{task.Task.Task, entry.Content.Content, entry.Outcome.Outcome, entry.Subject.Subject, entry.Entry.Entry}
use Rattle.ca_identify_lines.specs.declared.entry.Content.TheVariants.{Bytes, Missing, FaultyRule}
use Rattle.ca_identify_lines.specs.declared.entry.Outcome.TheVariants as outcomes
use Rattle.ca_identify_lines.specs.declared.entry.Outcome.TheVariants.{Unnameable, Identified, Refused}
use Rattle.ca_identify_lines.specs.Prelude.{entry_lines, IsContentOutcome, IsEntry, AreEntries, IsWithin}

-- the names of entries
abbrev pub names_of : List Entry → List (List ℕ)
names_of entries = map (λ (entry : Entry). entry.name.items) entries

-- one entry more
pub entries_more : (tables : List TableRule) (task : Task) (taken : List (List ℕ)) (subjects : List Subject) (entries : List Entry) (subject : Subject) (entry : Entry)
    → AreEntries tables task taken subjects entries → IsEntry tables task (taken ++ names_of entries) subject entry
    → AreEntries tables task taken (subjects ++ subject ∷ []) (entries ++ entry ∷ [])
entries_more tables task taken [] [] subject entry all one = (subst (λ names. IsEntry tables task names subject entry) (append-nil taken) one, tt)
entries_more tables task taken [] (e ∷ es) subject entry all one = absurd all
entries_more tables task taken (s ∷ ss) [] subject entry all one = absurd all
entries_more tables task taken (s ∷ ss) (e ∷ es) subject entry all one = (
  all.0,
  entries_more tables task (taken ++ e.name.items ∷ []) ss es subject entry all.1
      (subst (λ names. IsEntry tables task names subject entry) (sym (append_assoc taken (e.name.items ∷ []) (names_of es))) one),
)

-- the first elements and the next one
take-more : {X : Type 0} (xs : List X) (i : ℕ) (x : X) → slice_get xs i ≡ Some x → take (i + 1) xs ≡ take i xs ++ x ∷ []
take-more xs i x e = rw (add-one, take-suc xs i x (slice_get_within xs i x e)) (ap (λ y. take i xs ++ y ∷ []) (get_or_from_slice_get xs i x x e))

-- one file more was gone through
pub entries_next : (tables : List TableRule) (task : Task) (subjects : List Subject) (i : ℕ) (subject : Subject) (entries next : List Entry) (entry : Entry) (names new : List (List ℕ))
    → names ≡ names_of entries → AreEntries tables task [] (take i subjects) entries → slice_get subjects i ≡ Some subject → IsEntry tables task names subject entry
    → new ≡ names ++ entry.name.items ∷ [] → next ≡ entries ++ entry ∷ [] → (new ≡ names_of next) × AreEntries tables task [] (take (i + 1) subjects) next
entries_next tables task subjects i subject entries next entry names new before all at is put pushed = (
  put ∙ ap (λ l. l ++ entry.name.items ∷ []) before ∙ sym (map-append (λ (e : Entry). e.name.items) entries (entry ∷ [])) ∙ ap names_of (sym pushed),
  subst (AreEntries tables task [] (take (i + 1) subjects)) (sym pushed)
      (subst (λ l. AreEntries tables task [] l (entries ++ entry ∷ [])) (sym (take-more subjects i subject at))
      (entries_more tables task [] (take i subjects) entries subject entry all (subst (λ l. IsEntry tables task l subject entry) before is))),
)

-- the lines on some entries, and on one more
lines_more : (n : ℕ) (entries : List Entry) (entry : Entry)
    → flat_map (entry_lines n) (entries ++ entry ∷ []) ≡ flat_map (entry_lines n) entries ++ entry_lines n entry
lines_more n entries entry =
    flat_map-append (entry_lines n) entries (entry ∷ []) ∙ ap (λ l. flat_map (entry_lines n) entries ++ l) (append-nil (entry_lines n entry))

-- the lines on the entries so far were written, and then those on one more
pub lines_next : (n : ℕ) (old mid new : Option (List ℕ)) (entries next : List Entry) (entry : Entry) (text : List ℕ)
    → Appends old mid (flat_map (entry_lines n) entries) → text ≡ entry_lines n entry → next ≡ entries ++ entry ∷ [] → Appends mid new text
    → Appends old new (flat_map (entry_lines n) next)
lines_next n old mid new entries next entry text sent put pushed more =
    subst (Appends old new) (sym (ap (flat_map (entry_lines n)) pushed ∙ lines_more n entries entry))
    (sent_both old mid new (flat_map (entry_lines n) entries) (entry_lines n entry) sent (subst (Appends mid new) put more))

-- or those in part
pub lines_in_part : (n : ℕ) (old mid new : Option (List ℕ)) (entries next : List Entry) (entry : Entry) (text : List ℕ)
    → Appends old mid (flat_map (entry_lines n) entries) → text ≡ entry_lines n entry → next ≡ entries ++ entry ∷ [] → AppendsPrefix mid new text
    → AppendsPrefix old new (flat_map (entry_lines n) next)
lines_in_part n old mid new entries next entry text sent put pushed more =
    subst (AppendsPrefix old new) (sym (ap (flat_map (entry_lines n)) pushed ∙ lines_more n entries entry))
    (prefix_of_second old mid new (flat_map (entry_lines n) entries) (entry_lines n entry) sent (subst (AppendsPrefix mid new) put more))

-- ---- what was looked at

-- the last generation of it has a number that fits
outcome_within : (tables : List TableRule) (task : Task) (content : Content) (outcome : Outcome) → task.generations ≤ most_generations → task.scope.limit ≤ longest_period
    → IsContentOutcome tables task content outcome → IsWithin task.generations outcome
outcome_within tables task content Unnameable few short is = tt
outcome_within tables task content (Refused why) few short is = tt
outcome_within tables task content (outcomes.FaultyRule rule) few short is = tt
outcome_within tables task (Missing cause) (Identified found settles) few short is = absurd is
outcome_within tables task (FaultyRule rule) (Identified found settles) few short is = absurd is
outcome_within tables task (Bytes bytes) (Identified found settles) few short (((cells, rule, holds, (later, stands, is)), code), settled) =
    let most = is.most in
    omega (arith, few, short, most)

pub entry_within : (tables : List TableRule) (task : Task) (taken : List (List ℕ)) (subject : Subject) (entry : Entry) → task.generations ≤ most_generations → task.scope.limit ≤ longest_period
    → IsEntry tables task taken subject entry → IsWithin task.generations entry.outcome
entry_within tables task taken subject entry few short is =
    elim is.outcome [
      | inl (none, e) ↦ subst (IsWithin task.generations) (sym e) tt
      | inr (fits, of) ↦ outcome_within tables task subject.content entry.outcome few short of
    ]
