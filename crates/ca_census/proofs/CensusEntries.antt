-- The entries of a census, one after the other.
use Rattle.std.proofs.Common.{◌≡◌, ℕ, ◌+◌, ◌<◌, Bool, List, [], ◌∷◌, ◌++◌, length, take, get_or, Global, Option, None, sym, ap, subst, ◌∙◌, arith}
use Rattle.std.specs.Prelude.{flat_map}
use Rattle.std.specs.Iterator.{Yields}
use Rattle.std.specs.List.{All, AllZip}
use Rattle.std.specs.Option.{MatchOption}
use Rattle.std.specs.declared.vec.IntoIter.{IntoIter}
use Rattle.std.proofs.lemmas.Iterator.Consumers.{YieldsList-from_shown, YieldsList-end}
use Rattle.std.proofs.lemmas.List.{take_more, append_assoc, append-nil, map-id}
use Rattle.std.proofs.lemmas.List.Concat.{flat_map-append}
use Rattle.std.proofs.lemmas.List.Elements.{All-head, All-tail, All-nil, All-cons}
use Rattle.std.proofs.lemmas.Slice.Zip.{all_zipped_more}
use Rattle.ca_parts.specs.Prelude.{Course}
use Rattle.ca_clusters.specs.Prelude.{first_plane, AreObjects}
use Rattle.ca_census.specs.declared.entry.CensusObject.{CensusObject}
use Rattle.ca_census.specs.Censuses.{IsEntryOf}

-- what holds of all so far and one more
pub all_so_far : {X : Type 0} (P : X → Type 0) (xs : List X) (x : X) → All P (xs ++ x ∷ []) → All P xs × P x
all_so_far P [] x all = (All-nil P, All-head P x [] all)
all_so_far P (y ∷ ys) x all =
    let (rest, last) = all_so_far P ys x (All-tail P y (ys ++ x ∷ []) all) in
    (All-cons P y ys (All-head P y (ys ++ x ∷ []) all) rest, last)

-- one entry more
pub entries_more : (next : List ℕ → ℕ) (coded : Bool) (before objects : List Course) (i : ℕ) (object : Course) (entries : List CensusObject) (entry : CensusObject)
    → i < length objects → object ≡ get_or objects i object → IsEntryOf next coded object entry → AllZip (IsEntryOf next coded) (before ++ take i objects) entries
    → AllZip (IsEntryOf next coded) (before ++ take (i + 1) objects) (entries ++ entry ∷ [])
entries_more next coded before objects i object entries entry within is here so_far =
    let more : before ++ take (i + 1) objects ≡ (before ++ take i objects) ++ object ∷ [] =
    ap (λ cs. before ++ cs) (take_more objects i object within ∙ ap (λ c. take i objects ++ c ∷ []) (sym is)) ∙ sym (append_assoc before (take i objects) (object ∷ [])) in
    subst (λ cs. AllZip (IsEntryOf next coded) cs (entries ++ entry ∷ [])) (sym more) (all_zipped_more (IsEntryOf next coded) (before ++ take i objects) entries object entry so_far here)

-- these clusters consist of objects, and the entries are those on them, cluster by cluster
pub record AreCounted (next : List ℕ → ℕ) (coded : Bool) (clusters : List Course) (entries : List CensusObject) : Type 0 where
  pub objects : List (List Course)
  pub each : AllZip (λ cluster of. AreObjects next (first_plane cluster) of) clusters objects
  pub entries_on : AllZip (IsEntryOf next coded) (flat_map (λ of. of) objects) entries

-- one cluster more
pub counted_more : (next : List ℕ → ℕ) (coded : Bool) (clusters : List Course) (cluster : Course) (found : List Course) (entries new : List CensusObject)
    → (is : AreCounted next coded clusters entries) → AreObjects next (first_plane cluster) found → AllZip (IsEntryOf next coded) (flat_map (λ of. of) is.objects ++ found) new
    → AreCounted next coded (clusters ++ cluster ∷ []) new
counted_more next coded clusters cluster found entries new is are zip =
    let more : flat_map (λ of. of) (is.objects ++ found ∷ []) ≡ flat_map (λ of. of) is.objects ++ found =
    flat_map-append (λ (of : List Course). of) is.objects (found ∷ []) ∙ ap (λ cs. flat_map (λ (of : List Course). of) is.objects ++ cs) (append-nil found) in
    record {
      objects = is.objects ++ found ∷ [];
      each = all_zipped_more (λ course of. AreObjects next (first_plane course) of) clusters is.objects cluster found is.each are;
      entries_on = subst (λ cs. AllZip (IsEntryOf next coded) cs new) (sym more) zip;
    }

-- all clusters have come where a `for` over them ends
abbrev Turns : IntoIter Course Global → Option Course → IntoIter Course Global → Type 0
Turns s r t = MatchOption r ((s.rest.len ≡ 0) × (t.rest.len ≡ 0)) (λ x. (s.rest.items ≡ x ∷ t.rest.items) × (t.rest.len + 1 ≡ s.rest.len))

pub all_clusters : (s t u : IntoIter Course Global) (xs clusters : List Course) (r : Option Course) → Yields Turns s xs t → r ≡ None → Turns t r u → s.rest.items ≡ clusters → xs ≡ clusters
all_clusters s t u xs clusters r yields none turn start =
    let list = YieldsList-from_shown Turns (λ x. x) (λ (i : IntoIter Course Global). i.rest.items) (λ i j h. omega (arith, h.0, i.rest.ok.0)) (λ i x j h. h.0) s in
    sym (map-id xs) ∙ (YieldsList-end list xs t yields r u none turn).0 ∙ start
