-- One more object with its number.
use Rattle.std.proofs.Common.{◌≡◌, ℕ, ◌+◌, ◌<◌, suc, List, [], ◌∷◌, ◌++◌, length, get_or, take, sym, ap, subst, ◌∙◌, append_assoc, arith}
use Rattle.std.proofs.lemmas.List.{append-nil, take_more, length-take}
use Rattle.ca_plane.specs.Prelude.{Puts}
use Rattle.ca_census.specs.declared.{entry.CensusObject.CensusObject, file.Origin.Origin}
use Rattle.ca_census_files.specs.declared.folder.NewFile.{NewFile}
use Rattle.ca_census_files.specs.Prelude.{object_name, IsPatternFile, AreObjectFiles, object_claim_lines, all_object_claims}

-- the lines on one more object
claims_push : (folder name : List ℕ) (n k : ℕ) (os : List CensusObject) (o : CensusObject) → k ≡ n + length os
    → all_object_claims folder name n (os ++ o ∷ []) ≡ all_object_claims folder name n os ++ object_claim_lines folder (object_name name k) o
claims_push folder name n k [] o e =
    let same : n ≡ k = omega arith in
    append-nil (object_claim_lines folder (object_name name n) o) ∙ ap (λ m. object_claim_lines folder (object_name name m) o) same
claims_push folder name n k (x ∷ xs) o e =
    let head = object_claim_lines folder (object_name name n) x in
    ap (λ l. head ++ l) (claims_push folder name (suc n) k xs o (omega arith)) ∙ sym (append_assoc head (all_object_claims folder name (suc n) xs) (object_claim_lines folder (object_name name k) o))

-- the file of one more object
files_push : (name : List ℕ) (n k : ℕ) (os : List CensusObject) (o : CensusObject) (origin : Origin) (generation : ℕ) (fs : List NewFile) (f : NewFile) → k ≡ n + length os
    → AreObjectFiles name n os origin generation fs → IsPatternFile (object_name name k) o.plane origin generation f
    → AreObjectFiles name n (os ++ o ∷ []) origin generation (fs ++ f ∷ [])
files_push name n k [] o origin generation [] f e are is =
    let same : k ≡ n = omega arith in
    (subst (λ m. IsPatternFile (object_name name m) o.plane origin generation f) same is, tt)
files_push name n k [] o origin generation (g ∷ gs) f e are is = absurd are
files_push name n k (x ∷ xs) o origin generation [] f e are is = absurd are
files_push name n k (x ∷ xs) o origin generation (g ∷ gs) f e are is = (are.0, files_push name (suc n) k xs o origin generation gs f (omega arith) are.1 is)

-- how many objects are before one of them
before_count : (os : List CensusObject) (i : ℕ) → i < length os → i + 1 ≡ 1 + length (take i os)
before_count os i h = omega (arith, length-take i os)

-- the lines up to an object
pub claims_more : (folder name : List ℕ) (os : List CensusObject) (i : ℕ) (o : CensusObject) → i < length os → o ≡ get_or os i o
    → all_object_claims folder name 1 (take (i + 1) os) ≡ all_object_claims folder name 1 (take i os) ++ object_claim_lines folder (object_name name (i + 1)) o
claims_more folder name os i o h is =
    ap (all_object_claims folder name 1) (take_more os i o h ∙ ap (λ x. take i os ++ x ∷ []) (sym is)) ∙ claims_push folder name 1 (i + 1) (take i os) o (before_count os i h)

-- the files up to an object
pub files_more : (name : List ℕ) (os : List CensusObject) (i : ℕ) (o : CensusObject) (origin : Origin) (generation : ℕ) (fs : List NewFile) (f : NewFile) → i < length os → o ≡ get_or os i o
    → AreObjectFiles name 1 (take i os) origin generation fs → IsPatternFile (object_name name (i + 1)) o.plane origin generation f
    → AreObjectFiles name 1 (take (i + 1) os) origin generation (fs ++ f ∷ [])
files_more name os i o origin generation fs f h is are file =
    subst (λ l. AreObjectFiles name 1 l origin generation (fs ++ f ∷ [])) (sym (take_more os i o h ∙ ap (λ x. take i os ++ x ∷ []) (sym is)))
    (files_push name 1 (i + 1) (take i os) o origin generation fs f (before_count os i h) are file)

-- a text that is put after another
pub put_after : (a b c x y : List ℕ) → Puts a b x → Puts b c y → Puts a c (x ++ y)
put_after a b c x y p q = record { whole = q.whole ∙ ap (λ l. l ++ y) p.whole ∙ append_assoc a x y }
