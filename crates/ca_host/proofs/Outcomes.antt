-- What becomes of the paths of a text.
use Rattle.std.proofs.Common.{◌≡◌, ℕ, ◌+◌, List, [], ◌∷◌, ◌++◌, Option, Some, None, Bool, true, false, MatchOption, take, refl, ap, add-one}
use Rattle.std.specs.Prelude.{IsTrue, ◌↔◌, is_some, slice_get}
use Rattle.std.specs.List.{AllZip}
use Rattle.std.proofs.lemmas.Option.{slice_get_within, get_or_from_slice_get}
use Rattle.std.proofs.lemmas.Slice.Zip.{all_zipped_more, AllZip-left}
use Rattle.std.proofs.Math.Seq.{take-suc}
use Rattle.ca_report.specs.declared.absence.Absence.{Absence}
use Rattle.ca_host.specs.declared.whole_files.Unread.{Unread}
use Rattle.ca_host.specs.declared.whole_files.Unread.TheVariants.{Absent}
use Rattle.ca_host.specs.Unread.{IsUnread}
use Rattle.ca_host.specs.declared.files.{LoadedFile.LoadedFile, LostFile.LostFile}
use Rattle.std.specs.Prelude.{String}
use Rattle.std.specs.declared.alloc.Global.{Global}
use Rattle.ca_text.specs.Prelude.{ClaimText, IsNeeded}
use Rattle.ca_host.specs.Files.{Gives, Lacks, Outcome, Unneeded, Loaded, Lost, IsOutcome, IsOutcomeIf, loaded_files, lost_files}

-- none of the paths is needed
abbrev pub all_unneeded : {X : Type 0} → List X → List Outcome
all_unneeded [] = []
all_unneeded (x ∷ xs) = Unneeded ∷ all_unneeded xs

pub AllZip-unneeded : {X : Type 0} (R : X → Outcome → Type 0) (xs : List X) → ((x : X) → R x Unneeded) → AllZip R xs (all_unneeded xs)
AllZip-unneeded R [] each = tt
AllZip-unneeded R (x ∷ xs) each = (each x, AllZip-unneeded R xs each)

pub loaded-unneeded : {X : Type 0} (xs : List X) → [] ≡ loaded_files (all_unneeded xs)
loaded-unneeded [] = refl
loaded-unneeded (x ∷ xs) = loaded-unneeded xs

pub lost-unneeded : {X : Type 0} (xs : List X) → [] ≡ lost_files (all_unneeded xs)
lost-unneeded [] = refl
lost-unneeded (x ∷ xs) = lost-unneeded xs

-- the files of one more path
pub loaded-more : (os : List Outcome) (o : Outcome) → loaded_files (os ++ o ∷ []) ≡ loaded_files os ++ loaded_files (o ∷ [])
loaded-more [] o = refl
loaded-more (Unneeded ∷ os) o = loaded-more os o
loaded-more (Loaded file ∷ os) o = ap (λ (fs : List LoadedFile). file ∷ fs) (loaded-more os o)
loaded-more (Lost file ∷ os) o = loaded-more os o

pub lost-more : (os : List Outcome) (o : Outcome) → lost_files (os ++ o ∷ []) ≡ lost_files os ++ lost_files (o ∷ [])
lost-more [] o = refl
lost-more (Unneeded ∷ os) o = lost-more os o
lost-more (Loaded file ∷ os) o = lost-more os o
lost-more (Lost file ∷ os) o = ap (λ (fs : List LostFile). file ∷ fs) (lost-more os o)

-- what holds of two lists holds of their elements at one index
pub at_both : {A B : Type 0} (R : A → B → Type 0) (xs : List A) (ys : List B) (i : ℕ) (x : A) (y : B) → AllZip R xs ys → slice_get xs i ≡ Some x → slice_get ys i ≡ Some y → R x y
at_both R xs ys i x y both first second = rw (first, second) at (AllZip-left R xs ys both i)

-- one more element of the first list, and of the second
pub AllZip-take_more : {A B : Type 0} (R : A → B → Type 0) (xs : List A) (ys : List B) (i : ℕ) (x : A) (y : B) → slice_get xs i ≡ Some x → AllZip R (take i xs) ys → R x y → AllZip R (take (i + 1) xs) (ys ++ y ∷ [])
AllZip-take_more R xs ys i x y here both more = rw (take-more xs i x here) (all_zipped_more R (take i xs) ys x y both more)
  where
    take-more : {X : Type 0} (xs : List X) (i : ℕ) (x : X) → slice_get xs i ≡ Some x → take (i + 1) xs ≡ take i xs ++ x ∷ []
    take-more xs i x e = rw (add-one, take-suc xs i x (slice_get_within xs i x e)) (ap (λ y. take i xs ++ y ∷ []) (get_or_from_slice_get xs i x x e))

-- what holds at none, of what is none
pub at_none : {A P : Type 0} (o : Option A) (Q : A → Type 0) → is_some o ≡ false → MatchOption o P Q → P
at_none None Q none at = at
at_none (Some x) Q none at = absurd (cc)

-- why a file isn't read
pub at_absent : (lacks : Absence → Type 0) (unread : Unread) (why : Absence) → unread ≡ Absent why → IsUnread lacks unread → lacks why
at_absent lacks unread why absent at = rw absent at at

-- what becomes of a path that is needed or isn't is what becomes of a path of the text
pub IsOutcome-if : (gives : Gives) (lacks : Lacks) (root : Option (String Global)) (claims : ClaimText) (path : List ℕ) (needed : Bool) (o : Outcome) → (IsTrue needed ↔ IsNeeded claims path) → IsOutcomeIf gives lacks root path needed o → IsOutcome gives lacks root claims path o
IsOutcome-if gives lacks root claims path true Unneeded same at = absurd at
IsOutcome-if gives lacks root claims path true (Loaded file) same at = (same.0 refl, at)
IsOutcome-if gives lacks root claims path true (Lost file) same at = (same.0 refl, at)
IsOutcome-if gives lacks root claims path false Unneeded same at = λ needed. absurd (let wrong : false ≡ true = same.1 needed in cc)
IsOutcome-if gives lacks root claims path false (Loaded file) same at = absurd (cc)
IsOutcome-if gives lacks root claims path false (Lost file) same at = absurd (cc)
