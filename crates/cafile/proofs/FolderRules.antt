-- A file more whose rule file was looked for.
use Rattle.std.proofs.Common.{◌≡◌, ℕ, zero, suc, ◌<◌, List, [], ◌∷◌, length, take, drop, get_or, slice_set, Option, None, Vec, refl, subst, arith}
use Rattle.std.specs.declared.alloc.Global.{Global}
use Rattle.ca_host.specs.Files.{Gives, Lacks}
use Rattle.ca_host.specs.Lookups.{FindsOnce}
use Rattle.ca_host.specs.declared.files.FaultyFile.{FaultyFile}
use Rattle.cafile.specs.declared.identify.FileContent.{FileContent}
use Rattle.cafile.specs.declared.identify.FileContent.TheVariants.{Bytes}
use Rattle.cafile.specs.declared.identify.PathContent.{PathContent}
use Rattle.cafile.specs.FolderRules.{Search, IsFailure, FindsRule, FindsEach}

-- nothing stands in place of the bytes
pub no-failure : (gives : Gives) (lacks : Lacks) (folder : List ℕ) (content : FileContent) (bytes : Vec ℕ Global) (taken : List ℕ) (found : Option FaultyFile) (old new : Search)
    → content ≡ Bytes bytes → taken ≡ bytes.items → found ≡ None → FindsOnce gives lacks folder taken found old.looks new.looks old.rules new.rules
    → IsFailure gives lacks folder content None old new
no-failure gives lacks folder content bytes taken found old new is is_taken none finds =
    rw is (subst (λ b. FindsOnce gives lacks folder b None old.looks new.looks old.rules new.rules) is_taken
    (subst (λ f. FindsOnce gives lacks folder taken f old.looks new.looks old.rules new.rules) none finds))

-- the rule files of the files up to this one were looked for
pub finds-more : (gives : Gives) (lacks : Lacks) (folder : List ℕ) (first now : List PathContent) (n : ℕ) (item new : PathContent) (was mid is : Search) → n < length now
    → drop n now ≡ drop n first → FindsEach gives lacks folder (take n first) (take n now) was mid → FindsRule gives lacks folder (get_or now n item) new mid is
    → FindsEach gives lacks folder (take (suc n) first) (take (suc n) (slice_set now n new)) was is
finds-more gives lacks folder first [] n item new was mid is lt same each step = absurd (omega (arith, lt))
finds-more gives lacks folder [] (x ∷ xs) zero item new was mid is lt same each step = absurd (cc)
finds-more gives lacks folder [] (x ∷ xs) (suc n) item new was mid is lt same each step = absurd each
finds-more gives lacks folder (f ∷ fs) (x ∷ xs) zero item new was mid is lt same each step =
    let head : x ≡ f = cc in
    (is, subst (λ o. FindsRule gives lacks folder o new was is) head (subst (λ m. FindsRule gives lacks folder x new m is) each step), refl)
finds-more gives lacks folder (f ∷ fs) (x ∷ xs) (suc n) item new was mid is lt same each step =
    (each.0, each.1, finds-more gives lacks folder fs xs n item new each.0 mid is (omega (arith, lt)) same each.2 step)

-- and the others are as they were
pub rest-same : {X : Type 0} (first now : List X) (n : ℕ) (new : X) → n < length now → drop n now ≡ drop n first → drop (suc n) (slice_set now n new) ≡ drop (suc n) first
rest-same first [] n new lt same = absurd (omega (arith, lt))
rest-same [] (x ∷ xs) zero new lt same = absurd (cc)
rest-same [] (x ∷ xs) (suc n) new lt same = absurd (longer xs n (omega (arith, lt)) same)
  where
    longer : {X : Type 0} (xs : List X) (n : ℕ) → n < length xs → drop n xs ≡ [] → ⊥
    longer [] n lt same = omega (arith, lt)
    longer (x ∷ xs) zero lt same = cc
    longer (x ∷ xs) (suc n) lt same = longer xs n (omega (arith, lt)) same
rest-same (f ∷ fs) (x ∷ xs) zero new lt same = cc
rest-same (f ∷ fs) (x ∷ xs) (suc n) new lt same = rest-same fs xs n new (omega (arith, lt)) same
