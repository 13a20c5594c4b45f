-- Lists whose elements belong together, one by one: what holds of the one holds of the other.
use Rattle.std.proofs.Common.{◌≡◌, ℕ, zero, suc, ◌+◌, List, [], ◌∷◌, ◌++◌, take, slice_get, Some, add-one, inl, inr, ap, subst, sym, arith}
use Rattle.std.specs.List.{All, AllByRecursion, AllZip}
use Rattle.std.proofs.Math.Seq.{take-suc}
use Rattle.std.proofs.lemmas.Option.{same_Some, none-some, slice_get_within, get_or_from_slice_get}
use Rattle.indexmap.proofs.SetLemmas.{AllZip-push}
use Rattle.ca_text.specs.Prelude.{SomeOf, FirstBad}

module _ {X Y : Type 0} (R : X → Y → Type 0) where
  -- of all on the left
  pub zip_left : (P : X → Type 0) → ((x : X) (y : Y) → R x y → P x) → (xs : List X) (ys : List Y) → AllZip R xs ys → AllByRecursion P xs
  zip_left P f [] [] all = tt
  zip_left P f [] (y ∷ ys) all = absurd all
  zip_left P f (x ∷ xs) [] all = absurd all
  zip_left P f (x ∷ xs) (y ∷ ys) all = (f x y all.0, zip_left P f xs ys all.1)

-- a first bad element of which less is said
pub first_weaker : {X : Type 0} (Good P Q : X → Type 0) → ((x : X) → P x → Q x) → (xs : List X) → FirstBad Good P xs → FirstBad Good Q xs
first_weaker Good P Q f [] first = first
first_weaker Good P Q f (x ∷ xs) (inl here) = inl (f x here)
first_weaker Good P Q f (x ∷ xs) (inr later) = inr (later.0, first_weaker Good P Q f xs later.1)

-- a first bad element is one of which this is said
pub some_first : {X : Type 0} (Good P : X → Type 0) → (xs : List X) → FirstBad Good P xs → SomeOf P xs
some_first Good P [] first = first
some_first Good P (x ∷ xs) (inl here) = inl here
some_first Good P (x ∷ xs) (inr later) = inr (some_first Good P xs later.1)

-- what holds at each index holds of all
pub each-All : {X : Type 0} (P : X → Type 0) (xs : List X) → All P xs → AllByRecursion P xs
each-All P [] h = tt
each-All P (x ∷ xs) h = (h zero x (omega arith), each-All P xs (λ k d l. h (suc k) d (omega arith)))

-- ---- lists that are gone through from the left

-- the first elements and the next one
take-more : {X : Type 0} (xs : List X) (i : ℕ) (x : X) → slice_get xs i ≡ Some x → take (i + 1) xs ≡ take i xs ++ x ∷ []
take-more xs i x e =
    rw (add-one, take-suc xs i x (slice_get_within xs i x e)) (ap (λ y. take i xs ++ y ∷ []) (get_or_from_slice_get xs i x x e))

module _ {X Y : Type 0} (R : X → Y → Type 0) where
  -- one pair more
  pub zip_more : (xs : List X) (ys : List Y) (i : ℕ) (x : X) (y : Y) → AllZip R (take i xs) ys → slice_get xs i ≡ Some x → R x y → AllZip R (take (i + 1) xs) (ys ++ y ∷ [])
  zip_more xs ys i x y before e here = subst (λ l. AllZip R l (ys ++ y ∷ [])) (sym (take-more xs i x e)) (AllZip-push R (take i xs) ys x y before here)

  -- an element that is bad, after those that belong to others
  pub first_behind : (Good Bad : X → Type 0) → ((x : X) (y : Y) → R x y → Good x) → (xs : List X) (ys : List Y) (i : ℕ) (x : X) → AllZip R (take i xs) ys → slice_get xs i ≡ Some x → Bad x → FirstBad Good Bad xs
  first_behind Good Bad f [] ys i x before e bad = absurd (none-some x e)
  first_behind Good Bad f (z ∷ zs) ys zero x before e bad = inl (subst Bad (sym (same_Some z x e)) bad)
  first_behind Good Bad f (z ∷ zs) [] (suc i) x before e bad = absurd before
  first_behind Good Bad f (z ∷ zs) (y ∷ ys) (suc i) x before e bad = inr (f z y before.0, first_behind Good Bad f zs ys i x before.1 e bad)

-- an element that is bad, after good ones
pub first_after : {X : Type 0} (Good Bad : X → Type 0) (xs : List X) (i : ℕ) (x : X) → AllByRecursion Good (take i xs) → slice_get xs i ≡ Some x → Bad x → FirstBad Good Bad xs
first_after Good Bad [] i x before e bad = absurd (none-some x e)
first_after Good Bad (z ∷ zs) zero x before e bad = inl (subst Bad (sym (same_Some z x e)) bad)
first_after Good Bad (z ∷ zs) (suc i) x before e bad = inr (before.0, first_after Good Bad zs i x before.1 e bad)
