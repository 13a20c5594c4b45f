-- Texts in pieces.
use Rattle.std.proofs.Common.{◌≡◌, ℕ, zero, suc, ◌+◌, ◌<◌, List, [], ◌∷◌, ◌++◌, length, get_or, take, drop, Option, Result, Ok, Err, add-one, arith, refl, subst, sym, ap, ◌∙◌, append_assoc, take-append-drop, drop-cons}
use Rattle.std.specs.List.{flat_map}
use Rattle.std.specs.Io.KnownBytes.{Appends}
use Rattle.std.proofs.Math.Seq.{take-suc}
use Rattle.std.proofs.lemmas.List.{drop_all, append-nil}
use Rattle.std.proofs.lemmas.List.Concat.{flat_map-append}
use Rattle.ca_plane.specs.Prelude.{Counted, Rises, AppendsPrefix}
use Rattle.ca_plane.proofs.Sends.{sent_both, prefix_of_first, prefix_of_second}
use Rattle.ca_report.specs.Prelude.{Sends}

-- the pieces before one, that piece, and those after it
flat_map_around : {X : Type 0} (f : X → List ℕ) (xs : List X) (i : ℕ) (d : X) → i < length xs → flat_map f xs ≡ flat_map f (take i xs) ++ (f (get_or xs i d) ++ flat_map f (drop (suc i) xs))
flat_map_around f xs i d below =
    ap (flat_map f) (sym (take-append-drop i xs)) ∙ flat_map-append f (take i xs) (drop i xs)
    ∙ ap (λ l. flat_map f (take i xs) ++ flat_map f l) (drop-cons xs i d below)

-- where the pieces before one were sent, and then that one, all up to it were
pub sent_next : {X : Type 0} (f : X → List ℕ) (old mid new : Option (List ℕ)) (xs : List X) (i : ℕ) (d x : X) (these : List ℕ) → i < length xs → x ≡ get_or xs i d → these ≡ f x
    → Appends old mid (flat_map f (take i xs)) → Appends mid new these → Appends old new (flat_map f (take (i + 1) xs))
sent_next f old mid new xs i d x these below at same sent more =
    let piece = f (get_or xs i d) in
    let whole : flat_map f (take (i + 1) xs) ≡ flat_map f (take i xs) ++ piece =
    ap (flat_map f) (rw (add-one) (take-suc xs i d below)) ∙ flat_map-append f (take i xs) (get_or xs i d ∷ []) ∙ ap (λ l. flat_map f (take i xs) ++ l) (append-nil piece) in
    subst (Appends old new) (sym whole) (sent_both old mid new (flat_map f (take i xs)) piece sent (subst (Appends mid new) (same ∙ ap f at) more))

module _ {X : Type 0} (f : X → List ℕ) where
  -- n pieces from the i-th onwards, each named by its place, and a rest
  abbrev pub each : List X → X → ℕ → ℕ → List ℕ → List ℕ
  each xs d i zero rest = rest
  each xs d i (suc n) rest = f (get_or xs i d) ++ each xs d (suc i) n rest

  -- they are all pieces from the i-th onwards
  pub each_all : (xs : List X) (d : X) (i n : ℕ) (rest : List ℕ) → i + n ≡ length xs → each xs d i n rest ≡ flat_map f (drop i xs) ++ rest
  each_all xs d i zero rest e = ap (λ l. flat_map f l ++ rest) (sym (drop_all i xs (omega arith)))
  each_all xs d i (suc n) rest e =
      ap (λ l. f (get_or xs i d) ++ l) (each_all xs d (suc i) n rest (omega arith))
      ∙ sym (append_assoc (f (get_or xs i d)) (flat_map f (drop (suc i) xs)) rest)
      ∙ ap (λ l. flat_map f l ++ rest) (sym (drop-cons xs i d (omega arith)))

-- a first text was sent in part
pub sends_part : {W T U E : Type 0} (contents : W → Option (List ℕ)) (old new : Counted W) (these first second : List ℕ) (failure e : E) → these ≡ first
    → Sends {T = T} contents old new these failure (Err e) → Sends {T = U} contents old new (first ++ second) failure (Err e)
sends_part contents old new these first second failure e same sends = record {
  all = tt;
  kept = tt;
  fault = sends.fault;
  counted = sends.counted;
  front = prefix_of_first (contents old.inner) (contents new.inner) first second (subst (AppendsPrefix (contents old.inner) (contents new.inner)) same sends.front);
}

-- a first text was sent, and then a second one, or a part of it
pub sends_later : {W T E : Type 0} (contents : W → Option (List ℕ)) (old mid new : Counted W) (these those first second : List ℕ) (failure : E) (r : Result T E) → these ≡ first → those ≡ second
    → Appends (contents old.inner) (contents mid.inner) these → mid.failures ≡ old.failures → Sends contents mid new those failure r → Sends contents old new (first ++ second) failure r
sends_later contents old mid new these those first second failure (Ok t) one two sent kept sends = record {
  all = sent_both (contents old.inner) (contents mid.inner) (contents new.inner) first second (subst (Appends (contents old.inner) (contents mid.inner)) one sent) (subst (Appends (contents mid.inner) (contents new.inner)) two sends.all);
  kept = sends.kept ∙ kept;
  fault = tt;
  counted = tt;
  front = tt;
}
sends_later contents old mid new these those first second failure (Err e) one two sent kept sends = record {
  all = tt;
  kept = tt;
  fault = sends.fault;
  counted = subst (λ n. Rises n new.failures) kept sends.counted;
  front = prefix_of_second (contents old.inner) (contents mid.inner) (contents new.inner) first second (subst (Appends (contents old.inner) (contents mid.inner)) one sent)
      (subst (AppendsPrefix (contents mid.inner) (contents new.inner)) two sends.front);
}

-- the pieces before one were sent, and that one in part
pub sends_at : {X W T U E : Type 0} (f : X → List ℕ) (contents : W → Option (List ℕ)) (old mid new : Counted W) (xs : List X) (i : ℕ) (d x : X) (these : List ℕ) (failure e : E) → i < length xs
    → x ≡ get_or xs i d → these ≡ f x → Appends (contents old.inner) (contents mid.inner) (flat_map f (take i xs)) → mid.failures ≡ old.failures → Sends {T = T} contents mid new these failure (Err e)
    → Sends {T = U} contents old new (flat_map f xs) failure (Err e)
sends_at {U = U} f contents old mid new xs i d x these failure e below at same sent kept sends =
    let piece = f (get_or xs i d) in
    let later = flat_map f (drop (suc i) xs) in
    rw (flat_map_around f xs i d below)
    (sends_later contents old mid new (flat_map f (take i xs)) (piece ++ later) (flat_map f (take i xs)) (piece ++ later) failure (Err e) refl refl sent kept
    (sends_part {U = U} contents mid new these piece later failure e (same ∙ ap f at) sends))
