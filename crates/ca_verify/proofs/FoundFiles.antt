-- The bytes of the first file with each path, as they are looked up a file at a time.
use Rattle.std.proofs.Common.{◌≡◌, ◌≢◌, ℕ, zero, suc, ◌<◌, true, false, List, [], ◌∷◌, ◌++◌, map, length, replicate, slice_get, get_or, take, add-one, is_some, Bor, ◌+◌, Option, Some, None, refl, sym, ap, ◌∙◌, subst, inl, inr}
use Rattle.std.specs.List.{AllByRecursion, IsDistinct}
use Rattle.std.specs.Option.{option_copied}
use Rattle.std.specs.Str.{bytes_eq}
use Rattle.std.proofs.Math.ListN.{set}
use Rattle.std.proofs.lemmas.Bool.{cases_Bool, false≢true}
use Rattle.std.proofs.lemmas.Option.{same_Some, none-some}
use Rattle.std.proofs.Math.Seq.{take-suc}
use Rattle.std.proofs.lemmas.List.{length-map, map-append}
use Rattle.std.proofs.lemmas.Slice.Eq.{bytes_eq-Decides}
use Rattle.ca_pattern.specs.declared.file.File.{File}
use Rattle.ca_answers.specs.Prelude.{SuppliedFiles, contents, bytes_at}
use Rattle.ca_text.proofs.PathLists.{bytes_eq_self}

-- bytes that differ are told apart
bytes_eq-other : (a b : List ℕ) → a ≢ b → bytes_eq a b ≡ false
bytes_eq-other a b differ = elim (cases_Bool (bytes_eq a b)) [ inl t ↦ absurd (differ ((bytes_eq-Decides a b).0 t)) | inr f ↦ f ]

-- a further file doesn't count where one has its path
bytes_at-kept : (fs : SuppliedFiles) (f : List ℕ × List ℕ) (path b : List ℕ) → bytes_at fs path ≡ Some b → bytes_at (fs ++ f ∷ []) path ≡ Some b
bytes_at-kept [] f path b h = absurd (none-some b h)
bytes_at-kept (g ∷ gs) f path b h = elim (cases_Bool (bytes_eq g.0 path)) [
  | inl t ↦ rw t (let e : Some g.1 ≡ Some b = rw t at h in e)
  | inr n ↦ rw n (bytes_at-kept gs f path b (rw n at h))
]

-- nor for another path
bytes_at-other : (fs : SuppliedFiles) (f : List ℕ × List ℕ) (path : List ℕ) → bytes_eq f.0 path ≡ false → bytes_at (fs ++ f ∷ []) path ≡ bytes_at fs path
bytes_at-other [] f path n = rw n refl
bytes_at-other (g ∷ gs) f path n = elim (cases_Bool (bytes_eq g.0 path)) [
  | inl t ↦ rw t refl
  | inr m ↦ rw m (bytes_at-other gs f path n)
]

-- the first file with its path does
bytes_at-first : (fs : SuppliedFiles) (f : List ℕ × List ℕ) → bytes_at fs f.0 ≡ None → bytes_at (fs ++ f ∷ []) f.0 ≡ Some f.1
bytes_at-first [] f h = rw (bytes_eq_self f.0) refl
bytes_at-first (g ∷ gs) f h = elim (cases_Bool (bytes_eq g.0 f.0)) [
  | inl t ↦ absurd (none-some g.1 (let e : Some g.1 ≡ None = rw t at h in sym e))
  | inr n ↦ rw n (bytes_at-first gs f (rw n at h))
]

-- a file whose path isn't among these changes nothing
pub found-none : (fs : SuppliedFiles) (f : List ℕ × List ℕ) (paths : List (List ℕ)) → ((i : ℕ) → slice_get paths i ≢ Some f.0) → map (bytes_at (fs ++ f ∷ [])) paths ≡ map (bytes_at fs) paths
found-none fs f [] h = refl
found-none fs f (p ∷ ps) h =
    let head = bytes_at-other fs f p (bytes_eq-other f.0 p (λ e. h zero (ap Some (sym e)))) in
    let tail = found-none fs f ps (λ i. h (suc i)) in
    cc

-- a file whose path has its bytes changes nothing
bytes_at-same : (fs : SuppliedFiles) (f : List ℕ × List ℕ) (b : List ℕ) → bytes_at fs f.0 ≡ Some b → (path : List ℕ) → bytes_at (fs ++ f ∷ []) path ≡ bytes_at fs path
bytes_at-same fs f b h path = elim (cases_Bool (bytes_eq f.0 path)) [
  | inl t ↦
      let same : f.0 ≡ path = (bytes_eq-Decides f.0 path).0 t in
      let there : bytes_at fs path ≡ Some b = subst (λ p. bytes_at fs p ≡ Some b) same h in
      bytes_at-kept fs f path b there ∙ sym there
  | inr n ↦ bytes_at-other fs f path n
]

pub found-same : (fs : SuppliedFiles) (f : List ℕ × List ℕ) (b : List ℕ) → bytes_at fs f.0 ≡ Some b → (paths : List (List ℕ)) → map (bytes_at (fs ++ f ∷ [])) paths ≡ map (bytes_at fs) paths
found-same fs f b h [] = refl
found-same fs f b h (p ∷ ps) =
    let head = bytes_at-same fs f b h p in
    let tail = found-same fs f b h ps in
    cc

-- paths that differ from a file's path
found-others : (fs : SuppliedFiles) (f : List ℕ × List ℕ) (paths : List (List ℕ)) → AllByRecursion (λ p. bytes_eq f.0 p ≡ false) paths → map (bytes_at (fs ++ f ∷ [])) paths ≡ map (bytes_at fs) paths
found-others fs f [] h = refl
found-others fs f (p ∷ ps) h =
    let head = bytes_at-other fs f p h.0 in
    let tail = found-others fs f ps h.1 in
    cc

-- a path that stands among others is unlike those that all of them are unlike
unlike_at : (path other : List ℕ) (paths : List (List ℕ)) (i : ℕ) → AllByRecursion (λ p. bytes_eq path p ≡ false) paths → slice_get paths i ≡ Some other → path ≢ other
unlike_at path other [] i h e = absurd (none-some other e)
unlike_at path other (p ∷ ps) zero h e = λ same. false≢true (sym h.0 ∙ (bytes_eq-Decides path p).1 (same ∙ sym (same_Some p other e)))
unlike_at path other (p ∷ ps) (suc i) h e = unlike_at path other ps i h.1 e

-- the first file with its path is found at the place of that path alone
found-first : (fs : SuppliedFiles) (f : List ℕ × List ℕ) (paths : List (List ℕ)) (i : ℕ) → IsDistinct bytes_eq paths → slice_get paths i ≡ Some f.0 → bytes_at fs f.0 ≡ None
    → set (map (bytes_at fs) paths) i (Some f.1) ≡ map (bytes_at (fs ++ f ∷ [])) paths
unfolding IsDistinct
found-first fs f [] i distinct e new = absurd (none-some f.0 e)
found-first fs f (p ∷ ps) zero distinct e new =
    let same : p ≡ f.0 = same_Some p f.0 e in
    let head : bytes_at (fs ++ f ∷ []) p ≡ Some f.1 = subst (λ q. bytes_at (fs ++ f ∷ []) q ≡ Some f.1) (sym same) (bytes_at-first fs f new) in
    let tail = found-others fs f ps (subst (λ q. AllByRecursion (λ r. bytes_eq q r ≡ false) ps) same distinct.0) in
    cc
found-first fs f (p ∷ ps) (suc i) distinct e new =
    let differ : f.0 ≢ p = λ same. unlike_at p f.0 ps i distinct.0 e (sym same) in
    let head = bytes_at-other fs f p (bytes_eq-other f.0 p differ) in
    let tail = found-first fs f ps i distinct.1 e new in
    cc

-- and is put there
pub found-put : (fs : SuppliedFiles) (f : List ℕ × List ℕ) (paths : List (List ℕ)) (i : ℕ) (table : List (Option (List ℕ))) → table ≡ map (bytes_at fs) paths → IsDistinct bytes_eq paths → slice_get paths i ≡ Some f.0 → bytes_at fs f.0 ≡ None
    → set table i (Some f.1) ≡ map (bytes_at (fs ++ f ∷ [])) paths
found-put fs f paths i table start distinct e new = ap (λ l. set l i (Some f.1)) start ∙ found-first fs f paths i distinct e new

-- without files nothing is found
pub found-nothing : (paths : List (List ℕ)) → map (bytes_at []) paths ≡ replicate (length paths) None
found-nothing [] = refl
found-nothing (p ∷ ps) = let tail = found-nothing ps in cc

pub copied-nothing : (n : ℕ) → map (option_copied {T = List ℕ}) (replicate n None) ≡ replicate n None
copied-nothing zero = refl
copied-nothing (suc n) = let tail = copied-nothing n in cc

-- a table has a place for each path
pub found-length : {A B C : Type 0} (f : A → C) (g : B → C) (xs : List A) (ys : List B) → map f xs ≡ map g ys → length xs ≡ length ys
found-length f g xs ys e = sym (length-map xs f) ∙ ap length e ∙ length-map ys g

-- the place of a path in the table
pub found-at : {A B C : Type 0} (f : A → C) (g : B → C) (xs : List A) (ys : List B) (i : ℕ) (o : A) (y : B) → map f xs ≡ map g ys → slice_get ys i ≡ Some y → o ≡ get_or xs i o → f o ≡ g y
found-at f g xs [] i o y e h k = absurd (none-some y h)
found-at f g [] (z ∷ zs) i o y e h k = cc
found-at f g (x ∷ xs) (z ∷ zs) zero o y e h k =
    let same = same_Some z y h in
    let head : f x ≡ g z = cc in
    ap f k ∙ head ∙ ap g same
found-at f g (x ∷ xs) (z ∷ zs) (suc i) o y e h k =
    let tail : map f xs ≡ map g zs = cc in
    found-at f g xs zs i o y tail h k

-- what isn't some is none
pub is_nothing : {X : Type 0} (o : Option X) → is_some o ≡ false → o ≡ None
is_nothing None h = refl
is_nothing (Some x) h = absurd (false≢true (sym h))

-- a place that is empty has no bytes
pub copied-none : (o : Option (Bor (List ℕ))) → is_some o ≡ false → option_copied o ≡ None
copied-none None h = refl
copied-none (Some b) h = absurd (false≢true (sym h))

-- and one that isn't has some
pub copied-some : (o : Option (Bor (List ℕ))) → is_some o ≡ true → (b : List ℕ) × (option_copied o ≡ Some b)
copied-some None h = absurd (false≢true h)
copied-some (Some b) h = (b.now, refl)

-- the contents of one file more
pub contents-more : (files : List File) (k : ℕ) (d : File) → k < length files → contents (take (k + 1) files) ≡ contents (take k files) ++ ((get_or files k d).path.now, (get_or files k d).bytes.now) ∷ []
contents-more files k d h = rw (add-one, take-suc files k d h) (map-append (λ f. (f.path.now, f.bytes.now)) (take k files) (get_or files k d ∷ []))
