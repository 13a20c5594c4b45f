-- Texts and lines that are put one after another.
use Rattle.std.proofs.Common.{◌≡◌, ℕ, List, [], ◌∷◌, ◌++◌, Bool, true, false, ◌||◌, sym, ap, ◌∙◌, append_assoc}
use Rattle.std.specs.List.{list_any, AllByRecursion}
use Rattle.std.proofs.lemmas.Grind.{flat_map-append}
use Rattle.std.proofs.lemmas.List.{append-nil}
use Rattle.std.proofs.lemmas.List.Folds.{list_any-append}
use Rattle.ca_plane.specs.Prelude.{text_of, Puts}

pub then-puts : (a b c x y : List ℕ) → Puts a b x → Puts b c y → Puts a c (x ++ y)
then-puts a b c x y p q = record { whole = q.whole ∙ ap (λ l. l ++ y) p.whole ∙ append_assoc a x y }

-- the text of lines and of others is that of all of them
pub text-both : (ls ms : List (List ℕ)) → text_of ls ++ text_of ms ≡ text_of (ls ++ ms)
text-both ls ms = sym (flat_map-append (λ line. line ++ 10 ∷ []) ls ms)

-- a line is put after others
pub put-more : (old now new : List ℕ) (lines more : List (List ℕ)) (line : List ℕ) → more ≡ lines ++ line ∷ [] → Puts old now (text_of lines) → Puts now new (line ++ 10 ∷ []) → Puts old new (text_of more)
put-more old now new lines more line e before put =
    let whole = ap text_of e ∙ sym (text-both lines (line ∷ [])) ∙ ap (λ l. text_of lines ++ l) (append-nil (line ++ 10 ∷ [])) in
    record { whole = (then-puts old now new (text_of lines) (line ++ 10 ∷ []) before put).whole ∙ ap (λ l. old ++ l) (sym whole) }

-- what holds of each of some and of each of others holds of each of all
pub all-append : {X : Type 0} (P : X → Type 0) (xs ys : List X) → AllByRecursion P xs → AllByRecursion P ys → AllByRecursion P (xs ++ ys)
all-append P [] ys h k = k
all-append P (x ∷ xs) ys h k = (h.0, all-append P xs ys h.1 k)

-- one of the first lists passes, or one of the others
pub first-any : {X : Type 0} (test : X → Bool) (xs ys : List X) (result : Bool) → result ≡ list_any test xs → result ≡ true → result ≡ list_any test (xs ++ ys)
first-any test xs ys result is holds = holds ∙ ap (λ v. v || list_any test ys) (sym holds ∙ is) ∙ sym (list_any-append test xs ys)

pub later-any : {X : Type 0} (test : X → Bool) (xs ys : List X) (first result : Bool) → first ≡ list_any test xs → first ≡ false → result ≡ list_any test ys → result ≡ list_any test (xs ++ ys)
later-any test xs ys first result is fails later = later ∙ ap (λ v. v || list_any test ys) (sym fails ∙ is) ∙ sym (list_any-append test xs ys)
