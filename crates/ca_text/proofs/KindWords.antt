-- Words make one claim at most: a further kind adds its case, and its keyword, here.
use Rattle.std.proofs.Common.{◌≡◌, ℕ, ℤ, List, [], ◌∷◌, get_or, Bool, true, codes, refl, sym, ap, subst, ◌∙◌}
use Rattle.std.specs.List.{list_any}
use Rattle.std.specs.Str.{bytes_eq}
use Rattle.std.proofs.lemmas.Bool.{false≢true}
use Rattle.ca_plane.specs.Prelude.{AreDigits, IsInteger, value}
use Rattle.ca_plane.proofs.Integers.{one_integer}
use Rattle.ca_text.specs.declared.{both.Both.Both, kind.Kind.Kind}
use Rattle.ca_text.specs.declared.kind.Kind.TheVariants.{Still, Oscillator, Spaceship, Becomes, BecomesShifted, Dies}
use Rattle.ca_text.specs.Prelude.{keyword_of, FollowName, WordsClaim}
use Rattle.ca_text.specs.inner.Reading.{MakeNoClaim}

-- equal words are one number
one_number : (p q : List ℕ) (v w : ℕ) → p ≡ q → v ≡ value p → w ≡ value q → v ≡ w
one_number p q v w e h k = h ∙ ap value e ∙ sym k

-- and one integer
same_integer : (a b : List ℕ) (d x : ℤ) → a ≡ b → IsInteger a d → IsInteger b x → d ≡ x
same_integer a b d x e h k = one_integer b d x (subst (λ l. IsInteger l d) e h) k

-- what follows equal names after equal keywords makes a claim of one kind, about the same second pattern
one_kind : (words : List (List ℕ)) (n m : Both (List ℕ)) (a b : Kind) → keyword_of a ≡ keyword_of b → n.first ≡ m.first → FollowName words n a → FollowName words m b → (n.second ≡ m.second) × (a ≡ b)
one_kind words n m Still Still e f h k = (h.1 ∙ f ∙ sym k.1, refl)
one_kind words n m (Oscillator v) (Oscillator w) e f h k =
    let same = sym h.1 ∙ k.1 in
    (h.4 ∙ f ∙ sym k.4, ap Oscillator (one_number h.0 k.0 v w (cc) h.3 k.3))
one_kind words n m (Spaceship v dx dy) (Spaceship w x y) e f h k =
    let same = sym h.3 ∙ k.3 in
    let period = one_number h.0 k.0 v w (cc) h.5 k.5 in
    let right = same_integer h.1 k.1 dx x (cc) h.6 k.6 in
    let down = same_integer h.2 k.2 dy y (cc) h.7 k.7 in
    (h.8 ∙ f ∙ sym k.8, λ i. Spaceship (period i) (right i) (down i))
one_kind words n m (Becomes v) (Becomes w) e f h k =
    let same = sym h.1 ∙ k.1 in
    (cc, ap Becomes (one_number h.0 k.0 v w (cc) h.3 k.3))
one_kind words n m (BecomesShifted v dx dy) (BecomesShifted w x y) e f h k =
    let same = sym h.3 ∙ k.3 in
    let generations = one_number h.0 k.0 v w (cc) h.5 k.5 in
    let right = same_integer h.1 k.1 dx x (cc) h.6 k.6 in
    let down = same_integer h.2 k.2 dy y (cc) h.7 k.7 in
    (cc, λ i. BecomesShifted (generations i) (right i) (down i))
one_kind words n m (Dies v) (Dies w) e f h k =
    let same = sym h.1 ∙ k.1 in
    (h.4 ∙ f ∙ sym k.4, ap Dies (one_number h.0 k.0 v w (cc) h.3 k.3))
one_kind words n m (Becomes v) (BecomesShifted w x y) e f h k = let same = sym h.1 ∙ k.3 in cc
one_kind words n m (BecomesShifted v dx dy) (Becomes w) e f h k = let same = sym h.3 ∙ k.1 in cc
one_kind words n m a b e f h k = cc

-- words make a claim of one kind, about the same patterns
pub same_words : (words : List (List ℕ)) (n m : Both (List ℕ)) (a b : Kind) → WordsClaim words n a → WordsClaim words m b → (n ≡ m) × (a ≡ b)
same_words words n m a b h k =
    let same = sym h.1 ∙ k.1 in
    let keyword : keyword_of a ≡ keyword_of b = cc in
    let first : n.first ≡ m.first = cc in
    let later : h.0 ≡ k.0 = cc in
    let one = one_kind k.0 n m a b keyword first (subst (λ l. FollowName l n a) later h.2) k.2 in
    let second = one.0 in
    (λ i. record { first = first i; second = second i }, one.1)

-- words begin as a claim's do
abbrev pub begins_claim : List (List ℕ) → Bool
begins_claim words = list_any (bytes_eq (get_or words 0 [])) (codes "still" ∷ codes "oscillator" ∷ codes "spaceship" ∷ codes "becomes" ∷ codes "dies" ∷ [])

pub claim_begins : (words : List (List ℕ)) (names : Both (List ℕ)) (kind : Kind) → WordsClaim words names kind → begins_claim words ≡ true
claim_begins words names kind h = ap begins_claim h.1 ∙ keyword_begins kind
  where
    keyword_begins : (k : Kind) → begins_claim (keyword_of k ∷ names.first ∷ h.0) ≡ true
    keyword_begins Still = refl
    keyword_begins k = refl

-- these keywords want a name and a number alone
abbrev wants_number : List ℕ → Bool
wants_number keyword = list_any (bytes_eq keyword) (codes "oscillator" ∷ codes "dies" ∷ [])

-- other words than these make no claim after such a keyword
pub not_numbered : (keyword : List ℕ) (words : List (List ℕ)) → wants_number keyword ≡ true → ((a n : List ℕ) → words ≡ a ∷ n ∷ [] → AreDigits n → ⊥) → MakeNoClaim (keyword ∷ words)
not_numbered keyword words wants none claim = no_kind claim.patterns claim.kind
  where
    numbered : (names : Both (List ℕ)) (k n : List ℕ) (later : List (List ℕ)) → keyword ∷ words ≡ k ∷ names.first ∷ later → later ≡ n ∷ [] → AreDigits n → ⊥
    numbered names k n later e f digits = none names.first n (cc) digits

    no_kind : (names : Both (List ℕ)) (kind : Kind) → WordsClaim (keyword ∷ words) names kind → ⊥
    no_kind names (Oscillator v) h = numbered names (codes "oscillator") h.2.0 h.0 h.1 h.2.1 h.2.2
    no_kind names (Dies v) h = numbered names (codes "dies") h.2.0 h.0 h.1 h.2.1 h.2.2
    no_kind names Still h = false≢true (sym (ap (λ ws. wants_number (get_or ws 0 [])) h.1) ∙ wants)
    no_kind names kind h = false≢true (sym (ap (λ ws. wants_number (get_or ws 0 [])) h.1) ∙ wants)
