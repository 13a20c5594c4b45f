-- Numbers and places as the reader keeps them, and what words say of where a pattern starts.
use Rattle.std.proofs.Common.{◌≡◌, ℕ, ◌<◌, ◌≤◌, ◌^◌, min, ℤ, pos, neg_ℤ, negsuc, suc, false, not, ◌==◌, leb, List, [], ◌∷◌, ◌++◌, inl, inr, ◌⊎◌, refl, sym, ap, subst, ◌∙◌, append_assoc, codes, nat_eq, arith}
use mir.Syntax.{w64}
use mir.Val.{to_z, of_z}
use Rattle.std.specs.List.{AllZip, starts_with}
use Rattle.std.proofs.lemmas.Bool.{cases_Bool, leb-true, leb-false}
use Rattle.std.proofs.lemmas.Bool.Decides.{Decides-eqb}
use Rattle.std.specs.Int.{int_min, int_max}
use Rattle.std.proofs.lemmas.Int.{ints, int_min_is, int_max_is}
use Rattle.std.proofs.lemmas.List.{append-nil}
use Rattle.std.proofs.lemmas.Slice.Eq.{starts_is}
use Rattle.ca_plane.specs.declared.point.Point.{Point}
use Rattle.ca_plane.specs.Prelude.{front, rest, IsInteger, nearest_i64}
use Rattle.ca_rle.specs.declared.front.words.Start.{Start}
use Rattle.ca_rle.specs.declared.fault.RleFault.TheVariants.{Syntax}
use Rattle.ca_rle.specs.Prelude.{CxrleWord, Corner, Generation, Nothing, WordSays, last_corner, last_word_generation, IsBadWord}
use Rattle.ca_rle.specs.inner.BodyFaults.{KeepsCorner}
use Rattle.ca_rle.specs.inner.FrontParts.{KeepsNumber, Writes, WritesPair, IsFrontStart, WordsLead}
use Rattle.ca_plane.proofs.Fronts.{front_append, rest_append, front_then_rest}
use Rattle.ca_rle.proofs.OneHeader.{integer_has_no_comma}

-- ---- numbers

-- a number that is kept within 2^61
keeps_near : (v : ℕ) (number kept : ℤ) → ((number ≡ pos v) × (kept ≡ pos (min v (2 ^ 61)))) ⊎ ((number ≡ neg_ℤ (pos v)) × (kept ≡ neg_ℤ (pos (min v (2 ^ 61))))) → (v ≤ 2 ^ 61) ⊎ (2 ^ 61 < v) → KeepsNumber number kept
keeps_near v number kept (inl (e, f)) (inl h) = record { low = omega (arith, ints); high = omega (arith, ints); same = inl (omega (arith, ints)) }
keeps_near v number kept (inl (e, f)) (inr h) = record { low = omega (arith, ints); high = omega (arith, ints); same = inr (λ n. absurd (omega (arith, ints, n.0, n.1)), λ n. absurd (omega (arith, ints, n.0, n.1))) }
keeps_near v number kept (inr (e, f)) (inl h) = record { low = omega (arith, ints); high = omega (arith, ints); same = inl (omega (arith, ints)) }
keeps_near v number kept (inr (e, f)) (inr h) = record { low = omega (arith, ints); high = omega (arith, ints); same = inr (λ n. absurd (omega (arith, ints, n.0, n.1)), λ n. absurd (omega (arith, ints, n.0, n.1))) }

far_or_not : (v : ℕ) → (v ≤ 2 ^ 61) ⊎ (2 ^ 61 < v)
far_or_not v = elim (cases_Bool (leb v (2 ^ 61))) [ inl e ↦ inl (leb-true v (2 ^ 61) e) | inr e ↦ inr (leb-false v (2 ^ 61) e) ]

-- the nearest number of 64 bits, kept within 2^61, keeps an integer
clamped : (v : ℕ) (n i kept : ℤ) → i ≡ to_z w64 (of_z w64 i) → ((n ≡ pos v) × (int_max (neg_ℤ (pos (2 ^ 61))) (int_min i (pos (2 ^ 61))) ≡ pos (min v (2 ^ 61)))) ⊎ ((n ≡ neg_ℤ (pos v)) × (int_max (neg_ℤ (pos (2 ^ 61))) (int_min i (pos (2 ^ 61))) ≡ neg_ℤ (pos (min v (2 ^ 61)))))
    → kept ≡ int_max (neg_ℤ (pos (2 ^ 61))) (int_min (to_z w64 (of_z w64 i)) (pos (2 ^ 61))) → KeepsNumber n kept
clamped v n i kept r (inl (e, c)) f = keeps_near v n kept (inl (e, f ∙ ap (λ (m : ℤ). int_max (neg_ℤ (pos (2 ^ 61))) (int_min m (pos (2 ^ 61)))) (sym r) ∙ c)) (far_or_not v)
clamped v n i kept r (inr (e, c)) f = keeps_near v n kept (inr (e, f ∙ ap (λ (m : ℤ). int_max (neg_ℤ (pos (2 ^ 61))) (int_min m (pos (2 ^ 61)))) (sym r) ∙ c)) (far_or_not v)

pub keeps_clamped : (n i kept : ℤ) → i ≡ nearest_i64 n → kept ≡ int_max (neg_ℤ (pos (2 ^ 61))) (int_min (to_z w64 (of_z w64 i)) (pos (2 ^ 61))) → KeepsNumber n kept
keeps_clamped (pos v) i kept e f =
    let c : int_max (neg_ℤ (pos (2 ^ 61))) (int_min i (pos (2 ^ 61))) ≡ pos (min v (2 ^ 61)) = omega (arith, ints, int_min_is i (pos (2 ^ 61)), int_max_is (neg_ℤ (pos (2 ^ 61))) (int_min i (pos (2 ^ 61)))) in
    clamped v (pos v) i kept (omega (arith, ints)) (inl (refl, c)) f
keeps_clamped (negsuc v) i kept e f =
    let c : int_max (neg_ℤ (pos (2 ^ 61))) (int_min i (pos (2 ^ 61))) ≡ neg_ℤ (pos (min (suc v) (2 ^ 61))) = omega (arith, ints, int_min_is i (pos (2 ^ 61)), int_max_is (neg_ℤ (pos (2 ^ 61))) (int_min i (pos (2 ^ 61)))) in
    clamped (suc v) (negsuc v) i kept (omega (arith, ints)) (inr (refl, c)) f

-- ---- pairs

-- two numbers with a comma between them are split at it
pub split_pair : (bytes a b : List ℕ) (x : ℤ) → bytes ≡ a ++ 44 ∷ b → IsInteger a x → (front (λ c. not (c == 44)) bytes ≡ a) × (rest (λ c. not (c == 44)) bytes ≡ 44 ∷ b)
split_pair bytes a b x e h =
    let clear = integer_has_no_comma a x h in
    (ap (front (λ c. not (c == 44))) e ∙ front_append (λ c. not (c == 44)) a (44 ∷ b) clear refl, ap (rest (λ c. not (c == 44))) e ∙ rest_append (λ c. not (c == 44)) a (44 ∷ b) clear refl)

-- the pair is that of the numbers on both sides of the first comma, as they were read
pub writes_pair : (bytes after : List ℕ) (p : Point) → rest (λ c. not (c == 44)) bytes ≡ 44 ∷ after → Writes (front (λ c. not (c == 44)) bytes) p.x → Writes after p.y → WritesPair bytes p
writes_pair bytes after p e x y =
    let before = front (λ c. not (c == 44)) bytes in
    (before, after, sym (front_then_rest (λ c. not (c == 44)) bytes) ∙ ap (λ (l : List ℕ). before ++ l) e, x, y)

-- a number is kept in 64 bits
pub kept_in_bits : (bytes : List ℕ) (n m : ℤ) → Writes bytes n → m ≡ to_z w64 (of_z w64 n) → Writes bytes m
kept_in_bits bytes n m (number, i, k) e =
    let same : n ≡ m = omega (arith, ints, k.low, k.high) in
    (number, i, subst (λ (l : ℤ). KeepsNumber number l) same k)

-- ---- words

-- a place is kept, where its coordinates are
keeps_corner : (x y : ℤ) (p : Point) → KeepsNumber x p.x → KeepsNumber y p.y → KeepsCorner (record { y = y; x = x }) p
keeps_corner x y p h k = (
  (h.low, h.high, k.low, k.high),
  elim h.same [
    | inl e ↦ elim k.same [
      | inl f ↦ inl (λ t. record { y = f t; x = e t })
      | inr n ↦ inr (λ r. n.0 (r.2, r.3), λ r. n.1 (r.2, r.3))
    ]
    | inr n ↦ inr (λ r. n.0 (r.0, r.1), λ r. n.1 (r.0, r.1))
  ],
)

corner_append : (at : Point) (a b : List CxrleWord) → last_corner at (a ++ b) ≡ last_corner (last_corner at a) b
corner_append at [] b = refl
corner_append at (Corner x y ∷ a) b = corner_append (record { y = y; x = x }) a b
corner_append at (Generation n ∷ a) b = corner_append at a b
corner_append at (Nothing ∷ a) b = corner_append at a b

generation_append : (n : ℕ) (a b : List CxrleWord) → last_word_generation n (a ++ b) ≡ last_word_generation (last_word_generation n a) b
generation_append n [] b = refl
generation_append n (Corner x y ∷ a) b = generation_append n a b
generation_append n (Generation m ∷ a) b = generation_append m a b
generation_append n (Nothing ∷ a) b = generation_append n a b

-- a word that gives the corner
pub leads_corner : (word numbers : List ℕ) (p : Point) (old : Start) → word ≡ codes "Pos=" ++ numbers → WritesPair numbers p → WordsLead (word ∷ []) old (record { corner = p; generation = old.generation })
leads_corner word numbers p old e (a, b, s, (x, i, k), (y, j, l)) = (
  Corner x y ∷ [],
  ((a, b, e ∙ ap (λ (n : List ℕ). codes "Pos=" ++ n) s, i, j), tt),
  λ said h. record {
    corner = subst (λ (q : Point). KeepsCorner q p) (sym (corner_append _ said (Corner x y ∷ []))) (keeps_corner x y p k l);
    generation = h.generation ∙ sym (generation_append 0 said (Corner x y ∷ []));
  },
)

-- a word that gives the generation
pub leads_generation : (word : List ℕ) (n : ℕ) (old : Start) → WordSays word (Generation n) → WordsLead (word ∷ []) old (record { corner = old.corner; generation = n })
leads_generation word n old s = (
  Generation n ∷ [],
  (s, tt),
  λ said h. record {
    corner = subst (λ (q : Point). KeepsCorner q old.corner) (sym (corner_append _ said (Generation n ∷ []))) h.corner;
    generation = sym (generation_append 0 said (Generation n ∷ []));
  },
)

-- a word that gives neither
pub leads_nowhere : (word : List ℕ) (old : Start) → WordSays word Nothing → WordsLead (word ∷ []) old old
leads_nowhere word old s = (
  Nothing ∷ [],
  (s, tt),
  λ said h. record {
    corner = subst (λ (q : Point). KeepsCorner q old.corner) (sym (corner_append _ said (Nothing ∷ []))) h.corner;
    generation = h.generation ∙ sym (generation_append 0 said (Nothing ∷ []));
  },
)

begins_not : (word text : List ℕ) → ((r : List ℕ) → word ≡ text ++ r → ⊥) → starts_with nat_eq word text ≡ false
begins_not word text none =
    elim (cases_Bool (starts_with nat_eq word text)) [
      | inl e ↦ absurd (none _ ((starts_is Decides-eqb word text (starts_with nat_eq word text) refl).0 e))
      | inr e ↦ e
    ]

-- a word that begins neither as `Pos=` nor as `Gen=` says nothing
pub says_nothing : (word : List ℕ) → ((r : List ℕ) → word ≡ codes "Pos=" ++ r → ⊥) → ((r : List ℕ) → word ≡ codes "Gen=" ++ r → ⊥) → WordSays word Nothing
says_nothing word p g = (begins_not word (codes "Pos=") p, begins_not word (codes "Gen=") g)

-- after `Pos=` stand no two numbers
pub bad_place : (word numbers : List ℕ) → word ≡ codes "Pos=" ++ numbers → ((x y : ℤ) (a b : List ℕ) → numbers ≡ a ++ 44 ∷ b → IsInteger a x → IsInteger b y → ⊥) → IsBadWord word Syntax
bad_place word numbers e none =
    inl (
      (starts_is Decides-eqb word (codes "Pos=") (starts_with nat_eq word (codes "Pos=")) refl).1 numbers e,
      λ x y (a, b, s, i, j). let same : numbers ≡ a ++ 44 ∷ b = cc in none x y a b same i j,
    )

-- ---- words of a line

pub all_zip_append : (ws vs : List (List ℕ)) (a b : List CxrleWord) → AllZip WordSays ws a → AllZip WordSays vs b → AllZip WordSays (ws ++ vs) (a ++ b)
all_zip_append [] vs [] b p q = q
all_zip_append (w ∷ ws) vs (s ∷ a) b (p, ps) q = (p, all_zip_append ws vs a b ps q)
all_zip_append [] vs (s ∷ a) b p q = absurd p
all_zip_append (w ∷ ws) vs [] b p q = absurd p

-- no words lead nowhere
pub leads_none : (start : Start) → WordsLead [] start start
leads_none start = ([], tt, λ said h. subst (λ (l : List CxrleWord). IsFrontStart l start) (sym (append-nil said)) h)

-- words after words
pub leads_more : (ws vs : List (List ℕ)) (a b c : Start) → WordsLead ws a b → WordsLead vs b c → WordsLead (ws ++ vs) a c
leads_more ws vs a b c (m, z, f) (n, y, g) =
    (m ++ n, all_zip_append ws vs m n z y, λ said h. subst (λ (l : List CxrleWord). IsFrontStart l c) (append_assoc said m n) (g (said ++ m) (f said h)))
