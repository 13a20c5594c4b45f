-- The least of the eight texts of a plane.
use Rattle.std.proofs.Common.{Result, Ok, Err, IfOk, Vec, Global, ◌≡◌, ℕ, ◌<◌, List, [], ◌∷◌, length, refl, sym, ap, subst, ◌∙◌, inl, inr, ◌⊎◌, ℤ, neg_ℤ, arith}
use Rattle.std.proofs.lemmas.Int.{ints}
use Rattle.ca_apgcode.specs.Prelude.{Precedes, IsTextOf, IsTurnedText, IsLeastAmong, turned}
use Rattle.ca_apgcode.specs.declared.orientation.Orientation.TheVariants.{Upright, QuarterTurn, HalfTurn, ThreeQuarterTurn, EastWest, NorthSouth, Diagonal, Antidiagonal}
use Rattle.ca_apgcode.specs.inner.Least.{lesser}
use Rattle.ca_apgcode.specs.inner.Rounds.{IsLeastWith}
use Rattle.ca_apgcode.proofs.Leasts.{IsLeastText, least_from, IsLeastText-from, is_each}
use Rattle.ca_apgcode.proofs.Lengths.{shorter_first}
use Rattle.ca_apgcode.proofs.PlaneBoxes.{one_text_of}

-- a number that is turned round twice
pub neg_twice : (x : ℤ) → neg_ℤ (neg_ℤ x) ≡ x
neg_twice x = omega (arith, ints)

-- the least of a text and all eight, one after the other
pub least_of_eight : (p : ℤ → ℤ → ℕ) (first a b c d e f g h least : List ℕ) → IsTextOf (turned Upright p) a → IsTextOf (turned EastWest p) b → IsTextOf (turned HalfTurn p) c → IsTextOf (turned NorthSouth p) d
    → IsTextOf (turned QuarterTurn p) e → IsTextOf (turned Diagonal p) f → IsTextOf (turned ThreeQuarterTurn p) g → IsTextOf (turned Antidiagonal p) h
    → least ≡ least_from (a ∷ b ∷ c ∷ d ∷ e ∷ f ∷ g ∷ h ∷ []) first → IsLeastWith (IsTurnedText p) first least
least_of_eight p first a b c d e f g h least ta tb tc td te tf tg th is = record { is_one = one; not_after = leasts.is_first.0; is_first = each }
  where
    leasts : IsLeastText (first ∷ a ∷ b ∷ c ∷ d ∷ e ∷ f ∷ g ∷ h ∷ []) least
    leasts = subst (IsLeastText (first ∷ a ∷ b ∷ c ∷ d ∷ e ∷ f ∷ g ∷ h ∷ [])) (sym is) (IsLeastText-from (a ∷ b ∷ c ∷ d ∷ e ∷ f ∷ g ∷ h ∷ []) first)

    one : (least ≡ first) ⊎ IsTurnedText p least
    one = is_each (λ text. (text ≡ first) ⊎ IsTurnedText p text) (first ∷ a ∷ b ∷ c ∷ d ∷ e ∷ f ∷ g ∷ h ∷ []) least
        (inl refl, (inr (Upright, ta), (inr (EastWest, tb), (inr (HalfTurn, tc), (inr (NorthSouth, td), (inr (QuarterTurn, te), (inr (Diagonal, tf), (inr (ThreeQuarterTurn, tg), (inr (Antidiagonal, th), tt))))))))) leasts.is_one

    not_before : (q : ℤ → ℤ → ℕ) (text other : List ℕ) → IsTextOf q text → IsTextOf q other → (Precedes other least → ⊥) → Precedes text least → ⊥
    not_before q text other is_text is_other not before = not (subst (λ t. Precedes t least) (one_text_of q text other is_text is_other) before)

    each : (text : List ℕ) → IsTurnedText p text → Precedes text least → ⊥
    each text (Upright, is_text) = not_before (turned Upright p) text a is_text ta leasts.is_first.1.0
    each text (EastWest, is_text) = not_before (turned EastWest p) text b is_text tb leasts.is_first.1.1.0
    each text (HalfTurn, is_text) = not_before (turned HalfTurn p) text c is_text tc leasts.is_first.1.1.1.0
    each text (NorthSouth, is_text) = not_before (turned NorthSouth p) text d is_text td leasts.is_first.1.1.1.1.0
    each text (QuarterTurn, is_text) = not_before (turned QuarterTurn p) text e is_text te leasts.is_first.1.1.1.1.1.0
    each text (Diagonal, is_text) = not_before (turned Diagonal p) text f is_text tf leasts.is_first.1.1.1.1.1.1.0
    each text (ThreeQuarterTurn, is_text) = not_before (turned ThreeQuarterTurn p) text g is_text tg leasts.is_first.1.1.1.1.1.1.1.0
    each text (Antidiagonal, is_text) = not_before (turned Antidiagonal p) text h is_text th leasts.is_first.1.1.1.1.1.1.1.1.0

-- what each turn leaves is the least of all before
pub least_of_turns : (first a b c d e f g h l m n o p q r s : List ℕ) → l ≡ lesser a first → m ≡ lesser b l → n ≡ lesser c m → o ≡ lesser d n → p ≡ lesser e o → q ≡ lesser f p → r ≡ lesser g q → s ≡ lesser h r
    → s ≡ least_from (a ∷ b ∷ c ∷ d ∷ e ∷ f ∷ g ∷ h ∷ []) first
least_of_turns first a b c d e f g h l m n o p q r s one two three four five six seven eight =
    eight ∙ ap (lesser h) (seven ∙ ap (lesser g) (six ∙ ap (lesser f) (five ∙ ap (lesser e) (four ∙ ap (lesser d) (three ∙ ap (lesser c) (two ∙ ap (lesser b) one))))))

-- where all eight are longer than a text, that one is the least
pub least_where_long : (p : ℤ → ℤ → ℕ) (first : List ℕ) → ((text : List ℕ) → IsTurnedText p text → length first < length text) → IsLeastWith (IsTurnedText p) first first
least_where_long p first long = record {
  is_one = inl refl;
  not_after = (IsLeastText-from [] first).is_first.0;
  is_first = λ text is.
      let both = subst (IsLeastText (first ∷ text ∷ [])) (sym (shorter_first text first (long text is))) (IsLeastText-from (text ∷ []) first) in
      both.is_first.1.0;
}

-- the least of a text of a plane and of all eight is the least of the eight
pub least_among : (p : ℤ → ℤ → ℕ) (first least : List ℕ) → IsTextOf p first → IsLeastWith (IsTurnedText p) first least → IsLeastAmong (IsTurnedText p) least
least_among p first least is_first is = record {
  is_one = elim is.is_one [
    | inl same ↦ subst (IsTurnedText p) (sym same) (Upright, is_first)
    | inr other ↦ other
  ];
  is_first = is.is_first;
}

pub among_if_ok : {E : Type 0} (r : Result (Vec ℕ Global) E) (p : ℤ → ℤ → ℕ) (first : List ℕ) → IsTextOf p first → IfOk r (λ text. IsLeastWith (IsTurnedText p) first text.items) → IfOk r (λ text. IsLeastAmong (IsTurnedText p) text.items)
among_if_ok (Ok text) p first is_first is = least_among p first text.items is_first is
among_if_ok (Err e) p first is_first is = tt
