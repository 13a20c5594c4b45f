-- White space among the items: two runs of it are one, and what stands after it.
use Rattle.std.proofs.Common.{◌≡◌, ℕ, ◌<◌, Bool, true, false, cond, not, ◌||◌, ◌==◌, IsTrue, List, [], ◌∷◌, ◌++◌, refl, arith}
use Rattle.std.proofs.lemmas.Bool.Decides.{nat_tests}
use Rattle.ca_plane.specs.Prelude.{is_blank, is_line_end, is_digit, is_end_or}
use Rattle.ca_rle.specs.Prelude.{Place, AtStart, InLine, InComment, is_white_from, IsWhite, after_white}

-- a byte that ends white space: no LF, no blank and no `#`
pub record Stops (b : ℕ) : Type 0 where
  pub no_line_end : is_line_end b ≡ false
  pub no_blank : is_blank b ≡ false
  pub no_hash : (b == 35) ≡ false

pub Stops_above : (b : ℕ) → 35 < b → Stops b
Stops_above b h = record { no_line_end = grind (arith, nat_tests); no_blank = grind (arith, nat_tests); no_hash = grind (arith, nat_tests) }

-- two choices by one test, where what is true of the one tells of the other
along : {A : Type 0} (test p q : Bool) (x y z : A) → (p ≡ true → x ≡ z) → (q ≡ true → y ≡ z) → cond test p q ≡ true → cond test x y ≡ z
along true p q x y z f g h = f h
along false p q x y z f g h = g h

-- after white space stands what follows it, where that begins with a byte that ends white space
pub after_white_is : (place : Place) (before : List ℕ) (c : ℕ) (more : List ℕ) → Stops c → IsTrue (is_white_from place before) → after_white place (before ++ c ∷ more) ≡ c ∷ more
after_white_is AtStart [] c more s w = rw (s.no_line_end, s.no_blank, s.no_hash)
after_white_is InLine [] c more s w = rw (s.no_line_end, s.no_blank)
after_white_is InComment [] c more s w = absurd cc
after_white_is AtStart (b ∷ bs) c more s w = along (is_line_end b || is_blank b) _ _ _ _ _ (after_white_is AtStart bs c more s) (along (b == 35) _ _ _ _ _ (after_white_is InComment bs c more s) (λ h. absurd cc)) w
after_white_is InLine (b ∷ bs) c more s w = along (is_line_end b) _ _ _ _ _ (after_white_is AtStart bs c more s) (along (is_blank b) _ _ _ _ _ (after_white_is InLine bs c more s) (λ h. absurd cc)) w
after_white_is InComment (b ∷ bs) c more s w = along (is_line_end b) _ _ _ _ _ (after_white_is AtStart bs c more s) (after_white_is InComment bs c more s) w

-- white space in a line is white space at a line's start
at_start : (v w p q r : Bool) → (q ≡ true → p ≡ true) → cond v p (cond w q false) ≡ true → cond (v || w) p r ≡ true
at_start true w p q r f h = h
at_start false true p q r f h = f h
at_start false false p q r f h = absurd cc

pub white_at_start : (bytes : List ℕ) → IsWhite bytes → IsTrue (is_white_from AtStart bytes)
white_at_start [] w = refl
white_at_start (b ∷ bs) w = at_start (is_line_end b) (is_blank b) _ _ _ (white_at_start bs) w

white_then : (place : Place) (a b : List ℕ) → IsWhite b → IsTrue (is_white_from place a) → IsTrue (is_white_from place (a ++ b))
white_then AtStart [] bs v w = white_at_start bs v
white_then InLine [] bs v w = v
white_then InComment [] bs v w = absurd cc
white_then AtStart (c ∷ cs) bs v w = along (is_line_end c || is_blank c) _ _ _ _ _ (white_then AtStart cs bs v) (along (c == 35) _ _ _ _ _ (white_then InComment cs bs v) (λ h. absurd cc)) w
white_then InLine (c ∷ cs) bs v w = along (is_line_end c) _ _ _ _ _ (white_then AtStart cs bs v) (along (is_blank c) _ _ _ _ _ (white_then InLine cs bs v) (λ h. absurd cc)) w
white_then InComment (c ∷ cs) bs v w = along (is_line_end c) _ _ _ _ _ (white_then AtStart cs bs v) (white_then InComment cs bs v) w

-- two runs of white space are one
pub IsWhite-append : (a b : List ℕ) → IsWhite a → IsWhite b → IsWhite (a ++ b)
IsWhite-append a b v w = white_then InLine a b w v

-- white space begins with no digit
first_of_white : (b : ℕ) (p q : Bool) → cond (is_line_end b) p (cond (is_blank b) q false) ≡ true → is_digit b ≡ false
first_of_white b p q h = grind (arith, nat_tests)

-- no digit stands at the front of white space, nor after it
pub no_digit_after : (white after : List ℕ) → IsWhite white → IsTrue (is_end_or (λ b. not (is_digit b)) after) → IsTrue (is_end_or (λ b. not (is_digit b)) (white ++ after))
no_digit_after [] after w h = h
no_digit_after (b ∷ bs) after w h = rw (first_of_white b _ _ w)
