-- What pictures are in the long run, and what that tells of a settled plane.
use Rattle.std.proofs.Common.{◌≡◌, ℕ, ◌+◌, List, get_or, refl, sym, ap, ◌∙◌, arith}
use Rattle.std.specs.Prelude.{ℤ, replicate}
use Rattle.std.specs.List.{All, AllPairs, AllZip, Any, Contains}
use Rattle.std.proofs.lemmas.List.Elements.{All-contains, All-contains_itself}
use Rattle.ca_plane.specs.Prelude.{Picture, after, IsAfter, IsLive, IsSame}
use Rattle.ca_parts.specs.Prelude.{NeverMeet, together, ComesBack, IsEnd, LiesIn, IsDivision, IsFiner, IsFinerThanAll, IsSettled, IsFinest}
use Rattle.ca_parts.proofs.Lists.{All-zip, AllZip-turned, AllZip-weaker, AllZip-with_other}
use Rattle.ca_parts.proofs.Sums.{apart_before}
use Rattle.ca_parts.proofs.LaterPictures.{picture_after, IsAfter-picture_after}
use Rattle.ca_parts.proofs.EarlierPictures.{some_earlier_by, one_earlier_by}
use Rattle.ca_parts.proofs.PartsWithin.{lies_on}
use Rattle.ca_parts.proofs.Returning.{IsBackAt}
use Rattle.ca_parts.proofs.LongRun.{ComesOf, Joins, GoesOnAs, goes_on, Look, look_of, lies, never_meet, whole_of, finer}

-- ---- one picture

-- an end is there from the start, seen from no generation
joins_end : (next : List ℕ → ℕ) (p e : Picture) → IsEnd next p e → Joins next 0 e p
joins_end next p e is =
    let (t, same) = is.alike in
    let sum : 0 + t ≡ t = omega arith in
    (is.back, t, λ x y. ap (λ k. after next e k x y) sum ∙ sym (same x y))

-- what comes back at some time has an end
pub some_end : (next : List ℕ → ℕ) → next (replicate 9 0) ≡ 0 → (p q : Picture) (n : ℕ) → IsAfter next p n q → ComesBack next q → (e : Picture) × IsEnd next p e
some_end next quiet p q n stands comes =
    let (e, is) = some_earlier_by next quiet q n comes in
    (e, record { back = is.back; alike = (n, λ x y. stands x y ∙ sym (is.later x y)) })

-- and one at most
pub one_end : (next : List ℕ → ℕ) → next (replicate 9 0) ≡ 0 → (p e d : Picture) → IsEnd next p e → IsEnd next p d → IsSame e d
one_end next quiet p e d one two =
    let (comes, s, same) = joins_end next p e one in
    let (again, t, too) = joins_end next p d two in
    let sum : 0 + (s + t) ≡ s + t = omega arith in
    let at_e : (x y : ℤ) → after next e (s + t) x y ≡ after next p (s + t) x y = λ x y.
    ap (λ k. after next e k x y) (sym sum) ∙ goes_on next 0 s e p same (s + t) (omega arith) x y in
    let at_d : (x y : ℤ) → after next d (s + t) x y ≡ after next p (s + t) x y = λ x y.
    ap (λ k. after next d k x y) (sym sum) ∙ goes_on next 0 t d p too (s + t) (omega arith) x y in
    let q = picture_after next p (s + t) in
    let stands = IsAfter-picture_after next quiet p (s + t) in
    one_earlier_by next quiet (s + t) e d q q (record { back = one.back; later = λ x y. at_e x y ∙ stands x y })
    (record { back = two.back; later = λ x y. at_d x y ∙ stands x y }) (λ x y. refl)

-- ---- parts that never meet

module _ (next : List ℕ → ℕ) (quiet : next (replicate 9 0) ≡ 0) (cells : ℤ → ℤ → ℕ) (parts ends : List Picture) (never : AllPairs (NeverMeet next) parts)
    (whole : (x y : ℤ) → cells x y ≡ together parts x y) (zip : AllZip (IsEnd next) parts ends) where
  -- a part that lies in one of a division lies in it at all times
  comes_in : (ds : List Picture) → IsDivision next cells ds → IsFiner parts ds → (p : Picture) → Contains parts p → ComesOf next 0 ds p
  comes_in ds division fine p has =
      let (i, d, low, is, within) = All-contains (λ r. Any (LiesIn r) ds) parts p fine has in
      record {
        d = d;
        has = (i, low, is);
        within = λ n x y live.
            let sum : n ≡ 0 + n = omega arith in
            lies_on next quiet cells parts ds whole division p d has (i, low, is) within n (apart_before next parts never n) x y live ∙ ap (λ k. after next d k x y) sum;
      }

  look_at : (ds : List Picture) → IsDivision next cells ds → IsFiner parts ds → Look next cells 0 parts ends ds
  look_at ds division fine =
      look_of next cells 0 parts ends ds quiet never whole division (comes_in ds division fine)
      (AllZip-weaker (λ e p. IsEnd next p e) (Joins next 0) (λ e p is. joins_end next p e is) ends parts (AllZip-turned (IsEnd next) parts ends zip))

  -- its end lies in that one too
  pub ends_lie : (ds : List Picture) → IsDivision next cells ds → IsFiner parts ds → AllZip (λ p e. Any (λ d. LiesIn p d × LiesIn e d) ds) parts ends
  ends_lie ds division fine =
      let look = look_at ds division fine in
      AllZip-turned (λ e p. Any (λ d. LiesIn p d × LiesIn e d) ds) ends parts
      (AllZip-weaker (λ e p. (GoesOnAs next 0 look.l e p × IsBackAt next (0 + look.l) e) × Contains parts p) (λ e p. Any (λ d. LiesIn p d × LiesIn e d) ds)
      (λ e p is.
      let c = look.comes p is.1 in
      let (i, low, at) = c.has in
      (i, c.d, low, at, (c.within 0, lies next cells 0 parts ends ds look e p is.0 is.1 0)))
      ends parts (AllZip-with_other (λ e p. GoesOnAs next 0 look.l e p × IsBackAt next (0 + look.l) e) (Contains parts) ends parts look.zip (All-contains_itself parts)))

  -- the ends of a settled plane's parts never meet, and are the plane together
  pub ends_of_settled : IsFinerThanAll next cells parts → IsSettled next cells → AllPairs (NeverMeet next) ends × ((x y : ℤ) → cells x y ≡ together ends x y)
  ends_of_settled fine (ds, division) =
      let look = look_at ds division (fine ds division) in
      (never_meet next cells 0 parts ends ds look, whole_of next cells 0 parts ends ds look)

  -- and where live ones of them never meet, and are the plane together, they are its finest division
  pub ends_are_finest : IsFinerThanAll next cells parts → (lives : List Picture) → All IsLive lives → All (Contains ends) lives
      → AllPairs (NeverMeet next) lives → ((x y : ℤ) → cells x y ≡ together lives x y) → IsFinest next cells lives
  ends_are_finest fine lives live among apart sum =
      let back : All (ComesBack next) ends = All-zip (IsEnd next) (Contains parts) (ComesBack next) (λ p e is _. is.back) parts ends zip (All-contains_itself parts) in
      record {
        division = record { live = live; back = λ k d low. All-contains (ComesBack next) ends (get_or lives k d) back (among k d low); apart = apart; whole = sum };
        finest = λ ds division k d low.
            All-contains (λ e. Any (LiesIn e) ds) ends (get_or lives k d) (finer next cells 0 parts ends ds (look_at ds division (fine ds division))) (among k d low);
      }
