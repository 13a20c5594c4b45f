-- What a look at pairs of parts says of them, and what follows for parts that go on alone.
use Rattle.std.proofs.Common.{◌≡◌, ℕ, ◌+◌, ◌<◌, ◌≤◌, inl, inr, List, [], ◌∷◌, length, map, get_or, false, IsTrue, Option, Some, IfSome, sym, ◌∙◌, subst, arith}
use Rattle.std.specs.Prelude.{pos}
use Rattle.std.specs.List.{All, AllPairs}
use Rattle.std.proofs.lemmas.List.{get_or-map, get_or_default}
use Rattle.std.proofs.lemmas.List.Elements.{All-map}
use Rattle.std.proofs.lemmas.List.Kept.{AllPairs-cons}
use Rattle.ca_plane.proofs.Numbers.{below_or_not}
use Rattle.ca_plane.specs.Prelude.{Picture, after}
use Rattle.ca_parts.specs.declared.meeting.Meeting.TheVariants.{At}
use Rattle.ca_parts.specs.Prelude.{AreApart, AreApartBefore, NeverMeet, AreApartAfter, IsShownMeeting, plane_at}
use Rattle.ca_parts.proofs.PartedTracks.{untrue}
use Rattle.ca_parts.proofs.Lists.{AllPairs-head, AllPairs-tail}
use Rattle.ca_clusters.specs.declared.{part.Part.Part, meetings.Look.Look}
use Rattle.ca_clusters.specs.declared.meetings.Encounter.TheVariants.{Meet, Never}
use Rattle.ca_clusters.specs.inner.Runs.{IsRunTo, origin}
use Rattle.ca_clusters.specs.inner.Encounters.{IsEncounter, IsEarlierPair, ShowApartBefore, ShowBackAndApart, ShowMeeting, IsTrueLook}
use Rattle.ca_clusters.proofs.RunsShown.{apart_from_shown, shown_from_apart, apart_from_rounds}

-- ---- pairs of places

-- what holds of all pairs before one, and of that one, holds of all before the next
next_pair : (P : ℕ → ℕ → Type 0) (one other : ℕ) → ((i j : ℕ) → IsEarlierPair i j one other → P i j) → P one other → (i j : ℕ) → IsEarlierPair i j (one + 1) other → P i j
next_pair P one other all here i j (low, inl below) = all i j (low, inl below)
next_pair P one other all here i j (low, inr (same, within)) = elim (below_or_not i one) [
  | inl before ↦ all i j (low, inr (same, before))
  | inr late ↦
      let e : i ≡ one = omega arith in
      subst (λ (k : ℕ). P i k) (sym same) (subst (λ (k : ℕ). P k other) (sym e) here)
]

-- the pairs before the first one of a row are those of the rows before
next_row : (i j other : ℕ) → IsEarlierPair i j 0 (other + 1) → IsEarlierPair i j other other
next_row i j other (low, inl within) = elim (below_or_not j other) [
  | inl below ↦ (low, inl below)
  | inr late ↦ (low, inr (omega arith, omega arith))
]
next_row i j other (low, inr (same, none)) = absurd (omega arith)

-- ---- looks

-- an element is the one at its place, whatever is read past the end
at_place : (xs : List Part) (k : ℕ) (x d : Part) → k < length xs → x ≡ get_or xs k x → x ≡ get_or xs k d
at_place xs k x d low is = is ∙ get_or_default xs k x d low

-- with one more pair
pub IsTrueLook-more : (parts : List Part) (one other : ℕ) (old new : Look) (part another : Part) → part ≡ get_or parts one part → another ≡ get_or parts other another → one < other → other < length parts
    → IsTrueLook parts one other old → new.most ≤ old.most → ShowApartBefore new.most part another → IfSome new.first (λ pair. ShowMeeting parts pair.0 pair.1 new.most)
    → (IsTrue new.is_never → IsTrue old.is_never × ShowBackAndApart part another) → IsTrueLook parts (one + 1) other new
IsTrueLook-more parts one other old new part another is is_too order there look less apart first never =
    let at = λ (d : Part). at_place parts one part d (omega arith) is in
    let at_too = λ (d : Part). at_place parts other another d there is_too in
    record {
      before = λ i j d. next_pair (λ k l. ShowApartBefore new.most (get_or parts k d) (get_or parts l d)) one other
          (λ k l earlier m low. look.before k l d earlier m (omega arith))
          (subst (λ (q : Part). ShowApartBefore new.most (get_or parts one d) q) (at_too d) (subst (λ (p : Part). ShowApartBefore new.most p another) (at d) apart)) i j;
      first = first;
      never = λ yes i j d. next_pair (λ k l. ShowBackAndApart (get_or parts k d) (get_or parts l d)) one other
          (λ k l earlier. look.never (never yes).0 k l d earlier)
          (subst (λ (q : Part). ShowBackAndApart (get_or parts one d) q) (at_too d) (subst (λ (p : Part). ShowBackAndApart p another) (at d) (never yes).1)) i j;
    }

-- two more that are apart before as many generations as all so far
pub IsTrueLook-apart : (parts : List Part) (one other : ℕ) (old new : Look) (part another : Part) → part ≡ get_or parts one part → another ≡ get_or parts other another → one < other → other < length parts
    → IsTrueLook parts one other old → new.most ≡ old.most → new.first ≡ old.first → ((n : ℕ) → n < old.most → AreApartAfter part.shows another.shows n)
    → (IsTrue new.is_never → IsTrue old.is_never × ShowBackAndApart part another) → IsTrueLook parts (one + 1) other new
IsTrueLook-apart parts one other old new part another is is_too order there look same same_first apart never =
    IsTrueLook-more parts one other old new part another is is_too order there look (omega arith) (λ m low. apart m (omega arith))
    (subst (λ (n : ℕ). IfSome new.first (λ pair. ShowMeeting parts pair.0 pair.1 n)) (sym same) (subst (λ (f : Option (ℕ × ℕ)). IfSome f (λ pair. ShowMeeting parts pair.0 pair.1 old.most)) (sym same_first) look.first))
    never

-- two more that meet, no later than any so far
pub IsTrueLook-meet : (parts : List Part) (one other : ℕ) (old new : Look) (part another : Part) → part ≡ get_or parts one part → another ≡ get_or parts other another → one < other → other < length parts
    → IsTrueLook parts one other old → new.first ≡ Some (one, other) → new.is_never ≡ false
    → IsShownMeeting part.shows another.shows old.most (At new.most) → IsTrueLook parts (one + 1) other new
IsTrueLook-meet parts one other old new part another is is_too order there look first none meeting =
    IsTrueLook-more parts one other old new part another is is_too order there look meeting.2 meeting.1
    (subst (λ (f : Option (ℕ × ℕ)). IfSome f (λ pair. ShowMeeting parts pair.0 pair.1 new.most)) (sym first) (record {
      order = order;
      there = there;
      meet = λ d apart. meeting.0 (subst (λ (p : Part). AreApartAfter p.shows another.shows new.most) (sym (at_place parts one part d (omega arith) is))
          (subst (λ (q : Part). AreApartAfter (get_or parts one d).shows q.shows new.most) (sym (at_place parts other another d there is_too)) apart));
    }))
    (λ yes. absurd (untrue (sym none ∙ yes)))

-- with the last pair of a row, so that a new one begins
pub IsTrueLook-row : (parts : List Part) (one other : ℕ) (look : Look) → one ≡ other → IsTrueLook parts one other look → IsTrueLook parts 0 (other + 1) look
IsTrueLook-row parts one other look same seen = record {
  before = λ i j d earlier. seen.before i j d (subst (λ (k : ℕ). IsEarlierPair i j k other) (sym same) (next_row i j other earlier));
  first = seen.first;
  never = λ never i j d earlier. seen.never never i j d (subst (λ (k : ℕ). IsEarlierPair i j k other) (sym same) (next_row i j other earlier));
}

-- ---- what becomes of the parts

-- what holds of each two holds of what a function gives of each two
AllPairs-map : {X Y : Type 0} (R : Y → Y → Type 0) (f : X → Y) (xs : List X) → AllPairs (λ x y. R (f x) (f y)) xs → AllPairs R (map f xs)
AllPairs-map R f [] pairs = λ i j d low high. absurd (omega arith)
AllPairs-map R f (x ∷ xs) pairs =
    AllPairs-cons R (f x) (map f xs) (All-map (R (f x)) f xs (AllPairs-head (λ y z. R (f y) (f z)) x xs pairs)) (AllPairs-map R f xs (AllPairs-tail (λ y z. R (f y) (f z)) x xs pairs))

-- where the look at all pairs has two that meet, they meet first
pub meet_first : (next : List ℕ → ℕ) (count horizon : ℕ) (parts : List Part) (look : Look) (one other : ℕ) → All (IsRunTo next count horizon) parts → IsTrueLook parts 0 (length parts) look
    → look.most ≤ horizon → look.first ≡ Some (one, other) → IsEncounter next parts (Meet one other)
meet_first next count horizon parts look one other runs seen within first =
    let meeting : ShowMeeting parts one other look.most = subst (λ (f : Option (ℕ × ℕ)). IfSome f (λ pair. ShowMeeting parts pair.0 pair.1 look.most)) first seen.first in
    let none : Part = record { shows = record { planes = []; dx = pos 0; dy = pos 0 }; is_back = false } in
    let low : one < length parts = omega (arith, meeting.order, meeting.there) in (
      look.most,
      record {
        order = meeting.order;
        there = meeting.there;
        before = AllPairs-map (AreApartBefore next look.most) origin parts (λ i j d order there m below.
            apart_from_shown next count horizon (get_or parts i d) (get_or parts j d) (runs i d (omega arith)) (runs j d there) m (omega arith)
            (seen.before i j d (order, inl there) m below));
        meet = λ apart. meeting.meet none (shown_from_apart next count horizon (get_or parts one none) (get_or parts other none) (runs one none low) (runs other none meeting.there) look.most within
            (subst (λ (q : Picture). AreApart (after next (origin (get_or parts one none)) look.most) (after next q look.most)) (get_or-map origin parts other none [] meeting.there)
            (subst (λ (p : Picture). AreApart (after next p look.most) (after next (plane_at (map origin parts) other) look.most)) (get_or-map origin parts one none [] low) apart)));
      },
    )

-- where it says that none ever do, and all come back, none do
pub never_meet : (next : List ℕ → ℕ) (count horizon : ℕ) (parts : List Part) (look : Look) → All (IsRunTo next count horizon) parts → IsTrueLook parts 0 (length parts) look
    → IsTrue look.is_never → All (λ part. IsTrue part.is_back) parts → IsEncounter next parts Never
never_meet next count horizon parts look runs seen never back = (
  back,
  AllPairs-map (NeverMeet next) origin parts (λ i j d order there n.
      let both = seen.never never i j d (order, inl there) in
      apart_from_rounds next count (get_or parts i d) (get_or parts j d) (runs i d (omega arith)).run (runs j d there).run both.back both.back_too n (both.apart n)),
)
