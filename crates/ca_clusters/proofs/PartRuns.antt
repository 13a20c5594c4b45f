-- What the planes of a part that is run alone are, one after another.
use Rattle.std.proofs.Common.{◌≡◌, ◌≢◌, ℕ, ◌+◌, ◌<◌, ◌≤◌, List, [], ◌∷◌, ◌++◌, length, get_or, below_more, refl, sym, ◌∙◌, subst, arith, inl, inr, ◌⊎◌}
use Rattle.std.specs.Prelude.{ℤ, pos, neg_ℤ, ◌+ℤ◌, ◌-ℤ◌, ◌≤ℤ◌, ◌<ℤ◌, replicate}
use Rattle.std.specs.List.{All}
use Rattle.std.proofs.lemmas.Bool.{cases_eq, cases_lt}
use Rattle.std.proofs.lemmas.Int.{ints}
use Rattle.std.proofs.lemmas.List.{get_or_append_left, get_or_default, length_push}
use Rattle.std.proofs.Math.Seq.{get_or-append_seam}
use Rattle.std.proofs.lemmas.List.Elements.{All-nil, All-cons, All-push, All-contains}
use Rattle.ca_plane.specs.declared.point.Point.{Point}
use Rattle.ca_plane.specs.Prelude.{Picture, cell, IsSame, IsLive, IsAfter, IsWithin, after, shifted, moved, longest_period}
use Rattle.ca_plane.proofs.After.{after_dead}
use Rattle.ca_plane.proofs.Pictures.{Contains-cell}
use Rattle.ca_steps.specs.Prelude.{HasStates, IsBackAnywhere, LeavesReachBefore}
use Rattle.ca_steps.proofs.OutOfReach.{leaves_at_once, LeavesReach-after}
use Rattle.ca_steps.proofs.Vectors.{live-moved}
use Rattle.ca_parts.specs.Prelude.{plane_at}
use Rattle.ca_parts.specs.Phases.{IsShortStep}
use Rattle.ca_parts.proofs.RowOrder.{three_ways}
use Rattle.ca_clusters.specs.Prelude.{GoesRound}
use Rattle.ca_clusters.specs.inner.Runs.{IsBeginning, LeavesAlone}

-- ---- the planes so far

-- one plane more is a beginning, where it isn't the first one, moved
pub IsBeginning-more : (next : List ℕ → ℕ) (count : ℕ) (planes : List Picture) (later : Picture) → IsBeginning next count planes
    → IsAfter next (plane_at planes 0) (length planes) later → HasStates count later
    → ((dx dy : ℤ) → IsSame later (shifted (plane_at planes 0) dx dy) → ⊥) → IsBeginning next count (planes ++ later ∷ [])
IsBeginning-more next count planes later so_far is_after states other =
    let n : ℕ = length planes in
    let p : Picture = plane_at planes 0 in
    let first : plane_at (planes ++ later ∷ []) 0 ≡ p = get_or_append_left planes (later ∷ []) [] 0 so_far.some in
    let last : plane_at (planes ++ later ∷ []) n ≡ later = get_or-append_seam planes later [] [] in
    let long : length (planes ++ later ∷ []) ≡ n + 1 = length_push planes later in
    record {
      some = omega (arith, long);
      live = subst IsLive (sym first) so_far.live;
      each = λ k low. subst (λ (q : Picture). IsAfter next q k (plane_at (planes ++ later ∷ []) k)) (sym first)
          (below_more (λ j. IsAfter next p j (plane_at (planes ++ later ∷ []) j)) n
          (λ j below. subst (λ (q : Picture). IsAfter next p j q) (sym (get_or_append_left planes (later ∷ []) [] j below)) (so_far.each j below))
          (subst (λ (q : Picture). IsAfter next p n q) (sym last) is_after) k (omega (arith, low, long)));
      away = λ k low. subst (λ (q : Picture). IsBackAnywhere next q k → ⊥) (sym first)
          (below_more (λ j. IsBackAnywhere next p j → ⊥) n so_far.away
          (λ back. other back.1 back.2 (λ x y. sym (is_after x y) ∙ back.3 x y)) k (omega (arith, low, long)));
      states = All-push (HasStates count) planes later so_far.states states;
    }

-- the course that ends where the first plane is there again, moved
pub GoesRound-back : (next : List ℕ → ℕ) (count : ℕ) (planes : List Picture) (dx dy : ℤ) → IsBeginning next count planes
    → IsAfter next (plane_at planes 0) (length planes) (shifted (plane_at planes 0) dx dy)
    → GoesRound next (record { planes = planes; dx = dx; dy = dy })
GoesRound-back next count planes dx dy so_far back =
    let some : 1 ≤ length planes = omega (arith, so_far.some) in
    record {
      live = so_far.live;
      phases = record { some = some; each = so_far.each; back = back };
      least = record {
        one = (some, dx, dy, back);
        least = λ n again. elim (cases_lt n (length planes)) [ inl early ↦ absurd (so_far.away n early again) | inr late ↦ late ];
      };
    }

-- a step from the last plane leaves the reach only where the first plane does some time
pub LeavesAlone-last : (next : List ℕ → ℕ) (count : ℕ) (planes : List Picture) (last : Picture) (k : ℕ) → IsBeginning next count planes
    → k < length planes → last ≡ get_or planes k last → LeavesReachBefore next last 1 → LeavesAlone next (plane_at planes 0)
LeavesAlone-last next count planes last k so_far low is leaves =
    let shows : IsAfter next (plane_at planes 0) k last = subst (λ (q : Picture). IsAfter next (plane_at planes 0) k q) (get_or_default planes k [] last low ∙ sym is) (so_far.each k low) in
    (plane_at planes 0, (λ x y live. refl), k, LeavesReach-after next (plane_at planes 0) last k shows (leaves_at_once next last leaves))

-- ---- how far a part goes before it is back

-- of the cells that a list names, a live one as high as any live one, or none is live
record IsHighest (f : ℤ → ℤ → ℕ) (height : Point → ℤ) (es : Picture) (at : Point) : Type 0 where
  live : f at.x at.y ≢ 0
  all : All (λ e. f e.0.x e.0.y ≢ 0 → height e.0 ≤ℤ height at) es

highest : (f : ℤ → ℤ → ℕ) (height : Point → ℤ) (es : Picture) → ((at : Point) × IsHighest f height es at) ⊎ All (λ e. f e.0.x e.0.y ≡ 0) es
highest f height [] = inr (All-nil (λ e. f e.0.x e.0.y ≡ 0))
highest f height (e ∷ es) =
    elim (cases_eq (f e.0.x e.0.y) 0) [
      | inl none ↦ elim (highest f height es) [
        | inl found ↦ inl (found.0, record { live = found.1.live; all = All-cons (λ g. f g.0.x g.0.y ≢ 0 → height g.0 ≤ℤ height found.0) e es (λ live. absurd (live none)) found.1.all })
        | inr dead ↦ inr (All-cons (λ g. f g.0.x g.0.y ≡ 0) e es none dead)
      ]
      | inr live ↦ elim (highest f height es) [
        | inl found ↦ elim (three_ways (height found.0) (height e.0)) [
          | inl less ↦ inl (e.0, record { live = live; all = All-cons (λ g. f g.0.x g.0.y ≢ 0 → height g.0 ≤ℤ height e.0) e es (λ _. omega (arith, ints)) (λ k d low here. omega (arith, ints, less, found.1.all k d low here)) })
          | inr more ↦ inl (found.0, record { live = found.1.live; all = All-cons (λ g. f g.0.x g.0.y ≢ 0 → height g.0 ≤ℤ height found.0) e es (λ _. no_less (height found.0) (height e.0) more) found.1.all })
        ]
        | inr dead ↦ inl (e.0, record { live = live; all = All-cons (λ g. f g.0.x g.0.y ≢ 0 → height g.0 ≤ℤ height e.0) e es (λ _. omega (arith, ints)) (λ k d low here. absurd (here (dead k d low))) })
      ]
    ]
  where
    no_less : (a b : ℤ) → (a ≡ b) ⊎ (b <ℤ a) → b ≤ℤ a
    no_less a b (inl same) = omega (arith, ints)
    no_less a b (inr less) = omega (arith, ints)

-- a height that is no more than n lower at a place within n grows by n at most, where a live picture is moved by n generations
no_higher : (next : List ℕ → ℕ) → next (replicate 9 0) ≡ 0 → (p : Picture) (n : ℕ) (dx dy : ℤ) → IsLive p → IsAfter next p n (shifted p dx dy)
    → (height : Point → ℤ) (d : ℤ) → ((x y u v : ℤ) → IsWithin n x y u v → (height (record { y = y; x = x }) -ℤ pos n) ≤ℤ height (record { y = v; x = u }))
    → ((at : Point) → height (moved at dx dy) ≡ height at +ℤ d) → d ≤ℤ pos n
no_higher next quiet p n dx dy live back height d near moves =
    elim (highest (cell p) height p) [
      | inr dead ↦ absurd (live.2 (All-contains (λ e. cell p e.0.x e.0.y ≡ 0) p _ dead (Contains-cell p live.0 live.1 live.2)))
      | inl found ↦ at_top found.0 found.1 (three_ways d (pos n))
    ]
  where
    at_top : (at : Point) → IsHighest (cell p) height p at → (d <ℤ pos n) ⊎ ((d ≡ pos n) ⊎ (pos n <ℤ d)) → d ≤ℤ pos n
    at_top at top (inl less) = omega (arith, ints)
    at_top at top (inr (inl same)) = omega (arith, ints)
    at_top at top (inr (inr more)) =
        let there : cell (shifted p dx dy) (at.x +ℤ dx) (at.y +ℤ dy) ≢ 0 = live-moved p (shifted p dx dy) dx dy at.x at.y (λ x y. refl) top.live in
        let none : after next p n (at.x +ℤ dx) (at.y +ℤ dy) ≡ 0 = after_dead next (cell p) quiet n (at.x +ℤ dx) (at.y +ℤ dy) (λ u v within.
        elim (cases_eq (cell p u v) 0) [
          | inl none ↦ none
          | inr here ↦
              let lower = All-contains (λ e. cell p e.0.x e.0.y ≢ 0 → height e.0 ≤ℤ height at) p _ top.all (Contains-cell p u v here) here in
              let by = near (at.x +ℤ dx) (at.y +ℤ dy) u v within in
              let up = moves at in
              absurd (omega (arith, ints, more, lower, by, up))
        ]) in
        absurd (there (sym (back (at.x +ℤ dx) (at.y +ℤ dy)) ∙ none))

-- so a live part is moved no further than it has generations
pub no_faster : (next : List ℕ → ℕ) → next (replicate 9 0) ≡ 0 → (p : Picture) (n : ℕ) (dx dy : ℤ) → IsLive p → IsAfter next p n (shifted p dx dy)
    → (neg_ℤ (pos n) ≤ℤ dx) × (dx ≤ℤ pos n) × (neg_ℤ (pos n) ≤ℤ dy) × (dy ≤ℤ pos n)
no_faster next quiet p n dx dy live back =
    let right : dx ≤ℤ pos n = no_higher next quiet p n dx dy live back (λ at. at.x) dx (λ x y u v within. omega (arith, ints, within)) (λ at. refl) in
    let left : neg_ℤ dx ≤ℤ pos n = no_higher next quiet p n dx dy live back (λ at. neg_ℤ at.x) (neg_ℤ dx) (λ x y u v within. omega (arith, ints, within)) (λ at. omega (arith, ints)) in
    let down : dy ≤ℤ pos n = no_higher next quiet p n dx dy live back (λ at. at.y) dy (λ x y u v within. omega (arith, ints, within)) (λ at. refl) in
    let up : neg_ℤ dy ≤ℤ pos n = no_higher next quiet p n dx dy live back (λ at. neg_ℤ at.y) (neg_ℤ dy) (λ x y u v within. omega (arith, ints, within)) (λ at. omega (arith, ints)) in
    (omega (arith, ints, left), right, omega (arith, ints, up), down)

-- and that is no longer than a claim's vector may be, where it has no more than a claim's longest period
pub short_steps : (next : List ℕ → ℕ) → next (replicate 9 0) ≡ 0 → (p : Picture) (n : ℕ) (dx dy : ℤ) → IsLive p → n ≤ longest_period
    → IsAfter next p n (shifted p dx dy) → IsShortStep dx × IsShortStep dy
short_steps next quiet p n dx dy live few back =
    let far = no_faster next quiet p n dx dy live back in
    ((omega (arith, ints, few, far), omega (arith, ints, few, far)), (omega (arith, ints, few, far), omega (arith, ints, few, far)))

-- ---- a run

-- the first plane of a list
pub is_first : (planes : List Picture) (one : Picture) → 0 < length planes → one ≡ get_or planes 0 one → one ≡ plane_at planes 0
is_first planes one some is = is ∙ sym (get_or_default planes 0 [] one some)

-- where the next plane is the first one, moved, the first one is back then
pub back_by : (next : List ℕ → ℕ) (planes : List Picture) (one later : Picture) (dx dy : ℤ) → one ≡ plane_at planes 0
    → IsAfter next (plane_at planes 0) (length planes) later → IsSame later (shifted one dx dy)
    → IsAfter next (plane_at planes 0) (length planes) (shifted (plane_at planes 0) dx dy)
back_by next planes one later dx dy first is_after same =
    let same_first : IsSame later (shifted (plane_at planes 0) dx dy) = subst (λ (q : Picture). IsSame later (shifted q dx dy)) first same in
    λ x y. is_after x y ∙ same_first x y
