-- A pattern is found to be one thing at most within a limit, and a file's pattern that or not identified for one fault.
use Rattle.std.proofs.Common.{◌≡◌, ◌≢◌, ℕ, zero, suc, ◌+◌, ◌-◌, ◌*◌, ◌≤◌, ◌<◌, List, [], refl, sym, ap, ap₂, subst, ◌∙◌, inl, inr, arith}
use Rattle.std.specs.Prelude.{ℤ, pos, negsuc, ◌+ℤ◌, ◌-ℤ◌, ◌*ℤ◌}
use Rattle.std.proofs.Math.Nat.{suc-mul, mul_comm}
use Rattle.std.proofs.Math.IntN.{*ℤ-zero}
use Rattle.std.proofs.lemmas.Bool.{cases_order}
use Rattle.std.proofs.lemmas.Int.{ints}
use Rattle.ca_plane.specs.Prelude.{Picture, cell, IsSame, shifted, IsLive, after, cells_after, IsAfter}
use Rattle.ca_plane.proofs.Populations.{same_population}
use Rattle.ca_plane.proofs.Shifts.{cell-shifted}
use Rattle.ca_rule.specs.Prelude.{TableRule, next_of}
use Rattle.ca_plane.proofs.After.{after_same, after_seen}
use Rattle.ca_steps.proofs.Returns.{after_stands, back_times, vector_times}
use Rattle.ca_steps.proofs.Vectors.{no_vector, live-moved}
use Rattle.ca_text.specs.declared.asks.Forbidden.TheVariants.{InPlace, Anywhere, EmptyPlane}
use Rattle.ca_text.specs.declared.kind.Kind.{Kind}
use Rattle.ca_text.specs.declared.kind.Kind.TheVariants.{Still, Oscillator, Spaceship, Becomes, BecomesShifted, Dies}
use Rattle.ca_answers.specs.declared.identity.{Growth.Growth, Identity.Identity}
use Rattle.ca_answers.specs.declared.identity.Identity.TheVariants.{Empty, Claim, Unknown}
use Rattle.ca_pattern.specs.declared.located_fault.LocatedFault.{LocatedFault}
use Rattle.ca_pattern.specs.declared.located_fault.LocatedFault.TheVariants.{Work, Memory}
use Rattle.ca_pattern.specs.Prelude.{IsOpeningFault, IsSameFault}
use Rattle.ca_answers.specs.Prelude.{AreOfNoOther, IsTrueWithin, IsGrowth, IsIdentity, IsIdentityAfter, IsIdentifiedAfter, IsUnidentifiedAfter}
use Rattle.ca_text.specs.Prelude.{asks_of, ShowsNothingForbidden}
use Rattle.ca_identify.proofs.IdentifiedFiles.{same_identity}
use Rattle.ca_pattern.proofs.OneConversion.{one_box}
use Rattle.ca_pattern.proofs.OneFault.{opened_or_fault, one_opening_fault}
use Rattle.ca_evolution.proofs.Vectors.{one_vector}
use Rattle.ca_pattern.proofs.OneText.{box_shown}
use Rattle.ca_text.proofs.Truths.{back}
use Rattle.ca_pattern.proofs.OneMeaning.{one_ruled}

-- ---- multiples

no_less : (k n : ℕ) → 1 ≤ k → n ≤ k * n
no_less zero n some = absurd (omega (arith, some))
no_less (suc k) n some = omega (arith, suc-mul k n)

-- only 0 has a multiple that is 0
no_multiple : (k : ℕ) (d : ℤ) → 1 ≤ k → pos k *ℤ d ≡ pos 0 → d ≡ pos 0
no_multiple k (pos n) some e =
    let none : k * n ≡ 0 = omega (arith, ints, e) in
    let nothing : n ≡ 0 = omega (arith, none, no_less k n some) in
    ap pos nothing
no_multiple k (negsuc n) some e =
    let none : k * suc n ≡ 0 = omega (arith, ints, e) in
    absurd (omega (arith, none, no_less k (suc n) some))

-- ---- a plane that is empty

-- it has one state everywhere after n generations,
one_state : (next : List ℕ → ℕ) (n : ℕ) (x y u v : ℤ) → cells_after next (λ _ _. 0) n x y ≡ cells_after next (λ _ _. 0) n u v
one_state next n x y u v =
    let across : (u -ℤ x) +ℤ x ≡ u = omega (arith, ints) in
    let down : (v -ℤ y) +ℤ y ≡ v = omega (arith, ints) in
    after_seen next (λ _ _. 0) (u -ℤ x) (v -ℤ y) n x y ∙ ap₂ (cells_after next (λ _ _. 0) n) across down

-- as no live picture has
many_states : (p : Picture) → IsLive p → ((x y u v : ℤ) → cell p x y ≡ cell p u v) → ⊥
many_states p live same =
    let none = no_vector p (pos 1) (pos 0) live (λ x y. same x y (x -ℤ pos 1) (y -ℤ pos 0) ∙ sym (cell-shifted p (pos 1) (pos 0) x y)) in
    omega (arith, ints, none.0)

module _ (next : List ℕ → ℕ) (cells : Picture) (live : IsLive cells) where
  moved_live : (dx dy : ℤ) → IsLive (shifted cells dx dy)
  moved_live dx dy = (live.0 +ℤ dx, live.1 +ℤ dy, live-moved cells (shifted cells dx dy) dx dy live.0 live.1 (λ x y. refl) live.2)

  -- so a live pattern that is back some time doesn't die
  dead_or_back : (n g : ℕ) (dx dy : ℤ) → 1 ≤ g → IsAfter next cells n [] → IsAfter next cells g (shifted cells dx dy) → ⊥
  dead_or_back n g dx dy some dead stands =
      let again = back_times next cells g n dx dy stands in
      let more : n ≤ n * g = subst (λ t. n ≤ t) (mul_comm g n) (no_less g n some) in
      let split : n + (n * g - n) ≡ n * g = omega (arith, more) in
      let at : (x y : ℤ) → cells_after next (λ _ _. 0) (n * g - n) x y ≡ cell (shifted cells (pos n *ℤ dx) (pos n *ℤ dy)) x y =
      λ x y. after_same next (λ _ _. 0) (cell []) (n * g - n) (λ u v. refl) x y ∙ after_stands next cells [] n (n * g - n) dead x y
      ∙ ap (λ t. after next cells t x y) split ∙ again x y in
      many_states (shifted cells (pos n *ℤ dx) (pos n *ℤ dy)) (moved_live (pos n *ℤ dx) (pos n *ℤ dy)) (λ x y u v. sym (at x y) ∙ one_state next (n * g - n) x y u v ∙ at u v)

  -- and one that is back in its place some time is back by no other vector
  placed_or_moved : (m n : ℕ) (dx dy : ℤ) → 1 ≤ m → IsAfter next cells m (shifted cells (pos 0) (pos 0)) → IsAfter next cells n (shifted cells dx dy) → (dx ≡ pos 0) × (dy ≡ pos 0)
  placed_or_moved m n dx dy some placed moved =
      let again = subst (λ t. IsAfter next cells t (shifted cells (pos n *ℤ pos 0) (pos n *ℤ pos 0))) (mul_comm n m) (back_times next cells m n (pos 0) (pos 0) placed) in
      let vector = vector_times next cells n m dx dy (pos n *ℤ pos 0) (pos n *ℤ pos 0) live moved again in
      (no_multiple m dx some (sym vector.0 ∙ *ℤ-zero (pos n)), no_multiple m dy some (sym vector.1 ∙ *ℤ-zero (pos n)))

-- ---- times

-- two times at which something is shown, and at no earlier one, are one
one_first : (Shown Hidden : ℕ → Type 0) → ((k : ℕ) → Shown k → Hidden k → ⊥) → (m n : ℕ) → 1 ≤ m → 1 ≤ n → Shown m → Shown n
    → ((k : ℕ) → 1 ≤ k → k < m → Hidden k) → ((k : ℕ) → 1 ≤ k → k < n → Hidden k) → m ≡ n
one_first Shown Hidden not_both m n first other shows shows_too before before_too =
    elim (cases_order m n) [
      | inl e ↦ e
      | inr (inl less) ↦ absurd (not_both m shows (before_too m first less))
      | inr (inr more) ↦ absurd (not_both n shows_too (before n other more))
    ]

-- ---- claims

-- the place of a kind in an order
abbrev place : Kind → ℕ
place (Dies generations) = 0
place Still = 1
place (Oscillator period) = 2
place (Spaceship period dx dy) = 3
place (Becomes generations) = 4
place (BecomesShifted generations dx dy) = 5

module _ (next : List ℕ → ℕ) (cells : Picture) (limit : ℕ) where
  -- a claim about the pattern alone is true of it
  abbrev IsTrueAlone : Kind → Type 0
  IsTrueAlone kind = AreOfNoOther (asks_of kind).expected × IsTrueWithin next cells limit kind

  -- which is live then,
  claimed_live : (a : Kind) → IsTrueAlone a → IsLive cells
  claimed_live (Becomes n) (own, is) = absurd own
  claimed_live (BecomesShifted n dx dy) (own, is) = absurd own
  claimed_live a (own, is) = is.holds.live refl

  -- and the claim's time is at least one generation
  claimed_some : (a : Kind) → IsTrueAlone a → 1 ≤ (asks_of a).generations
  claimed_some Still (own, is) = omega arith
  claimed_some (Oscillator p) (own, is) = omega (arith, is.numbers.0)
  claimed_some (Spaceship p dx dy) (own, is) = is.numbers.0
  claimed_some (Dies n) (own, is) = is.numbers.0
  claimed_some a (own, is) = absurd own

  -- of two kinds one alone is that of a true claim
  one_kind : (a b : Kind) → place a < place b → IsTrueAlone a → IsTrueAlone b → ⊥
  one_kind a (Becomes n) less h (own, is) = own
  one_kind a (BecomesShifted n dx dy) less h (own, is) = own
  one_kind (Dies n) Still less (own, dies) (alone, is) = dead_or_back next cells (is.holds.live refl) n 1 (pos 0) (pos 0) (omega arith) dies.holds.stands is.holds.stands
  one_kind (Dies n) (Oscillator p) less (own, dies) (alone, is) =
      dead_or_back next cells (is.holds.live refl) n p (pos 0) (pos 0) (omega (arith, is.numbers.0)) dies.holds.stands is.holds.stands
  one_kind (Dies n) (Spaceship p dx dy) less (own, dies) (alone, is) = dead_or_back next cells (is.holds.live refl) n p dx dy is.numbers.0 dies.holds.stands is.holds.stands
  one_kind Still (Oscillator p) less (own, still) (alone, is) =
      back next cells InPlace 1 (pos 0) (pos 0) (refl, refl) still.holds.stands (is.holds.least 1 (omega arith) (omega (arith, is.numbers.0)))
  one_kind Still (Spaceship p dx dy) less (own, still) (alone, is) =
      let none = placed_or_moved next cells (is.holds.live refl) 1 p dx dy (omega arith) still.holds.stands is.holds.stands in
      is.numbers.4 none.0 none.1
  one_kind (Oscillator q) (Spaceship p dx dy) less (own, back_there) (alone, is) =
      let none = placed_or_moved next cells (is.holds.live refl) q p dx dy (omega (arith, back_there.numbers.0)) back_there.holds.stands is.holds.stands in
      is.numbers.4 none.0 none.1
  one_kind a b less h k = absurd (omega (arith, less))

  -- and two of one kind are one
  same_kind : (a b : Kind) → place a ≡ place b → IsTrueAlone a → IsTrueAlone b → a ≡ b
  same_kind (Becomes n) b e (own, h) k = absurd own
  same_kind (BecomesShifted n dx dy) b e (own, h) k = absurd own
  same_kind (Dies m) (Dies n) e (own, h) (alone, k) =
      ap Dies (one_first (λ t. IsAfter next cells t []) (ShowsNothingForbidden next cells EmptyPlane) (λ t empty live. live.2 (empty live.0 live.1)) m n
      h.numbers.0 k.numbers.0 h.holds.stands k.holds.stands h.holds.least k.holds.least)
  same_kind Still Still e h k = refl
  same_kind (Oscillator p) (Oscillator q) e (own, h) (alone, k) =
      ap Oscillator (one_first (λ t. IsAfter next cells t (shifted cells (pos 0) (pos 0))) (ShowsNothingForbidden next cells InPlace) (λ t. back next cells InPlace t (pos 0) (pos 0) (refl, refl)) p q
      (omega (arith, h.numbers.0)) (omega (arith, k.numbers.0)) h.holds.stands k.holds.stands h.holds.least k.holds.least)
  same_kind (Spaceship p dx dy) (Spaceship q u v) e (own, h) (alone, k) =
      let time = one_first (λ t. (x : ℤ) × (y : ℤ) × IsAfter next cells t (shifted cells x y)) (ShowsNothingForbidden next cells Anywhere) (λ t there. back next cells Anywhere t there.0 there.1 tt there.2) p q
      h.numbers.0 k.numbers.0 (dx, dy, h.holds.stands) (u, v, k.holds.stands) h.holds.least k.holds.least in
      let vector = one_vector cells dx dy u v (h.holds.live refl) (λ x y. sym (h.holds.stands x y) ∙ ap (λ t. after next cells t x y) time ∙ k.holds.stands x y) in
      let right = vector.0 in
      let down = vector.1 in
      λ i. Spaceship (time i) (right i) (down i)
  same_kind a b e h k = let no : ⊥ = omega (arith, e) in absurd no

  -- so one claim about a pattern is true
  one_claim : (a b : Kind) → IsTrueAlone a → IsTrueAlone b → a ≡ b
  one_claim a b h k =
      elim (cases_order (place a) (place b)) [
        | inl e ↦ same_kind a b e h k
        | inr (inl less) ↦ absurd (one_kind a b less h k)
        | inr (inr more) ↦ absurd (one_kind b a more k h)
      ]

  -- ---- identities

  -- a plane has grown so far in one way
  one_growth : (p q : Picture) (a b : Growth) → IsSame p q → IsGrowth p a → IsGrowth q b → a ≡ b
  one_growth p q a b same one two =
      let count = same_population (cell p) (cell q) same a.cells b.cells one.population two.population in
      let box = one_box q a.bounds b.bounds (box_shown p q same a.bounds one.bounds) two.bounds in
      λ i. record { cells = count i; bounds = box i }

  -- no claim is true of a pattern of which none is
  none_claimed : (a : Kind) (growth : Growth) → IsTrueAlone a → IsIdentity next cells limit (Unknown growth) → ⊥
  none_claimed a growth (own, is) unknown = unknown.1 a own (claimed_some a (own, is)) is.within is.holds

  -- so a pattern has one identity
  pub one_identity : (a b : Identity) → IsIdentity next cells limit a → IsIdentity next cells limit b → a ≡ b
  one_identity Empty Empty h k = refl
  one_identity Empty (Claim b) dead k = absurd (dead (claimed_live b k))
  one_identity Empty (Unknown b) dead k = absurd (dead k.0)
  one_identity (Claim a) Empty h dead = absurd (dead (claimed_live a h))
  one_identity (Claim a) (Claim b) h k = ap Claim (one_claim a b h k)
  one_identity (Claim a) (Unknown b) h k = absurd (none_claimed a b h k)
  one_identity (Unknown a) Empty h dead = absurd (dead h.0)
  one_identity (Unknown a) (Claim b) h k = absurd (none_claimed b a k h)
  one_identity (Unknown a) (Unknown b) (live, none, p, is, grown) (lives, nothing, q, is_too, grows) =
      ap Unknown (one_growth p q a b (λ x y. sym (is x y) ∙ is_too x y) grown grows)

-- and its plane has one after some generations
pub one_identity_after : (next : List ℕ → ℕ) (cells : Picture) (n limit : ℕ) (a b : Identity) → IsIdentityAfter next cells n limit a → IsIdentityAfter next cells n limit b → a ≡ b
one_identity_after next cells n limit a b (p, stands, is) (q, goes, are) =
    one_identity next q limit a b (same_identity next p q (λ x y. sym (stands x y) ∙ goes x y) limit a is) are

-- ---- files

module _ (bytes : List ℕ) (tables : List TableRule) (n limit : ℕ) where
  -- and so has that of a file's pattern
  pub one_identified : (a b : Identity) → IsIdentifiedAfter bytes tables n limit a → IsIdentifiedAfter bytes tables n limit b → a ≡ b
  one_identified a b (p, r, holds, is) (q, s, held, are) =
      let same = one_ruled bytes tables p q r s holds.0 held.0 holds.1.holds held.1.holds in
      let by_rule = subst (λ u. IsIdentityAfter (next_of u) p n limit a) same.1 is in
      one_identity_after (next_of s) q n limit a b (subst (λ c. IsIdentityAfter (next_of s) c n limit a) same.0 by_rule) are

  module _ (work : ℕ) where
    -- a fault other than out of work is one for which the file isn't opened
    not_opened : (fault : LocatedFault) → fault ≢ Work → IsUnidentifiedAfter bytes tables work n limit fault → IsOpeningFault bytes tables fault
    not_opened Work w h = absurd (w refl)
    not_opened fault w h = h

    -- so a file that is opened has none
    pub identified_or_fault : (identity : Identity) (fault : LocatedFault) → fault ≢ Memory → fault ≢ Work → IsIdentifiedAfter bytes tables n limit identity
        → IsUnidentifiedAfter bytes tables work n limit fault → ⊥
    identified_or_fault identity fault m w (p, r, holds, is) h = opened_or_fault bytes tables p r holds.0 fault m holds.1.holds holds.1.small (not_opened fault w h)

    -- and a file has one
    pub one_fault : (a b : LocatedFault) → a ≢ Memory → a ≢ Work → b ≢ Memory → b ≢ Work → IsUnidentifiedAfter bytes tables work n limit a
        → IsUnidentifiedAfter bytes tables work n limit b → IsSameFault a b
    one_fault a b m w o v h k = one_opening_fault bytes tables a b m o (not_opened a w h) (not_opened b v k)
