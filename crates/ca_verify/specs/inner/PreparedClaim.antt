-- What a claim is judged on, once its patterns are read.
use Rattle.std.specs.Prelude.{◌≡◌, ℕ, List, Bool, true, false, Option, Some, None, IfSome, ◌⊎◌}
use Rattle.ca_plane.specs.Prelude.{Picture, HasFewCells, HasTooManyCells}
use Rattle.ca_quad.specs.declared.{node.Node.Node, tree.Tree.Tree}
use Rattle.ca_quad.specs.Prelude.{IsSoundStore}
use Rattle.ca_quad.specs.Trees as trees
use Rattle.ca_rule.specs.Prelude.{rule_value}
use Rattle.ca_text.specs.declared.{asks.Asks.Asks, asks.Expected.Expected, both.Both.Both}
use Rattle.ca_text.specs.declared.asks.Expected.TheVariants.{Own, Other, NoCells}
use Rattle.ca_verify.specs.declared.{decide.ClaimTrees.ClaimTrees, refusal.WhichPattern.WhichPattern, refusal.Refusal.Refusal, verifier.agreement.Disagreement.Disagreement}
use Rattle.ca_verify.specs.declared.{verifier.patterns.BadPart.BadPart, verifier.prepared.PreparedClaim.PreparedClaim}
use Rattle.ca_pattern.specs.declared.{limits.Limits.Limits, pattern_fault.PatternFault.PatternFault, read.BadPattern.BadPattern as Unread}
use Rattle.ca_verify.specs.declared.refusal.About.TheVariants as about
use Rattle.ca_verify.specs.declared.refusal.WhichPattern.TheVariants.{First, Second}
use Rattle.ca_pattern.specs.declared.pattern_fault.PatternFault.TheVariants as pattern_fault
use Rattle.ca_answers.specs.declared.cause.Cause.TheVariants.{BadPattern, StateTooLarge, MixedRules, TooManyCells}
use Rattle.ca_answers.specs.declared.cause.Cause.TheVariants as cause
use Rattle.ca_verify.specs.declared.verifier.agreement.Disagreement.TheVariants.{Large, Mixed}
use Rattle.ca_verify.specs.declared.verifier.agreement.Disagreement.TheVariants as disagreement
use Rattle.ca_answers.specs.Prelude.{SuppliedFiles, AgreeOn, IsCounted, HasFewCounted}
use Rattle.ca_evolution.specs.Prelude.{HasLimits}
use Rattle.ca_pattern.specs.Prelude.{IsPattern}
use Rattle.ca_verify.specs.inner.Subjects.{AreShown}

-- the trees show what the files of these paths mean, under one rule, and not too many cells where they are counted; the claim asks this
pub record IsPrepared (files : SuppliedFiles) (rules : List (List ℕ)) (asks : Asks) (paths : Both (List ℕ)) (prepared : PreparedClaim) : Type 0 where
  pub cells : Picture
  pub other : Picture
  pub shown : AreShown prepared.leaper.nodes prepared.subject cells other
  pub agree : AgreeOn files rules paths cells other (rule_value prepared.leaper.rule)
  pub few : HasFewCounted asks cells other

-- the tree of the pattern whose cells are expected, where some are
abbrev pub expected_tree : Expected → ClaimTrees → Option Tree
expected_tree Own subject = Some subject.pattern
expected_tree Other subject = Some subject.other
expected_tree NoCells subject = None

-- which of a claim's patterns has the cells that are expected: where both are of one file, the first
abbrev pub expected_part : (are_one : Bool) → Expected → WhichPattern
expected_part true expected = First
expected_part false Own = First
expected_part false Other = Second
expected_part false NoCells = First

-- the cells that are counted aren't too many
abbrev pub AreFewCounted : List Node → Asks → ClaimTrees → Type 0
AreFewCounted nodes asks subject = IsCounted asks → IfSome (expected_tree asks.expected subject) (λ tree. HasFewCells (trees.cell nodes tree))

-- the refusal of a claim with a pattern that has too many cells
abbrev pub refusal_for_count : WhichPattern → Refusal
refusal_for_count part = record { cause = TooManyCells; about = about.Pattern part None None }

-- why they aren't known to be few: no memory, or there are too many
abbrev pub IsCountRefused : List Node → Asks → ClaimTrees → (are_one : Bool) → Refusal → Type 0
IsCountRefused nodes asks subject are_one refusal = (refusal ≡ record { cause = cause.Memory; about = about.Claim })
    ⊎ ((refusal ≡ refusal_for_count (expected_part are_one asks.expected)) × IsCounted asks
    × (tree : Tree) × (expected_tree asks.expected subject ≡ Some tree) × HasTooManyCells (trees.cell nodes tree))

-- the refusal of a claim with a pattern that isn't read
abbrev pub refusal_for : WhichPattern → PatternFault → Option ℕ → Refusal
refusal_for part pattern_fault.Memory line = record { cause = cause.Memory; about = about.Claim }
refusal_for part fault line = record { cause = BadPattern fault; about = about.Pattern part line None }

abbrev pub reading_refusal : BadPart Unread → Refusal
reading_refusal unread = refusal_for unread.part unread.why.fault unread.why.line

-- the refusal of a claim whose patterns have no one rule under which their states are small
abbrev pub disagreement_refusal : Disagreement → Refusal
disagreement_refusal (Large part) = record { cause = StateTooLarge; about = about.Pattern part None None }
disagreement_refusal Mixed = record { cause = MixedRules; about = about.Claim }
disagreement_refusal disagreement.Memory = record { cause = cause.Memory; about = about.Claim }

-- the store is sound, the trees are low ones in range, the leaper has these limits, and no work is done yet
pub record IsFit (limits : Limits) (prepared : PreparedClaim) : Type 0 where
  pub sound : IsSoundStore prepared.leaper.nodes
  pub pattern : IsPattern prepared.leaper.nodes prepared.subject.pattern
  pub other : IsPattern prepared.leaper.nodes prepared.subject.other
  pub fresh : prepared.leaper.spent.used ≡ 0
  pub within : HasLimits limits prepared.leaper
