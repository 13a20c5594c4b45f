-- How what calls take of a leaper's work adds up.
use Rattle.std.proofs.Common.{◌≡◌, ◌≢◌, ℕ, zero, suc, ◌+◌, ◌-◌, ◌*◌, ◌<◌, ◌≤◌, ◌^◌, List, refl, sym, ap, arith}
use Rattle.std.proofs.Math.Nat.{mul-le-mul_left, mul-le-mul_right, two-pow-succ}
use Rattle.ca_plane.specs.Prelude.{most_generations, Picture, cell}
use Rattle.ca_quad.specs.declared.{node.Node.Node, tree.Tree.Tree}
use Rattle.ca_quad.specs.Prelude.{IsTrimmed}
use Rattle.ca_budget.specs.Prelude.{Spent}
use Rattle.ca_budget.proofs.Powers.{power_more}
use Rattle.ca_text.specs.declared.asks.{Asks.Asks, Forbidden.Forbidden}
use Rattle.ca_text.specs.declared.asks.Forbidden.TheVariants.{Nothing, InPlace, Anywhere, EmptyPlane}
use Rattle.ca_answers.specs.Prelude.{most_runs, IsNoMoreThan, MayBeUsedUp}
use Rattle.ca_pattern.specs.Prelude.{ShowsTree}
use Rattle.ca_evolution.specs.Prelude.{Takes}
use Rattle.ca_verify.specs.inner.Spending.{TakesHalves, most_halvings, most_looks}
use Rattle.ca_pattern.proofs.CellsNearMiddle.{trimmed_low}

-- none
pub takes_none : (old new : Spent) (runs level n : ℕ) → new ≡ old → Takes old.used new.used runs level n
takes_none old new runs level n same d less =
    let used : new.used ≡ old.used = ap (λ (s : Spent). s.used) same in
    omega (arith, used)

module _ (old mid new runs level n : ℕ) where
  -- some after others
  pub takes_then : (i j : ℕ) → i + j ≤ runs → Takes old mid i level n → Takes mid new j level n → Takes old new runs level n
  takes_then i j few before now d less =
      let power = 14 ^ (level + d + 2) in
      let a = before d less in
      let b = now d less in
      let sum : i * power + j * power ≡ (i + j) * power = omega arith in
      let most : (i + j) * power ≤ runs * power = mul-le-mul_right power few in
      omega (arith, a, b, sum, most)

  -- one run more, of fewer generations
  pub takes_one_more : (i m : ℕ) → i + 1 ≤ runs → m ≤ n → Takes old mid i level n → Takes mid new 1 level m → Takes old new runs level n
  takes_one_more i m few sooner before now = takes_then i 1 few before (λ d less. now d (omega (arith, sooner, less)))

-- more may be allowed
pub takes_fewer : (old new i runs level n : ℕ) → i ≤ runs → Takes old new i level n → Takes old new runs level n
takes_fewer old new i runs level n few takes d less =
    let power = 14 ^ (level + d + 2) in
    let most : i * power ≤ runs * power = mul-le-mul_right power few in
    let a = takes d less in
    omega (arith, a, most)

-- a death is looked for among at most 2^60 generations, and nothing is taken yet
pub halves_none : (old left level n : ℕ) → left ≤ n → n ≤ most_generations → TakesHalves old old left level n
halves_none old left level n within few = record { runs = 0; halvings = most_halvings; few = omega arith; early = omega (arith, within); near = omega (arith, within, few); takes = λ d less. omega arith }

-- it's looked for in half of them, after a run more
halves_on : (old mid new left half level n runs halvings : ℕ) → runs + halvings ≤ most_halvings → runs + left ≤ n → left ≤ 2 ^ halvings → 1 < left → half + half ≤ left + 1 → Takes old mid runs level n → Takes mid new 1 level n → TakesHalves old new half level n
halves_on old mid new left half level n runs zero few early near some halved before now = absurd (omega (arith, near, some))
halves_on old mid new left half level n runs (suc halvings) few early near some halved before now = record {
  runs = runs + 1;
  halvings = halvings;
  few = omega (arith, few);
  early = omega (arith, early, some, halved);
  near = omega (arith, two-pow-succ halvings, near, halved);
  takes = takes_then old mid new (runs + 1) level n runs 1 (omega arith) before now;
}

pub takes_half : (old mid new left half level n m : ℕ) → 1 < left → half + half ≤ left + 1 → m ≤ n → TakesHalves old mid left level n → Takes mid new 1 level m → TakesHalves old new half level n
takes_half old mid new left half level n m some halved sooner before now =
    halves_on old mid new left half level n before.runs before.halvings before.few before.early before.near some halved before.takes (λ d less. now d (omega (arith, sooner, less)))

-- while some generation is left, no more runs are taken than that
pub halves_all : (old new left level n : ℕ) → 1 ≤ left → TakesHalves old new left level n → Takes old new (most_looks n) level n
halves_all old new left level n some takes = takes_fewer old new takes.runs (most_looks n) level n (let few = takes.few in let early = takes.early in omega (arith, few, early, some)) takes.takes

-- what is no more than a tree may need is no more than a larger one may
larger : (work : ℕ) (asks : Asks) (low level : ℕ) → low ≤ level → IsNoMoreThan work asks low → IsNoMoreThan work asks level
larger work asks low level more most d less =
    let runs = most_runs asks.forbidden asks.generations in
    let power = power_more (low + d + 2) (level + d + 2) (omega (arith, more)) in
    let all : runs * 14 ^ (low + d + 2) ≤ runs * 14 ^ (level + d + 2) = mul-le-mul_left runs power in
    let few = most d less in
    omega (arith, few, all)

-- no level that holds the cells of a trimmed tree is below its own
pub used_up : (nodes : List Node) (tree : Tree) (cells : Picture) (work : ℕ) (asks : Asks) → IsTrimmed nodes tree → ShowsTree nodes tree cells → IsNoMoreThan work asks tree.level → MayBeUsedUp work asks (cell cells)
used_up nodes tree cells work asks trimmed shows most level some holds =
    larger work asks tree.level level (trimmed_low nodes tree (cell cells) level some trimmed (λ x y. sym (shows x y)) holds) most

-- a claim takes one run at least
pub some_runs : (forbidden : Forbidden) (n : ℕ) → (forbidden ≢ Nothing → 1 ≤ n) → 1 ≤ most_runs forbidden n
some_runs Nothing n some = omega arith
some_runs InPlace n some = some (λ e. cc)
some_runs Anywhere n some = some (λ e. cc)
some_runs EmptyPlane n some = let least = some (λ e. cc) in omega (arith, least)

-- and where a return is forbidden, one and one for each earlier time
pub all_runs : (forbidden : Forbidden) (n : ℕ) → forbidden ≢ Nothing → forbidden ≢ EmptyPlane → (forbidden ≢ Nothing → 1 ≤ n) → 1 + (n - 1) ≤ most_runs forbidden n
all_runs Nothing n other lives some = absurd (other refl)
all_runs InPlace n other lives some = let least = some other in omega (arith, least)
all_runs Anywhere n other lives some = let least = some other in omega (arith, least)
all_runs EmptyPlane n other lives some = absurd (lives refl)

-- where a death is, one and those that look for it
pub death_runs : (n : ℕ) → 1 ≤ n → 1 + most_looks n ≤ most_runs EmptyPlane n
death_runs n some = omega (arith, some)
