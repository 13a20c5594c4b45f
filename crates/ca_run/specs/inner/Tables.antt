-- The tables of a leaper, and what they remember as one list (our own).
use Rattle.std.specs.Prelude.{ℕ, zero, suc, ◌+◌, ◌*◌, ◌≤◌, List, [], ◌∷◌, ◌++◌, length, Option, Some, None, IfSome}
use Rattle.std.specs.List.{filter_map}
use Rattle.ca_quad.specs.declared.node.Node.{Node}
use Rattle.ca_quad.specs.Prelude.{IsSoundStore}
use Rattle.ca_memo.specs.declared.{key.Key.Key, page.Page.Page}
use Rattle.ca_memo.specs.declared.key.Key.TheVariants.{Page as OfPage, Single}
use Rattle.ca_bricks.specs.Prelude.{GoesByCells}
use Rattle.ca_bricks.specs.declared.cell_rule.CellRule.{CellRule}
use Rattle.ca_run.specs.Memo.{LeapResult, FullLeap, Centre, LeapOfFour, Remembers}
use Rattle.ca_memo.specs.Prelude.{MemoView, IsBoundedMemo, SlotsView}

-- the results in the first `room` slots, of squares from `square` onwards
abbrev pub slot_results : ℕ → ℕ → List (Option ℕ) → List LeapResult
slot_results zero square slots = []
slot_results (suc room) square [] = []
slot_results (suc room) square (None ∷ slots) = slot_results room (suc square) slots
slot_results (suc room) square (Some centre ∷ slots) = FullLeap square centre ∷ slot_results room (suc square) slots

-- the results in pages, from the page of a number onwards
abbrev pub page_results : ℕ → List (Option Page) → List LeapResult
page_results number [] = []
page_results number (None ∷ pages) = page_results (suc number) pages
page_results number (Some page ∷ pages) = slot_results 64 (64 * number) page.slots ++ page_results (suc number) pages

-- the result of an entry of the memo, if it has one of its own
abbrev pub single_result : Key × Option ℕ → Option LeapResult
single_result (OfPage number, centre) = None
single_result (Single square j, None) = None
single_result (Single square j, Some centre) = Some (Centre square j centre)

-- the result in a slot of the table by squares and times
abbrev pub centre_result : Option ((ℕ × ℕ) × ℕ) → Option LeapResult
centre_result None = None
centre_result (Some ((square, j), centre)) = Some (Centre square j centre)

-- the result in a slot of the table by four squares
abbrev pub leap_result : Option ((ℕ × ℕ × ℕ × ℕ) × ℕ) → Option LeapResult
leap_result None = None
leap_result (Some ((nw, ne, sw, se), middle)) = Some (LeapOfFour nw ne sw se middle)

-- all that the memo and the two tables remember
abbrev pub results_of : MemoView → SlotsView (ℕ × ℕ) → SlotsView (ℕ × ℕ × ℕ × ℕ) → List LeapResult
results_of memo centres leaps =
    page_results 0 memo.pages
    ++ (filter_map single_result memo.order.entries
    ++ (filter_map centre_result centres.slots ++ filter_map leap_result leaps.slots))

-- the entries of the memo and the slots of the two tables are together no more than may be
pub record AreBounded (memo : MemoView) (centres : SlotsView (ℕ × ℕ)) (leaps : SlotsView (ℕ × ℕ × ℕ × ℕ)) (capacity : ℕ) : Type 0 where
  pub within : memo.order.cap + (centres.most + leaps.most) ≤ capacity
  pub entries : IsBoundedMemo memo.pages memo.order
  pub few_centres : length centres.slots ≤ centres.most
  pub few_leaps : length leaps.slots ≤ leaps.most

-- the rule and the squares are sound, the results that are remembered are true and no more than may be, and cells
-- go on so, many at once, if that is known
pub record IsLeaper (next : List ℕ → ℕ) (RuleIsSound : Type 0) (nodes : List Node) (memo : MemoView)
    (centres : SlotsView (ℕ × ℕ)) (leaps : SlotsView (ℕ × ℕ × ℕ × ℕ)) (capacity : ℕ)
    (cell_rule : Option CellRule) : Type 0 where
  pub rule : RuleIsSound
  pub squares : IsSoundStore nodes
  pub remembers : Remembers next nodes (results_of memo centres leaps) capacity
  pub bounded : AreBounded memo centres leaps capacity
  pub by_cells : IfSome cell_rule (GoesByCells next)
