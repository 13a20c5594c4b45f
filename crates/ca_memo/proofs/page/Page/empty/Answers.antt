use Rattle.std.proofs.Common.{◌≡◌, ℕ, zero, suc, slice_get, Some, None}
use Rattle.std.specs.Prelude.{replicate}
use Rattle.ca_memo.proofs.page.Page.empty.Goals as goal

-- no slot of a page without results has one
no_slot : (n i result_id : ℕ) → slice_get (replicate n None) i ≡ Some (Some result_id) → ⊥
no_slot zero zero result_id e = let no : ⊥ = cc in no
no_slot zero (suc i) result_id e = let no : ⊥ = cc in no
no_slot (suc n) zero result_id e = let no : ⊥ = cc in no
no_slot (suc n) (suc i) result_id e = no_slot n i result_id e

pub returns : goal.returns
returns c = λ i result_id e. no_slot 64 i result_id e
