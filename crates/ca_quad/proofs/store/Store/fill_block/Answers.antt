use Rattle.std.proofs.Common.{ℕ, ◌≤◌, ◌^◌, arith}
use Rattle.std.proofs.Math.Nat.{pow-le-pow_right}
use Rattle.ca_plane.specs.Prelude.{cell}
use Rattle.ca_quad.specs.inner.Block.{block_cells}
use Rattle.ca_quad.specs.inner.Filled.{cells_from}
use Rattle.ca_quad.proofs.Windows.{window_as}
use Rattle.ca_quad.proofs.store.Store.fill_block.Goals as goal

-- a square of at most this level has at most 32 cells a side
low : (level : ℕ) → level ≤ 5 → 2 ^ level ≤ 32
low level h = pow-le-pow_right {n = 2} (omega arith) {i = level} {j = 5} h

pub gather-requires-clause-x : goal.gather-requires-clause-x
gather-requires-clause-x c = omega (arith, low c.args.level c.requires.most)

pub gather-requires-clause-y : goal.gather-requires-clause-y
gather-requires-clause-y c = omega (arith, low c.args.level c.requires.most)

pub returns-clause-shows : goal.returns-clause-shows
returns-clause-shows c =
    let level = c.args.level in
    window_as c.gather.new.self c.gather.result level (block_cells c.block_states-states.result) (cells_from (cell c.args.cells.now) c.args.at)
    (c.block_states-states.ensures (2 ^ level) (low level c.requires.most) c.requires.rows.cover) c.gather.ensures.shows
