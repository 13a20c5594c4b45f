use Rattle.std.proofs.Common.{sym}
use Rattle.ca_quad.proofs.MoreStates.{more_states}
use Rattle.ca_quad.proofs.Words.{is_word}
use Rattle.ca_quad.proofs.store.Store.word.Goals as goal

pub returns-in_err-cells : goal.returns-in_err-cells
returns-in_err-cells c =
    rw c.from_residual.ensures (more_states c.args.self.now c.in_err-cells.ensures.sound c.args.id (record { before = c.requires.known; is_level = c.requires.level }) c.in_err-cells.ensures.number)

pub returns : goal.returns
returns c =
    is_word c.args.self.now c.in_ok-cells.ensures.sound c.in_ok-cells.cells c.rows.result c.rows.type_inv (λ x y h i. sym (c.rows.ensures x y h i)) c.args.id
    (record { before = c.requires.known; is_level = c.requires.level }) c.in_ok-cells.ensures.number
