use Rattle.std.proofs.lemmas.Nat.{le_bytes_8}
use Rattle.ca_quad.proofs.EightRows.{rows_of_word, shows_rows}
use Rattle.ca_quad.proofs.store.Store.from_leaf8.Goals as goal

pub returns-clause-shows : goal.returns-clause-shows
returns-clause-shows c =
    let rows = c.args.rows.now in
    let word = c.from_le_bytes.result in
    let bytes = le_bytes_8 rows word c.told-rows c.fits-rows c.from_le_bytes.ensures in
    shows_rows c.from_word.new.self c.from_word.result rows word (rows_of_word rows word bytes c.from_le_bytes.type_inv) c.from_word.ensures.shows
