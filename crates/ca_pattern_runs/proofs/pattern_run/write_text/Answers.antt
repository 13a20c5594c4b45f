use Rattle.std.proofs.Common.{◌≡◌, inr}
use Rattle.ca_pattern_runs.specs.Prelude.{IsFormFault}
use Rattle.ca_pattern_runs.proofs.OfFiles.{of_tables, convert_told, convert_not_write, told_only, no_table, table_told, text_written}
use Rattle.ca_pattern_runs.proofs.pattern_run.write_text.Goals as goal

-- the rule file is no good table
pub returns-in-Err : goal.returns-in-Err
returns-in-Err g c = no_table g.W.Write.contents _ _ _ _ c.table_fault.result (table_told _ c.in-Err.fault c.table_fault.result c.table_fault.ensures c.in-Err.ensures.fault)

-- the pattern is refused
pub returns-in-Err-form_text : goal.returns-in-Err-form_text
returns-in-Err-form_text g c =
    let fault = c.in-Err-form_text.fault in
    let told = c.convert_fault.result in
    let tables = c.table_slice.result.now in
    told_only g.W.Write.contents _ _ _ _ told (convert_not_write (λ f. f ≡ fault) told c.convert_fault.ensures)
    (inr (of_tables _ _ _ _ c.in-Ok.ensures.known c.table_slice.ensures
    (convert_told (IsFormFault c.args.form c.args.bytes.now tables) fault told c.convert_fault.ensures c.in-Err-form_text.ensures.fault)))

-- the text was written
pub returns : goal.returns
returns g c =
    text_written g.W.Write.contents c.args.output.now c.write.new.output _ _ _ _ _ c.write.result
    (of_tables _ _ _ _ c.in-Ok.ensures.known c.table_slice.ensures c.in-Ok-form_text.ensures.text) c.deref.ensures.value c.write.ensures.status c.write.ensures.sends
