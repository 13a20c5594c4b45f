use Rattle.std.proofs.Common.{rules, ◌≡◌, ◌+◌, [], ◌∷◌, ◌++◌, if◌then◌else◌, refl, ap, ◌∙◌}
use Rattle.std.specs.List.{flat_map}
use Rattle.std.proofs.lemmas.Option.{slice_get-get_or}
use Rattle.ca_identify_lines.specs.Prelude.{entry_lines}
use Rattle.ca_identify_runs.proofs.Entries.{entries_next, lines_next, lines_in_part, entry_within}
use Rattle.ca_identify_runs.proofs.identification_run.write_entries.Goals as goal

pub put_entry-requires : goal.put_entry-requires
put_entry-requires g c =
    let sought = c.args.search.now in
    entry_within sought.tables.now sought.task _ _ c.in-Ok.entry c.requires.few c.requires.most c.in-Ok.ensures.entry

-- the lines on one file more were written in part
pub returns-then-is_err-3-clause-ends : goal.returns-then-is_err-3-clause-ends
returns-then-is_err-3-clause-ends g c =
    let subjects = c.args.subjects.now in
    let old = c.subjects.entries.items in
    let entry = c.in-Ok.entry in
    let pushed = c.push.ensures.items ∙ ap (λ b. if b then old ++ entry ∷ [] else old) c.if-is_err-2.ensures.negation in
    let at = slice_get-get_or subjects c.subjects.subject-index _ c.subjects-test.true in
    let sought = c.args.search.now in
    let put : c.put_entry.new.out.items ≡ entry_lines sought.task.generations entry = search rules in
    let next = entries_next sought.tables.now sought.task subjects c.subjects.subject-index _ old c.push.new.self.items entry c.subjects.names c.entry_of.new.names
    c.subjects.invariant.names c.subjects.invariant.holds at c.in-Ok.ensures.entry c.in-Ok.ensures.names pushed in
    record {
      count = c.subjects.subject-index + 1;
      told = c.push.new.self.items;
      text = flat_map (entry_lines sought.task.generations) c.push.new.self.items;
      is = record { holds = next.1; lines = refl };
      front = lines_in_part sought.task.generations _ _ _ old _ entry c.deref.result.now c.subjects.invariant.sent (c.deref.ensures.value ∙ put) pushed (search rules);
      counted = search rules;
    }

-- or whole
pub subjects-preserved : goal.subjects-preserved
subjects-preserved g c =
    let subjects = c.args.subjects.now in
    let old = c.subjects.entries.items in
    let entry = c.in-Ok.entry in
    let pushed = c.push.ensures.items ∙ ap (λ b. if b then old ++ entry ∷ [] else old) c.if-is_err-2.ensures.negation in
    let at = slice_get-get_or subjects c.subjects.subject-index _ c.subjects-test.true in
    let sought = c.args.search.now in
    let put : c.put_entry.new.out.items ≡ entry_lines sought.task.generations entry = search rules in
    let next = entries_next sought.tables.now sought.task subjects c.subjects.subject-index _ old c.push.new.self.items entry c.subjects.names c.entry_of.new.names
    c.subjects.invariant.names c.subjects.invariant.holds at c.in-Ok.ensures.entry c.in-Ok.ensures.names pushed in
    record {
      names = next.0;
      holds = next.1;
      sent = lines_next sought.task.generations _ _ _ old _ entry c.deref.result.now c.subjects.invariant.sent (c.deref.ensures.value ∙ put) pushed (search rules);
      kept = search rules;
    }
