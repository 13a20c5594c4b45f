use Rattle.std.proofs.Common.{◌<◌, false, All, ◌++◌, sym, ap, subst, ◌∙◌}
use Rattle.ca_plane.specs.Prelude.{text_of}
use Rattle.ca_rule_files.specs.WrittenTables.{head_lines, transition_lines}
use Rattle.ca_rule_files.proofs.WrittenFiles.{IsOfTwoStates, writes-two}
use Rattle.ca_rule_files.proofs.writing.table_file.Goals as goal

pub returns-clause-bytes : goal.returns-clause-bytes
returns-clause-bytes g c =
    let next = g.A.Automaton.next_of c.args.rule.now in
    c.in_ok-push_transitions.ensures.whole ∙ ap (λ l. l ++ text_of (transition_lines false next 512)) (c.in_ok-push_head.ensures.whole ∙ ap (λ l. l ++ text_of (head_lines c.args.name.now 2)) c.new-out.ensures.items)

pub returns-clause-written : goal.returns-clause-written
returns-clause-written g c =
    let rule = c.args.rule.now in
    let next = g.A.Automaton.next_of rule in
    let sound = c.states-states.ensures.sound in
    let two : IsOfTwoStates next = record {
      closed = λ nine long bits. subst (λ k. next nine < k) c.requires.two (g.met.A.Automaton.closed rule nine sound long (subst (λ k. All (λ s. s < k) nine) (sym c.requires.two) bits));
      quiet = g.met.A.Automaton.quiet rule sound;
    } in
    writes-two next two c.args.name.now c.push_transitions.new.out.items c.requires.named
    (c.in_ok-push_transitions.ensures.whole ∙ ap (λ l. l ++ text_of (transition_lines false next 512)) (c.in_ok-push_head.ensures.whole ∙ ap (λ l. l ++ text_of (head_lines c.args.name.now 2)) c.new-out.ensures.items))
