use Rattle.std.proofs.Common.{◌≡◌, ◌==◌, true, false, ◌++◌, sym, ap, ◌∙◌, arith}
use Rattle.std.proofs.lemmas.List.{append-nil}
use Rattle.std.proofs.lemmas.Bool.Decides.{nat_tests}
use Rattle.std.specs.Prelude.{slice_index}
use Rattle.ca_plane.specs.Prelude.{text_of}
use Rattle.ca_rule_files.proofs.TransitionLines.{no-lines, one-more, none-more}
use Rattle.ca_rule_files.proofs.writing.push_transitions.Goals as goal
use Rattle.ca_rule_files.proofs.writing.push_transitions.Goals.{then-next-nine+in_ok-push_transition, else-next-nine}

pub numbers-init : goal.numbers-init
numbers-init g c = record { whole = sym (append-nil c.args.out.now.items) ∙ ap (λ ls. c.args.out.now.items ++ text_of ls) (sym (no-lines c.args.variables (g.A.Automaton.next_of c.args.rule.now))) }

pub numbers-preserved : goal.numbers-preserved
numbers-preserved g c =
    let next = g.A.Automaton.next_of c.args.rule.now in
    elim c.if-next-nine.branch [
      | then-next-nine+in_ok-push_transition w ↦
          let differs : (c.next-next.result == slice_index c.neighbourhood-nine.result 4) ≡ false = let t = w.if-next-nine.true in grind (arith, nat_tests) in
          rw w.out-is (one-more c.args.variables next c.numbers.number c.args.out.now.items c.numbers.out.items c.numbers.invariant w.push_transition.new.out.items c.neighbourhood-nine.result c.next-next.result c.neighbourhood-nine.ensures c.next-next.ensures differs w.in_ok-push_transition.ensures)
      | else-next-nine w ↦
          let stays : (c.next-next.result == slice_index c.neighbourhood-nine.result 4) ≡ true = let t = w.if-next-nine.false in grind (arith, nat_tests) in
          rw w.out-is (none-more c.args.variables next c.numbers.number c.args.out.now.items c.numbers.out.items c.numbers.invariant c.neighbourhood-nine.result c.next-next.result c.neighbourhood-nine.ensures c.next-next.ensures stays)
    ]
