use Rattle.std.proofs.Common.{subst}
use Rattle.std.specs.List.{flat_map}
use Rattle.ca_plane.specs.Prelude.{words_of}
use Rattle.ca_macro.specs.declared.fault.MacroFault.TheVariants.{Memory}
use Rattle.ca_macro.specs.declared.line.Line.TheVariants as line
use Rattle.ca_macro.specs.Prelude.{Leaf, Cells, Parts, Adds, added_nodes}
use Rattle.ca_macro.specs.inner.Comments.{said_of}
use Rattle.ca_macro.specs.inner.Lines.{ReadsLines}
use Rattle.ca_macro.proofs.Saying.{passed_on, faulty_line, comment_allowed, node_said, parts_fault, parts_ok, parts_err}
use Rattle.ca_macro.proofs.read.reading.Reading.read.Goals as goal

pub returns-in_err-comment-clause-fault : goal.returns-in_err-comment-clause-fault
returns-in_err-comment-clause-fault c =
    passed_on _ c.in_err-comment.field-0.0 _ c.from_residual.ensures.1 (λ said read.
    faulty_line c.in_err-comment.field-0.0 (flat_map added_nodes said) (words_of c.args.line.now) (c.in_err-comment.ensures.fault (flat_map added_nodes said)))

pub returns-in_err-add_leaf-in-Leaf-clause-fault : goal.returns-in_err-add_leaf-in-Leaf-clause-fault
returns-in_err-add_leaf-in-Leaf-clause-fault c =
    let says : ReadsLines (words_of c.args.line.now) (line.Leaf c.in-Leaf.rows) = subst (ReadsLines (words_of c.args.line.now)) c.in-Leaf.is c.in_ok-comment.ensures.read in
    passed_on _ Memory _ c.from_residual-in_err-add_leaf-in-Leaf.ensures.1 (λ said read. (Leaf says.0, says.1, tt))

pub returns-in_err-add_cells-in-Cells-clause-fault : goal.returns-in_err-add_cells-in-Cells-clause-fault
returns-in_err-add_cells-in-Cells-clause-fault c =
    let says : ReadsLines (words_of c.args.line.now) (line.Cells c.in-Cells.states) = subst (ReadsLines (words_of c.args.line.now)) c.in-Cells.is c.in_ok-comment.ensures.read in
    passed_on _ Memory _ c.from_residual-in_err-add_cells-in-Cells.ensures.1 (λ said read. (Cells says.0 says.1 says.2 says.3, says.4, says.5))

pub returns-in-Comment-clause-said : goal.returns-in-Comment-clause-said
returns-in-Comment-clause-said c = λ said read.
    let says : ReadsLines (words_of c.args.line.now) (line.Comment c.in-Comment.comment) = subst (ReadsLines (words_of c.args.line.now)) c.in-Comment.is c.in_ok-comment.ensures.read in
    (said_of c.in-Comment.comment, says, comment_allowed (flat_map added_nodes said) c.in-Comment.comment, c.comment.ensures c.args.store.now said c.args.line.now c.requires.line says read)

pub returns-in_ok-add_leaf-in-Leaf-clause-said : goal.returns-in_ok-add_leaf-in-Leaf-clause-said
returns-in_ok-add_leaf-in-Leaf-clause-said c = λ said read.
    let says : ReadsLines (words_of c.args.line.now) (line.Leaf c.in-Leaf.rows) = subst (ReadsLines (words_of c.args.line.now)) c.in-Leaf.is c.in_ok-comment.ensures.read in (
      Adds (Leaf says.0),
      says.1,
      tt,
      node_said c.args.store.now c.add_leaf.new.store said c.args.self.now c.add_leaf.new.self (Leaf says.0) read
          (c.in_ok-add_leaf-in-Leaf.ensures.added (flat_map added_nodes said) says.0 read.squares says.2 says.1.2.height),
    )

pub returns-in_ok-add_cells-in-Cells-clause-said : goal.returns-in_ok-add_cells-in-Cells-clause-said
returns-in_ok-add_cells-in-Cells-clause-said c = λ said read.
    let says : ReadsLines (words_of c.args.line.now) (line.Cells c.in-Cells.states) = subst (ReadsLines (words_of c.args.line.now)) c.in-Cells.is c.in_ok-comment.ensures.read in (
      Adds (Cells says.0 says.1 says.2 says.3),
      says.4,
      says.5,
      node_said c.args.store.now c.add_cells.new.store said c.args.self.now c.add_cells.new.self (Cells says.0 says.1 says.2 says.3) read
          (c.in_ok-add_cells-in-Cells.ensures.added (flat_map added_nodes said) says.0 says.1 says.2 says.3 read.squares says.6 says.5),
    )

pub returns-in-Parts-clause-said : goal.returns-in-Parts-clause-said
returns-in-Parts-clause-said c =
    let says : ReadsLines (words_of c.args.line.now) (line.Parts c.in-Parts.numbers) = subst (ReadsLines (words_of c.args.line.now)) c.in-Parts.is c.in_ok-comment.ensures.read in
    let node = Parts c.in-Parts.numbers.level says.0 says.1 says.2 says.3 in
    parts_ok c.add_parts.result _ _ (λ all said read.
    let added_node = all (flat_map added_nodes said) says.0 says.1 says.2 says.3 read.squares (record { is_nw = says.6; is_ne = says.7; is_sw = says.8; is_se = says.9 }) in
    (Adds node, says.4, added_node.0, node_said c.args.store.now c.add_parts.new.store said c.args.self.now c.add_parts.new.self node read added_node.1)) c.add_parts.ensures.added

pub returns-in-Parts-clause-fault : goal.returns-in-Parts-clause-fault
returns-in-Parts-clause-fault c =
    let words = words_of c.args.line.now in
    let says : ReadsLines words (line.Parts c.in-Parts.numbers) = subst (ReadsLines words) c.in-Parts.is c.in_ok-comment.ensures.read in
    parts_err c.add_parts.result _ _ (λ f all said read.
    parts_fault f (flat_map added_nodes said) words c.in-Parts.numbers.level says.0 says.1 says.2 says.3 says.4 says.5
    (all (flat_map added_nodes said) says.0 says.1 says.2 says.3 read.squares (record { is_nw = says.6; is_ne = says.7; is_sw = says.8; is_se = says.9 }))) c.add_parts.ensures.fault
