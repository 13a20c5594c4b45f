use Rattle.std.proofs.Common.{◌≡◌, suc, ◌-◌, [], ◌∷◌, ◌++◌, if◌then◌else◌, refl, ap, subst, ◌∙◌, arith}
use Rattle.ca_quad.proofs.Growth.{grows_on}
use Rattle.ca_macro.specs.declared.fault.MacroFault.TheVariants.{Memory}
use Rattle.ca_macro.specs.Prelude.{Parts, node_picture, squares_of}
use Rattle.ca_macro.specs.inner.Reading.{Draws}
use Rattle.ca_macro.proofs.KeptSquares.{with_square, empties_stay, parts_four, parts_joined, parts_follow}
use Rattle.ca_macro.proofs.Saying.{passed_on, bad_parts}
use Rattle.ca_macro.proofs.read.squares.Squares.add_parts.Goals as goal

pub returns-in_err-parts-clause-fault : goal.returns-in_err-parts-clause-fault
returns-in_err-parts-clause-fault c =
    passed_on _ c.in_err-parts.field-0.0 _ c.from_residual.ensures.1 (λ nodes nw ne sw se h keeps.
    bad_parts c.in_err-parts.field-0.0 nodes c.args.numbers.level nw ne sw se (c.in_err-parts.ensures.fault c.args.store.now nodes nw ne sw se h keeps))

pub returns-in_err-empty-clause-fault : goal.returns-in_err-empty-clause-fault
returns-in_err-empty-clause-fault c =
    passed_on _ Memory _ c.from_residual-in_err-empty.ensures.1
    (λ nodes nw ne sw se h keeps. parts_follow c.args.store.now nodes _ nw ne sw se _ _ _ _ c.requires.level (c.in_ok-parts.ensures.parts c.args.store.now nodes nw ne sw se h keeps))

pub join-requires : goal.join-requires
join-requires c =
    let old = c.args.store.now in
    let low = c.args.numbers.level - 1 in
    let parts = c.in_ok-parts.parts in
    let at = c.requires.squares in
    let are = c.in_ok-parts.ensures.parts old at.0 at.1 at.2 at.3 at.4 at.5 at.6 in
    let most = c.requires.level.1 in (
      low,
      parts_four old c.square.new.store at.5.sound c.square.ensures.grows at.0 low c.in_ok-empty.empty c.in_ok-empty.ensures.shows at.1 at.2 at.3 at.4
          parts.nw parts.ne parts.sw parts.se c.unwrap_or.result c.unwrap_or-2.result c.unwrap_or-3.result c.unwrap_or-4.result
          c.unwrap_or.ensures c.unwrap_or-2.ensures c.unwrap_or-3.ensures c.unwrap_or-4.ensures are.0 are.1 are.2 are.3 (omega arith),
    )

pub returns-in_err-root-clause-fault : goal.returns-in_err-root-clause-fault
returns-in_err-root-clause-fault c =
    passed_on _ Memory _ c.from_residual-in_err-root.ensures.1
    (λ nodes nw ne sw se h keeps. parts_follow c.args.store.now nodes _ nw ne sw se _ _ _ _ c.requires.level (c.in_ok-parts.ensures.parts c.args.store.now nodes nw ne sw se h keeps))

pub returns-then-is_err-clause-fault : goal.returns-then-is_err-clause-fault
returns-then-is_err-clause-fault c = λ nodes nw ne sw se h keeps.
    parts_follow c.args.store.now nodes _ nw ne sw se _ _ _ _ c.requires.level (c.in_ok-parts.ensures.parts c.args.store.now nodes nw ne sw se h keeps)

pub returns-then-is_err-clause-grows : goal.returns-then-is_err-clause-grows
returns-then-is_err-clause-grows c = grows_on c.args.store.now c.square.new.store c.join.new.self c.square.ensures.grows c.join.ensures.grows

pub returns-clause-added : goal.returns-clause-added
returns-clause-added c = λ nodes nw ne sw se h keeps.
    let old = c.args.store.now in
    let mid = c.square.new.store in
    let new = c.join.new.self in
    let low = c.args.numbers.level - 1 in
    let id = c.in_ok-root.root in
    let parts = c.in_ok-parts.parts in
    let are = c.in_ok-parts.ensures.parts old nodes nw ne sw se h keeps in
    let least = c.requires.level.0 in
    let most = c.requires.level.1 in
    let next : suc low ≡ c.args.numbers.level = omega arith in
    let node = Parts c.args.numbers.level nw ne sw se in
    let four = parts_four old mid h.sound c.square.ensures.grows nodes low c.in_ok-empty.empty c.in_ok-empty.ensures.shows nw ne sw se
    parts.nw parts.ne parts.sw parts.se c.unwrap_or.result c.unwrap_or-2.result c.unwrap_or-3.result c.unwrap_or-4.result
    c.unwrap_or.ensures c.unwrap_or-2.ensures c.unwrap_or-3.ensures c.unwrap_or-4.ensures are.0 are.1 are.2 are.3 (omega arith)
    in
    let draws : Draws new (record { root = id; level = c.args.numbers.level }) (node_picture (squares_of nodes) node) =
    subst (λ l. Draws new (record { root = id; level = l }) (node_picture (squares_of nodes) node)) next
    (parts_joined old mid h.sound c.square.ensures.grows nodes low c.in_ok-empty.empty c.in_ok-empty.ensures.shows nw ne sw se
    parts.nw parts.ne parts.sw parts.se c.unwrap_or.result c.unwrap_or-2.result c.unwrap_or-3.result c.unwrap_or-4.result
    c.unwrap_or.ensures c.unwrap_or-2.ensures c.unwrap_or-3.ensures c.unwrap_or-4.ensures are.0 are.1 are.2 are.3 new id (c.in_ok-root.ensures.shows low four.is_nw))
    in
    let before = c.args.self.now.squares.items in
    let items = c.push.ensures.items ∙ ap (λ b. if b then before ++ record { root = id; level = c.args.numbers.level } ∷ [] else before) c.if-is_err.ensures.negation in (
      parts_follow old nodes _ nw ne sw se _ _ _ _ c.requires.level are,
      with_square old new (grows_on old mid new c.square.ensures.grows c.join.ensures.grows) nodes c.args.self.now (record { squares = c.push.new.self; empties = c.square.new.self }) node (record { root = id; level = c.args.numbers.level }) h
          items (empties_stay mid new c.square.ensures.grows.sound c.join.ensures.grows c.square.new.self.ids.items c.in_ok-empty.ensures.empties) refl draws,
    )

pub returns-clause-grows : goal.returns-clause-grows
returns-clause-grows c = grows_on c.args.store.now c.square.new.store c.join.new.self c.square.ensures.grows c.join.ensures.grows
