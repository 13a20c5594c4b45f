use Rattle.std.proofs.Common.{◌≡◌, ◌-◌, ◌∷◌, [], ◌++◌, suc, Some, length, ap, sym, subst, ◌∙◌, arith}
use Rattle.std.specs.List.{slice_get}
use Rattle.ca_quad.specs.Prelude.{ShowsSquare}
use Rattle.ca_macro.specs.inner.Reading.{AreEmpties}
use Rattle.ca_macro.proofs.EmptySquares.{leaf_empty, join_empty, last_empty, empties_push}
use Rattle.ca_macro.proofs.read.empties.Empties.grow.Goals as goal
use Rattle.ca_macro.proofs.read.empties.Empties.grow.Goals.{in-Some+in_ok-id-in-Some, in-None+in_ok-id-in-None}

pub returns-clause-empties : goal.returns-clause-empties
returns-clause-empties c =
    let ids = c.args.self.now.ids.items in
    let old = c.args.store.now in
    elim c.match-last.branch [
      | in-Some+in_ok-id-in-Some w ↦
          let new = w.join.new.self in
          let at : slice_get ids (length ids - 1) ≡ Some w.in-Some.part.now = subst (λ xs. slice_get xs (length xs - 1) ≡ Some w.in-Some.part.now) c.deref.ensures.value (sym w.in-Some.ensures.value) in
          let part = last_empty old ids w.in-Some.part.now c.requires.empties at in
          let shows = join_empty old new w.in-Some.part.now w.in_ok-id-in-Some.id (length ids) part (w.in_ok-id-in-Some.ensures.shows (length ids) part.is_square) in
          let items = c.in_ok-push.ensures.items ∙ ap (λ s. s.ids.items ++ c.match-last.id ∷ []) w.self-is ∙ ap (λ i. ids ++ i ∷ []) w.id-is in
          subst (λ s. AreEmpties s c.push.new.self.items) (sym w.store-is)
          (empties_push old new c.requires.sound w.in_ok-id-in-Some.ensures.grows ids c.push.new.self.items w.in_ok-id-in-Some.id c.requires.empties items shows)
      | in-None+in_ok-id-in-None w ↦
          let new = w.leaf.new.self in
          let same = ap length c.deref.ensures.value in
          let least = w.in-None.ensures.item.3 in
          let none : length ids ≡ 0 = omega arith in
          let shows = leaf_empty new w.in_ok-id-in-None.id w.in_ok-id-in-None.ensures.shows in
          let items = c.in_ok-push.ensures.items ∙ ap (λ s. s.ids.items ++ c.match-last.id ∷ []) w.self-is ∙ ap (λ i. ids ++ i ∷ []) w.id-is in
          subst (λ s. AreEmpties s c.push.new.self.items) (sym w.store-is)
          (empties_push old new c.requires.sound w.in_ok-id-in-None.ensures.grows ids c.push.new.self.items w.in_ok-id-in-None.id c.requires.empties items
          (subst (λ n. ShowsSquare new w.in_ok-id-in-None.id (suc n) (λ x y. 0)) (sym none) shows))
    ]
