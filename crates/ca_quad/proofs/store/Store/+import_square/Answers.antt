use Rattle.std.proofs.Common.{ℕ, inl, refl, rules, sym, subst}
use Rattle.ca_quad.specs.Prelude.{IsParted, square_of, IsSoundStore, Grows, IsPartOf, IsCopy, AddsCopies}
use Rattle.ca_quad.proofs.CopiedSquares.{copies_stay, still_copies, parts_four, parts_copied}
use Rattle.ca_quad.proofs.AddedSquares.{none_added, added_on, added_in_part, ok_added, one_added, added_two, added_three, added_four}
use Rattle.ca_quad.proofs.FilledSquares.{grows_five}
use Rattle.ca_quad.proofs.KnownSquares.{four_unparted, so_on_ok, put_known, put_keeps, walk_closed}
use Rattle.ca_quad.proofs.Measures.{one_more}
use Rattle.ca_quad.proofs.store.Store.+import_square.Goals as goal
use Rattle.ca_quad.proofs.store.Store.+import_square.Goals.{After-import_square-in-Parts-3, In_ok-copy-in-Parts}

pub returns-in-Some-clause-copy : goal.returns-in-Some-clause-copy
returns-in-Some-clause-copy t c = c.requires.copies c.args.id c.in-Some.copy (sym c.in-Some.ensures)

pub returns-in-Four-clause-copies : goal.returns-in-Four-clause-copies
returns-in-Four-clause-copies t c = still_copies c.args.from.now c.args.self.now c.leaf.new.self c.leaf.result (subst IsSoundStore c.self.view_is c.self.invariant) c.leaf.ensures.grows c.args.copies.now c.requires.copies

pub join-requires : goal.join-requires
join-requires t c = (
  _,
  parts_four c.args.from.now c.import_square.new.self c.import_square-in-Parts.new.self c.import_square-in-Parts-2.new.self c.import_square-in-Parts-3.new.self c.import_square.ensures.grows.sound c.import_square-in-Parts.ensures.grows c.import_square-in-Parts-2.ensures.grows c.import_square-in-Parts-3.ensures.grows
      c.args.id c.in-Parts.field-0 c.in-Parts.nw c.in-Parts.ne c.in-Parts.sw c.in-Parts.se c.requires.known c.in-Parts.ensures.shows c.in-Parts.ensures.whole
      c.in_ok-nw-in-Parts.nw c.in_ok-ne-in-Parts.ne c.in_ok-sw-in-Parts.sw c.in_ok-se-in-Parts.se c.in_ok-nw-in-Parts.ensures.copy c.in_ok-ne-in-Parts.ensures.copy c.in_ok-sw-in-Parts.ensures.copy c.in_ok-se-in-Parts.ensures.copy,
)

-- what the copies of the four parts add
four_added : (t : ℕ) (c : After-import_square-in-Parts-3 t) → AddsCopies c.args.from.now c.args.id c.args.self.now c.import_square-in-Parts-3.new.self
four_added t c =
    added_four c.args.from.now c.args.id c.in-Parts.field-0 c.in-Parts.nw c.in-Parts.ne c.in-Parts.sw c.in-Parts.se c.in-Parts.ensures.shows
    c.args.self.now c.import_square.new.self c.import_square-in-Parts.new.self c.import_square.ensures.grows c.import_square-in-Parts.ensures.grows c.import_square.ensures.added c.import_square-in-Parts.ensures.added
    c.import_square-in-Parts-2.new.self c.import_square-in-Parts-3.new.self c.import_square-in-Parts-2.ensures.grows c.import_square-in-Parts-3.ensures.grows c.import_square-in-Parts-2.ensures.added c.import_square-in-Parts-3.ensures.added

-- and what their square is and adds
module _ (t : ℕ) (c : In_ok-copy-in-Parts t) where
  copied : IsCopy c.args.from.now c.join.new.self c.args.id c.in_ok-copy-in-Parts.copy
  copied =
      parts_copied c.args.from.now c.import_square.new.self c.import_square-in-Parts.new.self c.import_square-in-Parts-2.new.self c.import_square-in-Parts-3.new.self c.import_square.ensures.grows.sound c.import_square-in-Parts.ensures.grows c.import_square-in-Parts-2.ensures.grows c.import_square-in-Parts-3.ensures.grows
      c.args.id c.in-Parts.field-0 c.in-Parts.nw c.in-Parts.ne c.in-Parts.sw c.in-Parts.se c.requires.known c.in-Parts.ensures.shows c.in-Parts.ensures.whole
      c.in_ok-nw-in-Parts.nw c.in_ok-ne-in-Parts.ne c.in_ok-sw-in-Parts.sw c.in_ok-se-in-Parts.se c.in_ok-nw-in-Parts.ensures.copy c.in_ok-ne-in-Parts.ensures.copy c.in_ok-sw-in-Parts.ensures.copy c.in_ok-se-in-Parts.ensures.copy
      c.join.new.self c.in_ok-copy-in-Parts.copy c.in_ok-copy-in-Parts.ensures.shows

  square_added : AddsCopies c.args.from.now c.args.id c.import_square-in-Parts-3.new.self c.join.new.self
  square_added = ok_added c.args.from.now c.args.id c.import_square-in-Parts-3.new.self c.join.new.self c.in_ok-copy-in-Parts.copy c.in_ok-copy-in-Parts.ensures.added copied

  all_grow : Grows c.args.self.now c.join.new.self
  all_grow =
      grows_five c.args.self.now c.import_square.new.self c.import_square-in-Parts.new.self c.import_square-in-Parts-2.new.self c.import_square.ensures.grows c.import_square-in-Parts.ensures.grows c.import_square-in-Parts-2.ensures.grows
      c.import_square-in-Parts-3.new.self c.join.new.self c.import_square-in-Parts-3.ensures.grows c.join.ensures.grows

pub returns-in_ok-put-in-Parts-clause-copy : goal.returns-in_ok-put-in-Parts-clause-copy
returns-in_ok-put-in-Parts-clause-copy t c = copied t (goal.at.returns-in_ok-put-in-Parts-clause-copy t c).In_ok-copy-in-Parts

pub returns-in_ok-put-in-Parts-clause-copies : goal.returns-in_ok-put-in-Parts-clause-copies
returns-in_ok-put-in-Parts-clause-copies t c =
    let olds = c.import_square-in-Parts-3.new.copies in
    one_more (IsCopy c.args.from.now c.join.new.self) olds c.put.new.self c.args.id c.in_ok-copy-in-Parts.copy
    (copies_stay c.args.from.now c.import_square-in-Parts-3.new.self c.join.new.self c.import_square-in-Parts-3.ensures.grows.sound c.join.ensures.grows olds c.in_ok-se-in-Parts.ensures.copies)
    (copied t (goal.at.returns-in_ok-put-in-Parts-clause-copies t c).In_ok-copy-in-Parts) c.in_ok-put-in-Parts.ensures.ok

pub returns-in_ok-put-in-Parts-clause-grows : goal.returns-in_ok-put-in-Parts-clause-grows
returns-in_ok-put-in-Parts-clause-grows t c = all_grow t (goal.at.returns-in_ok-put-in-Parts-clause-grows t c).In_ok-copy-in-Parts

pub returns-in_err-put-in-Parts-clause-grows : goal.returns-in_err-put-in-Parts-clause-grows
returns-in_err-put-in-Parts-clause-grows t c = all_grow t (goal.at.returns-in_err-put-in-Parts-clause-grows t c).In_ok-copy-in-Parts

pub returns-in-Four-clause-copy : goal.returns-in-Four-clause-copy
returns-in-Four-clause-copy t c = search rules

pub returns-in-Four-clause-added : goal.returns-in-Four-clause-added
returns-in-Four-clause-added t c =
    one_added c.args.from.now c.args.id c.args.self.now c.leaf.new.self c.leaf.result c.leaf.ensures.added (returns-in-Four-clause-copy t c) c.leaf.ensures.err

pub returns-in_err-nw-in-Parts-clause-added : goal.returns-in_err-nw-in-Parts-clause-added
returns-in_err-nw-in-Parts-clause-added t c =
    added_in_part c.args.from.now c.args.id c.in-Parts.nw c.args.self.now c.import_square.new.self (subst (λ s. IsPartOf s c.in-Parts.nw) c.in-Parts.ensures.shows (inl refl)) c.import_square.ensures.added

pub returns-in_err-ne-in-Parts-clause-added : goal.returns-in_err-ne-in-Parts-clause-added
returns-in_err-ne-in-Parts-clause-added t c =
    added_two c.args.from.now c.args.id c.in-Parts.field-0 c.in-Parts.nw c.in-Parts.ne c.in-Parts.sw c.in-Parts.se c.in-Parts.ensures.shows
    c.args.self.now c.import_square.new.self c.import_square-in-Parts.new.self c.import_square.ensures.grows c.import_square-in-Parts.ensures.grows c.import_square.ensures.added c.import_square-in-Parts.ensures.added

pub returns-in_err-sw-in-Parts-clause-added : goal.returns-in_err-sw-in-Parts-clause-added
returns-in_err-sw-in-Parts-clause-added t c =
    added_three c.args.from.now c.args.id c.in-Parts.field-0 c.in-Parts.nw c.in-Parts.ne c.in-Parts.sw c.in-Parts.se c.in-Parts.ensures.shows
    c.args.self.now c.import_square.new.self c.import_square-in-Parts.new.self c.import_square.ensures.grows c.import_square-in-Parts.ensures.grows c.import_square.ensures.added c.import_square-in-Parts.ensures.added
    c.import_square-in-Parts-2.new.self c.import_square-in-Parts-2.ensures.grows c.import_square-in-Parts-2.ensures.added

pub returns-in_err-se-in-Parts-clause-added : goal.returns-in_err-se-in-Parts-clause-added
returns-in_err-se-in-Parts-clause-added t c = four_added t (goal.at.returns-in_err-se-in-Parts-clause-added t c).After-import_square-in-Parts-3

pub returns-in_err-copy-in-Parts-clause-added : goal.returns-in_err-copy-in-Parts-clause-added
returns-in_err-copy-in-Parts-clause-added t c =
    let a = goal.at.returns-in_err-copy-in-Parts-clause-added t c in
    added_on c.args.from.now c.args.id c.args.self.now c.import_square-in-Parts-3.new.self c.join.new.self c.import_square-in-Parts-3.ensures.grows.sound c.join.ensures.grows
    (four_added t a.After-import_square-in-Parts-3) (none_added c.args.from.now c.args.id c.import_square-in-Parts-3.new.self c.join.new.self c.in_err-copy-in-Parts.ensures.err)

pub returns-in_err-put-in-Parts-clause-added : goal.returns-in_err-put-in-Parts-clause-added
returns-in_err-put-in-Parts-clause-added t c =
    let a = goal.at.returns-in_err-put-in-Parts-clause-added t c in
    added_on c.args.from.now c.args.id c.args.self.now c.import_square-in-Parts-3.new.self c.join.new.self c.import_square-in-Parts-3.ensures.grows.sound c.join.ensures.grows
    (four_added t a.After-import_square-in-Parts-3) (square_added t a.In_ok-copy-in-Parts)

pub returns-in_ok-put-in-Parts-clause-added : goal.returns-in_ok-put-in-Parts-clause-added
returns-in_ok-put-in-Parts-clause-added t c =
    let a = goal.at.returns-in_ok-put-in-Parts-clause-added t c in
    added_on c.args.from.now c.args.id c.args.self.now c.import_square-in-Parts-3.new.self c.join.new.self c.import_square-in-Parts-3.ensures.grows.sound c.join.ensures.grows
    (four_added t a.After-import_square-in-Parts-3) (square_added t a.In_ok-copy-in-Parts)

pub returns-in-Four-clause-remembered : goal.returns-in-Four-clause-remembered
returns-in-Four-clause-remembered t c =
    so_on_ok c.leaf.result (λ parted. absurd (four_unparted c.args.from.now c.args.id c.in-Four.nw c.in-Four.ne c.in-Four.sw c.in-Four.se c.in-Four.ensures.shows parted))

pub returns-in-Four-clause-again : goal.returns-in-Four-clause-again
returns-in-Four-clause-again t c = λ parted some. absurd (four_unparted c.args.from.now c.args.id c.in-Four.nw c.in-Four.ne c.in-Four.sw c.in-Four.se c.in-Four.ensures.shows parted)

pub returns-in-Four-clause-kept : goal.returns-in-Four-clause-kept
returns-in-Four-clause-kept t c = so_on_ok c.leaf.result (λ id some. some)

pub returns-in_ok-put-in-Parts-clause-remembered : goal.returns-in_ok-put-in-Parts-clause-remembered
returns-in_ok-put-in-Parts-clause-remembered t c = λ parted. put_known c.import_square-in-Parts-3.new.copies c.put.new.self c.args.id c.in_ok-copy-in-Parts.copy c.in_ok-put-in-Parts.ensures.ok

pub returns-in_ok-put-in-Parts-clause-kept : goal.returns-in_ok-put-in-Parts-clause-kept
returns-in_ok-put-in-Parts-clause-kept t c = λ id some.
    put_keeps c.import_square-in-Parts-3.new.copies c.put.new.self c.args.id c.in_ok-copy-in-Parts.copy c.in_ok-put-in-Parts.ensures.ok id
    (c.in_ok-se-in-Parts.ensures.kept id (c.in_ok-sw-in-Parts.ensures.kept id (c.in_ok-ne-in-Parts.ensures.kept id (c.in_ok-nw-in-Parts.ensures.kept id some))))

pub returns-in-Four-clause-closed : goal.returns-in-Four-clause-closed
returns-in-Four-clause-closed t c = so_on_ok c.leaf.result (λ closed. closed)

pub returns-in_ok-put-in-Parts-clause-closed : goal.returns-in_ok-put-in-Parts-clause-closed
returns-in_ok-put-in-Parts-clause-closed t c = λ closed.
    walk_closed c.args.from.now c.args.id c.in-Parts.field-0 c.in-Parts.nw c.in-Parts.ne c.in-Parts.sw c.in-Parts.se c.in-Parts.ensures.shows (λ part. IsParted (square_of c.args.from.now part))
    c.import_square.new.copies c.import_square-in-Parts.new.copies c.import_square-in-Parts-2.new.copies c.import_square-in-Parts-3.new.copies
    c.in_ok-nw-in-Parts.ensures.remembered c.in_ok-ne-in-Parts.ensures.remembered c.in_ok-sw-in-Parts.ensures.remembered c.in_ok-se-in-Parts.ensures.remembered
    c.in_ok-ne-in-Parts.ensures.kept c.in_ok-sw-in-Parts.ensures.kept c.in_ok-se-in-Parts.ensures.kept c.put.new.self c.in_ok-copy-in-Parts.copy c.in_ok-put-in-Parts.ensures.ok
    (c.in_ok-se-in-Parts.ensures.closed (c.in_ok-sw-in-Parts.ensures.closed (c.in_ok-ne-in-Parts.ensures.closed (c.in_ok-nw-in-Parts.ensures.closed closed))))
