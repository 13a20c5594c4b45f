use Rattle.std.proofs.Common.{ℕ, List, subst, arith}
use Rattle.std.specs.Prelude.{ℤ, IfOk, IfSome}
use Rattle.ca_quad.specs.Prelude.{cell}
use Rattle.ca_quad.proofs.Measures.{boxes_stay}
use Rattle.ca_run.specs.Prelude.{LeaperGrows}
use Rattle.ca_run.proofs.LeaperGrowth.{goes_on_same, goes_on_again}
use Rattle.ca_answers.specs.Prelude.{IsIdentity}
use Rattle.ca_identify.specs.inner.Stages.{AreEarly, IsStride, HasNoReturn}
use Rattle.ca_identify.proofs.Identities.{picture_nowhere}
use Rattle.ca_identify.proofs.LaterLeapers.{as_before, as_then, pictures_before, search_stays, walks_on}
use Rattle.ca_identify.proofs.Stages.{walk_stays}
use Rattle.ca_identify.proofs.Strides.{early_stays}
use Rattle.ca_identify.proofs.identification.strides.stride_on.Goals as goal
use Rattle.ca_identify.proofs.identification.strides.stride_on.Goals.{In_ok-tree}

pub strides-init : goal.strides-init
strides-init g c = record {
  goes_on = goes_on_same _ c.args.leaper.now c.requires.walk.pattern.sound;
  walk = c.requires.walk.is_walk;
  early = c.requires.early;
  boxes = c.new-boxes.ensures _;
  begun = omega arith;
  within = c.requires.walk.within;
  bounded = omega arith;
}

pub stride_to-requires-clause-early : goal.stride_to-requires-clause-early
stride_to-requires-clause-early g c =
    let inv = c.strides.invariant in
    as_then g.A.Automaton.next_of inv.goes_on c.requires.walk.pattern (λ n p. AreEarly n p c.strides.leaper.nodes c.args.early.now) inv.early

pub stride_to-requires-clause-walk : goal.stride_to-requires-clause-walk
stride_to-requires-clause-walk g c =
    let inv = c.strides.invariant in
    walks_on g.A.Automaton.next_of inv.goes_on c.requires.walk.pattern c.strides.walk c.min-end.result (omega (arith, c.min-end.ensures)) (omega (arith, c.min-end.ensures, c.strides-test.true)) inv.walk

pub returns-in_err-tree-clause-walk : goal.returns-in_err-tree-clause-walk
returns-in_err-tree-clause-walk g c = walk_stays c.strides.invariant.goes_on.grows.sound c.stride_to.ensures.goes_on.grows c.strides.invariant.walk

pub returns-in_err-tree-clause-goes_on : goal.returns-in_err-tree-clause-goes_on
returns-in_err-tree-clause-goes_on g c = goes_on_again _ _ _ _ c.strides.invariant.goes_on c.stride_to.ensures.goes_on

-- what a stride showed, of the first cells as they were
module _ (g : _) (c : In_ok-tree g) where
  abbrev next : List ℕ → ℕ
  next = g.A.Automaton.next_of c.args.leaper.now.rule

  abbrev first : ℤ → ℤ → ℕ
  first = cell c.args.leaper.now.nodes c.args.first.now.tree

  on_stride : LeaperGrows _ c.args.leaper.now c.stride_to.new.leaper
  on_stride = goes_on_again _ _ _ _ c.strides.invariant.goes_on c.in_ok-tree.ensures.goes_on

  told : IsStride next first c.min-end.result c.stride_to.new.leaper.nodes c.in_ok-tree.field-0
  told =
      as_before g.A.Automaton.next_of c.strides.invariant.goes_on c.requires.walk.pattern (λ n p. IsStride n p c.min-end.result c.stride_to.new.leaper.nodes c.in_ok-tree.field-0)
      c.in_ok-tree.ensures.stride

pub strides-preserved : goal.strides-preserved
strides-preserved g c =
    let a = (goal.at.strides-preserved g c).In_ok-tree in
    let inv = c.strides.invariant in
    let s = c.strides.leaper.nodes in
    let s2 = c.stride_to.new.leaper.nodes in
    let shown = subst (IsStride (next g a) (first g a) c.min-end.result s2) c.in-On.is (told g a) in
    record {
      goes_on = on_stride g a;
      walk = record { now = shown.0; others = shown.1; boxes = boxes_stay s s2 inv.goes_on.grows.sound c.in_ok-tree.ensures.goes_on.grows _ inv.walk.boxes };
      early = early_stays (next g a) (first g a) s s2 inv.goes_on.grows.sound c.in_ok-tree.ensures.goes_on.grows c.args.early.now inv.early;
      boxes = c.in_ok-tree.ensures.boxes;
      begun = let begun = inv.begun in omega (arith, begun, c.min-end.ensures, c.strides-test.true);
      within = omega (arith, c.min-end.ensures);
      bounded = let bounded = inv.bounded in omega (arith, bounded, c.in_ok-tree.ensures.bounded);
    }

-- ---- where the pattern ends

pub returns-in-End-clause-identity : goal.returns-in-End-clause-identity
returns-in-End-clause-identity g c = λ cells shows.
    let a = (goal.at.returns-in-End-clause-identity g c).In_ok-tree in
    let (within, ends) = subst (IsStride (next g a) (first g a) c.min-end.result c.stride_to.new.leaper.nodes) c.in-End.is (told g a) in
    c.identity_of.ensures (next g a) cells c.args.reach.limit (omega (arith, within, c.min-end.ensures)) c.requires.walk.pattern.most (ends cells shows)

pub returns-in-End-clause-walk : goal.returns-in-End-clause-walk
returns-in-End-clause-walk g c = walk_stays c.strides.invariant.goes_on.grows.sound c.in_ok-tree.ensures.goes_on.grows c.strides.invariant.walk

pub returns-in-End-clause-goes_on : goal.returns-in-End-clause-goes_on
returns-in-End-clause-goes_on g c = on_stride g (goal.at.returns-in-End-clause-goes_on g c).In_ok-tree

-- ---- where it never is

pub unknown_after-requires : goal.unknown_after-requires
unknown_after-requires g c =
    record { first = search_stays g.A.Automaton.next_of (on_stride g (goal.at.unknown_after-requires g c).In_ok-tree) c.requires.walk.pattern c.args.reach.limit (omega arith) }

pub returns-in-Never-clause-identity : goal.returns-in-Never-clause-identity
returns-in-Never-clause-identity g c = λ cells shows.
    let a = (goal.at.returns-in-Never-clause-identity g c).In_ok-tree in
    let never = subst (IsStride (next g a) (first g a) c.min-end.result c.stride_to.new.leaper.nodes) c.in-Never.is (told g a) in
    pictures_before g.A.Automaton.next_of (on_stride g a) c.requires.walk.pattern (λ n p. HasNoReturn n p c.args.reach.limit → IfOk c.unknown_after.result (λ found. IfSome found (IsIdentity n p c.args.reach.limit)))
    c.unknown_after.ensures.identity cells shows (λ m some within. picture_nowhere (next g a) (first g a) cells shows m (never m some))

pub returns-in-Never-clause-walk : goal.returns-in-Never-clause-walk
returns-in-Never-clause-walk g c =
    let on = goes_on_again _ _ _ _ c.in_ok-tree.ensures.goes_on c.unknown_after.ensures.goes_on in
    walk_stays c.strides.invariant.goes_on.grows.sound on.grows c.strides.invariant.walk

pub returns-in-Never-clause-goes_on : goal.returns-in-Never-clause-goes_on
returns-in-Never-clause-goes_on g c =
    let a = (goal.at.returns-in-Never-clause-goes_on g c).In_ok-tree in
    goes_on_again _ _ _ _ (on_stride g a) c.unknown_after.ensures.goes_on

-- ---- where it is dead

pub returns-in-Dead-clause-walk : goal.returns-in-Dead-clause-walk
returns-in-Dead-clause-walk g c = walk_stays c.strides.invariant.goes_on.grows.sound c.in_ok-tree.ensures.goes_on.grows c.strides.invariant.walk

pub returns-in-Dead-clause-goes_on : goal.returns-in-Dead-clause-goes_on
returns-in-Dead-clause-goes_on g c = on_stride g (goal.at.returns-in-Dead-clause-goes_on g c).In_ok-tree
