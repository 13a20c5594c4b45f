use Rattle.std.proofs.Common.{length, sym, subst}
use Rattle.ca_quad.specs.Prelude.{IsStorable, Grows, AddsOnly}
use Rattle.ca_quad.proofs.Growth.{put_grows, put_adds, kept_shows}
use Rattle.ca_quad.proofs.store.Store.put.Goals as goal

grown : (c : goal.After-at_place) → Grows c.self.inside.nodes.keys c.insert_full.new.self.keys
grown c =
    rw c.in_ok-place.ensures.keys
    (put_grows c.self.inside.nodes.keys c.args.node c.self.invariant (subst (λ ns. IsStorable ns (length ns) c.args.node) (sym c.self.view_is) c.requires))

pub invariant_of-self-2 : goal.invariant_of-self-2
invariant_of-self-2 c = (grown c).sound

pub returns-clause-grows : goal.returns-clause-grows
returns-clause-grows c = subst (λ ns. Grows ns c.insert_full.new.self.keys) c.self.view_is (grown c)

pub returns-clause-shows : goal.returns-clause-shows
returns-clause-shows c =
    let found = c.in_ok-place.ensures.stored in
    rw c.at_place.ensures (kept_shows c.insert_full.new.self.keys c.in_ok-place.place found.0 c.args.node found.1 found.2)

pub returns-clause-added : goal.returns-clause-added
returns-clause-added c =
    let found = c.in_ok-place.ensures.stored in
    let keys = c.self.inside.nodes.keys in
    let good = subst (λ ns. IsStorable ns (length ns) c.args.node) (sym c.self.view_is) c.requires in
    let is = c.in_ok-place.ensures.keys in
    subst (λ ns. AddsOnly ns c.insert_full.new.self.keys c.at_place.result) c.self.view_is
    (rw (c.at_place.ensures, is)
    (put_adds keys c.args.node found.0 c.in_ok-place.place c.self.invariant good (rw is at found.1) found.2))
