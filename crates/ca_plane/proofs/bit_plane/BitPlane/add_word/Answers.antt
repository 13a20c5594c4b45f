use Rattle.std.proofs.Common.{◌<◌, length, slice_index_or, ap, sym, ◌∙◌, subst, max}
use Rattle.ca_plane.specs.Prelude.{word_state}
use Rattle.ca_plane.specs.inner.BitRuns.{HaveSameCells}
use Rattle.ca_plane.proofs.BitPlanes.{AddsWord-at_end, AddsWord-over, joined-word}
use Rattle.ca_plane.proofs.bit_plane.BitPlane.add_word.Goals as goal

pub returns-in_default-clause-ok : goal.returns-in_default-clause-ok
returns-in_default-clause-ok c = rw (c.in_ok-push.ensures.items, sym c.self.view_is) (AddsWord-at_end c.self.inside.words.items c.args.word)

pub returns-clause-ok : goal.returns-clause-ok
returns-clause-ok c =
    let words = c.self.inside.words.items in
    let last = c.index_mut.result.now in
    let there = c.in-Some.ensures in
    let below : c.in-Some.place < length words = subst (λ l. c.in-Some.place < length l) (sym c.self.view_is) there.below in
    let same : HaveSameCells last c.args.word = subst (λ l. HaveSameCells l c.args.word) (sym c.index_mut.ensures.value) (subst (λ l. HaveSameCells (slice_index_or l c.in-Some.place last) c.args.word) (sym c.self.view_is) (there.same last)) in
    rw (sym c.self.view_is) (AddsWord-over words c.in-Some.place c.args.word _ last below (λ column row. joined-word last c.args.word same column row ∙ ap (λ l. max (word_state c.args.word column row) (word_state l column row)) c.index_mut.ensures.value))
