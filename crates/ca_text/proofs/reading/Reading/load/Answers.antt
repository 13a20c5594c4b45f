use Rattle.std.proofs.Common.{map, refl, sym}
use Rattle.ca_text.specs.Prelude.{Load}
use Rattle.ca_text.specs.inner.Reading.{place_of}
use Rattle.ca_text.proofs.NextLines.{none_from, on_ok_holds, not_loaded}
use Rattle.ca_text.proofs.reading.Reading.load.Goals as goal

pub keep-requires : goal.keep-requires
keep-requires c = none_from (place_of c.args.self.now.places c.args.name.now) (sym c.if-is_loaded.ensures)

pub returns-clause-loaded : goal.returns-clause-loaded
returns-clause-loaded c = λ said read.
    let old = c.args.self.now in
    let new = none_from (place_of old.places c.args.name.now) (sym c.if-is_loaded.ensures) in (
      not_loaded said (map (λ n. n.items) old.names.items) old.paths old.rules.items old.claims.items (place_of old.places) read.0 c.args.name.now new,
      on_ok_holds c.keep.result _ c.if-is_err.ensures.negation c.keep.ensures said read,
    )

-- out of memory at a name that isn't loaded yet
pub returns-then-is_err-clause-fault : goal.returns-then-is_err-clause-fault
returns-then-is_err-clause-fault c = λ said read.
    let old = c.args.self.now in
    let new = not_loaded said (map (λ n. n.items) old.names.items) old.paths old.rules.items old.claims.items (place_of old.places) read.0 c.args.name.now (none_from (place_of old.places c.args.name.now) (sym c.if-is_loaded.ensures)) in
    (refl, Load c.args.name.now c.args.path.now, refl, new, λ e. cc)
