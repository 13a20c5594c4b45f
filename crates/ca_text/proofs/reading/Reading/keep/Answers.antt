use Rattle.std.proofs.Common.{◌≡◌, ℕ, List, [], refl, ◌∷◌, ◌++◌, map, length, Some, slice_get, sym, ap, subst, ◌∙◌}
use Rattle.std.specs.Map.{update}
use Rattle.std.specs.Str.{bytes_eq}
use Rattle.std.proofs.lemmas.List.{map-append, length-map}
use Rattle.std.proofs.lemmas.Map.Text.{hash_map_updates_str}
use Rattle.ca_text.specs.Prelude.{Load, said_lines}
use Rattle.ca_text.specs.inner.Reading.{KeepsClaimLines, place_of}
use Rattle.ca_text.proofs.NextLines.{read_load, version_after}
use Rattle.ca_text.proofs.reading.Reading.keep.Goals as goal

pub returns : goal.returns
returns c = λ said read.
    let name : List ℕ = c.args.name.now in
    let path : List ℕ = c.args.path.now in
    let old = c.args.self.now in
    let after = place_of c.insert.new.self in
    let names : List (List ℕ) = map (λ n. n.items) old.names.items in
    let there = ap (λ l. slice_get l c.in_ok-put.field-0) (sym c.in_ok-put.ensures.words) ∙ c.in_ok-put.ensures.index in
    let more : map (λ n. n.items) c.push.new.self.items ≡ names ++ name ∷ [] =
    ap (map (λ n. n.items)) c.in_ok-push.ensures.items ∙ map-append (λ n. n.items) old.names.items (c.in_ok-kept.kept ∷ []) ∙ ap (λ n. names ++ n ∷ []) c.in_ok-kept.ensures.items in
    let last : c.len.result ≡ length names = c.len.ensures ∙ old.names.ok.0 ∙ sym (length-map old.names.items (λ n. n.items)) in
    let updated = hash_map_updates_str name old.places c.insert.new.self _ c.in_ok-insert.ensures.updates in
    let loaded = read_load said names old.paths old.rules.items old.claims.items (place_of old.places) read.0 name path c.in_ok-put.field-0 c.requires there after
    (λ q. updated q ∙ ap (λ k. update bytes_eq (place_of old.places) name (Some (record { name = k; path = c.in_ok-put.field-0 })) q) last) in (
      subst (λ l. KeepsClaimLines (said ++ Some (Load name path) ∷ []) l c.put.new.self old.rules.items old.claims.items after) (sym more)
          (subst (λ l. KeepsClaimLines (said ++ Some (Load name path) ∷ []) (names ++ name ∷ []) l old.rules.items old.claims.items after) (sym c.in_ok-put.ensures.words) loaded),
      version_after said (Load name path) c.after_line-self.result (c.after_line-self.ensures (said_lines said) (Load name path) read.1 refl),
    )
