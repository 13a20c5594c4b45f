use Rattle.std.proofs.Common.{refl, sym}
use Rattle.ca_macro.specs.Prelude.{picture_of_nodes}
use Rattle.ca_pattern.specs.declared.format.Format.TheVariants.{Mc}
use Rattle.ca_pattern.specs.Prelude.{MeansAs, IsReadableAs}
use Rattle.ca_pattern.proofs.FilesRead.{in_format, shown_in_range}
use Rattle.ca_pattern.proofs.format.load_macro.Goals as goal

pub returns-in-Ok-clause-read : goal.returns-in-Ok-clause-read
returns-in-Ok-clause-read c =
    let found = c.in-Ok.ensures.found in
    let file = found.0 in
    let cells = picture_of_nodes file.nodes in
    record {
      cells = cells;
      loaded = record {
        kind = sym c.requires;
        tree = found.3.tree;
        trimmed = found.3.trimmed;
        shows = found.3.cells;
        holds = record {
          readable = in_format (λ t. IsReadableAs t c.args.bytes.now) c.args.bytes.now Mc c.requires (file, found.1, found.2);
          means =
              in_format (λ t. MeansAs t c.args.bytes.now cells c.in-Ok.pattern.rule_text.items c.in-Ok.pattern.generation) c.args.bytes.now Mc c.requires
              (file, found.1, refl, found.3.rule_text, found.3.generation);
        };
      };
      range = shown_in_range _ cells found.3.cells found.2;
      generation = found.3.low_generation;
      word = found.3.is_word;
    }
