-- A census tells when the plane of a file settles, and into how many objects.
use Rattle.std.proofs.Common.{◌≡◌, ℕ, ◌+◌, List, Bool, Option, Some, IfSome, vec_len, subst, sym, ◌∙◌}
use Rattle.std.specs.List.{flat_map}
use Rattle.std.proofs.lemmas.Slice.Zip.{AllZip-long}
use Rattle.ca_plane.specs.Prelude.{Picture, cell, cells_after}
use Rattle.ca_parts.specs.Prelude.{IsFirstSettled}
use Rattle.ca_clusters.specs.Prelude.{AreClusters}
use Rattle.ca_rule.specs.Prelude.{TableRule}
use Rattle.ca_answers.specs.declared.identity.{Identity.Identity, Growth.Growth}
use Rattle.ca_answers.specs.declared.identity.Identity.TheVariants.{Unknown}
use Rattle.ca_census.specs.declared.{reach.Reach.Reach, settling.Settling.Settling, census.Census.Census, file.FileCensus.FileCensus}
use Rattle.ca_census.specs.Settlings.{IsSettling}
use Rattle.ca_census.specs.Censuses.{IsCensusOf, IsEntryOf}
use Rattle.ca_census.specs.Files.{IsCensusAt}
use Rattle.ca_identify_lines.specs.declared.entry.Settles.{Settles}
use Rattle.ca_identify_lines.specs.Prelude.{SettlesInto, IsSettlesOf}

-- what is told of a census that has so many objects
abbrev pub settles_of : Census → (objects : ℕ) → Settles
settles_of census objects = record { generations = census.generations; objects = objects }

settles_into : (next : List ℕ → ℕ) (coded : Bool) (cells : Picture) (reach : Reach) (settling : Settling) (census : Census) (objects : ℕ) → objects ≡ vec_len census.objects
    → IsSettling next cells reach settling → IsCensusOf next coded settling census → SettlesInto next cells reach.start (settles_of census objects)
settles_into next coded cells reach settling census objects count settles is =
    let generations = sym is.generations in
    record {
      first = subst (IsFirstSettled next (cells_after next (cell cells) reach.start)) generations settles.first;
      clusters = settling.clusters.items;
      are_clusters = subst (λ n. AreClusters next (cells_after next (cell cells) (reach.start + n)) settling.clusters.items) generations settles.settled.clusters;
      objects = is.objects;
      each = is.each;
      count = count ∙ census.objects.ok.0 ∙ AllZip-long (IsEntryOf next coded) (flat_map (λ of. of) is.objects) census.objects.items is.entries;
    }

-- it is true of the file of the census, where none of the kinds is found
pub census_settles : (bytes : List ℕ) (tables : List TableRule) (identity : Identity) (growth : Growth) (reach : Reach) (answer : Option FileCensus) (found : FileCensus) (objects : ℕ)
    → identity ≡ Unknown growth → answer ≡ Some found → objects ≡ vec_len found.census.objects → IfSome answer (IsCensusAt bytes tables reach)
    → IsSettlesOf bytes tables reach.start identity (Some (settles_of found.census objects))
census_settles bytes tables identity growth reach answer found objects unknown answers count is =
    let (cells, rule, generation, holds, under, origin) = subst (λ a. IfSome a (IsCensusAt bytes tables reach)) answers is in
    subst (λ i. IsSettlesOf bytes tables reach.start i (Some (settles_of found.census objects))) (sym unknown)
    (cells, rule, (generation, holds), settles_into _ under.coded cells reach under.settling found.census objects count under.settles under.is_census)
