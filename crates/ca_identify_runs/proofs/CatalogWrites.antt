-- The head of a claim text, and then the lines on files.
use Rattle.std.proofs.Common.{◌≡◌, ℕ, List, [], ◌++◌, Option, inl, ap, sym, ◌∙◌, subst}
use Rattle.std.specs.Io.KnownBytes.{Appends}
use Rattle.std.proofs.lemmas.List.{append-nil}
use Rattle.ca_plane.specs.Prelude.{Counted, Rises, AppendsPrefix}
use Rattle.ca_plane.proofs.Sends.{sent_both, prefix_of_second}
use Rattle.ca_identify_lines.specs.declared.{known_rules.KnownRules.KnownRules, entry.Entry.Entry, entry.Subject.Subject, task.Task.Task}
use Rattle.ca_report.specs.declared.fault.ToolFault.{ToolFault}
use Rattle.ca_report.specs.declared.fault.ToolFault.TheVariants as tools
use Rattle.ca_identify_runs.specs.declared.identification_run.Search.{Search}
use Rattle.ca_identify_lines.specs.Prelude.{catalog_head, AreEntries, IsCatalog, WritesCatalog, EndsCatalog, WritesOn, WritesPartOn}
use Rattle.ca_identify_runs.specs.inner.Searches.{AreLines, EndsLines}

-- they are a claim text
catalog_of : (rules : KnownRules) (search : Search) (subjects : List Subject) (text : List ℕ) (entries : List Entry) → search.tables.now ≡ rules.tables.now
    → AreLines search subjects text entries → IsCatalog rules search.task subjects (catalog_head rules.paths.now ++ text) entries
catalog_of rules search subjects text entries known are =
    record { holds = subst (λ tables. AreEntries tables search.task [] subjects entries) known are.holds; lines = ap (λ l. catalog_head rules.paths.now ++ l) are.lines }

-- the head was written, and then the lines were
pub writes_catalog : {W : Type 0} (contents : W → Option (List ℕ)) (old mid new : Counted W) (rules : KnownRules) (search : Search) (subjects : List Subject) (entries : List Entry)
    → search.tables.now ≡ rules.tables.now → Appends (contents old.inner) (contents mid.inner) (catalog_head rules.paths.now) → mid.failures ≡ old.failures
    → WritesOn contents mid new (AreLines search) subjects entries → WritesCatalog contents old new rules search.task subjects entries
writes_catalog contents old mid new rules search subjects entries known sent kept writes = record {
  text = catalog_head rules.paths.now ++ writes.text;
  is = catalog_of rules search subjects writes.text entries known writes.is;
  written = sent_both (contents old.inner) (contents mid.inner) (contents new.inner) (catalog_head rules.paths.now) writes.text sent writes.written;
  kept = writes.kept ∙ kept;
}

-- or not all of them
pub ends_catalog : {W : Type 0} (contents : W → Option (List ℕ)) (old mid new : Counted W) (rules : KnownRules) (search : Search) (subjects : List Subject) (fault : ToolFault)
    → search.tables.now ≡ rules.tables.now → Appends (contents old.inner) (contents mid.inner) (catalog_head rules.paths.now) → mid.failures ≡ old.failures
    → EndsLines contents mid new search subjects fault → EndsCatalog contents old new rules search.task subjects fault
ends_catalog contents old mid new rules search subjects tools.Write known sent kept ends = record {
  count = ends.count;
  told = ends.told;
  text = catalog_head rules.paths.now ++ ends.text;
  is = catalog_of rules search _ ends.text ends.told known ends.is;
  front = prefix_of_second (contents old.inner) (contents mid.inner) (contents new.inner) (catalog_head rules.paths.now) ends.text sent ends.front;
  counted = subst (λ n. Rises n new.failures) kept ends.counted;
}
ends_catalog contents old mid new rules search subjects tools.Memory known sent kept ends = inl (record {
  count = ends.count;
  fewer = ends.fewer;
  told = ends.told;
  writes = writes_catalog contents old mid new rules search _ ends.told known sent kept ends.writes;
})
ends_catalog contents old mid new rules search subjects (tools.Input fault) known sent kept ends = absurd ends
ends_catalog contents old mid new rules search subjects (tools.BadTable fault) known sent kept ends = absurd ends
ends_catalog contents old mid new rules search subjects (tools.Convert fault) known sent kept ends = absurd ends
ends_catalog contents old mid new rules search subjects tools.GenTooLarge known sent kept ends = absurd ends
ends_catalog contents old mid new rules search subjects tools.Work known sent kept ends = absurd ends
ends_catalog contents old mid new rules search subjects tools.Range known sent kept ends = absurd ends
ends_catalog contents old mid new rules search subjects (tools.Window fault) known sent kept ends = absurd ends

-- the head alone is the text on no file
pub head_in_part : {W : Type 0} (contents : W → Option (List ℕ)) (old new : Counted W) (rules : KnownRules) (task : Task) (subjects : List Subject)
    → AppendsPrefix (contents old.inner) (contents new.inner) (catalog_head rules.paths.now) → Rises old.failures new.failures
    → WritesPartOn contents old new (IsCatalog rules task) subjects
head_in_part contents old new rules task subjects front counted = record {
  count = 0;
  told = [];
  text = catalog_head rules.paths.now;
  is = record { holds = tt; lines = sym (append-nil (catalog_head rules.paths.now)) };
  front = front;
  counted = counted;
}
