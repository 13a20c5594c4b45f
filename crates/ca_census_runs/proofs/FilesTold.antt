-- What is told of files, one more after others.
use Rattle.std.proofs.Common.{◌≡◌, ℕ, ◌+◌, ◌<◌, zero, suc, arith, List, [], ◌∷◌, ◌++◌, length, map, take, drop, slice_get, Option, None, Some, add-one, subst, refl, sym, ap, ◌∙◌, append_assoc}
use Rattle.std.specs.List.{flat_map, filter_map, cons_option}
use Rattle.std.specs.Io.KnownBytes.{Appends}
use Rattle.std.proofs.Math.Seq.{take-suc, drop-cons}
use Rattle.std.proofs.lemmas.List.{append-nil, map-append}
use Rattle.std.proofs.lemmas.Option.{slice_get_within, get_or_from_slice_get}
use Rattle.std.proofs.lemmas.List.Concat.{flat_map-append}
use Rattle.ca_plane.specs.Prelude.{Counted, Rises, AppendsPrefix}
use Rattle.ca_plane.proofs.Sends.{sent_both}
use Rattle.ca_identify_lines.specs.declared.{entry.Subject.Subject, entry.Entry.Entry, known_rules.KnownRules.KnownRules}
use Rattle.ca_identify_lines.specs.Prelude.{WritesOn}
use Rattle.ca_census_files.specs.Prelude.{NamedBytes, named_bytes, AddsFiles}
use Rattle.ca_census_runs.specs.declared.{task.CensusTask.CensusTask, fault.CensusFault.CensusFault, file_lines.FileResults.FileResults}
use Rattle.ca_census_runs.specs.declared.fault.CensusFault.TheVariants.{GenTooLarge, Range, Taken, Unwritten, Write, Memory}
use Rattle.ca_census_runs.specs.Prelude.{FileTold, TellsFile, TellFiles, IsCensusText, WritesCensus, EndsBefore, EndsWithin, EndsAt, EndsCensus}
use Rattle.ca_census_runs.specs.inner.Tasks.{TellsNext}
use Rattle.ca_census_runs.proofs.AddedFiles.{adds_none, adds_both}

-- the names of files, their texts, the entries on those of which there is no census, and the files of the others' censuses
abbrev pub names_of : List FileTold → List (List ℕ)
names_of told = map (λ (file : FileTold). file.name) told

abbrev pub texts_of : List FileTold → List ℕ
texts_of told = flat_map (λ (file : FileTold). file.text) told

abbrev pub refused_of : List FileTold → List Entry
refused_of told = filter_map (λ (file : FileTold). file.refused) told

abbrev pub files_of : List FileTold → List NamedBytes
files_of told = flat_map (λ (file : FileTold). map named_bytes file.files) told

-- what is told of some first files: their names are taken, their texts were written, their entries kept and their censuses' files added
pub record HaveTold {F W : Type 0} (files : F → Option (List NamedBytes)) (contents : W → Option (List ℕ)) (before after : F) (old new : Counted W)
    (rules : KnownRules) (task : CensusTask) (subjects : List Subject) (names : List (List ℕ)) (refused : List Entry) : Type 0 where
  pub told : List FileTold
  pub tells : TellFiles rules task [] subjects told
  pub taken : names ≡ names_of told
  pub kept : refused ≡ refused_of told
  pub sent : Appends (contents old.inner) (contents new.inner) (texts_of told)
  pub unfailed : new.failures ≡ old.failures
  pub adds : AddsFiles (files before) (files after) (files_of told)

-- one file more is told of
told_more : (rules : KnownRules) (task : CensusTask) (taken : List (List ℕ)) (subjects : List Subject) (told : List FileTold) (subject : Subject) (file : FileTold)
    → TellFiles rules task taken subjects told → TellsFile rules task (taken ++ names_of told) subject file
    → TellFiles rules task taken (subjects ++ subject ∷ []) (told ++ file ∷ [])
told_more rules task taken [] [] subject file all one = (subst (λ names. TellsFile rules task names subject file) (append-nil taken) one, tt)
told_more rules task taken [] (t ∷ ts) subject file all one = absurd all
told_more rules task taken (s ∷ ss) [] subject file all one = absurd all
told_more rules task taken (s ∷ ss) (t ∷ ts) subject file all one = (
  all.0,
  told_more rules task (taken ++ t.name ∷ []) ss ts subject file all.1
      (subst (λ names. TellsFile rules task names subject file) (sym (append_assoc taken (t.name ∷ []) (names_of ts))) one),
)

-- the first elements and the next one
take-more : {X : Type 0} (xs : List X) (i : ℕ) (x : X) → slice_get xs i ≡ Some x → take (suc i) xs ≡ take i xs ++ x ∷ []
take-more xs i x e = take-suc xs i x (slice_get_within xs i x e) ∙ ap (λ y. take i xs ++ y ∷ []) (get_or_from_slice_get xs i x x e)

-- there is one at each place
pub some_at : {X : Type 0} (xs : List X) (i : ℕ) → i < length xs → (x : X) × (slice_get xs i ≡ Some x)
some_at [] i within = absurd (omega (arith, within))
some_at (x ∷ xs) zero within = (x, refl)
some_at (x ∷ xs) (suc i) within = some_at xs i (omega (arith, within))

-- and what is left from it on
drop-more : {X : Type 0} (xs : List X) (i : ℕ) (x : X) → slice_get xs i ≡ Some x → drop i xs ≡ x ∷ drop (suc i) xs
drop-more xs i x e = drop-cons xs i x (slice_get_within xs i x e) ∙ ap (λ y. y ∷ drop (suc i) xs) (get_or_from_slice_get xs i x x e)

texts_more : (told : List FileTold) (file : FileTold) → texts_of (told ++ file ∷ []) ≡ texts_of told ++ file.text
texts_more told file = flat_map-append (λ (f : FileTold). f.text) told (file ∷ []) ∙ ap (λ l. texts_of told ++ l) (append-nil file.text)

files_more : (told : List FileTold) (file : FileTold) → files_of (told ++ file ∷ []) ≡ files_of told ++ map named_bytes file.files
files_more told file = flat_map-append (λ (f : FileTold). map named_bytes f.files) told (file ∷ []) ∙ ap (λ l. files_of told ++ l) (append-nil (map named_bytes file.files))

cons_then : (entry : Option Entry) (es fs : List Entry) → cons_option entry (es ++ fs) ≡ cons_option entry es ++ fs
cons_then None es fs = refl
cons_then (Some e) es fs = refl

refused_more : (told : List FileTold) (file : FileTold) → refused_of (told ++ file ∷ []) ≡ refused_of told ++ cons_option file.refused []
refused_more [] file = refl
refused_more (t ∷ ts) file = ap (cons_option t.refused) (refused_more ts file) ∙ cons_then t.refused (refused_of ts) (cons_option file.refused [])

module _ {F W : Type 0} (files : F → Option (List NamedBytes)) (contents : W → Option (List ℕ)) (before amid after : F) (old mid new : Counted W) (rules : KnownRules)
    (task : CensusTask) (subjects : List Subject) (i : ℕ) (subject : Subject) (names later : List (List ℕ)) (refused : List Entry) (text : List ℕ) (results : FileResults) where
  -- what is told of the first files and of the next one
  abbrev file_next : HaveTold files contents before amid old mid rules task (take i subjects) names refused → TellsNext rules task subject names later text results → FileTold
  file_next have next = record { name = next.name; text = text; refused = results.refused; files = results.files.items }

  tells_next : (have : HaveTold files contents before amid old mid rules task (take i subjects) names refused) (next : TellsNext rules task subject names later text results)
      → slice_get subjects i ≡ Some subject → TellFiles rules task [] (take (suc i) subjects) (have.told ++ file_next have next ∷ [])
  tells_next have next at =
      subst (λ l. TellFiles rules task [] l (have.told ++ file_next have next ∷ [])) (sym (take-more subjects i subject at))
      (told_more rules task [] (take i subjects) have.told subject (file_next have next) have.tells
      (subst (λ l. TellsFile rules task l subject (file_next have next)) have.taken next.tells))

  -- the files of the first ones' censuses and of its census were added
  adds_next : (have : HaveTold files contents before amid old mid rules task (take i subjects) names refused) (next : TellsNext rules task subject names later text results)
      → AddsFiles (files amid) (files after) (map named_bytes results.files.items) → AddsFiles (files before) (files after) (files_of (have.told ++ file_next have next ∷ []))
  adds_next have next adds =
      subst (AddsFiles (files before) (files after)) (sym (files_more have.told (file_next have next)))
      (adds_both (files before) (files amid) (files after) (files_of have.told) (map named_bytes results.files.items) have.adds adds)

  -- and its text was written too
  pub have_next : (kept : List Entry) → HaveTold files contents before amid old mid rules task (take i subjects) names refused → TellsNext rules task subject names later text results
      → slice_get subjects i ≡ Some subject → kept ≡ refused ++ cons_option results.refused [] → AddsFiles (files amid) (files after) (map named_bytes results.files.items)
      → Appends (contents mid.inner) (contents new.inner) text → new.failures ≡ mid.failures
      → HaveTold files contents before after old new rules task (take (i + 1) subjects) later kept
  have_next kept have next at keeps adds sent unfailed =
      let file = file_next have next in
      record {
        told = have.told ++ file ∷ [];
        tells = subst (λ n. TellFiles rules task [] (take n subjects) (have.told ++ file ∷ [])) (sym (add-one i)) (tells_next have next at);
        taken = next.taken ∙ ap (λ l. l ++ next.name ∷ []) have.taken ∙ sym (map-append (λ (f : FileTold). f.name) have.told (file ∷ []));
        kept = keeps ∙ ap (λ l. l ++ cons_option results.refused []) have.kept ∙ sym (refused_more have.told file);
        sent =
            subst (Appends (contents old.inner) (contents new.inner)) (sym (texts_more have.told file))
            (sent_both (contents old.inner) (contents mid.inner) (contents new.inner) (texts_of have.told) text have.sent sent);
        unfailed = unfailed ∙ have.unfailed;
        adds = adds_next have next adds;
      }

  -- or only a part of it
  pub part_next : HaveTold files contents before amid old mid rules task (take i subjects) names refused → TellsNext rules task subject names later text results
      → slice_get subjects i ≡ Some subject → AddsFiles (files amid) (files after) (map named_bytes results.files.items)
      → AppendsPrefix (contents mid.inner) (contents new.inner) text → Rises mid.failures new.failures
      → EndsWithin files contents before after old new rules task subjects
  part_next have next at adds (sent, unsent, split, some, appends) counted =
      let file = file_next have next in
      record {
        count = i;
        fewer = slice_get_within subjects i subject at;
        front = texts_of have.told;
        earlier = record { refused = refused_of have.told; files = files_of have.told };
        front_is = record { told = have.told; tells = have.tells; lines = refl; entries = refl; files_are = refl };
        lines = text;
        told = record { refused = refused_of (have.told ++ file ∷ []); files = files_of (have.told ++ file ∷ []) };
        all = record { told = have.told ++ file ∷ []; tells = tells_next have next at; lines = sym (texts_more have.told file); entries = refl; files_are = refl };
        sent = sent;
        unsent = unsent;
        parts = split;
        some = some;
        written = sent_both (contents old.inner) (contents mid.inner) (contents new.inner) (texts_of have.told) sent have.sent appends;
        counted = subst (λ n. Rises n new.failures) have.unfailed counted;
        adds = adds_next have next adds;
      }

module _ {F W : Type 0} (files : F → Option (List NamedBytes)) (contents : W → Option (List ℕ)) (before after : F) (old new : Counted W) (rules : KnownRules) (task : CensusTask) where
  -- no file is told of yet
  pub none_told : (names : List (List ℕ)) (refused : List Entry) → names ≡ [] → refused ≡ [] → Appends (contents old.inner) (contents old.inner) []
      → HaveTold files contents before before old old rules task [] names refused
  none_told names refused none empty sent = record { told = []; tells = tt; taken = none; kept = empty; sent = sent; unfailed = refl; adds = adds_none (files before) }

  -- the text on the files so far was written
  told_writes : (subjects : List Subject) (names : List (List ℕ)) (refused : List Entry) (have : HaveTold files contents before after old new rules task subjects names refused)
      → WritesOn contents old new (IsCensusText rules task) subjects (record { refused = refused; files = files_of have.told })
  told_writes subjects names refused have = record {
    text = texts_of have.told;
    is = record { told = have.told; tells = have.tells; lines = refl; entries = have.kept; files_are = refl };
    written = have.sent;
    kept = have.unfailed;
  }

  -- a folder that has the same files will do
  pub told_still : (then : F) (subjects : List Subject) (names : List (List ℕ)) (refused : List Entry) → files then ≡ files after
      → HaveTold files contents before after old new rules task subjects names refused → HaveTold files contents before then old new rules task subjects names refused
  told_still then subjects names refused same have = record {
    told = have.told;
    tells = have.tells;
    taken = have.taken;
    kept = have.kept;
    sent = have.sent;
    unfailed = have.unfailed;
    adds = subst (λ l. AddsFiles (files before) l (files_of have.told)) (sym same) have.adds;
  }

  -- and the files of their censuses were added
  pub writes_all : (subjects : List Subject) (names : List (List ℕ)) (refused : List Entry) → HaveTold files contents before after old new rules task subjects names refused
      → WritesCensus files contents before after old new rules task subjects refused
  writes_all subjects names refused have = (files_of have.told, told_writes subjects names refused have, have.adds)

  -- so where a fault holds at the next one, they are what is written and added
  ends_before : (subjects : List Subject) (i : ℕ) (subject : Subject) (names : List (List ℕ)) (refused : List Entry) (fault : CensusFault)
      → HaveTold files contents before after old new rules task (take i subjects) names refused → slice_get subjects i ≡ Some subject
      → EndsAt rules task fault i subject → EndsBefore files contents before after old new rules task subjects (EndsAt rules task fault)
  ends_before subjects i subject names refused fault have at holds = record {
    writes = record {
      count = i;
      fewer = slice_get_within subjects i subject at;
      told = record { refused = refused; files = files_of have.told };
      writes = told_writes (take i subjects) names refused have;
    };
    adds = have.adds;
    next = subject;
    later = drop (suc i) subjects;
    stops = drop-more subjects i subject at;
    holds = holds;
  }

  -- and the run ends so
  pub ends_at : (subjects : List Subject) (i : ℕ) (subject : Subject) (names : List (List ℕ)) (refused : List Entry) (fault : CensusFault)
      → HaveTold files contents before after old new rules task (take i subjects) names refused → slice_get subjects i ≡ Some subject
      → EndsAt rules task fault i subject → EndsCensus files contents before after old new rules task subjects fault
  ends_at subjects i subject names refused (GenTooLarge n) have at holds = ends_before subjects i subject names refused (GenTooLarge n) have at holds
  ends_at subjects i subject names refused (Range n) have at holds = ends_before subjects i subject names refused (Range n) have at holds
  ends_at subjects i subject names refused Taken have at holds = ends_before subjects i subject names refused Taken have at holds
  ends_at subjects i subject names refused Unwritten have at holds = ends_before subjects i subject names refused Unwritten have at holds
  ends_at subjects i subject names refused Memory have at holds = ends_before subjects i subject names refused Memory have at holds
  ends_at subjects i subject names refused Write have at holds = absurd holds
